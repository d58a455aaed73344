-- What is kept of the inodes of groups, one group after the other.
use Rattle.std.proofs.Common.{◌≡◌, ℕ, ◌+◌, ◌-◌, ◌≤◌, true, List, [], ◌∷◌, ◌++◌, length, Option, Some, None, refl, sym, ◌∙◌, ap, subst, append_assoc, length-append, arith}
use Rattle.std.proofs.lemmas.Bool.{false≢true}
use Rattle.std.proofs.lemmas.List.{append-nil}
use Rattle.blk_device.specs.Contents.{Contents}
use Rattle.blk_device.specs.declared.device.Region.TheVariants as regions
use Rattle.fs_state.specs.Chunks.{chunks}
use Rattle.fs_state.specs.Contradiction.{evidence}
use Rattle.fs_state.specs.Faults.{faults}
use Rattle.fs_model.specs.declared.claim.Evidence.{Evidence}
use Rattle.fs_model.specs.declared.fault.Fault.{Fault}
use Rattle.fs_model.specs.declared.unit.Unit.TheVariants as units
use Rattle.fs_state.specs.Kinds.{Image}
use Rattle.geom.specs.Layout.{Layout}
use Rattle.inode_pass.specs.Notes.{notes_of}
use Rattle.inode_pass.specs.Units.{opened_state}
use Rattle.inode_pass.specs.declared.note.GroupInodes.{GroupInodes}
use Rattle.quiet_check.specs.Kept.{IsInside, IsKeptOf, kept_unless}
use Rattle.check_phases.specs.Entries.{passes_by, passes_judged}
use Rattle.check_phases.specs.InodesKept.{EachFrom, PutsInodes}

each_both : (Holds : ℕ → GroupInodes → Type 0) (g h : ℕ) (xs ys : List GroupInodes) → g + length xs ≡ h → EachFrom Holds g xs → EachFrom Holds h ys → EachFrom Holds g (xs ++ ys)
each_both Holds g h [] ys here a b = let e : h ≡ g = omega (arith, here) in subst (λ (k : ℕ). EachFrom Holds k ys) e b
each_both Holds g h (x ∷ xs) ys here a b = (a.0, each_both Holds (g + 1) h xs ys (omega (arith, here)) a.1 b)

module _ (at : Layout) (told : Option Contents) where
  pub puts_none : (g n : ℕ) (list : List GroupInodes) → n ≡ 0 → PutsInodes at told g n list list
  puts_none g n list none = record { put = []; behind = sym (append-nil list); each = sym none; inside = tt; are = λ m e. tt }

  pub puts_one : (g : ℕ) (i : GroupInodes) (before now : List GroupInodes) → now ≡ before ++ i ∷ [] → IsInside at g i → ((c : Contents) → told ≡ Some c → IsKeptOf at (c regions.Image) g i) → PutsInodes at told g 1 before now
  puts_one g i before now is inside are = record { put = i ∷ []; behind = is; each = refl; inside = (inside, tt); are = λ m e. (are m e, tt) }

  pub puts_next : (from g : ℕ) (before now after : List GroupInodes) (told' : Option Contents) → told' ≡ told → from ≤ g → PutsInodes at told from (g - from) before now → PutsInodes at told' g 1 now after
      → PutsInodes at told from ((g + 1) - from) before after
  puts_next from g before now after told' same le so one =
      let n = so.each in
      let here : from + length so.put ≡ g = omega (arith, n, le) in
      record {
        put = so.put ++ one.put;
        behind = one.behind ∙ ap (λ (xs : List GroupInodes). xs ++ one.put) so.behind ∙ append_assoc before so.put one.put;
        each = let l = length-append so.put one.put in let k = one.each in omega (arith, l, k, n, le);
        inside = each_both (IsInside at) from g so.put one.put here so.inside one.inside;
        are = λ m e. each_both (IsKeptOf at (m regions.Image)) from g so.put one.put here (so.are m e) (one.are m (same ∙ e));
      }

  pub puts_ended : (from to g : ℕ) (before now : List GroupInodes) → g - from ≡ to - from → PutsInodes at told from (g - from) before now → PutsInodes at told from (to - from) before now
  puts_ended from to g before now same so = subst (λ (k : ℕ). PutsInodes at told from k before now) same so

-- ---- where the group's inodes pass, all is kept

pub kept_all : {A : Type 0} (found : Option Evidence) (wanted : List Fault) (xs : List A) → passes_by found wanted ≡ true → kept_unless found xs ≡ xs
kept_all None wanted xs passes = refl
kept_all (Some e) wanted xs passes = absurd (false≢true passes)

pub passed_kept : (at : Layout) (image : Image) (g : ℕ) (i : GroupInodes) → passes_judged (opened_state at image) g units.Inode ≡ true → IsKeptOf at image g i
    → (i.chunks.items ≡ chunks (opened_state at image) g) × (i.notes.items ≡ notes_of at image g (chunks (opened_state at image) g))
unfolding passes_judged
passed_kept at image g i passes kept =
    let found = evidence (opened_state at image) g units.Inode in
    let wanted = faults (opened_state at image) g units.Inode in
    let us = chunks (opened_state at image) g in
    (kept.chunks_are ∙ kept_all found wanted us passes, kept.notes_are ∙ kept_all found wanted (notes_of at image g us) passes)
