-- What is kept of a group's inodes is what the state decides.
use Rattle.std.proofs.Common.{◌≡◌, ℕ, ◌+◌, ◌*◌, ◌/◌, ◌<◌, Bool, true, false, List, [], ◌∷◌, ◌++◌, All, refl, ap, sym, subst, ◌∙◌, arith, Option, Some, None, Result, Ok, Err, IfOk}
use Rattle.std.specs.Prelude.{◌^◌, flat_map, if◌then◌else◌}
use Rattle.std.specs.List.{filter}
use Rattle.std.proofs.lemmas.List.Elements.{All-cons, All-nil}
use Rattle.fs_state.specs.Chunks.{chunks}
use Rattle.fs_state.specs.Contradiction.{evidence}
use Rattle.fs_state.specs.Derive.{over_free}
use Rattle.fs_state.specs.Faults.{faults}
use Rattle.fs_state.specs.Lists.{numbers}
use Rattle.fs_model.specs.declared.claim.Evidence.{Evidence}
use Rattle.fs_model.specs.declared.fault.Fault.{Fault}
use Rattle.fs_model.specs.declared.unit.Unit.TheVariants as units
use Rattle.fs_state.specs.Apart.{is_chunk, is_listed, unit_verifies}
use Rattle.fs_state.specs.Kinds.{Image}
use Rattle.geom.specs.Layout.{Layout, group_len_of}
use Rattle.group_trees.specs.Group.{AreInside}
use Rattle.group_trees.specs.declared.group.GroupTrees.{GroupTrees}
use Rattle.group_trees.specs.declared.heads.GroupHeads.{GroupHeads}
use Rattle.inode_pass.specs.Notes.{AreFit, IsFit, blocks_notes, notes_if, notes_of, unit_notes}
use Rattle.inode_pass.specs.Units.{opened_state, unit_numbers}
use Rattle.inode_pass.specs.declared.note.ForkNote.{ForkNote}
use Rattle.inode_pass.specs.declared.note.GroupInodes.{GroupInodes}
use Rattle.inode_pass.specs.declared.unit.UnitSeen.{UnitSeen}
use Rattle.quiet_check.specs.Chunks.{chunk_numbers}
use Rattle.quiet_check.specs.Judged.{AreUnitsOf, Decided, Gathered, IsJudged}
use Rattle.quiet_check.specs.Kept.{IsInside, IsKeptAs, IsKeptOf, kept_by, kept_unless}
use Rattle.quiet_check.specs.declared.judge.InodesJudged.{InodesJudged}
use Rattle.quiet_check.specs.declared.judge.Judged.{Judged}
use Rattle.quiet_check.specs.declared.judge.Judged.TheVariants.{Faults, GaveUp}
use Rattle.quiet_check.proofs.ChunkLemmas.{chunks_said, twice}
use Rattle.quiet_check.proofs.JudgeLemmas.{units_said}

-- ---- the notes of units that are listed are those of the chunks: the other units have none

keep_silent : (f : ℕ → List ForkNote) (u : ℕ) (us vs : List ℕ) (b : Bool) → (b ≡ false → f u ≡ []) → flat_map f us ≡ flat_map f vs → f u ++ flat_map f us ≡ flat_map f (if b then u ∷ vs else vs)
keep_silent f u us vs true none rest = ap (λ (ns : List ForkNote). f u ++ ns) rest
keep_silent f u us vs false none rest = ap (λ (ns : List ForkNote). ns ++ flat_map f us) (none refl) ∙ rest

silent : (p : ℕ → Bool) (f : ℕ → List ForkNote) (us : List ℕ) → ((u : ℕ) → p u ≡ false → f u ≡ []) → flat_map f us ≡ flat_map f (filter p us)
silent p f [] none = refl
silent p f (u ∷ us) none = keep_silent f u us (filter p us) (p u) (none u) (silent p f us none)

no_notes : (at : Layout) (image : Image) (g u : ℕ) → unit_verifies at (opened_state at image).core g u ≡ false → unit_notes at image g u ≡ []
unfolding unit_notes
no_notes at image g u is = ap (λ (b : Bool). notes_if (if b then Some (over_free (opened_state at image) g u (λ i. 2 ^ i)) else None) (blocks_notes at image g (8 * u) 8)) is

kept_all : {A : Type 0} (j : Judged) (fs : List Fault) → Decided None fs j → (xs : List A) → kept_by j xs ≡ xs
kept_all (Faults found) fs h xs = refl
kept_all (GaveUp e) fs h xs = absurd (no_some e h) where
  no_some : (x : Evidence) → ◌≡◌ {A = Option Evidence} None (Some x) → ⊥
  no_some x k = cc

module _ (at : Layout) (image : Image) (g : ℕ) where
  notes_said : (us : List ℕ) → us ≡ filter (is_listed (opened_state at image) g) (numbers 0 (group_len_of at g / 8)) → notes_of at image g us ≡ notes_of at image g (chunks (opened_state at image) g)
  unfolding chunks is_chunk
  notes_said us listed =
      silent (unit_verifies at (opened_state at image).core g) (unit_notes at image g) us (no_notes at image g)
      ∙ ap (λ (vs : List ℕ). notes_of at image g (filter (unit_verifies at (opened_state at image).core g) vs)) listed
      ∙ ap (notes_of at image g) (twice (is_listed (opened_state at image) g) (unit_verifies at (opened_state at image).core g) (numbers 0 (group_len_of at g / 8)))

  -- faults decide, and chunks and notes are kept
  pub faults_kept : (heads : GroupHeads) (trees : GroupTrees) (seen : List UnitSeen) (found : InodesJudged) (inodes : GroupInodes) → g < at.agcount → AreUnitsOf at g trees seen → inodes.chunks.items ≡ chunk_numbers seen → found.inodes ≡ inodes
      → Decided None (faults (opened_state at image) g units.Inode) found.judged → Gathered at image g heads trees seen → inodes.notes.items ≡ notes_of at image g (unit_numbers seen) → IsKeptAs at image g found
  faults_kept heads trees seen found inodes gl are chunked is decided so noted =
      let listed = units_said at image g trees seen gl so.trees_are are in
      let fs = faults (opened_state at image) g units.Inode in
      record {
        chunks_are = ap (λ (x : GroupInodes). x.chunks.items) is ∙ chunked ∙ chunks_said at image g seen so.cores_are listed ∙ sym (kept_all found.judged fs decided (chunks (opened_state at image) g));
        notes_are = ap (λ (x : GroupInodes). x.notes.items) is ∙ noted ∙ notes_said (unit_numbers seen) listed ∙ sym (kept_all found.judged fs decided (notes_of at image g (chunks (opened_state at image) g)));
      }

  -- nothing is kept of inodes that are given up
  pub given_up_kept : (found : InodesJudged) (e : Evidence) → found.judged ≡ GaveUp e → found.inodes.chunks.items ≡ [] → found.inodes.notes.items ≡ [] → IsKeptAs at image g found
  given_up_kept found e is chunked noted = record {
    chunks_are = chunked ∙ ap (λ (j : Judged). kept_by j (chunks (opened_state at image) g)) (sym is);
    notes_are = noted ∙ ap (λ (j : Judged). kept_by j (notes_of at image g (chunks (opened_state at image) g))) (sym is);
  }

  -- what is kept by what was found, is kept by what the state decides
  pub kept_decided : (found : InodesJudged) → IsJudged (opened_state at image) g units.Inode found.judged → IsKeptAs at image g found → IsKeptOf at image g found.inodes
  kept_decided found decided kept = record {
    chunks_are = kept.chunks_are ∙ same found.judged (evidence (opened_state at image) g units.Inode) decided (chunks (opened_state at image) g);
    notes_are = kept.notes_are ∙ same found.judged (evidence (opened_state at image) g units.Inode) decided (notes_of at image g (chunks (opened_state at image) g));
  } where
    same : {A : Type 0} (j : Judged) (o : Option Evidence) → Decided o (faults (opened_state at image) g units.Inode) j → (xs : List A) → kept_by j xs ≡ kept_unless o xs
    same (Faults fs) o h xs = ap (λ (x : Option Evidence). kept_unless x xs) (sym h.0)
    same (GaveUp e) o h xs = ap (λ (x : Option Evidence). kept_unless x xs) (sym h)

-- ---- what is kept lies in the group

lie_below : (len : ℕ) (us : List ℕ) → AreInside len us → All (λ u. 8 * u + 7 < len) us
lie_below len [] h = All-nil (λ (u : ℕ). 8 * u + 7 < len)
lie_below len (u ∷ us) h = All-cons (λ (x : ℕ). 8 * x + 7 < len) u us (let k = h.0 in omega (arith, k)) (lie_below len us h.1)

pub nothing_fits : (at : Layout) (g : ℕ) (notes : List ForkNote) → notes ≡ [] → AreFit at g notes
nothing_fits at g notes is = subst (AreFit at g) (sym is) (All-nil (IsFit at g))

pub chunks_inside : (at : Layout) (g : ℕ) (inodes : GroupInodes) (us : List ℕ) → inodes.chunks.items ≡ us → AreInside (group_len_of at g) us → AreFit at g inodes.notes.items → IsInside at g inodes
chunks_inside at g inodes us is inside fit = record {
  chunks_lie = subst (All (λ (u : ℕ). 8 * u + 7 < group_len_of at g)) (sym is) (lie_below (group_len_of at g) us inside);
  notes_fit = fit;
}

pub nothing_inside : (at : Layout) (g : ℕ) (inodes : GroupInodes) → inodes.chunks.items ≡ [] → inodes.notes.items ≡ [] → IsInside at g inodes
nothing_inside at g inodes chunked noted = record {
  chunks_lie = subst (All (λ (u : ℕ). 8 * u + 7 < group_len_of at g)) (sym chunked) (All-nil (λ (u : ℕ). 8 * u + 7 < group_len_of at g));
  notes_fit = nothing_fits at g inodes.notes.items noted;
}

-- ---- two clauses on one answer

pub both_ok : {T E : Type 0} (P Q R : T → Type 0) (r : Result T E) → ((x : T) → P x → Q x → R x) → IfOk r P → IfOk r Q → IfOk r R
both_ok P Q R (Ok x) follows p q = follows x p q
both_ok P Q R (Err e) follows p q = tt
