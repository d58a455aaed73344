-- What was kept of the inodes of all groups, where these passed.
use Rattle.std.proofs.Common.{◌≡◌, ℕ, zero, suc, ◌+◌, ◌-◌, ◌<◌, ◌∙◌, List, [], ◌∷◌, ◌++◌, length, Option, Some, ap, arith, refl, subst, sym}
use Rattle.blk_device.specs.Contents.{Contents}
use Rattle.blk_device.specs.declared.device.Region.TheVariants as regions
use Rattle.check_phases.proofs.InodeLemmas.{passed_kept}
use Rattle.check_phases.specs.InodesKept.{EachFrom, PutsInodes}
use Rattle.check_phases.specs.declared.part.Part.{Part}
use Rattle.fork_pass.specs.Passed.{AreChunks, AreNotes, FitInGroups, LieInGroups, notes_at, units_at}
use Rattle.fs_state.specs.Kinds.{Image}
use Rattle.geom.specs.Layout.{Layout}
use Rattle.inode_pass.specs.Notes.{AreFit, notes_of}
use Rattle.inode_pass.specs.Units.{opened_state}
use Rattle.inode_pass.specs.declared.note.GroupInodes.{GroupInodes}
use Rattle.quiet_check.specs.Kept.{IsInside, IsKeptOf}
use Rattle.image_check.specs.Checked.{AllPass}
use Rattle.image_check.specs.Inodes.{AreKeptOf}
use Rattle.image_check.specs.Mappings.{LieIn}

module _ (at : Layout) (image : Image) (inodes : List GroupInodes) (kept : AreKeptOf at image inodes) (pass : AllPass at image) where
  pub are_chunks : AreChunks (opened_state at image) inodes
  are_chunks g lt = (kept g lt (pass g lt)).chunked

  pub are_notes : AreNotes at image inodes
  are_notes g lt = let has = kept g lt (pass g lt) in has.noted ∙ ap (notes_of at image g) (sym has.chunked)

-- ---- the units stay, whatever became of the notes

module _ (old now : List GroupInodes) (same : units_at now ≡ units_at old) where
  same_at : (g : ℕ) → units_at now g ≡ units_at old g
  same_at g = λ i. same i g

  pub still_chunks : (at : Layout) (image : Image) → AreChunks (opened_state at image) old → AreChunks (opened_state at image) now
  still_chunks at image are g lt = same_at g ∙ are g lt

  pub still_inside : (at : Layout) → LieInGroups at old → LieInGroups at now
  still_inside at lie g lt = subst (LieIn at g) (sym (same_at g)) (lie g lt)

-- ---- those that the first phase put, where there were none before

-- what is kept of a group, with what holds of it
record AtPlace (Holds : ℕ → GroupInodes → Type 0) (inodes : List GroupInodes) (h g : ℕ) : Type 0 where
  one : GroupInodes
  holds : Holds g one
  units : units_at inodes h ≡ one.chunks.items
  notes : notes_at inodes h ≡ one.notes.items

each_at : (Holds : ℕ → GroupInodes → Type 0) (k : ℕ) (inodes : List GroupInodes) → EachFrom Holds k inodes → (h : ℕ) → h < length inodes → AtPlace Holds inodes h (k + h)
unfolding units_at notes_at
each_at Holds k [] each h lt = absurd (omega (arith, lt))
each_at Holds k (i ∷ is) each zero lt = let here : k ≡ k + 0 = omega arith in record { one = i; holds = subst (λ g. Holds g i) here each.0; units = refl; notes = refl }
each_at Holds k (i ∷ is) each (suc h) lt =
    let rest = each_at Holds (k + 1) is each.1 h (omega (arith, lt)) in
    let there : (k + 1) + h ≡ k + suc h = omega arith in
    record { one = rest.one; holds = subst (λ g. Holds g rest.one) there rest.holds; units = rest.units; notes = rest.notes }

module _ (at : Layout) (told : Option Contents) (part : Part) (before now inodes : List GroupInodes) (from : part.from ≡ 0) (to : part.to ≡ at.agcount) (empty : before ≡ []) (taken : inodes ≡ now) (puts : PutsInodes at told part.from (part.to - part.from) before now) where
  are_put : inodes ≡ puts.put
  are_put = taken ∙ puts.behind ∙ ap (λ (xs : List GroupInodes). xs ++ puts.put) empty

  pub one_each : length inodes ≡ at.agcount
  one_each = ap (λ (xs : List GroupInodes). length xs) are_put ∙ puts.each ∙ (let all : part.to - part.from ≡ at.agcount = omega (arith, from, to) in all)

  from_first : (Holds : ℕ → GroupInodes → Type 0) → EachFrom Holds part.from puts.put → (g : ℕ) → g < at.agcount → AtPlace Holds inodes g g
  from_first Holds each g lt =
      let zero_more : 0 + g ≡ g = omega arith in
      subst (AtPlace Holds inodes g) zero_more (each_at Holds 0 inodes (subst (λ (k : ℕ). EachFrom Holds k inodes) from (subst (λ (xs : List GroupInodes). EachFrom Holds part.from xs) (sym are_put) each)) g (let n = one_each in omega (arith, n, lt)))

  pub kept_inside : LieInGroups at inodes
  kept_inside g lt = let here = from_first (IsInside at) puts.inside g lt in subst (LieIn at g) (sym here.units) here.holds.chunks_lie

  pub kept_fit : FitInGroups at inodes
  kept_fit g lt = let here = from_first (IsInside at) puts.inside g lt in subst (AreFit at g) (sym here.notes) here.holds.notes_fit

  pub kept_of : (m : Contents) → told ≡ Some m → AreKeptOf at (m regions.Image) inodes
  kept_of m e g lt passes =
      let here = from_first (IsKeptOf at (m regions.Image)) (puts.are m e) g lt in
      let all = passed_kept at (m regions.Image) g here.one passes here.holds in
      record { chunked = here.units ∙ all.0; noted = here.notes ∙ all.1 }
