-- What walks and layings that are refused say.
use Rattle.std.proofs.Common.{◌≡◌, ◌≤◌, ◌-◌, ◌+◌, ℕ, suc, true, List, length, refl, ap, subst, Result, Ok, arith}
use Rattle.byte_fields.specs.Steps.{StepCount}
use Rattle.byte_fields.specs.declared.block.Block.{Block}
use Rattle.sblock.specs.Blocks.{IsRising, AllInside}
use Rattle.sblock.specs.Form.{Form, IsLawful}
use Rattle.sblock.specs.declared.block.BlockFault.{BlockFault}
use Rattle.sblock.specs.declared.block.Bounds.{Bounds}
use Rattle.sblock.specs.declared.kind.Kind.{Kind}
use Rattle.tree_defs.specs.declared.site.Site.{Site}
use Rattle.bulk_load.specs.Shapes.{IsShape}
use Rattle.bulk_load.proofs.ShapeLemmas.{start_on, start_up}
use Rattle.list_edit.specs.Edits.{edited}
use Rattle.list_edit.specs.Laws.{IsPut}
use Rattle.list_edit.specs.declared.edits.Edit.{Edit}
use Rattle.list_edit.proofs.KeepLemmas.{keeps_rising, keeps_each}
use Rattle.tree_walk.specs.Trails.{AreSound}
use Rattle.load_trees.specs.Fit.{IsUnfit}
use Rattle.load_trees.specs.declared.unfit.Unfit.{Unfit}
use Rattle.load_trees.specs.declared.unfit.Unfit.TheVariants.{Order, Range, Blocks, Memory}
use Rattle.tree_blocks.specs.Meets.{Refuses}
use Rattle.tree_blocks.specs.declared.tree.WalkFault.{WalkFault}
use Rattle.tree_blocks.specs.declared.tree.WalkFault.TheVariants.{Bad as BadBlock, Failed as WalkFailed, Memory as WalkMemory}
use Rattle.tree_edit.specs.Anew.{IsMade}
use Rattle.tree_edit.specs.Device.{OnlyWrites}
use Rattle.tree_edit.specs.Making.{AreApart}
use Rattle.tree_edit.specs.Reads.{met_as, RefusesWalk, IsOfWalk}

pub as_met : {A : Type 0} (read : Result A (ℕ × BlockFault)) (fault : WalkFault) → Refuses read fault → RefusesWalk read (met_as fault)
as_met read (BadBlock block fault) refuses = refuses
as_met read WalkFailed refuses = tt
as_met read WalkMemory refuses = tt

pub is_met : (fault : WalkFault) → IsOfWalk (met_as fault)
is_met (BadBlock block fault) = tt
is_met WalkFailed = tt
is_met WalkMemory = tt

-- nothing but blocks was counted, and these as written
pub only_writes : (n : ℕ) (before after : StepCount) → after ≡ record before { writes = before.writes + n } → OnlyWrites before after
only_writes n before after same =
    let w = ap (λ (s : StepCount). s.writes) same in
    record { reads = ap (λ (s : StepCount). s.reads) same; writes = omega (arith, w); moves = ap (λ (s : StepCount). s.moves) same }

pub writes_none : (s : StepCount) → OnlyWrites s s
writes_none s = record { reads = refl; writes = omega arith; moves = refl }

-- as many blocks were placed as are claimed
pub placed_many : {R K : Type 0} (form : Form R K) (site : Site) (lsn levels : ℕ) (recs : List R) (claimed : List ℕ) (placed : List (ℕ × Block)) → IsMade form site lsn levels recs claimed placed → length placed ≡ length claimed
placed_many form site lsn levels recs claimed placed made =
    let same = ap length made.loaded.behind in
    let many = made.loaded.many in
    omega (arith, same, many)

-- the steps of a tree that is laid, by the blocks that are placed
pub by_placed : (n m : ℕ) (before after : StepCount) → n ≡ m → after ≡ record before { writes = before.writes + n } → after ≡ record before { writes = before.writes + m }
by_placed n m before after same is = subst (λ (k : ℕ). ◌≡◌ {A = StepCount} after (record { reads = before.reads; writes = before.writes + k; moves = before.moves })) same is

-- records that rise and are in range, in as many blocks as they need, are refused for the blocks alone
pub not_apart : {R K : Type 0} (form : Form R K) (site : Site) (levels : ℕ) (recs : List R) (claimed : List ℕ) (unfit : Unfit) → (unfit ≡ Memory → ⊥) → IsUnfit form site recs claimed unfit → IsShape form.kind (length recs) levels (length claimed) → IsRising form recs → AllInside form site.bounds recs → ¬ AreApart site.bounds.length claimed
not_apart form site levels recs claimed Order other why shape rising inside = absurd (why rising)
not_apart form site levels recs claimed Range other why shape rising inside = absurd (why.1 inside)
not_apart form site levels recs claimed Blocks other why shape rising inside = λ both. why.2 (record { many = (levels, shape); lie = both.0; differ = both.1 })
not_apart form site levels recs claimed Memory other why shape rising inside = absurd (other refl)

-- a tree has a block
pub some_blocks : (kind : Kind) (n levels blocks : ℕ) → IsShape kind n levels blocks → 1 ≤ blocks
some_blocks kind n levels blocks s =
    let last = start_on kind n (levels - 1) in
    let up = start_up kind n (suc (levels - 1)) levels (omega (arith, s.some)) in
    omega (arith, last, up, s.top, s.all)

module _ {R K : Type 0} (form : Form R K) (law : IsLawful form) where
  -- records that are sound are so after an edit
  pub sound_after : (bounds : Bounds) (how : Edit) (rec : R) (old new : List R) → (IsPut how → (form.is_in_range bounds rec ≡ true) × (form.is_supported rec ≡ true)) → AreSound form bounds old → edited form how rec old ≡ Ok new → AreSound form bounds new
  sound_after bounds how rec old new given sound made = record {
    rising = keeps_rising form law how rec old new sound.rising made;
    inside = keeps_each form (form.is_in_range bounds) how rec old new (λ put. (given put).0) sound.inside made;
    supported = keeps_each form form.is_supported how rec old new (λ put. (given put).1) sound.supported made;
  }
