-- What a switch puts in is derived again from the state that it reaches.
use Rattle.std.proofs.Common.{◌≡◌, ℕ, List, sym, ap, ◌∙◌}
use Rattle.derive_defs.specs.ByCount.{ordered_by_count}
use Rattle.derive_defs.specs.Free.{free_space}
use Rattle.derive_defs.specs.Shared.{shared_space}
use Rattle.fs_model.specs.declared.unit.Unit.{Unit as ScrubUnit}
use Rattle.fs_model.specs.declared.unit.Unit.TheVariants as units
use Rattle.geom.specs.Layout.{group_len_of}
use Rattle.sblock.specs.declared.kind.Kind.{Kind}
use Rattle.sblock.specs.declared.kind.Kind.TheVariants.{Bno, Cnt, Rmap, Refc}
use Rattle.fs_state.specs.State.{State, Group}
use Rattle.fs_state.specs.Derive.{derive, mappings, bno_of, cnt_of, refc_of}
use Rattle.fs_state.specs.Records.{kinds_of}
use Rattle.fs_change.proofs.Trees.{in_itself}
use Rattle.fs_change.specs.Laws.{SpaceDerivedAgain}
use Rattle.fs_change.specs.Parts.{records_in}
use Rattle.fs_change.specs.Switch.{switched, moved, derived_in, hold, exact_counters}

-- the group after a switch holds what was derived from the moved blocks
abbrev held_in : State → ℕ → ScrubUnit → (Kind → List ℕ) → Group
held_in a g unit blocks =
    record (hold (derive (moved a g unit blocks) g) (kinds_of unit) ((moved a g unit blocks).group g)) { counters = exact_counters (derived_in (moved a g unit blocks) g unit) g unit }

reached : (a : State) (g : ℕ) (unit : ScrubUnit) (blocks : Kind → List ℕ) → (switched a g unit blocks).group g ≡ held_in a g unit blocks
unfolding switched
reached a g unit blocks =
    let m : State = moved a g unit blocks in
    let d : State = derived_in m g unit in
    in_itself g (λ p. record p { counters = exact_counters d g unit }) d
    ∙ ap (λ (p : Group). record p { counters = exact_counters d g unit }) (in_itself g (hold (derive m g) (kinds_of unit)) m)

-- neither switch changes the reverse mappings
free_mappings : (a : State) (g : ℕ) (blocks : Kind → List ℕ) → mappings (switched a g units.Free blocks) g ≡ mappings (moved a g units.Free blocks) g
free_mappings a g blocks = ap (λ (p : Group). records_in p Rmap) (reached a g units.Free blocks)

refc_mappings : (a : State) (g : ℕ) (blocks : Kind → List ℕ) → mappings (switched a g units.Refc blocks) g ≡ mappings (moved a g units.Refc blocks) g
refc_mappings a g blocks = ap (λ (p : Group). records_in p Rmap) (reached a g units.Refc blocks)

same_bno : (a : State) (g : ℕ) (blocks : Kind → List ℕ) → bno_of (moved a g units.Free blocks) g ≡ bno_of (switched a g units.Free blocks) g
unfolding bno_of switched moved
same_bno a g blocks = ap (free_space (group_len_of a.geometry g)) (sym (free_mappings a g blocks))

same_refc : (a : State) (g : ℕ) (blocks : Kind → List ℕ) → refc_of (moved a g units.Refc blocks) g ≡ refc_of (switched a g units.Refc blocks) g
unfolding refc_of
same_refc a g blocks = ap shared_space (sym (refc_mappings a g blocks))

bno_again : (a : State) (g : ℕ) (blocks : Kind → List ℕ) → records_in ((switched a g units.Free blocks).group g) Bno ≡ derive (switched a g units.Free blocks) g Bno
unfolding derive
bno_again a g blocks = ap (λ (p : Group). records_in p Bno) (reached a g units.Free blocks) ∙ same_bno a g blocks

cnt_again : (a : State) (g : ℕ) (blocks : Kind → List ℕ) → records_in ((switched a g units.Free blocks).group g) Cnt ≡ derive (switched a g units.Free blocks) g Cnt
unfolding derive cnt_of
cnt_again a g blocks = ap (λ (p : Group). records_in p Cnt) (reached a g units.Free blocks) ∙ ap ordered_by_count (same_bno a g blocks)

refc_again : (a : State) (g : ℕ) (blocks : Kind → List ℕ) → records_in ((switched a g units.Refc blocks).group g) Refc ≡ derive (switched a g units.Refc blocks) g Refc
unfolding derive
refc_again a g blocks = ap (λ (p : Group). records_in p Refc) (reached a g units.Refc blocks) ∙ same_refc a g blocks

pub space_derived_again : SpaceDerivedAgain
space_derived_again a g blocks = ((bno_again a g blocks, (cnt_again a g blocks, tt)), (refc_again a g blocks, tt))
