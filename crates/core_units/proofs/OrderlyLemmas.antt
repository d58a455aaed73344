-- What a unit has gathered stays in order.
use Rattle.std.proofs.Common.{◌≡◌, ◌/◌, ℕ, Bool, true, false, List, [], ◌++◌, Option, Some, None, Result, Ok, Err, refl, sym, subst, ◌∙◌, ap, true≢false}
use Rattle.std.specs.Prelude.{OnOk, OnErr, if◌then◌else◌}
use Rattle.std.proofs.lemmas.List.{append-nil}
use Rattle.fs_state.specs.State.{recs_of}
use Rattle.core_units.specs.Trees.{AreSeenSound}
use Rattle.geom.specs.Layout.{Layout, group_len_of}
use Rattle.group_trees.specs.declared.group.GroupTrees.{GroupTrees}
use Rattle.group_trees.specs.Trees.{reading_of}
use Rattle.index_derive.specs.Units.{is_listed_by}
use Rattle.inode_pass.specs.Units.{unit_numbers, units_in}
use Rattle.inode_pass.specs.declared.stop.PassStop.{PassStop}
use Rattle.inode_pass.specs.declared.unit.UnitSeen.{UnitSeen}
use Rattle.quiet_check.proofs.ChunkLemmas.{ends_below}
use Rattle.quiet_check.specs.Judged.{AreUnitsOf}
use Rattle.quiet_check.specs.Units.{AreListed}
use Rattle.quiet_check.specs.declared.units.Listed.{Listed}
use Rattle.run_sets.proofs.OnlyRunsLemmas.{are_runs_below}
use Rattle.run_sets.specs.Runs.{AreMaximal, EndWithin}
use Rattle.run_sets.specs.declared.run.Run.{Run}
use Rattle.sblock.specs.declared.kind.Kind.{Kind}
use Rattle.core_units.specs.Cores.{units_left}
use Rattle.core_units.specs.Orderly.{AreUnitsAt, IsOrderly, IsWholeIf}
use Rattle.core_units.specs.declared.cores.UnitPlace.{UnitPlace}
use Rattle.core_units.specs.declared.gather.Gathered.{Gathered}
use Rattle.core_units.specs.declared.gather.Gathering.{Gathering}
use Rattle.core_units.specs.declared.gather.Gathering.TheVariants.{More, Whole}
use Rattle.core_units.proofs.CoresLemmas.{from_front}

-- the units are listed now, and none was seen before
pub listed_now : (at : Layout) (g : ℕ) (old : Gathered) (listed : Listed) → IsOrderly at g old → old.listed ≡ None → old.reading ≡ None → AreListed (group_len_of at g) old.trees listed → IsOrderly at g (record old { listed = Some listed })
listed_now at g old listed orderly none read are =
    let first = subst (AreUnitsAt at g old) none orderly.units in
    record {
      trees = orderly.trees;
      units = (read, are, ap (λ (l : List UnitSeen). unit_numbers l ++ units_left listed.either.items old.at) first.0 ∙ ap (λ (p : UnitPlace). units_left listed.either.items p) first.1 ∙ from_front listed.either.items);
    }

-- the units that are listed lie in the group
pub listed_inside : (at : Layout) (g : ℕ) (old : Gathered) (listed : Listed) → IsOrderly at g old → old.listed ≡ Some listed → EndWithin (group_len_of at g / 8) listed.either.items
listed_inside at g old listed orderly some =
    let units = subst (AreUnitsAt at g old) some orderly.units in
    ends_below (is_listed_by (recs_of (reading_of old.trees.ino)) (recs_of (reading_of old.trees.rmap))) (group_len_of at g / 8) listed.either.items units.1.either

-- some more were seen
pub seen_more : (at : Layout) (g : ℕ) (old new : Gathered) (listed : Listed) → IsOrderly at g old → old.listed ≡ Some listed → new.trees ≡ old.trees → new.reading ≡ old.reading → new.listed ≡ old.listed
    → unit_numbers new.seen.items ++ units_left listed.either.items new.at ≡ unit_numbers old.seen.items ++ units_left listed.either.items old.at → IsOrderly at g new
seen_more at g old new listed orderly some trees reading lists left =
    let units = subst (AreUnitsAt at g old) some orderly.units in
    record {
      trees = subst (AreSeenSound at g) (sym trees) orderly.trees;
      units = subst (AreUnitsAt at g new) (sym (lists ∙ some)) (reading ∙ units.0, subst (λ (t : GroupTrees). AreListed (group_len_of at g) t listed) (sym trees) units.1, left ∙ units.2);
    }

-- where none is left, all were seen
pub whole_seen : (at : Layout) (g : ℕ) (old : Gathered) (listed : Listed) (done : Bool) → IsOrderly at g old → old.listed ≡ Some listed → (done ≡ true → units_left listed.either.items old.at ≡ []) → IsWholeIf at g old (if done then Whole else More)
whole_seen at g old listed false orderly some none = tt
whole_seen at g old listed true orderly some none =
    let units = subst (AreUnitsAt at g old) some orderly.units in
    sym (append-nil (unit_numbers old.seen.items)) ∙ ap (λ (l : List ℕ). unit_numbers old.seen.items ++ l) (sym (none refl)) ∙ units.2 ∙ ap units_in units.1.either

units_passed : (at : Layout) (g : ℕ) (old : Gathered) (reading : Option Kind) (listed : Option Listed) → (old.reading ≡ None → reading ≡ None) → AreUnitsAt at g old listed → AreUnitsAt at g (record old { reading = reading }) listed
units_passed at g old reading None none units = units
units_passed at g old reading (Some listed) none units = (none units.0, units.1, units.2)

-- a tree is passed over, where not all are read
pub passed_orderly : (at : Layout) (g : ℕ) (old : Gathered) (reading : Option Kind) → (old.reading ≡ None → reading ≡ None) → IsOrderly at g old → IsOrderly at g (record old { reading = reading })
passed_orderly at g old reading none orderly = record { trees = orderly.trees; units = units_passed at g old reading old.listed none orderly.units }

-- each btree by itself lists maximal runs of units
pub inodes_maximal : (at : Layout) (g : ℕ) (old : Gathered) (listed : Listed) → IsOrderly at g old → old.listed ≡ Some listed → AreMaximal 0 listed.by_inodes.items
inodes_maximal at g old listed orderly some =
    let units = subst (AreUnitsAt at g old) some orderly.units in
    subst (AreMaximal 0) (sym units.1.by_inodes) (are_runs_below (is_listed_by (recs_of (reading_of old.trees.ino)) []) (group_len_of at g / 8)).maximal

pub owners_maximal : (at : Layout) (g : ℕ) (old : Gathered) (listed : Listed) → IsOrderly at g old → old.listed ≡ Some listed → AreMaximal 0 listed.by_owners.items
owners_maximal at g old listed orderly some =
    let units = subst (AreUnitsAt at g old) some orderly.units in
    subst (AreMaximal 0) (sym units.1.by_owners) (are_runs_below (is_listed_by [] (recs_of (reading_of old.trees.rmap))) (group_len_of at g / 8)).maximal
