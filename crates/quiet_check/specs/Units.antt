-- The units of a group that its btrees list, as the code has them.
use Rattle.std.specs.Prelude.{◌≡◌, ℕ, ◌/◌, [], ◌∷◌, Option, None, if◌then◌else◌}
use Rattle.fs_state.specs.Contradiction.{bad_block, later_in}
use Rattle.fs_state.specs.Lists.{first_of_all}
use Rattle.fs_model.specs.declared.claim.Evidence.{Evidence}
use Rattle.fs_state.specs.State.{is_readable, recs_of}
use Rattle.index_derive.specs.Units.{is_listed_by}
use Rattle.group_trees.specs.Trees.{reading_of}
use Rattle.group_trees.specs.declared.group.GroupTrees.{GroupTrees}
use Rattle.quiet_check.specs.declared.units.Listed.{Listed}
use Rattle.run_sets.specs.Runs.{runs_below}
use Rattle.sblock.specs.declared.kind.Kind.TheVariants.{Ino, Fino}

-- one of the two btrees, and each by itself
pub record AreListed (length : ℕ) (trees : GroupTrees) (listed : Listed) : Type 0 where
  pub either : listed.either.items ≡ runs_below (is_listed_by (recs_of (reading_of trees.ino)) (recs_of (reading_of trees.rmap))) (length / 8)
  pub by_inodes : listed.by_inodes.items ≡ runs_below (is_listed_by (recs_of (reading_of trees.ino)) []) (length / 8)
  pub by_owners : listed.by_owners.items ≡ runs_below (is_listed_by [] (recs_of (reading_of trees.rmap))) (length / 8)

-- what the trees alone say against the derivation of the inodes: a form that isn't supported yet, or that neither of
-- those that list chunks can be read
abbrev pub evidence_in : GroupTrees → Option Evidence
evidence_in trees =
    first_of_all (later_in Ino (reading_of trees.ino) ∷ later_in Fino (reading_of trees.fino)
    ∷ (if is_readable (reading_of trees.ino) then None else bad_block (reading_of trees.rmap)) ∷ [])
