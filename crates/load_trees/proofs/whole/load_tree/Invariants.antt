use Rattle.std.proofs.Common.{◌≡◌, ◌+◌, ◌-◌, ◌≤◌, []}
use Rattle.bulk_load.specs.Loaded.{IsLoaded}
use Rattle.load_trees.proofs.whole.load_tree.Given as goal

abbrev pub invariant-loop-from : goal.invariant-loop-from
invariant-loop-from g l = record {
  within : l.from ≤ l.form.blocks;
  loaded : IsLoaded g.K.RecKind.form l.list l.claimed l.frame 0 l.from [] l.placed.items;
  steps : l.steps ≡ record l.initial.steps { writes = l.initial.steps.writes + l.from };
}

abbrev pub decreases-loop-from : goal.decreases-loop-from
decreases-loop-from g l = l.form.blocks - l.from
