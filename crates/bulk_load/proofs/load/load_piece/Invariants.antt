use Rattle.std.proofs.Common.{◌≡◌, ◌+◌, ◌-◌, ◌≤◌}
use Rattle.std.specs.Vec.{vec_len, vec_capacity}
use Rattle.bulk_load.specs.Loaded.{IsLoaded}
use Rattle.bulk_load.proofs.load.load_piece.Given as goal

abbrev pub invariant-loop-k : goal.invariant-loop-k
invariant-loop-k g l =
    IsLoaded g.K.RecKind.form l.list l.claimed l.frame l.from (l.from + l.k) l.initial.into.items l.into.items
    × (vec_len l.into + (l.count - l.k) ≤ vec_capacity l.into)
    × (l.steps ≡ record l.initial.steps { writes = l.initial.steps.writes + l.k })
