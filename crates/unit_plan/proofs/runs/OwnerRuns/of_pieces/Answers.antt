use Rattle.std.proofs.Common.{map, sym, ◌∙◌}
use Rattle.std.proofs.lemmas.Bool.{false≢true}
use Rattle.unit_plan.specs.Lost.{of_piece}
use Rattle.unit_plan.proofs.InOrder.{runs_are}
use Rattle.unit_plan.proofs.runs.OwnerRuns.of_pieces.Goals as goal

pub returns-then-not-put_in_row-clause-exact : goal.returns-then-not-put_in_row-clause-exact
returns-then-not-put_in_row-clause-exact c = λ once ts tuples. absurd (false≢true (sym c.if-not-put_in_row.true ∙ c.put_in_row.ensures.once once))

pub returns-clause-exact : goal.returns-clause-exact
returns-clause-exact c = λ once ts tuples.
    runs_are c.args.pieces.items c.put_in_row.new.pieces.items c.put_in_row.ensures.kept once (map of_piece c.joined.result.items) (c.put_in_row.ensures.row c.if-not-put_in_row.false) c.joined.ensures.exact ts tuples
