use Rattle.std.proofs.Common.{sym, ◌∙◌}
use Rattle.unit_plan.proofs.JoinLemmas.{before_to, others_from}
use Rattle.unit_plan.proofs.runs.place_near.Goals as goal

pub place_between-requires-clause-others : goal.place_between-requires-clause-others
place_between-requires-clause-others c = others_from c.args.pieces.now c.args.next.now c.requires.sorted c.args.at c.requires.within (sym c.is_before.ensures ∙ c.if-not-is_before.true)

pub place_from-requires-clause-before : goal.place_from-requires-clause-before
place_from-requires-clause-before c = before_to c.args.pieces.now c.args.next.now c.requires.sorted c.args.at c.requires.within (sym c.is_before.ensures ∙ c.if-not-is_before.false)
