use Rattle.std.proofs.Common.{ℕ, ◌≤◌, ◌∙◌, subst}
use Rattle.sblock.specs.Blocks.{numrecs}
use Rattle.place_plan.specs.Counts.{most_at}
use Rattle.place_apply.proofs.CauseLemmas.{quiet_after}
use Rattle.place_apply.proofs.FitLemmas.{room_at}
use Rattle.place_apply.proofs.rewrite.even.Goals as goal

pub both-items-requires-clause-first : goal.both-items-requires-clause-first
both-items-requires-clause-first g c = room_at g.K.RecKind.form c.args.task.now.ask.site c.args.first.level c.args.first.root c.args.first.block c.in_ok-a.a.bytes c.in_ok-a.ensures.passes

pub both-items-requires-clause-second : goal.both-items-requires-clause-second
both-items-requires-clause-second g c =
    subst (λ (level : ℕ). numrecs c.in_ok-b.b.bytes ≤ most_at g.K.RecKind.form.kind level) c.requires.level
    (room_at g.K.RecKind.form c.args.task.now.ask.site c.args.second.level c.args.second.root c.args.second.block c.in_ok-b.b.bytes c.in_ok-b.ensures.passes)

pub returns-then-items-most-clause-cause : goal.returns-then-items-most-clause-cause
returns-then-items-most-clause-cause g c = quiet_after c.put_halves.result _ _ c.put_halves.ensures.quiet (c.in_ok-b.ensures.cause ∙ c.in_ok-a.ensures.cause)
