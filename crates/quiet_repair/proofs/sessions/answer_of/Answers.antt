use Rattle.std.proofs.Common.{◌≡◌, subst, sym}
use Rattle.core_calls.specs.declared.asks.Ask.{Ask}
use Rattle.core_calls.specs.declared.asks.Ask.TheVariants as asks
use Rattle.fsck_core.proofs.SayLemmas.{says_as}
use Rattle.fsck_core.specs.Asks.{group_asked, phase_of_group}
use Rattle.quiet_repair.proofs.sessions.answer_of.Goals as goal

pub returns-in-Advance-clause-says : goal.returns-in-Advance-clause-says
returns-in-Advance-clause-says g c = says_as c.args.ask (asks.Advance c.in-Advance.group) c.args.parts.now c.advance_by.new.parts c.advance_by.result.0 c.in-Advance.is c.advance_by.ensures.says

pub returns-in-Advance-clause-phase : goal.returns-in-Advance-clause-phase
returns-in-Advance-clause-phase g c = subst (λ (x : Ask). c.advance_by.result.1 ≡ phase_of_group c.advance_by.new.parts.units.items (group_asked x)) (sym c.in-Advance.is) c.advance_by.ensures.phase
