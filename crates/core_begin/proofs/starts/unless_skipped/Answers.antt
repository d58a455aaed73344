use Rattle.core_begin.proofs.starts.unless_skipped.Goals as goal
use Rattle.core_begin.proofs.StartLemmas.{bars_as}
use Rattle.unit_trust.specs.Trusts.{lacks}
use Rattle.std.specs.Prelude.{Some, Err}
use Rattle.std.proofs.Common.{sym}

pub returns-in-Some-clause-bars : goal.returns-in-Some-clause-bars
returns-in-Some-clause-bars g c =
    bars_as {T = Unit {0}} (Some c.in-Some.needed) (lacks c.args.groups.now c.args.desk.now.store.geo.agcount c.args.g c.args.unit) (Err c.skip.result) c.in-Some.ensures c.skip.ensures.bars

pub returns-in-None-clause-ready : goal.returns-in-None-clause-ready
returns-in-None-clause-ready g c = sym c.in-None.ensures
