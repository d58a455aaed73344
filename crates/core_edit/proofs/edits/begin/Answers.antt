use Rattle.std.proofs.Common.{refl}
use Rattle.core_edit.proofs.UnitLemmas.{begins, left_of_read, on_ok}
use Rattle.core_edit.proofs.edits.begin.Goals as goal

pub returns-clause-opened : goal.returns-clause-opened
returns-clause-opened g c =
    begins g.D.Device c.open.result c.args.place.now.group c.args.place.now.heads c.args.store.now (record c.args.store.now { dev = c.open.new.dev; cache = c.open.new.cache; edit = c.open.new.self }) refl c.open.ensures.reading.sizes c.open.ensures.opened c.open.ensures.joined c.open.ensures.below

pub returns-clause-heads : goal.returns-clause-heads
returns-clause-heads g c = on_ok c.open.result (λ o. o.heads_are) c.open.ensures.opened

pub returns-clause-edits : goal.returns-clause-edits
returns-clause-edits g c = record {
  geometry = refl;
  left = left_of_read g.D.Device c.args.store.now.dev c.open.new.dev c.args.steps.now c.open.new.steps c.open.ensures.reading;
  agreed = c.open.ensures.agrees;
}
