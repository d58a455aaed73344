use Rattle.std.proofs.Common.{◌≡◌, ◌<◌, ℕ, true, refl, sym, subst}
use Rattle.geom.specs.Places.{device_block}
use Rattle.join_blocks.specs.Joins.{is_joined}
use Rattle.core_edit.proofs.StoreLemmas.{room_stays}
use Rattle.core_edit.proofs.UnitLemmas.{closes_keeps, closes_ready}
use Rattle.core_edit.proofs.edits.commit.Goals as goal

pub close-requires-clause-group : goal.close-requires-clause-group
close-requires-clause-group g c = subst (λ (n : ℕ). n < c.args.store.now.geo.agcount) (sym c.requires.opened.group) c.requires.group

pub close-requires-clause-joined : goal.close-requires-clause-joined
close-requires-clause-joined g c = subst (λ (n : ℕ). is_joined c.args.store.now.edit.txn.blocks (device_block c.args.store.now.geo n 0) ≡ true) (sym c.requires.opened.group) c.requires.opened.joined

pub returns-clause-keeps : goal.returns-clause-keeps
returns-clause-keeps g c =
    closes_keeps g.D.Device c.args.store.now (record c.args.store.now { dev = c.close.new.dev; cache = c.close.new.cache; edit = c.close.new.self }) c.close.result c.close.ensures.sizes c.close.ensures.told c.close.ensures.cause refl

pub returns-clause-room : goal.returns-clause-room
returns-clause-room g c =
    let new = record c.args.store.now { dev = c.close.new.dev; cache = c.close.new.cache; edit = c.close.new.self } in
    room_stays g.D.Device c.args.store.now new (closes_keeps g.D.Device c.args.store.now new c.close.result c.close.ensures.sizes c.close.ensures.told c.close.ensures.cause refl) c.requires.ready.room

pub returns-clause-ready : goal.returns-clause-ready
returns-clause-ready g c =
    let new = record c.args.store.now { dev = c.close.new.dev; cache = c.close.new.cache; edit = c.close.new.self } in
    closes_ready g.D.Device c.args.store.now new c.close.result (closes_keeps g.D.Device c.args.store.now new c.close.result c.close.ensures.sizes c.close.ensures.told c.close.ensures.cause refl) c.requires.ready.room c.close.ensures.agrees
