use Rattle.std.proofs.Common.{◌<◌, ◌∙◌, sym, ap, subst}
use Rattle.geom.specs.declared.geometry.Geometry.{Geometry}
use Rattle.core_begin.proofs.BeginLemmas.{answers_on, answers_usable}
use Rattle.core_begin.proofs.starts.may_begin.Goals as goal
use Rattle.core_parts.proofs.common.EntryLemmas.{more_after, room_exit, with_err}
use Rattle.core_begin.proofs.StartLemmas.{bars_as, ready_as, room_bars}
use Rattle.unit_trust.specs.Trusts.{lacks}
use Rattle.core_begin.specs.Starts.{MayBar}
use Rattle.core_calls.specs.declared.answers.ScrubFault.{ScrubFault}
use Rattle.std.specs.Prelude.{IfErr, Result}

pub unless_skipped-requires-clause-usable : goal.unless_skipped-requires-clause-usable
unless_skipped-requires-clause-usable g c = answers_usable g.D.Device c.args.desk.now c.take_room.new.desk _ c.in_ok-take_room.ensures.answers

pub unless_skipped-requires-clause-all : goal.unless_skipped-requires-clause-all
unless_skipped-requires-clause-all g c = c.requires.all ∙ sym (ap (λ (x : Geometry). x.agcount) c.in_ok-take_room.ensures.answers.steady.geometry)

pub unless_skipped-requires-clause-group : goal.unless_skipped-requires-clause-group
unless_skipped-requires-clause-group g c = subst (λ (x : Geometry). c.args.g < x.agcount) (sym c.in_ok-take_room.ensures.answers.steady.geometry) c.requires.group

pub returns : goal.returns
returns g c = record {
  answers = answers_on g.D.Device c.args.desk.now c.take_room.new.desk c.unless_skipped.new.desk c.unless_skipped.result c.in_ok-take_room.ensures.answers.steady c.unless_skipped.ensures.answers;
  entries = more_after c.args.desk.now c.take_room.new.desk c.unless_skipped.new.desk _ c.in_ok-take_room.ensures.items c.unless_skipped.ensures.entries;
  ready = ready_as _ (lacks c.args.groups.now c.args.desk.now.store.geo.agcount c.args.g c.args.unit) c.unless_skipped.result (ap (λ (x : Geometry). lacks c.args.groups.now x.agcount c.args.g c.args.unit) c.in_ok-take_room.ensures.answers.steady.geometry) c.unless_skipped.ensures.ready;
  bars = bars_as _ (lacks c.args.groups.now c.args.desk.now.store.geo.agcount c.args.g c.args.unit) c.unless_skipped.result (ap (λ (x : Geometry). lacks c.args.groups.now x.agcount c.args.g c.args.unit) c.in_ok-take_room.ensures.answers.steady.geometry) c.unless_skipped.ensures.bars;
}

pub returns-in_err-take_room-clause-entries : goal.returns-in_err-take_room-clause-entries
returns-in_err-take_room-clause-entries g c =
    room_exit c.args.desk.now c.take_room.new.desk c.args.g c.args.unit c.in_err-take_room.field-0.0 c.from_residual.result c.from_residual.ensures c.in_err-take_room.ensures.items c.in_err-take_room.ensures.wants

pub returns-in_err-take_room-clause-bars : goal.returns-in_err-take_room-clause-bars
returns-in_err-take_room-clause-bars g c =
    with_err (λ (r : Result (Unit {0}) ScrubFault). IfErr r (MayBar (lacks c.args.groups.now c.args.desk.now.store.geo.agcount c.args.g c.args.unit))) c.in_err-take_room.field-0.0 c.from_residual.result c.from_residual.ensures
    (room_bars (lacks c.args.groups.now c.args.desk.now.store.geo.agcount c.args.g c.args.unit) c.in_err-take_room.field-0.0 c.in_err-take_room.ensures.wants)
