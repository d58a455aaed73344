use Rattle.core_parts.proofs.common.AskLemmas.{steady_on}
use Rattle.std.proofs.Common.{◌<◌, refl, sym, subst, ◌∙◌, List, ap}
use Rattle.geom.specs.declared.geometry.Geometry.{Geometry}
use Rattle.core_begin.proofs.AfterLemmas.{err_then}
use Rattle.core_begin.proofs.BeginLemmas.{safe_desk}
use Rattle.core_begin.proofs.starts.start.Goals as goal
use Rattle.core_parts.proofs.common.EntryLemmas.{more_after, same_of_none, with_err}
use Rattle.core_begin.proofs.StartLemmas.{all_room_bars, ready_on}
use Rattle.unit_trust.specs.Trusts.{lacks}
use Rattle.core_begin.specs.Starts.{MayBar}
use Rattle.core_calls.specs.declared.answers.ScrubFault.{ScrubFault}
use Rattle.core_parts.specs.declared.groups.GroupKept.{GroupKept}
use Rattle.std.specs.Prelude.{IfErr, Result}

pub open_unit-requires-clause-safe : goal.open_unit-requires-clause-safe
open_unit-requires-clause-safe g c =
    safe_desk g.D.Device c.args.parts.now _ c.requires.safe c.in_ok-may_begin.ensures.answers.desk c.in_ok-may_begin.ensures.answers.steady refl refl

pub open_unit-requires-clause-group : goal.open_unit-requires-clause-group
open_unit-requires-clause-group g c = subst (λ (x : Geometry). c.args.g < x.agcount) (sym c.in_ok-may_begin.ensures.answers.steady.geometry) c.requires.group

pub returns-in_err-may_begin-clause-safe : goal.returns-in_err-may_begin-clause-safe
returns-in_err-may_begin-clause-safe g c =
    safe_desk g.D.Device c.args.parts.now _ c.requires.safe c.in_err-may_begin.ensures.answers.desk c.in_err-may_begin.ensures.answers.steady refl refl

pub returns-clause-steady : goal.returns-clause-steady
returns-clause-steady g c =
    steady_on g.D.Device c.args.parts.now.desk c.may_begin.new.desk c.open_unit.new.parts.desk c.in_ok-may_begin.ensures.answers.steady c.open_unit.ensures.steady

pub returns-clause-entries : goal.returns-clause-entries
returns-clause-entries g c =
    more_after c.args.parts.now.desk c.may_begin.new.desk c.open_unit.new.parts.desk _
    (same_of_none c.args.parts.now.desk c.may_begin.new.desk c.in_ok-may_begin.ensures.entries) c.open_unit.ensures.entries

pub returns-clause-kept : goal.returns-clause-kept
returns-clause-kept g c = err_then c.open_unit.result (λ s. record { units = s.units; groups = s.groups }) c.open_unit.ensures.kept

pub returns-clause-ready : goal.returns-clause-ready
returns-clause-ready g c = ready_on c.open_unit.result (ap (λ (ks : List GroupKept). lacks ks c.args.parts.now.desk.store.geo.agcount c.args.g c.args.unit) (sym c.as_slice-groups.ensures.value) ∙ c.in_ok-may_begin.ensures.ready)

pub returns-clause-bars : goal.returns-clause-bars
returns-clause-bars g c = all_room_bars (lacks c.args.parts.now.groups.items c.args.parts.now.desk.store.geo.agcount c.args.g c.args.unit) c.open_unit.result c.open_unit.ensures.wants

pub returns-in_err-may_begin-clause-bars : goal.returns-in_err-may_begin-clause-bars
returns-in_err-may_begin-clause-bars g c =
    with_err (λ (r : Result (Unit {0}) ScrubFault). IfErr r (MayBar (lacks c.args.parts.now.groups.items c.args.parts.now.desk.store.geo.agcount c.args.g c.args.unit))) c.in_err-may_begin.field-0.0 c.from_residual.result c.from_residual.ensures
    (subst (λ (ks : List GroupKept). MayBar (lacks ks c.args.parts.now.desk.store.geo.agcount c.args.g c.args.unit) c.in_err-may_begin.field-0.0) c.as_slice-groups.ensures.value c.in_err-may_begin.ensures.bars)
