use Rattle.std.proofs.Common.{◌≡◌, ℕ, ◌<◌, sym, subst}
use Rattle.core_begin.specs.After.{left_by, MayClose}
use Rattle.core_parts.specs.declared.units.UnitState.{UnitState}
use Rattle.core_parts.specs.declared.units.Work.TheVariants as works
use Rattle.core_begin.proofs.AfterLemmas.{entries_taken, err_on, put_back}
use Rattle.core_begin.proofs.BeginLemmas.{given_usable, left_early, left_same}
use Rattle.core_begin.proofs.closing.close.Goals as goal
use Rattle.core_begin.proofs.MayLemmas.{may_after, rest_after, rest_same}

pub close_group-requires-clause-usable : goal.close_group-requires-clause-usable
close_group-requires-clause-usable g c = given_usable g.D.Device c.args.desk.now c.args.kept.now c.args.unit.now c.requires.given

pub close_group-requires-clause-group : goal.close_group-requires-clause-group
close_group-requires-clause-group g c =
    subst (λ (n : ℕ). n < c.args.desk.now.store.geo.agcount) (sym c.in-Some.ensures.taken.group) c.requires.given.unit.inside

pub returns-in-Some-clause-left : goal.returns-in-Some-clause-left
returns-in-Some-clause-left g c =
    left_early g.D.Device c.args.desk.now c.close_group.new.desk c.args.kept.now c.args.unit.now c.take_owners.new.unit c.close_group.new.unit c.close_group.result c.requires.given c.close_group.ensures.answers c.in-Some.ensures.taken c.close_group.ensures.group c.close_group.ensures.early

pub returns-in-Some-clause-entries : goal.returns-in-Some-clause-entries
returns-in-Some-clause-entries g c =
    entries_taken c.args.desk.now c.close_group.new.desk c.args.unit.now c.take_owners.new.unit c.close_group.result c.in-Some.ensures.taken.rest c.close_group.ensures.entries

pub returns-in-Some-clause-kept : goal.returns-in-Some-clause-kept
returns-in-Some-clause-kept g c =
    err_on c.close_group.result _
    (λ fault left. subst (λ (u : UnitState). c.close_group.new.unit ≡ left_by u fault)
    (put_back c.args.unit.now c.take_owners.new.unit (works.Open c.in-Some.owners) c.in-Some.ensures.taken.rest c.in-Some.ensures.owners) left)
    c.close_group.ensures.kept

pub returns-in-None-clause-left : goal.returns-in-None-clause-left
returns-in-None-clause-left g c =
    left_same g.D.Device c.args.desk.now c.args.kept.now c.args.unit.now c.take_owners.new.unit c.requires.given c.in-None.ensures.taken

pub returns-in-Some-clause-rest : goal.returns-in-Some-clause-rest
returns-in-Some-clause-rest g c = rest_after c.args.unit.now c.take_owners.new.unit c.close_group.new.unit works.Judged c.in-Some.ensures.taken.rest c.close_group.ensures.rest

pub returns-in-Some-clause-may : goal.returns-in-Some-clause-may
returns-in-Some-clause-may g c = may_after MayClose c.args.unit.now c.take_owners.new.unit works.Judged c.close_group.result c.in-Some.ensures.taken.rest c.close_group.ensures.may

pub returns-in-None-clause-rest : goal.returns-in-None-clause-rest
returns-in-None-clause-rest g c = rest_same c.args.unit.now c.take_owners.new.unit c.in-None.ensures.taken
