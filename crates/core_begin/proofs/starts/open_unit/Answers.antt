use Rattle.std.proofs.Common.{◌≡◌, ◌∙◌, List, refl, ap, sym}
use Rattle.core_parts.specs.Opens.Inodes.{are_trees}
use Rattle.core_parts.specs.declared.groups.GroupKept.{GroupKept}
use Rattle.geom.specs.Places.{layout}
use Rattle.core_begin.proofs.BeginLemmas.{early_works, safe_desk, safe_on, where_on}
use Rattle.core_begin.proofs.starts.open_unit.Goals as goal
use Rattle.core_parts.proofs.common.EntryLemmas.{none_more, room_exit, with_err}
use Rattle.core_parts.specs.Common.Entries.{WantsRoom}
use Rattle.core_calls.specs.declared.answers.ScrubFault.{ScrubFault}
use Rattle.std.specs.Prelude.{IfErr, Result}

pub returns-in_err-work-clause-safe : goal.returns-in_err-work-clause-safe
returns-in_err-work-clause-safe g c =
    safe_desk g.D.Device c.args.parts.now _ c.requires.safe c.in_err-work.ensures.answers.desk c.in_err-work.ensures.answers.steady refl refl

pub returns-clause-safe : goal.returns-clause-safe
returns-clause-safe g c =
    let at = layout c.args.parts.now.desk.store.geo in
    let here = early_works at c.args.g c.in_ok-work.work c.in_ok-work.ensures.early in
    let works = c.add_unit.ensures.works at (record { inside = c.requires.group; work = here }) c.requires.safe.works in
    safe_on g.D.Device c.args.parts.now _ c.requires.safe c.in_ok-work.ensures.answers.desk c.in_ok-work.ensures.answers.steady c.end_pass.ensures.many c.add_unit.ensures.many works (c.end_pass.ensures.kept c.requires.safe.limbos)

pub returns-clause-trees : goal.returns-clause-trees
returns-clause-trees g c =
    where_on
    {P = c.first_work.new.desk.ino_trees.items ≡ are_trees 0 c.as_slice.result.now}
    {Q = c.first_work.new.desk.ino_trees.items ≡ are_trees 0 c.end_pass.new.groups.items}
    c.args.unit
    (λ is. is ∙ (ap (λ (ks : List GroupKept). are_trees 0 ks) c.as_slice.ensures.value ∙ sym c.end_pass.ensures.trees))
    c.in_ok-work.ensures.trees

pub returns-in_err-work-clause-entries : goal.returns-in_err-work-clause-entries
returns-in_err-work-clause-entries g c =
    room_exit c.args.parts.now.desk c.first_work.new.desk c.args.g c.args.unit c.in_err-work.field-0.0 c.from_residual.result c.from_residual.ensures c.in_err-work.ensures.items c.in_err-work.ensures.wants

pub returns-clause-entries : goal.returns-clause-entries
returns-clause-entries g c = none_more c.args.parts.now.desk c.first_work.new.desk c.in_ok-work.ensures.items

pub returns-clause-opened : goal.returns-clause-opened
returns-clause-opened g c = record { work = c.in_ok-work.work; units = c.add_unit.ensures.put }

pub returns-in_err-work-clause-wants : goal.returns-in_err-work-clause-wants
returns-in_err-work-clause-wants g c =
    with_err (λ (r : Result (Unit {0}) ScrubFault). IfErr r WantsRoom) c.in_err-work.field-0.0 c.from_residual.result c.from_residual.ensures c.in_err-work.ensures.wants
