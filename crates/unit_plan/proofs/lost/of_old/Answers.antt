use Rattle.std.proofs.Common.{◌≡◌, List, map, sym, subst}
use Rattle.derive_defs.specs.Free.{is_free}
use Rattle.derive_defs.specs.Mappings.{EndWithin}
use Rattle.run_sets.specs.declared.run.Run.{Run}
use Rattle.run_sets.specs.Runs.{AreRunsBelow}
use Rattle.unit_plan.specs.Lost.{is_of_old, is_read, of_run}
use Rattle.unit_plan.proofs.LostLemmas.{ends_of_pieces, ends_of_runs, if_ok, old_are, runs_end}
use Rattle.unit_plan.proofs.lost.of_old.Goals as goal

pub outside-requires : goal.outside-requires
outside-requires c = subst (EndWithin c.args.length) (sym c.in_ok-old_trees.ensures) (ends_of_pieces c.args.length (λ p. is_read c.args.ino c.args.fino p.claim) c.args.pieces.now c.requires)

pub outside-requires-2 : goal.outside-requires-2
outside-requires-2 c =
    let gaps : AreRunsBelow (is_free c.in_ok-old_trees.field-0.items) c.args.length c.as_slice.result.now = subst (λ (rs : List Run). AreRunsBelow (is_free c.in_ok-old_trees.field-0.items) c.args.length rs) (sym c.as_slice.ensures.value) c.in_ok-others.ensures in
    let are : c.in_ok-held.held.items ≡ map of_run c.as_slice.result.now = c.in_ok-held.ensures in
    subst (EndWithin c.args.length) (sym are) (ends_of_runs c.args.length c.as_slice.result.now (runs_end (is_free c.in_ok-old_trees.field-0.items) c.args.length c.as_slice.result.now gaps))

pub returns : goal.returns
returns c =
    let gaps : AreRunsBelow (is_free c.in_ok-old_trees.field-0.items) c.args.length c.as_slice.result.now = subst (λ (rs : List Run). AreRunsBelow (is_free c.in_ok-old_trees.field-0.items) c.args.length rs) (sym c.as_slice.ensures.value) c.in_ok-others.ensures in
    let are : c.in_ok-held.held.items ≡ map of_run c.as_slice.result.now = c.in_ok-held.ensures in
    if_ok c.outside-2.result (λ runs. AreRunsBelow (is_free c.in_ok-held.held.items) c.args.length runs.items) (λ runs. AreRunsBelow (is_of_old c.args.ino c.args.fino c.args.pieces.now) c.args.length runs.items)
    (λ runs h. old_are c.args.length c.args.ino c.args.fino c.args.pieces.now c.in_ok-old_trees.field-0.items c.in_ok-held.held.items c.as_slice.result.now runs.items c.in_ok-old_trees.ensures are gaps h) c.outside-2.ensures
