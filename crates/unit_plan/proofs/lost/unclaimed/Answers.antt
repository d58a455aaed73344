use Rattle.std.proofs.Common.{◌≡◌, ◌∙◌, ◌++◌, ◌==◌, not, List, [], filter, map, ap, sym, subst}
use Rattle.derive_defs.specs.Free.{is_free}
use Rattle.derive_defs.specs.Mappings.{EndWithin}
use Rattle.rmap_recs.specs.declared.records.RmapRec.{RmapRec}
use Rattle.run_sets.specs.declared.run.Run.{Run}
use Rattle.run_sets.specs.Runs.{AreRunsBelow}
use Rattle.unit_plan.specs.Lost.{is_old, is_unclaimed, of_piece, of_run}
use Rattle.unit_plan.proofs.LostLemmas.{ends_filtered, held_ends, if_ok, runs_end, unclaimed_are}
use Rattle.unit_plan.proofs.lost.unclaimed.Goals as goal

pub outside-requires : goal.outside-requires
outside-requires c = subst (EndWithin c.args.length) (sym c.in_ok-mappings_of.ensures) (ends_filtered c.args.length (λ r. r.owner == c.args.owner) c.args.mappings.now c.requires.mappings)

pub outside-requires-2 : goal.outside-requires-2
outside-requires-2 c =
    let gaps : AreRunsBelow (is_free c.in_ok-mappings_of.field-0.items) c.args.length c.as_slice.result.now = subst (λ (rs : List Run). AreRunsBelow (is_free c.in_ok-mappings_of.field-0.items) c.args.length rs) (sym c.as_slice.ensures.value) c.in_ok-others.ensures in
    let are : c.put_runs.new.held.items ≡ map of_piece (filter (λ p. not (is_old c.args.unit p.claim)) c.args.pieces.now) ++ map of_run c.as_slice.result.now =
    c.in_ok-put_runs.ensures ∙ ap (λ (xs : List RmapRec). xs ++ map of_run c.as_slice.result.now) c.in_ok-held.ensures in
    held_ends c.args.length c.args.pieces.now c.args.unit c.put_runs.new.held.items c.as_slice.result.now [] are c.requires.pieces (runs_end (is_free c.in_ok-mappings_of.field-0.items) c.args.length c.as_slice.result.now gaps)

pub returns : goal.returns
returns c =
    let gaps : AreRunsBelow (is_free c.in_ok-mappings_of.field-0.items) c.args.length c.as_slice.result.now = subst (λ (rs : List Run). AreRunsBelow (is_free c.in_ok-mappings_of.field-0.items) c.args.length rs) (sym c.as_slice.ensures.value) c.in_ok-others.ensures in
    let are : c.put_runs.new.held.items ≡ map of_piece (filter (λ p. not (is_old c.args.unit p.claim)) c.args.pieces.now) ++ map of_run c.as_slice.result.now =
    c.in_ok-put_runs.ensures ∙ ap (λ (xs : List RmapRec). xs ++ map of_run c.as_slice.result.now) c.in_ok-held.ensures in
    if_ok c.outside-2.result (λ runs. AreRunsBelow (is_free c.put_runs.new.held.items) c.args.length runs.items) (λ runs. AreRunsBelow (is_unclaimed c.args.unit c.args.owner c.args.mappings.now c.args.pieces.now) c.args.length runs.items)
    (λ runs h. unclaimed_are c.args.length c.args.pieces.now c.args.unit c.put_runs.new.held.items c.as_slice.result.now runs.items are c.args.owner c.args.mappings.now c.in_ok-mappings_of.field-0.items c.in_ok-mappings_of.ensures gaps h) c.outside-2.ensures
