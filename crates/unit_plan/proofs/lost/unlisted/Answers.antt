use Rattle.std.proofs.Common.{◌≡◌, ◌∙◌, ◌++◌, not, List, [], filter, map, ap, refl, sym, subst}
use Rattle.derive_defs.specs.Free.{is_free}
use Rattle.fs_model.specs.declared.unit.Unit.TheVariants as units
use Rattle.rmap_recs.specs.declared.records.RmapRec.{RmapRec}
use Rattle.run_sets.specs.declared.run.Run.{Run}
use Rattle.run_sets.specs.Runs.{AreRunsBelow, EndWithin as RunsEnd}
use Rattle.unit_plan.specs.Lost.{is_old, is_unlisted, of_piece, of_run}
use Rattle.unit_plan.specs.Spans.{span_run}
use Rattle.unit_plan.proofs.LostLemmas.{held_ends, if_ok, unlisted_are}
use Rattle.unit_plan.proofs.lost.unlisted.Goals as goal

pub outside-requires : goal.outside-requires
outside-requires c =
    let listed : c.as_slice.result.now ≡ map span_run c.args.free.now = c.as_slice.ensures.value ∙ c.in_ok-listed.ensures in
    let are : c.put_runs.new.held.items ≡ map of_piece (filter (λ p. not (is_old units.Rmap p.claim)) c.args.pieces.now) ++ map of_run c.as_slice.result.now =
    c.in_ok-put_runs.ensures ∙ ap (λ (xs : List RmapRec). xs ++ map of_run c.as_slice.result.now) c.in_ok-held.ensures in
    held_ends c.args.length c.args.pieces.now units.Rmap c.put_runs.new.held.items c.as_slice.result.now [] are c.requires.pieces (subst (λ (rs : List Run). RunsEnd c.args.length rs) (sym listed) c.requires.free)

pub returns : goal.returns
returns c =
    let listed : c.as_slice.result.now ≡ map span_run c.args.free.now = c.as_slice.ensures.value ∙ c.in_ok-listed.ensures in
    let are : c.put_runs.new.held.items ≡ map of_piece (filter (λ p. not (is_old units.Rmap p.claim)) c.args.pieces.now) ++ map of_run c.as_slice.result.now =
    c.in_ok-put_runs.ensures ∙ ap (λ (xs : List RmapRec). xs ++ map of_run c.as_slice.result.now) c.in_ok-held.ensures in
    if_ok c.outside.result (λ runs. AreRunsBelow (is_free c.put_runs.new.held.items) c.args.length runs.items) (λ runs. AreRunsBelow (is_unlisted c.args.free.now c.args.pieces.now) c.args.length runs.items)
    (λ runs h. unlisted_are c.args.length c.args.pieces.now units.Rmap c.put_runs.new.held.items c.as_slice.result.now runs.items are c.args.free.now refl listed h) c.outside.ensures
