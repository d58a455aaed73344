use Rattle.std.proofs.Common.{◌≡◌, List, map, sym, subst, rules}
use Rattle.std.specs.List.Sorted.{IsNonDecreasingBy}
use Rattle.std.proofs.lemmas.List.Sorted.{IsNonDecreasingBy-from_sort_by_key}
use Rattle.derive_defs.specs.Free.{is_free, AreFree}
use Rattle.derive_defs.specs.Mappings.{EndWithin, StartsRise}
use Rattle.rmap_recs.specs.declared.records.RmapRec.{RmapRec}
use Rattle.run_sets.specs.Runs.{AreRunsBelow}
use Rattle.span_recs.specs.declared.span.SpanRec.{SpanRec}
use Rattle.unit_plan.specs.Spans.{span_run}
use Rattle.unit_plan.proofs.LostLemmas.{ends_permuted, if_ok, outside_are, starts_rise}
use Rattle.unit_plan.proofs.lost.outside.Goals as goal

pub free_of-requires-clause-rising : goal.free_of-requires-clause-rising
free_of-requires-clause-rising c =
    let up : IsNonDecreasingBy (λ (r : RmapRec). r.start) c.sort_unstable_by_key.new.self.items
    = IsNonDecreasingBy-from_sort_by_key (λ (r : RmapRec). r.start) c.sort_unstable_by_key.new.self.items c.sort_unstable_by_key.ensures.sorted (λ a r q k. search rules) in
    subst StartsRise (sym c.as_slice.ensures.value) (starts_rise c.sort_unstable_by_key.new.self.items up)

pub free_of-requires-clause-within : goal.free_of-requires-clause-within
free_of-requires-clause-within c = subst (EndWithin c.args.length) (sym c.as_slice.ensures.value) (ends_permuted c.args.length c.args.held.items c.sort_unstable_by_key.new.self.items c.sort_unstable_by_key.ensures.permutation c.requires)

pub returns : goal.returns
returns c =
    let free : AreFree c.args.length c.sort_unstable_by_key.new.self.items c.as_slice-2.result.now =
    subst (λ (xs : List RmapRec). AreFree c.args.length xs c.as_slice-2.result.now) c.as_slice.ensures.value (subst (λ (ys : List SpanRec). AreFree c.args.length c.as_slice.result.now ys) (sym c.as_slice-2.ensures.value) c.in_ok-free.ensures.exact) in
    if_ok c.runs_of.result (λ runs. runs.items ≡ map span_run c.as_slice-2.result.now) (λ runs. AreRunsBelow (is_free c.args.held.items) c.args.length runs.items)
    (λ runs h. outside_are c.args.length c.args.held.items c.sort_unstable_by_key.new.self.items c.as_slice-2.result.now runs.items c.sort_unstable_by_key.ensures.permutation free h) c.runs_of.ensures
