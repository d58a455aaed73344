use Rattle.std.proofs.Common.{List, subst, rules}
use Rattle.std.specs.List.Sorted.{IsPermutation}
use Rattle.span_recs.specs.declared.span.SpanRec.{SpanRec}
use Rattle.span_recs.specs.Spans.{is_span_in_range}
use Rattle.derive_defs.proofs.ByCountLemmas.{sorted_by_key, are_by_count, only_by_count, each_kept}
use Rattle.derive_defs.proofs.sorting.by_count.Goals as goal

pub returns-clause-exact : goal.returns-clause-exact
returns-clause-exact c =
    are_by_count c.args.free.now c.sort_by_key.new.self.items c.requires.rising
    (subst (λ (xs : List SpanRec). IsPermutation xs c.sort_by_key.new.self.items) c.in_ok-sorted.ensures.items c.sort_by_key.ensures.permutation)
    (sorted_by_key c.sort_by_key.new.self.items c.in_ok-sort_by_key.ensures.sorted (λ a r q k. search rules))

pub returns-clause-inside : goal.returns-clause-inside
returns-clause-inside c bounds each =
    each_kept (is_span_in_range bounds) c.args.free.now c.sort_by_key.new.self.items
    (subst (λ (xs : List SpanRec). IsPermutation xs c.sort_by_key.new.self.items) c.in_ok-sorted.ensures.items c.sort_by_key.ensures.permutation) each

pub returns-clause-value : goal.returns-clause-value
returns-clause-value c = only_by_count c.args.free.now c.sort_by_key.new.self.items c.requires.rising (returns-clause-exact c)
