use Rattle.std.proofs.Common.{rules, ◌≡◌, ◌≤◌, ℕ, false, length, nat_lt, of_calls, arith, sym, ◌∙◌}
use Rattle.std.proofs.lemmas.Bool.Decides.{nat_tests}
use Rattle.std.proofs.lemmas.Fn.{always_returns_same}
use Rattle.rmap_recs.specs.Runs.{is_tuple_before}
use Rattle.rmap_recs.proofs.SearchLemmas.{parted, found_there, not_there}
use Rattle.rmap_recs.proofs.tuples.is_among.Goals as goal

past : (a b : ℕ) → b ≤ a → nat_lt a b ≡ false
past a b h = grind (arith, nat_tests)

pub returns-then-place-tuples : goal.returns-then-place-tuples
returns-then-place-tuples c =
    let ts = c.args.tuples.now in
    let t = c.args.tuple.now in
    let point = c.partition_point-place.ensures.partitioned (λ u. is_tuple_before u t) (always_returns_same _ _ _ (λ a r f k. search (rules, of_calls))) (parted ts t c.requires) in
    c.is_same.ensures ∙ found_there ts t c.requires c.partition_point-place.result point (record { block = 0; owner = 0; word = 0 }) c.if-place-tuples.true

pub returns-else-place-tuples : goal.returns-else-place-tuples
returns-else-place-tuples c =
    let ts = c.args.tuples.now in
    let t = c.args.tuple.now in
    let point = c.partition_point-place.ensures.partitioned (λ u. is_tuple_before u t) (always_returns_same _ _ _ (λ a r f k. search (rules, of_calls))) (parted ts t c.requires) in
    past c.partition_point-place.result (length ts) c.if-place-tuples.false ∙ sym (not_there ts t c.requires c.partition_point-place.result point c.if-place-tuples.false)
