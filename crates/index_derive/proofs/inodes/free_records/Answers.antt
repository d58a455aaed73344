use Rattle.std.proofs.Common.{◌≡◌, ◌∙◌}
use Rattle.std.specs.Prelude.{filter, nat_lt}
use Rattle.std.proofs.lemmas.Result.{IfOk-weaker}
use Rattle.index_derive.proofs.LawLemmas.{fino_from}
use Rattle.index_derive.proofs.inodes.free_records.Goals as goal

pub returns-clause-exact : goal.returns-clause-exact
returns-clause-exact c a g same = IfOk-weaker c.with_free.result (λ found. found.items ≡ filter (λ r. nat_lt 0 r.freecount) c.args.recs.now) _ (λ found is. is ∙ fino_from a g c.args.recs.now same) c.with_free.ensures
