use Rattle.std.proofs.Common.{sym}
use Rattle.rmap_recs.proofs.SearchLemmas.{begins_where_none}
use Rattle.rmap_recs.proofs.tuples.begins_run.Goals as goal

pub returns-in-None : goal.returns-in-None
returns-in-None c = sym (begins_where_none c.args.tuples.now c.args.tuple.now (λ v goes. let none = c.in-None.ensures.only v goes in cc))
