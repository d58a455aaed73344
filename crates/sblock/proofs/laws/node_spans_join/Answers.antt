use Rattle.sblock.proofs.SpanLemmas.{subtrees_append}
use Rattle.sblock.proofs.laws.node_spans_join.Goals as goal

pub returns : goal.returns
returns g c = subtrees_append g.K.RecKind.form g.met.K.RecKind.lawful
