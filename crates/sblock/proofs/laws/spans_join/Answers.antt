use Rattle.sblock.proofs.SpanLemmas.{span_append}
use Rattle.sblock.proofs.laws.spans_join.Goals as goal

pub returns : goal.returns
returns g c = span_append g.K.RecKind.form g.met.K.RecKind.lawful
