use Rattle.index_derive.proofs.LawLemmas.{only_fino, fino_if}
use Rattle.index_derive.proofs.laws.only_free_records.Goals as goal

pub returns : goal.returns
returns c a g recs = (only_fino a g recs, fino_if a g recs)
