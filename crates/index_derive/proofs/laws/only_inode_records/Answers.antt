use Rattle.index_derive.proofs.LawLemmas.{only_ino, ino_if}
use Rattle.index_derive.proofs.laws.only_inode_records.Goals as goal

pub returns : goal.returns
returns c a g recs = (only_ino a g recs, ino_if a g recs)
