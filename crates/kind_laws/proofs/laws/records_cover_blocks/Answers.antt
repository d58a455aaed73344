use Rattle.kind_laws.proofs.KindLemmas.{bno_covers, cnt_covers, rmap_covers, refc_covers}
use Rattle.kind_laws.proofs.laws.records_cover_blocks.Goals as goal

pub returns : goal.returns
returns c = record { bno = bno_covers; cnt = cnt_covers; rmap = rmap_covers; refc = refc_covers }
