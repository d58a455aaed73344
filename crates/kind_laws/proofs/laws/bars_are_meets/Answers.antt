use Rattle.kind_laws.proofs.KindLemmas.{bno_bars, cnt_bars, rmap_bars, refc_bars, ino_bars, fino_bars}
use Rattle.kind_laws.proofs.laws.bars_are_meets.Goals as goal

pub returns : goal.returns
returns c = record { bno = bno_bars; cnt = cnt_bars; rmap = rmap_bars; refc = refc_bars; ino = ino_bars; fino = fino_bars }
