-- How a fault shows a record of each kind.
use Rattle.fs_model.specs.declared.«record».AnyRec.{AnyRec}
use Rattle.fs_model.specs.declared.«record».AnyRec.TheVariants.{Bno, Cnt, Rmap, Refc, Ino, Fino}
use Rattle.ino_recs.specs.declared.chunk.InoRec.{InoRec}
use Rattle.rmap_recs.specs.declared.records.RmapRec.{RmapRec}
use Rattle.span_recs.specs.declared.refcount.RefcRec.{RefcRec}
use Rattle.span_recs.specs.declared.span.SpanRec.{SpanRec}

abbrev pub Shown : Type 0 → Type 0
Shown R = R → AnyRec

abbrev pub bno_shown : Shown SpanRec
bno_shown rec = Bno rec

abbrev pub cnt_shown : Shown SpanRec
cnt_shown rec = Cnt rec

abbrev pub rmap_shown : Shown RmapRec
rmap_shown rec = Rmap rec

abbrev pub refc_shown : Shown RefcRec
refc_shown rec = Refc rec

abbrev pub ino_shown : Shown InoRec
ino_shown rec = Ino rec

abbrev pub fino_shown : Shown InoRec
fino_shown rec = Fino rec
