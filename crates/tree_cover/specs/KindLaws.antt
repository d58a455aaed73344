-- Each kind but that of free space by count covers blocks in its order.
use Rattle.std.proofs.Common.{◌≡◌, ℕ, ◌<◌, Bool, true, false, arith}
use Rattle.std.specs.Prelude.{if◌then◌else◌}
use Rattle.std.proofs.lemmas.Bool.{and_parts, leb-true}
use Rattle.sblock.specs.declared.block.Bounds.{Bounds}
use Rattle.rmap_recs.specs.Rmap.{rmap_form}
use Rattle.span_recs.specs.Spans.{bno_form, is_span_in_range}
use Rattle.span_recs.specs.Refcounts.{refc_form, is_refc_in_range}
use Rattle.span_recs.specs.declared.refcount.RefcRec.{RefcRec}
use Rattle.span_recs.specs.declared.span.SpanRec.{SpanRec}
use Rattle.ino_recs.specs.Chunks.{ino_form, fino_form}
use Rattle.tree_cover.specs.Covers.{CoversBlocks}

-- a number that counts where the form of the record is supported
counted : (supported : Bool) (n : ℕ) → 0 < n → supported ≡ true → 0 < (if supported then n else 0)
counted true n h e = h
counted false n h e = cc

pub covers_rmap : CoversBlocks rmap_form
covers_rmap = record {
  by_block = λ e. cc;
  some = λ bounds r inside supported. leb-true 1 r.count (and_parts _ _ (and_parts _ _ inside).0).0;
}

span_some : (bounds : Bounds) (r : SpanRec) → is_span_in_range bounds r ≡ true → 0 < r.count
unfolding is_span_in_range
span_some bounds r inside = leb-true 1 r.count (and_parts _ _ (and_parts _ _ inside).0).1

pub covers_bno : CoversBlocks bno_form
covers_bno = record { by_block = λ e. cc; some = λ bounds r inside supported. span_some bounds r inside }

refc_some : (bounds : Bounds) (r : RefcRec) → is_refc_in_range bounds r ≡ true → 0 < r.count
unfolding is_refc_in_range
refc_some bounds r inside = leb-true 1 r.count (and_parts _ _ (and_parts _ _ (and_parts _ _ inside).0).0).1

pub covers_refc : CoversBlocks refc_form
covers_refc = record { by_block = λ e. cc; some = λ bounds r inside supported. refc_some bounds r inside }

pub covers_ino : CoversBlocks ino_form
covers_ino = record { by_block = λ e. cc; some = λ bounds r inside supported. counted _ 8 (omega arith) supported }

pub covers_fino : CoversBlocks fino_form
covers_fino = record { by_block = λ e. cc; some = λ bounds r inside supported. counted _ 8 (omega arith) supported }
