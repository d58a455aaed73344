use Rattle.std.proofs.Common.{subst, sym}
use Rattle.sblock.specs.Blocks.{IsRising}
use Rattle.span_recs.specs.Spans.{bno_form}
use Rattle.core_units.specs.TreesFit.{CanTake}
use Rattle.core_units.proofs.TakenLemmas.{rising}
use Rattle.core_units.proofs.reserve.settle.Goals as goal

pub by_count-requires : goal.by_count-requires
by_count-requires c = record { rising = subst (IsRising bno_form) (sym c.as_slice.ensures.value) (rising 0 c.in-Free.bno.items (subst CanTake c.in-Free.is c.requires)) }
