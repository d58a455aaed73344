-- The counters that follow from the records of a tree, or from its blocks ("AG Free Space Block").
use Rattle.std.specs.Prelude.{ℕ, ◌+◌, ◌-◌, List, length}
use Rattle.std.specs.List.{slice_get}
use Rattle.std.specs.Option.{option_map_or}
use Rattle.span_recs.specs.declared.span.SpanRec.{SpanRec}

-- how many blocks the last record has, of none 0
abbrev pub last_count : List SpanRec → ℕ
last_count rs = option_map_or (λ r. r.count) (slice_get rs (length rs - 1)) 0

-- How many blocks have three trees of so many blocks beside their roots?
abbrev pub beside_roots : ℕ → ℕ → ℕ → ℕ
beside_roots bno cnt rmap = (bno - 1) + (cnt - 1) + (rmap - 1)
