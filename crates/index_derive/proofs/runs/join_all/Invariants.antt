use Rattle.std.proofs.Common.{◌≡◌, ◌++◌, drop}
use Rattle.index_derive.specs.Runs.{merged}
use Rattle.index_derive.proofs.runs.join_all.Given as goal

-- what was found, and what is left behind the span, is the whole
abbrev pub invariant-loop-run : goal.invariant-loop-run
invariant-loop-run l = l.found.items ++ merged l.span.start l.span.end (drop l.run-index l.runs) ≡ merged 0 0 l.runs
