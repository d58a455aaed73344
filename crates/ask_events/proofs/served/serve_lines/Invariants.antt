use Rattle.core_parts.specs.Safe.{IsSafe}
use Rattle.ask_events.proofs.served.serve_lines.Given as goal

-- the core stays in order
abbrev pub invariant-loop-line : goal.invariant-loop-line
invariant-loop-line g l = IsSafe g.D.Device l.core.parts
