use Rattle.core_parts.specs.Keeps.{IsSteady}
use Rattle.core_parts.specs.Safe.{IsSafe}
use Rattle.quiet_repair.specs.Courses.{OnCourse}
use Rattle.quiet_repair.specs.Sessions.{Stands}
use Rattle.std.specs.Prelude.{◌≡◌}
use Rattle.quiet_repair.proofs.sessions.run_order.Given as goal

-- the session goes on from where it began
abbrev pub invariant-loop : goal.invariant-loop
invariant-loop g l = record {
  safe : IsSafe g.D.Device l.parts;
  steady : IsSteady g.D.Device l.fn.parts.desk l.parts.desk;
  stands : Stands l.parts.desk l.order;
  course : OnCourse l.fn.order.plan l.fn.order.turns l.parts l.order;
  planned : l.order.plan ≡ l.fn.order.plan;
  turned : l.order.turns ≡ l.fn.order.turns;
}
