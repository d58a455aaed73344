use Rattle.live_fs.specs.Passes.{PassOn}
use Rattle.quiet_repair.specs.Sessions.{IsInside}
use Rattle.live_fs.proofs.scrubber.scrub_watched.Given as goal

abbrev pub invariant-loop : goal.invariant-loop
invariant-loop g l = record {
  on : PassOn l.live.lock l.live.origin l.fn.pass l.pass;
  inside : IsInside l.live.origin.geo.agcount l.order;
}
