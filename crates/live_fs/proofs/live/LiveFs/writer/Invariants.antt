use Rattle.std.proofs.Common.{length}
use Rattle.live_fs.specs.Passes.{PassOn}
use Rattle.live_fs.specs.Sections.{AreInRange}
use Rattle.live_fs.proofs.live.LiveFs.writer.Given as goal

abbrev pub invariant-loop-line : goal.invariant-loop-line
invariant-loop-line g l = record {
  on : PassOn l.self.lock l.self.origin l.fn.pass l.pass;
  range : AreInRange l.rest;
}

abbrev pub decreases-loop-line : goal.decreases-loop-line
decreases-loop-line g l = length l.rest
