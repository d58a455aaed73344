use Rattle.live_fs.specs.Passes.{PassOn}
use Rattle.live_fs.specs.Ranges.{IsFit}
use Rattle.live_fs.proofs.pieces.do_stretch.Given as goal

abbrev pub invariant-loop : goal.invariant-loop
invariant-loop g l = record {
  on : PassOn l.live.lock l.live.origin l.fn.pass l.pass;
  fit : IsFit l.left;
}
