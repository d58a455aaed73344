use Rattle.live_fs.specs.Passes.{PassOn}
use Rattle.live_fs.proofs.chains.open_chain.Given as goal

abbrev pub invariant-loop : goal.invariant-loop
invariant-loop g l = PassOn l.live.lock l.live.origin l.fn.pass l.pass
