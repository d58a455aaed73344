use Rattle.std.proofs.Common.{◌≡◌, length, take}
use Rattle.defer_chain.proofs.chain.steps_of_event.Given as goal

abbrev pub invariant-loop-place : goal.invariant-loop-place
invariant-loop-place l = (length l.steps ≡ 5) × (take l.place l.steps ≡ take l.place l.intents)
