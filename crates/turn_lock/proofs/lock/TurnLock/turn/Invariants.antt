use Rattle.std.specs.Prelude.{Some}
use Rattle.turn_lock.proofs.lock.TurnLock.turn.Given as goal

abbrev pub ghosts-publish : goal.ghosts-publish
ghosts-publish g a = record { left = Some a.value.now }
