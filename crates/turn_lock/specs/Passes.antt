-- What contracts say of a pass and of the lock to which it belongs.
use Rattle.std.specs.Prelude.{ℕ, ◌≡◌}
use Rattle.turn_lock.specs.declared.recorded.Recorded.{Ghosts}
use Rattle.turn_lock.specs.declared.view.View.{View}
use Rattle.turn_lock.specs.declared.pass.Pass.{Pass}
use Rattle.turn_lock.specs.declared.lock.TurnLock.{TurnLock}

module _ {T E O K : Type 0} {g : Ghosts T E O K} where
  -- what the pass knows
  abbrev pub known : Pass T E O K g → View T E O K
  known p = p.seat.me.0

  -- the pass was made by this lock's `new`, or split from such a pass
  abbrev pub Belongs : Pass T E O K g → TurnLock T E O K → Type 0
  Belongs p l = p.seat.table_id ≡ l.table.shared.table_id

-- the number of the lock's first ticket: the number that it serves is this and the turns that were taken, modulo 2^64
abbrev pub first_ticket : {T E O K : Type 0} → TurnLock T E O K → ℕ
first_ticket l = l.table.shared.key.ticket.value
