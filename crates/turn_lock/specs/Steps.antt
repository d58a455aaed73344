-- What each kind of step of the lock tells its pass.
use Rattle.std.specs.Prelude.{ℕ, List, [], ◌∷◌, ◌++◌, ◌+◌, ◌≡◌, ◌≢◌, ◌%◌, ◌^◌, length, map, ◌⊎◌}
use Rattle.std.specs.Prelude.{Option as Maybe, Some as Just, None as Nothing}
use Rattle.atomic_table.specs.Table.{Me, rest}
use Rattle.turn_lock.specs.declared.view.View.{View}
use Rattle.turn_lock.specs.declared.recorded.TheConstants.{ACTORS}
use Rattle.turn_lock.specs.Rule.{Sound}
use Rattle.turn_lock.specs.Views.{Agrees, appended, kept_now, settled}

abbrev pub number : Maybe ℕ → ℕ
number (Just t) = t
number Nothing = 0

module _ {T E O K : Type 0} where
  abbrev pub with_ticket : View T E O K → ℕ → View T E O K
  with_ticket v t = record v { ticket = Just t }

  abbrev pub taking : View T E O K → T → View T E O K
  taking v x = record v { told = Just x }

  abbrev pub passed : View T E O K → View T E O K
  passed v = record v { ticket = Nothing; told = Nothing; turns = v.turns + 1 }

  -- a ticket was drawn
  abbrev pub Draws : Me (Maybe T) (View T E O K) → ℕ → Me (Maybe T) (View T E O K) → Type 0
  Draws me n after = (t : ℕ) × (n ≡ t % 2 ^ 64) × (after ≡ (with_ticket me.0 t, me.1))

  -- the ticket was served, and the value goes on
  abbrev pub Serves : Me (Maybe T) (View T E O K) → ℕ → Me (Maybe T) (View T E O K) → Type 0
  Serves me n after = after ≡ (passed me.0, rest me.1)

  -- what the rule says of a pass that another was joined to
  abbrev pub Settles : Me (Maybe T) (View T E O K) → ℕ → Me (Maybe T) (View T E O K) → Type 0
  Settles me n after = Sound me.0.own me.0.seen me.0.other × (after ≡ (settled me.0, me.1))

module _ {T E O K : Type 0} (journal : T → List E) (origin : T → O) (kept : T → ℕ → K) where
  -- the number found is the ticket, and the slot is taken with a value that agrees; or nothing changes
  abbrev pub Takes : Me (Maybe T) (View T E O K) → Me (Maybe T) (View T E O K) → Type 0
  Takes me after = (x : T) × Agrees journal origin kept x me.0 × (length me.0.kept ≡ ACTORS → me.0.seen ≡ journal x) × (after ≡ (taking me.0 x, (0, Just x) ∷ me.1))

  abbrev pub Looks : Me (Maybe T) (View T E O K) → ℕ → Me (Maybe T) (View T E O K) → Type 0
  Looks me n after = ((n ≡ number me.0.ticket % 2 ^ 64) × Takes me after) ⊎ ((n ≢ number me.0.ticket % 2 ^ 64) × (after ≡ me))

  abbrev pub appended_to : Maybe T → T → List ℕ
  appended_to Nothing y = []
  appended_to (Just x) y = appended journal origin kept x y

  -- the pass tells the value as its turn left it
  abbrev pub telling : View T E O K → T → View T E O K
  telling v y = record v { told = Just y; seen = journal y; own = v.own ++ appended_to v.told y; kept = map (kept_now journal origin kept y) v.kept }

  abbrev pub published : View T E O K → Maybe T → View T E O K
  published v Nothing = v
  published v (Just y) = telling v y

  abbrev pub Publishes : Maybe T → Me (Maybe T) (View T E O K) → Me (Maybe T) (View T E O K) → Type 0
  Publishes left me after = after ≡ (published me.0 left, me.1)
