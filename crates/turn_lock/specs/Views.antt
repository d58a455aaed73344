-- What a pass knows: which prefix of the journal it has seen, which entries of it are its own, for which actors it speaks, and what the value keeps for them.
use Rattle.std.specs.Prelude.{ℕ, List, [], ◌++◌, ◌≡◌, ◌<◌, ◌+◌, ◌-◌, length, map}
use Rattle.std.specs.Prelude.{Option as Maybe, Some as Just, None as Nothing}
use Rattle.atomic_table.specs.Table.{Me}
use Rattle.turn_lock.specs.declared.view.View.{View}
use Rattle.turn_lock.specs.declared.recorded.TheConstants.{ACTORS}
use Rattle.turn_lock.specs.Lists.{Begins, from_up, Has, entries_at, below, above, longer, shorter}

module _ {T E O K : Type 0} where
  -- the entries at the pass's own positions, in their order
  abbrev pub own_entries : View T E O K → List E
  own_entries v = entries_at v.seen v.own

  -- of a pass that is split, what stays and what goes
  abbrev pub kept_below : ℕ → View T E O K → View T E O K
  kept_below n v = record v { kept = below n v.kept }

  abbrev pub kept_from : ℕ → View T E O K → View T E O K
  kept_from n v = record { ticket = Nothing; told = Nothing; seen = v.seen; own = []; turns = 0; origin = v.origin; kept = above n v.kept; other = [] }

  -- of two passes that are joined: the longer prefix, both lists of positions, the turns of both, both sets of actors
  abbrev pub joined : View T E O K → View T E O K → View T E O K
  joined v w = record v { seen = longer v.seen w.seen; own = v.own ++ w.own; turns = v.turns + w.turns; kept = v.kept ++ w.kept }

  -- the same while the shorter prefix is still told
  abbrev pub joining : View T E O K → View T E O K → View T E O K
  joining v w = record v { seen = longer v.seen w.seen; own = v.own ++ w.own; turns = v.turns + w.turns; kept = v.kept ++ w.kept; other = shorter v.seen w.seen }

  abbrev pub settled : View T E O K → View T E O K
  settled v = record v { other = [] }

  -- what is left of a pass that was joined to another
  abbrev pub spent : View T E O K
  spent = record { ticket = Nothing; told = Nothing; seen = []; own = []; turns = 0; origin = Nothing; kept = []; other = [] }

  -- a pass between two turns: it has no ticket and no slot, and speaks for at least one actor
  abbrev pub IsIdle : Me (Maybe T) (View T E O K) → Type 0
  IsIdle me = (me.0.ticket ≡ Nothing) × (me.0.told ≡ Nothing) × (0 < length me.0.kept) × (me.1 ≡ []) × (me.0.other ≡ [])

module _ {T E O K : Type 0} (journal : T → List E) (origin : T → O) (kept : T → ℕ → K) where
  -- the value is as the pass knows it
  pub record Agrees (x : T) (v : View T E O K) : Type 0 where
    pub seen : Begins v.seen (journal x)
    pub kept_is : (a : ℕ) (k : K) → Has v.kept a k → kept x a ≡ k
    pub origin_is : (o : O) → v.origin ≡ Just o → origin x ≡ o

  -- a turn of the pass may leave y of x: the journal is extended, and the origin and what is kept for other actors stay
  pub record Extends (v : View T E O K) (x y : T) : Type 0 where
    pub longer : Begins (journal x) (journal y)
    pub same : origin y ≡ origin x
    pub others : (a : ℕ) → ((k : K) → Has v.kept a k → ⊥) → kept y a ≡ kept x a

  abbrev pub kept_for : T → ℕ → ℕ × K
  kept_for x a = (a, kept x a)

  -- the pass of a new lock has seen the whole journal, owns nothing of it, took no turn and speaks for the actors 0 to 16
  abbrev pub first_view : T → View T E O K
  first_view x = record { ticket = Nothing; told = Nothing; seen = journal x; own = []; turns = 0; origin = Just (origin x); kept = map (kept_for x) (from_up 0 ACTORS); other = [] }

  -- the positions of the entries that a turn appended
  abbrev pub appended : T → T → List ℕ
  appended x y = from_up (length (journal x)) (length (journal y) - length (journal x))

  abbrev pub kept_now : T → ℕ × K → ℕ × K
  kept_now y p = (p.0, kept y p.0)

  -- the pass after a turn that left y of x
  abbrev pub after_turn : View T E O K → T → T → View T E O K
  after_turn v x y = record v { ticket = Nothing; told = Nothing; seen = journal y; own = v.own ++ appended x y; turns = v.turns + 1; kept = map (kept_now y) v.kept }

  -- a turn took x, left y of it, and the pass knows it. Where the pass speaks for all actors, x had what it has seen and no more
  pub record Turned (v : View T E O K) (x y : T) (w : View T E O K) : Type 0 where
    pub agrees : Agrees x v
    pub whole : length v.kept ≡ ACTORS → v.seen ≡ journal x
    pub extends : Extends v x y
    pub view : w ≡ after_turn v x y
    pub entries : own_entries w ≡ own_entries v ++ extends.longer.0

  -- what a turn's function may be called on, and what it may leave: takes and returns are those of the function
  abbrev pub CanTake : (T → Type 0) → View T E O K → Type 0
  CanTake takes v = (x : T) → Agrees x v → takes x

  abbrev pub KeepsRecord : {R : Type 0} → (T → R → T → Type 0) → View T E O K → Type 0
  KeepsRecord {R} returns v = (x y : T) (r : R) → Agrees x v → returns x r y → Extends v x y

  -- one call of the function made the turn
  abbrev pub TookTurn : (T → T → Type 0) → View T E O K → View T E O K → Type 0
  TookTurn returns v w = (x y : T) × returns x y × Turned v x y w

  -- the value that a closed lock gives back
  pub record GivesBack (x : T) (v : View T E O K) : Type 0 where
    pub agrees : Agrees x v
    pub whole : length v.kept ≡ ACTORS → v.seen ≡ journal x
    pub entries : entries_at (journal x) v.own ≡ own_entries v
