-- The rule of a lock that lends a value by tickets. The words are the tickets drawn, the number served and the journal's length.
use Rattle.std.specs.Prelude.{ℕ, List, [], ◌∷◌, ◌≡◌, ◌≢◌, ◌<◌, ◌≤◌, ◌+◌, ◌%◌, ◌^◌, length, ◌⊎◌}
use Rattle.std.specs.Prelude.{Option as Maybe, Some as Just, None as Nothing}
use mathlib.Core.Option.{none, some}
use lib.ListN.{get_elem?}
use Rattle.atomic_table.specs.Table.{State}
use Rattle.turn_lock.specs.declared.view.View.{View}
use Rattle.turn_lock.specs.declared.recorded.TheConstants.{ACTORS}
use Rattle.turn_lock.specs.Lists.{Begins, total, Has, Distinct, Below, Apart}
use Rattle.turn_lock.specs.Views.{Agrees}

abbrev pub one : Maybe ℕ → ℕ
one (Just t) = 1
one Nothing = 0

-- the positions of one view: each once, all in the prefix that was seen; and another prefix begins that one
pub record Sound {E : Type 0} (own : List ℕ) (seen other : List E) : Type 0 where
  pub distinct : Distinct own
  pub within : Below own (length seen)
  pub grown : Begins other seen

module _ {T E O K : Type 0} (journal : T → List E) (origin : T → O) (kept : T → ℕ → K) where
  -- start is the number of the first ticket
  pub record LockHolds (start : ℕ) (s : State (Maybe T) (View T E O K)) : Type 0 where
    -- how many tickets were ever drawn and served, without an end, and the value as its last turn left it
    pub drawn : ℕ
    pub served : ℕ
    pub current : T
    pub words : s.words ≡ drawn % 2 ^ 64 ∷ served % 2 ^ 64 ∷ length (journal current) ∷ []
    -- the tickets out are those from served to below drawn, each in one view
    pub out : (i : ℕ) (v : View T E O K) → get_elem? s.views i ≡ some v → (t : ℕ) → v.ticket ≡ Just t → (served ≤ t) × (t < drawn)
    pub once : (i j : ℕ) (v w : View T E O K) (t : ℕ) → i ≢ j → get_elem? s.views i ≡ some v → get_elem? s.views j ≡ some w → v.ticket ≡ Just t → w.ticket ≡ Just t → ⊥
    pub count : drawn ≡ served + total (λ v. one v.ticket) s.views
    -- of the tickets from the first one on, those that were served are the turns that were taken
    pub turns : served ≡ start + total (λ v. v.turns) s.views
    -- there are 17 actors, each in one view, and a view with a ticket has one: so at most 17 tickets are out
    pub actors : total (λ v. length v.kept) s.views ≡ ACTORS
    pub each : (i : ℕ) (v : View T E O K) → get_elem? s.views i ≡ some v → one v.ticket ≤ length v.kept
    pub apart : (i j : ℕ) (v w : View T E O K) (a : ℕ) (k l : K) → i ≢ j → get_elem? s.views i ≡ some v → get_elem? s.views j ≡ some w → Has v.kept a k → Has w.kept a l → ⊥
    -- each view has seen a prefix of the journal, and says the origin and what is kept for its actors
    pub agrees : (i : ℕ) (v : View T E O K) → get_elem? s.views i ≡ some v → Agrees journal origin kept current v
    -- one with an actor has seen the whole journal
    pub whole : (i : ℕ) × (v : View T E O K) × (get_elem? s.views i ≡ some v) × (0 < length v.kept) × (v.seen ≡ journal current)
    -- each entry is owned once
    pub sound : (i : ℕ) (v : View T E O K) → get_elem? s.views i ≡ some v → Sound v.own v.seen v.other
    pub separate : (i j : ℕ) (v w : View T E O K) → i ≢ j → get_elem? s.views i ≡ some v → get_elem? s.views j ≡ some w → Apart v.own w.own
    -- the view that was told the value alone has it, and its ticket is served
    pub told : (i : ℕ) (v : View T E O K) → get_elem? s.views i ≡ some v → (x : T) → v.told ≡ Just x → (x ≡ current) × (v.ticket ≡ Just served) × (s.homes ≡ none ∷ [])
    pub home : (s.homes ≡ some (Just current) ∷ []) ⊎ ((s.homes ≡ none ∷ []) × ((i : ℕ) × (v : View T E O K) × (get_elem? s.views i ≡ some v) × (v.told ≡ Just current) × (v.ticket ≡ Just served)))
