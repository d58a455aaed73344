-- One hold more, and one less.
use Rattle.std.proofs.Common.{◌≡◌, ℕ, List, [], ◌∷◌, ◌++◌, Bool, true, false, refl, arith, ◌∙◌, Option, Some, None}
use Rattle.std.specs.Prelude.{◌==◌, not, if◌then◌else◌, filter}
use Rattle.std.proofs.lemmas.Bool.Decides.{nat_tests}
use Rattle.intent_drain.specs.declared.holds.Hold.{Hold}
use Rattle.intent_drain.specs.declared.holds.Holder.{Holder}
use Rattle.intent_drain.specs.Holds.{holder_in, without}

last_held : (a i : ℕ) (y : Holder) → (if a == i then Some y else None) ≡ (if i == a then Some y else None)
last_held a i y = grind (arith, nat_tests)

tail_none : (a ino : ℕ) (x : Holder) (tail : Option Holder) → (if a == ino then Some x else tail) ≡ None → tail ≡ None
tail_none a ino x tail h = grind (arith, nat_tests)

held_step : (a i ino : ℕ) (x y : Holder) (tail old new : Option Holder) → (if a == ino then Some x else tail) ≡ None → new ≡ (if i == ino then Some y else old) → (if a == i then Some x else new) ≡ (if i == ino then Some y else (if a == i then Some x else old))
held_step a i ino x y tail old new h e = grind (arith, nat_tests)

pub held : (hs : List Hold) (ino : ℕ) (y : Holder) (i : ℕ) → holder_in hs ino ≡ None → holder_in (hs ++ record { ino = ino; holder = y } ∷ []) i ≡ (if i == ino then Some y else holder_in hs i)
held [] ino y i h = last_held ino i y
held (x ∷ hs) ino y i h = held_step x.ino i ino x.holder y (holder_in hs ino) (holder_in hs i) (holder_in (hs ++ record { ino = ino; holder = y } ∷ []) i) h (held hs ino y i (tail_none x.ino ino x.holder (holder_in hs ino) h))

gone_step : (a i ino : ℕ) (x : Holder) (old new : Option Holder) → (a == ino) ≡ true → new ≡ (if i == ino then None else old) → new ≡ (if i == ino then None else (if a == i then Some x else old))
gone_step a i ino x old new t e = grind (arith, nat_tests)

kept_step : (a i ino : ℕ) (x : Holder) (old new : Option Holder) → (a == ino) ≡ false → new ≡ (if i == ino then None else old) → (if a == i then Some x else new) ≡ (if i == ino then None else (if a == i then Some x else old))
kept_step a i ino x old new t e = grind (arith, nat_tests)

let_go_step : (b : Bool) (h : Hold) (hs : List Hold) (ino i : ℕ) → (h.ino == ino) ≡ b → holder_in (without hs ino) i ≡ (if i == ino then None else holder_in hs i) → holder_in (if not b then h ∷ without hs ino else without hs ino) i ≡ (if i == ino then None else (if h.ino == i then Some h.holder else holder_in hs i))
let_go_step true h hs ino i t e = gone_step h.ino i ino h.holder (holder_in hs i) (holder_in (without hs ino) i) t e
let_go_step false h hs ino i t e = kept_step h.ino i ino h.holder (holder_in hs i) (holder_in (without hs ino) i) t e

both_none : (i ino : ℕ) → None ≡ (if i == ino then None else (let o : Option Holder = None in o))
both_none i ino = grind (arith, nat_tests)

pub let_go_of : (hs : List Hold) (ino i : ℕ) → holder_in (without hs ino) i ≡ (if i == ino then None else holder_in hs i)
let_go_of [] ino i = both_none i ino
let_go_of (h ∷ hs) ino i = let_go_step (h.ino == ino) h hs ino i refl (let_go_of hs ino i)
