-- What a first event says, behind calls that add no entry.
use Rattle.std.proofs.Common.{◌≡◌, ℕ, inl, inr, refl, subst}
use Rattle.std.specs.Prelude.{◌++◌, ◌∷◌, [], List, Result, Ok, Err, IfOk, OnOk}
use Rattle.core_calls.specs.declared.answers.WriteFault.{WriteFault}
use Rattle.core_parts.specs.declared.desk.Desk.{Desk}
use Rattle.core_files.specs.First.Entries.{HasPiece, HasStripped, IsHeld, SaysPiece, SaysStripped, piece}
use Rattle.core_files.specs.First.Spots.{IsSpot}
use Rattle.core_files.specs.declared.first.files.Held.{Held}
use Rattle.core_files.specs.declared.first.spots.Spot.{Spot}
use Rattle.fs_model.specs.declared.entry.Entry.{Entry}
use Rattle.fs_model.specs.declared.entry.Entry.TheVariants as entries
use Rattle.fs_model.specs.declared.entry.Piece.{Piece}
use Rattle.geom.specs.declared.geometry.Geometry.{Geometry}

piece_on : (entry : Piece → Entry) (a b : Geometry) (h : Held) (offset n : ℕ) (was mid now : List Entry) → b ≡ a → mid ≡ was → SaysPiece entry b h offset n mid now → SaysPiece entry a h offset n was now
piece_on entry a b h offset n was mid now geo same says = subst (λ (x : Geometry). SaysPiece entry x h offset n was now) geo (subst (λ (es : List Entry). SaysPiece entry b h offset n es now) same says)

stripped_on : (a b : Geometry) (h : Held) (n : ℕ) (was mid now : List Entry) → b ≡ a → mid ≡ was → SaysStripped b h n mid now → SaysStripped a h n was now
stripped_on a b h n was mid now geo same says = subst (λ (x : Geometry). SaysStripped x h n was now) geo (subst (λ (es : List Entry). SaysStripped b h n es now) same says)

-- the entry, as it is named
pub entry_as : {T E : Type 0} (r : Result T E) (was now : List Entry) (a b : Entry) → OnOk r (now ≡ was ++ a ∷ []) → a ≡ b → OnOk r (now ≡ was ++ b ∷ [])
entry_as r was now a b said is = subst (λ (e : Entry). OnOk r (now ≡ was ++ e ∷ [])) is said

pub piece_said : (entry : Piece → Entry) (geo : Geometry) (h : Held) (offset n : ℕ) (s : Spot) (was now : List Entry) → now ≡ was ++ entry (piece h offset s) ∷ [] → IsSpot geo s → s.count ≡ n → SaysPiece entry geo h offset n was now
piece_said entry geo h offset n s was now said lies count = record { spot = s; inside = lies; count_is = count; said = said }

-- behind calls that add no entry
pub pieces_on : (entry : Piece → Entry) (a b : Geometry) (h : Held) (offset : ℕ) (r : Result ℕ WriteFault) (was mid now : List Entry) → IfOk r (λ n. SaysPiece entry b h offset n mid now) → b ≡ a → mid ≡ was → IfOk r (λ n. SaysPiece entry a h offset n was now)
pieces_on entry a b h offset (Ok n) was mid now says geo same = piece_on entry a b h offset n was mid now geo same says
pieces_on entry a b h offset (Err e) was mid now says geo same = tt

-- of the chain and at the offset that were asked for
pub pieces_at : (entry : Piece → Entry) (geo : Geometry) (h other : Held) (offset from : ℕ) (r : Result ℕ WriteFault) (was now : List Entry) → IfOk r (λ n. SaysPiece entry geo other from n was now) → other ≡ h → from ≡ offset → IfOk r (λ n. SaysPiece entry geo h offset n was now)
pieces_at entry geo h other offset from r was now says is at =
    subst (λ (x : Held). IfOk r (λ n. SaysPiece entry geo x offset n was now)) is (subst (λ (x : ℕ). IfOk r (λ n. SaysPiece entry geo other x n was now)) at says)

-- of the chain that was asked for
pub held_piece : {D : Type 0} (entry : Piece → Entry) (old mid new : Desk D) (h : Held) (number offset : ℕ) (r : Result ℕ WriteFault) → IfOk r (λ n. SaysPiece entry mid.store.geo h offset n mid.book.journal.items new.book.journal.items)
    → IsHeld old number h → mid.store.geo ≡ old.store.geo → mid.book.journal.items ≡ old.book.journal.items → IfOk r (λ n. HasPiece entry number offset n old new)
held_piece entry old mid new h number offset (Ok n) says held geo same = record { chain = h; held = held; says = piece_on entry old.store.geo mid.store.geo h offset n old.book.journal.items mid.book.journal.items new.book.journal.items geo same says }
held_piece entry old mid new h number offset (Err e) says held geo same = tt

pub held_stripped : {D : Type 0} (old mid new : Desk D) (h : Held) (number : ℕ) (r : Result ℕ WriteFault) → IfOk r (λ n. SaysStripped mid.store.geo h n mid.book.journal.items new.book.journal.items)
    → IsHeld old number h → mid.store.geo ≡ old.store.geo → mid.book.journal.items ≡ old.book.journal.items → IfOk r (λ n. HasStripped number n old new)
held_stripped old mid new h number (Ok n) says held geo same = record { chain = h; held = held; says = stripped_on old.store.geo mid.store.geo h n old.book.journal.items mid.book.journal.items new.book.journal.items geo same says }
held_stripped old mid new h number (Err e) says held geo same = tt

-- a file without a mapping loses none
pub none_stripped : (geo : Geometry) (h : Held) (was now : List Entry) → now ≡ was → SaysStripped geo h 0 was now
none_stripped geo h was now same = record { stripped = inl (refl, same) }

-- a file that has a first mapping loses a piece of it
pub some_stripped : (geo : Geometry) (h : Held) (offset : ℕ) (r : Result ℕ WriteFault) (was now : List Entry) → IfOk r (λ n. SaysPiece entries.Unmapped geo h offset n was now) → IfOk r (λ n. SaysStripped geo h n was now)
some_stripped geo h offset (Ok n) was now says = record { stripped = inr (offset, says) }
some_stripped geo h offset (Err e) was now says = tt
