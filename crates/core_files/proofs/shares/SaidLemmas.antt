-- What a sharing says, behind calls that add no entry.
use Rattle.std.proofs.Common.{◌≡◌, ℕ, subst, sym}
use Rattle.std.specs.Prelude.{◌++◌, ◌∷◌, [], List, Result, Ok, Err, IfOk, OnOk}
use Rattle.core_calls.specs.declared.answers.WriteFault.{WriteFault}
use Rattle.core_files.specs.First.Entries.{IsHeld}
use Rattle.core_files.specs.First.Spots.{IsSpot}
use Rattle.core_files.specs.Shares.Entries.{HasShared, SaysShared, shared_piece}
use Rattle.core_files.specs.declared.first.files.Held.{Held}
use Rattle.core_files.specs.declared.first.spots.Spot.{Spot}
use Rattle.core_parts.specs.declared.desk.Desk.{Desk}
use Rattle.fs_model.specs.declared.entry.Entry.{Entry}
use Rattle.fs_model.specs.declared.entry.Entry.TheVariants as entries
use Rattle.geom.specs.declared.geometry.Geometry.{Geometry}

one_said : (geo : Geometry) (h : Held) (offset to_offset n : ℕ) (s : Spot) (was now : List Entry) → IsSpot geo s → n ≡ s.count → now ≡ was ++ entries.Shared (shared_piece h offset to_offset s) ∷ [] → SaysShared geo h offset to_offset n was now
one_said geo h offset to_offset n s was now lies count said = record { spot = s; inside = lies; count_is = sym count; said = said }

pub shared_said : (geo : Geometry) (h : Held) (offset to_offset : ℕ) (s : Spot) (r : Result ℕ WriteFault) (was now : List Entry) → OnOk r (now ≡ was ++ entries.Shared (shared_piece h offset to_offset s) ∷ []) → IfOk r (λ n. n ≡ s.count) → IsSpot geo s → IfOk r (λ n. SaysShared geo h offset to_offset n was now)
shared_said geo h offset to_offset s (Ok n) was now said count lies = one_said geo h offset to_offset n s was now lies count said
shared_said geo h offset to_offset s (Err e) was now said count lies = tt

pub shared_on : (a b : Geometry) (h : Held) (offset to_offset : ℕ) (r : Result ℕ WriteFault) (was mid now : List Entry) → IfOk r (λ n. SaysShared b h offset to_offset n mid now) → b ≡ a → mid ≡ was → IfOk r (λ n. SaysShared a h offset to_offset n was now)
shared_on a b h offset to_offset r was mid now says geo same =
    subst (λ (x : Geometry). IfOk r (λ n. SaysShared x h offset to_offset n was now)) geo (subst (λ (es : List Entry). IfOk r (λ n. SaysShared b h offset to_offset n es now)) same says)

-- at offsets that are those that were asked for
pub shared_at : (geo : Geometry) (h : Held) (offset from to_offset to : ℕ) (r : Result ℕ WriteFault) (was now : List Entry) → IfOk r (λ n. SaysShared geo h from to n was now) → from ≡ offset → to ≡ to_offset → IfOk r (λ n. SaysShared geo h offset to_offset n was now)
shared_at geo h offset from to_offset to r was now says is is_to =
    subst (λ (x : ℕ). IfOk r (λ n. SaysShared geo h x to_offset n was now)) is (subst (λ (x : ℕ). IfOk r (λ n. SaysShared geo h from x n was now)) is_to says)

held_one : {D : Type 0} (old new : Desk D) (h : Held) (number offset to_offset : ℕ) (r : Result ℕ WriteFault) → IsHeld old number h → IfOk r (λ n. SaysShared old.store.geo h offset to_offset n old.book.journal.items new.book.journal.items) → IfOk r (λ n. HasShared number offset to_offset n old new)
held_one old new h number offset to_offset (Ok n) held says = record { chain = h; held = held; says = says }
held_one old new h number offset to_offset (Err e) held says = tt

-- of the chain that was asked for
pub held_shared : {D : Type 0} (old mid new : Desk D) (h : Held) (number offset to_offset : ℕ) (r : Result ℕ WriteFault) → IfOk r (λ n. SaysShared mid.store.geo h offset to_offset n mid.book.journal.items new.book.journal.items)
    → IsHeld old number h → mid.store.geo ≡ old.store.geo → mid.book.journal.items ≡ old.book.journal.items → IfOk r (λ n. HasShared number offset to_offset n old new)
held_shared old mid new h number offset to_offset r says held geo same =
    held_one old new h number offset to_offset r held (shared_on old.store.geo mid.store.geo h offset to_offset r old.book.journal.items mid.book.journal.items new.book.journal.items says geo same)
