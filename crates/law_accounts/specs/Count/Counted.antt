-- Reference counts block by block, where a stretch of one count gets another.
use Rattle.std.specs.Prelude.{ℕ, ◌≡◌, ◌+◌, ◌<◌, ◌≤◌, true, nat_lt, List, [], ◌∷◌, if◌then◌else◌}
use Rattle.fs_change.specs.Records.{count_at, refc_end, set_count, stretch}
use Rattle.span_recs.specs.declared.refcount.RefcRec.{RefcRec}
use Rattle.law_accounts.specs.Account.Accounts.{in_span}

-- from a place on: no record is empty, and none begins before the one in front of it ends
abbrev pub AreCounts : ℕ → List RefcRec → Type 0
AreCounts from [] = Unit {0}
AreCounts from (r ∷ rs) = (from ≤ r.start) × (0 < r.count) × AreCounts (r.start + r.count) rs

-- each is of several owners, and where one begins right behind another their counts differ
abbrev pub AreShown : List RefcRec → Type 0
AreShown [] = Unit {0}
AreShown (r ∷ []) = 2 ≤ r.refcount
AreShown (r ∷ s ∷ rs) = (2 ≤ r.refcount) × (s.start ≡ refc_end r → s.refcount ≡ r.refcount → ⊥) × AreShown (s ∷ rs)

-- one owner, or none, has no record
abbrev pub shown_count : ℕ → ℕ
shown_count v = if nat_lt v 2 then 1 else v

-- the blocks of the stretch have the new count then, and all others the one that they had
abbrev pub StretchCounted : Type 0
StretchCounted = (rs : List RefcRec) (b n m v k : ℕ) → AreCounts 0 rs → 0 < n → n ≡ stretch rs b m
    → count_at (set_count b n v rs) k ≡ (if in_span b n k then shown_count v else count_at rs k)

-- and the records stay so
abbrev pub CountsStay : Type 0
CountsStay = (rs : List RefcRec) (b n m v : ℕ) → AreCounts 0 rs → 0 < n → n ≡ stretch rs b m → AreCounts 0 (set_count b n v rs)

-- as few as can be, of several owners each
abbrev pub ShownStay : Type 0
ShownStay = (rs : List RefcRec) (b n m v : ℕ) → AreCounts 0 rs → AreShown rs → 0 < n → n ≡ stretch rs b m → AreShown (set_count b n v rs)

-- all blocks of a stretch have one count
abbrev pub OneCount : Type 0
OneCount = (rs : List RefcRec) (b n m k : ℕ) → AreCounts 0 rs → 0 < n → n ≡ stretch rs b m → in_span b n k ≡ true → count_at rs k ≡ count_at rs b
