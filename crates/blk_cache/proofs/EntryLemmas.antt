-- What is found among the entries after a block was put in front.
use Rattle.std.proofs.Common.{◌≡◌, ◌<◌, ◌≤◌, ◌+◌, ◌-◌, ◌⊎◌, ℕ, zero, suc, Bool, true, false, cond, [], ◌∷◌, take, length, nat_eq, refl, sym, ap, ◌∙◌, subst, inl, inr, arith, Option, Some, None, IfSome, IfNone, is_some, option_map, nat_lt}
use Rattle.std.proofs.lemmas.List.{length-take}
use Rattle.std.specs.Cmp.{nat_eq_equiv}
use Rattle.std.specs.Option.{option_map_or}
use Rattle.std.specs.Map.{lookup, lookup_entry, remove_entry}
use Rattle.byte_fields.specs.declared.block.Block.{Block}
use Rattle.lru.specs.LruCache.{LruCache, lru_cache, promoted}
use Rattle.lru.proofs.CallerLemmas.{Contains-lookup_entry, lookup-put_entries}
use Rattle.lru.proofs.Pairs.{lookup-lookup_entry}
use Rattle.blk_cache.specs.Entries.{Entries, entries_in, capacity_in, in_front, KeepsIn}

same_front : (o : Option (ℕ × Block)) (block : Block) (rest old new : Entries) → option_map (λ (e : ℕ × Block). e.1) o ≡ Some block
    → option_map_or (λ (f : ℕ × Block). f ∷ rest) o old ≡ option_map_or (λ (e : ℕ × Block). (e.0, block) ∷ rest) o new
same_front None block rest old new found = cc
same_front (Some e) block rest old new found = let same : e.1 ≡ block = cc in ap (λ (b : Block). (e.0, b) ∷ rest) same

-- a block that is found is put in front as it is
pub promoted_found : (at capacity : ℕ) (entries : Entries) (block : Block) → lookup (nat_eq at) entries ≡ Some block
    → promoted (nat_eq at) entries ≡ in_front at block capacity entries
promoted_found at capacity entries block found =
    same_front (lookup_entry (nat_eq at) entries) block (remove_entry (nat_eq at) entries) entries _ (lookup-lookup_entry (nat_eq at) entries ∙ found)

all_stay : (o : Option (ℕ × Block)) (rest old : Entries) → option_map (λ (e : ℕ × Block). e.1) o ≡ None → option_map_or (λ (f : ℕ × Block). f ∷ rest) o old ≡ old
all_stay None rest old found = refl
all_stay (Some e) rest old found = cc

-- where none is found, all stay where they are
pub promoted_none : (at : ℕ) (entries : Entries) → lookup (nat_eq at) entries ≡ None → promoted (nat_eq at) entries ≡ entries
promoted_none at entries none = all_stay (lookup_entry (nat_eq at) entries) (remove_entry (nat_eq at) entries) entries (lookup-lookup_entry (nat_eq at) entries ∙ none)

length-remove : (t : ℕ → Bool) (entries : Entries) (e : ℕ × Block) → lookup_entry t entries ≡ Some e → length (remove_entry t entries) + 1 ≡ length entries
length-remove t [] e found = cc
length-remove t (f ∷ entries) e found = (elim (t f.0) as (λ y. t f.0 ≡ y → length (cond y entries (f ∷ remove_entry t entries)) + 1 ≡ length (f ∷ entries)) [
  | true ↦ λ h. omega arith
  | false ↦ λ h. let on = length-remove t entries e (rw h at found) in omega arith
]) refl

few_cases : (at : ℕ) (block : Block) (capacity : ℕ) (entries : Entries) (o : Option (ℕ × Block)) → lookup_entry (nat_eq at) entries ≡ o → 0 < capacity → length entries ≤ capacity
    → length (option_map_or (λ (e : ℕ × Block). (e.0, block) ∷ remove_entry (nat_eq at) entries) o ((at, block) ∷ take (capacity - 1) entries)) ≤ capacity
few_cases at block capacity entries None none some few = omega (arith, length-take (capacity - 1) entries)
few_cases at block capacity entries (Some e) found some few = omega (arith, length-remove (nat_eq at) entries e found)

-- with a block in front there are not more than there may be
pub few_in_front : (at : ℕ) (block : Block) (capacity : ℕ) (entries : Entries) → 0 < capacity → length entries ≤ capacity → length (in_front at block capacity entries) ≤ capacity
few_in_front at block capacity entries = few_cases at block capacity entries (lookup_entry (nat_eq at) entries) refl

-- the block in front is found
pub found_in_front : (at : ℕ) (block : Block) (capacity : ℕ) (entries : Entries) → lookup (nat_eq at) (in_front at block capacity entries) ≡ Some block
found_in_front at block capacity entries = lookup-put_entries nat_eq (lru_cache entries capacity) at block nat_eq_equiv

-- nothing is found, or what was found before
abbrev NoMore : (ℕ → Bool) → Entries → Entries → Type 0
NoMore t old new = (lookup t new ≡ None) ⊎ (lookup t new ≡ lookup t old)

lookup-take : (t : ℕ → Bool) (n : ℕ) (entries : Entries) → NoMore t entries (take n entries)
lookup-take t zero entries = inl refl
lookup-take t (suc n) [] = inl refl
lookup-take t (suc n) (e ∷ entries) = (elim (t e.0) as (λ y. t e.0 ≡ y → (cond y (Some e.1) (lookup t (take n entries)) ≡ None) ⊎ (cond y (Some e.1) (lookup t (take n entries)) ≡ cond y (Some e.1) (lookup t entries))) [
  | true ↦ λ h. inr refl
  | false ↦ λ h. lookup-take t n entries
]) refl

lookup-remove : (t u : ℕ → Bool) → ((k : ℕ) → t k ≡ true → u k ≡ false) → (entries : Entries) → lookup u (remove_entry t entries) ≡ lookup u entries
lookup-remove t u apart [] = refl
lookup-remove t u apart (e ∷ entries) = (elim (t e.0) as (λ y. t e.0 ≡ y → lookup u (cond y entries (e ∷ remove_entry t entries)) ≡ cond (u e.0) (Some e.1) (lookup u entries)) [
  | true ↦ λ h. sym (ap (λ (y : Bool). cond y (Some e.1) (lookup u entries)) (apart e.0 h))
  | false ↦ λ h. ap (λ (o : Option Block). cond (u e.0) (Some e.1) o) (lookup-remove t u apart entries)
]) refl

behind : (u : ℕ → Bool) (k : ℕ) (block : Block) (old rest : Entries) → u k ≡ false → NoMore u old rest → NoMore u old ((k, block) ∷ rest)
behind u k block old rest passes (inl none) = inl (ap (λ (y : Bool). cond y (Some block) (lookup u rest)) passes ∙ none)
behind u k block old rest passes (inr same) = inr (ap (λ (y : Bool). cond y (Some block) (lookup u rest)) passes ∙ same)

other_cases : (at b : ℕ) (block : Block) (capacity : ℕ) (entries : Entries) → ((k : ℕ) → nat_eq at k ≡ true → nat_eq b k ≡ false) → (o : Option (ℕ × Block)) → lookup_entry (nat_eq at) entries ≡ o
    → NoMore (nat_eq b) entries (option_map_or (λ (e : ℕ × Block). (e.0, block) ∷ remove_entry (nat_eq at) entries) o ((at, block) ∷ take (capacity - 1) entries))
other_cases at b block capacity entries apart None none = behind (nat_eq b) at block entries (take (capacity - 1) entries) (apart at (nat_eq_equiv.refl at)) (lookup-take (nat_eq b) (capacity - 1) entries)
other_cases at b block capacity entries apart (Some e) found =
    behind (nat_eq b) e.0 block entries (remove_entry (nat_eq at) entries) (apart e.0 (Contains-lookup_entry (nat_eq at) entries e found).1)
    (inr (lookup-remove (nat_eq at) (nat_eq b) apart entries))

-- of another number nothing is found but what was found before
pub other_in_front : (at b : ℕ) (block : Block) (capacity : ℕ) (entries : Entries) → ((k : ℕ) → nat_eq at k ≡ true → nat_eq b k ≡ false)
    → (lookup (nat_eq b) (in_front at block capacity entries) ≡ None) ⊎ (lookup (nat_eq b) (in_front at block capacity entries) ≡ lookup (nat_eq b) entries)
other_in_front at b block capacity entries apart = other_cases at b block capacity entries apart (lookup_entry (nat_eq at) entries) refl

-- after a look-up there are not more than there may be
pub few_found : (o : Option Block) (at capacity : ℕ) (old new : Entries) → 0 < capacity → length old ≤ capacity
    → IfSome o (λ block. new ≡ in_front at block capacity old) → IfNone o (new ≡ old) → length new ≤ capacity
few_found None at capacity old new some few found missed = subst (λ (es : Entries). length es ≤ capacity) (sym missed) few
few_found (Some block) at capacity old new some few found missed = subst (λ (es : Entries). length es ≤ capacity) (sym found) (few_in_front at block capacity old some few)

-- nor after a block was kept
pub few_kept : (at : ℕ) (block : Block) (capacity : ℕ) (old new : Entries) → 0 < capacity → length old ≤ capacity → KeepsIn at block capacity old new → length new ≤ capacity
few_kept at block capacity old new some few (inl front) = subst (λ (es : Entries). length es ≤ capacity) (sym front) (few_in_front at block capacity old some few)
few_kept at block capacity old new some few (inr stays) = subst (λ (es : Entries). length es ≤ capacity) (sym stays.1) few

-- a map is there only where a block may be kept
pub some_room : (o : Option (LruCache ℕ Block)) (blocks : LruCache ℕ Block) → o ≡ Some blocks → is_some o ≡ nat_lt 0 (capacity_in o) → true ≡ nat_lt 0 blocks.cap
some_room o blocks there room = subst (λ (p : Option (LruCache ℕ Block)). is_some p ≡ nat_lt 0 (capacity_in p)) there room

pub few_there : (o : Option (LruCache ℕ Block)) (blocks : LruCache ℕ Block) → o ≡ Some blocks → length (entries_in o) ≤ capacity_in o → length blocks.entries ≤ blocks.cap
few_there o blocks there few = subst (λ (p : Option (LruCache ℕ Block)). length (entries_in p) ≤ capacity_in p) there few
