-- Two cursors that part two rising lists at one place of their common order.
use Rattle.std.specs.Prelude.{◌≡◌, ⊤, ℕ, ◌≤◌, Bool, true, false, not, List, [], ◌∷◌, length, take, drop, Option}
use Rattle.fs_model.specs.declared.fault.Fault.{Fault}
use Rattle.sblock.specs.Form.{Form}
use Rattle.sblock.specs.Lists.{Each}
use Rattle.xref_scrub.specs.Differences.{comes_before, missing_of, extra_of}
use Rattle.xref_scrub.specs.Merging.{merged}
use Rattle.xref_scrub.specs.Shown.{Shown}

module _ {R : Type 0} (before : R → R → Bool) where
  -- the first of the list doesn't come before the record
  abbrev pub IsNotBehind : R → List R → Type 0
  IsNotBehind r [] = ⊤
  IsNotBehind r (s ∷ ss) = before s r ≡ false

  -- each of those passed comes before the first that is left
  abbrev pub AllBefore : List R → List R → Type 0
  AllBefore passed [] = ⊤
  AllBefore passed (r ∷ rs) = Each (λ q. before q r) passed

  -- the first that is left comes before none of those passed
  abbrev pub NoneBehind : List R → List R → Type 0
  NoneBehind passed [] = ⊤
  NoneBehind passed (s ∷ ss) = Each (λ p. not (before s p)) passed

  -- What is left of the first list has no key below or at those passed of the second, and what is
  -- left of the second none below those passed of the first.
  pub record IsParted (first second : List R) (i j : ℕ) : Type 0 where
    pub within_first : i ≤ length first
    pub within_second : j ≤ length second
    pub second_passed : AllBefore (take j second) (drop i first)
    pub first_passed : NoneBehind (take i first) (drop j second)

  -- the next record in the order is one of the first list
  abbrev pub is_first_next : List R → List R → Bool
  is_first_next [] ss = false
  is_first_next (r ∷ rs) [] = true
  is_first_next (r ∷ rs) (s ∷ ss) = not (before s r)

-- what the records show from two cursors on
unfoldable pub shown_from : {R K : Type 0} → Form R K → Shown R → List R → List R → ℕ → ℕ → List (Option Fault)
shown_from form shown index derived i j =
    merged (comes_before form) (missing_of form shown index) (extra_of form shown derived) (drop i derived) (drop j index)

-- this is shown between two pairs of cursors
abbrev pub IsShown : {R K : Type 0} → Form R K → Shown R → List R → List R → ℕ → ℕ → Option Fault → ℕ → ℕ → Type 0
IsShown form shown index derived i j fault i' j' =
    shown_from form shown index derived i j ≡ fault ∷ shown_from form shown index derived i' j'
