-- Where an index differs from its derivation.
use Rattle.std.specs.Prelude.{◌≡◌, ◌↔◌, ℕ, zero, suc, ◌+◌, ◌*◌, ◌≤◌, Bool, not, List, [], ◌++◌, length, take, drop, filter, Option, Some, None, if◌then◌else◌}
use Rattle.std.specs.List.{list_any, filter_map}
use Rattle.fs_model.specs.declared.fault.Fault.{Fault}
use Rattle.fs_model.specs.declared.fault.Fault.TheVariants.{Missing, Extra}
use Rattle.sblock.specs.Blocks.{IsRising}
use Rattle.sblock.specs.Form.{Form}
use Rattle.xref_scrub.specs.Merging.{merged}
use Rattle.xref_scrub.specs.Shown.{Shown}

-- the first record's key comes before the second's
abbrev pub comes_before : {R K : Type 0} → Form R K → R → R → Bool
comes_before form r s = form.is_before (form.key_of r) (form.key_of s)

-- no record of the list is this one
abbrev pub lacks : {R K : Type 0} → Form R K → List R → R → Bool
lacks form list r = not (list_any (form.is_same r) list)

module _ {R K : Type 0} (form : Form R K) (shown : Shown R) where
  -- what a derived record shows, and what a record of the index shows
  unfoldable pub missing_of : List R → R → Option Fault
  missing_of index r = if lacks form index r then Some (Missing (shown r)) else None

  unfoldable pub extra_of : List R → R → Option Fault
  extra_of derived r = if lacks form derived r then Some (Extra (shown r)) else None

module _ {R K : Type 0} (form : Form R K) (shown : Shown R) (index derived : List R) where
  -- In key order each derived record that the index lacks, as missing, and each index record that
  -- isn't derived, as extra; missing comes first at equal keys.
  unfoldable pub differences : List Fault
  differences =
      merged (comes_before form) (λ r. Missing (shown r)) (λ r. Extra (shown r)) (filter (lacks form index) derived) (filter (lacks form derived) index)

  -- what each record of the two lists shows, both merged in key order; a record that stands in
  -- both counts twice
  unfoldable pub shown_by : List (Option Fault)
  shown_by = merged (comes_before form) (missing_of form shown index) (extra_of form shown derived) derived index

  -- the faults of the 512 records from this number on
  unfoldable pub piece : ℕ → List Fault
  piece from = filter_map (λ f. f) (take 512 (drop from shown_by))

  -- so many pieces, joined
  abbrev pub joined : ℕ → List Fault
  joined zero = []
  joined (suc n) = joined n ++ piece (512 * n)

module _ {R K : Type 0} (form : Form R K) (shown : Shown R) where
  -- pieces that reach the end of both lists are all differences
  abbrev pub PiecesJoin : Type 0
  PiecesJoin = (index derived : List R) → IsRising form index → IsRising form derived → (n : ℕ) → length index + length derived ≤ 512 * n → joined form shown index derived n ≡ differences form shown index derived

  -- an index has no differences exactly where it is its derivation
  abbrev pub NoneExactlyIfEqual : Type 0
  NoneExactlyIfEqual = (index derived : List R) → IsRising form index → IsRising form derived → (differences form shown index derived ≡ []) ↔ (index ≡ derived)
