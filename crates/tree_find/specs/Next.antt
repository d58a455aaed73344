-- What the next leaf's records are, and what reading them reads: one way down, and another from
-- where that one ends without a record.
use Rattle.std.specs.Prelude.{◌≡◌, ℕ, zero, suc, ◌+◌, ◌-◌, ◌&&◌, nat_le, nat_lt, Bool, true, false, if◌then◌else◌, List, [], ◌∷◌, ◌++◌, Option, Some, None, Result, Ok, Err, filter, unwrap_or}
use Rattle.sblock.specs.Area.{area_of, child_of}
use Rattle.sblock.specs.Blocks.{numrecs, records_of, IsRising, AllInside, AllSupported}
use Rattle.sblock.specs.Form.{Form}
use Rattle.sblock.specs.Lists.{Each}
use Rattle.sblock.specs.declared.block.BlockFault.{BlockFault}
use Rattle.sblock.specs.declared.block.BlockFault.TheVariants as faults
use Rattle.sblock.specs.declared.block.Bounds.{Bounds}
use Rattle.tree_defs.specs.Claims.{lone_fault}
use Rattle.tree_defs.specs.Tree.{tested, top_of}
use Rattle.tree_defs.specs.declared.site.Site.{Site}
use Rattle.tree_find.specs.Places.{place_behind}

-- these, if there are any
abbrev pub some_of : {R : Type 0} → List R → Option (List R)
some_of [] = None
some_of (r ∷ rs) = Some (r ∷ rs)

-- what is read first, or where it is read and there is none, what is read then
abbrev pub or_then : {R : Type 0} → Result (Option (List R)) (ℕ × BlockFault) → Result (Option (List R)) (ℕ × BlockFault) → Result (Option (List R)) (ℕ × BlockFault)
or_then (Err fault) other = Err fault
or_then (Ok None) other = other
or_then (Ok (Some rs)) other = Ok (Some rs)

-- whatever was read is the answer
abbrev pub as_found : {R : Type 0} → Result (List R) (ℕ × BlockFault) → Result (Option (List R)) (ℕ × BlockFault)
as_found (Err fault) = Err fault
as_found (Ok rs) = Ok (Some rs)

abbrev pub or_empty : {R : Type 0} → Result (Option (List R)) (ℕ × BlockFault) → Result (List R) (ℕ × BlockFault)
or_empty (Err fault) = Err fault
or_empty (Ok found) = Ok (unwrap_or found [])

module _ {R K : Type 0} (form : Form R K) where
  -- the record comes behind the key; each does where there is no key
  abbrev pub is_above : Option K → R → Bool
  is_above None r = true
  is_above (Some key) r = form.is_before key (form.key_of r)

  abbrev pub records_above : Option K → List R → List R
  records_above after recs = filter (is_above after) recs

  -- the place behind the last of the first n keys that isn't after this one
  abbrev pub place_above : Option K → Bool → List ℕ → ℕ → ℕ
  place_above None leaf area n = zero
  place_above (Some key) leaf area n = place_behind form key leaf area n

  -- a node's last entry whose low key isn't after the key, or else its first
  unfoldable pub start_of : Option K → List ℕ → ℕ
  start_of after bytes = place_above after false (area_of bytes) (numrecs bytes) - 1

  -- the first leaf below a block of this level that isn't the root
  unfoldable pub first_below : Site → (ℕ → List ℕ) → Option K → ℕ → ℕ → Result (List R) (ℕ × BlockFault)
  first_below site m after zero p =
      tested (lone_fault form site zero false p (m p)) p (Ok (records_above after (records_of form (m p))))
  first_below site m after (suc level) p =
      tested (lone_fault form site (suc level) false p (m p)) p (first_below site m after level (child_of form.kind (area_of (m p)) 0))

  -- the first leaf below a node's entry of this number, if it has one; its children are of this level
  unfoldable pub leaf_behind : Site → (ℕ → List ℕ) → Option K → ℕ → List ℕ → ℕ → Result (Option (List R)) (ℕ × BlockFault)
  leaf_behind site m after level bytes i =
      if nat_lt i (numrecs bytes) then as_found (first_below site m after level (child_of form.kind (area_of bytes) i)) else Ok None

  -- The records above the key in the first leaf below this block that has some. A node begins at
  -- its last entry whose low key isn't after the key. Where none is found there, it goes on to the
  -- first leaf behind.
  unfoldable pub next_below : Site → (ℕ → List ℕ) → Option K → ℕ → Bool → ℕ → Result (Option (List R)) (ℕ × BlockFault)
  next_below site m after zero root p =
      tested (lone_fault form site zero root p (m p)) p (Ok (some_of (records_above after (records_of form (m p)))))
  next_below site m after (suc level) root p =
      tested (lone_fault form site (suc level) root p (m p)) p (or_then (next_below site m after level false (child_of form.kind (area_of (m p)) (start_of after (m p)))) (leaf_behind site m after level (m p) (start_of after (m p) + 1)))

  -- in a tree with this root and so many levels
  unfoldable pub next_in : Site → (ℕ → List ℕ) → ℕ → ℕ → Option K → Result (List R) (ℕ × BlockFault)
  next_in site m root levels after =
      if nat_le 1 root && nat_lt root site.bounds.length then or_empty (next_below site m after (top_of levels) true root) else Err (root, faults.Range)

  -- records that rise, above the key, each of a supported form and in range
  pub record AreAbove (bounds : Bounds) (after : Option K) (recs : List R) : Type 0 where
    pub rising : IsRising form recs
    pub above : Each (is_above after) recs
    pub inside : AllInside form bounds recs
    pub supported : AllSupported form recs

  -- of these records, the first ones above the key; none only where there are none
  pub record AreNext (after : Option K) (recs rs : List R) : Type 0 where
    pub rest : List R
    pub first : records_above after recs ≡ rs ++ rest
    pub some : rs ≡ [] → records_above after recs ≡ []
