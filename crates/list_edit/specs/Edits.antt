-- A list of records that rises by key, with a record put in, taken out, or put in another's place; and
-- when that can't be.
use Rattle.std.specs.Prelude.{Bool, not, ◌&&◌, ◌||◌, List, [], ◌∷◌, Result, Ok, Err, if◌then◌else◌}
use Rattle.std.specs.List.{list_any}
use Rattle.sblock.specs.Form.{Form, same_key}
use Rattle.sblock.specs.Meets.{meets}
use Rattle.list_edit.specs.declared.edits.Edit.{Edit}
use Rattle.list_edit.specs.declared.edits.Edit.TheVariants.{Insert, Remove, Change}
use Rattle.list_edit.specs.declared.fault.ListFault.{ListFault}
use Rattle.list_edit.specs.declared.fault.ListFault.TheVariants.{Missing, Overlap}

module _ {R K : Type 0} (form : Form R K) where
  -- s comes before r
  unfoldable pub comes_before : R → R → Bool
  comes_before r s = form.is_before (form.key_of s) (form.key_of r)

  -- s is r, in all its numbers
  unfoldable pub is_one : R → R → Bool
  is_one r s = form.is_same s r

  -- s has the key of r
  unfoldable pub has_key : R → R → Bool
  has_key r s = same_key form (form.key_of s) (form.key_of r)

  -- s can't be beside r: the two meet, or have one key
  unfoldable pub bars : R → R → Bool
  bars r s = meets form s r || has_key r s

  -- s has another key than r, and meets it
  unfoldable pub bars_beside : R → R → Bool
  bars_beside r s = not (has_key r s) && meets form s r

  -- with r behind all that come before it
  unfoldable pub inserted : R → List R → List R
  inserted r [] = r ∷ []
  inserted r (s ∷ ss) = if comes_before r s then s ∷ inserted r ss else r ∷ s ∷ ss

  -- without r
  unfoldable pub removed : R → List R → List R
  removed r [] = []
  removed r (s ∷ ss) = if is_one r s then ss else s ∷ removed r ss

  -- with r in the place of the record with its key
  unfoldable pub changed : R → List R → List R
  changed r [] = []
  changed r (s ∷ ss) = if has_key r s then r ∷ ss else s ∷ changed r ss

  -- the edited list, or why there is none
  abbrev pub edited : Edit → R → List R → Result (List R) ListFault
  edited Insert r list = if list_any (bars r) list then Err Overlap else Ok (inserted r list)
  edited Remove r list = if list_any (is_one r) list then Ok (removed r list) else Err Missing
  edited Change r list =
      if list_any (has_key r) list then (if list_any (bars_beside r) list then Err Overlap else Ok (changed r list)) else Err Missing
