-- What holds of a kind of record beside its own law.
use Rattle.std.specs.Prelude.{◌≡◌, ◌≤◌, true, List, All}
use Rattle.std.specs.List.{list_any}
use Rattle.sblock.specs.Blocks.{AllInside}
use Rattle.sblock.specs.Form.{Form}
use Rattle.sblock.specs.Meets.{meets}
use Rattle.sblock.specs.declared.block.Bounds.{Bounds}
use Rattle.list_edit.specs.Edits.{bars}

module _ {R K : Type 0} (form : Form R K) where
  abbrev pub WritesEach : Type 0
  WritesEach = (records : List R) → All (λ r. form.is_written r ≡ true) records

  abbrev pub CoversOne : Type 0
  CoversOne = (bounds : Bounds) (r : R) → form.is_in_range bounds r ≡ true → 1 ≤ form.length_of r

  -- for records in range, one that can't be beside another meets it
  abbrev pub BarsAsItMeets : Type 0
  BarsAsItMeets = (bounds : Bounds) (r : R) (list : List R) → form.is_in_range bounds r ≡ true → AllInside form bounds list → list_any (bars form r) list ≡ list_any (λ s. meets form s r) list
