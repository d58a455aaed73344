-- What an edit keeps of a list.
use Rattle.std.specs.Prelude.{◌≡◌, ⊤, ℕ, suc, Bool, true, List, length, Ok}
use Rattle.sblock.specs.Blocks.{IsRising}
use Rattle.sblock.specs.Form.{Form}
use Rattle.sblock.specs.Lists.{Each}
use Rattle.list_edit.specs.Edits.{edited}
use Rattle.list_edit.specs.declared.edits.Edit.{Edit}
use Rattle.list_edit.specs.declared.edits.Edit.TheVariants.{Insert, Remove, Change}

-- the record is put into the list
abbrev pub IsPut : Edit → Type 0
IsPut Insert = ⊤
IsPut Remove = ⊥
IsPut Change = ⊤

-- so many records are so many after the edit
abbrev pub Counts : Edit → ℕ → ℕ → Type 0
Counts Insert old new = new ≡ suc old
Counts Remove old new = suc new ≡ old
Counts Change old new = new ≡ old

module _ {R K : Type 0} (form : Form R K) where
  abbrev pub KeepsRising : Type 0
  KeepsRising = (how : Edit) (r : R) (old new : List R) → IsRising form old → edited form how r old ≡ Ok new → IsRising form new

  abbrev pub KeepsEach : Type 0
  KeepsEach = (test : R → Bool) (how : Edit) (r : R) (old new : List R) → (IsPut how → test r ≡ true) → Each test old → edited form how r old ≡ Ok new → Each test new

  abbrev pub CountsRecords : Type 0
  CountsRecords = (how : Edit) (r : R) (old new : List R) → edited form how r old ≡ Ok new → Counts how (length old) (length new)
