-- The answer of a search beside what the tree gives.
use Rattle.std.specs.Prelude.{◌≡◌, ⊤, ℕ, List, Option, Some, None, Result, Ok, Err, Vec}
use Rattle.sblock.specs.Form.{Form}
use Rattle.sblock.specs.declared.block.BlockFault.{BlockFault}
use Rattle.tree_blocks.specs.Meets.{Refuses}
use Rattle.tree_blocks.specs.declared.tree.WalkFault.{WalkFault}
use Rattle.tree_blocks.specs.declared.tree.WalkFault.TheVariants.{Bad, Failed, Memory}
use Rattle.tree_find.specs.Find.{record_with}
use Rattle.tree_find.specs.Next.{AreNext}

abbrev pub Meets : {A : Type 0} → Result A (ℕ × BlockFault) → Result A WalkFault → Type 0
Meets read (Ok found) = read ≡ Ok found
Meets read (Err fault) = Refuses read fault

abbrev pub MeetsRecords : {R Z : Type 0} → Result (List R) (ℕ × BlockFault) → Result (Vec R Z) WalkFault → Type 0
MeetsRecords read (Ok recs) = read ≡ Ok recs.items
MeetsRecords read (Err fault) = Refuses read fault

abbrev pub MeetsFound : {R Z : Type 0} → Result (Option (List R)) (ℕ × BlockFault) → Result (Option (Vec R Z)) WalkFault → Type 0
MeetsFound read (Ok None) = read ≡ Ok None
MeetsFound read (Ok (Some recs)) = read ≡ Ok (Some recs.items)
MeetsFound read (Err fault) = Refuses read fault

-- of these records the one with an equal key is answered, none where there is none, and no fault of a
-- block
abbrev pub Finds : {R K : Type 0} → Form R K → K → List R → Result (Option R) WalkFault → Type 0
Finds form key recs result = Meets (Ok (record_with form key recs)) result

-- the next of these records are answered, and no fault of a block
abbrev pub GivesNext : {R K Z : Type 0} → Form R K → Option K → List R → Result (Vec R Z) WalkFault → Type 0
GivesNext form after recs (Ok found) = AreNext form after recs found.items
GivesNext form after recs (Err (Bad block fault)) = ⊥
GivesNext form after recs (Err Failed) = ⊤
GivesNext form after recs (Err Memory) = ⊤
