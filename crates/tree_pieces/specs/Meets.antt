-- The answer of a piece beside what the tree gives.
use Rattle.std.specs.Prelude.{◌≡◌, ⊤, ℕ, List, Option, Some, None, Result, Ok, Err, Vec}
use Rattle.sblock.specs.Form.{Form}
use Rattle.sblock.specs.declared.block.BlockFault.{BlockFault}
use Rattle.tree_defs.specs.Tree.{top_of}
use Rattle.tree_blocks.specs.Meets.{Refuses}
use Rattle.tree_blocks.specs.declared.tree.TreeRead.{TreeRead}
use Rattle.tree_blocks.specs.declared.tree.WalkFault.{WalkFault}
use Rattle.tree_blocks.specs.declared.tree.WalkFault.TheVariants.{Bad, Failed, Memory}
use Rattle.tree_pieces.specs.Pieces.{Met, IsPiece}

-- these records are read, and then these blocks are met
abbrev pub MeetsFirst : {R Z : Type 0} → Result (List R × List ℕ) (ℕ × BlockFault) → Result (Vec R Z) WalkFault → List ℕ → Type 0
MeetsFirst read (Ok recs) met = read ≡ Ok (recs.items, met)
MeetsFirst read (Err fault) met = Refuses read fault

abbrev pub MeetsMet : {R Z : Type 0} → Met R → Result (Option (Vec R Z)) WalkFault → List ℕ → Type 0
MeetsMet read (Ok None) met = read ≡ Ok (None, met)
MeetsMet read (Ok (Some recs)) met = read ≡ Ok (Some recs.items, met)
MeetsMet read (Err fault) met = Refuses read fault

abbrev pub MeetsPiece : {R : Type 0} → Result (List R × List ℕ) (ℕ × BlockFault) → Result (TreeRead R) WalkFault → Type 0
MeetsPiece read (Ok piece) = read ≡ Ok (piece.recs.items, piece.blocks.items)
MeetsPiece read (Err fault) = Refuses read fault

-- on a readable tree it is a piece of these records, and no fault of a block
abbrev pub GivesPiece : {R K : Type 0} → Form R K → (ℕ → List ℕ) → ℕ → ℕ → Option K → Result (TreeRead R) WalkFault → List R → Type 0
GivesPiece form m root levels after (Ok piece) recs = IsPiece form m (top_of levels) root after recs piece.recs.items piece.blocks.items
GivesPiece form m root levels after (Err (Bad block fault)) recs = ⊥
GivesPiece form m root levels after (Err Failed) recs = ⊤
GivesPiece form m root levels after (Err Memory) recs = ⊤
