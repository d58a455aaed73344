-- The words of a reading, at a bound `B: Blocks`.
use Rattle.tree_blocks.specs.declared.blocks.Blocks.{Ghosts}
use Rattle.tree_blocks.specs.Reading.{ReadsBy}

abbrev pub Reads : {B : Type 0} → Ghosts B → B → B → Type 0
Reads g = ReadsBy g.told g.place g.faults g.follows
