-- What a walk answers, as an edit tells it.
use Rattle.std.specs.Prelude.{◌≡◌, ◌≤◌, ◌+◌, ⊤, ℕ, List, Result, Ok, Err}
use Rattle.sblock.specs.declared.block.BlockFault.{BlockFault}
use Rattle.sblock.specs.Form.{Form}
use Rattle.tree_defs.specs.Walked.{walked}
use Rattle.tree_defs.specs.declared.site.Site.{Site}
use Rattle.tree_blocks.specs.declared.tree.TreeAt.{TreeAt}
use Rattle.tree_blocks.specs.declared.tree.TreeRead.{TreeRead}
use Rattle.tree_blocks.specs.declared.tree.WalkFault.{WalkFault}
use Rattle.tree_blocks.specs.declared.tree.WalkFault.TheVariants.{Bad as BadBlock, Failed as WalkFailed, Memory as WalkMemory}
use Rattle.tree_edit.specs.declared.fault.EditFault.{EditFault}
use Rattle.tree_edit.specs.declared.fault.EditFault.TheVariants.{Bad, Missing, Overlap, Short, TooLarge, Failed, Memory}

-- the same fault of an edit
abbrev pub met_as : WalkFault → EditFault
met_as (BadBlock block fault) = Bad block fault
met_as WalkFailed = Failed
met_as WalkMemory = Memory

-- a fault of the tree is the one that is read; the others have causes outside of it
abbrev pub RefusesWalk : {A : Type 0} → Result A (ℕ × BlockFault) → EditFault → Type 0
RefusesWalk read (Bad block fault) = read ≡ Err (block, fault)
RefusesWalk read Missing = ⊥
RefusesWalk read Overlap = ⊥
RefusesWalk read (Short have need) = ⊥
RefusesWalk read (TooLarge n) = ⊥
RefusesWalk read Failed = ⊤
RefusesWalk read Memory = ⊤

-- the tree is read, with these records and blocks
abbrev pub ReadsAs : {R : Type 0} → Result (List R × List ℕ) (ℕ × BlockFault) → Result (TreeRead R) EditFault → Type 0
ReadsAs read (Ok tree) = read ≡ Ok (tree.recs.items, tree.blocks.items)
ReadsAs read (Err fault) = RefusesWalk read fault

-- a walk can answer it
abbrev pub IsOfWalk : EditFault → Type 0
IsOfWalk (Bad block fault) = ⊤
IsOfWalk Missing = ⊥
IsOfWalk Overlap = ⊥
IsOfWalk (Short have need) = ⊥
IsOfWalk (TooLarge n) = ⊥
IsOfWalk Failed = ⊤
IsOfWalk Memory = ⊤

-- n blocks were counted as read, or no more than n where the walk was cut off
abbrev pub StopsWalk : ℕ → ℕ → ℕ → EditFault → Type 0
StopsWalk before n after (Bad block fault) = after ≡ before + n
StopsWalk before n after Missing = ⊥
StopsWalk before n after Overlap = ⊥
StopsWalk before n after (Short have need) = ⊥
StopsWalk before n after (TooLarge m) = ⊥
StopsWalk before n after Failed = after ≤ before + n
StopsWalk before n after Memory = after ≤ before + n

-- where this tree isn't read, the blocks that a walk reads were counted
abbrev pub StopsTree : {A R K : Type 0} → Form R K → Site → (ℕ → List ℕ) → TreeAt → ℕ → ℕ → Result A EditFault → Type 0
StopsTree form site m tree before after (Ok a) = ⊤
StopsTree form site m tree before after (Err fault) = StopsWalk before (walked form site m tree.root tree.levels) after fault
