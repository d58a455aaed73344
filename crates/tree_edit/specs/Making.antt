-- An edited tree's blocks, made before anything is changed, and why they can't be.
use Rattle.std.specs.Prelude.{◌≡◌, ⊤, ℕ, ◌≤◌, ◌+◌, List, ◌++◌, length}
use Rattle.byte_fields.specs.Steps.{StepCount}
use Rattle.sblock.specs.Blocks.{AreBlocks}
use Rattle.sblock.specs.Form.{Form}
use Rattle.sblock.specs.declared.block.BlockFault.TheVariants.{Sibling}
use Rattle.sblock.specs.declared.kind.Kind.{Kind}
use Rattle.tree_defs.specs.Lists.{AllDiffer}
use Rattle.tree_defs.specs.declared.site.Site.{Site}
use Rattle.edit_blocks.specs.Choice.{chosen, need_of}
use Rattle.load_trees.specs.declared.unfit.Unfit.{Unfit}
use Rattle.load_trees.specs.declared.unfit.Unfit.TheVariants as unfit
use Rattle.tree_edit.specs.Anew.{root_of, AreChosen, IsMade}
use Rattle.tree_edit.specs.Plans.{HasSize, RefusesBlocks}
use Rattle.tree_edit.specs.declared.fault.EditFault.{EditFault}
use Rattle.tree_edit.specs.declared.fault.EditFault.TheVariants.{Bad, Missing, Overlap, Short, TooLarge, Failed, Memory}
use Rattle.tree_edit.specs.declared.make.Made.{Made}

-- why blocks aren't laid, as an edit tells it: what isn't want of memory is a bad root
abbrev pub laid_as : ℕ → Unfit → EditFault
laid_as root unfit.Order = Bad root Sibling
laid_as root unfit.Range = Bad root Sibling
laid_as root unfit.Blocks = Bad root Sibling
laid_as root unfit.Memory = Memory

-- each of these is a block of the group behind its block 0, and none stands twice
abbrev pub AreApart : ℕ → List ℕ → Type 0
AreApart len claimed = AreBlocks len claimed × AllDiffer claimed

abbrev pub RefusesLaying : ℕ → List ℕ → EditFault → Type 0
RefusesLaying len claimed (Bad block fault) = ¬ AreApart len claimed
RefusesLaying len claimed Missing = ⊥
RefusesLaying len claimed Overlap = ⊥
RefusesLaying len claimed (Short have need) = ⊥
RefusesLaying len claimed (TooLarge n) = ⊥
RefusesLaying len claimed Failed = ⊥
RefusesLaying len claimed Memory = ⊤

-- no more blocks were counted as written than a tree of n records has
abbrev pub LaysSome : Kind → ℕ → StepCount → StepCount → Type 0
LaysSome kind n before after = (levels many : ℕ) × HasSize kind n levels many × (after.writes ≤ before.writes + many)

-- what was counted where the blocks aren't laid: nothing, or some of them without memory
abbrev pub CountsLaying : Kind → ℕ → StepCount → StepCount → EditFault → Type 0
CountsLaying kind n before after (Bad block fault) = after ≡ before
CountsLaying kind n before after Missing = ⊥
CountsLaying kind n before after Overlap = ⊥
CountsLaying kind n before after (Short have need) = after ≡ before
CountsLaying kind n before after (TooLarge m) = ⊥
CountsLaying kind n before after Failed = ⊥
CountsLaying kind n before after Memory = LaysSome kind n before after

module _ {R K : Type 0} (form : Form R K) where
  -- all that a tree of these records needs, by the blocks that are claimed for it
  pub record IsReady (site : Site) (lsn : ℕ) (recs : List R) (before listed : List ℕ) (made : Made) : Type 0 where
    pub claimed : List ℕ
    pub chose : AreChosen before listed claimed made.left.items
    pub made_of : IsMade form site lsn made.levels recs claimed made.placed.items
    pub touched : made.touched.items ≡ claimed ++ made.left.items
    pub root : made.root ≡ root_of claimed
    pub need : made.need ≡ need_of (length before) (length claimed)
    pub enough : made.need ≤ length listed

  -- the list is short of blocks, or the blocks aren't apart
  abbrev pub RefusesMaking : ℕ → ℕ → List ℕ → List ℕ → EditFault → Type 0
  RefusesMaking len n before listed (Bad block fault) = (levels after : ℕ) × HasSize form.kind n levels after × ¬ AreApart len (chosen before listed after)
  RefusesMaking len n before listed Missing = ⊥
  RefusesMaking len n before listed Overlap = ⊥
  RefusesMaking len n before listed (Short have need) = (levels after : ℕ) × HasSize form.kind n levels after × RefusesBlocks (length before) (length listed) after (Short have need)
  RefusesMaking len n before listed (TooLarge m) = ⊥
  RefusesMaking len n before listed Failed = ⊥
  RefusesMaking len n before listed Memory = ⊤
