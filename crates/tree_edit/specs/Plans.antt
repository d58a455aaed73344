-- What an edit needs, and when it is refused before anything is changed.
use Rattle.std.specs.Prelude.{◌≡◌, ⊤, ℕ, ◌-◌, ◌^◌, ◌<◌, ◌≤◌, min, List, length, Result, Err}
use Rattle.sblock.specs.declared.kind.Kind.{Kind}
use Rattle.bulk_load.specs.Shapes.{IsShape}
use Rattle.edit_blocks.specs.Choice.{chosen, need_of}
use Rattle.list_edit.specs.declared.fault.ListFault.{ListFault}
use Rattle.list_edit.specs.declared.fault.ListFault.TheVariants as list
use Rattle.tree_edit.specs.declared.fault.EditFault.{EditFault}
use Rattle.tree_edit.specs.declared.fault.EditFault.TheVariants.{Bad, Missing, Overlap, Short, TooLarge, Failed, Memory}
use Rattle.tree_edit.specs.declared.plan.Plan.{Plan}

-- How many levels and blocks a tree has once it is edited to n records. An edit writes the whole tree anew, so it has
-- the shape of a new tree of so many. What an edit needs, frees and joins goes by this number.
abbrev pub HasSize : Kind → ℕ → ℕ → ℕ → Type 0
HasSize kind n levels blocks = IsShape kind n levels blocks

-- the same fault of an edit
abbrev pub listed_as : ListFault → EditFault
listed_as list.Missing = Missing
listed_as list.Overlap = Overlap
listed_as list.Memory = Memory

-- the edited list's own refusal
abbrev pub RefusesList : {A : Type 0} → Result A ListFault → EditFault → Type 0
RefusesList made (Bad block fault) = ⊥
RefusesList made Missing = made ≡ Err list.Missing
RefusesList made Overlap = made ≡ Err list.Overlap
RefusesList made (Short have need) = ⊥
RefusesList made (TooLarge n) = ⊥
RefusesList made Failed = ⊥
RefusesList made Memory = ⊤

-- the list has fewer blocks than a tree of `before` blocks needs to have `after`
abbrev pub RefusesBlocks : ℕ → ℕ → ℕ → EditFault → Type 0
RefusesBlocks before listed after (Bad block fault) = ⊥
RefusesBlocks before listed after Missing = ⊥
RefusesBlocks before listed after Overlap = ⊥
RefusesBlocks before listed after (Short have need) = (have ≡ listed) × (need ≡ min (need_of before after) (2 ^ 32 - 1)) × (have < need_of before after)
RefusesBlocks before listed after (TooLarge n) = ⊥
RefusesBlocks before listed after Failed = ⊥
RefusesBlocks before listed after Memory = ⊤

-- the blocks of the edited tree, and how many of them are the list's
pub record IsPlan (before listed : List ℕ) (after : ℕ) (plan : Plan) : Type 0 where
  pub need : plan.need ≡ need_of (length before) after
  pub enough : plan.need ≤ length listed
  pub claimed : plan.claimed.items ≡ chosen before listed after
  pub many : length plan.claimed.items ≡ after
