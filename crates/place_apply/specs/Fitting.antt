-- Changed records or entries that a block can be made of.
use Rattle.std.specs.Prelude.{◌≡◌, ℕ, ◌+◌, ◌^◌, ◌<◌, ◌≤◌, List}
use Rattle.sblock.specs.Blocks.{numrecs}
use Rattle.sblock.specs.Form.{Form}
use Rattle.sblock.specs.Kinds.{leaf_most_of, node_most_of}
use Rattle.place_cells.specs.Cells.{from_at, StandsIn}
use Rattle.place_cells.specs.declared.cut.Cut.{Cut}
use Rattle.place_apply.specs.declared.items.Change.{Change}
use Rattle.place_apply.specs.declared.items.Change.TheVariants.{Records, Entries}
use Rattle.place_apply.specs.declared.items.Items.{Items}

-- each of so many is put in, or stands in the first block, or in a second one that holds at most so many
pub record Come {I : Type 0} (most : ℕ) (first : List ℕ) (count : ℕ) (cut : Cut I) : Type 0 where
  pub room : numrecs first ≤ most
  pub small : count + cut.gone < 2 ^ 64
  pub fits : cut.at + 1 < 2 ^ 64
  pub inside : (i : ℕ) → i < count → StandsIn (numrecs first + most) (from_at cut i)

module _ {R K : Type 0} (form : Form R K) (level : ℕ) where
  abbrev pub FitsBy : List ℕ → ℕ → Change R K → Type 0
  FitsBy first count (Records cut) = (level ≡ 0) × Come (leaf_most_of form.kind) first count cut
  FitsBy first count (Entries cut) = (1 ≤ level) × Come (node_most_of form.kind) first count cut

  -- the records of a leaf, or the entries of a node above
  abbrev pub Fits : Items R K → Type 0
  Fits items = FitsBy items.first.bytes items.count items.change
