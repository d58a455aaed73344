-- How many blocks of a tree an edit changes on each level.
use Rattle.std.specs.Prelude.{ℕ, ◌<◌, ◌==◌, nat_lt, if◌then◌else◌, List}
use Rattle.sblock.specs.Area.{area_of, child_of}
use Rattle.sblock.specs.Blocks.{numrecs, most_of}
use Rattle.sblock.specs.Form.{Form}
use Rattle.sblock.specs.declared.kind.Kind.{Kind}

-- how many records or entries a block of this level has at most
abbrev pub most_at : Kind → ℕ → ℕ
most_at kind level = most_of kind (level == 0)

-- the block itself, and its right sibling where it is cut in two
abbrev pub touches : Kind → ℕ → ℕ → ℕ
touches kind level after = if nat_lt (most_at kind level) after then 2 else 1

-- each entry of a node leads to a block of the group
abbrev pub LeadsInside : {R K : Type 0} → Form R K → ℕ → List ℕ → Type 0
LeadsInside form size bytes = (i : ℕ) → i < numrecs bytes → child_of form.kind (area_of bytes) i < size
