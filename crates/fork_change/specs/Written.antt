-- A data fork's list of mappings in its inode, packed one behind the other ("Data Extents", "On-disk Inode").
use Rattle.std.specs.Prelude.{◌≡◌, ℕ, nat_lt, Bool, true, false, List, [], ◌∷◌, ◌++◌, drop, length, None, Result, Ok, Err, if◌then◌else◌}
use Rattle.geom.specs.Layout.{Layout}
use Rattle.dinode_core.specs.declared.inode.Core3.{Core3}
use Rattle.dinode_core.specs.declared.mapping.Fork.TheVariants.{Data}
use Rattle.dinode_core.specs.declared.mapping.Mapping.{Mapping}
use Rattle.dinode_core.specs.Inline.{form_fault, inline_fault, inline_mappings, first_bad}
use Rattle.dinode_core.specs.Packed.{packed}
use Rattle.dinode_core.specs.Shape.{has_large_counts, room_of}
use Rattle.fork_change.specs.declared.change.ForkChange.{ForkChange}
use Rattle.fork_change.specs.declared.change.ForkChange.TheVariants.{Full}

-- the mappings from the front on; the bytes behind them stay
unfoldable pub laid : List Mapping → List ℕ → List ℕ
laid [] bytes = bytes
laid (m ∷ ms) bytes = packed m ++ laid ms (drop 16 bytes)

-- the number of mappings in the data fork: with large counts it has a field of its own
abbrev pub numbered : Bool → ℕ → Core3 → Core3
numbered true n core = record core { big_nextents = n }
numbered false n core = record core { nextents = n }

-- What is an inode with this list as its data fork? Its number of mappings and their bytes are new.
abbrev pub with_list : List Mapping → Core3 → Core3
with_list ms core = record (numbered (has_large_counts core) (length ms) core) { literal = laid ms core.literal }

-- where the list fits the fork
unfoldable pub put_answer : List Mapping → Core3 → Result Core3 ForkChange
put_answer ms core = if nat_lt (room_of core Data) (length ms) then Err (Full (length ms)) else Ok (with_list ms core)

-- The inode reads as exactly this list: the data fork's form is right, its mappings are these, and its first fault is
-- theirs.
pub record ReadsAs (core : Core3) (ms : List Mapping) : Type 0 where
  pub form : form_fault core Data ≡ None
  pub mappings : inline_mappings core Data ≡ ms
  pub fault : (at : Layout) → inline_fault at core Data ≡ first_bad at Data ms
