-- Which units of 64 inodes are chunks, and which inodes stand in them ("Inode B+trees").
use Rattle.std.specs.Prelude.{ℕ, ◌+◌, ◌*◌, ◌/◌, ◌%◌, List, map, filter, flat_map}
use Rattle.geom.specs.Layout.{group_len_of}
use Rattle.fs_state.specs.Apart.{is_chunk}
use Rattle.geom.specs.Layout.{inode_at}
use Rattle.fs_state.specs.State.{State}
use Rattle.fs_state.specs.Lists.{numbers}

-- Which chunks does a group have? The aligned units of 64 inodes that one of the two trees lists and whose 64 cores
-- all verify, by the number of the unit: unit u begins at block 8 u.
unfoldable pub chunks : State → ℕ → List ℕ
chunks a g = filter (is_chunk a g) (numbers 0 (group_len_of a.geometry g / 8))

-- the number of inode i of a unit
abbrev pub inode_in : State → ℕ → ℕ → ℕ → ℕ
inode_in a g u i = inode_at a.geometry g (8 * u + i / 8) (i % 8)

-- Which inodes does a group have? Those of its chunks, rising; whether they are allocated or free.
unfoldable pub inodes_in : State → ℕ → List ℕ
inodes_in a g = flat_map (λ u. map (inode_in a g u) (numbers 0 64)) (chunks a g)

-- those of all groups
unfoldable pub inodes : State → List ℕ
inodes a = flat_map (inodes_in a) (numbers 0 a.geometry.agcount)
