-- What the scan of all inodes has seen of a group (Online Fsck Design, "Live Inode Scans", "Case Study: Rebuilding Reverse
-- Mapping Records").
use Rattle.std.specs.Prelude.{ℕ, ◌+◌, ◌-◌, ◌&&◌, Bool, nat_le, nat_lt, List, [], ◌++◌, map, filter, length, take, drop, Option, Some, None}
use Rattle.dinode_core.specs.declared.mapping.Fork.TheVariants as forks
use Rattle.fs_model.specs.declared.claim.Claim.TheVariants.{Data, Attr}
use Rattle.rmap_recs.specs.declared.tuples.Tuple.{Tuple}
use Rattle.fs_state.specs.State.{State, ForkList}
use Rattle.fs_state.specs.Claims.{Claimed, mapping_claims, fork_tree_claims, fork_of, attribute}
use Rattle.fs_state.specs.Own.{tuple_of, set_of}
use Rattle.fs_change.specs.Chains.{settled_forks}

-- Has a scan whose cursor is c been at the inode? The cursor is the last number that it has passed.
unfoldable pub visited : ℕ → ℕ → Bool
visited c ino = nat_le ino c

-- the first k mappings of a fork, and its btree's blocks whose first mapping is among these
abbrev pub first_mappings : ℕ → ForkList → ForkList
first_mappings k list = record { mappings = take k list.mappings; blocks = filter (λ t. nat_lt t.before k) list.blocks }

-- the n mappings behind the first k, and its btree's blocks whose first mapping is among these
abbrev pub next_mappings : ℕ → ℕ → ForkList → ForkList
next_mappings k n list = record { mappings = take n (drop k list.mappings); blocks = filter (λ t. nat_le k t.before && nat_lt t.before (k + n)) list.blocks }

-- of an inode the first k mappings, those of its data fork before those of its attribute fork
abbrev pub data_piece : State → ℕ → ℕ → ForkList
data_piece a ino k = first_mappings k (fork_of a ino forks.Data)

abbrev pub attribute_piece : State → ℕ → ℕ → ForkList
attribute_piece a ino k = first_mappings (k - length (fork_of a ino forks.Data).mappings) (fork_of a ino forks.Attr)

abbrev pub piece_claims : State → ℕ → ℕ → ℕ → List Claimed
piece_claims a g ino k =
    let d = data_piece a ino k in
    let t = attribute_piece a ino k in
    mapping_claims a.geometry g (Data ino) ino 0 d.mappings ++ mapping_claims a.geometry g (Attr ino) ino attribute t.mappings
    ++ fork_tree_claims a.geometry g ino 0 d.blocks ++ fork_tree_claims a.geometry g ino attribute t.blocks

-- what a piece of n mappings behind the first k gives: of the attribute fork what goes beyond the data fork
abbrev pub next_claims : State → ℕ → ℕ → ℕ → ℕ → List Claimed
next_claims a g ino k n =
    let behind : ℕ = length (fork_of a ino forks.Data).mappings in
    let d = next_mappings k n (fork_of a ino forks.Data) in
    let t = next_mappings (k - behind) ((k + n - behind) - (k - behind)) (fork_of a ino forks.Attr) in
    mapping_claims a.geometry g (Data ino) ino 0 d.mappings ++ mapping_claims a.geometry g (Attr ino) ino attribute t.mappings
    ++ fork_tree_claims a.geometry g ino 0 d.blocks ++ fork_tree_claims a.geometry g ino attribute t.blocks

abbrev pub held_tuples : State → ℕ → Option ℕ → ℕ → List Tuple
held_tuples a g None k = []
held_tuples a g (Some ino) k = map tuple_of (piece_claims a g ino k)

-- Which owners does the shadow of a group have, once a scan was at all inodes up to c, and has k mappings of the inode that
-- it holds? The settled ones of visited inodes, and these.
unfoldable pub shadow_of : State → ℕ → ℕ → Option ℕ → ℕ → List Tuple
shadow_of a g c held k = set_of (filter (λ t. visited c t.owner) (settled_forks a g) ++ held_tuples a g held k)
