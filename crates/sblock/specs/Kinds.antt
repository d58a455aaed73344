-- The six kinds of short-form btree: the magic number of their blocks, and how much a block holds.
-- A block has 4,040 bytes behind its header. A leaf fills them with records, a node with keys and
-- then pointers of 4 bytes; the least number is half of the greatest, rounded down.
use Rattle.std.specs.Prelude.{ℕ, Bool, true, false}
use Rattle.sblock.specs.declared.kind.Kind.{Kind}
use Rattle.sblock.specs.declared.kind.Kind.TheVariants.{Bno, Cnt, Rmap, Refc, Ino, Fino}

-- AB3B, AB3C, RMB3, R3FC, IAB3, FIB3
abbrev pub magic_of : Kind → ℕ
magic_of Bno = 0x4142_3342
magic_of Cnt = 0x4142_3343
magic_of Rmap = 0x524d_4233
magic_of Refc = 0x5233_4643
magic_of Ino = 0x4941_4233
magic_of Fino = 0x4649_4233

-- the bytes of a record
abbrev pub record_width_of : Kind → ℕ
record_width_of Bno = 8
record_width_of Cnt = 8
record_width_of Rmap = 24
record_width_of Refc = 12
record_width_of Ino = 16
record_width_of Fino = 16

-- the bytes of a node's key: for Rmap the low and the high one
abbrev pub key_width_of : Kind → ℕ
key_width_of Bno = 8
key_width_of Cnt = 8
key_width_of Rmap = 40
key_width_of Refc = 4
key_width_of Ino = 4
key_width_of Fino = 4

-- the greatest number of records in a leaf
abbrev pub leaf_most_of : Kind → ℕ
leaf_most_of Bno = 505
leaf_most_of Cnt = 505
leaf_most_of Rmap = 168
leaf_most_of Refc = 336
leaf_most_of Ino = 252
leaf_most_of Fino = 252

-- the least number of records in a leaf that isn't the root
abbrev pub leaf_least_of : Kind → ℕ
leaf_least_of Bno = 252
leaf_least_of Cnt = 252
leaf_least_of Rmap = 84
leaf_least_of Refc = 168
leaf_least_of Ino = 126
leaf_least_of Fino = 126

-- the greatest number of keys and pointers in a node
abbrev pub node_most_of : Kind → ℕ
node_most_of Bno = 336
node_most_of Cnt = 336
node_most_of Rmap = 91
node_most_of Refc = 505
node_most_of Ino = 505
node_most_of Fino = 505

-- the least number of keys and pointers in a node that isn't the root
abbrev pub node_least_of : Kind → ℕ
node_least_of Bno = 168
node_least_of Cnt = 168
node_least_of Rmap = 45
node_least_of Refc = 252
node_least_of Ino = 252
node_least_of Fino = 252

-- its nodes hold the greatest key of a subtree beside the least
abbrev pub has_high_keys_of : Kind → Bool
has_high_keys_of Bno = false
has_high_keys_of Cnt = false
has_high_keys_of Rmap = true
has_high_keys_of Refc = false
has_high_keys_of Ino = false
has_high_keys_of Fino = false
