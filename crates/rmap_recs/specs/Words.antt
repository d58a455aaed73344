-- The offset word of a reverse mapping: three flags, and the offset in the file below them.
use Rattle.std.specs.Prelude.{ℕ, ◌+◌, ◌-◌, ◌/◌, ◌%◌, ◌^◌, ◌==◌, nat_lt, nat_le, not, Bool, ◌&&◌, ◌||◌, if◌then◌else◌, bit_and}
use Rattle.rmap_recs.specs.Owners.{is_inode}

-- an offset word without the unwritten flag, bit 61, which is no part of a key
unfoldable pub key_word : ℕ → ℕ
key_word word = bit_and word (2 ^ 64 - 1 - 2 ^ 61)

-- some of these bits are set
abbrev pub has_any : ℕ → ℕ → Bool
has_any word bits = nat_lt 0 (bit_and word bits)

-- the block is mapped by an attribute fork
abbrev pub is_attribute : ℕ → Bool
is_attribute word = has_any word (2 ^ 63)

-- the block is one of a fork's own btree
abbrev pub is_fork_tree : ℕ → Bool
is_fork_tree word = has_any word (2 ^ 62)

abbrev pub is_unwritten : ℕ → Bool
is_unwritten word = has_any word (2 ^ 61)

-- the low 54 bits
abbrev pub offset_of : ℕ → ℕ
offset_of word = word % 2 ^ 54

-- the bits above the offset
abbrev pub flags_of : ℕ → ℕ
flags_of word = word / 2 ^ 54

-- a word that an inode's mapping of this many blocks may have: no bit but the flags and the
-- offset, and the flags fit together
unfoldable pub is_word_right : ℕ → ℕ → Bool
is_word_right count word =
    not (has_any word (2 ^ 61 - 2 ^ 54))
    && not (is_unwritten word && is_attribute word)
    && not (is_fork_tree word && (is_unwritten word || nat_lt 0 (offset_of word)))
    && nat_le (offset_of word + count) (2 ^ 54)

-- blocks that a fork of an inode maps, so that their offsets count up with them
unfoldable pub is_fork_data : ℕ → ℕ → Bool
is_fork_data owner word = is_inode owner && not (is_fork_tree word)

-- a word that goes on this many blocks behind another of the same owner: the same flags, and for
-- fork data the offset that comes then, else the same one
unfoldable pub word_goes_on : ℕ → ℕ → ℕ → ℕ → Bool
word_goes_on owner word count next =
    (flags_of next == flags_of word)
    && (offset_of next == (if is_fork_data owner word then offset_of word + count else offset_of word))
