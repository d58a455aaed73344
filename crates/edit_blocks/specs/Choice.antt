-- Which blocks an edited tree stands in, and where those go that are left over.
use Rattle.std.specs.Prelude.{◌≡◌, ℕ, ◌+◌, ◌-◌, ◌≤◌, List, ◌++◌, length, take, drop, vec_len, vec_capacity}
use Rattle.std.specs.declared.vec.Vec.{Vec}
use Rattle.std.specs.declared.alloc.Global.{Global}
use Rattle.ag_headers.specs.Ring.{FreeRing}
use Rattle.tree_defs.specs.Lists.{times}
use Rattle.edit_blocks.specs.declared.choice.TheConstants.{LIST_MOST}

-- what a tree of so many blocks needs of the list to have so many
abbrev pub need_of : ℕ → ℕ → ℕ
need_of before after = after - before

-- of the tree's blocks, and then of the list's, the first so many
abbrev pub chosen : List ℕ → List ℕ → ℕ → List ℕ
chosen blocks listed after = take after (blocks ++ listed)

-- the list's blocks among them, and the list without these
abbrev pub taken : List ℕ → List ℕ → ℕ → List ℕ
taken blocks listed after = take (need_of (length blocks) after) listed

abbrev pub untaken : List ℕ → List ℕ → ℕ → List ℕ
untaken blocks listed after = drop (need_of (length blocks) after) listed

-- the tree's blocks that aren't among them
abbrev pub freed : List ℕ → ℕ → List ℕ
freed blocks after = drop after blocks

-- of blocks that are left over, those for which a list has room, and the others
abbrev pub for_list : List ℕ → List ℕ → List ℕ
for_list listed blocks = take (LIST_MOST - length listed) blocks

abbrev pub for_limbo : List ℕ → List ℕ → List ℕ
for_limbo listed blocks = drop (LIST_MOST - length listed) blocks

-- there is room in limbo for these blocks
abbrev pub HasRoomFor : Vec ℕ Global → List ℕ → Type 0
HasRoomFor limbo blocks = vec_len limbo + length blocks ≤ vec_capacity limbo

-- a free list of the same group and image, of the same write
pub record IsSameList (old new : FreeRing) : Type 0 where
  pub group : new.seqno ≡ old.seqno
  pub image : new.uuid ≡ old.uuid
  pub lsn : new.lsn ≡ old.lsn

-- what the tree has and frees is what it had and took, each block as often
abbrev pub EachOnce : Type 0
EachOnce = (blocks listed : List ℕ) (after b : ℕ) → times b (chosen blocks listed after) + times b (freed blocks after) ≡ times b blocks + times b (taken blocks listed after)

abbrev pub TakenAreFirst : Type 0
TakenAreFirst = (blocks listed : List ℕ) (after : ℕ) → listed ≡ taken blocks listed after ++ untaken blocks listed after

abbrev pub GivenAreAll : Type 0
GivenAreAll = (listed blocks : List ℕ) → blocks ≡ for_list listed blocks ++ for_limbo listed blocks
