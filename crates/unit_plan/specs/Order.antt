-- In which order claims on one block are shown: by their sort, and those of one sort by inode.
use Rattle.std.specs.Prelude.{ℕ, Bool, List, [], ◌∷◌, ◌==◌, ◌&&◌, ◌||◌, nat_lt, if◌then◌else◌}
use Rattle.fs_model.specs.declared.claim.Claim.{Claim}
use Rattle.fs_model.specs.declared.claim.Claim.TheVariants.{Heads, Log, List as FreeList, Tree, Reserve, Limbo, Chunk, Data, Attr, ForkTree, Staging}
use Rattle.sblock.specs.declared.kind.Kind.{Kind}
use Rattle.sblock.specs.declared.kind.Kind.TheVariants.{Bno, Cnt, Rmap, Refc, Ino, Fino}

abbrev pub place_of_tree : Kind → ℕ
place_of_tree Bno = 3
place_of_tree Cnt = 4
place_of_tree Rmap = 5
place_of_tree Refc = 6
place_of_tree Ino = 7
place_of_tree Fino = 8

-- the place of a claim's sort among all sorts
abbrev pub place : Claim → ℕ
place Heads = 0
place Log = 1
place FreeList = 2
place (Tree kind) = place_of_tree kind
place Reserve = 9
place Limbo = 10
place Chunk = 11
place (Data ino) = 12
place (Attr ino) = 13
place (ForkTree ino) = 14
place Staging = 15

-- its inode, or 0 where it has none
abbrev pub inode : Claim → ℕ
inode Heads = 0
inode Log = 0
inode FreeList = 0
inode (Tree kind) = 0
inode Reserve = 0
inode Limbo = 0
inode Chunk = 0
inode (Data ino) = ino
inode (Attr ino) = ino
inode (ForkTree ino) = ino
inode Staging = 0

-- one pair of numbers is before another
unfoldable pub is_first : ℕ → ℕ → ℕ → ℕ → Bool
is_first a i b j = nat_lt a b || ((a == b) && nat_lt i j)

abbrev pub comes_before : Claim → Claim → Bool
comes_before c d = is_first (place c) (inode c) (place d) (inode d)

-- a claim put in front of the first that doesn't come before it
abbrev pub put : Claim → List Claim → List Claim
put c [] = c ∷ []
put c (d ∷ ds) = if comes_before d c then d ∷ put c ds else c ∷ d ∷ ds
