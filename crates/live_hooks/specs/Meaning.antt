-- What a call does to the lists that a listener stands for. A meaning is a relation: it may hold of many lists, as that of
-- a listener that ignores all does.
use Rattle.std.specs.Prelude.{Bool, List}
use Rattle.std.specs.List.Sorted.{IsPermutation}
use Rattle.live_hooks.specs.Heard.{Inode, Owned, AreMoved, IsMoved}

-- what it stood for, it still stands for
abbrev pub Stays : (List Inode → List Owned → Type 0) → (List Inode → List Owned → Type 0) → Type 0
Stays before after = (vs : List Inode) (os : List Owned) → before vs os → after vs os

-- an inode is added to the visited ones, or taken from them
abbrev pub MovesInode : (List Inode → List Owned → Type 0) → (List Inode → List Owned → Type 0) → Bool → Inode → Type 0
MovesInode before after taken v = (vs ws : List Inode) (os : List Owned) → IsMoved taken v vs ws → before vs os → after ws os

-- blocks are added to the owned ones, or taken from them
abbrev pub MovesOwned : (List Inode → List Owned → Type 0) → (List Inode → List Owned → Type 0) → Bool → List Owned → Type 0
MovesOwned before after add new = (vs : List Inode) (os ps : List Owned) → AreMoved add new os ps → before vs os → after vs ps

-- the order of the lists says nothing
abbrev pub AnyOrder : (List Inode → List Owned → Type 0) → Type 0
AnyOrder meaning = (vs ws : List Inode) (os ps : List Owned) → IsPermutation vs ws → IsPermutation os ps → meaning vs os → meaning ws ps
