-- What a scan has heard of all inodes while writers change them (Online Fsck Design, "Live Inode Scans", "Filesystem
-- Hooks").
use Rattle.std.specs.Prelude.{◌≡◌, ◌<◌, ◌≤◌, ◌↔◌, ℕ, Bool, true, false, ◌==◌, nat_le, List, [], ◌∷◌, ◌++◌, Contains, filter}
use Rattle.std.specs.List.Sorted.{IsPermutation}
use Rattle.live_hooks.specs.Heard.{Inode, Owned, owned_by, AreApart, AreMoved, IsMoved}
use Rattle.live_hooks.specs.declared.records.GroupRec.{GroupRec}

-- Has a scan whose cursor is c been at the inode? The cursor is the last number that it has passed.
abbrev pub is_visited : ℕ → ℕ → Bool
is_visited c ino = nat_le ino c

-- of all inodes those that were visited
unfoldable pub visited_inodes : ℕ → List Inode → List Inode
visited_inodes c vs = filter (λ v. is_visited c v.ino) vs

-- of what all inodes own: that of visited ones, and what was given so far of the inode that the scan holds
unfoldable pub heard : ℕ → List Owned → List Owned → List Owned
heard c os given = filter (λ o. is_visited c o.inode.ino) os ++ given

-- A listener that stands for this keeps up with the scan. `vs` are all inodes, `os` is what they own once what is unfinished
-- is done or undone.
abbrev pub KeepsUp : (List Inode → List Owned → Type 0) → ℕ → List Inode → List Owned → List Owned → Type 0
KeepsUp meaning c vs os given = meaning (visited_inodes c vs) (heard c os given)

-- A meaning before a call and one after it: what the listener stood for as far as the scan had come, it stands for with ..

-- .. a piece more of the inode that the scan holds
abbrev pub HearsPiece : (List Inode → List Owned → Type 0) → (List Inode → List Owned → Type 0) → Inode → GroupRec → Type 0
HearsPiece before after v r =
    (c : ℕ) (vs : List Inode) (os given : List Owned) → AreApart (owned_by v r) (heard c os given)
    → KeepsUp before c vs os given → KeepsUp after c vs os (owned_by v r ++ given)

-- .. what a finished step gave the inode, or took from it, whether or not the scan has been there
abbrev pub HearsDelta : (List Inode → List Owned → Type 0) → (List Inode → List Owned → Type 0) → ℕ → Bool → Inode → GroupRec → Type 0
HearsDelta before after cursor add v r =
    (vs : List Inode) (os ps given : List Owned) → AreMoved add (owned_by v r) os ps → AreApart (owned_by v r) given
    → KeepsUp before cursor vs os given → KeepsUp after cursor vs ps given

-- .. an inode that was made or given back
abbrev pub HearsInode : (List Inode → List Owned → Type 0) → (List Inode → List Owned → Type 0) → ℕ → Bool → Inode → Type 0
HearsInode before after cursor taken v =
    (vs ws : List Inode) (os given : List Owned) → IsMoved taken v vs ws
    → KeepsUp before cursor vs os given → KeepsUp after cursor ws os given

-- ---- the cursor

-- no inode between the two numbers has a block, or is there at all
pub record IsPassed (c d : ℕ) (vs : List Inode) (os : List Owned) : Type 0 where
  pub inodes : (v : Inode) → Contains vs v → is_visited d v.ino ≡ is_visited c v.ino
  pub owned : (o : Owned) → Contains os o → is_visited d o.inode.ino ≡ is_visited c o.inode.ino

-- a cursor that passes none has heard of nothing more
abbrev pub PassesNone : Type 0
PassesNone = (c d : ℕ) (vs : List Inode) (os given : List Owned) → IsPassed c d vs os → (visited_inodes d vs ≡ visited_inodes c vs) × (heard d os given ≡ heard c os given)

-- The scan holds the next inode, and all that it owns was given: no other one has a number up to its own that isn't visited,
-- and nobody but it owns blocks there.
pub record IsGiven (c : ℕ) (v : Inode) (vs : List Inode) (os given : List Owned) : Type 0 where
  pub above : c < v.ino
  pub others : List Inode
  pub listed : IsPermutation (v ∷ others) vs
  pub next : (w : Inode) → Contains others w → is_visited v.ino w.ino ≡ is_visited c w.ino
  pub owners : (o : Owned) → Contains os o → is_visited c o.inode.ino ≡ false → is_visited v.ino o.inode.ino ≡ true → o.inode.ino ≡ v.ino
  pub whole : IsPermutation given (filter (λ o. o.inode.ino == v.ino) os)

-- .. the whole inode that the scan holds, whose number is the cursor from now on
abbrev pub HearsLast : (List Inode → List Owned → Type 0) → (List Inode → List Owned → Type 0) → Inode → Type 0
HearsLast before after v =
    (c : ℕ) (vs : List Inode) (os given : List Owned) → IsGiven c v vs os given
    → KeepsUp before c vs os given → KeepsUp after v.ino vs os []

-- at the end all inodes are visited, and nothing is left out of what they own
abbrev pub HearsAll : Type 0
HearsAll = (c : ℕ) (vs : List Inode) (os : List Owned) → ((v : Inode) → Contains vs v → v.ino ≤ c) → ((o : Owned) → Contains os o → o.inode.ino ≤ c)
    → (visited_inodes c vs ≡ vs) × (heard c os [] ≡ os)

-- before the first inode nothing was heard
abbrev pub HearsNone : Type 0
HearsNone = (c : ℕ) (vs : List Inode) (os : List Owned) → ((v : Inode) → Contains vs v → c < v.ino) → ((o : Owned) → Contains os o → c < o.inode.ino)
    → (visited_inodes c vs ≡ []) × (heard c os [] ≡ [])

-- ---- inodes that are given back

-- whoever owns a block is one of these inodes
abbrev pub AreListed : List Inode → List Owned → Type 0
AreListed vs os = (o : Owned) → Contains os o → Contains vs o.inode

-- nothing is the inode's
abbrev pub OwnsNone : Inode → List Owned → Type 0
OwnsNone v os = (o : Owned) → Contains os o → o.inode.ino ≡ v.ino → ⊥

-- an inode that is given back owns nothing, where all blocks are those of inodes that are there, and only there
abbrev pub GivenBack : Type 0
GivenBack = (v : Inode) (vs ws : List Inode) (os : List Owned) → IsMoved false v vs ws → AreListed vs os → OwnsNone v os ↔ AreListed ws os
