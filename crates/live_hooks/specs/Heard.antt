-- Inodes, the blocks that they own, and lists of both that gain some or lose them (Online Fsck Design, "Case Study:
-- Rebuilding Reverse Mapping Records").
use Rattle.std.specs.Prelude.{◌≡◌, ◌==◌, ◌⊎◌, ℕ, Bool, true, false, List, [], ◌∷◌, ◌++◌, Contains, map, filter}
use Rattle.std.specs.List.Sorted.{IsPermutation}
use Rattle.rmap_recs.specs.Runs.{is_tuple_before}
use Rattle.rmap_recs.specs.declared.tuples.Tuple.{Tuple}
use Rattle.run_edits.specs.Pieces.{tuples_of}
use Rattle.live_hooks.specs.declared.records.GroupRec.{GroupRec}

-- an inode: its number, and the user whose it is
pub record Inode : Type 0 where
  pub ino : ℕ
  pub uid : ℕ

-- a block of a group that a fork of an inode has
pub record Owned : Type 0 where
  pub inode : Inode
  pub group : ℕ
  pub tuple : Tuple

abbrev pub owned_at : Inode → ℕ → Tuple → Owned
owned_at v g t = record { inode = v; group = g; tuple = t }

-- all blocks of a record
unfoldable pub owned_by : Inode → GroupRec → List Owned
owned_by v r = map (owned_at v r.group) (tuples_of (r.rec ∷ []))

-- the blocks of one group, whosoever they are
abbrev pub tuples_in : ℕ → List Owned → List Tuple
tuples_in g os = map (λ o. o.tuple) (filter (λ o. o.group == g) os)

-- ---- some more, or some less

-- one of two tuples comes first: they aren't one, and they don't tie
abbrev pub AreOrdered : Tuple → Tuple → Type 0
AreOrdered t u = (is_tuple_before t u ≡ true) ⊎ (is_tuple_before u t ≡ true)

-- no block of a group stands in both with one owner and offset
abbrev pub AreApart : List Owned → List Owned → Type 0
AreApart os ps = (o p : Owned) → Contains os o → Contains ps p → o.group ≡ p.group → AreOrdered o.tuple p.tuple

-- the last list has the second one's blocks and the first one's, in any order, and the two are apart
pub record AreAdded (new old both : List Owned) : Type 0 where
  pub apart : AreApart new old
  pub all : IsPermutation (new ++ old) both

-- they are added, or else taken away again: then they are there
abbrev pub AreMoved : Bool → List Owned → List Owned → List Owned → Type 0
AreMoved true new os ps = AreAdded new os ps
AreMoved false new os ps = AreAdded new ps os

-- no inode of the list has this number
abbrev pub IsNew : Inode → List Inode → Type 0
IsNew v vs = (w : Inode) → Contains vs w → w.ino ≡ v.ino → ⊥

-- the second list has the inodes of the first and a new one
pub record IsAdded (v : Inode) (vs ws : List Inode) : Type 0 where
  pub new : IsNew v vs
  pub all : IsPermutation (v ∷ vs) ws

abbrev pub IsMoved : Bool → Inode → List Inode → List Inode → Type 0
IsMoved true v vs ws = IsAdded v vs ws
IsMoved false v vs ws = IsAdded v ws vs
