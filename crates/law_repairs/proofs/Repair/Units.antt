-- What each unit is judged by, where its trees and counters are the same.
use Rattle.std.proofs.Common.{◌≡◌, ℕ, ap}
use Rattle.fs_state.specs.Derive.{derive}
use Rattle.fs_state.specs.Faults.{wanted}
use Rattle.fs_state.specs.Laws.{IsGood}
use Rattle.fs_state.specs.Own.{own, rmap_of}
use Rattle.fs_model.specs.declared.fault.Counter.{Counter}
use Rattle.fs_model.specs.declared.fault.Counter.TheVariants.{Count, Freecount, Iblocks, Fblocks, RmapBlocks, Freeblks, Longest, Btreeblks, RefcountBlocks}
use Rattle.fs_model.specs.declared.unit.Unit.TheVariants as units
use Rattle.fs_state.specs.State.{State, recs_of}
use Rattle.geom.specs.Apart.{Splits}
use Rattle.rmap_recs.specs.Runs.{runs_of}
use Rattle.sblock.specs.declared.kind.Kind.{Kind}
use Rattle.sblock.specs.declared.kind.Kind.TheVariants.{Bno, Cnt, Rmap, Refc, Ino, Fino}
use Rattle.law_repairs.specs.Repair.Alike.{AlikeInodes, SameTree}
use Rattle.law_repairs.proofs.Repair.Same.{bno_same, cnt_same, fino_blocks, fino_same, good_stays, ino_blocks, ino_same, inodes_wanted, refc_blocks, refc_same, rmap_blocks, space_wanted, tree_blocks}

module _ (a b : State) (g : ℕ) (splits : Splits a.geometry) (same : AlikeInodes a b) where
  -- the tree, and the counter, are as they were
  abbrev pub Reads : Kind → Type 0
  Reads k = ((b.group g).tree k).reading ≡ ((a.group g).tree k).reading

  abbrev pub Counts : Counter → Type 0
  Counts name = (b.group g).counters name ≡ (a.group g).counters name

  ino_tree : Reads Ino → SameTree a b g Ino
  unfolding derive
  ino_tree e = record { reading = e; derived = ino_same a b splits same g }

  fino_tree : Reads Fino → SameTree a b g Fino
  unfolding derive
  fino_tree e = record { reading = e; derived = fino_same a b splits same g }

  bno_tree : Reads Rmap → Reads Bno → SameTree a b g Bno
  unfolding derive
  bno_tree maps e = record { reading = e; derived = bno_same a b splits same g (ap recs_of maps) }

  cnt_tree : Reads Rmap → Reads Cnt → SameTree a b g Cnt
  unfolding derive
  cnt_tree maps e = record { reading = e; derived = cnt_same a b splits same g (ap recs_of maps) }

  refc_tree : Reads Rmap → Reads Refc → SameTree a b g Refc
  unfolding derive
  refc_tree maps e = record { reading = e; derived = refc_same a b splits same g (ap recs_of maps) }

  rmap_tree : own b g ≡ own a g → Reads Rmap → SameTree a b g Rmap
  unfolding derive rmap_of
  rmap_tree owners e = record { reading = e; derived = ap runs_of owners }

  pub inodes_good : Reads Ino → Reads Fino → Counts Count → Counts Freecount → Counts Iblocks → Counts Fblocks → IsGood a g units.Inode → IsGood b g units.Inode
  inodes_good i f count freecount iblocks fblocks good =
      good_stays a b g units.Inode (ino_tree i, (fino_tree f, tt)) (
        record { kept = count; wanted_same = (inodes_wanted a b splits same g).0 },
        (
          record { kept = freecount; wanted_same = (inodes_wanted a b splits same g).1 },
          (
            record { kept = iblocks; wanted_same = ino_blocks a b g same.geometry i },
            (record { kept = fblocks; wanted_same = fino_blocks a b g same.geometry f }, tt),
          ),
        ),
      ) good

  pub space_good : Reads Rmap → Reads Bno → Reads Cnt → Counts Freeblks → Counts Longest → Counts Btreeblks → IsGood a g units.Free → IsGood b g units.Free
  space_good maps bno cnt freeblks longest btreeblks good =
      good_stays a b g units.Free (bno_tree maps bno, (cnt_tree maps cnt, tt)) (
        record { kept = freeblks; wanted_same = (space_wanted a b splits same g (ap recs_of maps)).0 },
        (
          record { kept = longest; wanted_same = (space_wanted a b splits same g (ap recs_of maps)).1 },
          (record { kept = btreeblks; wanted_same = tree_blocks a b g same.geometry bno cnt maps }, tt),
        ),
      ) good

  pub counts_good : Reads Rmap → Reads Refc → Counts RefcountBlocks → IsGood a g units.Refc → IsGood b g units.Refc
  counts_good maps refc blocks good =
      good_stays a b g units.Refc (refc_tree maps refc, tt) (record { kept = blocks; wanted_same = refc_blocks a b g same.geometry refc }, tt) good

  pub maps_good : own b g ≡ own a g → Reads Rmap → Counts RmapBlocks → IsGood a g units.Rmap → IsGood b g units.Rmap
  maps_good owners maps blocks good =
      good_stays a b g units.Rmap (rmap_tree owners maps, tt) (record { kept = blocks; wanted_same = rmap_blocks a b g same.geometry maps }, tt) good

  -- all that counters should be, where each tree holds the same
  pub wanted_all : ((k : Kind) → Reads k) → (name : Counter) → wanted b g name ≡ wanted a g name
  wanted_all reads Count = (inodes_wanted a b splits same g).0
  wanted_all reads Freecount = (inodes_wanted a b splits same g).1
  wanted_all reads Iblocks = ino_blocks a b g same.geometry (reads Ino)
  wanted_all reads Fblocks = fino_blocks a b g same.geometry (reads Fino)
  wanted_all reads RmapBlocks = rmap_blocks a b g same.geometry (reads Rmap)
  wanted_all reads Freeblks = (space_wanted a b splits same g (ap recs_of (reads Rmap))).0
  wanted_all reads Longest = (space_wanted a b splits same g (ap recs_of (reads Rmap))).1
  wanted_all reads Btreeblks = tree_blocks a b g same.geometry (reads Bno) (reads Cnt) (reads Rmap)
  wanted_all reads RefcountBlocks = refc_blocks a b g same.geometry (reads Refc)
