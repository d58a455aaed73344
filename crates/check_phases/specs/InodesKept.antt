-- What a part of a check keeps of its groups' inodes, group by group.
use Rattle.std.specs.Prelude.{◌≡◌, ℕ, ◌+◌, List, [], ◌∷◌, ◌++◌, length, Option, Some}
use Rattle.blk_device.specs.Contents.{Contents}
use Rattle.blk_device.specs.declared.device.Region.TheVariants as regions
use Rattle.geom.specs.Layout.{Layout}
use Rattle.inode_pass.specs.declared.note.GroupInodes.{GroupInodes}
use Rattle.quiet_check.specs.Kept.{IsInside, IsKeptOf}

-- this holds of each of these, which are of the groups from group g on
abbrev pub EachFrom : (ℕ → GroupInodes → Type 0) → ℕ → List GroupInodes → Type 0
EachFrom Holds g [] = Unit {0}
EachFrom Holds g (i ∷ is) = Holds g i × EachFrom Holds (g + 1) is

-- behind what was kept before stands what is kept of the inodes of n groups from group g on
pub record PutsInodes (at : Layout) (told : Option Contents) (g n : ℕ) (before now : List GroupInodes) : Type 0 where
  pub put : List GroupInodes
  pub behind : now ≡ before ++ put
  pub each : length put ≡ n
  pub inside : EachFrom (IsInside at) g put
  pub are : (c : Contents) → told ≡ Some c → EachFrom (IsKeptOf at (c regions.Image)) g put
