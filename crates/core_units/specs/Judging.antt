-- What always holds of a unit that is compared with its derivation.
use Rattle.std.specs.Prelude.{◌≡◌, ⊤, ℕ, ◌<◌, ◌^◌, All}
use Rattle.core_units.specs.TreesFit.{AreFit, AreListsFor, CanSpareBy, EndInGroup}
use Rattle.core_units.specs.Trees.{AreSeenSound}
use Rattle.core_units.specs.declared.lists.Lists.{Lists}
use Rattle.core_units.specs.declared.lists.Lists.TheVariants as lists
use Rattle.derive_defs.specs.Free.{block_count}
use Rattle.fs_model.specs.declared.unit.Unit.{Unit as ScrubUnit}
use Rattle.geom.specs.Layout.{Layout, group_len_of}
use Rattle.group_trees.specs.Trees.{reading_of}
use Rattle.group_trees.specs.declared.group.GroupTrees.{GroupTrees}
use Rattle.core_units.specs.Compared.{AreComparable, AreFew}
use Rattle.core_units.specs.declared.compare.Place.TheVariants.{First}
use Rattle.core_units.specs.declared.concluding.Found.{Found}
use Rattle.core_units.specs.declared.concluding.Found.TheVariants as founds
use Rattle.core_units.specs.declared.judging.Concluded.{Concluded}
use Rattle.core_units.specs.declared.judging.Concluded.TheVariants as ends
use Rattle.core_units.specs.declared.judging.Judging.{Judging}

-- The btrees of the group are in order and within it, the lists are the unit's, can be compared with them and loaded,
-- and the chunks have numbers. Nothing is said of the place or the number of faults.
pub record IsJudging (at : Layout) (g : ℕ) (judging : Judging) : Type 0 where
  pub trees : AreSeenSound at g judging.trees
  pub spare : CanSpareBy judging.trees
  pub within : EndInGroup (group_len_of at g) judging.trees
  pub unit : AreListsFor judging.unit judging.lists
  pub comparable : AreComparable judging.trees judging.lists
  pub fit : AreFit judging.lists
  pub chunks : All (λ u. u < 2 ^ 26) judging.chunks.items

-- all but the place and the number of faults stays
pub record StaysJudged (old new : Judging) : Type 0 where
  pub unit : new.unit ≡ old.unit
  pub trees : new.trees ≡ old.trees
  pub lists : new.lists ≡ old.lists
  pub chunks : new.chunks ≡ old.chunks
  pub owners : new.owners ≡ old.owners

-- before its first comparison
pub record IsFirst (unit : ScrubUnit) (judging : Judging) : Type 0 where
  pub named : judging.unit ≡ unit
  pub at : judging.at ≡ First 0
  pub found : judging.found ≡ 0

-- what is concluded can be compared
abbrev pub IsEnd : Layout → ℕ → ScrubUnit → Concluded → Type 0
IsEnd at g unit (ends.GaveUp found) = ⊤
IsEnd at g unit (ends.Judging judging) = IsJudging at g judging × IsFirst unit judging

-- ---- what is derived

-- free space has so few blocks that heads can count them
abbrev pub HaveFewBlocks : Lists → Type 0
HaveFewBlocks (lists.Inode ino fino) = Unit {0}
HaveFewBlocks (lists.Rmap rmap) = Unit {0}
HaveFewBlocks (lists.Free bno cnt) = block_count bno.items < 2 ^ 32
HaveFewBlocks (lists.Refc refc) = Unit {0}

pub record AreDerived (unit : ScrubUnit) (list : Lists) : Type 0 where
  pub suits : AreListsFor unit list
  pub fit : AreFit list
  pub few : HaveFewBlocks list

-- each list has with its btree fewer records than a number of 64 bits counts
abbrev pub AreFewAll : GroupTrees → Lists → Type 0
AreFewAll trees (lists.Inode ino fino) = AreFew ino.items (reading_of trees.ino) × AreFew fino.items (reading_of trees.fino)
AreFewAll trees (lists.Rmap rmap) = AreFew rmap.items (reading_of trees.rmap)
AreFewAll trees (lists.Free bno cnt) = AreFew bno.items (reading_of trees.bno) × AreFew cnt.items (reading_of trees.cnt)
AreFewAll trees (lists.Refc refc) = AreFew refc.items (reading_of trees.refc)

-- evidence, or lists of the unit, with chunks that have numbers
abbrev pub IsFound : ScrubUnit → GroupTrees → Found → Type 0
IsFound unit trees (founds.GaveUp found) = ⊤
IsFound unit trees (founds.Lists list us) = AreDerived unit list × AreFewAll trees list × All (λ u. u < 2 ^ 26) us.items
