-- What is kept of each group right after an image was opened.
use Rattle.std.specs.Prelude.{◌≡◌, ℕ, false, List, [], Option, Some, None}
use Rattle.fs_model.specs.declared.unit.Trust.{Trust}
use Rattle.fs_model.specs.declared.unit.Trust.TheVariants.{Unknown, Sick}
use Rattle.fs_state.specs.Kinds.{Image}
use Rattle.fs_state.specs.Read.{opened}
use Rattle.fs_state.specs.State.{Bad, Reading, Readable, Unreadable}
use Rattle.geom.specs.Layout.{Layout}
use Rattle.group_trees.specs.Trees.{reading_of}
use Rattle.group_trees.specs.declared.group.GroupTrees.{GroupTrees}
use Rattle.core_parts.specs.Opens.Heads.{IsHeadsOf}
use Rattle.core_edit.specs.Stands.{AreOf}
use Rattle.core_units.specs.Trees.{AreKnown, IsKnown}
use Rattle.core_units.specs.declared.trees.BadTree.{BadTree}
use Rattle.core_units.specs.declared.trees.BadTrees.{BadTrees}
use Rattle.core_parts.specs.declared.groups.GroupKept.{GroupKept}

-- of a tree that can't be read, what is to be kept
abbrev pub bad_said : {R : Type 0} → Reading R → Option Bad
bad_said (Readable recs blocks) = None
bad_said (Unreadable block fault claims) = Some (record { block = block; fault = fault; claims = claims })

abbrev pub trust_by : Option BadTree → Trust
trust_by None = Unknown
trust_by (Some tree) = Sick

-- those that can't be read are kept, with their faults and claims
pub record AreBadOf (trees : GroupTrees) (bad : BadTrees) : Type 0 where
  pub bno : IsKnown bad.bno (bad_said (reading_of trees.bno))
  pub cnt : IsKnown bad.cnt (bad_said (reading_of trees.cnt))
  pub rmap : IsKnown bad.rmap (bad_said (reading_of trees.rmap))
  pub refc : IsKnown bad.refc (bad_said (reading_of trees.refc))
  pub ino : IsKnown bad.ino (bad_said (reading_of trees.ino))
  pub fino : IsKnown bad.fino (bad_said (reading_of trees.fino))

-- exactly the trees that can't be read are sick, nothing is known of the others, no unit has passed, and nothing is in limbo
pub record IsFresh (kept : GroupKept) : Type 0 where
  pub bno : kept.trust.bno ≡ trust_by kept.bad.bno
  pub cnt : kept.trust.cnt ≡ trust_by kept.bad.cnt
  pub rmap : kept.trust.rmap ≡ trust_by kept.bad.rmap
  pub refc : kept.trust.refc ≡ trust_by kept.bad.refc
  pub ino : kept.trust.ino ≡ trust_by kept.bad.ino
  pub fino : kept.trust.fino ≡ trust_by kept.bad.fino
  pub passed : kept.passed ≡ record { inode = false; rmap = false; free = false; refc = false }
  pub limbo : kept.limbo.items ≡ []

-- whatever the bytes are
pub record IsBegun (at : Layout) (g : ℕ) (kept : GroupKept) : Type 0 where
  pub of_group : AreOf at g kept.heads
  pub fresh : IsFresh kept

-- the heads are the image's, and exactly the trees that can't be read are kept as such
pub record IsOpened (at : Layout) (image : Image) (g : ℕ) (kept : GroupKept) : Type 0 where
  pub heads : IsHeadsOf at image g kept.heads
  pub bad : AreKnown (opened at image) g kept.bad
