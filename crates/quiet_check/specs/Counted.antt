-- How many blocks are read at most to judge a unit of a group.
use Rattle.std.specs.Prelude.{ℕ, ◌+◌, [], ◌∷◌, Option, Some, None}
use Rattle.ag_headers.specs.declared.agf.Agf.{Agf}
use Rattle.fs_state.specs.Contradiction.{bad_tree, first_later}
use Rattle.fs_state.specs.Lists.{first_of_all}
use Rattle.fs_model.specs.declared.claim.Evidence.{Evidence}
use Rattle.fs_model.specs.declared.unit.Unit.TheVariants as units
use Rattle.fs_state.specs.Kinds.{Image}
use Rattle.fs_state.specs.State.{State}
use Rattle.geom.specs.Layout.{Layout, group_len_of}
use Rattle.group_trees.specs.Counted.{trees_most}
use Rattle.inode_pass.specs.Units.{opened_state}
use Rattle.space_check.specs.Groups.{blocks_read}
use Rattle.span_recs.specs.Refcounts.{refc_form}

-- what the btrees alone say against the derivation of the inodes
abbrev pub tree_evidence : State → ℕ → Option Evidence
tree_evidence a g = first_of_all (first_later a g units.Inode ∷ bad_tree a g ∷ [])

-- none where there is such evidence
abbrev pub unless_decided : Option Evidence → ℕ → ℕ
unless_decided (Some found) blocks = 0
unless_decided None blocks = blocks

-- those of the six btrees; and for the cores of the units that they list no block of the group twice, and none where the
-- btrees decide
unfoldable pub inodes_most : Layout → Image → ℕ → ℕ
inodes_most at image g = trees_most at image g + unless_decided (tree_evidence (opened_state at image) g) (group_len_of at g)

-- those of the btree of reference counts, as free_reads has those of free space
abbrev pub shared_reads : Layout → Image → ℕ → Agf → ℕ
shared_reads at image g agf = blocks_read at image g refc_form agf.refcount_root agf.refcount_level
