-- Where the inode btrees of all groups are.
use Rattle.std.specs.Prelude.{ℕ, ◌+◌, List, [], ◌∷◌}
use Rattle.sblock.specs.declared.kind.Kind.TheVariants.{Ino}
use Rattle.tree_blocks.specs.declared.tree.TreeAt.{TreeAt}
use Rattle.core_parts.specs.declared.groups.GroupKept.{GroupKept}

abbrev pub tree_of : ℕ → GroupKept → TreeAt
tree_of g kept = record { kind = Ino; group = g; root = kept.heads.agi.root; levels = kept.heads.agi.level; lsn = kept.heads.agf.lsn }

-- those of the groups from group g on
abbrev pub are_trees : ℕ → List GroupKept → List TreeAt
are_trees g [] = []
are_trees g (kept ∷ more) = tree_of g kept ∷ are_trees (g + 1) more
