-- What holds of a group's blocks where they are known.
use Rattle.std.specs.Prelude.{◌≡◌, ℕ, List, Option, Some, IfSome}
use Rattle.blk_device.specs.Contents.{Contents}
use Rattle.blk_device.specs.declared.device.Region.TheVariants.{Image}
use Rattle.geom.specs.Layout.{Layout}
use Rattle.tree_defs.specs.Sites.{site_of, group_blocks}
use Rattle.tree_defs.specs.declared.site.Site.{Site}
use Rattle.tree_blocks.specs.declared.tree.TreeAt.{TreeAt}

abbrev pub WhereTold : Option (ℕ → List ℕ) → ((ℕ → List ℕ) → Type 0) → Type 0
WhereTold told P = (m : ℕ → List ℕ) → told ≡ Some m → P m

-- of a tree, with its site, the group's blocks, its root and its count of levels, in an image of this
-- layout, where a device tells its content
abbrev pub OfTree : Layout → TreeAt → Option Contents → (Site → (ℕ → List ℕ) → ℕ → ℕ → Type 0) → Type 0
OfTree at tree content P =
    IfSome content (λ c. P (site_of at tree.group) (group_blocks (site_of at tree.group) (c Image)) tree.root tree.levels)
