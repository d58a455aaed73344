-- Where a group's trees lie in an image of this geometry.
use Rattle.std.specs.Prelude.{ℕ, ◌+◌, ◌-◌, List}
use Rattle.geom.specs.Layout.{Layout, group_len_of, device_block_of}
use Rattle.sblock.specs.declared.block.Bounds.{Bounds}
use Rattle.tree_defs.specs.declared.site.Site.{Site}

-- the numbers that a record of group g is judged by
abbrev pub bounds_of : Layout → ℕ → Bounds
bounds_of at g = record {
  length = group_len_of at g;
  agblocks = at.agblocks;
  agcount = at.agcount;
  last = group_len_of at (at.agcount - 1);
  agblklog = at.agblklog;
}

unfoldable pub site_of : Layout → ℕ → Site
site_of at g = record { group = g; first = device_block_of at g 0; bounds = bounds_of at g; uuid = at.uuid }

-- the blocks of the group, where these are the image's
abbrev pub group_blocks : Site → (ℕ → List ℕ) → ℕ → List ℕ
group_blocks site image p = image (site.first + p)
