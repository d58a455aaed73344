-- How many blocks and levels a readable tree has.
use Rattle.std.specs.Prelude.{ℕ, ◌<◌, ◌≤◌, ◌^◌, List, length}
use Rattle.sblock.specs.Form.{Form}
use Rattle.sblock.specs.declared.kind.Kind.{Kind}
use Rattle.sblock.specs.declared.kind.Kind.TheVariants.{Bno, Cnt, Rmap, Refc, Ino, Fino}
use Rattle.tree_defs.specs.Levels.{IsTree}
use Rattle.tree_defs.specs.Lists.{AllDiffer}
use Rattle.sblock.specs.Headers.{no_block}
use Rattle.tree_defs.specs.declared.site.Site.{Site}

-- the blocks of a tree differ, and are fewer than the group's
abbrev pub BlocksDiffer : {R K : Type 0} → Form R K → Type 0
BlocksDiffer {R} {K} form = (site : Site) (m : ℕ → List ℕ) (root levels : ℕ) (recs : List R) (blocks : List ℕ) → site.bounds.length ≤ no_block → IsTree form site m root levels recs blocks → AllDiffer blocks × (length blocks < site.bounds.length)

-- a group has at most so many blocks: an AG of at most 1 TiB
abbrev pub most_blocks : ℕ
most_blocks = 2 ^ 28

-- the greatest number of levels for which a group has blocks enough, each node being half full
abbrev pub most_levels_of : Kind → ℕ
most_levels_of Bno = 5
most_levels_of Cnt = 5
most_levels_of Rmap = 7
most_levels_of Refc = 5
most_levels_of Ino = 5
most_levels_of Fino = 5

abbrev pub HasFewLevels : {R K : Type 0} → Form R K → Type 0
HasFewLevels {R} {K} form = (site : Site) (m : ℕ → List ℕ) (root levels : ℕ) (recs : List R) (blocks : List ℕ) → site.bounds.length ≤ most_blocks → IsTree form site m root levels recs blocks → levels ≤ most_levels_of form.kind
