-- How many records or entries a block has, and has room for.
use Rattle.std.proofs.Common.{◌≡◌, ℕ, ◌≤◌, Bool, true, false, List, None, ap}
use Rattle.std.specs.Prelude.{◌==◌}
use Rattle.byte_fields.specs.Zeros.{zeros}
use Rattle.sblock.specs.Blocks.{numrecs, most_of}
use Rattle.sblock.specs.Form.{Form}
use Rattle.sblock.proofs.BlockLemmas.{has_room}
use Rattle.sblock.specs.Headers.{left_of}
use Rattle.sblock.specs.declared.kind.Kind.{Kind}
use Rattle.tree_defs.specs.Claims.{lone_fault}
use Rattle.tree_defs.specs.Tree.{want_of}
use Rattle.tree_defs.specs.declared.site.Site.{Site}
use Rattle.place_plan.specs.Counts.{most_at}
use Rattle.place_plan.proofs.SizeLemmas.{leaf_some, node_some}

-- a block that passes by itself has room for its records or entries
pub room_at : {R K : Type 0} (form : Form R K) (site : Site) (level : ℕ) (root : Bool) (p : ℕ) (bytes : List ℕ) → lone_fault form site level root p bytes ≡ None → numrecs bytes ≤ most_at form.kind level
unfolding lone_fault
room_at form site level root p bytes pass = has_room form bytes (want_of form.kind site level root (left_of bytes) p) pass

-- a block of zeros has none
pub blank_count : (bytes : List ℕ) → bytes ≡ zeros → numrecs bytes ≡ 0
unfolding zeros
blank_count bytes is = ap numrecs is

some_in : (kind : Kind) (leaf : Bool) → 2 ≤ most_of kind leaf
some_in kind true = leaf_some kind
some_in kind false = node_some kind

-- each block has room for two
pub room_for_two : (kind : Kind) (level : ℕ) → 2 ≤ most_at kind level
room_for_two kind level = some_in kind (level == 0)
