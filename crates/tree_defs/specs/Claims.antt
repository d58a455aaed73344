-- The blocks that a tree still claims where it can't be read.
use Rattle.std.specs.Prelude.{◌≡◌, ℕ, zero, suc, ◌-◌, ◌*◌, ◌+◌, ◌==◌, ◌<◌, ◌≤◌, ◌↔◌, nat_lt, nat_le, Bool, true, ◌&&◌, if◌then◌else◌, List, [], ◌∷◌, ◌++◌, Option, is_none}
use Rattle.byte_fields.specs.Fields.{field, has_uuid}
use Rattle.sblock.specs.Area.{area_of, child_of}
use Rattle.sblock.specs.Blocks.{numrecs, block_fault}
use Rattle.sblock.specs.Form.{Form}
use Rattle.sblock.specs.Kinds.{magic_of}
use Rattle.sblock.specs.Lists.{items_from, Rises}
use Rattle.sblock.specs.declared.block.BlockFault.{BlockFault}
use Rattle.sblock.specs.declared.kind.Kind.{Kind}
use Rattle.tree_defs.specs.Lists.{In, is_in, spread, passing}
use Rattle.sblock.specs.Headers.{left_of}
use Rattle.tree_defs.specs.Tree.{want_of, top_of}
use Rattle.tree_defs.specs.declared.site.Site.{Site}

-- the block says of itself that it is this block, of a tree of this kind
unfoldable pub is_named : Kind → Site → ℕ → List ℕ → Bool
is_named kind site p bytes =
    field 4 bytes 0 == magic_of kind
    && field 8 bytes 16 == 8 * (site.first + p)
    && field 4 bytes 48 == site.group
    && has_uuid bytes 32 site.uuid

module _ {R K : Type 0} (form : Form R K) (site : Site) where
  -- the first of a block's own tests that fails, but for that of its left sibling
  unfoldable pub lone_fault : ℕ → Bool → ℕ → List ℕ → Option BlockFault
  lone_fault level root p bytes = block_fault form bytes (want_of form.kind site level root (left_of bytes) p)

  -- a block passes these tests
  unfoldable pub opens : ℕ → Bool → ℕ → List ℕ → Bool
  opens level root p bytes = is_none (lone_fault level root p bytes)

  -- block q, a node of this level with these bytes, passes, and block p is the child of an entry
  pub record Leads (level : ℕ) (root : Bool) (q : ℕ) (bytes : List ℕ) (p : ℕ) : Type 0 where
    pub above : 0 < level
    pub passes : opens level root q bytes ≡ true
    pub entry : ℕ
    pub within : entry < numrecs bytes
    pub child : child_of form.kind (area_of bytes) entry ≡ p

  module _ (m : ℕ → List ℕ) (root levels : ℕ) where
    -- the block is reached from the root through nodes that pass, so many levels below it
    abbrev pub IsReached : ℕ → ℕ → Type 0
    IsReached zero p = p ≡ root
    IsReached (suc depth) p = (q : ℕ) × IsReached depth q × Leads (top_of levels - depth) (depth == 0) q (m q) p

    -- the block is reached from a root in the group, and named as the tree's
    pub record IsClaimed (p : ℕ) : Type 0 where
      pub some : 1 ≤ root
      pub inside : root < site.bounds.length
      pub depth : ℕ
      pub reached : IsReached depth p
      pub named : is_named form.kind site p (m p) ≡ true

  -- The same as a list that computes. The children of a block that passes, where it is a node:
  abbrev pub children_at : (ℕ → List ℕ) → ℕ → Bool → ℕ → List ℕ
  children_at m level root q =
      if nat_lt 0 level && opens level root q (m q) then items_from (child_of form.kind (area_of (m q))) (numrecs (m q)) 0 else []

  module _ (m : ℕ → List ℕ) (root levels : ℕ) where
    -- the blocks that are reached so many levels below the root
    abbrev pub reached_at : ℕ → List ℕ
    reached_at zero = root ∷ []
    reached_at (suc depth) = spread (children_at m (top_of levels - depth) (depth == 0)) (reached_at depth)

    -- those above that
    abbrev pub reached_to : ℕ → List ℕ
    reached_to zero = []
    reached_to (suc depth) = reached_to depth ++ reached_at depth

    -- The block is reached, at one of ten depths, and named as the tree's.
    unfoldable pub is_claimed : ℕ → Bool
    is_claimed p = nat_le 1 root && nat_lt root site.bounds.length && is_in p (reached_to 10) && is_named form.kind site p (m p)

    -- the claimed blocks, each once, in rising order
    unfoldable pub claims_of : List ℕ
    claims_of = passing is_claimed (items_from (λ p. p) site.bounds.length 0)

  -- They are the claimed blocks and no others, and rise.
  abbrev pub ListsClaims : Type 0
  ListsClaims = (m : ℕ → List ℕ) (root levels : ℕ) → ((p : ℕ) → (In p (claims_of m root levels) ↔ IsClaimed m root levels p) × ((is_claimed m root levels p ≡ true) ↔ IsClaimed m root levels p)) × Rises nat_lt (claims_of m root levels)

abbrev pub ClaimsAreListed : {R K : Type 0} → Form R K → Type 0
ClaimsAreListed form = (site : Site) → ListsClaims form site
