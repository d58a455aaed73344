-- What a walk from the root meets.
use Rattle.std.proofs.Common.{◌≡◌, ℕ, ◌+◌, ◌-◌, ◌<◌, ◌≤◌, Bool, true, false, List, Some, None, Result, Err, refl, ◌∙◌, arith}
use Rattle.std.specs.Prelude.{◌==◌, ◌&&◌, nat_le, nat_lt, if◌then◌else◌}
use Rattle.std.proofs.lemmas.Bool.Decides.{nat_tests}
use Rattle.byte_fields.specs.Fields.{field}
use Rattle.sblock.specs.Blocks.{block_fault, level_fits}
use Rattle.sblock.specs.Form.{Form}
use Rattle.sblock.specs.Kinds.{magic_of}
use Rattle.sblock.specs.declared.block.BlockFault.{BlockFault}
use Rattle.sblock.specs.declared.block.BlockFault.TheVariants.{Magic, Level, Sibling, Range}
use Rattle.tree_defs.specs.Tree.{Trail, fresh, top_of, sooner, sibling_fault, order_fault, fault_here, closed, read_node, read_tree}
use Rattle.tree_defs.specs.Walked.{walked_node, walked}
use Rattle.tree_defs.specs.declared.site.Site.{Site}
use Rattle.tree_blocks.specs.Meets.{Refuses}
use Rattle.tree_walk.specs.Meets.{MeetsTree, CountedBy}
use Rattle.tree_blocks.specs.declared.tree.TreeRead.{TreeRead}
use Rattle.tree_blocks.specs.declared.tree.WalkFault.{WalkFault}
use Rattle.tree_blocks.specs.declared.tree.WalkFault.TheVariants.{Bad, Failed, Memory}

magic_first : (b : Bool) → sooner (Some Magic) (sooner (if b then None else Some Sibling) None) ≡ Some Magic
magic_first true = refl
magic_first false = refl

level_first : (b : Bool) → sooner (Some Level) (sooner (if b then None else Some Sibling) None) ≡ Some Level
level_first true = refl
level_first false = refl

abbrev first_of_levels : Bool → BlockFault
first_of_levels true = Level
first_of_levels false = Magic

same_are : (a b : ℕ) → a ≡ b → (a == b) ≡ true
same_are a b h = grind (arith, nat_tests)

others_are : (a b : ℕ) → (a ≡ b → ⊥) → (a == b) ≡ false
others_are a b h = grind (arith, nat_tests)

lies_not : (root len : ℕ) → (1 ≤ root → root < len → ⊥) → (nat_le 1 root && nat_lt root len) ≡ false
lies_not root len h = grind (arith, nat_tests)

does_lie : (root len : ℕ) → 1 ≤ root → root < len → (nat_le 1 root && nat_lt root len) ≡ true
does_lie root len a b = grind (arith, nat_tests)

no_level : (levels : ℕ) → (1 ≤ levels → levels ≤ 9 → ⊥) → top_of levels ≡ 9
no_level levels h = let e : (nat_le 1 levels && nat_le levels 9) ≡ false = grind (arith, nat_tests) in rw e refl

is_level : (levels : ℕ) → 1 ≤ levels → levels ≤ 9 → top_of levels ≡ levels - 1
is_level levels a b = let e : (nat_le 1 levels && nat_le levels 9) ≡ true = grind (arith, nat_tests) in rw e refl

module _ {R K : Type 0} (form : Form R K) (site : Site) (m : ℕ → List ℕ) where
  -- a block is never wanted on level 9
  by_magic : (b : Bool) (sibling : Bool) → sooner (if b then Some Level else Some Magic) (sooner (if sibling then None else Some Sibling) None) ≡ Some (first_of_levels b)
  by_magic true sibling = level_first sibling
  by_magic false sibling = magic_first sibling

  none_wanted : (root : ℕ) (t : Trail R) → fault_here form site t 9 true root (m root) ≡ Some (first_of_levels (field 4 (m root) 0 == magic_of form.kind))
  unfolding fault_here block_fault level_fits sibling_fault order_fault
  none_wanted root t = by_magic (field 4 (m root) 0 == magic_of form.kind) _

  pub levels_refused : (root : ℕ) → read_node form site m 9 true root fresh ≡ Err (root, first_of_levels (field 4 (m root) 0 == magic_of form.kind))
  unfolding read_node
  levels_refused root = rw (none_wanted root fresh) refl

  pub by_level : (root : ℕ) (bytes : List ℕ) (magic : ℕ) → bytes ≡ m root → magic ≡ magic_of form.kind → field 4 bytes 0 ≡ magic → read_node form site m 9 true root fresh ≡ Err (root, Level)
  by_level root bytes magic e k h =
      let t : (field 4 (m root) 0 == magic_of form.kind) ≡ true = rw (← e, ← k) (same_are (field 4 bytes 0) magic h) in
      levels_refused root ∙ rw t refl

  pub by_other_magic : (root : ℕ) (bytes : List ℕ) (magic : ℕ) → bytes ≡ m root → magic ≡ magic_of form.kind → (field 4 bytes 0 ≡ magic → ⊥) → read_node form site m 9 true root fresh ≡ Err (root, Magic)
  by_other_magic root bytes magic e k h =
      let t : (field 4 (m root) 0 == magic_of form.kind) ≡ false = rw (← e, ← k) (others_are (field 4 bytes 0) magic h) in
      levels_refused root ∙ rw t refl

  pub tree_outside : (root levels : ℕ) → (1 ≤ root → root < site.bounds.length → ⊥) → read_tree form site m root levels ≡ Err (root, Range)
  unfolding read_tree
  tree_outside root levels h = rw (lies_not root site.bounds.length h) refl

  pub tree_refused : (root levels : ℕ) (fault : WalkFault) → 1 ≤ root → root < site.bounds.length → (1 ≤ levels → levels ≤ 9 → ⊥) → Refuses (read_node form site m 9 true root fresh) fault → Refuses (read_tree form site m root levels) fault
  unfolding read_tree
  tree_refused root levels (Bad p f) some below none h = rw (does_lie root site.bounds.length some below, no_level levels none, h) refl
  tree_refused root levels Failed some below none h = tt
  tree_refused root levels Memory some below none h = tt

  pub tree_read : (root levels : ℕ) (result : Result (TreeRead R) WalkFault) → 1 ≤ root → root < site.bounds.length → 1 ≤ levels → levels ≤ 9 → MeetsTree (closed levels (read_node form site m (levels - 1) true root fresh)) result → MeetsTree (read_tree form site m root levels) result
  unfolding read_tree
  tree_read root levels result some below least most h = rw (does_lie root site.bounds.length some below, is_level levels least most) h

  -- of a root with a count of levels that no tree has one block is read
  pub root_counted : (root : ℕ) → walked_node form site m 9 true root fresh ≡ 1
  unfolding walked_node
  root_counted root = rw (none_wanted root fresh) refl

  pub levels_counted : (root : ℕ) (fault : WalkFault) (before after : ℕ) → after ≡ before + 1 → CountedBy before (walked_node form site m 9 true root fresh) after fault
  levels_counted root (Bad q f) before after one = rw (root_counted root) one
  levels_counted root Failed before after one = rw (root_counted root) (omega (arith, one))
  levels_counted root Memory before after one = rw (root_counted root) (omega (arith, one))

  pub outside_counted : (root levels : ℕ) → (1 ≤ root → root < site.bounds.length → ⊥) → walked form site m root levels ≡ 0
  unfolding walked
  outside_counted root levels h = rw (lies_not root site.bounds.length h) refl

  pub refused_tree_counted : (root levels : ℕ) → 1 ≤ root → root < site.bounds.length → (1 ≤ levels → levels ≤ 9 → ⊥) → walked form site m root levels ≡ walked_node form site m 9 true root fresh
  unfolding walked
  refused_tree_counted root levels some below none = rw (does_lie root site.bounds.length some below, no_level levels none) refl

  pub tree_counted : (root levels : ℕ) → 1 ≤ root → root < site.bounds.length → 1 ≤ levels → levels ≤ 9 → walked form site m root levels ≡ walked_node form site m (levels - 1) true root fresh
  unfolding walked
  tree_counted root levels some below least most = rw (does_lie root site.bounds.length some below, is_level levels least most) refl
