-- What follows where a block passes its tests by itself.
use Rattle.std.proofs.Common.{◌≡◌, ℕ, ◌+◌, ◌<◌, ◌≤◌, Bool, true, false, None, arith}
use Rattle.std.specs.Prelude.{◌==◌, List}
use Rattle.std.proofs.lemmas.Bool.Decides.{nat_tests}
use Rattle.std.proofs.lemmas.Bool.{and_parts, ltb-true}
use Rattle.sblock.specs.Area.{area_of, child_of}
use Rattle.sblock.specs.Blocks.{numrecs, most_of, records_of, children_of, AllInside, AllSupported, AreBlocks}
use Rattle.sblock.specs.Form.{Form}
use Rattle.sblock.specs.Kinds.{leaf_most_of, node_most_of}
use Rattle.sblock.proofs.BlockLemmas.{has_room, records_lie_inside, records_are_supported, children_lie_inside}
use Rattle.tree_defs.specs.Claims.{lone_fault}
use Rattle.sblock.specs.Headers.{left_of}
use Rattle.tree_defs.specs.Tree.{want_of}
use Rattle.tree_defs.specs.declared.site.Site.{Site}
use Rattle.tree_defs.proofs.EachLemmas.{each_item}

module _ {R K : Type 0} (form : Form R K) (site : Site) (level : ℕ) (root : Bool) (p : ℕ) (bytes : List ℕ) (pass : lone_fault form site level root p bytes ≡ None) where
  room : numrecs bytes ≤ most_of form.kind (level == 0)
  unfolding lone_fault
  room = has_room form bytes (want_of form.kind site level root (left_of bytes) p) pass

  pub leaf_room : level ≡ 0 → numrecs bytes ≤ leaf_most_of form.kind
  leaf_room z = let e : (level == 0) ≡ true = grind (arith, nat_tests) in rw e at room

  pub node_room : 0 < level → numrecs bytes ≤ node_most_of form.kind
  node_room pos = let e : (level == 0) ≡ false = grind (arith, nat_tests) in rw e at room

  pub leaf_inside : level ≡ 0 → AllInside form site.bounds (records_of form bytes)
  unfolding lone_fault
  leaf_inside z = records_lie_inside form bytes (want_of form.kind site level root (left_of bytes) p) pass z

  pub leaf_supported : level ≡ 0 → AllSupported form (records_of form bytes)
  unfolding lone_fault
  leaf_supported z = records_are_supported form bytes (want_of form.kind site level root (left_of bytes) p) pass z

  children_inside : 0 < level → AreBlocks site.bounds.length (children_of form bytes)
  unfolding lone_fault
  children_inside pos = children_lie_inside form bytes (want_of form.kind site level root (left_of bytes) p) pass pos

  -- each child of a node that passes is a block of the group
  pub child_inside : 0 < level → (i : ℕ) → i < numrecs bytes → child_of form.kind (area_of bytes) i < site.bounds.length
  unfolding children_of
  child_inside pos i lt =
      let t = each_item _ (child_of form.kind (area_of bytes)) (numrecs bytes) i (children_inside pos) lt in
      ltb-true _ _ (and_parts _ _ t).1
