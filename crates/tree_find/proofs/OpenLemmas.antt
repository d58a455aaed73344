-- What follows where a block on the way passes its tests by itself.
use Rattle.std.proofs.Common.{◌≡◌, ℕ, zero, suc, ◌<◌, ◌≤◌, Bool, true, false, List, Some, None, refl, arith}
use Rattle.std.specs.Prelude.{◌==◌}
use Rattle.std.proofs.lemmas.Bool.{and_parts, leb-true}
use Rattle.std.proofs.lemmas.Bool.Decides.{nat_tests}
use Rattle.sblock.specs.Area.{area_of, child_of}
use Rattle.sblock.specs.Blocks.{numrecs, is_rising, count_fits, least_of}
use Rattle.sblock.specs.Form.{Form}
use Rattle.sblock.specs.declared.kind.Kind.{Kind}
use Rattle.sblock.specs.declared.kind.Kind.TheVariants.{Bno, Cnt, Rmap, Refc, Ino, Fino}
use Rattle.sblock.proofs.BlockLemmas.{passed, has_level}
use Rattle.tree_defs.specs.Claims.{lone_fault}
use Rattle.sblock.specs.Headers.{left_of}
use Rattle.tree_defs.specs.Tree.{want_of}
use Rattle.tree_defs.specs.declared.site.Site.{Site}
use Rattle.tree_defs.proofs.LoneFacts.{child_inside}
use Rattle.tree_find.specs.Places.{is_reached, place_behind, child_before, child_for}
use Rattle.tree_find.proofs.PlaceLemmas.{placed_at}

least_node : (kind : Kind) (root : Bool) → 1 ≤ least_of kind false root
least_node kind true = omega arith
least_node Bno false = omega arith
least_node Cnt false = omega arith
least_node Rmap false = omega arith
least_node Refc false = omega arith
least_node Ino false = omega arith
least_node Fino false = omega arith

module _ {R K : Type 0} (form : Form R K) (site : Site) (level : ℕ) (root : Bool) (p : ℕ) (bytes : List ℕ) (pass : lone_fault form site level root p bytes ≡ None) where
  rising : is_rising form (level == 0) (area_of bytes) (numrecs bytes) ≡ true
  unfolding lone_fault
  rising = (passed form bytes (want_of form.kind site level root (left_of bytes) p) pass).rising

  pub leaf_rising : level ≡ 0 → is_rising form true (area_of bytes) (numrecs bytes) ≡ true
  leaf_rising z = let e : (level == 0) ≡ true = grind (arith, nat_tests) in rw e at rising

  pub node_rising : 0 < level → is_rising form false (area_of bytes) (numrecs bytes) ≡ true
  node_rising pos = let e : (level == 0) ≡ false = grind (arith, nat_tests) in rw e at rising

  pub low_level : level ≤ 8
  unfolding lone_fault
  low_level = (has_level form bytes (want_of form.kind site level root (left_of bytes) p) pass).1

  by_place : 0 < level → (key : K) (place q : ℕ) → place_behind form key false (area_of bytes) (numrecs bytes) ≡ place → child_before form (area_of bytes) place ≡ Some q → q < site.bounds.length
  unfolding place_behind
  by_place pos key zero q e h = cc
  by_place pos key (suc i) q e h =
      let at = placed_at (is_reached form key false (area_of bytes)) (numrecs bytes) i e in
      let same : child_of form.kind (area_of bytes) i ≡ q = cc in
      rw (← same) (child_inside form site level root p bytes pass pos i at.1)

  -- the child that the way goes on to lies in the group
  pub next_inside : 0 < level → (key : K) (q : ℕ) → child_for form key bytes ≡ Some q → q < site.bounds.length
  unfolding child_for
  next_inside pos key q h = by_place pos key (place_behind form key false (area_of bytes) (numrecs bytes)) q refl h

  -- a node has an entry
  pub node_some : 0 < level → 1 ≤ numrecs bytes
  unfolding lone_fault count_fits
  node_some pos =
      let e : (level == 0) ≡ false = grind (arith, nat_tests) in
      let fits : count_fits form.kind (level == 0) root (numrecs bytes) ≡ true = (passed form bytes (want_of form.kind site level root (left_of bytes) p) pass).fits in
      let least : least_of form.kind false root ≤ numrecs bytes = leb-true _ _ (and_parts _ _ (rw e at fits)).0 in
      omega (arith, least_node form.kind root, least)
