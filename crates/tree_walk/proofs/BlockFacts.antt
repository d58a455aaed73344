-- What follows where a block passes its tests in its place.
use Rattle.std.proofs.Common.{◌≡◌, ℕ, ◌+◌, ◌<◌, ◌≤◌, Bool, true, false, List, [], ◌∷◌, ◌++◌, length, length-append, None, refl, ap, ◌∙◌, arith}
use Rattle.std.specs.Prelude.{slice_index, ◌==◌, nat_lt, OnOk, Result, Ok, Err}
use Rattle.std.proofs.lemmas.Bool.Decides.{nat_tests}
use Rattle.std.proofs.lemmas.Bool.{and_parts, ltb-true}
use Rattle.sblock.specs.Area.{area_of, child_of}
use Rattle.sblock.specs.Blocks.{numrecs, block_fault, most_of, records_of, children_of, AllInside, AreBlocks}
use Rattle.sblock.specs.Form.{Form}
use Rattle.sblock.specs.Kinds.{leaf_most_of, node_most_of}
use Rattle.sblock.proofs.BlockLemmas.{has_room, records_lie_inside, records_are_supported, children_lie_inside}
use Rattle.tree_defs.specs.Levels.{RisesAfter}
use Rattle.tree_defs.specs.Tree.{Trail, want_of, fault_here, noted, with_recs}
use Rattle.tree_defs.specs.declared.site.Site.{Site}
use Rattle.tree_defs.proofs.Blocks.{stands, leaf_rises}
use Rattle.tree_defs.proofs.Parts.{sooner_none, last_rec, rising_join, to_rising, from_rising}
use Rattle.tree_walk.specs.Trails.{AreSound, LieInside}
use Rattle.tree_defs.proofs.EachLemmas.{each_item, each_append}

pub noted_blocks : {R : Type 0} (t u : Trail R) (level p : ℕ) (bytes : List ℕ) → u ≡ noted t level p bytes → length u.blocks ≡ length t.blocks + 1
unfolding noted
noted_blocks t u level p bytes e = ap (λ x. length x.blocks) e ∙ length-append t.blocks (p ∷ [])

is_less : (p len : ℕ) → p < len → nat_lt p len ≡ true
is_less p len h = grind (arith, nat_tests)

pub noted_lie : {R : Type 0} (t u : Trail R) (level p : ℕ) (bytes : List ℕ) (len : ℕ) → u ≡ noted t level p bytes → p < len → LieInside len t.blocks → LieInside len u.blocks
unfolding noted
noted_lie t u level p bytes len e lt h =
    let b : u.blocks ≡ t.blocks ++ p ∷ [] = ap (λ x. x.blocks) e in
    rw b (each_append (λ q. nat_lt q len) t.blocks (p ∷ []) h (is_less p len lt, tt))

pub lie_still : {A E : Type 0} (len : ℕ) (xs ys : List ℕ) (result : Result A E) → ys ≡ xs → LieInside len xs → OnOk result (LieInside len ys)
lie_still len xs ys (Ok x) e h = rw e h
lie_still len xs ys (Err f) e h = tt

pub noted_recs : {R : Type 0} (t u : Trail R) (level p : ℕ) (bytes : List ℕ) → u ≡ noted t level p bytes → u.recs ≡ t.recs
unfolding noted
noted_recs t u level p bytes e = ap (λ x. x.recs) e

pub with_more : {R : Type 0} (t u : Trail R) (rs : List R) → u ≡ with_recs t rs → u.recs ≡ t.recs ++ rs
unfolding with_recs
with_more t u rs e = ap (λ x. x.recs) e

module _ {R K : Type 0} (form : Form R K) (site : Site) (t : Trail R) (level : ℕ) (root : Bool) (p : ℕ) (bytes : List ℕ) (pass : fault_here form site t level root p bytes ≡ None) where
  own : block_fault form bytes (want_of form.kind site level root (slice_index t.before level) p) ≡ None
  unfolding fault_here
  own = (sooner_none _ _ pass).0

  room : numrecs bytes ≤ most_of form.kind (level == 0)
  room = has_room form bytes (want_of form.kind site level root (slice_index t.before level) p) own

  pub leaf_room : level ≡ 0 → numrecs bytes ≤ leaf_most_of form.kind
  leaf_room z = let e : (level == 0) ≡ true = grind (arith, nat_tests) in rw e at room

  pub node_room : 0 < level → numrecs bytes ≤ node_most_of form.kind
  node_room pos = let e : (level == 0) ≡ false = grind (arith, nat_tests) in rw e at room

  pub leaf_inside : level ≡ 0 → AllInside form site.bounds (records_of form bytes)
  leaf_inside z = records_lie_inside form bytes (want_of form.kind site level root (slice_index t.before level) p) own z

  pub children_inside : 0 < level → AreBlocks site.bounds.length (children_of form bytes)
  children_inside pos = children_lie_inside form bytes (want_of form.kind site level root (slice_index t.before level) p) own pos

  rises : level ≡ 0 → RisesAfter form (last_rec None t.recs) (records_of form bytes)
  rises z =
      let at_zero : fault_here form site t 0 root p bytes ≡ None = rw z at pass in
      let s = stands form (λ q. bytes) site t 0 root p at_zero in
      leaf_rises form (λ q. bytes) site (last_rec None t.recs) root p s.right (s.after refl)

  -- a leaf's records go on where those before end
  pub sound_more : level ≡ 0 → AreSound form site.bounds t.recs → AreSound form site.bounds (t.recs ++ records_of form bytes)
  sound_more z before = record {
    rising = to_rising form (t.recs ++ records_of form bytes) (rising_join form None t.recs (records_of form bytes) (from_rising form t.recs before.rising) (rises z));
    inside = each_append (form.is_in_range site.bounds) t.recs (records_of form bytes) before.inside (leaf_inside z);
    supported = each_append form.is_supported t.recs (records_of form bytes) before.supported (records_are_supported form bytes (want_of form.kind site level root (slice_index t.before level) p) own z);
  }

pub child_inside : {R K : Type 0} (form : Form R K) (len : ℕ) (bytes : List ℕ) → AreBlocks len (children_of form bytes) → (i : ℕ) → i < numrecs bytes → child_of form.kind (area_of bytes) i < len
unfolding children_of
child_inside form len bytes h i lt =
    let t = each_item _ (child_of form.kind (area_of bytes)) (numrecs bytes) i h lt in
    ltb-true _ _ (and_parts _ _ t).1
