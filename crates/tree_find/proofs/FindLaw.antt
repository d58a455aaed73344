-- On a readable tree the record with an equal key is found, and none where there is none.
use Rattle.std.proofs.Common.{◌≡◌, ℕ, zero, suc, ◌+◌, ◌-◌, ◌≤◌, Bool, true, false, List, ◌++◌, Option, None, Result, Ok, refl, subst, ◌∙◌, ap, arith}
use Rattle.std.specs.Prelude.{◌&&◌, nat_le}
use Rattle.std.proofs.lemmas.Bool.Decides.{nat_tests}
use Rattle.sblock.specs.Area.{area_of, child_of}
use Rattle.sblock.specs.Blocks.{numrecs, IsRising}
use Rattle.sblock.specs.Form.{Form, IsLawful}
use Rattle.sblock.specs.Lists.{items_from}
use Rattle.tree_defs.specs.Claims.{lone_fault}
use Rattle.tree_defs.specs.Levels.{over, AllEntries, recs_of, IsRight, IsSound, IsTree}
use Rattle.tree_defs.specs.Tree.{entries_from, top_of}
use Rattle.tree_defs.specs.declared.site.Site.{Site}
use Rattle.tree_defs.proofs.Trees.{reads_trees_lem}
use Rattle.tree_blocks.specs.declared.tree.WalkFault.{WalkFault}
use Rattle.tree_find.specs.Find.{record_with, on_child, find_below, find_in}
use Rattle.tree_find.specs.Laws.{Holds, FindsInTrees}
use Rattle.tree_find.specs.Meets.{Meets}
use Rattle.tree_find.specs.Places.{place_behind, child_before, child_for}
use Rattle.tree_find.proofs.FindLemmas.{does_lie}
use Rattle.tree_find.proofs.EntryLemmas.{reached_begins}
use Rattle.tree_find.proofs.NodeLemmas.{Fits, entry, in_front, behind, low_reached, low_unreached, lies_from, fit_behind, recs_parts}
use Rattle.tree_find.proofs.Parting.{rising_front, rising_rest, all_above, find_none, found_within}

module _ {R K : Type 0} (form : Form R K) (law : IsLawful form) (site : Site) (m : ℕ → List ℕ) where
  pub opens_right : (level : ℕ) (root : Bool) (p : ℕ) → IsRight form m site level root p → lone_fault form site level root p (m p) ≡ None
  unfolding lone_fault
  opens_right level root p h = h

  module _ (key : K) where
    abbrev Finds : ℕ → Bool → ℕ → Type 0
    Finds level root p = find_below form site m key level root p ≡ Ok (record_with form key (recs_of form m level p))

    -- by where the key reaches among a node's entries
    by_place : (level : ℕ) (bytes : List ℕ) (place : ℕ) → place_behind form key false (area_of bytes) (numrecs bytes) ≡ place → ((q : ℕ) → IsSound form m site level false q → IsRising form (recs_of form m level q) → Finds level false q) → AllEntries (Fits form law site m level) (items_from (entry form law site m bytes) (numrecs bytes) 0) → IsRising form (over (recs_of form m level) (items_from (entry form law site m bytes) (numrecs bytes) 0)) → on_child (find_below form site m key level false) (child_before form (area_of bytes) place) ≡ Ok (record_with form key (over (recs_of form m level) (items_from (entry form law site m bytes) (numrecs bytes) 0)))
    by_place level bytes zero e go fits rising =
        let lies = lies_from form law site m bytes level key (numrecs bytes) 0 fits (λ some. low_unreached form law site m bytes key 0 (omega (arith, e)) some) in
        let none = find_none form law key (over (recs_of form m level) (items_from (entry form law site m bytes) (numrecs bytes) 0)) (all_above form law key (over (recs_of form m level) (items_from (entry form law site m bytes) (numrecs bytes) 0)) rising lies) in
        rw none refl
    by_place level bytes (suc i) e go fits rising =
        let at = low_reached form law site m bytes key i e in
        let parts = fit_behind form law site m bytes level i at.1 fits in
        let split = recs_parts form law site m bytes level i at.1 in
        let front = over (recs_of form m level) (in_front form law site m bytes i) in
        let below = recs_of form m level (entry form law site m bytes i).child in
        let rest = over (recs_of form m level) (behind form law site m bytes i) in
        let rises : IsRising form (front ++ (below ++ rest)) = let P : List R → Type 0 = λ v. IsRising form v in subst P split rising in
        let lies = lies_from form law site m bytes level key (numrecs bytes - i - 1) (i + 1) parts.1 (λ some. low_unreached form law site m bytes key (i + 1) (omega (arith, e)) (omega (arith, some))) in
        let begins = reached_begins form law key (entry form law site m bytes i) below parts.0.1 at.0 in
        let whole = ap (record_with form key) split ∙ found_within form law key front below rest rises begins lies in
        go (child_of form.kind (area_of bytes) i) parts.0.0 (rising_front form law below rest (rising_rest form law front (below ++ rest) rises)) ∙ rw whole refl

    finds : (level : ℕ) (root : Bool) (p : ℕ) → IsSound form m site level root p → IsRising form (recs_of form m level p) → Finds level root p
    unfolding find_below recs_of IsSound child_for entries_from
    finds zero root p sound rising = rw (opens_right 0 root p sound) refl
    finds (suc level) root p sound rising =
        rw (opens_right (suc level) root p sound.0) (by_place level (m p) (place_behind form key false (area_of (m p)) (numrecs (m p))) refl (λ q s r. finds level false q s r) sound.1 rising)

pub is_level : (levels : ℕ) → (1 ≤ levels) × (levels ≤ 9) → top_of levels ≡ levels - 1
is_level levels h =
    let e : (nat_le 1 levels && nat_le levels 9) ≡ true = grind (arith, nat_tests) in
    rw e refl

pub find_in_tree : {R K : Type 0} (form : Form R K) → IsLawful form → (site : Site) (m : ℕ → List ℕ) (root levels : ℕ) (recs : List R) (blocks : List ℕ) (key : K) → IsTree form site m root levels recs blocks → find_in form site m root levels key ≡ Ok (record_with form key recs)
unfolding find_in
find_in_tree {R} form law site m root levels recs blocks key t =
    let rises : IsRising form (recs_of form m (levels - 1) root) = let P : List R → Type 0 = λ v. IsRising form v in subst P t.recs_are t.rises in
    rw (does_lie root site.bounds.length t.root_lies.0 t.root_lies.1, is_level levels t.has_levels, t.recs_are) (finds form law site m key (levels - 1) true root t.sound rises)

pub finds_in_trees_lem : {R K : Type 0} (form : Form R K) → IsLawful form → FindsInTrees form
finds_in_trees_lem form law site m root levels recs key h =
    find_in_tree form law site m root levels recs h.0 key ((reads_trees_lem form law site m root levels recs h.0).0 h.1)

-- an answer that meets the definition is right on a readable tree
pub right_in_tree : {R K : Type 0} (form : Form R K) → IsLawful form → (site : Site) (m : ℕ → List ℕ) (root levels : ℕ) (key : K) (result : Result (Option R) WalkFault) → Meets (find_in form site m root levels key) result → (recs : List R) → Holds form site m root levels recs → Meets (Ok (record_with form key recs)) result
right_in_tree form law site m root levels key result met recs h = rw (finds_in_trees_lem form law site m root levels recs key h) at met
