-- In a readable tree a search finds the lowest allocated inode of the range.
use Rattle.std.proofs.Common.{◌≡◌, ℕ, zero, suc, ◌+◌, ◌-◌, ◌<◌, Bool, true, false, List, [], ◌∷◌, ◌++◌, Option, Some, None, Result, Ok, refl, sym, ap, subst, ◌∙◌, arith}
use Rattle.std.specs.Prelude.{nat_lt}
use Rattle.std.proofs.lemmas.Bool.Decides.{nat_tests}
use Rattle.ino_recs.specs.Chunks.{ino_form}
use Rattle.ino_recs.specs.ChunkLaws.{lawful_ino}
use Rattle.ino_recs.specs.declared.chunk.InoRec.{InoRec}
use Rattle.sblock.specs.Area.{area_of}
use Rattle.sblock.specs.Blocks.{numrecs, IsRising}
use Rattle.sblock.specs.Lists.{items_from, Each}
use Rattle.tree_defs.specs.Levels.{over, AllEntries, recs_of, IsSound, IsTree}
use Rattle.tree_defs.specs.Tree.{entries_from}
use Rattle.tree_defs.specs.declared.site.Site.{Site}
use Rattle.tree_defs.proofs.Trees.{reads_trees_lem}
use Rattle.tree_blocks.specs.declared.tree.WalkFault.{WalkFault}
use Rattle.tree_find.specs.Laws.{Holds}
use Rattle.tree_find.specs.Meets.{Meets}
use Rattle.tree_find.specs.Next.{start_of}
use Rattle.tree_find.specs.Places.{place_behind}
use Rattle.tree_find.proofs.EntryLemmas.{reached_begins}
use Rattle.tree_find.proofs.FindLaw.{opens_right, is_level}
use Rattle.tree_find.proofs.FindLemmas.{does_lie}
use Rattle.tree_find.proofs.NodeLemmas.{Fits, entry, in_front, behind, low_reached, fit_behind, recs_parts}
use Rattle.tree_find.proofs.Parting.{rising_front, rising_rest, all_passed}
use Rattle.inode_scan.specs.Chunk.{or_else, first_in}
use Rattle.inode_scan.specs.Search.{Search, then_next, among, key_from, search_below, search_in, FindsFirst}
use Rattle.inode_scan.proofs.ChunkLemmas.{first_append, passed_none}

both_found : (a b : Option ℕ) → then_next (Ok a) (Ok b) ≡ Ok (or_else a b)
both_found None b = refl
both_found (Some n) b = refl

comes_before : (a from : ℕ) → nat_lt a (from - 63) ≡ true → a + 63 < from
comes_before a from h = grind (arith, nat_tests)

pub front_none : (from end : ℕ) (rs : List InoRec) → Each (λ r. nat_lt r.startino (from - 63)) rs → first_in from end rs ≡ None
unfolding first_in
front_none from end [] passed = refl
front_none from end (r ∷ rs) passed = let none = passed_none from end r (comes_before r.startino from passed.0) in rw none (front_none from end rs passed.1)

module _ (site : Site) (m : ℕ → List ℕ) (from end : ℕ) where
  abbrev Finds : ℕ → Bool → ℕ → Type 0
  Finds level root p = search_below site m from end level root p ≡ Ok (first_in from end (recs_of ino_form m level p))

  module _ (level : ℕ) (bytes : List ℕ) (go : (q : ℕ) → IsSound ino_form m site level false q → IsRising ino_form (recs_of ino_form m level q) → Finds level false q) where
    children : (count i : ℕ) → AllEntries (Fits ino_form lawful_ino site m level) (items_from (entry ino_form lawful_ino site m bytes) count i) → IsRising ino_form (over (recs_of ino_form m level) (items_from (entry ino_form lawful_ino site m bytes) count i))
        → among (search_below site m from end level false) (items_from (entry ino_form lawful_ino site m bytes) count i) ≡ Ok (first_in from end (over (recs_of ino_form m level) (items_from (entry ino_form lawful_ino site m bytes) count i)))
    unfolding first_in
    children zero i fits rising = refl
    children (suc n) i fits rising =
        let mine = recs_of ino_form m level (entry ino_form lawful_ino site m bytes i).child in
        let rest = over (recs_of ino_form m level) (items_from (entry ino_form lawful_ino site m bytes) n (i + 1)) in
        let here = go (entry ino_form lawful_ino site m bytes i).child fits.0.0 (rising_front ino_form lawful_ino mine rest rising) in
        let later = children n (i + 1) fits.1 (rising_rest ino_form lawful_ino mine rest rising) in
        ap (λ (s : Search). then_next s (among (search_below site m from end level false) (items_from (entry ino_form lawful_ino site m bytes) n (i + 1)))) here
        ∙ ap (then_next (Ok (first_in from end mine))) later
        ∙ both_found (first_in from end mine) (first_in from end rest)
        ∙ ap Ok (sym (first_append from end mine rest))

    abbrev all_entries : List InoRec
    all_entries = over (recs_of ino_form m level) (items_from (entry ino_form lawful_ino site m bytes) (numrecs bytes) 0)

    by_place : (place : ℕ) → place_behind ino_form (key_from from) false (area_of bytes) (numrecs bytes) ≡ place
        → AllEntries (Fits ino_form lawful_ino site m level) (items_from (entry ino_form lawful_ino site m bytes) (numrecs bytes) 0) → IsRising ino_form all_entries
        → among (search_below site m from end level false) (items_from (entry ino_form lawful_ino site m bytes) (numrecs bytes - (place - 1)) (place - 1)) ≡ Ok (first_in from end all_entries)
    by_place zero e fits rising = let whole : numrecs bytes - 0 ≡ numrecs bytes = omega arith in rw whole (children (numrecs bytes) 0 fits rising)
    by_place (suc i) e fits rising =
        let key = key_from from in
        let at = low_reached ino_form lawful_ino site m bytes key i e in
        let parts = fit_behind ino_form lawful_ino site m bytes level i at.1 fits in
        let split = recs_parts ino_form lawful_ino site m bytes level i at.1 in
        let front = over (recs_of ino_form m level) (in_front ino_form lawful_ino site m bytes i) in
        let mine = recs_of ino_form m level (entry ino_form lawful_ino site m bytes i).child in
        let rest = over (recs_of ino_form m level) (behind ino_form lawful_ino site m bytes i) in
        let rises : IsRising ino_form (front ++ (mine ++ rest)) = let P : List InoRec → Type 0 = λ v. IsRising ino_form v in subst P split rising in
        let begins = reached_begins ino_form lawful_ino key (entry ino_form lawful_ino site m bytes i) mine parts.0.1 at.0 in
        let none = front_none from end front (all_passed ino_form lawful_ino key front mine rest rises begins) in
        let tail = children (suc (numrecs bytes - i - 1)) i parts (rising_rest ino_form lawful_ino front (mine ++ rest) rises) in
        let whole : first_in from end all_entries ≡ first_in from end (mine ++ rest) = ap (first_in from end) split ∙ first_append from end front (mine ++ rest) ∙ ap (λ (o : Option ℕ). or_else o (first_in from end (mine ++ rest))) none in
        let one : suc i - 1 ≡ i = omega arith in
        let left : numrecs bytes - i ≡ suc (numrecs bytes - i - 1) = (let lt = at.1 in omega (arith, lt)) in
        rw (one, left) (tail ∙ ap Ok (sym whole))

  pub finds : (level : ℕ) (root : Bool) (p : ℕ) → IsSound ino_form m site level root p → IsRising ino_form (recs_of ino_form m level p) → Finds level root p
  unfolding search_below recs_of IsSound entries_from start_of
  finds zero root p sound rising = rw (opens_right ino_form lawful_ino site m 0 root p sound) refl
  finds (suc level) root p sound rising =
      rw (opens_right ino_form lawful_ino site m (suc level) root p sound.0)
      (by_place level (m p) (λ q s r. finds level false q s r) (place_behind ino_form (key_from from) false (area_of (m p)) (numrecs (m p))) refl sound.1 rising)

  in_tree : (root levels : ℕ) (recs : List InoRec) (blocks : List ℕ) → IsTree ino_form site m root levels recs blocks → search_in site m from end root levels ≡ Ok (first_in from end recs)
  unfolding search_in
  in_tree root levels recs blocks t =
      let rises : IsRising ino_form (recs_of ino_form m (levels - 1) root) = let P : List InoRec → Type 0 = λ v. IsRising ino_form v in subst P t.recs_are t.rises in
      rw (does_lie root site.bounds.length t.root_lies.0 t.root_lies.1, is_level levels t.has_levels, t.recs_are) (finds (levels - 1) true root t.sound rises)

  pub finds_first : FindsFirst site m from end
  finds_first root levels recs h = in_tree root levels recs h.0 ((reads_trees_lem ino_form lawful_ino site m root levels recs h.0).0 h.1)

  -- an answer that meets the definition is right on a readable tree
  pub right_first : (root levels : ℕ) (result : Result (Option ℕ) WalkFault) → Meets (search_in site m from end root levels) result → (recs : List InoRec) → Holds ino_form site m root levels recs → Meets (Ok (first_in from end recs)) result
  right_first root levels result met recs h = rw (finds_first root levels recs h) at met
