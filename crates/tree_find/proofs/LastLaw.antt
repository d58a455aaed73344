-- Of a readable tree the last record is found.
use Rattle.std.proofs.Common.{◌≡◌, ℕ, zero, suc, ◌-◌, ◌<◌, ◌≤◌, Bool, true, false, List, [], ◌∷◌, ◌++◌, Option, None, Result, Ok, refl, sym, ◌∙◌, ap, arith}
use Rattle.std.proofs.lemmas.List.{append-nil}
use Rattle.sblock.specs.Area.{area_of, child_of}
use Rattle.sblock.specs.Blocks.{numrecs}
use Rattle.sblock.specs.Form.{Form, IsLawful}
use Rattle.sblock.specs.Lists.{items_from}
use Rattle.tree_defs.specs.Levels.{over, recs_of, IsSound, IsTree}
use Rattle.tree_defs.specs.Tree.{entries_from}
use Rattle.tree_defs.specs.declared.site.Site.{Site}
use Rattle.tree_defs.proofs.Parts.{last_rec, last_is, last_rec_append}
use Rattle.tree_defs.proofs.Trees.{reads_trees_lem}
use Rattle.tree_blocks.specs.declared.tree.WalkFault.{WalkFault}
use Rattle.tree_find.specs.Last.{last_of, last_below, last_in, LastInTrees}
use Rattle.tree_find.specs.Laws.{Holds}
use Rattle.tree_find.specs.Meets.{Meets}
use Rattle.tree_find.proofs.FindLaw.{opens_right, is_level}
use Rattle.tree_find.proofs.FindLemmas.{does_lie}
use Rattle.tree_find.proofs.NextLaw.{has_records}
use Rattle.tree_find.proofs.NodeLemmas.{entry, in_front, behind, fit_behind, recs_parts}
use Rattle.tree_find.proofs.OpenLemmas.{node_some}

-- of some records behind others, the last is that of these
last_behind : {R : Type 0} (q : Option R) (xs ys : List R) → (ys ≡ [] → ⊥) → last_rec q (xs ++ ys) ≡ last_rec None ys
last_behind q xs [] some = absurd (some refl)
last_behind q xs (y ∷ ys) some = last_rec_append q xs (y ∷ ys)

module _ {R K : Type 0} (form : Form R K) (law : IsLawful form) (site : Site) (m : ℕ → List ℕ) where
  finds_last : (level : ℕ) (root : Bool) (p : ℕ) → IsSound form m site level root p → last_below form site m level root p ≡ Ok (last_rec None (recs_of form m level p))
  unfolding last_below recs_of IsSound entries_from
  finds_last zero root p sound = rw (opens_right form law site m 0 root p sound) (ap Ok (last_is (recs_of form m 0 p)))
  finds_last (suc level) root p sound =
      let opens = opens_right form law site m (suc level) root p sound.0 in
      let n : 1 ≤ numrecs (m p) = node_some form site (suc level) root p (m p) opens (omega arith) in
      let i = numrecs (m p) - 1 in
      let lt : i < numrecs (m p) = omega (arith, n) in
      let split = recs_parts form law site m (m p) level i lt in
      let fit = fit_behind form law site m (m p) level i lt sound.1 in
      let mine = recs_of form m level (entry form law site m (m p) i).child in
      let front = over (recs_of form m level) (in_front form law site m (m p) i) in
      let none : numrecs (m p) - i - 1 ≡ 0 = omega (arith, n) in
      let rest : over (recs_of form m level) (behind form law site m (m p) i) ≡ [] = rw none refl in
      let some = has_records form law site m level mine i (m p) fit.0.1 in
      let whole : over (recs_of form m level) (items_from (entry form law site m (m p)) (numrecs (m p)) 0) ≡ front ++ mine = split ∙ ap (λ v. front ++ v) (ap (λ v. mine ++ v) rest ∙ append-nil mine) in
      rw opens (finds_last level false (child_of form.kind (area_of (m p)) i) fit.0.0 ∙ ap Ok (sym (ap (last_rec None) whole ∙ last_behind None front mine some)))

pub last_in_tree : {R K : Type 0} (form : Form R K) → IsLawful form → (site : Site) (m : ℕ → List ℕ) (root levels : ℕ) (recs : List R) (blocks : List ℕ) → IsTree form site m root levels recs blocks → last_in form site m root levels ≡ Ok (last_of recs)
unfolding last_in
last_in_tree form law site m root levels recs blocks t =
    rw (does_lie root site.bounds.length t.root_lies.0 t.root_lies.1, is_level levels t.has_levels) (finds_last form law site m (levels - 1) true root t.sound ∙ ap Ok (ap (last_rec None) (sym t.recs_are) ∙ sym (last_is recs)))

pub last_in_trees_lem : {R K : Type 0} (form : Form R K) → IsLawful form → LastInTrees form
last_in_trees_lem form law site m root levels recs h =
    last_in_tree form law site m root levels recs h.0 ((reads_trees_lem form law site m root levels recs h.0).0 h.1)

-- an answer that meets the definition is right on a readable tree
pub right_last : {R K : Type 0} (form : Form R K) → IsLawful form → (site : Site) (m : ℕ → List ℕ) (root levels : ℕ) (result : Result (Option R) WalkFault) → Meets (last_in form site m root levels) result → (recs : List R) → Holds form site m root levels recs → Meets (Ok (last_of recs)) result
right_last form law site m root levels result met recs h = rw (last_in_trees_lem form law site m root levels recs h) at met
