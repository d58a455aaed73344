-- A fork in two images.
use Rattle.std.proofs.Common.{◌≡◌, ℕ, ◌-◌, Bool, true, false, [], Option, Some, None, Result, Ok, Err, is_ok, refl, ap, sym, subst, ◌∙◌, inl, inr}
use Rattle.std.specs.Prelude.{◌⊎◌, if◌then◌else◌}
use Rattle.std.proofs.lemmas.Bool.{false≢true, cases_Bool}
use Rattle.geom.specs.Layout.{Layout}
use Rattle.dinode_core.specs.declared.inode.Core3.{Core3}
use Rattle.dinode_core.specs.declared.mapping.Fork.{Fork}
use Rattle.dinode_core.specs.declared.mapping.ForkFault.{ForkFault}
use Rattle.dinode_core.specs.declared.mapping.ForkFault.TheVariants as faults
use Rattle.dinode_core.specs.Inline.{root_level, form_fault, first_bad, or_else, inline_mappings}
use Rattle.dinode_core.specs.Shape.{area_of}
use Rattle.dinode_core.specs.ForkTree.{Image, Trail, Met, walk_block, walk_tree, root_entries, start, met_in, met_of, is_tree, block_fault, walk_fault, has_number, fork_fault}
use Rattle.dinode_core.specs.Frame.{Lies, ForkList, list_or, list_of, fork_in, AreAlike, Stay}
use Rattle.dinode_core.proofs.Walks.{met, Good, Other, ok_each, ok_block, same_each, same_block, within_block, other_each, other_block}

-- the walk's part of a fork's fault
abbrev faulted : Layout → Core3 → Fork → Met → Bool → Option ForkFault
faulted at core f met number =
    or_else (or_else (form_fault core f) (or_else (first_bad at f met.mappings) (block_fault met.whole))) (if number then None else Some faults.Count)

else_some : (o : Option ForkFault) (x : Option ForkFault) → ((f : ForkFault) × (x ≡ Some f)) → (f : ForkFault) × (or_else o x ≡ Some f)
else_some None x h = h
else_some (Some g) x h = (g, refl)

none_some : (f : ForkFault) → ◌≡◌ {A = Option ForkFault} None (Some f) → ⊥
none_some f e = cc

some_else : (o x : Option ForkFault) → ((f : ForkFault) × (o ≡ Some f)) → (f : ForkFault) × (or_else o x ≡ Some f)
some_else None x h = absurd (none_some h.0 h.1)
some_else (Some g) x h = (g, refl)

-- what isn't whole has a fault
broken : (at : Layout) (core : Core3) (f : Fork) (met : Met) (number : Bool) → met.whole ≡ false → (e : ForkFault) × (faulted at core f met number ≡ Some e)
broken at core f met number h =
    some_else (or_else (form_fault core f) (or_else (first_bad at f met.mappings) (block_fault met.whole))) (if number then None else Some faults.Count) (else_some (form_fault core f) (or_else (first_bad at f met.mappings) (block_fault met.whole)) (else_some (first_bad at f met.mappings) (block_fault met.whole) (faults.Block, rw h refl)))

list_err : (o : Option ForkFault) (l : ForkList) → ((f : ForkFault) × (o ≡ Some f)) → is_ok (list_or o l) ≡ false
list_err o l h = rw (h.1) refl

if_same : {A : Type 0} (b : Bool) (x y z : A) → (b ≡ true → x ≡ y) → (if b then x else z) ≡ (if b then y else z)
if_same true x y z h = h refl
if_same false x y z h = refl

module _ (at : Layout) (core : Core3) (m n : Image) (alike : AreAlike m n) where
  tree_same : (f : Fork) → ((d : ℕ) → Lies at (met (walk_tree at m core f)).blocks d → n d ≡ m d) → walk_tree at n core f ≡ walk_tree at m core f
  unfolding walk_tree Good
  tree_same f good =
      let level = root_level (area_of core f) - 1 in
      same_each at core m n (walk_block at m core level) (walk_block at n core level) (within_block at core m level) (λ t e g. same_block at core m n alike level t e g) (root_entries core f) start good

  tree_other : (f : Fork) → Other at core m n alike (walk_tree at n core f) (walk_tree at m core f)
  unfolding walk_tree
  tree_other f =
      let level = root_level (area_of core f) - 1 in
      other_each at core m n alike (walk_block at m core level) (walk_block at n core level) (λ t e. other_block at core m n alike level t e) (root_entries core f) start

  fork_from : (f : Fork) → met_of at n core f ≡ met_of at m core f → fork_in at n core f ≡ fork_in at m core f
  unfolding fork_in fork_fault walk_fault
  fork_from f e = rw e refl

  blocks_in : (levels : ℕ) (r : Result Trail Trail) → (met_in levels r).blocks ≡ (met r).blocks
  unfolding met
  blocks_in levels (Ok t) = refl
  blocks_in levels (Err t) = refl

  not_whole : (levels : ℕ) (r : Result Trail Trail) → is_ok r ≡ false → (met_in levels r).whole ≡ false
  not_whole levels (Ok t) h = absurd (false≢true (sym h))
  not_whole levels (Err t) h = refl

  met_same : (f : Fork) → Stay at (met_of at m core f).blocks m n → met_of at n core f ≡ met_of at m core f
  unfolding met_of
  met_same f good =
      if_same (is_tree core f) (met_in (root_level (area_of core f)) (walk_tree at n core f)) (met_in (root_level (area_of core f)) (walk_tree at m core f)) (record { mappings = inline_mappings core f; blocks = []; whole = true }) (λ tree.
      let g = rw tree at good in
      ap (met_in (root_level (area_of core f))) (tree_same f (λ d l. g d (subst (λ bs. Lies at bs d) (sym (blocks_in (root_level (area_of core f)) (walk_tree at m core f))) l))))

  -- where what was met of it stays, a fork is the same
  pub fork_same : (f : Fork) → Stay at (met_of at m core f).blocks m n → fork_in at n core f ≡ fork_in at m core f
  fork_same f stay = fork_from f (met_same f stay)

  met_or : (f : Fork) → (met_of at n core f ≡ met_of at m core f) ⊎ ((met_of at n core f).whole ≡ false)
  unfolding met_of Other
  met_or f =
      elim (cases_Bool (is_tree core f)) [
        | inr off ↦ inl (rw off refl)
        | inl on ↦ rw on (elim (tree_other f) [
          | inl same ↦ inl (rw same refl)
          | inr failed ↦ inr (not_whole (root_level (area_of core f)) (walk_tree at n core f) failed)
        ])
      ]

  pub fork_fails : (f : Fork) (e : ForkFault) → fork_in at m core f ≡ Err e → is_ok (fork_in at n core f) ≡ false
  unfolding fork_in fork_fault walk_fault
  fork_fails f e h =
      elim (met_or f) [
        | inl same ↦ rw (fork_from f same ∙ h) refl
        | inr failed ↦ list_err (fork_fault at n core f) (list_of (met_of at n core f)) (broken at core f (met_of at n core f) (has_number at n core f) failed)
      ]

  -- a fork with a fault has one still
  pub stays_bad : (f : Fork) → is_ok (fork_in at m core f) ≡ false → is_ok (fork_in at n core f) ≡ false
  stays_bad f h = bad_from (fork_in at m core f) refl h
    where
      bad_from : (r : Result ForkList ForkFault) → fork_in at m core f ≡ r → is_ok r ≡ false → is_ok (fork_in at n core f) ≡ false
      bad_from (Ok list) e bad = absurd (false≢true (sym bad))
      bad_from (Err fault) e bad = fork_fails f fault e

module _ (at : Layout) (core : Core3) (m n : Image) where
  list_ok : (o : Option ForkFault) (l list : ForkList) → list_or o l ≡ Ok list → (o ≡ None) × (l ≡ list)
  list_ok None l list h = (refl, cc)
  list_ok (Some e) l list h = cc

  else_none : (o x : Option ForkFault) → or_else o x ≡ None → (o ≡ None) × (x ≡ None)
  else_none None x h = (refl, h)
  else_none (Some e) x h = absurd (none_some e (sym h))

  is_whole : (b : Bool) → block_fault b ≡ None → b ≡ true
  is_whole true h = refl
  is_whole false h = cc

  walked_ok : (levels : ℕ) (r : Result Trail Trail) → (met_in levels r).whole ≡ true → (u : Trail) × (r ≡ Ok u)
  walked_ok levels (Ok u) h = (u, refl)
  walked_ok levels (Err u) h = absurd (false≢true h)

  tree_ok : (f : Fork) (u : Trail) → walk_tree at m core f ≡ Ok u → Stay at u.blocks m n → walk_tree at n core f ≡ Ok u
  unfolding walk_tree Good
  tree_ok f u h stay =
      let level = root_level (area_of core f) - 1 in
      ok_each at core m n (walk_block at m core level) (walk_block at n core level) (within_block at core m level) (λ t x e. ok_block at core m n level t x e) (root_entries core f) start u h stay

  met_stays : (f : Fork) → (met_of at m core f).whole ≡ true → Stay at (met_of at m core f).blocks m n → met_of at n core f ≡ met_of at m core f
  unfolding met_of
  met_stays f whole stay =
      if_same (is_tree core f) (met_in (root_level (area_of core f)) (walk_tree at n core f)) (met_in (root_level (area_of core f)) (walk_tree at m core f)) (record { mappings = inline_mappings core f; blocks = []; whole = true }) (λ on.
      let whole_in = rw on at whole in
      let stay_in = rw on at stay in
      let walked = walked_ok (root_level (area_of core f)) (walk_tree at m core f) whole_in in
      let same = tree_ok f walked.0 walked.1 (subst (λ r. Stay at (met_in (root_level (area_of core f)) r).blocks m n) walked.1 stay_in) in
      ap (met_in (root_level (area_of core f))) (same ∙ sym walked.1))

  -- a fork without a fault stays, where the blocks of its btree stay
  pub fork_stays : (f : Fork) (list : ForkList) → fork_in at m core f ≡ Ok list → Stay at list.blocks m n → fork_in at n core f ≡ Ok list
  unfolding fork_in fork_fault walk_fault
  fork_stays f list h stay =
      let ok = list_ok (fork_fault at m core f) (list_of (met_of at m core f)) list h in
      let walk = else_none (or_else (form_fault core f) (or_else (first_bad at f (met_of at m core f).mappings) (block_fault (met_of at m core f).whole))) (if has_number at m core f then None else Some faults.Count) ok.0 in
      let rest = else_none (form_fault core f) (or_else (first_bad at f (met_of at m core f).mappings) (block_fault (met_of at m core f).whole)) walk.0 in
      let last = else_none (first_bad at f (met_of at m core f).mappings) (block_fault (met_of at m core f).whole) rest.1 in
      let same = met_stays f (is_whole (met_of at m core f).whole last.1) (subst (λ (x : ForkList). Stay at x.blocks m n) (sym ok.1) stay) in
      rw same h
