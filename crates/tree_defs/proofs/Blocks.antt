-- The tests that a block passes in its place.
use Rattle.std.proofs.Common.{◌≡◌, ℕ, ◌≤◌, Bool, true, false, List, length, Option, Some, None, refl, inl, inr, arith, suc, zero, ◌-◌}
use Rattle.std.specs.Prelude.{slice_index, slice_get, ◌==◌, ◌&&◌, ◌||◌, not, nat_le, ◌⊎◌, if◌then◌else◌}
use Rattle.std.proofs.lemmas.Bool.{eqb-true}
use Rattle.std.proofs.lemmas.Bool.Decides.{nat_tests}
use Rattle.sblock.specs.Area.{area_of}
use Rattle.sblock.specs.Blocks.{numrecs, block_fault, block_tests, records_of, IsRising}
use Rattle.sblock.specs.Form.{Form}
use Rattle.sblock.specs.Lists.{items_from}
use Rattle.sblock.specs.declared.block.BlockFault.{BlockFault}
use Rattle.sblock.specs.declared.block.BlockFault.TheVariants.{Sibling, Order}
use Rattle.byte_fields.proofs.TestLemmas.{all_pass, none_fails}
use Rattle.sblock.proofs.BlockLemmas.{records_rise}
use Rattle.tree_defs.specs.Levels.{RisesAfter, IsRight}
use Rattle.sblock.specs.Headers.{no_block, left_of}
use Rattle.tree_defs.specs.Tree.{Trail, want_of, sibling_fault, order_fault, fault_here, comes_after}
use Rattle.tree_defs.specs.declared.site.Site.{Site}
use Rattle.tree_defs.proofs.Moves.{FollowsOn}
use Rattle.tree_defs.proofs.Parts.{last_rec, last_is, sooner_none, rises_behind}

-- the block passes: by itself, beside its siblings, and behind the last record
pub record Stands {R K : Type 0} (form : Form R K) (m : ℕ → List ℕ) (site : Site) (t : Trail R) (level : ℕ) (root : Bool) (p : ℕ) : Type 0 where
  pub right : IsRight form m site level root p
  pub sibling : FollowsOn m t level p
  pub after : level ≡ 0 → 1 ≤ numrecs (m p) → comes_after form (last_rec None t.recs) (form.record_at (area_of (m p)) 0) ≡ true

pub same_number : (a : ℕ) → (a == a) ≡ true
same_number a = grind (arith, nat_tests)

equal_are : (a b : ℕ) → a ≡ b → (a == b) ≡ true
equal_are a b h = grind (arith, nat_tests)

some_are : (a : ℕ) → 1 ≤ a → nat_le 1 a ≡ true
some_are a h = grind (arith, nat_tests)

are_some : (a : ℕ) → nat_le 1 a ≡ true → 1 ≤ a
are_some a h = grind (arith, nat_tests)

-- what the two tests of the walk say
by_tests : (a b : Bool) → ◌≡◌ {A = Option BlockFault} (if a || b then None else Some Sibling) None → (a ≡ true) ⊎ (b ≡ true)
by_tests true b h = inl refl
by_tests false true h = inr refl
by_tests false false h = cc

sibling_right : (before next p : ℕ) → ◌≡◌ {A = Option BlockFault} (if (before == no_block) || (next == p) then None else Some Sibling) None → (before ≡ no_block) ⊎ (next ≡ p)
sibling_right before next p h = elim (by_tests (before == no_block) (next == p) h) [ inl e ↦ inl (eqb-true before no_block e) | inr e ↦ inr (eqb-true next p e) ]

sibling_none : (a b : Bool) → (a ≡ true) ⊎ (b ≡ true) → ◌≡◌ {A = Option BlockFault} (if a || b then None else Some Sibling) None
sibling_none true b h = refl
sibling_none false true h = refl
sibling_none false false h = elim h [ inl e ↦ cc | inr e ↦ cc ]

and_right : (a b c : Bool) → ◌≡◌ {A = Option BlockFault} (if a && b && not c then Some Order else None) None → a ≡ true → b ≡ true → c ≡ true
and_right true true true h e f = refl
and_right true true false h e f = cc
and_right true false c h e f = cc
and_right false b c h e f = cc

order_none : (a b c : Bool) → (a ≡ true → b ≡ true → c ≡ true) → ◌≡◌ {A = Option BlockFault} (if a && b && not c then Some Order else None) None
order_none true true c h = rw (h refl refl) refl
order_none true false c h = refl
order_none false b c h = refl

module _ {R K : Type 0} (form : Form R K) (m : ℕ → List ℕ) (site : Site) where
  -- the tests of a block by itself, with this left sibling wanted or that
  own_left : (level : ℕ) (root : Bool) (p left : ℕ) → block_fault form (m p) (want_of form.kind site level root left p) ≡ None → IsRight form m site level root p × (left_of (m p) ≡ left)
  unfolding block_fault
  own_left level root p left h =
      let all = all_pass (block_tests form (m p) (want_of form.kind site level root left p)) h in
      let own = none_fails (block_tests form (m p) (want_of form.kind site level root (left_of (m p)) p)) (all.0, (all.1.0, (all.1.1.0, (same_number (left_of (m p)), all.1.1.1.1)))) in
      (own, eqb-true (left_of (m p)) left all.1.1.1.0)

  with_left : (level : ℕ) (root : Bool) (p left : ℕ) → IsRight form m site level root p → left_of (m p) ≡ left → block_fault form (m p) (want_of form.kind site level root left p) ≡ None
  unfolding block_fault
  with_left level root p left h e =
      let all = all_pass (block_tests form (m p) (want_of form.kind site level root (left_of (m p)) p)) h in
      none_fails (block_tests form (m p) (want_of form.kind site level root left p)) (all.0, (all.1.0, (all.1.1.0, (equal_are (left_of (m p)) left e, all.1.1.1.1))))

  pub stands : (t : Trail R) (level : ℕ) (root : Bool) (p : ℕ) → fault_here form site t level root p (m p) ≡ None → Stands form m site t level root p
  unfolding fault_here sibling_fault order_fault
  stands t level root p h =
      let a = sooner_none _ _ h in
      let b = sooner_none _ _ a.1 in
      let own = own_left level root p (slice_index t.before level) a.0 in
      record {
        right = own.0;
        sibling = (own.1, sibling_right (slice_index t.before level) (slice_index t.next level) p b.0);
        after = λ z n. rw (← (last_is t.recs)) (and_right (level == 0) (nat_le 1 (numrecs (m p))) (comes_after form (slice_get t.recs (length t.recs - 1)) (form.record_at (area_of (m p)) 0)) b.1 (equal_are level 0 z) (some_are (numrecs (m p)) n));
      }

  pub stood : (t : Trail R) (level : ℕ) (root : Bool) (p : ℕ) → Stands form m site t level root p → fault_here form site t level root p (m p) ≡ None
  unfolding fault_here sibling_fault order_fault
  stood t level root p h =
      let a = with_left level root p (slice_index t.before level) h.right h.sibling.0 in
      let b = sibling_none (slice_index t.before level == no_block) (slice_index t.next level == p) (elim h.sibling.1 [ inl e ↦ inl (equal_are (slice_index t.before level) no_block e) | inr e ↦ inr (equal_are (slice_index t.next level) p e) ]) in
      let c = order_none (level == 0) (nat_le 1 (numrecs (m p))) (comes_after form (slice_get t.recs (length t.recs - 1)) (form.record_at (area_of (m p)) 0)) (λ z n. rw (last_is t.recs) (h.after (eqb-true level 0 z) (are_some (numrecs (m p)) n))) in
      rw (a, b) c

  -- a leaf's records rise, also behind the last one
  behind : (q : Option R) (area : List ℕ) (n : ℕ) → IsRising form (items_from (form.record_at area) n 0) → (1 ≤ n → comes_after form q (form.record_at area 0) ≡ true) → RisesAfter form q (items_from (form.record_at area) n 0)
  behind q area zero rising h = tt
  behind q area (suc n) rising h = (h (omega arith), rises_behind form (form.record_at area 0) (items_from (form.record_at area) n 1) rising)

  pub leaf_rises : (q : Option R) (root : Bool) (p : ℕ) → IsRight form m site 0 root p → (1 ≤ numrecs (m p) → comes_after form q (form.record_at (area_of (m p)) 0) ≡ true) → RisesAfter form q (records_of form (m p))
  unfolding records_of
  leaf_rises q root p right h =
      behind q (area_of (m p)) (numrecs (m p)) (records_rise form (m p) (want_of form.kind site 0 root (left_of (m p)) p) right refl) h

  first_of : (q : Option R) (area : List ℕ) (n : ℕ) → 1 ≤ n → RisesAfter form q (items_from (form.record_at area) n 0) → comes_after form q (form.record_at area 0) ≡ true
  first_of q area zero lt h = absurd (omega arith)
  first_of q area (suc n) lt h = h.0

  pub first_after : (q : Option R) (p : ℕ) → 1 ≤ numrecs (m p) → RisesAfter form q (records_of form (m p)) → comes_after form q (form.record_at (area_of (m p)) 0) ≡ true
  unfolding records_of
  first_after q p lt h = first_of q (area_of (m p)) (numrecs (m p)) lt h
