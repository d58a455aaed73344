-- A walk answers records and blocks exactly where there is a tree of these.
use Rattle.std.proofs.Common.{◌≡◌, ℕ, zero, suc, ◌+◌, ◌-◌, ◌<◌, ◌≤◌, Bool, true, false, cond, List, Option, Some, None, Result, Ok, Err, refl, ap, sym, subst, ◌∙◌, inl, inr, arith}
use Rattle.std.specs.Prelude.{slice_index, ◌==◌, ◌&&◌, nat_le, nat_lt, replicate}
use Rattle.std.proofs.lemmas.Bool.{cases_lt, and_parts, eqb-true, leb-true, ltb-true}
use Rattle.std.proofs.lemmas.Bool.Decides.{nat_tests}
use Rattle.std.proofs.lemmas.List.{get_or-replicate, length-replicate}
use Rattle.sblock.specs.Form.{Form, IsLawful}
use Rattle.sblock.specs.declared.block.BlockFault.{BlockFault}
use Rattle.sblock.specs.declared.block.BlockFault.TheVariants.{Sibling}
use Rattle.sblock.proofs.BlockLemmas.{has_level}
use Rattle.tree_defs.specs.Levels.{IsChain, RisesAfter, IsTree, ReadsTrees, recs_of, row}
use Rattle.sblock.specs.Headers.{no_block, left_of}
use Rattle.tree_defs.specs.Tree.{Trail, Read, want_of, open_end, fresh, top_of, closed, read_tree, read_node}
use Rattle.sblock.specs.declared.spans.Span.{Span}
use Rattle.tree_defs.specs.declared.site.Site.{Site}
use Rattle.tree_defs.proofs.Blocks.{stands}
use Rattle.tree_defs.proofs.Moves.{Sized}
use Rattle.tree_defs.proofs.Parts.{bool_ok, tested_ok, to_rising, from_rising}
use Rattle.tree_defs.proofs.Walks.{reads, can_read}

none_of : (b : Bool) (x : Option ℕ) (y : ℕ) → cond b x (Some y) ≡ None → (b ≡ true) × (x ≡ None)
none_of true x y h = (refl, h)
none_of false x y h = cc

ended : {R : Type 0} (t : Trail R) (n level : ℕ) → open_end t level n ≡ None → (j : ℕ) → level ≤ j → j < level + n → slice_index t.next j ≡ no_block
unfolding open_end
ended t zero level h j lo hi = absurd (omega arith)
ended t (suc n) level h j lo hi =
    let a = none_of (slice_index t.next level == no_block) (open_end t (level + 1) n) (slice_index t.before level) h in
    elim (cases_lt level j) [
      | inl lt ↦ ended t n (level + 1) a.1 j (omega arith) (omega arith)
      | inr le ↦ let e : j ≡ level = omega arith in rw e (eqb-true (slice_index t.next level) no_block a.0)
    ]

equal_are : (a b : ℕ) → a ≡ b → (a == b) ≡ true
equal_are a b h = grind (arith, nat_tests)

all_ended : {R : Type 0} (t : Trail R) (n level : ℕ) → ((j : ℕ) → level ≤ j → j < level + n → slice_index t.next j ≡ no_block) → open_end t level n ≡ None
unfolding open_end
all_ended t zero level h = refl
all_ended t (suc n) level h =
    let a : (slice_index t.next level == no_block) ≡ true = equal_are (slice_index t.next level) no_block (h level (omega arith) (omega arith)) in
    rw a (all_ended t n (level + 1) (λ j lo hi. h j (omega arith) (omega arith)))

end_ok : {A : Type 0} (o : Option ℕ) (v z : A) → ◌≡◌ {A = Result A (ℕ × BlockFault)} (elim o as (λ w. Result A (ℕ × BlockFault)) [ Some p ↦ Err (p, Sibling) | None ↦ Ok v ]) (Ok z) → (o ≡ None) × (v ≡ z)
end_ok None v z h = (refl, cc)
end_ok (Some p) v z h = cc

pub closed_ok : {R K : Type 0} (levels : ℕ) (read : Read R K) (recs : List R) (blocks : List ℕ) → closed levels read ≡ Ok (recs, blocks) → (x : Trail R × Option (Span K)) × (read ≡ Ok x) × (open_end x.0 0 levels ≡ None) × (x.0.recs ≡ recs) × (x.0.blocks ≡ blocks)
closed_ok levels (Err f) recs blocks h = cc
closed_ok {R} levels (Ok x) recs blocks h =
    let a = end_ok (open_end x.0 0 levels) (x.0.recs, x.0.blocks) (recs, blocks) h in
    (x, refl, a.0, ap (λ (y : List R × List ℕ). y.0) a.1, ap (λ (y : List R × List ℕ). y.1) a.1)

ok_closed : {R K : Type 0} (levels : ℕ) (read : Read R K) (u : Trail R) (s : Option (Span K)) → read ≡ Ok (u, s) → open_end u 0 levels ≡ None → closed levels read ≡ Ok (u.recs, u.blocks)
ok_closed levels read u s h e = rw h (rw (e, closed) refl)

fresh_at : (j : ℕ) → j < 9 → slice_index (replicate 9 no_block) j ≡ no_block
fresh_at j lt = get_or-replicate 9 j no_block 0 lt

fresh_sized : {R : Type 0} → Sized (fresh {R = R})
fresh_sized = record { before = length-replicate 9 no_block; next = length-replicate 9 no_block }

lies : (root len : ℕ) → (nat_le 1 root && nat_lt root len) ≡ true → (1 ≤ root) × (root < len)
lies root len h = let parts = and_parts _ _ h in (leb-true 1 root parts.0, ltb-true root len parts.1)

does_lie : (root len : ℕ) → (1 ≤ root) × (root < len) → (nat_le 1 root && nat_lt root len) ≡ true
does_lie root len h = grind (arith, nat_tests)

pub is_level : (levels : ℕ) → (1 ≤ levels) × (levels ≤ 9) → top_of levels ≡ levels - 1
is_level levels h =
    let e : (nat_le 1 levels && nat_le levels 9) ≡ true = grind (arith, nat_tests) in
    rw e refl

-- the level of a root that passes is that of a tree
has_levels : (levels : ℕ) (b : Bool) → b ≡ (nat_le 1 levels && nat_le levels 9) → cond b (levels - 1) 9 ≤ 8 → (1 ≤ levels) × (levels ≤ 9)
has_levels levels true e h = let parts = and_parts _ _ (sym e) in (leb-true 1 levels parts.0, leb-true levels 9 parts.1)
has_levels levels false e h = absurd (omega arith)

module _ {R K : Type 0} (form : Form R K) (site : Site) (m : ℕ → List ℕ) where
  top_fits : (level root : ℕ) (x : Trail R × Option (Span K)) → read_node form site m level true root fresh ≡ Ok x → level ≤ 8
  unfolding read_node
  top_fits zero root x h = omega arith
  top_fits (suc level) root x h =
      let a = tested_ok _ root _ x h in
      let b = stands form m site fresh (suc level) true root a.0 in
      (has_level form (m root) (want_of form.kind site (suc level) true (left_of (m root)) root) b.right).1

module _ {R K : Type 0} (form : Form R K) (law : IsLawful form) (site : Site) (m : ℕ → List ℕ) (root levels : ℕ) (recs : List R) (blocks : List ℕ) where
  there_is : read_tree form site m root levels ≡ Ok (recs, blocks) → IsTree form site m root levels recs blocks
  unfolding read_tree
  there_is h =
      let a = bool_ok (nat_le 1 root && nat_lt root site.bounds.length) _ _ (recs, blocks) h in
      let c = closed_ok levels (read_node form site m (top_of levels) true root fresh) recs blocks a.1 in
      let fits = top_fits form site m (top_of levels) root c.0 c.1 in
      let l = has_levels levels (nat_le 1 levels && nat_le levels 9) refl fits in
      let same = is_level levels l in
      let top : levels - 1 < 9 = omega arith in
      let read = subst (λ (x : ℕ). read_node form site m x true root fresh ≡ Ok c.0) same c.1 in
      let r = reads form law m site (levels - 1) true root fresh c.0.0 c.0.1 top fresh_sized read in
      record {
        root_lies = lies root site.bounds.length a.0;
        has_levels = l;
        sound = r.sound;
        links = λ j lt. let g = r.moved.links j lt in rw (fresh_at j lt) at g;
        ends = λ j lt. let nine : j < 9 = omega arith in let e = r.moved.next j nine in let f : slice_index c.0.0.next j ≡ no_block = ended c.0.0 levels 0 c.2 j (omega arith) (omega arith) in sym (rw (fresh_at j nine) at e) ∙ f;
        rises = to_rising form recs (let Q : List R → Type 0 = λ v. RisesAfter form None v in subst Q (sym (r.moved.recs_are) ∙ c.3) r.moved.rises);
        recs_are = sym c.3 ∙ r.moved.recs_are;
        blocks_are = sym c.4 ∙ r.moved.blocks_are;
      }

  is_read : IsTree form site m root levels recs blocks → read_tree form site m root levels ≡ Ok (recs, blocks)
  unfolding read_tree
  is_read t =
      let top : levels - 1 < 9 = omega (arith, t.has_levels.0, t.has_levels.1) in
      let rising : RisesAfter form None (recs_of form m (levels - 1) root) = let P : List R → Type 0 = λ v. RisesAfter form None v in subst P t.recs_are (from_rising form recs t.rises) in
      let links : (j : ℕ) → j < 9 → IsChain m (slice_index (replicate 9 no_block) j) (slice_index (replicate 9 no_block) j) (row form m (levels - 1) j root) = λ j lt. rw (fresh_at j lt) (t.links j lt) in
      let a = can_read form law m site (levels - 1) true root fresh top fresh_sized t.sound links rising in
      let r = reads form law m site (levels - 1) true root fresh a.0 a.1 top fresh_sized a.2 in
      let o = all_ended a.0 levels 0 (λ j lo hi. let less : j < levels = omega arith in let nine : j < 9 = omega (arith, t.has_levels.1) in let e = r.moved.next j nine in (rw (fresh_at j nine) at e) ∙ t.ends j less) in
      let c = ok_closed levels (read_node form site m (levels - 1) true root fresh) a.0 a.1 a.2 o in
      let first = does_lie root site.bounds.length t.root_lies in
      let second = is_level levels t.has_levels in
      rw (first, second) (c ∙ rw (r.moved.recs_are, r.moved.blocks_are, t.recs_are, t.blocks_are) refl)

pub reads_trees_lem : {R K : Type 0} (form : Form R K) → IsLawful form → ReadsTrees form
reads_trees_lem form law site m root levels recs blocks = (there_is form law site m root levels recs blocks, is_read form law site m root levels recs blocks)
