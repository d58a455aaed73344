-- Changes of a row one after another, and with some blocks beside them.
use Rattle.std.proofs.Common.{◌≡◌, ℕ, zero, suc, ◌+◌, ◌<◌, ◌≤◌, Bool, true, false, List, [], ◌∷◌, ◌++◌, refl, sym, ap, subst, ◌∙◌, arith}
use Rattle.std.specs.Prelude.{◌==◌, if◌then◌else◌}
use Rattle.std.proofs.lemmas.Bool.{eqb-true}
use Rattle.sblock.specs.Form.{Form}
use Rattle.sblock.specs.Headers.{no_block}
use Rattle.tree_defs.specs.Levels.{IsRight, recs_of}
use Rattle.tree_defs.specs.Lists.{times, AllDiffer}
use Rattle.tree_defs.specs.declared.site.Site.{Site}
use Rattle.tree_defs.proofs.Counts.{times_append}
use Rattle.place_laws.specs.Forest.{AllBlocks, recs_over, blocks_over, IsForest, AreFullBelow, AreFullDeep}
use Rattle.place_laws.specs.Turns.{Fits, IsTurned, Turns, TurnsJoin, TurnsWiden}
use Rattle.place_laws.proofs.ForestLemmas.{all_left, all_right, all_join}
use Rattle.place_laws.proofs.RowLemmas.{recs_join, recs_over_same}
use Rattle.place_laws.proofs.TurnLemmas.{all_members, all_both}

append_twice : {A : Type 0} (xs ys zs : List A) → (xs ++ ys) ++ zs ≡ xs ++ (ys ++ zs)
append_twice [] ys zs = refl
append_twice (x ∷ xs) ys zs = ap (λ (t : List _). x ∷ t) (append_twice xs ys zs)

-- what holds of all of a list holds of each that stands there
by_first : (c : Bool) (P : ℕ → Type 0) (p rest b : ℕ) → (p == b) ≡ c → P p → (1 ≤ rest → P b) → 1 ≤ (if c then 1 else 0) + rest → P b
by_first true P p rest b e h more some = subst P (eqb-true p b e) h
by_first false P p rest b e h more some = more (omega (arith, some))

pub member : (P : ℕ → Type 0) (ps : List ℕ) → AllBlocks P ps → (b : ℕ) → 1 ≤ times b ps → P b
member P [] h b some = absurd (omega (arith, some))
member P (p ∷ ps) h b some = by_first (p == b) P p (times b ps) b refl h.0 (λ more. member P ps h.1 b more) some

module _ {R K : Type 0} (form : Form R K) (site : Site) where
  pub turns_join_lem : TurnsJoin form site
  turns_join_lem m low n level old mid parts fresh fresh' freed freed' recs recs' first second xs ys fits =
      let both : (b : ℕ) → times b (blocks_over form m level (xs ++ (old ++ ys))) + (times b fresh + times b fresh') ≤ 1 =
      λ b. omega (arith, fits.differ b, times_append b (blocks_over form m level (xs ++ (old ++ ys))) (fresh ++ fresh'), times_append b fresh fresh') in
      let old_some : AllBlocks (λ b. b < no_block) (blocks_over form m level (xs ++ (old ++ ys))) = all_left (λ b. b < no_block) (blocks_over form m level (xs ++ (old ++ ys))) (fresh ++ fresh') fits.some in
      let all_fresh : AllBlocks (λ b. b < no_block) (fresh ++ fresh') = all_right (λ b. b < no_block) (blocks_over form m level (xs ++ (old ++ ys))) (fresh ++ fresh') fits.some in
      let here : AllBlocks (λ b. b < no_block) (blocks_over form m level (xs ++ (old ++ ys)) ++ fresh) = all_join (λ b. b < no_block) (blocks_over form m level (xs ++ (old ++ ys))) fresh old_some (all_left (λ b. b < no_block) fresh fresh' all_fresh) in
      let t = first xs ys (record {
        forest = fits.forest;
        differ = λ b. omega (arith, both b, times_append b (blocks_over form m level (xs ++ (old ++ ys))) fresh);
        some = here;
      }) in
      let u = second xs ys (record {
        forest = t.forest;
        differ = λ b. omega (arith, both b, t.blocks b, times_append b (blocks_over form low level (xs ++ (mid ++ ys))) fresh');
        some = all_join (λ b. b < no_block) (blocks_over form low level (xs ++ (mid ++ ys))) fresh'
            (all_members (λ b. b < no_block) (blocks_over form low level (xs ++ (mid ++ ys))) (λ b some. member (λ b. b < no_block) (blocks_over form m level (xs ++ (old ++ ys)) ++ fresh) here b (omega (arith, some, t.blocks b, times_append b (blocks_over form m level (xs ++ (old ++ ys))) fresh))))
            (all_right (λ b. b < no_block) fresh fresh' all_fresh);
      }) in
      record {
        recs_are = u.recs_are;
        forest = u.forest;
        front = all_both _ _ _ xs (λ b x y. x ∙ y) u.front t.front;
        back = all_both _ _ _ ys (λ b x y. x ∙ y) u.back t.back;
        front_full = all_both _ _ _ xs (λ b f g h. f (g h)) u.front_full t.front_full;
        back_full = all_both _ _ _ ys (λ b f g h. f (g h)) u.back_full t.back_full;
        full = λ s h. u.full s (t.full s h);
        deep = λ h. u.deep (t.full refl h);
        blocks = λ b. omega (arith, t.blocks b, u.blocks b, times_append b fresh fresh', times_append b freed freed');
        others = λ b none fresh_none.
            let f : times b fresh + times b fresh' ≡ 0 = omega (arith, fresh_none, times_append b fresh fresh') in
            u.others b (omega (arith, none, f, t.blocks b)) (omega (arith, f)) ∙ t.others b none (omega (arith, f));
      }

  -- a list in the middle, seen from beside it
  regroup : (xs before mid after ys : List ℕ) → xs ++ ((before ++ (mid ++ after)) ++ ys) ≡ (xs ++ before) ++ (mid ++ (after ++ ys))
  regroup xs before mid after ys =
      ap (λ (t : List ℕ). xs ++ t) (append_twice before (mid ++ after) ys ∙ ap (λ (t : List ℕ). before ++ t) (append_twice mid after ys))
      ∙ sym (append_twice xs before (mid ++ (after ++ ys)))

  pub turns_widen_lem : TurnsWiden form site
  turns_widen_lem sure m n level before after old parts fresh freed recs turns xs ys fits =
      let e : xs ++ ((before ++ (old ++ after)) ++ ys) ≡ (xs ++ before) ++ (old ++ (after ++ ys)) = regroup xs before old after ys in
      let f : (xs ++ before) ++ (parts ++ (after ++ ys)) ≡ xs ++ ((before ++ (parts ++ after)) ++ ys) = sym (regroup xs before parts after ys) in
      let t = turns (xs ++ before) (after ++ ys) (record {
        forest = subst (IsForest form m site level) e fits.forest;
        differ = subst (λ (r : List ℕ). AllDiffer (blocks_over form m level r ++ fresh)) e fits.differ;
        some = subst (λ (r : List ℕ). AllBlocks (λ b. b < no_block) (blocks_over form m level r ++ fresh)) e fits.some;
      }) in
      record {
        recs_are =
            recs_join form n level before (parts ++ after)
            ∙ (ap (λ (rs : List R). rs ++ recs_over form n level (parts ++ after)) (recs_over_same form m n level before (all_right _ xs before t.front))
            ∙ ap (λ (rs : List R). recs_over form m level before ++ rs)
            (recs_join form n level parts after
            ∙ (ap (λ (rs : List R). rs ++ recs_over form n level after) t.recs_are ∙ ap (λ (rs : List R). recs ++ rs) (recs_over_same form m n level after (all_left _ after ys t.back)))));
        forest = subst (IsForest form n site level) f t.forest;
        front = all_left _ xs before t.front;
        back = all_right _ after ys t.back;
        front_full = all_left _ xs before t.front_full;
        back_full = all_right _ after ys t.back_full;
        full = λ s h. subst (AreFullBelow form n site level) f (t.full s (subst (AreFullBelow form m site level) e h));
        deep = λ h. subst (AreFullDeep form n site level) f (t.deep (subst (AreFullBelow form m site level) e h));
        blocks = λ b. omega (arith, t.blocks b, ap (λ (r : List ℕ). times b (blocks_over form m level r)) e, ap (λ (r : List ℕ). times b (blocks_over form n level r)) f);
        others = λ b none fresh_none. t.others b (omega (arith, none, ap (λ (r : List ℕ). times b (blocks_over form m level r)) e)) fresh_none;
      }
