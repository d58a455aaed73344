-- What an edit makes of a whole tree.
use Rattle.std.proofs.Common.{◌≡◌, ℕ, zero, suc, ◌+◌, ◌<◌, ◌≤◌, Bool, true, false, List, [], ◌∷◌, ◌++◌, refl, sym, ap, subst, ◌∙◌, arith, inl}
use Rattle.std.specs.Prelude.{◌≢◌}
use Rattle.sblock.specs.Blocks.{IsRising}
use Rattle.sblock.specs.Form.{Form}
use Rattle.sblock.specs.Headers.{no_block, left_of, right_of}
use Rattle.tree_defs.specs.Levels.{AllEntries, IsRight, entries, recs_of}
use Rattle.tree_defs.specs.Lists.{times, AllDiffer}
use Rattle.tree_defs.specs.declared.site.Site.{Site}
use Rattle.tree_defs.proofs.Counts.{times_append}
use Rattle.place_laws.specs.Forest.{AllBlocks, SameOn, IsLinked, entries_over, below, recs_over, blocks_over, IsKeyed, IsForest, AreFull, AreFullBelow, AreFullDeep, IsRowOver, Stands}
use Rattle.place_laws.specs.Turns.{Fits, IsTurned, Turns}
use Rattle.place_laws.specs.Tops.{Balances, AreFresh, RootStays, IsGrown, RootGrows, RootShrinks}
use Rattle.place_laws.proofs.ForestLemmas.{all_left, all_right, all_join, stays}
use Rattle.place_laws.proofs.RowLemmas.{rows_stand_lem, recs_lower}
use Rattle.place_laws.proofs.TurnLemmas.{all_members, is_other}

append_none : {A : Type 0} (xs : List A) → xs ++ [] ≡ xs
append_none [] = refl
append_none (x ∷ xs) = ap (λ (t : List _). x ∷ t) (append_none xs)

module _ {R K : Type 0} (form : Form R K) (site : Site) where
  one_recs : (n : ℕ → List ℕ) (level root : ℕ) (recs : List R) → recs_over form n level (root ∷ []) ≡ recs → recs_of form n level root ≡ recs
  one_recs n level root recs e = sym (append_none (recs_of form n level root)) ∙ e

  fits_alone : (m : ℕ → List ℕ) (level root : ℕ) (fresh : List ℕ) → Stands form m site level root → AreFresh form site m level root fresh → Fits form site m level [] (root ∷ []) [] fresh
  fits_alone m level root fresh stands free = record { forest = stands.forest; differ = free.differ; some = free.some }

  pub root_stays_lem : RootStays form site
  root_stays_lem m n level root fresh freed recs stands free turns rising =
      let t = turns [] [] (fits_alone m level root fresh stands free) in
      let e = one_recs n level root recs t.recs_are in (
        record { lies = stands.lies; few = stands.few; forest = t.forest; full = t.full refl stands.full; rises = subst (IsRising form) (sym e) rising },
        e,
        t.blocks,
      )

  full_both : (m : ℕ → List ℕ) (level : ℕ) (ps : List ℕ) → AllBlocks (IsRight form m site level false) ps → AreFullBelow form m site level ps → AreFull form m site level ps
  unfolding AreFull
  full_both m zero ps h k = h
  full_both m (suc level) ps h k = (h, k)

  pub root_grows_lem : RootGrows form site
  root_grows_lem m low n level root new parts fresh freed recs stands free turns grown rising =
      let here : AreFresh form site m level root fresh = record {
        differ = λ b. omega (arith, free.differ b, times_append b (blocks_over form m level (root ∷ [])) (fresh ++ new ∷ []), times_append b fresh (new ∷ []), times_append b (blocks_over form m level (root ∷ [])) fresh);
        some = all_join (λ b. b < no_block) (blocks_over form m level (root ∷ [])) fresh (all_left (λ b. b < no_block) (blocks_over form m level (root ∷ [])) (fresh ++ new ∷ []) free.some)
            (all_left (λ b. b < no_block) fresh (new ∷ []) (all_right (λ b. b < no_block) (blocks_over form m level (root ∷ [])) (fresh ++ new ∷ []) free.some));
      } in
      let t = turns [] [] (fits_alone m level root fresh stands here) in
      let e : parts ++ [] ≡ parts = append_none parts in
      let forest : IsForest form low site level parts = subst (IsForest form low site level) e t.forest in
      let full : AreFullBelow form low site level parts = subst (AreFullBelow form low site level) e (t.full refl stands.full) in
      let blocks : (b : ℕ) → times b (blocks_over form low level parts) + times b freed ≡ times b (blocks_over form m level (root ∷ [])) + times b fresh =
      λ b. subst (λ (ps : List ℕ). times b (blocks_over form low level ps) + times b freed ≡ times b (blocks_over form m level (root ∷ [])) + times b fresh) e (t.blocks b) in
      let same : SameOn low n (blocks_over form low level parts) = all_members (λ b. n b ≡ low b) (blocks_over form low level parts)
      (λ b some. grown.others b (is_other b new [] (omega (arith, some, blocks b, free.differ b, times_append b (blocks_over form m level (root ∷ [])) (fresh ++ new ∷ []), times_append b fresh (new ∷ []))))) in
      let own : entries_over form n (new ∷ []) ≡ entries form n new = append_none (entries form n new) in
      let row : IsRowOver form site low n level parts (new ∷ []) = record {
        lower = forest;
        same = same;
        leads = grown.leads;
        right = (grown.passes, tt);
        linked = record { chain = (grown.left, inl refl, tt); end = grown.right };
        keyed = subst (AllEntries (IsKeyed form low level)) (sym own) grown.keyed;
      } in
      let s = rows_stand_lem form site low n level parts (new ∷ []) row in
      let recs_are : recs_of form n (suc level) new ≡ recs = one_recs n (suc level) new recs (s.1 ∙ (ap (recs_over form low level) (sym e) ∙ (ap (recs_over form low level) e ∙ t.recs_are))) in (
        record {
          lies = grown.lies;
          few = omega (arith, grown.few);
          forest = s.0;
          full = subst (AreFull form n site level) (sym grown.leads) ((stays low n form site level parts same).full (full_both low level parts grown.full full));
          rises = subst (IsRising form) (sym recs_are) rising;
        },
        recs_are,
        λ b. omega (arith, ap (times b) s.2, blocks b, times_append b (new ∷ []) (blocks_over form low level parts), times_append b fresh (new ∷ [])),
      )

  pub root_shrinks_lem : RootShrinks form site
  unfolding IsForest blocks_over
  root_shrinks_lem m n level root child fresh freed recs stands free lies sure turns lone rising =
      let t = turns [] [] (fits_alone m (suc level) root fresh stands free) in
      let e : recs_of form n level child ≡ recs = one_recs n level child recs (ap (recs_over form n level) (sym lone) ∙ (sym (recs_lower form n level (root ∷ [])) ∙ t.recs_are)) in (
        record {
          lies = lies;
          few = omega (arith, stands.few);
          forest = subst (IsForest form n site level) lone t.forest.3;
          full = subst (AreFullBelow form n site level) lone (t.deep stands.full);
          rises = subst (IsRising form) (sym e) rising;
        },
        e,
        λ b. omega (
          arith,
          t.blocks b,
          ap (λ (ps : List ℕ). times b (blocks_over form n level ps)) lone,
          times_append b (root ∷ []) (blocks_over form n level (below form n (root ∷ []))),
          times_append b (root ∷ []) freed,
        ),
      )
