-- A row of nodes over a forest.
use Rattle.std.proofs.Common.{◌≡◌, ℕ, zero, suc, Bool, true, List, [], ◌∷◌, ◌++◌, refl, sym, ap, subst, ◌∙◌}
use Rattle.sblock.specs.Form.{Form}
use Rattle.tree_defs.specs.Levels.{over, AllEntries, IsRight, entries, recs_of}
use Rattle.tree_defs.specs.Tree.{Entry}
use Rattle.tree_defs.specs.declared.site.Site.{Site}
use Rattle.place_laws.specs.Forest.{AllBlocks, children, SameOn, IsLinked, entries_over, below, recs_over, blocks_over, IsKeyed, IsForest, Stays, IsRowOver, RowsStand}
use Rattle.place_laws.proofs.ForestLemmas.{stays}

module _ {R K : Type 0} (form : Form R K) where
  module _ (m : ℕ → List ℕ) where
    pub over_children : (level : ℕ) (es : List (Entry K)) → over (recs_of form m level) es ≡ recs_over form m level (children es)
    over_children level [] = refl
    over_children level (e ∷ es) = ap (λ (rs : List R). recs_of form m level e.child ++ rs) (over_children level es)

    append_twice : {A : Type 0} (xs ys zs : List A) → (xs ++ ys) ++ zs ≡ xs ++ (ys ++ zs)
    append_twice [] ys zs = refl
    append_twice (x ∷ xs) ys zs = ap (λ (t : List _). x ∷ t) (append_twice xs ys zs)

    pub recs_join : (level : ℕ) (xs ys : List ℕ) → recs_over form m level (xs ++ ys) ≡ recs_over form m level xs ++ recs_over form m level ys
    recs_join level [] ys = refl
    recs_join level (x ∷ xs) ys = ap (λ (rs : List R). recs_of form m level x ++ rs) (recs_join level xs ys) ∙ sym (append_twice (recs_of form m level x) (recs_over form m level xs) (recs_over form m level ys))

    pub children_of_both : (xs ys : List (Entry K)) → children (xs ++ ys) ≡ children xs ++ children ys
    children_of_both [] ys = refl
    children_of_both (x ∷ xs) ys = ap (λ (cs : List ℕ). x.child ∷ cs) (children_of_both xs ys)

    pub below_first : (p : ℕ) (ps : List ℕ) → below form m (p ∷ ps) ≡ children (entries form m p) ++ below form m ps
    below_first p ps = children_of_both (entries form m p) (entries_over form m ps)

    -- the records below a row are those below the next one
    pub recs_lower : (level : ℕ) (ps : List ℕ) → recs_over form m (suc level) ps ≡ recs_over form m level (below form m ps)
    unfolding recs_of
    recs_lower level [] = refl
    recs_lower level (p ∷ ps) =
        ap (λ (rs : List R). rs ++ recs_over form m (suc level) ps) (over_children level (entries form m p))
        ∙ (ap (λ (rs : List R). recs_over form m level (children (entries form m p)) ++ rs) (recs_lower level ps)
        ∙ (sym (recs_join level (children (entries form m p)) (below form m ps)) ∙ ap (recs_over form m level) (sym (below_first p ps))))

  module _ (m n : ℕ → List ℕ) where
    abbrev SameRecs : ℕ → List ℕ → Type 0
    SameRecs level ps = AllBlocks (λ p. recs_of form n level p ≡ recs_of form m level p) ps

    pub recs_over_same : (level : ℕ) (ps : List ℕ) → SameRecs level ps → recs_over form n level ps ≡ recs_over form m level ps
    recs_over_same level [] h = refl
    recs_over_same level (p ∷ ps) h = rw (h.0, recs_over_same level ps h.1) refl

    keyed_above : (level : ℕ) (es : List (Entry K)) → SameRecs level (children es) → AllEntries (IsKeyed form m level) es → AllEntries (IsKeyed form n level) es
    keyed_above level [] same h = tt
    keyed_above level (e ∷ es) same h = (rw same.0 h.0, keyed_above level es same.1 h.1)

  pub rows_stand_lem : RowsStand form
  unfolding IsForest blocks_over
  rows_stand_lem site low m level cs ps row =
      let lower = stays low m form site level cs row.same in
      let each : SameRecs low m level (below form m ps) = subst (SameRecs low m level) (sym row.leads) lower.each in (
        (row.right, row.linked, keyed_above low m level (entries_over form m ps) each row.keyed, subst (IsForest form m site level) (sym row.leads) (lower.forest row.lower)),
        recs_lower m level ps ∙ (ap (recs_over form m level) row.leads ∙ recs_over_same low m level cs lower.each),
        ap (λ (qs : List ℕ). ps ++ qs) (ap (blocks_over form m level) row.leads ∙ lower.blocks),
      )
