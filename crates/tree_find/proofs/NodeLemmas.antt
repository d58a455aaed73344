-- The records below a node that is sound, in three parts: in front of an entry, below it, and behind it.
use Rattle.std.proofs.Common.{◌≡◌, ℕ, zero, suc, ◌+◌, ◌-◌, ◌<◌, ◌≤◌, true, false, List, ◌∷◌, ◌++◌, subst, ◌∙◌, ap, arith}
use Rattle.sblock.specs.Area.{area_of}
use Rattle.sblock.specs.Blocks.{numrecs, key_in}
use Rattle.sblock.specs.Form.{Form, IsLawful}
use Rattle.sblock.specs.Lists.{items_from}
use Rattle.tree_defs.specs.Levels.{over, AllEntries, recs_of, IsSound}
use Rattle.sblock.specs.Spans.{span_of}
use Rattle.tree_defs.specs.Tree.{Entry, entry_at, agrees}
use Rattle.tree_defs.specs.declared.site.Site.{Site}
use Rattle.tree_find.specs.Places.{is_reached, place_behind}
use Rattle.tree_find.proofs.Facts.{passes, fails}
use Rattle.tree_find.proofs.EntryLemmas.{items_split, over_append, all_rest, unreached_lies}
use Rattle.tree_find.proofs.Parting.{LiesAbove}
use Rattle.tree_find.proofs.PlaceLemmas.{placed_above, placed_at}

module _ {R K : Type 0} (form : Form R K) (law : IsLawful form) (site : Site) (m : ℕ → List ℕ) where
  abbrev pub Fits : ℕ → Entry K → Type 0
  Fits level e = IsSound form m site level false e.child × (agrees form e (span_of form (recs_of form m level e.child)) ≡ true)

  module _ (bytes : List ℕ) where
    abbrev pub entry : ℕ → Entry K
    entry i = entry_at form (area_of bytes) i

    abbrev pub in_front : ℕ → List (Entry K)
    in_front i = items_from entry i 0

    abbrev pub behind : ℕ → List (Entry K)
    behind i = items_from entry (numrecs bytes - i - 1) (i + 1)

    pub split_at : (i : ℕ) → i < numrecs bytes → items_from entry (numrecs bytes) 0 ≡ in_front i ++ entry i ∷ behind i
    split_at i lt =
        let e : 0 + i ≡ i = omega arith in
        rw e at (items_split entry (numrecs bytes) 0 i lt)

    pub low_reached : (key : K) (i : ℕ) → place_behind form key false (area_of bytes) (numrecs bytes) ≡ suc i → (form.is_before key (entry i).low ≡ false) × (i < numrecs bytes)
    unfolding place_behind is_reached key_in
    low_reached key i e =
        let a = placed_at (is_reached form key false (area_of bytes)) (numrecs bytes) i e in
        (fails (form.is_before key (form.key_at (area_of bytes) i)) a.0, a.1)

    pub low_unreached : (key : K) (k : ℕ) → place_behind form key false (area_of bytes) (numrecs bytes) ≤ k → k < numrecs bytes → form.is_before key (entry k).low ≡ true
    unfolding place_behind is_reached key_in
    low_unreached key k le lt = passes (form.is_before key (form.key_at (area_of bytes) k)) (placed_above (is_reached form key false (area_of bytes)) (numrecs bytes) k le lt)

    -- below entries from one on that the key doesn't reach lies nothing that it reaches
    pub lies_from : (level : ℕ) (key : K) (count from : ℕ) → AllEntries (Fits level) (items_from entry count from) → (0 < count → form.is_before key (entry from).low ≡ true) → LiesAbove form law key (over (recs_of form m level) (items_from entry count from))
    lies_from level key zero from fits h = tt
    lies_from level key (suc count) from fits h =
        unreached_lies form law key (entry from) (recs_of form m level (entry from).child) (over (recs_of form m level) (items_from entry count (from + 1))) fits.0.1 (h (omega arith))

    pub fit_behind : (level i : ℕ) → i < numrecs bytes → AllEntries (Fits level) (items_from entry (numrecs bytes) 0) → Fits level (entry i) × AllEntries (Fits level) (behind i)
    fit_behind level i lt fits =
        let all : AllEntries (Fits level) (in_front i ++ entry i ∷ behind i) = let P : List (Entry K) → Type 0 = λ v. AllEntries (Fits level) v in subst P (split_at i lt) fits in
        all_rest (Fits level) (in_front i) (entry i ∷ behind i) all

    pub recs_parts : (level i : ℕ) → i < numrecs bytes → over (recs_of form m level) (items_from entry (numrecs bytes) 0) ≡ over (recs_of form m level) (in_front i) ++ (recs_of form m level (entry i).child ++ over (recs_of form m level) (behind i))
    recs_parts level i lt = ap (over (recs_of form m level)) (split_at i lt) ∙ over_append (recs_of form m level) (in_front i) (entry i ∷ behind i)
