-- What a search of a readable tree gives.
use Rattle.std.proofs.Common.{◌≡◌, ℕ, zero, suc, ◌-◌, ◌^◌, ◌<◌, Bool, true, false, List, [], ◌∷◌, ◌++◌, Option, Some, None, Ok, refl, sym, ◌∙◌, inl, inr, ap, subst, append_assoc}
use Rattle.std.specs.Prelude.{◌||◌}
use Rattle.run_sets.specs.declared.run.Run.{Run}
use Rattle.sblock.specs.Blocks.{records_of}
use Rattle.sblock.specs.Form.{Form, IsLawful}
use Rattle.sblock.specs.Kinds.{has_high_keys_of}
use Rattle.sblock.proofs.BlockLemmas.{records_lie_inside, records_are_supported}
use Rattle.tree_defs.specs.Claims.{lone_fault}
use Rattle.tree_defs.specs.Levels.{over, AllEntries, entries, recs_of, IsRight, IsSound, IsTree}
use Rattle.sblock.specs.Headers.{left_of}
use Rattle.sblock.specs.Spans.{span_of}
use Rattle.tree_defs.specs.Tree.{Entry, want_of, agrees}
use Rattle.tree_defs.specs.declared.site.Site.{Site}
use Rattle.tree_defs.proofs.Trees.{reads_trees_lem}
use Rattle.tree_cover.specs.Answers.{SearchesTrees}
use Rattle.tree_cover.specs.Covers.{CoversBlocks, begins_behind, is_looked_at, first_met}
use Rattle.tree_cover.specs.Covering.{Search, found_or, search_or, choice_or, spare_of, may_hold, first_in, choice_in, spare_in, resumed, cover_in, covering_in}
use Rattle.tree_cover.specs.declared.search.Spare.{Spare}
use Rattle.tree_cover.proofs.ListFacts.{AllOf, SomeOf, all_map, all_append, all_both, all_each, all_left, all_right, either, Ordered, ordered_left, ordered_right, in_order}
use Rattle.tree_cover.proofs.MeetLemmas.{chosen_true, chosen_false, or_met, met_append, dead, Behind, Reaches, Fit}
use Rattle.tree_cover.proofs.PartLemmas.{Part, Next, begins_more, part_of}
use Rattle.tree_cover.proofs.TopLemmas.{does_lie, is_level}
use Rattle.tree_cover.proofs.PassLemmas.{passed_over, Holds, holds, reaching, seen_behind, behind_rest}

keep_first : {R : Type 0} (a b : Option R) → (a ≡ None → b ≡ None) → or_met a b ≡ a
keep_first None b h = h refl
keep_first (Some a) b h = refl

found_first : {R : Type 0} (other : Search R) (a b : Option R) → other ≡ Ok b → found_or other a ≡ Ok (or_met a b)
found_first other None b h = h
found_first other (Some a) b h = refl

or_true : (b : Bool) → (b || true) ≡ true
or_true true = refl
or_true false = refl

append_none : {A : Type 0} (xs : List A) → xs ++ [] ≡ xs
append_none [] = refl
append_none (x ∷ xs) = ap (λ v. x ∷ v) (append_none xs)

pub next_more : {R K : Type 0} (form : Form R K) (es : List (Entry K)) (ys zs : List R) → Next form es ys → Next form es (ys ++ zs)
next_more form [] ys zs n = tt
next_more form (e ∷ es) ys zs n = begins_more form e ys zs n

module _ {R K : Type 0} (form : Form R K) (law : IsLawful form) (covers : CoversBlocks form) (site : Site) (m : ℕ → List ℕ) (run : Run) (after : Option K) where
  abbrev Fits : ℕ → Entry K → Type 0
  Fits level e = IsSound form m site level false e.child × (agrees form e (span_of form (recs_of form m level e.child)) ≡ true)

  module _ (short : site.bounds.length < 2 ^ 32) where
    fit_one : (r : R) → form.is_in_range site.bounds r ≡ true → form.is_supported r ≡ true → Fit form run after r
    fit_one r inside supported = record {
      some = covers.some site.bounds r inside supported;
      end = λ high. law.ends high r (law.reaches site.bounds r short inside);
    }

    fit_leaf : (root : Bool) (p : ℕ) → IsRight form m site 0 root p → AllOf (Fit form run after) (records_of form (m p))
    fit_leaf root p right =
        let want = want_of form.kind site 0 root (left_of (m p)) p in
        let inside = all_each (form.is_in_range site.bounds) (records_of form (m p)) (records_lie_inside form (m p) want right refl) in
        let supported = all_each form.is_supported (records_of form (m p)) (records_are_supported form (m p) want right refl) in
        all_map (λ r. (form.is_in_range site.bounds r ≡ true) × (form.is_supported r ≡ true)) (Fit form run after) (records_of form (m p)) (λ r k. fit_one r k.0 k.1) (all_both (λ r. form.is_in_range site.bounds r ≡ true) (λ r. form.is_supported r ≡ true) (records_of form (m p)) inside supported)

    fit_over : (level : ℕ) → ((q : ℕ) → IsSound form m site level false q → AllOf (Fit form run after) (recs_of form m level q)) → (es : List (Entry K)) → AllEntries (Fits level) es → AllOf (Fit form run after) (over (recs_of form m level) es)
    fit_over level below [] h = tt
    fit_over level below (e ∷ es) h = all_append (Fit form run after) (recs_of form m level e.child) (over (recs_of form m level) es) (below e.child h.0.0) (fit_over level below es h.1)

    fit_below : (level : ℕ) (root : Bool) (p : ℕ) → IsSound form m site level root p → AllOf (Fit form run after) (recs_of form m level p)
    unfolding IsSound recs_of
    fit_below zero root p h = fit_leaf root p h
    fit_below (suc level) root p h = fit_over level (λ q k. fit_below level false q k) (entries form m p) h.1

    part : (level : ℕ) (e : Entry K) → Fits level e → Part form e (recs_of form m level e.child)
    part level e h = part_of form law covers e (recs_of form m level e.child) h.1

    next_of : (level : ℕ) (es : List (Entry K)) → AllEntries (Fits level) es → Next form es (over (recs_of form m level) es)
    next_of level [] h = tt
    next_of level (e ∷ es) h = begins_more form e (recs_of form m level e.child) (over (recs_of form m level) es) (part level e h.0).begins

    abbrev IsSpareRight : ℕ → Type 0
    IsSpareRight level = (p : ℕ) (more : List R) → IsSound form m site level false p → Ordered form (recs_of form m level p ++ more) → is_looked_at form run more ≡ true → AllOf (Behind form run after) (recs_of form m level p) → SomeOf (Reaches form run after) (recs_of form m level p) → spare_in form site m run after level p ≡ Ok (first_met form run after (recs_of form m level p ++ more))

    first_true : (e : Entry K) (es : List (Entry K)) → may_hold form run after e es ≡ true → first_in form run after (e ∷ es) ≡ Some e.child
    unfolding first_in
    first_true e es h = chosen_true (may_hold form run after e es) (Some e.child) (first_in form run after es) h

    first_false : (e : Entry K) (es : List (Entry K)) → may_hold form run after e es ≡ false → first_in form run after (e ∷ es) ≡ first_in form run after es
    unfolding first_in
    first_false e es h = chosen_false (may_hold form run after e es) (Some e.child) (first_in form run after es) h

    choice_true : (e : Entry K) (es : List (Entry K)) → may_hold form run after e es ≡ true → choice_in form run after (e ∷ es) ≡ Some (record { first = e.child; next = first_in form run after es })
    unfolding choice_in
    choice_true e es h = chosen_true (may_hold form run after e es) (Some (record { first = e.child; next = first_in form run after es })) (choice_in form run after es) h

    choice_false : (e : Entry K) (es : List (Entry K)) → may_hold form run after e es ≡ false → choice_in form run after (e ∷ es) ≡ choice_in form run after es
    unfolding choice_in
    choice_false e es h = chosen_false (may_hold form run after e es) (Some (record { first = e.child; next = first_in form run after es })) (choice_in form run after es) h

    -- the records of one part, and of what follows
    split : (level : ℕ) (e : Entry K) (es : List (Entry K)) (more : List R) → (recs_of form m level e.child ++ over (recs_of form m level) es) ++ more ≡ recs_of form m level e.child ++ (over (recs_of form m level) es ++ more)
    split level e es more = append_assoc (recs_of form m level e.child) (over (recs_of form m level) es) more

    split_order : (level : ℕ) (e : Entry K) (es : List (Entry K)) (more : List R) → Ordered form (over (recs_of form m level) (e ∷ es) ++ more) → Ordered form (recs_of form m level e.child ++ (over (recs_of form m level) es ++ more))
    split_order level e es more o = let P : List R → Type 0 = λ v. Ordered form v in subst P (split level e es more) o

    -- an entry that is passed over
    without : (level : ℕ) (e : Entry K) (es : List (Entry K)) (more : List R) → AllEntries (Fits level) (e ∷ es) → may_hold form run after e es ≡ false → Ordered form (over (recs_of form m level) (e ∷ es) ++ more) → first_met form run after (over (recs_of form m level) (e ∷ es) ++ more) ≡ first_met form run after (over (recs_of form m level) es ++ more)
    without level e es more h cannot o =
        ap (first_met form run after) (split level e es more)
        ∙ passed_over form law covers run after e es (recs_of form m level e.child) (over (recs_of form m level) es ++ more) cannot (part level e h.0) (fit_below level false e.child h.0.0) (next_more form es (over (recs_of form m level) es) more (next_of level es h.1)) (split_order level e es more o)

    without_alone : (level : ℕ) (e : Entry K) (es : List (Entry K)) → AllEntries (Fits level) (e ∷ es) → may_hold form run after e es ≡ false → Ordered form (over (recs_of form m level) (e ∷ es)) → first_met form run after (over (recs_of form m level) (e ∷ es)) ≡ first_met form run after (over (recs_of form m level) es)
    without_alone level e es h cannot o =
        passed_over form law covers run after e es (recs_of form m level e.child) (over (recs_of form m level) es) cannot (part level e h.0) (fit_below level false e.child h.0.0) (next_of level es h.1) o

    -- what is seen behind an entry that may hold the record
    seen : (level : ℕ) (e : Entry K) (es : List (Entry K)) (more : List R) → AllEntries (Fits level) es → Holds form law covers run after e es → is_looked_at form run more ≡ true → is_looked_at form run (over (recs_of form m level) es ++ more) ≡ true
    seen level e es more h hold s =
        seen_behind form law covers run after e es (over (recs_of form m level) es ++ more) hold (next_more form es (over (recs_of form m level) es) more (next_of level es h))
        (λ z. let P : List (Entry K) → Type 0 = λ v. is_looked_at form run (over (recs_of form m level) v ++ more) ≡ true in subst P (sym z) s)

    found_in : (level : ℕ) → IsSpareRight level → (es : List (Entry K)) (more : List R) (other : Search R) → AllEntries (Fits level) es → Ordered form (over (recs_of form m level) es ++ more) → is_looked_at form run more ≡ true → AllOf (Behind form run after) (over (recs_of form m level) es) → (first_met form run after (over (recs_of form m level) es) ≡ None → other ≡ Ok (first_met form run after more)) → search_or other (spare_in form site m run after level) (first_in form run after es) ≡ Ok (first_met form run after (over (recs_of form m level) es ++ more))
    unfolding first_met first_in
    found_in level below [] more other h o s b end = end refl
    found_in level below (e ∷ es) more other h o s b end = elim (either (may_hold form run after e es)) [
      | inl may ↦ (
          let mine = recs_of form m level e.child in
          let hold = holds form law covers run after e es may in
          let behind = all_left (Behind form run after) mine (over (recs_of form m level) es) b in
          let go = below e.child (over (recs_of form m level) es ++ more) h.0.0 (split_order level e es more o) (seen level e es more h.1 hold s) behind (reaching form law covers run after e es mine hold (part level e h.0) (fit_below level false e.child h.0.0) behind) in
          ap (search_or other (spare_in form site m run after level)) (first_true e es may) ∙ go ∙ ap (λ (v : List R). Ok (first_met form run after v)) (sym (split level e es more)))
      | inr cannot ↦ (
          let go = found_in level below es more other h.1 (ordered_right form (recs_of form m level e.child) (over (recs_of form m level) es ++ more) (split_order level e es more o)) s (all_right (Behind form run after) (recs_of form m level e.child) (over (recs_of form m level) es) b) (λ n. end (without_alone level e es h cannot (ordered_left form (over (recs_of form m level) (e ∷ es)) more o) ∙ n)) in
          ap (search_or other (spare_in form site m run after level)) (first_false e es cannot) ∙ go ∙ ap (λ (v : Option R). Ok v) (sym (without level e es more h cannot o)))
    ]

    spare_right : (level : ℕ) → IsSpareRight level
    unfolding spare_in recs_of IsSound lone_fault
    spare_right zero p more h o s b reach =
        rw h (ap (λ (v : Option R). Ok v) (sym (met_append form run after (records_of form (m p)) more s ∙ keep_first (first_met form run after (records_of form (m p))) (first_met form run after more) (dead form law covers run after (records_of form (m p)) more (fit_leaf false p h) b reach o))))
    spare_right (suc level) p more h o s b reach =
        rw (h.0) (found_in level (spare_right level) (entries form m p) more (Ok None) h.1 o s b
        (λ n. ap (λ (v : Option R). Ok v) (sym (dead form law covers run after (over (recs_of form m level) (entries form m p)) more (fit_over level (λ q k. fit_below level false q k) (entries form m p) h.1) b reach o n))))

    abbrev IsCoverRight : ℕ → Type 0
    IsCoverRight level = (root : Bool) (p : ℕ) (more : List R) (spare : Option Spare) → IsSound form m site level root p → Ordered form (recs_of form m level p ++ more) → is_looked_at form run more ≡ true → resumed form site m run after spare ≡ Ok (first_met form run after more) → cover_in form site m run after level root p spare ≡ Ok (first_met form run after (recs_of form m level p ++ more))

    resumed_or : (level : ℕ) (spare : Option Spare) (next : Option ℕ) → resumed form site m run after (spare_of level spare next) ≡ search_or (resumed form site m run after spare) (spare_in form site m run after level) next
    resumed_or level spare None = refl
    resumed_or level spare (Some q) = refl

    chosen_in : (level : ℕ) → IsCoverRight level → (es : List (Entry K)) (more : List R) (spare : Option Spare) → AllEntries (Fits level) es → Ordered form (over (recs_of form m level) es ++ more) → is_looked_at form run more ≡ true → resumed form site m run after spare ≡ Ok (first_met form run after more) → choice_or (resumed form site m run after spare) (λ c. cover_in form site m run after level false c.first (spare_of level spare c.next)) (choice_in form run after es) ≡ Ok (first_met form run after (over (recs_of form m level) es ++ more))
    unfolding choice_in
    chosen_in level below [] more spare h o s end = end
    chosen_in level below (e ∷ es) more spare h o s end = elim (either (may_hold form run after e es)) [
      | inl may ↦ (
          let hold = holds form law covers run after e es may in
          let others = over (recs_of form m level) es in
          let order = ordered_right form (recs_of form m level e.child) (others ++ more) (split_order level e es more o) in
          let behind = behind_rest form law covers run after e es others hold (next_of level es h.1) (λ z. ap (over (recs_of form m level)) z) (ordered_left form others more order) in
          let next = resumed_or level spare (first_in form run after es) ∙ found_in level (spare_right level) es more (resumed form site m run after spare) h.1 order s behind (λ n. end) in
          let go = below false e.child (others ++ more) (spare_of level spare (first_in form run after es)) h.0.0 (split_order level e es more o) (seen level e es more h.1 hold s) next in
          ap (choice_or (resumed form site m run after spare) (λ c. cover_in form site m run after level false c.first (spare_of level spare c.next))) (choice_true e es may) ∙ go ∙ ap (λ (v : List R). Ok (first_met form run after v)) (sym (split level e es more)))
      | inr cannot ↦ (
          let go = chosen_in level below es more spare h.1 (ordered_right form (recs_of form m level e.child) (over (recs_of form m level) es ++ more) (split_order level e es more o)) s end in
          ap (choice_or (resumed form site m run after spare) (λ c. cover_in form site m run after level false c.first (spare_of level spare c.next))) (choice_false e es cannot) ∙ go ∙ ap (λ (v : Option R). Ok v) (sym (without level e es more h cannot o)))
    ]

    cover_right : (level : ℕ) → IsCoverRight level
    unfolding cover_in recs_of IsSound lone_fault
    cover_right zero root p more spare h o s end =
        rw h (found_first (resumed form site m run after spare) (first_met form run after (records_of form (m p))) (first_met form run after more) end ∙ ap (λ (v : Option R). Ok v) (sym (met_append form run after (records_of form (m p)) more s)))
    cover_right (suc level) root p more spare h o s end = rw (h.0) (chosen_in level (cover_right level) (entries form m p) more spare h.1 o s end)

    none_behind : is_looked_at form run [] ≡ true
    unfolding is_looked_at begins_behind
    none_behind = or_true (has_high_keys_of form.kind)

    nothing_met : resumed form site m run after None ≡ Ok (first_met form run after [])
    unfolding first_met
    nothing_met = refl

    tree_right : (root levels : ℕ) (recs : List R) (blocks : List ℕ) → IsTree form site m root levels recs blocks → covering_in form site m run after root levels ≡ Ok (first_met form run after recs)
    unfolding covering_in
    tree_right root levels recs blocks t =
        let below = recs_of form m (levels - 1) root in
        let same : below ++ [] ≡ recs = append_none below ∙ sym t.recs_are in
        let order : Ordered form (below ++ []) = let P : List R → Type 0 = λ v. Ordered form v in subst P (sym same) (in_order form law recs t.rises) in
        let go = cover_right (levels - 1) true root [] None t.sound order none_behind nothing_met in
        rw (does_lie root site.bounds.length t.root_lies.0 t.root_lies.1, is_level levels t.has_levels.0 t.has_levels.1) (go ∙ ap (λ (v : List R). Ok (first_met form run after v)) same)

pub searches_trees_lem : {R K : Type 0} (form : Form R K) → IsLawful form → CoversBlocks form → SearchesTrees form
searches_trees_lem form law covers site m run after root levels recs blocks short read =
    tree_right form law covers site m run after short root levels recs blocks ((reads_trees_lem form law site m root levels recs blocks).0 read)
