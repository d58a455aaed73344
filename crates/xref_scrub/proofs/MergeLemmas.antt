-- Two lists merged, from their fronts, and what is left of them by a filter.
use Rattle.std.proofs.Common.{◌≡◌, inl, inr, suc, ◌+◌, Bool, true, false, cond, List, [], ◌∷◌, map, length, Option, Some, None, refl, sym, ap, ◌∙◌, arith, length-append}
use Rattle.std.specs.Prelude.{if◌then◌else◌}
use Rattle.std.specs.List.{filter, filter_map, cons_option}
use Rattle.std.proofs.lemmas.Bool.{cases_Bool}
use Rattle.sblock.specs.Lists.{IsAhead, Rises}
use Rattle.xref_scrub.specs.Cursors.{IsNotBehind}
use Rattle.xref_scrub.specs.Merging.{until, from, merged}
use Rattle.xref_scrub.proofs.OrderLemmas.{IsOrder, ahead_filtered, not_behind_filtered}

module _ {R T : Type 0} (before : R → R → Bool) (first second : R → T) where
  pub merged_second_alone : (ss : List R) → merged before first second [] ss ≡ map second ss
  unfolding merged
  merged_second_alone ss = refl

  -- the first list's record comes next
  pub merged_first : (r : R) (rs ss : List R) → IsNotBehind before r ss → merged before first second (r ∷ rs) ss ≡ first r ∷ merged before first second rs ss
  unfolding merged
  merged_first r rs [] h = refl
  merged_first r rs (s ∷ ss) h = rw h refl

  -- the second list's record comes next
  pub merged_second : (s : R) (rs ss : List R) → IsAhead before s rs → merged before first second rs (s ∷ ss) ≡ second s ∷ merged before first second rs ss
  unfolding merged
  merged_second s [] ss h = refl
  merged_second s (r ∷ rs) ss h = rw h refl

  length_mapped : (ss : List R) → length (map second ss) ≡ length ss
  length_mapped [] = refl
  length_mapped (s ∷ ss) = ap suc (length_mapped ss)

  length_parted : (r : R) (ss : List R) → length (until before r ss) + length (from before r ss) ≡ length ss
  length_parted r [] = refl
  length_parted r (s ∷ ss) = elim (cases_Bool (before s r)) [
    | inl early ↦ let rest = length_parted r ss in rw early (omega (arith, rest))
    | inr late ↦ rw late (omega arith)
  ]

  -- each record stands in the merged list once
  pub length_merged : (rs ss : List R) → length (merged before first second rs ss) ≡ length rs + length ss
  unfolding merged
  length_merged [] ss = length_mapped ss ∙ omega arith
  length_merged (r ∷ rs) ss =
      let parts = length_parted r ss in
      let rest = length_merged rs (from before r ss) in
      let front = length_mapped (until before r ss) in
      let all = length-append (map second (until before r ss)) (first r ∷ merged before first second rs (from before r ss)) in
      omega (arith, parts, rest, front, all)

-- ---- what the records of two lists show is the merged list of those that pass

module _ {R T : Type 0} (before : R → R → Bool) (order : IsOrder before) (p q : R → Bool) (first second : R → T) where
  abbrev pub first_shown : R → Option T
  first_shown r = if p r then Some (first r) else None

  abbrev pub second_shown : R → Option T
  second_shown s = if q s then Some (second s) else None

  abbrev pub what_shows : List (Option T) → List T
  what_shows shown = filter_map (λ t. t) shown

  keep_first : (b : Bool) (r : R) (rs ss : List R) → IsNotBehind before r ss
      → cons_option (if b then Some (first r) else None) (merged before first second rs ss) ≡ merged before first second (cond b (r ∷ rs) rs) ss
  keep_first true r rs ss h = sym (merged_first before first second r rs ss h)
  keep_first false r rs ss h = refl

  keep_second : (b : Bool) (s : R) (rs ss : List R) → IsAhead before s rs
      → cons_option (if b then Some (second s) else None) (merged before first second rs ss) ≡ merged before first second rs (cond b (s ∷ ss) ss)
  keep_second true s rs ss h = sym (merged_second before first second s rs ss h)
  keep_second false s rs ss h = refl

  abbrev Goal : List R → List R → Type 0
  Goal rs ss = what_shows (merged before first_shown second_shown rs ss) ≡ merged before first second (filter p rs) (filter q ss)

  second_alone : (ss : List R) → Goal [] ss
  unfolding merged
  second_alone [] = refl
  second_alone (s ∷ ss) = ap (cons_option (second_shown s)) (second_alone ss) ∙ keep_second (q s) s [] (filter q ss) tt

  with_first : (r : R) (rs ss : List R) → IsNotBehind before r ss → Rises before ss → Goal rs ss → Goal (r ∷ rs) ss
  with_first r rs ss h g rest =
      ap what_shows (merged_first before first_shown second_shown r rs ss h)
      ∙ (ap (cons_option (first_shown r)) rest ∙ keep_first (p r) r (filter p rs) (filter q ss) (not_behind_filtered before order r q ss h g))

  with_second : (s : R) (rs ss : List R) → IsAhead before s rs → Rises before rs → Goal rs ss → Goal rs (s ∷ ss)
  with_second s rs ss h g rest =
      ap what_shows (merged_second before first_shown second_shown s rs ss h)
      ∙ (ap (cons_option (second_shown s)) rest ∙ keep_second (q s) s (filter p rs) (filter q ss) (ahead_filtered before order s p rs h g))

  both : (r : R) (rs : List R) → ((ts : List R) → Rises before ts → Goal rs ts) → Rises before (r ∷ rs) → (ss : List R) → Rises before ss → Goal (r ∷ rs) ss
  both r rs rest h [] g = with_first r rs [] tt tt (rest [] tt)
  both r rs rest h (s ∷ ss) g = elim (cases_Bool (before s r)) [
    | inl early ↦ with_second s (r ∷ rs) ss early h (both r rs rest h ss g.1)
    | inr late ↦ with_first r rs (s ∷ ss) late g (rest (s ∷ ss) g)
  ]

  pub shown_filtered : (rs ss : List R) → Rises before rs → Rises before ss → Goal rs ss
  shown_filtered [] ss h g = second_alone ss
  shown_filtered (r ∷ rs) ss h g = both r rs (λ ts. shown_filtered rs ts h.1) h ss g
