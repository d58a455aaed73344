-- Pieces joined are all differences, and there are none exactly where the lists are equal.
use Rattle.std.proofs.Common.{◌≡◌, ℕ, zero, suc, ◌+◌, ◌*◌, ◌≤◌, true, List, [], ◌∷◌, ◌++◌, length, take, drop, Option, refl, sym, ap, subst, ◌∙◌, arith, inl, inr, Contains}
use Rattle.std.specs.List.{filter, filter_map, list_any}
use Rattle.std.proofs.Math.Seq.{take-add}
use Rattle.std.proofs.lemmas.Bool.{cases_Bool}
use Rattle.std.proofs.lemmas.List.{take_all}
use Rattle.std.proofs.lemmas.List.Elements.{filter_map-append}
use Rattle.fs_model.specs.declared.fault.Fault.{Fault}
use Rattle.fs_model.specs.declared.fault.Fault.TheVariants.{Missing, Extra}
use Rattle.rmap_recs.proofs.RisingLemmas.{nothing_in, in_front, in_rest, any_found, any_here, kept_by_filter, one_rising}
use Rattle.sblock.specs.Blocks.{IsRising}
use Rattle.sblock.specs.Form.{Form, IsLawful}
use Rattle.xref_scrub.specs.Differences.{comes_before, lacks, missing_of, extra_of, differences, shown_by, piece, joined, PiecesJoin, NoneExactlyIfEqual}
use Rattle.xref_scrub.specs.Shown.{Shown}
use Rattle.xref_scrub.proofs.MergeLemmas.{length_merged, shown_filtered}
use Rattle.xref_scrub.proofs.OrderLemmas.{order_of}

module _ {R K : Type 0} (form : Form R K) (shown : Shown R) (index derived : List R) where
  -- each record of both lists counts once
  pub length_shown : length (shown_by form shown index derived) ≡ length derived + length index
  unfolding shown_by
  length_shown = length_merged (comes_before form) (missing_of form shown index) (extra_of form shown derived) derived index

module _ {R K : Type 0} (form : Form R K) (lawful : IsLawful form) (shown : Shown R) (index derived : List R) where
  abbrev faults_in : List (Option Fault) → List Fault
  faults_in records = filter_map (λ f. f) records

  -- what all records show are the differences
  pub all_shown : IsRising form index → IsRising form derived → faults_in (shown_by form shown index derived) ≡ differences form shown index derived
  unfolding shown_by differences missing_of extra_of
  all_shown g h = shown_filtered (comes_before form) (order_of form lawful) (lacks form index) (lacks form derived) (λ r. Missing (shown r)) (λ r. Extra (shown r)) derived index h g

  joined_front : (n : ℕ) → joined form shown index derived n ≡ faults_in (take (512 * n) (shown_by form shown index derived))
  unfolding piece
  joined_front zero = refl
  joined_front (suc n) =
      let records = shown_by form shown index derived in
      let e : 512 * suc n ≡ 512 * n + 512 = omega arith in
      ap (λ (fs : List Fault). fs ++ faults_in (take 512 (drop (512 * n) records))) (joined_front n)
      ∙ (sym (filter_map-append (λ f. f) (take (512 * n) records) (take 512 (drop (512 * n) records)))
      ∙ (ap faults_in (sym (take-add (512 * n) 512 records)) ∙ ap (λ (m : ℕ). faults_in (take m records)) (sym e)))

  pub joined_all : IsRising form index → IsRising form derived → (n : ℕ) → length index + length derived ≤ 512 * n → joined form shown index derived n ≡ differences form shown index derived
  joined_all g h n enough =
      let records = shown_by form shown index derived in
      let past : length records ≤ 512 * n = omega (arith, length_shown form shown index derived) in
      joined_front n ∙ (ap faults_in (take_all (512 * n) records past) ∙ all_shown g h)

pub pieces_join : {R K : Type 0} (form : Form R K) → IsLawful form → (shown : Shown R) → PiecesJoin form shown
pieces_join form lawful shown index derived g h n enough = joined_all form lawful shown index derived g h n enough

-- ---- no differences

module _ {R K : Type 0} (form : Form R K) (lawful : IsLawful form) where
  -- where no record is lacking, each is in the other list
  held : (list rs : List R) → filter (lacks form list) rs ≡ [] → (z : R) → Contains rs z → Contains list z
  held list rs none z c = elim (cases_Bool (list_any (form.is_same z) list)) [
    | inl found ↦ let here = any_found (form.is_same z) list found in subst (Contains list) (sym ((lawful.same z here.0).0 here.2)) here.1
    | inr lost ↦ absurd (nothing_in z (subst (λ (ss : List R). Contains ss z) none (kept_by_filter (lacks form list) rs z c (rw lost refl))))
  ]

  none_lacking : (list rs : List R) → ((z : R) → Contains rs z → Contains list z) → filter (lacks form list) rs ≡ []
  none_lacking list [] h = refl
  none_lacking list (r ∷ rs) h =
      let found : list_any (form.is_same r) list ≡ true = any_here (form.is_same r) list r (h r (in_front r rs)) ((lawful.same r r).1 refl) in
      rw found (none_lacking list rs (λ z c. h z (in_rest r rs z c)))

none_left : {A : Type 0} (xs : List A) → length xs ≡ 0 → xs ≡ []
none_left [] e = refl
none_left (x ∷ xs) e = absurd (omega arith)

module _ {R K : Type 0} (form : Form R K) (lawful : IsLawful form) (shown : Shown R) (index derived : List R) where
  length_differences : length (differences form shown index derived) ≡ length (filter (lacks form index) derived) + length (filter (lacks form derived) index)
  unfolding differences
  length_differences = length_merged (comes_before form) (λ r. Missing (shown r)) (λ r. Extra (shown r)) (filter (lacks form index) derived) (filter (lacks form derived) index)

  equal_from_none : IsRising form index → IsRising form derived → differences form shown index derived ≡ [] → index ≡ derived
  equal_from_none g h none =
      let order = order_of form lawful in
      let count : length (differences form shown index derived) ≡ 0 = ap length none in
      let missing : filter (lacks form index) derived ≡ [] = none_left (filter (lacks form index) derived) (omega (arith, count, length_differences)) in
      let extra : filter (lacks form derived) index ≡ [] = none_left (filter (lacks form derived) index) (omega (arith, count, length_differences)) in
      one_rising (comes_before form) order.along order.strict index derived g h (held form lawful derived index extra) (held form lawful index derived missing)

  none_from_equal : index ≡ derived → differences form shown index derived ≡ []
  none_from_equal e =
      let missing : filter (lacks form index) derived ≡ [] = none_lacking form lawful index derived (λ z c. subst (λ (rs : List R). Contains rs z) (sym e) c) in
      let extra : filter (lacks form derived) index ≡ [] = none_lacking form lawful derived index (λ z c. subst (λ (rs : List R). Contains rs z) e c) in
      none_left (differences form shown index derived) (length_differences ∙ (ap (λ (rs : List R). length rs + length (filter (lacks form derived) index)) missing ∙ ap (λ (rs : List R). length {A = R} [] + length rs) extra))

pub none_exactly_if_equal : {R K : Type 0} (form : Form R K) → IsLawful form → (shown : Shown R) → NoneExactlyIfEqual form shown
none_exactly_if_equal form lawful shown index derived g h =
    (equal_from_none form lawful shown index derived g h, none_from_equal form lawful shown index derived)
