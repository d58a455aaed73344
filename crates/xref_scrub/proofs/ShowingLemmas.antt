-- What the records show from two cursors on.
use Rattle.std.proofs.Common.{◌≡◌, ℕ, zero, suc, ◌+◌, ◌-◌, ◌<◌, ◌≤◌, List, [], ◌∷◌, ◌++◌, length, get_or, take, drop, Option, Some, None, refl, sym, ap, ◌∙◌, arith, append_assoc}
use Rattle.std.specs.List.{filter_map}
use Rattle.std.specs.Option.{option_to_list}
use Rattle.std.proofs.lemmas.List.{drop_all, append-nil}
use Rattle.fs_model.specs.declared.fault.Fault.{Fault}
use Rattle.sblock.specs.Form.{Form}
use Rattle.sblock.specs.Lists.{IsAhead}
use Rattle.xref_scrub.specs.Cursors.{IsNotBehind, IsParted, shown_from}
use Rattle.xref_scrub.specs.Differences.{comes_before, missing_of, extra_of, shown_by}
use Rattle.xref_scrub.specs.Merging.{merged}
use Rattle.xref_scrub.specs.Shown.{Shown}
use Rattle.xref_scrub.proofs.CursorLemmas.{rest_at_number}
use Rattle.xref_scrub.proofs.DifferenceLemmas.{length_shown}
use Rattle.xref_scrub.proofs.MergeLemmas.{merged_first, merged_second}
use Rattle.xref_scrub.proofs.OrderLemmas.{rest_at}

module _ {R K : Type 0} (form : Form R K) (shown : Shown R) (index derived : List R) where
  pub shown_ended : (i j : ℕ) → length derived ≤ i → length index ≤ j → shown_from form shown index derived i j ≡ []
  unfolding shown_from merged
  shown_ended i j past over = rw (drop_all i derived past, drop_all j index over) refl

  pub shown_start : shown_from form shown index derived 0 0 ≡ shown_by form shown index derived
  unfolding shown_from shown_by
  shown_start = refl

  pub shown_first : (i j : ℕ) (r : R) → i < length derived → r ≡ get_or derived i r → IsNotBehind (comes_before form) r (drop j index)
      → shown_from form shown index derived i j ≡ missing_of form shown index r ∷ shown_from form shown index derived (i + 1) j
  unfolding shown_from
  shown_first i j r lt e late =
      ap (λ (rs : List R). merged (comes_before form) (missing_of form shown index) (extra_of form shown derived) rs (drop j index)) (rest_at derived i r lt e)
      ∙ merged_first (comes_before form) (missing_of form shown index) (extra_of form shown derived) r (drop (i + 1) derived) (drop j index) late

  pub shown_second : (i j : ℕ) (s : R) → j < length index → s ≡ get_or index j s → IsAhead (comes_before form) s (drop i derived)
      → shown_from form shown index derived i j ≡ extra_of form shown derived s ∷ shown_from form shown index derived i (j + 1)
  unfolding shown_from
  shown_second i j s lt e ahead =
      ap (λ (ss : List R). merged (comes_before form) (missing_of form shown index) (extra_of form shown derived) (drop i derived) ss) (rest_at index j s lt e)
      ∙ merged_second (comes_before form) (missing_of form shown index) (extra_of form shown derived) s (drop i derived) (drop (j + 1) index) ahead

  -- the records from a number on
  pub shown_at : (i n : ℕ) → i ≤ n → IsParted (comes_before form) derived index i (n - i) → shown_from form shown index derived i (n - i) ≡ drop n (shown_by form shown index derived)
  unfolding shown_from shown_by
  shown_at i n le p = rest_at_number (comes_before form) (missing_of form shown index) (extra_of form shown derived) n i (n - i) (omega arith) derived index p

  pub shown_past : (n : ℕ) → length derived + length index ≤ n → shown_from form shown index derived (length derived) (length index) ≡ drop n (shown_by form shown index derived)
  shown_past n past =
      let over : length (shown_by form shown index derived) ≤ n = omega (arith, length_shown form shown index derived) in
      shown_ended (length derived) (length index) (omega arith) (omega arith) ∙ sym (drop_all n (shown_by form shown index derived) over)

-- ---- the list of faults grows

abbrev pub faults_in : List (Option Fault) → List Fault
faults_in records = filter_map (λ f. f) records

pub kept_more : (old new all : List Fault) (f : Option Fault) (rest records : List (Option Fault)) → records ≡ f ∷ rest → old ++ faults_in records ≡ all
    → new ≡ old ++ option_to_list f → new ++ faults_in rest ≡ all
kept_more old new all None rest records e so_far more = rw (more, append-nil) (ap (λ (fs : List (Option Fault)). old ++ faults_in fs) (sym e) ∙ so_far)
kept_more old new all (Some f) rest records e so_far more =
    rw more (append_assoc old (f ∷ []) (faults_in rest) ∙ (ap (λ (fs : List (Option Fault)). old ++ faults_in fs) (sym e) ∙ so_far))

pub kept_all : (old all : List Fault) (records : List (Option Fault)) → records ≡ [] → old ++ faults_in records ≡ all → old ≡ all
kept_all old all records e so_far = sym (append-nil old) ∙ (ap (λ (fs : List (Option Fault)). old ++ faults_in fs) (sym e) ∙ so_far)

front_more : (left : ℕ) (f : Option Fault) (rest records : List (Option Fault)) → 0 < left → records ≡ f ∷ rest → take left records ≡ f ∷ take (left - 1) rest
front_more zero f rest records some e = absurd (omega arith)
front_more (suc left) f rest records some e = let less : suc left - 1 ≡ left = omega arith in rw (e, less) refl

front_none : (left : ℕ) (records : List (Option Fault)) → records ≡ [] → take left records ≡ []
front_none zero records e = refl
front_none (suc left) records e = rw e refl

pub piece_more : (old new all : List Fault) (left : ℕ) (f : Option Fault) (rest records : List (Option Fault)) → 0 < left → records ≡ f ∷ rest → old ++ faults_in (take left records) ≡ all
    → new ≡ old ++ option_to_list f → new ++ faults_in (take (left - 1) rest) ≡ all
piece_more old new all left f rest records some e so_far more = kept_more old new all f (take (left - 1) rest) (take left records) (front_more left f rest records some e) so_far more

pub piece_ended : (old all : List Fault) (left : ℕ) (records : List (Option Fault)) → records ≡ [] → old ++ faults_in (take left records) ≡ all → old ≡ all
piece_ended old all left records e so_far = kept_all old all (take left records) (front_none left records e) so_far

pub piece_done : (old all : List Fault) (left : ℕ) (records : List (Option Fault)) → left ≡ 0 → old ++ faults_in (take left records) ≡ all → old ≡ all
piece_done old all left records e so_far = kept_all old all (take left records) (ap (λ (n : ℕ). take n records) e) so_far
