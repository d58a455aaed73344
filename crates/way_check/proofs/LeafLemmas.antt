-- A leaf that was made of the old one's records with the edit at its place.
use Rattle.std.proofs.Common.{◌≡◌, ◌≢◌, ℕ, zero, suc, ◌+◌, ◌-◌, ◌<◌, ◌≤◌, Bool, true, false, List, [], ◌∷◌, refl, sym, ap, subst, ◌∙◌, inl, inr, arith}
use Rattle.std.specs.Prelude.{◌⊎◌, ◌==◌, nat_lt, if◌then◌else◌, Some, None}
use Rattle.std.proofs.lemmas.Bool.{cases_lt}
use Rattle.std.proofs.lemmas.Bool.Decides.{nat_tests}
use Rattle.sblock.specs.Area.{area_of}
use Rattle.sblock.specs.Blocks.{numrecs, records_of, key_in, is_rising}
use Rattle.sblock.specs.Form.{Form, IsLawful}
use Rattle.sblock.specs.Lists.{items_from}
use Rattle.tree_find.proofs.PlaceLemmas.{far_rises}
use Rattle.list_edit.specs.Edits.{comes_before, is_one, has_key}
use Rattle.list_edit.specs.declared.edits.Edit.{Edit}
use Rattle.list_edit.specs.declared.edits.Edit.TheVariants.{Insert, Remove, Change}
use Rattle.place_cells.specs.Cells.{from_at, item_at, record_both}
use Rattle.place_cells.specs.declared.cut.Cut.{Cut}
use Rattle.place_cells.proofs.CellLemmas.{items_same, records_are}
use Rattle.place_ways.specs.Cuts.{IsPlaceOf}
use Rattle.place_turns.specs.Edits.{many_after, cut_for, own_record, edited_record, IsHere, IsPlace}
use Rattle.way_check.specs.Checks.{record_in, IsFront, IsBack, HasEdit}
use Rattle.way_check.proofs.OverLemmas.{same_test, other_test}

pub less : (a b : ℕ) → a < b → nat_lt a b ≡ true
less a b h = grind (arith, nat_tests)

not_less : (a b : ℕ) → b ≤ a → nat_lt a b ≡ false
not_less a b h = grind (arith, nat_tests)

module _ {I : Type 0} (old : ℕ → I) where
  -- an item in front of the place is the old one, whatever is put in
  pub in_front : (cut : Cut I) (i : ℕ) → i < cut.at → item_at old cut i ≡ old i
  in_front cut i lt = let t = less i cut.at lt in rw t refl

  pub put_here : (x : I) (at i : ℕ) (gone : ℕ) → i ≡ at → item_at old (record { at = at; gone = gone; first = Some x; second = None }) i ≡ x
  put_here x at i gone is = let t = not_less i at (omega (arith, is)) in let e : (i == at) ≡ true = rw is (same_test at) in rw (t, e) refl

  pub put_behind : (x : I) (at i gone : ℕ) → at < i → item_at old (record { at = at; gone = gone; first = Some x; second = None }) i ≡ old (i - 1 + gone)
  put_behind x at i gone lt = let t = not_less i at (omega (arith, lt)) in let e = other_test i at (λ is. absurd (omega (arith, is, lt))) in rw (t, e) refl

  pub out_behind : (at i gone : ℕ) → at ≤ i → item_at old (record { at = at; gone = gone; first = None; second = None }) i ≡ old (i + gone)
  out_behind at i gone le = let t = not_less i at le in rw t refl

module _ {R K : Type 0} (form : Form R K) where
  -- the records of a leaf by their numbers
  pub own_is : (bytes : List ℕ) (i : ℕ) → i < numrecs bytes → own_record form bytes i ≡ record_in form bytes i
  own_is bytes i lt = let t = less i (numrecs bytes) lt in rw t refl

  -- the record in front of a place, and the one there
  pub front_none : (r : R) (bytes : List ℕ) (at : ℕ) → at ≡ 0 → IsFront form r bytes at
  front_none r bytes at none = λ i lt le. absurd (omega (arith, none, lt))

  pub front_one : (r : R) (bytes : List ℕ) (at : ℕ) → comes_before form r (record_in form bytes (at - 1)) ≡ true → IsFront form r bytes at
  front_one r bytes at h = λ i lt le. let e : at - 1 ≡ i = omega (arith, lt, le) in subst (λ (j : ℕ). comes_before form r (record_in form bytes j) ≡ true) e h

  pub back_none : (r : R) (bytes : List ℕ) (at : ℕ) → numrecs bytes ≤ at → IsBack form r bytes at
  back_none r bytes at none = λ lt. absurd (omega (arith, none, lt))

  -- so they are in the edited leaf
  edit_is : (how : Edit) (r : R) (bytes : List ℕ) (at : ℕ) → at ≤ numrecs bytes → (k : ℕ) → k < many_after how (numrecs bytes) → item_at (record_in form bytes) (cut_for form how r at) k ≡ edited_record form how r bytes at k
  edit_is Insert r bytes at le k lt =
      elim (cases_lt k at) [
        | inl front ↦ in_front (record_in form bytes) (cut_for form Insert r at) k front ∙ sym (in_front (own_record form bytes) (cut_for form Insert r at) k front ∙ own_is bytes k (omega (arith, front, le)))
        | inr behind ↦ elim (cases_lt at k) [
          | inl past ↦ put_behind (record_in form bytes) r at k 0 past ∙ sym (put_behind (own_record form bytes) r at k 0 past ∙ own_is bytes (k - 1 + 0) (omega (arith, lt, past)))
          | inr near ↦ let is : k ≡ at = omega (arith, behind, near) in put_here (record_in form bytes) r at k 0 is ∙ sym (put_here (own_record form bytes) r at k 0 is)
        ]
      ]
  edit_is Remove r bytes at le k lt =
      elim (cases_lt k at) [
        | inl front ↦ in_front (record_in form bytes) (cut_for form Remove r at) k front ∙ sym (in_front (own_record form bytes) (cut_for form Remove r at) k front ∙ own_is bytes k (omega (arith, front, le)))
        | inr behind ↦ out_behind (record_in form bytes) at k 1 (omega (arith, behind)) ∙ sym (out_behind (own_record form bytes) at k 1 (omega (arith, behind)) ∙ own_is bytes (k + 1) (omega (arith, lt)))
      ]
  edit_is Change r bytes at le k lt =
      elim (cases_lt k at) [
        | inl front ↦ in_front (record_in form bytes) (cut_for form Change r at) k front ∙ sym (in_front (own_record form bytes) (cut_for form Change r at) k front ∙ own_is bytes k (omega (arith, front, le)))
        | inr behind ↦ elim (cases_lt at k) [
          | inl past ↦ put_behind (record_in form bytes) r at k 1 past ∙ sym (put_behind (own_record form bytes) r at k 1 past ∙ own_is bytes (k - 1 + 1) (omega (arith, lt, past)))
          | inr near ↦ let is : k ≡ at = omega (arith, behind, near) in put_here (record_in form bytes) r at k 1 is ∙ sym (put_here (own_record form bytes) r at k 1 is)
        ]
      ]

  here_is : (how : Edit) (r : R) (bytes : List ℕ) (at : ℕ) → IsHere form how r (record_in form bytes) (numrecs bytes) at → IsHere form how r (own_record form bytes) (numrecs bytes) at
  here_is Insert r bytes at h = λ lt. ap (has_key form r) (own_is bytes at lt) ∙ h lt
  here_is Remove r bytes at h = (h.0, ap (is_one form r) (own_is bytes at h.0) ∙ h.1)
  here_is Change r bytes at h = (h.0, ap (has_key form r) (own_is bytes at h.0) ∙ h.1)

  module _ (law : IsLawful form) (r : R) (bytes : List ℕ) (rising : is_rising form true (area_of bytes) (numrecs bytes) ≡ true) (at : ℕ) (le : at ≤ numrecs bytes) (front : IsFront form r bytes at) where
    all_before : (k i : ℕ) → i + 1 ≡ at → k < at → comes_before form r (record_in form bytes k) ≡ true
    unfolding comes_before key_in
    all_before k i last lt =
        let near = front i (omega (arith, last)) (omega (arith, last)) in
        elim (cases_lt k i) [
          | inl low ↦ law.along (form.key_of (record_in form bytes k)) (form.key_of (record_in form bytes i)) (form.key_of r) (far_rises form law true (area_of bytes) (numrecs bytes) rising k i low (omega (arith, last, le))) near
          | inr high ↦ let e : k ≡ i = omega (arith, high, lt, last) in rw e near
        ]

    pub place_is : IsBack form r bytes at → IsPlaceOf form r (own_record form bytes) (numrecs bytes) at
    place_is back = record {
      lies = le;
      before = λ k lt. ap (comes_before form r) (own_is bytes k (omega (arith, lt, le))) ∙ all_before k (at - 1) (omega (arith, lt)) lt;
      behind = λ lt. ap (comes_before form r) (own_is bytes at lt) ∙ back lt;
    }

    -- the new leaf has these records
    pub has_edit : (how : Edit) (new : List ℕ) → IsBack form r bytes at → IsHere form how r (record_in form bytes) (numrecs bytes) at → numrecs new ≡ many_after how (numrecs bytes)
        → ((k : ℕ) → k < numrecs new → record_in form new k ≡ item_at (record_in form bytes) (cut_for form how r at) k) → HasEdit form how r bytes new
    has_edit how new back here count each = record {
      at = at;
      place = record { place = place_is back; here = here_is how r bytes at here };
      recs_are = records_are form new (area_of new) (many_after how (numrecs bytes)) 0 (edited_record form how r bytes at) refl count
          (λ k lt. let z : k ≡ 0 + k = omega arith in each k (omega (arith, lt, count)) ∙ (edit_is how r bytes at le k lt ∙ ap (edited_record form how r bytes at) z));
    }
