-- A piece of a comparison is the front of what is found from its place on.
use Rattle.std.proofs.Common.{◌≡◌, ℕ, ◌+◌, ◌≤◌, ◌<◌, Bool, true, false, List, [], ◌∷◌, ◌++◌, length, take, drop, Option, Some, None, refl, sym, ap, subst, ◌∙◌, arith, inl, inr, append_assoc}
use Rattle.std.specs.Prelude.{nat_lt, if◌then◌else◌}
use Rattle.std.specs.List.{filter_map}
use Rattle.std.proofs.lemmas.Bool.{cases_Bool, ltb-false}
use Rattle.std.proofs.lemmas.List.{append-nil, drop_all, drop-drop, take-append-drop}
use Rattle.std.proofs.lemmas.List.Elements.{filter_map-append}
use Rattle.fs_model.specs.declared.fault.Fault.{Fault}
use Rattle.fs_model.specs.declared.fault.Fault.TheVariants as faulty
use Rattle.sblock.specs.declared.block.BlockFault.{BlockFault}
use Rattle.fs_state.specs.State.{Readable, Unreadable}
use Rattle.sblock.specs.Form.{Form, IsLawful}
use Rattle.xref_scrub.specs.Differences.{piece, shown_by}
use Rattle.xref_scrub.specs.Shown.{Shown}
use Rattle.xref_scrub.proofs.DifferenceLemmas.{all_shown, length_shown}
use Rattle.group_trees.specs.declared.group.GroupTrees.{GroupTrees}
use Rattle.group_trees.specs.declared.heads.GroupHeads.{GroupHeads}
use Rattle.core_units.specs.declared.lists.Lists.{Lists}
use Rattle.core_units.specs.declared.compare.Place.TheVariants.{First, Second, Counters}
use Rattle.core_units.specs.Compared.{PiecesAreFaults, counters_in, faults_from, first_from, first_next, from_next, second_from, second_next, tree_faults_from}

-- what is found from a place on, with what is behind it
pub then_more : (all found left more : List Fault) → all ≡ found ++ left → all ++ more ≡ found ++ (left ++ more)
then_more all found left more e = ap (λ (l : List Fault). l ++ more) e ∙ append_assoc found left more

module _ {R K : Type 0} (form : Form R K) (shown : Shown R) (recs derived : List R) (blocks : List ℕ) where
  abbrev from_number : ℕ → List Fault
  from_number n = tree_faults_from form shown derived (Readable recs blocks) n

  -- the piece, and then what is behind it
  piece_first : (from : ℕ) → from_number from ≡ piece form shown recs derived from ++ from_number (from + 512)
  unfolding tree_faults_from piece
  piece_first from =
      let records = shown_by form shown recs derived in
      let rest = drop from records in
      ap (filter_map (λ f. f)) (sym (take-append-drop 512 rest)) ∙ filter_map-append (λ f. f) (take 512 rest) (drop 512 rest) ∙ ap (λ (l : List _). filter_map (λ f. f) (take 512 rest) ++ filter_map (λ f. f) l) (drop-drop 512 from records)

  -- nothing is found behind the last record
  pub none_behind : (n : ℕ) → length recs + length derived ≤ n → from_number n ≡ []
  unfolding tree_faults_from
  none_behind n past =
      let records = shown_by form shown recs derived in
      let all : length records ≤ n = omega (arith, length_shown form shown recs derived, past) in
      ap (filter_map (λ f. f)) (drop_all n records all)

  -- a piece of a tree that can be read
  pub part_read : (from : ℕ) (faults : List Fault) (next : Option ℕ) → faults ≡ piece form shown recs derived from → next ≡ (if nat_lt (from + 512) (length recs + length derived) then Some (from + 512) else None) → from_number from ≡ faults ++ from_next from_number next
  part_read from faults next found behind =
      elim (cases_Bool (nat_lt (from + 512) (length recs + length derived))) [
        | inl more ↦ rw (behind, more, found) (piece_first from)
        | inr end ↦ rw (behind, end, found) (piece_first from ∙ ap (λ (l : List Fault). piece form shown recs derived from ++ l) (none_behind (from + 512) (ltb-false (from + 512) (length recs + length derived) end)))
      ]

-- a tree that can't be read
pub part_bad : {R K : Type 0} (form : Form R K) (shown : Shown R) (derived : List R) (block : ℕ) (fault : BlockFault) (claims : List ℕ) (from : ℕ) (faults : List Fault) → faults ≡ faulty.Block form.kind block fault ∷ [] → tree_faults_from form shown derived (Unreadable block fault claims) from ≡ faults ++ []
unfolding tree_faults_from
part_bad form shown derived block fault claims from faults found = sym found ∙ sym (append-nil faults)

-- ---- a unit: what is found from a place on, with what is behind it

pub nothing_more : (faults : List Fault) → faults ≡ faults ++ []
nothing_more faults = sym (append-nil faults)

module _ (kept : Bool) (heads : GroupHeads) (trees : GroupTrees) (list : Lists) where
  pub first_on : (from : ℕ) (faults : List Fault) (next : Option ℕ) → first_from trees list from ≡ faults ++ from_next (first_from trees list) next → faults_from kept heads trees list (First from) ≡ faults ++ faults_from kept heads trees list (first_next next)
  first_on from faults None e =
      let more = second_from trees list 0 ++ counters_in kept heads trees list in
      then_more (first_from trees list from) faults [] more e
  first_on from faults (Some next) e =
      let more = second_from trees list 0 ++ counters_in kept heads trees list in
      then_more (first_from trees list from) faults (first_from trees list next) more e

  pub second_on : (from : ℕ) (faults : List Fault) (next : Option ℕ) → second_from trees list from ≡ faults ++ from_next (second_from trees list) next → faults_from kept heads trees list (Second from) ≡ faults ++ faults_from kept heads trees list (second_next next)
  second_on from faults None e = then_more (second_from trees list from) faults [] (counters_in kept heads trees list) e
  second_on from faults (Some next) e = then_more (second_from trees list from) faults (second_from trees list next) (counters_in kept heads trees list) e

-- ---- all pieces of one tree

pub pieces_are_faults_lem : {R K : Type 0} (form : Form R K) → IsLawful form → (shown : Shown R) → PiecesAreFaults form shown
unfolding tree_faults_from
pieces_are_faults_lem form lawful shown derived (Readable recs blocks) rising rises = all_shown form lawful shown recs derived rises rising
pieces_are_faults_lem form lawful shown derived (Unreadable block fault claims) rising rises = refl

-- ---- what is passed, since nothing is left of it

module _ (kept : Bool) (heads : GroupHeads) (trees : GroupTrees) (list : Lists) where
  pub first_passed : (from : ℕ) → first_from trees list from ≡ [] → faults_from kept heads trees list (First from) ≡ faults_from kept heads trees list (Second 0)
  first_passed from none = ap (λ (l : List Fault). l ++ (second_from trees list 0 ++ counters_in kept heads trees list)) none

  pub second_passed : (from : ℕ) → second_from trees list from ≡ [] → faults_from kept heads trees list (Second from) ≡ faults_from kept heads trees list Counters
  second_passed from none = ap (λ (l : List Fault). l ++ counters_in kept heads trees list) none
