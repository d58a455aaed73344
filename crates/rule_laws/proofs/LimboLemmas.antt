-- Limbo as runs is limbo as a state has it.
use Rattle.std.proofs.Common.{◌≡◌, ℕ, suc, ◌+◌, ◌-◌, Bool, true, false, not, ◌&&◌, ◌||◌, List, [], ◌∷◌, Contains, length, refl, sym, ap, ap₂, subst, ◌∙◌, inl, inr, arith, eq-eqb}
use Rattle.std.specs.Prelude.{◌==◌, nat_le, nat_lt, filter, if◌then◌else◌}
use Rattle.std.specs.List.{list_any, slice_get}
use Rattle.std.specs.Option.{option_map_or}
use Rattle.std.proofs.lemmas.Bool.{and_parts, eqb-true, false≢true}
use Rattle.std.proofs.lemmas.Bool.Decides.{nat_tests}
use Rattle.fs_model.specs.declared.unit.Unit.TheVariants as units
use Rattle.fs_state.specs.Frame.{PairsAreASet}
use Rattle.fs_state.specs.State.{Owned, pairs_of}
use Rattle.rmap_recs.proofs.RisingLemmas.{in_either, in_front, in_rest, nothing_in}
use Rattle.span_recs.specs.declared.span.SpanRec.{SpanRec}
use Rattle.block_reap.specs.Limbo.{covers}
use Rattle.fs_change.specs.Changes.{is_of_run}
use Rattle.fs_change.specs.Switch.{has_owned, is_same_owned, owned_by}
use Rattle.rule_laws.specs.Limbo.{JoinsAlike, LeavesAlike, LongestAlike, OwnersAlike, extent_of}

pub owners_alike : OwnersAlike
owners_alike units.Inode = refl
owners_alike units.Rmap = refl
owners_alike units.Free = refl
owners_alike units.Refc = refl

-- what is left of a list without those that pass the test, where all that are the same pass it alike
any_left : (same test : Owned → Bool) (all : Bool) → ((o : Owned) → same o ≡ true → test o ≡ all) → (os : List Owned) → list_any same (filter (λ o. not (test o)) os) ≡ (list_any same os && not all)
any_left same test all alike [] = refl
any_left same test all alike (o ∷ os) = by_tests (same o) (test o) refl refl (any_left same test all alike os)
  where
    kept : (all t : Bool) → t ≡ all → list_any same (filter (λ o. not (test o)) os) ≡ (list_any same os && not all) → list_any same (if not t then o ∷ filter (λ o. not (test o)) os else filter (λ o. not (test o)) os) ≡ ((same o || list_any same os) && not all)
    kept true true e later = later ∙ none (list_any same os) ∙ sym (none (same o || list_any same os))
      where
        none : (b : Bool) → (b && false) ≡ false
        none true = refl
        none false = refl
    kept false false e later = ap (λ (b : Bool). same o || b) (later ∙ all_true (list_any same os)) ∙ sym (all_true (same o || list_any same os))
      where
        all_true : (b : Bool) → (b && true) ≡ b
        all_true true = refl
        all_true false = refl
    kept true false e later = cc
    kept false true e later = cc

    by_tests : (s t : Bool) → same o ≡ s → test o ≡ t → list_any same (filter (λ o. not (test o)) os) ≡ (list_any same os && not all) → list_any same (if not (test o) then o ∷ filter (λ o. not (test o)) os else filter (λ o. not (test o)) os) ≡ ((same o || list_any same os) && not all)
    by_tests true t e f later = kept all (test o) (alike o e) later
    by_tests false true e f later = rw (f, e) later
    by_tests false false e f later = rw (f, e) later

eq_swap : (a b : ℕ) → (a == b) ≡ (b == a)
eq_swap a b = grind (arith, nat_tests)

of_same : (b o c p s n w : ℕ) → ((b == c) && (o == p)) ≡ true → ((p == w) && (nat_le s c && nat_lt c (s + n))) ≡ ((w == o) && (nat_le s b && nat_lt b (s + n)))
of_same b o c p s n w h =
    let parts = and_parts (b == c) (o == p) h in
    let e = eqb-true b c parts.0 in
    let f = eqb-true o p parts.1 in
    ap (λ (x : ℕ). (x == w) && (nat_le s c && nat_lt c (s + n))) (sym f) ∙ ap (λ (x : ℕ). (o == w) && (nat_le s x && nat_lt x (s + n))) (sym e) ∙ ap (λ (t : Bool). t && (nat_le s b && nat_lt b (s + n))) (eq_swap o w)

pub leaves_alike : LeavesAlike
leaves_alike p g runs left run stand leaves b o =
    leaves b o
    ∙ ap (λ (t : Bool). t && not (covers run b o)) (stand b o)
    ∙ sym (any_left (is_same_owned (owned_by o b)) (is_of_run run.owner (extent_of g run)) (covers run b o) (λ x same. of_same b o x.block x.owner run.start run.count run.owner same) p.limbo)

-- ---- a block that joins

same_self : (o : Owned) → is_same_owned o o ≡ true
same_self o = ap₂ (λ (x y : Bool). x && y) (eq-eqb o.block o.block refl) (eq-eqb o.owner o.owner refl)

or_later : (x y : Bool) → y ≡ true → (x || y) ≡ true
or_later true y h = refl
or_later false y h = h

has_in : (os : List Owned) (p : Owned) → Contains os p → has_owned os p ≡ true
has_in [] p c = absurd (nothing_in p c)
has_in (o ∷ os) p c = elim (in_either o os p c) [
  | inl here ↦ ap (λ (t : Bool). t || has_owned os p) (ap (is_same_owned p) here ∙ same_self p)
  | inr later ↦ or_later (is_same_owned p o) (has_owned os p) (has_in os p later)
]

in_has : (os : List Owned) (p : Owned) → has_owned os p ≡ true → Contains os p
in_has [] p h = absurd (false≢true h)
in_has (o ∷ os) p h = (elim (is_same_owned p o) as (λ t. is_same_owned p o ≡ t → (t || has_owned os p) ≡ true → Contains (o ∷ os) p) [
  | true ↦ λ e i. (
      let parts = and_parts (p.block == o.block) (p.owner == o.owner) e in
      let block = eqb-true p.block o.block parts.0 in
      let owner = eqb-true p.owner o.owner parts.1 in
      subst (Contains (o ∷ os)) (λ i. record { block = sym block i; owner = sym owner i }) (in_front o os))
  | false ↦ λ e i. in_rest o os p (in_has os p i)
]) refl h

bool_same : (x y : Bool) → (x ≡ true → y ≡ true) → (y ≡ true → x ≡ true) → x ≡ y
bool_same true y to from = sym (to refl)
bool_same false true to from = from refl
bool_same false false to from = refl

-- a set has what its list has
set_has : PairsAreASet → (os : List Owned) (p : Owned) → has_owned (pairs_of os) p ≡ has_owned os p
set_has sets os p = bool_same (has_owned (pairs_of os) p) (has_owned os p) (λ h. has_in os p ((sets.has os p).0 (in_has (pairs_of os) p h))) (λ h. has_in (pairs_of os) p ((sets.has os p).1 (in_has os p h)))

one_block : (b o c w : ℕ) → ((w == o) && (nat_le c b && nat_lt b (c + 1))) ≡ ((b == c) && (o == w))
one_block b o c w = grind (arith, nat_tests)

or_swap : (x y : Bool) → (x || y) ≡ (y || x)
or_swap true true = refl
or_swap true false = refl
or_swap false true = refl
or_swap false false = refl

pub joins_alike : PairsAreASet → JoinsAlike
joins_alike sets limbo runs joined block owner stand joins b o =
    joins b o
    ∙ ap (λ (t : Bool). t || covers (record { start = block; count = 1; owner = owner }) b o) (stand b o)
    ∙ ap (λ (t : Bool). has_owned limbo (owned_by o b) || t) (one_block b o block owner)
    ∙ or_swap (has_owned limbo (owned_by o b)) (is_same_owned (owned_by o b) (owned_by owner block))
    ∙ sym (set_has sets (owned_by owner block ∷ limbo) (owned_by o b))

pub longest_alike : LongestAlike
longest_alike [] = refl
longest_alike (r ∷ []) = let e : length (r ∷ []) - 1 ≡ 0 = omega arith in ap (λ (k : ℕ). option_map_or (λ (x : SpanRec). x.count) (slice_get (r ∷ []) k) 0) e
longest_alike (r ∷ s ∷ rs) =
    let e : length (r ∷ s ∷ rs) - 1 ≡ suc (length (s ∷ rs) - 1) = omega arith in
    ap (λ (k : ℕ). option_map_or (λ (x : SpanRec). x.count) (slice_get (r ∷ s ∷ rs) k) 0) e ∙ longest_alike (s ∷ rs)
