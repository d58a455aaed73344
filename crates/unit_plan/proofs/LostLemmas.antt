-- Blocks that lie in none of some records, and what these records stand for.
use Rattle.std.proofs.Common.{◌≡◌, ℕ, suc, ◌+◌, ◌-◌, ◌<◌, ◌≤◌, Bool, true, false, not, ◌&&◌, ◌||◌, ◌==◌, List, [], ◌∷◌, ◌++◌, map, filter, All, refl, ap, sym, subst, ◌∙◌, arith}
use Rattle.std.specs.Prelude.{nat_lt, nat_le, if◌then◌else◌, IfOk, Result, Ok, Err}
use Rattle.std.specs.List.{list_any}
use Rattle.std.specs.List.Sorted.{IsPermutation, IsNonDecreasingBy}
use Rattle.std.proofs.lemmas.Bool.{and_from, and_parts, le-leb, lt-ltb, ltb-true}
use Rattle.std.proofs.lemmas.List.Elements.{All-cons, All-nil}
use Rattle.std.proofs.lemmas.List.Folds.{list_any-append}
use Rattle.std.proofs.lemmas.List.Sorted.{All-permutation, list_any-IsPermutation}
use Rattle.derive_defs.specs.Free.{is_free, AreFree, run_of}
use Rattle.derive_defs.specs.Mappings.{covers, EndWithin, StartsRise}
use Rattle.fs_model.specs.declared.unit.Unit.{Unit as ScrubUnit}
use Rattle.fs_model.specs.declared.unit.Unit.TheVariants as units
use Rattle.rmap_recs.specs.declared.records.RmapRec.{RmapRec}
use Rattle.run_sets.specs.declared.run.Run.{Run}
use Rattle.run_sets.specs.Runs.{holds, is_within, AreMaximal, AreRunsBelow, EndWithin as RunsEnd}
use Rattle.span_recs.specs.declared.span.SpanRec.{SpanRec}
use Rattle.unit_plan.specs.declared.piece.Piece.{Piece}
use Rattle.unit_plan.specs.Lost.{is_of_old, is_old, is_read, is_taken, is_given, is_unlisted, is_unclaimed, of_piece, of_run}
use Rattle.unit_plan.specs.Sets.{LieBelow}
use Rattle.unit_plan.specs.Spans.{span_run}
use Rattle.unit_plan.specs.Spare.{is_listed}

-- ---- records in the order of their starts

pub starts_rise : (recs : List RmapRec) → IsNonDecreasingBy (λ (r : RmapRec). r.start) recs → StartsRise recs
starts_rise [] up = tt
starts_rise (r ∷ []) up = tt
starts_rise (r ∷ s ∷ rs) up = (up 0 1 r (omega arith) (omega arith), starts_rise (s ∷ rs) (λ i j d le lt. up (suc i) (suc j) d (omega (arith, le)) (omega (arith, lt))))

abbrev Ends : ℕ → RmapRec → Type 0
Ends len r = r.start + r.count ≤ len

to_all : (len : ℕ) (recs : List RmapRec) → EndWithin len recs → All (Ends len) recs
to_all len [] end = All-nil (Ends len)
to_all len (r ∷ rs) end = All-cons (Ends len) r rs end.0 (to_all len rs end.1)

from_all : (len : ℕ) (recs : List RmapRec) → All (Ends len) recs → EndWithin len recs
from_all len [] all = tt
from_all len (r ∷ rs) all = (all 0 r (omega arith), from_all len rs (λ k d lt. all (suc k) d (omega (arith, lt))))

pub ends_permuted : (len : ℕ) (old new : List RmapRec) → IsPermutation old new → EndWithin len old → EndWithin len new
ends_permuted len old new same end = from_all len new (All-permutation (Ends len) old new same (to_all len old end))

pub ends_joined : (len : ℕ) (xs ys : List RmapRec) → EndWithin len xs → EndWithin len ys → EndWithin len (xs ++ ys)
ends_joined len [] ys a b = b
ends_joined len (x ∷ xs) ys a b = (a.0, ends_joined len xs ys a.1 b)

pub ends_of_runs : (len : ℕ) (runs : List Run) → RunsEnd len runs → EndWithin len (map of_run runs)
ends_of_runs len [] end = tt
ends_of_runs len (r ∷ rs) end = (end.0, ends_of_runs len rs end.1)

pub ends_of_pieces : (len : ℕ) (t : Piece → Bool) (ps : List Piece) → LieBelow len ps → EndWithin len (map of_piece (filter t ps))
ends_of_pieces len t [] below = tt
ends_of_pieces len t (p ∷ ps) below = elim (t p) as (λ b. EndWithin len (map of_piece (if b then p ∷ filter t ps else filter t ps))) [
  | true ↦ (below.0, ends_of_pieces len t ps below.1)
  | false ↦ ends_of_pieces len t ps below.1
]

pub ends_filtered : (len : ℕ) (t : RmapRec → Bool) (recs : List RmapRec) → EndWithin len recs → EndWithin len (filter t recs)
ends_filtered len t [] end = tt
ends_filtered len t (r ∷ rs) end = elim (t r) as (λ b. EndWithin len (if b then r ∷ filter t rs else filter t rs)) [
  | true ↦ (end.0, ends_filtered len t rs end.1)
  | false ↦ ends_filtered len t rs end.1
]

-- ---- runs below a length

pub same_below : (p q : ℕ → Bool) (len : ℕ) (runs : List Run) → ((b : ℕ) → b < len → p b ≡ q b) → AreRunsBelow p len runs → AreRunsBelow q len runs
same_below p q len runs same are = record {
  maximal = are.maximal;
  exact = λ b. are.exact b ∙ (elim (nat_lt b len) as (λ t. nat_lt b len ≡ t → (t && p b) ≡ (t && q b)) [
    | true ↦ λ e. same b (ltb-true b len e)
    | false ↦ λ e. refl
  ]) refl;
}

same_map : (spans : List SpanRec) → map run_of spans ≡ map span_run spans
same_map [] = refl
same_map (s ∷ ss) = ap (λ (rs : List Run). run_of s ∷ rs) (same_map ss)

free_permuted : (old new : List RmapRec) → IsPermutation old new → (b : ℕ) → is_free new b ≡ is_free old b
unfolding is_free
free_permuted old new same b = ap not (sym (list_any-IsPermutation (covers b) old new same))

-- what is free of the sorted records is free of them
pub outside_are : (len : ℕ) (old new : List RmapRec) (spans : List SpanRec) (runs : List Run) → IsPermutation old new → AreFree len new spans → runs ≡ map span_run spans → AreRunsBelow (is_free old) len runs
outside_are len old new spans runs same free are =
    same_below (is_free new) (is_free old) len runs (λ b lt. free_permuted old new same b) (subst (λ (rs : List Run). AreRunsBelow (is_free new) len rs) (same_map spans ∙ sym are) free)

-- runs below a length end within it
ends_below : (p : ℕ → Bool) (len from : ℕ) (runs : List Run) → AreMaximal from runs → ((b : ℕ) → holds runs b ≡ true → b < len) → RunsEnd len runs
ends_below p len from [] maximal low = tt
ends_below p len from (r ∷ rs) maximal low =
    let some = maximal.1 in
    let last : r.start + (r.count - 1) < len = low (r.start + (r.count - 1)) (ap (λ (t : Bool). t || holds rs (r.start + (r.count - 1))) (within_last r some)) in
    ((omega (arith, last, some)), ends_below p len (r.start + r.count + 1) rs maximal.2 (λ b h. low b (ap (λ (t : Bool). is_within b r || t) h ∙ or_true (is_within b r))))
  where
    or_true : (x : Bool) → (x || true) ≡ true
    or_true true = refl
    or_true false = refl

    within_last : (r : Run) → 0 < r.count → is_within (r.start + (r.count - 1)) r ≡ true
    within_last r some = and_from (nat_le r.start (r.start + (r.count - 1))) (nat_lt (r.start + (r.count - 1)) (r.start + r.count)) (le-leb r.start (r.start + (r.count - 1)) (omega arith)) (lt-ltb (r.start + (r.count - 1)) (r.start + r.count) (omega (arith, some)))

pub runs_end : (p : ℕ → Bool) (len : ℕ) (runs : List Run) → AreRunsBelow p len runs → RunsEnd len runs
runs_end p len runs are = ends_below p len 0 runs are.maximal (λ b h. in_front b (sym (are.exact b) ∙ h))
  where
    in_front : (b : ℕ) → (nat_lt b len && p b) ≡ true → b < len
    in_front b h = ltb-true b len (and_parts (nat_lt b len) (p b) h).0

-- ---- what the records cover

covers_pieces : (unit : ScrubUnit) (ps : List Piece) (b : ℕ) → list_any (covers b) (map of_piece (filter (λ p. not (is_old unit p.claim)) ps)) ≡ is_taken unit ps b
covers_pieces unit [] b = refl
covers_pieces unit (p ∷ ps) b = elim (not (is_old unit p.claim)) as (λ t. list_any (covers b) (map of_piece (if t then p ∷ filter (λ q. not (is_old unit q.claim)) ps else filter (λ q. not (is_old unit q.claim)) ps)) ≡ ((t && is_within b p.run) || is_taken unit ps b)) [
  | true ↦ ap (λ (t : Bool). is_within b p.run || t) (covers_pieces unit ps b)
  | false ↦ covers_pieces unit ps b
]

covers_runs : (runs : List Run) (b : ℕ) → list_any (covers b) (map of_run runs) ≡ holds runs b
covers_runs [] b = refl
covers_runs (r ∷ rs) b = ap (λ (t : Bool). is_within b r || t) (covers_runs rs b)

holds_spans : (free : List SpanRec) (b : ℕ) → holds (map span_run free) b ≡ is_listed free b
holds_spans [] b = refl
holds_spans (s ∷ ss) b = ap (λ (t : Bool). is_within b (span_run s) || t) (holds_spans ss b)

covers_owned : (owner : ℕ) (recs : List RmapRec) (b : ℕ) → list_any (covers b) (filter (λ r. r.owner == owner) recs) ≡ is_given owner recs b
covers_owned owner [] b = refl
covers_owned owner (r ∷ rs) b = elim (r.owner == owner) as (λ t. list_any (covers b) (if t then r ∷ filter (λ x. x.owner == owner) rs else filter (λ x. x.owner == owner) rs) ≡ ((t && covers b r) || is_given owner rs b)) [
  | true ↦ ap (λ (t : Bool). covers b r || t) (covers_owned owner rs b)
  | false ↦ covers_owned owner rs b
]

neither : (x y : Bool) → not (x || y) ≡ (not y && not x)
neither true true = refl
neither true false = refl
neither false true = refl
neither false false = refl

not_twice : (x : Bool) → not (not x) ≡ x
not_twice true = refl
not_twice false = refl

-- ---- blocks of the old inode btrees

covers_old : (ino fino : Bool) (ps : List Piece) (b : ℕ) → list_any (covers b) (map of_piece (filter (λ p. is_read ino fino p.claim) ps)) ≡ is_of_old ino fino ps b
covers_old ino fino [] b = refl
covers_old ino fino (p ∷ ps) b = elim (is_read ino fino p.claim) as (λ t. list_any (covers b) (map of_piece (if t then p ∷ filter (λ q. is_read ino fino q.claim) ps else filter (λ q. is_read ino fino q.claim) ps)) ≡ ((t && is_within b p.run) || is_of_old ino fino ps b)) [
  | true ↦ ap (λ (t : Bool). is_within b p.run || t) (covers_old ino fino ps b)
  | false ↦ covers_old ino fino ps b
]

-- what lies outside of all that lies outside of them
pub old_are : (len : ℕ) (ino fino : Bool) (ps : List Piece) (trees held : List RmapRec) (others runs : List Run) → trees ≡ map of_piece (filter (λ p. is_read ino fino p.claim) ps) → held ≡ map of_run others
    → AreRunsBelow (is_free trees) len others → AreRunsBelow (is_free held) len runs → AreRunsBelow (is_of_old ino fino ps) len runs
unfolding is_free
old_are len ino fino ps trees held others runs of are gaps below = same_below (is_free held) (is_of_old ino fino ps) len runs (λ b lt.
    ap not (ap (list_any (covers b)) are ∙ covers_runs others b)
    ∙ (ap not (gaps.exact b ∙ ap (λ (t : Bool). t && not (list_any (covers b) trees)) (lt-ltb b len lt))
    ∙ (not_twice (list_any (covers b) trees) ∙ (ap (list_any (covers b)) of ∙ covers_old ino fino ps b)))) below

module _ (len : ℕ) (ps : List Piece) where
  free_beside : (unit : ScrubUnit) (runs : List Run) (b : ℕ) → is_free (map of_piece (filter (λ p. not (is_old unit p.claim)) ps) ++ map of_run runs) b ≡ (not (holds runs b) && not (is_taken unit ps b))
  unfolding is_free
  free_beside unit runs b =
      ap not (list_any-append (covers b) (map of_piece (filter (λ p. not (is_old unit p.claim)) ps)) (map of_run runs))
      ∙ (neither (list_any (covers b) (map of_piece (filter (λ p. not (is_old unit p.claim)) ps))) (list_any (covers b) (map of_run runs))
      ∙ λ i. not (covers_runs runs b i) && not (covers_pieces unit ps b i))

  module _ (unit : ScrubUnit) (held : List RmapRec) (others runs : List Run) (are : held ≡ map of_piece (filter (λ p. not (is_old unit p.claim)) ps) ++ map of_run others) where
    pub held_ends : LieBelow len ps → RunsEnd len others → EndWithin len held
    held_ends below end = subst (λ (rs : List RmapRec). EndWithin len rs) (sym are) (ends_joined len (map of_piece (filter (λ p. not (is_old unit p.claim)) ps)) (map of_run others) (ends_of_pieces len (λ p. not (is_old unit p.claim)) ps below) (ends_of_runs len others end))

    beside : (b : ℕ) → is_free held b ≡ (not (holds others b) && not (is_taken unit ps b))
    beside b = ap (λ (rs : List RmapRec). is_free rs b) are ∙ free_beside unit others b

    pub unlisted_are : (free : List SpanRec) → unit ≡ units.Rmap → others ≡ map span_run free → AreRunsBelow (is_free held) len runs → AreRunsBelow (is_unlisted free ps) len runs
    unlisted_are free rmap listed below = same_below (is_free held) (is_unlisted free ps) len runs (λ b lt.
        beside b ∙ λ i. not ((ap (λ (rs : List Run). holds rs b) listed ∙ holds_spans free b) i) && not (is_taken (rmap i) ps b)) below

    given : (owner : ℕ) (mappings owned : List RmapRec) → owned ≡ filter (λ r. r.owner == owner) mappings → AreRunsBelow (is_free owned) len others → (b : ℕ) → b < len → not (holds others b) ≡ is_given owner mappings b
    unfolding is_free
    given owner mappings owned of gaps b lt =
        ap not (gaps.exact b ∙ ap (λ (t : Bool). t && not (list_any (covers b) owned)) (lt-ltb b len lt))
        ∙ (not_twice (list_any (covers b) owned) ∙ (ap (list_any (covers b)) of ∙ covers_owned owner mappings b))

    pub unclaimed_are : (owner : ℕ) (mappings owned : List RmapRec) → owned ≡ filter (λ r. r.owner == owner) mappings → AreRunsBelow (is_free owned) len others → AreRunsBelow (is_free held) len runs
        → AreRunsBelow (is_unclaimed unit owner mappings ps) len runs
    unclaimed_are owner mappings owned of gaps below = same_below (is_free held) (is_unclaimed unit owner mappings ps) len runs (λ b lt.
        beside b ∙ ap (λ (t : Bool). t && not (is_taken unit ps b)) (given owner mappings owned of gaps b lt)) below

-- ---- what a call that may fail answers

pub if_ok : {A E : Type 0} (r : Result A E) (P Q : A → Type 0) → ((x : A) → P x → Q x) → IfOk r P → IfOk r Q
if_ok (Ok x) P Q f h = f x h
if_ok (Err e) P Q f h = tt
