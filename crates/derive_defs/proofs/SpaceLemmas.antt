-- Records of free space as runs, and what the maximal runs of the free blocks have.
use Rattle.std.proofs.Common.{◌≡◌, ℕ, zero, suc, ◌+◌, ◌-◌, ◌<◌, ◌≤◌, Bool, true, false, ◌&&◌, ◌||◌, List, [], ◌∷◌, ◌++◌, map, refl, ap, subst, sym, ◌∙◌, arith}
use Rattle.std.specs.Prelude.{nat_le, nat_lt}
use Rattle.std.specs.List.{list_any}
use Rattle.std.proofs.lemmas.Bool.{le-leb, lt-ltb, ltb-true, false≢true}
use Rattle.std.proofs.lemmas.List.Sums.{sum_by-cons}
use Rattle.run_sets.specs.declared.run.Run.{Run}
use Rattle.run_sets.specs.Runs.{holds, is_within, runs_below, AreMaximal, EndWithin}
use Rattle.run_sets.proofs.OnlyRunsLemmas.{within_true, only_runs_below, runs_if_only}
use Rattle.run_sets.proofs.RunsLemmas.{later}
use Rattle.sblock.specs.Lists.{Rises, Each}
use Rattle.sblock.specs.declared.block.Bounds.{Bounds}
use Rattle.span_recs.specs.Spans.{is_before_by_start, is_span_in_range}
use Rattle.span_recs.specs.declared.span.SpanRec.{SpanRec}
use Rattle.rmap_recs.specs.declared.records.RmapRec.{RmapRec}
use Rattle.derive_defs.specs.Free.{is_free, run_of, span_of, free_space, AreFree, block_count}

-- ---- records and runs

pub none_run : (free : List SpanRec) → free ≡ [] → map run_of free ≡ []
none_run free none = rw none refl

runs_of_both : (xs ys : List SpanRec) → map run_of (xs ++ ys) ≡ map run_of xs ++ map run_of ys
runs_of_both [] ys = refl
runs_of_both (x ∷ xs) ys = ap (λ (rs : List Run). run_of x ∷ rs) (runs_of_both xs ys)

pub one_more_run : (old new : List SpanRec) (r : SpanRec) → new ≡ old ++ r ∷ [] → map run_of new ≡ map run_of old ++ run_of r ∷ []
one_more_run old new r more = ap (map run_of) more ∙ runs_of_both old (r ∷ [])

spans_of_runs : (free : List SpanRec) → map span_of (map run_of free) ≡ free
spans_of_runs [] = refl
spans_of_runs (r ∷ free) = ap (λ (rs : List SpanRec). r ∷ rs) (spans_of_runs free)

runs_of_spans : (runs : List Run) → map run_of (map span_of runs) ≡ runs
runs_of_spans [] = refl
runs_of_spans (r ∷ runs) = ap (λ (rs : List Run). r ∷ rs) (runs_of_spans runs)

pub free_if_runs : (len : ℕ) (mappings : List RmapRec) (free : List SpanRec) → map run_of free ≡ runs_below (is_free mappings) len → free ≡ free_space len mappings
unfolding free_space
free_if_runs len mappings free is = sym (spans_of_runs free) ∙ ap (map span_of) is

pub runs_if_free : (len : ℕ) (mappings : List RmapRec) (free : List SpanRec) → free ≡ free_space len mappings → map run_of free ≡ runs_below (is_free mappings) len
unfolding free_space
runs_if_free len mappings free is = ap (map run_of) is ∙ runs_of_spans (runs_below (is_free mappings) len)

-- ---- only one list

pub are_free : (len : ℕ) (mappings : List RmapRec) (free : List SpanRec) → free ≡ free_space len mappings → AreFree len mappings free
are_free len mappings free is = runs_if_only (is_free mappings) len (map run_of free) (runs_if_free len mappings free is)

pub only_free : (len : ℕ) (mappings : List RmapRec) (free : List SpanRec) → AreFree len mappings free → free ≡ free_space len mappings
only_free len mappings free h = free_if_runs len mappings free (only_runs_below (is_free mappings) len (map run_of free) h)

-- ---- their order

rise_if_maximal : (from : ℕ) (free : List SpanRec) → AreMaximal from (map run_of free) → Rises is_before_by_start free
rise_if_maximal from [] m = tt
rise_if_maximal from (r ∷ []) m = (tt, tt)
rise_if_maximal from (r ∷ s ∷ free) m = (lt-ltb r.start s.start (omega (arith, m.2.0)), rise_if_maximal (r.start + r.count + 1) (s ∷ free) m.2)

pub free_rise : (len : ℕ) (mappings : List RmapRec) (free : List SpanRec) → free ≡ free_space len mappings → Rises is_before_by_start free
free_rise len mappings free is = rise_if_maximal 0 free (are_free len mappings free is).maximal

-- ---- their range

-- the blocks in the runs pass, and lie below the length
abbrev Lie : (ℕ → Bool) → ℕ → List Run → Type 0
Lie p len rs = (b : ℕ) → holds rs b ≡ true → (b < len) × (p b ≡ true)

both_true : (a b : Bool) → (a && b) ≡ true → (a ≡ true) × (b ≡ true)
both_true true b h = (refl, h)
both_true false b h = absurd (false≢true h)

lie_below : (p : ℕ → Bool) (len : ℕ) (rs : List Run) → ((b : ℕ) → holds rs b ≡ (nat_lt b len && p b)) → Lie p len rs
lie_below p len rs exact b h = let both = both_true (nat_lt b len) (p b) (sym (exact b) ∙ h) in (ltb-true b len both.0, both.1)

first_lies : (r : Run) (rs : List Run) (b : ℕ) → r.start ≤ b → b < r.start + r.count → holds (r ∷ rs) b ≡ true
first_lies r rs b low high = let here = within_true b r low high in rw here refl

rest_lies : (p : ℕ → Bool) (len : ℕ) (r : Run) (rs : List Run) → Lie p len (r ∷ rs) → Lie p len rs
rest_lies p len r rs lie b h = lie b (either_true (is_within b r) (list_any (is_within b) rs) h)
  where
    either_true : (x y : Bool) → y ≡ true → (x || y) ≡ true
    either_true true y k = refl
    either_true false y k = k

end_within : (p : ℕ → Bool) (len from : ℕ) (rs : List Run) → AreMaximal from rs → Lie p len rs → EndWithin len rs
end_within p len from [] m lie = tt
end_within p len from (r ∷ rs) m lie =
    let last = lie (r.start + r.count - 1) (first_lies r rs (r.start + r.count - 1) (omega (arith, m.1)) (omega (arith, m.1))) in
    (omega (arith, m.1, last.0), end_within p len (r.start + r.count + 1) rs m.2 (rest_lies p len r rs lie))

-- a run of blocks that pass begins behind block 0, where that one doesn't pass
begins_behind : (p : ℕ → Bool) (len : ℕ) (r : Run) (rs : List Run) → 0 < r.count → Lie p len (r ∷ rs) → p 0 ≡ false → 1 ≤ r.start
begins_behind p len r rs some lie none = above r.start refl
  where
    above : (s : ℕ) → r.start ≡ s → 1 ≤ r.start
    above zero is = absurd (false≢true (sym none ∙ (lie 0 (first_lies r rs 0 (omega (arith, is)) (omega (arith, is, some)))).1))
    above (suc s) is = omega (arith, is)

span_inside : (bounds : Bounds) (r : SpanRec) → 1 ≤ r.start → 0 < r.count → r.start + r.count ≤ bounds.length → is_span_in_range bounds r ≡ true
unfolding is_span_in_range
span_inside bounds r low some high =
    let a : nat_le 1 r.start ≡ true = le-leb 1 r.start low in
    let b : nat_le 1 r.count ≡ true = le-leb 1 r.count (omega (arith, some)) in
    let c : nat_le (r.start + r.count) bounds.length ≡ true = le-leb (r.start + r.count) bounds.length high in
    rw (a, b, c) refl

all_inside : (p : ℕ → Bool) (bounds : Bounds) (from : ℕ) (free : List SpanRec) → AreMaximal from (map run_of free) → EndWithin bounds.length (map run_of free) → Lie p bounds.length (map run_of free) → p 0 ≡ false → Each (is_span_in_range bounds) free
all_inside p bounds from [] m e lie none = tt
all_inside p bounds from (r ∷ free) m e lie none = (
  span_inside bounds r (begins_behind p bounds.length (run_of r) (map run_of free) m.1 lie none) m.1 e.0,
  all_inside p bounds (r.start + r.count + 1) free m.2 e.1 (rest_lies p bounds.length (run_of r) (map run_of free) lie) none,
)

pub free_inside : (len : ℕ) (mappings : List RmapRec) (free : List SpanRec) → free ≡ free_space len mappings → is_free mappings 0 ≡ false → (bounds : Bounds) → bounds.length ≡ len → Each (is_span_in_range bounds) free
free_inside len mappings free is none bounds same =
    let are = are_free len mappings free is in
    let lie : Lie (is_free mappings) len (map run_of free) = lie_below (is_free mappings) len (map run_of free) are.exact in
    let lie' : Lie (is_free mappings) bounds.length (map run_of free) = subst (λ (n : ℕ). Lie (is_free mappings) n (map run_of free)) (sym same) lie in
    all_inside (is_free mappings) bounds 0 free are.maximal (end_within (is_free mappings) bounds.length 0 (map run_of free) are.maximal lie') lie' none

-- ---- their blocks together

fit_behind : (len from : ℕ) (free : List SpanRec) → from ≤ len → AreMaximal from (map run_of free) → EndWithin len (map run_of free) → block_count free + from ≤ len
fit_behind len from [] le m e = omega (arith, le)
fit_behind len from (r ∷ free) le m e =
    let rest : block_count free + (r.start + r.count) ≤ len = fit_behind len (r.start + r.count) free e.0 (later (r.start + r.count) (r.start + r.count + 1) (map run_of free) (omega arith) m.2) e.1 in
    omega (arith, rest, m.0, sum_by-cons (λ (s : SpanRec). s.count) r free)

pub free_fit : (len : ℕ) (mappings : List RmapRec) (free : List SpanRec) → free ≡ free_space len mappings → block_count free ≤ len
free_fit len mappings free is =
    let are = are_free len mappings free is in
    let lie = lie_below (is_free mappings) len (map run_of free) are.exact in
    let fits = fit_behind len 0 free (omega arith) are.maximal (end_within (is_free mappings) len 0 (map run_of free) are.maximal lie) in
    omega (arith, fits)
