-- A new chunk begins where a step has it begin.
use Rattle.std.proofs.Common.{◌≡◌, ℕ, ◌+◌, ◌*◌, ◌/◌, ◌%◌, ◌<◌, ◌≤◌, Bool, true, false, ◌&&◌, ◌||◌, List, [], ◌∷◌, Option, Some, None, refl, sym, ap, ◌∙◌, arith}
use Rattle.std.specs.Prelude.{find, nat_le, option_map}
use Rattle.std.specs.Option.{option_or}
use Rattle.std.proofs.lemmas.Bool.{and_parts, false≢true, le-leb, leb-true}
use Rattle.span_recs.specs.declared.span.SpanRec.{SpanRec}
use Rattle.free_space.specs.Spans.{IsAlignedIn}
use Rattle.fs_state.specs.Lists.{numbers}
use Rattle.fs_change.specs.Choice.{is_free_unit}
use Rattle.rule_laws.proofs.InodeLemmas.{find_lowest, find_none}
use Rattle.rule_laws.specs.Runs.{AreAnswers, ChunkRunsAlike, IsAnswer, LieApart, first_answer}

-- ---- one record

-- the aligned blocks of a unit lie in the record
abbrev has_unit : SpanRec → ℕ → Bool
has_unit r u = nat_le r.start (8 * u) && nat_le (8 * u + 8) (r.start + r.count)

in_record : (r : SpanRec) (u : ℕ) → has_unit r u ≡ true → IsAlignedIn r (8 * u)
in_record r u h =
    let parts = and_parts (nat_le r.start (8 * u)) (nat_le (8 * u + 8) (r.start + r.count)) h in
    record { aligned = omega arith; starts = leb-true r.start (8 * u) parts.0; ends = leb-true (8 * u + 8) (r.start + r.count) parts.1 }

of_unit : (r : SpanRec) (b : ℕ) → IsAlignedIn r b → has_unit r (b / 8) ≡ true
of_unit r b is =
    ap (λ (t : Bool). t && nat_le (8 * (b / 8) + 8) (r.start + r.count)) (le-leb r.start (8 * (b / 8)) (omega (arith, is.aligned, is.starts)))
    ∙ le-leb (8 * (b / 8) + 8) (r.start + r.count) (omega (arith, is.aligned, is.ends))

-- ---- records that lie apart

-- a unit of theirs begins where they do, or later
lies : (from limit : ℕ) (rs : List SpanRec) → LieApart from limit rs → (u : ℕ) → is_free_unit rs u ≡ true → from ≤ 8 * u
lies from limit [] apart u h = absurd (false≢true h)
lies from limit (r ∷ rs) apart u h = by_first (has_unit r u) refl h (λ i. lies (r.start + r.count) limit rs apart.2 u i)
  where
    by_first : (t : Bool) → has_unit r u ≡ t → (t || is_free_unit rs u) ≡ true → (is_free_unit rs u ≡ true → r.start + r.count ≤ 8 * u) → from ≤ 8 * u
    by_first true e i rest = let is = in_record r u e in omega (arith, apart.0, is.starts)
    by_first false e i rest = let later = rest i in omega (arith, apart.0, later)

-- a block is that of the lowest unit, or there is no unit
abbrev Finds : (from limit : ℕ) → List SpanRec → Option ℕ → Type 0
Finds from limit rs None = (u : ℕ) → is_free_unit rs u ≡ false
Finds from limit rs (Some b) = (b % 8 ≡ 0) × (from ≤ b) × (b + 8 ≤ limit) × (is_free_unit rs (b / 8) ≡ true) × ((u : ℕ) → is_free_unit rs u ≡ true → b ≤ 8 * u)

finds : (answer : SpanRec → Option ℕ) (from limit : ℕ) (rs : List SpanRec) → AreAnswers answer rs → LieApart from limit rs → Finds from limit rs (first_answer answer rs)
finds answer from limit [] answers apart = λ u. refl
finds answer from limit (r ∷ rs) answers apart = by_answer (answer r) answers.0 (finds answer (r.start + r.count) limit rs answers.1 apart.2)
  where
    by_answer : (o : Option ℕ) → IsAnswer r o → Finds (r.start + r.count) limit rs (first_answer answer rs) → Finds from limit (r ∷ rs) (option_or o (first_answer answer rs))
    by_answer (Some b) is behind = (is.found.aligned, omega (arith, apart.0, is.found.starts), omega (arith, is.found.ends, apart.1), here, least)
      where
        here : is_free_unit (r ∷ rs) (b / 8) ≡ true
        here = ap (λ (t : Bool). t || is_free_unit rs (b / 8)) (of_unit r b is.found)

        least : (u : ℕ) → is_free_unit (r ∷ rs) u ≡ true → b ≤ 8 * u
        least u h = by_first (has_unit r u) refl h
          where
            by_first : (t : Bool) → has_unit r u ≡ t → (t || is_free_unit rs u) ≡ true → b ≤ 8 * u
            by_first true e i = is.lowest (8 * u) (in_record r u e)
            by_first false e i = let later = lies (r.start + r.count) limit rs apart.2 u i in omega (arith, is.found.ends, later)
    by_answer None is behind = by_rest (first_answer answer rs) behind
      where
        not_here : (u : ℕ) → has_unit r u ≡ false
        not_here u = by_first (has_unit r u) refl
          where
            by_first : (t : Bool) → has_unit r u ≡ t → has_unit r u ≡ false
            by_first true e = absurd (is.none (8 * u) (in_record r u e))
            by_first false e = e

        same : (u : ℕ) → is_free_unit (r ∷ rs) u ≡ is_free_unit rs u
        same u = ap (λ (t : Bool). t || is_free_unit rs u) (not_here u)

        by_rest : (o : Option ℕ) → Finds (r.start + r.count) limit rs o → Finds from limit (r ∷ rs) o
        by_rest None none = λ u. same u ∙ none u
        by_rest (Some b) f = (f.0, omega (arith, apart.0, f.1), f.2, same (b / 8) ∙ f.3, λ u h. f.4 u (sym (same u) ∙ h))

pub chunk_runs_alike : ChunkRunsAlike
chunk_runs_alike answer length rs answers apart = by_found (first_answer answer rs) (finds answer 0 length rs answers apart)
  where
    by_found : (o : Option ℕ) → Finds 0 length rs o → option_map (λ (u : ℕ). 8 * u) (find (is_free_unit rs) (numbers 0 (length / 8))) ≡ o
    by_found None none = ap (option_map (λ (u : ℕ). 8 * u)) (find_none (is_free_unit rs) 0 (length / 8) none)
    by_found (Some b) f = ap (option_map (λ (u : ℕ). 8 * u)) (find_lowest (is_free_unit rs) 0 (length / 8) (b / 8) (omega arith) (omega (arith, f.0, f.2)) f.3 before) ∙ ap Some whole
      where
        whole : 8 * (b / 8) ≡ b
        whole = omega (arith, f.0)

        before : (u : ℕ) → u < b / 8 → is_free_unit rs u ≡ false
        before u low = by_test (is_free_unit rs u) refl
          where
            by_test : (t : Bool) → is_free_unit rs u ≡ t → is_free_unit rs u ≡ false
            by_test true e = let later = f.4 u e in absurd (omega (arith, low, f.0, later))
            by_test false e = e
