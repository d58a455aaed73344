-- Where a new chunk begins: as the rule finds it in one record of free space after the other, and as a step does.
use Rattle.std.specs.Prelude.{◌≡◌, ◌≤◌, ℕ, ◌+◌, ◌*◌, ◌/◌, List, [], ◌∷◌, Option, None, IfSome, IfNone, find, option_map}
use Rattle.std.specs.Option.{option_or}
use Rattle.span_recs.specs.declared.span.SpanRec.{SpanRec}
use Rattle.free_space.specs.Spans.{IsAlignedIn}
use Rattle.fs_state.specs.Lists.{numbers}
use Rattle.fs_change.specs.Choice.{is_free_unit}

-- from a block on none begins before the end of the one in front of it, and none ends after the limit
abbrev pub LieApart : (from limit : ℕ) → List SpanRec → Type 0
LieApart from limit [] = Unit {0}
LieApart from limit (r ∷ rs) = (from ≤ r.start) × (r.start + r.count ≤ limit) × LieApart (r.start + r.count) limit rs

-- what the rule answers of one record: its lowest block at which a chunk fits, or none
pub record IsAnswer (r : SpanRec) (answer : Option ℕ) : Type 0 where
  pub found : IfSome answer (λ b. IsAlignedIn r b)
  pub lowest : IfSome answer (λ b. (k : ℕ) → IsAlignedIn r k → b ≤ k)
  pub none : (k : ℕ) → IfNone answer (IsAlignedIn r k → ⊥)

-- of each of these
abbrev pub AreAnswers : (SpanRec → Option ℕ) → List SpanRec → Type 0
AreAnswers answer [] = Unit {0}
AreAnswers answer (r ∷ rs) = IsAnswer r (answer r) × AreAnswers answer rs

-- the first of the answers
abbrev pub first_answer : (SpanRec → Option ℕ) → List SpanRec → Option ℕ
first_answer answer [] = None
first_answer answer (r ∷ rs) = option_or (answer r) (first_answer answer rs)

-- of records that lie apart, in a group of that length
abbrev pub ChunkRunsAlike : Type 0
ChunkRunsAlike =
    (answer : SpanRec → Option ℕ) (length : ℕ) (rs : List SpanRec) → AreAnswers answer rs → LieApart 0 length rs
    → option_map (λ u. 8 * u) (find (is_free_unit rs) (numbers 0 (length / 8))) ≡ first_answer answer rs
