-- A line that is too long is wrong, whatever follows.
use Rattle.std.proofs.Common.{◌≡◌, ◌≢◌, ◌≤◌, ◌<◌, ◌+◌, ◌∙◌, ℕ, true, false, [], ◌∷◌, ◌++◌, Some, None, Err, refl, ap, sym, length, take, arith}
use Rattle.std.proofs.lemmas.Bool.Decides.{nat_tests}
use Rattle.std.proofs.lemmas.List.{length-append, length-take}
use Rattle.std.specs.Prelude.{◌==◌, if◌then◌else◌}
use Rattle.script_defs.specs.Words.{Text}
use Rattle.script_defs.specs.Operations.{said_of}
use Rattle.script_defs.specs.Texts.{Sheet, put, is_past, with_said, with_byte, read_from, then_read, at_end, by_end}
use Rattle.script_read.proofs.LongLemmas.{long_says_nothing}
use Rattle.script_read.proofs.StepLemmas.{put_other, put_past, read_by}

ends_wrong : (s : Sheet) (t : Text) → 0 < length t → by_end s t ≡ Err s.number
ends_wrong s [] h = absurd (omega (arith, h))
ends_wrong s (b ∷ bs) h = refl

longer : (t : Text) (b k : ℕ) → k ≤ length t → k ≤ length (t ++ (b ∷ []))
longer t b k h = omega (arith, h, length-append t (b ∷ []))

pub long_is_wrong : (bs : Text) (s : Sheet) → 87 ≤ length s.text → read_from bs s ≡ Err s.number
unfolding read_from at_end put
long_is_wrong [] s h = ends_wrong s s.text (omega (arith, h))
long_is_wrong (b ∷ bs) s h = elim (is_past s) as (λ t. then_read s.number (read_from bs) (if t then None else (if b == 10 then with_said s (said_of s.text) else Some (with_byte b s))) ≡ Err s.number) [
  | true ↦ refl
  | false ↦ elim (b == 10) as (λ t. then_read s.number (read_from bs) (if t then with_said s (said_of s.text) else Some (with_byte b s)) ≡ Err s.number) [
    | true ↦ ap (λ (x : _). then_read s.number (read_from bs) (with_said s x)) (long_says_nothing s.text h)
    | false ↦ long_is_wrong bs (with_byte b s) (longer s.text b 87 h)
  ]
]

pub not_past : (s : Sheet) → s.taken < 4194304 → s.number < 65537 → is_past s ≡ false
unfolding is_past
not_past s h k = grind (arith, nat_tests)

pub past : (s : Sheet) → (4194304 ≤ s.taken) → is_past s ≡ true
unfolding is_past
past s h = grind (arith, nat_tests)

pub past_lines : (s : Sheet) → 65536 < s.number → is_past s ≡ true
unfolding is_past
past_lines s h = grind (arith, nat_tests)

pub differs : (b : ℕ) → b ≢ 10 → (b == 10) ≡ false
differs b h = grind (arith, nat_tests)

-- one byte more makes the line too long
pub too_long : (b : ℕ) (s : Sheet) → 86 ≤ length s.text → b ≢ 10 → is_past s ≡ false → (more : Text) → read_from (b ∷ more) s ≡ Err s.number
too_long b s h n p more = read_by b more s (Some (with_byte b s)) (put_other b s (differs b n) p) ∙ long_is_wrong more (with_byte b s) (omega (arith, h, length-append s.text (b ∷ [])))

pub added : (b : ℕ) (s : Sheet) (t : Text) → b ≢ 10 → is_past s ≡ false → t ≡ s.text ++ (b ∷ []) → (more : Text) → read_from (b ∷ more) s ≡ read_from more (record s { text = t; taken = s.taken + 1 })
added b s t n p e more = read_by b more s (Some (with_byte b s)) (put_other b s (differs b n) p) ∙ ap (λ (x : Text). read_from more (record s { text = x; taken = s.taken + 1 })) (sym e)

pub taken_size : (t : Text) (n k : ℕ) → k ≤ n → k ≤ length t → k ≤ length (take n t)
taken_size t n k h l = grind (arith, length-take)

pub is_past_wrong : (b : ℕ) (s : Sheet) → is_past s ≡ true → (more : Text) → read_from (b ∷ more) s ≡ Err s.number
is_past_wrong b s h more = read_by b more s None (put_past b s h)
