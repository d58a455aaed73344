-- Blocks of a stretch are counted by one record.
use Rattle.std.proofs.Common.{◌≡◌, ℕ, ◌+◌, ◌-◌, ◌<◌, ◌≤◌, Bool, true, false, List, [], ◌∷◌, refl, sym, ap, ◌∙◌, arith, Option, Some, None, min, inl, inr}
use Rattle.std.specs.Prelude.{◌⊎◌, nat_le, nat_lt, if◌then◌else◌}
use Rattle.std.specs.Option.{option_or}
use Rattle.std.proofs.lemmas.Bool.Decides.{nat_tests}
use Rattle.span_recs.specs.declared.refcount.RefcRec.{RefcRec}
use Rattle.defer_chain.specs.Stretch.{refc_end, last_at, reaching, counter_of, up_to_end, up_to_next, stretch_count, IsAhead, StretchLaw}

both_before : (a b x : ℕ) → b ≤ x → a ≤ b → nat_le a x ≡ nat_le a b
both_before a b x h i = grind (arith, nat_tests)

both_behind : (a b x s : ℕ) → b ≤ x → x < s → s ≤ a → nat_le a x ≡ nat_le a b
both_behind a b x s h i j = grind (arith, nat_tests)

same_last : (rs : List RefcRec) (b x : ℕ) (next : Option ℕ) → b ≤ x → IsAhead b next rs → ((s : ℕ) → next ≡ Some s → x < s) → last_at x rs ≡ last_at b rs
same_last [] b x next h ahead below = refl
same_last (r ∷ rs) b x None h ahead below =
    ap (λ o. option_or o (if nat_le r.start x then Some r else None)) (same_last rs b x None h ahead.1 below)
    ∙ ap (λ t. option_or (last_at b rs) (if t then Some r else None)) (both_before r.start b x h ahead.0)
same_last (r ∷ rs) b x (Some s) h ahead below =
    ap (λ o. option_or o (if nat_le r.start x then Some r else None)) (same_last rs b x (Some s) h ahead.1 below)
    ∙ ap (λ t. option_or (last_at b rs) (if t then Some r else None)) (elim ahead.0 [
      | inl early ↦ both_before r.start b x h early
      | inr late ↦ both_behind r.start b x s h (below s refl) late
    ])

inside : (b x n e : ℕ) → nat_lt b e ≡ true → x < b + min n (e - b) → nat_lt x e ≡ true
inside b x n e l j = grind (arith, nat_tests)

outside : (b x e : ℕ) → b ≤ x → nat_lt b e ≡ false → nat_lt x e ≡ false
outside b x e h j = grind (arith, nat_tests)

-- within the reach of the record over the first block
same_reach : (o : Option RefcRec) (b n x : ℕ) → b ≤ x → x < b + up_to_end b n (reaching b o) → reaching x o ≡ reaching b o
same_reach None b n x h i = refl
same_reach (Some r) b n x h i = by_test (nat_lt b (refc_end r)) refl i
  where
    by_test : (t : Bool) → nat_lt b (refc_end r) ≡ t → x < b + up_to_end b n (if t then Some r else None) → (if nat_lt x (refc_end r) then Some r else None) ≡ (if t then Some r else None)
    by_test true e j = ap (λ t. if t then Some r else None) (inside b x n (refc_end r) e j)
    by_test false e j = ap (λ t. if t then Some r else None) (outside b x (refc_end r) h e)

next_below : (b m x : ℕ) (next : Option ℕ) → x < b + up_to_next b m next → b ≤ x → (s : ℕ) → next ≡ Some s → x < s
next_below b m x None i h s e = cc
next_below b m x (Some t) i h s e = along t s (same t s e) (below b m x t i h)
  where
    same : (t s : ℕ) → (let o : Option ℕ = Some t in o) ≡ Some s → t ≡ s
    same t s e = cc

    along : (t s : ℕ) → t ≡ s → x < t → x < s
    along t s e l = omega (arith, e, l)

    below : (b m x t : ℕ) → x < b + min m (t - b) → b ≤ x → x < t
    below b m x t i h = omega arith

less_end : (b m x : ℕ) (next : Option ℕ) → x < b + up_to_next b m next → x < b + m
less_end b m x None i = i
less_end b m x (Some s) i = omega (arith, i)

pub stretch_law : StretchLaw
stretch_law rs b n next ahead x h i =
    ap (reaching x) (same_last rs b x next h ahead (next_below b (up_to_end b n (counter_of rs b)) x next i h))
    ∙ same_reach (last_at b rs) b n x h (less_end b (up_to_end b n (counter_of rs b)) x next i)
