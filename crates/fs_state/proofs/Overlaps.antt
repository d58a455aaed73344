-- No claims overlap exactly where any two on one block are of written file data.
use Rattle.std.proofs.Common.{◌≡◌, ℕ, zero, suc, ◌+◌, ◌<◌, ◌≤◌, Bool, true, false, List, [], ◌∷◌, Option, Some, None, refl, ap, sym, subst, ◌∙◌, inl, inr, arith}
use Rattle.std.specs.Prelude.{◌⊎◌, ◌==◌, not, map, filter, if◌then◌else◌}
use Rattle.std.specs.List.{list_any}
use Rattle.std.proofs.lemmas.Bool.{false≢true, eqb-true, eq-eqb, cases_Bool, cases_lt}
use Rattle.fs_model.specs.declared.claim.Evidence.{Evidence}
use Rattle.geom.specs.Layout.{group_len_of}
use Rattle.fs_state.specs.Claims.{Claimed}
use Rattle.fs_state.specs.Contradiction.{is_written_data, overlap_in, first_overlap}
use Rattle.fs_state.specs.Laws.{StandsBeside, StandTogether, NoOverlapExactly}
use Rattle.fs_state.specs.Lists.{numbers, first_of_all}

-- ---- the first that there is

some_none : {A : Type 0} (x : A) → ◌≡◌ {A = Option A} (Some x) None → ⊥
some_none x e = cc

first_none : (o : Option Evidence) (os : List (Option Evidence)) → first_of_all (o ∷ os) ≡ None → (o ≡ None) × (first_of_all os ≡ None)
first_none None os h = (refl, h)
first_none (Some x) os h = absurd (some_none x h)

none_each : (f : ℕ → Option Evidence) (a n : ℕ) → first_of_all (map f (numbers a n)) ≡ None → (b : ℕ) → a ≤ b → b < a + n → f b ≡ None
none_each f a zero h b low high = absurd (omega (arith, low, high))
none_each f a (suc n) h b low high =
    let parts = first_none (f a) (map f (numbers (a + 1) n)) h in
    elim (cases_lt a b) [
      | inl later ↦ none_each f (a + 1) n parts.1 b (omega (arith, later)) (omega (arith, high))
      | inr now ↦ let same : b ≡ a = omega (arith, low, now) in ap f same ∙ parts.0
    ]

each_none : (f : ℕ → Option Evidence) (a n : ℕ) → ((b : ℕ) → a ≤ b → b < a + n → f b ≡ None) → first_of_all (map f (numbers a n)) ≡ None
each_none f a zero h = refl
each_none f a (suc n) h =
    rw (h a (omega arith) (omega arith)) (each_none f (a + 1) n (λ b low high. h b (omega (arith, low)) (omega (arith, high))))

-- ---- claims on one block

AllWritten : List Claimed → Type 0
AllWritten [] = Unit {0}
AllWritten (c ∷ cs) = (is_written_data c ≡ true) × AllWritten cs

none_any : (cs : List Claimed) → list_any (λ e. not (is_written_data e)) cs ≡ false → AllWritten cs
unfolding AllWritten
none_any [] h = tt
none_any (c ∷ cs) h =
    elim (cases_Bool (is_written_data c)) [
      | inl written ↦ let rest = rw written at h in (written, none_any cs rest)
      | inr other ↦ let bad = rw other at h in absurd (false≢true (sym bad))
    ]

any_none : (cs : List Claimed) → AllWritten cs → list_any (λ e. not (is_written_data e)) cs ≡ false
unfolding AllWritten
any_none [] h = refl
any_none (c ∷ cs) h = rw h.0 (any_none cs h.1)

written_quiet : (cs : List Claimed) → AllWritten cs → overlap_in cs ≡ None
unfolding AllWritten
written_quiet [] h = refl
written_quiet (c ∷ []) h = refl
written_quiet (c ∷ d ∷ cs) h = rw (any_none (c ∷ d ∷ cs) h) refl

if_none : (t : Bool) (x : Evidence) → (if t then Some x else None) ≡ None → t ≡ false
if_none true x h = absurd (some_none x h)
if_none false x h = refl

quiet : (c : Claimed) (cs : List Claimed) → overlap_in (c ∷ cs) ≡ None → (cs ≡ []) ⊎ AllWritten (c ∷ cs)
quiet c [] h = inl refl
quiet c (d ∷ cs) h = inr (none_any (c ∷ d ∷ cs) (if_none (list_any (λ e. not (is_written_data e)) (c ∷ d ∷ cs)) _ h))

-- all but the first
rest_quiet : (c : Claimed) (cs : List Claimed) → (cs ≡ []) ⊎ AllWritten (c ∷ cs) → overlap_in cs ≡ None
unfolding AllWritten
rest_quiet c cs (inl none) = rw none refl
rest_quiet c cs (inr all) = written_quiet cs all.1

all_quiet : (c : Claimed) (cs : List Claimed) → (cs ≡ []) ⊎ AllWritten (c ∷ cs) → overlap_in (c ∷ cs) ≡ None
all_quiet c cs (inl none) = rw none refl
all_quiet c cs (inr all) = written_quiet (c ∷ cs) all

left_written : (c : Claimed) (cs : List Claimed) → (cs ≡ []) ⊎ AllWritten (c ∷ cs) → AllWritten cs
unfolding AllWritten
left_written c cs (inl none) = rw none tt
left_written c cs (inr all) = all.1

module _ (b : ℕ) where
  abbrev on : List Claimed → List Claimed
  on cs = filter (λ (c : Claimed). c.block == b) cs

  Beside : Claimed → List Claimed → Type 0
  Beside c [] = Unit {0}
  Beside c (d ∷ ds) = (c.block ≡ b → d.block ≡ b → (is_written_data c ≡ true) × (is_written_data d ≡ true)) × Beside c ds

  Together : List Claimed → Type 0
  Together [] = Unit {0}
  Together (c ∷ cs) = Beside c cs × Together cs

  not_here : (n : ℕ) → (n == b) ≡ false → n ≡ b → ⊥
  not_here n other same = false≢true (sym other ∙ eq-eqb n b same)

  elsewhere : (c : Claimed) (ds : List Claimed) → (c.block == b) ≡ false → Beside c ds
  unfolding Beside
  elsewhere c [] other = tt
  elsewhere c (d ∷ ds) other = (λ here there. absurd (not_here c.block other here), elsewhere c ds other)

  more : (c : Claimed) (cs : List Claimed) → c ∷ cs ≡ [] → ⊥
  more c cs e = cc

  alone : (c : Claimed) (ds : List Claimed) → on ds ≡ [] → Beside c ds
  unfolding Beside
  alone c [] none = tt
  alone c (d ∷ ds) none =
      elim (cases_Bool (d.block == b)) [
        | inl here ↦ let some = rw here at none in absurd (more d (on ds) some)
        | inr other ↦ let rest = rw other at none in (λ first second. absurd (not_here d.block other second), alone c ds rest)
      ]

  among_written : (c : Claimed) (ds : List Claimed) → is_written_data c ≡ true → AllWritten (on ds) → Beside c ds
  unfolding Beside AllWritten
  among_written c [] written all = tt
  among_written c (d ∷ ds) written all =
      elim (cases_Bool (d.block == b)) [
        | inl here ↦ let both = rw here at all in (λ first second. (written, both.0), among_written c ds written both.1)
        | inr other ↦ let rest = rw other at all in (λ first second. absurd (not_here d.block other second), among_written c ds written rest)
      ]

  beside_from : (c : Claimed) (ds : List Claimed) → (on ds ≡ []) ⊎ AllWritten (c ∷ on ds) → Beside c ds
  unfolding AllWritten
  beside_from c ds (inl none) = alone c ds none
  beside_from c ds (inr all) = among_written c ds all.0 all.1

  from_none : (cs : List Claimed) → overlap_in (on cs) ≡ None → Together cs
  unfolding Together
  from_none [] h = tt
  from_none (c ∷ cs) h =
      elim (cases_Bool (c.block == b)) [
        | inl here ↦
            let some = rw here at h in
            let q = quiet c (on cs) some in
            (beside_from c cs q, from_none cs (rest_quiet c (on cs) q))
        | inr other ↦ let rest = rw other at h in (elsewhere c cs other, from_none cs rest)
      ]

  gathered : (c : Claimed) (ds : List Claimed) → c.block ≡ b → Beside c ds → (on ds ≡ []) ⊎ AllWritten (c ∷ on ds)
  unfolding Beside AllWritten
  gathered c [] here h = inl refl
  gathered c (d ∷ ds) here h =
      elim (cases_Bool (d.block == b)) [
        | inl there ↦
            let both = h.0 here (eqb-true d.block b there) in
            rw there (inr (both.0, (both.1, left_written c (on ds) (gathered c ds here h.1))))
        | inr other ↦ rw other (gathered c ds here h.1)
      ]

  to_none : (cs : List Claimed) → Together cs → overlap_in (on cs) ≡ None
  unfolding Together
  to_none [] h = refl
  to_none (c ∷ cs) h =
      elim (cases_Bool (c.block == b)) [
        | inl here ↦ rw here (all_quiet c (on cs) (gathered c cs (eqb-true c.block b here) h.0))
        | inr other ↦ rw other (to_none cs h.1)
      ]

-- ---- claims on all blocks

module _ (len : ℕ) where
  beside_at : (b : ℕ) → b < len → (c : Claimed) (ds : List Claimed) → StandsBeside len c ds → Beside b c ds
  unfolding Beside
  beside_at b lt c [] h = tt
  beside_at b lt c (d ∷ ds) h =
      (λ here there. h.0 (subst (λ n. n < len) (sym here) lt) (there ∙ sym here), beside_at b lt c ds h.1)

  together_at : (b : ℕ) → b < len → (cs : List Claimed) → StandTogether len cs → Together b cs
  unfolding Together
  together_at b lt [] h = tt
  together_at b lt (c ∷ cs) h = (beside_at b lt c cs h.0, together_at b lt cs h.1)

  stands : (c : Claimed) (ds : List Claimed) → (c.block < len → Beside c.block c ds) → StandsBeside len c ds
  unfolding Beside
  stands c [] h = tt
  stands c (d ∷ ds) h = (λ lt same. (h lt).0 refl same, stands c ds (λ lt. (h lt).1))

  stand_all : (cs : List Claimed) → ((b : ℕ) → b < len → Together b cs) → StandTogether len cs
  unfolding Together
  stand_all [] h = tt
  stand_all (c ∷ cs) h = (stands c cs (λ lt. (h c.block lt).0), stand_all cs (λ b lt. (h b lt).1))

pub no_overlap_exactly : NoOverlapExactly
unfolding first_overlap
no_overlap_exactly a g cs =
    let len = group_len_of a.geometry g in
    let at_block : ℕ → Option Evidence = λ b. overlap_in (filter (λ (c : Claimed). c.block == b) cs) in (
      λ none. stand_all len cs (λ b lt. from_none b cs (none_each at_block 0 len none b (omega arith) (omega (arith, lt)))),
      λ stand. each_none at_block 0 len (λ b low high. to_none b cs (together_at len b (omega (arith, high)) cs stand)),
    )
