-- Runs that rise by their starts, joined into maximal ones.
use Rattle.std.proofs.Common.{◌≡◌, ℕ, ◌+◌, ◌-◌, ◌<◌, ◌≤◌, max, Bool, true, false, List, [], ◌∷◌, ◌++◌, zero, suc, length, get_or, drop, refl, ap, sym, ◌∙◌, subst, inl, inr, arith}
use Rattle.std.specs.Prelude.{◌&&◌, ◌||◌, nat_le, nat_lt}
use Rattle.std.proofs.lemmas.Bool.{cases_lt, le-leb, lt-leb, lt-ltb, le-ltb}
use Rattle.std.proofs.lemmas.List.Folds.{list_any-append}
use Rattle.run_sets.specs.declared.run.Run.{Run}
use Rattle.run_sets.specs.Runs.{AreMaximal, EndWithin, holds, is_within}
use Rattle.run_sets.proofs.RunsLemmas.{later}
use Rattle.index_derive.specs.Runs.{StartsRise, merged, shut}

shut_some : (s e : ℕ) → s < e → shut s e ≡ record { start = s; count = e - s } ∷ []
shut_some s e lt = let t : nat_lt s e ≡ true = lt-ltb s e lt in rw t refl

shut_none : (s e : ℕ) → e ≤ s → shut s e ≡ []
shut_none s e le = let t : nat_lt s e ≡ false = le-ltb s e le in rw t refl

or_false : (b : Bool) → (b || false) ≡ b
or_false true = refl
or_false false = refl

or_assoc : (a b c : Bool) → ((a || b) || c) ≡ (a || (b || c))
or_assoc true b c = refl
or_assoc false b c = refl

none_between : (s e b : ℕ) → e ≤ s → (nat_le s b && nat_lt b e) ≡ false
none_between s e b le = elim (cases_lt b s) [
  | inl front ↦ let t : nat_le s b ≡ false = lt-leb s b front in rw t refl
  | inr on ↦ let t : nat_le s b ≡ true = le-leb s b on in let u : nat_lt b e ≡ false = le-ltb b e (omega (arith, on, le)) in rw (t, u) refl
]

shut_holds : (s e b : ℕ) → holds (shut s e) b ≡ (nat_le s b && nat_lt b e)
shut_holds s e b = elim (cases_lt s e) [
  | inl some ↦
      let end : s + (e - s) ≡ e = omega (arith, some) in
      ap (λ (rs : List Run). holds rs b) (shut_some s e some) ∙ or_false (nat_le s b && nat_lt b (s + (e - s))) ∙ ap (λ (n : ℕ). nat_le s b && nat_lt b n) end
  | inr none ↦ ap (λ (rs : List Run). holds rs b) (shut_none s e none) ∙ sym (none_between s e b none)
]

-- a run that begins within an open one, or at its end, makes one with it
cover : (s e t f b : ℕ) → s ≤ t → t ≤ e → (nat_le s b && nat_lt b (max e f)) ≡ ((nat_le s b && nat_lt b e) || (nat_le t b && nat_lt b f))
cover s e t f b st te = elim (cases_lt b s) [
  | inl front ↦
      let p : nat_le s b ≡ false = lt-leb s b front in
      let q : nat_le t b ≡ false = lt-leb t b (omega (arith, front, st)) in
      rw (p, q) refl
  | inr on ↦
      let p : nat_le s b ≡ true = le-leb s b on in elim (cases_lt b e) [
        | inl below ↦
            let q : nat_lt b e ≡ true = lt-ltb b e below in
            let r : nat_lt b (max e f) ≡ true = lt-ltb b (max e f) (omega (arith, below)) in
            rw (p, q, r) refl
        | inr past ↦
            let q : nat_lt b e ≡ false = le-ltb b e past in
            let t : nat_le t b ≡ true = le-leb t b (omega (arith, past, te)) in elim (cases_lt b f) [
              | inl inside ↦
                  let u : nat_lt b f ≡ true = lt-ltb b f inside in
                  let r : nat_lt b (max e f) ≡ true = lt-ltb b (max e f) (omega (arith, inside)) in
                  rw (p, q, t, u, r) refl
              | inr out ↦
                  let u : nat_lt b f ≡ false = le-ltb b f out in
                  let r : nat_lt b (max e f) ≡ false = le-ltb b (max e f) (omega (arith, past, out)) in
                  rw (p, q, t, u, r) refl
            ]
      ]
]

merged_gap : (s e : ℕ) (r : Run) (rs : List Run) → e < r.start → merged s e (r ∷ rs) ≡ shut s e ++ merged r.start (r.start + r.count) rs
unfolding merged
merged_gap s e r rs lt = let t : nat_lt e r.start ≡ true = lt-ltb e r.start lt in rw t refl

merged_on : (s e : ℕ) (r : Run) (rs : List Run) → r.start ≤ e → merged s e (r ∷ rs) ≡ merged s (max e (r.start + r.count)) rs
unfolding merged
merged_on s e r rs le = let t : nat_lt e r.start ≡ false = le-ltb e r.start le in rw t refl

merged_end : (s e : ℕ) → merged s e [] ≡ shut s e
unfolding merged
merged_end s e = refl

starts_from : (from s : ℕ) (rs : List Run) → from ≤ s → StartsRise s rs → StartsRise from rs
starts_from from s [] le rise = tt
starts_from from s (r ∷ rs) le rise = (let l = rise.0 in omega (arith, le, l), rise.1)

merged_holds : (s e : ℕ) (rs : List Run) (b : ℕ) → StartsRise s rs → holds (merged s e rs) b ≡ ((nat_le s b && nat_lt b e) || holds rs b)
merged_holds s e [] b rise = ap (λ (rs : List Run). holds rs b) (merged_end s e) ∙ shut_holds s e b ∙ sym (or_false (nat_le s b && nat_lt b e))
merged_holds s e (r ∷ rs) b rise = elim (cases_lt e r.start) [
  | inl gap ↦
      ap (λ (xs : List Run). holds xs b) (merged_gap s e r rs gap)
      ∙ list_any-append (is_within b) (shut s e) (merged r.start (r.start + r.count) rs)
      ∙ ap (λ (t : Bool). t || holds (merged r.start (r.start + r.count) rs) b) (shut_holds s e b)
      ∙ ap (λ (t : Bool). (nat_le s b && nat_lt b e) || t) (merged_holds r.start (r.start + r.count) rs b rise.1)
  | inr on ↦
      ap (λ (xs : List Run). holds xs b) (merged_on s e r rs on)
      ∙ merged_holds s (max e (r.start + r.count)) rs b (starts_from s r.start rs rise.0 rise.1)
      ∙ ap (λ (t : Bool). t || holds rs b) (cover s e r.start (r.start + r.count) b rise.0 on)
      ∙ or_assoc (nat_le s b && nat_lt b e) (nat_le r.start b && nat_lt b (r.start + r.count)) (holds rs b)
]

shut_in_front : (from s e : ℕ) (xs : List Run) → from ≤ s → s ≤ e → AreMaximal (e + 1) xs → AreMaximal from (shut s e ++ xs)
shut_in_front from s e xs low le m = elim (cases_lt s e) [
  | inl some ↦
      let end : e + 1 ≡ s + (e - s) + 1 = omega (arith, some) in
      subst (λ (ys : List Run). AreMaximal from (ys ++ xs)) (sym (shut_some s e some)) (low, omega (arith, some), subst (λ (n : ℕ). AreMaximal n xs) end m)
  | inr none ↦ subst (λ (ys : List Run). AreMaximal from (ys ++ xs)) (sym (shut_none s e none)) (later from (e + 1) xs (omega (arith, low, le)) m)
]

append_none : (xs : List Run) → xs ++ [] ≡ xs
append_none [] = refl
append_none (x ∷ xs) = ap (λ (ys : List Run). x ∷ ys) (append_none xs)

merged_maximal : (from s e : ℕ) (rs : List Run) → from ≤ s → s ≤ e → StartsRise s rs → AreMaximal from (merged s e rs)
merged_maximal from s e [] low le rise = subst (AreMaximal from) (append_none (shut s e) ∙ sym (merged_end s e)) (shut_in_front from s e [] low le tt)
merged_maximal from s e (r ∷ rs) low le rise = elim (cases_lt e r.start) [
  | inl gap ↦ subst (AreMaximal from) (sym (merged_gap s e r rs gap)) (shut_in_front from s e (merged r.start (r.start + r.count) rs) low le
      (merged_maximal (e + 1) r.start (r.start + r.count) rs (omega (arith, gap)) (omega arith) rise.1))
  | inr on ↦ subst (AreMaximal from) (sym (merged_on s e r rs on)) (merged_maximal from s (max e (r.start + r.count)) rs low (omega (arith, le)) (starts_from s r.start rs rise.0 rise.1))
]

pub joined_maximal : (rs : List Run) → StartsRise 0 rs → AreMaximal 0 (merged 0 0 rs)
joined_maximal rs rise = merged_maximal 0 0 0 rs (omega arith) (omega arith) rise

pub joined_holds : (rs : List Run) (b : ℕ) → StartsRise 0 rs → holds (merged 0 0 rs) b ≡ holds rs b
joined_holds rs b rise = merged_holds 0 0 rs b rise ∙ ap (λ (t : Bool). t || holds rs b) (none_between 0 0 b (omega arith))

-- one more run, as the code takes it
pub grown_on : (s e : ℕ) (r : Run) (rest : List Run) → r.start ≤ e → merged s (max e (r.start + r.count)) rest ≡ merged s e (r ∷ rest)
grown_on s e r rest le = sym (merged_on s e r rest le)

pub grown_gap : (s e : ℕ) (r : Run) (rest old new : List Run) → e < r.start → new ≡ old ++ shut s e → new ++ merged r.start (r.start + r.count) rest ≡ old ++ merged s e (r ∷ rest)
grown_gap s e r rest old new lt made =
    ap (λ (xs : List Run). xs ++ merged r.start (r.start + r.count) rest) made
    ∙ assoc old (shut s e) (merged r.start (r.start + r.count) rest)
    ∙ ap (λ (xs : List Run). old ++ xs) (sym (merged_gap s e r rest lt))
  where
    assoc : (xs ys zs : List Run) → (xs ++ ys) ++ zs ≡ xs ++ (ys ++ zs)
    assoc [] ys zs = refl
    assoc (x ∷ xs) ys zs = ap (λ (us : List Run). x ∷ us) (assoc xs ys zs)

pub shut_last : (s e : ℕ) (old : List Run) → old ++ merged s e [] ≡ old ++ shut s e
shut_last s e old = ap (λ (xs : List Run). old ++ xs) (merged_end s e)

pub ends_at : (len : ℕ) (rs : List Run) (i : ℕ) (d : Run) → EndWithin len rs → i < length rs → (get_or rs i d).start + (get_or rs i d).count ≤ len
ends_at len [] i d h lt = absurd (omega (arith, lt))
ends_at len (r ∷ rs) zero d h lt = h.0
ends_at len (r ∷ rs) (suc i) d h lt = ends_at len rs i d h.1 (omega (arith, lt))

drop_none : (rs : List Run) (i : ℕ) → length rs ≤ i → drop i rs ≡ []
drop_none [] zero le = refl
drop_none [] (suc i) le = refl
drop_none (r ∷ rs) zero le = absurd (omega (arith, le))
drop_none (r ∷ rs) (suc i) le = drop_none rs i (omega (arith, le))

pub last_put : (old new all rs : List Run) (s e i : ℕ) → length rs ≤ i → new ≡ old ++ shut s e → old ++ merged s e (drop i rs) ≡ all → new ≡ all
last_put old new all rs s e i le made left = made ∙ sym (shut_last s e old) ∙ sym (ap (λ (xs : List Run). old ++ merged s e xs) (drop_none rs i le)) ∙ left
