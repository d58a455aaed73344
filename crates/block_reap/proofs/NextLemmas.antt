-- The run that is reaped next, and what is left without it.
use Rattle.std.proofs.Common.{◌≡◌, ℕ, ◌+◌, ◌-◌, ◌<◌, ◌≤◌, Bool, true, false, List, [], ◌∷◌, refl, sym, ap, ◌∙◌, arith, subst, inl, inr, min, Option, Some, None}
use Rattle.std.specs.Prelude.{◌⊎◌, ◌&&◌, ◌||◌, not, IfSome, IfNone, get_or}
use Rattle.std.specs.List.{remove}
use Rattle.std.proofs.lemmas.Bool.{cases_lt, false≢true}
use Rattle.std.proofs.lemmas.Bool.Decides.{nat_tests}
use Rattle.block_reap.specs.declared.runs.LimboRun.{LimboRun}
use Rattle.block_reap.specs.Limbo.{covers, has, comes_first, touches, end_of, AllFollow, IsLimbo, IsNext, next_of, put_run}
use Rattle.block_reap.proofs.RunLemmas.{not_covered, end_not_covered, pair_later, pair_inside}
use Rattle.block_reap.proofs.PutLemmas.{AllApart, put_limbo, has_put}

abbrev pub cut : LimboRun → LimboRun
cut r = record r { count = min r.count 64 }

abbrev pub rest : LimboRun → LimboRun
rest r = record r { start = r.start + min r.count 64; count = r.count - min r.count 64 }

no_some : (r : LimboRun) → (let o : Option LimboRun = None in o) ≡ Some r → ⊥
no_some r e = cc

either : (a b : Bool) → (a || b) ≡ true → (a ≡ true) ⊎ (b ≡ true)
either true b h = inl refl
either false b h = inr h

first_of_either : (a b : Bool) → a ≡ true → (a || b) ≡ true
first_of_either true b h = refl
first_of_either false b h = absurd (false≢true h)

neither : (a b : Bool) → a ≡ false → b ≡ false → (a || b) ≡ false
neither true b h i = absurd (false≢true (sym h))
neither false b h i = i

cut_covers : (r : LimboRun) (b o : ℕ) → covers (cut r) b o ≡ true → covers r b o ≡ true
cut_covers r b o h = grind (arith, nat_tests)

lowest_rest : (r : LimboRun) (rs : List LimboRun) (b o : ℕ) → AllFollow r rs → has rs b o ≡ true → comes_first b o r.start r.owner ≡ false
lowest_rest r [] b o all h = absurd (false≢true h)
lowest_rest r (s ∷ ss) b o all h = elim (either (covers s b o) (has ss b o) h) [
  | inl here ↦ pair_later r s b o all.0.later here
  | inr later ↦ lowest_rest r ss b o all.1 later
]

no_end : (r : LimboRun) (rs : List LimboRun) → AllFollow r rs → has rs (end_of r) r.owner ≡ false
no_end r [] all = refl
no_end r (s ∷ ss) all = neither (covers s (end_of r) r.owner) (has ss (end_of r) r.owner) (end_not_covered r s all.0.apart) (no_end r ss all.1)

not_own_end : (r : LimboRun) → covers r (end_of r) r.owner ≡ false
not_own_end r = grind (arith, nat_tests)

-- what the run has, no later run has
pub none_later : (r : LimboRun) (rs : List LimboRun) (b o : ℕ) → AllFollow r rs → covers r b o ≡ true → has rs b o ≡ false
none_later r [] b o all c = refl
none_later r (s ∷ ss) b o all c = neither (covers s b o) (has ss b o) (not_covered r s b o all.0.apart c) (none_later r ss b o all.1 c)

pub next_is : (r : LimboRun) (rs : List LimboRun) → IsLimbo (r ∷ rs) → IsNext (r ∷ rs) (cut r)
next_is r rs limbo = record {
  some = let h = limbo.0.some in omega (arith, h);
  few = omega arith;
  there = λ b o c. first_of_either (covers r b o) (has rs b o) (cut_covers r b o c);
  lowest = λ b o h. elim (either (covers r b o) (has rs b o) h) [ inl here ↦ pair_inside r b o here | inr later ↦ lowest_rest r rs b o limbo.1 later ];
  whole = elim (cases_lt r.count 64) [
    | inl less ↦ let e : r.start + min r.count 64 ≡ end_of r = omega (arith, less) in inr (ap (λ x. has (r ∷ rs) x r.owner) e ∙ neither (covers r (end_of r) r.owner) (has rs (end_of r) r.owner) (not_own_end r) (no_end r rs limbo.1))
    | inr more ↦ inl (omega (arith, more))
  ];
}

some_same : (r s : LimboRun) → (let o : Option LimboRun = Some r in o) ≡ Some s → r ≡ s
some_same r s e = cc

pub next_exact : (runs : List LimboRun) (r : LimboRun) → next_of runs ≡ Some r → IsLimbo runs → IsNext runs r
next_exact [] r e limbo = absurd (no_some r e)
next_exact (x ∷ xs) r e limbo = subst (IsNext (x ∷ xs)) (some_same (cut x) r e) (next_is x xs limbo)

pub none_left : (runs : List LimboRun) → next_of runs ≡ None → (b o : ℕ) → has runs b o ≡ false
none_left [] e b o = refl
none_left (x ∷ xs) e b o = absurd (no_some (cut x) (sym e))

pub if_next : (runs : List LimboRun) (o : Option LimboRun) → o ≡ next_of runs → IsLimbo runs → IfSome o (λ r. IsNext runs r)
if_next runs None e limbo = tt
if_next runs (Some r) e limbo = next_exact runs r (sym e) limbo

pub if_none : (runs : List LimboRun) (o : Option LimboRun) → o ≡ next_of runs → IfNone o ((b c : ℕ) → has runs b c ≡ false)
if_none runs None e = none_left runs (sym e)
if_none runs (Some r) e = tt

-- ---- taken off

left : (cr hr cn : Bool) → (cn ≡ true → cr ≡ true) → (cr ≡ true → hr ≡ false) → ((cr && not cn) || hr) ≡ ((cr || hr) && not cn)
left true true cn f g = absurd (false≢true (sym (g refl)))
left true false true f g = refl
left true false false f g = refl
left false true true f g = absurd (false≢true (f refl))
left false true false f g = refl
left false false true f g = refl
left false false false f g = refl

rest_covers : (r : LimboRun) (b o : ℕ) → covers (rest r) b o ≡ (covers r b o && not (covers (cut r) b o))
rest_covers r b o = grind (arith, nat_tests)

whole_covers : (r : LimboRun) (b o : ℕ) → r.count ≤ 64 → (covers r b o && not (covers (cut r) b o)) ≡ false
whole_covers r b o h = grind (arith, nat_tests)

rest_touches : (r s : LimboRun) → touches r s ≡ false → touches (rest r) s ≡ false
rest_touches r s h = grind (arith, nat_tests)

rest_apart : (r : LimboRun) (rs : List LimboRun) → AllFollow r rs → AllApart (rest r) rs
rest_apart r [] all = tt
rest_apart r (s ∷ ss) all = (rest_touches r s all.0.apart, rest_apart r ss all.1)

-- the whole first run leaves
pub whole_off : (r : LimboRun) (rs : List LimboRun) (b o : ℕ) → IsLimbo (r ∷ rs) → r.count ≤ 64 → has rs b o ≡ (has (r ∷ rs) b o && not (covers (cut r) b o))
whole_off r rs b o limbo h =
    ap (λ t. t || has rs b o) (sym (whole_covers r b o h)) ∙ left (covers r b o) (has rs b o) (covers (cut r) b o) (cut_covers r b o) (none_later r rs b o limbo.1)

-- or its front
pub front_off : (r : LimboRun) (rs : List LimboRun) (b o : ℕ) → IsLimbo (r ∷ rs) → has (put_run (rest r) rs) b o ≡ (has (r ∷ rs) b o && not (covers (cut r) b o))
front_off r rs b o limbo =
    has_put (rest r) rs b o ∙ ap (λ t. t || has rs b o) (rest_covers r b o) ∙ left (covers r b o) (has rs b o) (covers (cut r) b o) (cut_covers r b o) (none_later r rs b o limbo.1)

pub front_limbo : (r : LimboRun) (rs : List LimboRun) → IsLimbo (r ∷ rs) → 64 < r.count → IsLimbo (put_run (rest r) rs)
front_limbo r rs limbo h = put_limbo (rest r) rs (record { some = omega (arith, h); end = let e = limbo.0.end in omega (arith, h, e) }) limbo.2 (rest_apart r rs limbo.1)

-- ---- the first run of a list, by its parts

pub record Off (runs : List LimboRun) (run first : LimboRun) (others : List LimboRun) : Type 0 where
  pub list : runs ≡ first ∷ others
  pub is_cut : run ≡ cut first

-- the first run, and the others
pub parts_of : (runs : List LimboRun) (run first : LimboRun) (others : List LimboRun) → next_of runs ≡ Some run → first ≡ get_or runs 0 first → others ≡ remove runs 0 → runs ≡ first ∷ others
parts_of [] run first others n v i = absurd (no_some run n)
parts_of (x ∷ xs) run first others n v i = ap (λ r. r ∷ xs) (sym v) ∙ ap (λ rs. first ∷ rs) (sym i)

pub off_of : (runs : List LimboRun) (run first : LimboRun) (others : List LimboRun) → runs ≡ first ∷ others → next_of runs ≡ Some run → Off runs run first others
off_of runs run first others e n = record { list = e; is_cut = sym (some_same (cut first) run (sym (ap next_of e) ∙ n)) }

pub whole_left : (runs : List LimboRun) (run first : LimboRun) (others : List LimboRun) → Off runs run first others → IsLimbo runs → first.count ≤ run.count → IsLimbo others
whole_left runs run first others o limbo h = (subst IsLimbo o.list limbo).2

pub whole_has : (runs : List LimboRun) (run first : LimboRun) (others : List LimboRun) → Off runs run first others → IsLimbo runs → first.count ≤ run.count → (b c : ℕ) → has others b c ≡ (has runs b c && not (covers run b c))
whole_has runs run first others o limbo h b c =
    let few : first.count ≤ 64 = let e = ap (λ r. r.count) o.is_cut in omega (arith, h, e) in
    whole_off first others b c (subst IsLimbo o.list limbo) few ∙ ap (λ xs. has xs b c && not (covers (cut first) b c)) (sym o.list) ∙ ap (λ r. has runs b c && not (covers r b c)) (sym o.is_cut)

pub front_left : (runs : List LimboRun) (run first left : LimboRun) (others : List LimboRun) → Off runs run first others → IsLimbo runs → run.count < first.count → left ≡ rest first → IsLimbo (put_run left others)
front_left runs run first left others o limbo h l =
    let more : 64 < first.count = let e = ap (λ r. r.count) o.is_cut in omega (arith, h, e) in
    subst (λ (r : LimboRun). IsLimbo (put_run r others)) (sym l) (front_limbo first others (subst IsLimbo o.list limbo) more)

pub front_has : (runs : List LimboRun) (run first left : LimboRun) (others : List LimboRun) → Off runs run first others → IsLimbo runs → left ≡ rest first → (b c : ℕ) → has (put_run left others) b c ≡ (has runs b c && not (covers run b c))
front_has runs run first left others o limbo l b c =
    ap (λ r. has (put_run r others) b c) l ∙ front_off first others b c (subst IsLimbo o.list limbo) ∙ ap (λ xs. has xs b c && not (covers (cut first) b c)) (sym o.list) ∙ ap (λ r. has runs b c && not (covers r b c)) (sym o.is_cut)

-- what is left of the first run, as the code makes it
pub rest_is : (runs : List LimboRun) (run first : LimboRun) (others : List LimboRun) → Off runs run first others → record first { start = first.start + run.count; count = first.count - run.count } ≡ rest first
rest_is runs run first others o = ap (λ (n : ℕ). let r : LimboRun = record first { start = first.start + n; count = first.count - n } in r) (ap (λ r. r.count) o.is_cut)
