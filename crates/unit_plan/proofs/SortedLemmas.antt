-- Lists of claims in order: two with the same elements are one.
use Rattle.std.proofs.Common.{◌≡◌, ℕ, ◌+◌, Bool, true, false, cond, not, List, [], ◌∷◌, take, refl, ap, sym, subst, ◌∙◌, arith}
use Rattle.std.specs.Prelude.{if◌then◌else◌}
use Rattle.std.proofs.lemmas.Bool.{false_from_ne_true}
use Rattle.fs_model.specs.declared.claim.Claim.{Claim}
use Rattle.unit_plan.specs.Order.{comes_before, put}
use Rattle.unit_plan.specs.Firsts.{firsts_from}
use Rattle.unit_plan.proofs.Counting.{many, Same}
use Rattle.unit_plan.proofs.OrderLemmas.{along, not_along, one_way, not_itself, one_claim}

-- none of the claims comes before this one
abbrev pub Least : Claim → List Claim → Type 0
Least c [] = Unit {0}
Least c (d ∷ ds) = (comes_before d c ≡ false) × Least c ds

abbrev pub Ascends : List Claim → Type 0
Ascends [] = Unit {0}
Ascends (c ∷ cs) = Least c cs × Ascends cs

-- ---- only one

none_least : (u v : Claim) (vs : List Claim) → comes_before u v ≡ true → Least v vs → many (λ c. not (comes_before u c)) vs ≡ 0
none_least u v [] before least = refl
none_least u v (x ∷ xs) before least =
    ap (λ (b : Bool). cond (not b) (1 + many (λ c. not (comes_before u c)) xs) (many (λ c. not (comes_before u c)) xs)) (along u v x before least.0) ∙ none_least u v xs before least.1

head_not : (u v : Claim) (us vs : List Claim) → Least v vs → Same (u ∷ us) (v ∷ vs) → comes_before u v ≡ false
head_not u v us vs least same = false_from_ne_true (comes_before u v) (λ before.
    let left : many (λ c. not (comes_before u c)) (u ∷ us) ≡ 1 + many (λ c. not (comes_before u c)) us
    = ap (λ (b : Bool). cond (not b) (1 + many (λ c. not (comes_before u c)) us) (many (λ c. not (comes_before u c)) us)) (not_itself u) in
    let right = none_least u v (v ∷ vs) before (not_itself v, least) in
    let bad : 1 + many (λ c. not (comes_before u c)) us ≡ 0 = sym left ∙ same (λ c. not (comes_before u c)) ∙ right in
    omega (arith, bad))

tail_same : (u : Claim) (us vs : List Claim) → Same (u ∷ us) (u ∷ vs) → Same us vs
tail_same u us vs same = λ p. less (p u) (many p us) (many p vs) (same p)
  where
    less : (b : Bool) (m n : ℕ) → cond b (1 + m) m ≡ cond b (1 + n) n → m ≡ n
    less true m n h = omega (arith, h)
    less false m n h = h

pub one_order : (us vs : List Claim) → Ascends us → Ascends vs → Same us vs → us ≡ vs
one_order [] [] a b same = refl
one_order [] (v ∷ vs) a b same = let e : 0 ≡ 1 + many (λ c. true) vs = same (λ c. true) in absurd (omega (arith, e))
one_order (u ∷ us) [] a b same = let e : 1 + many (λ c. true) us ≡ 0 = same (λ c. true) in absurd (omega (arith, e))
one_order (u ∷ us) (v ∷ vs) a b same =
    let e : u ≡ v = one_claim u v (head_not u v us vs b.0 same) (head_not v u vs us a.0 (λ p. sym (same p))) in
    let moved : Same (u ∷ us) (u ∷ vs) = subst (λ (c : Claim). Same (u ∷ us) (c ∷ vs)) (sym e) same in
    ap (λ (c : Claim). c ∷ us) e ∙ ap (λ (cs : List Claim). v ∷ cs) (one_order us vs a.1 b.1 (tail_same u us vs moved))

-- ---- one claim more

pub many_put : (p : Claim → Bool) (c : Claim) (ds : List Claim) → many p (put c ds) ≡ cond (p c) (1 + many p ds) (many p ds)
many_put p c [] = refl
many_put p c (d ∷ ds) = elim (comes_before d c) as (λ b. many p (if b then d ∷ put c ds else c ∷ d ∷ ds) ≡ cond (p c) (1 + many p (d ∷ ds)) (many p (d ∷ ds))) [
  | true ↦ ap (λ (n : ℕ). cond (p d) (1 + n) n) (many_put p c ds) ∙ swapped (p c) (p d) (many p ds)
  | false ↦ refl
]
  where
    swapped : (a b : Bool) (n : ℕ) → cond b (1 + cond a (1 + n) n) (cond a (1 + n) n) ≡ cond a (1 + cond b (1 + n) n) (cond b (1 + n) n)
    swapped true true n = refl
    swapped true false n = refl
    swapped false true n = refl
    swapped false false n = refl

least_put : (a c : Claim) (ds : List Claim) → comes_before c a ≡ false → Least a ds → Least a (put c ds)
least_put a c [] h l = (h, tt)
least_put a c (d ∷ ds) h l = elim (comes_before d c) as (λ b. Least a (if b then d ∷ put c ds else c ∷ d ∷ ds)) [
  | true ↦ (l.0, least_put a c ds h l.1)
  | false ↦ (h, l)
]

least_all : (c d : Claim) (ds : List Claim) → comes_before d c ≡ false → Least d ds → Least c ds
least_all c d [] h l = tt
least_all c d (x ∷ xs) h l = (not_along x d c l.0 h, least_all c d xs h l.1)

pub ascends_put : (c : Claim) (ds : List Claim) → Ascends ds → Ascends (put c ds)
ascends_put c [] a = (tt, tt)
ascends_put c (d ∷ ds) a = (elim (comes_before d c) as (λ b. comes_before d c ≡ b → Ascends (if b then d ∷ put c ds else c ∷ d ∷ ds)) [
  | true ↦ λ h. (least_put d c ds (one_way d c h) a.0, ascends_put c ds a.1)
  | false ↦ λ h. ((h, least_all c d ds h a.0), a)
]) refl

-- ---- all of a list, one after the other

abbrev pub put_all : List Claim → List Claim → List Claim
put_all sorted [] = sorted
put_all sorted (c ∷ cs) = put_all (put c sorted) cs

pub all_ascend : (cs sorted : List Claim) → Ascends sorted → Ascends (put_all sorted cs)
all_ascend [] sorted a = a
all_ascend (c ∷ cs) sorted a = all_ascend cs (put c sorted) (ascends_put c sorted a)

pub all_there : (p : Claim → Bool) (cs sorted : List Claim) → many p (put_all sorted cs) ≡ many p sorted + many p cs
all_there p [] sorted = omega arith
all_there p (c ∷ cs) sorted = moved (p c) (many p (put_all (put c sorted) cs)) (many p (put c sorted)) (many p cs) (many p sorted) (all_there p cs (put c sorted)) (many_put p c sorted)
  where
    moved : (b : Bool) (x m n k : ℕ) → x ≡ m + n → m ≡ cond b (1 + k) k → x ≡ k + cond b (1 + n) n
    moved true x m n k e f = omega (arith, e, f)
    moved false x m n k e f = omega (arith, e, f)

take_put : (c : Claim) (ds : List Claim) → take 2 (put c (take 2 ds)) ≡ take 2 (put c ds)
take_put c [] = refl
take_put c (x ∷ []) = refl
take_put c (x ∷ y ∷ zs) = elim (comes_before x c) as (λ b. take 2 (if b then x ∷ put c (y ∷ []) else c ∷ x ∷ y ∷ []) ≡ take 2 (if b then x ∷ put c (y ∷ zs) else c ∷ x ∷ y ∷ zs)) [
  | true ↦ elim (comes_before y c) as (λ b. take 2 (x ∷ (if b then y ∷ put c [] else c ∷ y ∷ [])) ≡ take 2 (x ∷ (if b then y ∷ put c zs else c ∷ y ∷ zs))) [
    | true ↦ refl
    | false ↦ refl
  ]
  | false ↦ refl
]

pub firsts_are : (cs sorted : List Claim) → firsts_from (take 2 sorted) cs ≡ take 2 (put_all sorted cs)
firsts_are [] sorted = refl
firsts_are (c ∷ cs) sorted = ap (λ (ks : List Claim). firsts_from ks cs) (take_put c sorted) ∙ firsts_are cs (put c sorted)
