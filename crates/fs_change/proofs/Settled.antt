-- What chains owe against what forks have: settled owners.
use Rattle.std.proofs.Common.{◌≡◌, ◌&&◌, ◌||◌, Bool, true, false, not, List, ◌++◌, filter, refl, sym, ap, ◌∙◌}
use Rattle.std.proofs.lemmas.Bool.{false≢true, true≢false}
use Rattle.rmap_recs.specs.Runs.{has}
use Rattle.rmap_recs.specs.declared.tuples.Tuple.{Tuple}
use Rattle.fs_change.proofs.Sets.{one_set, has_set, has_both, has_passing}
use Rattle.fs_change.specs.Chains.{settled_by}
use Rattle.fs_change.specs.Laws.{GiftPending, TakingPending, ChangePending, GiftDone, TakingDone}

-- membership of the settled set, before it is put in order
pub in_settled : (gifts takings ts : List Tuple) (t : Tuple) → has (filter (λ u. not (has gifts u)) ts ++ takings) t ≡ ((has ts t && not (has gifts t)) || has takings t)
in_settled gifts takings ts t =
    has_both (filter (λ u. not (has gifts u)) ts) takings t
    ∙ ap (λ b. b || has takings t) (has_passing (λ u. not (has gifts u)) ts t)

-- two settled sets are one where the formula is the same at each tuple
by_formula : (gifts takings ts gifts' takings' ts' : List Tuple) → ((t : Tuple) → ((has ts t && not (has gifts t)) || has takings t) ≡ ((has ts' t && not (has gifts' t)) || has takings' t)) → settled_by gifts takings ts ≡ settled_by gifts' takings' ts'
by_formula gifts takings ts gifts' takings' ts' same =
    one_set (filter (λ t. not (has gifts t)) ts ++ takings) (filter (λ t. not (has gifts' t)) ts' ++ takings') (λ t. in_settled gifts takings ts t ∙ same t ∙ sym (in_settled gifts' takings' ts' t))

gift : (ts us gifts more takings new : Bool) → us ≡ (ts || new) → more ≡ (gifts || new) → (new ≡ true → ts ≡ false) → ((us && not more) || takings) ≡ ((ts && not gifts) || takings)
gift ts us gifts more takings new u m fresh = by_cases ts gifts new fresh (ap (λ x. (x && not more) || takings) u ∙ ap (λ x. ((ts || new) && not x) || takings) m)
  where
    by_cases : (ts gifts new : Bool) → (new ≡ true → ts ≡ false) → ((us && not more) || takings) ≡ (((ts || new) && not (gifts || new)) || takings) → ((us && not more) || takings) ≡ ((ts && not gifts) || takings)
    by_cases true gifts true fresh e = absurd (true≢false (fresh refl))
    by_cases true true false fresh e = e
    by_cases true false false fresh e = e
    by_cases false true true fresh e = e
    by_cases false false true fresh e = e
    by_cases false true false fresh e = e
    by_cases false false false fresh e = e

pub gift_pending : GiftPending
gift_pending gifts more takings ts us new fork owed fresh = by_formula more takings us gifts takings ts (λ t. gift (has ts t) (has us t) (has gifts t) (has more t) (has takings t) (has new t) (fork t) (owed t) (fresh t))

taking : (ts us gifts takings more old : Bool) → ts ≡ (us || old) → more ≡ (takings || old) → (old ≡ true → gifts ≡ false) → ((us && not gifts) || more) ≡ ((ts && not gifts) || takings)
taking ts us gifts takings more old u m apart = by_cases us gifts takings old apart _ _ (ap (λ x. (us && not gifts) || x) m) (ap (λ x. (x && not gifts) || takings) u)
  where
    by_cases : (us gifts takings old : Bool) → (old ≡ true → gifts ≡ false) → (x y : Bool) → x ≡ ((us && not gifts) || (takings || old)) → y ≡ (((us || old) && not gifts) || takings) → x ≡ y
    by_cases us true takings true apart x y e f = absurd (true≢false (apart refl))
    by_cases true false takings true apart x y e f = e ∙ sym f
    by_cases false false true true apart x y e f = e ∙ sym f
    by_cases false false false true apart x y e f = e ∙ sym f
    by_cases true true true false apart x y e f = e ∙ sym f
    by_cases true true false false apart x y e f = e ∙ sym f
    by_cases true false takings false apart x y e f = e ∙ sym f
    by_cases false gifts true false apart x y e f = e ∙ sym f
    by_cases false gifts false false apart x y e f = e ∙ sym f

pub taking_pending : TakingPending
taking_pending gifts takings more ts us old fork owed apart = by_formula gifts more us gifts takings ts (λ t. taking (has ts t) (has us t) (has gifts t) (has takings t) (has more t) (has old t) (fork t) (owed t) (apart t))

changing : (ts us gifts more takings plus new old : Bool) → us ≡ ((ts && not old) || new) → more ≡ (gifts || new) → plus ≡ (takings || old) → (new ≡ true → ts ≡ false) → (old ≡ true → ts ≡ true) → (old ≡ true → gifts ≡ false) → ((us && not more) || plus) ≡ ((ts && not gifts) || takings)
changing ts us gifts more takings plus new old u m p fresh there apart =
    ap (λ x. (x && not more) || plus) u ∙ ap (λ x. (((ts && not old) || new) && not x) || plus) m ∙ ap (λ x. (((ts && not old) || new) && not (gifts || new)) || x) p ∙ by_cases ts gifts takings new old fresh there apart
  where
    by_cases : (ts gifts takings new old : Bool) → (new ≡ true → ts ≡ false) → (old ≡ true → ts ≡ true) → (old ≡ true → gifts ≡ false) → ((((ts && not old) || new) && not (gifts || new)) || (takings || old)) ≡ ((ts && not gifts) || takings)
    by_cases true gifts takings true old f g h = absurd (true≢false (f refl))
    by_cases false gifts takings new true f g h = absurd (false≢true (g refl))
    by_cases true true takings false true f g h = absurd (true≢false (h refl))
    by_cases true false true false true f g h = refl
    by_cases true false false false true f g h = refl
    by_cases true true true false false f g h = refl
    by_cases true true false false false f g h = refl
    by_cases true false takings false false f g h = refl
    by_cases false true true true false f g h = refl
    by_cases false true false true false f g h = refl
    by_cases false false true true false f g h = refl
    by_cases false false false true false f g h = refl
    by_cases false true true false false f g h = refl
    by_cases false true false false false f g h = refl
    by_cases false false true false false f g h = refl
    by_cases false false false false false f g h = refl

pub change_pending : ChangePending
change_pending gifts more takings plus ts us new old fork gives takes fresh there apart = by_formula more plus us gifts takings ts (λ t. changing (has ts t) (has us t) (has gifts t) (has more t) (has takings t) (has plus t) (has new t) (has old t) (fork t) (gives t) (takes t) (fresh t) (there t) (apart t))

-- ---- a step is finished

gift_formula : (ts gifts more takings new : Bool) → more ≡ (gifts || new) → (new ≡ true → ts ≡ true) → (new ≡ true → gifts ≡ false) → ((ts && not gifts) || takings) ≡ (((ts && not more) || takings) || new)
gift_formula ts gifts more takings new m there apart = by_cases ts gifts takings new there apart ∙ sym (ap (λ x. ((ts && not x) || takings) || new) m)
  where
    by_cases : (ts gifts takings new : Bool) → (new ≡ true → ts ≡ true) → (new ≡ true → gifts ≡ false) → ((ts && not gifts) || takings) ≡ (((ts && not (gifts || new)) || takings) || new)
    by_cases false gifts takings true f g = absurd (false≢true (f refl))
    by_cases true true takings true f g = absurd (true≢false (g refl))
    by_cases true false true true f g = refl
    by_cases true false false true f g = refl
    by_cases true true true false f g = refl
    by_cases true true false false f g = refl
    by_cases true false takings false f g = refl
    by_cases false gifts true false f g = refl
    by_cases false gifts false false f g = refl

in_set : (gifts takings ts : List Tuple) (t : Tuple) → has (settled_by gifts takings ts) t ≡ ((has ts t && not (has gifts t)) || has takings t)
in_set gifts takings ts t = has_set (filter (λ u. not (has gifts u)) ts ++ takings) t ∙ in_settled gifts takings ts t

pub gift_done : GiftDone
gift_done gifts more takings ts new owed there apart = one_set (filter (λ t. not (has gifts t)) ts ++ takings) (settled_by more takings ts ++ new) (λ t.
    in_settled gifts takings ts t
    ∙ gift_formula (has ts t) (has gifts t) (has more t) (has takings t) (has new t) (owed t) (there t) (apart t)
    ∙ ap (λ b. b || has new t) (sym (in_set more takings ts t))
    ∙ sym (has_both (settled_by more takings ts) new t))

taking_formula : (ts gifts takings more old : Bool) → more ≡ (takings || old) → (old ≡ true → ts ≡ false) → (old ≡ true → takings ≡ false) → ((ts && not gifts) || takings) ≡ (((ts && not gifts) || more) && not old)
taking_formula ts gifts takings more old m gone apart = by_cases ts gifts takings old gone apart ∙ sym (ap (λ x. ((ts && not gifts) || x) && not old) m)
  where
    by_cases : (ts gifts takings old : Bool) → (old ≡ true → ts ≡ false) → (old ≡ true → takings ≡ false) → ((ts && not gifts) || takings) ≡ (((ts && not gifts) || (takings || old)) && not old)
    by_cases true gifts takings true f g = absurd (true≢false (f refl))
    by_cases false gifts true true f g = absurd (true≢false (g refl))
    by_cases false gifts false true f g = refl
    by_cases true true true false f g = refl
    by_cases true true false false f g = refl
    by_cases true false takings false f g = refl
    by_cases false gifts true false f g = refl
    by_cases false gifts false false f g = refl

pub taking_done : TakingDone
taking_done gifts takings more ts old owed gone apart = one_set (filter (λ t. not (has gifts t)) ts ++ takings) (filter (λ t. not (has old t)) (settled_by gifts more ts)) (λ t.
    in_settled gifts takings ts t
    ∙ taking_formula (has ts t) (has gifts t) (has takings t) (has more t) (has old t) (owed t) (gone t) (apart t)
    ∙ ap (λ b. b && not (has old t)) (sym (in_set gifts more ts t))
    ∙ sym (has_passing (λ u. not (has old u)) (settled_by gifts more ts) t))
