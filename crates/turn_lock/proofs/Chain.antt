-- The steps of one turn, in a row.
use Rattle.std.proofs.Common.{◌≡◌, ℕ, ◌-◌, ◌<◌, List, [], ◌∷◌, sym, ap, ◌∙◌, subst, length, map, arith}
use Rattle.std.specs.Prelude.{IsSome}
use Rattle.std.proofs.lemmas.List.{length-map}
use Rattle.std.specs.Prelude.{Option as Maybe, Some as Just, None as Nothing}
use Rattle.atomic_table.specs.Table.{Me, rest}
use Rattle.turn_lock.specs.Lists.{Below, Distinct}
use Rattle.turn_lock.specs.Views.{Agrees, Extends, IsIdle, Turned, after_turn, kept_now, own_entries}
use Rattle.turn_lock.specs.Steps.{Draws, Takes, Publishes, Serves, with_ticket, taking, telling, passed}
use Rattle.turn_lock.specs.declared.view.View.{View}
use Rattle.turn_lock.specs.declared.recorded.TheConstants.{ACTORS}
use Rattle.turn_lock.proofs.Positions.{begins_length, below_weaken, below_new, distinct_new, entries_turned}

head_value : {T : Type 0} → T → List (ℕ × Maybe T) → T
head_value d [] = d
head_value d ((n, Nothing) ∷ r) = d
head_value d ((n, Just y) ∷ r) = y

-- what holds of a pass holds of the same pass
pub along : {T E O K : Type 0} (P : Me (Maybe T) (View T E O K) → Type 0) (m n : Me (Maybe T) (View T E O K)) → m ≡ n → P n → P m
along P m n e p = subst P (sym e) p

module _ {T E O K : Type 0} (journal : T → List E) (origin : T → O) (kept : T → ℕ → K) (n : ℕ) (m0 m1 m2 : Me (Maybe T) (View T E O K)) (value : T)
    (drew : Draws m0 n m1) (took : Takes journal origin kept m1 m2) (has : m2.1 ≡ (0, Just value) ∷ []) where
  is_value : took.0 ≡ value
  unfolding head_value
  is_value = sym (ap (λ (m : Me (Maybe T) (View T E O K)). head_value value m.1) took.3) ∙ ap (head_value value) has

  pub agreed : Agrees journal origin kept value m0.0
  agreed =
      let a : Agrees journal origin kept took.0 (with_ticket m0.0 drew.0) = subst (λ v. Agrees journal origin kept took.0 v) (ap (λ m. m.0) drew.2) took.1 in
      let b : Agrees journal origin kept took.0 m0.0 = record { seen = a.seen; kept_is = a.kept_is; origin_is = a.origin_is } in
      subst (λ x. Agrees journal origin kept x m0.0) is_value b

  pub saw_all : length m0.0.kept ≡ ACTORS → m0.0.seen ≡ journal value
  saw_all all =
      let a : length m0.0.kept ≡ ACTORS → m0.0.seen ≡ journal took.0 = subst (λ v. length v.kept ≡ ACTORS → v.seen ≡ journal took.0) (ap (λ m. m.0) drew.2) took.2 in
      a all ∙ ap (λ x. journal x) is_value

  taken : m2.0 ≡ taking (with_ticket m0.0 drew.0) value
  taken = ap (λ m. m.0) took.3 ∙ (λ i. taking (drew.2 i).0 (is_value i))

  module _ (y : T) (m3 : Me (Maybe T) (View T E O K)) (out : m3 ≡ (m2.0, (0, Nothing) ∷ [])) where
    now : m3.0 ≡ taking (with_ticket m0.0 drew.0) value
    now = ap (λ m. m.0) out ∙ taken

    pub told_before : m3.0.told ≡ Just value
    told_before = ap (λ v. v.told) now

    pub extends_now : Extends journal origin kept m0.0 value y → Extends journal origin kept m3.0 value y
    extends_now e = subst (λ v. Extends journal origin kept v value y) (sym now) (record { longer = e.longer; same = e.same; others = e.others })

    module _ (m4 m5 m6 : Me (Maybe T) (View T E O K)) (told : Publishes journal origin kept (Just y) m3 m4) (gave : m5 ≡ (m4.0, (0, Just y) ∷ [])) where
      after_publish : m5.0 ≡ telling journal origin kept (taking (with_ticket m0.0 drew.0) value) y
      after_publish = ap (λ m. m.0) gave ∙ (ap (λ m. m.0) told ∙ ap (λ v. telling journal origin kept v y) now)

      pub told_after : m5.0.told ≡ Just y
      told_after = ap (λ v. v.told) after_publish

      module _ (served : Serves m5 0 m6) where
        pub ends : m6.0 ≡ after_turn journal origin kept m0.0 value y
        ends = ap (λ m. m.0) served ∙ ap (λ v. passed v) after_publish

        pub empty : m6.1 ≡ []
        empty = ap (λ m. m.1) served ∙ ap (λ m. rest m.1) gave

        pub idle_after : IsIdle m0 → IsIdle m6
        idle_after i =
            let more : 0 < length (map (kept_now journal origin kept y) m0.0.kept) = let l = length-map m0.0.kept (kept_now journal origin kept y) in let k = i.2 in omega (arith, l, k) in (
              ap (λ v. v.ticket) ends,
              ap (λ v. v.told) ends,
              subst (λ v. 0 < length v.kept) (sym ends) more,
              empty,
              ap (λ v. v.other) ends ∙ i.4,
            )

        pub begun_after : IsSome m0.0.origin → IsSome m6.0.origin
        begun_after b = subst (λ v. IsSome v.origin) (sym ends) b

        module _ (ext : Extends journal origin kept m0.0 value y) (distinct : Distinct m0.0.own) (within : Below m0.0.own (length m0.0.seen)) where
          lower : Below m0.0.own (length (journal value))
          lower = below_weaken m0.0.own (length m0.0.seen) (length (journal value)) (begins_length m0.0.seen (journal value) agreed.seen) within

          pub turned : Turned journal origin kept m0.0 value y m6.0
          turned = record {
            agrees = agreed;
            whole = saw_all;
            extends = ext;
            view = ends;
            entries = ap (λ v. own_entries v) ends ∙ entries_turned m0.0.seen (journal value) (journal y) m0.0.own agreed.seen within ext.longer;
          }

          pub distinct_after : Distinct m6.0.own
          distinct_after = subst (λ v. Distinct v.own) (sym ends) (distinct_new m0.0.own (length (journal value)) (length (journal y) - length (journal value)) distinct lower)

          pub within_after : Below m6.0.own (length m6.0.seen)
          within_after = subst (λ v. Below v.own (length v.seen)) (sym ends) (below_new m0.0.own (length (journal value)) (length (journal y)) (begins_length (journal value) (journal y) ext.longer) lower)
