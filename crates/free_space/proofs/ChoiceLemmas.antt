-- One group more behind those that a search has looked at.
use Rattle.std.proofs.Common.{◌≡◌, ℕ, List, [], ◌∷◌, ◌++◌, true, refl, ap, arith, sym, ◌∙◌, subst}
use Rattle.std.specs.Prelude.{Option, Some, None, Ok, is_some, ◌||◌}
use Rattle.std.specs.Option.{option_or}
use Rattle.std.specs.List.{list_any}
use Rattle.std.proofs.lemmas.Bool.Decides.{nat_tests}
use Rattle.std.proofs.lemmas.List.Folds.{list_any-append}
use Rattle.fs_model.specs.declared.entry.Extent.{Extent}
use Rattle.span_recs.specs.declared.span.SpanRec.{SpanRec}
use Rattle.free_space.specs.declared.choice.GroupSpace.{GroupSpace}
use Rattle.free_space.specs.declared.choice.Search.{Search}
use Rattle.free_space.specs.declared.choice.NoRun.{NoRun}
use Rattle.free_space.specs.Choice.{LastUnasked, first_in, lower_by, lowest, StandsFor, fit_in, last_in, closed_in, sick_in, has_large, choice, chosen}

none_is_none : is_some (let o : Option Extent = None in o) ≡ true → ⊥
none_is_none h = cc

both : {A B C : Type 0} (f : A → B → C) {a a' : A} {b b' : B} → a ≡ a' → b ≡ b' → f a b ≡ f a' b'
both f {a} {a'} {b} {b'} p q = ap (λ x. f x b) p ∙ ap (f a') q

or_assoc : {X : Type 0} (a b c : Option X) → option_or a (option_or b c) ≡ option_or (option_or a b) c
or_assoc None b c = refl
or_assoc (Some x) b c = refl

or_none : {X : Type 0} (a : Option X) → option_or a None ≡ a
or_none None = refl
or_none (Some x) = refl

pub first_more : (f : GroupSpace → Option Extent) (gs : List GroupSpace) (s : GroupSpace) → first_in f (gs ++ s ∷ []) ≡ option_or (first_in f gs) (f s)
first_more f [] s = or_none (f s)
first_more f (g ∷ gs) s = ap (option_or (f g)) (first_more f gs s) ∙ or_assoc (f g) (first_in f gs) (f s)

stays_by : (o a b : Option Extent) → (is_some a ≡ true → b ≡ a) → is_some (option_or o a) ≡ true → option_or o b ≡ option_or o a
stays_by None a b f h = f h
stays_by (Some x) a b f h = refl

-- a first answer stays, whatever groups follow
pub first_stays : (f : GroupSpace → Option Extent) (gs more : List GroupSpace) → is_some (first_in f gs) ≡ true → first_in f (gs ++ more) ≡ first_in f gs
first_stays f [] more h = absurd (none_is_none h)
first_stays f (g ∷ gs) more h = stays_by (f g) (first_in f gs) (first_in f (gs ++ more)) (first_stays f gs more) h

lower_none : {X : Type 0} (key : X → ℕ) (a : Option X) → lower_by key a None ≡ a
lower_none key None = refl
lower_none key (Some x) = refl

lower_three : {X : Type 0} (key : X → ℕ) (x y z : X) → lower_by key (Some x) (lower_by key (Some y) (Some z)) ≡ lower_by key (lower_by key (Some x) (Some y)) (Some z)
lower_three key x y z = grind (arith, nat_tests)

lower_assoc : {X : Type 0} (key : X → ℕ) (a b c : Option X) → lower_by key a (lower_by key b c) ≡ lower_by key (lower_by key a b) c
lower_assoc key None b c = refl
lower_assoc key (Some x) None c = refl
lower_assoc key (Some x) (Some y) None = sym (lower_none key (lower_by key (Some x) (Some y)))
lower_assoc key (Some x) (Some y) (Some z) = lower_three key x y z

pub lowest_more : {X : Type 0} (key : X → ℕ) (f : GroupSpace → Option X) (gs : List GroupSpace) (s : GroupSpace) → lowest key f (gs ++ s ∷ []) ≡ lower_by key (lowest key f gs) (f s)
lowest_more key f [] s = lower_none key (f s)
lowest_more key f (g ∷ gs) s = ap (lower_by key (f g)) (lowest_more key f gs s) ∙ lower_assoc key (f g) (lowest key f gs) (f s)

-- what looking at one group more makes of a search
pub record Looks (s : GroupSpace) (old new : Search) : Type 0 where
  pub wants : new.wanted ≡ old.wanted
  pub fit : new.fit ≡ option_or old.fit (fit_in old.wanted s)
  pub last : new.last ≡ option_or old.last (last_in old.wanted s)
  pub closed : new.closed ≡ lower_by (λ g. g) old.closed (closed_in s)
  pub sick : new.sick ≡ lower_by (λ k. k.group) old.sick (sick_in s)
  pub large : new.is_large ≡ (old.is_large || has_large s)

pub stands_for_more : (wanted : ℕ) (gs : List GroupSpace) (s : GroupSpace) (old new : Search) → Looks s old new → StandsFor wanted gs old → StandsFor wanted (gs ++ s ∷ []) new
stands_for_more wanted gs s old new l h = record {
  wants = l.wants ∙ h.wants;
  fit = l.fit ∙ both option_or h.fit (ap (λ w. fit_in w s) h.wants) ∙ sym (first_more (fit_in wanted) gs s);
  last = l.last ∙ both option_or h.last (ap (λ w. last_in w s) h.wants) ∙ sym (first_more (last_in wanted) gs s);
  closed = l.closed ∙ ap (λ o. lower_by (λ g. g) o (closed_in s)) h.closed ∙ sym (lowest_more (λ g. g) closed_in gs s);
  sick = l.sick ∙ ap (λ o. lower_by (λ k. k.group) o (sick_in s)) h.sick ∙ sym (lowest_more (λ k. k.group) sick_in gs s);
  large = l.large ∙ ap (λ b. b || has_large s) h.large ∙ large_more gs;
}
  where
    large_more : (ss : List GroupSpace) → (list_any has_large ss || has_large s) ≡ list_any has_large (ss ++ s ∷ [])
    large_more ss = grind (arith, list_any-append has_large ss (s ∷ []))

chosen_by : (a b l m : Option Extent) (v w : NoRun) → is_some a ≡ true → b ≡ a → chosen (option_or b m) w ≡ chosen (option_or a l) v
chosen_by None b l m v w i e = absurd (none_is_none i)
chosen_by (Some x) b l m v w i e = subst (λ (o : Option Extent). chosen (option_or o m) w ≡ Ok x) (sym e) refl

-- once a record is long enough, no further group changes the choice
pub settled : (wanted : ℕ) (gs more : List GroupSpace) (s : Search) → StandsFor wanted gs s → is_some s.fit ≡ true → choice wanted (gs ++ more) ≡ choice wanted gs
unfolding choice
settled wanted gs more s h e =
    let i = subst (λ (o : Option Extent). is_some o ≡ true) h.fit e in
    chosen_by (first_in (fit_in wanted) gs) (first_in (fit_in wanted) (gs ++ more)) _ _ _ _ i (first_stays (fit_in wanted) gs more i)

-- ---- a last record that isn't asked for

same_fits : (wanted : ℕ) (before behind : List GroupSpace) (s : GroupSpace) (last : Option SpanRec) → first_in (fit_in wanted) (before ++ record s { last = last } ∷ behind) ≡ first_in (fit_in wanted) (before ++ s ∷ behind)
same_fits wanted [] behind s last = refl
same_fits wanted (g ∷ gs) behind s last = ap (option_or (fit_in wanted g)) (same_fits wanted gs behind s last)

in_two : (before behind : List GroupSpace) (s : GroupSpace) → (before ++ s ∷ []) ++ behind ≡ before ++ s ∷ behind
in_two [] behind s = refl
in_two (g ∷ gs) behind s = ap (λ gs. g ∷ gs) (in_two gs behind s)

pub last_unasked : LastUnasked
unfolding choice
last_unasked wanted before behind s last h =
    let fit : GroupSpace → Option Extent = fit_in wanted in
    let told : List GroupSpace = before ++ s ∷ behind in
    let other : List GroupSpace = before ++ record s { last = last } ∷ behind in
    let some : is_some (first_in fit told) ≡ true = ap is_some (ap (first_in fit) (sym (in_two before behind s)) ∙ first_stays fit (before ++ s ∷ []) behind h) ∙ h in
    chosen_by (first_in fit told) (first_in fit other) _ _ _ _ some (same_fits wanted before behind s last)
