-- What an entry left is marked right behind it, and a unit that is marked behind its verdict has fallen: so no unit whose
-- tree was left had a verdict before.
use Rattle.std.proofs.Common.{◌≡◌, ℕ, ◌++◌, ◌==◌, ◌||◌, Bool, true, false, cond, List, [], ◌∷◌, map, filter, refl, ap, sym, subst, ◌∙◌, inl, inr}
use Rattle.std.specs.Prelude.{not}
use Rattle.std.proofs.lemmas.Bool.{cases_Bool, false≢true, true≢false}
use Rattle.fs_change.specs.Edited.{group_of_entry}
use Rattle.fs_change.specs.Marks.{Due, IsDue, dues, once_each, owners_due, why_left}
use Rattle.fs_state.specs.Records.{unit_of}
use Rattle.fs_state.specs.Session.{is_at, stands}
use Rattle.fs_state.specs.declared.plan.Plan.{Plan}
use Rattle.fs_model.specs.declared.entry.Entry.{Entry}
use Rattle.fs_model.specs.declared.entry.Entry.TheVariants as entries
use Rattle.fs_said.specs.Said.{SaysOn, Told, told_after}
use Rattle.fs_state.specs.Edits.{number_of}
use Rattle.fs_state.specs.Group.{is_among}
use Rattle.fs_state.specs.State.{State}
use Rattle.sblock.specs.declared.kind.Kind.{Kind}
use Rattle.sblock.specs.declared.kind.Kind.TheVariants.{Bno, Cnt, Rmap, Refc, Ino, Fino}
use Rattle.law_said.proofs.Places.{NoneFell, OnceEach, none_fell, once_on, onto, unjudged_before}
use Rattle.law_said.proofs.Tests.{at_itself, on_true}
use Rattle.law_said.specs.InTime.{was_judged}

abbrev EachDue : (Due → Type 0) → List Due → Type 0
EachDue P [] = Unit {0}
EachDue P (d ∷ ds) = P d × EachDue P ds

-- the unit of the tree that is to be marked has no verdict
abbrev IsUnjudged : List Entry → Due → Type 0
IsUnjudged past d = was_judged (group_of_entry d.before d.entry) (unit_of d.kind) past ≡ false

-- ---- a mark

unjudged_mark : (g : ℕ) (k : Kind) (e : Entry) (past : List Entry) → stands g (unit_of k) (e ∷ past) ≡ false → NoneFell (e ∷ past) → was_judged g (unit_of k) past ≡ false
unjudged_mark g k e past fell none = unjudged_before g (unit_of k) e past (elim (cases_Bool (was_judged g (unit_of k) (e ∷ past))) [
  | inl judged ↦ absurd (true≢false (sym (none g (unit_of k) judged) ∙ fell))
  | inr not ↦ not
])

due_mark : (d : Due) (e : Entry) (past : List Entry) → IsDue d e → NoneFell (e ∷ past) → IsUnjudged past d
unfolding stands
due_mark d (entries.Marked g k cause) past due none =
    let here : was_judged g (unit_of k) past ≡ false = unjudged_mark g k (entries.Marked g k cause) past (on_true (is_at g (unit_of k) g (unit_of k)) false (stands g (unit_of k) past) (at_itself g (unit_of k))) none in
    subst (λ (j : Kind). was_judged (group_of_entry d.before d.entry) (unit_of j) past ≡ false) due.1 (subst (λ (h : ℕ). was_judged h (unit_of k) past ≡ false) due.0 here)
due_mark d e past due none = absurd due

-- ---- all that are due

each_before : (e : Entry) (past : List Entry) (ds : List Due) → EachDue (IsUnjudged (e ∷ past)) ds → EachDue (IsUnjudged past) ds
each_before e past [] all = tt
each_before e past (d ∷ ds) all = (unjudged_before (group_of_entry d.before d.entry) (unit_of d.kind) e past all.0, each_before e past ds all.1)

dues_unjudged : (plan : Plan) (ds : List Due) (t u : Told) (a b : State) (es : List Entry) → SaysOn plan ds t a es u b → OnceEach t.past es → NoneFell (onto es t.past) → EachDue (IsUnjudged t.past) ds
dues_unjudged plan [] t u a b es h once none = tt
dues_unjudged plan (d ∷ ds) t u a b [] h once none = absurd h
dues_unjudged plan (d ∷ ds) t u a b (e ∷ es) h once none = (
  due_mark d e t.past h.1 (none_fell es (e ∷ t.past) (once_on e t.past es once) none),
  each_before e t.past ds (dues_unjudged plan ds (told_after a e t) u h.2 b es h.4 (once_on e t.past es once) none),
)

-- ---- the trees that an entry left

abbrev EachKind : (Kind → Type 0) → List Kind → Type 0
EachKind P [] = Unit {0}
EachKind P (k ∷ ks) = P k × EachKind P ks

same_kind : (j k : Kind) → (number_of j == number_of k) ≡ true → j ≡ k
same_kind Bno Bno h = refl
same_kind Cnt Cnt h = refl
same_kind Rmap Rmap h = refl
same_kind Refc Refc h = refl
same_kind Ino Ino h = refl
same_kind Fino Fino h = refl
same_kind j k h = absurd (false≢true h)

in_filter : (P : Kind → Type 0) (p : Kind → Bool) (ks : List Kind) → EachKind P (filter p ks) → EachKind (λ k. p k ≡ true → P k) ks
in_filter P p [] all = tt
in_filter P p (k ∷ ks) all = (elim (p k) as (λ b. p k ≡ b → EachKind P (cond b (k ∷ filter p ks) (filter p ks)) → EachKind (λ j. p j ≡ true → P j) (k ∷ ks)) [
  | true ↦ λ is each. (λ h. each.0, in_filter P p ks each.1)
  | false ↦ λ is each. (λ h. absurd (false≢true (sym is ∙ h)), in_filter P p ks each)
]) refl all

other_left : (j k : Kind) (js : List Kind) → is_among k (j ∷ js) ≡ true → (number_of j == number_of k) ≡ false → is_among k js ≡ true
other_left j k js among other = sym (ap (λ (b : Bool). b || is_among k js) other) ∙ among

not_alone : (j k : Kind) → (number_of j == number_of k) ≡ false → not (is_among k (j ∷ [])) ≡ true
not_alone j k other = ap (λ (b : Bool). not (b || false)) other

-- of each of these once is of each of them
each_once : (P : Kind → Type 0) (left : List Kind) → EachKind P (once_each left) → (k : Kind) → is_among k left ≡ true → P k
each_once P [] all k among = absurd (false≢true among)
each_once P (j ∷ js) all k among = elim (cases_Bool (number_of j == number_of k)) [
  | inl same ↦ subst P (same_kind j k same) all.0
  | inr other ↦
      each_once (λ i. not (is_among i (j ∷ [])) ≡ true → P i) js (in_filter P (λ i. not (is_among i (j ∷ []))) (once_each js) all.1) k (other_left j k js among other) (not_alone j k other)
]

of_dues : (a x b : State) (left ks : List Kind) (e : Entry) (past : List Entry) (more : List Due)
    → EachDue (IsUnjudged past) (map (λ k. record { before = a; entry = e; kind = k; why = why_left a x b e k }) ks ++ more) → EachKind (λ k. was_judged (group_of_entry a e) (unit_of k) past ≡ false) ks
of_dues a x b left [] e past more all = tt
of_dues a x b left (k ∷ ks) e past more all = (all.0, of_dues a x b left ks e past more all.1)

pub left_unjudged : (plan : Plan) (t u : Told) (a x next b : State) (left : List Kind) (e : Entry) (es : List Entry) → SaysOn plan (dues a left e x next) (told_after a e t) next es u b
    → OnceEach (e ∷ t.past) es → NoneFell (onto es (e ∷ t.past)) → (k : Kind) → is_among k left ≡ true → was_judged (group_of_entry a e) (unit_of k) (e ∷ t.past) ≡ false
left_unjudged plan t u a x next b left e es h once none k among =
    each_once (λ j. was_judged (group_of_entry a e) (unit_of j) (e ∷ t.past) ≡ false) left
    (of_dues a x next left (once_each left) e (e ∷ t.past) (owners_due a e) (dues_unjudged plan (dues a left e x next) (told_after a e t) u next b es h once none)) k among
