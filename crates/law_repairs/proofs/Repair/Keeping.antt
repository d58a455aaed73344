-- Marks, faults, verdicts and replies keep what is known.
use Rattle.std.proofs.Common.{◌≡◌, ℕ, ◌==◌, List, [], ◌∷◌, refl, ap, sym, subst, ◌∙◌, inl, inr, eqb-true, eq-eqb}
use Rattle.std.specs.Prelude.{◌⊎◌}
use Rattle.std.proofs.lemmas.Bool.{cases_Bool, true≢false}
use Rattle.fs_change.specs.Changes.{judged, marked}
use Rattle.fs_change.specs.Loose.{Loosely}
use Rattle.fs_change.specs.Parts.{in_group, set_trust, set_trusts}
use Rattle.fs_state.specs.Faults.{kind_of_fault}
use Rattle.fs_state.specs.Records.{kinds_of}
use Rattle.fs_state.specs.Laws.{EachTree}
use Rattle.fs_model.specs.declared.unit.Trust.{Trust}
use Rattle.fs_model.specs.declared.unit.Trust.TheVariants.{Good, Sick}
use Rattle.fs_model.specs.declared.unit.Unit.{Unit as ScrubUnit}
use Rattle.fs_model.specs.declared.unit.Unit.TheVariants as units
use Rattle.fs_model.specs.declared.verdict.Verdict.{Verdict}
use Rattle.fs_model.specs.declared.verdict.Verdict.TheVariants as verdicts
use Rattle.fs_state.specs.State.{State, Group}
use Rattle.geom.specs.Apart.{Splits}
use Rattle.sblock.specs.declared.kind.Kind.{Kind}
use Rattle.sblock.specs.declared.kind.Kind.TheVariants.{Bno, Cnt, Rmap, Refc, Ino, Fino}
use Rattle.law_repairs.specs.Repair.Alike.{Alike, AlikeGroup}
use Rattle.law_repairs.specs.Repair.Kept.{FaultKeeps, IsTrue, MarkedKeeps, NoneMoves, ReplyKeeps, VerdictKeeps}
use Rattle.law_repairs.specs.Repair.Letters.{Holds, IsTrusted, Stands}
use Rattle.law_repairs.proofs.Repair.Groups.{alike_trust, each_is, holds_alike, in_each, in_other_group, only_same}
use Rattle.law_repairs.proofs.Repair.Same.{is_inode_of}

-- ---- no block moves

module _ (a x b : State) (g : ℕ) (left : List Kind) (l : Loosely g left [] a x b) where
  pub same_group : (h : ℕ) → b.group h ≡ x.group h
  same_group h = elim (cases_Bool (h == g)) [
    | inl same ↦ let e : h ≡ g = eqb-true h g same in ap b.group e ∙ l.inside ∙ ap x.group (sym e)
    | inr other ↦ l.others h (λ e. true≢false (sym (eq-eqb h g e) ∙ other))
  ]

  pub none_moves_from : Splits x.geometry → Alike x b
  none_moves_from splits = record {
    inodes = record {
      geometry = l.geometry;
      chunks = l.inodes.chunks;
      cores = l.inodes.cores;
      forks = λ ino f i. l.inodes.forks ino f (is_inode_of x splits ino i);
    };
    groups = λ h. subst (λ (p : Group). AlikeGroup (x.group h) p) (sym (same_group h)) (only_same (x.group h));
  }

pub none_moves : NoneMoves
none_moves a x b g left splits l = none_moves_from a x b g left l splits

-- ---- trust

abbrev pub TrustedIn : Group → ScrubUnit → Type 0
TrustedIn p unit = EachTree (λ k. (p.tree k).trust ≡ Good) (kinds_of unit)

-- what is known of a unit comes through a change of trust alone, and through what is open after it
pub stands_by : (a x b : State) (g : ℕ) (left : List Kind) (h : ℕ) (unit : ScrubUnit) → Splits x.geometry → Loosely g left [] a x b → (IsTrusted x h unit → Holds x h unit) → Stands b h unit
stands_by a x b g left h unit splits l holds trusted =
    holds_alike x b splits (none_moves_from a x b g left l splits) h unit (holds (subst (λ (p : Group). TrustedIn p unit) (same_group a x b g left l h) trusted))

pub reading_trusted : (t : Trust) (k j : Kind) (p : Group) → ((set_trust t k p).tree j).reading ≡ (p.tree j).reading
reading_trusted t Bno Bno p = refl
reading_trusted t Cnt Cnt p = refl
reading_trusted t Rmap Rmap p = refl
reading_trusted t Refc Refc p = refl
reading_trusted t Ino Ino p = refl
reading_trusted t Fino Fino p = refl
reading_trusted t k j p = refl

pub one_trusted : (t : Trust) (k : Kind) (p : Group) → AlikeGroup p (set_trust t k p)
one_trusted t k p = record { list = refl; counters = refl; reading = λ j. reading_trusted t k j p; reserve = refl; limbo = refl }

then_trusted : (t : Trust) (k : Kind) (p q : Group) → AlikeGroup p q → AlikeGroup p (set_trust t k q)
then_trusted t k p q o = record { list = o.list; counters = o.counters; reading = λ j. reading_trusted t k j q ∙ o.reading j; reserve = o.reserve; limbo = o.limbo }

pub all_trusted : (t : Trust) (ks : List Kind) (p : Group) → AlikeGroup p (set_trusts t ks p)
all_trusted t [] p = only_same p
all_trusted t (k ∷ ks) p = then_trusted t k p (set_trusts t ks p) (all_trusted t ks p)

sick_good : ◌≡◌ {A = Trust} Sick Good → ⊥
sick_good e = cc

not_sick : (k j : Kind) (p : Group) → ((set_trust Sick k p).tree j).trust ≡ Good → (p.tree j).trust ≡ Good
not_sick Bno Bno p h = absurd (sick_good h)
not_sick Cnt Cnt p h = absurd (sick_good h)
not_sick Rmap Rmap p h = absurd (sick_good h)
not_sick Refc Refc p h = absurd (sick_good h)
not_sick Ino Ino p h = absurd (sick_good h)
not_sick Fino Fino p h = absurd (sick_good h)
not_sick k j p h = h

-- ---- marks and faults

mark_keeps : (g : ℕ) (k : Kind) (a : State) (h : ℕ) (unit : ScrubUnit) → Splits a.geometry → Stands a h unit → IsTrusted (marked g k a) h unit → Holds (marked g k a) h unit
unfolding marked
mark_keeps g k a h unit splits stands trusted =
    holds_alike a (in_group g (set_trust Sick k) a) splits (alike_trust g (set_trust Sick k) a (one_trusted Sick k)) h unit
    (stands (each_is (λ j. in_each (λ p q. (q.tree j).trust ≡ Good → (p.tree j).trust ≡ Good) g (set_trust Sick k) a h (not_sick k j) (λ p t. t)) (kinds_of unit) trusted))

mark_splits : (g : ℕ) (k : Kind) (a : State) → Splits a.geometry → Splits (marked g k a).geometry
unfolding marked
mark_splits g k a splits = splits

after_mark : (a x b : State) (g : ℕ) (k : Kind) (left : List Kind) (h : ℕ) (unit : ScrubUnit) → Splits a.geometry → x ≡ marked g k a → Loosely g left [] a x b → Stands a h unit → Stands b h unit
after_mark a x b g k left h unit splits same l stands =
    stands_by a (marked g k a) b g left h unit (mark_splits g k a splits) (subst (λ (y : State). Loosely g left [] a y b) same l) (mark_keeps g k a h unit splits stands)

pub marked_keeps : MarkedKeeps
marked_keeps g k cause a b left h unit splits s stands = after_mark a s.decided b g k left h unit splits s.row.2 s.loosely stands

pub fault_keeps : FaultKeeps
fault_keeps g own fault a b left h unit splits s stands = after_mark a s.decided b g (kind_of_fault fault) left h unit splits s.row.2 s.loosely stands

-- ---- verdicts

-- a good verdict on one unit says nothing of another
trusts_one : (own unit : ScrubUnit) → (own ≡ unit) ⊎ ((p : Group) → TrustedIn (set_trusts Good (kinds_of own) p) unit → TrustedIn p unit)
trusts_one units.Inode units.Inode = inl refl
trusts_one units.Inode units.Rmap = inr (λ p t. t)
trusts_one units.Inode units.Free = inr (λ p t. t)
trusts_one units.Inode units.Refc = inr (λ p t. t)
trusts_one units.Rmap units.Inode = inr (λ p t. t)
trusts_one units.Rmap units.Rmap = inl refl
trusts_one units.Rmap units.Free = inr (λ p t. t)
trusts_one units.Rmap units.Refc = inr (λ p t. t)
trusts_one units.Free units.Inode = inr (λ p t. t)
trusts_one units.Free units.Rmap = inr (λ p t. t)
trusts_one units.Free units.Free = inl refl
trusts_one units.Free units.Refc = inr (λ p t. t)
trusts_one units.Refc units.Inode = inr (λ p t. t)
trusts_one units.Refc units.Rmap = inr (λ p t. t)
trusts_one units.Refc units.Free = inr (λ p t. t)
trusts_one units.Refc units.Refc = inl refl

was_known : (g : ℕ) (own : ScrubUnit) (a : State) (h : ℕ) (unit : ScrubUnit) → Holds a g own → Stands a h unit → IsTrusted (in_group g (set_trusts Good (kinds_of own)) a) h unit → Holds a h unit
was_known g own a h unit holds stands trusted =
    let f : Group → Group = set_trusts Good (kinds_of own) in
    elim (trusts_one own unit) [
      | inr other ↦ stands (in_each (λ p q. TrustedIn q unit → TrustedIn p unit) g f a h other (λ p t. t) trusted)
      | inl same ↦ elim (cases_Bool (h == g)) [
        | inl here ↦ subst (λ (n : ℕ). Holds a n unit) (sym (eqb-true h g here)) (subst (Holds a g) same holds)
        | inr away ↦ stands (in_other_group (λ p q. TrustedIn q unit → TrustedIn p unit) g f a h away (λ p t. t) trusted)
      ]
    ]

good_keeps : (g : ℕ) (own : ScrubUnit) (a : State) (h : ℕ) (unit : ScrubUnit) → Splits a.geometry → Holds a g own → Stands a h unit → IsTrusted (judged g own verdicts.Good a) h unit → Holds (judged g own verdicts.Good a) h unit
unfolding judged
good_keeps g own a h unit splits holds stands trusted =
    holds_alike a (in_group g (set_trusts Good (kinds_of own)) a) splits (alike_trust g (set_trusts Good (kinds_of own)) a (all_trusted Good (kinds_of own))) h unit
    (was_known g own a h unit holds stands trusted)

no_change : (g : ℕ) (a : State) (h : ℕ) (unit : ScrubUnit) → Splits a.geometry → Stands a h unit → IsTrusted (in_group g (λ p. p) a) h unit → Holds (in_group g (λ p. p) a) h unit
no_change g a h unit splits stands trusted =
    holds_alike a (in_group g (λ p. p) a) splits (alike_trust g (λ p. p) a only_same) h unit
    (stands (in_each (λ p q. TrustedIn q unit → TrustedIn p unit) g (λ p. p) a h (λ p t. t) (λ p t. t) trusted))

judged_keeps : (g : ℕ) (own : ScrubUnit) (v : Verdict) (a : State) (h : ℕ) (unit : ScrubUnit) → Splits a.geometry → IsTrue a g own v → Stands a h unit → IsTrusted (judged g own v a) h unit → Holds (judged g own v a) h unit
unfolding judged
judged_keeps g own verdicts.Good a h unit splits holds stands trusted = good_keeps g own a h unit splits holds stands trusted
judged_keeps g own (verdicts.Faulty n) a h unit splits holds stands trusted = no_change g a h unit splits stands trusted
judged_keeps g own verdicts.Rebuilt a h unit splits holds stands trusted = no_change g a h unit splits stands trusted
judged_keeps g own (verdicts.Skipped n other) a h unit splits holds stands trusted = no_change g a h unit splits stands trusted
judged_keeps g own (verdicts.GaveUp reason) a h unit splits holds stands trusted = no_change g a h unit splits stands trusted

judged_splits : (g : ℕ) (own : ScrubUnit) (v : Verdict) (a : State) → Splits a.geometry → Splits (judged g own v a).geometry
unfolding judged
judged_splits g own v a splits = splits

pub verdict_keeps : VerdictKeeps
verdict_keeps a b left g own v h unit splits s true_there stands =
    stands_by a (judged g own v a) b g left h unit (judged_splits g own v a splits)
    (subst (λ (y : State). Loosely g left [] a y b) s.row.1 s.loosely) (judged_keeps g own v a h unit splits true_there stands)

-- ---- replies

pub reply_keeps : ReplyKeeps
reply_keeps writer line code done refused begun a b left h unit splits s stands =
    stands_by a a b 0 left h unit splits (subst (λ (y : State). Loosely 0 left [] a y b) s.row s.loosely) stands
