-- Groups of a phase, one after the other.
use Rattle.std.proofs.Common.{◌≡◌, ℕ, zero, suc, ◌+◌, ◌-◌, ◌<◌, ◌≤◌, List, [], ◌∷◌, ◌++◌, get_or, length, Ok, Err, refl, sym, ◌∙◌, ap, subst, append_assoc, arith}
use Rattle.std.specs.Prelude.{flat_map, Option}
use Rattle.std.proofs.lemmas.List.{append-nil}
use Rattle.fs_state.specs.Lists.{numbers}
use Rattle.fs_state.specs.Session.{Place}
use Rattle.fs_state.specs.Kinds.{Image}
use Rattle.fs_state.specs.State.{State}
use Rattle.geom.specs.Layout.{Layout, group_len_of}
use Rattle.group_trees.specs.declared.heads.GroupHeads.{GroupHeads}
use Rattle.space_check.specs.declared.halt.Halt.{Halt}
use Rattle.tree_walk.specs.Trails.{LieInside}
use Rattle.check_phases.specs.Checks.{AreAccepted, AreHeads, Checks, ChecksPhase, IsHeadsOf}
use Rattle.check_phases.specs.Phases.{Phase, group_events, group_passes, phase_events, phase_passes}
use Rattle.check_phases.specs.declared.tally.Tally.{Tally}
use Rattle.check_phases.proofs.CheckLemmas.{as_checked, nothing_checked, stops_before, then_checks}

flat_both : {A : Type 0} (f : ℕ → List A) (xs ys : List ℕ) → flat_map f (xs ++ ys) ≡ flat_map f xs ++ flat_map f ys
flat_both f [] ys = refl
flat_both f (x ∷ xs) ys = ap (λ zs. f x ++ zs) (flat_both f xs ys) ∙ sym (append_assoc (f x) (flat_map f xs) (flat_map f ys))

number_parts : (a n m : ℕ) → numbers a (n + m) ≡ numbers a n ++ numbers (a + n) m
number_parts a zero m = let z : 0 + m ≡ m = omega arith in let e : a ≡ a + 0 = omega arith in ap (numbers a) z ∙ ap (λ x. numbers x m) e
number_parts a (suc n) m = let s : suc n + m ≡ suc (n + m) = omega arith in let e : (a + 1) + n ≡ a + suc n = omega arith in ap (numbers a) s ∙ ap (λ (ns : List ℕ). a ∷ ns) (number_parts (a + 1) n m ∙ ap (λ x. numbers (a + 1) n ++ numbers x m) e)

-- what n groups give, and then the next one, and then m more
pub next_part : {A : Type 0} (f : ℕ → List A) (a n m : ℕ) → flat_map f (numbers a (n + suc m)) ≡ flat_map f (numbers a n) ++ (f (a + n) ++ flat_map f (numbers ((a + n) + 1) m))
next_part f a n m = ap (flat_map f) (number_parts a n (suc m)) ∙ flat_both f (numbers a n) (numbers (a + n) (suc m))

pub last_part : {A : Type 0} (f : ℕ → List A) (a n : ℕ) → flat_map f (numbers a (n + 1)) ≡ flat_map f (numbers a n) ++ f (a + n)
last_part f a n = next_part f a n zero ∙ ap (λ xs. flat_map f (numbers a n) ++ xs) (append-nil (f (a + n)))

module _ (a : State) (phase : Phase) (lacks : ℕ → Option Place) where
  pub part_begun : (from n : ℕ) (t : Tally) → n ≡ 0 → ChecksPhase {T = Unit {0}} a phase lacks from n t t (Ok tt)
  unfolding phase_events phase_passes
  part_begun from n t none = subst (λ k. ChecksPhase {T = Unit {0}} a phase lacks from k t t (Ok tt)) (sym none) (nothing_checked {T = Unit {0}} t tt)

  pub part_goes_on : (from g : ℕ) (before now after : Tally) → from ≤ g → ChecksPhase {T = Unit {0}} a phase lacks from (g - from) before now (Ok tt) → Checks {T = Unit {0}} (group_events a phase lacks g) (group_passes a phase lacks g) now after (Ok tt)
      → ChecksPhase {T = Unit {0}} a phase lacks from ((g + 1) - from) before after (Ok tt)
  unfolding phase_events phase_passes
  part_goes_on from g before now after le so one =
      let n = g - from in
      let here : from + n ≡ g = omega (arith, le) in
      let more : n + 1 ≡ (g + 1) - from = omega (arith, le) in
      subst (λ k. ChecksPhase {T = Unit {0}} a phase lacks from k before after (Ok tt)) more
      (as_checked {T = Unit {0}} (phase_events a phase lacks from n ++ group_events a phase lacks g) (phase_events a phase lacks from (n + 1)) (phase_passes a phase lacks from n ++ group_passes a phase lacks g) (phase_passes a phase lacks from (n + 1)) before after (Ok tt)
      (ap (λ h. phase_events a phase lacks from n ++ group_events a phase lacks h) (sym here) ∙ sym (last_part (group_events a phase lacks) from n))
      (ap (λ h. phase_passes a phase lacks from n ++ group_passes a phase lacks h) (sym here) ∙ sym (last_part (group_passes a phase lacks) from n))
      (then_checks {S = Unit {0}} {T = Unit {0}} (phase_events a phase lacks from n) (group_events a phase lacks g) (phase_passes a phase lacks from n) (group_passes a phase lacks g) before now after tt (Ok tt) so one))

  pub part_stops : (from to g : ℕ) (before now after : Tally) (halt : Halt) → from ≤ g → g < to → ChecksPhase {T = Unit {0}} a phase lacks from (g - from) before now (Ok tt) → Checks {T = Unit {0}} (group_events a phase lacks g) (group_passes a phase lacks g) now after (Err halt)
      → ChecksPhase {T = Unit {0}} a phase lacks from (to - from) before after (Err halt)
  unfolding phase_events phase_passes
  part_stops from to g before now after halt le lt so one =
      let n = g - from in
      let m = to - (g + 1) in
      let here : from + n ≡ g = omega (arith, le) in
      let all : n + suc m ≡ to - from = omega (arith, le, lt) in
      let es = phase_events a phase lacks from n in
      let ps = phase_passes a phase lacks from n in
      let fs = phase_events a phase lacks ((from + n) + 1) m in
      let qs = phase_passes a phase lacks ((from + n) + 1) m in
      let group = stops_before (Unit {0}) (Unit {0}) (group_events a phase lacks g) fs (group_passes a phase lacks g) (group_passes a phase lacks g ++ qs) now after halt one in
      subst (λ k. ChecksPhase {T = Unit {0}} a phase lacks from k before after (Err halt)) all
      (as_checked {T = Unit {0}} (es ++ (group_events a phase lacks g ++ fs)) (phase_events a phase lacks from (n + suc m)) (ps ++ (group_passes a phase lacks g ++ qs)) (phase_passes a phase lacks from (n + suc m)) before after (Err halt)
      (ap (λ h. es ++ (group_events a phase lacks h ++ fs)) (sym here) ∙ sym (next_part (group_events a phase lacks) from n m))
      (ap (λ h. ps ++ (group_passes a phase lacks h ++ qs)) (sym here) ∙ sym (next_part (group_passes a phase lacks) from n m))
      (then_checks {S = Unit {0}} {T = Unit {0}} es (group_events a phase lacks g ++ fs) ps (group_passes a phase lacks g ++ qs) before now after tt (Err halt) so group))

  pub part_ended : (from to g : ℕ) (before now : Tally) → g - from ≡ to - from → ChecksPhase {T = Unit {0}} a phase lacks from (g - from) before now (Ok tt) → ChecksPhase {T = Unit {0}} a phase lacks from (to - from) before now (Ok tt)
  part_ended from to g before now same so = subst (λ k. ChecksPhase {T = Unit {0}} a phase lacks from k before now (Ok tt)) same so

-- ---- heads among those of all groups

pub accepted_at : (at : Layout) (g i : ℕ) (d : GroupHeads) (hs : List GroupHeads) → i < length hs → AreAccepted at g hs → LieInside (group_len_of at (g + i)) (get_or hs i d).list.items
accepted_at at g i d [] lt h = absurd (omega (arith, lt))
accepted_at at g zero d (x ∷ xs) lt h = let e : g ≡ g + 0 = omega arith in subst (λ k. LieInside (group_len_of at k) x.list.items) e h.0
accepted_at at g (suc i) d (x ∷ xs) lt h = let e : (g + 1) + i ≡ g + suc i = omega arith in subst (λ k. LieInside (group_len_of at k) (get_or xs i d).list.items) e (accepted_at at (g + 1) i d xs (omega (arith, lt)) h.1)

pub heads_at : (at : Layout) (image : Image) (g i : ℕ) (d : GroupHeads) (hs : List GroupHeads) → i < length hs → AreHeads at image g hs → IsHeadsOf at image (g + i) (get_or hs i d)
heads_at at image g i d [] lt h = absurd (omega (arith, lt))
heads_at at image g zero d (x ∷ xs) lt h = let e : g ≡ g + 0 = omega arith in subst (λ k. IsHeadsOf at image k x) e h.0
heads_at at image g (suc i) d (x ∷ xs) lt h = let e : (g + 1) + i ≡ g + suc i = omega arith in subst (λ k. IsHeadsOf at image k (get_or xs i d)) e (heads_at at image (g + 1) i d xs (omega (arith, lt)) h.1)

-- among those from the first group on
pub accepted_among : (at : Layout) (i : ℕ) (d : GroupHeads) (hs : List GroupHeads) → i < length hs → AreAccepted at 0 hs → LieInside (group_len_of at i) (get_or hs i d).list.items
accepted_among at i d hs lt h = let e : 0 + i ≡ i = omega arith in subst (λ k. LieInside (group_len_of at k) (get_or hs i d).list.items) e (accepted_at at 0 i d hs lt h)

pub heads_among : (at : Layout) (image : Image) (i : ℕ) (d : GroupHeads) (hs : List GroupHeads) → i < length hs → AreHeads at image 0 hs → IsHeadsOf at image i (get_or hs i d)
heads_among at image i d hs lt h = let e : 0 + i ≡ i = omega arith in subst (λ k. IsHeadsOf at image k (get_or hs i d)) e (heads_at at image 0 i d hs lt h)
