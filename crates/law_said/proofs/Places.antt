-- Each unit has one verdict in a session: what fell behind its verdict has fallen for good.
use Rattle.std.proofs.Common.{◌≡◌, ℕ, zero, suc, ◌+◌, ◌≤◌, ◌<◌, ◌++◌, ◌==◌, ◌&&◌, Bool, true, false, List, [], ◌∷◌, map, flat_map, refl, ap, sym, subst, ◌∙◌, inl, inr, eqb-true, Option, Some, None, append-nil, reverse, arith}
use Rattle.std.specs.Prelude.{if◌then◌else◌, nat_lt}
use Rattle.std.specs.List.{list_all}
use Rattle.std.proofs.lemmas.Bool.{and_parts, cases_Bool, false≢true, cases_eq, ltb-true, or_cases, or_left, or_right, true≢false}
use Rattle.fs_state.specs.Faults.{kind_of_fault}
use Rattle.fs_state.specs.Records.{unit_of}
use Rattle.fs_state.specs.Lists.{numbers}
use Rattle.fs_state.specs.Session.{Place, first_fallen, is_at, is_passed, is_same_unit, stands, unit_order, verdict_places}
use Rattle.fs_model.specs.declared.entry.Entry.{Entry}
use Rattle.fs_model.specs.declared.entry.Entry.TheVariants as entries
use Rattle.fs_model.specs.declared.unit.Unit.{Unit as ScrubUnit}
use Rattle.fs_model.specs.declared.unit.Unit.TheVariants as units
use Rattle.law_said.proofs.Tests.{on_false, on_true, reverse_more, spared}
use Rattle.law_said.specs.InTime.{is_repair_in, was_judged}

-- ---- how often a unit stands among places

abbrev pub one_if : Bool → ℕ
one_if t = if t then 1 else 0

abbrev pub times : ℕ → ScrubUnit → List Place → ℕ
times g u [] = 0
times g u (p ∷ ps) = one_if (is_at g u p.0 p.1) + times g u ps

module _ (g : ℕ) (u : ScrubUnit) where
  times-append : (ps qs : List Place) → times g u (ps ++ qs) ≡ times g u ps + times g u qs
  times-append [] qs = omega arith
  times-append (p ∷ ps) qs = let rest = times-append ps qs in omega (arith, rest)

  less_if : (s t : Bool) → one_if (s && t) ≤ one_if t
  less_if true t = omega arith
  less_if false t = omega arith

  -- units of later groups
  later_one : (v : ScrubUnit) (n k : ℕ) → g < k → times g u (map (λ h. (h, v)) (numbers k n)) ≡ 0
  later_one v zero k lt = refl
  later_one v (suc n) k lt =
      let rest = later_one v n (k + 1) (omega (arith, lt)) in
      elim (cases_Bool (k == g)) [
        | inl same ↦ absurd (let is = eqb-true k g same in omega (arith, is, lt))
        | inr other ↦ let none : one_if (is_at g u k v) ≡ 0 = ap (λ b. one_if (b && is_same_unit u v)) other in omega (arith, none, rest)
      ]

  later_two : (n k : ℕ) → g < k → times g u (flat_map (λ h. (h, units.Free) ∷ (h, units.Refc) ∷ []) (numbers k n)) ≡ 0
  later_two zero k lt = refl
  later_two (suc n) k lt =
      let rest = later_two n (k + 1) (omega (arith, lt)) in
      elim (cases_Bool (k == g)) [
        | inl same ↦ absurd (let is = eqb-true k g same in omega (arith, is, lt))
        | inr other ↦
            let none : one_if (is_at g u k units.Free) ≡ 0 = ap (λ b. one_if (b && is_same_unit u units.Free)) other in
            let also : one_if (is_at g u k units.Refc) ≡ 0 = ap (λ b. one_if (b && is_same_unit u units.Refc)) other in
            omega (arith, none, also, rest)
      ]

  of_one : (v : ScrubUnit) (n k : ℕ) → times g u (map (λ h. (h, v)) (numbers k n)) ≤ one_if (is_same_unit u v)
  of_one v zero k = omega arith
  of_one v (suc n) k = elim (cases_Bool (k == g)) [
    | inl same ↦
        let is = eqb-true k g same in
        let rest = later_one v n (k + 1) (omega (arith, is)) in
        let less = less_if (k == g) (is_same_unit u v) in
        omega (arith, rest, less)
    | inr other ↦
        let none : one_if (is_at g u k v) ≡ 0 = ap (λ b. one_if (b && is_same_unit u v)) other in
        let rest = of_one v n (k + 1) in
        omega (arith, none, rest)
  ]

  of_two : (n k : ℕ) → times g u (flat_map (λ h. (h, units.Free) ∷ (h, units.Refc) ∷ []) (numbers k n)) ≤ one_if (is_same_unit u units.Free) + one_if (is_same_unit u units.Refc)
  of_two zero k = omega arith
  of_two (suc n) k = elim (cases_Bool (k == g)) [
    | inl same ↦
        let is = eqb-true k g same in
        let rest = later_two n (k + 1) (omega (arith, is)) in
        let less = less_if (k == g) (is_same_unit u units.Free) in
        let also = less_if (k == g) (is_same_unit u units.Refc) in
        omega (arith, rest, less, also)
    | inr other ↦
        let none : one_if (is_at g u k units.Free) ≡ 0 = ap (λ b. one_if (b && is_same_unit u units.Free)) other in
        let also : one_if (is_at g u k units.Refc) ≡ 0 = ap (λ b. one_if (b && is_same_unit u units.Refc)) other in
        let rest = of_two n (k + 1) in
        omega (arith, none, also, rest)
  ]

one_unit : (u : ScrubUnit) → one_if (is_same_unit u units.Inode) + (one_if (is_same_unit u units.Rmap) + (one_if (is_same_unit u units.Free) + one_if (is_same_unit u units.Refc))) ≡ 1
one_unit units.Inode = refl
one_unit units.Rmap = refl
one_unit units.Free = refl
one_unit units.Refc = refl

-- in the order of a session each unit stands once at most
pub order_once : (n g : ℕ) (u : ScrubUnit) → times g u (unit_order n) ≤ 1
unfolding unit_order
order_once n g u =
    let inodes : List Place = map (λ h. (h, units.Inode)) (numbers 0 n) in
    let maps : List Place = map (λ h. (h, units.Rmap)) (numbers 0 n) in
    let others : List Place = flat_map (λ h. (h, units.Free) ∷ (h, units.Refc) ∷ []) (numbers 0 n) in
    let first = times-append g u (inodes ++ maps) others in
    let second = times-append g u inodes maps in
    let a = of_one g u units.Inode n 0 in
    let b = of_one g u units.Rmap n 0 in
    let c = of_two g u n 0 in
    let all = one_unit u in
    omega (arith, first, second, a, b, c, all)

-- ---- verdicts of a journal

-- the entries behind those that came before, the last of them first
abbrev pub onto : List Entry → List Entry → List Entry
onto [] past = past
onto (e ∷ es) past = onto es (e ∷ past)

pub onto_is : (es past : List Entry) → onto es past ≡ reverse es ++ past
onto_is [] past = refl
onto_is (e ∷ es) past = onto_is es (e ∷ past) ∙ sym (reverse_more e es past)

-- each unit has one verdict at most, in what came before and in what comes
abbrev pub OnceEach : List Entry → List Entry → Type 0
OnceEach past es = (g : ℕ) (u : ScrubUnit) → times g u (verdict_places past) + times g u (verdict_places es) ≤ 1

pub once_on : (e : Entry) (past es : List Entry) → OnceEach past (e ∷ es) → OnceEach (e ∷ past) es
unfolding verdict_places
once_on (entries.Verdict h v w) past es once g u = let k = once g u in omega (arith, k)
once_on e past es once g u = once g u

pub judged_more : (g : ℕ) (u : ScrubUnit) (e : Entry) (past : List Entry) → was_judged g u past ≡ true → was_judged g u (e ∷ past) ≡ true
unfolding was_judged
judged_more g u (entries.Verdict h v w) past judged = or_right (is_at g u h v) (was_judged g u past) judged
judged_more g u e past judged = judged

pub unjudged_before : (g : ℕ) (u : ScrubUnit) (e : Entry) (past : List Entry) → was_judged g u (e ∷ past) ≡ false → was_judged g u past ≡ false
unjudged_before g u e past none = elim (cases_Bool (was_judged g u past)) [
  | inl judged ↦ absurd (true≢false (sym (judged_more g u e past judged) ∙ none))
  | inr not ↦ not
]

pub judged_on : (g : ℕ) (u : ScrubUnit) (es past : List Entry) → was_judged g u past ≡ true → was_judged g u (onto es past) ≡ true
judged_on g u [] past judged = judged
judged_on g u (e ∷ es) past judged = judged_on g u es (e ∷ past) (judged_more g u e past judged)

judged_counts : (g : ℕ) (u : ScrubUnit) (es : List Entry) → was_judged g u es ≡ true → 1 ≤ times g u (verdict_places es)
unfolding was_judged verdict_places
judged_counts g u [] judged = absurd (false≢true judged)
judged_counts g u (entries.Verdict h v w ∷ es) judged = elim (or_cases (is_at g u h v) (was_judged g u es) judged) [
  | inl here ↦ let one : one_if (is_at g u h v) ≡ 1 = ap one_if here in omega (arith, one)
  | inr later ↦ let rest = judged_counts g u es later in omega (arith, rest)
]
judged_counts g u (e ∷ es) judged = judged_counts g u es judged

-- a unit that stands was judged
pub stands_judged : (g : ℕ) (u : ScrubUnit) (past : List Entry) → stands g u past ≡ true → was_judged g u past ≡ true
unfolding stands was_judged
stands_judged g u [] st = absurd (false≢true st)
stands_judged g u (entries.Verdict h v w ∷ past) st = elim (cases_Bool (is_at g u h v)) [
  | inl here ↦ or_left (is_at g u h v) (was_judged g u past) here
  | inr away ↦ or_right (is_at g u h v) (was_judged g u past) (stands_judged g u past (sym (on_false (is_at g u h v) (is_passed w) (stands g u past) away) ∙ st))
]
stands_judged g u (entries.Fault h v fault ∷ past) st = stands_judged g u past (spared (is_at g u h (unit_of (kind_of_fault fault))) (stands g u past) st).1
stands_judged g u (entries.Marked h k cause ∷ past) st = stands_judged g u past (spared (is_at g u h (unit_of k)) (stands g u past) st).1
stands_judged g u (e ∷ past) st = stands_judged g u past st

-- ---- a unit that fell

pub false_if : (t old : Bool) → old ≡ false → (if t then false else old) ≡ false
false_if true old h = refl
false_if false old h = h

fallen_on : (g : ℕ) (u : ScrubUnit) (es past : List Entry) → times g u (verdict_places es) ≡ 0 → stands g u past ≡ false → stands g u (onto es past) ≡ false
unfolding stands verdict_places
fallen_on g u [] past none fell = fell
fallen_on g u (entries.Verdict h v w ∷ es) past none fell = elim (cases_Bool (is_at g u h v)) [
  | inl here ↦ absurd (let one : one_if (is_at g u h v) ≡ 1 = ap one_if here in omega (arith, one, none))
  | inr away ↦ fallen_on g u es (entries.Verdict h v w ∷ past) (omega (arith, none)) (on_false (is_at g u h v) (is_passed w) (stands g u past) away ∙ fell)
]
fallen_on g u (entries.Fault h v fault ∷ es) past none fell = fallen_on g u es (entries.Fault h v fault ∷ past) none (false_if (is_at g u h (unit_of (kind_of_fault fault))) (stands g u past) fell)
fallen_on g u (entries.Marked h k cause ∷ es) past none fell = fallen_on g u es (entries.Marked h k cause ∷ past) none (false_if (is_at g u h (unit_of k)) (stands g u past) fell)
fallen_on g u (e ∷ es) past none fell = fallen_on g u es (e ∷ past) none fell

-- no unit that was judged has fallen
abbrev pub NoneFell : List Entry → Type 0
NoneFell past = (g : ℕ) (u : ScrubUnit) → was_judged g u past ≡ true → stands g u past ≡ true

-- so it was at each moment, where it is at the end
pub none_fell : (es past : List Entry) → OnceEach past es → NoneFell (onto es past) → NoneFell past
none_fell es past once none g u judged = elim (cases_Bool (stands g u past)) [
  | inl still ↦ still
  | inr fell ↦
      let some = judged_counts g u past judged in
      let most = once g u in
      let later : times g u (verdict_places es) ≡ 0 = omega (arith, some, most) in
      absurd (true≢false (sym (none g u (judged_on g u es past judged)) ∙ fallen_on g u es past later fell))
]

-- ---- all units stand

head_stands : (t : Bool) (o : Option Place) (p : Place) → (if t then o else Some p) ≡ None → (t ≡ true) × (o ≡ None)
head_stands true o p h = (refl, h)
head_stands false o p h = let none : ◌≡◌ {A = Option Place} (Some p) None = h in absurd (cc)

module _ (past : List Entry) where
  pub none_fallen : (p : Place) (ps : List Place) → first_fallen past (p ∷ ps) ≡ None → (stands p.0 p.1 past ≡ true) × (first_fallen past ps ≡ None)
  none_fallen p ps h = head_stands (stands p.0 p.1 past) (first_fallen past ps) p h

  parts : (ps qs : List Place) → first_fallen past (ps ++ qs) ≡ None → (first_fallen past ps ≡ None) × (first_fallen past qs ≡ None)
  parts [] qs h = (refl, h)
  parts (p ∷ ps) qs h =
      let here = none_fallen p (ps ++ qs) h in
      let rest = parts ps qs here.1 in
      (on_true (stands p.0 p.1 past) (first_fallen past ps) (Some p) here.0 ∙ rest.0, rest.1)

  pub in_one : (v : ScrubUnit) (n k g : ℕ) → first_fallen past (map (λ h. (h, v)) (numbers k n)) ≡ None → k ≤ g → g < k + n → stands g v past ≡ true
  in_one v zero k g h low high = absurd (omega (arith, low, high))
  in_one v (suc n) k g h low high =
      let here = none_fallen (k, v) (map (λ h. (h, v)) (numbers (k + 1) n)) h in
      elim (cases_eq k g) [
        | inl same ↦ subst (λ (x : ℕ). stands x v past ≡ true) same here.0
        | inr other ↦ in_one v n (k + 1) g here.1 (omega (arith, low, other)) (omega (arith, high))
      ]

  in_two : (n k g : ℕ) → first_fallen past (flat_map (λ h. (h, units.Free) ∷ (h, units.Refc) ∷ []) (numbers k n)) ≡ None → k ≤ g → g < k + n
      → (stands g units.Free past ≡ true) × (stands g units.Refc past ≡ true)
  in_two zero k g h low high = absurd (omega (arith, low, high))
  in_two (suc n) k g h low high =
      let rest : List Place = flat_map (λ h. (h, units.Free) ∷ (h, units.Refc) ∷ []) (numbers (k + 1) n) in
      let free = none_fallen (k, units.Free) ((k, units.Refc) ∷ rest) h in
      let refc = none_fallen (k, units.Refc) rest free.1 in
      elim (cases_eq k g) [
        | inl same ↦ (subst (λ (x : ℕ). stands x units.Free past ≡ true) same free.0, subst (λ (x : ℕ). stands x units.Refc past ≡ true) same refc.0)
        | inr other ↦ in_two n (k + 1) g refc.1 (omega (arith, low, other)) (omega (arith, high))
      ]

-- each unit of n groups stands where none in their order has fallen
pub all_stand : (n : ℕ) (past : List Entry) (g : ℕ) (u : ScrubUnit) → first_fallen past (unit_order n) ≡ None → g < n → stands g u past ≡ true
unfolding unit_order
all_stand n past g u h lt =
    let inodes : List Place = map (λ h. (h, units.Inode)) (numbers 0 n) in
    let maps : List Place = map (λ h. (h, units.Rmap)) (numbers 0 n) in
    let others : List Place = flat_map (λ h. (h, units.Free) ∷ (h, units.Refc) ∷ []) (numbers 0 n) in
    let first = parts past (inodes ++ maps) others h in
    let second = parts past inodes maps first.0 in
    let inside : g < 0 + n = omega (arith, lt) in
    let two = in_two past n 0 g first.1 (omega arith) inside in
    of_unit u (in_one past units.Inode n 0 g second.0 (omega arith) inside) (in_one past units.Rmap n 0 g second.1 (omega arith) inside) two.0 two.1
  where
    of_unit : (v : ScrubUnit) → stands g units.Inode past ≡ true → stands g units.Rmap past ≡ true → stands g units.Free past ≡ true → stands g units.Refc past ≡ true → stands g v past ≡ true
    of_unit units.Inode a b c d = a
    of_unit units.Rmap a b c d = b
    of_unit units.Free a b c d = c
    of_unit units.Refc a b c d = d

-- ---- at the end of a session

-- who was judged is of a group that the image has
pub judged_inside : (n : ℕ) (es past : List Entry) (g : ℕ) (u : ScrubUnit) → list_all (is_repair_in n) es ≡ true → (was_judged g u past ≡ true → g < n) → was_judged g u (onto es past) ≡ true → g < n
unfolding was_judged
judged_inside n [] past g u all old judged = old judged
judged_inside n (entries.Verdict h v w ∷ es) past g u all old judged =
    let both = and_parts (nat_lt h n) (list_all (is_repair_in n) es) all in
    judged_inside n es (entries.Verdict h v w ∷ past) g u both.1 (λ now. elim (or_cases (is_at g u h v) (was_judged g u past) now) [
      | inl here ↦ let same = eqb-true h g (and_parts (h == g) (is_same_unit u v) here).0 in let lt = ltb-true h n both.0 in omega (arith, same, lt)
      | inr before ↦ old before
    ]) judged
judged_inside n (e ∷ es) past g u all old judged = judged_inside n es (e ∷ past) g u (and_parts (is_repair_in n e) (list_all (is_repair_in n) es) all).1 old judged

pub none_judged : (g : ℕ) (u : ScrubUnit) → was_judged g u [] ≡ false
unfolding was_judged
none_judged g u = refl

-- none has fallen where all stand
pub none_at_end : (n : ℕ) (es : List Entry) → list_all (is_repair_in n) es ≡ true → first_fallen (reverse es) (unit_order n) ≡ None → NoneFell (onto es [])
none_at_end n es all none g u judged =
    let same : onto es [] ≡ reverse es = onto_is es [] ∙ append-nil (reverse es) in
    all_stand n (onto es []) g u (ap (λ (past : List Entry). first_fallen past (unit_order n)) same ∙ none)
    (judged_inside n es [] g u all (λ now. absurd (false≢true (sym (none_judged g u) ∙ now))) judged)
