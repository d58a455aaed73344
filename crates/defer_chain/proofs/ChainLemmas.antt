-- What steps leave of a chain's intents.
use Rattle.std.proofs.Common.{◌≡◌, ℕ, zero, suc, ◌+◌, ◌-◌, ◌^◌, ◌<◌, ◌≤◌, ◌==◌, Bool, true, false, List, [], ◌∷◌, ◌++◌, length, take, drop, get_or, refl, sym, ap, ◌∙◌, arith, subst, Option, Some, None, inl, inr, cond}
use Rattle.std.specs.Prelude.{option_to_list, ◌&&◌, nat_lt, nat_le, if◌then◌else◌}
use Rattle.std.specs.List.{slice_get, list_all}
use Rattle.std.specs.Option.{option_or}
use Rattle.std.proofs.lemmas.Bool.{and_parts, cases_lt, false≢true}
use Rattle.std.proofs.lemmas.Bool.Decides.{nat_tests}
use Rattle.fs_state.specs.declared.intent.Intent.{Intent}
use Rattle.fs_state.specs.declared.intent.IntentKind.{IntentKind}
use Rattle.fs_state.specs.declared.intent.IntentKind.TheVariants.{RmapAdd, RmapRemove, RmapChange, RefMore, RefLess, Free}
use Rattle.defer_chain.specs.Steps.{steps_in, owed_in, are_owed, front_fits, in_order, is_count, has_run, is_rmap, is_ref, is_less, is_free, first_is, count_of_first, stretched, freed_if, left_if, freed, left_of, no_intent}
use Rattle.defer_chain.proofs.StepLemmas.{step_first, no_steps}

pub next_is : (free : Option Intent) (is : List Intent) → option_or free (slice_get is 0) ≡ slice_get (option_to_list free ++ is) 0
next_is None is = refl
next_is (Some f) is = refl

-- ---- kinds

-- the order of a list by the kind of its first intent: whether that has a run, whether the others are in order, and
-- whether they are counts
abbrev order_by : IntentKind → Bool → Bool → Bool → Bool
order_by k run order counts = if is_rmap k then run && order else (is_ref k && run) && counts

rmap_order : (k : IntentKind) (run order counts : Bool) → is_rmap k ≡ true → order_by k run order counts ≡ true → order ≡ true
rmap_order RmapAdd run order counts r h = (and_parts run order h).1
rmap_order RmapRemove run order counts r h = (and_parts run order h).1
rmap_order RmapChange run order counts r h = (and_parts run order h).1
rmap_order RefMore run order counts r h = absurd (false≢true r)
rmap_order RefLess run order counts r h = absurd (false≢true r)
rmap_order Free run order counts r h = absurd (false≢true r)

ref_order : (k : IntentKind) (run order counts : Bool) → is_ref k ≡ true → order_by k run order counts ≡ true → (run ≡ true) × (counts ≡ true)
ref_order RmapAdd run order counts r h = absurd (false≢true r)
ref_order RmapRemove run order counts r h = absurd (false≢true r)
ref_order RmapChange run order counts r h = absurd (false≢true r)
ref_order RefMore run order counts r h = and_parts run counts h
ref_order RefLess run order counts r h = and_parts run counts h
ref_order Free run order counts r h = absurd (false≢true r)

count_order : (k : IntentKind) (run order counts : Bool) → ((is_ref k && run) && counts) ≡ true → order_by k run order counts ≡ true
count_order RmapAdd run order counts h = absurd (false≢true h)
count_order RmapRemove run order counts h = absurd (false≢true h)
count_order RmapChange run order counts h = absurd (false≢true h)
count_order RefMore run order counts h = h
count_order RefLess run order counts h = h
count_order Free run order counts h = absurd (false≢true h)

free_order : (k : IntentKind) (run order counts : Bool) → is_free k ≡ true → order_by k run order counts ≡ true → ⊥
free_order RmapAdd run order counts f h = false≢true f
free_order RmapRemove run order counts f h = false≢true f
free_order RmapChange run order counts f h = false≢true f
free_order RefMore run order counts f h = false≢true f
free_order RefLess run order counts f h = false≢true f
free_order Free run order counts f h = false≢true h

rmap_or_free : (k : IntentKind) → is_free k ≡ true → is_rmap k ≡ true → ⊥
rmap_or_free RmapAdd f h = false≢true f
rmap_or_free RmapRemove f h = false≢true f
rmap_or_free RmapChange f h = false≢true f
rmap_or_free RefMore f h = false≢true f
rmap_or_free RefLess f h = false≢true f
rmap_or_free Free f h = false≢true h

ref_or_free : (k : IntentKind) → is_free k ≡ true → is_ref k ≡ true → ⊥
ref_or_free RmapAdd f h = false≢true f
ref_or_free RmapRemove f h = false≢true f
ref_or_free RmapChange f h = false≢true f
ref_or_free RefMore f h = false≢true f
ref_or_free RefLess f h = false≢true f
ref_or_free Free f h = false≢true h

-- ---- lists

order_is : (i : Intent) (is : List Intent) → in_order (i ∷ is) ≡ order_by i.kind (has_run i) (in_order is) (list_all is_count is)
unfolding in_order
order_is i is = refl

no_order : in_order [] ≡ true
unfolding in_order
no_order = refl

counts_in_order : (is : List Intent) → list_all is_count is ≡ true → in_order is ≡ true
counts_in_order [] h = no_order
counts_in_order (i ∷ is) h = order_is i is ∙ count_order i.kind (has_run i) (in_order is) (list_all is_count is) h

-- what an intent that stands first says
pub record Parts (free : Option Intent) (steps : List Intent) (done end : ℕ) : Type 0 where
  pub order : done ≤ end
  pub inside : end ≤ 5
  pub fits : front_fits free (steps_in steps done end) ≡ true

pub parts_of : (free : Option Intent) (steps : List Intent) (done end : ℕ) → are_owed free steps done end ≡ true → Parts free steps done end
parts_of free steps done end h =
    let a = and_parts (nat_le done end) (nat_le end 5 && front_fits free (steps_in steps done end)) h in
    let b = and_parts (nat_le end 5) (front_fits free (steps_in steps done end)) a.1 in
    record { order = below done end a.0; inside = below end 5 b.0; fits = b.1 }
  where
    below : (m n : ℕ) → nat_le m n ≡ true → m ≤ n
    below m n t = grind (arith, nat_tests)

pub whole_of : (free : Option Intent) (steps : List Intent) (done end : ℕ) → Parts free steps done end → are_owed free steps done end ≡ true
whole_of free steps done end p = rw (test done end p.order, test end 5 p.inside, p.fits) refl
  where
    test : (m n : ℕ) → m ≤ n → nat_le m n ≡ true
    test m n t = grind (arith, nat_tests)

-- the first intent is the first of the steps
pub record First (steps : List Intent) (done end : ℕ) : Type 0 where
  pub some : done < end
  pub is : steps_in steps done end ≡ get_or steps done no_intent ∷ steps_in steps (done + 1) end

first_of : (test : IntentKind → Bool) (steps : List Intent) (done end : ℕ) → length steps ≡ 5 → end ≤ 5 → first_is test (steps_in steps done end) ≡ true → First steps done end
first_of test steps done end whole inside h = elim (cases_lt done end) [
  | inl some ↦ record { some = some; is = step_first steps done end no_intent some (omega (arith, whole, inside)) }
  | inr none ↦ absurd (false≢true (subst (λ (is : List Intent). first_is test is ≡ true) (no_steps steps done end none) h))
]

-- without a run to be freed
none_in_front : (test : IntentKind → Bool) → ((k : IntentKind) → is_free k ≡ true → test k ≡ true → ⊥) → (free : Option Intent) (is : List Intent) → front_fits free is ≡ true → first_is test (option_to_list free ++ is) ≡ true → free ≡ None
none_in_front test apart None is fits h = refl
none_in_front test apart (Some f) is fits h = absurd (apart f.kind (and_parts (is_free f.kind) (has_run f && list_all is_count is) fits).0 h)

-- ---- a step of reverse mappings

pub record Left (free : Option Intent) (steps : List Intent) (done end : ℕ) (left : List Intent) : Type 0 where
  pub fits : are_owed free steps done end ≡ true
  pub owes : owed_in free steps done end ≡ left

pub rmap_left : (free : Option Intent) (steps : List Intent) (done end : ℕ) → length steps ≡ 5 → are_owed free steps done end ≡ true → first_is is_rmap (owed_in free steps done end) ≡ true → Left None steps (done + 1) end (drop 1 (owed_in free steps done end))
rmap_left None steps done end whole h f =
    let p = parts_of None steps done end h in
    let at = first_of is_rmap steps done end whole p.inside f in
    let i = get_or steps done no_intent in
    let is = steps_in steps (done + 1) end in
    let kind : is_rmap i.kind ≡ true = subst (λ (xs : List Intent). first_is is_rmap xs ≡ true) at.is f in
    let order : in_order (i ∷ is) ≡ true = subst (λ (xs : List Intent). in_order xs ≡ true) at.is p.fits in
    record {
      fits = whole_of None steps (done + 1) end (record { order = omega (arith, at.some); inside = p.inside; fits = rmap_order i.kind (has_run i) (in_order is) (list_all is_count is) kind (sym (order_is i is) ∙ order) });
      owes = sym (ap (drop 1) at.is);
    }
rmap_left (Some r) steps done end whole h f = absurd (rmap_or_free r.kind (and_parts (is_free r.kind) _ (parts_of (Some r) steps done end h).fits).0 f)

-- ---- a run that is freed, or kept

pub free_left : (free : Option Intent) (steps : List Intent) (done end : ℕ) → length steps ≡ 5 → are_owed free steps done end ≡ true → first_is is_free (owed_in free steps done end) ≡ true → Left None steps done end (drop 1 (owed_in free steps done end))
free_left None steps done end whole h f =
    let p = parts_of None steps done end h in
    let at = first_of is_free steps done end whole p.inside f in
    let i = get_or steps done no_intent in
    let is = steps_in steps (done + 1) end in
    let kind : is_free i.kind ≡ true = subst (λ (xs : List Intent). first_is is_free xs ≡ true) at.is f in
    let order : in_order (i ∷ is) ≡ true = subst (λ (xs : List Intent). in_order xs ≡ true) at.is p.fits in
    absurd (free_order i.kind (has_run i) (in_order is) (list_all is_count is) kind (sym (order_is i is) ∙ order))
free_left (Some r) steps done end whole h f =
    let p = parts_of (Some r) steps done end h in
    let is = steps_in steps done end in
    let counts = (and_parts (has_run r) (list_all is_count is) (and_parts (is_free r.kind) (has_run r && list_all is_count is) p.fits).1).1 in
    record { fits = whole_of None steps done end (record { order = p.order; inside = p.inside; fits = counts_in_order is counts }); owes = refl }

-- ---- a stretch of counts

-- what stands first is a count, and what follows are counts
pub record Counts (free : Option Intent) (steps : List Intent) (done end : ℕ) : Type 0 where
  pub none : free ≡ None
  pub first : First steps done end
  pub inside : end ≤ 5
  pub few : done < 5
  pub kind : is_ref (get_or steps done no_intent).kind ≡ true
  pub run : has_run (get_or steps done no_intent) ≡ true
  pub counts : list_all is_count (steps_in steps (done + 1) end) ≡ true

pub counts_of : (free : Option Intent) (steps : List Intent) (done end : ℕ) → length steps ≡ 5 → are_owed free steps done end ≡ true → first_is is_ref (owed_in free steps done end) ≡ true → Counts free steps done end
counts_of None steps done end whole h f =
    let p = parts_of None steps done end h in
    let at = first_of is_ref steps done end whole p.inside f in
    let i = get_or steps done no_intent in
    let is = steps_in steps (done + 1) end in
    let kind : is_ref i.kind ≡ true = subst (λ (xs : List Intent). first_is is_ref xs ≡ true) at.is f in
    let order : in_order (i ∷ is) ≡ true = subst (λ (xs : List Intent). in_order xs ≡ true) at.is p.fits in
    let both = ref_order i.kind (has_run i) (in_order is) (list_all is_count is) kind (sym (order_is i is) ∙ order) in
    record { none = refl; first = at; inside = p.inside; few = omega (arith, at.some, p.inside); kind = kind; run = both.0; counts = both.1 }
counts_of (Some r) steps done end whole h f = absurd (ref_or_free r.kind (and_parts (is_free r.kind) _ (parts_of (Some r) steps done end h).fits).0 f)

run_parts : (i : Intent) → has_run i ≡ true → (0 < i.count) × (i.block + i.count < 2 ^ 32)
run_parts i h = let p = and_parts (nat_lt 0 i.count) (nat_lt (i.block + i.count) (2 ^ 32)) h in (above 0 i.count p.0, above (i.block + i.count) (2 ^ 32) p.1)
  where
    above : (m n : ℕ) → nat_lt m n ≡ true → m < n
    above m n t = grind (arith, nat_tests)

run_of : (i : Intent) → 0 < i.count → i.block + i.count < 2 ^ 32 → has_run i ≡ true
run_of i some end = rw (test 0 i.count some, test (i.block + i.count) (2 ^ 32) end) refl
  where
    test : (m n : ℕ) → m < n → nat_lt m n ≡ true
    test m n t = grind (arith, nat_tests)

differs : (m n : ℕ) → (m == n) ≡ false → m ≡ n → ⊥
differs m n t e = grind (arith, nat_tests)

-- what is left of a count, in front of counts
counts_left : (t : Bool) (n : ℕ) (i : Intent) (is : List Intent) → (n == i.count) ≡ t → n ≤ i.count → is_ref i.kind ≡ true → has_run i ≡ true → list_all is_count is ≡ true → list_all is_count (left_if t n i ++ is) ≡ true
counts_left true n i is e inside kind run counts = counts
counts_left false n i is e inside kind run counts =
    let p = run_parts i run in
    let other = differs n i.count e in
    let rest : has_run (left_of n i) ≡ true = run_of (left_of n i) (omega (arith, inside, other)) (omega (arith, inside, p.1)) in
    rw (kind, rest, counts) refl

stretched_is : (n : ℕ) (b : Bool) (i : Intent) (is : List Intent) → stretched n b (i ∷ is) ≡ freed_if b n i ++ (left_if (n == i.count) n i ++ is)
unfolding stretched
stretched_is n b i is = refl

front_left : (b : Bool) (n : ℕ) (i : Intent) (rest : List Intent) → 0 < n → n ≤ i.count → has_run i ≡ true → list_all is_count rest ≡ true → front_fits (if b then Some (freed n i) else None) rest ≡ true
front_left true n i rest some inside run counts =
    let p = run_parts i run in
    let r : has_run (freed n i) ≡ true = run_of (freed n i) some (omega (arith, inside, p.1)) in
    rw (r, counts) refl
front_left false n i rest some inside run counts = counts_in_order rest counts

listed_free : (b : Bool) (n : ℕ) (i : Intent) → option_to_list (if b then Some (freed n i) else None) ≡ freed_if b n i
listed_free true n i = refl
listed_free false n i = refl

pub stretch_left : (free : Option Intent) (steps : List Intent) (done end n : ℕ) (b : Bool) (new : List Intent) (at : ℕ) → Counts free steps done end → 0 < n → n ≤ (get_or steps done no_intent).count → steps_in new at end ≡ left_if (n == (get_or steps done no_intent).count) n (get_or steps done no_intent) ++ steps_in steps (done + 1) end → at ≤ end → Left (if b then Some (freed n (get_or steps done no_intent)) else None) new at end (stretched n b (owed_in free steps done end))
stretch_left free steps done end n b new at c some inside left order =
    let i = get_or steps done no_intent in
    let is = steps_in steps (done + 1) end in
    let counts = counts_left (n == i.count) n i is refl inside c.kind c.run c.counts in
    let owed : owed_in free steps done end ≡ i ∷ is = ap (λ f. owed_in f steps done end) c.none ∙ c.first.is in
    record {
      fits = whole_of (if b then Some (freed n i) else None) new at end (record { order = order; inside = c.inside; fits = ap (front_fits (if b then Some (freed n i) else None)) left ∙ front_left b n i (left_if (n == i.count) n i ++ is) some inside c.run counts });
      owes = ap (λ xs. option_to_list (if b then Some (freed n i) else None) ++ xs) left ∙ ap (λ xs. xs ++ (left_if (n == i.count) n i ++ is)) (listed_free b n i) ∙ sym (ap (stretched n b) owed ∙ stretched_is n b i is);
    }

-- the first of what is owed is the first step
pub first_count : (free : Option Intent) (steps : List Intent) (done end n : ℕ) → Counts free steps done end → n ≤ count_of_first (owed_in free steps done end) → n ≤ (get_or steps done no_intent).count
first_count free steps done end n c h =
    let owed : owed_in free steps done end ≡ get_or steps done no_intent ∷ steps_in steps (done + 1) end = ap (λ f. owed_in f steps done end) c.none ∙ c.first.is in
    subst (λ (xs : List Intent). n ≤ count_of_first xs) owed h
