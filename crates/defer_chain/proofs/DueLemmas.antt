-- Each step lowers what is due by what it may use.
use Rattle.std.proofs.Common.{◌≡◌, ℕ, ◌+◌, ◌-◌, ◌*◌, ◌<◌, ◌≤◌, Bool, true, false, List, [], ◌∷◌, ◌++◌, refl, sym, ap, ◌∙◌, arith, subst}
use Rattle.std.specs.Prelude.{◌==◌, sum_by, if◌then◌else◌}
use Rattle.std.proofs.lemmas.Bool.{false≢true}
use Rattle.std.proofs.lemmas.Bool.Decides.{nat_tests}
use Rattle.std.proofs.lemmas.List.Sums.{sum_by-cons}
use Rattle.fs_state.specs.declared.intent.Intent.{Intent}
use Rattle.fs_state.specs.declared.intent.IntentKind.{IntentKind}
use Rattle.fs_state.specs.declared.intent.IntentKind.TheVariants.{RmapAdd, RmapRemove, RmapChange, RefMore, RefLess, Free}
use Rattle.defer_chain.specs.declared.kinds.Due.{Due}
use Rattle.defer_chain.specs.declared.kinds.Due.TheVariants.{Entries, Blocks, Deltas}
use Rattle.defer_chain.specs.Steps.{is_rmap, is_ref, is_less, is_free, amount_of, entries_of, steps_of, due_of, deltas_of, stretched, freed_if, left_if, freed, left_of}
use Rattle.defer_chain.specs.Falls.{IsStretch, DueFalls}

due_is : (what : Due) (is : List Intent) → due_of what is ≡ sum_by (amount_of what) is
unfolding due_of
due_is what is = refl

due_first : (what : Due) (i : Intent) (is : List Intent) → due_of what (i ∷ is) ≡ amount_of what i + due_of what is
unfolding due_of
due_first what i is = sum_by-cons (amount_of what) i is

leaves : (what : Due) (i : Intent) (is : List Intent) → due_of what is + amount_of what i ≡ due_of what (i ∷ is)
leaves what i is = let e = due_first what i is in omega (arith, e)

due_none : (what : Due) → due_of what [] ≡ 0
unfolding due_of
due_none what = refl

abbrev amount_if : (what : Due) (b : Bool) (n : ℕ) (i : Intent) → ℕ
amount_if what true n i = amount_of what (freed n i)
amount_if what false n i = 0

due_freed : (what : Due) (b : Bool) (n : ℕ) (i : Intent) (is : List Intent) → due_of what (freed_if b n i ++ is) ≡ amount_if what b n i + due_of what is
due_freed what true n i is = due_first what (freed n i) is
due_freed what false n i is = omega arith

abbrev amount_left : (what : Due) (t : Bool) (n : ℕ) (i : Intent) → ℕ
amount_left what true n i = 0
amount_left what false n i = amount_of what (left_of n i)

due_left : (what : Due) (t : Bool) (n : ℕ) (i : Intent) (is : List Intent) → due_of what (left_if t n i ++ is) ≡ amount_left what t n i + due_of what is
due_left what true n i is = omega arith
due_left what false n i is = due_first what (left_of n i) is

due_stretched : (what : Due) (n : ℕ) (b : Bool) (i : Intent) (is : List Intent) → due_of what (stretched n b (i ∷ is)) ≡ amount_if what b n i + (amount_left what (n == i.count) n i + due_of what is)
unfolding stretched
due_stretched what n b i is = due_freed what b n i (left_if (n == i.count) n i ++ is) ∙ ap (λ x. amount_if what b n i + x) (due_left what (n == i.count) n i is)

-- what an intent of a count may use, by its kind
counts_entries : (k : IntentKind) (c : ℕ) → is_ref k ≡ true → (if is_rmap k then 2 else if is_less k then 6 * c else if is_ref k then 3 * c else 3) ≡ (if is_less k then 6 * c else 3 * c)
counts_entries RmapAdd c h = absurd (false≢true h)
counts_entries RmapRemove c h = absurd (false≢true h)
counts_entries RmapChange c h = absurd (false≢true h)
counts_entries RefMore c h = refl
counts_entries RefLess c h = refl
counts_entries Free c h = absurd (false≢true h)

counts_steps : (k : IntentKind) (c : ℕ) → is_ref k ≡ true → (if is_less k then 2 * c else if is_ref k then c else 1) ≡ (if is_less k then 2 * c else c)
counts_steps RmapAdd c h = absurd (false≢true h)
counts_steps RmapRemove c h = absurd (false≢true h)
counts_steps RmapChange c h = absurd (false≢true h)
counts_steps RefMore c h = refl
counts_steps RefLess c h = refl
counts_steps Free c h = absurd (false≢true h)

entries_left : (t : Bool) (n : ℕ) (i : Intent) → is_ref i.kind ≡ true → amount_left Entries t n i ≤ (if is_less i.kind then 6 * (i.count - n) else 3 * (i.count - n))
entries_left true n i h = omega arith
entries_left false n i h = let e = counts_entries i.kind (i.count - n) h in omega (arith, e)

freed_entries : (b : Bool) (n : ℕ) (i : Intent) → amount_if Entries b n i ≤ (if b then 3 else 0)
freed_entries true n i = omega arith
freed_entries false n i = omega arith

entries_sum : (less b : Bool) (f l s c n : ℕ) → 0 < n → n ≤ c → (b ≡ true → less ≡ true) → f ≤ (if b then 3 else 0) → l ≤ (if less then 6 * (c - n) else 3 * (c - n)) → f + (l + s) + 3 ≤ (if less then 6 * c else 3 * c) + s
entries_sum true true f l s c n some inside falls hf hl = omega (arith, some, inside, hf, hl)
entries_sum true false f l s c n some inside falls hf hl = omega (arith, some, inside, hf, hl)
entries_sum false true f l s c n some inside falls hf hl = absurd (false≢true (falls refl))
entries_sum false false f l s c n some inside falls hf hl = omega (arith, some, inside, hf, hl)

entries_fall : (n : ℕ) (b : Bool) (i : Intent) (is : List Intent) → IsStretch n b i → due_of Entries (stretched n b (i ∷ is)) + 3 ≤ due_of Entries (i ∷ is)
entries_fall n b i is h =
    let now = due_stretched Entries n b i is in
    let old = due_first Entries i is in
    let e = counts_entries i.kind i.count h.kind in
    let sum = entries_sum (is_less i.kind) b (amount_if Entries b n i) (amount_left Entries (n == i.count) n i) (due_of Entries is) i.count n h.some h.inside h.falls (freed_entries b n i) (entries_left (n == i.count) n i h.kind) in
    omega (arith, now, old, e, sum)

own_group : (g n : ℕ) → (if g == g then n else 0) ≡ n
own_group g n = grind (arith, nat_tests)

blocks_of : (i : Intent) → amount_of (Blocks i.group) i ≡ 160 * steps_of i
blocks_of i = own_group i.group (160 * steps_of i)

steps_left : (t : Bool) (n : ℕ) (i : Intent) → is_ref i.kind ≡ true → amount_left (Blocks i.group) t n i ≤ (if is_less i.kind then 320 * (i.count - n) else 160 * (i.count - n))
steps_left true n i h = omega arith
steps_left false n i h = let e = counts_steps i.kind (i.count - n) h in let f = own_group i.group (160 * steps_of (left_of n i)) in by_kind (is_less i.kind) (i.count - n) (steps_of (left_of n i)) (amount_of (Blocks i.group) (left_of n i)) e f
  where
    by_kind : (less : Bool) (c s a : ℕ) → s ≡ (if less then 2 * c else c) → a ≡ 160 * s → a ≤ (if less then 320 * c else 160 * c)
    by_kind true c s a e f = omega (arith, e, f)
    by_kind false c s a e f = omega (arith, e, f)

freed_blocks : (b : Bool) (n : ℕ) (i : Intent) → amount_if (Blocks i.group) b n i ≤ (if b then 160 else 0)
freed_blocks true n i = let f = own_group i.group 160 in omega (arith, f)
freed_blocks false n i = omega arith

blocks_sum : (less b : Bool) (f l s c n : ℕ) → 0 < n → n ≤ c → (b ≡ true → less ≡ true) → f ≤ (if b then 160 else 0) → l ≤ (if less then 320 * (c - n) else 160 * (c - n)) → f + (l + s) + 160 ≤ (if less then 320 * c else 160 * c) + s
blocks_sum true true f l s c n some inside falls hf hl = omega (arith, some, inside, hf, hl)
blocks_sum true false f l s c n some inside falls hf hl = omega (arith, some, inside, hf, hl)
blocks_sum false true f l s c n some inside falls hf hl = absurd (false≢true (falls refl))
blocks_sum false false f l s c n some inside falls hf hl = omega (arith, some, inside, hf, hl)

all_blocks : (less : Bool) (c s a : ℕ) → s ≡ (if less then 2 * c else c) → a ≡ 160 * s → a ≡ (if less then 320 * c else 160 * c)
all_blocks true c s a e f = omega (arith, e, f)
all_blocks false c s a e f = omega (arith, e, f)

blocks_fall : (n : ℕ) (b : Bool) (i : Intent) (is : List Intent) → IsStretch n b i → due_of (Blocks i.group) (stretched n b (i ∷ is)) + 160 ≤ due_of (Blocks i.group) (i ∷ is)
blocks_fall n b i is h =
    let now = due_stretched (Blocks i.group) n b i is in
    let old = due_first (Blocks i.group) i is in
    let e = all_blocks (is_less i.kind) i.count (steps_of i) (amount_of (Blocks i.group) i) (counts_steps i.kind i.count h.kind) (blocks_of i) in
    let sum = blocks_sum (is_less i.kind) b (amount_if (Blocks i.group) b n i) (amount_left (Blocks i.group) (n == i.count) n i) (due_of (Blocks i.group) is) i.count n h.some h.inside h.falls (freed_blocks b n i) (steps_left (n == i.count) n i h.kind) in
    omega (arith, now, old, e, sum)

-- what a stretch leaves and frees is of the same group
other_group : (t : Bool) (n : ℕ) → t ≡ false → (if t then n else 0) ≡ 0
other_group true n e = absurd (false≢true (sym e))
other_group false n e = refl

others_freed : (b : Bool) (g n : ℕ) (i : Intent) → (i.group == g) ≡ false → amount_if (Blocks g) b n i ≡ 0
others_freed true g n i e = other_group (i.group == g) 160 e
others_freed false g n i e = refl

others_left : (t : Bool) (g n : ℕ) (i : Intent) → (i.group == g) ≡ false → amount_left (Blocks g) t n i ≡ 0
others_left true g n i e = refl
others_left false g n i e = other_group (i.group == g) (160 * steps_of (left_of n i)) e

others_stay : (g n : ℕ) (b : Bool) (i : Intent) (is : List Intent) → (i.group == g) ≡ false → due_of (Blocks g) (stretched n b (i ∷ is)) ≡ due_of (Blocks g) is
others_stay g n b i is e =
    let now = due_stretched (Blocks g) n b i is in
    let freed_none = others_freed b g n i e in
    let left_none = others_left (n == i.count) g n i e in
    omega (arith, now, freed_none, left_none)

no_delta : (k : IntentKind) → is_ref k ≡ true → deltas_of k ≡ 0
no_delta RmapAdd h = absurd (false≢true h)
no_delta RmapRemove h = absurd (false≢true h)
no_delta RmapChange h = absurd (false≢true h)
no_delta RefMore h = refl
no_delta RefLess h = refl
no_delta Free h = absurd (false≢true h)

deltas_freed : (b : Bool) (n : ℕ) (i : Intent) → amount_if Deltas b n i ≡ 0
deltas_freed true n i = refl
deltas_freed false n i = refl

deltas_left : (t : Bool) (n : ℕ) (i : Intent) → is_ref i.kind ≡ true → amount_left Deltas t n i ≡ 0
deltas_left true n i h = refl
deltas_left false n i h = no_delta i.kind h

deltas_stay : (n : ℕ) (b : Bool) (i : Intent) (is : List Intent) → is_ref i.kind ≡ true → due_of Deltas (stretched n b (i ∷ is)) ≡ due_of Deltas is
deltas_stay n b i is h =
    let now = due_stretched Deltas n b i is in
    let freed_none = deltas_freed b n i in
    let left_none = deltas_left (n == i.count) n i h in
    omega (arith, now, freed_none, left_none)

pub due_falls : DueFalls
due_falls = record { leaves = leaves; entries = entries_fall; blocks = blocks_fall; others = others_stay; deltas = deltas_stay }
