-- Steps leave chains, and first events begin them.
use Rattle.std.specs.Prelude.{ℕ, zero, suc, ◌≡◌, ◌+◌, ◌<◌, ◌≤◌, ◌||◌, nat_lt, ◌-◌, ◌==◌, ◌&&◌, not, Bool, true, false, List, [], ◌∷◌, ◌++◌, flat_map, refl, sum_by, if◌then◌else◌}
use Rattle.std.proofs.Common.{sym, ap, subst, inl, inr, ◌∙◌, arith}
use Rattle.std.proofs.lemmas.Bool.{cases_order, true≢false}
use Rattle.std.proofs.lemmas.List.Sums.{sum_by-append, sum_by-cons}
use Rattle.fs_change.specs.Chains.{gives, most_chains, takes}
use Rattle.fs_change.specs.Changes.{behind, intent, to_free}
use Rattle.fs_change.specs.Parts.{records_in, sick_in}
use Rattle.fs_change.specs.Records.{count_at}
use Rattle.fs_change.specs.Step.{is_ref}
use Rattle.fs_state.specs.Lists.{numbers, only_if}
use Rattle.fs_state.specs.declared.intent.Intent.{Intent}
use Rattle.fs_state.specs.declared.intent.IntentKind.{IntentKind}
use Rattle.fs_state.specs.declared.intent.IntentKind.TheVariants.{RmapAdd, RmapRemove, RmapChange, RefMore, RefLess, Free}
use Rattle.sblock.specs.declared.kind.Kind.TheVariants.{Refc}
use Rattle.law_accounts.specs.Account.Accounts.{chains_sum, due, hits, owes, raises, run_in, frees as is_freeing}
use Rattle.law_accounts.specs.Account.Chained.{AreOfOneRun, FewRise, FirstsBegin, IsChain, IsShape, RestStays, StretchStays, kinds}
use Rattle.law_accounts.proofs.Account.Sums.{hit_bit}

-- ---- what is left of a chain

not_removed : (k : IntentKind) → k ≡ RmapRemove → is_freeing k ≡ true → ⊥
not_removed k e f = true≢false (sym f ∙ ap is_freeing e)

-- one intent, or none
few : (is : List Intent) → (k : IntentKind) (ks : List IntentKind) → kinds is ≡ ks → IsShape ks → IsShape (k ∷ ks) → ((gives k || takes k) || is_freeing k) ≡ true → AreOfOneRun is
few [] k ks e s t h = tt
few (i ∷ []) k ks e s t h = tt
few (i ∷ j ∷ is) k ks e s t h = absurd (no_three k i.kind j.kind (kinds is) (subst (λ (x : List IntentKind). IsShape (k ∷ x)) (sym e) t))
  where
    no_three : (k l m : IntentKind) (rest : List IntentKind) → IsShape (k ∷ l ∷ m ∷ rest) → ⊥
    no_three RmapAdd RefMore m rest s = s
    no_three RmapRemove RefLess m rest s = s
    no_three Free RefLess m rest s = s
    no_three k l m rest s = s

shape_left : (k : IntentKind) (ks : List IntentKind) → IsShape (k ∷ ks) → ((gives k || takes k) || is_freeing k) ≡ true → IsShape ks
shape_left RmapAdd [] s h = tt
shape_left RmapAdd (RefMore ∷ []) s h = tt
shape_left RmapChange [] s h = tt
shape_left RmapRemove (RefLess ∷ []) s h = tt
shape_left Free [] s h = tt
shape_left Free (RefLess ∷ []) s h = tt
shape_left RefMore ks s h = absurd (true≢false (sym h))
shape_left RefLess ks s h = absurd (true≢false (sym h))
shape_left k ks s h = absurd s

pub rest_stays : RestStays
rest_stays i rest c h =
    let left = shape_left i.kind (kinds rest) c.shape h in
    record { shape = left; one_run = few rest i.kind (kinds rest) refl left c.shape h }

-- ---- a stretch of a count

pub none_behind : (more : Bool) (k : IntentKind) (rest : List Intent) → is_ref more k ≡ true → IsShape (k ∷ kinds rest) → rest ≡ []
none_behind true RefMore [] h s = refl
none_behind false RefLess [] h s = refl
none_behind true RefMore (j ∷ rest) h s = absurd s
none_behind false RefLess (j ∷ rest) h s = absurd s
none_behind more k [] h s = refl
none_behind true RmapAdd (j ∷ rest) h s = absurd (true≢false (sym h))
none_behind true RmapRemove (j ∷ rest) h s = absurd (true≢false (sym h))
none_behind true RmapChange (j ∷ rest) h s = absurd (true≢false (sym h))
none_behind true RefLess (j ∷ rest) h s = absurd (true≢false (sym h))
none_behind true Free (j ∷ rest) h s = absurd (true≢false (sym h))
none_behind false RmapAdd (j ∷ rest) h s = absurd (true≢false (sym h))
none_behind false RmapRemove (j ∷ rest) h s = absurd (true≢false (sym h))
none_behind false RmapChange (j ∷ rest) h s = absurd (true≢false (sym h))
none_behind false RefMore (j ∷ rest) h s = absurd (true≢false (sym h))
none_behind false Free (j ∷ rest) h s = absurd (true≢false (sym h))

free_is_none : ◌≡◌ {A = IntentKind} Free RmapRemove → ⊥
free_is_none e = not_removed Free e refl

-- a count that falls or rises, with or without a run to free before it
one_left : (k : IntentKind) → IsShape (k ∷ []) → (i : Intent) → i.kind ≡ k → IsChain (i ∷ [])
one_left k s i e = record { shape = subst (λ (x : IntentKind). IsShape (x ∷ [])) (sym e) s; one_run = tt }

two_left : (f i : Intent) → f.kind ≡ Free → i.kind ≡ RefLess → IsChain (f ∷ i ∷ [])
two_left f i e h = record { shape = subst (λ (x : IntentKind). IsShape (x ∷ i.kind ∷ [])) (sym e) (subst (λ (x : IntentKind). IsShape (Free ∷ x ∷ [])) (sym h) tt); one_run = λ r. absurd (free_is_none (sym e ∙ r)) }

pub stretch_stays : StretchStays
stretch_stays more p e i rest c h =
    let none : rest ≡ [] = none_behind more i.kind rest h c.shape in
    subst (λ (js : List Intent). IsChain (to_free more p e ++ behind e.count i ++ js)) (sym none) (by_kind more i.kind refl h)
  where
    of_free : (t : Bool) (more_left : Bool) (j : Intent) → j.kind ≡ RefLess → IsChain (only_if t (intent Free 0 0 e) ++ only_if more_left j ++ [])
    of_free true true j s = two_left (intent Free 0 0 e) j refl s
    of_free true false j s = one_left Free tt (intent Free 0 0 e) refl
    of_free false true j s = one_left RefLess tt j s
    of_free false false j s = record { shape = tt; one_run = tt }

    of_more : (more_left : Bool) (j : Intent) → j.kind ≡ RefMore → IsChain (only_if false (intent Free 0 0 e) ++ only_if more_left j ++ [])
    of_more true j s = one_left RefMore tt j s
    of_more false j s = record { shape = tt; one_run = tt }

    by_kind : (m : Bool) (k : IntentKind) → i.kind ≡ k → is_ref m k ≡ true → IsChain (to_free m p e ++ behind e.count i ++ [])
    by_kind true RefMore s t = of_more (nat_lt e.count i.count) (record i { block = i.block + e.count; count = i.count - e.count }) s
    by_kind false RefLess s t = of_free (not false && not (sick_in p Refc) && (count_at (records_in p Refc) e.block == 1)) (nat_lt e.count i.count) (record i { block = i.block + e.count; count = i.count - e.count }) s
    by_kind true RmapAdd s t = absurd (true≢false (sym t))
    by_kind true RmapRemove s t = absurd (true≢false (sym t))
    by_kind true RmapChange s t = absurd (true≢false (sym t))
    by_kind true RefLess s t = absurd (true≢false (sym t))
    by_kind true Free s t = absurd (true≢false (sym t))
    by_kind false RmapAdd s t = absurd (true≢false (sym t))
    by_kind false RmapRemove s t = absurd (true≢false (sym t))
    by_kind false RmapChange s t = absurd (true≢false (sym t))
    by_kind false RefMore s t = absurd (true≢false (sym t))
    by_kind false Free s t = absurd (true≢false (sym t))

pub firsts_begin : FirstsBegin
firsts_begin = record {
  mapped = λ ino word e. record { shape = tt; one_run = tt };
  converted = λ ino word e. record { shape = tt; one_run = tt };
  unmapped = λ ino word e. record { shape = tt; one_run = λ r. refl };
  shared = λ ino word e. record { shape = tt; one_run = λ r. refl };
}

-- ---- few counts rise

module _ (g b : ℕ) where
  at_most : (i : Intent) → owes raises g b i ≤ 1
  at_most i = by (raises i.kind)
    where
      by : (k : Bool) → (if k then hits g b (run_in i) else 0) ≤ 1
      by true = elim (hit_bit g b (run_in i)) [ inl z ↦ omega (arith, z) | inr z ↦ omega (arith, z) ]
      by false = omega arith

  none_rises : (k : IntentKind) → raises k ≡ false → (i : Intent) → i.kind ≡ k → owes raises g b i ≡ 0
  none_rises k f i e = ap (λ (t : Bool). if t then hits g b (run_in i) else 0) (ap raises e ∙ f)

  one_rises : (is : List Intent) → IsShape (kinds is) → sum_by (owes raises g b) is ≤ 1
  one_rises [] s = omega arith
  one_rises (i ∷ []) s =
      let e = sum_by-cons (owes raises g b) i [] in
      let m = at_most i in
      omega (arith, e, m)
  one_rises (i ∷ j ∷ []) s = by i.kind refl j.kind refl s
    where
      sums : (t x y : ℕ) → t ≡ x + (y + 0) → x ≡ 0 → y ≤ 1 → t ≤ 1
      sums t x y e f h = omega (arith, e, f, h)

      two : sum_by (owes raises g b) (i ∷ j ∷ []) ≡ owes raises g b i + (owes raises g b j + 0)
      two = sum_by-cons (owes raises g b) i (j ∷ []) ∙ ap (λ (n : ℕ). owes raises g b i + n) (sum_by-cons (owes raises g b) j [])

      by : (k : IntentKind) → i.kind ≡ k → (m : IntentKind) → j.kind ≡ m → IsShape (k ∷ m ∷ []) → sum_by (owes raises g b) (i ∷ j ∷ []) ≤ 1
      by RmapAdd e m f s = sums (sum_by (owes raises g b) (i ∷ j ∷ [])) (owes raises g b i) (owes raises g b j) two (none_rises RmapAdd refl i e) (at_most j)
      by RmapRemove e m f s = sums (sum_by (owes raises g b) (i ∷ j ∷ [])) (owes raises g b i) (owes raises g b j) two (none_rises RmapRemove refl i e) (at_most j)
      by RmapChange e m f s = sums (sum_by (owes raises g b) (i ∷ j ∷ [])) (owes raises g b i) (owes raises g b j) two (none_rises RmapChange refl i e) (at_most j)
      by RefLess e m f s = sums (sum_by (owes raises g b) (i ∷ j ∷ [])) (owes raises g b i) (owes raises g b j) two (none_rises RefLess refl i e) (at_most j)
      by Free e m f s = sums (sum_by (owes raises g b) (i ∷ j ∷ [])) (owes raises g b i) (owes raises g b j) two (none_rises Free refl i e) (at_most j)
      by RefMore e m f s = absurd s
  one_rises (i ∷ j ∷ k ∷ is) s = absurd (no_three i.kind j.kind k.kind (kinds is) s)
    where
      no_three : (k l m : IntentKind) (rest : List IntentKind) → IsShape (k ∷ l ∷ m ∷ rest) → ⊥
      no_three RmapAdd RefMore m rest s = s
      no_three RmapRemove RefLess m rest s = s
      no_three Free RefLess m rest s = s
      no_three k l m rest s = s

  module _ (cs : ℕ → List Intent) (c : ℕ) (empty : cs c ≡ []) (chained : (k : ℕ) → k < most_chains → IsChain (cs k)) where
    sum_first : (k n : ℕ) → chains_sum (owes raises g b) cs k (suc n) ≡ sum_by (owes raises g b) (cs k) + chains_sum (owes raises g b) cs (k + 1) n
    sum_first k n = sum_by-append (owes raises g b) (cs k) (flat_map cs (numbers (k + 1) n))

    all_rise : (k n : ℕ) → k + n ≤ most_chains → chains_sum (owes raises g b) cs k n ≤ n
    all_rise k zero le = omega arith
    all_rise k (suc n) le =
        let e = sum_first k n in
        let one = one_rises (cs k) (chained k (omega (arith, le))).shape in
        let rest = all_rise (k + 1) n (omega (arith, le)) in
        omega (arith, e, one, rest)

    -- the empty one aside
    but_one : (k n : ℕ) → k + n ≤ most_chains → k ≤ c → c < k + n → chains_sum (owes raises g b) cs k n + 1 ≤ n
    but_one k zero le low high = absurd (omega (arith, low, high))
    but_one k (suc n) le low high = elim (cases_order k c) [
      | inl same ↦
          let e = sum_first k n in
          let none : sum_by (owes raises g b) (cs k) ≡ 0 = ap (λ (z : ℕ). sum_by (owes raises g b) (cs z)) same ∙ ap (sum_by (owes raises g b)) empty in
          let rest = all_rise (k + 1) n (omega (arith, le)) in
          omega (arith, e, none, rest)
      | inr (inl less) ↦
          let e = sum_first k n in
          let one = one_rises (cs k) (chained k (omega (arith, le))).shape in
          let rest = but_one (k + 1) n (omega (arith, le)) (omega (arith, less)) (omega (arith, high)) in
          omega (arith, e, one, rest)
      | inr (inr more) ↦ absurd (omega (arith, more, low))
    ]

pub few_rise : FewRise
unfolding due
few_rise cs g b c lt empty chained = let r = but_one g b cs c empty chained 0 most_chains (omega arith) (omega arith) (omega (arith, lt)) in omega (arith, r)
