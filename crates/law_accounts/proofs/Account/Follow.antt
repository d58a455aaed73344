-- In a chain a mapping that goes has a count that falls.
use Rattle.std.specs.Prelude.{ℕ, ◌≡◌, ◌+◌, ◌≤◌, Bool, true, false, List, [], ◌∷◌, refl, sum_by, if◌then◌else◌}
use Rattle.std.proofs.Common.{ap, ◌∙◌, arith}
use Rattle.std.proofs.lemmas.List.Sums.{sum_by-cons}
use Rattle.fs_state.specs.declared.intent.Intent.{Intent}
use Rattle.fs_state.specs.declared.intent.IntentKind.{IntentKind}
use Rattle.fs_state.specs.declared.intent.IntentKind.TheVariants.{RmapAdd, RmapRemove, RmapChange, RefMore, RefLess, Free}
use Rattle.law_accounts.specs.Account.Accounts.{hits, lowers, owes, removes, run_in}
use Rattle.law_accounts.specs.Account.Chained.{AreOfOneRun, ChainsFollow, IsShape, kinds}

none_or_more : (n : ℕ) → 0 ≤ n
none_or_more n = omega arith

one : (f : Intent → ℕ) (i : Intent) → sum_by f (i ∷ []) ≡ f i + 0
one f i = sum_by-cons f i []

two : (f : Intent → ℕ) (i j : Intent) → sum_by f (i ∷ j ∷ []) ≡ f i + (f j + 0)
two f i j = sum_by-cons f i (j ∷ []) ∙ ap (λ (n : ℕ). f i + n) (sum_by-cons f j [])

module _ (g b : ℕ) where
  -- by the kinds
  of_one : (k : IntentKind) (i : Intent) → i.kind ≡ k → IsShape (k ∷ []) → owes removes g b i ≡ 0
  of_one RmapAdd i e s = ap (λ k. if removes k then hits g b (run_in i) else 0) e
  of_one RmapChange i e s = ap (λ k. if removes k then hits g b (run_in i) else 0) e
  of_one RefMore i e s = ap (λ k. if removes k then hits g b (run_in i) else 0) e
  of_one RefLess i e s = ap (λ k. if removes k then hits g b (run_in i) else 0) e
  of_one Free i e s = ap (λ k. if removes k then hits g b (run_in i) else 0) e
  of_one RmapRemove i e s = absurd s

  is_not : (test : IntentKind → Bool) (k : IntentKind) (i : Intent) → i.kind ≡ k → test k ≡ false → owes test g b i ≡ 0
  is_not test k i e h = ap (λ (t : Bool). if t then hits g b (run_in i) else 0) (ap test e ∙ h)

  is_it : (test : IntentKind → Bool) (k : IntentKind) (i : Intent) → i.kind ≡ k → test k ≡ true → owes test g b i ≡ hits g b (run_in i)
  is_it test k i e h = ap (λ (t : Bool). if t then hits g b (run_in i) else 0) (ap test e ∙ h)

  -- nothing goes
  nothing : (x y : ℕ) (i j : Intent) → owes removes g b i ≡ 0 → owes removes g b j ≡ 0 → sum_by (owes removes g b) (i ∷ j ∷ []) ≤ sum_by (owes lowers g b) (i ∷ j ∷ [])
  nothing x y i j e f =
      let s = two (owes removes g b) i j in
      omega (arith, s, e, f)

  goes_and_falls : (i j : Intent) → i.kind ≡ RmapRemove → j.kind ≡ RefLess → run_in i ≡ run_in j → sum_by (owes removes g b) (i ∷ j ∷ []) ≤ sum_by (owes lowers g b) (i ∷ j ∷ [])
  goes_and_falls i j e f same =
      let s = two (owes removes g b) i j in
      let t = two (owes lowers g b) i j in
      let a : owes removes g b i ≡ hits g b (run_in i) = is_it removes RmapRemove i e refl in
      let n : owes removes g b j ≡ 0 = is_not removes RefLess j f refl in
      let l : owes lowers g b j ≡ hits g b (run_in j) = is_it lowers RefLess j f refl in
      let h : hits g b (run_in i) ≡ hits g b (run_in j) = ap (hits g b) same in
      omega (arith, s, t, a, n, l, h)

  pairs : (k m : IntentKind) (i j : Intent) → i.kind ≡ k → j.kind ≡ m → IsShape (k ∷ m ∷ []) → (i.kind ≡ RmapRemove → run_in i ≡ run_in j) → sum_by (owes removes g b) (i ∷ j ∷ []) ≤ sum_by (owes lowers g b) (i ∷ j ∷ [])
  pairs RmapAdd RefMore i j e f s same = nothing 0 0 i j (is_not removes RmapAdd i e refl) (is_not removes RefMore j f refl)
  pairs RmapRemove RefLess i j e f s same = goes_and_falls i j e f (same e)
  pairs Free RefLess i j e f s same = nothing 0 0 i j (is_not removes Free i e refl) (is_not removes RefLess j f refl)
  pairs k m i j e f s same = absurd s

  follow : (is : List Intent) → IsShape (kinds is) → AreOfOneRun is → sum_by (owes removes g b) is ≤ sum_by (owes lowers g b) is
  follow [] s o = omega arith
  follow (i ∷ []) s o =
      let r = one (owes removes g b) i in
      let z = of_one i.kind i refl s in
      omega (arith, r, z)
  follow (i ∷ j ∷ []) s o = pairs i.kind j.kind i j refl refl s o
  follow (i ∷ j ∷ k ∷ is) s o = absurd (no_three i.kind j.kind k.kind (kinds is) s)
    where
      no_three : (k l m : IntentKind) (ks : List IntentKind) → IsShape (k ∷ l ∷ m ∷ ks) → ⊥
      no_three RmapAdd RefMore m ks s = s
      no_three RmapRemove RefLess m ks s = s
      no_three Free RefLess m ks s = s
      no_three k l m ks s = s

pub chains_follow : ChainsFollow
chains_follow is g b c = follow g b is c.shape c.one_run
