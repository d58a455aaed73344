-- Where nothing is due to a group, a block's numbers are what they should be.
use Rattle.std.proofs.Common.{◌≡◌, ℕ, ◌==◌, ◌+◌, ◌||◌, Bool, true, false, not, List, [], ◌∷◌, refl, ap, ◌∙◌, arith}
use Rattle.std.specs.Prelude.{sum_by, if◌then◌else◌}
use Rattle.std.specs.List.{list_any}
use Rattle.std.proofs.lemmas.Bool.{true≢false}
use Rattle.std.proofs.lemmas.List.Sums.{sum_by-cons}
use Rattle.fs_change.specs.Chains.{Quiet, is_quiet, pending}
use Rattle.fs_state.specs.State.{State}
use Rattle.fs_state.specs.declared.intent.Intent.{Intent}
use Rattle.fs_state.specs.declared.intent.IntentKind.{IntentKind}
use Rattle.law_accounts.specs.Account.Accounts.{adds, due, frees, lowers, owes, raises, removes, at_span}
use Rattle.law_accounts.specs.Account.Stated.{QuietIsDerived}
use Rattle.law_accounts.proofs.Account.Blocks.{settled_is_derived}

not_true : (k : Bool) → not k ≡ true → k ≡ false
not_true true h = absurd (true≢false (ap not h))
not_true false h = refl

of_none : (k : Bool) → ◌≡◌ {A = ℕ} (if k then 0 else 0) 0
of_none true = refl
of_none false = refl

-- an intent of another group owes a block of this one nothing
owes_none : (test : IntentKind → Bool) (g b : ℕ) (i : Intent) → (i.group == g) ≡ false → owes test g b i ≡ 0
owes_none test g b i e = ap (λ (k : Bool). if test i.kind then (if k then at_span i.block i.count b else 0) else 0) e ∙ of_none (test i.kind)

plus_none : (n m : ℕ) → n ≡ 0 → m ≡ 0 → n + m ≡ 0
plus_none n m e f = omega (arith, e, f)

none_due : (test : IntentKind → Bool) (g b : ℕ) (is : List Intent) → list_any (λ i. i.group == g) is ≡ false → sum_by (owes test g b) is ≡ 0
none_due test g b [] h = refl
none_due test g b (i ∷ is) h = by (i.group == g) refl h (none_due test g b is)
  where
    by : (k : Bool) → (i.group == g) ≡ k → (k || list_any (λ j. j.group == g) is) ≡ false → (list_any (λ j. j.group == g) is ≡ false → sum_by (owes test g b) is ≡ 0) → sum_by (owes test g b) (i ∷ is) ≡ 0
    by true e f rest = absurd (true≢false f)
    by false e f rest = sum_by-cons (owes test g b) i is ∙ plus_none (owes test g b i) (sum_by (owes test g b) is) (owes_none test g b i e) (rest f)

nothing_due : (test : IntentKind → Bool) (a : State) (g b : ℕ) → Quiet a g → due (owes test g b) a.chains ≡ 0
unfolding is_quiet pending due
nothing_due test a g b quiet = none_due test g b (pending a) (not_true (list_any (λ i. i.group == g) (pending a)) quiet)

pub quiet_is_derived : QuietIsDerived
quiet_is_derived a g b quiet sound = settled_is_derived _ sound (record {
  more = nothing_due raises a g b quiet;
  goes = nothing_due removes a g b quiet;
  less = nothing_due lowers a g b quiet;
  frees = nothing_due frees a g b quiet;
  comes = nothing_due adds a g b quiet;
})
