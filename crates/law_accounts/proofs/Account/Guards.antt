-- The guard of a run that is to be freed finds nothing.
use Rattle.std.specs.Prelude.{ℕ, Bool, true, false, List, [], ◌∷◌, ◌≡◌, ◌&&◌, ◌||◌, ◌+◌, ◌<◌, ◌≤◌, nat_lt, refl, if◌then◌else◌}
use Rattle.std.specs.List.{list_any}
use Rattle.std.proofs.Common.{sym, ap, subst, inl, inr, ◌∙◌, arith}
use Rattle.std.proofs.lemmas.Bool.{cases_order, true≢false}
use Rattle.std.proofs.lemmas.Bool.Decides.{nat_tests}
use Rattle.fs_change.specs.Chains.{most_chains}
use Rattle.fs_change.specs.Choice.{is_guarded}
use Rattle.fs_change.specs.Parts.{records_in}
use Rattle.fs_state.specs.State.{State}
use Rattle.fs_state.specs.declared.intent.Intent.{Intent}
use Rattle.fs_state.specs.declared.intent.IntentKind.TheVariants.{Free}
use Rattle.rmap_recs.specs.declared.records.RmapRec.{RmapRec}
use Rattle.sblock.specs.declared.kind.Kind.TheVariants.{Rmap}
use Rattle.law_accounts.specs.Account.Accounts.{at_span, covers_at, frees, hits, in_span, ledger_of, owes, run_in}
use Rattle.law_accounts.specs.Account.Guard.{AreSound, GuardPasses}
use Rattle.law_accounts.proofs.Account.Blocks.{free_one}
use Rattle.law_accounts.proofs.Account.Spans.{and_left, and_right, no_true, span_in}
use Rattle.law_accounts.proofs.Account.Sums.{hits_own, left_chain}

-- a record that meets the run covers a block of it
abbrev Meets : ℕ → ℕ → RmapRec → Bool
Meets at n r = nat_lt 0 r.count && (nat_lt r.start (at + n) && nat_lt at (r.start + r.count))

one_met : (at n : ℕ) → 0 < n → (r : RmapRec) → Meets at n r ≡ true → (x : ℕ) × (in_span at n x ≡ true) × (in_span r.start r.count x ≡ true)
one_met at n pos r h =
    let some : nat_lt 0 r.count ≡ true = and_left (nat_lt 0 r.count) (nat_lt r.start (at + n) && nat_lt at (r.start + r.count)) h in
    let both = and_right (nat_lt 0 r.count) (nat_lt r.start (at + n) && nat_lt at (r.start + r.count)) h in
    let low : nat_lt r.start (at + n) ≡ true = and_left (nat_lt r.start (at + n)) (nat_lt at (r.start + r.count)) both in
    let high : nat_lt at (r.start + r.count) ≡ true = and_right (nat_lt r.start (at + n)) (nat_lt at (r.start + r.count)) both in
    let s : 0 < r.count = grind (arith, nat_tests, some) in
    let l : r.start < at + n = grind (arith, nat_tests, low) in
    let u : at < r.start + r.count = grind (arith, nat_tests, high) in
    elim (cases_order r.start at) [
      | inl e ↦ (at, span_in at n at (omega arith) (omega (arith, pos)), span_in r.start r.count at (omega (arith, e)) u)
      | inr (inl before) ↦ (at, span_in at n at (omega arith) (omega (arith, pos)), span_in r.start r.count at (omega (arith, before)) u)
      | inr (inr behind) ↦ (r.start, span_in at n r.start (omega (arith, behind)) l, span_in r.start r.count r.start (omega arith) (omega (arith, s)))
    ]

any_met : (at n : ℕ) → 0 < n → (recs : List RmapRec) → list_any (Meets at n) recs ≡ true → (x : ℕ) × (in_span at n x ≡ true) × (1 ≤ covers_at recs x)
any_met at n pos [] h = absurd (true≢false (sym h))
any_met at n pos (r ∷ rs) h = by (Meets at n r) refl h (any_met at n pos rs)
  where
    as_one : (k : Bool) (m : ℕ) → k ≡ true → 1 ≤ (if k then 1 else 0) + m
    as_one true m e = omega arith
    as_one false m e = absurd (true≢false (sym e))

    more : (m k : ℕ) → 1 ≤ m → 1 ≤ k + m
    more m k e = omega (arith, e)

    by : (k : Bool) → Meets at n r ≡ k → (k || list_any (Meets at n) rs) ≡ true → (list_any (Meets at n) rs ≡ true → (x : ℕ) × (in_span at n x ≡ true) × (1 ≤ covers_at rs x)) → (x : ℕ) × (in_span at n x ≡ true) × (1 ≤ covers_at (r ∷ rs) x)
    by true e i f = let o = one_met at n pos r e in (o.0, o.1, as_one (in_span r.start r.count o.0) (covers_at rs o.0) o.2)
    by false e i f = let o = f i in (o.0, o.1, more (covers_at rs o.0) (at_span r.start r.count o.0) o.2)

no_owner : (a : State) (c g : ℕ) (i : Intent) (rest : List Intent) → 0 < i.count → c < most_chains → a.chains c ≡ i ∷ rest → i.kind ≡ Free → i.group ≡ g → AreSound a g i.block i.count → is_guarded (records_in (a.group g) Rmap) i.block i.count ≡ false
unfolding is_guarded
no_owner a c g i rest pos lt next kind own sound = no_true (list_any (Meets i.block i.count) (records_in (a.group g) Rmap)) (λ h.
    let o = any_met i.block i.count pos (records_in (a.group g) Rmap) h in
    let s = sound o.0 o.1 in
    let gone = left_chain (owes frees g o.0) a.chains c i rest lt next in
    let mine : owes frees g o.0 i ≡ hits g o.0 (run_in i) = ap (λ (t : Bool). if t then hits g o.0 (run_in i) else 0) (ap frees kind) in
    let over : hits g o.0 (run_in i) ≡ at_span i.block i.count o.0 = ap (λ (n : ℕ). hits n o.0 (run_in i)) (sym own) ∙ hits_own o.0 (run_in i) in
    let here : at_span i.block i.count o.0 ≡ 1 = ap as_bit o.1 in
    let bare = (free_one (ledger_of a g o.0 s.0 s.1) s.2 (omega (arith, gone, mine, over, here))).0 in
    let none = bare.covers in
    let some = o.2 in
    omega (arith, some, none))
  where
    as_bit : Bool → ℕ
    as_bit k = if k then 1 else 0

pub guard_passes : GuardPasses
guard_passes a x left c g at n kept lt good sound row =
    let i : Intent = row.0 in
    let is = row.2 in
    let same : AreSound a g i.block i.count = subst (λ (z : ℕ). AreSound a g z i.count) (sym is.block) (subst (λ (z : ℕ). AreSound a g at z) (sym row.4) sound) in
    let pos : 0 < i.count = let some = is.some in let most = is.count in omega (arith, some, most) in
    let none : is_guarded (records_in (a.group g) Rmap) i.block i.count ≡ false = no_owner a c g i row.1 pos lt is.next row.3 is.group same in
    let here : is_guarded (records_in (a.group g) Rmap) at n ≡ false = subst (λ (z : ℕ). is_guarded (records_in (a.group g) Rmap) z n ≡ false) is.block (subst (λ (z : ℕ). is_guarded (records_in (a.group g) Rmap) i.block z ≡ false) row.4 none) in
    row.5 ∙ ap (λ (k : Bool). k || is_guarded (records_in (a.group g) Rmap) at n) good ∙ here
