-- A scan that came to the end has all owners of forks, and in a quiet group these are the derived ones.
use Rattle.std.proofs.Common.{◌≡◌, ℕ, ◌+◌, ◌-◌, ◌*◌, ◌^◌, ◌<◌, ◌==◌, ◌&&◌, ◌||◌, nat_le, Bool, true, false, not, List, [], ◌∷◌, None, refl, sym, ap, ap₂, subst, ◌∙◌, arith}
use Rattle.std.specs.Prelude.{◌/◌, if◌then◌else◌}
use Rattle.std.specs.List.{list_any}
use Rattle.std.proofs.lemmas.Bool.{false≢true, true≢false, and_parts}
use Rattle.std.proofs.lemmas.Bool.Decides.{nat_tests}
use Rattle.geom.proofs.NumbersLemmas.{number_fits, within}
use Rattle.geom.specs.Layout.{group_len_of}
use Rattle.rmap_recs.specs.Runs.{has, is_same}
use Rattle.rmap_recs.specs.declared.tuples.Tuple.{Tuple}
use Rattle.fs_state.specs.Apart.{is_inode}
use Rattle.fs_state.specs.declared.intent.Intent.{Intent}
use Rattle.fs_state.specs.Derive.{is_free}
use Rattle.fs_change.specs.Chains.{given_by, gives, is_quiet, pending, run_of, settled_forks, taken_by, takes, tuples_in, tuples_of, word_taken}
use Rattle.fs_change.specs.Laws.{fork_owners}
use Rattle.fs_change.specs.Scan.{visited}
use Rattle.law_writers.proofs.Change.Members.{any_flat}
use Rattle.law_writers.proofs.Inode.Cores.{unit_number}
use Rattle.core_scan.proofs.Masks.{place_of}
use Rattle.core_scan.proofs.Seen.{in_settled_forks, owners_allocated}
use Rattle.core_scan.proofs.Steps.{in_shadow}
use Rattle.core_scan.specs.Whole.{EndHasAll, NumbersFit, QuietIsSettled}

one_times : (x : ℕ) → 1 * x ≡ x
one_times x = omega arith

total : (x y u j len : ℕ) → x < 2 ^ 46 → y < 2 ^ 46 → u < len / 8 → j < 64 → 8 * u < y → x * 8 + (64 * u + j) < 2 ^ 50
total x y u j len h k l m n = omega (arith, h, k, m, n)

pub numbers_fit : NumbersFit
numbers_fit a ino fit h =
    let p = place_of a ino (and_parts (is_inode a ino) (not (is_free (a.core ino))) h).0 in
    let there = p.there in
    let few = fit.few_groups in
    let group : p.group < 65536 = omega (arith, there, few) in
    let log = fit.small_log in
    let first = number_fits p.group a.geometry.agblklog group log in
    let power : 2 ^ a.geometry.agblklog < 2 ^ 46 = subst (λ x. x < 2 ^ 46) (one_times (2 ^ a.geometry.agblklog)) (number_fits 1 a.geometry.agblklog (omega arith) log) in
    let lies = p.lies in
    let inside : 8 * p.unit < group_len_of a.geometry p.group = below p.unit (group_len_of a.geometry p.group) lies in
    let low = within a.geometry.agblocks a.geometry.agcount a.geometry.dblocks a.geometry.agblklog fit p.group (8 * p.unit) inside in
    subst (λ n. n < 2 ^ 50) (sym (unit_number a p.group p.unit p.nth) ∙ p.number) (total (p.group * 2 ^ a.geometry.agblklog) (2 ^ a.geometry.agblklog) p.unit p.nth (group_len_of a.geometry p.group) first power lies p.few low)
  where
    below : (u len : ℕ) → u < len / 8 → 8 * u < len
    below u len h = omega (arith, h)

low_number : (n : ℕ) → n < 2 ^ 50 → nat_le n (2 ^ 64 - 1) ≡ true
low_number n h = grind (arith, nat_tests)

pub end_has_all : EndHasAll
unfolding visited
end_has_all a g t calm = in_shadow a g (2 ^ 64 - 1) None 0 t ∙ by (has (settled_forks a g) t) refl
  where
    by : (s : Bool) → has (settled_forks a g) t ≡ s → ((s && nat_le t.owner (2 ^ 64 - 1)) || false) ≡ s
    by true e = ap (λ v. v || false) (low_number t.owner (numbers_fit a t.owner calm.fitting (owners_allocated a g t calm e)))
    by false e = refl

-- ---- quiet

or_false : (x y : Bool) → (x || y) ≡ false → (x ≡ false) × (y ≡ false)
or_false true y h = absurd (true≢false h)
or_false false y h = (refl, h)

none_in : (g word : ℕ) (i : Intent) (t : Tuple) → (i.group == g) ≡ false → has (tuples_in g i word) t ≡ false
none_in g word i t h = ap (λ b. has (if b then tuples_of (run_of i word) else []) t) h

if_none : (g word : ℕ) (i : Intent) (t : Tuple) (b : Bool) → (i.group == g) ≡ false → has (if b then tuples_in g i word else []) t ≡ false
if_none g word i t true h = none_in g word i t h
if_none g word i t false h = refl

none_of : (g : ℕ) (F : Intent → List Tuple) (t : Tuple) → ((i : Intent) → (i.group == g) ≡ false → has (F i) t ≡ false) → (is : List Intent) → list_any (λ i. i.group == g) is ≡ false → list_any (λ i. has (F i) t) is ≡ false
none_of g F t none [] h = refl
none_of g F t none (i ∷ is) h =
    let p = or_false (i.group == g) (list_any (λ j. j.group == g) is) h in
    ap₂ (λ x y. x || y) (none i p.0) (none_of g F t none is p.1)

not_any : (b : Bool) → not b ≡ true → b ≡ false
not_any true h = absurd (false≢true h)
not_any false h = refl

pub quiet_settled : QuietIsSettled
unfolding is_quiet
quiet_settled a g t quiet =
    let none = not_any (list_any (λ i. i.group == g) (pending a)) quiet in
    in_settled_forks a g t
    ∙ ap₂ (λ x y. (has (fork_owners a g) t && not x) || y)
    (any_flat (is_same t) (given_by g) (pending a) ∙ none_of g (given_by g) t (λ i h. if_none g i.word i t (gives i.kind) h) (pending a) none)
    (any_flat (is_same t) (taken_by g) (pending a) ∙ none_of g (taken_by g) t (λ i h. if_none g (word_taken i) i t (takes i.kind) h) (pending a) none)
    ∙ all_in (has (fork_owners a g) t)
  where
    all_in : (x : Bool) → ((x && true) || false) ≡ x
    all_in true = refl
    all_in false = refl
