-- Tuples that go on one from the other.
use Rattle.std.proofs.Common.{◌≡◌, ◌<◌, ◌≤◌, ◌+◌, ◌-◌, ◌^◌, ℕ, zero, suc, Bool, true, false, ◌&&◌, ◌==◌, List, find, Contains, Option, Some, None, refl, sym, ap, ◌∙◌, subst, arith, add-zero, eqb-true, eq-eqb}
use Rattle.std.specs.Prelude.{if◌then◌else◌}
use Rattle.std.specs.Option.{option_map_or}
use Rattle.std.proofs.lemmas.Bool.{false≢true}
use Rattle.rmap_recs.specs.Words.{is_fork_data, word_goes_on}
use Rattle.rmap_recs.specs.Runs.{HaveNext, goes_on, followers}
use Rattle.rmap_recs.specs.declared.tuples.Tuple.{Tuple}
use Rattle.rmap_recs.proofs.WordLemmas.{next_is, next_sort}
use Rattle.rmap_recs.proofs.RisingLemmas.{false_by, found_by_find, none_by_find}

three : (a b c : Bool) → (a && b && c) ≡ true → (a ≡ true) × (b ≡ true) × (c ≡ true)
three true true true h = (refl, refl, refl)
three true true false h = absurd (false≢true h)
three true false c h = absurd (false≢true h)
three false b c h = absurd (false≢true h)

module _ (t u : Tuple) (goes : goes_on t u ≡ true) where
  parts : ((u.block == t.block + 1) ≡ true) × ((u.owner == t.owner) ≡ true) × (word_goes_on t.owner t.word 1 u.word ≡ true)
  unfolding goes_on
  parts = three (u.block == t.block + 1) (u.owner == t.owner) (word_goes_on t.owner t.word 1 u.word) goes

  pub block_on : u.block ≡ t.block + 1
  block_on = eqb-true u.block (t.block + 1) parts.0

  pub owner_on : u.owner ≡ t.owner
  owner_on = eqb-true u.owner t.owner parts.1

  pub word_on : word_goes_on t.owner t.word 1 u.word ≡ true
  word_on = parts.2

pub goes_to : (t : Tuple) (block word : ℕ) → block ≡ t.block + 1 → word_goes_on t.owner t.word 1 word ≡ true → goes_on t (record { block = block; owner = t.owner; word = word }) ≡ true
unfolding goes_on
goes_to t block word at goes = rw (eq-eqb block (t.block + 1) at, eq-eqb t.owner t.owner refl, goes) refl

-- the tuple i blocks on
abbrev pub nth : Tuple → ℕ → Tuple
nth t i = record { block = t.block + i; owner = t.owner; word = if is_fork_data t.owner t.word then t.word + i else t.word }

no_word : (d : Bool) (w : ℕ) → (if d then w + 0 else w) ≡ w
no_word true w = add-zero w
no_word false w = refl

pub nth-zero : (t : Tuple) → nth t 0 ≡ t
nth-zero t = λ i. record { block = add-zero t.block i; owner = t.owner; word = no_word (is_fork_data t.owner t.word) t.word i }

word_step : (d e : Bool) (w v i : ℕ) → e ≡ d → v ≡ (if d then w + 1 else w) → (if e then v + i else v) ≡ (if d then w + (i + 1) else w)
word_step true true w v i sort is = omega arith
word_step true false w v i sort is = absurd (false≢true sort)
word_step false true w v i sort is = absurd (false≢true (sym sort))
word_step false false w v i sort is = is

-- a step on is the next one
pub nth-step : (t u : Tuple) → goes_on t u ≡ true → (i : ℕ) → nth u i ≡ nth t (i + 1)
nth-step t u goes i =
    let on = block_on t u goes in
    let block : u.block + i ≡ t.block + (i + 1) = omega arith in
    let sort : is_fork_data u.owner u.word ≡ is_fork_data t.owner t.word = ap (λ (o : ℕ). is_fork_data o u.word) (owner_on t u goes) ∙ next_sort t.owner t.word u.word (word_on t u goes) in
    let word = word_step (is_fork_data t.owner t.word) (is_fork_data u.owner u.word) t.word u.word i sort (next_is t.owner t.word u.word (word_on t u goes)) in
    λ k. record { block = block k; owner = owner_on t u goes k; word = word k }

pub is_next : (t u : Tuple) → goes_on t u ≡ true → u ≡ nth t 1
is_next t u goes = sym (nth-zero u) ∙ nth-step t u goes 0

-- what goes on behind a tuple is one tuple
pub only_behind : (t u v : Tuple) → goes_on t u ≡ true → goes_on t v ≡ true → u ≡ v
only_behind t u v goes also = is_next t u goes ∙ sym (is_next t v also)

pub room_behind : (ts : List Tuple) → HaveNext ts → (t : Tuple) → Contains ts t → t.block < 2 ^ 32 - 1
room_behind ts blocks t c = subst (λ (u : Tuple). u.block < 2 ^ 32 - 1) c.2 (blocks c.0 t c.1)

pub no_follower : (n : ℕ) (ts : List Tuple) (t : Tuple) → find (goes_on t) ts ≡ None → followers n ts t ≡ 0
unfolding followers
no_follower zero ts t none = refl
no_follower (suc n) ts t none = ap (λ (o : Option Tuple). option_map_or (λ u. 1 + followers n ts u) o 0) none

pub one_follower : (n : ℕ) (ts : List Tuple) (t u : Tuple) → find (goes_on t) ts ≡ Some u → followers (suc n) ts t ≡ 1 + followers n ts u
unfolding followers
one_follower n ts t u found = ap (λ (o : Option Tuple). option_map_or (λ v. 1 + followers n ts v) o 0) found

none_left : (ts : List Tuple) (t : Tuple) → followers zero ts t ≡ 0
unfolding followers
none_left ts t = refl

abbrev Link : List Tuple → Tuple → ℕ → Type 0
Link ts s i = Contains ts (nth s (i + 1)) × (goes_on (nth s i) (nth s (i + 1)) ≡ true)

first_link : (ts : List Tuple) (s u : Tuple) → Contains ts u → goes_on s u ≡ true → Link ts s 0
first_link ts s u c goes =
    let next = is_next s u goes in
    (subst (Contains ts) next c, ap (λ (a : Tuple). goes_on a (nth s 1)) (nth-zero s) ∙ ap (goes_on s) (sym next) ∙ goes)

later_link : (ts : List Tuple) (s u : Tuple) → goes_on s u ≡ true → (j : ℕ) → Link ts u j → Link ts s (suc j)
later_link ts s u goes j link =
    let one : nth u j ≡ nth s (suc j) = nth-step s u goes j ∙ ap (nth s) (let e : j + 1 ≡ suc j = omega arith in e) in
    let two : nth u (j + 1) ≡ nth s (suc j + 1) = nth-step s u goes (j + 1) ∙ ap (nth s) (let e : (j + 1) + 1 ≡ suc j + 1 = omega arith in e) in
    (subst (Contains ts) two link.0, ap (λ (a : Tuple). goes_on a (nth s (suc j + 1))) (sym one) ∙ ap (goes_on (nth u j)) (sym two) ∙ link.1)

link_cases : (n : ℕ) (ts : List Tuple) (s : Tuple) (o : Option Tuple) → find (goes_on s) ts ≡ o
    → ((u : Tuple) (j : ℕ) → j < followers n ts u → Link ts u j) → (i : ℕ) → i < followers (suc n) ts s → Link ts s i
link_cases n ts s None none deeper i below = absurd (omega (arith, no_follower (suc n) ts s none))
link_cases n ts s (Some u) found deeper zero below = let at = found_by_find (goes_on s) ts u found in first_link ts s u at.0 at.1
link_cases n ts s (Some u) found deeper (suc j) below =
    let at = found_by_find (goes_on s) ts u found in
    later_link ts s u at.1 j (deeper u j (omega (arith, one_follower n ts s u found)))

-- each follower is one of the tuples, and goes on from the one before it
pub chain_link : (n : ℕ) (ts : List Tuple) (s : Tuple) (i : ℕ) → i < followers n ts s → Link ts s i
chain_link zero ts s i below = absurd (omega (arith, none_left ts s))
chain_link (suc n) ts s i below = link_cases n ts s (find (goes_on s) ts) refl (λ u j. chain_link n ts u j) i below

abbrev Ends : List Tuple → Tuple → ℕ → Type 0
Ends ts s n = (t : Tuple) → Contains ts t → goes_on (nth s n) t ≡ false

ends_here : (ts : List Tuple) (s : Tuple) (n : ℕ) → n ≡ 0 → ((t : Tuple) → Contains ts t → goes_on s t ≡ false) → Ends ts s n
ends_here ts s n none ends t c = ap (λ (a : Tuple). goes_on a t) (ap (nth s) none ∙ nth-zero s) ∙ ends t c

end_cases : (n : ℕ) (ts : List Tuple) (s : Tuple) (o : Option Tuple) → find (goes_on s) ts ≡ o
    → ((u : Tuple) → 2 ^ 32 - 1 ≤ u.block + n → Ends ts u (followers n ts u)) → 2 ^ 32 - 1 ≤ s.block + suc n → Ends ts s (followers (suc n) ts s)
end_cases n ts s None none deeper room = ends_here ts s (followers (suc n) ts s) (no_follower (suc n) ts s none) (λ t c. none_by_find (goes_on s) ts t none c)
end_cases n ts s (Some u) found deeper room =
    let at = found_by_find (goes_on s) ts u found in
    let on = block_on s u at.1 in
    let count : followers (suc n) ts s ≡ followers n ts u + 1 = omega (arith, one_follower n ts s u found) in
    λ t c. ap (λ (a : Tuple). goes_on a t) (ap (nth s) count ∙ sym (nth-step s u at.1 (followers n ts u))) ∙ deeper u (omega (arith, on, room)) t c

-- and none goes on from the last one, where so many may follow as there are block numbers
pub chain_end : (n : ℕ) (ts : List Tuple) (s : Tuple) → HaveNext ts → 2 ^ 32 - 1 ≤ s.block + n → Ends ts s (followers n ts s)
chain_end zero ts s blocks room = ends_here ts s (followers zero ts s) (none_left ts s)
    (λ t c. false_by (goes_on s t) (λ goes. omega (arith, block_on s t goes, room_behind ts blocks t c, room)))
chain_end (suc n) ts s blocks room = end_cases n ts s (find (goes_on s) ts) refl (λ u more. chain_end n ts u blocks more) room

-- the followers of a tuple are the next one and its followers
pub more_followers : (ts : List Tuple) (t u : Tuple) → t.block < 2 ^ 32 - 1 → u.block ≡ t.block + 1 → find (goes_on t) ts ≡ Some u → followers (2 ^ 32 - t.block) ts t ≡ 1 + followers (2 ^ 32 - u.block) ts u
more_followers ts t u room on found =
    let one : 2 ^ 32 - t.block ≡ suc (2 ^ 32 - u.block) = omega arith in
    ap (λ (n : ℕ). followers n ts t) one ∙ one_follower (2 ^ 32 - u.block) ts t u found
