-- The subtrees of a node that are still to be read.
use Rattle.std.proofs.Common.{◌≡◌, ℕ, zero, suc, ◌+◌, ◌-◌, ◌*◌, ◌<◌, ◌≤◌, true, false, List, ◌∷◌, ◌++◌, refl, ap, arith}
use Rattle.std.specs.Prelude.{nat_lt}
use Rattle.std.proofs.lemmas.Bool.Decides.{nat_tests}
use Rattle.byte_fields.specs.Fields.{field}
use Rattle.dinode_core.specs.ForkTree.{entries}
use Rattle.fork_read.specs.declared.tasks.Task.{Task}
use Rattle.fork_read.specs.Walk.{pruned, tasks_of}

-- the first entry is passed by, where the second begins before the offset
passes_two : (from n keys pointers : ℕ) (bytes : List ℕ) → nat_lt (field 8 bytes (keys + 8)) from ≡ true → pruned from (entries (suc (suc n)) keys pointers bytes) ≡ pruned from (entries (suc n) (keys + 8) (pointers + 8) bytes)
unfolding pruned entries
passes_two from n keys pointers bytes h = rw h refl

pub passes_one : (from count keys pointers i : ℕ) (bytes : List ℕ) → i + 1 < count → field 8 bytes (keys + 8 * (i + 1)) < from → pruned from (entries (count - i) (keys + 8 * i) (pointers + 8 * i) bytes) ≡ pruned from (entries (count - (i + 1)) (keys + 8 * (i + 1)) (pointers + 8 * (i + 1)) bytes)
passes_one from count keys pointers i bytes more before =
    let a : count - i ≡ suc (suc (count - (i + 2))) = omega arith in
    let b : count - (i + 1) ≡ suc (count - (i + 2)) = omega arith in
    let k : keys + 8 * (i + 1) ≡ keys + 8 * i + 8 = omega arith in
    let p : pointers + 8 * (i + 1) ≡ pointers + 8 * i + 8 = omega arith in
    let before_next = rw k at before in
    let test : nat_lt (field 8 bytes (keys + 8 * i + 8)) from ≡ true = grind (arith, nat_tests) in
    rw (a, b, k, p) (passes_two from (count - (i + 2)) (keys + 8 * i) (pointers + 8 * i) bytes test)

stays_two : (from n keys pointers : ℕ) (bytes : List ℕ) → nat_lt (field 8 bytes (keys + 8)) from ≡ false → pruned from (entries (suc (suc n)) keys pointers bytes) ≡ entries (suc (suc n)) keys pointers bytes
unfolding pruned entries
stays_two from n keys pointers bytes h = rw h refl

few_stay : (from n keys pointers : ℕ) (bytes : List ℕ) → n ≤ 1 → pruned from (entries n keys pointers bytes) ≡ entries n keys pointers bytes
unfolding pruned entries
few_stay from zero keys pointers bytes h = refl
few_stay from (suc zero) keys pointers bytes h = refl
few_stay from (suc (suc n)) keys pointers bytes h = absurd (omega arith)

-- no further entry, or the next one begins at the offset or behind it
pub last_stays : (from count keys pointers i : ℕ) (bytes : List ℕ) → count ≤ i + 1 → pruned from (entries (count - i) (keys + 8 * i) (pointers + 8 * i) bytes) ≡ entries (count - i) (keys + 8 * i) (pointers + 8 * i) bytes
last_stays from count keys pointers i bytes last = few_stay from (count - i) (keys + 8 * i) (pointers + 8 * i) bytes (omega arith)

pub next_stays : (from count keys pointers i : ℕ) (bytes : List ℕ) → i + 1 < count → from ≤ field 8 bytes (keys + 8 * (i + 1)) → pruned from (entries (count - i) (keys + 8 * i) (pointers + 8 * i) bytes) ≡ entries (count - i) (keys + 8 * i) (pointers + 8 * i) bytes
next_stays from count keys pointers i bytes more behind =
    let a : count - i ≡ suc (suc (count - (i + 2))) = omega arith in
    let k : keys + 8 * (i + 1) ≡ keys + 8 * i + 8 = omega arith in
    let behind_next = rw k at behind in
    let test : nat_lt (field 8 bytes (keys + 8 * i + 8)) from ≡ false = grind (arith, nat_tests) in
    rw a (stays_two from (count - (i + 2)) (keys + 8 * i) (pointers + 8 * i) bytes test)

pub pushed_one : (level count keys pointers i : ℕ) (bytes : List ℕ) (old tasks : List Task) → 0 < i → i ≤ count → tasks ≡ tasks_of level (entries (count - i) (keys + 8 * i) (pointers + 8 * i) bytes) ++ old → record { level = level; key = field 8 bytes (keys + 8 * (i - 1)); block = field 8 bytes (pointers + 8 * (i - 1)) } ∷ tasks ≡ tasks_of level (entries (count - (i - 1)) (keys + 8 * (i - 1)) (pointers + 8 * (i - 1)) bytes) ++ old
unfolding entries
pushed_one level count keys pointers i bytes old tasks pos le h =
    let a : count - (i - 1) ≡ suc (count - i) = omega arith in
    let k : keys + 8 * i ≡ keys + 8 * (i - 1) + 8 = omega arith in
    let p : pointers + 8 * i ≡ pointers + 8 * (i - 1) + 8 = omega arith in
    let t : Task = record { level = level; key = field 8 bytes (keys + 8 * (i - 1)); block = field 8 bytes (pointers + 8 * (i - 1)) } in
    rw a (ap (λ xs. t ∷ xs) (rw (k, p) at h))

pub pushed_none : (level count keys pointers : ℕ) (bytes : List ℕ) (old : List Task) → old ≡ tasks_of level (entries (count - count) keys pointers bytes) ++ old
unfolding entries
pushed_none level count keys pointers bytes old =
    let none : count - count ≡ 0 = omega arith in
    rw none refl
