-- How many blocks are joined.
use Rattle.std.proofs.Common.{◌≡◌, ◌≤◌, ◌<◌, ◌^◌, ℕ, suc, ◌+◌, Bool, true, false, List, [], ◌∷◌, ◌++◌, length, refl, sym, ap, subst, ◌∙◌, arith, Result, Ok, Err, IsErrOf, eqb-true, inl, inr}
use Rattle.std.specs.Prelude.{◌↔◌, ◌⊎◌, ◌==◌, ◌||◌, ◌&&◌, not, nat_lt, is_some, if◌then◌else◌, Option, Some, None}
use Rattle.std.proofs.lemmas.Bool.Decides.{nat_tests}
use Rattle.std.specs.Result.{IsErr, IsErrAnd}
use Rattle.byte_fields.specs.Steps.{StepCount}
use Rattle.byte_fields.specs.declared.block.Block.{Block}
use Rattle.redo_area.specs.Area.{Batch}
use Rattle.meta_txn.specs.Joined.{bytes_at, with_block, reads_block, IsBatch, WouldBe}
use Rattle.meta_txn.specs.Places.{is_there}
use Rattle.meta_txn.proofs.ListLemmas.{there_is}
use Rattle.meta_txn.proofs.JoinedLaws.{bytes_at_with}
use Rattle.meta_txn.specs.declared.fault.TxnFault.{TxnFault}
use Rattle.meta_txn.specs.declared.fault.TxnFault.TheVariants.{TooMany, Failed}
use Rattle.join_blocks.specs.Joins.{is_joined, fresh, numbers, count_of, placed_in, CountsJoined, CountGrows}

-- one block more where its number wasn't there
count_there : (at : ℕ) (bytes : List ℕ) (ps : Batch) → length (with_block at bytes ps) ≡ (if is_there at ps then length ps else suc (length ps))
count_there at bytes [] = refl
count_there at bytes (p ∷ ps) = elim (nat_lt p.0 at) as (λ t. length (if t then p ∷ with_block at bytes ps else (if p.0 == at then (at, bytes) ∷ ps else (at, bytes) ∷ p ∷ ps)) ≡ (if (if t then is_there at ps else p.0 == at) then suc (length ps) else suc (suc (length ps)))) [
  | true ↦ ap suc (count_there at bytes ps) ∙ over (is_there at ps) (length ps)
  | false ↦ elim (p.0 == at) as (λ t. length (if t then (at, bytes) ∷ ps else (at, bytes) ∷ p ∷ ps) ≡ (if t then suc (length ps) else suc (suc (length ps)))) [ true ↦ refl | false ↦ refl ]
] where
  over : (b : Bool) (n : ℕ) → suc (if b then n else suc n) ≡ (if b then suc n else suc (suc n))
  over true n = refl
  over false n = refl

pub count_joined : (at : ℕ) (bytes : List ℕ) (ps : Batch) → IsBatch ps → length (with_block at bytes ps) ≡ (if is_joined ps at then length ps else suc (length ps))
count_joined at bytes ps is = count_there at bytes ps ∙ ap (λ (t : Bool). if t then length ps else suc (length ps)) (there_is 0 (2 ^ 64) at ps is.rise)

-- an answer that hands an error on
pub with_err : {T E : Type 0} (P : Result T E → Type 0) (fault : E) (result : Result T E) → IsErr result × IsErrAnd result (λ e. e ≡ fault) → P (Err fault) → P result
with_err P fault (Ok done) is p = absurd is.1
with_err {T} {E} P fault (Err e) is p = subst (λ (h : E). P (Err h)) (sym is.1) p

none_joined : (o : Option (List ℕ)) → o ≡ None → is_some o ≡ true → ⊥
none_joined None e h = cc h
none_joined (Some b) e h = cc e

-- a join that finds room, or its block joined, answers Failed alone
pub is_failed : {S : Type 0} (fault : TxnFault) (at : ℕ) (ps : Batch) → ((n : ℕ) → IsErrOf {T = S} (Err fault) (TooMany n) ↔ WouldBe at ps n) → length ps < 160 → fault ≡ Failed
is_failed (TooMany n) at ps only room = let would = (only n).0 refl in absurd (omega (arith, would.1, would.2, room))
is_failed Failed at ps only room = refl

pub is_failed_joined : {S : Type 0} (fault : TxnFault) (at : ℕ) (ps : Batch) → ((n : ℕ) → IsErrOf {T = S} (Err fault) (TooMany n) ↔ WouldBe at ps n) → is_joined ps at ≡ true → fault ≡ Failed
is_failed_joined (TooMany n) at ps only there = absurd (none_joined (bytes_at at ps) ((only n).0 refl).0 there)
is_failed_joined Failed at ps only there = refl

not_both : {T E : Type 0} (done : T) (fault : E) → ◌≡◌ {A = Result T E} (Ok done) (Err fault) → ⊥
not_both done fault h = cc h

-- a join that is answered reads its block where it wasn't joined
pub one_read : {S : Type 0} (done : S) (at long : ℕ) (ps : Batch) (before after : StepCount) → (reads_block at ps ≡ false → after ≡ before) → (reads_block at ps ≡ true → after ≡ record before { reads = before.reads + 1 }) → ((n : ℕ) → IsErrOf {T = S} (Ok done) (TooMany n) ↔ WouldBe at ps n)
    → long ≡ (if is_joined ps at then length ps else suc (length ps)) → after.reads + length ps ≡ before.reads + long
one_read {S} done at long ps before after none one many count = cases (bytes_at at ps) refl where
  cases : (o : Option (List ℕ)) → bytes_at at ps ≡ o → after.reads + length ps ≡ before.reads + long
  cases (Some b) e =
      let same = ap (λ (s : StepCount). s.reads) (none (ap (λ (o : Option (List ℕ)). not (is_some o) && nat_lt (length ps) 160) e)) in
      let long_is = ap (λ (o : Option (List ℕ)). if is_some o then length ps else suc (length ps)) e in
      omega (arith, same, count, long_is)
  cases None e = (elim (nat_lt (length ps) 160) as (λ t. nat_lt (length ps) 160 ≡ t → after.reads + length ps ≡ before.reads + long) [
    | true ↦ λ is.
        let more = ap (λ (s : StepCount). s.reads) (one (ap (λ (o : Option (List ℕ)). not (is_some o) && nat_lt (length ps) 160) e ∙ is)) in
        let long_is = ap (λ (o : Option (List ℕ)). if is_some o then length ps else suc (length ps)) e in
        omega (arith, more, count, long_is)
    | false ↦ λ isnt. absurd (not_both done (TooMany (suc (length ps))) ((many (suc (length ps))).1 (e, refl, too_many (length ps) isnt)))
  ]) refl
    where
      too_many : (n : ℕ) → nat_lt n 160 ≡ false → 160 < suc n
      too_many n h = grind (arith, nat_tests)

pub one_at_most : (at : ℕ) (ps : Batch) (before after : StepCount) → (reads_block at ps ≡ false → after ≡ before) → (reads_block at ps ≡ true → after ≡ record before { reads = before.reads + 1 }) → after.reads ≤ before.reads + 1
one_at_most at ps before after none one = (elim (reads_block at ps) as (λ t. reads_block at ps ≡ t → after.reads ≤ before.reads + 1) [
  | true ↦ λ is. let more = ap (λ (s : StepCount). s.reads) (one is) in omega (arith, more)
  | false ↦ λ isnt. let same = ap (λ (s : StepCount). s.reads) (none isnt) in omega (arith, same)
]) refl

-- ---- numbers that aren't there yet

pub fresh_same : (f g : ℕ → Bool) (ats : List ℕ) → ((n : ℕ) → f n ≡ g n) → fresh f ats ≡ fresh g ats
unfolding fresh
fresh_same f g [] same = refl
fresh_same f g (at ∷ ats) same =
    ap (λ (t : Bool). if t then fresh f ats else suc (fresh (λ n. n == at || f n) ats)) (same at)
    ∙ (elim (g at) as (λ t. (if t then fresh f ats else suc (fresh (λ n. n == at || f n) ats)) ≡ (if t then fresh g ats else suc (fresh (λ n. n == at || g n) ats))) [
      | true ↦ fresh_same f g ats same
      | false ↦ ap suc (fresh_same (λ n. n == at || f n) (λ n. n == at || g n) ats (λ n. ap (λ (t : Bool). n == at || t) (same n)))
    ])

-- a number that is joined, beside those that were
joined_with : (n at : ℕ) (bytes : List ℕ) (ps : Batch) → is_joined (with_block at bytes ps) n ≡ (n == at || is_joined ps n)
joined_with n at bytes ps =
    ap is_some (bytes_at_with n at bytes ps)
    ∙ (elim (n == at) as (λ t. is_some (if t then Some bytes else bytes_at n ps) ≡ (t || is_some (bytes_at n ps))) [ true ↦ refl | false ↦ refl ])

-- what is joined and what is to be joined, after one block more
pub count_on : (at : ℕ) (bytes : List ℕ) (ps qs : Batch) (ats : List ℕ) → qs ≡ with_block at bytes ps → length qs ≡ (if is_joined ps at then length ps else suc (length ps)) → length qs + fresh (is_joined qs) ats ≡ length ps + fresh (is_joined ps) (at ∷ ats)
unfolding fresh
count_on at bytes ps qs ats e long =
    let same : fresh (is_joined qs) ats ≡ fresh (λ n. n == at || is_joined ps n) ats = fresh_same (is_joined qs) (λ n. n == at || is_joined ps n) ats (λ n. ap (λ (xs : Batch). is_joined xs n) e ∙ joined_with n at bytes ps) in
    (elim (is_joined ps at) as (λ t. is_joined ps at ≡ t → length qs ≡ (if t then length ps else suc (length ps)) → length qs + fresh (is_joined qs) ats ≡ length ps + (if t then fresh (is_joined ps) ats else suc (fresh (λ n. n == at || is_joined ps n) ats))) [
      | true ↦ λ is h. let stays = fresh_same (λ n. n == at || is_joined ps n) (is_joined ps) ats (λ n. there_already n is) in omega (arith, h, same, stays)
      | false ↦ λ isnt h. omega (arith, h, same)
    ]) refl long
  where
    there_already : (n : ℕ) → is_joined ps at ≡ true → (n == at || is_joined ps n) ≡ is_joined ps n
    there_already n is = (elim (n == at) as (λ t. (n == at) ≡ t → (t || is_joined ps n) ≡ is_joined ps n) [
      | true ↦ λ here. sym (ap (is_joined ps) (eqb-true n at here) ∙ is)
      | false ↦ λ other. refl
    ]) refl

-- one block with room for it finds room, or is joined
pub room_or_joined : (at : ℕ) (ps : Batch) (ats : List ℕ) → length ps + fresh (is_joined ps) (at ∷ ats) ≤ 160 → (length ps < 160) ⊎ (is_joined ps at ≡ true)
unfolding fresh
room_or_joined at ps ats room = (elim (is_joined ps at) as (λ t. is_joined ps at ≡ t → length ps + (if t then fresh (is_joined ps) ats else suc (fresh (λ n. n == at || is_joined ps n) ats)) ≤ 160 → (length ps < 160) ⊎ (is_joined ps at ≡ true)) [
  | true ↦ λ is h. inr is
  | false ↦ λ isnt h. inl (omega (arith, h))
]) refl room

pub by_either : {A B P : Type 0} → A ⊎ B → (A → P) → (B → P) → P
by_either (inl a) f g = f a
by_either (inr b) f g = g b

-- ---- numbers that are noted

-- with a number noted that was there, and one that wasn't
pub noted_there : (f g : ℕ → Bool) (at : ℕ) (ats : List ℕ) → f at ≡ true → ((n : ℕ) → g n ≡ (n == at || f n)) → fresh g ats ≡ fresh f (at ∷ ats)
unfolding fresh
noted_there f g at ats is same =
    fresh_same g f ats (λ n. same n ∙ already n)
    ∙ ap (λ (t : Bool). if t then fresh f ats else suc (fresh (λ n. n == at || f n) ats)) (sym is)
  where
    already : (n : ℕ) → (n == at || f n) ≡ f n
    already n = (elim (n == at) as (λ t. (n == at) ≡ t → (t || f n) ≡ f n) [
      | true ↦ λ here. sym (ap f (eqb-true n at here) ∙ is)
      | false ↦ λ other. refl
    ]) refl

pub noted_new : (f g : ℕ → Bool) (at : ℕ) (ats : List ℕ) → f at ≡ false → ((n : ℕ) → g n ≡ (n == at || f n)) → suc (fresh g ats) ≡ fresh f (at ∷ ats)
unfolding fresh
noted_new f g at ats isnt same =
    ap suc (fresh_same g (λ n. n == at || f n) ats same)
    ∙ ap (λ (t : Bool). if t then fresh f ats else suc (fresh (λ n. n == at || f n) ats)) (sym isnt)

-- ---- one step of a loop

pub room_on : (first b v : ℕ) (bytes : List ℕ) (ps qs : Batch) (bs : List ℕ) → v ≡ b → qs ≡ with_block (first + v) bytes ps → length qs ≡ (if is_joined ps (first + v) then length ps else suc (length ps)) → count_of ps first (b ∷ bs) ≤ 160 → count_of qs first bs ≤ 160
room_on first b v bytes ps qs bs e put long room =
    let on = count_on (first + v) bytes ps qs (numbers first bs) put long in
    let same = ap (λ (n : ℕ). length ps + fresh (is_joined ps) ((first + n) ∷ numbers first bs)) e in
    omega (arith, on, same, room)

-- what is to be joined besides is counted alike
pub counts_on : (first b v : ℕ) (bytes : List ℕ) (ps qs : Batch) (later bs : List ℕ) → v ≡ b → qs ≡ with_block (first + v) bytes ps → length qs ≡ (if is_joined ps (first + v) then length ps else suc (length ps)) → count_of qs first (later ++ bs) ≡ count_of ps first ((b ∷ later) ++ bs)
counts_on first b v bytes ps qs later bs e put long =
    count_on (first + v) bytes ps qs (numbers first (later ++ bs)) put long
    ∙ ap (λ (n : ℕ). length ps + fresh (is_joined ps) ((first + n) ∷ numbers first (later ++ bs))) e

pub none_counted : (first : ℕ) (rest : List (ℕ × Block)) (ps : Batch) (bs : List ℕ) → length rest ≡ 0 → count_of ps first bs ≡ count_of ps first (placed_in rest ++ bs)
none_counted first [] ps bs e = refl
none_counted first (x ∷ xs) ps bs e = absurd (omega (arith, e))

-- more blocks are as many or more
pub fresh_grows : (f : ℕ → Bool) (xs ys : List ℕ) → fresh f xs ≤ fresh f (xs ++ ys)
unfolding fresh
fresh_grows f [] ys = omega arith
fresh_grows f (x ∷ xs) ys = elim (f x) as (λ t. (if t then fresh f xs else suc (fresh (λ n. n == x || f n) xs)) ≤ (if t then fresh f (xs ++ ys) else suc (fresh (λ n. n == x || f n) (xs ++ ys)))) [
  | true ↦ fresh_grows f xs ys
  | false ↦ let rest = fresh_grows (λ n. n == x || f n) xs ys in omega (arith, rest)
]

numbers_both : (first : ℕ) (xs ys : List ℕ) → numbers first (xs ++ ys) ≡ numbers first xs ++ numbers first ys
numbers_both first [] ys = refl
numbers_both first (x ∷ xs) ys = ap (λ (l : List ℕ). (first + x) ∷ l) (numbers_both first xs ys)

pub count_grows : CountGrows
count_grows joined first xs ys =
    let rest = fresh_grows (is_joined joined) (numbers first xs) (numbers first ys) in
    let both = ap (λ (l : List ℕ). fresh (is_joined joined) l) (numbers_both first xs ys) in
    omega (arith, rest, both)

no_more : (xs : List ℕ) → xs ++ [] ≡ xs
no_more [] = refl
no_more (x ∷ xs) = ap (λ (ys : List ℕ). x ∷ ys) (no_more xs)

pub counts_joined : CountsJoined
unfolding fresh
counts_joined first blocks old new all =
    let one = all [] in
    let same = ap (λ (bs : List ℕ). count_of old first bs) (no_more blocks) in
    omega (arith, one, same)

pub no_blocks_counted : (first : ℕ) (rest : List ℕ) (ps : Batch) (bs : List ℕ) → length rest ≡ 0 → count_of ps first bs ≡ count_of ps first (rest ++ bs)
no_blocks_counted first [] ps bs e = refl
no_blocks_counted first (x ∷ xs) ps bs e = absurd (omega (arith, e))

pub free_room : (first b v : ℕ) (ps : Batch) (bs : List ℕ) → v ≡ b → count_of ps first (b ∷ bs) ≤ 160 → (length ps < 160) ⊎ (is_joined ps (first + v) ≡ true)
free_room first b v ps bs e room = subst (λ (n : ℕ). (length ps < 160) ⊎ (is_joined ps (first + n) ≡ true)) (sym e) (room_or_joined (first + b) ps (numbers first bs) room)

-- nothing more is to be counted
pub none_more : (f : ℕ → Bool) (first : ℕ) (rest : List ℕ) → length rest ≡ 0 → fresh f (numbers first rest) ≡ 0
unfolding fresh
none_more f first [] e = refl
none_more f first (b ∷ bs) e = absurd (omega (arith, e))

beside : (a b c : Bool) → ((a || b) || c) ≡ (a || (b || c))
beside true b c = refl
beside false b c = refl

is_new_false : (x : Bool) → not x ≡ true → x ≡ false
is_new_false true e = sym e
is_new_false false e = refl

is_old_true : (x : Bool) → not x ≡ false → x ≡ true
is_old_true true e = refl
is_old_true false e = sym e

module _ (seen seen' joined : ℕ → Bool) (first b v k total : ℕ) (answer : Bool) (later rest : List ℕ) (is : rest ≡ b ∷ later) (e : v ≡ b) (told : answer ≡ not (seen (first + v) || joined (first + v))) (noted : (n : ℕ) → seen' n ≡ (n == (first + v) || seen n)) (so_far : k + fresh (λ n. seen n || joined n) (numbers first rest) ≡ total) where
  before_it : k + fresh (λ n. seen n || joined n) ((first + v) ∷ numbers first later) ≡ total
  before_it = ap (λ (n : ℕ). k + fresh (λ m. seen m || joined m) ((first + n) ∷ numbers first later)) e ∙ sym (ap (λ (l : List ℕ). k + fresh (λ m. seen m || joined m) (numbers first l)) is) ∙ so_far

  among : (n : ℕ) → (seen' n || joined n) ≡ (n == (first + v) || (seen n || joined n))
  among n = ap (λ (t : Bool). t || joined n) (noted n) ∙ beside (n == (first + v)) (seen n) (joined n)

  pub counted_new : answer ≡ true → (k + 1) + fresh (λ n. seen' n || joined n) (numbers first later) ≡ total
  counted_new is_so =
      let new = noted_new (λ n. seen n || joined n) (λ n. seen' n || joined n) (first + v) (numbers first later) (is_new_false (seen (first + v) || joined (first + v)) (sym told ∙ is_so)) among in
      omega (arith, new, before_it)

  pub counted_old : answer ≡ false → k + fresh (λ n. seen' n || joined n) (numbers first later) ≡ total
  counted_old is_not =
      let old = noted_there (λ n. seen n || joined n) (λ n. seen' n || joined n) (first + v) (numbers first later) (is_old_true (seen (first + v) || joined (first + v)) (sym told ∙ is_not)) among in
      omega (arith, old, before_it)
