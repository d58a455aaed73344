-- Lists of numbered blocks that rise.
use Rattle.std.proofs.Common.{◌≡◌, ◌≤◌, ◌<◌, Bool, true, false, ℕ, zero, suc, ◌+◌, ◌&&◌, List, [], ◌∷◌, length, get_or, refl, sym, ◌∙◌, ap, subst, arith, Option, Some, None, Result, Ok, Err, IfOk, IfErr, cond, nat_eq, eqb-true, eq-eqb}
use Rattle.std.specs.Prelude.{nat_lt, nat_le, ◌==◌, is_some, unwrap_or, if◌then◌else◌, slice_set}
use Rattle.std.specs.List.{insert}
use Rattle.std.proofs.lemmas.Bool.Decides.{nat_tests}
use Rattle.byte_fields.specs.declared.block.Block.{Block}
use Rattle.redo_area.specs.Area.{Batch, Blocks, bytes_of, homes_of, with_batch}
use Rattle.redo_area.specs.Table.{places, rises}
use Rattle.redo_area.proofs.AreaLaws.{homes_of_bytes}
use Rattle.redo_area.proofs.TableLemmas.{rises_first, is_lt}
use Rattle.meta_txn.specs.Entering.{IsAbsent, IsFound}
use Rattle.meta_txn.specs.Joined.{bytes_at, with_block, AreBelow}
use Rattle.meta_txn.specs.Places.{place, is_there, found, bytes_in, set_bytes}

when : (t : Bool) (x y : Batch) → t ≡ true → (if t then x else y) ≡ x
when true x y e = refl
when false x y e = cc e

unless : (t : Bool) (x y : Batch) → t ≡ false → (if t then x else y) ≡ y
unless true x y e = cc e
unless false x y e = refl

is_le : (a b : ℕ) → a ≤ b → nat_le a b ≡ true
is_le a b le = grind (arith, nat_tests)

from_lt : (a b : ℕ) → nat_lt a b ≡ true → a < b
from_lt a b e = grind (arith, nat_tests)

from_not_lt : (a b : ℕ) → nat_lt a b ≡ false → b ≤ a
from_not_lt a b e = grind (arith, nat_tests)

not_eq : (a b : ℕ) → a < b → nat_eq a b ≡ false
not_eq a b lt = grind (arith, nat_tests)

not_eq_above : (a b : ℕ) → b < a → nat_eq a b ≡ false
not_eq_above a b lt = grind (arith, nat_tests)

apart_above : (a b : ℕ) → b ≤ a → nat_eq a b ≡ false → b < a
apart_above a b le e = grind (arith, nat_tests)

passed : {A : Type 0} (t : Bool) (x y : A) → t ≡ false → cond t x y ≡ y
passed true x y e = cc e
passed false x y e = refl

met : {A : Type 0} (t : Bool) (x y : A) → t ≡ true → cond t x y ≡ x
met true x y e = refl
met false x y e = cc e

all_three : (x y z : Bool) → x ≡ true → y ≡ true → z ≡ true → (x && (y && z)) ≡ true
all_three true true true p q r = refl
all_three true true false p q r = r
all_three true false z p q r = q
all_three false y z p q r = p

-- a number in front of rising ones
rises_by : (least big n : ℕ) (ns : List ℕ) → least ≤ n → n < big → rises (n + 1) big ns ≡ true → rises least big (n ∷ ns) ≡ true
rises_by least big n ns le lt rest = all_three (nat_le least n) (nat_lt n big) (rises (n + 1) big ns) (is_le least n le) (is_lt n big lt) rest

pub length_bytes_of : (xs : List (ℕ × Block)) → length (bytes_of xs) ≡ length xs
length_bytes_of [] = refl
length_bytes_of (p ∷ xs) = ap suc (length_bytes_of xs)

pub place_bound : (at : ℕ) (ps : Batch) → place at ps ≤ length ps
place_bound at [] = omega arith
place_bound at (p ∷ ps) =
    elim (nat_lt p.0 at) as (λ t. (if t then suc (place at ps) else 0) ≤ suc (length ps)) [
      | true ↦ omega (arith, place_bound at ps)
      | false ↦ omega arith
    ]

pub place_inside : (at : ℕ) (ps : Batch) → is_there at ps ≡ true → place at ps < length ps
place_inside at [] = λ there. cc there
place_inside at (p ∷ ps) =
    elim (nat_lt p.0 at) as (λ t. (if t then is_there at ps else p.0 == at) ≡ true → (if t then suc (place at ps) else 0) < suc (length ps)) [
      | true ↦ λ there. omega (arith, place_inside at ps there)
      | false ↦ λ there. omega arith
    ]

pub place_after : (at : ℕ) (bytes : List ℕ) (ps : Batch) → place at ps < length (with_block at bytes ps)
place_after at bytes [] = omega arith
place_after at bytes (p ∷ ps) =
    elim (nat_lt p.0 at) as (λ t. (if t then suc (place at ps) else 0) < length (if t then p ∷ with_block at bytes ps else (if p.0 == at then (at, bytes) ∷ ps else (at, bytes) ∷ p ∷ ps))) [
      | true ↦ omega (arith, place_after at bytes ps)
      | false ↦ elim (p.0 == at) as (λ t. 0 < length (if t then (at, bytes) ∷ ps else (at, bytes) ∷ p ∷ ps)) [ true ↦ omega arith | false ↦ omega arith ]
    ]

-- the bytes at a number that is joined, set in its place
pub set_joined : (at : ℕ) (bytes : List ℕ) (ps : Batch) → is_there at ps ≡ true → set_bytes (place at ps) bytes ps ≡ with_block at bytes ps
set_joined at bytes [] = λ there. cc there
set_joined at bytes (p ∷ ps) =
    elim (nat_lt p.0 at) as (λ t. (if t then is_there at ps else p.0 == at) ≡ true → set_bytes (if t then suc (place at ps) else 0) bytes (p ∷ ps) ≡ (if t then p ∷ with_block at bytes ps else (if p.0 == at then (at, bytes) ∷ ps else (at, bytes) ∷ p ∷ ps))) [
      | true ↦ λ there. ap (λ (l : Batch). p ∷ l) (set_joined at bytes ps there)
      | false ↦ λ there. (λ i. (eqb-true p.0 at there i, bytes) ∷ ps) ∙ sym (when (p.0 == at) ((at, bytes) ∷ ps) ((at, bytes) ∷ p ∷ ps) there)
    ]

-- the bytes at a number, set again in its place
pub set_after : (at : ℕ) (first bytes : List ℕ) (ps : Batch) → set_bytes (place at ps) bytes (with_block at first ps) ≡ with_block at bytes ps
set_after at first bytes [] = refl
set_after at first bytes (p ∷ ps) =
    elim (nat_lt p.0 at) as (λ t. set_bytes (if t then suc (place at ps) else 0) bytes (if t then p ∷ with_block at first ps else (if p.0 == at then (at, first) ∷ ps else (at, first) ∷ p ∷ ps)) ≡ (if t then p ∷ with_block at bytes ps else (if p.0 == at then (at, bytes) ∷ ps else (at, bytes) ∷ p ∷ ps))) [
      | true ↦ ap (λ (l : Batch). p ∷ l) (set_after at first bytes ps)
      | false ↦ elim (p.0 == at) as (λ t. set_bytes 0 bytes (if t then (at, first) ∷ ps else (at, first) ∷ p ∷ ps) ≡ (if t then (at, bytes) ∷ ps else (at, bytes) ∷ p ∷ ps)) [ true ↦ refl | false ↦ refl ]
    ]

pub bytes_after : (at : ℕ) (bytes : List ℕ) (ps : Batch) → bytes_in (place at ps) (with_block at bytes ps) ≡ bytes
bytes_after at bytes [] = refl
bytes_after at bytes (p ∷ ps) =
    elim (nat_lt p.0 at) as (λ t. bytes_in (if t then suc (place at ps) else 0) (if t then p ∷ with_block at bytes ps else (if p.0 == at then (at, bytes) ∷ ps else (at, bytes) ∷ p ∷ ps)) ≡ bytes) [
      | true ↦ bytes_after at bytes ps
      | false ↦ elim (p.0 == at) as (λ t. bytes_in 0 (if t then (at, bytes) ∷ ps else (at, bytes) ∷ p ∷ ps) ≡ bytes) [ true ↦ refl | false ↦ refl ]
    ]

-- a number below rising ones isn't joined
none_below : (least big at : ℕ) (ps : Batch) → rises least big (homes_of ps) ≡ true → at < least → bytes_at at ps ≡ None
none_below least big at [] rise lt = refl
none_below least big at (p ∷ ps) rise lt =
    let first = rises_first least big p.0 (homes_of ps) (homes_of (p ∷ ps)) refl rise in
    passed (nat_eq at p.0) (Some p.1) (bytes_at at ps) (not_eq at p.0 (omega (arith, lt, first.0))) ∙ none_below (p.0 + 1) big at ps first.2 (omega (arith, lt, first.0))

-- the image with a batch that rises, block by block
pub with_batch_is : (least big b : ℕ) (ps : Batch) (image : Blocks) → rises least big (homes_of ps) ≡ true → with_batch ps image b ≡ unwrap_or (bytes_at b ps) (image b)
with_batch_is least big b [] image rise = refl
with_batch_is least big b (p ∷ ps) image rise =
    let first = rises_first least big p.0 (homes_of ps) (homes_of (p ∷ ps)) refl rise in
    with_batch_is (p.0 + 1) big b ps (λ x. if x == p.0 then p.1 else image x) first.2
    ∙ (elim (b == p.0) as (λ t. (b == p.0) ≡ t → unwrap_or (bytes_at b ps) (if t then p.1 else image b) ≡ unwrap_or (cond t (Some p.1) (bytes_at b ps)) (image b)) [
      | true ↦ λ is. ap (λ (o : Option (List ℕ)). unwrap_or o p.1) (none_below (p.0 + 1) big b ps first.2 (omega (arith, eqb-true b p.0 is)))
      | false ↦ λ isnt. refl
    ]) refl

same_some : (x : Option (List ℕ)) → x ≡ None → false ≡ is_some x
same_some None e = refl
same_some (Some b) e = cc e

some_is : (t : Bool) (b : List ℕ) (rest : Option (List ℕ)) → t ≡ true → true ≡ is_some (cond t (Some b) rest)
some_is true b rest e = refl
some_is false b rest e = cc e

-- the block stands in its place exactly where its number is joined
pub there_is : (least big at : ℕ) (ps : Batch) → rises least big (homes_of ps) ≡ true → is_there at ps ≡ is_some (bytes_at at ps)
there_is least big at [] rise = refl
there_is least big at (p ∷ ps) rise =
    let first = rises_first least big p.0 (homes_of ps) (homes_of (p ∷ ps)) refl rise in
    (elim (nat_lt p.0 at) as (λ t. nat_lt p.0 at ≡ t → (if t then is_there at ps else p.0 == at) ≡ is_some (bytes_at at (p ∷ ps))) [
      | true ↦ λ lt. there_is (p.0 + 1) big at ps first.2 ∙ sym (ap is_some (passed (nat_eq at p.0) (Some p.1) (bytes_at at ps) (not_eq_above at p.0 (from_lt p.0 at lt))))
      | false ↦ λ not_lt. (elim (p.0 == at) as (λ t. (p.0 == at) ≡ t → t ≡ is_some (bytes_at at (p ∷ ps))) [
        | true ↦ λ is. some_is (nat_eq at p.0) p.1 (bytes_at at ps) (eq-eqb at p.0 (sym (eqb-true p.0 at is)))
        | false ↦ λ isnt.
            let lt : at < p.0 = apart_above p.0 at (from_not_lt p.0 at not_lt) isnt in
            same_some (bytes_at at (p ∷ ps)) (passed (nat_eq at p.0) (Some p.1) (bytes_at at ps) (not_eq at p.0 lt) ∙ none_below (p.0 + 1) big at ps first.2 (omega (arith, lt)))
      ]) refl
    ]) refl

-- the bytes in its place are those that are joined
pub there_bytes : (at : ℕ) (ps : Batch) → is_there at ps ≡ true → bytes_at at ps ≡ Some (bytes_in (place at ps) ps)
there_bytes at [] = λ there. cc there
there_bytes at (p ∷ ps) =
    (elim (nat_lt p.0 at) as (λ t. nat_lt p.0 at ≡ t → (if t then is_there at ps else p.0 == at) ≡ true → bytes_at at (p ∷ ps) ≡ Some (bytes_in (if t then suc (place at ps) else 0) (p ∷ ps))) [
      | true ↦ λ lt there. passed (nat_eq at p.0) (Some p.1) (bytes_at at ps) (not_eq_above at p.0 (from_lt p.0 at lt)) ∙ there_bytes at ps there
      | false ↦ λ not_lt is. met (nat_eq at p.0) (Some p.1) (bytes_at at ps) (eq-eqb at p.0 (sym (eqb-true p.0 at is)))
    ]) refl

-- a block put in, in its place
pub insert_is : (at : ℕ) (block : Block) (xs : List (ℕ × Block)) → is_there at (bytes_of xs) ≡ false → bytes_of (insert xs (place at (bytes_of xs)) (at, block)) ≡ with_block at block.bytes (bytes_of xs)
insert_is at block [] = λ apart. refl
insert_is at block (p ∷ xs) =
    elim (nat_lt p.0 at) as (λ t. (if t then is_there at (bytes_of xs) else p.0 == at) ≡ false → bytes_of (insert (p ∷ xs) (if t then suc (place at (bytes_of xs)) else 0) (at, block)) ≡ (if t then (p.0, p.1.bytes) ∷ with_block at block.bytes (bytes_of xs) else (if p.0 == at then (at, block.bytes) ∷ bytes_of xs else (at, block.bytes) ∷ (p.0, p.1.bytes) ∷ bytes_of xs))) [
      | true ↦ λ apart. ap (λ (l : Batch). (p.0, p.1.bytes) ∷ l) (insert_is at block xs apart)
      | false ↦ λ apart. sym (unless (p.0 == at) ((at, block.bytes) ∷ bytes_of xs) ((at, block.bytes) ∷ (p.0, p.1.bytes) ∷ bytes_of xs) apart)
    ]

-- the numbers still rise
pub with_block_rises : (least big at : ℕ) (bytes : List ℕ) (ps : Batch) → rises least big (homes_of ps) ≡ true → least ≤ at → at < big → rises least big (homes_of (with_block at bytes ps)) ≡ true
with_block_rises least big at bytes [] rise le lt = rises_by least big at [] le lt refl
with_block_rises least big at bytes (p ∷ ps) rise le lt =
    let first = rises_first least big p.0 (homes_of ps) (homes_of (p ∷ ps)) refl rise in
    (elim (nat_lt p.0 at) as (λ t. nat_lt p.0 at ≡ t → rises least big (homes_of (if t then p ∷ with_block at bytes ps else (if p.0 == at then (at, bytes) ∷ ps else (at, bytes) ∷ p ∷ ps))) ≡ true) [
      | true ↦ λ below. rises_by least big p.0 (homes_of (with_block at bytes ps)) first.0 first.1 (with_block_rises (p.0 + 1) big at bytes ps first.2 (omega (arith, from_lt p.0 at below)) lt)
      | false ↦ λ not_below. (elim (p.0 == at) as (λ t. (p.0 == at) ≡ t → rises least big (homes_of (if t then (at, bytes) ∷ ps else (at, bytes) ∷ p ∷ ps)) ≡ true) [
        | true ↦ λ is. rises_by least big at (homes_of ps) le lt (subst (λ (n : ℕ). rises (n + 1) big (homes_of ps) ≡ true) (eqb-true p.0 at is) first.2)
        | false ↦ λ isnt. rises_by least big at (p.0 ∷ homes_of ps) le lt (rises_by (at + 1) big p.0 (homes_of ps) (omega (arith, apart_above p.0 at (from_not_lt p.0 at not_below) isnt)) first.1 first.2)
      ]) refl
    ]) refl

-- another block in the same place has the same number
pub same_places : (xs : List (ℕ × Block)) (i : ℕ) (p : ℕ × Block) (block : Block) → p ≡ get_or xs i p → places (slice_set xs i (p.0, block)) ≡ places xs
same_places [] i p block is = refl
same_places (x ∷ xs) zero p block is = λ i. (is i).0 ∷ places xs
same_places (x ∷ xs) (suc i) p block is = ap (λ (l : List ℕ). x.0 ∷ l) (same_places xs i p block is)

pub set_is : (xs : List (ℕ × Block)) (i : ℕ) (p : ℕ × Block) (block : Block) → p ≡ get_or xs i p → bytes_of (slice_set xs i (p.0, block)) ≡ set_bytes i block.bytes (bytes_of xs)
set_is [] i p block is = refl
set_is (x ∷ xs) zero p block is = λ i. ((is i).0, block.bytes) ∷ bytes_of xs
set_is (x ∷ xs) (suc i) p block is = ap (λ (l : Batch). (x.0, x.1.bytes) ∷ l) (set_is xs i p block is)

pub bytes_in_is : (xs : List (ℕ × Block)) (i : ℕ) (p : ℕ × Block) → i < length xs → p ≡ get_or xs i p → p.1.bytes ≡ bytes_in i (bytes_of xs)
bytes_in_is [] i p inside is = absurd (omega (arith, inside))
bytes_in_is (x ∷ xs) zero p inside is = ap (λ (q : ℕ × Block). q.1.bytes) is
bytes_in_is (x ∷ xs) (suc i) p inside is = bytes_in_is xs i p (omega (arith, inside)) is

-- numbers that rise, each below the size
pub rises_within : (least big size : ℕ) (xs : List (ℕ × Block)) → rises least big (places xs) ≡ true → AreBelow size (bytes_of xs) → rises least size (places xs) ≡ true
rises_within least big size [] rise below = refl
rises_within least big size (p ∷ xs) rise (here, below) =
    let first = rises_first least big p.0 (places xs) (places (p ∷ xs)) refl rise in
    rises_by least size p.0 (places xs) first.0 here (rises_within (p.0 + 1) big size xs first.2 below)

-- what the place tells
pub found_joined : (at i : ℕ) (ps : Batch) → Ok i ≡ found at ps → (is_there at ps ≡ true) × (i ≡ place at ps)
found_joined at i ps =
    elim (is_there at ps) as (λ t. Ok i ≡ (if t then Ok (place at ps) else Err (place at ps)) → (t ≡ true) × (i ≡ place at ps)) [ true ↦ λ e. (refl, cc e) | false ↦ λ e. cc e ]

pub found_absent : (at i : ℕ) (ps : Batch) → Err i ≡ found at ps → (is_there at ps ≡ false) × (i ≡ place at ps)
found_absent at i ps =
    elim (is_there at ps) as (λ t. Err i ≡ (if t then Ok (place at ps) else Err (place at ps)) → (t ≡ false) × (i ≡ place at ps)) [ true ↦ λ e. cc e | false ↦ λ e. (refl, cc e) ]

is_none : (x : Option (List ℕ)) → false ≡ is_some x → x ≡ None
is_none None e = refl
is_none (Some b) e = cc e

pub as_found : (big at i : ℕ) (ps : Batch) → rises 0 big (homes_of ps) ≡ true → Ok i ≡ found at ps → IsFound at i ps
as_found big at i ps rise is =
    let both = found_joined at i ps is in
    record { place = both.1; there = both.0; bytes = there_bytes at ps both.0 ∙ ap (λ (k : ℕ). Some (bytes_in k ps)) (sym both.1) }

pub as_absent : (big at i : ℕ) (ps : Batch) → rises 0 big (homes_of ps) ≡ true → Err i ≡ found at ps → IsAbsent at i ps
as_absent big at i ps rise is =
    let both = found_absent at i ps is in
    record { place = both.1; apart = both.0; none = is_none (bytes_at at ps) (sym both.0 ∙ there_is 0 big at ps rise) }

module _ (big at : ℕ) (xs : List (ℕ × Block)) (ps : Batch) (same : bytes_of xs ≡ ps) (rise : rises 0 big (places xs) ≡ true) where
  homes_rise : rises 0 big (homes_of (bytes_of xs)) ≡ true
  homes_rise = ap (rises 0 big) (homes_of_bytes xs) ∙ rise

  pub look_found : (result : Result ℕ ℕ) → result ≡ found at (bytes_of xs) → IfOk result (λ i. IsFound at i ps)
  look_found (Ok i) is = subst (IsFound at i) same (as_found big at i (bytes_of xs) homes_rise is)
  look_found (Err i) is = tt

  pub look_absent : (result : Result ℕ ℕ) → result ≡ found at (bytes_of xs) → IfErr result (λ i. IsAbsent at i ps)
  look_absent (Ok i) is = tt
  look_absent (Err i) is = subst (IsAbsent at i) same (as_absent big at i (bytes_of xs) homes_rise is)

  module _ (i : ℕ) (block : Block) (ys : List (ℕ × Block)) (put : ys ≡ insert xs i (at, block)) (absent : IsAbsent at i ps) where
    -- the list with a block put in
    pub inserted : bytes_of ys ≡ with_block at block.bytes ps
    inserted =
        let place_is : i ≡ place at (bytes_of xs) = absent.place ∙ sym (ap (place at) same) in
        ap bytes_of put ∙ ap (λ (k : ℕ). bytes_of (insert xs k (at, block))) place_is ∙ insert_is at block xs (ap (is_there at) same ∙ absent.apart) ∙ ap (with_block at block.bytes) same

    pub inserted_rises : at < big → rises 0 big (places ys) ≡ true
    inserted_rises lt =
        ap (rises 0 big) (sym (homes_of_bytes ys) ∙ ap homes_of inserted)
        ∙ with_block_rises 0 big at block.bytes ps (ap (λ (l : Batch). rises 0 big (homes_of l)) (sym same) ∙ homes_rise) (omega arith) lt
