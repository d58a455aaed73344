-- A block that gets into a transaction.
use Rattle.std.proofs.Common.{◌≡◌, ◌≤◌, ◌<◌, ◌+◌, Bool, true, false, ℕ, ◌&&◌, List, length, refl, sym, ◌∙◌, ap, subst, arith, Option, None, Result, Ok, Err, IfOk, IfErr, IsErrOf}
use Rattle.std.specs.Prelude.{◌↔◌, nat_lt, is_some, not, MatchOption}
use Rattle.std.proofs.lemmas.Bool.Decides.{nat_tests}
use Rattle.blk_device.specs.Contents.{Contents, Holds}
use Rattle.blk_device.specs.declared.device.Region.TheVariants.{Image}
use Rattle.redo_area.specs.Area.{Batch}
use Rattle.meta_txn.specs.declared.fault.TxnFault.{TxnFault}
use Rattle.meta_txn.specs.declared.fault.TxnFault.TheVariants.{TooMany, Failed}
use Rattle.meta_txn.specs.Entering.{IsEntered, IsFound, IsReadIn}
use Rattle.meta_txn.specs.Joined.{Joined, bytes_at, reads_block, with_block, WouldBe}
use Rattle.meta_txn.specs.Places.{bytes_in, set_bytes}
use Rattle.meta_txn.proofs.ListLemmas.{bytes_after, place_after, place_inside, set_after, set_joined}

-- no answer but TooMany is one
pub no_more : {T : Type 0} (result : Result T TxnFault) (n : ℕ) (P : Type 0) → IfErr result (λ fault. fault ≡ Failed) → (P → ⊥) → IsErrOf result (TooMany n) ↔ P
no_more (Ok x) n P kind none = (λ e. cc e, λ p. absurd (none p))
no_more (Err fault) n P kind none = (λ e. cc (e, kind), λ p. absurd (none p))

pub one_too_many : {T : Type 0} (count n : ℕ) → 160 ≤ count → IsErrOf {T = T} (Err (TooMany (count + 1))) (TooMany n) ↔ ((n ≡ count + 1) × (160 < n))
one_too_many {T} count n full =
    (λ e. let is : n ≡ count + 1 = cc e in (is, omega (arith, is, full)), λ both. ap (λ (k : ℕ). Err (TooMany k)) (sym both.0))

-- the same where a number that isn't joined was to be read
pub would_be : {T : Type 0} (result : Result T TxnFault) (at n : ℕ) (blocks : Batch) → bytes_at at blocks ≡ None → IsErrOf result (TooMany n) ↔ ((n ≡ length blocks + 1) × (160 < n)) → IsErrOf result (TooMany n) ↔ WouldBe at blocks n
would_be result at n blocks none is =
    (λ e. let both = is.0 e in (none, omega (arith, both.0), both.1), λ would. is.1 (omega (arith, would.1), would.2))

both_false : (x y : Bool) → x ≡ true → (not x && y) ≡ false
both_false true y e = refl
both_false false y e = cc e

only_second : (x y : Bool) → x ≡ false → (not x && y) ≡ y
only_second true y e = cc e
only_second false y e = refl

-- a joined number isn't read
pub joined_unread : (at i : ℕ) (blocks : Batch) → IsFound at i blocks → reads_block at blocks ≡ false
joined_unread at i blocks found = both_false (is_some (bytes_at at blocks)) (nat_lt (length blocks) 160) (ap is_some found.bytes)

-- any other is read where there is room
pub absent_read : (at : ℕ) (blocks : Batch) → bytes_at at blocks ≡ None → reads_block at blocks ≡ nat_lt (length blocks) 160
absent_read at blocks none = only_second (is_some (bytes_at at blocks)) (nat_lt (length blocks) 160) (ap is_some none)

pub has_room : (at : ℕ) (blocks : Batch) → bytes_at at blocks ≡ None → reads_block at blocks ≡ true → length blocks < 160
has_room at blocks none reads = let test : nat_lt (length blocks) 160 ≡ true = sym (absent_read at blocks none) ∙ reads in grind (arith, nat_tests)

pub has_none : (at : ℕ) (blocks : Batch) → bytes_at at blocks ≡ None → reads_block at blocks ≡ false → 160 ≤ length blocks
has_none at blocks none reads = let test : nat_lt (length blocks) 160 ≡ false = sym (absent_read at blocks none) ∙ reads in grind (arith, nat_tests)

-- a block that was joined before
pub found_entered : (at i : ℕ) (told : Option Contents) (old : Joined) → IsFound at i old.blocks → IsEntered at i told old old
found_entered at i told old found = record {
  bound = subst (λ (k : ℕ). k < length old.blocks) (sym found.place) (place_inside at old.blocks found.there);
  bytes = subst (λ (o : Option (List ℕ)). MatchOption o (Holds Image at (bytes_in i old.blocks) told) (λ joined. bytes_in i old.blocks ≡ joined)) (sym found.bytes) refl;
  left = λ bytes. ap (λ (k : ℕ). set_bytes k bytes old.blocks) found.place ∙ set_joined at bytes old.blocks found.there;
  marked = refl;
}

-- a block that was read
pub read_entered : (at i : ℕ) (told : Option Contents) (old new : Joined) → bytes_at at old.blocks ≡ None → IsReadIn at i told old new → IsEntered at i told old new
read_entered at i told old new none read =
    let is : bytes_in i new.blocks ≡ read.bytes = (λ j. bytes_in (read.place j) (read.blocks j)) ∙ bytes_after at read.bytes old.blocks in
    record {
      bound = subst (λ (ps : Batch). i < length ps) (sym read.blocks) (subst (λ (k : ℕ). k < length (with_block at read.bytes old.blocks)) (sym read.place) (place_after at read.bytes old.blocks));
      bytes = subst (λ (o : Option (List ℕ)). MatchOption o (Holds Image at (bytes_in i new.blocks) told) (λ joined. bytes_in i new.blocks ≡ joined)) (sym none) (subst (λ (b : List ℕ). Holds Image at b told) (sym is) read.holds);
      left = λ bytes. (λ j. set_bytes (read.place j) bytes (read.blocks j)) ∙ set_after at read.bytes bytes old.blocks;
      marked = read.marked;
    }

pub all_entered : {E : Type 0} (result : Result ℕ E) (at : ℕ) (told : Option Contents) (old new : Joined) → bytes_at at old.blocks ≡ None → IfOk result (λ i. IsReadIn at i told old new) → IfOk result (λ i. IsEntered at i told old new)
all_entered (Ok i) at told old new none read = read_entered at i told old new none read
all_entered (Err e) at told old new none read = tt

-- the same fault of another answer
pub fault_of : {S T : Type 0} (fault other : TxnFault) → IsErrOf {T = S} (Err fault) other → IsErrOf {T = T} (Err fault) other
fault_of fault other is = let same : fault ≡ other = cc is in ap (λ (f : TxnFault). Err f) same
