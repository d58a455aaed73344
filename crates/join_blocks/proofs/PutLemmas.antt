-- What stands at each number once blocks are joined.
use Rattle.std.proofs.Common.{◌≡◌, ◌≤◌, ℕ, ◌+◌, Bool, true, false, List, [], ◌∷◌, length, refl, sym, ap, subst, ◌∙◌, inl, inr, arith, eqb-true}
use Rattle.std.specs.Prelude.{◌==◌, if◌then◌else◌, is_some, Option, Some, MatchOption}
use Rattle.byte_fields.specs.declared.block.Block.{Block}
use Rattle.blk_device.specs.Contents.{Contents, Holds}
use Rattle.blk_device.specs.declared.device.Region.TheVariants.{Image}
use Rattle.redo_area.specs.Area.{Batch}
use Rattle.meta_txn.specs.Joined.{bytes_at, with_block, Finds}
use Rattle.meta_txn.proofs.JoinedLaws.{bytes_at_with}
use Rattle.tree_defs.specs.Lists.{In, times}
use Rattle.join_blocks.specs.Joins.{is_joined, placed_in, with_all, AreFound, OnlyThese, PutsEach, PutsOthers, FindsOthers, PutsAll, FindsAll, FindsKeep}

-- another number stays
other_stays : (at n : ℕ) (bytes : List ℕ) (ps : Batch) → (n ≡ at → ⊥) → bytes_at n (with_block at bytes ps) ≡ bytes_at n ps
other_stays at n bytes ps other =
    bytes_at_with n at bytes ps
    ∙ (elim (n == at) as (λ t. (n == at) ≡ t → (if t then Some bytes else bytes_at n ps) ≡ bytes_at n ps) [
      | true ↦ λ is. absurd (other (eqb-true n at is))
      | false ↦ λ isnt. refl
    ]) refl

this_one : (at : ℕ) (bytes : List ℕ) (ps : Batch) → bytes_at at (with_block at bytes ps) ≡ Some bytes
this_one at bytes ps =
    bytes_at_with at at bytes ps
    ∙ ap (λ (t : Bool). if t then Some bytes else bytes_at at ps) (same_number at)
  where
    same_number : (n : ℕ) → (n == n) ≡ true
    same_number n = grind arith

pub puts_others : PutsOthers
unfolding with_all
puts_others first at [] joined none = refl
puts_others first at (e ∷ es) joined none =
    puts_others first at es (with_block (first + e.0) e.1.bytes joined) (λ b there. none b (inr there))
    ∙ other_stays (first + e.0) at e.1.bytes joined (λ same. none e.0 (inl refl) (sym same))

pub finds_others : FindsOthers
finds_others told first at [] old new found none = ap (bytes_at at) found
finds_others told first at (b ∷ bs) old new found none =
    finds_others told first at bs (with_block (first + b) found.0 old) new found.2 (λ c there. none c (inr there))
    ∙ other_stays (first + b) at found.0 old (λ same. none b (inl refl) (sym same))

-- a number that is joined stays so
stays_joined : (at n : ℕ) (bytes : List ℕ) (ps : Batch) → is_joined ps n ≡ true → is_joined (with_block at bytes ps) n ≡ true
stays_joined at n bytes ps there =
    ap is_some (bytes_at_with n at bytes ps)
    ∙ (elim (n == at) as (λ t. is_some (if t then Some bytes else bytes_at n ps) ≡ true) [ true ↦ refl | false ↦ there ])

is_joined_now : (at : ℕ) (bytes : List ℕ) (ps : Batch) → is_joined (with_block at bytes ps) at ≡ true
is_joined_now at bytes ps = ap is_some (this_one at bytes ps)

puts_keep : (first at : ℕ) (placed : List (ℕ × Block)) (joined : Batch) → is_joined joined at ≡ true → is_joined (with_all first placed joined) at ≡ true
unfolding with_all
puts_keep first at [] joined there = there
puts_keep first at (e ∷ es) joined there = puts_keep first at es (with_block (first + e.0) e.1.bytes joined) (stays_joined (first + e.0) at e.1.bytes joined there)

pub puts_all : PutsAll
unfolding with_all
puts_all first [] joined b there = absurd there
puts_all first (e ∷ es) joined b (inl same) =
    puts_keep first (first + b) es (with_block (first + e.0) e.1.bytes joined)
    (subst (λ (n : ℕ). is_joined (with_block (first + e.0) e.1.bytes joined) (first + n) ≡ true) same (is_joined_now (first + e.0) e.1.bytes joined))
puts_all first (e ∷ es) joined b (inr there) = puts_all first es (with_block (first + e.0) e.1.bytes joined) b there

-- a block that is found where it is joined has the bytes that it had
found_same : (told : Option Contents) (at n : ℕ) (bytes x : List ℕ) (ps : Batch) → Finds n ps told bytes → bytes_at at ps ≡ Some x → bytes_at at (with_block n bytes ps) ≡ Some x
found_same told at n bytes x ps found there = (elim (at == n) as (λ t. (at == n) ≡ t → bytes_at at (with_block n bytes ps) ≡ Some x) [
  | true ↦ λ is.
      let same : at ≡ n = eqb-true at n is in
      let here : bytes_at n ps ≡ Some x = ap (λ (k : ℕ). bytes_at k ps) (sym same) ∙ there in
      let bytes_are : bytes ≡ x = subst (λ (o : Option (List ℕ)). MatchOption o (Holds Image n bytes told) (λ joined. bytes ≡ joined)) here found in
      ap (λ (k : ℕ). bytes_at k (with_block n bytes ps)) same ∙ this_one n bytes ps ∙ ap (λ (l : List ℕ). Some l) bytes_are
  | false ↦ λ isnt. other_stays n at bytes ps (λ same. differ (at == n) (eq_test at n same) isnt) ∙ there
]) refl where
  eq_test : (x y : ℕ) → x ≡ y → (x == y) ≡ true
  eq_test x y e = grind arith

  differ : (t : Bool) → t ≡ true → t ≡ false → ⊥
  differ true e h = cc h
  differ false e h = cc e

pub finds_keep : FindsKeep
finds_keep told first at x [] old new found there = ap (bytes_at at) found ∙ there
finds_keep told first at x (b ∷ bs) old new found there = finds_keep told first at x bs (with_block (first + b) found.0 old) new found.2 (found_same told at (first + b) found.0 x old found.1 there)

pub finds_all : FindsAll
finds_all told first [] old new found b there = absurd there
finds_all told first (c ∷ cs) old new found b (inl same) =
    ap is_some (finds_keep told first (first + b) found.0 cs (with_block (first + c) found.0 old) new found.2
    (subst (λ (n : ℕ). bytes_at (first + n) (with_block (first + c) found.0 old) ≡ Some found.0) same (this_one (first + c) found.0 old)))
finds_all told first (c ∷ cs) old new found b (inr there) = finds_all told first cs (with_block (first + c) found.0 old) new found.2 b there

-- one block more of these is joined, and no other
pub others_on : (first b v : ℕ) (bytes : List ℕ) (later rest blocks : List ℕ) (old mid new : Batch) → v ≡ b → rest ≡ b ∷ later → new ≡ with_block (first + v) bytes mid → ((c : ℕ) → In c rest → In c blocks) → OnlyThese first blocks old mid → OnlyThese first blocks old new
others_on first b v bytes later rest blocks old mid new e is put among others at none =
    ap (bytes_at at) put
    ∙ other_stays (first + v) at bytes mid (λ same. none b (among b (subst (In b) (sym is) (inl refl))) (ap (λ (n : ℕ). first + n) (sym e) ∙ sym same))
    ∙ others at none

pub among_on : (b : ℕ) (later rest blocks : List ℕ) → rest ≡ b ∷ later → ((c : ℕ) → In c rest → In c blocks) → (c : ℕ) → In c later → In c blocks
among_on b later rest blocks is among c there = among c (subst (In c) (sym is) (inr there))

-- a block that stands in a list is counted there
counted : (b : ℕ) (bs : List ℕ) → In b bs → 1 ≤ times b bs
counted b [] there = absurd there
counted b (c ∷ cs) (inl same) = let one = met c b same in omega (arith, one) where
  met : (x y : ℕ) → x ≡ y → ◌≡◌ {A = ℕ} (if x == y then 1 else 0) 1
  met x y e = grind arith
counted b (c ∷ cs) (inr there) = let some = counted b cs there in omega (arith, some)

pub puts_each : PutsEach
unfolding with_all
puts_each first [] joined differ = tt
puts_each first (e ∷ es) joined differ = (
  puts_others first (first + e.0) es (with_block (first + e.0) e.1.bytes joined) (λ b there same. absurd (twice b there same)) ∙ this_one (first + e.0) e.1.bytes joined,
  puts_each first es (with_block (first + e.0) e.1.bytes joined) (λ b. let one = differ b in omega (arith, one)),
) where
  twice : (b : ℕ) → In b (placed_in es) → first + b ≡ first + e.0 → ⊥
  twice b there same =
      let is : b ≡ e.0 = omega (arith, same) in
      let some = counted e.0 (placed_in es) (subst (λ (n : ℕ). In n (placed_in es)) is there) in
      let one = differ e.0 in
      let here = met e.0 in
      omega (arith, some, one, here)
    where
      met : (x : ℕ) → ◌≡◌ {A = ℕ} (if x == x then 1 else 0) 1
      met x = grind arith

-- nothing is left to put in
pub none_left : (first : ℕ) (rest placed : List (ℕ × Block)) (now old : Batch) → length rest ≡ 0 → with_all first rest now ≡ with_all first placed old → now ≡ with_all first placed old
unfolding with_all
none_left first [] placed now old e same = same
none_left first (x ∷ xs) placed now old e same = absurd (omega (arith, e))

-- one block less is left to put in
pub one_less : (first v : ℕ) (e : ℕ × Block) (later rest placed : List (ℕ × Block)) (mid now old : Batch) → v ≡ e.0 → rest ≡ e ∷ later → now ≡ with_block (first + v) e.1.bytes mid → with_all first rest mid ≡ with_all first placed old → with_all first later now ≡ with_all first placed old
unfolding with_all
one_less first v e later rest placed mid now old number is put same = ap (with_all first later) (put ∙ ap (λ (n : ℕ). with_block (first + n) e.1.bytes mid) number) ∙ sym (ap (λ (l : List (ℕ × Block)). with_all first l mid) is) ∙ same

-- one block more was joined as it was found
pub found_on : (told told_now : Option Contents) (first b v : ℕ) (old mid new : Batch) (later rest : List ℕ) → told_now ≡ told → v ≡ b → rest ≡ b ∷ later → (bytes : List ℕ) × Finds (first + v) old told_now bytes × (mid ≡ with_block (first + v) bytes old) → AreFound told first later mid new → AreFound told first rest old new
found_on told told_now first b v old mid new later rest same e is one behind =
    subst (λ (l : List ℕ). AreFound told first l old new) (sym is)
    (one.0, subst (λ (n : ℕ). Finds (first + n) old told one.0) e (subst (λ (t : Option Contents). Finds (first + v) old t one.0) same one.1), subst (λ (q : Batch). AreFound told first later q new) (one.2 ∙ ap (λ (n : ℕ). with_block (first + n) one.0 old) e) behind)
