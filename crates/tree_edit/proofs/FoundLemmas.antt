-- Blocks that are joined as they are found have the bytes that they had.
use Rattle.std.proofs.Common.{◌≡◌, ◌≤◌, ◌+◌, ℕ, zero, suc, true, false, List, [], ◌∷◌, ◌++◌, length, take, drop, refl, sym, ap, subst, ◌∙◌, inl, inr, arith, eqb-true}
use Rattle.std.specs.Prelude.{◌==◌, if◌then◌else◌, Option, Some, None, MatchOption, unwrap_or}
use Rattle.blk_device.specs.Contents.{Contents}
use Rattle.blk_device.specs.declared.device.Region.TheVariants.{Image}
use Rattle.byte_fields.specs.declared.block.Block.{Block}
use Rattle.redo_area.specs.Area.{Batch}
use Rattle.meta_txn.specs.Joined.{bytes_at, with_block, Finds}
use Rattle.meta_txn.proofs.JoinedLaws.{bytes_at_with}
use Rattle.tree_defs.specs.Lists.{In, times, AllDiffer}
use Rattle.join_blocks.specs.Joins.{AreFound, placed_in, with_all}
use Rattle.join_blocks.proofs.PutLemmas.{puts_others}
use Rattle.tree_edit.specs.Anew.{AreChosen, AreJoined}
use Rattle.tree_edit.proofs.BlockLemmas.{counted}

-- the bytes that are joined at a number, or else the image's
abbrev pub bytes_of : Contents → Batch → ℕ → List ℕ
bytes_of c ps at = unwrap_or (bytes_at at ps) (c Image at)

found_is : (o : Option (List ℕ)) (was bytes : List ℕ) → MatchOption o (was ≡ bytes) (λ joined. bytes ≡ joined) → bytes ≡ unwrap_or o was
found_is None was bytes h = sym h
found_is (Some joined) was bytes h = h

one_found : (c : Contents) (n : ℕ) (bytes : List ℕ) (ps : Batch) → Finds n ps (Some c) bytes → (at : ℕ) → bytes_of c (with_block n bytes ps) at ≡ bytes_of c ps at
one_found c n bytes ps found at =
    ap (λ (o : Option (List ℕ)). unwrap_or o (c Image at)) (bytes_at_with at n bytes ps)
    ∙ (elim (at == n) as (λ t. (at == n) ≡ t → unwrap_or (if t then Some bytes else bytes_at at ps) (c Image at) ≡ bytes_of c ps at) [
      | true ↦ λ is. subst (λ (k : ℕ). bytes ≡ bytes_of c ps k) (sym (eqb-true at n is)) (found_is (bytes_at n ps) (c Image n) bytes found)
      | false ↦ λ isnt. refl
    ]) refl

-- where blocks are joined as they are found, no block gets other bytes
pub found_same : (c : Contents) (first : ℕ) (bs : List ℕ) (old new : Batch) → AreFound (Some c) first bs old new → (at : ℕ) → bytes_of c new at ≡ bytes_of c old at
found_same c first [] old new found at = ap (λ (ps : Batch). bytes_of c ps at) found
found_same c first (b ∷ bs) old new found at = found_same c first bs (with_block (first + b) found.0 old) new found.2 at ∙ one_found c (first + b) found.0 old found.1 at

in_drop : (b n : ℕ) (xs : List ℕ) → In b (drop n xs) → In b xs
in_drop b zero xs h = h
in_drop b (suc n) [] h = h
in_drop b (suc n) (x ∷ xs) h = inr (in_drop b n xs h)

same_one : (x b : ℕ) → x ≡ b → ◌≡◌ {A = ℕ} (if x == b then 1 else 0) 1
same_one x b e = subst (λ (n : ℕ). ◌≡◌ {A = ℕ} (if x == n then 1 else 0) 1) e (grind arith)

-- of blocks none of which stands twice, those behind the first so many aren't among these
left_apart : (before listed : List ℕ) (n b : ℕ) → times b before ≤ 1 → In b (drop n before) → In b (take n (before ++ listed)) → ⊥
left_apart before listed zero b once h i = i
left_apart [] listed (suc n) b once h i = h
left_apart (x ∷ xs) listed (suc n) b once h (inl e) = let some = counted b xs (in_drop b n xs h) in let one = same_one x b e in absurd (omega (arith, some, one, once))
left_apart (x ∷ xs) listed (suc n) b once h (inr i) = left_apart xs listed n b (omega (arith, once)) h i

pub left_as_found : (c : Contents) (first : ℕ) (before listed claimed left : List ℕ) (placed : List (ℕ × Block)) (old new : Batch) → placed_in placed ≡ claimed → AreChosen before listed claimed left → AllDiffer before → AreJoined (Some c) first placed left old new → (b : ℕ) → In b left → bytes_of c new (first + b) ≡ bytes_of c old (first + b)
left_as_found c first before listed claimed left placed old new numbers chose differ joined b there =
    found_same c first left (with_all first placed old) new joined (first + b)
    ∙ ap (λ (o : Option (List ℕ)). unwrap_or o (c Image (first + b))) (puts_others first (first + b) placed old (λ x mine same.
    let is : x ≡ b = omega (arith, same) in
    left_apart before listed (length claimed) b (differ b) (subst (In b) chose.rest there) (subst (In b) chose.first (subst (λ (y : ℕ). In y claimed) is (subst (In x) numbers mine)))))
