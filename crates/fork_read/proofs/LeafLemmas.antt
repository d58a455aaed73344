-- The mappings of a leaf, one after the other.
use Rattle.std.proofs.Common.{◌≡◌, ℕ, zero, suc, ◌+◌, ◌-◌, ◌<◌, ◌≤◌, Bool, List, [], ◌∷◌, ◌++◌, drop, filter, length, inl, inr, sym, ap, ◌∙◌, zero-add, arith}
use Rattle.std.specs.Prelude.{nat_le}
use Rattle.std.proofs.lemmas.Bool.{cases_Bool}
use Rattle.std.proofs.lemmas.List.{append-nil, append_assoc}
use Rattle.std.proofs.lemmas.List.Sums.{count_by-le-length, length-filter}
use Rattle.dinode_core.specs.declared.mapping.Mapping.{Mapping}
use Rattle.dinode_core.specs.Packed.{unpacked}
use Rattle.dinode_core.specs.Inline.{mappings_in}
use Rattle.dinode_core.specs.ForkTree.{leaf_mappings, numrecs}
use Rattle.fork_read.specs.Answers.{given_of}

pub none_left : (found total : List Mapping) (n : ℕ) (rest : List ℕ) → n ≡ 0 → found ++ mappings_in n rest ≡ total → found ≡ total
unfolding mappings_in
none_left found total n rest e h = sym (append-nil found) ∙ ap (λ k. found ++ mappings_in k rest) (sym e) ∙ h

pub one_more : (found total : List Mapping) (n : ℕ) (rest : List ℕ) → 0 < n → found ++ mappings_in n rest ≡ total → (found ++ unpacked rest ∷ []) ++ mappings_in (n - 1) (drop 16 rest) ≡ total
unfolding mappings_in
one_more found total zero rest some h = absurd (omega arith)
one_more found total (suc n) rest some h =
    let e : suc n - 1 ≡ n = omega arith in
    rw (e, append_assoc) h

given_both : (p : Mapping → Bool) (xs ys : List Mapping) → length (filter p (xs ++ ys)) ≡ length (filter p xs) + length (filter p ys)
given_both p [] ys = sym (zero-add (length (filter p ys)))
given_both p (x ∷ xs) ys =
    let rest = given_both p xs ys in
    elim (cases_Bool (p x)) [ inl kept ↦ rw kept (omega (arith, rest)) | inr out ↦ rw out rest ]

pub few_in : (n : ℕ) (bytes : List ℕ) → length (mappings_in n bytes) ≤ n
unfolding mappings_in
few_in zero bytes = omega arith
few_in (suc n) bytes = let rest = few_in n (drop 16 bytes) in omega (arith, rest)

-- a leaf has few mappings
pub given_grows : (from : ℕ) (old new : List Mapping) (bytes : List ℕ) → numrecs bytes ≤ 251 → new ≡ old ++ leaf_mappings bytes → given_of from new ≤ given_of from old + 251
given_grows from old new bytes few e =
    let own = count_by-le-length (λ (m : Mapping). nat_le from m.offset) (leaf_mappings bytes) in
    let same = length-filter (λ (m : Mapping). nat_le from m.offset) (leaf_mappings bytes) in
    let all = few_in (numrecs bytes) (drop 72 bytes) in
    let both = given_both (λ m. nat_le from m.offset) old (leaf_mappings bytes) in
    let whole = ap (given_of from) e in
    omega (arith, own, same, all, both, whole, few)
