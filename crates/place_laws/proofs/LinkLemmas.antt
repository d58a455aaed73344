-- How the siblings of a row name each other while it is changed.
use Rattle.std.proofs.Common.{◌≡◌, ℕ, zero, suc, List, [], ◌∷◌, ◌++◌, refl, sym, ap, subst, ◌∙◌, inl, inr}
use Rattle.std.specs.Prelude.{◌≢◌, ◌⊎◌}
use Rattle.sblock.specs.Headers.{no_block, left_of, right_of}
use Rattle.tree_defs.specs.Levels.{IsChain, last_right}
use Rattle.tree_defs.proofs.Parts.{last_block, last_block_append, last_right_append, chain_join, chain_left, chain_right}
use Rattle.place_laws.specs.Forest.{AllBlocks, IsLinked}
use Rattle.place_laws.specs.Links.{SameLinks, AreRelinked, LinksStay, LinksSplit, LinksMerge, NextIsNamed, LastNamesNone}

module _ (m n : ℕ → List ℕ) where
  chain_same : (before next : ℕ) (ps : List ℕ) → AllBlocks (SameLinks m n) ps → IsChain m before next ps → IsChain n before next ps
  chain_same before next [] same chain = tt
  chain_same before next (p ∷ ps) same chain =
      (same.0.left ∙ chain.0, chain.1, subst (λ (r : ℕ). IsChain n p r ps) (sym same.0.right) (chain_same p (right_of (m p)) ps same.1 chain.2))

  end_same : (next : ℕ) (ps : List ℕ) → AllBlocks (SameLinks m n) ps → last_right n next ps ≡ last_right m next ps
  end_same next [] same = refl
  end_same next (p ∷ ps) same = ap (λ (r : ℕ). last_right n r ps) same.0.right ∙ end_same (right_of (m p)) ps same.1

  -- the blocks behind a place where another block is the last one now
  behind : (old new next : ℕ) (ys : List ℕ) → old ≢ no_block → AreRelinked m n new ys → IsChain m old next ys → IsChain n new next ys
  behind old new next [] some re chain = tt
  behind old new next (r ∷ rs) some re chain = (
    re.0,
    elim chain.1 as (λ _. (new ≡ no_block) ⊎ (next ≡ r)) [ inl none ↦ absurd (some none) | inr is ↦ inr is ],
    subst (λ (k : ℕ). IsChain n r k rs) (sym re.1) (chain_same r (right_of (m r)) rs re.2 chain.2),
  )

  behind_end : (new next : ℕ) (ys : List ℕ) → AreRelinked m n new ys → last_right n next ys ≡ last_right m next ys
  behind_end new next [] re = refl
  behind_end new next (r ∷ rs) re = ap (λ (k : ℕ). last_right n k rs) re.1 ∙ end_same (right_of (m r)) rs re.2

  -- some blocks of a row in the place of others
  middle : (xs old new ys : List ℕ) → AllBlocks (SameLinks m n) xs
      → last_block (last_block no_block xs) old ≢ no_block
      → (IsChain m (last_block no_block xs) (last_right m no_block xs) old → IsChain n (last_block no_block xs) (last_right m no_block xs) new)
      → last_right n (last_right m no_block xs) new ≡ last_right m (last_right m no_block xs) old
      → AreRelinked m n (last_block (last_block no_block xs) new) ys
      → IsLinked m (xs ++ (old ++ ys)) → IsLinked n (xs ++ (new ++ ys))
  middle xs old new ys front some mid ends re linked =
      let b : ℕ = last_block no_block xs in
      let k : ℕ = last_right m no_block xs in
      let rest : IsChain m (last_block no_block xs) (last_right m no_block xs) (old ++ ys) = chain_right m no_block no_block xs (old ++ ys) linked.chain in
      let here = chain_left m (last_block no_block xs) (last_right m no_block xs) old ys rest in
      let later = chain_right m (last_block no_block xs) (last_right m no_block xs) old ys rest in
      let joined : IsChain n (last_block no_block xs) (last_right m no_block xs) (new ++ ys) =
      chain_join n (last_block no_block xs) (last_right m no_block xs) new ys (mid here)
      (subst (λ (r : ℕ). IsChain n (last_block (last_block no_block xs) new) r ys) (sym ends) (behind (last_block (last_block no_block xs) old) (last_block (last_block no_block xs) new) (last_right m (last_right m no_block xs) old) ys some re later)) in
      let e : last_right n no_block xs ≡ last_right m no_block xs = end_same no_block xs front in
      record {
        chain = chain_join n no_block no_block xs (new ++ ys) (chain_same no_block no_block xs front (chain_left m no_block no_block xs (old ++ ys) linked.chain)) (subst (λ (r : ℕ). IsChain n (last_block no_block xs) r (new ++ ys)) (sym e) joined);
        end =
            last_right_append n no_block xs (new ++ ys)
            ∙ (ap (λ (r : ℕ). last_right n r (new ++ ys)) e
            ∙ (last_right_append n (last_right m no_block xs) new ys
            ∙ (ap (λ (r : ℕ). last_right n r ys) ends
            ∙ (behind_end (last_block (last_block no_block xs) new) (last_right m (last_right m no_block xs) old) ys re
            ∙ (sym (last_right_append m (last_right m no_block xs) old ys) ∙ (sym (last_right_append m no_block xs (old ++ ys)) ∙ linked.end))))));
      }

pub links_stay_lem : LinksStay
links_stay_lem m n ps same linked = record { chain = chain_same m n no_block no_block ps same linked.chain; end = end_same m n no_block ps same ∙ linked.end }

pub links_split_lem : LinksSplit
links_split_lem m n xs p q ys front some lp rp lq rq re linked =
    middle m n xs (p ∷ []) (p ∷ q ∷ []) ys front some
    (λ chain. (lp ∙ chain.0, chain.1, (lq, inr rp, tt)))
    rq re linked

pub links_merge_lem : LinksMerge
links_merge_lem m n xs p q ys front some lp rp re linked =
    middle m n xs (p ∷ q ∷ []) (p ∷ []) ys front some
    (λ chain. (lp ∙ chain.0, chain.1, tt))
    rp re linked

pub next_is_named_lem : NextIsNamed
next_is_named_lem m xs p r ys some linked =
    let rest = chain_right m no_block no_block xs (p ∷ r ∷ ys) linked.chain in
    elim rest.2.1 as (λ _. right_of (m p) ≡ r) [ inl none ↦ absurd (some none) | inr is ↦ is ]

pub last_names_none_lem : LastNamesNone
last_names_none_lem m xs p linked = sym (last_right_append m no_block xs (p ∷ [])) ∙ linked.end
