-- A switch of free space, of reference counts or of inodes keeps who owns which block, and each leaves claims clear.
use Rattle.std.proofs.Common.{◌≡◌, ℕ, zero, suc, ◌+◌, ◌<◌, ◌≤◌, ◌==◌, ◌&&◌, ◌||◌, Bool, true, false, cond, not, List, [], ◌∷◌, ◌++◌, map, filter, flat_map, take, drop, refl, ap, ap₂, sym, subst, ◌∙◌, inl, inr, arith, eq-eqb, eqb-true, None}
use Rattle.std.specs.Prelude.{◌⊎◌, ◌-◌, nat_le, nat_lt, sum_by, if◌then◌else◌}
use Rattle.std.specs.List.{list_all, list_any}
use Rattle.std.proofs.lemmas.Bool.{and_parts, cases_Bool, cases_order, le-leb, leb-true, lt-ltb, ltb-true, ne_eqb, true≢false}
use Rattle.std.proofs.lemmas.List.Sums.{sum_by-cons}
use Rattle.fs_change.proofs.Sets.{has_of, has_set, of_has, one_set}
use Rattle.fs_change.specs.Loose.{Loosely}
use Rattle.fs_change.specs.Parts.{in_blocks, in_group, in_trees, records_in}
use Rattle.fs_change.specs.Switch.{AreLaid, exact_counters, moved, sets_counter, empty_trees, gives_to, hold, is_reserve_of, join_limbo, kind_need, limbo_of, lost_blocks, lost_owned, need, owned_by as with_owner, switched, unclaimed, unit_owner, without_trees}
use Rattle.fs_state.specs.Chunks.{chunks}
use Rattle.fs_state.specs.Claims.{Claimed, claimed_by, claims, fork_claims}
use Rattle.fs_state.specs.Contradiction.{first_overlap, is_written_data}
use Rattle.fs_state.specs.Derive.{derive}
use Rattle.fs_state.specs.Records.{all_kinds, kinds_of, tree_owner}
use Rattle.fs_state.specs.Lists.{numbers}
use Rattle.fs_state.specs.Own.{own, rmap_of, tuple_of}
use Rattle.fs_model.specs.declared.claim.Claim.TheVariants.{Limbo, List as FreeList, Tree}
use Rattle.fs_model.specs.declared.fault.Counter.{Counter}
use Rattle.fs_model.specs.declared.fault.Counter.TheVariants.{RmapBlocks}
use Rattle.fs_model.specs.declared.unit.Unit.{Unit as ScrubUnit}
use Rattle.fs_model.specs.declared.unit.Unit.TheVariants as units
use Rattle.fs_state.specs.Group.{is_among}
use Rattle.fs_state.specs.Kinds.{RecOf}
use Rattle.fs_state.specs.State.{State, Group, Index, Owned, Readable, Reading, Unreadable, blocks_in, blocks_of, recs_of}
use Rattle.geom.specs.Apart.{Splits}
use Rattle.geom.specs.Layout.{group_len_of}
use Rattle.rmap_recs.proofs.RisingLemmas.{any_found, any_here}
use Rattle.rmap_recs.specs.Owners.{number_of}
use Rattle.rmap_recs.specs.Runs.{has, tuple_at}
use Rattle.rmap_recs.specs.declared.owner.Owner.TheVariants.{Ag}
use Rattle.rmap_recs.specs.declared.records.RmapRec.{RmapRec}
use Rattle.rmap_recs.specs.declared.tuples.Tuple.{Tuple}
use Rattle.sblock.specs.declared.kind.Kind.{Kind}
use Rattle.sblock.specs.declared.kind.Kind.TheVariants.{Bno, Cnt, Rmap, Refc, Ino, Fino}
use Rattle.tree_defs.specs.Lists.{times}
use Rattle.law_repairs.specs.Repair.Alike.{AlikeInodes}
use Rattle.law_repairs.specs.Repair.Letters.{Holds, IsTrusted}
use Rattle.law_repairs.specs.Repair.Moves.{SameChunks}
use Rattle.law_repairs.specs.Repair.Owners.{AreOwners, SpaceKeepsMappings}
use Rattle.law_repairs.proofs.Repair.Groups.{chunk_listed, forks_stay, in_each, in_own_group, same_fork}
use Rattle.law_repairs.proofs.Repair.Keeping.{stands_by}
use Rattle.law_repairs.proofs.Repair.Same.{chunks_same, forks_same}
use Rattle.law_repairs.proofs.Repair.Switches.{after_group, inodes_after, laid as laid_state, laid_group, there, other_counter, other_tree, space_keeps_chunks, splits_after, there_group}
use Rattle.law_repairs.proofs.Repair.Totals.{alone_by, chunk_part, claims_weight, clear_if_none, front_part, has_weight, is_owner, limbo_weight, none_if_clear, owned_by, pairs_weight, parts, parts_weight, reserved_weight, same_positive, tree_part, weigh, weigh_both, weigh_map}
use Rattle.law_repairs.proofs.Repair.Units.{maps_good}

-- ---- how often a number stands in a list

pub times_both : (b : ℕ) (xs ys : List ℕ) → times b (xs ++ ys) ≡ times b xs + times b ys
times_both b [] ys = zero_more (times b ys)
  where
    zero_more : (n : ℕ) → n ≡ 0 + n
    zero_more n = omega arith
times_both b (x ∷ xs) ys = ap (λ (n : ℕ). (if x == b then 1 else 0) + n) (times_both b xs ys) ∙ more_left (if x == b then 1 else 0) (times b xs) (times b ys)
  where
    more_left : (x y z : ℕ) → x + (y + z) ≡ x + y + z
    more_left x y z = omega arith

times_parts : (b n : ℕ) (xs : List ℕ) → times b (take n xs) + times b (drop n xs) ≡ times b xs
times_parts b zero xs = zero_more (times b xs)
  where
    zero_more : (n : ℕ) → 0 + n ≡ n
    zero_more n = omega arith
times_parts b (suc n) [] = refl
times_parts b (suc n) (x ∷ xs) = more_left (if x == b then 1 else 0) (times b (take n xs)) (times b (drop n xs)) (times b xs) (times_parts b n xs)
  where
    more_left : (x y z w : ℕ) → y + z ≡ w → x + y + z ≡ x + w
    more_left x y z w e = omega (arith, e)

drop_both : (m n : ℕ) (xs : List ℕ) → drop (m + n) xs ≡ drop n (drop m xs)
drop_both zero n xs = ap (λ (k : ℕ). drop k xs) (zero_more n)
  where
    zero_more : (n : ℕ) → 0 + n ≡ n
    zero_more n = omega arith
drop_both (suc m) n [] = ap (λ (k : ℕ). drop k []) (next m n) ∙ sym (drop_none n)
  where
    next : (m n : ℕ) → suc m + n ≡ suc (m + n)
    next m n = omega arith

    drop_none : (k : ℕ) → ◌≡◌ {A = List ℕ} (drop k []) []
    drop_none zero = refl
    drop_none (suc k) = refl
drop_both (suc m) n (x ∷ xs) = ap (λ (k : ℕ). drop k (x ∷ xs)) (next m n) ∙ drop_both m n xs
  where
    next : (m n : ℕ) → suc m + n ≡ suc (m + n)
    next m n = omega arith

-- the trees' blocks and what the reserve has too many are the reserve's
laid_times : (needs : Kind → ℕ) (ks : List Kind) (claimed : List ℕ) (blocks : Kind → List ℕ) (b : ℕ) → AreLaid needs ks claimed blocks → times b (flat_map blocks ks) + times b (drop (sum_by needs ks) claimed) ≡ times b claimed
laid_times needs [] claimed blocks b laid = zero_more (times b claimed)
  where
    zero_more : (n : ℕ) → 0 + n ≡ n
    zero_more n = omega arith
laid_times needs (k ∷ ks) claimed blocks b laid =
    let first = laid.0.same b in
    let rest = laid_times needs ks (drop (needs k) claimed) blocks b laid.1 in
    let all = times_parts b (needs k) claimed in
    let both = times_both b (blocks k) (flat_map blocks ks) in
    let behind : times b (drop (sum_by needs (k ∷ ks)) claimed) ≡ times b (drop (sum_by needs ks) (drop (needs k) claimed)) = ap (λ (n : ℕ). times b (drop n claimed)) (sum_by-cons needs k ks) ∙ ap (times b) (drop_both (needs k) (sum_by needs ks) claimed) in
    omega (arith, first, rest, all, both, behind)

pub times_filter : (b : ℕ) (p : ℕ → Bool) (xs : List ℕ) → times b (filter p xs) ≡ (if p b then times b xs else 0)
times_filter b p [] = nothing (p b)
  where
    nothing : (k : Bool) → ◌≡◌ {A = ℕ} 0 (if k then 0 else 0)
    nothing true = refl
    nothing false = refl
times_filter b p (x ∷ xs) = by (x == b) refl (times_filter b p xs)
  where
    here : (k : Bool) (n m : ℕ) → n ≡ (if k then m else 0) → (if k then 1 + n else n) ≡ (if k then 1 + m else 0)
    here true n m e = ap (λ (z : ℕ). 1 + z) e
    here false n m e = e

    added : (k : Bool) (i : ℕ) → times b (cond k (x ∷ filter p xs) (filter p xs)) ≡ (if k then (if x == b then 1 else 0) + times b (filter p xs) else times b (filter p xs))
    added true i = refl
    added false i = refl

    other : (k l : Bool) (n m : ℕ) → n ≡ (if l then m else 0) → (if k then 0 + n else n) ≡ (if l then 0 + m else 0)
    other true true n m e = ap (λ (z : ℕ). 0 + z) e
    other true false n m e = zero_more n ∙ e
      where
        zero_more : (n : ℕ) → 0 + n ≡ n
        zero_more n = omega arith
    other false true n m e = e ∙ zero_less m
      where
        zero_less : (n : ℕ) → n ≡ 0 + n
        zero_less n = omega arith
    other false false n m e = e

    by : (t : Bool) → (x == b) ≡ t → times b (filter p xs) ≡ (if p b then times b xs else 0) → times b (cond (p x) (x ∷ filter p xs) (filter p xs)) ≡ (if p b then (if x == b then 1 else 0) + times b xs else 0)
    by true e h =
        added (p x) 0 ∙ ap (λ (s : Bool). if p x then (if s then 1 else 0) + times b (filter p xs) else times b (filter p xs)) e
        ∙ ap (λ (z : ℕ). if p z then 1 + times b (filter p xs) else times b (filter p xs)) (eqb-true x b e)
        ∙ here (p b) (times b (filter p xs)) (times b xs) h
        ∙ ap (λ (s : Bool). if p b then (if s then 1 else 0) + times b xs else 0) (sym e)
    by false e h =
        added (p x) 0 ∙ ap (λ (s : Bool). if p x then (if s then 1 else 0) + times b (filter p xs) else times b (filter p xs)) e
        ∙ other (p x) (p b) (times b (filter p xs)) (times b xs) h
        ∙ ap (λ (s : Bool). if p b then (if s then 1 else 0) + times b xs else 0) (sym e)

abbrev bit : Bool → ℕ
bit k = if k then 1 else 0

pub times_numbers : (b from n : ℕ) → (times b (numbers from n) ≤ 1) × ((b < from → times b (numbers from n) ≡ 0) × (from ≤ b → b < from + n → times b (numbers from n) ≡ 1))
times_numbers b from zero = (omega arith, ((λ lt. refl), (λ low high. absurd (omega (arith, low, high)))))
times_numbers b from (suc n) = elim (cases_order from b) [
  | inl same ↦
      let r = times_numbers b (from + 1) n in
      let none = r.1.0 (omega (arith, same)) in
      let here : bit (from == b) ≡ 1 = ap bit (eq-eqb from b same) in
      (omega (arith, none, here), ((λ lt. absurd (omega (arith, lt, same))), (λ low high. omega (arith, none, here))))
  | inr (inl less) ↦
      let r = times_numbers b (from + 1) n in
      let most = r.0 in
      let gone : bit (from == b) ≡ 0 = ap bit (ne_eqb from b (λ e. omega (arith, e, less))) in
      (omega (arith, most, gone), ((λ lt. absurd (omega (arith, lt, less))), (λ low high. let one = r.1.1 (omega (arith, less)) (omega (arith, high)) in omega (arith, one, gone))))
  | inr (inr more) ↦
      let r = times_numbers b (from + 1) n in
      let none = r.1.0 (omega (arith, more)) in
      let gone : bit (from == b) ≡ 0 = ap bit (ne_eqb from b (λ e. omega (arith, e, more))) in
      (omega (arith, none, gone), ((λ lt. omega (arith, none, gone)), (λ low high. absurd (omega (arith, low, more)))))
]

-- ---- claims on a block

pub claimed_none : (b : ℕ) (cs : List Claimed) → list_any (λ c. c.block == b) cs ≡ false → weigh (owned_by b) cs ≡ 0
claimed_none b [] h = refl
claimed_none b (c ∷ cs) h = by (c.block == b) h (claimed_none b cs)
  where
    by : (k : Bool) → (k || list_any (λ x. x.block == b) cs) ≡ false → (list_any (λ x. x.block == b) cs ≡ false → weigh (owned_by b) cs ≡ 0) → (if k then 1 else 0) + weigh (owned_by b) cs ≡ 0
    by true i f = absurd (true≢false i)
    by false i f = let r = f i in omega (arith, r)

none_claimed : (b : ℕ) (cs : List Claimed) → weigh (owned_by b) cs ≡ 0 → list_any (λ c. c.block == b) cs ≡ false
none_claimed b [] h = refl
none_claimed b (c ∷ cs) h = by (c.block == b) h (none_claimed b cs)
  where
    by : (k : Bool) → (if k then 1 else 0) + weigh (owned_by b) cs ≡ 0 → (weigh (owned_by b) cs ≡ 0 → list_any (λ x. x.block == b) cs ≡ false) → (k || list_any (λ x. x.block == b) cs) ≡ false
    by true i f = absurd (omega (arith, i))
    by false i f = f (omega (arith, i))

pub is_not : (k : Bool) → not k ≡ true → k ≡ false
is_not true h = absurd (true≢false (sym h))
is_not false h = refl

pub lies_inside : (len b : ℕ) (cs : List Claimed) → list_all (λ c. nat_lt c.block len) cs ≡ true → 1 ≤ weigh (owned_by b) cs → b < len
lies_inside len b [] h some = absurd (omega (arith, some))
lies_inside len b (c ∷ cs) h some =
    let p = and_parts (nat_lt c.block len) (list_all (λ x. nat_lt x.block len) cs) h in
    by (c.block == b) refl p.0 some (lies_inside len b cs p.1)
  where
    by : (k : Bool) → (c.block == b) ≡ k → nat_lt c.block len ≡ true → 1 ≤ (if k then 1 else 0) + weigh (owned_by b) cs → (1 ≤ weigh (owned_by b) cs → b < len) → b < len
    by true e i j f = let here = eqb-true c.block b e in let lt = ltb-true c.block len i in omega (arith, here, lt)
    by false e i j f = f (omega (arith, j))

-- ---- a weight that counts a block's claims by one owner

-- over blocks of that owner it is how often one block stands there, or nothing
abbrev Counting : (ℕ → ℕ) → Type 0
Counting f = (b : ℕ) × (c : Bool) × ((xs : List ℕ) → weigh f xs ≡ (if c then times b xs else 0))

-- each part with this owner weighs alike
record Alike (w : Claimed → ℕ) (owner : ℕ) : Type 0 where
  pub trees : (k : Kind) (b : ℕ) → tree_owner k ≡ owner → w (claimed_by (Tree k) (tree_owner k) b) ≡ w (claimed_by Limbo owner b)
  pub reserve : (o : Owned) → reserved_weight w o ≡ limbo_weight w o
  pub counts : Counting (λ b. w (claimed_by Limbo owner b))

weigh_blocks : (f h : ℕ → ℕ) (xs : List ℕ) → ((x : ℕ) → f x ≡ h x) → weigh f xs ≡ weigh h xs
weigh_blocks f h [] e = refl
weigh_blocks f h (x ∷ xs) e = ap₂ (λ (m n : ℕ). m + n) (e x) (weigh_blocks f h xs e)

by_times : (b : ℕ) (xs : List ℕ) → weigh (λ x. if x == b then 1 else 0) xs ≡ times b xs
by_times b [] = refl
by_times b (x ∷ xs) = ap (λ (n : ℕ). (if x == b then 1 else 0) + n) (by_times b xs)

owned_alike : (owner b : ℕ) → Alike (owned_by b) owner
owned_alike owner b = record { trees = λ k x e. refl; reserve = λ o. refl; counts = (b, true, by_times b) }

alone_alike : (owner b : ℕ) → Alike (alone_by b) owner
unfolding is_written_data
alone_alike owner b = record { trees = λ k x e. refl; reserve = λ o. refl; counts = (b, true, by_times b) }

and_none : (k : Bool) → (k && false) ≡ false
and_none true = refl
and_none false = refl

eqb_swap : (x y : ℕ) → (x == y) ≡ (y == x)
eqb_swap x y = elim (cases_Bool (x == y)) [
  | inl e ↦ e ∙ sym (eq-eqb y x (sym (eqb-true x y e)))
  | inr n ↦ n ∙ sym (ne_eqb y x (λ e. true≢false (sym (eq-eqb x y (sym e)) ∙ n)))
]

owner_counts : (t : Tuple) (owner : ℕ) (xs : List ℕ) → weigh (λ x. is_owner t (claimed_by Limbo owner x)) xs ≡ (if (t.owner == owner) && (t.word == 0) then times t.block xs else 0)
owner_counts t owner xs = weigh_blocks _ (λ x. if (x == t.block) && ((t.owner == owner) && (t.word == 0)) then 1 else 0) xs (λ x. ap (λ (k : Bool). if k then 1 else 0) (ap (λ (k : Bool). (k && (t.owner == owner)) && (t.word == 0)) (eqb_swap t.block x) ∙ and_assoc (x == t.block) (t.owner == owner) (t.word == 0))) ∙ all_or_none ((t.owner == owner) && (t.word == 0)) xs
  where
    and_assoc : (x y z : Bool) → ((x && y) && z) ≡ (x && (y && z))
    and_assoc true y z = refl
    and_assoc false y z = refl

    and_all : (k : Bool) → (k && true) ≡ k
    and_all true = refl
    and_all false = refl

    zeros : (xs : List ℕ) → weigh (λ x. if (x == t.block) && false then 1 else 0) xs ≡ 0
    zeros xs = weigh_blocks _ (λ x. 0) xs (λ x. ap (λ (k : Bool). if k then 1 else 0) (and_none (x == t.block))) ∙ none xs
      where
        none : (xs : List ℕ) → weigh (λ x. 0) xs ≡ 0
        none [] = refl
        none (x ∷ xs) = ap (λ (n : ℕ). 0 + n) (none xs)

    all_or_none : (k : Bool) (xs : List ℕ) → weigh (λ x. if (x == t.block) && k then 1 else 0) xs ≡ (if k then times t.block xs else 0)
    all_or_none true xs = weigh_blocks _ (λ x. if x == t.block then 1 else 0) xs (λ x. ap (λ (k : Bool). if k then 1 else 0) (and_all (x == t.block))) ∙ by_times t.block xs
    all_or_none false xs = zeros xs

owner_alike : (owner : ℕ) (t : Tuple) → Alike (is_owner t) owner
owner_alike owner t = record {
  trees = λ k x e. ap (λ (n : ℕ). is_owner t (claimed_by Limbo n x)) e;
  reserve = λ o. refl;
  counts = (t.block, (t.owner == owner) && (t.word == 0), owner_counts t owner);
}

-- ---- trees in their order

module _ (w : Claimed → ℕ) (p : Group) where
  abbrev tree_weight : Kind → ℕ
  tree_weight k = weigh w (tree_part p k)

  six_trees : weigh w (flat_map (tree_part p) all_kinds) ≡ tree_weight Bno + (tree_weight Cnt + (tree_weight Rmap + (tree_weight Refc + (tree_weight Ino + (tree_weight Fino + 0)))))
  six_trees =
      let t : Kind → List Claimed = tree_part p in
      weigh_both w (t Bno) (flat_map t (Cnt ∷ Rmap ∷ Refc ∷ Ino ∷ Fino ∷ []))
      ∙ ap (λ (n : ℕ). tree_weight Bno + n) (weigh_both w (t Cnt) (flat_map t (Rmap ∷ Refc ∷ Ino ∷ Fino ∷ []))
      ∙ ap (λ (n : ℕ). tree_weight Cnt + n) (weigh_both w (t Rmap) (flat_map t (Refc ∷ Ino ∷ Fino ∷ []))
      ∙ ap (λ (n : ℕ). tree_weight Rmap + n) (weigh_both w (t Refc) (flat_map t (Ino ∷ Fino ∷ []))
      ∙ ap (λ (n : ℕ). tree_weight Refc + n) (weigh_both w (t Ino) (flat_map t (Fino ∷ []))
      ∙ ap (λ (n : ℕ). tree_weight Ino + n) (weigh_both w (t Fino) [])))))

-- a tree in these blocks, of this owner
one_tree : (w : Claimed → ℕ) (owner : ℕ) → Alike w owner → (p : Group) (k : Kind) (bs : List ℕ) → tree_owner k ≡ owner → blocks_of (p.tree k).reading ≡ bs → weigh w (tree_part p k) ≡ weigh (λ b. w (claimed_by Limbo owner b)) bs
one_tree w owner alike p k bs own e =
    ap (λ (xs : List ℕ). weigh w (map (claimed_by (Tree k) (tree_owner k)) xs)) e
    ∙ weigh_map w (claimed_by (Tree k) (tree_owner k)) bs
    ∙ weigh_blocks (λ b. w (claimed_by (Tree k) (tree_owner k) b)) (λ b. w (claimed_by Limbo owner b)) bs (λ b. alike.trees k b own)

same_tree : (w : Claimed → ℕ) (p q : Group) (k : Kind) → blocks_of (q.tree k).reading ≡ blocks_of (p.tree k).reading → weigh w (tree_part q k) ≡ weigh w (tree_part p k)
same_tree w p q k e = ap (λ (xs : List ℕ). weigh w (map (claimed_by (Tree k) (tree_owner k)) xs)) e

blocks_put : {R : Type 0} (blocks : List ℕ) (r : Reading R) → blocks_of (in_blocks blocks r) ≡ blocks
blocks_put blocks (Readable recs old) = refl
blocks_put blocks (Unreadable block fault claims) = refl

-- ---- the group that a switch reaches, of either unit

record Reached (a : State) (g : ℕ) (unit : ScrubUnit) (blocks : Kind → List ℕ) (q : Group) : Type 0 where
  pub list : q.free_list ≡ (a.group g).free_list
  pub reserve : q.reserve ≡ []
  pub limbo : q.limbo ≡ join_limbo (limbo_of a g unit) (a.group g).limbo
  -- the old trees' blocks are replaced by the new ones, and those of all others stay
  pub trees : (w : Claimed → ℕ) → Alike w (unit_owner unit) → weigh w (flat_map (tree_part q) all_kinds) + weigh (λ b. w (claimed_by Limbo (unit_owner unit) b)) (flat_map (λ k. blocks_of ((a.group g).tree k).reading) (kinds_of unit))
      ≡ weigh w (flat_map (tree_part (a.group g)) all_kinds) + weigh (λ b. w (claimed_by Limbo (unit_owner unit) b)) (flat_map blocks (kinds_of unit))

-- two trees of six, or one, in other blocks
two_new : (x1 x2 y1 y2 r f i n sx sy d m : ℕ) → sx ≡ x1 + (x2 + (r + (f + (i + (n + 0))))) → sy ≡ y1 + (y2 + (r + (f + (i + (n + 0))))) → d ≡ y1 + (y2 + 0) → m ≡ x1 + (x2 + 0) → sx + d ≡ sy + m
two_new x1 x2 y1 y2 r f i n sx sy d m e1 e2 e3 e4 = omega (arith, e1, e2, e3, e4)

one_new : (x y b c r i n sx sy d m : ℕ) → sx ≡ b + (c + (r + (x + (i + (n + 0))))) → sy ≡ b + (c + (r + (y + (i + (n + 0))))) → d ≡ y + 0 → m ≡ x + 0 → sx + d ≡ sy + m
one_new x y b c r i n sx sy d m e1 e2 e3 e4 = omega (arith, e1, e2, e3, e4)

two_last : (x1 x2 y1 y2 b c r f sx sy d m : ℕ) → sx ≡ b + (c + (r + (f + (x1 + (x2 + 0))))) → sy ≡ b + (c + (r + (f + (y1 + (y2 + 0))))) → d ≡ y1 + (y2 + 0) → m ≡ x1 + (x2 + 0) → sx + d ≡ sy + m
two_last x1 x2 y1 y2 b c r f sx sy d m e1 e2 e3 e4 = omega (arith, e1, e2, e3, e4)

third_new : (x y b c r i n sx sy d m : ℕ) → sx ≡ b + (c + (x + (r + (i + (n + 0))))) → sy ≡ b + (c + (y + (r + (i + (n + 0))))) → d ≡ y + 0 → m ≡ x + 0 → sx + d ≡ sy + m
third_new x y b c r i n sx sy d m e1 e2 e3 e4 = omega (arith, e1, e2, e3, e4)

weigh_spread : (f : ℕ → ℕ) (h : Kind → List ℕ) (ks : List Kind) → weigh f (flat_map h ks) ≡ weigh (λ k. weigh f (h k)) ks
weigh_spread f h [] = refl
weigh_spread f h (k ∷ ks) = weigh_both f (h k) (flat_map h ks) ∙ ap (λ (n : ℕ). weigh f (h k) + n) (weigh_spread f h ks)

-- it is one of the two
abbrev is_space : ScrubUnit → Bool
is_space units.Inode = false
is_space units.Rmap = false
is_space units.Free = true
is_space units.Refc = true

space_is : (unit : ScrubUnit) → (unit ≡ units.Free) ⊎ (unit ≡ units.Refc) → is_space unit ≡ true
space_is unit (inl e) = ap is_space e
space_is unit (inr e) = ap is_space e

no_inode : (units.Inode ≡ units.Free) ⊎ (units.Inode ≡ units.Refc) → ⊥
no_inode which = true≢false (sym (space_is units.Inode which))

no_mappings : (units.Rmap ≡ units.Free) ⊎ (units.Rmap ≡ units.Refc) → ⊥
no_mappings which = true≢false (sym (space_is units.Rmap which))

-- with these blocks in the unit's trees, and the other trees as they were
replaced : (p q : Group) (unit : ScrubUnit) (old new : Kind → List ℕ)
    → ((k : Kind) → blocks_of (p.tree k).reading ≡ old k) → ((k : Kind) → is_among k (kinds_of unit) ≡ false → blocks_of (q.tree k).reading ≡ old k) → ((k : Kind) → is_among k (kinds_of unit) ≡ true → blocks_of (q.tree k).reading ≡ new k)
    → (w : Claimed → ℕ) → Alike w (unit_owner unit) → weigh w (flat_map (tree_part q) all_kinds) + weigh (λ b. w (claimed_by Limbo (unit_owner unit) b)) (flat_map old (kinds_of unit))
    ≡ weigh w (flat_map (tree_part p) all_kinds) + weigh (λ b. w (claimed_by Limbo (unit_owner unit) b)) (flat_map new (kinds_of unit))
replaced p q units.Free old new was stays becomes w alike =
    let f : ℕ → ℕ = λ b. w (claimed_by Limbo (unit_owner units.Free) b) in
    let same : (k : Kind) → is_among k (kinds_of units.Free) ≡ false → weigh w (tree_part q k) ≡ weigh w (tree_part p k) = λ k o. same_tree w p q k (stays k o ∙ sym (was k)) in
    two_new (weigh f (new Bno)) (weigh f (new Cnt)) (weigh f (old Bno)) (weigh f (old Cnt)) (weigh w (tree_part p Rmap)) (weigh w (tree_part p Refc)) (weigh w (tree_part p Ino)) (weigh w (tree_part p Fino)) _ _ _ _
    (six_trees w q ∙ (λ i. one_tree w (unit_owner units.Free) alike q Bno (new Bno) refl (becomes Bno refl) i + (one_tree w (unit_owner units.Free) alike q Cnt (new Cnt) refl (becomes Cnt refl) i + (same Rmap refl i + (same Refc refl i + (same Ino refl i + (same Fino refl i + 0)))))))
    (six_trees w p ∙ (λ i. one_tree w (unit_owner units.Free) alike p Bno (old Bno) refl (was Bno) i + (one_tree w (unit_owner units.Free) alike p Cnt (old Cnt) refl (was Cnt) i + (weigh w (tree_part p Rmap) + (weigh w (tree_part p Refc) + (weigh w (tree_part p Ino) + (weigh w (tree_part p Fino) + 0)))))))
    (weigh_spread f old (kinds_of units.Free)) (weigh_spread f new (kinds_of units.Free))
replaced p q units.Refc old new was stays becomes w alike =
    let f : ℕ → ℕ = λ b. w (claimed_by Limbo (unit_owner units.Refc) b) in
    let same : (k : Kind) → is_among k (kinds_of units.Refc) ≡ false → weigh w (tree_part q k) ≡ weigh w (tree_part p k) = λ k o. same_tree w p q k (stays k o ∙ sym (was k)) in
    one_new (weigh f (new Refc)) (weigh f (old Refc)) (weigh w (tree_part p Bno)) (weigh w (tree_part p Cnt)) (weigh w (tree_part p Rmap)) (weigh w (tree_part p Ino)) (weigh w (tree_part p Fino)) _ _ _ _
    (six_trees w q ∙ (λ i. same Bno refl i + (same Cnt refl i + (same Rmap refl i + (one_tree w (unit_owner units.Refc) alike q Refc (new Refc) refl (becomes Refc refl) i + (same Ino refl i + (same Fino refl i + 0)))))))
    (six_trees w p ∙ (λ i. weigh w (tree_part p Bno) + (weigh w (tree_part p Cnt) + (weigh w (tree_part p Rmap) + (one_tree w (unit_owner units.Refc) alike p Refc (old Refc) refl (was Refc) i + (weigh w (tree_part p Ino) + (weigh w (tree_part p Fino) + 0)))))))
    (weigh_spread f old (kinds_of units.Refc)) (weigh_spread f new (kinds_of units.Refc))
replaced p q units.Inode old new was stays becomes w alike =
    let f : ℕ → ℕ = λ b. w (claimed_by Limbo (unit_owner units.Inode) b) in
    let same : (k : Kind) → is_among k (kinds_of units.Inode) ≡ false → weigh w (tree_part q k) ≡ weigh w (tree_part p k) = λ k o. same_tree w p q k (stays k o ∙ sym (was k)) in
    two_last (weigh f (new Ino)) (weigh f (new Fino)) (weigh f (old Ino)) (weigh f (old Fino)) (weigh w (tree_part p Bno)) (weigh w (tree_part p Cnt)) (weigh w (tree_part p Rmap)) (weigh w (tree_part p Refc)) _ _ _ _
    (six_trees w q ∙ (λ i. same Bno refl i + (same Cnt refl i + (same Rmap refl i + (same Refc refl i + (one_tree w (unit_owner units.Inode) alike q Ino (new Ino) refl (becomes Ino refl) i + (one_tree w (unit_owner units.Inode) alike q Fino (new Fino) refl (becomes Fino refl) i + 0)))))))
    (six_trees w p ∙ (λ i. weigh w (tree_part p Bno) + (weigh w (tree_part p Cnt) + (weigh w (tree_part p Rmap) + (weigh w (tree_part p Refc) + (one_tree w (unit_owner units.Inode) alike p Ino (old Ino) refl (was Ino) i + (one_tree w (unit_owner units.Inode) alike p Fino (old Fino) refl (was Fino) i + 0)))))))
    (weigh_spread f old (kinds_of units.Inode)) (weigh_spread f new (kinds_of units.Inode))
replaced p q units.Rmap old new was stays becomes w alike =
    let f : ℕ → ℕ = λ b. w (claimed_by Limbo (unit_owner units.Rmap) b) in
    let same : (k : Kind) → is_among k (kinds_of units.Rmap) ≡ false → weigh w (tree_part q k) ≡ weigh w (tree_part p k) = λ k o. same_tree w p q k (stays k o ∙ sym (was k)) in
    third_new (weigh f (new Rmap)) (weigh f (old Rmap)) (weigh w (tree_part p Bno)) (weigh w (tree_part p Cnt)) (weigh w (tree_part p Refc)) (weigh w (tree_part p Ino)) (weigh w (tree_part p Fino)) _ _ _ _
    (six_trees w q ∙ (λ i. same Bno refl i + (same Cnt refl i + (one_tree w (unit_owner units.Rmap) alike q Rmap (new Rmap) refl (becomes Rmap refl) i + (same Refc refl i + (same Ino refl i + (same Fino refl i + 0)))))))
    (six_trees w p ∙ (λ i. weigh w (tree_part p Bno) + (weigh w (tree_part p Cnt) + (one_tree w (unit_owner units.Rmap) alike p Rmap (old Rmap) refl (was Rmap) i + (weigh w (tree_part p Refc) + (weigh w (tree_part p Ino) + (weigh w (tree_part p Fino) + 0)))))))
    (weigh_spread f old (kinds_of units.Rmap)) (weigh_spread f new (kinds_of units.Rmap))

-- ---- one switch

held_list : (recs : (k : Kind) → List (RecOf k)) (ks : List Kind) (p : Group) → (hold recs ks p).free_list ≡ p.free_list
held_list recs [] p = refl
held_list recs (k ∷ ks) p = held_list recs ks p

held_reserve : (recs : (k : Kind) → List (RecOf k)) (ks : List Kind) (p : Group) → (hold recs ks p).reserve ≡ p.reserve
held_reserve recs [] p = refl
held_reserve recs (k ∷ ks) p = held_reserve recs ks p

held_limbo : (recs : (k : Kind) → List (RecOf k)) (ks : List Kind) (p : Group) → (hold recs ks p).limbo ≡ p.limbo
held_limbo recs [] p = refl
held_limbo recs (k ∷ ks) p = held_limbo recs ks p

placed_list : (blocks : Kind → List ℕ) (ks : List Kind) (p : Group) → (in_trees blocks ks p).free_list ≡ p.free_list
placed_list blocks [] p = refl
placed_list blocks (k ∷ ks) p = placed_list blocks ks p

-- the blocks of one tree that a switch sets
set_there : (blocks : Kind → List ℕ) (unit : ScrubUnit) (recs : (k : Kind) → List (RecOf k)) (p : Group) (limbo : List Owned) (k : Kind) → is_among k (kinds_of unit) ≡ true
    → blocks_of ((hold recs (kinds_of unit) (record (in_trees blocks (kinds_of unit) p) { reserve = []; limbo = limbo })).tree k).reading ≡ blocks k
set_there blocks units.Inode recs p limbo Bno h = absurd (true≢false (sym h))
set_there blocks units.Inode recs p limbo Cnt h = absurd (true≢false (sym h))
set_there blocks units.Inode recs p limbo Rmap h = absurd (true≢false (sym h))
set_there blocks units.Inode recs p limbo Refc h = absurd (true≢false (sym h))
set_there blocks units.Inode recs p limbo Ino h = blocks_put (blocks Ino) (p.tree Ino).reading
set_there blocks units.Inode recs p limbo Fino h = blocks_put (blocks Fino) (p.tree Fino).reading
set_there blocks units.Rmap recs p limbo Bno h = absurd (true≢false (sym h))
set_there blocks units.Rmap recs p limbo Cnt h = absurd (true≢false (sym h))
set_there blocks units.Rmap recs p limbo Rmap h = blocks_put (blocks Rmap) (p.tree Rmap).reading
set_there blocks units.Rmap recs p limbo Refc h = absurd (true≢false (sym h))
set_there blocks units.Rmap recs p limbo Ino h = absurd (true≢false (sym h))
set_there blocks units.Rmap recs p limbo Fino h = absurd (true≢false (sym h))
set_there blocks units.Free recs p limbo Bno h = blocks_put (blocks Bno) (p.tree Bno).reading
set_there blocks units.Free recs p limbo Cnt h = blocks_put (blocks Cnt) (p.tree Cnt).reading
set_there blocks units.Free recs p limbo Rmap h = absurd (true≢false (sym h))
set_there blocks units.Free recs p limbo Refc h = absurd (true≢false (sym h))
set_there blocks units.Free recs p limbo Ino h = absurd (true≢false (sym h))
set_there blocks units.Free recs p limbo Fino h = absurd (true≢false (sym h))
set_there blocks units.Refc recs p limbo Bno h = absurd (true≢false (sym h))
set_there blocks units.Refc recs p limbo Cnt h = absurd (true≢false (sym h))
set_there blocks units.Refc recs p limbo Rmap h = absurd (true≢false (sym h))
set_there blocks units.Refc recs p limbo Refc h = blocks_put (blocks Refc) (p.tree Refc).reading
set_there blocks units.Refc recs p limbo Ino h = absurd (true≢false (sym h))
set_there blocks units.Refc recs p limbo Fino h = absurd (true≢false (sym h))

-- those of an emptied one
emptied_there : (unit : ScrubUnit) (p : Group) (k : Kind) → (is_among k (kinds_of unit) ≡ true → blocks_of ((empty_trees (kinds_of unit) p).tree k).reading ≡ []) × (is_among k (kinds_of unit) ≡ false → blocks_of ((empty_trees (kinds_of unit) p).tree k).reading ≡ blocks_of (p.tree k).reading)
emptied_there units.Inode p Bno = ((λ h. absurd (true≢false (sym h))), (λ h. refl))
emptied_there units.Inode p Cnt = ((λ h. absurd (true≢false (sym h))), (λ h. refl))
emptied_there units.Inode p Rmap = ((λ h. absurd (true≢false (sym h))), (λ h. refl))
emptied_there units.Inode p Refc = ((λ h. absurd (true≢false (sym h))), (λ h. refl))
emptied_there units.Inode p Ino = ((λ h. blocks_put [] (p.tree Ino).reading), (λ h. absurd (true≢false h)))
emptied_there units.Inode p Fino = ((λ h. blocks_put [] (p.tree Fino).reading), (λ h. absurd (true≢false h)))
emptied_there units.Rmap p Bno = ((λ h. absurd (true≢false (sym h))), (λ h. refl))
emptied_there units.Rmap p Cnt = ((λ h. absurd (true≢false (sym h))), (λ h. refl))
emptied_there units.Rmap p Rmap = ((λ h. blocks_put [] (p.tree Rmap).reading), (λ h. absurd (true≢false h)))
emptied_there units.Rmap p Refc = ((λ h. absurd (true≢false (sym h))), (λ h. refl))
emptied_there units.Rmap p Ino = ((λ h. absurd (true≢false (sym h))), (λ h. refl))
emptied_there units.Rmap p Fino = ((λ h. absurd (true≢false (sym h))), (λ h. refl))
emptied_there units.Free p Bno = ((λ h. blocks_put [] (p.tree Bno).reading), (λ h. absurd (true≢false h)))
emptied_there units.Free p Cnt = ((λ h. blocks_put [] (p.tree Cnt).reading), (λ h. absurd (true≢false h)))
emptied_there units.Free p Rmap = ((λ h. absurd (true≢false (sym h))), (λ h. refl))
emptied_there units.Free p Refc = ((λ h. absurd (true≢false (sym h))), (λ h. refl))
emptied_there units.Free p Ino = ((λ h. absurd (true≢false (sym h))), (λ h. refl))
emptied_there units.Free p Fino = ((λ h. absurd (true≢false (sym h))), (λ h. refl))
emptied_there units.Refc p Bno = ((λ h. absurd (true≢false (sym h))), (λ h. refl))
emptied_there units.Refc p Cnt = ((λ h. absurd (true≢false (sym h))), (λ h. refl))
emptied_there units.Refc p Rmap = ((λ h. absurd (true≢false (sym h))), (λ h. refl))
emptied_there units.Refc p Refc = ((λ h. blocks_put [] (p.tree Refc).reading), (λ h. absurd (true≢false h)))
emptied_there units.Refc p Ino = ((λ h. absurd (true≢false (sym h))), (λ h. refl))
emptied_there units.Refc p Fino = ((λ h. absurd (true≢false (sym h))), (λ h. refl))

recs_put : {R : Type 0} (blocks : List ℕ) (r : Reading R) → recs_of (in_blocks blocks r) ≡ recs_of r
recs_put blocks (Readable recs old) = refl
recs_put blocks (Unreadable block fault claims) = refl

emptied_inos : (unit : ScrubUnit) (p : Group) → recs_of ((empty_trees (kinds_of unit) p).tree Ino).reading ≡ recs_of (p.tree Ino).reading
emptied_inos units.Inode p = recs_put [] (p.tree Ino).reading
emptied_inos units.Rmap p = refl
emptied_inos units.Free p = refl
emptied_inos units.Refc p = refl

emptied_maps : (unit : ScrubUnit) (p : Group) → recs_of ((empty_trees (kinds_of unit) p).tree Rmap).reading ≡ recs_of (p.tree Rmap).reading
emptied_maps units.Inode p = refl
emptied_maps units.Rmap p = recs_put [] (p.tree Rmap).reading
emptied_maps units.Free p = refl
emptied_maps units.Refc p = refl

emptied_parts : (unit : ScrubUnit) (p : Group) → ((empty_trees (kinds_of unit) p).free_list ≡ p.free_list) × ((empty_trees (kinds_of unit) p).reserve ≡ p.reserve) × ((empty_trees (kinds_of unit) p).limbo ≡ p.limbo)
emptied_parts units.Inode p = (refl, refl, refl)
emptied_parts units.Rmap p = (refl, refl, refl)
emptied_parts units.Free p = (refl, refl, refl)
emptied_parts units.Refc p = (refl, refl, refl)

not_mappings : (unit : ScrubUnit) → (unit ≡ units.Free) ⊎ (unit ≡ units.Refc) → is_among Rmap (kinds_of unit) ≡ false
not_mappings units.Free w = refl
not_mappings units.Refc w = refl
not_mappings units.Inode w = absurd (no_inode w)
not_mappings units.Rmap w = absurd (no_mappings w)

not_counted : (unit : ScrubUnit) → (unit ≡ units.Free) ⊎ (unit ≡ units.Refc) → sets_counter unit RmapBlocks ≡ false
not_counted units.Free w = refl
not_counted units.Refc w = refl
not_counted units.Inode w = absurd (no_inode w)
not_counted units.Rmap w = absurd (no_mappings w)

lost_are : (a : State) (g : ℕ) (unit : ScrubUnit) → (unit ≡ units.Free) ⊎ (unit ≡ units.Refc) → lost_blocks a g unit ≡ unclaimed a g unit (gives_to (unit_owner unit) (records_in (a.group g) Rmap))
unfolding lost_blocks
lost_are a g units.Free w = refl
lost_are a g units.Refc w = refl
lost_are a g units.Inode w = absurd (no_inode w)
lost_are a g units.Rmap w = absurd (no_mappings w)

same_chunks : (a : State) (g : ℕ) (unit : ScrubUnit) (blocks : Kind → List ℕ) → (unit ≡ units.Free) ⊎ (unit ≡ units.Refc) → SameChunks a (switched a g unit blocks)
same_chunks a g units.Free blocks w = (space_keeps_chunks a g blocks).0
same_chunks a g units.Refc blocks w = (space_keeps_chunks a g blocks).1
same_chunks a g units.Inode blocks w = absurd (no_inode w)
same_chunks a g units.Rmap blocks w = absurd (no_mappings w)

-- a reserve of one owner weighs as its blocks do
of_owner : (w : Claimed → ℕ) (owner : ℕ) (os : List Owned) → list_all (λ o. o.owner == owner) os ≡ true → weigh (limbo_weight w) os ≡ weigh (λ b. w (claimed_by Limbo owner b)) (blocks_in os)
of_owner w owner [] h = refl
of_owner w owner (o ∷ os) h =
    let p = and_parts (o.owner == owner) (list_all (λ x. x.owner == owner) os) h in
    ap₂ (λ (x : ℕ) (n : ℕ). w (claimed_by Limbo x o.block) + n) (eqb-true o.owner owner p.0) (of_owner w owner os p.1)

all_behind : (owner n : ℕ) (os : List Owned) → list_all (λ o. o.owner == owner) os ≡ true → list_all (λ o. o.owner == owner) (drop n os) ≡ true
all_behind owner zero os h = h
all_behind owner (suc n) [] h = refl
all_behind owner (suc n) (o ∷ os) h = all_behind owner n os (and_parts (o.owner == owner) (list_all (λ x. x.owner == owner) os) h).1

blocks_behind : (n : ℕ) (os : List Owned) → blocks_in (drop n os) ≡ drop n (blocks_in os)
blocks_behind zero os = refl
blocks_behind (suc n) [] = refl
blocks_behind (suc n) (o ∷ os) = blocks_behind n os

weigh_pairs : (w : Claimed → ℕ) (owner : ℕ) (bs : List ℕ) → weigh (limbo_weight w) (map (with_owner owner) bs) ≡ weigh (λ b. w (claimed_by Limbo owner b)) bs
weigh_pairs w owner bs = weigh_map (limbo_weight w) (with_owner owner) bs

abbrev NoMore : ℕ → ℕ → Type 0
NoMore before after = (after ≤ before) × (1 ≤ before → 1 ≤ after)

weigh_reserve : (f h : Owned → ℕ) (os : List Owned) → ((o : Owned) → f o ≡ h o) → weigh f os ≡ weigh h os
weigh_reserve f h [] e = refl
weigh_reserve f h (o ∷ os) e = ap₂ (λ (m n : ℕ). m + n) (e o) (weigh_reserve f h os e)

module _ (a : State) (g : ℕ) (unit : ScrubUnit) (blocks : Kind → List ℕ) (stay : SameChunks a (switched a g unit blocks)) (splits : Splits a.geometry) (own_reserve : is_reserve_of unit (a.group g) ≡ true)
    (laid : AreLaid (kind_need a g unit) (kinds_of unit) (blocks_in (a.group g).reserve) blocks) where
  abbrev p : Group
  p = a.group g

  abbrev x : State
  x = switched a g unit blocks

  abbrev wt : State
  wt = in_group g (empty_trees (kinds_of unit)) a

  abbrev owner : ℕ
  owner = unit_owner unit

  chunks_x : AlikeInodes a x
  chunks_x = inodes_after a g unit blocks stay

  inos_wt : (h : ℕ) → recs_of ((wt.group h).tree Ino).reading ≡ recs_of ((a.group h).tree Ino).reading
  inos_wt h = in_each (λ r q. recs_of (q.tree Ino).reading ≡ recs_of (r.tree Ino).reading) g (empty_trees (kinds_of unit)) a h (emptied_inos unit) (λ r. refl)

  maps_wt : (h : ℕ) → recs_of ((wt.group h).tree Rmap).reading ≡ recs_of ((a.group h).tree Rmap).reading
  maps_wt h = in_each (λ r q. recs_of (q.tree Rmap).reading ≡ recs_of (r.tree Rmap).reading) g (empty_trees (kinds_of unit)) a h (emptied_maps unit) (λ r. refl)

  chunks_wt : AlikeInodes a wt
  chunks_wt = record {
    geometry = refl;
    chunks = chunk_listed a wt refl refl inos_wt maps_wt;
    cores = λ ino is. refl;
    forks = λ ino f i. same_fork (a.fork ino f);
  }

  abbrev moved_to : Group
  moved_to = record (in_trees blocks (kinds_of unit) p) { reserve = []; limbo = join_limbo (limbo_of a g unit) p.limbo }

  abbrev held_in : Group
  held_in = hold (derive (there a g unit blocks) g) (kinds_of unit) moved_to

  x_parts : {A : Type 0} (f : Group → A) → ((q : Group) (c : Counter → ℕ) → f (record q { counters = c }) ≡ f q) → f (x.group g) ≡ f held_in
  x_parts f blind =
      ap f (after_group a g unit blocks)
      ∙ blind ((laid_state a g unit blocks).group g) (exact_counters (laid_state a g unit blocks) g unit)
      ∙ ap f (laid_group a g unit blocks)
      ∙ ap (λ (q : Group). f (hold (derive (there a g unit blocks) g) (kinds_of unit) q)) (there_group a g unit blocks)

  x_list : (x.group g).free_list ≡ p.free_list
  x_list = x_parts (λ q. q.free_list) (λ q c. refl) ∙ held_list (derive (there a g unit blocks) g) (kinds_of unit) moved_to ∙ placed_list blocks (kinds_of unit) p

  x_reserve : (x.group g).reserve ≡ []
  x_reserve = x_parts (λ q. q.reserve) (λ q c. refl) ∙ held_reserve (derive (there a g unit blocks) g) (kinds_of unit) moved_to

  x_limbo : (x.group g).limbo ≡ join_limbo (limbo_of a g unit) p.limbo
  x_limbo = x_parts (λ q. q.limbo) (λ q c. refl) ∙ held_limbo (derive (there a g unit blocks) g) (kinds_of unit) moved_to

  abbrev old : Kind → List ℕ
  old k = blocks_of (p.tree k).reading

  module _ (w : Claimed → ℕ) (alike : Alike w owner) where
    abbrev f : ℕ → ℕ
    f b = w (claimed_by Limbo owner b)

    abbrev replaced_weight : ℕ
    replaced_weight = weigh f (flat_map old (kinds_of unit))

    x_trees : weigh w (flat_map (tree_part (x.group g)) all_kinds) + replaced_weight ≡ weigh w (flat_map (tree_part p) all_kinds) + weigh f (flat_map blocks (kinds_of unit))
    x_trees = replaced p (x.group g) unit old blocks (λ k. refl) (λ k h. ap (λ (i : Index (RecOf k)). blocks_of i.reading) (other_tree a g unit blocks k h))
        (λ k h. x_parts (λ q. blocks_of (q.tree k).reading) (λ q c. refl) ∙ set_there blocks unit (derive (there a g unit blocks) g) p (join_limbo (limbo_of a g unit) p.limbo) k h) w alike

    none_new : (ks : List Kind) → weigh f (flat_map (λ k. []) ks) ≡ 0
    none_new [] = refl
    none_new (k ∷ ks) = none_new ks

    wt_trees : weigh w (flat_map (tree_part (empty_trees (kinds_of unit) p)) all_kinds) + replaced_weight ≡ weigh w (flat_map (tree_part p) all_kinds)
    wt_trees =
        replaced p (empty_trees (kinds_of unit) p) unit old (λ k. []) (λ k. refl) (λ k h. (emptied_there unit p k).1 h) (λ k h. (emptied_there unit p k).0 h) w alike
        ∙ plus_none (weigh w (flat_map (tree_part p) all_kinds)) (weigh f (flat_map (λ k. []) (kinds_of unit))) (none_new (kinds_of unit))
      where
        plus_none : (n m : ℕ) → m ≡ 0 → n + m ≡ n
        plus_none n m e = omega (arith, e)

    -- the reserve's blocks are the new trees', and the rest
    abbrev rest : List Owned
    rest = drop (need a g unit) p.reserve

    reserve_parts : weigh f (flat_map blocks (kinds_of unit)) + weigh (limbo_weight w) rest ≡ weigh (reserved_weight w) p.reserve
    unfolding need
    reserve_parts =
        let n : ℕ = need a g unit in
        let s : weigh (limbo_weight w) rest ≡ weigh f (drop n (blocks_in p.reserve)) = of_owner w owner rest (all_behind owner n p.reserve own_reserve) ∙ ap (weigh f) (blocks_behind n p.reserve) in
        let r : weigh (reserved_weight w) p.reserve ≡ weigh f (blocks_in p.reserve) = weigh_reserve (reserved_weight w) (limbo_weight w) p.reserve alike.reserve ∙ of_owner w owner p.reserve own_reserve in
        let t = laid_times (kind_need a g unit) (kinds_of unit) (blocks_in p.reserve) blocks alike.counts.0 laid in
        ap (λ (m : ℕ). weigh f (flat_map blocks (kinds_of unit)) + m) s
        ∙ by_count alike.counts.1 (times alike.counts.0 (flat_map blocks (kinds_of unit))) (times alike.counts.0 (drop n (blocks_in p.reserve))) (times alike.counts.0 (blocks_in p.reserve)) (weigh f (flat_map blocks (kinds_of unit))) (weigh f (drop n (blocks_in p.reserve))) (weigh f (blocks_in p.reserve)) t (alike.counts.2 (flat_map blocks (kinds_of unit))) (alike.counts.2 (drop n (blocks_in p.reserve))) (alike.counts.2 (blocks_in p.reserve))
        ∙ sym r
      where
        by_count : (c : Bool) (t1 t2 t3 w1 w2 w3 : ℕ) → t1 + t2 ≡ t3 → w1 ≡ (if c then t1 else 0) → w2 ≡ (if c then t2 else 0) → w3 ≡ (if c then t3 else 0) → w1 + w2 ≡ w3
        by_count true t1 t2 t3 w1 w2 w3 e a b d = omega (arith, e, a, b, d)
        by_count false t1 t2 t3 w1 w2 w3 e a b d = omega (arith, a, b, d)

    abbrev lost : ℕ
    lost = weigh f (lost_blocks a g unit)

    limbo_then : NoMore (lost + weigh (limbo_weight w) rest + weigh (limbo_weight w) p.limbo) (weigh (limbo_weight w) (join_limbo (limbo_of a g unit) p.limbo))
    unfolding limbo_of
    limbo_then =
        let inner = pairs_weight (limbo_weight w) (lost_owned a g unit ++ rest) in
        let outer = pairs_weight (limbo_weight w) (limbo_of a g unit ++ p.limbo) in
        let e1 = weigh_both (limbo_weight w) (lost_owned a g unit) rest in
        let e2 = weigh_both (limbo_weight w) (limbo_of a g unit) p.limbo in
        let e3 = weigh_pairs w owner (lost_blocks a g unit) in
        chained (weigh (limbo_weight w) (lost_owned a g unit ++ rest)) (weigh (limbo_weight w) (limbo_of a g unit)) (weigh (limbo_weight w) (limbo_of a g unit ++ p.limbo)) (weigh (limbo_weight w) (join_limbo (limbo_of a g unit) p.limbo))
        (weigh (limbo_weight w) (lost_owned a g unit)) lost (weigh (limbo_weight w) rest) (weigh (limbo_weight w) p.limbo) e1 e2 e3 inner outer
      where
        chained : (m1 m2 m3 m4 k l r q : ℕ) → m1 ≡ k + r → m3 ≡ m2 + q → k ≡ l → (m2 ≤ m1) × (1 ≤ m1 → 1 ≤ m2) → (m4 ≤ m3) × (1 ≤ m3 → 1 ≤ m4) → NoMore (l + r + q) m4
        chained m1 m2 m3 m4 k l r q e1 e2 e3 h i = (
          (let x = h.0 in let y = i.0 in omega (arith, e1, e2, e3, x, y)),
          λ j. elim (cases_order (l + r) 0) [
            | inl z ↦ i.1 (omega (arith, j, z, e2))
            | inr (inl less) ↦ absurd (omega (arith, less))
            | inr (inr more) ↦ let y = h.1 (omega (arith, more, e1, e3)) in i.1 (omega (arith, y, e2))
          ],
        )

    -- what is claimed beside the old trees, and the lost blocks, is what is claimed then; and with the old trees, before
    totals : NoMore (weigh w (claims wt g) + lost) (weigh w (claims x g)) × (weigh w (claims wt g) + replaced_weight ≡ weigh w (claims a g))
    totals =
        let us : List ℕ = chunks a g in
        let front : ℕ = weigh w (front_part a.geometry g) in
        let a_claims = claims_weight w a g in
        let a_parts = parts_weight w a.geometry g p us in
        let w_claims = claims_weight w wt g in
        let w_parts : weigh w (parts wt.geometry g (wt.group g) (chunks wt g)) ≡ weigh w (parts a.geometry g (empty_trees (kinds_of unit) p) us) = ap₂ (λ (q : Group) (vs : List ℕ). weigh w (parts a.geometry g q vs)) (in_own_group g (empty_trees (kinds_of unit)) a) (chunks_same a wt splits chunks_wt g) in
        let w_all = w_parts ∙ parts_weight w a.geometry g (empty_trees (kinds_of unit) p) us in
        let w_forks = ap (weigh w) (forks_same a wt splits chunks_wt g) in
        let e = emptied_parts unit p in
        let w_list = ap (λ (l : List ℕ). weigh w (map (claimed_by FreeList (number_of Ag)) l)) e.0 in
        let w_reserve = ap (weigh (reserved_weight w)) e.1 in
        let w_limbo = ap (weigh (limbo_weight w)) e.2 in
        let x_claims = claims_weight w x g in
        let x_all = ap (λ (vs : List ℕ). weigh w (parts x.geometry g (x.group g) vs)) (chunks_same a x splits chunks_x g) ∙ parts_weight w x.geometry g (x.group g) us in
        let x_front : weigh w (front_part x.geometry g) ≡ front = ap (λ at. weigh w (front_part at g)) chunks_x.geometry in
        let x_forks = ap (weigh w) (forks_same a x splits chunks_x g) in
        let x_l = ap (λ (l : List ℕ). weigh w (map (claimed_by FreeList (number_of Ag)) l)) x_list in
        let x_r : weigh (reserved_weight w) (x.group g).reserve ≡ 0 = ap (weigh (reserved_weight w)) x_reserve in
        let x_m = ap (weigh (limbo_weight w)) x_limbo in
        sums (weigh w (claims a g)) (weigh w (parts a.geometry g p us)) (weigh w (fork_claims a g)) front (weigh w (map (claimed_by FreeList (number_of Ag)) p.free_list)) (weigh w (flat_map (tree_part p) all_kinds)) (weigh (reserved_weight w) p.reserve) (weigh (limbo_weight w) p.limbo) (weigh w (chunk_part us))
        (weigh w (claims wt g)) (weigh w (parts wt.geometry g (wt.group g) (chunks wt g))) (weigh w (fork_claims wt g)) (weigh w (map (claimed_by FreeList (number_of Ag)) (empty_trees (kinds_of unit) p).free_list)) (weigh w (flat_map (tree_part (empty_trees (kinds_of unit) p)) all_kinds)) (weigh (reserved_weight w) (empty_trees (kinds_of unit) p).reserve) (weigh (limbo_weight w) (empty_trees (kinds_of unit) p).limbo)
        (weigh w (claims x g)) (weigh w (parts x.geometry g (x.group g) (chunks x g))) (weigh w (fork_claims x g)) (weigh w (front_part x.geometry g)) (weigh w (map (claimed_by FreeList (number_of Ag)) (x.group g).free_list)) (weigh w (flat_map (tree_part (x.group g)) all_kinds)) (weigh (reserved_weight w) (x.group g).reserve) (weigh (limbo_weight w) (x.group g).limbo)
        (weigh (limbo_weight w) (join_limbo (limbo_of a g unit) p.limbo)) (weigh f (flat_map blocks (kinds_of unit))) (weigh (limbo_weight w) rest) replaced_weight lost
        a_claims a_parts w_claims w_all w_forks w_list w_reserve w_limbo x_claims x_all x_front x_forks x_l x_r x_m wt_trees x_trees reserve_parts limbo_then
      where
        sums : (ca pa ka fr li tr re lm ch cw pw kw lw tw rw mw cx px kx fx lx tx rx mx lj nw rs d lo : ℕ)
            → ca ≡ pa + ka → pa ≡ fr + li + tr + re + lm + ch → cw ≡ pw + kw → pw ≡ fr + lw + tw + rw + mw + ch → kw ≡ ka → lw ≡ li → rw ≡ re → mw ≡ lm
            → cx ≡ px + kx → px ≡ fx + lx + tx + rx + mx + ch → fx ≡ fr → kx ≡ ka → lx ≡ li → rx ≡ 0 → mx ≡ lj → tw + d ≡ tr → tx + d ≡ tr + nw → nw + rs ≡ re → NoMore (lo + rs + lm) lj
            → NoMore (cw + lo) cx × (cw + d ≡ ca)
        sums ca pa ka fr li tr re lm ch cw pw kw lw tw rw mw cx px kx fx lx tx rx mx lj nw rs d lo e1 e2 e3 e4 e5 e6 e7 e8 e9 e10 e11 e12 e13 e14 e15 e16 e17 e18 h =
            let most = h.0 in
            let here : cx ≡ fr + li + (tw + nw) + 0 + lj + ch + ka = omega (arith, e9, e10, e11, e12, e13, e14, e15, e16, e17) in
            let beside : cw ≡ fr + li + tw + re + lm + ch + ka = omega (arith, e3, e4, e5, e6, e7, e8) in (
              (
                (omega (arith, here, beside, most, e18)),
                (λ j. elim (cases_order (lo + rs + lm) 0) [
                  | inl z ↦ omega (arith, here, beside, j, z, e18)
                  | inr (inl less) ↦ absurd (omega (arith, less))
                  | inr (inr more) ↦ let y = h.1 (omega (arith, more)) in omega (arith, here, y)
                ]),
              ),
              omega (arith, beside, e1, e2, e16),
            )

  -- claims stay clear, where no block is lost twice, and none that anything claims but the old trees
  pub apart : ((b : ℕ) → times b (lost_blocks a g unit) ≤ 1) → ((b : ℕ) → 1 ≤ times b (lost_blocks a g unit) → weigh (owned_by b) (claims wt g) ≡ 0) → first_overlap a g (claims a g) ≡ None → first_overlap x g (claims x g) ≡ None
  unfolding lost_blocks alone_alike owned_alike switched moved
  apart lost_once unclaimed_then before = none_if_clear x g (claims x g) (λ b lt some.
      let alone = totals (alone_by b) (alone_alike owner b) in
      let owned = totals (owned_by b) (owned_alike owner b) in
      let lost_alone : weigh (λ y. alone_by b (claimed_by Limbo owner y)) (lost_blocks a g unit) ≡ times b (lost_blocks a g unit) = (alone_alike owner b).counts.2 (lost_blocks a g unit) in
      let lost_owned_ : weigh (λ y. owned_by b (claimed_by Limbo owner y)) (lost_blocks a g unit) ≡ times b (lost_blocks a g unit) = (owned_alike owner b).counts.2 (lost_blocks a g unit) in
      let m1 = alone.0.0 in
      let m2 = owned.0.0 in
      let s1 = alone.1 in
      let s2 = owned.1 in
      elim (cases_order (times b (lost_blocks a g unit)) 0) [
        | inl none ↦
            let clear = clear_if_none a g (claims a g) before b lt (omega (arith, some, m1, lost_alone, none, s1)) in
            omega (arith, m2, lost_owned_, none, s2, clear)
        | inr (inl less) ↦ absurd (omega (arith, less))
        | inr (inr more) ↦
            let none = unclaimed_then b (omega (arith, more)) in
            let once = lost_once b in
            omega (arith, m2, lost_owned_, none, once)
      ])

  -- where the lost blocks are those of the old trees, all weights stay
  module _ (same_lost : lost_blocks a g unit ≡ flat_map old (kinds_of unit)) where
    weights_stay : (w : Claimed → ℕ) (alike : Alike w owner) → NoMore (weigh w (claims a g)) (weigh w (claims x g))
    weights_stay w alike =
        let r = totals w alike in
        let l : lost w alike ≡ replaced_weight w alike = ap (weigh (λ b. w (claimed_by Limbo owner b))) same_lost in
        let most = r.0.0 in
        let all = r.1 in
        (omega (arith, most, all, l), λ i. r.0.1 (omega (arith, i, all, l)))

    owners_stay : own x g ≡ own a g
    unfolding own
    owners_stay = one_set (map tuple_of (claims x g)) (map tuple_of (claims a g)) (λ t.
        let n = weights_stay (is_owner t) (owner_alike owner t) in
        has_weight (claims x g) t
        ∙ same_positive (weigh (is_owner t) (claims x g)) (weigh (is_owner t) (claims a g)) (λ i. let m = n.0 in omega (arith, i, m)) n.1
        ∙ sym (has_weight (claims a g) t))

    clear_stays : first_overlap a g (claims a g) ≡ None → first_overlap x g (claims x g) ≡ None
    unfolding switched moved
    clear_stays before = none_if_clear x g (claims x g) (λ b lt some.
        let owned = (weights_stay (owned_by b) (owned_alike owner b)).0 in
        let alone = (weights_stay (alone_by b) (alone_alike owner b)).0 in
        let r = clear_if_none a g (claims a g) before b lt (omega (arith, some, alone)) in
        omega (arith, r, owned))

    module _ (other : is_among Rmap (kinds_of unit) ≡ false) (uncounted : sets_counter unit RmapBlocks ≡ false) where
      pub maps_stay : Holds a g units.Rmap → Holds x g units.Rmap
      maps_stay holds = (
        maps_good a x g splits chunks_x owners_stay (ap (λ (i : Index (RecOf Rmap)). i.reading) (other_tree a g unit blocks Rmap other)) (other_counter a g unit blocks RmapBlocks uncounted) holds.0,
        record { apart = clear_stays holds.1.apart; forks = forks_stay a x splits chunks_x holds.1.forks },
      )

      pub maps_trusted : IsTrusted x g units.Rmap → IsTrusted a g units.Rmap
      maps_trusted t = (ap (λ (i : Index (RecOf Rmap)). i.trust) (sym (other_tree a g unit blocks Rmap other)) ∙ t.0, tt)

  -- ---- the lost blocks

  module _ (which : (unit ≡ units.Free) ⊎ (unit ≡ units.Refc)) where
    abbrev test : ℕ → Bool
    test b = gives_to owner (records_in p Rmap) b && not (list_any (λ c. c.block == b) (claims wt g))

    lost_list : lost_blocks a g unit ≡ filter test (numbers 0 (group_len_of a.geometry g))
    unfolding without_trees
    lost_list = lost_are a g unit which

    lost_once : (b : ℕ) → times b (lost_blocks a g unit) ≤ 1
    lost_once b =
        let e = ap (times b) lost_list ∙ times_filter b test (numbers 0 (group_len_of a.geometry g)) in
        let n = (times_numbers b 0 (group_len_of a.geometry g)).0 in
        by (test b) (times b (lost_blocks a g unit)) (times b (numbers 0 (group_len_of a.geometry g))) e n
      where
        by : (k : Bool) (m n : ℕ) → m ≡ (if k then n else 0) → n ≤ 1 → m ≤ 1
        by true m n e h = omega (arith, e, h)
        by false m n e h = omega (arith, e)

    is_lost : (b : ℕ) → 1 ≤ times b (lost_blocks a g unit) → test b ≡ true
    is_lost b some = by (test b) refl (ap (times b) lost_list ∙ times_filter b test (numbers 0 (group_len_of a.geometry g)))
      where
        by : (k : Bool) → test b ≡ k → times b (lost_blocks a g unit) ≡ (if k then times b (numbers 0 (group_len_of a.geometry g)) else 0) → test b ≡ true
        by true e h = e
        by false e h = absurd (omega (arith, some, h))

    gets_lost : (b : ℕ) → b < group_len_of a.geometry g → test b ≡ true → times b (lost_blocks a g unit) ≡ 1
    gets_lost b lt h =
        ap (times b) lost_list ∙ times_filter b test (numbers 0 (group_len_of a.geometry g)) ∙ ap (λ (k : Bool). if k then times b (numbers 0 (group_len_of a.geometry g)) else 0) h
        ∙ (times_numbers b 0 (group_len_of a.geometry g)).1.1 (omega arith) (omega (arith, lt))

    -- ---- what is known of the reverse mappings

    module _ (holds : Holds a g units.Rmap) (owners : AreOwners a g unit) where
      maps_are : records_in p Rmap ≡ rmap_of a g
      unfolding derive
      maps_are = ap recs_of holds.0.0.0.1

      gives_from : (t : Tuple) → has (own a g) t ≡ true → t.owner ≡ owner → gives_to owner (records_in p Rmap) t.block ≡ true
      gives_from t h e =
          let r = owners.runs.all t (of_has (own a g) t h) in
          let same : tuple_at r.0 r.1 ≡ t = r.4 in
          let starts : r.0.start + r.1 ≡ t.block = ap (λ (u : Tuple). u.block) same in
          let owned : r.0.owner ≡ owner = ap (λ (u : Tuple). u.owner) same ∙ e in
          let lt = r.3 in
          ap (λ (recs : List RmapRec). gives_to owner recs t.block) maps_are
          ∙ any_here (λ s. (s.owner == owner) && (nat_le s.start t.block && nat_lt t.block (s.start + s.count))) (rmap_of a g) r.0 r.2
          (all_three (r.0.owner == owner) (nat_le r.0.start t.block) (nat_lt t.block (r.0.start + r.0.count)) (eq-eqb r.0.owner owner owned) (le-leb r.0.start t.block (omega (arith, starts))) (lt-ltb t.block (r.0.start + r.0.count) (omega (arith, starts, lt))))
        where
          all_three : (x y z : Bool) → x ≡ true → y ≡ true → z ≡ true → (x && (y && z)) ≡ true
          all_three x y z e f h = λ i. e i && (f i && h i)

      gives_to_one : (b : ℕ) → gives_to owner (records_in p Rmap) b ≡ true → (t : Tuple) × (has (own a g) t ≡ true) × (t.block ≡ b) × (t.owner ≡ owner)
      gives_to_one b h =
          let f = any_found (λ s. (s.owner == owner) && (nat_le s.start b && nat_lt b (s.start + s.count))) (rmap_of a g) (sym (ap (λ (recs : List RmapRec). gives_to owner recs b) maps_are) ∙ h) in
          let r : RmapRec = f.0 in
          let t1 = and_parts (r.owner == owner) (nat_le r.start b && nat_lt b (r.start + r.count)) f.2 in
          let t2 = and_parts (nat_le r.start b) (nat_lt b (r.start + r.count)) t1.1 in
          let low : r.start ≤ b = leb-true r.start b t2.0 in
          let high : b < r.start + r.count = ltb-true b (r.start + r.count) t2.1 in
          let within = (owners.runs.maximal r f.1).within (b - r.start) (omega (arith, low, high)) in
          (tuple_at r (b - r.start), has_of (own a g) (tuple_at r (b - r.start)) within, omega (arith, low), eqb-true r.owner owner t1.0)

      clear_still : first_overlap x g (claims x g) ≡ None
      clear_still = apart lost_once (λ b some.
          let both = and_parts (gives_to owner (records_in p Rmap) b) (not (list_any (λ c. c.block == b) (claims wt g))) (is_lost b some) in
          claimed_none b (claims wt g) (is_not (list_any (λ c. c.block == b) (claims wt g)) both.1)) holds.1.apart

      same_owners : own x g ≡ own a g
      unfolding own alone_alike owned_alike
      same_owners = one_set (map tuple_of (claims x g)) (map tuple_of (claims a g)) (λ t.
          has_weight (claims x g) t
          ∙ same_positive (weigh (is_owner t) (claims x g)) (weigh (is_owner t) (claims a g)) (came t) (stays t)
          ∙ sym (has_weight (claims a g) t))
        where
          is_there : (k : Bool) (n m : ℕ) → 1 ≤ n → n ≡ (if k then m else 0) → (k ≡ true) × (n ≡ m)
          is_there true n m some e = (refl, e)
          is_there false n m some e = absurd (omega (arith, some, e))

          positive : (n : ℕ) (k : Bool) → k ≡ nat_lt 0 n → 1 ≤ n → k ≡ true
          positive n k e some = e ∙ lt-ltb 0 n (omega (arith, some))

          above : (n : ℕ) (k : Bool) → k ≡ nat_lt 0 n → k ≡ true → 1 ≤ n
          above n k e h = let lt = ltb-true 0 n (sym e ∙ h) in omega (arith, lt)

          came : (t : Tuple) → 1 ≤ weigh (is_owner t) (claims x g) → 1 ≤ weigh (is_owner t) (claims a g)
          came t some =
              let r = totals (is_owner t) (owner_alike owner t) in
              let most = r.0.0 in
              let all = r.1 in
              let l : ℕ = lost (is_owner t) (owner_alike owner t) in
              elim (cases_order l 0) [
                | inl none ↦ omega (arith, some, most, none, all)
                | inr (inl less) ↦ absurd (omega (arith, less))
                | inr (inr more) ↦
                    let there_ = is_there ((t.owner == owner) && (t.word == 0)) l (times t.block (lost_blocks a g unit)) (omega (arith, more)) (owner_counts t owner (lost_blocks a g unit)) in
                    let both = and_parts (t.owner == owner) (t.word == 0) there_.0 in
                    let count = there_.1 in
                    let passed = is_lost t.block (omega (arith, more, count)) in
                    let given = and_parts (gives_to owner (records_in p Rmap) t.block) (not (list_any (λ c. c.block == t.block) (claims wt g))) passed in
                    let u = gives_to_one t.block given.0 in
                    let same : u.0 ≡ t = λ i. record { block = u.2 i; owner = (u.3 ∙ sym (eqb-true t.owner owner both.0)) i; word = (owners.plain u.0 u.1 u.3 ∙ sym (eqb-true t.word 0 both.1)) i } in
                    let has_it : has (map tuple_of (claims a g)) t ≡ true = sym (has_set (map tuple_of (claims a g)) t) ∙ subst (λ (v : Tuple). has (own a g) v ≡ true) same u.1 in
                    above (weigh (is_owner t) (claims a g)) (has (map tuple_of (claims a g)) t) (has_weight (claims a g) t) has_it
              ]

          stays : (t : Tuple) → 1 ≤ weigh (is_owner t) (claims a g) → 1 ≤ weigh (is_owner t) (claims x g)
          stays t some =
              let r = totals (is_owner t) (owner_alike owner t) in
              let all = r.1 in
              let d : ℕ = replaced_weight (is_owner t) (owner_alike owner t) in
              elim (cases_order d 0) [
                | inl none ↦ r.0.1 (omega (arith, some, all, none))
                | inr (inl less) ↦ absurd (omega (arith, less))
                | inr (inr more) ↦
                    let there_ = is_there ((t.owner == owner) && (t.word == 0)) d (times t.block (flat_map old (kinds_of unit))) (omega (arith, more)) (owner_counts t owner (flat_map old (kinds_of unit))) in
                    let both = and_parts (t.owner == owner) (t.word == 0) there_.0 in
                    let count = there_.1 in
                    let alone = (totals (alone_by t.block) (alone_alike owner t.block)).1 in
                    let owned = (totals (owned_by t.block) (owned_alike owner t.block)).1 in
                    let c1 : replaced_weight (alone_by t.block) (alone_alike owner t.block) ≡ times t.block (flat_map old (kinds_of unit)) = (alone_alike owner t.block).counts.2 (flat_map old (kinds_of unit)) in
                    let c2 : replaced_weight (owned_by t.block) (owned_alike owner t.block) ≡ times t.block (flat_map old (kinds_of unit)) = (owned_alike owner t.block).counts.2 (flat_map old (kinds_of unit)) in
                    let inside = lies_inside (group_len_of a.geometry g) t.block (claims a g) owners.inside (omega (arith, more, count, owned, c2)) in
                    let clear = clear_if_none a g (claims a g) holds.1.apart t.block inside (omega (arith, more, count, alone, c1)) in
                    let none : weigh (owned_by t.block) (claims wt g) ≡ 0 = omega (arith, clear, owned, c2, more, count) in
                    let has_it : has (own a g) t ≡ true = has_set (map tuple_of (claims a g)) t ∙ positive (weigh (is_owner t) (claims a g)) (has (map tuple_of (claims a g)) t) (has_weight (claims a g) t) some in
                    let passed : test t.block ≡ true = passes_both (gives_to owner (records_in p Rmap) t.block) (list_any (λ c. c.block == t.block) (claims wt g)) (gives_from t has_it (eqb-true t.owner owner both.0)) (none_claimed t.block (claims wt g) none) in
                    let one = gets_lost t.block inside passed in
                    let l : lost (is_owner t) (owner_alike owner t) ≡ times t.block (lost_blocks a g unit) = owner_counts t owner (lost_blocks a g unit) ∙ ap (λ (k : Bool). if k then times t.block (lost_blocks a g unit) else 0) there_.0 in
                    r.0.1 (omega (arith, l, one))
              ]
            where
              passes_both : (y z : Bool) → y ≡ true → z ≡ false → (y && not z) ≡ true
              passes_both y z e h = λ i. e i && not (h i)

      pub still_holds : Holds x g units.Rmap
      still_holds = (
        maps_good a x g splits chunks_x same_owners (ap (λ (i : Index (RecOf Rmap)). i.reading) (other_tree a g unit blocks Rmap (not_mappings unit which))) (other_counter a g unit blocks RmapBlocks (not_counted unit which)) holds.0,
        record { apart = clear_still; forks = forks_stay a x splits chunks_x holds.1.forks },
      )

    pub was_trusted : IsTrusted x g units.Rmap → IsTrusted a g units.Rmap
    was_trusted t = (ap (λ (i : Index (RecOf Rmap)). i.trust) (sym (other_tree a g unit blocks Rmap (not_mappings unit which))) ∙ t.0, tt)

pub space_keeps_mappings : SpaceKeepsMappings
space_keeps_mappings a b left g unit root second which splits s owners stands =
    let blocks : Kind → List ℕ = s.row.0 in
    let may = s.row.1 in
    stands_by a (switched a g unit blocks) b g left g units.Rmap (splits_after a g unit blocks splits)
    (subst (λ (y : State). Loosely g left [] a y b) s.row.4 s.loosely)
    (λ trusted. still_holds a g unit blocks (same_chunks a g unit blocks which) splits may.own s.row.2 which (stands (was_trusted a g unit blocks (same_chunks a g unit blocks which) splits may.own s.row.2 which trusted)) owners)
