-- Old inode btrees that can't be read, and the reverse mappings of their blocks.
use Rattle.std.proofs.Common.{◌≡◌, ℕ, zero, suc, ◌+◌, ◌≤◌, ◌==◌, Bool, true, false, nat_lt, List, [], ◌∷◌, ◌++◌, drop, flat_map, take, Contains, refl, sym, ap, ap₂, subst, ◌∙◌, inl, inr, arith}
use Rattle.std.specs.Prelude.{◌⊎◌, if◌then◌else◌}
use Rattle.std.proofs.lemmas.Bool.{lt-ltb, true≢false}
use Rattle.std.proofs.lemmas.Bool.Decides.{nat_tests}
use Rattle.law_cuts.proofs.Cut.Told.{owner_less, tuple_for, weigh_less}
use Rattle.fs_change.proofs.Sets.{has_of, of_has, same_self}
use Rattle.fs_change.proofs.Trees.{keeps_other_trees}
use Rattle.fs_change.specs.Loose.{Loosely, owners_in, pool_of, tree_blocks}
use Rattle.fs_change.specs.Parts.{in_blocks, in_trees}
use Rattle.fs_change.specs.Switch.{AreLaid, exact_counters, hold, join_limbo, kind_need, limbo_of, lost_blocks, lost_owned, need, owned_by as with_owner, readable_blocks, switched, unit_owner}
use Rattle.fs_state.specs.Chunks.{chunks}
use Rattle.fs_state.specs.Claims.{claims, fork_claims}
use Rattle.fs_state.specs.Derive.{derive, mappings}
use Rattle.fs_state.specs.Records.{all_kinds, kinds_of, tree_owner}
use Rattle.fs_state.specs.Own.{own, rmap_of}
use Rattle.fs_model.specs.declared.entry.Entry.TheVariants as entries
use Rattle.fs_model.specs.declared.fault.Counter.{Counter}
use Rattle.fs_model.specs.declared.unit.Unit.TheVariants as units
use Rattle.fs_state.specs.Group.{is_among}
use Rattle.fs_state.specs.Kinds.{RecOf}
use Rattle.fs_state.specs.State.{Group, Index, Owned, Readable, Reading, State, Unreadable, blocks_in, blocks_of, is_readable, recs_of}
use Rattle.geom.specs.Apart.{Splits}
use Rattle.geom.specs.Layout.{group_len_of}
use Rattle.law_repairs.proofs.Move.Claiming.{alone_plain, alone_times, own_weight, owned_plain, owned_times, owner_plain, total_is}
use Rattle.law_repairs.proofs.Move.Kept.{loose_alike}
use Rattle.law_repairs.proofs.Move.Pairs.{Among, among_by, block_in, blocks_are, times_in, weigh_more}
use Rattle.law_repairs.specs.Move.Order.{IsInOrder}
use Rattle.law_repairs.proofs.Repair.Groups.{only_same}
use Rattle.law_repairs.proofs.Repair.Keeping.{stands_by}
use Rattle.law_repairs.proofs.Repair.Made.{chunks_stay}
use Rattle.law_repairs.proofs.Repair.Owners.{lies_inside, maps_stay, maps_trusted, times_both}
use Rattle.law_repairs.proofs.Repair.Same.{alike_law, chunks_same, forks_same}
use Rattle.law_repairs.proofs.Repair.Switches.{after_group, inodes_after, laid as laid_state, laid_group, other_tree, splits_after, there as laid_there, there_group}
use Rattle.law_repairs.proofs.Repair.Totals.{alone_by, chunk_part, clear_if_none, front_part, is_owner, limbo_weight, owned_by, pairs_weight, weigh, weigh_both, weigh_map}
use Rattle.law_repairs.specs.Repair.Alike.{AlikeGroup, AlikeInodes}
use Rattle.law_repairs.specs.Repair.Letters.{Holds}
use Rattle.law_repairs.proofs.Reserve.Owning.{runs_now}
use Rattle.rmap_recs.specs.Owners.{number_of}
use Rattle.rmap_recs.specs.Runs.{AreRuns, has}
use Rattle.rmap_recs.specs.declared.owner.Owner.TheVariants.{Inobt}
use Rattle.rmap_recs.specs.declared.records.RmapRec.{RmapRec}
use Rattle.rmap_recs.specs.declared.tuples.Tuple.{Tuple}
use Rattle.sblock.specs.declared.kind.Kind.{Kind}
use Rattle.sblock.specs.declared.kind.Kind.TheVariants.{Bno, Cnt, Fino, Ino, Refc, Rmap}
use Rattle.tree_defs.specs.Lists.{In, times}
use Rattle.law_cuts.specs.Spare.Unread.{NoneIsMissed, UnreadKeeps, UnreadMisses}

lost_all : (a : State) (g : ℕ) → NoneIsMissed a g → lost_blocks a g units.Inode ≡ flat_map (λ k. blocks_of ((a.group g).tree k).reading) (kinds_of units.Inode)
unfolding lost_blocks
lost_all a g none = ap₂ (λ (xs ys : List ℕ). xs ++ (ys ++ [])) none.0 none.1.0

pub unread_keeps : UnreadKeeps
unread_keeps a b left g root second splits s none stands =
    let blocks : Kind → List ℕ = s.row.0 in
    let may = s.row.1 in
    stands_by a (switched a g units.Inode blocks) b g left g units.Rmap (splits_after a g units.Inode blocks splits)
    (subst (λ (y : State). Loosely g left [] a y b) s.row.4 s.loosely)
    (λ trusted. maps_stay a g units.Inode blocks (chunks_stay a g units.Inode blocks tt) splits may.own s.row.2 (lost_all a g none) refl refl
    (stands (maps_trusted a g units.Inode blocks (chunks_stay a g units.Inode blocks tt) splits may.own s.row.2 (lost_all a g none) refl refl trusted)))

held_maps : (b : State) (g : ℕ) → Holds b g units.Rmap → mappings b g ≡ rmap_of b g
unfolding derive
held_maps b g h = ap recs_of h.0.0.0.1

-- mappings that hold what they should have each owner's record, and none besides
owned_then : (a b : State) (g : ℕ) (t : Tuple) → AreRuns (own a g) (mappings a g) → AreRuns (own b g) (mappings b g) → mappings b g ≡ mappings a g → has (own a g) t ≡ true → has (own b g) t ≡ true
owned_then a b g t before behind same h =
    let hit = before.all t (of_has (own a g) t h) in
    let there : Contains (mappings b g) hit.0 = subst (λ (rs : List RmapRec). Contains rs hit.0) (sym same) hit.2 in
    has_of (own b g) t (subst (Contains (own b g)) hit.4 ((behind.maximal hit.0 there).within hit.1 hit.3))

-- ---- how often a number stands in a part of a list

take_fewer : (d n : ℕ) (xs : List ℕ) → times d (take n xs) ≤ times d xs
take_fewer d zero xs = omega arith
take_fewer d (suc n) [] = omega arith
take_fewer d (suc n) (x ∷ xs) = let l = take_fewer d n xs in omega (arith, l)

drop_fewer : (d n : ℕ) (xs : List ℕ) → times d (drop n xs) ≤ times d xs
drop_fewer d zero xs = omega arith
drop_fewer d (suc n) [] = omega arith
drop_fewer d (suc n) (x ∷ xs) = let l = drop_fewer d n xs in omega (arith, l)

weigh_drop : (f : Owned → ℕ) (n : ℕ) (os : List Owned) → weigh f (drop n os) ≤ weigh f os
weigh_drop f zero os = omega arith
weigh_drop f (suc n) [] = omega arith
weigh_drop f (suc n) (o ∷ os) = let l = weigh_drop f n os in omega (arith, l)

weigh_times : (d : ℕ) (bs : List ℕ) → weigh (λ b. if b == d then 1 else 0) bs ≡ times d bs
weigh_times d [] = refl
weigh_times d (b ∷ bs) = ap (λ n. (if b == d then 1 else 0) + n) (weigh_times d bs)

read_fewer : {R : Type 0} (d : ℕ) (r : Reading R) → times d (readable_blocks r) ≤ times d (blocks_of r)
read_fewer d (Readable recs blocks) = omega arith
read_fewer d (Unreadable block fault held) = omega arith

none_read : {R : Type 0} (d : ℕ) (r : Reading R) → is_readable r ≡ false → times d (readable_blocks r) ≡ 0
none_read d (Readable recs blocks) h = absurd (true≢false h)
none_read d (Unreadable block fault held) h = refl

placed : {R : Type 0} (blocks : List ℕ) (r : Reading R) → blocks_of (in_blocks blocks r) ≡ blocks
placed blocks (Readable recs old) = refl
placed blocks (Unreadable block fault held) = refl

pool_parts : (d : ℕ) (r : Group) → times d (pool_of r)
    ≡ times d r.free_list + (times d (tree_blocks r Bno) + times d (tree_blocks r Cnt) + times d (tree_blocks r Rmap) + times d (tree_blocks r Refc) + times d (tree_blocks r Ino) + times d (tree_blocks r Fino)) + times d (blocks_in r.limbo)
pool_parts d r =
    let all = times_both d (r.free_list ++ flat_map (tree_blocks r) all_kinds) (blocks_in r.limbo) in
    let front = times_both d r.free_list (flat_map (tree_blocks r) all_kinds) in
    let one = times_both d (tree_blocks r Bno) (tree_blocks r Cnt ++ (tree_blocks r Rmap ++ (tree_blocks r Refc ++ (tree_blocks r Ino ++ (tree_blocks r Fino ++ []))))) in
    let two = times_both d (tree_blocks r Cnt) (tree_blocks r Rmap ++ (tree_blocks r Refc ++ (tree_blocks r Ino ++ (tree_blocks r Fino ++ [])))) in
    let three = times_both d (tree_blocks r Rmap) (tree_blocks r Refc ++ (tree_blocks r Ino ++ (tree_blocks r Fino ++ []))) in
    let four = times_both d (tree_blocks r Refc) (tree_blocks r Ino ++ (tree_blocks r Fino ++ [])) in
    let five = times_both d (tree_blocks r Ino) (tree_blocks r Fino ++ []) in
    let six = times_both d (tree_blocks r Fino) [] in
    omega (arith, all, front, one, two, three, four, five, six)

-- ---- a block that an old inode btree claims which can't be read

module _ (a : State) (g d : ℕ) (k : Kind) (which : (k ≡ Ino) ⊎ (k ≡ Fino)) (unread : is_readable ((a.group g).tree k).reading ≡ false) (there : In d (tree_blocks (a.group g) k)) (order : IsInOrder a g) (holds : Holds a g units.Rmap) where
  abbrev p : Group
  p = a.group g

  abbrev pair : Owned
  pair = record { block = d; owner = number_of Inobt }

  owner_is : number_of Inobt ≡ tree_owner k
  owner_is = elim which [ inl e ↦ ap tree_owner (sym e) | inr e ↦ ap tree_owner (sym e) ]

  among : Among pair (owners_in p)
  among = among_by p pair (inr (inl (k, owner_is, there)))

  -- claimed once
  record Alone : Type 0 where
    front : weigh (owned_by d) (front_part a.geometry g) ≡ 0
    reserve : times d (blocks_in p.reserve) ≡ 0
    chunk : weigh (owned_by d) (chunk_part (chunks a g)) ≡ 0
    forks : weigh (owned_by d) (fork_claims a g) ≡ 0
    pool : times d (pool_of p) ≡ 1

  alone : Alone
  alone =
      let some = block_in pair (owners_in p) among in
      let lone = total_is (alone_by d) (alone_plain d) a g in
      let lone_there = alone_times d (owners_in p) in
      let all = total_is (owned_by d) (owned_plain d) a g in
      let those = owned_times d (owners_in p) in
      let kept = owned_times d p.reserve in
      let pooled = ap (times d) (blocks_are p) in
      let inside = lies_inside (group_len_of a.geometry g) d (claims a g) order.inside (least _ _ _ _ _ _ _ all those some) in
      let one = clear_if_none a g (claims a g) holds.1.apart d inside (least _ _ _ _ _ _ _ lone lone_there some) in
      record {
        front = omega (arith, all, those, kept, some, one);
        reserve = omega (arith, all, those, kept, some, one);
        chunk = omega (arith, all, those, kept, some, one);
        forks = omega (arith, all, those, kept, some, one);
        pool = omega (arith, all, those, kept, some, one, pooled);
      }
    where
      least : (n f o r c v t : ℕ) → n ≡ f + o + r + c + v → o ≡ t → 1 ≤ t → 1 ≤ n
      least n f o r c v t e h l = omega (arith, e, h, l)

  -- of the trees it is this one's
  record OneTree : Type 0 where
    list : times d p.free_list ≡ 0
    others : times d (tree_blocks p Bno) + times d (tree_blocks p Cnt) + times d (tree_blocks p Rmap) + times d (tree_blocks p Refc) ≡ 0
    limbo : times d (blocks_in p.limbo) ≡ 0
    lost : times d (readable_blocks (p.tree Ino).reading) + times d (readable_blocks (p.tree Fino).reading) ≡ 0

  one_tree : OneTree
  one_tree =
      let parts = pool_parts d p in
      let once = alone.pool in
      let here = times_in d (tree_blocks p k) there in
      elim which [
        | inl e ↦
            let some : 1 ≤ times d (tree_blocks p Ino) = subst (λ j. 1 ≤ times d (tree_blocks p j)) e here in
            let none = none_read d (p.tree Ino).reading (subst (λ j. is_readable (p.tree j).reading ≡ false) e unread) in
            let few = read_fewer d (p.tree Fino).reading in
            record { list = omega (arith, parts, once, some); others = omega (arith, parts, once, some); limbo = omega (arith, parts, once, some); lost = omega (arith, parts, once, some, none, few) }
        | inr e ↦
            let some : 1 ≤ times d (tree_blocks p Fino) = subst (λ j. 1 ≤ times d (tree_blocks p j)) e here in
            let none = none_read d (p.tree Fino).reading (subst (λ j. is_readable (p.tree j).reading ≡ false) e unread) in
            let few = read_fewer d (p.tree Ino).reading in
            record { list = omega (arith, parts, once, some); others = omega (arith, parts, once, some); limbo = omega (arith, parts, once, some); lost = omega (arith, parts, once, some, none, few) }
      ]

  -- its owner is there before
  owned_before : has (own a g) (tuple_for pair) ≡ true
  owned_before =
      let t : Tuple = tuple_for pair in
      let all = total_is (is_owner t) (owner_plain t) a g in
      let more = weigh_more (limbo_weight (is_owner t)) (owners_in p) pair among in
      let one : limbo_weight (is_owner t) pair ≡ 1 = ap (λ (s : Bool). if s then 1 else 0) (same_self t) in
      own_weight a g t ∙ lt-ltb 0 (weigh (is_owner t) (claims a g)) (omega (arith, all, more, one))

  -- ---- behind the switch

  module _ (blocks : Kind → List ℕ) (splits : Splits a.geometry) (laid : AreLaid (kind_need a g units.Inode) (kinds_of units.Inode) (blocks_in p.reserve) blocks) where
    abbrev x : State
    x = switched a g units.Inode blocks

    abbrev q : Group
    q = x.group g

    alike : AlikeInodes a x
    alike = inodes_after a g units.Inode blocks (chunks_stay a g units.Inode blocks tt)

    abbrev held_in : Group
    held_in = hold (derive (laid_there a g units.Inode blocks) g) (kinds_of units.Inode) (record (in_trees blocks (kinds_of units.Inode) p) { reserve = []; limbo = join_limbo (limbo_of a g units.Inode) p.limbo })

    x_parts : {A : Type 0} (f : Group → A) → ((r : Group) (c : Counter → ℕ) → f (record r { counters = c }) ≡ f r) → f q ≡ f held_in
    x_parts f blind =
        ap f (after_group a g units.Inode blocks)
        ∙ blind ((laid_state a g units.Inode blocks).group g) (exact_counters (laid_state a g units.Inode blocks) g units.Inode)
        ∙ ap f (laid_group a g units.Inode blocks)
        ∙ ap (λ (r : Group). f (hold (derive (laid_there a g units.Inode blocks) g) (kinds_of units.Inode) r)) (there_group a g units.Inode blocks)

    same_tree : (j : Kind) → is_among j (kinds_of units.Inode) ≡ false → times d (tree_blocks q j) ≡ times d (tree_blocks p j)
    same_tree j out = ap (λ (i : Index (RecOf j)). times d (blocks_of i.reading)) (other_tree a g units.Inode blocks j out)

    new_ino : times d (tree_blocks q Ino) ≤ times d (blocks_in p.reserve)
    new_ino =
        let e : tree_blocks q Ino ≡ blocks Ino = x_parts (λ r. tree_blocks r Ino) (λ r c. refl) ∙ placed (blocks Ino) (p.tree Ino).reading in
        let n = ap (times d) e in
        let same = laid.0.same d in
        let few = take_fewer d (kind_need a g units.Inode Ino) (blocks_in p.reserve) in
        omega (arith, n, same, few)

    new_fino : times d (tree_blocks q Fino) ≤ times d (blocks_in p.reserve)
    new_fino =
        let e : tree_blocks q Fino ≡ blocks Fino = x_parts (λ r. tree_blocks r Fino) (λ r c. refl) ∙ placed (blocks Fino) (p.tree Fino).reading in
        let n = ap (times d) e in
        let same = laid.1.0.same d in
        let few = take_fewer d (kind_need a g units.Inode Fino) (drop (kind_need a g units.Inode Ino) (blocks_in p.reserve)) in
        let fewer = drop_fewer d (kind_need a g units.Inode Ino) (blocks_in p.reserve) in
        omega (arith, n, same, few, fewer)

    abbrev w : Owned → ℕ
    w = limbo_weight (owned_by d)

    lost_none : weigh w (lost_owned a g units.Inode) ≡ 0
    unfolding lost_blocks
    lost_none =
        let e = weigh_map w (with_owner (unit_owner units.Inode)) (lost_blocks a g units.Inode) ∙ weigh_times d (lost_blocks a g units.Inode) in
        let one = times_both d (readable_blocks (p.tree Ino).reading) (readable_blocks (p.tree Fino).reading ++ []) in
        let two = times_both d (readable_blocks (p.tree Fino).reading) [] in
        let none = one_tree.lost in
        omega (arith, e, one, two, none)

    limbo_none : times d (blocks_in q.limbo) ≡ 0
    unfolding limbo_of
    limbo_none =
        let e = ap (weigh w) (x_parts (λ r. r.limbo) (λ r c. refl)) in
        let t = owned_times d q.limbo in
        let outer = (pairs_weight w (limbo_of a g units.Inode ++ p.limbo)).0 in
        let both = weigh_both w (limbo_of a g units.Inode) p.limbo in
        let inner = (pairs_weight w (lost_owned a g units.Inode ++ drop (need a g units.Inode) p.reserve)).0 in
        let parts = weigh_both w (lost_owned a g units.Inode) (drop (need a g units.Inode) p.reserve) in
        let few = weigh_drop w (need a g units.Inode) p.reserve in
        let kept = owned_times d p.reserve in
        let none = alone.reserve in
        let old = owned_times d p.limbo in
        let gone = one_tree.limbo in
        sums _ _ _ _ _ _ _ _ _ _ _ _ e t outer both inner parts few kept none old gone lost_none
      where
        sums : (tq wq wj wo lo wi wl wd wr tr wp tp : ℕ) → wq ≡ wj → wq ≡ tq → wj ≤ wo → wo ≡ lo + wp → lo ≤ wi → wi ≡ wl + wd → wd ≤ wr → wr ≡ tr → tr ≡ 0 → wp ≡ tp → tp ≡ 0 → wl ≡ 0 → tq ≡ 0
        sums tq wq wj wo lo wi wl wd wr tr wp tp e1 e2 l1 e3 l2 e4 l3 e5 e6 e7 e8 e9 = omega (arith, e1, e2, l1, e3, l2, e4, l3, e5, e6, e7, e8, e9)

    pool_none : times d (pool_of q) ≡ 0
    pool_none =
        let parts = pool_parts d q in
        let list = ap (times d) (x_parts (λ r. r.free_list) (λ r c. refl)) in
        let bno = same_tree Bno refl in
        let cnt = same_tree Cnt refl in
        let maps = same_tree Rmap refl in
        let counts = same_tree Refc refl in
        let i = new_ino in
        let f = new_fino in
        let l = limbo_none in
        let none = alone.reserve in
        let before = one_tree.list in
        let others = one_tree.others in
        omega (arith, parts, list, bno, cnt, maps, counts, i, f, l, none, before, others)

    unclaimed : weigh (owned_by d) (claims x g) ≡ 0
    unclaimed =
        let all = total_is (owned_by d) (owned_plain d) x g in
        let front = ap (λ at. weigh (owned_by d) (front_part at g)) alike.geometry in
        let units_ = ap (λ us. weigh (owned_by d) (chunk_part us)) (chunks_same a x splits alike g) in
        let forks = ap (weigh (owned_by d)) (forks_same a x splits alike g) in
        let reserve = ap (weigh w) (x_parts (λ r. r.reserve) (λ r c. refl)) in
        let those = owned_times d (owners_in q) in
        let pooled = ap (times d) (blocks_are q) in
        let none = pool_none in
        let n1 = alone.front in
        let n2 = alone.chunk in
        let n3 = alone.forks in
        omega (arith, all, front, units_, forks, reserve, those, pooled, none, n1, n2, n3)

    owned_never : has (own x g) (tuple_for pair) ≡ false
    owned_never =
        let less = weigh_less (is_owner (tuple_for pair)) (owned_by d) (claims x g) (owner_less (tuple_for pair)) in
        own_weight x g (tuple_for pair) ∙ none (weigh (is_owner (tuple_for pair)) (claims x g)) (omega (arith, less, unclaimed))
      where
        none : (n : ℕ) → n ≡ 0 → nat_lt 0 n ≡ false
        none n e = grind (arith, nat_tests)

pub unread_misses : UnreadMisses
unread_misses a b left g root second d k which splits s order order_then unread there holds holds_then =
    let blocks : Kind → List ℕ = s.row.0 in
    let x : State = switched a g units.Inode blocks in
    let l : Loosely g left [] a x b = subst (λ (y : State). Loosely g left [] a y b) s.row.4 s.loosely in
    let at : Splits x.geometry = splits_after a g units.Inode blocks splits in
    let same : mappings b g ≡ mappings a g = ap (λ (i : Index (RecOf Rmap)). recs_of i.reading) (keeps_other_trees a b left (entries.Switched g units.Inode root second) s Rmap refl) in
    let before : AreRuns (own a g) (mappings a g) = subst (AreRuns (own a g)) (sym (held_maps a g holds)) (runs_now a g order.tuples order.next) in
    let behind : AreRuns (own b g) (mappings b g) = subst (AreRuns (own b g)) (sym (held_maps b g holds_then)) (runs_now b g order_then.tuples order_then.next) in
    let claimed : claims b g ≡ claims x g = (alike_law x b g at (loose_alike a x b g left [] at l) (subst (λ (r : Group). AlikeGroup (x.group g) r) (sym l.inside) (only_same (x.group g)))).claimed in
    let t : Tuple = record { block = d; owner = number_of Inobt; word = 0 } in
    let owned : has (own b g) t ≡ true = owned_then a b g t before behind same (owned_before a g d k which unread there order holds) in
    true≢false (sym owned ∙ own_weight b g t ∙ ap (λ cs. nat_lt 0 (weigh (is_owner t) cs)) claimed ∙ sym (own_weight x g t) ∙ owned_never a g d k which unread there order holds blocks splits s.row.2)
