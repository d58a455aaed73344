-- Where blocks move within the group's own trees, what holds of each unit goes on holding.
use Rattle.std.proofs.Common.{◌≡◌, ℕ, ◌+◌, ◌<◌, ◌≤◌, Bool, true, false, List, [], ◌∷◌, ◌++◌, map, flat_map, refl, ap, ap₂, sym, subst, ◌∙◌, inl, inr, arith, Option, Some, None}
use Rattle.std.specs.Prelude.{◌-◌, ◌^◌, length, if◌then◌else◌}
use Rattle.std.specs.List.{list_all}
use Rattle.std.proofs.lemmas.Bool.{cases_order, true≢false}
use Rattle.std.proofs.lemmas.List.{length-append}
use Rattle.fs_change.proofs.Sets.{one_set}
use Rattle.fs_change.specs.Changes.{follow}
use Rattle.fs_change.specs.Loose.{Loosely, owners_in, pool_of, tree_blocks}
use Rattle.fs_state.specs.Chunks.{chunks}
use Rattle.fs_state.specs.Claims.{Claimed, claims, fork_claims}
use Rattle.fs_state.specs.Contradiction.{first_overlap}
use Rattle.fs_state.specs.Derive.{derive, mappings}
use Rattle.fs_state.specs.Faults.{beside_roots, blocks_counted, wanted}
use Rattle.fs_state.specs.Records.{all_kinds}
use Rattle.fs_state.specs.Laws.{IsGood, IsGoodCounter, IsGoodTree}
use Rattle.fs_state.specs.Own.{own, rmap_of, tuple_of}
use Rattle.fs_model.specs.declared.fault.Counter.{Counter}
use Rattle.fs_model.specs.declared.fault.Counter.TheVariants.{Count, Freecount, Iblocks, Fblocks, RmapBlocks, Freeblks, Longest, Btreeblks, RefcountBlocks}
use Rattle.fs_model.specs.declared.unit.Unit.{Unit as ScrubUnit}
use Rattle.fs_model.specs.declared.unit.Unit.TheVariants as units
use Rattle.fs_state.specs.Kinds.{RecOf}
use Rattle.fs_state.specs.State.{State, Group, Owned, Readable, Reading, Unreadable, blocks_in, blocks_of, is_readable, recs_of}
use Rattle.geom.specs.Apart.{Splits}
use Rattle.geom.specs.Layout.{group_len_of}
use Rattle.rmap_recs.specs.Runs.{runs_of}
use Rattle.rmap_recs.specs.declared.tuples.Tuple.{Tuple}
use Rattle.sblock.specs.declared.kind.Kind.{Kind}
use Rattle.sblock.specs.declared.kind.Kind.TheVariants.{Bno, Cnt, Rmap, Refc, Ino, Fino}
use Rattle.tree_defs.specs.Lists.{times}
use Rattle.law_repairs.specs.Repair.Alike.{AlikeGroup, AlikeInodes}
use Rattle.law_repairs.specs.Repair.Letters.{Holds, IsClear}
use Rattle.law_repairs.proofs.Repair.Groups.{forks_stay, holds_group, only_same}
use Rattle.law_repairs.proofs.Repair.Pieces.{follow_same, kept_count}
use Rattle.law_repairs.proofs.Repair.Same.{bno_same, chunks_same, cnt_same, forks_same, good_stays, is_inode_of, refc_blocks, refc_same, space_wanted}
use Rattle.law_repairs.proofs.Repair.Switches.{reading_of}
use Rattle.law_repairs.proofs.Repair.Totals.{alone_by, chunk_part, clear_if_none, front_part, has_weight, is_owner, limbo_weight, none_if_clear, owned_by, same_positive, weigh}
use Rattle.law_repairs.proofs.Repair.Units.{inodes_good}
use Rattle.law_repairs.specs.Move.Moving.{AreBlockWords, MovesKeep, is_own}
use Rattle.law_repairs.specs.Move.Order.{AreBlocks}
use Rattle.law_repairs.proofs.Move.Claiming.{IsPlain, alone_plain, alone_times, owned_plain, owned_times, owner_plain, total_is}
use Rattle.law_repairs.proofs.Move.Moving.{Moved, SameRecords, blocks_moved}
use Rattle.law_repairs.proofs.Move.Pairs.{Among, blocks_are, weigh_more, weigh_some}

-- ---- three counted trees

pub some_out : (m n : ℕ) → ◌≡◌ {A = Option ℕ} (Some m) (Some n) → m ≡ n
some_out m n e = cc

none_some : (n : ℕ) → ◌≡◌ {A = Option ℕ} None (Some n) → ⊥
none_some n e = cc

module _ {R S T : Type 0} where
  abbrev three : Reading R → Reading S → Reading T → ℕ
  three r s t = length (blocks_of r) + length (blocks_of s) + length (blocks_of t)

  pub all_read : (r : Reading R) (s : Reading S) (t : Reading T) (n : ℕ) → beside_roots (blocks_counted r) (blocks_counted s) (blocks_counted t) ≡ Some n
      → (is_readable r ≡ true) × (is_readable s ≡ true) × (is_readable t ≡ true) × (three r s t - 3 ≡ n)
  all_read (Readable rs bs) (Readable ss cs) (Readable ts ds) n e = (refl, refl, refl, some_out (length bs + length cs + length ds - 3) n e)
  all_read (Readable rs bs) (Readable ss cs) (Unreadable b f c) n e = absurd (none_some n e)
  all_read (Readable rs bs) (Unreadable b f c) t n e = absurd (none_some n e)
  all_read (Unreadable b f c) s t n e = absurd (none_some n e)

  pub count_read : (r : Reading R) (s : Reading S) (t : Reading T) → is_readable r ≡ true → is_readable s ≡ true → is_readable t ≡ true → beside_roots (blocks_counted r) (blocks_counted s) (blocks_counted t) ≡ Some (three r s t - 3)
  count_read (Readable rs bs) (Readable ss cs) (Readable ts ds) h i j = refl
  count_read (Readable rs bs) (Readable ss cs) (Unreadable b f c) h i j = absurd (true≢false (sym j))
  count_read (Readable rs bs) (Unreadable b f c) t h i j = absurd (true≢false (sym i))
  count_read (Unreadable b f c) s t h i j = absurd (true≢false (sym h))

pub one_read : {R : Type 0} (r : Reading R) (n : ℕ) → blocks_counted r ≡ Some n → (is_readable r ≡ true) × (length (blocks_of r) ≡ n)
one_read (Readable rs bs) n e = (refl, some_out (length bs) n e)
one_read (Unreadable b f c) n e = absurd (none_some n e)

pub count_one : {R : Type 0} (r : Reading R) → is_readable r ≡ true → blocks_counted r ≡ Some (length (blocks_of r))
count_one (Readable rs bs) h = refl
count_one (Unreadable b f c) h = absurd (true≢false (sym h))

pub follows : (c n m : ℕ) → c ≡ n → n < 2 ^ 32 → m < 2 ^ 32 → follow c n m ≡ m
follows c n m e h i = omega (arith, e, h, i)

follows_roots : (c n m : ℕ) → n - 3 ≡ c → 3 ≤ n → 3 ≤ m → n < 2 ^ 32 → m < 2 ^ 32 → follow c n m ≡ m - 3
follows_roots c n m e l k h i = omega (arith, e, l, k, h, i)

-- the trees' blocks are some of all
tree_few : (p : Group) → length (tree_blocks p Bno) + length (tree_blocks p Cnt) + length (tree_blocks p Rmap) ≤ length (pool_of p)
tree_few p =
    let one = length-append (p.free_list ++ flat_map (tree_blocks p) all_kinds) (blocks_in p.limbo) in
    let two = length-append p.free_list (flat_map (tree_blocks p) all_kinds) in
    let three_ = length-append (tree_blocks p Bno) (tree_blocks p Cnt ++ (tree_blocks p Rmap ++ (tree_blocks p Refc ++ (tree_blocks p Ino ++ (tree_blocks p Fino ++ []))))) in
    let four = length-append (tree_blocks p Cnt) (tree_blocks p Rmap ++ (tree_blocks p Refc ++ (tree_blocks p Ino ++ (tree_blocks p Fino ++ [])))) in
    let five = length-append (tree_blocks p Rmap) (tree_blocks p Refc ++ (tree_blocks p Ino ++ (tree_blocks p Fino ++ []))) in
    omega (arith, one, two, three_, four, five)

-- ---- the state behind a move

module _ (x b : State) (g : ℕ) (kept : Bool) (splits : Splits x.geometry) (alike : AlikeInodes x b) (mv : Moved kept (x.group g) (b.group g)) (words : AreBlockWords (x.group g)) (bx : AreBlocks (x.group g)) (bb : AreBlocks (b.group g)) where
  abbrev p : Group
  p = x.group g

  abbrev q : Group
  q = b.group g

  same_total : (w : Claimed → ℕ) → IsPlain w → weigh (limbo_weight w) (owners_in q) ≡ weigh (limbo_weight w) (owners_in p) → weigh w (claims b g) ≡ weigh w (claims x g)
  same_total w plain e =
      total_is w plain b g
      ∙ (λ i. weigh w (front_part (alike.geometry i) g) + e i + weigh (limbo_weight w) (mv.reserve i) + weigh w (chunk_part (chunks_same x b splits alike g i)) + weigh w (forks_same x b splits alike g i))
      ∙ sym (total_is w plain x g)

  times_pairs : (c : ℕ) → times c (blocks_in (owners_in q)) ≡ times c (blocks_in (owners_in p))
  times_pairs c = ap (times c) (blocks_are q) ∙ mv.times_same c ∙ sym (ap (times c) (blocks_are p))

  owned_same : (c : ℕ) → weigh (owned_by c) (claims b g) ≡ weigh (owned_by c) (claims x g)
  owned_same c = same_total (owned_by c) (owned_plain c) (owned_times c (owners_in q) ∙ times_pairs c ∙ sym (owned_times c (owners_in p)))

  alone_same : (c : ℕ) → weigh (alone_by c) (claims b g) ≡ weigh (alone_by c) (claims x g)
  alone_same c = same_total (alone_by c) (alone_plain c) (alone_times c (owners_in q) ∙ times_pairs c ∙ sym (alone_times c (owners_in p)))

  some_still : (f : Owned → ℕ) (os ps : List Owned) → ((o : Owned) → Among o os → Among o ps) → 1 ≤ weigh f os → 1 ≤ weigh f ps
  some_still f os ps h some =
      let found = weigh_some f os some in
      let more = weigh_more f ps found.0 (h found.0 found.1) in
      let pos = found.2 in
      omega (arith, more, pos)

  by_parts : (f o r c k n o' n' : ℕ) → n ≡ f + o + r + c + k → n' ≡ f + o' + r + c + k → (1 ≤ o → 1 ≤ o') → 1 ≤ n → 1 ≤ n'
  by_parts f o r c k n o' n' e e' h some = elim (cases_order o 0) [
    | inl none ↦ omega (arith, e, e', none, some)
    | inr (inl less) ↦ absurd (omega (arith, less))
    | inr (inr more) ↦ let t = h (omega (arith, more)) in omega (arith, e', t)
  ]

  owner_total : (t : Tuple) → weigh (is_owner t) (claims b g)
      ≡ weigh (is_owner t) (front_part x.geometry g) + weigh (limbo_weight (is_owner t)) (owners_in q) + weigh (limbo_weight (is_owner t)) p.reserve + weigh (is_owner t) (chunk_part (chunks x g)) + weigh (is_owner t) (fork_claims x g)
  owner_total t = total_is (is_owner t) (owner_plain t) b g
      ∙ (λ i. weigh (is_owner t) (front_part (alike.geometry i) g) + weigh (limbo_weight (is_owner t)) (owners_in q) + weigh (limbo_weight (is_owner t)) (mv.reserve i) + weigh (is_owner t) (chunk_part (chunks_same x b splits alike g i)) + weigh (is_owner t) (forks_same x b splits alike g i))

  pub own_same : own b g ≡ own x g
  unfolding own
  own_same = one_set (map tuple_of (claims b g)) (map tuple_of (claims x g)) (λ t.
      let f : ℕ = weigh (is_owner t) (front_part x.geometry g) in
      let r : ℕ = weigh (limbo_weight (is_owner t)) p.reserve in
      let c : ℕ = weigh (is_owner t) (chunk_part (chunks x g)) in
      let k : ℕ = weigh (is_owner t) (fork_claims x g) in
      let before : ℕ = weigh (limbo_weight (is_owner t)) (owners_in p) in
      let later : ℕ = weigh (limbo_weight (is_owner t)) (owners_in q) in
      has_weight (claims b g) t
      ∙ same_positive (weigh (is_owner t) (claims b g)) (weigh (is_owner t) (claims x g))
      (by_parts f later r c k (weigh (is_owner t) (claims b g)) before (weigh (is_owner t) (claims x g)) (owner_total t) (total_is (is_owner t) (owner_plain t) x g) (some_still (limbo_weight (is_owner t)) (owners_in q) (owners_in p) mv.came))
      (by_parts f before r c k (weigh (is_owner t) (claims x g)) later (weigh (is_owner t) (claims b g)) (total_is (is_owner t) (owner_plain t) x g) (owner_total t) (some_still (limbo_weight (is_owner t)) (owners_in p) (owners_in q) mv.stays))
      ∙ sym (has_weight (claims x g) t))

  apart : first_overlap x g (claims x g) ≡ None → first_overlap b g (claims b g) ≡ None
  apart h = none_if_clear b g (claims b g) (λ c lt some.
      let owned = owned_same c in
      let alone = alone_same c in
      let r = clear_if_none x g (claims x g) h c (subst (λ at. c < group_len_of at g) alike.geometry lt) (omega (arith, some, alone)) in
      omega (arith, r, owned))

  pub maps_same : mappings b g ≡ mappings x g
  maps_same = (mv.trees Rmap).recs

  -- ---- one tree

  tree_stays : (k : Kind) → derive b g k ≡ derive x g k → IsGoodTree x g k → IsGoodTree b g k
  tree_stays k e good =
      let s = mv.trees k in
      let r : Reading (RecOf k) = (q.tree k).reading in
      let read : is_readable r ≡ true = s.readable ∙ ap is_readable good.1 in
      (blocks_of r, reading_of r read ∙ ap (λ (rs : List (RecOf k)). Readable rs (blocks_of r)) (s.recs ∙ ap recs_of good.1 ∙ sym e))

  bno_derived : derive b g Bno ≡ derive x g Bno
  unfolding derive
  bno_derived = bno_same x b splits alike g maps_same

  cnt_derived : derive b g Cnt ≡ derive x g Cnt
  unfolding derive
  cnt_derived = cnt_same x b splits alike g maps_same

  refc_derived : derive b g Refc ≡ derive x g Refc
  unfolding derive
  refc_derived = refc_same x b splits alike g maps_same

  rmap_derived : derive b g Rmap ≡ derive x g Rmap
  unfolding derive rmap_of
  rmap_derived = ap runs_of own_same

  -- ---- counters of blocks

  maps_counted : (n : ℕ) → wanted b g RmapBlocks ≡ Some n → IsGoodCounter x g RmapBlocks → q.counters RmapBlocks ≡ n
  unfolding wanted
  maps_counted n e good =
      let now = one_read (q.tree Rmap).reading n e in
      let old : is_readable (p.tree Rmap).reading ≡ true = sym (mv.trees Rmap).readable ∙ now.0 in
      let was : p.counters RmapBlocks ≡ length (tree_blocks p Rmap) = good (length (tree_blocks p Rmap)) (count_one (p.tree Rmap).reading old) in
      let few_p = bx.few in
      let few_q = bb.few in
      let some_p = tree_few p in
      let some_q = tree_few q in
      mv.counters RmapBlocks ∙ follows (p.counters RmapBlocks) (length (tree_blocks p Rmap)) (length (tree_blocks q Rmap)) was (omega (arith, few_p, some_p)) (omega (arith, few_q, some_q)) ∙ now.1

  trees_counted : (n : ℕ) → wanted b g Btreeblks ≡ Some n → IsGoodCounter x g Btreeblks → q.counters Btreeblks ≡ n
  unfolding wanted
  trees_counted n e good =
      let now = all_read (q.tree Bno).reading (q.tree Cnt).reading (q.tree Rmap).reading n e in
      let b0 : is_readable (p.tree Bno).reading ≡ true = sym (mv.trees Bno).readable ∙ now.0 in
      let c0 : is_readable (p.tree Cnt).reading ≡ true = sym (mv.trees Cnt).readable ∙ now.1 in
      let r0 : is_readable (p.tree Rmap).reading ≡ true = sym (mv.trees Rmap).readable ∙ now.2 in
      let sum_p : ℕ = length (tree_blocks p Bno) + length (tree_blocks p Cnt) + length (tree_blocks p Rmap) in
      let sum_q : ℕ = length (tree_blocks q Bno) + length (tree_blocks q Cnt) + length (tree_blocks q Rmap) in
      let was : p.counters Btreeblks ≡ sum_p - 3 = good (sum_p - 3) (count_read (p.tree Bno).reading (p.tree Cnt).reading (p.tree Rmap).reading b0 c0 r0) in
      let few_p = bx.few in
      let few_q = bb.few in
      let some_p = tree_few p in
      let some_q = tree_few q in
      let b1 = bx.roots Bno b0 in
      let c1 = bx.roots Cnt c0 in
      let r1 = bx.roots Rmap r0 in
      let b2 = bb.roots Bno now.0 in
      let c2 = bb.roots Cnt now.1 in
      let r2 = bb.roots Rmap now.2 in
      mv.counters Btreeblks
      ∙ follows_roots (p.counters Btreeblks) sum_p sum_q (sym was) (omega (arith, b1, c1, r1)) (omega (arith, b2, c2, r2)) (omega (arith, few_p, some_p)) (omega (arith, few_q, some_q))
      ∙ now.3

  counted_alike : (k : Kind) → is_own k ≡ false → length (tree_blocks q k) ≡ length (tree_blocks p k)
  counted_alike k h = ap (λ (r : Reading (RecOf k)). length (blocks_of r)) (mv.others k h)

  -- ---- units

  pub each_unit : (unit : ScrubUnit) → Holds x g unit → Holds b g unit
  each_unit units.Inode h =
      inodes_good x b g splits alike (mv.others Ino refl) (mv.others Fino refl) (mv.counters Count) (mv.counters Freecount)
      (mv.counters Iblocks ∙ kept_count kept (p.counters Iblocks) (length (tree_blocks p Ino)) (length (tree_blocks q Ino)) words.ino (counted_alike Ino refl))
      (mv.counters Fblocks ∙ kept_count kept (p.counters Fblocks) (length (tree_blocks p Fino)) (length (tree_blocks q Fino)) words.fino (counted_alike Fino refl)) h
  each_unit units.Rmap h = (
    ((tree_stays Rmap rmap_derived h.0.0.0, tt), (λ n e. maps_counted n e h.0.1.0, tt)),
    record { apart = apart h.1.apart; forks = forks_stay x b splits alike h.1.forks },
  )
  each_unit units.Free h =
      let wants = space_wanted x b splits alike g maps_same in (
        (tree_stays Bno bno_derived h.0.0, (tree_stays Cnt cnt_derived h.0.1.0, tt)),
        (
          λ n e. mv.counters Freeblks ∙ h.1.0 n (sym wants.0 ∙ e),
          (
            λ n e. mv.counters Longest ∙ h.1.1.0 n (sym wants.1 ∙ e),
            (λ n e. trees_counted n e h.1.1.1.0, tt),
          ),
        ),
      )
  each_unit units.Refc h =
      good_stays x b g units.Refc (record { reading = mv.others Refc refl; derived = refc_derived }, tt) (
        record {
          kept = mv.counters RefcountBlocks ∙ ap (λ (n : ℕ). follow (p.counters RefcountBlocks) (length (tree_blocks p Refc)) n) (counted_alike Refc refl) ∙ follow_same (p.counters RefcountBlocks) (length (tree_blocks p Refc)) words.refc;
          wanted_same = refc_blocks x b g alike.geometry (mv.others Refc refl);
        },
        tt,
      ) h

-- ---- as an entry leaves it

pub loose_alike : (a x b : State) (g : ℕ) (left ks : List Kind) → Splits x.geometry → Loosely g left ks a x b → AlikeInodes x b
loose_alike a x b g left ks splits l = record {
  geometry = l.geometry;
  chunks = l.inodes.chunks;
  cores = l.inodes.cores;
  forks = λ ino f i. l.inodes.forks ino f (is_inode_of x splits ino i);
}

pub moves_keep : MovesKeep
moves_keep a x b g left [] unit splits own words bx bb l h =
    holds_group x b g unit splits (loose_alike a x b g left [] splits l) (subst (λ (q : Group). AlikeGroup (x.group g) q) (sym l.inside) (only_same (x.group g))) h
moves_keep a x b g left (k ∷ ks) unit splits own words bx bb l h =
    each_unit x b g a.geometry.inobtcount splits (loose_alike a x b g left (k ∷ ks) splits l)
    (blocks_moved a.geometry.inobtcount left (k ∷ ks) (x.group g) (b.group g) l.inside own bx.once) words bx bb unit h
