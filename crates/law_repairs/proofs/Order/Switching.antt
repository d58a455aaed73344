-- What a switch of reverse mappings leaves to claim blocks: its owners are in order, and inodes have blocks of chunks alone.
use Rattle.std.proofs.Common.{◌≡◌, ℕ, zero, suc, ◌+◌, ◌*◌, ◌<◌, ◌≤◌, ◌==◌, ◌&&◌, Bool, true, false, not, List, [], ◌∷◌, ◌++◌, drop, map, take, refl, ap, sym, subst, ◌∙◌, inl, inr, arith, eqb-true}
use Rattle.std.specs.Prelude.{nat_le, nat_lt, if◌then◌else◌}
use Rattle.std.specs.List.{list_any}
use Rattle.std.proofs.lemmas.Bool.{and_from, eqb-false, false≢true, le-leb, lt-ltb, not-true, or_left, or_right}
use Rattle.std.proofs.lemmas.List.Elements.{All-contains}
use Rattle.claim_laws.specs.Whole.{ForksAreGood}
use Rattle.fs_change.proofs.Sets.{of_has}
use Rattle.fs_change.proofs.Trees.{in_itself}
use Rattle.fs_change.specs.Laws.{OnlyChunks}
use Rattle.fs_change.specs.Parts.{in_blocks}
use Rattle.fs_change.specs.Switch.{AreLaid, is_reserve_of, join_limbo, kind_need, limbo_of, lost_blocks, lost_owned, move_blocks, moved, need, owned_by}
use Rattle.fs_state.specs.Chunks.{chunks}
use Rattle.fs_state.specs.Claims.{Claimed, claims, fork_claims}
use Rattle.fs_state.specs.Records.{tree_owner}
use Rattle.fs_state.specs.Lists.{numbers}
use Rattle.fs_state.specs.Own.{own, set_of, tuple_of}
use Rattle.fs_model.specs.declared.unit.Unit.TheVariants as units
use Rattle.fs_state.specs.Read.{group_of, state_of}
use Rattle.fs_state.specs.State.{Group, Owned, Reading, Readable, State, Unreadable, blocks_in, blocks_of, comes_first, is_readable, pairs_of, put_pair}
use Rattle.geom.specs.Apart.{HasFitting}
use Rattle.geom.specs.Layout.{group_len_of}
use Rattle.law_repairs.proofs.Repair.Same.{in_numbers, passes}
use Rattle.rmap_recs.specs.Owners.{is_inode, number_of}
use Rattle.rmap_recs.specs.Runs.{AreTuples, HaveNext}
use Rattle.rmap_recs.specs.declared.owner.Owner.TheVariants.{Ag, Inodes}
use Rattle.rmap_recs.specs.declared.tuples.Tuple.{Tuple}
use Rattle.sblock.specs.declared.kind.Kind.{Kind}
use Rattle.sblock.specs.declared.kind.Kind.TheVariants.{Bno, Cnt, Rmap, Refc, Ino, Fino}
use Rattle.tree_defs.specs.Lists.{In}
use Rattle.unit_plan.specs.Group.{AreGoodForks}
use Rattle.law_repairs.specs.Order.Kept.{AreNoChunks, AreNoInodes, LieBelow, LogLiesInside}
use Rattle.law_repairs.specs.Order.Ordered.{ChunksAreInodes, SwitchCanBeMade}
use Rattle.law_repairs.proofs.Order.Claims.{AreInside, IsRight, claims_every, forks_right, log_every, metadata_every, owned_below}
use Rattle.law_repairs.proofs.Order.Lists.{Every, every_all, every_both, every_in, every_map, every_of, every_test, every_weaker, test_every, times_in, times_of}
use Rattle.law_repairs.proofs.Order.Tuples.{every_set}
use Rattle.law_repairs.proofs.Order.Whole.{next_of, own_inside, tuples_of}

-- ---- inodes have blocks of chunks alone

abbrev pub not_chunks : ℕ → Type 0
not_chunks owner = owner ≡ number_of Inodes → ⊥

pub tree_is_other : (k : Kind) → not_chunks (tree_owner k)
tree_is_other Bno e = omega (arith, e)
tree_is_other Cnt e = omega (arith, e)
tree_is_other Rmap e = omega (arith, e)
tree_is_other Refc e = omega (arith, e)
tree_is_other Ino e = omega (arith, e)
tree_is_other Fino e = omega (arith, e)

number_from : (from n x : ℕ) → In x (numbers from n) → from ≤ x
number_from from zero x i = absurd i
number_from from (suc n) x (inl e) = omega (arith, e)
number_from from (suc n) x (inr i) = let h = number_from (from + 1) n x i in omega (arith, h)

any_in : (p : ℕ → Bool) (xs : List ℕ) (x : ℕ) → In x xs → p x ≡ true → list_any p xs ≡ true
any_in p [] x i h = absurd i
any_in p (y ∷ ys) x (inl e) h = or_left (p y) (list_any p ys) (ap p e ∙ h)
any_in p (y ∷ ys) x (inr i) h = or_right (p y) (list_any p ys) (any_in p ys x i h)

module _ (a : State) (g : ℕ) where
  -- one of the group's chunks has the block
  abbrev stands : ℕ → Type 0
  stands b = list_any (λ u. nat_le (8 * u) b && nat_lt b (8 * u + 8)) (chunks a g) ≡ true

  abbrev IsChunks : Claimed → Type 0
  IsChunks c = c.owner ≡ number_of Inodes → stands c.block

  of_file : (c : Claimed) → IsRight a g c → IsChunks c
  of_file c h e = absurd (false≢true (sym (ap is_inode e) ∙ (elim h.1 [ inl m ↦ m.file | inr t ↦ t.file ])))

  units_stand : Every (λ (u : ℕ). Every (λ (b : ℕ). number_of Inodes ≡ number_of Inodes → stands b) (numbers (8 * u) 8)) (chunks a g)
  units_stand = every_in (λ (u : ℕ). Every (λ (b : ℕ). number_of Inodes ≡ number_of Inodes → stands b) (numbers (8 * u) 8)) (chunks a g) (λ u i.
      every_in (λ (b : ℕ). number_of Inodes ≡ number_of Inodes → stands b) (numbers (8 * u) 8) (λ b j e.
      any_in (λ v. nat_le (8 * v) b && nat_lt b (8 * v + 8)) (chunks a g) u i (and_from (nat_le (8 * u) b) (nat_lt b (8 * u + 8)) (le-leb (8 * u) b (number_from (8 * u) 8 b j)) (lt-ltb b (8 * u + 8) (in_numbers (8 * u) 8 b j)))))

  pub only_chunks : HasFitting a.geometry → AreGoodForks a → Every (λ (o : Owned). not_chunks o.owner) (a.group g).reserve → Every (λ (o : Owned). not_chunks o.owner) (a.group g).limbo → OnlyChunks a g
  unfolding own
  only_chunks fit good reserve limbo t there owner =
      All-contains (λ (u : Tuple). u.owner ≡ number_of Inodes → stands u.block) (set_of (map tuple_of (claims a g))) t
      (every_all (λ (u : Tuple). u.owner ≡ number_of Inodes → stands u.block) (set_of (map tuple_of (claims a g)))
      (every_set (λ (u : Tuple). u.owner ≡ number_of Inodes → stands u.block) (map tuple_of (claims a g))
      (every_map (λ (u : Tuple). u.owner ≡ number_of Inodes → stands u.block) tuple_of (claims a g)
      (claims_every a g IsChunks
      (metadata_every a g IsChunks (λ e. absurd (omega (arith, e))) (log_every IsChunks (λ b e. absurd (omega (arith, e))) a.geometry.log g)
      (every_of (λ (b : ℕ). number_of Ag ≡ number_of Inodes → stands b) (λ b e. absurd (omega (arith, e))) (a.group g).free_list)
      (λ k. every_of (λ (b : ℕ). tree_owner k ≡ number_of Inodes → stands b) (λ b e. absurd (tree_is_other k e)) (blocks_of ((a.group g).tree k).reading))
      (every_weaker (λ (o : Owned). not_chunks o.owner) (λ (o : Owned). o.owner ≡ number_of Inodes → stands o.block) (λ o h e. absurd (h e)) (a.group g).reserve reserve)
      (every_weaker (λ (o : Owned). not_chunks o.owner) (λ (o : Owned). o.owner ≡ number_of Inodes → stands o.block) (λ o h e. absurd (h e)) (a.group g).limbo limbo)
      units_stand)
      (every_weaker (IsRight a g) IsChunks of_file (fork_claims a g) (forks_right a g fit good))))))
      (of_has (set_of (map tuple_of (claims a g))) t there) owner

pub no_chunks : (os : List Owned) → AreNoChunks os → Every (λ (o : Owned). not_chunks o.owner) os
no_chunks os h = every_weaker (λ (o : Owned). not (o.owner == number_of Inodes) ≡ true) (λ (o : Owned). not_chunks o.owner) (λ o k. eqb-false o.owner (number_of Inodes) (not-true (o.owner == number_of Inodes) k)) os (test_every (λ (o : Owned). not (o.owner == number_of Inodes)) os h)

pub chunks_are_inodes : ForksAreGood → ChunksAreInodes
unfolding group_of
chunks_are_inodes good at image kept g fit reserve limbo = only_chunks (state_of at image kept) g fit (good at image kept) (no_chunks (kept.reserve g) reserve) (no_chunks (pairs_of (kept.limbo g)) limbo)

-- ---- what a switch puts into limbo

-- a block of the group, of an owner that is neither an inode nor chunks
pub record IsTrees (len : ℕ) (o : Owned) : Type 0 where
  pub inside : o.block < len
  pub plain : is_inode o.owner ≡ false
  pub other : not_chunks o.owner

every_put_pair : (P : Owned → Type 0) (o : Owned) (ps : List Owned) → P o → Every P ps → Every P (put_pair o ps)
every_put_pair P o [] c h = (c, tt)
every_put_pair P o (p ∷ ps) c h = elim (comes_first o p) as (λ b. Every P (if b then o ∷ p ∷ ps else (if comes_first p o then p ∷ put_pair o ps else p ∷ ps))) [
  | true ↦ (c, h)
  | false ↦ elim (comes_first p o) as (λ b. Every P (if b then p ∷ put_pair o ps else p ∷ ps)) [ true ↦ (h.0, every_put_pair P o ps c h.1) | false ↦ h ]
]

pub every_pairs : (P : Owned → Type 0) (os : List Owned) → Every P os → Every P (pairs_of os)
every_pairs P [] h = tt
every_pairs P (o ∷ os) h = every_put_pair P o (pairs_of os) h.0 (every_pairs P os h.1)

pub every_drop : (P : Owned → Type 0) (n : ℕ) (os : List Owned) → Every P os → Every P (drop n os)
every_drop P zero os h = h
every_drop P (suc n) [] h = tt
every_drop P (suc n) (o ∷ os) h = every_drop P n os h.1

taken_in : (n p : ℕ) (xs : List ℕ) → In p (take n xs) → In p xs
taken_in zero p xs i = absurd i
taken_in (suc n) p [] i = absurd i
taken_in (suc n) p (x ∷ xs) (inl e) = inl e
taken_in (suc n) p (x ∷ xs) (inr i) = inr (taken_in n p xs i)

below_owned : (len : ℕ) (os : List Owned) → Every (IsTrees len) os → LieBelow len (blocks_in os)
below_owned len [] h p i = absurd i
below_owned len (o ∷ os) h p (inl e) = subst (λ (b : ℕ). b < len) e h.0.inside
below_owned len (o ∷ os) h p (inr i) = below_owned len os h.1 p i

pub if_in : (b : Bool) (p : ℕ) (xs : List ℕ) → In p (if b then xs else []) → In p xs
if_in true p xs i = i
if_in false p xs i = absurd i

pub in_new_blocks : {R : Type 0} (bs : List ℕ) (r : Reading R) → blocks_of (in_blocks bs r) ≡ bs
in_new_blocks bs (Readable recs old) = refl
in_new_blocks bs (Unreadable block fault old) = refl

-- ---- the state that it leaves

module _ (a : State) (g : ℕ) (blocks : Kind → List ℕ) (laid : AreLaid (kind_need a g units.Rmap) (Rmap ∷ []) (blocks_in (a.group g).reserve) blocks)
    (mine : is_reserve_of units.Rmap (a.group g) ≡ true) (old : AreInside (group_len_of a.geometry g) (a.group g)) (plain : AreNoInodes (a.group g).limbo) (others : AreNoChunks (a.group g).limbo) where
  lost : Every (IsTrees (group_len_of a.geometry g)) (lost_owned a g units.Rmap)
  unfolding lost_blocks
  lost = every_map (IsTrees (group_len_of a.geometry g)) (owned_by (number_of Ag)) (lost_blocks a g units.Rmap) (every_in (λ (b : ℕ). IsTrees (group_len_of a.geometry g) (owned_by (number_of Ag) b)) (lost_blocks a g units.Rmap) (λ b i.
      let lt = in_numbers 0 (group_len_of a.geometry g) b (passes _ (numbers 0 (group_len_of a.geometry g)) b (if_in (is_readable ((a.group g).tree Bno).reading) b _ i)).1 in
      record { inside = omega (arith, lt); plain = refl; other = λ e. omega (arith, e) }))

  reserved : Every (IsTrees (group_len_of a.geometry g)) (a.group g).reserve
  reserved = zip (a.group g).reserve (owned_below (group_len_of a.geometry g) (a.group g).reserve old.reserve) (test_every (λ (o : Owned). o.owner == number_of Ag) (a.group g).reserve mine)
    where
      zip : (os : List Owned) → Every (λ (o : Owned). o.block < group_len_of a.geometry g) os → Every (λ (o : Owned). (o.owner == number_of Ag) ≡ true) os → Every (IsTrees (group_len_of a.geometry g)) os
      zip [] h k = tt
      zip (o ∷ os) h k = (
        (let is = eqb-true o.owner (number_of Ag) k.0 in record { inside = h.0; plain = ap is_inode is; other = λ e. omega (arith, e, is) }),
        zip os h.1 k.1,
      )

  waiting : Every (IsTrees (group_len_of a.geometry g)) (a.group g).limbo
  waiting = zip (a.group g).limbo (owned_below (group_len_of a.geometry g) (a.group g).limbo old.limbo) (test_every (λ (o : Owned). not (is_inode o.owner)) (a.group g).limbo plain) (no_chunks (a.group g).limbo others)
    where
      zip : (os : List Owned) → Every (λ (o : Owned). o.block < group_len_of a.geometry g) os → Every (λ (o : Owned). not (is_inode o.owner) ≡ true) os → Every (λ (o : Owned). not_chunks o.owner) os → Every (IsTrees (group_len_of a.geometry g)) os
      zip [] h k l = tt
      zip (o ∷ os) h k l = (record { inside = h.0; plain = not-true (is_inode o.owner) k.0; other = l.0 }, zip os h.1 k.1 l.1)

  abbrev after : Group
  after = move_blocks a g units.Rmap blocks (a.group g)

  joined : Every (IsTrees (group_len_of a.geometry g)) (join_limbo (limbo_of a g units.Rmap) (a.group g).limbo)
  unfolding limbo_of
  joined =
      let rest = drop (need a g units.Rmap) (a.group g).reserve in
      let mores = limbo_of a g units.Rmap in
      every_pairs (IsTrees (group_len_of a.geometry g)) (mores ++ (a.group g).limbo) (every_both (IsTrees (group_len_of a.geometry g)) mores (a.group g).limbo
      (every_pairs (IsTrees (group_len_of a.geometry g)) (lost_owned a g units.Rmap ++ rest) (every_both (IsTrees (group_len_of a.geometry g)) (lost_owned a g units.Rmap) rest lost (every_drop (IsTrees (group_len_of a.geometry g)) (need a g units.Rmap) (a.group g).reserve reserved))) waiting)

  new_tree : LieBelow (group_len_of a.geometry g) (blocks Rmap)
  new_tree p i =
      let there = times_of p (blocks Rmap) i in
      let same = laid.0.same p in
      old.reserve p (taken_in (kind_need a g units.Rmap Rmap) p (blocks_in (a.group g).reserve) (times_in p (take (kind_need a g units.Rmap Rmap) (blocks_in (a.group g).reserve)) (omega (arith, there, same))))

  trees : (k : Kind) → LieBelow (group_len_of a.geometry g) (blocks_of (after.tree k).reading)
  trees Bno = old.trees Bno
  trees Cnt = old.trees Cnt
  trees Rmap = subst (LieBelow (group_len_of a.geometry g)) (sym (in_new_blocks (blocks Rmap) ((a.group g).tree Rmap).reading)) new_tree
  trees Refc = old.trees Refc
  trees Ino = old.trees Ino
  trees Fino = old.trees Fino

  group_is : (moved a g units.Rmap blocks).group g ≡ after
  unfolding moved
  group_is = in_itself g (move_blocks a g units.Rmap blocks) a

  pub moved_inside : AreInside (group_len_of a.geometry g) ((moved a g units.Rmap blocks).group g)
  moved_inside = subst (AreInside (group_len_of a.geometry g)) (sym group_is) (record { list = old.list; trees = trees; reserve = λ p i. absurd i; limbo = below_owned (group_len_of a.geometry g) after.limbo joined })

  pub moved_plain : AreNoInodes ((moved a g units.Rmap blocks).group g).reserve × AreNoInodes ((moved a g units.Rmap blocks).group g).limbo
  moved_plain = subst (λ (p : Group). AreNoInodes p.reserve × AreNoInodes p.limbo) (sym group_is) (refl, every_test (λ (o : Owned). not (is_inode o.owner)) after.limbo (every_weaker (IsTrees (group_len_of a.geometry g)) (λ (o : Owned). not (is_inode o.owner) ≡ true) (λ o h. ap not h.plain) after.limbo joined))

  pub moved_others : Every (λ (o : Owned). not_chunks o.owner) ((moved a g units.Rmap blocks).group g).reserve × Every (λ (o : Owned). not_chunks o.owner) ((moved a g units.Rmap blocks).group g).limbo
  moved_others = subst (λ (p : Group). Every (λ (o : Owned). not_chunks o.owner) p.reserve × Every (λ (o : Owned). not_chunks o.owner) p.limbo) (sym group_is) (tt, every_weaker (IsTrees (group_len_of a.geometry g)) (λ (o : Owned). not_chunks o.owner) (λ o h. h.other) after.limbo joined)

  pub mappings_can : HasFitting a.geometry → LogLiesInside a.geometry → g < a.geometry.agcount → AreGoodForks a
      → AreTuples (own (moved a g units.Rmap blocks) g) × HaveNext (own (moved a g units.Rmap blocks) g) × OnlyChunks (moved a g units.Rmap blocks) g
  unfolding moved
  mappings_can fit log lt good = (
    tuples_of (moved a g units.Rmap blocks) g fit good moved_plain.0 moved_plain.1,
    next_of (moved a g units.Rmap blocks) g fit log lt good moved_inside,
    only_chunks (moved a g units.Rmap blocks) g fit good moved_others.0 moved_others.1,
  )

pub switch_can_be_made : ForksAreGood → SwitchCanBeMade
unfolding group_of
switch_can_be_made good at image kept b left g units.Inode root second fit log lt keeps order list others s = tt
switch_can_be_made good at image kept b left g units.Free root second fit log lt keeps order list others s = tt
switch_can_be_made good at image kept b left g units.Refc root second fit log lt keeps order list others s = tt
switch_can_be_made good at image kept b left g units.Rmap root second fit log lt keeps order list others s =
    mappings_can (state_of at image kept) g s.row.0 s.row.2 s.row.1.own (own_inside at image kept g lt keeps order list) order.limbo_plain others fit log lt (good at image kept)
