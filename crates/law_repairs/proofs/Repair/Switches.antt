-- A switch: what it leaves of the other units, and what it makes of its own.
use Rattle.std.proofs.Common.{◌≡◌, ℕ, ◌==◌, ◌||◌, Bool, true, false, cond, List, [], ◌∷◌, refl, ap, sym, subst, ◌∙◌, inl, inr, eqb-true, Option, Some}
use Rattle.std.specs.Prelude.{unwrap_or, if◌then◌else◌}
use Rattle.std.proofs.lemmas.Bool.{cases_Bool, true≢false}
use Rattle.fs_change.specs.Loose.{Loosely}
use Rattle.fs_change.specs.Parts.{in_group, in_trees, tree_only, records_in}
use Rattle.fs_change.specs.Switch.{derived_in, exact_counters, hold, move_blocks, moved, sets_counter, switched}
use Rattle.fs_state.specs.Derive.{derive}
use Rattle.fs_state.specs.Faults.{wanted}
use Rattle.fs_state.specs.Records.{kinds_of, counters_of}
use Rattle.fs_model.specs.declared.fault.Counter.{Counter}
use Rattle.fs_model.specs.declared.fault.Counter.TheVariants.{Count, Freecount, Iblocks, Fblocks, RmapBlocks, Freeblks, Longest, Btreeblks, RefcountBlocks}
use Rattle.fs_model.specs.declared.unit.Trust.TheVariants.{Good}
use Rattle.fs_model.specs.declared.unit.Unit.{Unit as ScrubUnit}
use Rattle.fs_model.specs.declared.unit.Unit.TheVariants as units
use Rattle.fs_state.specs.Edits.{number_of}
use Rattle.fs_state.specs.Group.{is_among}
use Rattle.fs_state.specs.Kinds.{RecOf}
use Rattle.fs_state.specs.State.{State, Group, Index, recs_of, Readable, Reading, Unreadable, blocks_of, is_readable}
use Rattle.geom.specs.Apart.{Splits}
use Rattle.fs_change.specs.Laws.{DerivedAgain}
use Rattle.fs_state.specs.Laws.{EachCounter, EachTree, IsGood, IsGoodCounter, IsGoodTree}
use Rattle.law_repairs.proofs.Repair.Same.{alike_law}
use Rattle.sblock.specs.declared.kind.Kind.{Kind}
use Rattle.sblock.specs.declared.kind.Kind.TheVariants.{Bno, Cnt, Rmap, Refc, Ino, Fino}
use Rattle.law_repairs.specs.Repair.Alike.{AlikeGroup, AlikeInodes}
use Rattle.law_repairs.specs.Repair.Letters.{Holds, IsTrusted, Stands}
use Rattle.law_repairs.specs.Repair.Moves.{SameChunks, SpaceKeepsChunks, SwitchedKeeps, is_beside, SwitchedIsGood}
use Rattle.law_repairs.proofs.Repair.Groups.{chunk_listed, holds_group, in_each, in_own_group, only_same, same_fork}
use Rattle.law_repairs.proofs.Repair.Keeping.{TrustedIn, stands_by, none_moves_from}
use Rattle.law_repairs.proofs.Repair.Units.{counts_good, inodes_good, space_good, wanted_all}

-- ---- trees beside those that change

first_false : (a b : Bool) → (a || b) ≡ false → a ≡ false
first_false true b h = h
first_false false b h = refl

rest_false : (a b : Bool) → (a || b) ≡ false → b ≡ false
rest_false true b h = absurd (true≢false h)
rest_false false b h = h

pub tree_other : (k j : Kind) (i : Index (RecOf k)) (f : (l : Kind) → Index (RecOf l)) → (number_of k == number_of j) ≡ false → tree_only k i f j ≡ f j
tree_other Bno Bno i f h = absurd (true≢false h)
tree_other Cnt Cnt i f h = absurd (true≢false h)
tree_other Rmap Rmap i f h = absurd (true≢false h)
tree_other Refc Refc i f h = absurd (true≢false h)
tree_other Ino Ino i f h = absurd (true≢false h)
tree_other Fino Fino i f h = absurd (true≢false h)
tree_other k j i f h = refl

held_other : (recs : (k : Kind) → List (RecOf k)) (ks : List Kind) (p : Group) (j : Kind) → is_among j ks ≡ false → (hold recs ks p).tree j ≡ p.tree j
held_other recs [] p j h = refl
held_other recs (k ∷ ks) p j h = tree_other k j _ (hold recs ks p).tree (first_false _ (is_among j ks) h) ∙ held_other recs ks p j (rest_false _ (is_among j ks) h)

pub placed_other : (blocks : Kind → List ℕ) (ks : List Kind) (p : Group) (j : Kind) → is_among j ks ≡ false → (in_trees blocks ks p).tree j ≡ p.tree j
placed_other blocks [] p j h = refl
placed_other blocks (k ∷ ks) p j h = tree_other k j _ (in_trees blocks ks p).tree (first_false _ (is_among j ks) h) ∙ placed_other blocks ks p j (rest_false _ (is_among j ks) h)

held_counters : (recs : (k : Kind) → List (RecOf k)) (ks : List Kind) (p : Group) → (hold recs ks p).counters ≡ p.counters
held_counters recs [] p = refl
held_counters recs (k ∷ ks) p = held_counters recs ks p

placed_counters : (blocks : Kind → List ℕ) (ks : List Kind) (p : Group) → (in_trees blocks ks p).counters ≡ p.counters
placed_counters blocks [] p = refl
placed_counters blocks (k ∷ ks) p = placed_counters blocks ks p

beside : (g : ℕ) (f : Group → Group) (s : State) (h : ℕ) → (h == g) ≡ false → (in_group g f s).group h ≡ s.group h
beside g f s h out = ap (λ t. cond t (f (s.group g)) (s.group h)) out

-- ---- one switch

module _ (a : State) (g : ℕ) (own : ScrubUnit) (blocks : Kind → List ℕ) where
  abbrev pub there : State
  there = moved a g own blocks

  abbrev pub laid : State
  laid = derived_in there g own

  abbrev after : State
  after = switched a g own blocks

  pub there_group : there.group g ≡ move_blocks a g own blocks (a.group g)
  unfolding moved
  there_group = in_own_group g (move_blocks a g own blocks) a

  pub laid_group : laid.group g ≡ hold (derive there g) (kinds_of own) (there.group g)
  laid_group = in_own_group g (hold (derive there g) (kinds_of own)) there

  pub after_group : after.group g ≡ record (laid.group g) { counters = exact_counters laid g own }
  unfolding switched
  after_group = in_own_group g (λ p. record p { counters = exact_counters laid g own }) laid

  pub other_group : (h : ℕ) → (h == g) ≡ false → after.group h ≡ a.group h
  unfolding switched moved
  other_group h out =
      beside g (λ p. record p { counters = exact_counters laid g own }) laid h out
      ∙ beside g (hold (derive there g) (kinds_of own)) there h out
      ∙ beside g (move_blocks a g own blocks) a h out

  pub other_tree : (j : Kind) → is_among j (kinds_of own) ≡ false → (after.group g).tree j ≡ (a.group g).tree j
  other_tree j h =
      ap (λ (p : Group). p.tree j) after_group
      ∙ ap (λ (p : Group). p.tree j) laid_group
      ∙ held_other (derive there g) (kinds_of own) (there.group g) j h
      ∙ ap (λ (p : Group). p.tree j) there_group
      ∙ placed_other blocks (kinds_of own) (a.group g) j h

  laid_counters : (laid.group g).counters ≡ (a.group g).counters
  laid_counters =
      ap (λ (p : Group). p.counters) laid_group
      ∙ held_counters (derive there g) (kinds_of own) (there.group g)
      ∙ ap (λ (p : Group). p.counters) there_group
      ∙ placed_counters blocks (kinds_of own) (a.group g)

  pub other_counter : (name : Counter) → sets_counter own name ≡ false → (after.group g).counters name ≡ (a.group g).counters name
  other_counter name h =
      ap (λ (p : Group). p.counters name) after_group
      ∙ ap (λ t. if t then unwrap_or (wanted laid g name) ((laid.group g).counters name) else (laid.group g).counters name) h
      ∙ ap (λ (f : Counter → ℕ). f name) laid_counters

  pub splits_after : Splits a.geometry → Splits after.geometry
  unfolding switched moved
  splits_after splits = splits

  pub inodes_after : SameChunks a after → AlikeInodes a after
  unfolding switched moved
  inodes_after chunks = record { geometry = refl; chunks = chunks; cores = λ ino is. refl; forks = λ ino f i. same_fork (a.fork ino f) }

  -- ---- units beside it

  other_reading : (j : Kind) → is_among j (kinds_of own) ≡ false → ((after.group g).tree j).reading ≡ ((a.group g).tree j).reading
  other_reading j h = ap (λ (i : Index (RecOf j)). i.reading) (other_tree j h)

  other_trust : (j : Kind) → is_among j (kinds_of own) ≡ false → ((after.group g).tree j).trust ≡ Good → ((a.group g).tree j).trust ≡ Good
  other_trust j h t = ap (λ (i : Index (RecOf j)). i.trust) (sym (other_tree j h)) ∙ t

  other_inodes : is_among Ino (kinds_of own) ≡ false → is_among Fino (kinds_of own) ≡ false
      → sets_counter own Count ≡ false → sets_counter own Freecount ≡ false → sets_counter own Iblocks ≡ false → sets_counter own Fblocks ≡ false
      → Splits a.geometry → SameChunks a after → Stands a g units.Inode → IsTrusted after g units.Inode → Holds after g units.Inode
  other_inodes i f c d e h splits chunks stands trusted =
      inodes_good a after g splits (inodes_after chunks) (other_reading Ino i) (other_reading Fino f) (other_counter Count c) (other_counter Freecount d) (other_counter Iblocks e) (other_counter Fblocks h)
      (stands (other_trust Ino i trusted.0, (other_trust Fino f trusted.1.0, tt)))

  other_space : is_among Rmap (kinds_of own) ≡ false → is_among Bno (kinds_of own) ≡ false → is_among Cnt (kinds_of own) ≡ false
      → sets_counter own Freeblks ≡ false → sets_counter own Longest ≡ false → sets_counter own Btreeblks ≡ false
      → Splits a.geometry → SameChunks a after → Stands a g units.Free → IsTrusted after g units.Free → Holds after g units.Free
  other_space r b c d e h splits chunks stands trusted =
      space_good a after g splits (inodes_after chunks) (other_reading Rmap r) (other_reading Bno b) (other_reading Cnt c) (other_counter Freeblks d) (other_counter Longest e) (other_counter Btreeblks h)
      (stands (other_trust Bno b trusted.0, (other_trust Cnt c trusted.1.0, tt)))

  other_counts : is_among Rmap (kinds_of own) ≡ false → is_among Refc (kinds_of own) ≡ false → sets_counter own RefcountBlocks ≡ false
      → Splits a.geometry → SameChunks a after → Stands a g units.Refc → IsTrusted after g units.Refc → Holds after g units.Refc
  other_counts r c d splits chunks stands trusted =
      counts_good a after g splits (inodes_after chunks) (other_reading Rmap r) (other_reading Refc c) (other_counter RefcountBlocks d)
      (stands (other_trust Refc c trusted.0, tt))

  -- ---- all of another group

  pub elsewhere : (h : ℕ) (unit : ScrubUnit) → (h == g) ≡ false → Splits a.geometry → SameChunks a after → Stands a h unit → IsTrusted after h unit → Holds after h unit
  elsewhere h unit out splits chunks stands trusted =
      holds_group a after h unit splits (inodes_after chunks) (subst (λ (p : Group). AlikeGroup (a.group h) p) (sym (other_group h out)) (only_same (a.group h)))
      (stands (subst (λ (p : Group). TrustedIn p unit) (other_group h out) trusted))

beside_at : (a : State) (g : ℕ) (own unit : ScrubUnit) (blocks : Kind → List ℕ) → is_beside own unit ≡ true → Splits a.geometry → SameChunks a (switched a g own blocks)
    → Stands a g unit → IsTrusted (switched a g own blocks) g unit → Holds (switched a g own blocks) g unit
beside_at a g units.Inode units.Inode blocks h = absurd (true≢false (sym h))
beside_at a g units.Inode units.Rmap blocks h = absurd (true≢false (sym h))
beside_at a g units.Inode units.Free blocks h = other_space a g units.Inode blocks refl refl refl refl refl refl
beside_at a g units.Inode units.Refc blocks h = other_counts a g units.Inode blocks refl refl refl
beside_at a g units.Rmap units.Inode blocks h = other_inodes a g units.Rmap blocks refl refl refl refl refl refl
beside_at a g units.Rmap units.Rmap blocks h = absurd (true≢false (sym h))
beside_at a g units.Rmap units.Free blocks h = absurd (true≢false (sym h))
beside_at a g units.Rmap units.Refc blocks h = absurd (true≢false (sym h))
beside_at a g units.Free units.Inode blocks h = other_inodes a g units.Free blocks refl refl refl refl refl refl
beside_at a g units.Free units.Rmap blocks h = absurd (true≢false (sym h))
beside_at a g units.Free units.Free blocks h = absurd (true≢false (sym h))
beside_at a g units.Free units.Refc blocks h = other_counts a g units.Free blocks refl refl refl
beside_at a g units.Refc units.Inode blocks h = other_inodes a g units.Refc blocks refl refl refl refl refl refl
beside_at a g units.Refc units.Rmap blocks h = absurd (true≢false (sym h))
beside_at a g units.Refc units.Free blocks h = other_space a g units.Refc blocks refl refl refl refl refl refl
beside_at a g units.Refc units.Refc blocks h = absurd (true≢false (sym h))

pub space_keeps_chunks : SpaceKeepsChunks
unfolding switched moved
space_keeps_chunks a g blocks = (keeps units.Free refl refl, keeps units.Refc refl refl)
  where
    recs_same : (own : ScrubUnit) (j : Kind) → is_among j (kinds_of own) ≡ false → (h : ℕ) → recs_of (((switched a g own blocks).group h).tree j).reading ≡ recs_of ((a.group h).tree j).reading
    recs_same own j out h = elim (cases_Bool (h == g)) [
      | inl same ↦ subst (λ (n : ℕ). recs_of (((switched a g own blocks).group n).tree j).reading ≡ recs_of ((a.group n).tree j).reading) (sym (eqb-true h g same)) (ap (λ (i : Index (RecOf j)). recs_of i.reading) (other_tree a g own blocks j out))
      | inr other ↦ ap (λ (p : Group). recs_of (p.tree j).reading) (other_group a g own blocks h other)
    ]

    keeps : (own : ScrubUnit) → is_among Ino (kinds_of own) ≡ false → is_among Rmap (kinds_of own) ≡ false → SameChunks a (switched a g own blocks)
    keeps own i r = chunk_listed a (switched a g own blocks) refl refl (recs_same own Ino i) (recs_same own Rmap r)

pub switched_keeps : SwitchedKeeps
switched_keeps a b left g own root second h unit splits s chunks where_is stands =
    let blocks : Kind → List ℕ = s.row.0 in
    let x : State = switched a g own blocks in
    let same : s.decided ≡ x = s.row.4 in
    let kept : SameChunks a x = subst (SameChunks a) same chunks in
    stands_by a x b g left h unit (splits_after a g own blocks splits)
    (subst (λ (y : State). Loosely g left [] a y b) same s.loosely)
    (elim where_is [
      | inl out ↦ elsewhere a g own blocks h unit out splits kept stands
      | inr at ↦ λ trusted. elim (cases_Bool (h == g)) [
        | inl here ↦ let e : h ≡ g = eqb-true h g here in
            subst (λ (n : ℕ). Holds x n unit) (sym e) (beside_at a g own unit blocks at splits kept (subst (λ (n : ℕ). Stands a n unit) e stands) (subst (λ (n : ℕ). IsTrusted x n unit) e trusted))
        | inr out ↦ elsewhere a g own blocks h unit out splits kept stands trusted
      ]
    ])

-- ---- what a switch makes

pub reading_of : {R : Type 0} (r : Reading R) → is_readable r ≡ true → r ≡ Readable (recs_of r) (blocks_of r)
reading_of (Readable recs blocks) h = refl
reading_of (Unreadable block fault claims) h = absurd (true≢false (sym h))

made_readable : (a : State) (g : ℕ) (own : ScrubUnit) (blocks : Kind → List ℕ) → EachTree (λ k. is_readable (((switched a g own blocks).group g).tree k).reading ≡ true) (kinds_of own)
made_readable a g units.Inode blocks = (
  ap (λ (p : Group). is_readable (p.tree Ino).reading) (after_group a g units.Inode blocks ∙ ap (λ (p : Group). record p { counters = exact_counters (laid a g units.Inode blocks) g units.Inode }) (laid_group a g units.Inode blocks)),
  (ap (λ (p : Group). is_readable (p.tree Fino).reading) (after_group a g units.Inode blocks ∙ ap (λ (p : Group). record p { counters = exact_counters (laid a g units.Inode blocks) g units.Inode }) (laid_group a g units.Inode blocks)), tt),
)
made_readable a g units.Rmap blocks = (ap (λ (p : Group). is_readable (p.tree Rmap).reading) (after_group a g units.Rmap blocks ∙ ap (λ (p : Group). record p { counters = exact_counters (laid a g units.Rmap blocks) g units.Rmap }) (laid_group a g units.Rmap blocks)), tt)
made_readable a g units.Free blocks = (
  ap (λ (p : Group). is_readable (p.tree Bno).reading) (after_group a g units.Free blocks ∙ ap (λ (p : Group). record p { counters = exact_counters (laid a g units.Free blocks) g units.Free }) (laid_group a g units.Free blocks)),
  (ap (λ (p : Group). is_readable (p.tree Cnt).reading) (after_group a g units.Free blocks ∙ ap (λ (p : Group). record p { counters = exact_counters (laid a g units.Free blocks) g units.Free }) (laid_group a g units.Free blocks)), tt),
)
made_readable a g units.Refc blocks = (ap (λ (p : Group). is_readable (p.tree Refc).reading) (after_group a g units.Refc blocks ∙ ap (λ (p : Group). record p { counters = exact_counters (laid a g units.Refc blocks) g units.Refc }) (laid_group a g units.Refc blocks)), tt)

module _ (a : State) (g : ℕ) (own : ScrubUnit) (blocks : Kind → List ℕ) (splits : Splits a.geometry) where
  made_trees : (ks : List Kind) → EachTree (λ k. is_readable (((after a g own blocks).group g).tree k).reading ≡ true) ks → EachTree (λ k. records_in ((after a g own blocks).group g) k ≡ derive (after a g own blocks) g k) ks → EachTree (IsGoodTree (after a g own blocks) g) ks
  made_trees [] r d = tt
  made_trees (k ∷ ks) r d = (
    (blocks_of (((after a g own blocks).group g).tree k).reading, reading_of (((after a g own blocks).group g).tree k).reading r.0 ∙ ap (λ (rs : List (RecOf k)). Readable rs (blocks_of (((after a g own blocks).group g).tree k).reading)) d.0),
    made_trees ks r.1 d.1,
  )

  same_reading : (h : ℕ) (k : Kind) → (((after a g own blocks).group h).tree k).reading ≡ (((laid a g own blocks).group h).tree k).reading
  unfolding switched
  same_reading h k = in_each (λ p q. (q.tree k).reading ≡ (p.tree k).reading) g (λ p. record p { counters = exact_counters (laid a g own blocks) g own }) (laid a g own blocks) h (λ p. refl) (λ p. refl)

  laid_splits : Splits (laid a g own blocks).geometry
  unfolding moved
  laid_splits = splits

  same_inodes : AlikeInodes (laid a g own blocks) (after a g own blocks)
  unfolding switched
  same_inodes = record {
    geometry = refl;
    chunks = chunk_listed (laid a g own blocks) (after a g own blocks) refl refl (λ h. ap recs_of (same_reading h Ino)) (λ h. ap recs_of (same_reading h Rmap));
    cores = λ ino is. refl;
    forks = λ ino f i. same_fork ((laid a g own blocks).fork ino f);
  }

  some_is : (o : Option ℕ) (old n : ℕ) → o ≡ Some n → unwrap_or o old ≡ n
  some_is o old n e = ap (λ (x : Option ℕ). unwrap_or x old) e

  made_counter : (name : Counter) → sets_counter own name ≡ true → IsGoodCounter (after a g own blocks) g name
  made_counter name h n e =
      ap (λ (p : Group). p.counters name) (after_group a g own blocks)
      ∙ ap (λ t. if t then unwrap_or (wanted (laid a g own blocks) g name) (((laid a g own blocks).group g).counters name) else ((laid a g own blocks).group g).counters name) h
      ∙ some_is (wanted (laid a g own blocks) g name) (((laid a g own blocks).group g).counters name) n
      (sym (wanted_all (laid a g own blocks) (after a g own blocks) g laid_splits same_inodes (same_reading g) name) ∙ e)

made_counters : (a : State) (g : ℕ) (own : ScrubUnit) (blocks : Kind → List ℕ) → Splits a.geometry → EachCounter (IsGoodCounter (switched a g own blocks) g) (counters_of own)
made_counters a g units.Inode blocks splits = (made_counter a g units.Inode blocks splits Count refl, (made_counter a g units.Inode blocks splits Freecount refl, (made_counter a g units.Inode blocks splits Iblocks refl, (made_counter a g units.Inode blocks splits Fblocks refl, tt))))
made_counters a g units.Rmap blocks splits = (made_counter a g units.Rmap blocks splits RmapBlocks refl, tt)
made_counters a g units.Free blocks splits = (made_counter a g units.Free blocks splits Freeblks refl, (made_counter a g units.Free blocks splits Longest refl, (made_counter a g units.Free blocks splits Btreeblks refl, tt)))
made_counters a g units.Refc blocks splits = (made_counter a g units.Refc blocks splits RefcountBlocks refl, tt)

pub made_good : (a : State) (g : ℕ) (own : ScrubUnit) (blocks : Kind → List ℕ) → Splits a.geometry → DerivedAgain a g own blocks → IsGood (switched a g own blocks) g own
made_good a g own blocks splits again = (made_trees a g own blocks splits (kinds_of own) (made_readable a g own blocks) again, made_counters a g own blocks splits)

pub switched_is_good : SwitchedIsGood
switched_is_good a b left g own root second splits s again =
    let blocks : Kind → List ℕ = s.row.0 in
    let x : State = switched a g own blocks in
    let l : Loosely g left [] a x b = subst (λ (y : State). Loosely g left [] a y b) s.row.4 s.loosely in
    let same = none_moves_from a x b g left l (splits_after a g own blocks splits) in
    (alike_law x b g (splits_after a g own blocks splits) same.inodes (same.groups g)).good own
    (made_good a g own blocks splits again)
