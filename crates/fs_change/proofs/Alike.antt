-- Where a switch moves blocks, or only prepares to: the same records, chunks and inodes.
use Rattle.std.proofs.Common.{◌≡◌, ℕ, ◌+◌, ◌*◌, ◌==◌, ◌&&◌, ◌||◌, Bool, true, false, cond, List, [], ◌∷◌, map, filter, flat_map, zero, suc, refl, sym, ap, ap₂, ◌∙◌, eqb-true, arith}
use Rattle.std.specs.Prelude.{◌/◌, ◌%◌, nat_lt, nat_le}
use Rattle.std.specs.List.{list_any}
use Rattle.std.proofs.lemmas.Bool.Decides.{nat_tests}
use Rattle.std.proofs.lemmas.Bool.{true≢false, and_parts}
use Rattle.derive_defs.specs.ByCount.{ordered_by_count}
use Rattle.derive_defs.specs.Free.{free_space}
use Rattle.derive_defs.specs.Shared.{shared_space}
use Rattle.fs_model.specs.declared.unit.Unit.{Unit as ScrubUnit}
use Rattle.fs_model.specs.declared.unit.Unit.TheVariants as units
use Rattle.geom.specs.Layout.{group_len_of, inode_at}
use Rattle.ino_recs.specs.declared.chunk.InoRec.{InoRec}
use Rattle.sblock.specs.declared.kind.Kind.{Kind}
use Rattle.sblock.specs.declared.kind.Kind.TheVariants.{Bno, Cnt, Rmap, Refc, Ino, Fino}
use Rattle.fs_state.specs.Apart.{ino_lists, rmap_lists, has_unit, is_listed, unit_verifies, is_chunk}
use Rattle.fs_state.specs.Kinds.{RecOf}
use Rattle.fs_state.specs.State.{State, Group, Index, Reading, Readable, Unreadable, recs_of}
use Rattle.fs_state.specs.Chunks.{chunks, inodes_in, inodes}
use Rattle.fs_state.specs.Derive.{chunk_record, ino_of, fino_of, bno_of, cnt_of, refc_of, derive, mappings}
use Rattle.fs_state.specs.Lists.{numbers}
use Rattle.fs_change.proofs.Trees.{in_itself}
use Rattle.fs_change.specs.Parts.{in_group, tree_only, in_blocks, set_blocks, in_trees, records_in}
use Rattle.fs_change.specs.Switch.{empty_trees, without_trees, prepared, moved, move_blocks, switched, derived_in, hold, exact_counters, join_limbo, lost_owned}
use Rattle.byte_fields.specs.Below.{all_below}
use Rattle.rmap_recs.specs.declared.records.RmapRec.{RmapRec}
use Rattle.fs_state.specs.Records.{kinds_of}
use Rattle.fs_state.specs.Laws.{EachTree}

-- ---- records stay where blocks change

same_recs : {R : Type 0} (blocks : List ℕ) (r : Reading R) → recs_of (in_blocks blocks r) ≡ recs_of r
same_recs blocks (Readable recs old) = refl
same_recs blocks (Unreadable block fault claims) = refl

pub recs_at : (j k : Kind) (i : Index (RecOf j)) (f : (l : Kind) → Index (RecOf l)) → recs_of i.reading ≡ recs_of (f j).reading → recs_of (tree_only j i f k).reading ≡ recs_of (f k).reading
recs_at Bno Bno i f e = e
recs_at Cnt Cnt i f e = e
recs_at Rmap Rmap i f e = e
recs_at Refc Refc i f e = e
recs_at Ino Ino i f e = e
recs_at Fino Fino i f e = e
recs_at j k i f e = refl

recs_in_blocks : (j k : Kind) (blocks : List ℕ) (p : Group) → records_in (set_blocks j blocks p) k ≡ records_in p k
recs_in_blocks j k blocks p = recs_at j k (record (p.tree j) { reading = in_blocks blocks (p.tree j).reading }) p.tree (same_recs blocks (p.tree j).reading)

recs_in_trees : (blocks : Kind → List ℕ) (ks : List Kind) (p : Group) (k : Kind) → records_in (in_trees blocks ks p) k ≡ records_in p k
recs_in_trees blocks [] p k = refl
recs_in_trees blocks (j ∷ ks) p k = recs_in_blocks j k (blocks j) (in_trees blocks ks p) ∙ recs_in_trees blocks ks p k

recs_in_empty : (ks : List Kind) (p : Group) (k : Kind) → records_in (empty_trees ks p) k ≡ records_in p k
recs_in_empty [] p k = refl
recs_in_empty (j ∷ ks) p k = recs_in_blocks j k [] (empty_trees ks p) ∙ recs_in_empty ks p k

pub recs_in_group : (g : ℕ) (f : Group → Group) (a : State) (h : ℕ) (k : Kind) → ((p : Group) → records_in (f p) k ≡ records_in p k) → records_in ((in_group g f a).group h) k ≡ records_in (a.group h) k
recs_in_group g f a h k keeps = (elim (h == g) as (λ b. (h == g) ≡ b → records_in (cond b (f (a.group g)) (a.group h)) k ≡ records_in (a.group h) k) [
  | true ↦ λ e. keeps (a.group g) ∙ ap (λ (n : ℕ). records_in (a.group n) k) (sym (eqb-true h g e))
  | false ↦ λ e. refl
]) refl

pub moved_recs : (a : State) (g : ℕ) (unit : ScrubUnit) (blocks : Kind → List ℕ) (h : ℕ) (k : Kind) → records_in ((moved a g unit blocks).group h) k ≡ records_in (a.group h) k
unfolding moved
moved_recs a g unit blocks h k = recs_in_group g (move_blocks a g unit blocks) a h k (λ p. recs_in_trees blocks (kinds_of unit) p k)

pub prepared_recs : (a : State) (g : ℕ) (unit : ScrubUnit) (h : ℕ) (k : Kind) → records_in ((prepared a g unit).group h) k ≡ records_in (a.group h) k
unfolding prepared without_trees
prepared_recs a g unit h k =
    recs_in_group g (λ p. record p { limbo = join_limbo (lost_owned a g unit) p.limbo }) (without_trees a g unit) h k (λ p. refl)
    ∙ recs_in_group g (empty_trees (kinds_of unit)) a h k (λ p. recs_in_empty (kinds_of unit) p k)

-- ---- chunks

pub record Listed (a b : State) : Type 0 where
  pub geometry : b.geometry ≡ a.geometry
  pub ino : (h u : ℕ) → ino_lists b h u ≡ ino_lists a h u
  pub rmap : (h u : ℕ) → rmap_lists b h u ≡ rmap_lists a h u
  pub core : b.core ≡ a.core

module _ (a b : State) (l : Listed a b) where
  pub chunk_alike : (h u : ℕ) → is_chunk b h u ≡ is_chunk a h u
  unfolding is_chunk is_listed
  chunk_alike h u = λ i. (has_unit (l.geometry i) h u && (l.ino h u i || l.rmap h u i)) && unit_verifies (l.geometry i) (l.core i) h u

  pub chunks_alike : (h : ℕ) → chunks b h ≡ chunks a h
  unfolding chunks
  chunks_alike h = λ i. filter (λ u. chunk_alike h u i) (numbers 0 (group_len_of (l.geometry i) h / 8))

  pub inodes_alike : inodes b ≡ inodes a
  unfolding inodes inodes_in
  inodes_alike = λ i. flat_map (λ h. flat_map (λ u. map (λ n. inode_at (l.geometry i) h (8 * u + n / 8) (n % 8)) (numbers 0 64)) (chunks_alike h i)) (numbers 0 (l.geometry i).agcount)

-- reverse mappings give all blocks of the unit to inodes
abbrev pub gives_unit : ℕ → List RmapRec → Bool
gives_unit u recs = all_below 8 (λ j. list_any (λ r. (r.owner == 0xffff_ffff_ffff_fff9) && nat_le r.start (8 * u + j) && nat_lt (8 * u + j) (r.start + r.count)) recs)

abbrev pub lists_unit : ℕ → List InoRec → Bool
lists_unit u recs = list_any (λ r. r.startino == 64 * u) recs

pub moved_listed : (a : State) (g : ℕ) (unit : ScrubUnit) (blocks : Kind → List ℕ) → Listed a (moved a g unit blocks)
unfolding ino_lists rmap_lists moved
moved_listed a g unit blocks = record {
  geometry = refl;
  ino = λ h u. ap (lists_unit u) (moved_recs a g unit blocks h Ino);
  rmap = λ h u. ap (gives_unit u) (moved_recs a g unit blocks h Rmap);
  core = refl;
}

pub prepared_listed : (a : State) (g : ℕ) (unit : ScrubUnit) → Listed a (prepared a g unit)
unfolding ino_lists rmap_lists prepared without_trees
prepared_listed a g unit = record {
  geometry = refl;
  ino = λ h u. ap (lists_unit u) (prepared_recs a g unit h Ino);
  rmap = λ h u. ap (gives_unit u) (prepared_recs a g unit h Rmap);
  core = refl;
}

-- ---- what is derived of free space, reference counts and inodes

moved_ino : (a : State) (g : ℕ) (unit : ScrubUnit) (blocks : Kind → List ℕ) → ino_of (moved a g unit blocks) g ≡ ino_of a g
unfolding ino_of moved
moved_ino a g unit blocks = ap (map (chunk_record a g)) (chunks_alike a (moved a g unit blocks) (moved_listed a g unit blocks) g)

prepared_ino : (a : State) (g : ℕ) (unit : ScrubUnit) → ino_of (prepared a g unit) g ≡ ino_of a g
unfolding ino_of prepared without_trees
prepared_ino a g unit = ap (map (chunk_record a g)) (chunks_alike a (prepared a g unit) (prepared_listed a g unit) g)

pub ino_alike : (a : State) (g : ℕ) (unit : ScrubUnit) (blocks : Kind → List ℕ) → ino_of (moved a g unit blocks) g ≡ ino_of (prepared a g unit) g
ino_alike a g unit blocks = moved_ino a g unit blocks ∙ sym (prepared_ino a g unit)

pub mappings_alike : (a : State) (g : ℕ) (unit : ScrubUnit) (blocks : Kind → List ℕ) → mappings (moved a g unit blocks) g ≡ mappings (prepared a g unit) g
mappings_alike a g unit blocks = moved_recs a g unit blocks g Rmap ∙ sym (prepared_recs a g unit g Rmap)

pub inodes_counted : (a : State) (g : ℕ) (blocks : Kind → List ℕ) → EachTree (λ k. derive (moved a g units.Inode blocks) g k ≡ derive (prepared a g units.Inode) g k) (kinds_of units.Inode)
unfolding derive fino_of
inodes_counted a g blocks = (ino_alike a g units.Inode blocks, (ap (filter (λ (r : InoRec). nat_lt 0 r.freecount)) (ino_alike a g units.Inode blocks), tt))

pub free_counted : (a : State) (g : ℕ) (blocks : Kind → List ℕ) → EachTree (λ k. derive (moved a g units.Free blocks) g k ≡ derive (prepared a g units.Free) g k) (kinds_of units.Free)
unfolding derive bno_of cnt_of moved prepared without_trees
free_counted a g blocks =
    let same = ap (free_space (group_len_of a.geometry g)) (mappings_alike a g units.Free blocks) in
    (same, (ap ordered_by_count same, tt))

pub refc_counted : (a : State) (g : ℕ) (blocks : Kind → List ℕ) → EachTree (λ k. derive (moved a g units.Refc blocks) g k ≡ derive (prepared a g units.Refc) g k) (kinds_of units.Refc)
unfolding derive refc_of
refc_counted a g blocks = (ap shared_space (mappings_alike a g units.Refc blocks), tt)

-- ---- a switch of the inode btrees: what it puts in lists the chunks that there were

abbrev held_in : State → ℕ → (Kind → List ℕ) → Group
held_in a g blocks = record (hold (derive (moved a g units.Inode blocks) g) (kinds_of units.Inode) ((moved a g units.Inode blocks).group g)) { counters = exact_counters (derived_in (moved a g units.Inode blocks) g units.Inode) g units.Inode }

any_mapped : {X Y : Type 0} (f : X → Y) (test : Y → Bool) (xs : List X) → list_any test (map f xs) ≡ list_any (λ x. test (f x)) xs
any_mapped f test [] = refl
any_mapped f test (x ∷ xs) = ap (λ b. test (f x) || b) (any_mapped f test xs)

-- the number is one of these n from a on
abbrev pub is_within : ℕ → ℕ → ℕ → Bool
is_within a n u = nat_le a u && nat_lt u (a + n)

any_if : (test : ℕ → Bool) (b : Bool) (x : ℕ) (xs : List ℕ) → list_any test (cond b (x ∷ xs) xs) ≡ ((b && test x) || list_any test xs)
any_if test true x xs = refl
any_if test false x xs = refl

and_no : (b : Bool) → false ≡ (b && false)
and_no true = refl
and_no false = refl

here : (b c d : Bool) → b ≡ true → d ≡ true → (c ≡ true → d ≡ true) → ((b && true) || (b && c)) ≡ (b && d)
here true c true h i j = refl
here true c false h i j = absurd (true≢false (sym i))
here false c d h i j = refl

first_or_not : (p : ℕ → Bool) (a n u : ℕ) (e : Bool) → (a == u) ≡ e → ((p a && (64 * a == 64 * u)) || (p u && is_within (a + 1) n u)) ≡ (p u && is_within a (suc n) u)
first_or_not p a n u true e =
    let same : a ≡ u = eqb-true a u e in
    ap₂ (λ (x y : Bool). (x && y) || (p u && is_within (a + 1) n u)) (ap p same) (grind (arith, nat_tests))
    ∙ at_first (p u) (is_within (a + 1) n u) (is_within a (suc n) u) (grind (arith, nat_tests))
  where
    at_first : (x y z : Bool) → z ≡ true → ((x && true) || (x && y)) ≡ (x && z)
    at_first true y true h = refl
    at_first true y false h = absurd (true≢false (sym h))
    at_first false y z h = refl
first_or_not p a n u false e =
    ap₂ (λ (x y : Bool). (p a && x) || (p u && y)) (grind (arith, nat_tests)) (grind (arith, nat_tests))
    ∙ not_first (p a) (p u && is_within a (suc n) u)
  where
    not_first : (x y : Bool) → ((x && false) || y) ≡ y
    not_first true y = refl
    not_first false y = refl

pub listed_among : (p : ℕ → Bool) (a n u : ℕ) → list_any (λ v. 64 * v == 64 * u) (filter p (numbers a n)) ≡ (p u && is_within a n u)
listed_among p a zero u = and_no (p u) ∙ ap (λ b. p u && b) (grind (arith, nat_tests))
listed_among p a (suc n) u =
    any_if (λ v. 64 * v == 64 * u) (p a) a (filter p (numbers (a + 1) n))
    ∙ ap (λ b. (p a && (64 * a == 64 * u)) || b) (listed_among p (a + 1) n u)
    ∙ first_or_not p a n u (a == u) refl

-- a unit that lies in its group is one of those that are asked
pub in_range : (len u : ℕ) → nat_lt (8 * u + 7) len ≡ true → is_within 0 (len / 8) u ≡ true
in_range len u h = grind (arith, nat_tests)

-- listed by the new records or by reverse mappings: it was a chunk, and is one again
still_chunk : (unit ino rmap verified range : Bool) → (unit ≡ true → range ≡ true) → ((unit && ((((unit && (ino || rmap)) && verified) && range) || rmap)) && verified) ≡ ((unit && (ino || rmap)) && verified)
still_chunk true ino rmap verified range h = in_unit ino rmap verified range (h refl)
  where
    in_unit : (ino rmap verified range : Bool) → range ≡ true → (((((ino || rmap) && verified) && range) || rmap) && verified) ≡ ((ino || rmap) && verified)
    in_unit ino rmap verified false h = absurd (true≢false (sym h))
    in_unit true true true true h = refl
    in_unit true true false true h = refl
    in_unit true false true true h = refl
    in_unit true false false true h = refl
    in_unit false true true true h = refl
    in_unit false true false true h = refl
    in_unit false false true true h = refl
    in_unit false false false true h = refl
still_chunk false ino rmap verified range h = refl

module _ (a : State) (g : ℕ) (blocks : Kind → List ℕ) where
  held : (switched a g units.Inode blocks).group g ≡ held_in a g blocks
  unfolding switched
  held =
      let m : State = moved a g units.Inode blocks in
      let d : State = derived_in m g units.Inode in
      in_itself g (λ p. record p { counters = exact_counters d g units.Inode }) d
      ∙ ap (λ (p : Group). record p { counters = exact_counters d g units.Inode }) (in_itself g (hold (derive m g) (kinds_of units.Inode)) m)

  put_in : records_in ((switched a g units.Inode blocks).group g) Ino ≡ ino_of (moved a g units.Inode blocks) g
  unfolding derive
  put_in = ap (λ (p : Group). records_in p Ino) held

  fino_put_in : records_in ((switched a g units.Inode blocks).group g) Fino ≡ fino_of (moved a g units.Inode blocks) g
  unfolding derive
  fino_put_in = ap (λ (p : Group). records_in p Fino) held

  listed_again : (u : ℕ) → ino_lists (switched a g units.Inode blocks) g u ≡ (is_chunk (moved a g units.Inode blocks) g u && is_within 0 (group_len_of a.geometry g / 8) u)
  unfolding ino_lists ino_of chunks moved
  listed_again u =
      ap (lists_unit u) put_in
      ∙ any_mapped (chunk_record (moved a g units.Inode blocks) g) (λ r. r.startino == 64 * u) (chunks (moved a g units.Inode blocks) g)
      ∙ listed_among (is_chunk (moved a g units.Inode blocks) g) 0 (group_len_of a.geometry g / 8) u

  same_mappings : records_in ((switched a g units.Inode blocks).group g) Rmap ≡ records_in ((moved a g units.Inode blocks).group g) Rmap
  same_mappings = ap (λ (p : Group). records_in p Rmap) held

  pub chunk_again : (u : ℕ) → is_chunk (switched a g units.Inode blocks) g u ≡ is_chunk (moved a g units.Inode blocks) g u
  unfolding is_chunk is_listed rmap_lists has_unit switched moved
  chunk_again u =
      let m : State = moved a g units.Inode blocks in
      ap₂ (λ (x y : Bool). (has_unit a.geometry g u && (x || y)) && unit_verifies a.geometry a.core g u) (listed_again u) (ap (gives_unit u) same_mappings)
      ∙ still_chunk (has_unit a.geometry g u) (ino_lists m g u) (rmap_lists m g u) (unit_verifies a.geometry a.core g u) (is_within 0 (group_len_of a.geometry g / 8) u) (λ h. in_range (group_len_of a.geometry g) u (and_parts (nat_lt g a.geometry.agcount) (nat_lt (8 * u + 7) (group_len_of a.geometry g)) h).1)

  chunks_again : chunks (switched a g units.Inode blocks) g ≡ chunks (moved a g units.Inode blocks) g
  unfolding chunks switched moved
  chunks_again = λ i. filter (λ u. chunk_again u i) (numbers 0 (group_len_of a.geometry g / 8))

  ino_again : ino_of (moved a g units.Inode blocks) g ≡ ino_of (switched a g units.Inode blocks) g
  unfolding ino_of switched moved
  ino_again = ap (map (chunk_record a g)) (sym chunks_again)

  pub inodes_derived_again : EachTree (λ k. records_in ((switched a g units.Inode blocks).group g) k ≡ derive (switched a g units.Inode blocks) g k) (kinds_of units.Inode)
  unfolding derive fino_of
  inodes_derived_again = (put_in ∙ ino_again, (fino_put_in ∙ ap (filter (λ (r : InoRec). nat_lt 0 r.freecount)) ino_again, tt))
