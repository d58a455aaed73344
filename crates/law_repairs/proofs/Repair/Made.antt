-- Which chunks a switch leaves, what it makes of its own unit, and that the switch of inodes keeps the reverse mappings.
use Rattle.std.proofs.Common.{◌≡◌, ℕ, ◌≤◌, ◌==◌, ◌&&◌, ◌||◌, Bool, true, false, not, List, [], ◌∷◌, ◌++◌, filter, flat_map, refl, ap, ap₂, sym, subst, ◌∙◌, inl, inr, arith, eqb-true, Option, Some, None}
use Rattle.std.specs.Prelude.{if◌then◌else◌}
use Rattle.std.specs.List.{list_any}
use Rattle.std.specs.Option.{option_or}
use Rattle.std.proofs.lemmas.Bool.{and_parts, cases_Bool, true≢false}
use Rattle.fs_change.proofs.Alike.{chunk_alike, chunk_again as inodes_chunk, gives_unit, inodes_derived_again, lists_unit, moved_listed}
use Rattle.fs_change.proofs.Again.{space_derived_again}
use Rattle.fs_change.proofs.Mapped.{chunk_again as mappings_chunk, mappings_derived_again}
use Rattle.fs_change.specs.Loose.{Loosely}
use Rattle.fs_change.specs.Parts.{in_group, records_in}
use Rattle.fs_change.specs.Step.{MaySwitch}
use Rattle.fs_change.specs.Switch.{AreLaid, empty_trees, kind_need, lost_blocks, moved, readable_blocks, switched, without_trees}
use Rattle.fs_state.specs.Claims.{Claimed, claims}
use Rattle.fs_state.specs.Contradiction.{evidence, first_bad_fork, first_contradiction, first_later, first_overlap}
use Rattle.fs_state.specs.Records.{kinds_of}
use Rattle.fs_state.specs.Laws.{EachTree}
use Rattle.fs_state.specs.Lists.{first_of_all, numbers}
use Rattle.fs_model.specs.declared.claim.Evidence.{Evidence}
use Rattle.fs_model.specs.declared.unit.Unit.{Unit as ScrubUnit}
use Rattle.fs_model.specs.declared.unit.Unit.TheVariants as units
use Rattle.fs_state.specs.Apart.{has_unit, ino_lists, is_chunk, is_free, is_listed, rmap_lists, unit_verifies}
use Rattle.fs_state.specs.State.{State, Group, Readable, Reading, Unreadable, blocks_in, blocks_of, is_readable}
use Rattle.geom.specs.Apart.{Splits}
use Rattle.geom.specs.Layout.{group_len_of}
use Rattle.sblock.specs.declared.kind.Kind.{Kind}
use Rattle.sblock.specs.declared.kind.Kind.TheVariants.{Bno, Ino, Fino, Rmap}
use Rattle.tree_defs.specs.Lists.{times}
use Rattle.law_repairs.specs.Repair.Letters.{Holds, IsClear}
use Rattle.law_repairs.specs.Repair.Made.{BesideStays, CanBeMade, ChunksStay, InodesKeepMappings, UnitIsMade}
use Rattle.law_repairs.specs.Repair.Moves.{SameChunks}
use Rattle.law_repairs.proofs.Repair.Ending.{some_none}
use Rattle.law_repairs.proofs.Repair.Groups.{forks_stay, holds_alike}
use Rattle.law_repairs.proofs.Repair.Keeping.{none_moves_from, stands_by}
use Rattle.law_repairs.proofs.Repair.Owners.{apart, claimed_none, is_not, maps_stay, maps_trusted, times_filter, times_numbers}
use Rattle.law_repairs.proofs.Repair.Switches.{inodes_after, made_good, other_group, space_keeps_chunks, splits_after, switched_keeps}
use Rattle.law_repairs.proofs.Repair.Totals.{owned_by, weigh}

-- in another group nothing moves
chunk_beside : (a : State) (g : ℕ) (unit : ScrubUnit) (blocks : Kind → List ℕ) (h u : ℕ) → (h == g) ≡ false → is_chunk (switched a g unit blocks) h u ≡ is_chunk a h u
unfolding is_chunk is_listed ino_lists rmap_lists switched moved
chunk_beside a g unit blocks h u out =
    ap (λ (p : Group). (has_unit a.geometry h u && (lists_unit u (records_in p Ino) || gives_unit u (records_in p Rmap))) && unit_verifies a.geometry a.core h u) (other_group a g unit blocks h out)

of_moved : (a : State) (g : ℕ) (unit : ScrubUnit) (blocks : Kind → List ℕ) → SameChunks a (moved a g unit blocks)
of_moved a g unit blocks = chunk_alike a (moved a g unit blocks) (moved_listed a g unit blocks)

inodes_keep : (a : State) (g : ℕ) (blocks : Kind → List ℕ) → SameChunks a (switched a g units.Inode blocks)
inodes_keep a g blocks h u = elim (cases_Bool (h == g)) [
  | inl here ↦ subst (λ (n : ℕ). is_chunk (switched a g units.Inode blocks) n u ≡ is_chunk a n u) (sym (eqb-true h g here)) (inodes_chunk a g blocks u ∙ of_moved a g units.Inode blocks g u)
  | inr out ↦ chunk_beside a g units.Inode blocks h u out
]

pub chunks_stay : ChunksStay
chunks_stay a g units.Inode blocks can = inodes_keep a g blocks
chunks_stay a g units.Rmap blocks can = λ h u. mappings_chunk a g blocks can.0 can.1 can.2 h u ∙ of_moved a g units.Rmap blocks h u
chunks_stay a g units.Free blocks can = (space_keeps_chunks a g blocks).0
chunks_stay a g units.Refc blocks can = (space_keeps_chunks a g blocks).1

-- ---- what the reverse mappings' switch puts into limbo

module _ (a : State) (g b : ℕ) where
  abbrev cs : List Claimed
  cs = claims (in_group g (empty_trees (kinds_of units.Rmap)) a) g

  abbrev test : ℕ → Bool
  test c = not (is_free (records_in (a.group g) Bno) c) && not (list_any (λ d. d.block == c) cs)

  abbrev all : List ℕ
  all = numbers 0 (group_len_of a.geometry g)

  -- each block once, and none that anything claims
  abbrev Unclaimed : List ℕ → Type 0
  Unclaimed bs = (times b bs ≤ 1) × (1 ≤ times b bs → weigh (owned_by b) cs ≡ 0)

  of_test : (k : Bool) → test b ≡ k → times b (filter test all) ≡ (if k then times b all else 0) → Unclaimed (filter test all)
  of_test true e h = (
    (let n = (times_numbers b 0 (group_len_of a.geometry g)).0 in omega (arith, h, n)),
    λ some. claimed_none b cs (is_not (list_any (λ d. d.block == b) cs) (and_parts (not (is_free (records_in (a.group g) Bno) b)) (not (list_any (λ d. d.block == b) cs)) e).1),
  )
  of_test false e h = (omega (arith, h), λ some. absurd (omega (arith, h, some)))

  if_readable : (k : Bool) → Unclaimed (if k then filter test all else [])
  if_readable true = of_test (test b) refl (times_filter b test all)
  if_readable false = (omega arith, λ some. absurd (omega (arith, some)))

  lost_of_maps : Unclaimed (lost_blocks a g units.Rmap)
  unfolding lost_blocks without_trees
  lost_of_maps = if_readable (is_readable ((a.group g).tree Bno).reading)

of_evidence : (o p q : Option Evidence) → option_or o (first_of_all (p ∷ q ∷ [])) ≡ None → (o ≡ None) × (q ≡ None)
of_evidence None None None h = (refl, refl)
of_evidence None None (Some e) h = absurd (some_none e h)
of_evidence None (Some e) q h = absurd (some_none e h)
of_evidence (Some e) p q h = absurd (some_none e h)

sound_maps : (a : State) (g : ℕ) → evidence a g units.Rmap ≡ None → (first_bad_fork a ≡ None) × (first_overlap a g (claims a g) ≡ None)
unfolding evidence first_contradiction
sound_maps a g h = of_evidence (first_bad_fork a) (first_later a g units.Rmap) (first_overlap a g (claims a g)) h

maps_clear : (a : State) (g : ℕ) (blocks : Kind → List ℕ) → Splits a.geometry → MaySwitch a g units.Rmap → AreLaid (kind_need a g units.Rmap) (kinds_of units.Rmap) (blocks_in (a.group g).reserve) blocks
    → SameChunks a (switched a g units.Rmap blocks) → IsClear (switched a g units.Rmap blocks) g
maps_clear a g blocks splits may laid stay =
    let before = sound_maps a g may.sound in
    record {
      apart = apart a g units.Rmap blocks stay splits may.own laid (λ b. (lost_of_maps a g b).0) (λ b. (lost_of_maps a g b).1) before.1;
      forks = forks_stay a (switched a g units.Rmap blocks) splits (inodes_after a g units.Rmap blocks stay) before.0;
    }

-- ---- what a switch makes

makes : (a : State) (g : ℕ) (unit : ScrubUnit) (blocks : Kind → List ℕ) → Splits a.geometry → MaySwitch a g unit → AreLaid (kind_need a g unit) (kinds_of unit) (blocks_in (a.group g).reserve) blocks
    → CanBeMade a g unit blocks → Holds (switched a g unit blocks) g unit
makes a g units.Inode blocks splits may laid can = made_good a g units.Inode blocks splits (inodes_derived_again a g blocks)
makes a g units.Rmap blocks splits may laid can = (
  made_good a g units.Rmap blocks splits (mappings_derived_again a g blocks can.0 can.1 can.2),
  maps_clear a g blocks splits may laid (chunks_stay a g units.Rmap blocks can),
)
makes a g units.Free blocks splits may laid can = made_good a g units.Free blocks splits (space_derived_again a g blocks).0
makes a g units.Refc blocks splits may laid can = made_good a g units.Refc blocks splits (space_derived_again a g blocks).1

pub unit_is_made : UnitIsMade
unit_is_made a b left g unit root second splits s can =
    let x : State = switched a g unit s.row.0 in
    let l : Loosely g left [] a x b = subst (λ (y : State). Loosely g left [] a y b) s.row.4 s.loosely in
    holds_alike x b (splits_after a g unit s.row.0 splits) (none_moves_from a x b g left l (splits_after a g unit s.row.0 splits)) g unit
    (makes a g unit s.row.0 splits s.row.1 s.row.2 can)

pub beside_stays : BesideStays
beside_stays a b left g made root second h unit splits s can where_is stands =
    switched_keeps a b left g made root second h unit splits s (subst (SameChunks a) (sym s.row.4) (chunks_stay a g made s.row.0 can)) where_is stands

-- ---- reverse mappings beside inodes

read_whole : {R : Type 0} (r : Reading R) → is_readable r ≡ true → readable_blocks r ≡ blocks_of r
read_whole (Readable recs blocks) h = refl
read_whole (Unreadable block fault claims) h = absurd (true≢false (sym h))

lost_inodes : (a : State) (g : ℕ) → EachTree (λ k. is_readable ((a.group g).tree k).reading ≡ true) (kinds_of units.Inode) → lost_blocks a g units.Inode ≡ flat_map (λ k. blocks_of ((a.group g).tree k).reading) (kinds_of units.Inode)
unfolding lost_blocks
lost_inodes a g read = ap₂ (λ (xs ys : List ℕ). xs ++ (ys ++ [])) (read_whole ((a.group g).tree Ino).reading read.0) (read_whole ((a.group g).tree Fino).reading read.1.0)

pub inodes_keep_mappings : InodesKeepMappings
inodes_keep_mappings a b left g root second splits s read stands =
    let blocks : Kind → List ℕ = s.row.0 in
    let may = s.row.1 in
    stands_by a (switched a g units.Inode blocks) b g left g units.Rmap (splits_after a g units.Inode blocks splits)
    (subst (λ (y : State). Loosely g left [] a y b) s.row.4 s.loosely)
    (λ trusted. maps_stay a g units.Inode blocks (inodes_keep a g blocks) splits may.own s.row.2 (lost_inodes a g read) refl refl
    (stands (maps_trusted a g units.Inode blocks (inodes_keep a g blocks) splits may.own s.row.2 (lost_inodes a g read) refl refl trusted)))
