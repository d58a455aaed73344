-- What the entries of a repair need of an image: a reserved block is of no chunk, chunks stay, and groups are in order.
use Rattle.std.proofs.Common.{◌≡◌, ℕ, ◌+◌, ◌*◌, ◌<◌, ◌==◌, ◌&&◌, ◌||◌, Bool, true, false, List, [], ◌∷◌, ◌++◌, flat_map, map, Option, Some, None, refl, ap, sym, ◌∙◌, inl, arith}
use Rattle.std.specs.Prelude.{◌/◌, ◌%◌, find, nat_lt, slice_get, if◌then◌else◌}
use Rattle.std.specs.List.{list_any}
use Rattle.std.specs.Option.{option_map_or}
use Rattle.std.proofs.lemmas.Bool.{and_from, and_parts, eq-eqb, false≢true, ltb-true, ne_eqb, or_right}
use Rattle.law_writers.proofs.Change.Members.{any_both, any_filter, any_flat, any_map, found, found_below}
use Rattle.law_writers.proofs.Change.Rows.{step_keeps_chunks}
use Rattle.law_writers.specs.Change.Chunks.{LeavesChunks}
use Rattle.claim_laws.specs.Whole.{ForksAreGood}
use Rattle.fs_change.specs.Changes.{owner_of_run}
use Rattle.fs_change.specs.Choice.{has_claim, is_spare}
use Rattle.fs_change.specs.Edited.{group_of_entry}
use Rattle.fs_change.specs.Step.{MayReserve, Step}
use Rattle.fs_state.specs.Chunks.{chunks}
use Rattle.fs_state.specs.Claims.{Claimed, claimed_by, claims, fork_claims, log_claims, metadata_claims}
use Rattle.fs_state.specs.Records.{all_kinds, tree_owner}
use Rattle.fs_state.specs.Lists.{numbers}
use Rattle.fs_model.specs.declared.claim.Claim.TheVariants.{Chunk, Heads, Limbo, List as FreeList, Reserve, Tree}
use Rattle.fs_model.specs.declared.entry.Entry.{Entry}
use Rattle.fs_model.specs.declared.entry.Entry.TheVariants as entries
use Rattle.fs_model.specs.declared.unit.Unit.{Unit as ScrubUnit}
use Rattle.fs_model.specs.declared.unit.Unit.TheVariants as units
use Rattle.fs_state.specs.Apart.{Apart, ChunkAt, Has, ListOf, has_unit, ino_lists, is_chunk, is_listed, rmap_lists, unit_verifies}
use Rattle.fs_state.specs.Frame.{OpeningLaw}
use Rattle.fs_state.specs.Kinds.{Image}
use Rattle.fs_state.specs.Read.{group_of, opened, state_of}
use Rattle.fs_state.specs.State.{Group, Kept, Owned, State, blocks_of}
use Rattle.geom.specs.Apart.{HasFitting}
use Rattle.geom.specs.Layout.{Layout, device_block_of, group_len_of}
use Rattle.law_repairs.proofs.Letter.Known.{letters_follow}
use Rattle.law_repairs.specs.Letter.Known.{is_of_repair}
use Rattle.law_repairs.specs.Move.Order.{IsInOrder}
use Rattle.law_repairs.proofs.Reserve.Reserved.{is_found}
use Rattle.rmap_recs.specs.Owners.{number_of}
use Rattle.rmap_recs.specs.declared.owner.Owner.TheVariants.{Ag, Fs, Inodes}
use Rattle.sblock.specs.declared.kind.Kind.{Kind}
use Rattle.tree_defs.specs.Lists.{In}
use Rattle.law_repairs.specs.Order.Kept.{LogLiesInside}
use Rattle.law_repairs.specs.Order.Repairs.{Given, ImagesFollow, ImagesHaveFacts, IsKeptWell, OpenedIsKeptWell, RepairKeepsChunks}
use Rattle.law_repairs.proofs.Order.Blocks.{rank}
use Rattle.law_repairs.proofs.Order.Lists.{Every}
use Rattle.law_repairs.proofs.Order.Memory.{last_test, repair_keeps_memory}
use Rattle.law_repairs.proofs.Order.Switching.{mappings_can, no_chunks, not_chunks, switch_can_be_made}
use Rattle.law_repairs.proofs.Order.Whole.{group_is_in_order, opened_is_kept, own_inside}

-- ---- a block of a chunk is claimed by it

module _ (a : State) (g b : ℕ) (chunk : is_chunk a g (b / 8) ≡ true) where
  unit_inside : 8 * (b / 8) + 7 < group_len_of a.geometry g
  unfolding is_chunk is_listed has_unit
  unit_inside =
      let l = and_parts (is_listed a g (b / 8)) (unit_verifies a.geometry a.core g (b / 8)) chunk in
      let x = and_parts (has_unit a.geometry g (b / 8)) (ino_lists a g (b / 8) || rmap_lists a g (b / 8)) l.0 in
      let y = and_parts (nat_lt g a.geometry.agcount) (nat_lt (8 * (b / 8) + 7) (group_len_of a.geometry g)) x.0 in
      ltb-true (8 * (b / 8) + 7) (group_len_of a.geometry g) y.1

  in_units : list_any (λ (c : Claimed). c.block == b) (flat_map (λ (u : ℕ). map (claimed_by Chunk (number_of Inodes)) (numbers (8 * u) 8)) (chunks a g)) ≡ true
  unfolding chunks
  in_units =
      let lt = unit_inside in
      let all = numbers 0 (group_len_of a.geometry g / 8) in
      any_flat (λ (c : Claimed). c.block == b) (λ (u : ℕ). map (claimed_by Chunk (number_of Inodes)) (numbers (8 * u) 8)) (chunks a g)
      ∙ (any_filter (λ u. list_any (λ (c : Claimed). c.block == b) (map (claimed_by Chunk (number_of Inodes)) (numbers (8 * u) 8))) (is_chunk a g) all
      ∙ found_below (λ u. is_chunk a g u && list_any (λ (c : Claimed). c.block == b) (map (claimed_by Chunk (number_of Inodes)) (numbers (8 * u) 8))) (group_len_of a.geometry g / 8) (b / 8) (omega (arith, lt))
      (and_from (is_chunk a g (b / 8)) (list_any (λ (c : Claimed). c.block == b) (map (claimed_by Chunk (number_of Inodes)) (numbers (8 * (b / 8)) 8))) chunk
      (any_map (λ (c : Claimed). c.block == b) (claimed_by Chunk (number_of Inodes)) (numbers (8 * (b / 8)) 8) ∙ found (λ (x : ℕ). x == b) (8 * (b / 8)) 8 b (omega arith) (omega arith) (eq-eqb b b refl))))

  of_metadata : has_claim (metadata_claims a g) b ≡ true
  unfolding metadata_claims
  of_metadata =
      let p : Group = a.group g in
      let front : List Claimed = (claimed_by Heads (number_of Fs) 0 ∷ log_claims a.geometry.log g) ++ map (claimed_by FreeList (number_of Ag)) p.free_list ++ flat_map (λ (k : Kind). map (claimed_by (Tree k) (tree_owner k)) (blocks_of (p.tree k).reading)) all_kinds
      ++ map (λ (o : Owned). claimed_by Reserve o.owner o.block) p.reserve ++ map (λ (o : Owned). claimed_by Limbo o.owner o.block) p.limbo in
      let own : List Claimed = flat_map (λ (u : ℕ). map (claimed_by Chunk (number_of Inodes)) (numbers (8 * u) 8)) (chunks a g) in
      any_both (λ (c : Claimed). c.block == b) front own ∙ or_right (list_any (λ (c : Claimed). c.block == b) front) (list_any (λ (c : Claimed). c.block == b) own) in_units

  of_all : has_claim (claims a g) b ≡ true
  unfolding claims
  of_all = any_both (λ (c : Claimed). c.block == b) (metadata_claims a g) (fork_claims a g) ∙ or_first (list_any (λ (c : Claimed). c.block == b) (metadata_claims a g)) (list_any (λ (c : Claimed). c.block == b) (fork_claims a g)) of_metadata
    where
      or_first : (x y : Bool) → x ≡ true → (x || y) ≡ true
      or_first true y h = refl
      or_first false y h = absurd (false≢true h)

-- ---- a reserved block is of no chunk

unless : (x : Bool) → (x ≡ true → ⊥) → x ≡ false
unless true never = absurd (never refl)
unless false never = refl

spare_of_none : (a : State) (g : ℕ) (unit : ScrubUnit) (b : ℕ) → (unit ≡ units.Free → ⊥) → is_spare a g unit b ≡ true → is_chunk a g (b / 8) ≡ true → ⊥
unfolding is_spare
spare_of_none a g units.Free b other h chunk = other refl
spare_of_none a g units.Rmap b other h chunk = false≢true (sym (last_test _ (has_claim (claims a g) b) h) ∙ of_all a g b chunk)
spare_of_none a g units.Inode b other h chunk = false≢true (sym (last_test _ (has_claim (metadata_claims a g) b) h) ∙ of_metadata a g b chunk)
spare_of_none a g units.Refc b other h chunk = false≢true (sym (last_test _ (has_claim (metadata_claims a g) b) h) ∙ of_metadata a g b chunk)

first_in : (xs : List ℕ) (b : ℕ) → ◌≡◌ {A = Option ℕ} (slice_get xs 0) (Some b) → In b xs
first_in [] b h = absurd (none_some h) where
  none_some : ◌≡◌ {A = Option ℕ} None (Some b) → ⊥
  none_some e = cc
first_in (x ∷ xs) b h = inl (some_same h) where
  some_same : ◌≡◌ {A = Option ℕ} (Some x) (Some b) → x ≡ b
  some_same e = cc

listed_of_none : (a : State) (g b : ℕ) → Apart a → g < a.geometry.agcount → In b (a.group g).free_list → is_chunk a g (b / 8) ≡ true → ⊥
listed_of_none a g b apart lt i chunk =
    let d : ℕ = device_block_of a.geometry g b in
    let listed : Has a (ListOf g) d = record { inside = lt; block = b; holds = i; place = refl } in
    let parts : 8 * (b / 8) + b % 8 ≡ b = omega arith in
    let there : Has a (ChunkAt d) d = record { same = refl; group = g; unit = b / 8; nth = b % 8; one_of = omega arith; chunk = chunk; place = ap (device_block_of a.geometry g) parts } in
    let ranks = ap rank (apart (ListOf g) (ChunkAt d) d listed there) in
    omega (arith, ranks)

reserved_of_none : (a : State) (left : List Kind) (g : ℕ) (unit : ScrubUnit) (b : ℕ) (spare : Bool) → Apart a → g < a.geometry.agcount → Given a (entries.Reserved g unit b spare) → MayReserve a left g unit b spare → is_chunk a g (b / 8) ≡ false
reserved_of_none a left g unit b false apart lt given may = unless (is_chunk a g (b / 8)) (listed_of_none a g b apart lt (first_in (a.group g).free_list b may.1))
reserved_of_none a left g units.Free b true apart lt given may = unless (is_chunk a g (b / 8)) (λ chunk. false≢true (sym given ∙ of_metadata a g b chunk))
reserved_of_none a left g units.Rmap b true apart lt given may = unless (is_chunk a g (b / 8)) (spare_of_none a g units.Rmap b (λ e. absurd cc) (is_found a g units.Rmap b may.2))
reserved_of_none a left g units.Inode b true apart lt given may = unless (is_chunk a g (b / 8)) (spare_of_none a g units.Inode b (λ e. absurd cc) (is_found a g units.Inode b may.2))
reserved_of_none a left g units.Refc b true apart lt given may = unless (is_chunk a g (b / 8)) (spare_of_none a g units.Refc b (λ e. absurd cc) (is_found a g units.Refc b may.2))

-- ---- chunks stay

found_owner : (os : List Owned) (b : ℕ) → Every (λ (o : Owned). not_chunks o.owner) os → not_chunks (option_map_or (λ (o : Owned). o.owner) (find (λ (o : Owned). o.block == b) os) 0)
found_owner [] b h = λ e. omega (arith, e)
found_owner (o ∷ os) b h = elim (o.block == b) as (λ t. not_chunks (option_map_or (λ (x : Owned). x.owner) (if t then Some o else find (λ (x : Owned). x.block == b) os) 0)) [
  | true ↦ h.0
  | false ↦ found_owner os b h.1
]

module _ (good : ForksAreGood) (at : Layout) (image : Image) (kept : Kept) (fit : HasFitting at) (log : LogLiesInside at) where
  in_order : (g : ℕ) → IsKeptWell at image kept g → IsInOrder (state_of at image kept) g
  in_order g well = group_is_in_order good at image kept g fit log well.group well.firm well.order well.bytes well.list

  leaves : (b : State) (left : List Kind) (e : Entry) → IsKeptWell at image kept (group_of_entry (state_of at image kept) e) → is_of_repair e ≡ true → Given (state_of at image kept) e → Step (state_of at image kept) left e b → LeavesChunks (state_of at image kept) e
  unfolding group_of
  leaves b left (entries.Reserved g unit block spare) well repair given s = reserved_of_none (state_of at image kept) left g unit block spare well.firm.apart well.group given s.row.0
  leaves b left (entries.Switched g units.Rmap root second) well repair given s = λ blocks laid.
      mappings_can (state_of at image kept) g blocks laid s.row.1.own (own_inside at image kept g well.group well.firm.keeps well.order well.list) well.order.limbo_plain well.chunks fit log well.group (good at image kept)
  leaves b left (entries.Switched g units.Inode root second) well repair given s = tt
  leaves b left (entries.Switched g units.Free root second) well repair given s = tt
  leaves b left (entries.Switched g units.Refc root second) well repair given s = tt
  leaves b left (entries.Reaped e) well repair given s = ne_eqb (owner_of_run ((state_of at image kept).group e.group) e) (number_of Inodes) (found_owner ((state_of at image kept).group e.group).limbo e.block (no_chunks ((state_of at image kept).group e.group).limbo well.chunks))
  leaves b left (entries.Marked g k cause) well repair given s = tt
  leaves b left (entries.Fault g own fault) well repair given s = tt
  leaves b left (entries.Verdict g own verdict) well repair given s = tt
  leaves b left (entries.Reply writer line code done refused begun) well repair given s = tt
  leaves b left (entries.Released g own) well repair given s = tt
  leaves b left e well repair given s = absurd (false≢true repair)

pub repair_keeps_chunks : ForksAreGood → RepairKeepsChunks
repair_keeps_chunks good at image kept b left e fit log well repair given s = step_keeps_chunks (state_of at image kept) b left e fit s (leaves good at image kept fit log b left e well repair given s)

pub images_have_facts : ForksAreGood → ImagesHaveFacts
images_have_facts good at image image' kept kept' left (entries.Verdict g own verdict) fit log well firm bytes list given s = given
images_have_facts good at image image' kept kept' left (entries.Reserved g unit block spare) fit log well firm bytes list given s = (
  repair_keeps_chunks good at image kept (state_of at image' kept') left (entries.Reserved g unit block spare) fit log well refl given s,
  reserved_of_none (state_of at image kept) left g unit block spare well.firm.apart well.group given s.row.0,
  in_order good at image kept fit log g well,
  in_order good at image' kept' fit log g (repair_keeps_memory at image image' kept kept' left (entries.Reserved g unit block spare) g fit well refl given s well firm bytes list),
)
images_have_facts good at image image' kept kept' left (entries.Switched g unit root second) fit log well firm bytes list given s = (
  switch_can_be_made good at image kept (state_of at image' kept') left g unit root second fit log well.group well.firm.keeps well.order well.list well.chunks s,
  in_order good at image kept fit log g well,
)
images_have_facts good at image image' kept kept' left (entries.Reaped e) fit log well firm bytes list given s = (
  repair_keeps_chunks good at image kept (state_of at image' kept') left (entries.Reaped e) fit log well refl given s,
  in_order good at image kept fit log e.group well,
  in_order good at image' kept' fit log e.group (repair_keeps_memory at image image' kept kept' left (entries.Reaped e) e.group fit well refl given s well firm bytes list),
)
images_have_facts good at image image' kept kept' left e fit log well firm bytes list given s = tt

pub images_follow : ForksAreGood → ImagesFollow
images_follow good at image image' kept kept' left e h letters fit log well firm bytes list given s known =
    letters_follow (state_of at image kept) (state_of at image' kept') left e h letters fit s (images_have_facts good at image image' kept kept' left e fit log well firm bytes list given s) known

pub opened_is_kept_well : OpeningLaw → OpenedIsKeptWell
unfolding opened
opened_is_kept_well opening at image g lt apart bytes list = record {
  group = lt;
  firm = opening at image apart;
  order = opened_is_kept at image g;
  reserve_once = λ b. omega arith;
  chunks = refl;
  bytes = bytes;
  list = list;
}
