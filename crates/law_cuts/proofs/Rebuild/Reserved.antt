-- A reserved block gets the unit's owner: settled owners, and the mappings that tell them.
use Rattle.std.proofs.Common.{◌≡◌, ℕ, ◌+◌, ◌<◌, ◌≤◌, ◌==◌, ◌&&◌, ◌||◌, Bool, true, false, not, cond, nat_lt, List, [], ◌∷◌, ◌++◌, drop, map, refl, sym, ap, ap₂, subst, ◌∙◌, inl, inr, arith, eq-eqb}
use Rattle.std.specs.Prelude.{◌⊎◌, ◌^◌, nat_le, if◌then◌else◌}
use Rattle.std.proofs.lemmas.Bool.{true≢false}
use Rattle.std.proofs.lemmas.Bool.Decides.{nat_tests}
use Rattle.law_accounts.proofs.Account.Mappings.{edited_recs}
use Rattle.law_accounts.specs.Account.Ledger.{Sound}
use Rattle.law_accounts.specs.Account.Stated.{ChunksStay, ledger_at}
use Rattle.law_accounts.specs.Account.Steps.{IsWritten}
use Rattle.law_writers.proofs.Change.Rows as chunk_rows
use Rattle.law_writers.proofs.Change.Settled.{other_entries_keep}
use Rattle.fs_change.proofs.Beside as beside
use Rattle.fs_change.proofs.Sets.{has_passing, same_is, same_self}
use Rattle.fs_change.proofs.Stays.{decided_stands}
use Rattle.fs_change.proofs.Trees.{spaced}
use Rattle.fs_change.specs.Chains.{settled_forks, settled_own}
use Rattle.fs_change.specs.Changes.{block_extent, give_owner, plain_run, take_free, take_owner}
use Rattle.fs_change.specs.Loose.{owners_in}
use Rattle.fs_change.specs.Met.{give_each, take_each}
use Rattle.fs_change.specs.Parts.{change_tree, edit, is_sick, records_in, with_recs}
use Rattle.fs_change.specs.Records.{give_mapping, take_mapping}
use Rattle.fs_change.specs.Switch.{unit_owner}
use Rattle.fs_state.specs.Chunks.{chunks}
use Rattle.fs_state.specs.Claims.{Claimed, claimed_by, claims, metadata_claims}
use Rattle.fs_state.specs.Derive.{mappings}
use Rattle.fs_model.specs.declared.claim.Claim.TheVariants.{Limbo}
use Rattle.fs_model.specs.declared.entry.Entry.{Entry}
use Rattle.fs_model.specs.declared.entry.Entry.TheVariants as entries
use Rattle.fs_model.specs.declared.unit.Unit.{Unit as ScrubUnit}
use Rattle.fs_model.specs.declared.unit.Unit.TheVariants as units
use Rattle.fs_state.specs.Group.{is_among}
use Rattle.fs_state.specs.Kinds.{RecOf}
use Rattle.fs_state.specs.State.{Group, Index, Owned, Readable, Reading, State, Unreadable, blocks_in, is_readable, recs_of}
use Rattle.geom.specs.Apart.{HasFitting}
use Rattle.law_repairs.proofs.Move.Claiming.{metadata_is, owned_plain, owned_times, owner_plain, total_is}
use Rattle.law_accounts.proofs.Owner.Members.{runs_by, same_chunks, settled_is}
use Rattle.law_accounts.proofs.Owner.Nobodys.{takes_nobodys}
use Rattle.law_accounts.specs.Owner.Nobodys.{IsNobodys}
use Rattle.law_accounts.specs.Owner.Told.{AreTold}
use Rattle.law_repairs.proofs.Repair.Totals.{chunk_part, front_part, has_weight, is_owner, limbo_weight, owned_by, weigh, weigh_both}
use Rattle.law_repairs.proofs.Reserve.OwnGroup.{from_list, held_now}
use Rattle.law_repairs.proofs.Reserve.Owning.{SameHeld, same_owners}
use Rattle.law_repairs.proofs.Reserve.Reserving.{reserve_grows, reserved_group, reserved_in, with_reserve}
use Rattle.law_repairs.proofs.Reserve.Turning.{FromList, list_owners}
use Rattle.rmap_recs.specs.Owners.{number_of}
use Rattle.rmap_recs.specs.declared.owner.Owner.TheVariants.{Ag}
use Rattle.rmap_recs.specs.Runs.{AreRuns, has, is_same}
use Rattle.rmap_recs.specs.declared.records.RmapRec.{RmapRec}
use Rattle.rmap_recs.specs.declared.tuples.Tuple.{Tuple}
use Rattle.sblock.specs.declared.kind.Kind.{Kind}
use Rattle.sblock.specs.declared.kind.Kind.TheVariants.{Rmap}
use Rattle.tree_defs.specs.Lists.{times}
use Rattle.law_cuts.proofs.Cut.Cut.{owned_sum, stands_alone}
use Rattle.law_cuts.proofs.Cut.Told.{given_runs, owner_less, taken_runs, tuple_for, weigh_less, without}
use Rattle.law_cuts.specs.Rebuild.Reserved.{IsReserved, ListedTold, SpareTold, TurnedTold}

abbrev pair : ℕ → ℕ → Owned
pair owner b = record { block = b; owner = owner }

abbrev bit : Tuple → Owned → ℕ
bit t o = if is_same t (tuple_for o) then 1 else 0

-- ---- edits of mappings

written_by : (left : List Kind) (p q : Group) → q.tree Rmap ≡ p.tree Rmap → IsWritten left p → IsWritten left q
written_by left p q same w = record {
  edited = ap (λ (t : Index (RecOf Rmap)). if is_sick t.trust then false else if is_among Rmap left then false else true) same ∙ w.edited;
  readable = ap (λ (t : Index (RecOf Rmap)). is_readable t.reading) same ∙ w.readable;
}

read_again : (recs : List RmapRec) (r : Reading RmapRec) → is_readable (with_recs recs r) ≡ is_readable r
read_again recs (Readable old blocks) = refl
read_again recs (Unreadable block fault claims) = refl

-- a tree that was edited can be again
written_again : (left : List Kind) (f : List RmapRec → List RmapRec) (p : Group) → IsWritten left p → IsWritten left (edit left Rmap f p)
written_again left f p w =
    subst (IsWritten left) (sym (ap (λ t. cond t (change_tree Rmap (λ i. record i { reading = with_recs (f (recs_of i.reading)) i.reading }) p) p) w.edited))
    (record { edited = w.edited; readable = read_again (f (recs_of (p.tree Rmap).reading)) (p.tree Rmap).reading ∙ w.readable })

-- what is there of a block that a unit reserves: its reserve, its owners, and its mappings
module _ (left : List Kind) (g b : ℕ) (p : Group) (w : IsWritten left p) where
  turned_maps : (unit : ScrubUnit) → (unit ≡ units.Inode) ⊎ (unit ≡ units.Refc)
      → records_in (reserved_group left g unit b false p) Rmap ≡ give_each (pair (unit_owner unit) b ∷ []) (take_each (pair (number_of Ag) b ∷ []) (records_in p Rmap))
  turned_maps unit (inl e) = subst (λ u. records_in (reserved_group left g u b false p) Rmap ≡ give_each (pair (unit_owner u) b ∷ []) (take_each (pair (number_of Ag) b ∷ []) (records_in p Rmap))) (sym e) (two units.Inode)
    where
      two : (u : ScrubUnit)
          → records_in (give_owner left (unit_owner u) (block_extent g b) (take_owner left (number_of Ag) (block_extent g b) (record (with_reserve u b p) { free_list = drop 1 p.free_list }))) Rmap
          ≡ give_each (pair (unit_owner u) b ∷ []) (take_each (pair (number_of Ag) b ∷ []) (records_in p Rmap))
      two u =
          let r : Group = record (with_reserve u b p) { free_list = drop 1 p.free_list } in
          let wr : IsWritten left r = record { edited = w.edited; readable = w.readable } in
          edited_recs left (give_mapping (plain_run (unit_owner u) (block_extent g b))) (take_owner left (number_of Ag) (block_extent g b) r) (written_again left (take_mapping (plain_run (number_of Ag) (block_extent g b))) r wr)
          ∙ ap (give_mapping (plain_run (unit_owner u) (block_extent g b))) (edited_recs left (take_mapping (plain_run (number_of Ag) (block_extent g b))) r wr)
  turned_maps unit (inr e) = subst (λ u. records_in (reserved_group left g u b false p) Rmap ≡ give_each (pair (unit_owner u) b ∷ []) (take_each (pair (number_of Ag) b ∷ []) (records_in p Rmap))) (sym e) two
    where
      two : records_in (reserved_group left g units.Refc b false p) Rmap ≡ give_each (pair (unit_owner units.Refc) b ∷ []) (take_each (pair (number_of Ag) b ∷ []) (records_in p Rmap))
      two =
          let r : Group = record (with_reserve units.Refc b p) { free_list = drop 1 p.free_list } in
          let wr : IsWritten left r = record { edited = w.edited; readable = w.readable } in
          edited_recs left (give_mapping (plain_run (unit_owner units.Refc) (block_extent g b))) (take_owner left (number_of Ag) (block_extent g b) r) (written_again left (take_mapping (plain_run (number_of Ag) (block_extent g b))) r wr)
          ∙ ap (give_mapping (plain_run (unit_owner units.Refc) (block_extent g b))) (edited_recs left (take_mapping (plain_run (number_of Ag) (block_extent g b))) r wr)

  spare_one : (u : ScrubUnit) → records_in (give_owner left (unit_owner u) (block_extent g b) (take_free left (block_extent g b) (with_reserve u b p))) Rmap ≡ give_each (pair (unit_owner u) b ∷ []) (records_in p Rmap)
  spare_one u =
      let r : Group = with_reserve u b p in
      let same : (take_free left (block_extent g b) r).tree Rmap ≡ p.tree Rmap = spaced left Rmap (block_extent g b) r refl refl in
      edited_recs left (give_mapping (plain_run (unit_owner u) (block_extent g b))) (take_free left (block_extent g b) r) (written_by left p (take_free left (block_extent g b) r) same w)
      ∙ ap (λ (t : Index (RecOf Rmap)). give_mapping (plain_run (unit_owner u) (block_extent g b)) (recs_of t.reading)) same

  spare_maps : (unit : ScrubUnit) → (unit ≡ units.Inode) ⊎ (unit ≡ units.Refc) → records_in (reserved_group left g unit b true p) Rmap ≡ give_each (pair (unit_owner unit) b ∷ []) (records_in p Rmap)
  spare_maps unit (inl e) = subst (λ u. records_in (reserved_group left g u b true p) Rmap ≡ give_each (pair (unit_owner u) b ∷ []) (records_in p Rmap)) (sym e) (spare_one units.Inode)
  spare_maps unit (inr e) = subst (λ u. records_in (reserved_group left g u b true p) Rmap ≡ give_each (pair (unit_owner u) b ∷ []) (records_in p Rmap)) (sym e) (spare_one units.Refc)

listed_maps : (left : List Kind) (g b : ℕ) (p : Group) (unit : ScrubUnit) → (unit ≡ units.Free) ⊎ (unit ≡ units.Rmap) → records_in (reserved_group left g unit b false p) Rmap ≡ records_in p Rmap
listed_maps left g b p unit (inl e) = subst (λ u. records_in (reserved_group left g u b false p) Rmap ≡ records_in p Rmap) (sym e) refl
listed_maps left g b p unit (inr e) = subst (λ u. records_in (reserved_group left g u b false p) Rmap ≡ records_in p Rmap) (sym e) refl

-- ---- settled owners

-- all that the entry says of them
record Follows (a x : State) (g owner b : ℕ) : Type 0 where
  pub geometry : x.geometry ≡ a.geometry
  pub units : chunks x g ≡ chunks a g
  pub reserve : (x.group g).reserve ≡ (a.group g).reserve ++ pair owner b ∷ []
  pub forks : settled_forks x g ≡ settled_forks a g

or_none : (z : Bool) → (z || false) ≡ z
or_none true = refl
or_none false = refl

module _ (a x : State) (g owner b : ℕ) (k : Follows a x g owner b) where
  abbrev p : Group
  p = a.group g

  abbrev q : Group
  q = x.group g

  abbrev front : Tuple → ℕ
  front t = weigh (is_owner t) (front_part a.geometry g)

  abbrev kept : Tuple → ℕ
  kept t = weigh (limbo_weight (is_owner t)) p.reserve

  abbrev unit_part : Tuple → ℕ
  unit_part t = weigh (is_owner t) (chunk_part (chunks a g))

  abbrev pooled : Tuple → Group → ℕ
  pooled t r = weigh (limbo_weight (is_owner t)) (owners_in r)

  abbrev of_forks : Tuple → Bool
  of_forks t = has (settled_forks a g) t

  owns_before : (t : Tuple) → has (settled_own a g) t ≡ (nat_lt 0 (front t + pooled t p + kept t + unit_part t) || of_forks t)
  owns_before t = settled_is a g t ∙ ap (λ (z : Bool). z || of_forks t) (has_weight (metadata_claims a g) t ∙ ap (nat_lt 0) (metadata_is (is_owner t) (owner_plain t) a g))

  owns_then : (t : Tuple) → has (settled_own x g) t ≡ (nat_lt 0 (front t + pooled t q + (kept t + (bit t (pair owner b) + 0)) + unit_part t) || of_forks t)
  owns_then t =
      settled_is x g t
      ∙ ap₂ (λ (y z : Bool). y || z)
      (has_weight (metadata_claims x g) t ∙ ap (nat_lt 0) (metadata_is (is_owner t) (owner_plain t) x g)
      ∙ (λ i. nat_lt 0 (weigh (is_owner t) (front_part (k.geometry i) g) + pooled t q + weigh (limbo_weight (is_owner t)) (k.reserve i) + weigh (is_owner t) (chunk_part (k.units i))))
      ∙ ap (λ n. nat_lt 0 (front t + pooled t q + n + unit_part t)) (weigh_both (limbo_weight (is_owner t)) p.reserve (pair owner b ∷ [])))
      (ap (λ ts. has ts t) k.forks)

  -- ---- a spare block

  spare_owns : owners_in q ≡ owners_in p → (t : Tuple) → has (settled_own x g) t ≡ (is_same t (tuple_for (pair owner b)) || has (settled_own a g) t)
  spare_owns same t =
      owns_then t ∙ ap (λ os. nat_lt 0 (front t + weigh (limbo_weight (is_owner t)) os + (kept t + (bit t (pair owner b) + 0)) + unit_part t) || of_forks t) same
      ∙ by (is_same t (tuple_for (pair owner b)))
      ∙ ap (λ (z : Bool). is_same t (tuple_for (pair owner b)) || z) (sym (owns_before t))
    where
      more : (f o r c : ℕ) → nat_lt 0 (f + o + (r + (1 + 0)) + c) ≡ true
      more f o r c = grind (arith, nat_tests)

      none : (f o r c : ℕ) → f + o + (r + (0 + 0)) + c ≡ f + o + r + c
      none f o r c = omega arith

      by : (s : Bool) → (nat_lt 0 (front t + pooled t p + (kept t + ((if s then 1 else 0) + 0)) + unit_part t) || of_forks t) ≡ (s || (nat_lt 0 (front t + pooled t p + kept t + unit_part t) || of_forks t))
      by true = ap (λ (z : Bool). z || of_forks t) (more (front t) (pooled t p) (kept t) (unit_part t))
      by false = ap (λ n. nat_lt 0 n || of_forks t) (none (front t) (pooled t p) (kept t) (unit_part t))

  -- ---- a block of the list

  module _ (from : FromList p q b) where
    pooled_before : (t : Tuple) → pooled t p ≡ bit t (pair (number_of Ag) b) + pooled t q
    pooled_before t = ap (weigh (limbo_weight (is_owner t))) (list_owners p q b from)

    -- that keeps its owner
    listed_owns : owner ≡ number_of Ag → (t : Tuple) → has (settled_own x g) t ≡ has (settled_own a g) t
    listed_owns same t =
        owns_then t ∙ ap (λ o. nat_lt 0 (front t + pooled t q + (kept t + (bit t (pair o b) + 0)) + unit_part t) || of_forks t) same
        ∙ ap (λ n. nat_lt 0 n || of_forks t) (turn (front t) (pooled t q) (kept t) (bit t (pair (number_of Ag) b)) (unit_part t) (pooled t p) (pooled_before t))
        ∙ sym (owns_before t)
      where
        turn : (f o r n c w : ℕ) → w ≡ n + o → f + o + (r + (n + 0)) + c ≡ f + w + r + c
        turn f o r n c w e = omega (arith, e)

    -- or gets another: of one that is sound nothing else is owned
    module _ (other : (owner == number_of Ag) ≡ false) (sound : Sound (ledger_at a g b)) (no_forks : (t : Tuple) → t.block ≡ b → has (settled_forks a g) t ≡ false) where
      nothing_else : (t : Tuple) → t.block ≡ b → front t + pooled t q + kept t + unit_part t ≡ 0
      nothing_else t at =
          let own : ℕ → Claimed → ℕ = owned_by in
          let split = ap (weigh (limbo_weight (own b))) (list_owners p q b from) in
          let here : ◌≡◌ {A = ℕ} (if b == b then 1 else 0) 1 = ap (λ (z : Bool). if z then 1 else 0) (eq-eqb b b refl) in
          let those = owned_times b (owners_in p) in
          let one = stands_alone a g b sound (omega (arith, split, here, those)) in
          let owned = owned_sum b (claims a g) in
          let all = total_is (own b) (owned_plain b) a g in
          let less : (c : Claimed) → is_owner t c ≤ own b c = λ c. subst (λ m. is_owner t c ≤ own m c) at (owner_less t c) in
          let l1 = weigh_less (is_owner t) (own b) (front_part a.geometry g) less in
          let l2 = weigh_less (limbo_weight (is_owner t)) (limbo_weight (own b)) (owners_in q) (λ o. less (claimed_by Limbo o.owner o.block)) in
          let l3 = weigh_less (limbo_weight (is_owner t)) (limbo_weight (own b)) p.reserve (λ o. less (claimed_by Limbo o.owner o.block)) in
          let l4 = weigh_less (is_owner t) (own b) (chunk_part (chunks a g)) less in
          sums _ _ _ _ _ _ _ _ _ _ _ _ _ owned all split here one l1 l2 l3 l4
        where
          sums : (n w f o r c v d z f' q' r' c' : ℕ) → n ≡ w → w ≡ f + o + r + c + v → o ≡ d + z → d ≡ 1 → n ≡ 1 → f' ≤ f → q' ≤ z → r' ≤ r → c' ≤ c → f' + q' + r' + c' ≡ 0
          sums n w f o r c v d z f' q' r' c' e1 e2 e3 e4 e5 l1 l2 l3 l4 = omega (arith, e1, e2, e3, e4, e5, l1, l2, l3, l4)

      not_both : (t : Tuple) → is_same t (tuple_for (pair owner b)) ≡ true → is_same t (tuple_for (pair (number_of Ag) b)) ≡ false
      not_both t h = by (is_same t (tuple_for (pair (number_of Ag) b))) refl
        where
          by : (s : Bool) → is_same t (tuple_for (pair (number_of Ag) b)) ≡ s → s ≡ false
          by true e = absurd (true≢false (sym (eq-eqb owner (number_of Ag) (ap (λ (u : Tuple). u.owner) (sym (same_is t (tuple_for (pair owner b)) h) ∙ same_is t (tuple_for (pair (number_of Ag) b)) e))) ∙ other))
          by false e = refl

      turned_owns : (t : Tuple) → has (settled_own x g) t ≡ has (map tuple_for (pair owner b ∷ []) ++ without (pair (number_of Ag) b ∷ []) (settled_own a g)) t
      turned_owns t =
          owns_then t
          ∙ by (is_same t (tuple_for (pair owner b))) refl (is_same t (tuple_for (pair (number_of Ag) b))) refl
          ∙ sym (ap (λ (z : Bool). is_same t (tuple_for (pair owner b)) || z) (has_passing (λ u. not (has (map tuple_for (pair (number_of Ag) b ∷ [])) u)) (settled_own a g) t
          ∙ ap₂ (λ (y z : Bool). y && not (z || false)) (owns_before t ∙ ap (λ n. nat_lt 0 (front t + n + kept t + unit_part t) || of_forks t) (pooled_before t)) refl))
        where
          more : (f o r c : ℕ) → nat_lt 0 (f + o + (r + (1 + 0)) + c) ≡ true
          more f o r c = grind (arith, nat_tests)

          less : (f o r c : ℕ) → f + o + r + c ≡ 0 → nat_lt 0 (f + o + (r + (0 + 0)) + c) ≡ false
          less f o r c e = grind (arith, nat_tests)

          turn : (f o r c : ℕ) → f + o + (r + (0 + 0)) + c ≡ f + (0 + o) + r + c
          turn f o r c = omega arith

          out : (z : Bool) → false ≡ (z && false)
          out true = refl
          out false = refl

          all : (z : Bool) → z ≡ (z && true)
          all true = refl
          all false = refl

          by : (s : Bool) → is_same t (tuple_for (pair owner b)) ≡ s → (d : Bool) → is_same t (tuple_for (pair (number_of Ag) b)) ≡ d
              → (nat_lt 0 (front t + pooled t q + (kept t + ((if s then 1 else 0) + 0)) + unit_part t) || of_forks t)
              ≡ (s || ((nat_lt 0 (front t + ((if d then 1 else 0) + pooled t q) + kept t + unit_part t) || of_forks t) && not (d || false)))
          by true e d f = ap (λ (z : Bool). z || of_forks t) (more (front t) (pooled t q) (kept t) (unit_part t))
          by false e true f =
              let at : t.block ≡ b = ap (λ (u : Tuple). u.block) (same_is t (tuple_for (pair (number_of Ag) b)) f) in
              ap₂ (λ (y z : Bool). y || z) (less (front t) (pooled t q) (kept t) (unit_part t) (nothing_else t at)) (no_forks t at)
              ∙ out (nat_lt 0 (front t + (1 + pooled t q) + kept t + unit_part t) || of_forks t)
          by false e false f = ap (λ n. nat_lt 0 n || of_forks t) (turn (front t) (pooled t q) (kept t) (unit_part t)) ∙ all (nat_lt 0 (front t + (0 + pooled t q) + kept t + unit_part t) || of_forks t)

      new_alone : has (settled_own a g) (tuple_for (pair owner b)) ≡ false
      new_alone =
          let t : Tuple = tuple_for (pair owner b) in
          let gone = not_both t (same_self t) in
          owns_before t
          ∙ ap₂ (λ (y z : Bool). y || z)
          (ap (λ n. nat_lt 0 (front t + n + kept t + unit_part t)) (pooled_before t ∙ ap (λ (z : Bool). (if z then 1 else 0) + pooled t q) gone) ∙ none (front t) (pooled t q) (kept t) (unit_part t) (nothing_else t refl))
          (no_forks t refl)
        where
          none : (f o r c : ℕ) → f + o + r + c ≡ 0 → nat_lt 0 (f + (0 + o) + r + c) ≡ false
          none f o r c e = grind (arith, nat_tests)

      old_there : has (settled_own a g) (tuple_for (pair (number_of Ag) b)) ≡ true
      old_there =
          let t : Tuple = tuple_for (pair (number_of Ag) b) in
          owns_before t ∙ ap (λ n. nat_lt 0 (front t + n + kept t + unit_part t) || of_forks t) (pooled_before t ∙ ap (λ (z : Bool). (if z then 1 else 0) + pooled t q) (same_self t))
          ∙ ap (λ (z : Bool). z || of_forks t) (some (front t) (pooled t q) (kept t) (unit_part t))
        where
          some : (f o r c : ℕ) → nat_lt 0 (f + (1 + o) + r + c) ≡ true
          some f o r c = grind (arith, nat_tests)

once_in : (o : Owned) (k : ℕ) → times k (blocks_in (o ∷ [])) ≤ 1
once_in o k = by (o.block == k)
  where
    by : (t : Bool) → (if t then 1 else 0) + 0 ≤ 1
    by true = omega arith
    by false = omega arith

-- what holds of a pair's tuple holds of the tuple of a list of it
of_one : (P : Tuple → Type 0) (o : Owned) → P (tuple_for o) → (t : Tuple) → has (map tuple_for (o ∷ [])) t ≡ true → P t
of_one P o h t e = subst P (sym (same_is t (tuple_for o) (sym (or_none (is_same t (tuple_for o))) ∙ e))) h

-- ---- the entry

module _ (a x : State) (left : List Kind) (g b : ℕ) (unit : ScrubUnit) (spare : Bool) (fit : HasFitting a.geometry) (r : IsReserved a x left g b unit spare) where
  abbrev entry : Entry
  entry = entries.Reserved g unit b spare

  follows : Follows a x g (unit_owner unit) b
  follows =
      let at : x.geometry ≡ a.geometry = (beside.decided a x left entry r.made.made.row).geometry in
      let stay : ChunksStay a x = chunk_rows.decided a x left entry fit r.made.made.row r.no_chunk in
      record {
        geometry = at;
        units = same_chunks a x at stay g;
        reserve = ap (λ (s : State). (s.group g).reserve) r.made.made.row.1 ∙ ap (λ (s : Group). s.reserve) (reserved_in left g unit b spare a) ∙ reserve_grows left g b (a.group g) unit spare;
        forks = other_entries_keep a x left entry g fit (decided_stands a x left entry r.made.made.row r.made.made.leaves r.made.made.met r.made.words) r.no_chunk;
      }

  maps_by : (recs : List RmapRec) → records_in (reserved_group left g unit b spare (a.group g)) Rmap ≡ recs → mappings x g ≡ recs
  maps_by recs e = ap (λ (s : State). mappings s g) r.made.made.row.1 ∙ ap (λ (s : Group). records_in s Rmap) (reserved_in left g unit b spare a) ∙ e

from_row : (a x : State) (left : List Kind) (g b : ℕ) (unit : ScrubUnit) → IsReserved a x left g b unit false → FromList (a.group g) (x.group g) b
from_row a x left g b unit r = subst (λ (s : State). FromList (a.group g) (s.group g) b) (sym r.made.made.row.1) (from_list a left g unit b r.made.made.row.0.1)

pub listed_told : ListedTold
listed_told a x left g b unit which fit r told =
    subst (AreRuns (settled_own x g)) (sym (maps_by a x left g b unit false fit r (mappings a g) (listed_maps left g b (a.group g) unit which)))
    (runs_by (settled_own a g) (settled_own x g) (listed_owns a x g (unit_owner unit) b (follows a x left g b unit false fit r) (from_row a x left g b unit r) (owner_is unit which)) (mappings a g) told)
  where
    owner_is : (u : ScrubUnit) → (u ≡ units.Free) ⊎ (u ≡ units.Rmap) → unit_owner u ≡ number_of Ag
    owner_is u (inl e) = ap unit_owner e
    owner_is u (inr e) = ap unit_owner e

pub turned_told : TurnedTold
turned_told a x left g b unit which fit r gets sound no_forks untied told =
    let old : Owned = pair (number_of Ag) b in
    let new : Owned = pair (unit_owner unit) b in
    let k = follows a x left g b unit false fit r in
    let from = from_row a x left g b unit r in
    let alone = new_alone a x g (unit_owner unit) b k from (other unit which) sound no_forks in
    let there = old_there a x g (unit_owner unit) b k from (other unit which) sound no_forks in
    let owns = turned_owns a x g (unit_owner unit) b k from (other unit which) sound no_forks in
    let taken : AreRuns (without (old ∷ []) (settled_own a g)) (take_each (old ∷ []) (mappings a g)) =
    taken_runs (settled_own a g) (mappings a g) (old ∷ []) (once_in old) (of_one (λ t. (t.block < 2 ^ 32) × (has (settled_own a g) t ≡ true)) old (gets.small, there)) untied told in
    let given : AreRuns (map tuple_for (new ∷ []) ++ without (old ∷ []) (settled_own a g)) (give_each (new ∷ []) (take_each (old ∷ []) (mappings a g))) =
    given_runs (without (old ∷ []) (settled_own a g)) (settled_own x g) (take_each (old ∷ []) (mappings a g)) (new ∷ []) (once_in new)
    (of_one (λ t. (t.block < 2 ^ 32) × (has (without (old ∷ []) (settled_own a g)) t ≡ false)) new
    (gets.small, has_passing (λ u. not (has (map tuple_for (old ∷ [])) u)) (settled_own a g) (tuple_for new) ∙ ap (λ (z : Bool). z && not (has (map tuple_for (old ∷ [])) (tuple_for new))) alone))
    gets.untied (λ t h. owns t ∙ h) taken in
    subst (AreRuns (settled_own x g)) (sym (maps_by a x left g b unit false fit r (give_each (new ∷ []) (take_each (old ∷ []) (mappings a g))) (turned_maps left g b (a.group g) gets.written unit which)))
    (runs_by (map tuple_for (new ∷ []) ++ without (old ∷ []) (settled_own a g)) (settled_own x g) owns (give_each (new ∷ []) (take_each (old ∷ []) (mappings a g))) given)
  where
    other : (u : ScrubUnit) → (u ≡ units.Inode) ⊎ (u ≡ units.Refc) → (unit_owner u == number_of Ag) ≡ false
    other u (inl e) = ap (λ v. unit_owner v == number_of Ag) e
    other u (inr e) = ap (λ v. unit_owner v == number_of Ag) e

-- a spare block is nobody's
spare_nobodys : (a x : State) (left : List Kind) (g b : ℕ) (unit : ScrubUnit) → (unit ≡ units.Inode) ⊎ (unit ≡ units.Refc) → IsReserved a x left g b unit true → ((h : ℕ) → AreTold a h) → IsNobodys a (block_extent g b)
spare_nobodys a x left g b unit (inl e) r told = (takes_nobodys a x left (entries.Reserved g units.Inode b true) (subst (λ u. IsReserved a x left g b u true) e r).made.made.row told).0
spare_nobodys a x left g b unit (inr e) r told = (takes_nobodys a x left (entries.Reserved g units.Refc b true) (subst (λ u. IsReserved a x left g b u true) e r).made.made.row told).0

pub spare_told : SpareTold
spare_told a x left g b unit which fit r gets told =
    let new : Owned = pair (unit_owner unit) b in
    let k = follows a x left g b unit true fit r in
    let held : SameHeld (a.group g) (x.group g) = subst (λ (s : State). SameHeld (a.group g) (s.group g)) (sym r.made.made.row.1) (held_now a left g unit b) in
    let owns : (t : Tuple) → has (settled_own x g) t ≡ has (map tuple_for (new ∷ []) ++ settled_own a g) t = λ t. spare_owns a x g (unit_owner unit) b k (same_owners (a.group g) (x.group g) held) t in
    let given : AreRuns (map tuple_for (new ∷ []) ++ settled_own a g) (give_each (new ∷ []) (mappings a g)) =
    given_runs (settled_own a g) (settled_own x g) (mappings a g) (new ∷ []) (once_in new)
    (of_one (λ t. (t.block < 2 ^ 32) × (has (settled_own a g) t ≡ false)) new (gets.small, alone (spare_nobodys a x left g b unit which r told)))
    gets.untied (λ t h. owns t ∙ h) (told g) in
    subst (AreRuns (settled_own x g)) (sym (maps_by a x left g b unit true fit r (give_each (new ∷ []) (mappings a g)) (spare_maps left g b (a.group g) gets.written unit which)))
    (runs_by (map tuple_for (new ∷ []) ++ settled_own a g) (settled_own x g) owns (give_each (new ∷ []) (mappings a g)) given)
  where
    not_true : (z : Bool) → (z ≡ true → ⊥) → z ≡ false
    not_true true f = absurd (f refl)
    not_true false f = refl

    inside : (s : ℕ) → (nat_le s s && nat_lt s (s + 1)) ≡ true
    inside s = grind (arith, nat_tests)

    alone : IsNobodys a (block_extent g b) → has (settled_own a g) (tuple_for (pair (unit_owner unit) b)) ≡ false
    alone nobody = not_true _ (λ h. true≢false (sym (inside b) ∙ nobody (tuple_for (pair (unit_owner unit) b)) h))
