-- What is kept in memory stays in order behind each entry of a repair.
use Rattle.std.proofs.Common.{◌≡◌, ℕ, ◌<◌, ◌≤◌, ◌==◌, ◌&&◌, Bool, true, false, not, List, [], ◌∷◌, ◌++◌, flat_map, Option, Some, None, refl, ap, sym, subst, ◌∙◌, inl, inr, arith}
use Rattle.std.specs.Prelude.{find, if◌then◌else◌}
use Rattle.std.specs.List.{list_all}
use Rattle.std.proofs.lemmas.Bool.{and_parts, cases_Bool, eqb-true, false≢true, ne_eqb, not-true}
use Rattle.fs_change.proofs.Beside.{changes_one_group}
use Rattle.fs_change.proofs.Trees.{in_itself}
use Rattle.fs_change.specs.Changes.{judge, judged, marked, owner_of_run, reap_in, reaped, released, reserved}
use Rattle.fs_change.specs.Choice.{has_claim, is_spare, spare_block}
use Rattle.fs_change.specs.Edited.{edited_in, edited_kinds, edits_reserve, group_of_entry}
use Rattle.fs_change.specs.Loose.{pool_of, tree_blocks}
use Rattle.fs_change.specs.Parts.{is_edited, is_sick, set_trust}
use Rattle.fs_change.specs.Step.{MayReserve, Step}
use Rattle.fs_change.specs.Switch.{join_limbo}
use Rattle.fs_state.specs.Claims.{claims, metadata_claims}
use Rattle.fs_state.specs.Faults.{kind_of_fault}
use Rattle.fs_state.specs.Records.{all_kinds}
use Rattle.fs_state.specs.Lists.{numbers}
use Rattle.fs_model.specs.declared.entry.Entry.{Entry}
use Rattle.fs_model.specs.declared.entry.Entry.TheVariants as entries
use Rattle.fs_model.specs.declared.unit.Trust.{Trust}
use Rattle.fs_model.specs.declared.unit.Trust.TheVariants.{Good, Sick, Unknown}
use Rattle.fs_model.specs.declared.unit.Unit.{Unit as ScrubUnit}
use Rattle.fs_model.specs.declared.unit.Unit.TheVariants as units
use Rattle.fs_state.specs.Frame.{Firm}
use Rattle.fs_state.specs.Kinds.{Image}
use Rattle.fs_state.specs.Apart.{ReserveOf}
use Rattle.fs_state.specs.Read.{group_of, reading_of, state_of}
use Rattle.fs_state.specs.State.{Bad, Group, Kept, Owned, State, blocks_in, is_readable, pairs_of}
use Rattle.geom.specs.Apart.{HasFitting}
use Rattle.geom.specs.Layout.{Layout, group_len_of}
use Rattle.law_repairs.specs.Letter.Known.{is_of_repair}
use Rattle.law_repairs.proofs.Move.Loose.{filter_own}
use Rattle.law_repairs.specs.Move.Moving.{is_own}
use Rattle.law_repairs.proofs.Repair.Same.{in_numbers}
use Rattle.law_repairs.proofs.Reserve.Reserved.{is_found}
use Rattle.law_repairs.proofs.Reserve.Reserving.{list_steady, off_list, reserved_group, reserved_in, spare_steady, with_reserve}
use Rattle.rmap_recs.specs.Owners.{is_inode, number_of}
use Rattle.rmap_recs.specs.declared.owner.Owner.TheVariants.{Inodes}
use Rattle.sblock.specs.declared.kind.Kind.{Kind}
use Rattle.sblock.specs.declared.kind.Kind.TheVariants.{Bno, Cnt, Rmap}
use Rattle.tree_defs.proofs.Counts.{times_append}
use Rattle.tree_defs.specs.Lists.{AllDiffer, In, times}
use Rattle.law_repairs.specs.Order.Kept.{AreNoChunks, AreNoInodes, HeadsAreBytes, LieBelow, ListIsAccepted}
use Rattle.law_repairs.specs.Order.Repairs.{Given, IsKeptWell, RepairKeepsMemory}
use Rattle.law_repairs.proofs.Order.Blocks.{AreParts, HasParts, image_parts, in_cases, in_owned, once_with}
use Rattle.law_repairs.proofs.Order.Entries.{tidy_judged, tidy_listed, tidy_reaped, tidy_released, tidy_spare, tidy_steady, tidy_trusts}
use Rattle.law_repairs.proofs.Order.Lists.{Every, every_test, every_weaker, test_every}
use Rattle.law_repairs.proofs.Order.Readings.{bad_is_sick}
use Rattle.law_repairs.proofs.Order.Switching.{no_chunks, not_chunks}
use Rattle.law_repairs.proofs.Order.Tidy.{IsTidy, IsTreeOwner, fewer_inside, fewer_once, held_of, held_times, inside_tidy, none_claimed, none_held, tree_less}
use Rattle.law_repairs.proofs.Order.Turned.{tidy_switched}

-- ---- what is kept of an image is a tidy group

both_below : (len : ℕ) (xs ys : List ℕ) → LieBelow len xs → LieBelow len ys → LieBelow len (xs ++ ys)
both_below len xs ys h k p i = elim (in_cases p xs ys i) [ inl j ↦ h p j | inr j ↦ k p j ]

trees_below : (len : ℕ) (f : Kind → List ℕ) (ks : List Kind) → ((k : Kind) → LieBelow len (f k)) → LieBelow len (flat_map f ks)
trees_below len f [] h = λ p i. absurd i
trees_below len f (k ∷ ks) h = both_below len (f k) (flat_map f ks) (h k) (trees_below len f ks h)

zip_owned : (os : List Owned) → AreNoInodes os → AreNoChunks os → Every IsTreeOwner os
zip_owned os plain others = both os (test_every (λ (o : Owned). not (is_inode o.owner)) os plain) (no_chunks os others)
  where
    both : (ps : List Owned) → Every (λ (o : Owned). not (is_inode o.owner) ≡ true) ps → Every (λ (o : Owned). not_chunks o.owner) ps → Every IsTreeOwner ps
    both [] h k = tt
    both (p ∷ ps) h k = ((not-true (is_inode p.owner) h.0, k.0), both ps h.1 k.1)

module _ (at : Layout) (image : Image) (kept : Kept) (g : ℕ) where
  held_once : HasFitting at → IsKeptWell at image kept g → AllDiffer (held_of ((state_of at image kept).group g))
  unfolding group_of
  held_once fit well =
      let a : State = state_of at image kept in
      let os : List ℕ = blocks_in (a.group g).reserve in
      let more : AreParts a g ((ReserveOf g, os) ∷ []) = (
        record {
          once = well.reserve_once;
          inside = well.order.reserve_inside;
          has = λ p i. record { inside = well.group; block = p; holds = in_owned p (a.group g).reserve i; place = refl };
        },
        tt,
      ) in
      let all = once_with a g well.firm.apart (image_parts at image kept g fit well.group well.firm well.order well.list) ((ReserveOf g, os) ∷ []) (refl, tt) more in
      λ b.
      let sum = times_append b (pool_of (a.group g)) os in
      let whole = times_append b (pool_of (a.group g)) (os ++ []) in
      let none = times_append b os [] in
      let one = all b in
      omega (arith, sum, whole, none, one)

  pub tidy_of : HasFitting at → IsKeptWell at image kept g → IsTidy (group_len_of at g) ((state_of at image kept).group g)
  unfolding group_of
  tidy_of fit well =
      let p : Group = (state_of at image kept).group g in
      let parts : HasParts (state_of at image kept) g = image_parts at image kept g fit well.group well.firm well.order well.list in
      record {
        once = held_once fit well;
        inside = both_below (group_len_of at g) (pool_of p) (blocks_in p.reserve)
            (both_below (group_len_of at g) (p.free_list ++ flat_map (tree_blocks p) all_kinds) (blocks_in p.limbo)
            (both_below (group_len_of at g) p.free_list (flat_map (tree_blocks p) all_kinds) parts.list.inside (trees_below (group_len_of at g) (tree_blocks p) all_kinds (λ k. (parts.trees k).inside))) parts.limbo.inside) well.order.reserve_inside;
        bad = bad_is_sick at image kept g well.group well.firm.keeps well.order;
        reserve = every_weaker (λ (o : Owned). not (is_inode o.owner) ≡ true) (λ (o : Owned). is_inode o.owner ≡ false) (λ o h. not-true (is_inode o.owner) h) (kept.reserve g) (test_every (λ (o : Owned). not (is_inode o.owner)) (kept.reserve g) well.order.reserve_plain);
        limbo = zip_owned (pairs_of (kept.limbo g)) well.order.limbo_plain well.chunks;
      }

  -- ---- and the other way round

  unread : (k : Kind) (bad : Bad) → kept.bad g k ≡ Some bad → (is_readable (((state_of at image kept).group g).tree k).reading ≡ false) × (tree_blocks ((state_of at image kept).group g) k ≡ bad.claims)
  unfolding group_of reading_of
  unread k bad is = (rw is refl, rw is refl)

  pub well_of : IsTidy (group_len_of at g) ((state_of at image kept).group g) → g < at.agcount → Firm at image kept → HeadsAreBytes at image g → ListIsAccepted at image g → IsKeptWell at image kept g
  unfolding group_of
  well_of tidy lt firm bytes list =
      let p : Group = (state_of at image kept).group g in
      let trees : (k : Kind) (b : ℕ) → times b (tree_blocks p k) ≤ times b (held_of p) = λ k b. (let all = held_times b p in let one = tree_less b k (tree_blocks p) in omega (arith, all, one)) in
      let limbo : (b : ℕ) → times b (blocks_in p.limbo) ≤ times b (held_of p) = λ b. (let all = held_times b p in omega (arith, all)) in
      let reserve : (b : ℕ) → times b (blocks_in p.reserve) ≤ times b (held_of p) = λ b. (let all = held_times b p in omega (arith, all)) in
      record {
        group = lt;
        firm = firm;
        order = record {
          sick = λ k bad is. is_it (kept.trust g k) (tidy.bad k (unread k bad is).0);
          claims_inside = λ k bad is. subst (LieBelow (group_len_of at g)) (unread k bad is).1 (fewer_inside (group_len_of at g) (held_of p) (tree_blocks p k) (trees k) tidy.inside);
          claims_once = λ k bad is. subst (λ (bs : List ℕ). AllDiffer bs) (unread k bad is).1 (fewer_once (held_of p) (tree_blocks p k) (trees k) tidy.once);
          reserve_inside = fewer_inside (group_len_of at g) (held_of p) (blocks_in p.reserve) reserve tidy.inside;
          reserve_plain = every_test (λ (o : Owned). not (is_inode o.owner)) p.reserve (every_weaker (λ (o : Owned). is_inode o.owner ≡ false) (λ (o : Owned). not (is_inode o.owner) ≡ true) (λ o h. ap not h) p.reserve tidy.reserve);
          limbo_inside = fewer_inside (group_len_of at g) (held_of p) (blocks_in p.limbo) limbo tidy.inside;
          limbo_plain = every_test (λ (o : Owned). not (is_inode o.owner)) p.limbo (every_weaker IsTreeOwner (λ (o : Owned). not (is_inode o.owner) ≡ true) (λ o h. ap not h.0) p.limbo tidy.limbo);
          limbo_once = fewer_once (held_of p) (blocks_in p.limbo) limbo tidy.once;
        };
        reserve_once = fewer_once (held_of p) (blocks_in p.reserve) reserve tidy.once;
        chunks = every_test (λ (o : Owned). not (o.owner == number_of Inodes)) p.limbo (every_weaker IsTreeOwner (λ (o : Owned). not (o.owner == number_of Inodes) ≡ true) (λ o h. ap not (ne_eqb o.owner (number_of Inodes) h.1)) p.limbo tidy.limbo);
        bytes = bytes;
        list = list;
      }
    where
      is_it : (t : Trust) → is_sick t ≡ true → t ≡ Sick
      is_it Sick h = refl
      is_it Unknown h = absurd (false≢true h)
      is_it Good h = absurd (false≢true h)

-- ---- the entries

pub last_test : (x y : Bool) → (x && not y) ≡ true → y ≡ false
last_test x y h = not-true y (and_parts x (not y) h).1

spare_fits : (a : State) (g : ℕ) (unit : ScrubUnit) (b : ℕ) → Given a (entries.Reserved g unit b true) → is_spare a g unit b ≡ true → times b (held_of (a.group g)) ≡ 0
unfolding is_spare
spare_fits a g units.Free b given h = none_held a g b given
spare_fits a g units.Rmap b given h = none_claimed a g b (last_test _ (has_claim (claims a g) b) h)
spare_fits a g units.Inode b given h = none_held a g b (last_test _ (has_claim (metadata_claims a g) b) h)
spare_fits a g units.Refc b given h = none_held a g b (last_test _ (has_claim (metadata_claims a g) b) h)

found_in : (p : ℕ → Bool) (xs : List ℕ) (b : ℕ) → ◌≡◌ {A = Option ℕ} (find p xs) (Some b) → In b xs
found_in p [] b h = absurd (none_some h) where
  none_some : ◌≡◌ {A = Option ℕ} None (Some b) → ⊥
  none_some e = cc
found_in p (x ∷ xs) b h = (elim (p x) as (λ t. ◌≡◌ {A = Option ℕ} (if t then Some x else find p xs) (Some b) → In b (x ∷ xs)) [
  | true ↦ λ e. inl (some_same e)
  | false ↦ λ e. inr (found_in p xs b e)
]) h where
  some_same : ◌≡◌ {A = Option ℕ} (Some x) (Some b) → x ≡ b
  some_same e = cc

spare_below : (a : State) (g : ℕ) (unit : ScrubUnit) (b : ℕ) → spare_block a g unit ≡ Some b → b < group_len_of a.geometry g
unfolding spare_block
spare_below a g unit b h = let lt = in_numbers 0 (group_len_of a.geometry g) b (found_in (is_spare a g unit) (numbers 0 (group_len_of a.geometry g)) b h) in omega (arith, lt)

own_reserve : (unit : ScrubUnit) (spare : Bool) → list_all is_own (edits_reserve unit spare) ≡ true
own_reserve units.Inode false = refl
own_reserve units.Refc false = refl
own_reserve units.Rmap false = refl
own_reserve units.Free false = refl
own_reserve units.Inode true = refl
own_reserve units.Refc true = refl
own_reserve units.Rmap true = refl
own_reserve units.Free true = refl

module _ (a b : State) (left : List Kind) where
  tidy_reserved : (g : ℕ) (unit : ScrubUnit) (block : ℕ) (spare : Bool) → Given a (entries.Reserved g unit block spare) → MayReserve a left g unit block spare → IsTidy (group_len_of a.geometry g) (a.group g) → IsTidy (group_len_of a.geometry g) ((reserved left g unit block spare a).group g)
  tidy_reserved g unit block false given may tidy =
      subst (IsTidy (group_len_of a.geometry g)) (sym (reserved_in left g unit block false a))
      (tidy_steady (group_len_of a.geometry g) (off_list unit block (a.group g)) (reserved_group left g unit block false (a.group g)) (list_steady left g block (a.group g) unit) (tidy_listed (group_len_of a.geometry g) unit (a.group g) block may.1 tidy))
  tidy_reserved g unit block true given may tidy =
      subst (IsTidy (group_len_of a.geometry g)) (sym (reserved_in left g unit block true a))
      (tidy_steady (group_len_of a.geometry g) (with_reserve unit block (a.group g)) (reserved_group left g unit block true (a.group g)) (spare_steady left g block (a.group g) unit)
      (tidy_spare (group_len_of a.geometry g) unit (a.group g) block (spare_below a g unit block may.2) (spare_fits a g unit block given (is_found a g unit block may.2)) tidy))

  -- the state that the row decides, and then the one behind the entry
  tidy_row : (e : Entry) → is_of_repair e ≡ true → Given a e → (s : Step a left e b) → IsTidy (group_len_of a.geometry (group_of_entry a e)) (a.group (group_of_entry a e)) → IsTidy (group_len_of a.geometry (group_of_entry a e)) (s.decided.group (group_of_entry a e))
  unfolding marked judged released reaped
  tidy_row (entries.Marked g k cause) repair given s tidy = subst (IsTidy (group_len_of a.geometry g)) (sym (ap (λ (x : State). x.group g) s.row.2 ∙ in_itself g (set_trust Sick k) a)) (tidy_trusts (group_len_of a.geometry g) Sick (k ∷ []) (a.group g) ((λ h. refl), tt) tidy)
  tidy_row (entries.Fault g unit fault) repair given s tidy = subst (IsTidy (group_len_of a.geometry g)) (sym (ap (λ (x : State). x.group g) s.row.2 ∙ in_itself g (set_trust Sick (kind_of_fault fault)) a)) (tidy_trusts (group_len_of a.geometry g) Sick (kind_of_fault fault ∷ []) (a.group g) ((λ h. refl), tt) tidy)
  tidy_row (entries.Verdict g unit verdict) repair given s tidy = subst (IsTidy (group_len_of a.geometry g)) (sym (ap (λ (x : State). x.group g) s.row.1 ∙ in_itself g (judge verdict unit) a)) (tidy_judged a (group_len_of a.geometry g) g unit verdict given tidy)
  tidy_row (entries.Reply writer line code done refused begun) repair given s tidy = subst (λ (x : State). IsTidy (group_len_of a.geometry 0) (x.group 0)) (sym s.row) tidy
  tidy_row (entries.Released g unit) repair given s tidy = subst (IsTidy (group_len_of a.geometry g)) (sym (ap (λ (x : State). x.group g) s.row.1 ∙ in_itself g (λ (p : Group). record p { reserve = []; limbo = join_limbo p.reserve p.limbo }) a)) (tidy_released (group_len_of a.geometry g) unit (a.group g) s.row.0.own tidy)
  tidy_row (entries.Reserved g unit block spare) repair given s tidy = subst (λ (x : State). IsTidy (group_len_of a.geometry g) (x.group g)) (sym s.row.1) (tidy_reserved g unit block spare given s.row.0 tidy)
  tidy_row (entries.Switched g unit root second) repair given s tidy = subst (λ (x : State). IsTidy (group_len_of a.geometry g) (x.group g)) (sym s.row.4) (tidy_switched a g unit s.row.0 s.row.1.own s.row.2 tidy)
  tidy_row (entries.Reaped e) repair given s tidy =
      subst (IsTidy (group_len_of a.geometry e.group)) (sym (ap (λ (x : State). x.group e.group) s.row.1 ∙ in_itself e.group (reap_in left (owner_of_run (a.group e.group) e) e) a)) (tidy_reaped (group_len_of a.geometry e.group) left (owner_of_run (a.group e.group) e) e (a.group e.group) tidy)
  tidy_row e repair given s tidy = absurd (false≢true repair)

  own_edits : (e : Entry) → is_of_repair e ≡ true → list_all is_own (edited_kinds a e) ≡ true
  own_edits (entries.Marked g k cause) repair = refl
  own_edits (entries.Fault g unit fault) repair = refl
  own_edits (entries.Verdict g unit verdict) repair = refl
  own_edits (entries.Reply writer line code done refused begun) repair = refl
  own_edits (entries.Released g unit) repair = refl
  own_edits (entries.Reserved g unit block spare) repair = own_reserve unit spare
  own_edits (entries.Switched g unit root second) repair = refl
  own_edits (entries.Reaped e) repair = by _
    where
      by : (t : Bool) → list_all is_own (if t then Rmap ∷ [] else Bno ∷ Cnt ∷ Rmap ∷ []) ≡ true
      by true = refl
      by false = refl
  own_edits e repair = absurd (false≢true repair)

  tidy_behind : (e : Entry) → is_of_repair e ≡ true → Given a e → (s : Step a left e b) → IsTidy (group_len_of a.geometry (group_of_entry a e)) (a.group (group_of_entry a e)) → IsTidy (group_len_of a.geometry (group_of_entry a e)) (b.group (group_of_entry a e))
  tidy_behind e repair given s tidy =
      inside_tidy (group_len_of a.geometry (group_of_entry a e)) a.geometry.inobtcount left (edited_in a left e) (s.decided.group (group_of_entry a e)) (b.group (group_of_entry a e))
      (filter_own (is_edited left (a.group (group_of_entry a e))) (edited_kinds a e) (own_edits e repair)) s.loosely.inside (tidy_row e repair given s tidy)

pub repair_keeps_memory : RepairKeepsMemory
repair_keeps_memory at image image' kept kept' left e h fit well repair given s there firm bytes list =
    let a : State = state_of at image kept in
    let b : State = state_of at image' kept' in
    well_of at image' kept' h (elim (cases_Bool (h == group_of_entry a e)) [
      | inl same ↦
          let is = eqb-true h (group_of_entry a e) same in
          subst (λ (g : ℕ). IsTidy (group_len_of at g) (b.group g)) (sym is) (tidy_behind a b left e repair given s (tidy_of at image kept (group_of_entry a e) fit well))
      | inr other ↦ subst (IsTidy (group_len_of at h)) (sym ((changes_one_group a b left e s).groups h other)) (tidy_of at image kept h fit there)
    ]) there.group firm bytes list
