-- Each entry keeps what is in memory of each group in order.
use Rattle.std.proofs.Common.{◌≡◌, ◌⊎◌, ℕ, ◌+◌, ◌-◌, ◌<◌, ◌≤◌, ◌==◌, ◌||◌, Bool, true, false, not, List, [], ◌∷◌, ◌++◌, filter, flat_map, length, cond, Some, refl, ap, sym, subst, ◌∙◌, inl, inr, arith, eqb-true}
use Rattle.std.specs.Prelude.{nat_le, nat_lt}
use Rattle.std.specs.List.{list_all, list_any}
use Rattle.std.proofs.lemmas.Bool.{and_from, cases_Bool, cases_lt, false≢true, le-leb, lt-ltb, ne_eqb, true≢false}
use Rattle.fs_change.proofs.Beside.{changes_one_group}
use Rattle.fs_change.specs.Changes.{is_in_extent}
use Rattle.fs_change.specs.Loose.{owners_in, pool_of, tree_blocks}
use Rattle.fs_change.specs.Parts.{is_edited, is_sick, sick_in}
use Rattle.fs_change.specs.Step.{Row, Step, edited_in, edited_kinds, filled_list, group_of_entry}
use Rattle.fs_state.specs.Records.{all_kinds}
use Rattle.fs_state.specs.Lists.{numbers}
use Rattle.fs_model.specs.declared.entry.Entry.{Entry}
use Rattle.fs_model.specs.declared.entry.Entry.TheVariants as entries
use Rattle.fs_model.specs.declared.unit.Trust.{Trust}
use Rattle.fs_model.specs.declared.unit.Trust.TheVariants.{Good, Sick, Unknown}
use Rattle.fs_state.specs.Frame.{Firm, PairsAreASet}
use Rattle.fs_state.specs.Group.{is_among}
use Rattle.fs_state.specs.Kinds.{Image, RecOf}
use Rattle.fs_state.specs.Read.{group_of, reading_of, state_of}
use Rattle.fs_state.specs.State.{Bad, Group, Index, Kept, Owned, State, blocks_in, blocks_of, is_readable, pairs_of}
use Rattle.geom.specs.Apart.{HasFitting}
use Rattle.geom.specs.Layout.{Layout, group_len_of}
use Rattle.law_repairs.specs.Letter.Known.{is_of_repair}
use Rattle.law_repairs.proofs.Move.Loose.{filter_own}
use Rattle.law_repairs.proofs.Move.Pairs.{Among, block_in, blocks_are, each_of, lies_of, with_block}
use Rattle.law_repairs.proofs.Order.Blocks.{HasParts, blocks_are_once, image_parts}
use Rattle.law_repairs.proofs.Order.Lists.{every_test, times_in, times_of}
use Rattle.law_repairs.proofs.Order.Memory.{repair_keeps_memory}
use Rattle.law_repairs.proofs.Order.Readings.{bad_is_sick}
use Rattle.law_repairs.proofs.Order.Tidy.{IsTreeOwner, every_among}
use Rattle.law_repairs.specs.Order.Kept.{AreNoInodes, HeadsAreBytes, KeptInOrder, LieBelow, ListIsAccepted}
use Rattle.law_repairs.specs.Order.Repairs.{IsKeptWell}
use Rattle.rmap_recs.specs.Owners.{is_inode, number_of}
use Rattle.rmap_recs.specs.declared.owner.Owner.TheVariants.{Ag, Inodes}
use Rattle.sblock.specs.declared.kind.Kind.{Kind}
use Rattle.sblock.specs.declared.kind.Kind.TheVariants.{Bno, Cnt, Rmap}
use Rattle.tree_defs.proofs.Counts.{times_append}
use Rattle.tree_defs.specs.Lists.{AllDiffer, times}
use Rattle.law_repairs.specs.Memory.Memory.{EntryKeepsMemory, MemoryAtEveryMoment, RefillIsNew, WriterKeepsMemory, WriterKeepsOrder}
use Rattle.law_repairs.proofs.Memory.Edits.{Stays}
use Rattle.law_repairs.proofs.Memory.Limbo.{once_by_owner}
use Rattle.law_repairs.proofs.Memory.Moves.{Follows, OwnedBy, by_own, by_tree_owner, inside_follows, not_edited, pool_same}
use Rattle.law_repairs.proofs.Memory.Rows.{row_stays, with_list}
use Rattle.law_repairs.proofs.Memory.Runs.{in_run, refill_ends}

-- ---- what a writer's entry leaves of a group

-- the run that fills the list
abbrev run_of : Entry → List ℕ
run_of (entries.Refilled e) = numbers e.block e.count
run_of e = []

-- Trees that can't be read or are sick are so still, with their claims; and the reserve is. Limbo gains blocks with owners of
-- trees, those of a new run with the list's; and but for that run there are no more blocks.
record Leaves (run : List ℕ) (p q : Group) : Type 0 where
  readable : (k : Kind) → is_readable (q.tree k).reading ≡ is_readable (p.tree k).reading
  trust : (k : Kind) → (q.tree k).trust ≡ (p.tree k).trust
  claims : (k : Kind) → sick_in p k ≡ true → tree_blocks q k ≡ tree_blocks p k
  reserve : q.reserve ≡ p.reserve
  limbo : (o : Owned) → Among o q.limbo → Among o p.limbo ⊎ IsTreeOwner o
  pool : (b : ℕ) → times b (pool_of q) ≤ times b (pool_of p) + times b run
  new : (o : Owned) → Among o q.limbo → 1 ≤ times o.block run → o.owner ≡ number_of Ag

leaves_itself : (p : Group) → Leaves [] p p
leaves_itself p = record {
  readable = λ k. refl;
  trust = λ k. refl;
  claims = λ k sick. refl;
  reserve = refl;
  limbo = λ o there. inl there;
  pool = λ b. omega arith;
  new = λ o there some. absurd (omega (arith, some));
}

-- ---- the list

-- all but the list
record IsListed (p q : Group) : Type 0 where
  tree : (k : Kind) → q.tree k ≡ p.tree k
  reserve : q.reserve ≡ p.reserve
  limbo : q.limbo ≡ p.limbo

listed_same : (e : Entry) (p : Group) → IsListed p (with_list e p)
listed_same (entries.Refilled e) p = record { tree = λ k. refl; reserve = refl; limbo = refl }
listed_same (entries.Trimmed e) p = record { tree = λ k. refl; reserve = refl; limbo = refl }
listed_same e p = record { tree = λ k. refl; reserve = refl; limbo = refl }

pub pool_times : (b : ℕ) (p : Group) → times b (pool_of p) ≡ (times b p.free_list + times b (flat_map (tree_blocks p) all_kinds)) + times b (blocks_in p.limbo)
pool_times b p =
    let all = times_append b (p.free_list ++ flat_map (tree_blocks p) all_kinds) (blocks_in p.limbo) in
    let front = times_append b p.free_list (flat_map (tree_blocks p) all_kinds) in
    omega (arith, all, front)

passing : (t : ℕ → Bool) (b : ℕ) (xs : List ℕ) → times b (filter t xs) ≤ times b xs
passing t b [] = omega arith
passing t b (x ∷ xs) = let rest = passing t b xs in elim (t x) as (λ c. times b (cond c (x ∷ filter t xs) (filter t xs)) ≤ times b (x ∷ xs)) [ true ↦ omega (arith, rest) | false ↦ omega (arith, rest) ]

listed_pool : (e : Entry) (p : Group) (b : ℕ) → times b (pool_of (with_list e p)) ≤ times b (pool_of p) + times b (run_of e)
listed_pool (entries.Refilled e) p b =
    let now = pool_times b (with_list (entries.Refilled e) p) in
    let was = pool_times b p in
    let more = times_append b p.free_list (numbers e.block e.count) in
    omega (arith, now, was, more)
listed_pool (entries.Trimmed e) p b =
    let now = pool_times b (with_list (entries.Trimmed e) p) in
    let was = pool_times b p in
    let less = passing (λ c. not (is_in_extent e c)) b p.free_list in
    omega (arith, now, was, less)
listed_pool e p b = omega arith

-- ---- a step

none_of : (test : Owned → Bool) (os : List Owned) (o : Owned) → list_any test os ≡ false → Among o os → test o ≡ false
none_of test [] o h there = absurd there
none_of test (p ∷ ps) o h (inl e) = ap test (sym e) ∙ first (test p) (list_any test ps) h
  where
    first : (x y : Bool) → (x || y) ≡ false → x ≡ false
    first true y i = absurd (true≢false i)
    first false y i = refl
none_of test (p ∷ ps) o h (inr there) = none_of test ps o (rest (test p) (list_any test ps) h) there
  where
    rest : (x y : Bool) → (x || y) ≡ false → y ≡ false
    rest true y i = absurd (true≢false i)
    rest false y i = i

-- a block of the run doesn't wait in limbo before
never_waits : (a : State) (e : Entry) → RefillIsNew a e → (o : Owned) → Among o (a.group (group_of_entry a e)).limbo → 1 ≤ times o.block (run_of e) → ⊥
never_waits a (entries.Refilled e) new o there some =
    let lies = in_run e.block e.count o.block some in
    let is : is_in_extent e o.block ≡ true = and_from (nat_le e.block o.block) (nat_lt o.block (e.block + e.count)) (le-leb e.block o.block lies.0) (lt-ltb o.block (e.block + e.count) lies.1) in
    true≢false (sym is ∙ none_of (λ p. is_in_extent e p.block) (a.group e.group).limbo o new there)
never_waits a e new o there some = omega (arith, some)

-- and gets the list's owner
gets_own : (a : State) (left : List Kind) (e : Entry) (o : Owned) → OwnedBy (edited_in a left e) o → 1 ≤ times o.block (run_of e) → o.owner ≡ number_of Ag
gets_own a left (entries.Refilled e) o by some = by_own (edited_in a left (entries.Refilled e)) o (filter_own (is_edited left (a.group e.group)) (Bno ∷ Cnt ∷ Rmap ∷ []) refl) by
gets_own a left e o by some = absurd (omega (arith, some))

sick_left : (left : List Kind) (p : Group) (k : Kind) → sick_in p k ≡ true → is_edited left p k ≡ false
sick_left left p k sick = ap (λ (t : Bool). cond t false (cond (is_among k left) false true)) sick

module _ (a b : State) (left : List Kind) (e : Entry) (writer : is_of_repair e ≡ false) (fresh : RefillIsNew a e) (s : Step a left e b) where
  abbrev before : Group
  before = a.group (group_of_entry a e)

  abbrev decided : Group
  decided = s.decided.group (group_of_entry a e)

  abbrev behind : Group
  behind = b.group (group_of_entry a e)

  but_list : IsListed before (with_list e before)
  but_list = listed_same e before

  stays : Stays (with_list e before) decided
  stays = row_stays a s.decided left e writer s.row

  follows : Follows (edited_in a left e) decided behind
  follows = inside_follows a.geometry.inobtcount left (edited_in a left e) decided behind s.loosely.inside

  limbo_was : decided.limbo ≡ before.limbo
  limbo_was = stays.parts.limbo ∙ but_list.limbo

  -- where a pair of limbo comes from
  came : (o : Owned) → Among o behind.limbo → Among o before.limbo ⊎ OwnedBy (edited_in a left e) o
  came o there = elim (follows.limbo o there) [
    | inl old ↦ inl (subst (Among o) limbo_was old)
    | inr by ↦ inr by
  ]

  step_leaves : Leaves (run_of e) before behind
  step_leaves = record {
    readable = λ k. follows.readable k ∙ stays.readable k ∙ ap (λ (i : Index (RecOf k)). is_readable i.reading) (but_list.tree k);
    trust = λ k. follows.trust k ∙ stays.trust k ∙ ap (λ (i : Index (RecOf k)). i.trust) (but_list.tree k);
    claims = λ k sick. follows.others k (not_edited (is_edited left before) (edited_kinds a e) k (sick_left left before k sick)) ∙ stays.parts.blocks k ∙ ap (λ (i : Index (RecOf k)). blocks_of i.reading) (but_list.tree k);
    reserve = follows.reserve ∙ stays.parts.reserve ∙ but_list.reserve;
    limbo = λ o there. elim (came o there) [ inl old ↦ inl old | inr by ↦ inr (by_tree_owner (edited_in a left e) o by) ];
    pool = λ c. (let now = follows.pool c in let parts = pool_same (with_list e before) decided stays.parts c in let list = listed_pool e before c in omega (arith, now, parts, list));
    new = λ o there some. elim (came o there) [ inl old ↦ absurd (never_waits a e fresh o old some) | inr by ↦ gets_own a left e o by some ];
  }

-- the run of a row that fills the list lies in its group
run_below : (at : Layout) (image : Image) (kept : Kept) (x : State) (left : List Kind) (e : Entry) → Row (state_of at image kept) left e x → (b : ℕ) → 1 ≤ times b (run_of e) → b < group_len_of at (group_of_entry (state_of at image kept) e)
run_below at image kept x left (entries.Refilled e) r b some =
    let a : State = state_of at image kept in
    let ends = refill_ends at image kept (filled_list - length (a.group e.group).free_list) e r.0.chosen in
    let high = (in_run e.block e.count b some).1 in
    omega (arith, ends, high)
run_below at image kept x left e r b some = absurd (omega (arith, some))

-- ---- a group of an image

module _ (sets : PairsAreASet) (at : Layout) (image image' : Image) (kept kept' : Kept) (h : ℕ) (run : List ℕ) (fit : HasFitting at) (lt : h < at.agcount) (firm : Firm at image kept) (list : ListIsAccepted at image h) (order : KeptInOrder at kept h)
    (leaves : Leaves run ((state_of at image kept).group h) ((state_of at image' kept').group h)) (below : (b : ℕ) → 1 ≤ times b run → b < group_len_of at h)
  where
    abbrev p : Group
    p = (state_of at image kept).group h

    abbrev q : Group
    q = (state_of at image' kept').group h

    parts : HasParts (state_of at image kept) h
    parts = image_parts at image kept h fit lt firm order list

    once : AllDiffer (pool_of p)
    once = (blocks_are_once at image kept h fit lt firm order list).once

    pool_below : (b : ℕ) → 1 ≤ times b (pool_of p) → b < group_len_of at h
    pool_below b some =
        let same : times b (blocks_in (owners_in p)) ≡ times b (pool_of p) = ap (times b) (blocks_are p) in
        let found = with_block b (owners_in p) (omega (arith, some, same)) in
        subst (λ (c : ℕ). c < group_len_of at h) found.2 (elim (lies_of p found.0 found.1) [
          | inl listed ↦ parts.list.inside found.0.block listed.1
          | inr others ↦ elim others [
            | inl tree ↦ (parts.trees tree.0).inside found.0.block tree.2
            | inr there ↦ parts.limbo.inside found.0.block (times_in found.0.block (blocks_in p.limbo) (block_in found.0 p.limbo there))
          ]
        ])

    -- limbo has no more of a block than all parts had, and the run
    limbo_less : (b : ℕ) → times b (blocks_in q.limbo) ≤ times b (pool_of p) + times b run
    limbo_less b = let now = pool_times b q in let less = leaves.pool b in omega (arith, now, less)

    limbo_below : LieBelow (group_len_of at h) (blocks_in q.limbo)
    limbo_below b i = elim (cases_lt (times b run) 1) [
      | inl none ↦ (let some = times_of b (blocks_in q.limbo) i in let less = limbo_less b in pool_below b (omega (arith, none, some, less)))
      | inr new ↦ below b new
    ]

    limbo_each : (test : Owned → Bool) → list_all test p.limbo ≡ true → ((o : Owned) → IsTreeOwner o → test o ≡ true) → list_all test q.limbo ≡ true
    limbo_each test all of_tree = every_test test q.limbo (every_among (λ (o : Owned). test o ≡ true) q.limbo (λ o there. elim (leaves.limbo o there) [ inl old ↦ each_of test p.limbo o all old | inr by ↦ of_tree o by ]))

    limbo_once : AllDiffer (blocks_in (pairs_of (kept'.limbo h)))
    unfolding group_of
    limbo_once b = elim (cases_lt (times b run) 1) [
      | inl none ↦ (let less : times b (blocks_in (pairs_of (kept'.limbo h))) ≤ times b (pool_of p) + times b run = limbo_less b in let one = once b in omega (arith, none, less, one))
      | inr new ↦ once_by_owner sets (kept'.limbo h) b (number_of Ag) (λ o there is. leaves.new o there (subst (λ (c : ℕ). 1 ≤ times c run) (sym is) new))
    ]

    -- a tree that is kept as bad was so before
    was_bad : (k : Kind) (bad : Bad) → kept'.bad h k ≡ Some bad → (is_readable (q.tree k).reading ≡ false) × (tree_blocks q k ≡ bad.claims)
    unfolding group_of reading_of
    was_bad k bad is = (rw is refl, rw is refl)

    was_sick : (k : Kind) (bad : Bad) → kept'.bad h k ≡ Some bad → sick_in p k ≡ true
    was_sick k bad is = bad_is_sick at image kept h lt firm.keeps order k (sym (leaves.readable k) ∙ (was_bad k bad is).0)

    claims_are : (k : Kind) (bad : Bad) → kept'.bad h k ≡ Some bad → tree_blocks p k ≡ bad.claims
    claims_are k bad is = sym (leaves.claims k (was_sick k bad is)) ∙ (was_bad k bad is).1

    still_sick : (k : Kind) (bad : Bad) → kept'.bad h k ≡ Some bad → is_sick (kept'.trust h k) ≡ true
    unfolding group_of
    still_sick k bad is = ap is_sick (leaves.trust k) ∙ was_sick k bad is

    order_behind : KeptInOrder at kept' h
    unfolding group_of
    order_behind = record {
      sick = λ k bad is. is_it (kept'.trust h k) (still_sick k bad is);
      claims_inside = λ k bad is. subst (LieBelow (group_len_of at h)) (claims_are k bad is) (parts.trees k).inside;
      claims_once = λ k bad is. subst (λ (bs : List ℕ). AllDiffer bs) (claims_are k bad is) (parts.trees k).once;
      reserve_inside = subst (λ (os : List Owned). LieBelow (group_len_of at h) (blocks_in os)) (sym leaves.reserve) order.reserve_inside;
      reserve_plain = subst (λ (os : List Owned). AreNoInodes os) (sym leaves.reserve) order.reserve_plain;
      limbo_inside = limbo_below;
      limbo_plain = limbo_each (λ o. not (is_inode o.owner)) order.limbo_plain (λ o by. ap not by.0);
      limbo_once = limbo_once;
    }
      where
        is_it : (t : Trust) → is_sick t ≡ true → t ≡ Sick
        is_it Sick i = refl
        is_it Unknown i = absurd (false≢true i)
        is_it Good i = absurd (false≢true i)

    well_behind : IsKeptWell at image kept h → Firm at image' kept' → HeadsAreBytes at image' h → ListIsAccepted at image' h → IsKeptWell at image' kept' h
    unfolding group_of
    well_behind well firm' bytes' list' = record {
      group = lt;
      firm = firm';
      order = order_behind;
      reserve_once = subst (λ (os : List Owned). AllDiffer (blocks_in os)) (sym leaves.reserve) well.reserve_once;
      chunks = limbo_each (λ o. not (o.owner == number_of Inodes)) well.chunks (λ o by. ap not (ne_eqb o.owner (number_of Inodes) by.1));
      bytes = bytes';
      list = list';
    }

-- ---- the laws

module _ (at : Layout) (image image' : Image) (kept kept' : Kept) (left : List Kind) (e : Entry) (h : ℕ) where
  abbrev here : State
  here = state_of at image kept

  abbrev there : State
  there = state_of at image' kept'

  -- an entry of a writer: its own group, or another
  writer_leaves : is_of_repair e ≡ false → RefillIsNew here e → Step here left e there → (run : List ℕ) × Leaves run (here.group h) (there.group h) × ((b : ℕ) → 1 ≤ times b run → b < group_len_of at h)
  writer_leaves writer fresh s = elim (cases_Bool (h == group_of_entry here e)) [
    | inl same ↦
        let is : h ≡ group_of_entry here e = eqb-true h (group_of_entry here e) same in (
          run_of e,
          subst (λ (g : ℕ). Leaves (run_of e) (here.group g) (there.group g)) (sym is) (step_leaves here there left e writer fresh s),
          λ b some. subst (λ (g : ℕ). b < group_len_of at g) (sym is) (run_below at image kept s.decided left e s.row b some),
        )
    | inr other ↦ ([], subst (Leaves [] (here.group h)) (sym ((changes_one_group here there left e s).groups h other)) (leaves_itself (here.group h)), λ b some. absurd (omega (arith, some)))
  ]

pub writer_keeps_order : PairsAreASet → WriterKeepsOrder
writer_keeps_order sets at image image' kept kept' left e h fit lt writer fresh s firm list order =
    let leaves = writer_leaves at image image' kept kept' left e h writer fresh s in
    order_behind sets at image image' kept kept' h leaves.0 fit lt firm list order leaves.1 leaves.2

pub writer_keeps_memory : PairsAreASet → WriterKeepsMemory
writer_keeps_memory sets at image image' kept kept' left e h fit writer fresh s well firm' bytes' list' =
    let leaves = writer_leaves at image image' kept kept' left e h writer fresh s in
    well_behind sets at image image' kept kept' h leaves.0 fit well.group well.firm well.list well.order leaves.1 leaves.2 well firm' bytes' list'

pub entry_keeps_memory : PairsAreASet → EntryKeepsMemory
entry_keeps_memory sets at image image' kept kept' left e h fit given fresh s well firm' bytes' list' =
    let a : State = state_of at image kept in
    elim (cases_Bool (is_of_repair e)) [
      | inr writer ↦ writer_keeps_memory sets at image image' kept kept' left e h fit writer fresh s well firm' bytes' list'
      | inl repair ↦ elim (cases_Bool (h == group_of_entry a e)) [
        | inl same ↦ repair_keeps_memory at image image' kept kept' left e h fit (subst (IsKeptWell at image kept) (eqb-true h (group_of_entry a e) same) well) repair given s well firm' bytes' list'
        | inr other ↦
            let leaves : Leaves [] (a.group h) ((state_of at image' kept').group h) = subst (Leaves [] (a.group h)) (sym ((changes_one_group a (state_of at image' kept') left e s).groups h other)) (leaves_itself (a.group h)) in
            well_behind sets at image image' kept kept' h [] fit well.group well.firm well.list well.order leaves (λ b some. absurd (omega (arith, some))) well firm' bytes' list'
      ]
    ]

pub memory_at_every_moment : PairsAreASet → MemoryAtEveryMoment
memory_at_every_moment sets at image image' kept kept' left e fit all behind given fresh s g lt =
    entry_keeps_memory sets at image image' kept kept' left e g fit given fresh s (all g lt) behind.firm (behind.bytes g lt) (behind.lists g lt)
