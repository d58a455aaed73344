-- A reaped run and its own group.
use Rattle.std.proofs.Common.{◌≡◌, ℕ, ◌+◌, ◌<◌, ◌≤◌, ◌==◌, ◌||◌, Bool, true, false, cond, not, List, [], ◌∷◌, ◌++◌, find, filter, flat_map, refl, ap, ap₂, sym, subst, ◌∙◌, inl, inr, arith, Some, eq-eqb}
use Rattle.std.specs.Prelude.{◌-◌, ◌^◌, length, is_some, nat_lt, if◌then◌else◌}
use Rattle.std.specs.List.{list_all, list_any}
use Rattle.std.proofs.lemmas.Bool.{cases_order, lt-ltb, true≢false}
use Rattle.std.proofs.lemmas.List.{length-append}
use Rattle.derive_defs.specs.ByCount.{ordered_by_count}
use Rattle.derive_defs.specs.Free.{free_space}
use Rattle.derive_defs.specs.Mappings.{covers}
use Rattle.derive_defs.specs.Shared.{shared_space}
use Rattle.fs_change.proofs.Trees.{edited, in_itself}
use Rattle.fs_change.specs.Changes.{is_anothers, is_of_run, joins_no_space, leave_limbo, owner_of_run, plain_run, reap_in, reaped, take_owner}
use Rattle.fs_change.specs.Edited.{edits_reaped, leaves_faults, met_by}
use Rattle.fs_change.specs.Loose.{Loosely, pool_of, tree_blocks}
use Rattle.fs_change.specs.Met.{is_fault}
use Rattle.fs_change.specs.Parts.{is_edited, records_in, sick_in, with_recs}
use Rattle.fs_change.specs.Records.{by_start, give_span, span, take_mapping}
use Rattle.fs_change.specs.Step.{Step, edited_in}
use Rattle.fs_change.specs.Switch.{has_owned, owned_by as with_owner}
use Rattle.fs_state.specs.Derive.{derive, mappings, refc_of}
use Rattle.fs_state.specs.Faults.{blocks_counted, wanted}
use Rattle.fs_state.specs.Records.{all_kinds}
use Rattle.fs_state.specs.Laws.{IsGood}
use Rattle.fs_state.specs.Lists.{numbers}
use Rattle.fs_state.specs.Own.{own, rmap_of}
use Rattle.fs_model.specs.declared.entry.Entry.TheVariants as entries
use Rattle.fs_model.specs.declared.entry.Extent.{Extent}
use Rattle.fs_model.specs.declared.fault.Counter.{Counter}
use Rattle.fs_model.specs.declared.fault.Counter.TheVariants.{Iblocks, Fblocks, RmapBlocks, Freeblks, Longest, Btreeblks, RefcountBlocks}
use Rattle.fs_model.specs.declared.unit.Unit.{Unit as ScrubUnit}
use Rattle.fs_model.specs.declared.unit.Unit.TheVariants as units
use Rattle.fs_state.specs.Group.{is_among}
use Rattle.fs_state.specs.State.{State, Group, Owned, Readable, Reading, blocks_in, is_readable, recs_of}
use Rattle.geom.proofs.ApartLemmas.{splits_in}
use Rattle.geom.specs.Apart.{HasFitting, Splits}
use Rattle.geom.specs.Layout.{group_len_of}
use Rattle.rmap_recs.specs.Owners.{is_inode}
use Rattle.rmap_recs.specs.Runs.{AreTuples, HaveNext}
use Rattle.rmap_recs.specs.declared.records.RmapRec.{RmapRec}
use Rattle.run_edits.specs.Edits.{holds}
use Rattle.sblock.specs.declared.kind.Kind.{Kind}
use Rattle.sblock.specs.declared.kind.Kind.TheVariants.{Bno, Cnt, Rmap, Refc}
use Rattle.tree_defs.specs.Lists.{times}
use Rattle.law_accounts.proofs.Account.Covers.{taken_covers}
use Rattle.law_accounts.specs.Account.Accounts.{at_span, covers_at}
use Rattle.law_accounts.proofs.Account.Spans.{span_out}
use Rattle.law_accounts.proofs.Edit.Counts.{shared_taken}
use Rattle.law_accounts.proofs.Edit.Orders.{count_given}
use Rattle.law_accounts.proofs.Edit.Spaces.{any_covers, free_given}
use Rattle.law_accounts.specs.Edit.Space.{AreBare, CoverMore}
use Rattle.law_repairs.specs.Repair.Alike.{AlikeInodes}
use Rattle.law_repairs.specs.Repair.Letters.{Holds, IsTrusted, Stands}
use Rattle.law_repairs.specs.Repair.Moves.{SameChunks}
use Rattle.law_repairs.proofs.Repair.Groups.{same_fork}
use Rattle.law_repairs.proofs.Repair.Owners.{times_both}
use Rattle.law_repairs.proofs.Repair.Pieces.{reaped_keeps}
use Rattle.law_repairs.proofs.Repair.Same.{good_stays, refc_blocks}
use Rattle.law_repairs.specs.Move.Moving.{AreBlockWords, is_own}
use Rattle.law_repairs.specs.Move.Order.{AreBlocks, IsInOrder}
use Rattle.law_repairs.specs.Letter.Reaping.{ReapedKeepsOwn}
use Rattle.law_repairs.proofs.Move.Edits.{IsKind, changed_index, each_edited, edit_at, edit_counters, good_edited, not_faulty, not_left, not_sick, same_edited, space_beside, spaced_group, well_edited}
use Rattle.law_repairs.proofs.Move.Kept.{moves_keep}
use Rattle.law_repairs.proofs.Move.Loose.{filter_own, loose_chunks, loose_own, loose_trust, was_trusted}
use Rattle.law_repairs.proofs.Reserve.OwnGroup.{either_false, is_not, some_holds}
use Rattle.law_repairs.proofs.Move.Pairs.{among_of, each_of}
use Rattle.law_repairs.proofs.Letter.Reaping.{LeavesLimbo, bare_then, clear_taken, each_number, lies_in, maps_taken, not_anothers}
use Rattle.law_repairs.proofs.Reserve.Reserved.{edit_shared}
use Rattle.law_repairs.proofs.Move.Space.{FromEdit, short_group, space_edited}
use Rattle.law_repairs.proofs.Move.Steps.{Steady, both_steady, edit_steady, is_steady, space_steady}

-- ---- the group that the run leaves

module _ (left : List Kind) (owner : ℕ) (e : Extent) (p : Group) where
  abbrev pub off_limbo : Group
  off_limbo = leave_limbo owner e p

  abbrev pub lost : Group
  lost = take_owner left owner e off_limbo

  abbrev pub joined : Group
  joined = spaced_group give_span left e lost

  lost_steady : Steady off_limbo lost
  lost_steady = edit_steady left Rmap (take_mapping (plain_run owner e)) off_limbo refl

  reap_steady : Steady off_limbo (reap_in left owner e p)
  reap_steady = by (joins_no_space owner e p)
    where
      by : (t : Bool) → Steady off_limbo (cond t lost joined)
      by true = lost_steady
      by false = both_steady off_limbo lost joined lost_steady (space_steady give_span left e lost)

  -- reverse mappings are what the loss makes of them
  reap_maps : is_edited left p Rmap ≡ true → (reap_in left owner e p).tree Rmap ≡ changed_index (take_mapping (plain_run owner e)) (p.tree Rmap)
  reap_maps ed = by (joins_no_space owner e p) ∙ edit_at left Rmap (take_mapping (plain_run owner e)) off_limbo ed
    where
      by : (t : Bool) → (cond t lost joined).tree Rmap ≡ lost.tree Rmap
      by true = refl
      by false = space_beside give_span left e lost Rmap refl refl

  reap_shared : is_inode owner ≡ false → shared_space (records_in (reap_in left owner e p) Rmap) ≡ shared_space (records_in p Rmap)
  reap_shared plain = by (joins_no_space owner e p) ∙ edit_shared left (take_mapping (plain_run owner e)) off_limbo (λ ms. shared_taken (plain_run owner e) ms plain)
    where
      by : (t : Bool) → shared_space (records_in (cond t lost joined) Rmap) ≡ shared_space (records_in lost Rmap)
      by true = refl
      by false = ap (λ i. shared_space (recs_of i.reading)) (space_beside give_span left e lost Rmap refl refl)

less_times : (test : Owned → Bool) (os : List Owned) (c : ℕ) → times c (blocks_in (filter test os)) ≤ times c (blocks_in os)
less_times test [] c = omega arith
less_times test (o ∷ os) c = let rest = less_times test os c in elim (test o) as (λ b. times c (blocks_in (cond b (o ∷ filter test os) (filter test os))) ≤ (if o.block == c then 1 else 0) + times c (blocks_in os)) [
  | true ↦ omega (arith, rest)
  | false ↦ omega (arith, rest)
]

less_length : (test : Owned → Bool) (os : List Owned) → length (blocks_in (filter test os)) ≤ length (blocks_in os)
less_length test [] = omega arith
less_length test (o ∷ os) = let rest = less_length test os in elim (test o) as (λ b. length (blocks_in (cond b (o ∷ filter test os) (filter test os))) ≤ length (blocks_in (o ∷ os))) [
  | true ↦ omega (arith, rest)
  | false ↦ omega (arith, rest)
]

-- ---- the state

module _ (a : State) (left : List Kind) (e : Extent) where
  abbrev g : ℕ
  g = e.group

  abbrev p : Group
  p = a.group e.group

  abbrev owner : ℕ
  owner = owner_of_run (a.group e.group) e

  abbrev x : State
  x = reaped left (owner_of_run (a.group e.group) e) e a

  at : x.geometry ≡ a.geometry
  unfolding reaped
  at = refl

  now : x.group e.group ≡ reap_in left (owner_of_run (a.group e.group) e) e (a.group e.group)
  unfolding reaped
  now = in_itself e.group (reap_in left (owner_of_run (a.group e.group) e) e) a

  steady : Steady (leave_limbo owner e p) (reap_in left owner e p)
  steady = reap_steady left owner e p

  leaves_now : LeavesLimbo owner e p (x.group e.group)
  leaves_now = record {
    list = ap (λ (r : Group). r.free_list) now ∙ steady.parts.list;
    blocks = λ k. ap (λ (r : Group). tree_blocks r k) now ∙ steady.parts.blocks k;
    reserve = ap (λ (r : Group). r.reserve) now ∙ steady.parts.reserve;
    limbo = ap (λ (r : Group). r.limbo) now ∙ steady.parts.limbo;
  }

  reaped_alike : SameChunks a x → AlikeInodes a x
  unfolding reaped
  reaped_alike chunks = record { geometry = refl; chunks = chunks; cores = λ ino is. refl; forks = λ ino f i. same_fork (a.fork ino f) }

  reaped_trust : (k : Kind) → ((x.group e.group).tree k).trust ≡ (p.tree k).trust
  reaped_trust k = ap (λ (r : Group). (r.tree k).trust) now ∙ steady.trust k

  reaped_counter : (name : Counter) → is_steady name ≡ true → (x.group e.group).counters name ≡ p.counters name
  reaped_counter name h = ap (λ (r : Group). r.counters name) now ∙ steady.counters name h

  counted : (k : Kind) → blocks_counted ((x.group e.group).tree k).reading ≡ blocks_counted (p.tree k).reading
  counted k = ap (λ (r : Group). blocks_counted (r.tree k).reading) now ∙ steady.counted k

  reaped_words : IsInOrder a e.group → AreBlockWords (x.group e.group)
  reaped_words order = record {
    ino = subst (λ (n : ℕ). n < 2 ^ 32) (sym (reaped_counter Iblocks refl)) (order.words Iblocks);
    fino = subst (λ (n : ℕ). n < 2 ^ 32) (sym (reaped_counter Fblocks refl)) (order.words Fblocks);
    refc = subst (λ (n : ℕ). n < 2 ^ 32) (sym (reaped_counter RefcountBlocks refl)) (order.words RefcountBlocks);
  }

  reaped_blocks : AreBlocks p → AreBlocks (x.group e.group)
  reaped_blocks blocks =
      let l = leaves_now in
      let front : List ℕ = p.free_list ++ flat_map (tree_blocks p) all_kinds in
      let kept : List ℕ = blocks_in (filter (λ o. not (is_of_run owner e o)) p.limbo) in
      let pool : pool_of (x.group e.group) ≡ front ++ kept = λ i. l.list i ++ flat_map (λ k. l.blocks k i) all_kinds ++ blocks_in (l.limbo i) in
      record {
        once = λ c.
            let same = ap (times c) pool ∙ times_both c front kept in
            let was = times_both c front (blocks_in p.limbo) in
            let less = less_times (λ o. not (is_of_run owner e o)) p.limbo c in
            let most = blocks.once c in
            omega (arith, same, was, less, most);
        few =
            let same = ap length pool ∙ length-append front kept in
            let was = length-append front (blocks_in p.limbo) in
            let less = less_length (λ o. not (is_of_run owner e o)) p.limbo in
            let most = blocks.few in
            omega (arith, same, was, less, most);
        roots = λ k h.
            subst (λ (bs : List ℕ). 0 < length bs) (sym (l.blocks k)) (blocks.roots k (sym (steady.readable k) ∙ ap (λ (r : Group). is_readable (r.tree k).reading) (sym now) ∙ h));
      }

  -- ---- its owner

  module _ (some : 0 < e.count) (there : list_all (λ c. has_owned p.limbo (with_owner owner c)) (numbers e.block e.count) ≡ true) (order : IsInOrder a e.group) where
    plain : is_inode owner ≡ false
    plain = is_none (is_inode owner) (each_of (λ o. not (is_inode o.owner)) p.limbo (with_owner owner e.block) order.plain
        (among_of (with_owner owner e.block) p.limbo (each_number (λ c. has_owned p.limbo (with_owner owner c)) e.block e.count e.block there (omega arith) (omega (arith, some)))))
      where
        is_none : (k : Bool) → not k ≡ true → k ≡ false
        is_none true h = absurd (true≢false (sym h))
        is_none false h = refl

    counts_kept : IsGood a e.group units.Refc → IsGood x e.group units.Refc
    unfolding derive refc_of
    counts_kept good =
        let same : ((x.group e.group).tree Refc).reading ≡ (p.tree Refc).reading = ap (λ (r : Group). (r.tree Refc).reading) now ∙ ap (λ i. i.reading) (steady.others Refc refl) in
        good_stays a x e.group units.Refc (record { reading = same; derived = read_off }, tt)
        (record { kept = reaped_counter RefcountBlocks refl; wanted_same = refc_blocks a x e.group at same }, tt) good
      where
        read_off : derive x e.group Refc ≡ derive a e.group Refc
        read_off = ap (λ (r : Group). shared_space (records_in r Rmap)) now ∙ reap_shared left owner e p plain

    module _ (fit : HasFitting a.geometry) (chunks : SameChunks a x) (ed : is_edited left p Rmap ≡ true) (tx : AreTuples (own x e.group)) (nx : HaveNext (own x e.group)) (h : Holds a e.group units.Rmap) where
      abbrev splits : Splits a.geometry
      splits = splits_in a.geometry fit

      abbrev alike : AlikeInodes a x
      alike = reaped_alike chunks

      derived_maps : (s : State) → rmap_of s e.group ≡ derive s e.group Rmap
      unfolding derive
      derived_maps s = refl

      were : (p.tree Rmap).reading ≡ Readable (rmap_of a e.group) h.0.0.0.0
      were = h.0.0.0.1 ∙ ap (λ (rs : List RmapRec). Readable rs h.0.0.0.0) (sym (derived_maps a))

      ends : e.block + e.count ≤ group_len_of a.geometry e.group
      ends = last_in (e.count) refl
        where
          last_in : (n : ℕ) → n ≡ e.count → e.block + n ≤ group_len_of a.geometry e.group
          last_in n same = elim (cases_order n 0) [
            | inl z ↦ absurd (omega (arith, z, same, some))
            | inr (inl less) ↦ absurd (omega (arith, less))
            | inr (inr more) ↦
                let last = lies_in a x e.group owner e splits alike leaves_now some there plain order.inside h.1 (e.block + (n - 1)) (omega arith) (omega (arith, more, same)) in
                omega (arith, more, last)
          ]

      maps_are : take_mapping (plain_run owner e) (rmap_of a e.group) ≡ rmap_of x e.group
      maps_are =
          let short = short_group a.geometry e.group fit in
          let high = ends in
          maps_taken a x e.group owner e splits alike leaves_now some there plain order.inside h.1 order.tuples order.next tx nx (omega (arith, short, high))

      maps_read : ((x.group e.group).tree Rmap).reading ≡ Readable (rmap_of x e.group) h.0.0.0.0
      maps_read =
          ap (λ (r : Group). (r.tree Rmap).reading) now ∙ ap (λ i. i.reading) (reap_maps left owner e p ed)
          ∙ ap (λ (r : Reading RmapRec). with_recs (take_mapping (plain_run owner e) (recs_of r)) r) were
          ∙ ap (λ (rs : List RmapRec). Readable rs h.0.0.0.0) maps_are

      maps_counter : (n : ℕ) → wanted x e.group RmapBlocks ≡ Some n → (x.group e.group).counters RmapBlocks ≡ n
      unfolding wanted
      maps_counter n i = reaped_counter RmapBlocks refl ∙ h.0.1.0 n (sym (counted Rmap) ∙ i)

      pub maps_kept : Holds x e.group units.Rmap
      maps_kept = (
        (((h.0.0.0.0, maps_read ∙ ap (λ (rs : List RmapRec). Readable rs h.0.0.0.0) (derived_maps x)), tt), (maps_counter, tt)),
        clear_taken a x e.group owner e splits alike leaves_now some there plain order.inside h.1,
      )

      -- ---- free space

      joins : sick_in p Bno ≡ false → sick_in p Cnt ≡ false → joins_no_space owner e p ≡ false
      joins nb nc = ap₂ (λ (s t : Bool). s || t || is_anothers owner e (records_in p Rmap)) nb nc
          ∙ ap (is_anothers owner e) (ap recs_of were)
          ∙ not_anothers a x e.group owner e splits alike leaves_now some there plain order.inside h.1 order.tuples order.next

      module _ (faults : leaves_faults a left (entries.Reaped e) ≡ true) (eb : is_edited left p Bno ≡ true) (ec : is_edited left p Cnt ≡ true) where
        joins_space : joins_no_space owner e p ≡ false
        joins_space = joins (not_sick left p Bno eb) (not_sick left p Cnt ec)

        reap_is : reap_in left owner e p ≡ joined left owner e p
        reap_is = ap (λ (t : Bool). cond t (lost left owner e p) (joined left owner e p)) joins_space

        met_maps : list_any (λ r. holds r (plain_run owner e)) (records_in p Rmap) ≡ true
        unfolding leaves_faults
        met_maps =
            some_holds (plain_run owner e) (records_in p Rmap)
            (is_not (is_some (find (λ r. holds r (plain_run owner e)) (records_in p Rmap)))
            (either_false _ _
            (not_faulty (is_among Rmap left) (is_fault (met_by a (entries.Reaped e) Rmap))
            (each_edited (λ k. is_among k left || not (is_fault (met_by a (entries.Reaped e) k))) (is_edited [] p) (edits_reaped p e) Rmap faults rmap_edit (well_edited [] p Rmap (not_sick left p Rmap ed) refl))
            (not_left left p Rmap ed))).0)
          where
            rmap_edit : IsKind Rmap (edits_reaped p e)
            rmap_edit = subst (λ (t : Bool). IsKind Rmap (if t then Rmap ∷ [] else Bno ∷ Cnt ∷ Rmap ∷ [])) (sym joins_space) (inr (inr (inl refl)))

        new_maps : mappings x e.group ≡ take_mapping (plain_run owner e) (mappings a e.group)
        new_maps = ap recs_of maps_read ∙ sym maps_are ∙ ap (take_mapping (plain_run owner e)) (sym (ap recs_of were))

        more : CoverMore (span e.block e.count) (mappings x e.group) (mappings a e.group)
        more c = sym (taken_covers (plain_run owner e) (mappings a e.group) c some met_maps) ∙ ap (λ (rs : List RmapRec). covers_at rs c + at_span e.block e.count c) (sym new_maps)

        bare : AreBare (span e.block e.count) (mappings x e.group)
        bare c i =
            let in_it = span_out e.block e.count c i in
            none_left (covers_at (mappings x e.group) c)
            (sym (any_covers c (mappings x e.group)) ∙ ap (list_any (covers c)) (ap recs_of maps_read)
            ∙ bare_then a x e.group owner e splits alike leaves_now some there plain order.inside h.1 tx nx c in_it.0 in_it.1)
          where
            none_left : (n : ℕ) → nat_lt 0 n ≡ false → n ≡ 0
            none_left n e = elim (cases_order n 0) [
              | inl z ↦ z
              | inr (inl less) ↦ absurd (omega (arith, less))
              | inr (inr s) ↦ absurd (true≢false (sym (lt-ltb 0 n s) ∙ e))
            ]

        starts : give_span by_start (free_space (group_len_of a.geometry e.group) (mappings a e.group)) (span e.block e.count) (free_space (group_len_of a.geometry e.group) (mappings a e.group)) ≡ free_space (group_len_of a.geometry e.group) (mappings x e.group)
        starts = free_given (group_len_of a.geometry e.group) (mappings a e.group) (mappings x e.group) (span e.block e.count) some ends more bare

        from_edit : FromEdit give_span a x e.group left e (lost left owner e p) fit at
        from_edit = record {
          bno_was = edited left Rmap Bno (take_mapping (plain_run owner e)) (off_limbo left owner e p) refl;
          cnt_was = edited left Rmap Cnt (take_mapping (plain_run owner e)) (off_limbo left owner e p) refl;
          bno_now = ap (λ (r : Group). r.tree Bno) (now ∙ reap_is);
          cnt_now = ap (λ (r : Group). r.tree Cnt) (now ∙ reap_is);
          freeblks_was = ap (λ (c : Counter → ℕ). c Freeblks) (edit_counters left Rmap (take_mapping (plain_run owner e)) (off_limbo left owner e p));
          freeblks_now = ap (λ (r : Group). r.counters Freeblks) (now ∙ reap_is);
          longest_now = ap (λ (r : Group). r.counters Longest) (now ∙ reap_is);
          roots_same = reaped_counter Btreeblks refl;
          counted = counted;
          bno_edited = same_edited left p (lost left owner e p) Bno ((lost_steady left owner e p).trust Bno) ∙ eb;
          cnt_edited = same_edited left p (lost left owner e p) Cnt ((lost_steady left owner e p).trust Cnt) ∙ ec;
        }

        pub space_kept : IsGood a e.group units.Free → IsGood x e.group units.Free
        space_kept good =
            space_edited give_span a x e.group left e (lost left owner e p) fit at from_edit starts
            (count_given (group_len_of a.geometry e.group) (mappings a e.group) (span e.block e.count) ∙ ap ordered_by_count starts) good

-- ---- all of it

own_edits : (a : State) (e : Extent) → list_all is_own (edits_reaped (a.group e.group) e) ≡ true
own_edits a e = by (joins_no_space (owner_of_run (a.group e.group) e) e (a.group e.group))
  where
    by : (t : Bool) → list_all is_own (if t then Rmap ∷ [] else Bno ∷ Cnt ∷ Rmap ∷ []) ≡ true
    by true = refl
    by false = refl

module _ (a b : State) (left : List Kind) (e : Extent) (fit : HasFitting a.geometry) (s : Step a left (entries.Reaped e) b) (chunks : SameChunks a b) (oa : IsInOrder a e.group) (ob : IsInOrder b e.group) where
  abbrev there : State
  there = reaped left (owner_of_run (a.group e.group) e) e a

  abbrev ks : List Kind
  ks = edited_in a left (entries.Reaped e)

  loosely : Loosely e.group left ks a there b
  loosely = subst (λ (y : State). Loosely e.group left ks a y b) s.row.1 s.loosely

  own_ks : list_all is_own ks ≡ true
  own_ks = filter_own (is_edited left (a.group e.group)) (edits_reaped (a.group e.group) e) (own_edits a e)

  splits_there : Splits there.geometry
  splits_there = subst Splits (sym (at a left e)) (splits_in a.geometry fit)

  blocks_there : AreBlocks (there.group e.group)
  blocks_there = reaped_blocks a left e oa.blocks

  trusted_before : (unit : ScrubUnit) → IsTrusted b e.group unit → IsTrusted a e.group unit
  trusted_before unit = was_trusted a b e.group unit (λ k. loose_trust a there b e.group left ks own_ks blocks_there loosely k ∙ reaped_trust a left e k)

  same_own : own b e.group ≡ own there e.group
  same_own = loose_own a there b e.group left ks splits_there own_ks (reaped_words a left e oa) blocks_there ob.blocks loosely

  frame : (unit : ScrubUnit) → (AreTuples (own there e.group) → HaveNext (own there e.group) → IsTrusted a e.group unit → Holds a e.group unit → Holds there e.group unit) → Stands a e.group unit → Stands b e.group unit
  frame unit keep stands trusted =
      let before : IsTrusted a e.group unit = trusted_before unit trusted in
      moves_keep a there b e.group left ks unit splits_there own_ks (reaped_words a left e oa) blocks_there ob.blocks loosely (keep (subst AreTuples same_own ob.tuples) (subst HaveNext same_own ob.next) before (stands before))

none_of : (left : List Kind) (k : Kind) (rest : Bool) → (is_among k left || rest) ≡ false → (is_among k left ≡ false) × (rest ≡ false)
none_of left k rest h = either_false (is_among k left) rest h

pub reaped_keeps_own : ReapedKeepsOwn
reaped_keeps_own a b left e units.Inode fit s chunks oa ob made maps stands = reaped_keeps a b left e e.group units.Inode (splits_in a.geometry fit) s chunks oa.words (inr (eq-eqb e.group e.group refl, refl)) stands
reaped_keeps_own a b left e units.Refc fit s chunks oa ob made maps stands = frame a b left e fit s chunks oa ob units.Refc (λ tx nx t h. counts_kept a left e s.row.0.some s.row.0.in_limbo oa h) stands
reaped_keeps_own a b left e units.Rmap fit s chunks oa ob made maps stands =
    frame a b left e fit s chunks oa ob units.Rmap
    (λ tx nx t h. maps_kept a left e s.row.0.some s.row.0.in_limbo oa fit (loose_chunks a (reaped left (owner_of_run (a.group e.group) e) e a) b e.group left (edited_in a left (entries.Reaped e)) (loosely a b left e fit s chunks oa ob) chunks)
    (good_edited left (a.group e.group) Rmap t.0 (none_of left Rmap false made).0) tx nx h) stands
reaped_keeps_own a b left e units.Free fit s chunks oa ob made maps stands =
    let nb = none_of left Bno (is_among Cnt left || (is_among Rmap left || false)) made in
    let nc = none_of left Cnt (is_among Rmap left || false) nb.1 in
    let nr = none_of left Rmap false nc.1 in
    frame a b left e fit s chunks oa ob units.Free
    (λ tx nx t h. space_kept a left e s.row.0.some s.row.0.in_limbo oa fit (loose_chunks a (reaped left (owner_of_run (a.group e.group) e) e a) b e.group left (edited_in a left (entries.Reaped e)) (loosely a b left e fit s chunks oa ob) chunks)
    (good_edited left (a.group e.group) Rmap s.row.0.good nr.0) tx nx (maps (s.row.0.good, tt)) s.met (good_edited left (a.group e.group) Bno t.0 nb.0) (good_edited left (a.group e.group) Cnt t.1.0 nc.0) h) stands
