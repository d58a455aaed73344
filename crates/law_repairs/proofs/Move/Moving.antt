-- Blocks that move between the list, limbo and trees of the group's own owner keep their owner.
use Rattle.std.proofs.Common.{◌≡◌, ℕ, ◌+◌, ◌<◌, ◌≤◌, ◌==◌, ◌&&◌, ◌||◌, Bool, true, false, cond, List, [], ◌∷◌, ◌++◌, map, flat_map, refl, ap, ap₂, sym, subst, ◌∙◌, inl, inr, arith, Option, Some, None, eqb-true, drop}
use Rattle.std.specs.Prelude.{◌⊎◌, ◌-◌, ◌%◌, ◌^◌, length, if◌then◌else◌}
use Rattle.std.specs.List.{list_all, list_any}
use Rattle.std.proofs.lemmas.Bool.{and_parts, true≢false}
use Rattle.std.proofs.lemmas.List.{length-append}
use Rattle.fs_change.specs.Changes.{follow}
use Rattle.fs_change.specs.Loose.{Inside, MovesBlocks, block_counter, count_used, laid_out, lost_in, may_join, owners_follow, owners_in, pool_of, tree_blocks}
use Rattle.fs_change.specs.Met.{give_each, take_each}
use Rattle.fs_change.specs.Parts.{change_tree, edit, in_blocks, in_trees, is_edited, set_blocks, tree_only, with_recs}
use Rattle.fs_change.specs.Switch.{has_owned}
use Rattle.fs_state.specs.Records.{all_kinds, tree_owner}
use Rattle.fs_model.specs.declared.fault.Counter.{Counter}
use Rattle.fs_model.specs.declared.fault.Counter.TheVariants.{Count, Freecount, Iblocks, Fblocks, RmapBlocks, Freeblks, Longest, Btreeblks, RefcountBlocks}
use Rattle.fs_model.specs.declared.unit.Trust.{Trust}
use Rattle.fs_state.specs.Group.{is_among}
use Rattle.fs_state.specs.Kinds.{RecOf}
use Rattle.fs_state.specs.State.{Group, Index, Owned, Readable, Reading, Unreadable, blocks_in, blocks_of, is_readable, recs_of, pairs_of}
use Rattle.rmap_recs.specs.Owners.{number_of}
use Rattle.rmap_recs.specs.declared.owner.Owner.TheVariants.{Ag}
use Rattle.sblock.specs.declared.kind.Kind.{Kind}
use Rattle.sblock.specs.declared.kind.Kind.TheVariants.{Bno, Cnt, Rmap, Refc, Ino, Fino}
use Rattle.tree_defs.specs.Lists.{AllDiffer, In, is_in, times}
use Rattle.law_accounts.proofs.Account.Framed.{SameParts, edit_parts}
use Rattle.law_repairs.proofs.Repair.Switches.{placed_other}
use Rattle.law_repairs.specs.Move.Moving.{is_own}
use Rattle.law_repairs.proofs.Move.Pairs.{Among, Lies, among_by, among_of, block_in, blocks_are, each_of, in_of, lies_of, none_lost, one_pair, with_block}

-- ---- trees in other blocks

-- what holds of the tree that changes, and of each before, holds of each
pub by_tree : (P : (l : Kind) → Index (RecOf l) → Type 0) (k j : Kind) (i : Index (RecOf k)) (f : (l : Kind) → Index (RecOf l)) → P k i → ((l : Kind) → P l (f l)) → P j (tree_only k i f j)
by_tree P Bno Bno i f new old = new
by_tree P Cnt Cnt i f new old = new
by_tree P Rmap Rmap i f new old = new
by_tree P Refc Refc i f new old = new
by_tree P Ino Ino i f new old = new
by_tree P Fino Fino i f new old = new
by_tree P k j i f new old = old j

-- a tree with the same records, that can be read or not as before, and the same trust
pub record SameRecords {R : Type 0} (i j : Index R) : Type 0 where
  pub recs : recs_of j.reading ≡ recs_of i.reading
  pub readable : is_readable j.reading ≡ is_readable i.reading
  pub trust : j.trust ≡ i.trust

itself : {R : Type 0} (i : Index R) → SameRecords i i
itself i = record { recs = refl; readable = refl; trust = refl }

then_same : {R : Type 0} (i j k : Index R) → SameRecords i j → SameRecords j k → SameRecords i k
then_same i j k s t = record { recs = t.recs ∙ s.recs; readable = t.readable ∙ s.readable; trust = t.trust ∙ s.trust }

recs_put : {R : Type 0} (blocks : List ℕ) (r : Reading R) → recs_of (in_blocks blocks r) ≡ recs_of r
recs_put blocks (Readable recs old) = refl
recs_put blocks (Unreadable block fault claims) = refl

readable_put : {R : Type 0} (blocks : List ℕ) (r : Reading R) → is_readable (in_blocks blocks r) ≡ is_readable r
readable_put blocks (Readable recs old) = refl
readable_put blocks (Unreadable block fault claims) = refl

placed_same : (blocks : Kind → List ℕ) (ks : List Kind) (p : Group) (j : Kind) → SameRecords (p.tree j) ((in_trees blocks ks p).tree j)
placed_same blocks [] p j = itself (p.tree j)
placed_same blocks (k ∷ ks) p j =
    let q : Group = in_trees blocks ks p in
    then_same (p.tree j) (q.tree j) ((set_blocks k (blocks k) q).tree j) (placed_same blocks ks p j)
    (by_tree (λ l i. SameRecords (q.tree l) i) k j (record (q.tree k) { reading = in_blocks (blocks k) (q.tree k).reading }) q.tree
    (record { recs = recs_put (blocks k) (q.tree k).reading; readable = readable_put (blocks k) (q.tree k).reading; trust = refl })
    (λ l. itself (q.tree l)))

put_back : {R : Type 0} (r : Reading R) → with_recs (recs_of r) r ≡ r
put_back (Readable recs blocks) = refl
put_back (Unreadable block fault claims) = refl

-- an edit that leaves the records leaves the trees
abbrev put_again : Group → Index (RecOf Rmap)
put_again p = record (p.tree Rmap) { reading = with_recs (recs_of (p.tree Rmap).reading) (p.tree Rmap).reading }

unedited : (left : List Kind) (p : Group) (j : Kind) → (edit left Rmap (λ recs. recs) p).tree j ≡ p.tree j
unedited left p j = by (is_edited left p Rmap)
  where
    same : put_again p ≡ p.tree Rmap
    same = λ i. record { reading = put_back (p.tree Rmap).reading i; trust = (p.tree Rmap).trust }

    by : (t : Bool) → (cond t (change_tree Rmap (λ i. record i { reading = with_recs (recs_of i.reading) i.reading }) p) p).tree j ≡ p.tree j
    by true = by_tree (λ l i. i ≡ p.tree l) Rmap j (put_again p) p.tree same (λ l. refl)
    by false = refl

own_owner : (k : Kind) → is_own k ≡ true → tree_owner k ≡ number_of Ag
own_owner Bno h = refl
own_owner Cnt h = refl
own_owner Rmap h = refl
own_owner Refc h = absurd (true≢false (sym h))
own_owner Ino h = absurd (true≢false (sym h))
own_owner Fino h = absurd (true≢false (sym h))

-- a kind that isn't the group's own isn't one of such kinds; one that isn't among them, or is the group's own
not_among : (k : Kind) (ks : List Kind) → list_all is_own ks ≡ true → is_own k ≡ false → is_among k ks ≡ false
not_among k [] h o = refl
not_among k (j ∷ js) h o =
    let e = and_parts (is_own j) (list_all is_own js) h in
    first k j o e.0 (not_among k js e.1 o)
  where
    first : (k j : Kind) → is_own k ≡ false → is_own j ≡ true → is_among k js ≡ false → is_among k (j ∷ js) ≡ false
    first Refc Bno o i r = r
    first Refc Cnt o i r = r
    first Refc Rmap o i r = r
    first Ino Bno o i r = r
    first Ino Cnt o i r = r
    first Ino Rmap o i r = r
    first Fino Bno o i r = r
    first Fino Cnt o i r = r
    first Fino Rmap o i r = r
    first Bno j o i r = absurd (true≢false o)
    first Cnt j o i r = absurd (true≢false o)
    first Rmap j o i r = absurd (true≢false o)
    first k Refc o i r = absurd (true≢false (sym i))
    first k Ino o i r = absurd (true≢false (sym i))
    first k Fino o i r = absurd (true≢false (sym i))

own_or_stays : (k : Kind) (ks : List Kind) → list_all is_own ks ≡ true → (tree_owner k ≡ number_of Ag) ⊎ (is_among k ks ≡ false)
own_or_stays Bno ks h = inl refl
own_or_stays Cnt ks h = inl refl
own_or_stays Rmap ks h = inl refl
own_or_stays Refc ks h = inr (not_among Refc ks h refl)
own_or_stays Ino ks h = inr (not_among Ino ks h refl)
own_or_stays Fino ks h = inr (not_among Fino ks h refl)

-- ---- one move

-- What is the same, and what follows?
pub record Moved (kept : Bool) (p q : Group) : Type 0 where
  pub trees : (k : Kind) → SameRecords (p.tree k) (q.tree k)
  pub others : (k : Kind) → is_own k ≡ false → (q.tree k).reading ≡ (p.tree k).reading
  pub reserve : q.reserve ≡ p.reserve
  pub times_same : (b : ℕ) → times b (pool_of q) ≡ times b (pool_of p)
  pub stays : (o : Owned) → Among o (owners_in p) → Among o (owners_in q)
  pub came : (o : Owned) → Among o (owners_in q) → Among o (owners_in p)
  pub counters : (name : Counter) → q.counters name ≡ block_counter kept p q name

-- counters that count blocks of the same trees are the same
counted_same : (kept : Bool) (p q r : Group) → ((k : Kind) → tree_blocks r k ≡ tree_blocks q k) → (name : Counter) → block_counter kept p r name ≡ block_counter kept p q name
counted_same kept p q r e Count = refl
counted_same kept p q r e Freecount = refl
counted_same kept p q r e Iblocks = ap (λ (bs : List ℕ). if kept then follow (p.counters Iblocks) (length (tree_blocks p Ino)) (length bs) else p.counters Iblocks) (e Ino)
counted_same kept p q r e Fblocks = ap (λ (bs : List ℕ). if kept then follow (p.counters Fblocks) (length (tree_blocks p Fino)) (length bs) else p.counters Fblocks) (e Fino)
counted_same kept p q r e RmapBlocks = ap (λ (bs : List ℕ). follow (p.counters RmapBlocks) (length (tree_blocks p Rmap)) (length bs)) (e Rmap)
counted_same kept p q r e Freeblks = refl
counted_same kept p q r e Longest = refl
counted_same kept p q r e Btreeblks = λ i. follow (p.counters Btreeblks) (length (tree_blocks p Bno) + length (tree_blocks p Cnt) + length (tree_blocks p Rmap)) (length (e Bno i) + length (e Cnt i) + length (e Rmap i))
counted_same kept p q r e RefcountBlocks = ap (λ (bs : List ℕ). follow (p.counters RefcountBlocks) (length (tree_blocks p Refc)) (length bs)) (e Refc)

module _ (kept : Bool) (left ks : List Kind) (p q : Group) (m : MovesBlocks kept left ks p q) (own : list_all is_own ks ≡ true) (once : AllDiffer (pool_of p)) where
  abbrev laid : Group
  laid = record (in_trees m.blocks ks p) { free_list = drop (count_used p.free_list q.free_list) p.free_list ++ m.freed; limbo = m.limbo }

  abbrev followed : Group
  followed = owners_follow left p laid

  parts : SameParts laid followed
  parts = edit_parts left Rmap (λ recs. give_each (lost_in laid p) (take_each (lost_in p laid) recs)) laid

  list_is : q.free_list ≡ laid.free_list
  list_is = ap (λ (r : Group). r.free_list) m.is ∙ parts.list

  limbo_is : q.limbo ≡ m.limbo
  limbo_is = ap (λ (r : Group). r.limbo) m.is ∙ parts.limbo

  blocks_now : (k : Kind) → tree_blocks q k ≡ tree_blocks laid k
  blocks_now k = ap (λ (r : Group). tree_blocks r k) m.is ∙ parts.blocks k

  pool_now : pool_of laid ≡ pool_of q
  pool_now = λ i. sym list_is i ++ (sym (blocks_now Bno) i ++ (sym (blocks_now Cnt) i ++ (sym (blocks_now Rmap) i ++ (sym (blocks_now Refc) i ++ (sym (blocks_now Ino) i ++ (sym (blocks_now Fino) i ++ [])))))) ++ blocks_in (sym limbo_is i)

  times_laid : (b : ℕ) → times b (pool_of laid) ≡ times b (pool_of p)
  times_laid b = ap (times b) pool_now ∙ m.none_lost b

  pairs_once : (r : Group) → ((b : ℕ) → times b (pool_of r) ≡ times b (pool_of p)) → AllDiffer (blocks_in (owners_in r))
  pairs_once r e b =
      let s : times b (blocks_in (owners_in r)) ≡ times b (pool_of r) = ap (times b) (blocks_are r) in
      let t = e b in
      let u = once b in
      omega (arith, s, t, u)

  one_before : (o n : Owned) → Among o (owners_in p) → Among n (owners_in p) → o.block ≡ n.block → o ≡ n
  one_before = one_pair (owners_in p) (pairs_once p (λ b. refl))

  one_later : (o n : Owned) → Among o (owners_in laid) → Among n (owners_in laid) → o.block ≡ n.block → o ≡ n
  one_later = one_pair (owners_in laid) (pairs_once laid times_laid)

  -- a pair stays where it is in a tree that isn't moved, or in limbo
  steady : (k : Kind) → is_among k ks ≡ false → tree_blocks laid k ≡ tree_blocks p k
  steady k h = ap (λ (i : Index (RecOf k)). blocks_of i.reading) (placed_other m.blocks ks p k h)

  abbrev IsGroups : Owned → Type 0
  IsGroups o = o.owner ≡ number_of Ag

  -- where a pair was: it is there still, or it is the group's
  was : (o : Owned) → Lies p o → Among o (owners_in laid) ⊎ IsGroups o
  was o (inl list) = inr list.0
  was o (inr (inl t)) = elim (own_or_stays t.0 ks own) [
    | inl groups ↦ inr (t.1 ∙ groups)
    | inr out ↦ inl (among_by laid o (inr (inl (t.0, t.1, subst (In o.block) (sym (steady t.0 out)) t.2))))
  ]
  was o (inr (inr limbo)) = inl (among_by laid o (inr (inr (among_of o m.limbo (each_of (has_owned m.limbo) p.limbo o m.limbo_keeps limbo)))))

  any_own : (js : List Kind) (o : Owned) (f : Kind → Bool) → list_all is_own js ≡ true → list_any (λ k. (o.owner == tree_owner k) && f k) js ≡ true → IsGroups o
  any_own [] o f h e = absurd (true≢false (sym e))
  any_own (k ∷ js) o f h e =
      let i = and_parts (is_own k) (list_all is_own js) h in
      (elim ((o.owner == tree_owner k) && f k) as (λ b. ((o.owner == tree_owner k) && f k) ≡ b → (b || list_any (λ l. (o.owner == tree_owner l) && f l) js) ≡ true → IsGroups o) [
        | true ↦ λ here r. eqb-true o.owner (tree_owner k) (and_parts (o.owner == tree_owner k) (f k) here).0 ∙ own_owner k i.0
        | false ↦ λ here r. any_own js o f i.1 r
      ]) refl e

  joined : (o : Owned) → (x : Bool) → has_owned p.limbo o ≡ x → (x || list_any (λ k. (o.owner == tree_owner k) && (is_in o.block (tree_blocks p k) || is_in o.block p.free_list)) ks) ≡ true → Among o (owners_in p) ⊎ IsGroups o
  joined o true e h = inl (among_by p o (inr (inr (among_of o p.limbo e))))
  joined o false e h = inr (any_own ks o (λ k. is_in o.block (tree_blocks p k) || is_in o.block p.free_list) own h)

  -- and where one is: it was there, or it is the group's
  is_now : (o : Owned) → Lies laid o → Among o (owners_in p) ⊎ IsGroups o
  is_now o (inl list) = inr list.0
  is_now o (inr (inl t)) = elim (own_or_stays t.0 ks own) [
    | inl groups ↦ inr (t.1 ∙ groups)
    | inr out ↦ inl (among_by p o (inr (inl (t.0, t.1, subst (In o.block) (steady t.0 out) t.2))))
  ]
  is_now o (inr (inr limbo)) = joined o (has_owned p.limbo o) refl (each_of (may_join ks p) m.limbo o m.limbo_gains limbo)

  same_pair : (o n : Owned) → o.block ≡ n.block → IsGroups o → IsGroups n → n ≡ o
  same_pair o n e h i = λ j. record { block = sym e j; owner = (i ∙ sym h) j }

  pub pair_stays : (o : Owned) → Among o (owners_in p) → Among o (owners_in laid)
  pair_stays o c = elim (was o (lies_of p o c)) [
    | inl there ↦ there
    | inr groups ↦
        let some = block_in o (owners_in p) c in
        let here : times o.block (blocks_in (owners_in laid)) ≡ times o.block (blocks_in (owners_in p)) = ap (times o.block) (blocks_are laid) ∙ times_laid o.block ∙ sym (ap (times o.block) (blocks_are p)) in
        let found = with_block o.block (owners_in laid) (omega (arith, some, here)) in
        elim (is_now found.0 (lies_of laid found.0 found.1)) [
          | inl before ↦ subst (λ (n : Owned). Among n (owners_in laid)) (sym (one_before o found.0 c before (sym found.2))) found.1
          | inr also ↦ subst (λ (n : Owned). Among n (owners_in laid)) (same_pair o found.0 (sym found.2) groups also) found.1
        ]
  ]

  pub pair_came : (o : Owned) → Among o (owners_in laid) → Among o (owners_in p)
  pair_came o c =
      let some = block_in o (owners_in laid) c in
      let here : times o.block (blocks_in (owners_in laid)) ≡ times o.block (blocks_in (owners_in p)) = ap (times o.block) (blocks_are laid) ∙ times_laid o.block ∙ sym (ap (times o.block) (blocks_are p)) in
      let found = with_block o.block (owners_in p) (omega (arith, some, here)) in
      let same : o ≡ found.0 = one_later o found.0 c (pair_stays found.0 found.1) (sym found.2) in
      subst (λ (n : Owned). Among n (owners_in p)) (sym same) found.1

  -- so reverse mappings have nothing to follow
  nothing_follows : followed ≡ edit left Rmap (λ recs. recs) laid
  nothing_follows = ap₂ (λ (new old : List Owned). edit left Rmap (λ recs. give_each (pairs_of new) (take_each (pairs_of old) recs)) laid)
      (none_lost (owners_in laid) (owners_in p) pair_came) (none_lost (owners_in p) (owners_in laid) pair_stays)

  tree_now : (k : Kind) → q.tree k ≡ laid.tree k
  tree_now k = ap (λ (r : Group). r.tree k) m.is ∙ ap (λ (r : Group). r.tree k) nothing_follows ∙ unedited left laid k

  owners_now : owners_in laid ≡ owners_in q
  owners_now = λ i. map (λ b. record { block = b; owner = number_of Ag }) (sym list_is i)
      ++ flat_map (λ k. map (λ b. record { block = b; owner = tree_owner k }) (sym (blocks_now k) i)) all_kinds
      ++ sym limbo_is i

  pub blocks_moved : Moved kept p q
  blocks_moved = record {
    trees = λ k. subst (SameRecords (p.tree k)) (sym (tree_now k)) (placed_same m.blocks ks p k);
    others = λ k h. ap (λ (i : Index (RecOf k)). i.reading) (tree_now k ∙ placed_other m.blocks ks p k (not_among k ks own h));
    reserve = ap (λ (r : Group). r.reserve) m.is ∙ parts.reserve ∙ placed_reserve m.blocks ks p;
    times_same = m.none_lost;
    stays = λ o c. subst (Among o) owners_now (pair_stays o c);
    came = λ o c. pair_came o (subst (Among o) (sym owners_now) c);
    counters = λ name. ap (λ (r : Group). r.counters name) m.is ∙ sym (counted_same kept p followed q (λ k. blocks_now k ∙ sym (parts.blocks k)) name);
  }
    where
      placed_reserve : (blocks : Kind → List ℕ) (js : List Kind) (r : Group) → (in_trees blocks js r).reserve ≡ r.reserve
      placed_reserve blocks [] r = refl
      placed_reserve blocks (k ∷ js) r = placed_reserve blocks js r
