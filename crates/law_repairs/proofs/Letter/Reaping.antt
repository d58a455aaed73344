-- A run that leaves limbo with its owner, and the sums over claims then.
use Rattle.std.proofs.Common.{◌≡◌, ℕ, ◌+◌, ◌-◌, ◌^◌, ◌<◌, ◌≤◌, ◌==◌, ◌&&◌, Bool, true, false, cond, not, List, [], ◌∷◌, ◌++◌, map, filter, flat_map, Contains, refl, ap, sym, subst, ◌∙◌, inl, inr, arith, eqb-true, eq-eqb, zero, suc}
use Rattle.std.specs.Prelude.{nat_le, nat_lt, if◌then◌else◌}
use Rattle.std.specs.List.{list_all, list_any}
use Rattle.std.proofs.lemmas.Bool.{and_parts, cases_Bool, cases_order, leb-true, ltb-true, true≢false}
use Rattle.std.proofs.lemmas.Bool.Decides.{nat_tests}
use Rattle.derive_defs.specs.Mappings.{covers}
use Rattle.fs_change.proofs.Sets.{same_is, same_self}
use Rattle.fs_change.specs.Changes.{is_of_run, plain_run}
use Rattle.fs_change.specs.Choice.{is_guarded}
use Rattle.fs_change.specs.Loose.{owners_in, tree_blocks}
use Rattle.fs_change.specs.Records.{take_mapping}
use Rattle.fs_change.specs.Switch.{has_owned, owned_by as with_owner}
use Rattle.fs_state.specs.Chunks.{chunks}
use Rattle.fs_state.specs.Claims.{Claimed, claims, fork_claims}
use Rattle.fs_state.specs.Records.{all_kinds, tree_owner}
use Rattle.fs_state.specs.Lists.{numbers}
use Rattle.fs_state.specs.Own.{own, rmap_of}
use Rattle.fs_model.specs.declared.entry.Extent.{Extent}
use Rattle.fs_state.specs.State.{State, Group, Owned}
use Rattle.geom.specs.Apart.{Splits}
use Rattle.geom.specs.Layout.{group_len_of}
use Rattle.rmap_recs.proofs.RisingLemmas.{any_found, filtered}
use Rattle.rmap_recs.specs.Owners.{is_inode, number_of}
use Rattle.rmap_recs.specs.Runs.{AreTuples, HaveNext, is_same, tuple_at}
use Rattle.rmap_recs.specs.Words.{is_fork_data}
use Rattle.rmap_recs.specs.declared.owner.Owner.TheVariants.{Ag}
use Rattle.rmap_recs.specs.declared.records.RmapRec.{RmapRec}
use Rattle.rmap_recs.specs.declared.tuples.Tuple.{Tuple}
use Rattle.run_edits.proofs.PutLemmas.{tuple_order}
use Rattle.run_edits.specs.EditLaws.{AreTaken, IsOf}
use Rattle.sblock.specs.declared.kind.Kind.{Kind}
use Rattle.law_accounts.proofs.Edit.Mappings.{mapping_taken}
use Rattle.law_repairs.specs.Repair.Alike.{AlikeInodes}
use Rattle.law_repairs.specs.Repair.Letters.{IsClear}
use Rattle.law_repairs.specs.Repair.Owners.{LieInside}
use Rattle.law_repairs.proofs.Repair.Groups.{forks_stay}
use Rattle.law_repairs.proofs.Repair.Owners.{lies_inside}
use Rattle.law_repairs.proofs.Repair.Same.{chunks_same, forks_same}
use Rattle.law_repairs.proofs.Repair.Totals.{alone_by, chunk_part, clear_if_none, front_part, is_owner, limbo_weight, none_if_clear, owned_by, weigh, weigh_both}
use Rattle.law_repairs.proofs.Move.Claiming.{IsPlain, alone_is_owned, alone_plain, owned_plain, owner_plain, total_is}
use Rattle.law_repairs.proofs.Reserve.Owning.{owned_if, plain_end, runs_are, runs_now, weight_of}
use Rattle.law_repairs.proofs.Move.Pairs.{Among, among_of, tree_pairs, weigh_more, weigh_some}
use Rattle.law_repairs.proofs.Reserve.Turning.{both_fewer}

-- ---- the blocks of a run

pub each_number : (test : ℕ → Bool) (from n c : ℕ) → list_all test (numbers from n) ≡ true → from ≤ c → c < from + n → test c ≡ true
each_number test from zero c h low high = absurd (omega (arith, low, high))
each_number test from (suc n) c h low high =
    let k = and_parts (test from) (list_all test (numbers (from + 1) n)) h in
    elim (cases_order from c) [
      | inl same ↦ ap test (sym same) ∙ k.0
      | inr (inl less) ↦ each_number test (from + 1) n c k.1 (omega (arith, less)) (omega (arith, high))
      | inr (inr more) ↦ absurd (omega (arith, more, low))
    ]

abbrev pub of_run : ℕ → ℕ → Tuple
of_run owner c = record { block = c; owner = owner; word = 0 }

-- the tuples of a run whose owner is no inode
pub run_tuple : (owner : ℕ) (e : Extent) (i : ℕ) → is_inode owner ≡ false → tuple_at (plain_run owner e) i ≡ of_run owner (e.block + i)
unfolding is_fork_data
run_tuple owner e i plain = rw (plain) refl

-- ---- pairs of limbo that go, and those that stay

weigh_split : (f : Owned → ℕ) (test : Owned → Bool) (os : List Owned) → weigh f (filter (λ o. not (test o)) os) + weigh (λ o. if test o then f o else 0) os ≡ weigh f os
weigh_split f test [] = refl
weigh_split f test (o ∷ os) = by (test o) (weigh_split f test os)
  where
    goes : (s t v x : ℕ) → s + t ≡ v → s + (x + t) ≡ x + v
    goes s t v x e = omega (arith, e)

    stays : (s t v x : ℕ) → s + t ≡ v → x + s + (0 + t) ≡ x + v
    stays s t v x e = omega (arith, e)

    by : (k : Bool) → weigh f (filter (λ p. not (test p)) os) + weigh (λ p. if test p then f p else 0) os ≡ weigh f os
        → weigh f (cond (not k) (o ∷ filter (λ p. not (test p)) os) (filter (λ p. not (test p)) os)) + ((if k then f o else 0) + weigh (λ p. if test p then f p else 0) os) ≡ f o + weigh f os
    by true h = goes (weigh f (filter (λ p. not (test p)) os)) (weigh (λ p. if test p then f p else 0) os) (weigh f os) (f o) h
    by false h = stays (weigh f (filter (λ p. not (test p)) os)) (weigh (λ p. if test p then f p else 0) os) (weigh f os) (f o) h

pub record LeavesLimbo (owner : ℕ) (e : Extent) (p q : Group) : Type 0 where
  pub list : q.free_list ≡ p.free_list
  pub blocks : (k : Kind) → tree_blocks q k ≡ tree_blocks p k
  pub reserve : q.reserve ≡ p.reserve
  pub limbo : q.limbo ≡ filter (λ o. not (is_of_run owner e o)) p.limbo

module _ (a x : State) (g owner : ℕ) (e : Extent) (splits : Splits a.geometry) (alike : AlikeInodes a x) (leaves : LeavesLimbo owner e (a.group g) (x.group g)) (some : 0 < e.count)
    (there : list_all (λ c. has_owned (a.group g).limbo (with_owner owner c)) (numbers e.block e.count) ≡ true) (plain : is_inode owner ≡ false) where
  abbrev gone : (Claimed → ℕ) → ℕ
  gone w = weigh (λ o. if is_of_run owner e o then limbo_weight w o else 0) (a.group g).limbo

  lessened : (w : Claimed → ℕ) → IsPlain w → weigh w (claims x g) + gone w ≡ weigh w (claims a g)
  lessened w plainly =
      let front : List Owned = map (with_owner (number_of Ag)) (a.group g).free_list ++ flat_map (tree_pairs (a.group g)) all_kinds in
      let kept : List Owned = filter (λ o. not (is_of_run owner e o)) (a.group g).limbo in
      let same : owners_in (x.group g) ≡ front ++ kept = λ i. map (with_owner (number_of Ag)) (leaves.list i) ++ flat_map (λ k. map (with_owner (tree_owner k)) (leaves.blocks k i)) all_kinds ++ leaves.limbo i in
      let now = total_is w plainly x g
      ∙ (λ i. weigh w (front_part (alike.geometry i) g) + weigh (limbo_weight w) (same i) + weigh (limbo_weight w) (leaves.reserve i) + weigh w (chunk_part (chunks_same a x splits alike g i)) + weigh w (forks_same a x splits alike g i)) in
      sums (weigh w (front_part a.geometry g)) (weigh (limbo_weight w) (owners_in (a.group g))) (weigh (limbo_weight w) (front ++ kept)) (weigh (limbo_weight w) front) (weigh (limbo_weight w) kept) (weigh (limbo_weight w) (a.group g).limbo) (weigh (limbo_weight w) (a.group g).reserve)
      (weigh w (chunk_part (chunks a g))) (weigh w (fork_claims a g)) (weigh w (claims x g)) (weigh w (claims a g)) (gone w) now (total_is w plainly a g) (weigh_both (limbo_weight w) front kept) (weigh_both (limbo_weight w) front (a.group g).limbo) (weigh_split (limbo_weight w) (is_of_run owner e) (a.group g).limbo)
    where
      sums : (f o s u v l r c k n m d : ℕ) → n ≡ f + s + r + c + k → m ≡ f + o + r + c + k → s ≡ u + v → o ≡ u + l → v + d ≡ l → n + d ≡ m
      sums f o s u v l r c k n m d e1 e2 e3 e4 e5 = omega (arith, e1, e2, e3, e4, e5)

  in_run : (c : ℕ) → e.block ≤ c → c < e.block + e.count → is_of_run owner e (with_owner owner c) ≡ true
  in_run c low high =
      let l : nat_le e.block c ≡ true = grind (arith, nat_tests) in
      let m : nat_lt c (e.block + e.count) ≡ true = grind (arith, nat_tests) in
      rw (eq-eqb owner owner refl, l, m) refl

  limbo_has : (c : ℕ) → e.block ≤ c → c < e.block + e.count → Among (with_owner owner c) (a.group g).limbo
  limbo_has c low high = among_of (with_owner owner c) (a.group g).limbo (each_number (λ d. has_owned (a.group g).limbo (with_owner owner d)) e.block e.count c there low high)

  -- what of a block of the run goes
  goes : (w : Claimed → ℕ) (c : ℕ) → e.block ≤ c → c < e.block + e.count → limbo_weight w (with_owner owner c) ≤ gone w
  goes w c low high =
      let more = weigh_more (λ o. if is_of_run owner e o then limbo_weight w o else 0) (a.group g).limbo (with_owner owner c) (limbo_has c low high) in
      let is : (if is_of_run owner e (with_owner owner c) then limbo_weight w (with_owner owner c) else 0) ≡ limbo_weight w (with_owner owner c) = ap (λ (k : Bool). if k then limbo_weight w (with_owner owner c) else 0) (in_run c low high) in
      omega (arith, more, is)

  own_bit : (c : ℕ) → limbo_weight (owned_by c) (with_owner owner c) ≡ 1
  own_bit c = ap (λ (k : Bool). if k then 1 else 0) (eq-eqb c c refl)

  tuple_bit : (c : ℕ) → limbo_weight (is_owner (of_run owner c)) (with_owner owner c) ≡ 1
  tuple_bit c = ap (λ (k : Bool). if k then 1 else 0) (same_self (of_run owner c))

  had : (c : ℕ) → e.block ≤ c → c < e.block + e.count → 1 ≤ weigh (is_owner (of_run owner c)) (claims a g)
  had c low high =
      let l = lessened (is_owner (of_run owner c)) (owner_plain (of_run owner c)) in
      let m = goes (is_owner (of_run owner c)) c low high in
      let one = tuple_bit c in
      omega (arith, l, m, one)

  module _ (inside : LieInside a g) (clear : IsClear a g) where
    pub lies_in : (c : ℕ) → e.block ≤ c → c < e.block + e.count → c < group_len_of a.geometry g
    lies_in c low high =
        let l = lessened (owned_by c) (owned_plain c) in
        let m = goes (owned_by c) c low high in
        let one = own_bit c in
        lies_inside (group_len_of a.geometry g) c (claims a g) inside (omega (arith, l, m, one))

    -- the claim of limbo is the block's only one
    only_one : (c : ℕ) → e.block ≤ c → c < e.block + e.count → weigh (owned_by c) (claims a g) ≤ 1
    only_one c low high =
        let l = lessened (alone_by c) (alone_plain c) in
        let m = goes (alone_by c) c low high in
        let one = alone_is_owned c (with_owner owner c) in
        let two = own_bit c in
        clear_if_none a g (claims a g) clear.apart c (lies_in c low high) (omega (arith, l, m, one, two))

    -- nobody has it then
    pub nobody_then : (c : ℕ) → e.block ≤ c → c < e.block + e.count → weigh (owned_by c) (claims x g) ≡ 0
    nobody_then c low high =
        let l = lessened (owned_by c) (owned_plain c) in
        let m = goes (owned_by c) c low high in
        let one = own_bit c in
        let most = only_one c low high in
        omega (arith, l, m, one, most)

    -- nor had anybody else
    pub nobody_else : (t : Tuple) → e.block ≤ t.block → t.block < e.block + e.count → Contains (own a g) t → t.owner ≡ owner
    nobody_else t low high c = elim (cases_Bool (t.owner == owner)) [
      | inl is ↦ eqb-true t.owner owner is
      | inr isnt ↦
          let w = weight_of a g t c in
          let mine = had t.block low high in
          let most = both_fewer (of_run owner t.block) t t.block refl refl (λ e. true≢false (sym (eq-eqb t.owner owner (ap (λ (u : Tuple). u.owner) (sym e))) ∙ isnt)) (claims a g) in
          let one = only_one t.block low high in
          absurd (omega (arith, w, mine, most, one))
    ]

    abbrev run : RmapRec
    run = plain_run owner e

    of_block : (t : Tuple) → IsOf run t → (e.block ≤ t.block) × (t.block < e.block + e.count) × (of_run owner t.block ≡ t)
    of_block t of =
        let is : of_run owner (e.block + of.0) ≡ t = sym (run_tuple owner e of.0 plain) ∙ of.2 in
        let at : e.block + of.0 ≡ t.block = ap (λ (u : Tuple). u.block) is in
        let below = of.1 in
        (omega (arith, at), omega (arith, at, below), ap (of_run owner) (sym at) ∙ is)

    is_of : (c : ℕ) → e.block ≤ c → c < e.block + e.count → IsOf run (of_run owner c)
    is_of c low high = (c - e.block, omega (arith, low, high), run_tuple owner e (c - e.block) plain ∙ ap (of_run owner) (let s : e.block + (c - e.block) ≡ c = omega (arith, low) in s))

    none_gone : (t : Tuple) → (IsOf run t → ⊥) → gone (is_owner t) ≡ 0
    none_gone t out = elim (cases_order (gone (is_owner t)) 0) [
      | inl z ↦ z
      | inr (inl less) ↦ absurd (omega (arith, less))
      | inr (inr more) ↦
          let found = weigh_some (λ o. if is_of_run owner e o then limbo_weight (is_owner t) o else 0) (a.group g).limbo (omega (arith, more)) in
          let o : Owned = found.0 in
          absurd (by o (is_of_run owner e o) refl (is_same t (record { block = o.block; owner = o.owner; word = 0 })) refl found.2)
    ]
      where
        by : (o : Owned) (k : Bool) → is_of_run owner e o ≡ k → (m : Bool) → is_same t (record { block = o.block; owner = o.owner; word = 0 }) ≡ m → 1 ≤ (if k then (if m then 1 else 0) else 0) → ⊥
        by o true h true i some =
            let parts = and_parts (o.owner == owner) (nat_le e.block o.block && nat_lt o.block (e.block + e.count)) h in
            let places = and_parts (nat_le e.block o.block) (nat_lt o.block (e.block + e.count)) parts.1 in
            let same : t ≡ record { block = o.block; owner = o.owner; word = 0 } = same_is t (record { block = o.block; owner = o.owner; word = 0 }) i in
            let mine : of_run owner o.block ≡ t = ap (λ (n : ℕ). of_run n o.block) (sym (eqb-true o.owner owner parts.0)) ∙ sym same in
            out (subst (IsOf run) mine (is_of o.block (leb-true e.block o.block places.0) (ltb-true o.block (e.block + e.count) places.1)))
        by o true h false i some = omega (arith, some)
        by o false h m i some = omega (arith, some)

    taken : AreTaken (own a g) (own x g) run
    taken = record {
      there = λ t of. let at = of_block t of in owned_if a g t (subst (λ (u : Tuple). 1 ≤ weigh (is_owner u) (claims a g)) at.2 (had t.block at.0 at.1));
      kept = λ t c out.
          let w = weight_of a g t c in
          let l = lessened (is_owner t) (owner_plain t) in
          let none = none_gone t out in
          owned_if x g t (omega (arith, w, l, none));
      only = λ t c.
          let w = weight_of x g t c in
          let l = lessened (is_owner t) (owner_plain t) in (
            owned_if a g t (omega (arith, w, l)),
            λ of.
                let at = of_block t of in
                let none = nobody_then t.block at.0 at.1 in
                let found = fewer_owned t (claims x g) in
                omega (arith, w, none, found),
          );
    }
      where
        fewer_owned : (t : Tuple) (cs : List Claimed) → weigh (is_owner t) cs ≤ weigh (owned_by t.block) cs
        fewer_owned t cs = let h = both_fewer t (record { block = t.block; owner = t.owner + 1; word = t.word }) t.block refl refl (λ i. let f : t.owner ≡ t.owner + 1 = ap (λ (u : Tuple). u.owner) i in omega (arith, f)) cs in omega (arith, h)

    pub maps_taken : AreTuples (own a g) → HaveNext (own a g) → AreTuples (own x g) → HaveNext (own x g) → e.block + e.count ≤ 2 ^ 32 → take_mapping run (rmap_of a g) ≡ rmap_of x g
    maps_taken ta na tx nx ends =
        runs_are x g (take_mapping run (rmap_of a g)) tx nx
        (mapping_taken (own a g) (own x g) (rmap_of a g) run (plain_end run plain some ends) (tuple_order (own x g) tx) taken (runs_now a g ta na))

    pub clear_taken : IsClear x g
    clear_taken = record {
      apart = none_if_clear x g (claims x g) (λ c lt alone.
          let l = lessened (owned_by c) (owned_plain c) in
          let m = lessened (alone_by c) (alone_plain c) in
          let r = clear_if_none a g (claims a g) clear.apart c (subst (λ at. c < group_len_of at g) alike.geometry lt) (omega (arith, alone, m)) in
          omega (arith, r, l));
      forks = forks_stay a x splits alike clear.forks;
    }

    -- reverse mappings name nobody else on the run
    pub not_anothers : AreTuples (own a g) → HaveNext (own a g) → is_guarded (filter (λ r. not (r.owner == owner)) (rmap_of a g)) e.block e.count ≡ false
    unfolding is_guarded
    not_anothers ta na = elim (cases_Bool (list_any (λ r. nat_lt 0 r.count && (nat_lt r.start (e.block + e.count) && nat_lt e.block (r.start + r.count))) (filter (λ r. not (r.owner == owner)) (rmap_of a g)))) [
      | inr none ↦ none
      | inl is ↦
          let found = any_found (λ r. nat_lt 0 r.count && (nat_lt r.start (e.block + e.count) && nat_lt e.block (r.start + r.count))) (filter (λ r. not (r.owner == owner)) (rmap_of a g)) is in
          let r : RmapRec = found.0 in
          let there_r = filtered (λ s. not (s.owner == owner)) (rmap_of a g) r found.1 in
          let p = and_parts (nat_lt 0 r.count) (nat_lt r.start (e.block + e.count) && nat_lt e.block (r.start + r.count)) found.2 in
          let q = and_parts (nat_lt r.start (e.block + e.count)) (nat_lt e.block (r.start + r.count)) p.1 in
          absurd (true≢false (sym there_r.1 ∙ ap not (eq-eqb r.owner owner (meets r (ltb-true 0 r.count p.0) (ltb-true r.start (e.block + e.count) q.0) (ltb-true e.block (r.start + r.count) q.1) there_r.0))))
    ]
      where
        at_block : (r : RmapRec) (i : ℕ) → i < r.count → e.block ≤ r.start + i → r.start + i < e.block + e.count → Contains (rmap_of a g) r → r.owner ≡ owner
        at_block r i below low high c = nobody_else (tuple_at r i) low high (((runs_now a g ta na).maximal r c).within i below)

        meets : (r : RmapRec) → 0 < r.count → r.start < e.block + e.count → e.block < r.start + r.count → Contains (rmap_of a g) r → r.owner ≡ owner
        meets r pos before behind c = elim (cases_order r.start e.block) [
          | inl same ↦ at_block r 0 pos (omega (arith, same)) (omega (arith, same, some)) c
          | inr (inl less) ↦ at_block r (e.block - r.start) (omega (arith, less, behind)) (omega (arith, less)) (omega (arith, less, some)) c
          | inr (inr more) ↦ at_block r 0 pos (omega (arith, more)) (omega (arith, before)) c
        ]

    -- and none covers it then
    pub bare_then : AreTuples (own x g) → HaveNext (own x g) → (c : ℕ) → e.block ≤ c → c < e.block + e.count → list_any (covers c) (rmap_of x g) ≡ false
    bare_then tx nx c low high = elim (cases_Bool (list_any (covers c) (rmap_of x g))) [
      | inr none ↦ none
      | inl is ↦
          let found = any_found (covers c) (rmap_of x g) is in
          let r : RmapRec = found.0 in
          let k = and_parts (nat_le r.start c) (nat_lt c (r.start + r.count)) found.2 in
          let first = leb-true r.start c k.0 in
          let last = ltb-true c (r.start + r.count) k.1 in
          let t : Tuple = tuple_at r (c - r.start) in
          let at : t.block ≡ c = omega (arith, first) in
          let w = weight_of x g t (((runs_now x g tx nx).maximal r found.1).within (c - r.start) (omega (arith, first, last))) in
          let more = both_fewer t (record { block = t.block; owner = t.owner + 1; word = t.word }) c at at (λ i. let f : t.owner ≡ t.owner + 1 = ap (λ (u : Tuple). u.owner) i in omega (arith, f)) (claims x g) in
          let none = nobody_then c low high in
          absurd (omega (arith, w, more, none))
    ]
