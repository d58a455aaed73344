-- A block of the list that gets the owner of a rebuilt tree.
use Rattle.std.proofs.Common.{◌≡◌, ℕ, ◌+◌, ◌^◌, ◌<◌, ◌≤◌, ◌==◌, Bool, true, false, not, List, [], ◌∷◌, ◌++◌, map, filter, drop, flat_map, Contains, refl, ap, sym, subst, ◌∙◌, inl, inr, arith, Option, Some, None, eq-eqb}
use Rattle.std.specs.Prelude.{slice_get, if◌then◌else◌}
use Rattle.std.specs.List.{list_all}
use Rattle.std.proofs.lemmas.Bool.{cases_Bool, cases_order, true≢false}
use Rattle.fs_change.proofs.Sets.{same_is, same_self}
use Rattle.fs_change.specs.Loose.{owners_in, tree_blocks}
use Rattle.fs_change.specs.Records.{give_mapping, take_mapping}
use Rattle.fs_change.specs.Switch.{owned_by as with_owner}
use Rattle.fs_state.specs.Chunks.{chunks}
use Rattle.fs_state.specs.Claims.{Claimed, claims, fork_claims}
use Rattle.fs_state.specs.Contradiction.{first_overlap}
use Rattle.fs_state.specs.Records.{all_kinds, tree_owner}
use Rattle.fs_state.specs.Own.{own, rmap_of, tuple_of}
use Rattle.fs_state.specs.State.{State, Group, Owned}
use Rattle.geom.specs.Apart.{Splits}
use Rattle.geom.specs.Layout.{group_len_of}
use Rattle.rmap_recs.proofs.ChainLemmas.{room_behind}
use Rattle.rmap_recs.proofs.RisingLemmas.{filtered, kept_by_filter}
use Rattle.rmap_recs.specs.Owners.{is_inode, number_of}
use Rattle.rmap_recs.specs.Runs.{AreRuns, AreTuples, HaveNext, is_same}
use Rattle.rmap_recs.specs.declared.owner.Owner.TheVariants.{Ag}
use Rattle.rmap_recs.specs.declared.records.RmapRec.{RmapRec}
use Rattle.rmap_recs.specs.declared.tuples.Tuple.{Tuple}
use Rattle.run_edits.proofs.PutLemmas.{tuple_order}
use Rattle.run_edits.specs.EditLaws.{AreGiven, AreTaken, AreUntied, IsOf}
use Rattle.sblock.specs.declared.kind.Kind.{Kind}
use Rattle.law_accounts.proofs.Edit.Mappings.{mapping_given, mapping_taken}
use Rattle.law_repairs.specs.Repair.Alike.{AlikeInodes}
use Rattle.law_repairs.specs.Repair.Letters.{IsClear}
use Rattle.law_repairs.specs.Repair.Owners.{LieInside}
use Rattle.law_repairs.proofs.Repair.Groups.{forks_stay}
use Rattle.law_repairs.proofs.Repair.Owners.{lies_inside}
use Rattle.law_repairs.proofs.Repair.Same.{chunks_same, forks_same}
use Rattle.law_repairs.proofs.Repair.Totals.{alone_by, chunk_part, clear_if_none, front_part, is_owner, limbo_weight, none_if_clear, owned_by, weigh, weigh_both}
use Rattle.law_repairs.proofs.Move.Claiming.{IsPlain, alone_is_owned, alone_plain, owned_plain, owner_plain, total_is}
use Rattle.law_repairs.proofs.Reserve.Owning.{block_run, one_of, one_tuple, owned_if, plain_end, runs_are, runs_now, weight_of}

pub first_is : (xs : List ℕ) (b : ℕ) → slice_get xs 0 ≡ Some b → xs ≡ b ∷ drop 1 xs
first_is [] b h = absurd (nothing h)
  where
    nothing : ◌≡◌ {A = Option ℕ} None (Some b) → ⊥
    nothing e = cc
first_is (x ∷ xs) b h = ap (λ (y : ℕ). y ∷ xs) (out h)
  where
    out : ◌≡◌ {A = Option ℕ} (Some x) (Some b) → x ≡ b
    out e = cc

-- two owners of one block have two claims
pub both_fewer : (t u : Tuple) (b : ℕ) → t.block ≡ b → u.block ≡ b → (t ≡ u → ⊥) → (cs : List Claimed) → weigh (is_owner t) cs + weigh (is_owner u) cs ≤ weigh (owned_by b) cs
both_fewer t u b e f other [] = omega arith
both_fewer t u b e f other (c ∷ cs) =
    let rest = both_fewer t u b e f other cs in
    let first = at_most (is_same t (tuple_of c)) (is_same u (tuple_of c)) (c.block == b)
    (λ h. eq-eqb c.block b (ap (λ (v : Tuple). v.block) (sym (same_is t (tuple_of c) h)) ∙ e))
    (λ h. eq-eqb c.block b (ap (λ (v : Tuple). v.block) (sym (same_is u (tuple_of c) h)) ∙ f))
    (λ h i. other (same_is t (tuple_of c) h ∙ sym (same_is u (tuple_of c) i))) in
    omega (arith, rest, first)
  where
    at_most : (j k l : Bool) → (j ≡ true → l ≡ true) → (k ≡ true → l ≡ true) → (j ≡ true → k ≡ true → ⊥) → (if j then 1 else 0) + (if k then 1 else 0) ≤ (if l then 1 else 0)
    at_most true true l x y z = absurd (z refl refl)
    at_most true false true x y z = omega arith
    at_most true false false x y z = absurd (true≢false (sym (x refl)))
    at_most false true true x y z = omega arith
    at_most false true false x y z = absurd (true≢false (sym (y refl)))
    at_most false false l x y z = omega arith

not_same : (t u : Tuple) → (t ≡ u → ⊥) → is_same t u ≡ false
not_same t u h = elim (cases_Bool (is_same t u)) [
  | inl same ↦ absurd (h (same_is t u same))
  | inr other ↦ other
]

pub record FromList (p q : Group) (b : ℕ) : Type 0 where
  pub first : slice_get p.free_list 0 ≡ Some b
  pub list : q.free_list ≡ drop 1 p.free_list
  pub blocks : (k : Kind) → tree_blocks q k ≡ tree_blocks p k
  pub limbo : q.limbo ≡ p.limbo

pub list_owners : (p q : Group) (b : ℕ) → FromList p q b → owners_in p ≡ with_owner (number_of Ag) b ∷ owners_in q
list_owners p q b f =
    ap (λ (xs : List ℕ). map (with_owner (number_of Ag)) xs ++ flat_map (λ k. map (with_owner (tree_owner k)) (tree_blocks p k)) all_kinds ++ p.limbo) (first_is p.free_list b f.first)
    ∙ (λ i. with_owner (number_of Ag) b ∷ (map (with_owner (number_of Ag)) (sym f.list i) ++ flat_map (λ k. map (with_owner (tree_owner k)) (sym (f.blocks k) i)) all_kinds ++ sym f.limbo i))

module _ (a x : State) (g owner b : ℕ) (splits : Splits a.geometry) (alike : AlikeInodes a x) (from : FromList (a.group g) (x.group g) b) (reserve : (x.group g).reserve ≡ (a.group g).reserve ++ with_owner owner b ∷ [])
    (other : owner ≡ number_of Ag → ⊥) (inside : LieInside a g) (clear : IsClear a g) where
  abbrev old : Tuple
  old = one_of (number_of Ag) b

  abbrev new : Tuple
  new = one_of owner b

  old_new : old ≡ new → ⊥
  old_new e = other (ap (λ (t : Tuple). t.owner) (sym e))

  exchanged : (w : Claimed → ℕ) → IsPlain w → weigh w (claims x g) + limbo_weight w (with_owner (number_of Ag) b) ≡ weigh w (claims a g) + limbo_weight w (with_owner owner b)
  exchanged w plain =
      let now = total_is w plain x g
      ∙ (λ i. weigh w (front_part (alike.geometry i) g) + weigh (limbo_weight w) (owners_in (x.group g)) + weigh (limbo_weight w) (reserve i) + weigh w (chunk_part (chunks_same a x splits alike g i)) + weigh w (forks_same a x splits alike g i)) in
      sums (weigh w (front_part a.geometry g)) (weigh (limbo_weight w) (owners_in (a.group g))) (weigh (limbo_weight w) (owners_in (x.group g))) (weigh (limbo_weight w) (a.group g).reserve) (weigh (limbo_weight w) ((a.group g).reserve ++ with_owner owner b ∷ [])) (weigh w (chunk_part (chunks a g)))
      (weigh w (fork_claims a g)) (weigh w (claims x g)) (weigh w (claims a g)) (limbo_weight w (with_owner owner b)) (limbo_weight w (with_owner (number_of Ag) b)) now (total_is w plain a g)
      (weigh_both (limbo_weight w) (a.group g).reserve (with_owner owner b ∷ [])) (ap (weigh (limbo_weight w)) (list_owners (a.group g) (x.group g) b from))
    where
      sums : (f o q r s c k n m u v : ℕ) → n ≡ f + q + s + c + k → m ≡ f + o + r + c + k → s ≡ r + (u + 0) → o ≡ v + q → n + v ≡ m + u
      sums f o q r s c k n m u v e1 e2 e3 e4 = omega (arith, e1, e2, e3, e4)

  bit : (t u : Tuple) → ℕ
  bit t u = if is_same t u then 1 else 0

  owners_exchanged : (t : Tuple) → weigh (is_owner t) (claims x g) + (if is_same t old then 1 else 0) ≡ weigh (is_owner t) (claims a g) + (if is_same t new then 1 else 0)
  owners_exchanged t = exchanged (is_owner t) (owner_plain t)

  same_bit : (t u : Tuple) → t ≡ u → ◌≡◌ {A = ℕ} (if is_same t u then 1 else 0) 1
  same_bit t u e = ap (λ (k : Bool). if k then 1 else 0) (ap (λ (v : Tuple). is_same v u) e ∙ same_self u)

  other_bit : (t u : Tuple) → (t ≡ u → ⊥) → ◌≡◌ {A = ℕ} (if is_same t u then 1 else 0) 0
  other_bit t u h = ap (λ (k : Bool). if k then 1 else 0) (not_same t u h)

  -- the list's claim is the block's only one
  had : 1 ≤ weigh (is_owner old) (claims a g)
  had =
      let e = owners_exchanged old in
      let one = same_bit old old refl in
      let none = other_bit old new old_new in
      omega (arith, e, one, none)

  only_one : weigh (owned_by b) (claims a g) ≤ 1
  only_one =
      let alone = exchanged (alone_by b) (alone_plain b) in
      let first : limbo_weight (alone_by b) (with_owner (number_of Ag) b) ≡ 1 = alone_is_owned b (with_owner (number_of Ag) b) ∙ ap (λ (k : Bool). if k then 1 else 0) (eq-eqb b b refl) in
      let second : limbo_weight (alone_by b) (with_owner owner b) ≡ 1 = alone_is_owned b (with_owner owner b) ∙ ap (λ (k : Bool). if k then 1 else 0) (eq-eqb b b refl) in
      let most = both_fewer old new b refl refl old_new (claims a g) in
      let some = had in
      let listed = listed_alone in
      clear_if_none a g (claims a g) clear.apart b (lies_inside (group_len_of a.geometry g) b (claims a g) inside (omega (arith, most, some))) listed
    where
      listed_alone : 1 ≤ weigh (alone_by b) (claims a g)
      listed_alone =
          let total = total_is (alone_by b) (alone_plain b) a g in
          let owners = ap (weigh (limbo_weight (alone_by b))) (list_owners (a.group g) (x.group g) b from) in
          let first : limbo_weight (alone_by b) (with_owner (number_of Ag) b) ≡ 1 = alone_is_owned b (with_owner (number_of Ag) b) ∙ ap (λ (k : Bool). if k then 1 else 0) (eq-eqb b b refl) in
          omega (arith, total, owners, first)

  middle : List Tuple
  middle = filter (λ t. not (is_same t old)) (own a g)

  taken : AreTaken (own a g) middle (block_run (number_of Ag) b)
  unfolding middle
  taken = record {
    there = λ t of. owned_if a g t (subst (λ (u : Tuple). 1 ≤ weigh (is_owner u) (claims a g)) (sym (one_tuple (number_of Ag) b of.0 of.1) ∙ of.2) had);
    kept = λ t c out. kept_by_filter (λ u. not (is_same u old)) (own a g) t c (ap not (not_same t old (λ e. out (0, omega arith, one_tuple (number_of Ag) b 0 (omega arith) ∙ sym e))));
    only = λ t c.
        let f = filtered (λ u. not (is_same u old)) (own a g) t c in
        (f.0, λ of. true≢false (sym f.1 ∙ ap not (ap (λ (u : Tuple). is_same u old) (sym (sym (one_tuple (number_of Ag) b of.0 of.1) ∙ of.2)) ∙ same_self old)));
  }

  gave : AreGiven middle (own x g) (block_run owner b)
  gave = record {
    new = λ t of c.
        let same : new ≡ t = sym (one_tuple owner b of.0 of.1) ∙ of.2 in
        let w = weight_of a g new (subst (Contains (own a g)) (sym same) (taken.only t c).0) in
        let most = both_fewer old new b refl refl old_new (claims a g) in
        let some = had in
        let one = only_one in
        omega (arith, w, most, some, one);
    kept = λ t c.
        let f = taken.only t c in
        let w = weight_of a g t f.0 in
        let e = owners_exchanged t in
        let none = other_bit t old (λ same. f.1 (0, omega arith, one_tuple (number_of Ag) b 0 (omega arith) ∙ sym same)) in
        owned_if x g t (omega (arith, w, e, none));
    given = λ t of.
        let same : new ≡ t = sym (one_tuple owner b of.0 of.1) ∙ of.2 in
        let e = owners_exchanged t in
        let one = same_bit t new (sym same) in
        let none = other_bit t old (λ i. old_new (sym i ∙ sym same)) in
        owned_if x g t (omega (arith, e, one, none));
    only = λ t c.
        let w = weight_of x g t c in
        let e = owners_exchanged t in
        elim (cases_Bool (is_same t new)) [
          | inl is ↦ inr (0, omega arith, one_tuple owner b 0 (omega arith) ∙ sym (same_is t new is))
          | inr isnt ↦
              let zero_new : ◌≡◌ {A = ℕ} (if is_same t new then 1 else 0) 0 = ap (λ (k : Bool). if k then 1 else 0) isnt in
              inl (taken.kept t (owned_if a g t (omega (arith, w, e, zero_new))) (λ of.
              let same : old ≡ t = sym (one_tuple (number_of Ag) b of.0 of.1) ∙ of.2 in
              let one = same_bit t old (sym same) in
              let most = both_fewer old new b refl refl old_new (claims a g) in
              let only = only_one in
              let at : weigh (is_owner t) (claims a g) ≡ weigh (is_owner old) (claims a g) = ap (λ (u : Tuple). weigh (is_owner u) (claims a g)) (sym same) in
              omega (arith, w, e, zero_new, one, most, only, at)))
        ];
  }

  pub maps_turned : is_inode owner ≡ false → AreTuples (own a g) → HaveNext (own a g) → AreTuples (own x g) → HaveNext (own x g) → give_mapping (block_run owner b) (take_mapping (block_run (number_of Ag) b) (rmap_of a g)) ≡ rmap_of x g
  maps_turned plain ta na tx nx =
      let mine : Contains (own x g) new = gave.given new (0, omega arith, one_tuple owner b 0 (omega arith)) in
      let room = room_behind (own x g) nx new mine in
      let order = tuple_order (own a g) ta in
      runs_are x g (give_mapping (block_run owner b) (take_mapping (block_run (number_of Ag) b) (rmap_of a g))) tx nx
      (mapping_given middle (own x g) (take_mapping (block_run (number_of Ag) b) (rmap_of a g)) (block_run owner b) (plain_end (block_run owner b) plain (omega arith) (omega (arith, room))) (tuple_order (own x g) tx) gave
      (mapping_taken (own a g) middle (rmap_of a g) (block_run (number_of Ag) b) (plain_end (block_run (number_of Ag) b) refl (omega arith) (omega (arith, room))) (λ t u c d. order t u (taken.only t c).0 (taken.only u d).0) taken (runs_now a g ta na)))

  pub clear_turned : IsClear x g
  clear_turned = record {
    apart = none_if_clear x g (claims x g) (λ c lt some.
        let owned = exchanged (owned_by c) (owned_plain c) in
        let alone = exchanged (alone_by c) (alone_plain c) in
        let first = alone_is_owned c (with_owner (number_of Ag) b) in
        let second = alone_is_owned c (with_owner owner b) in
        let same : limbo_weight (owned_by c) (with_owner (number_of Ag) b) ≡ limbo_weight (owned_by c) (with_owner owner b) = refl in
        let r = clear_if_none a g (claims a g) clear.apart c (subst (λ at. c < group_len_of at g) alike.geometry lt) (omega (arith, some, alone, first, second, same)) in
        omega (arith, r, owned, same));
    forks = forks_stay a x splits alike clear.forks;
  }
