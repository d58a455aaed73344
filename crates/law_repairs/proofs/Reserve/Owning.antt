-- Owners as sums over claims, and reverse mappings that follow a block that gets an owner.
use Rattle.std.proofs.Common.{◌≡◌, ℕ, ◌+◌, ◌-◌, ◌*◌, ◌^◌, ◌<◌, ◌≤◌, ◌==◌, ◌&&◌, ◌||◌, Bool, true, false, cond, not, List, [], ◌∷◌, ◌++◌, map, flat_map, Contains, refl, ap, ap₂, sym, subst, ◌∙◌, inl, inr, arith, Option, Some, None, eqb-true, eq-eqb}
use Rattle.std.specs.Prelude.{◌⊎◌, nat_le, nat_lt, if◌then◌else◌}
use Rattle.std.specs.List.{list_any}
use Rattle.std.proofs.lemmas.Bool.{cases_Bool, cases_order, leb-true, lt-ltb, ltb-true, true≢false}
use Rattle.std.proofs.lemmas.Bool.Decides.{nat_tests}
use Rattle.derive_defs.specs.Mappings.{covers}
use Rattle.fs_change.proofs.Sets.{has_of, has_set, of_has, same_is, same_self}
use Rattle.fs_change.specs.Changes.{plain_run}
use Rattle.fs_change.specs.Loose.{owners_in, tree_blocks}
use Rattle.fs_change.specs.Records.{give_mapping, take_mapping}
use Rattle.fs_change.specs.Switch.{owned_by as with_owner}
use Rattle.fs_state.specs.Chunks.{chunks}
use Rattle.fs_state.specs.Claims.{Claimed, claims, fork_claims}
use Rattle.fs_state.specs.Contradiction.{first_overlap}
use Rattle.fs_state.specs.Derive.{derive, mappings}
use Rattle.fs_state.specs.Faults.{blocks_counted, wanted}
use Rattle.fs_state.specs.Records.{all_kinds, tree_owner}
use Rattle.fs_state.specs.Laws.{IsGoodCounter, IsGoodTree}
use Rattle.fs_state.specs.Own.{own, rmap_of, tuple_of}
use Rattle.fs_model.specs.declared.fault.Counter.TheVariants.{RmapBlocks}
use Rattle.fs_model.specs.declared.unit.Unit.TheVariants as units
use Rattle.fs_state.specs.State.{State, Group, Owned, Readable, Reading, blocks_in, blocks_of, recs_of}
use Rattle.geom.specs.Apart.{Splits}
use Rattle.geom.specs.Layout.{group_len_of}
use Rattle.rmap_recs.proofs.ChainLemmas.{room_behind}
use Rattle.rmap_recs.proofs.RisingLemmas.{any_here}
use Rattle.rmap_recs.proofs.RunLemmas.{maximal_runs, only_runs}
use Rattle.rmap_recs.specs.Owners.{is_inode, number_of}
use Rattle.rmap_recs.specs.Rmap.{has_end}
use Rattle.rmap_recs.specs.Runs.{AreRuns, AreTuples, HaveNext, has, is_same, runs_of, tuple_at}
use Rattle.rmap_recs.specs.Words.{is_fork_data, is_fork_tree}
use Rattle.rmap_recs.specs.declared.owner.Owner.TheVariants.{Ag}
use Rattle.rmap_recs.specs.declared.records.RmapRec.{RmapRec}
use Rattle.rmap_recs.specs.declared.tuples.Tuple.{Tuple}
use Rattle.run_edits.proofs.PutLemmas.{tuple_order}
use Rattle.run_edits.specs.EditLaws.{AreGiven, AreUntied, IsOf}
use Rattle.sblock.specs.declared.kind.Kind.{Kind}
use Rattle.sblock.specs.declared.kind.Kind.TheVariants.{Rmap}
use Rattle.tree_defs.specs.Lists.{times}
use Rattle.law_accounts.proofs.Edit.Mappings.{mapping_given}
use Rattle.law_repairs.specs.Repair.Alike.{AlikeInodes}
use Rattle.law_repairs.specs.Repair.Letters.{Holds, IsClear}
use Rattle.law_repairs.proofs.Repair.Groups.{forks_stay}
use Rattle.law_repairs.proofs.Repair.Same.{chunks_same, forks_same}
use Rattle.law_repairs.proofs.Repair.Totals.{alone_by, chunk_part, clear_if_none, front_part, is_owner, limbo_weight, none_if_clear, owned_by, weigh, weigh_both}
use Rattle.law_repairs.proofs.Move.Claiming.{IsPlain, alone_is_owned, alone_plain, own_weight, owned_plain, owner_plain, total_is}

-- ---- whose a tuple is

pub weight_of : (s : State) (g : ℕ) (t : Tuple) → Contains (own s g) t → 1 ≤ weigh (is_owner t) (claims s g)
weight_of s g t c = let lt = ltb-true 0 (weigh (is_owner t) (claims s g)) (sym (own_weight s g t) ∙ has_of (own s g) t c) in omega (arith, lt)

pub owned_if : (s : State) (g : ℕ) (t : Tuple) → 1 ≤ weigh (is_owner t) (claims s g) → Contains (own s g) t
owned_if s g t h = of_has (own s g) t (own_weight s g t ∙ lt-ltb 0 (weigh (is_owner t) (claims s g)) (omega (arith, h)))

-- a claimed block has an owner
pub claim_found : (b : ℕ) (cs : List Claimed) → 1 ≤ weigh (owned_by b) cs → (t : Tuple) × (t.block ≡ b) × (1 ≤ weigh (is_owner t) cs)
claim_found b [] h = absurd (omega (arith, h))
claim_found b (c ∷ cs) h = (elim (c.block == b) as (λ k. (c.block == b) ≡ k → 1 ≤ (if k then 1 else 0) + weigh (owned_by b) cs → (t : Tuple) × (t.block ≡ b) × (1 ≤ weigh (is_owner t) (c ∷ cs))) [
  | true ↦ λ e i.
      let here : is_owner (tuple_of c) c ≡ 1 = ap (λ (k : Bool). if k then 1 else 0) (same_self (tuple_of c)) in
      (tuple_of c, eqb-true c.block b e, omega (arith, here))
  | false ↦ λ e i. let r = claim_found b cs (omega (arith, i)) in let more = r.2 in (r.0, r.1, omega (arith, more))
]) refl h

-- ---- the runs of a group's owners

pub runs_now : (s : State) (g : ℕ) → AreTuples (own s g) → HaveNext (own s g) → AreRuns (own s g) (rmap_of s g)
unfolding rmap_of
runs_now s g tuples next = maximal_runs (own s g) (runs_of (own s g)) refl tuples next

pub runs_are : (s : State) (g : ℕ) (recs : List RmapRec) → AreTuples (own s g) → HaveNext (own s g) → AreRuns (own s g) recs → recs ≡ rmap_of s g
unfolding rmap_of
runs_are s g recs tuples next runs = only_runs (own s g) recs (runs_of (own s g)) runs (maximal_runs (own s g) (runs_of (own s g)) refl tuples next)

-- a block that no record covers is nobody's
pub nobodys : (s : State) (g : ℕ) (recs : List RmapRec) (b : ℕ) → AreRuns (own s g) recs → list_any (covers b) recs ≡ false → weigh (owned_by b) (claims s g) ≡ 0
nobodys s g recs b runs none = elim (cases_order (weigh (owned_by b) (claims s g)) 0) [
  | inl z ↦ z
  | inr (inl less) ↦ absurd (omega (arith, less))
  | inr (inr some) ↦
      let found = claim_found b (claims s g) (omega (arith, some)) in
      let hit = runs.all found.0 (owned_if s g found.0 found.2) in
      let r : RmapRec = hit.0 in
      let at : r.start + hit.1 ≡ b = ap (λ (t : Tuple). t.block) hit.4 ∙ found.1 in
      let below = hit.3 in
      absurd (true≢false (sym (any_here (covers b) recs r hit.2 (is_covered r b (omega (arith, at)) (omega (arith, at, below)))) ∙ none))
]
  where
    is_covered : (r : RmapRec) (b : ℕ) → r.start ≤ b → b < r.start + r.count → covers b r ≡ true
    is_covered r b low high = grind (arith, nat_tests)

-- ---- one block as a run

abbrev pub one_of : ℕ → ℕ → Tuple
one_of owner b = record { block = b; owner = owner; word = 0 }

abbrev pub block_run : ℕ → ℕ → RmapRec
block_run owner b = record { start = b; count = 1; owner = owner; word = 0 }

pub one_tuple : (owner b i : ℕ) → i < 1 → tuple_at (block_run owner b) i ≡ one_of owner b
one_tuple owner b i lt =
    let z : i ≡ 0 = omega (arith, lt) in
    ap (tuple_at (block_run owner b)) z ∙ (λ j. record { block = plus b j; owner = owner; word = word (is_fork_data owner 0) j })
  where
    plus : (n : ℕ) → n + 0 ≡ n
    plus n = omega arith

    word : (k : Bool) → ◌≡◌ {A = ℕ} (if k then 0 + 0 else 0) 0
    word true = refl
    word false = refl

pub plain_end : (r : RmapRec) → is_inode r.owner ≡ false → 0 < r.count → r.start + r.count ≤ 2 ^ 32 → has_end r ≡ true
unfolding has_end is_fork_data
plain_end r plain some ends =
    let low : nat_le 1 r.count ≡ true = grind (arith, nat_tests) in
    let high : nat_le (r.start + r.count) (2 ^ 32) ≡ true = grind (arith, nat_tests) in
    rw (low, high, plain) refl

is_same_one : (t u : Tuple) → 1 ≤ (if is_same t u then 1 else 0) → t ≡ u
is_same_one t u h = (elim (is_same t u) as (λ k. is_same t u ≡ k → 1 ≤ (if k then 1 else 0) → t ≡ u) [
  | true ↦ λ e i. same_is t u e
  | false ↦ λ e i. absurd (omega (arith, i))
]) refl h

-- ---- a group that keeps list, trees' blocks and limbo

pub record SameHeld (p q : Group) : Type 0 where
  pub list : q.free_list ≡ p.free_list
  pub blocks : (k : Kind) → tree_blocks q k ≡ tree_blocks p k
  pub limbo : q.limbo ≡ p.limbo

pub same_owners : (p q : Group) → SameHeld p q → owners_in q ≡ owners_in p
same_owners p q s = λ i. map (with_owner (number_of Ag)) (s.list i) ++ flat_map (λ k. map (with_owner (tree_owner k)) (s.blocks k i)) all_kinds ++ s.limbo i

module _ (a x : State) (g owner b : ℕ) (splits : Splits a.geometry) (alike : AlikeInodes a x) (held : SameHeld (a.group g) (x.group g)) (reserve : (x.group g).reserve ≡ (a.group g).reserve ++ with_owner owner b ∷ []) where
  grown : (w : Claimed → ℕ) → IsPlain w → weigh w (claims x g) ≡ weigh w (claims a g) + limbo_weight w (with_owner owner b)
  grown w plain =
      let now = total_is w plain x g
      ∙ (λ i. weigh w (front_part (alike.geometry i) g) + weigh (limbo_weight w) (same_owners (a.group g) (x.group g) held i) + weigh (limbo_weight w) (reserve i) + weigh w (chunk_part (chunks_same a x splits alike g i)) + weigh w (forks_same a x splits alike g i)) in
      sums (weigh w (front_part a.geometry g)) (weigh (limbo_weight w) (owners_in (a.group g))) (weigh (limbo_weight w) (a.group g).reserve) (weigh (limbo_weight w) ((a.group g).reserve ++ with_owner owner b ∷ [])) (weigh w (chunk_part (chunks a g))) (weigh w (fork_claims a g))
      (weigh w (claims x g)) (weigh w (claims a g)) (limbo_weight w (with_owner owner b)) now (total_is w plain a g) (weigh_both (limbo_weight w) (a.group g).reserve (with_owner owner b ∷ []))
    where
      sums : (f o r s c k n m u : ℕ) → n ≡ f + o + s + c + k → m ≡ f + o + r + c + k → s ≡ r + (u + 0) → n ≡ m + u
      sums f o r s c k n m u e1 e2 e3 = omega (arith, e1, e2, e3)

  module _ (none : weigh (owned_by b) (claims a g) ≡ 0) where
    is_new : (t : Tuple) → t.block ≡ b → 1 ≤ weigh (is_owner t) (claims a g) → ⊥
    is_new t e some =
        let most = fewer t (claims a g) in
        let z : weigh (owned_by t.block) (claims a g) ≡ 0 = ap (λ (n : ℕ). weigh (owned_by n) (claims a g)) e ∙ none in
        omega (arith, most, z, some)
      where
        one : (k l : Bool) → (k ≡ true → l ≡ true) → (if k then 1 else 0) ≤ (if l then 1 else 0)
        one true true h = omega arith
        one true false h = absurd (true≢false (sym (h refl)))
        one false l h = omega arith

        same_block : (t : Tuple) (c : Claimed) → is_same t (tuple_of c) ≡ true → (c.block == t.block) ≡ true
        same_block t c h = eq-eqb c.block t.block (ap (λ (u : Tuple). u.block) (sym (same_is t (tuple_of c) h)))

        fewer : (t : Tuple) (cs : List Claimed) → weigh (is_owner t) cs ≤ weigh (owned_by t.block) cs
        fewer t [] = omega arith
        fewer t (c ∷ cs) = let r = fewer t cs in let s = one (is_same t (tuple_of c)) (c.block == t.block) (same_block t c) in omega (arith, r, s)

    owner_grown : (t : Tuple) → weigh (is_owner t) (claims x g) ≡ weigh (is_owner t) (claims a g) + (if is_same t (one_of owner b) then 1 else 0)
    owner_grown t = grown (is_owner t) (owner_plain t)

    gave : AreGiven (own a g) (own x g) (block_run owner b)
    gave = record {
      new = λ t of c. is_new t (ap (λ (u : Tuple). u.block) (sym of.2 ∙ one_tuple owner b of.0 of.1)) (weight_of a g t c);
      kept = λ t c. let w = weight_of a g t c in let e = owner_grown t in owned_if x g t (omega (arith, w, e));
      given = λ t of.
          let same : one_of owner b ≡ t = sym (one_tuple owner b of.0 of.1) ∙ of.2 in
          let e = owner_grown t in
          let one : ◌≡◌ {A = ℕ} (if is_same t (one_of owner b) then 1 else 0) 1 = ap (λ (u : Tuple). if is_same t u then 1 else 0) same ∙ ap (λ (k : Bool). if k then 1 else 0) (same_self t) in
          owned_if x g t (omega (arith, e, one));
      only = λ t c.
          let w = weight_of x g t c in
          let e = owner_grown t in
          elim (cases_order (weigh (is_owner t) (claims a g)) 0) [
            | inl z ↦ inr (0, omega arith, one_tuple owner b 0 (omega arith) ∙ sym (is_same_one t (one_of owner b) (omega (arith, w, e, z))))
            | inr (inl less) ↦ absurd (omega (arith, less))
            | inr (inr more) ↦ inl (owned_if a g t (omega (arith, more)))
          ];
    }

    apart : first_overlap a g (claims a g) ≡ None → first_overlap x g (claims x g) ≡ None
    apart h = none_if_clear x g (claims x g) (λ c lt some.
        let owned = grown (owned_by c) (owned_plain c) in
        let alone = grown (alone_by c) (alone_plain c) in
        let len : c < group_len_of a.geometry g = subst (λ at. c < group_len_of at g) alike.geometry lt in
        let bit = limbo_bits c in
        elim (cases_Bool (b == c)) [
          | inl here ↦
              let z : weigh (owned_by c) (claims a g) ≡ 0 = ap (λ (n : ℕ). weigh (owned_by n) (claims a g)) (sym (eqb-true b c here)) ∙ none in
              let one : limbo_weight (owned_by c) (with_owner owner b) ≡ 1 = ap (λ (k : Bool). if k then 1 else 0) here in
              omega (arith, owned, z, one)
          | inr out ↦
              let zero_owned : limbo_weight (owned_by c) (with_owner owner b) ≡ 0 = ap (λ (k : Bool). if k then 1 else 0) out in
              let r = clear_if_none a g (claims a g) h c len (omega (arith, some, alone, bit, zero_owned)) in
              omega (arith, r, owned, zero_owned)
        ])
      where
        limbo_bits : (c : ℕ) → limbo_weight (alone_by c) (with_owner owner b) ≡ limbo_weight (owned_by c) (with_owner owner b)
        limbo_bits c = alone_is_owned c (with_owner owner b)

    -- so what should be in reverse mappings follows
    pub maps_given : is_inode owner ≡ false → AreTuples (own a g) → HaveNext (own a g) → AreTuples (own x g) → HaveNext (own x g) → give_mapping (block_run owner b) (rmap_of a g) ≡ rmap_of x g
    maps_given plain ta na tx nx =
        let mine : Contains (own x g) (one_of owner b) = gave.given (one_of owner b) (0, omega arith, one_tuple owner b 0 (omega arith)) in
        let room = room_behind (own x g) nx (one_of owner b) mine in
        runs_are x g (give_mapping (block_run owner b) (rmap_of a g)) tx nx
        (mapping_given (own a g) (own x g) (rmap_of a g) (block_run owner b) (plain_end (block_run owner b) plain (omega arith) (omega (arith, room))) (tuple_order (own x g) tx) gave (runs_now a g ta na))

    pub clear_given : IsClear a g → IsClear x g
    clear_given h = record { apart = apart h.apart; forks = forks_stay a x splits alike h.forks }
