-- A released reserve keeps what is known: its blocks have the same owners in limbo.
use Rattle.std.proofs.Common.{◌≡◌, ℕ, ◌+◌, ◌≤◌, ◌==◌, List, [], ◌∷◌, ◌++◌, map, flat_map, refl, ap, ap₂, sym, subst, ◌∙◌, inl, inr, arith, eqb-true, None}
use Rattle.std.proofs.lemmas.Bool.{cases_Bool, cases_order}
use Rattle.fs_change.proofs.Sets.{one_set}
use Rattle.fs_change.specs.Changes.{released}
use Rattle.fs_change.specs.Loose.{Loosely}
use Rattle.fs_change.specs.Parts.{in_group}
use Rattle.fs_change.specs.Switch.{join_limbo}
use Rattle.fs_state.specs.Chunks.{chunks}
use Rattle.fs_state.specs.Claims.{Claimed, claimed_by, claims, fork_claims}
use Rattle.fs_state.specs.Contradiction.{first_overlap, is_written_data}
use Rattle.fs_state.specs.Records.{all_kinds}
use Rattle.fs_state.specs.Own.{own, tuple_of}
use Rattle.fs_model.specs.declared.claim.Claim.TheVariants.{List as FreeList}
use Rattle.fs_model.specs.declared.fault.Counter.{Counter}
use Rattle.fs_model.specs.declared.fault.Counter.TheVariants.{Count, Freecount, Iblocks, Fblocks, RmapBlocks, Freeblks, Longest, Btreeblks, RefcountBlocks}
use Rattle.fs_model.specs.declared.unit.Unit.{Unit as ScrubUnit}
use Rattle.fs_model.specs.declared.unit.Unit.TheVariants as units
use Rattle.fs_state.specs.State.{State, Group, Owned, recs_of}
use Rattle.geom.specs.Apart.{Splits}
use Rattle.rmap_recs.specs.Owners.{number_of}
use Rattle.rmap_recs.specs.declared.owner.Owner.TheVariants.{Ag}
use Rattle.sblock.specs.declared.kind.Kind.{Kind}
use Rattle.sblock.specs.declared.kind.Kind.TheVariants.{Bno, Cnt, Rmap, Refc, Ino, Fino}
use Rattle.law_repairs.specs.Repair.Alike.{AlikeGroup, AlikeInodes}
use Rattle.law_repairs.specs.Repair.Letters.{Holds, IsTrusted, Stands}
use Rattle.law_repairs.specs.Repair.Moves.{ReleasedKeeps}
use Rattle.law_repairs.proofs.Repair.Groups.{chunk_listed, forks_stay, holds_group, in_each, in_other_group, in_own_group, only_same, same_fork}
use Rattle.law_repairs.proofs.Repair.Keeping.{TrustedIn, stands_by}
use Rattle.law_repairs.proofs.Repair.Same.{chunks_same, forks_same}
use Rattle.law_repairs.proofs.Repair.Totals.{alone_by, chunk_part, claims_weight, clear_if_none, front_part, has_weight, is_owner, limbo_weight, none_if_clear, owned_by, pairs_weight, parts, parts_weight, reserved_weight, same_positive, tree_part, weigh, weigh_both}
use Rattle.law_repairs.proofs.Repair.Units.{counts_good, inodes_good, maps_good, space_good}

weigh_same : (f h : Owned → ℕ) (os : List Owned) → ((o : Owned) → f o ≡ h o) → weigh f os ≡ weigh h os
weigh_same f h [] e = refl
weigh_same f h (o ∷ os) e = ap₂ (λ (m n : ℕ). m + n) (e o) (weigh_same f h os e)

-- the reserve is limbo
abbrev release : Group → Group
release p = record p { reserve = []; limbo = join_limbo p.reserve p.limbo }

-- a sum that counts reserve and limbo alike doesn't rise, and falls to none only from none
abbrev NoMore : ℕ → ℕ → Type 0
NoMore before after = (after ≤ before) × (1 ≤ before → 1 ≤ after)

module _ (w : Claimed → ℕ) (alike : (o : Owned) → reserved_weight w o ≡ limbo_weight w o) (p : Group) where
  limbo_grows : NoMore (weigh (reserved_weight w) p.reserve + weigh (limbo_weight w) p.limbo) (weigh (limbo_weight w) (join_limbo p.reserve p.limbo))
  limbo_grows =
      let e = weigh_both (limbo_weight w) p.reserve p.limbo in
      let r = weigh_same (reserved_weight w) (limbo_weight w) p.reserve alike in
      let h = pairs_weight (limbo_weight w) (p.reserve ++ p.limbo) in
      as_sum (weigh (limbo_weight w) (p.reserve ++ p.limbo)) (weigh (limbo_weight w) p.reserve) (weigh (reserved_weight w) p.reserve) (weigh (limbo_weight w) p.limbo) (weigh (limbo_weight w) (join_limbo p.reserve p.limbo)) e r h
    where
      as_sum : (s x y l j : ℕ) → s ≡ x + l → y ≡ x → NoMore s j → NoMore (y + l) j
      as_sum s x y l j e f h = (let a = h.0 in omega (arith, e, f, a), λ i. h.1 (omega (arith, i, e, f)))

module _ (a : State) (g : ℕ) (splits : Splits a.geometry) where
  abbrev after : State
  after = in_group g release a

  reads : (h : ℕ) (k : Kind) → ((after.group h).tree k).reading ≡ ((a.group h).tree k).reading
  reads h k = in_each (λ p q. (q.tree k).reading ≡ (p.tree k).reading) g release a h (λ p. refl) (λ p. refl)

  counters : (h : ℕ) (name : Counter) → (after.group h).counters name ≡ (a.group h).counters name
  counters h name = in_each (λ p q. q.counters name ≡ p.counters name) g release a h (λ p. refl) (λ p. refl)

  inodes_alike : AlikeInodes a after
  inodes_alike = record {
    geometry = refl;
    chunks = chunk_listed a after refl refl (λ h. ap recs_of (reads h Ino)) (λ h. ap recs_of (reads h Rmap));
    cores = λ ino is. refl;
    forks = λ ino f i. same_fork (a.fork ino f);
  }

  total : (w : Claimed → ℕ) → ((o : Owned) → reserved_weight w o ≡ limbo_weight w o) → NoMore (weigh w (claims a g)) (weigh w (claims after g))
  total w alike =
      let p : Group = a.group g in
      let before = claims_weight w a g in
      let later = claims_weight w after g in
      let same : parts after.geometry g (after.group g) (chunks after g) ≡ parts a.geometry g (release p) (chunks a g) = ap₂ (λ (q : Group) (us : List ℕ). parts a.geometry g q us) (in_own_group g release a) (chunks_same a after splits inodes_alike g) in
      let first = parts_weight w a.geometry g p (chunks a g) in
      let second = ap (weigh w) same ∙ parts_weight w a.geometry g (release p) (chunks a g) in
      let forks = ap (weigh w) (forks_same a after splits inodes_alike g) in
      sums (weigh w (front_part a.geometry g)) (weigh w (map (claimed_by FreeList (number_of Ag)) p.free_list)) (weigh w (flat_map (tree_part p) all_kinds)) (weigh (reserved_weight w) p.reserve) (weigh (limbo_weight w) p.limbo)
      (weigh w (chunk_part (chunks a g))) (weigh (limbo_weight w) (join_limbo p.reserve p.limbo)) (weigh w (parts a.geometry g p (chunks a g))) (weigh w (parts after.geometry g (after.group g) (chunks after g))) (weigh w (fork_claims a g)) (weigh w (fork_claims after g))
      (weigh w (claims a g)) (weigh w (claims after g)) first second forks before later (limbo_grows w alike p)
    where
      sums : (f x t r l c j s u k k' b d : ℕ) → s ≡ f + x + t + r + l + c → u ≡ f + x + t + 0 + j + c → k' ≡ k → b ≡ s + k → d ≡ u + k' → NoMore (r + l) j → NoMore b d
      sums f x t r l c j s u k k' b d e1 e2 e3 e4 e5 h = (
        (let m = h.0 in omega (arith, e1, e2, e3, e4, e5, m)),
        λ i. elim (cases_order j 0) [
          | inl z ↦ elim (cases_order (r + l) 0) [
            | inl y ↦ omega (arith, e1, e2, e3, e4, e5, i, z, y)
            | inr (inl less) ↦ absurd (omega (arith, less))
            | inr (inr more) ↦ let n = h.1 (omega (arith, more)) in omega (arith, e2, e5, n)
          ]
          | inr (inl less) ↦ absurd (omega (arith, less))
          | inr (inr more) ↦ omega (arith, e2, e5, more)
        ],
      )

  owners : own after g ≡ own a g
  unfolding own
  owners = one_set (map tuple_of (claims after g)) (map tuple_of (claims a g)) (λ t.
      let n = total (is_owner t) (λ o. refl) in
      has_weight (claims after g) t
      ∙ same_positive (weigh (is_owner t) (claims after g)) (weigh (is_owner t) (claims a g)) (λ i. let m = n.0 in omega (arith, i, m)) n.1
      ∙ sym (has_weight (claims a g) t))

  alone_alike : (b : ℕ) (o : Owned) → reserved_weight (alone_by b) o ≡ limbo_weight (alone_by b) o
  unfolding is_written_data
  alone_alike b o = refl

  apart : first_overlap a g (claims a g) ≡ None → first_overlap after g (claims after g) ≡ None
  apart h = none_if_clear after g (claims after g) (λ b lt some.
      let owned = (total (owned_by b) (λ o. refl)).0 in
      let alone = (total (alone_by b) (alone_alike b)).0 in
      let r = clear_if_none a g (claims a g) h b lt (omega (arith, some, alone)) in
      omega (arith, r, owned))

  own_group : (unit : ScrubUnit) → Holds a g unit → Holds after g unit
  own_group units.Inode h = inodes_good a after g splits inodes_alike (reads g Ino) (reads g Fino) (counters g Count) (counters g Freecount) (counters g Iblocks) (counters g Fblocks) h
  own_group units.Rmap h = (
    maps_good a after g splits inodes_alike owners (reads g Rmap) (counters g RmapBlocks) h.0,
    record { apart = apart h.1.apart; forks = forks_stay a after splits inodes_alike h.1.forks },
  )
  own_group units.Free h = space_good a after g splits inodes_alike (reads g Rmap) (reads g Bno) (reads g Cnt) (counters g Freeblks) (counters g Longest) (counters g Btreeblks) h
  own_group units.Refc h = counts_good a after g splits inodes_alike (reads g Rmap) (reads g Refc) (counters g RefcountBlocks) h

  any_group : (h : ℕ) (unit : ScrubUnit) → Holds a h unit → Holds after h unit
  any_group h unit holds = elim (cases_Bool (h == g)) [
    | inl here ↦ let e : h ≡ g = eqb-true h g here in subst (λ (n : ℕ). Holds after n unit) (sym e) (own_group unit (subst (λ (n : ℕ). Holds a n unit) e holds))
    | inr out ↦ holds_group a after h unit splits inodes_alike (in_other_group AlikeGroup g release a h out only_same) holds
  ]

  was_trusted : (h : ℕ) (unit : ScrubUnit) → IsTrusted after h unit → IsTrusted a h unit
  was_trusted h unit trusted = in_each (λ p q. TrustedIn q unit → TrustedIn p unit) g release a h (λ p t. t) (λ p t. t) trusted

release_keeps : (a : State) (g h : ℕ) (unit : ScrubUnit) → Splits a.geometry → Stands a h unit → IsTrusted (released g a) h unit → Holds (released g a) h unit
unfolding released
release_keeps a g h unit splits stands trusted = any_group a g splits h unit (stands (was_trusted a g splits h unit trusted))

released_splits : (a : State) (g : ℕ) → Splits a.geometry → Splits (released g a).geometry
unfolding released
released_splits a g splits = splits

pub released_keeps : ReleasedKeeps
released_keeps g own_unit a b left h unit splits s stands =
    stands_by a (released g a) b g left h unit (released_splits a g splits)
    (subst (λ (y : State). Loosely g left [] a y b) s.row.1 s.loosely) (release_keeps a g h unit splits stands)
