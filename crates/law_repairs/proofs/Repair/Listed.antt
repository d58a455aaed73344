-- A block of the list that the group's own trees reserve keeps all that is known.
use Rattle.std.proofs.Common.{◌≡◌, ℕ, ◌+◌, ◌<◌, ◌==◌, Bool, true, false, List, [], ◌∷◌, ◌++◌, map, filter, drop, flat_map, refl, ap, sym, subst, ◌∙◌, inl, inr, arith, eqb-true, Option, Some, None}
use Rattle.std.specs.Prelude.{◌⊎◌, slice_get}
use Rattle.std.proofs.lemmas.Bool.{cases_Bool, true≢false}
use Rattle.fs_change.proofs.Sets.{one_set}
use Rattle.fs_change.specs.Changes.{reserved}
use Rattle.fs_change.specs.Loose.{Inside}
use Rattle.fs_change.specs.Parts.{is_edited}
use Rattle.fs_change.specs.Step.{edited_in}
use Rattle.fs_change.specs.Edited.{edits_reserve}
use Rattle.fs_change.specs.Switch.{owned_by as with_owner}
use Rattle.fs_state.specs.Chunks.{chunks}
use Rattle.fs_state.specs.Claims.{Claimed, claimed_by, claims, fork_claims}
use Rattle.fs_state.specs.Contradiction.{first_overlap, is_written_data}
use Rattle.fs_state.specs.Records.{all_kinds}
use Rattle.fs_state.specs.Own.{own, tuple_of}
use Rattle.fs_model.specs.declared.claim.Claim.TheVariants.{List as FreeList}
use Rattle.fs_model.specs.declared.entry.Entry.TheVariants as entries
use Rattle.fs_model.specs.declared.fault.Counter.{Counter}
use Rattle.fs_model.specs.declared.fault.Counter.TheVariants.{Count, Freecount, Iblocks, Fblocks, RmapBlocks, Freeblks, Longest, Btreeblks, RefcountBlocks}
use Rattle.fs_model.specs.declared.unit.Unit.{Unit as ScrubUnit}
use Rattle.fs_model.specs.declared.unit.Unit.TheVariants as units
use Rattle.fs_state.specs.State.{State, Group}
use Rattle.geom.specs.Apart.{Splits}
use Rattle.geom.specs.Layout.{group_len_of}
use Rattle.rmap_recs.specs.Owners.{number_of}
use Rattle.rmap_recs.specs.declared.owner.Owner.TheVariants.{Ag}
use Rattle.sblock.specs.declared.kind.Kind.{Kind}
use Rattle.sblock.specs.declared.kind.Kind.TheVariants.{Bno, Cnt, Rmap, Refc, Ino, Fino}
use Rattle.law_repairs.specs.Repair.Alike.{AlikeInodes}
use Rattle.law_repairs.specs.Repair.Letters.{Holds, Stands}
use Rattle.law_repairs.specs.Repair.Pieces.{ChangesNoInode, ListedKeeps}
use Rattle.law_repairs.proofs.Repair.Groups.{forks_stay, in_own_group}
use Rattle.law_repairs.proofs.Repair.Keeping.{TrustedIn}
use Rattle.law_repairs.proofs.Repair.Pieces.{elsewhere_keeps, inodes_alike, not_there}
use Rattle.law_repairs.proofs.Repair.Same.{chunks_same, forks_same}
use Rattle.law_repairs.proofs.Repair.Totals.{alone_by, chunk_part, claims_weight, clear_if_none, front_part, has_weight, is_owner, limbo_weight, none_if_clear, owned_by, parts, parts_weight, reserved_weight, same_positive, tree_part, weigh, weigh_both}
use Rattle.law_repairs.proofs.Repair.Units.{counts_good, inodes_good, maps_good, space_good}

-- the list's first block is the reserve's last
abbrev from_list : ℕ → Group → Group
from_list block p = record p { free_list = drop 1 p.free_list; reserve = p.reserve ++ with_owner (number_of Ag) block ∷ [] }

abbrev listed : ℕ → Claimed
listed b = claimed_by FreeList (number_of Ag) b

first_of : (w : Claimed → ℕ) (xs : List ℕ) (block : ℕ) → slice_get xs 0 ≡ Some block → weigh w (map listed xs) ≡ w (listed block) + weigh w (map listed (drop 1 xs))
first_of w [] block h = absurd (none_some block h)
  where
    none_some : (n : ℕ) → ◌≡◌ {A = Option ℕ} None (Some n) → ⊥
    none_some n e = cc
first_of w (x ∷ xs) block h = ap (λ (y : ℕ). w (listed y) + weigh w (map listed xs)) (same x block h)
  where
    same : (m n : ℕ) → ◌≡◌ {A = Option ℕ} (Some m) (Some n) → m ≡ n
    same m n e = cc

module _ (a b : State) (g block : ℕ) (splits : Splits a.geometry) (alike : AlikeInodes a b) (moves : b.group g ≡ from_list block (a.group g)) (first : slice_get (a.group g).free_list 0 ≡ Some block) where
  abbrev p : Group
  p = a.group g

  total : (w : Claimed → ℕ) → w (listed block) ≡ reserved_weight w (with_owner (number_of Ag) block) → weigh w (claims b g) ≡ weigh w (claims a g)
  total w same =
      let us : List ℕ = chunks a g in
      let before = claims_weight w a g in
      let later = claims_weight w b g in
      let one = parts_weight w a.geometry g p us in
      let two : weigh w (parts b.geometry g (b.group g) (chunks b g)) ≡ weigh w (parts a.geometry g (from_list block p) us) = λ i. weigh w (parts (alike.geometry i) g (moves i) (chunks_same a b splits alike g i)) in
      let three = two ∙ parts_weight w a.geometry g (from_list block p) us in
      let forks = ap (weigh w) (forks_same a b splits alike g) in
      let taken = first_of w p.free_list block first in
      let given = weigh_both (reserved_weight w) p.reserve (with_owner (number_of Ag) block ∷ []) in
      sums (weigh w (front_part a.geometry g)) (weigh w (map listed p.free_list)) (weigh w (map listed (drop 1 p.free_list))) (weigh w (flat_map (tree_part p) all_kinds)) (weigh (reserved_weight w) p.reserve) (weigh (reserved_weight w) (p.reserve ++ with_owner (number_of Ag) block ∷ []))
      (weigh (limbo_weight w) p.limbo) (weigh w (chunk_part us)) (weigh w (parts a.geometry g p us)) (weigh w (parts b.geometry g (b.group g) (chunks b g))) (weigh w (fork_claims a g)) (weigh w (fork_claims b g)) (weigh w (claims a g)) (weigh w (claims b g))
      (w (listed block)) (reserved_weight w (with_owner (number_of Ag) block)) one three before later forks taken given same
    where
      sums : (f x y t r s l c p1 p2 k1 k2 n1 n2 u v : ℕ) → p1 ≡ f + x + t + r + l + c → p2 ≡ f + y + t + s + l + c → n1 ≡ p1 + k1 → n2 ≡ p2 + k2 → k2 ≡ k1 → x ≡ u + y → s ≡ r + (v + 0) → u ≡ v → n2 ≡ n1
      sums f x y t r s l c p1 p2 k1 k2 n1 n2 u v e1 e2 e3 e4 e5 e6 e7 e8 = omega (arith, e1, e2, e3, e4, e5, e6, e7, e8)

  owners : own b g ≡ own a g
  unfolding own
  owners = one_set (map tuple_of (claims b g)) (map tuple_of (claims a g)) (λ t.
      let e = total (is_owner t) refl in
      has_weight (claims b g) t
      ∙ same_positive (weigh (is_owner t) (claims b g)) (weigh (is_owner t) (claims a g)) (λ i. omega (arith, i, e)) (λ i. omega (arith, i, e))
      ∙ sym (has_weight (claims a g) t))

  alone_same : (c : ℕ) → alone_by c (listed block) ≡ reserved_weight (alone_by c) (with_owner (number_of Ag) block)
  unfolding is_written_data
  alone_same c = refl

  apart : first_overlap a g (claims a g) ≡ None → first_overlap b g (claims b g) ≡ None
  apart h = none_if_clear b g (claims b g) (λ c lt some.
      let owned = total (owned_by c) refl in
      let alone = total (alone_by c) (alone_same c) in
      let r = clear_if_none a g (claims a g) h c (subst (λ at. c < group_len_of at g) alike.geometry lt) (omega (arith, some, alone)) in
      omega (arith, r, owned))

  reads : (k : Kind) → ((b.group g).tree k).reading ≡ ((a.group g).tree k).reading
  reads k = ap (λ (q : Group). (q.tree k).reading) moves

  counters : (name : Counter) → (b.group g).counters name ≡ (a.group g).counters name
  counters name = ap (λ (q : Group). q.counters name) moves

  own_group : (unit : ScrubUnit) → Holds a g unit → Holds b g unit
  own_group units.Inode h = inodes_good a b g splits alike (reads Ino) (reads Fino) (counters Count) (counters Freecount) (counters Iblocks) (counters Fblocks) h
  own_group units.Rmap h = (
    maps_good a b g splits alike owners (reads Rmap) (counters RmapBlocks) h.0,
    record { apart = apart h.1.apart; forks = forks_stay a b splits alike h.1.forks },
  )
  own_group units.Free h = space_good a b g splits alike (reads Rmap) (reads Bno) (reads Cnt) (counters Freeblks) (counters Longest) (counters Btreeblks) h
  own_group units.Refc h = counts_good a b g splits alike (reads Rmap) (reads Refc) (counters RefcountBlocks) h

  own_stands : (unit : ScrubUnit) → Stands a g unit → Stands b g unit
  own_stands unit stands trusted = own_group unit (stands (subst (λ (q : Group). TrustedIn q unit) moves trusted))

-- the state that such an entry reaches
reserved_group : (a : State) (left : List Kind) (g : ℕ) (own : ScrubUnit) (block : ℕ) → (own ≡ units.Free) ⊎ (own ≡ units.Rmap) → (reserved left g own block false a).group g ≡ from_list block (a.group g)
unfolding reserved
reserved_group a left g units.Free block which = in_own_group g (from_list block) a
reserved_group a left g units.Rmap block which = in_own_group g (from_list block) a
reserved_group a left g units.Inode block which = absurd (no_other which)
  where
    is_own : ScrubUnit → Bool
    is_own units.Inode = true
    is_own u = false

    no_other : (units.Inode ≡ units.Free) ⊎ (units.Inode ≡ units.Rmap) → ⊥
    no_other (inl e) = true≢false (ap is_own e)
    no_other (inr e) = true≢false (ap is_own e)
reserved_group a left g units.Refc block which = absurd (no_other which)
  where
    is_own : ScrubUnit → Bool
    is_own units.Refc = true
    is_own u = false

    no_other : (units.Refc ≡ units.Free) ⊎ (units.Refc ≡ units.Rmap) → ⊥
    no_other (inl e) = true≢false (ap is_own e)
    no_other (inr e) = true≢false (ap is_own e)

none_edited : (own : ScrubUnit) → (own ≡ units.Free) ⊎ (own ≡ units.Rmap) → edits_reserve own false ≡ []
none_edited own (inl e) = ap (λ (u : ScrubUnit). edits_reserve u false) e
none_edited own (inr e) = ap (λ (u : ScrubUnit). edits_reserve u false) e

nothing_moves : (kept : Bool) (left ks : List Kind) (p q : Group) → ks ≡ [] → Inside kept left ks p q → q ≡ p
nothing_moves kept left ks p q e i = subst (λ (js : List Kind). Inside kept left js p q) e i

pub listed_keeps : ListedKeeps
listed_keeps a b left g own block h unit splits which s chunks out stands = elim (cases_Bool (h == g)) [
  | inl here ↦
      let same : h ≡ g = eqb-true h g here in
      let none : ChangesNoInode a (entries.Reserved g own block false) = λ ino is. not_there a g block ino out is in
      let edits : edited_in a left (entries.Reserved g own block false) ≡ [] = ap (filter (is_edited left (a.group g))) (none_edited own which) in
      let moves : b.group g ≡ from_list block (a.group g) = nothing_moves a.geometry.inobtcount left (edited_in a left (entries.Reserved g own block false)) (s.decided.group g) (b.group g) edits s.loosely.inside ∙ ap (λ (x : State). x.group g) s.row.1 ∙ reserved_group a left g own block which in
      subst (λ (n : ℕ). Stands b n unit) (sym same)
      (own_stands a b g block splits (inodes_alike a b left (entries.Reserved g own block false) splits s chunks none) moves s.row.0.1 unit (subst (λ (n : ℕ). Stands a n unit) same stands))
  | inr away ↦ elsewhere_keeps a b left (entries.Reserved g own block false) h unit splits s chunks (λ ino is. not_there a g block ino out is) away stands
]
