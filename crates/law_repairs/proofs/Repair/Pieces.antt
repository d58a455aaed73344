-- Reserved blocks and reaped runs leave inodes, and all other groups.
use Rattle.std.proofs.Common.{◌≡◌, ℕ, ◌+◌, ◌<◌, ◌==◌, ◌&&◌, Bool, true, false, List, [], ◌∷◌, ◌++◌, refl, ap, ap₂, sym, subst, ◌∙◌, inl, inr, arith, Option, Some, None, eqb-true}
use Rattle.std.specs.Prelude.{◌⊎◌, ◌/◌, ◌^◌, nat_le, nat_lt, length, if◌then◌else◌}
use Rattle.std.proofs.lemmas.Bool.{and_parts, leb-true, ltb-true, true≢false}
use Rattle.fs_change.proofs.Beside.{changes_one_group}
use Rattle.fs_change.proofs.Inodes.{in_same_chunk, keeps_other_inodes}
use Rattle.fs_change.proofs.Trees.{decided, keeps_other_trees}
use Rattle.fs_change.specs.Changes.{block_extent, follow, give_free, give_owner, joins_no_space, leave, leave_limbo, own_new, owner_of_run, plain_run, reap_in, reaped, reserved, take_owner}
use Rattle.fs_change.specs.Laws.{AreWords, changed_kinds, with_owners}
use Rattle.fs_change.specs.Loose.{Inside, tree_blocks}
use Rattle.fs_change.specs.Parts.{change_tree, edit, is_edited, is_place, stands_in, with_recs}
use Rattle.fs_change.specs.Records.{give_mapping, take_mapping}
use Rattle.fs_change.specs.Step.{Step, edited_in, group_of_entry}
use Rattle.fs_change.specs.Switch.{owned_by, unit_owner}
use Rattle.fs_model.specs.declared.entry.Entry.{Entry}
use Rattle.fs_model.specs.declared.entry.Entry.TheVariants as entries
use Rattle.fs_model.specs.declared.entry.Extent.{Extent}
use Rattle.fs_model.specs.declared.fault.Counter.TheVariants.{Count, Freecount, Iblocks, Fblocks}
use Rattle.fs_model.specs.declared.unit.Unit.{Unit as ScrubUnit}
use Rattle.fs_model.specs.declared.unit.Unit.TheVariants as units
use Rattle.fs_state.specs.Apart.{in_chunk, is_chunk, is_inode}
use Rattle.fs_state.specs.Group.{is_among}
use Rattle.fs_state.specs.Kinds.{RecOf}
use Rattle.fs_state.specs.State.{State, Group, Index, blocks_of, recs_of}
use Rattle.geom.specs.Apart.{Splits}
use Rattle.geom.specs.Layout.{split_of}
use Rattle.rmap_recs.specs.Owners.{number_of}
use Rattle.rmap_recs.specs.declared.owner.Owner.TheVariants.{Ag}
use Rattle.sblock.specs.declared.kind.Kind.{Kind}
use Rattle.sblock.specs.declared.kind.Kind.TheVariants.{Bno, Cnt, Rmap, Ino, Fino}
use Rattle.law_repairs.specs.Repair.Alike.{AlikeGroup, AlikeInodes}
use Rattle.law_repairs.specs.Repair.Letters.{Stands}
use Rattle.law_repairs.specs.Repair.Moves.{SameChunks}
use Rattle.law_repairs.specs.Repair.Pieces.{Reaches, ChangesNoInode, ElsewhereKeeps, ReapedKeeps, ReservedKeeps}
use Rattle.law_repairs.proofs.Repair.Groups.{holds_group, in_own_group, only_same}
use Rattle.law_repairs.proofs.Repair.Keeping.{TrustedIn}
use Rattle.law_repairs.proofs.Repair.Same.{is_inode_of}
use Rattle.law_repairs.proofs.Repair.Units.{inodes_good}

-- ---- other groups

module _ (a b : State) (left : List Kind) (e : Entry) (splits : Splits a.geometry) (s : Step a left e b) (chunks : SameChunks a b) (none : ChangesNoInode a e) where
  inode_stays : (ino : ℕ) → is_inode a ino ≡ true → is_inode b ino ≡ true
  unfolding is_inode
  inode_stays ino is = ap (λ at. in_chunk b (split_of at (ino / 8))) (changes_one_group a b left e s).geometry ∙ in_same_chunk a b chunks (split_of a.geometry (ino / 8)) ∙ is

  pub inodes_alike : AlikeInodes a b
  inodes_alike = record {
    geometry = (changes_one_group a b left e s).geometry;
    chunks = chunks;
    cores = λ ino is. (keeps_other_inodes a b left e s ino (none ino is) (inode_stays ino is)).0;
    forks = λ ino f i. let is = is_inode_of a splits ino i in (keeps_other_inodes a b left e s ino (none ino is) (inode_stays ino is)).1 f;
  }

  beside : (h : ℕ) (unit : ScrubUnit) → (h == group_of_entry a e) ≡ false → Stands a h unit → Stands b h unit
  beside h unit out stands trusted =
      let same : b.group h ≡ a.group h = (changes_one_group a b left e s).groups h out in
      holds_group a b h unit splits inodes_alike (subst (λ (p : Group). AlikeGroup (a.group h) p) (sym same) (only_same (a.group h)))
      (stands (subst (λ (p : Group). TrustedIn p unit) same trusted))

pub elsewhere_keeps : ElsewhereKeeps
elsewhere_keeps a b left e h unit splits s chunks none out stands = beside a b left e splits s chunks none h unit out stands

-- ---- counters of inodes

pub follow_same : (c n : ℕ) → c < 2 ^ 32 → follow c n n ≡ c
follow_same c n h = omega (arith, h)

-- a counter of blocks stays where its tree does
pub kept_count : (kept : Bool) (c n m : ℕ) → c < 2 ^ 32 → m ≡ n → (if kept then follow c n m else c) ≡ c
kept_count true c n m h e = ap (λ (x : ℕ). follow c n x) e ∙ follow_same c n h
kept_count false c n m h e = refl

-- the four counters of inodes are the same
pub record SameCounts (p q : Group) : Type 0 where
  pub count : q.counters Count ≡ p.counters Count
  pub free : q.counters Freecount ≡ p.counters Freecount
  pub ino : q.counters Iblocks ≡ p.counters Iblocks
  pub fino : q.counters Fblocks ≡ p.counters Fblocks

none_counted : (p : Group) → SameCounts p p
none_counted p = record { count = refl; free = refl; ino = refl; fino = refl }

both_counted : (p q r : Group) → SameCounts p q → SameCounts q r → SameCounts p r
both_counted p q r s t = record { count = t.count ∙ s.count; free = t.free ∙ s.free; ino = t.ino ∙ s.ino; fino = t.fino ∙ s.fino }

pub moves_counted : (kept : Bool) (left ks : List Kind) (p q : Group) → Inside kept left ks p q → q.tree Ino ≡ p.tree Ino → q.tree Fino ≡ p.tree Fino → p.counters Iblocks < 2 ^ 32 → p.counters Fblocks < 2 ^ 32 → SameCounts p q
moves_counted kept left [] p q i ino fino c d = subst (SameCounts p) (sym i) (none_counted p)
moves_counted kept left (k ∷ ks) p q i ino fino c d = record {
  count = ap (λ (r : Group). r.counters Count) i.is;
  free = ap (λ (r : Group). r.counters Freecount) i.is;
  ino = ap (λ (r : Group). r.counters Iblocks) i.is ∙ kept_count kept (p.counters Iblocks) (length (tree_blocks p Ino)) _ c (sym (ap (λ (r : Group). length (tree_blocks r Ino)) i.is) ∙ ap (λ (t : Index (RecOf Ino)). length (blocks_of t.reading)) ino);
  fino = ap (λ (r : Group). r.counters Fblocks) i.is ∙ kept_count kept (p.counters Fblocks) (length (tree_blocks p Fino)) _ d (sym (ap (λ (r : Group). length (tree_blocks r Fino)) i.is) ∙ ap (λ (t : Index (RecOf Fino)). length (blocks_of t.reading)) fino);
}

edit_counted : (left : List Kind) (k : Kind) (f : List (RecOf k) → List (RecOf k)) (p : Group) → SameCounts p (edit left k f p)
edit_counted left k f p = by (is_edited left p k)
  where
    by : (t : Bool) → SameCounts p (if t then change_tree k (λ i. record i { reading = with_recs (f (recs_of i.reading)) i.reading }) p else p)
    by true = record { count = refl; free = refl; ino = refl; fino = refl }
    by false = none_counted p

given_counted : (left : List Kind) (owner : ℕ) (e : Extent) (p : Group) → SameCounts p (give_owner left owner e p)
given_counted left owner e p = edit_counted left Rmap (give_mapping (plain_run owner e)) p

taken_counted : (left : List Kind) (owner : ℕ) (e : Extent) (p : Group) → SameCounts p (take_owner left owner e p)
taken_counted left owner e p = edit_counted left Rmap (take_mapping (plain_run owner e)) p

left_counted : (left : List Kind) (unit : ScrubUnit) (e : Extent) (spare : Bool) (p : Group) → SameCounts p (leave left unit e spare p)
left_counted left unit e false p = record { count = refl; free = refl; ino = refl; fino = refl }
left_counted left units.Free e true p = none_counted p
left_counted left units.Inode e true p = record { count = refl; free = refl; ino = refl; fino = refl }
left_counted left units.Rmap e true p = record { count = refl; free = refl; ino = refl; fino = refl }
left_counted left units.Refc e true p = record { count = refl; free = refl; ino = refl; fino = refl }

owned_counted : (left : List Kind) (unit : ScrubUnit) (e : Extent) (spare : Bool) (p : Group) → SameCounts p (own_new left unit e spare p)
owned_counted left units.Rmap e spare p = none_counted p
owned_counted left units.Free e false p = none_counted p
owned_counted left units.Free e true p = given_counted left (unit_owner units.Free) e p
owned_counted left units.Inode e true p = given_counted left (unit_owner units.Inode) e p
owned_counted left units.Refc e true p = given_counted left (unit_owner units.Refc) e p
owned_counted left units.Inode e false p = both_counted p (take_owner left (number_of Ag) e p) _ (taken_counted left (number_of Ag) e p) (given_counted left (unit_owner units.Inode) e (take_owner left (number_of Ag) e p))
owned_counted left units.Refc e false p = both_counted p (take_owner left (number_of Ag) e p) _ (taken_counted left (number_of Ag) e p) (given_counted left (unit_owner units.Refc) e (take_owner left (number_of Ag) e p))

pub reserved_counted : (left : List Kind) (g : ℕ) (unit : ScrubUnit) (block : ℕ) (spare : Bool) (a : State) → SameCounts (a.group g) ((reserved left g unit block spare a).group g)
unfolding reserved
reserved_counted left g unit block spare a =
    let p : Group = a.group g in
    let r : Group = record p { reserve = p.reserve ++ owned_by (unit_owner unit) block ∷ [] } in
    let e : Extent = block_extent g block in
    let n : Group = own_new left unit e spare (leave left unit e spare r) in
    subst (SameCounts p) (sym (in_own_group g (λ q. own_new left unit e spare (leave left unit e spare (record q { reserve = q.reserve ++ owned_by (unit_owner unit) block ∷ [] }))) a))
    (both_counted p r n (record { count = refl; free = refl; ino = refl; fino = refl }) (both_counted r (leave left unit e spare r) n (left_counted left unit e spare r) (owned_counted left unit e spare (leave left unit e spare r))))

reaped_in : (left : List Kind) (owner : ℕ) (e : Extent) (p : Group) → SameCounts p (reap_in left owner e p)
reaped_in left owner e p =
    let q : Group = leave_limbo owner e p in
    let r : Group = take_owner left owner e q in
    let taken = taken_counted left owner e q in
    by (joins_no_space owner e p) (record { count = taken.count; free = taken.free; ino = taken.ino; fino = taken.fino })
  where
    by : (t : Bool) → SameCounts p (take_owner left owner e (leave_limbo owner e p)) → SameCounts p (if t then take_owner left owner e (leave_limbo owner e p) else give_free left e (take_owner left owner e (leave_limbo owner e p)))
    by true s = s
    by false s = record { count = s.count; free = s.free; ino = s.ino; fino = s.fino }

pub reaped_counted : (left : List Kind) (owner : ℕ) (e : Extent) (a : State) → SameCounts (a.group e.group) ((reaped left owner e a).group e.group)
unfolding reaped
reaped_counted left owner e a = subst (SameCounts (a.group e.group)) (sym (in_own_group e.group (reap_in left owner e) a)) (reaped_in left owner e (a.group e.group))

-- ---- inodes of the own group

module _ (a b : State) (left : List Kind) (e : Entry) (splits : Splits a.geometry) (s : Step a left e b) (chunks : SameChunks a b) (none : ChangesNoInode a e) (words : AreWords (a.group (group_of_entry a e)))
    (no_ino : is_among Ino (changed_kinds a e) ≡ false) (no_fino : is_among Fino (changed_kinds a e) ≡ false) (counted : SameCounts (a.group (group_of_entry a e)) (s.decided.group (group_of_entry a e))) where
  abbrev g : ℕ
  g = group_of_entry a e

  ino_tree : (b.group g).tree Ino ≡ (a.group g).tree Ino
  ino_tree = keeps_other_trees a b left e s Ino no_ino

  fino_tree : (b.group g).tree Fino ≡ (a.group g).tree Fino
  fino_tree = keeps_other_trees a b left e s Fino no_fino

  all_counted : SameCounts (a.group g) (b.group g)
  all_counted = both_counted (a.group g) (s.decided.group g) (b.group g) counted
      (moves_counted a.geometry.inobtcount left (edited_in a left e) (s.decided.group g) (b.group g) s.loosely.inside
      (ino_tree ∙ sym (decided a s.decided left e s.row Ino no_ino)) (fino_tree ∙ sym (decided a s.decided left e s.row Fino no_fino))
      (subst (λ (n : ℕ). n < 2 ^ 32) (sym counted.ino) (words Iblocks)) (subst (λ (n : ℕ). n < 2 ^ 32) (sym counted.fino) (words Fblocks)))

  own_inodes : Stands a g units.Inode → Stands b g units.Inode
  own_inodes stands trusted =
      inodes_good a b g splits (inodes_alike a b left e splits s chunks none) (ap (λ (i : Index (RecOf Ino)). i.reading) ino_tree) (ap (λ (i : Index (RecOf Fino)). i.reading) fino_tree)
      all_counted.count all_counted.free all_counted.ino all_counted.fino
      (stands (ap (λ (i : Index (RecOf Ino)). i.trust) (sym ino_tree) ∙ trusted.0, (ap (λ (i : Index (RecOf Fino)). i.trust) (sym fino_tree) ∙ trusted.1.0, tt)))

  reaches : (h : ℕ) (unit : ScrubUnit) → Reaches g h unit → Stands a h unit → Stands b h unit
  reaches h unit (inl out) stands = beside a b left e splits s chunks none h unit out stands
  reaches h unit (inr here) stands =
      let n : h ≡ g = eqb-true h g here.0 in
      subst (λ (u : ScrubUnit). Stands b h u) (sym here.1) (subst (λ (m : ℕ). Stands b m units.Inode) (sym n) (own_inodes (subst (λ (m : ℕ). Stands a m units.Inode) n (subst (λ (u : ScrubUnit). Stands a h u) here.1 stands))))

-- ---- the two entries

-- an inode of a block that isn't a chunk's is none
pub not_there : (a : State) (g block ino : ℕ) → is_chunk a g (block / 8) ≡ false → is_inode a ino ≡ true → stands_in a g block 1 ino ≡ false
unfolding is_inode
not_there a g block ino out is = by_place (split_of a.geometry (ino / 8)) is
  where
    at_place : (h p : ℕ) → is_chunk a h (p / 8) ≡ true → (t : Bool) → ((h == g) && (nat_le block p && nat_lt p (block + 1))) ≡ t → t ≡ false
    at_place h p chunk true e =
        let x = and_parts (h == g) (nat_le block p && nat_lt p (block + 1)) e in
        let y = and_parts (nat_le block p) (nat_lt p (block + 1)) x.1 in
        let low = leb-true block p y.0 in
        let high = ltb-true p (block + 1) y.1 in
        let same : p ≡ block = omega (arith, low, high) in
        absurd (true≢false (sym chunk ∙ ap₂ (λ (i j : ℕ). is_chunk a i (j / 8)) (eqb-true h g x.0) same ∙ out))
    at_place h p chunk false e = refl

    by_place : (o : Option (ℕ × ℕ)) → in_chunk a o ≡ true → is_place g block 1 o ≡ false
    by_place None h = refl
    by_place (Some p) h = at_place p.0 p.1 h ((p.0 == g) && (nat_le block p.1 && nat_lt p.1 (block + 1))) refl

no_inode_reserved : (a : State) (g : ℕ) (own : ScrubUnit) (block : ℕ) (spare : Bool) → (is_among Ino (changed_kinds a (entries.Reserved g own block spare)) ≡ false) × (is_among Fino (changed_kinds a (entries.Reserved g own block spare)) ≡ false)
no_inode_reserved a g units.Inode block true = (refl, refl)
no_inode_reserved a g units.Inode block false = (refl, refl)
no_inode_reserved a g units.Rmap block true = (refl, refl)
no_inode_reserved a g units.Rmap block false = (refl, refl)
no_inode_reserved a g units.Free block true = (refl, refl)
no_inode_reserved a g units.Free block false = (refl, refl)
no_inode_reserved a g units.Refc block true = (refl, refl)
no_inode_reserved a g units.Refc block false = (refl, refl)

pub reserved_keeps : ReservedKeeps
reserved_keeps a b left g own block spare h unit splits s chunks out words reach stands =
    let e : Entry = entries.Reserved g own block spare in
    reaches a b left e splits s chunks (λ ino is. not_there a g block ino out is) words (no_inode_reserved a g own block spare).0 (no_inode_reserved a g own block spare).1
    (subst (λ (x : State). SameCounts (a.group g) (x.group g)) (sym s.row.1) (reserved_counted left g own block spare a)) h unit reach stands

no_inode_reaped : (a : State) (e : Extent) (k : Kind) → (k ≡ Ino) ⊎ (k ≡ Fino) → is_among k (changed_kinds a (entries.Reaped e)) ≡ false
no_inode_reaped a e k which = by (joins_no_space (owner_of_run (a.group e.group) e) e (a.group e.group)) which
  where
    by : (t : Bool) → (k ≡ Ino) ⊎ (k ≡ Fino) → is_among k (with_owners (if t then Rmap ∷ [] else Bno ∷ Cnt ∷ Rmap ∷ [])) ≡ false
    by true (inl i) = ap (λ (j : Kind). is_among j (Rmap ∷ Rmap ∷ [])) i
    by true (inr i) = ap (λ (j : Kind). is_among j (Rmap ∷ Rmap ∷ [])) i
    by false (inl i) = ap (λ (j : Kind). is_among j (Rmap ∷ Bno ∷ Cnt ∷ Rmap ∷ [])) i
    by false (inr i) = ap (λ (j : Kind). is_among j (Rmap ∷ Bno ∷ Cnt ∷ Rmap ∷ [])) i

pub reaped_keeps : ReapedKeeps
reaped_keeps a b left e h unit splits s chunks words reach stands =
    reaches a b left (entries.Reaped e) splits s chunks (λ ino is. refl) words (no_inode_reaped a e Ino (inl refl)) (no_inode_reaped a e Fino (inr refl))
    (subst (λ (x : State). SameCounts (a.group e.group) (x.group e.group)) (sym s.row.1) (reaped_counted left (owner_of_run (a.group e.group) e) e a)) h unit reach stands
