-- Entries and chunks: what isn't of the owner of inodes lists none, and cores that verify go on verifying.
use Rattle.std.proofs.Common.{◌≡◌, ℕ, ◌+◌, ◌-◌, ◌*◌, ◌==◌, ◌&&◌, ◌||◌, zero, suc, Bool, true, false, cond, nat_lt, nat_le, List, [], ◌∷◌, find, Option, Some, None, refl, sym, ap, ap₂, subst, ◌∙◌, eqb-true}
use Rattle.std.specs.List.{list_any}
use Rattle.std.proofs.lemmas.Bool.{false≢true, and_parts}
use Rattle.byte_fields.specs.Below.{all_below}
use Rattle.fs_model.specs.declared.entry.Extent.{Extent}
use Rattle.fs_model.specs.declared.unit.Trust.{Trust}
use Rattle.geom.specs.Layout.{Layout}
use Rattle.rmap_recs.specs.Owners.{number_of}
use Rattle.rmap_recs.specs.Rmap.{can_join}
use Rattle.rmap_recs.specs.Words.{word_goes_on}
use Rattle.rmap_recs.specs.declared.owner.Owner.TheVariants.{Inodes}
use Rattle.rmap_recs.specs.declared.records.RmapRec.{RmapRec}
use Rattle.run_edits.specs.Edits.{is_before, put_rec, put_if, grown, holds, rest_put, front_of, back_of, joined_before, joined_after}
use Rattle.sblock.specs.declared.kind.Kind.{Kind}
use Rattle.sblock.specs.declared.kind.Kind.TheVariants.{Rmap, Ino}
use Rattle.fs_state.specs.Apart.{ino_lists, rmap_lists, has_unit, is_listed, unit_verifies, is_chunk}
use Rattle.fs_state.specs.State.{State, Group, Reading, Readable, Unreadable, recs_of}
use Rattle.fs_state.specs.declared.intent.Intent.{Intent}
use Rattle.fs_state.specs.declared.intent.IntentKind.{IntentKind}
use Rattle.fs_state.specs.declared.intent.IntentKind.TheVariants.{RmapAdd, RmapRemove, RmapChange, RefMore, RefLess, Free}
use Rattle.fs_change.proofs.Alike.{gives_unit, lists_unit, recs_at}
use Rattle.fs_change.specs.Chains.{run_of, word_taken}
use Rattle.fs_change.specs.Changes.{do_mapping, plain_run, give_owner, take_owner}
use Rattle.fs_change.specs.Parts.{in_group, change_tree, with_recs, is_edited, edit, set_trust, set_trusts, records_in}
use Rattle.fs_change.specs.Records.{without_first, give_mapping, take_mapping}
use Rattle.law_writers.specs.Change.Chunks.{IsOther}

-- ---- records of reverse mappings with another owner than inodes

-- the record gives this block to inodes
abbrev pub gives_block : ℕ → RmapRec → Bool
gives_block b r = (r.owner == 0xffff_ffff_ffff_fff9) && nat_le r.start b && nat_lt b (r.start + r.count)

abbrev pub any_gives : ℕ → List RmapRec → Bool
any_gives b rs = list_any (gives_block b) rs

alien : (b : ℕ) (r : RmapRec) → IsOther r.owner → gives_block b r ≡ false
alien b r h = ap (λ x. x && nat_le r.start b && nat_lt b (r.start + r.count)) h

pub put_gives : (b : ℕ) (r : RmapRec) (rs : List RmapRec) → any_gives b (put_rec r rs) ≡ (gives_block b r || any_gives b rs)
unfolding put_rec
put_gives b r [] = refl
put_gives b r (x ∷ xs) = elim (is_before x r) as (λ t. any_gives b (cond t (x ∷ put_rec r xs) (r ∷ x ∷ xs)) ≡ (gives_block b r || (gives_block b x || any_gives b xs))) [
  | true ↦ ap (λ y. gives_block b x || y) (put_gives b r xs) ∙ swap (gives_block b x) (gives_block b r) (any_gives b xs)
  | false ↦ refl
]
  where
    swap : (x y z : Bool) → (x || (y || z)) ≡ (y || (x || z))
    swap true true z = refl
    swap true false z = refl
    swap false true z = refl
    swap false false z = refl

put_other : (b : ℕ) (r : RmapRec) (rs : List RmapRec) → IsOther r.owner → any_gives b (put_rec r rs) ≡ any_gives b rs
put_other b r rs h = put_gives b r rs ∙ ap (λ x. x || any_gives b rs) (alien b r h)

-- the first that passes isn't one of inodes
without_other : (b : ℕ) (test : RmapRec → Bool) (rs : List RmapRec) → ((r : RmapRec) → test r ≡ true → IsOther r.owner) → any_gives b (without_first test rs) ≡ any_gives b rs
without_other b test [] h = refl
without_other b test (x ∷ xs) h = (elim (test x) as (λ t. test x ≡ t → any_gives b (cond t xs (x ∷ without_first test xs)) ≡ (gives_block b x || any_gives b xs)) [
  | true ↦ λ e. sym (ap (λ y. y || any_gives b xs) (alien b x (h x e)))
  | false ↦ λ e. ap (λ y. gives_block b x || y) (without_other b test xs h)
]) refl

-- two records that can join have one owner
joins_owner : (p q : RmapRec) → can_join p q ≡ true → q.owner ≡ p.owner
joins_owner p q h =
    let v = and_parts ((q.start == p.start + p.count) && (q.owner == p.owner)) (word_goes_on p.owner p.word p.count q.word) h in
    eqb-true q.owner p.owner (and_parts (q.start == p.start + p.count) (q.owner == p.owner) v.0).1

other_than : (m n : ℕ) → m ≡ n → IsOther n → IsOther m
other_than m n e h = ap (λ k. k == number_of Inodes) e ∙ h

before_other : (o : Option RmapRec) (r : RmapRec) → ((p : RmapRec) → o ≡ Some p → IsOther p.owner) → IsOther r.owner → IsOther (joined_before o r).owner
before_other None r f h = h
before_other (Some p) r f h = f p refl

after_owner : (r : RmapRec) (o : Option RmapRec) → (joined_after r o).owner ≡ r.owner
after_owner r None = refl
after_owner r (Some q) = refl

found_passes : (test : RmapRec → Bool) (rs : List RmapRec) (p : RmapRec) → find test rs ≡ Some p → test p ≡ true
found_passes test [] p h = absurd (nothing p h)
  where
    nothing : (p : RmapRec) → None ≡ Some p → ⊥
    nothing p h = false≢true (ap (λ o. (elim o [ None ↦ false | Some y ↦ true ])) h)
found_passes test (x ∷ xs) p h = (elim (test x) as (λ t. test x ≡ t → cond t (Some x) (find test xs) ≡ Some p → test p ≡ true) [
  | true ↦ λ e k. subst (λ y. test y ≡ true) (ap (λ o. (elim o [ None ↦ x | Some y ↦ y ])) k) e
  | false ↦ λ e k. found_passes test xs p k
]) refl h

grown_other : (r : RmapRec) (rs : List RmapRec) → IsOther r.owner → IsOther (grown r rs).owner
grown_other r rs h =
    other_than _ _ (after_owner (joined_before (find (λ p. can_join p r) rs) r) (find (λ q. can_join r q) rs))
    (before_other (find (λ p. can_join p r) rs) r (λ p e. other_than p.owner r.owner (sym (joins_owner p r (found_passes (λ p. can_join p r) rs p e))) h) h)

pub gift_other : (b : ℕ) (r : RmapRec) (rs : List RmapRec) → IsOther r.owner → any_gives b (give_mapping r rs) ≡ any_gives b rs
unfolding give_mapping
gift_other b r rs h =
    put_other b (grown r rs) _ (grown_other r rs h)
    ∙ without_other b (λ p. can_join p r) (without_first (can_join r) rs) (λ p e. other_than p.owner r.owner (sym (joins_owner p r e)) h)
    ∙ without_other b (can_join r) rs (λ q e. other_than q.owner r.owner (joins_owner r q e) h)

holder_owner : (p r : RmapRec) → holds p r ≡ true → r.owner ≡ p.owner
holder_owner p r h =
    let lies : Bool = nat_le p.start r.start && nat_le (r.start + r.count) (p.start + p.count) in
    let v = and_parts (lies && (r.owner == p.owner)) (word_goes_on p.owner p.word (r.start - p.start) r.word) h in
    eqb-true r.owner p.owner (and_parts lies (r.owner == p.owner) v.0).1

put_if_other : (b : ℕ) (t : Bool) (r : RmapRec) (rs : List RmapRec) → IsOther r.owner → any_gives b (put_if t r rs) ≡ any_gives b rs
put_if_other b true r rs h = put_other b r rs h
put_if_other b false r rs h = refl

rest_other : (b : ℕ) (o : Option RmapRec) (r : RmapRec) (rs : List RmapRec) → ((p : RmapRec) → o ≡ Some p → IsOther p.owner) → IsOther r.owner → any_gives b (rest_put o r rs) ≡ any_gives b rs
rest_other b None r rs f h = refl
rest_other b (Some p) r rs f h =
    put_if_other b (nat_lt p.start r.start) (front_of p r) _ (f p refl) ∙ put_if_other b (nat_lt (r.start + r.count) (p.start + p.count)) (back_of p r) rs h

pub loss_other : (b : ℕ) (r : RmapRec) (rs : List RmapRec) → IsOther r.owner → any_gives b (take_mapping r rs) ≡ any_gives b rs
unfolding take_mapping
loss_other b r rs h =
    let of_holder : (p : RmapRec) → holds p r ≡ true → IsOther p.owner = λ p e. other_than p.owner r.owner (sym (holder_owner p r e)) h in
    rest_other b (find (λ p. holds p r) rs) r _ (λ p e. of_holder p (found_passes (λ p. holds p r) rs p e)) h
    ∙ without_other b (λ p. holds p r) rs of_holder

done_other : (b : ℕ) (kind : IntentKind) (i : Intent) (rs : List RmapRec) → IsOther i.ino → any_gives b (do_mapping kind i rs) ≡ any_gives b rs
done_other b RmapAdd i rs h = gift_other b (run_of i i.word) rs h
done_other b RmapRemove i rs h = loss_other b (run_of i i.word) rs h
done_other b RmapChange i rs h = gift_other b (run_of i i.word) (take_mapping (run_of i (word_taken i)) rs) h ∙ loss_other b (run_of i (word_taken i)) rs h
done_other b RefMore i rs h = refl
done_other b RefLess i rs h = refl
done_other b Free i rs h = refl

-- ---- groups that list the same units

pub record SameLists (p q : Group) : Type 0 where
  pub ino : (u : ℕ) → lists_unit u (records_in q Ino) ≡ lists_unit u (records_in p Ino)
  pub rmap : (u : ℕ) → gives_unit u (records_in q Rmap) ≡ gives_unit u (records_in p Rmap)

pub lists_stay : (p : Group) → SameLists p p
lists_stay p = record { ino = λ u. refl; rmap = λ u. refl }

pub lists_go_on : (p q r : Group) → SameLists p q → SameLists q r → SameLists p r
lists_go_on p q r s t = record { ino = λ u. t.ino u ∙ s.ino u; rmap = λ u. t.rmap u ∙ s.rmap u }

-- the two trees have the same records
pub by_records : (p q : Group) → records_in q Ino ≡ records_in p Ino → records_in q Rmap ≡ records_in p Rmap → SameLists p q
by_records p q i r = record { ino = λ u. ap (lists_unit u) i; rmap = λ u. ap (gives_unit u) r }

pub by_trees : (p q : Group) → q.tree Ino ≡ p.tree Ino → q.tree Rmap ≡ p.tree Rmap → SameLists p q
by_trees p q i r = by_records p q (ap (λ x. recs_of x.reading) i) (ap (λ x. recs_of x.reading) r)

same_eight : (f h : ℕ → Bool) → ((j : ℕ) → f j ≡ h j) → (n : ℕ) → all_below n f ≡ all_below n h
unfolding all_below
same_eight f h e zero = refl
same_eight f h e (suc n) = ap₂ (λ x y. x && y) (same_eight f h e n) (e n)

by_blocks : (u : ℕ) (rs ss : List RmapRec) → ((b : ℕ) → any_gives b ss ≡ any_gives b rs) → gives_unit u ss ≡ gives_unit u rs
by_blocks u rs ss e = same_eight (λ j. any_gives (8 * u + j) ss) (λ j. any_gives (8 * u + j) rs) (λ j. e (8 * u + j)) 8

with_gives : (b : ℕ) (f : List RmapRec → List RmapRec) (r : Reading RmapRec) → ((rs : List RmapRec) → any_gives b (f rs) ≡ any_gives b rs) → any_gives b (recs_of (with_recs (f (recs_of r)) r)) ≡ any_gives b (recs_of r)
with_gives b f (Readable recs blocks) e = e recs
with_gives b f (Unreadable block fault claims) e = refl

edit_if : (t : Bool) (p q : Group) → SameLists p q → SameLists p (cond t q p)
edit_if true p q s = s
edit_if false p q s = lists_stay p

-- an edit of reverse mappings that leaves what inodes have
pub edits_other : (left : List Kind) (f : List RmapRec → List RmapRec) (p : Group) → ((b : ℕ) (rs : List RmapRec) → any_gives b (f rs) ≡ any_gives b rs) → SameLists p (edit left Rmap f p)
edits_other left f p e = edit_if (is_edited left p Rmap) p (change_tree Rmap (λ i. record i { reading = with_recs (f (recs_of i.reading)) i.reading }) p)
    (record { ino = λ u. refl; rmap = λ u. by_blocks u (records_in p Rmap) (recs_of (with_recs (f (records_in p Rmap)) (p.tree Rmap).reading)) (λ b. with_gives b f (p.tree Rmap).reading (e b)) })

pub owner_given : (left : List Kind) (owner : ℕ) (e : Extent) (p : Group) → IsOther owner → SameLists p (give_owner left owner e p)
owner_given left owner e p h = edits_other left (give_mapping (plain_run owner e)) p (λ b rs. gift_other b (plain_run owner e) rs h)

pub owner_taken : (left : List Kind) (owner : ℕ) (e : Extent) (p : Group) → IsOther owner → SameLists p (take_owner left owner e p)
owner_taken left owner e p h = edits_other left (take_mapping (plain_run owner e)) p (λ b rs. loss_other b (plain_run owner e) rs h)

pub step_taken : (left : List Kind) (kind : IntentKind) (i : Intent) (p : Group) → IsOther i.ino → SameLists p (edit left Rmap (do_mapping kind i) p)
step_taken left kind i p h = edits_other left (do_mapping kind i) p (λ b rs. done_other b kind i rs h)

-- what is known of a tree changes no records
trust_recs : (t : Trust) (k j : Kind) (p : Group) → records_in (set_trust t k p) j ≡ records_in p j
trust_recs t k j p = recs_at k j (record (p.tree k) { trust = t }) p.tree refl

pub trust_set : (t : Trust) (k : Kind) (p : Group) → SameLists p (set_trust t k p)
trust_set t k p = by_records p (set_trust t k p) (trust_recs t k Ino p) (trust_recs t k Rmap p)

pub trusts_set : (t : Trust) (ks : List Kind) (p : Group) → SameLists p (set_trusts t ks p)
trusts_set t [] p = lists_stay p
trusts_set t (k ∷ ks) p = lists_go_on p (set_trusts t ks p) (set_trusts t (k ∷ ks) p) (trusts_set t ks p) (trust_set t k (set_trusts t ks p))

-- ---- states that list the same units

pub record SameUnits (a x : State) : Type 0 where
  pub geometry : x.geometry ≡ a.geometry
  pub lists : (h : ℕ) → SameLists (a.group h) (x.group h)

pub lists_in : (g : ℕ) (f : Group → Group) (a : State) (h : ℕ) → SameLists (a.group g) (f (a.group g)) → SameLists (a.group h) ((in_group g f a).group h)
lists_in g f a h s = (elim (h == g) as (λ b. (h == g) ≡ b → SameLists (a.group h) (cond b (f (a.group g)) (a.group h))) [
  | true ↦ λ e. subst (λ (n : ℕ). SameLists (a.group n) (f (a.group g))) (sym (eqb-true h g e)) s
  | false ↦ λ e. lists_stay (a.group h)
]) refl

-- a unit is a chunk as before where it is listed alike, and besides its cores verify alike, if it lies in its group
pub unit_by : (a x : State) (h u : ℕ) → x.geometry ≡ a.geometry → lists_unit u (records_in (x.group h) Ino) ≡ lists_unit u (records_in (a.group h) Ino) → gives_unit u (records_in (x.group h) Rmap) ≡ gives_unit u (records_in (a.group h) Rmap)
    → (has_unit a.geometry h u ≡ true → unit_verifies a.geometry x.core h u ≡ unit_verifies a.geometry a.core h u) → is_chunk x h u ≡ is_chunk a h u
unfolding is_chunk is_listed ino_lists rmap_lists
unit_by a x h u g ino rmap v =
    ap (λ (at : Layout). (has_unit at h u && (lists_unit u (records_in (x.group h) Ino) || gives_unit u (records_in (x.group h) Rmap))) && unit_verifies at x.core h u) g
    ∙ ap (λ b. (has_unit a.geometry h u && b) && unit_verifies a.geometry x.core h u) (ap₂ (λ i r. i || r) ino rmap)
    ∙ under (has_unit a.geometry h u) (lists_unit u (records_in (a.group h) Ino) || gives_unit u (records_in (a.group h) Rmap)) _ _ v
  where
    under : (i l v w : Bool) → (i ≡ true → v ≡ w) → ((i && l) && v) ≡ ((i && l) && w)
    under true l v w e = ap (λ b. l && b) (e refl)
    under false l v w e = refl

pub chunk_by : (a x : State) (h u : ℕ) → x.geometry ≡ a.geometry → SameLists (a.group h) (x.group h) → (has_unit a.geometry h u ≡ true → unit_verifies a.geometry x.core h u ≡ unit_verifies a.geometry a.core h u) → is_chunk x h u ≡ is_chunk a h u
chunk_by a x h u g s v = unit_by a x h u g (s.ino u) (s.rmap u) v

pub chunks_by : (a x : State) → SameUnits a x → (h u : ℕ) → (has_unit a.geometry h u ≡ true → unit_verifies a.geometry x.core h u ≡ unit_verifies a.geometry a.core h u) → is_chunk x h u ≡ is_chunk a h u
chunks_by a x s h u v = chunk_by a x h u s.geometry (s.lists h) v
