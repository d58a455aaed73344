-- A chunk that an entry makes: there was none at its place, and its inodes have no mappings.
use Rattle.std.proofs.Common.{◌≡◌, ℕ, ◌+◌, ◌*◌, ◌==◌, ◌&&◌, ◌||◌, Bool, true, false, not, cond, nat_lt, nat_le, List, [], ◌∷◌, ◌++◌, map, filter, Option, Some, None, refl, ap, ap₂, subst, ◌∙◌, arith, eqb-true}
use Rattle.std.specs.Prelude.{◌/◌, if◌then◌else◌}
use Rattle.std.specs.List.{list_any, list_all}
use Rattle.std.proofs.lemmas.Bool.{false≢true, true≢false, and_parts}
use Rattle.std.proofs.lemmas.Bool.Decides.{nat_tests}
use Rattle.byte_fields.proofs.BelowLemmas.{one_fails}
use Rattle.dinode_core.specs.declared.mapping.Fork.{Fork}
use Rattle.dinode_core.specs.declared.mapping.Fork.TheVariants as forks
use Rattle.fs_model.specs.declared.claim.Claim.TheVariants.{Data, Attr}
use Rattle.fs_model.specs.declared.entry.Entry.{Entry}
use Rattle.fs_model.specs.declared.entry.Entry.TheVariants as entries
use Rattle.geom.specs.Apart.{HasFitting}
use Rattle.geom.specs.Layout.{Layout, split_of}
use Rattle.rmap_recs.specs.Runs.{has}
use Rattle.rmap_recs.specs.declared.records.RmapRec.{RmapRec}
use Rattle.rmap_recs.specs.declared.tuples.Tuple.{Tuple}
use Rattle.sblock.specs.declared.kind.Kind.{Kind}
use Rattle.sblock.specs.declared.kind.Kind.TheVariants.{Bno, Cnt, Rmap, Ino, Fino}
use Rattle.fs_state.specs.Apart.{ino_lists, rmap_lists, has_unit, is_listed, unit_verifies, is_chunk, in_chunk, is_inode}
use Rattle.fs_state.specs.Group.{is_among}
use Rattle.fs_state.specs.State.{State, Group, ForkList, is_readable}
use Rattle.fs_state.specs.Claims.{fork_of, attribute, mapping_claims, fork_tree_claims}
use Rattle.fs_state.specs.Own.{tuple_of}
use Rattle.fs_change.specs.Changes.{taken}
use Rattle.fs_change.specs.Choice.{is_guarded}
use Rattle.fs_change.specs.Edited.{leaves_faults, met_by}
use Rattle.fs_change.specs.Met.{is_fault}
use Rattle.fs_change.specs.Parts.{is_edited, is_place, no_forks, stands_in, sick_in, records_in}
use Rattle.fs_change.specs.Step.{Step, group_of_inode}
use Rattle.fs_change.proofs.Beside as beside
use Rattle.law_writers.proofs.Change.Made.{MadeAt, made_at, chunk_is_made}
use Rattle.law_writers.specs.Change.Owners.{has_claim_of}

-- ---- nothing listed the chunk before

none_left : (left : List Kind) → list_all (λ k. is_among k []) left ≡ true → left ≡ []
none_left [] h = refl
none_left (k ∷ left) h = absurd (false≢true h)

all_behind : (T P : Kind → Bool) (k : Kind) (ks : List Kind) → list_all T (filter P (k ∷ ks)) ≡ true → list_all T (filter P ks) ≡ true
all_behind T P k ks h = (elim (P k) as (λ b. list_all T (cond b (k ∷ filter P ks) (filter P ks)) ≡ true → list_all T (filter P ks) ≡ true) [
  | true ↦ λ e. (and_parts (T k) (list_all T (filter P ks)) e).1
  | false ↦ λ e. e
]) h

first_passes : (T P : Kind → Bool) (k : Kind) (ks : List Kind) → list_all T (filter P (k ∷ ks)) ≡ true → P k ≡ true → T k ≡ true
first_passes T P k ks h p = (and_parts (T k) (list_all T (filter P ks)) (subst (λ b. list_all T (cond b (k ∷ filter P ks) (filter P ks)) ≡ true) p h)).0

fourth_passes : (T P : Kind → Bool) → list_all T (filter P (Bno ∷ Cnt ∷ Rmap ∷ Ino ∷ Fino ∷ [])) ≡ true → P Ino ≡ true → T Ino ≡ true
fourth_passes T P h = first_passes T P Ino (Fino ∷ []) (all_behind T P Rmap (Ino ∷ Fino ∷ []) (all_behind T P Cnt (Rmap ∷ Ino ∷ Fino ∷ []) (all_behind T P Bno (Cnt ∷ Rmap ∷ Ino ∷ Fino ∷ []) h)))

no_fault : (meets : Bool) → not (false || meets) ≡ true → meets ≡ false
no_fault true h = absurd (false≢true h)
no_fault false h = refl

-- the inode btree had no record of it: the edit met none
not_listed : (a b : State) (left : List Kind) (writer ino uid block : ℕ) → Step a left (entries.Taken writer ino uid (Some block)) b → sick_in (a.group (group_of_inode a ino)) Ino ≡ false
    → list_any (λ r. r.startino == 8 * block) (records_in (a.group (group_of_inode a ino)) Ino) ≡ false
unfolding leaves_faults
not_listed a b left writer ino uid block s sound =
    let e : Entry = entries.Taken writer ino uid (Some block) in
    let p : Group = a.group (group_of_inode a ino) in
    let met : leaves_faults a [] e ≡ true = subst (λ ks. leaves_faults a ks e ≡ true) (none_left left s.leaves) s.met in
    no_fault (list_any (λ r. r.startino == 8 * block) (records_in p Ino))
    (fourth_passes (λ k. is_among k [] || not (is_fault (met_by a e k))) (is_edited [] p) met (ap (λ t. if t then false else true) sound))

first_false : (x y : Bool) → (x || y) ≡ false → x ≡ false
first_false true y h = h
first_false false y h = refl

rest_false : (x y : Bool) → (x || y) ≡ false → y ≡ false
rest_false true y h = absurd (true≢false h)
rest_false false y h = h

both_false : (x y : Bool) → x ≡ false → y ≡ false → (x || y) ≡ false
both_false x y h k = ap₂ (λ s t. s || t) h k

-- a run that covers the first block covers one of the eight
one_owner : (o : Bool) (b u s n : ℕ) → 8 * u ≡ b → (nat_lt 0 n && (nat_lt s (b + 8) && nat_lt b (s + n))) ≡ false → (o && nat_le s (8 * u + 0) && nat_lt (8 * u + 0) (s + n)) ≡ false
one_owner true b u s n e h = grind (arith, nat_tests)
one_owner false b u s n e h = refl

-- and reverse mappings gave its blocks to nobody
none_owned : (b u : ℕ) (rs : List RmapRec) → 8 * u ≡ b → list_any (λ r. nat_lt 0 r.count && (nat_lt r.start (b + 8) && nat_lt b (r.start + r.count))) rs ≡ false
    → list_any (λ r. (r.owner == 0xffff_ffff_ffff_fff9) && nat_le r.start (8 * u + 0) && nat_lt (8 * u + 0) (r.start + r.count)) rs ≡ false
none_owned b u [] e h = refl
none_owned b u (r ∷ rs) e h =
    let first : Bool = nat_lt 0 r.count && (nat_lt r.start (b + 8) && nat_lt b (r.start + r.count)) in
    let rest : Bool = list_any (λ q. nat_lt 0 q.count && (nat_lt q.start (b + 8) && nat_lt b (q.start + q.count))) rs in
    both_false _ _ (one_owner (r.owner == 0xffff_ffff_ffff_fff9) b u r.start r.count e (first_false first rest h)) (none_owned b u rs e (rest_false first rest h))

not_owned : (a : State) (g b u : ℕ) → 8 * u ≡ b → is_guarded (records_in (a.group g) Rmap) b 8 ≡ false → rmap_lists a g u ≡ false
unfolding rmap_lists is_guarded
not_owned a g b u e h =
    one_fails (λ j. list_any (λ r. (r.owner == 0xffff_ffff_ffff_fff9) && nat_le r.start (8 * u + j) && nat_lt (8 * u + j) (r.start + r.count)) (records_in (a.group g) Rmap)) 8 0 (omega arith)
    (none_owned b u (records_in (a.group g) Rmap) e h)

no_listing : (a : State) (g b u : ℕ) → 8 * u ≡ b → list_any (λ r. r.startino == 8 * b) (records_in (a.group g) Ino) ≡ false → ino_lists a g u ≡ false
unfolding ino_lists
no_listing a g b u e h = ap (λ n. list_any (λ r. r.startino == n) (records_in (a.group g) Ino)) (times b u e) ∙ h
  where
    times : (b u : ℕ) → 8 * u ≡ b → 64 * u ≡ 8 * b
    times b u e = omega (arith, e)

-- So its unit was no chunk.
pub none_before : (a b : State) (left : List Kind) (writer ino uid block : ℕ) → Step a left (entries.Taken writer ino uid (Some block)) b → (m : MadeAt a (group_of_inode a ino) block) → is_chunk a (group_of_inode a ino) m.unit ≡ false
unfolding is_chunk is_listed
none_before a b left writer ino uid block s m =
    let g : ℕ = group_of_inode a ino in
    ap₂ (λ x y. (has_unit a.geometry g m.unit && (x || y)) && unit_verifies a.geometry a.core g m.unit)
    (no_listing a g block m.unit m.block (not_listed a b left writer ino uid block s m.sound))
    (not_owned a g block m.unit m.block s.row.1.4)
    ∙ never (has_unit a.geometry g m.unit) (unit_verifies a.geometry a.core g m.unit)
  where
    never : (x y : Bool) → ((x && false) && y) ≡ false
    never true y = refl
    never false y = refl

-- ---- inodes in the chunk, and those beside it

in_unit : (n b v : ℕ) → 8 * v ≡ b → (nat_le b n && nat_lt n (b + 8)) ≡ true → n / 8 ≡ v
in_unit n b v e h = grind (arith, nat_tests)

not_first : (h g n b : ℕ) → ((h == g) && (nat_le b n && nat_lt n (b + 8))) ≡ false → ((h == g) && (8 * (n / 8) == b)) ≡ false
not_first h g n b out = grind (arith, nat_tests)

-- an inode that stands there was none
new_inode : (a : State) (g b v ino : ℕ) → 8 * v ≡ b → is_chunk a g v ≡ false → stands_in a g b 8 ino ≡ true → is_inode a ino ≡ false
unfolding is_inode
new_inode a g b v ino e none h = by (split_of a.geometry (ino / 8)) h
  where
    by : (p : Option (ℕ × ℕ)) → is_place g b 8 p ≡ true → in_chunk a p ≡ false
    by None k = refl
    by (Some p) k =
        let w = and_parts (p.0 == g) (nat_le b p.1 && nat_lt p.1 (b + 8)) k in
        ap₂ (is_chunk a) (eqb-true p.0 g w.0) (in_unit p.1 b v e w.1) ∙ none

-- each other inode is one as it was
old_inode : (a b : State) (g block ino : ℕ) → b.geometry ≡ a.geometry → ((h u : ℕ) → is_chunk b h u ≡ (is_chunk a h u || ((h == g) && (8 * u == block)))) → stands_in a g block 8 ino ≡ false → is_inode b ino ≡ is_inode a ino
unfolding is_inode
old_inode a b g block ino same made out = ap (λ (at : Layout). in_chunk b (split_of at (ino / 8))) same ∙ by (split_of a.geometry (ino / 8)) out
  where
    or_none : (x : Bool) → (x || false) ≡ x
    or_none true = refl
    or_none false = refl

    by : (p : Option (ℕ × ℕ)) → is_place g block 8 p ≡ false → in_chunk b p ≡ in_chunk a p
    by None k = refl
    by (Some p) k = made p.0 (p.1 / 8) ∙ ap (λ t. is_chunk a p.0 (p.1 / 8) || t) (not_first p.0 g p.1 block k) ∙ or_none (is_chunk a p.0 (p.1 / 8))

pub forks_behind : (a : State) (g i own uid b ino : ℕ) → (taken g i own uid (Some b) a).fork ino ≡ (if stands_in a g b 8 ino then no_forks else a.fork ino)
unfolding taken
forks_behind a g i own uid b ino = refl

-- an inode without mappings has no block
pub no_claims : (a : State) (h ino : ℕ) (t : Tuple) → ((f : Fork) → fork_of a ino f ≡ record { mappings = []; blocks = [] }) → has_claim_of a h ino t ≡ false
no_claims a h ino t e =
    ap₂ (λ (d : ForkList) (x : ForkList). has (map tuple_of (mapping_claims a.geometry h (Data ino) ino 0 d.mappings ++ mapping_claims a.geometry h (Attr ino) ino attribute x.mappings
    ++ (fork_tree_claims a.geometry h ino 0 d.blocks ++ fork_tree_claims a.geometry h ino attribute x.blocks))) t) (e forks.Data) (e forks.Attr)

-- What is there of the new chunk's inodes, and of all others?
pub record NewAt (a b : State) (g block ino : ℕ) : Type 0 where
  pub gone : stands_in a g block 8 ino ≡ true → is_inode a ino ≡ false
  pub stay : stands_in a g block 8 ino ≡ false → is_inode b ino ≡ is_inode a ino

pub new_at : (a b : State) (left : List Kind) (writer ino uid block n : ℕ) → HasFitting a.geometry → Step a left (entries.Taken writer ino uid (Some block)) b → is_readable ((a.group (group_of_inode a ino)).tree Ino).reading ≡ true
    → NewAt a b (group_of_inode a ino) block n
new_at a b left writer ino uid block n fit s readable =
    let g : ℕ = group_of_inode a ino in
    let m : MadeAt a g block = made_at a s.row.1.0 g block s.row.1.2 in
    record {
      gone = λ h. new_inode a g block m.unit n m.block (none_before a b left writer ino uid block s m) h;
      stay = λ h. old_inode a b g block n ((beside.changes_one_group a b left (entries.Taken writer ino uid (Some block)) s).geometry) (chunk_is_made a b left writer ino uid block fit s readable) h;
    }
