-- What an entry decides is a state that it allows: no block has to move.
use Rattle.std.proofs.Common.{◌≡◌, ℕ, ◌+◌, ◌^◌, ◌<◌, ◌==◌, ◌&&◌, ◌||◌, Bool, true, false, not, nat_le, List, [], ◌∷◌, ◌++◌, drop, cond, sym, subst, ap, ap₂, refl, ◌∙◌, arith, append-nil, length}
use Rattle.std.specs.List.{list_any, list_all}
use Rattle.std.proofs.Common.{eq-eqb}
use Rattle.fs_model.specs.declared.fault.Counter.{Counter}
use Rattle.fs_model.specs.declared.fault.Counter.TheVariants.{Count, Freecount, Iblocks, Fblocks, RmapBlocks, Freeblks, Longest, Btreeblks, RefcountBlocks}
use Rattle.sblock.specs.declared.kind.Kind.{Kind}
use Rattle.sblock.specs.declared.kind.Kind.TheVariants.{Bno, Cnt, Rmap, Refc, Ino, Fino}
use Rattle.dinode_core.specs.declared.mapping.ForkFault.{ForkFault}
use Rattle.std.specs.Prelude.{Result, Ok, Err, if◌then◌else◌}
use Rattle.fs_state.specs.Frame.{SameFork}
use Rattle.fs_state.specs.Kinds.{RecOf}
use Rattle.fs_state.specs.State.{State, Group, Index, Owned, Reading, Readable, Unreadable, ForkList, recs_of, blocks_of, pairs_of}
use Rattle.fs_change.specs.Changes.{follow}
use Rattle.fs_change.specs.Laws.{AreWords, DecidedStands}
use Rattle.fs_change.specs.Loose.{Loosely, Inside, InodesStay, MovesBlocks, begins_with, count_used, list_room, may_join, laid_out, owners_follow, owners_in, lost_to, met_by_moves, tree_blocks, block_counter}
use Rattle.fs_change.specs.Met.{is_fault, met_moving, give_each, take_each}
use Rattle.fs_change.specs.Parts.{tree_only, change_tree, set_blocks, in_trees, in_blocks, with_recs, edit, is_edited, records_in}
use Rattle.fs_state.specs.Records.{tree_owner}
use Rattle.tree_defs.specs.Lists.{is_in}
use Rattle.fs_change.specs.Step.{edited_in, group_of_entry}
use Rattle.fs_change.specs.Switch.{is_same_owned, has_owned}

-- ---- trees

reading_in_place : {R : Type 0} (r : Reading R) → in_blocks (blocks_of r) r ≡ r
reading_in_place (Readable recs blocks) = refl
reading_in_place (Unreadable block fault claims) = refl

reading_with_own : {R : Type 0} (r : Reading R) → with_recs (recs_of r) r ≡ r
reading_with_own (Readable recs blocks) = refl
reading_with_own (Unreadable block fault claims) = refl

pub at_each : (k : Kind) (f : (j : Kind) → Index (RecOf j)) (i : Index (RecOf k)) → i ≡ f k → (j : Kind) → tree_only k i f j ≡ f j
at_each Bno f i e Bno = e
at_each Cnt f i e Cnt = e
at_each Rmap f i e Rmap = e
at_each Refc f i e Refc = e
at_each Ino f i e Ino = e
at_each Fino f i e Fino = e
at_each k f i e j = refl

-- a tree put in its own place
pub same_tree : (k : Kind) (p : Group) (i : Index (RecOf k)) → i ≡ p.tree k → record p { tree = tree_only k i p.tree } ≡ p
same_tree k p i e = λ t. record p { tree = λ j. at_each k p.tree i e j t }

in_place : (k : Kind) (p : Group) → set_blocks k (tree_blocks p k) p ≡ p
in_place k p = same_tree k p _ (ap (λ r. record (p.tree k) { reading = r }) (reading_in_place (p.tree k).reading))

all_in_place : (ks : List Kind) (p : Group) → in_trees (tree_blocks p) ks p ≡ p
all_in_place [] p = refl
all_in_place (k ∷ ks) p = ap (set_blocks k (tree_blocks p k)) (all_in_place ks p) ∙ in_place k p

-- ---- owners

same_is_there : (o : Owned) (os : List Owned) → has_owned (o ∷ os) o ≡ true
same_is_there o os = ap₂ (λ x y. (x && y) || list_any (is_same_owned o) os) (eq-eqb o.block o.block refl) (eq-eqb o.owner o.owner refl)

still_there : (b : Bool) (o p : Owned) (os : List Owned) → has_owned os o ≡ true → has_owned (p ∷ os) o ≡ true
still_there b o p os h = or_true (is_same_owned o p) (has_owned os o) h
  where
    or_true : (x y : Bool) → y ≡ true → (x || y) ≡ true
    or_true true y h = refl
    or_true false y h = h

-- of a list whose members all stand in another nothing is lost to it
none_lost : (qs ps : List Owned) → ((o : Owned) → has_owned qs o ≡ true → has_owned ps o ≡ true) → lost_to qs ps ≡ []
none_lost [] ps h = refl
none_lost (q ∷ qs) ps h = ap (λ t. cond (not t) (q ∷ lost_to qs ps) (lost_to qs ps)) (h q (same_is_there q qs)) ∙ none_lost qs ps (λ o e. h o (still_there true o q qs e))

edit_nothing : (b : Bool) (p : Group) → cond b (change_tree Rmap (λ i. record i { reading = with_recs (recs_of i.reading) i.reading }) p) p ≡ p
edit_nothing true p = same_tree Rmap p _ (ap (λ r. record (p.tree Rmap) { reading = r }) (reading_with_own (p.tree Rmap).reading))
edit_nothing false p = refl

-- nobody's owner changes
no_moves : (p : Group) → is_fault (met_by_moves p p) ≡ false
no_moves p = ap (λ os. is_fault (met_moving (pairs_of os) (pairs_of os) (records_in p Rmap))) (none_lost (owners_in p) (owners_in p) (λ o e. e))

and_false : (x y : Bool) → y ≡ false → (x && y) ≡ false
and_false true y h = h
and_false false y h = refl

owners_stay : (left : List Kind) (p : Group) → owners_follow left p p ≡ p
owners_stay left p =
    ap (λ os. edit left Rmap (λ recs. give_each (pairs_of os) (take_each (pairs_of os) recs)) p) (none_lost (owners_in p) (owners_in p) (λ o e. e))
    ∙ edit_nothing (is_edited left p Rmap) p

-- ---- counters

same_number : (c n : ℕ) → c < 2 ^ 32 → follow c n n ≡ c
same_number c n h = omega arith

same_counter : (kept : Bool) (p : Group) → AreWords p → (name : Counter) → block_counter kept p p name ≡ p.counters name
same_counter false p h Iblocks = refl
same_counter false p h Fblocks = refl
same_counter true p h Iblocks = same_number (p.counters Iblocks) (length (tree_blocks p Ino)) (h Iblocks)
same_counter true p h Fblocks = same_number (p.counters Fblocks) (length (tree_blocks p Fino)) (h Fblocks)
same_counter kept p h RmapBlocks = same_number (p.counters RmapBlocks) (length (tree_blocks p Rmap)) (h RmapBlocks)
same_counter kept p h RefcountBlocks = same_number (p.counters RefcountBlocks) (length (tree_blocks p Refc)) (h RefcountBlocks)
same_counter kept p h Btreeblks = same_number (p.counters Btreeblks) (length (tree_blocks p Bno) + length (tree_blocks p Cnt) + length (tree_blocks p Rmap)) (h Btreeblks)
same_counter kept p h Count = refl
same_counter kept p h Freecount = refl
same_counter kept p h Freeblks = refl
same_counter kept p h Longest = refl

-- ---- all of a group

laid_in_place : (kept : Bool) (left ks : List Kind) (p : Group) → AreWords p → p ≡ laid_out kept left ks (tree_blocks p) (drop 0 p.free_list ++ []) p.limbo p
laid_in_place kept left ks p h =
    let inner : record (in_trees (tree_blocks p) ks p) { free_list = drop 0 p.free_list ++ []; limbo = p.limbo } ≡ p = ap₂ (λ (q : Group) (list : List ℕ). record q { free_list = list; limbo = p.limbo }) (all_in_place ks p) (append-nil p.free_list) in
    let owners : owners_follow left p (record (in_trees (tree_blocks p) ks p) { free_list = drop 0 p.free_list ++ []; limbo = p.limbo }) ≡ p = ap (owners_follow left p) inner ∙ owners_stay left p in
    sym (ap (λ (q : Group). record q { counters = block_counter kept p q }) owners ∙ (λ t. record p { counters = λ name. same_counter kept p h name t }))

each_passes : (test : Owned → Bool) (ps : List Owned) → ((o : Owned) → has_owned ps o ≡ true → test o ≡ true) → list_all test ps ≡ true
each_passes test [] h = refl
each_passes test (p ∷ ps) h = ap₂ (λ x y. x && y) (h p (same_is_there p ps)) (each_passes test ps (λ o e. h o (still_there true o p ps e)))

-- a pair that limbo has may be there
joins : (ks : List Kind) (p : Group) (o : Owned) → has_owned p.limbo o ≡ true → may_join ks p o ≡ true
joins ks p o e = ap (λ b. b || list_any (λ k. (o.owner == tree_owner k) && (is_in o.block (tree_blocks p k) || is_in o.block p.free_list)) ks) e

-- a list begins with itself, so that no block of it was taken
begins_so : (list : List ℕ) → begins_with list list ≡ true
begins_so [] = refl
begins_so (b ∷ list) = ap₂ (λ x y. x && y) (eq-eqb b b refl) (begins_so list)

none_used : (list : List ℕ) → count_used list list ≡ 0
unfolding count_used
none_used [] = refl
none_used (b ∷ list) = ap (λ t. if t then 0 else 1 + count_used list (b ∷ list)) (begins_so (b ∷ list))

nothing_moves : (kept : Bool) (left ks : List Kind) (p : Group) → AreWords p → MovesBlocks kept left ks p p
nothing_moves kept left ks p h = record {
  blocks = tree_blocks p;
  freed = [];
  limbo = p.limbo;
  is = subst (λ n. p ≡ laid_out kept left ks (tree_blocks p) (drop n p.free_list ++ []) p.limbo p) (sym (none_used p.free_list)) (laid_in_place kept left ks p h);
  limbo_keeps = each_passes (has_owned p.limbo) p.limbo (λ o e. e);
  limbo_gains = each_passes (may_join ks p) p.limbo (joins ks p);
  limbo_due = ap (λ b. b || nat_le list_room (length p.free_list + 0)) (each_passes (has_owned p.limbo) p.limbo (λ o e. e));
  none_lost = λ b. refl;
  owners_met = and_false (is_edited left p Rmap) (is_fault (met_by_moves p p)) (no_moves p);
}

inside : (kept : Bool) (left ks : List Kind) (p : Group) → AreWords p → Inside kept left ks p p
inside kept left [] p h = refl
inside kept left (k ∷ ks) p h = nothing_moves kept left (k ∷ ks) p h

same_fork : (r : Result ForkList ForkFault) → SameFork r r
same_fork (Ok list) = refl
same_fork (Err fault) = refl

inodes_stay : (g : ℕ) (used : List ℕ) (a x : State) → InodesStay g used a x x
inodes_stay g used a x = record {
  untouched = λ ino out. refl;
  chunks = λ h u. refl;
  cores = λ ino is. refl;
  forks = λ ino f is. same_fork (x.fork ino f);
}

pub stays : (g : ℕ) (left ks : List Kind) (a x : State) → AreWords (x.group g) → Loosely g left ks a x x
stays g left ks a x h = record { geometry = refl; chains = refl; others = λ k out. refl; inside = inside a.geometry.inobtcount left ks (x.group g) h; inodes = inodes_stay g _ a x }

pub decided_stands : DecidedStands
decided_stands a x left e row leaves met h = record { decided = x; row = row; leaves = leaves; met = met; uncut = λ asked same. refl; loosely = stays (group_of_entry a e) left (edited_in a left e) a x h }
