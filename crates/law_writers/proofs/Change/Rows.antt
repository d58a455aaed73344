-- Each row against chunks.
use Rattle.std.proofs.Common.{◌≡◌, ℕ, ◌+◌, ◌*◌, ◌<◌, ◌==◌, ◌&&◌, ◌||◌, zero, suc, Bool, true, false, not, cond, nat_lt, nat_le, List, [], ◌∷◌, ◌++◌, filter, drop, Option, Some, None, refl, sym, ap, ap₂, subst, ◌∙◌, arith, eqb-true}
use Rattle.std.specs.Prelude.{◌/◌, ◌%◌, if◌then◌else◌}
use Rattle.std.proofs.lemmas.Bool.{and_parts, ltb-true}
use Rattle.std.proofs.lemmas.Bool.Decides.{nat_tests}
use Rattle.byte_fields.proofs.BelowLemmas.{one_fails}
use Rattle.byte_fields.specs.Below.{all_below}
use Rattle.fs_model.specs.declared.entry.Entry.{Entry}
use Rattle.fs_model.specs.declared.entry.Entry.TheVariants as entries
use Rattle.fs_model.specs.declared.entry.Extent.{Extent}
use Rattle.fs_model.specs.declared.entry.Piece.{Piece}
use Rattle.fs_model.specs.declared.entry.SharedPiece.{SharedPiece}
use Rattle.fs_model.specs.declared.unit.Trust.TheVariants as trusts
use Rattle.fs_model.specs.declared.unit.Unit.{Unit as ScrubUnit}
use Rattle.fs_model.specs.declared.unit.Unit.TheVariants as units
use Rattle.fs_model.specs.declared.verdict.Verdict.{Verdict}
use Rattle.fs_model.specs.declared.verdict.Verdict.TheVariants as verdicts
use Rattle.geom.specs.Apart.{HasFitting}
use Rattle.geom.specs.Layout.{Layout, group_len_of, split_of, inode_at}
use Rattle.ino_recs.specs.declared.chunk.InoRec.{InoRec}
use Rattle.rmap_recs.specs.Owners.{number_of}
use Rattle.rmap_recs.specs.declared.owner.Owner.TheVariants.{Ag}
use Rattle.span_recs.specs.declared.refcount.RefcRec.{RefcRec}
use Rattle.sblock.specs.declared.kind.Kind.{Kind}
use Rattle.sblock.specs.declared.kind.Kind.TheVariants.{Rmap, Refc, Ino, Fino}
use Rattle.fs_state.specs.Apart.{verifies, ino_lists, rmap_lists, has_unit, is_listed, block_verifies, unit_verifies, is_chunk}
use Rattle.fs_state.specs.State.{State, Group, CoreState, Broken, Whole, Reading, Readable, Unreadable, recs_of}
use Rattle.fs_state.specs.declared.intent.Intent.{Intent}
use Rattle.fs_state.specs.Lists.{numbers}
use Rattle.fs_state.specs.Derive.{derive}
use Rattle.fs_state.specs.Faults.{kind_of_fault}
use Rattle.fs_state.specs.Records.{kinds_of}
use Rattle.fs_change.proofs.Alike.{lists_unit, moved_listed, chunk_alike, chunk_again as inodes_again}
use Rattle.fs_change.proofs.Beside as beside
use Rattle.fs_change.proofs.Mapped as rebuilt
use Rattle.fs_change.proofs.Taking.{same_unit, taken_keeps_chunks}
use Rattle.fs_change.proofs.Trees.{spaced, given_space, edited}
use Rattle.fs_change.proofs.Trees as trees
use Rattle.fs_change.specs.Changes.{mapped, unmapped, converted, shared, rmap_done, ref_done, freed, given, refilled, trimmed, marked, judged, judge, reserved, released, reaped, reap_in, take_free, give_free, give_owner, take_owner, do_mapping, change_count, changes_count, new_count, turn, inodes_follow, extent_of, is_in_extent, own_new, leave, block_extent, owner_of_run, joins_no_space, leave_limbo, shares_blocks, mark_shared, freed_core, change_data, mapping_of, data_of}
use Rattle.fs_change.specs.Parts.{at_only, in_group, set_cores, is_place, with_recs, is_edited, edit, set_trust, records_in}
use Rattle.fs_change.specs.Records.{set_count, turn_inode, follow_inode, turned, has_inode, is_unwritten_at, add_mapping}
use Rattle.fs_change.specs.Step.{Row, group_of_inode}
use Rattle.fs_change.specs.Switch.{switched, moved, move_blocks, derived_in, hold, exact_counters, unit_owner, owned_by, join_limbo}
use Rattle.law_writers.proofs.Change.Chunks.{SameLists, SameUnits, lists_stay, lists_go_on, by_trees, owner_given, owner_taken, step_taken, trust_set, trusts_set, lists_in, chunk_by, chunks_by}
use Rattle.law_writers.proofs.Change.Members.{leads_back}
use Rattle.law_writers.specs.Change.Chunks.{IsOther, IsOthers, IsRebuiltAlike, LeavesChunks, StepKeepsChunks}

-- ---- groups

space_taken : (left : List Kind) (e : Extent) (p : Group) → SameLists p (take_free left e p)
space_taken left e p = by_trees p (take_free left e p) (spaced left Ino e p refl refl) (spaced left Rmap e p refl refl)

space_given : (left : List Kind) (e : Extent) (p : Group) → SameLists p (give_free left e p)
space_given left e p = by_trees p (give_free left e p) (given_space left Ino e p refl refl) (given_space left Rmap e p refl refl)

lists_if : (b : Bool) (p q r : Group) → SameLists p q → SameLists p r → SameLists p (if b then q else r)
lists_if true p q r s t = s
lists_if false p q r s t = t

count_changed : (left : List Kind) (more : Bool) (e : Extent) (p : Group) → SameLists p (change_count left more e p)
count_changed left more e p =
    let f : List RefcRec → List RefcRec = λ recs. set_count e.block e.count (new_count more recs e.block) recs in
    lists_if (changes_count more (records_in p Refc) e.block) p (edit left Refc f p) p (by_trees p (edit left Refc f p) (edited left Refc Ino f p refl) (edited left Refc Rmap f p refl)) (lists_stay p)

-- a turned bit lists the same units
same_start : (b to_free : Bool) (i : ℕ) (r : InoRec) → (cond b (turned to_free i r) r).startino ≡ r.startino
same_start true true i r = refl
same_start true false i r = refl
same_start false to_free i r = refl

turned_lists : (to_free : Bool) (u i : ℕ) (rs : List InoRec) → lists_unit u (turn_inode to_free i rs) ≡ lists_unit u rs
unfolding turn_inode
turned_lists to_free u i [] = refl
turned_lists to_free u i (r ∷ rs) = ap₂ (λ s b. (s == 64 * u) || b) (same_start (has_inode i r) to_free i r) (turned_lists to_free u i rs)

edited_lists : (to_free : Bool) (u i : ℕ) (r : Reading InoRec) → lists_unit u (recs_of (with_recs (turn_inode to_free i (recs_of r)) r)) ≡ lists_unit u (recs_of r)
edited_lists to_free u i (Readable recs blocks) = turned_lists to_free u i recs
edited_lists to_free u i (Unreadable block fault claims) = refl

edit_turns : (b to_free : Bool) (i : ℕ) (p q : Group) → SameLists p q → SameLists p (cond b q p)
edit_turns true to_free i p q s = s
edit_turns false to_free i p q s = lists_stay p

pub bit_turned : (to_free : Bool) (i : ℕ) (p : Group) → SameLists p (turn to_free i p)
bit_turned to_free i p =
    let q : Group = edit [] Ino (turn_inode to_free i) p in
    let f = follow_inode i (turn_inode to_free i (records_in p Ino)) in
    lists_go_on p q (edit [] Fino f q)
    (edit_turns (is_edited [] p Ino) to_free i p _ (record { ino = λ u. edited_lists to_free u i (p.tree Ino).reading; rmap = λ u. refl }))
    (by_trees q (edit [] Fino f q) (edited [] Fino Ino f q refl) (edited [] Fino Rmap f q refl))

judged_lists : (g : ℕ) (unit : ScrubUnit) (v : Verdict) (p : Group) → SameLists p (judge v unit p)
judged_lists g unit verdicts.Good p = trusts_set trusts.Good (kinds_of unit) p
judged_lists g unit v p = lists_stay p

turned_over : (left : List Kind) (owner : ℕ) (e : Extent) (p : Group) → IsOther owner → SameLists p (give_owner left owner e (take_owner left (number_of Ag) e p))
turned_over left owner e p h = lists_go_on p (take_owner left (number_of Ag) e p) (give_owner left owner e (take_owner left (number_of Ag) e p)) (owner_taken left (number_of Ag) e p refl) (owner_given left owner e (take_owner left (number_of Ag) e p) h)

spare_noted : (left : List Kind) (owner : ℕ) (e : Extent) (p : Group) → IsOther owner → SameLists p (give_owner left owner e (take_free left e p))
spare_noted left owner e p h = lists_go_on p (take_free left e p) (give_owner left owner e (take_free left e p)) (space_taken left e p) (owner_given left owner e (take_free left e p) h)

after_list : (p q : Group) → SameLists (record p { free_list = drop 1 p.free_list }) q → SameLists p q
after_list p q s = record { ino = s.ino; rmap = s.rmap }

block_noted : (left : List Kind) (unit : ScrubUnit) (e : Extent) (spare : Bool) (p : Group) → SameLists p (own_new left unit e spare (leave left unit e spare p))
block_noted left units.Inode e false p = after_list p _ (turned_over left (unit_owner units.Inode) e (record p { free_list = drop 1 p.free_list }) refl)
block_noted left units.Refc e false p = after_list p _ (turned_over left (unit_owner units.Refc) e (record p { free_list = drop 1 p.free_list }) refl)
block_noted left units.Rmap e false p = record { ino = λ u. refl; rmap = λ u. refl }
block_noted left units.Free e false p = record { ino = λ u. refl; rmap = λ u. refl }
block_noted left units.Free e true p = owner_given left (unit_owner units.Free) e p refl
block_noted left units.Rmap e true p = space_taken left e p
block_noted left units.Inode e true p = spare_noted left (unit_owner units.Inode) e p refl
block_noted left units.Refc e true p = spare_noted left (unit_owner units.Refc) e p refl

run_reaped : (c : Bool) (left : List Kind) (owner : ℕ) (e : Extent) (p : Group) → IsOther owner
    → SameLists p (if c then take_owner left owner e (leave_limbo owner e p) else give_free left e (take_owner left owner e (leave_limbo owner e p)))
run_reaped true left owner e p h = let s = owner_taken left owner e (leave_limbo owner e p) h in record { ino = s.ino; rmap = s.rmap }
run_reaped false left owner e p h =
    let q : Group = take_owner left owner e (leave_limbo owner e p) in
    let s = lists_go_on (leave_limbo owner e p) q (give_free left e q) (owner_taken left owner e (leave_limbo owner e p) h) (space_given left e q) in
    record { ino = s.ino; rmap = s.rmap }

-- ---- cores

set_verifies : (ino : ℕ) (core : Option CoreState) (f : ℕ → Option CoreState) → verifies core ≡ verifies (f ino) → (n : ℕ) → verifies (at_only ino core f n) ≡ verifies (f n)
set_verifies ino core f h n = (elim (n == ino) as (λ b. (n == ino) ≡ b → verifies (cond b core (f n)) ≡ verifies (f n)) [
  | true ↦ λ e. h ∙ ap (λ m. verifies (f m)) (sym (eqb-true n ino e))
  | false ↦ λ e. refl
]) refl

shared_verifies : (c : Option CoreState) → verifies (shares_blocks c) ≡ verifies c
shared_verifies None = refl
shared_verifies (Some (Broken fault)) = refl
shared_verifies (Some (Whole inode)) = refl

freed_verifies : (c : Option CoreState) → verifies (freed_core c) ≡ verifies c
freed_verifies None = refl
freed_verifies (Some (Broken fault)) = refl
freed_verifies (Some (Whole inode)) = refl

-- ---- rows whose cores all go on verifying

abbrev Keeps : State → State → Type 0
Keeps a x = (h u : ℕ) → is_chunk x h u ≡ is_chunk a h u

-- the group changes so, and no core does
in_one : (g : ℕ) (f : Group → Group) (a : State) → SameLists (a.group g) (f (a.group g)) → SameUnits a (in_group g f a)
in_one g f a s = record { geometry = refl; lists = λ h. lists_in g f a h s }

same_cores : (a x : State) → SameUnits a x → x.core ≡ a.core → Keeps a x
same_cores a x s e h u = chunks_by a x s h u (λ i. ap (λ f. unit_verifies a.geometry f h u) e)

all_verify : (a x : State) → SameUnits a x → ((n : ℕ) → verifies (x.core n) ≡ verifies (a.core n)) → Keeps a x
all_verify a x s e h u = chunks_by a x s h u (λ i. same_unit a.geometry a.core x.core e h u)

-- groups, cores and geometry are those of another state
as_in : (a x y : State) → y.geometry ≡ x.geometry → ((h : ℕ) → y.group h ≡ x.group h) → SameUnits a x → SameUnits a y
as_in a x y g e s = record { geometry = g ∙ s.geometry; lists = λ h. subst (SameLists (a.group h)) (sym (e h)) (s.lists h) }

by_mapped : (m : Piece) (a : State) → Keeps a (mapped m a)
unfolding mapped
by_mapped m a = same_cores a (mapped m a) (record { geometry = refl; lists = λ h. lists_in m.group (take_free [] (extent_of m)) a h (space_taken [] (extent_of m) (a.group m.group)) }) refl

nothing_lists : (a x : State) → x.geometry ≡ a.geometry → x.group ≡ a.group → SameUnits a x
nothing_lists a x g e = record { geometry = g; lists = λ h. subst (SameLists (a.group h)) (sym (ap (λ (f : ℕ → Group). f h) e)) (lists_stay (a.group h)) }

by_unmapped : (m : Piece) (a : State) → Keeps a (unmapped m a)
unfolding unmapped
by_unmapped m a = same_cores a (unmapped m a) (nothing_lists a _ refl refl) refl

by_converted : (m : Piece) (a : State) → Keeps a (converted m a)
unfolding converted
by_converted m a = beside.either (Keeps a) (is_unwritten_at m.offset (data_of a m.ino)) _ a (same_cores a _ (nothing_lists a _ refl refl) refl) (λ h u. refl)

by_shared : (m : SharedPiece) (a : State) → Keeps a (shared m a)
unfolding shared
by_shared m a =
    let s : State = change_data m.to (add_mapping a.geometry.agblklog (mapping_of a m.to_offset m.group m.block m.count false)) a in
    all_verify a (shared m a) (nothing_lists a _ refl refl) (λ n.
    set_verifies m.from (shares_blocks ((mark_shared m.to s).core m.from)) (mark_shared m.to s).core (shared_verifies ((mark_shared m.to s).core m.from)) n
    ∙ set_verifies m.to (shares_blocks (s.core m.to)) s.core (shared_verifies (s.core m.to)) n)

by_rmap : (left : List Kind) (c : ℕ) (i : Intent) (rest : List Intent) (a : State) → IsOther i.ino → Keeps a (rmap_done left c i rest a)
unfolding rmap_done
by_rmap left c i rest a h = same_cores a (rmap_done left c i rest a) (record { geometry = refl; lists = λ k. lists_in i.group (edit left Rmap (do_mapping i.kind i)) a k (step_taken left i.kind i (a.group i.group) h) }) refl

by_ref : (left : List Kind) (c : ℕ) (more : Bool) (e : Extent) (i : Intent) (rest : List Intent) (a : State) → Keeps a (ref_done left c more e i rest a)
unfolding ref_done
by_ref left c more e i rest a = same_cores a (ref_done left c more e i rest a) (record { geometry = refl; lists = λ k. lists_in e.group (change_count left more e) a k (count_changed left more e (a.group e.group)) }) refl

by_freed : (left : List Kind) (c : ℕ) (kept : Bool) (e : Extent) (rest : List Intent) (a : State) → Keeps a (freed left c kept e rest a)
unfolding freed
by_freed left c true e rest a = same_cores a (freed left c true e rest a) (nothing_lists a _ refl refl) refl
by_freed left c false e rest a = same_cores a (freed left c false e rest a) (record { geometry = refl; lists = λ k. lists_in e.group (give_free left e) a k (space_given left e (a.group e.group)) }) refl

by_given : (g i ino : ℕ) (a : State) → Keeps a (given g i ino a)
unfolding given
by_given g i ino a =
    all_verify a (given g i ino a) (record { geometry = refl; lists = λ h. lists_in g (λ p. inodes_follow p (turn true i p)) a h (let s = bit_turned true i (a.group g) in record { ino = s.ino; rmap = s.rmap }) })
    (set_verifies ino (freed_core (a.core ino)) a.core (freed_verifies (a.core ino)))

by_refilled : (e : Extent) (a : State) → Keeps a (refilled e a)
unfolding refilled
by_refilled e a =
    let p : Group = record (a.group e.group) { free_list = (a.group e.group).free_list ++ numbers e.block e.count } in
    let s = lists_go_on p (take_free [] e p) (give_owner [] (number_of Ag) e (take_free [] e p)) (space_taken [] e p) (owner_given [] (number_of Ag) e (take_free [] e p) refl) in
    same_cores a (refilled e a) (record { geometry = refl; lists = λ h. lists_in e.group (λ q. give_owner [] (number_of Ag) e (take_free [] e (record q { free_list = q.free_list ++ numbers e.block e.count }))) a h (record { ino = s.ino; rmap = s.rmap }) }) refl

by_trimmed : (e : Extent) (a : State) → Keeps a (trimmed e a)
unfolding trimmed
by_trimmed e a =
    let p : Group = record (a.group e.group) { free_list = filter (λ b. not (is_in_extent e b)) (a.group e.group).free_list } in
    let s = lists_go_on p (take_owner [] (number_of Ag) e p) (give_free [] e (take_owner [] (number_of Ag) e p)) (owner_taken [] (number_of Ag) e p refl) (space_given [] e (take_owner [] (number_of Ag) e p)) in
    same_cores a (trimmed e a) (record { geometry = refl; lists = λ h. lists_in e.group (λ q. give_free [] e (take_owner [] (number_of Ag) e (record q { free_list = filter (λ b. not (is_in_extent e b)) q.free_list }))) a h (record { ino = s.ino; rmap = s.rmap }) }) refl

by_marked : (g : ℕ) (k : Kind) (a : State) → Keeps a (marked g k a)
unfolding marked
by_marked g k a = same_cores a (marked g k a) (in_one g (set_trust trusts.Sick k) a (trust_set trusts.Sick k (a.group g))) refl

by_judged : (g : ℕ) (unit : ScrubUnit) (v : Verdict) (a : State) → Keeps a (judged g unit v a)
unfolding judged
by_judged g unit v a = same_cores a (judged g unit v a) (in_one g (judge v unit) a (judged_lists g unit v (a.group g))) refl

by_released : (g : ℕ) (a : State) → Keeps a (released g a)
unfolding released
by_released g a = same_cores a (released g a) (in_one g (λ p. record p { reserve = []; limbo = join_limbo p.reserve p.limbo }) a (record { ino = λ u. refl; rmap = λ u. refl })) refl

by_reaped : (left : List Kind) (owner : ℕ) (e : Extent) (a : State) → IsOther owner → Keeps a (reaped left owner e a)
unfolding reaped
by_reaped left owner e a h = same_cores a (reaped left owner e a) (in_one e.group (reap_in left owner e) a (run_reaped (joins_no_space owner e (a.group e.group)) left owner e (a.group e.group) h)) refl

-- ---- a reserved block holds no core

-- the unit isn't the block's, or isn't of its group
apart_from : (at : Layout) (g b h u j s : ℕ) → HasFitting at → h < at.agcount → 8 * u + j < group_len_of at h → j < 8 → s < 8 → ((h == g) && (u == b / 8)) ≡ false → is_place g b 1 (split_of at (inode_at at h (8 * u + j) s / 8)) ≡ false
apart_from at g b h u j s fit hl ul jl sl out = ap (is_place g b 1) (leads_back at h (8 * u + j) s fit sl hl ul) ∙ beside_it h g u b j jl out
  where
    beside_it : (h g u b j : ℕ) → j < 8 → ((h == g) && (u == b / 8)) ≡ false → ((h == g) && (nat_le b (8 * u + j) && nat_lt (8 * u + j) (b + 1))) ≡ false
    beside_it h g u b j jl out = grind (arith, nat_tests)

-- as far as n the tests are the same
pub same_up_to : (f k : ℕ → Bool) (n : ℕ) → ((j : ℕ) → j < n → f j ≡ k j) → all_below n f ≡ all_below n k
unfolding all_below
same_up_to f k zero e = refl
same_up_to f k (suc n) e = ap₂ (λ x y. x && y) (same_up_to f k n (λ j l. e j (omega (arith, l)))) (e n (omega arith))

unit_lies : (at : Layout) (h u : ℕ) → has_unit at h u ≡ true → (h < at.agcount) × (8 * u + 7 < group_len_of at h)
unfolding has_unit
unit_lies at h u e = let v = and_parts (nat_lt h at.agcount) (nat_lt (8 * u + 7) (group_len_of at h)) e in (ltb-true h at.agcount v.0, ltb-true (8 * u + 7) (group_len_of at h) v.1)

other_unit : (a : State) (g b : ℕ) (core : Option CoreState) (h u : ℕ) → HasFitting a.geometry → ((h == g) && (u == b / 8)) ≡ false → has_unit a.geometry h u ≡ true
    → unit_verifies a.geometry (set_cores g b 1 core a).core h u ≡ unit_verifies a.geometry a.core h u
unfolding unit_verifies block_verifies
other_unit a g b core h u fit out lies =
    let l = unit_lies a.geometry h u lies in
    same_up_to _ _ 8 (λ j jl. same_up_to _ _ 8 (λ s sl.
    ap (λ t. verifies (if t then core else a.core (inode_at a.geometry h (8 * u + j) s)))
    (apart_from a.geometry g b h u j s fit l.0 (in_unit u j (group_len_of a.geometry h) l.1 jl) jl sl out)))
  where
    in_unit : (u j len : ℕ) → 8 * u + 7 < len → j < 8 → 8 * u + j < len
    in_unit u j len h l = omega (arith, h, l)

here : (g b : ℕ) → ((g == g) && (nat_le b b && nat_lt b (b + 1))) ≡ true
here g b = grind (arith, nat_tests)

no_core : (a : State) (g b : ℕ) → HasFitting a.geometry → g < a.geometry.agcount → b < group_len_of a.geometry g → block_verifies a.geometry (set_cores g b 1 None a).core g b ≡ false
unfolding block_verifies
no_core a g b fit gl bl =
    one_fails (λ s. verifies ((set_cores g b 1 None a).core (inode_at a.geometry g b s))) 8 0 (omega arith)
    (ap (λ t. verifies (if t then None else a.core (inode_at a.geometry g b 0))) (ap (is_place g b 1) (leads_back a.geometry g b 0 fit (omega arith) gl bl) ∙ here g b))

-- the block's own unit doesn't verify any more
own_unit : (a : State) (g b : ℕ) → HasFitting a.geometry → has_unit a.geometry g (b / 8) ≡ true → unit_verifies a.geometry (set_cores g b 1 None a).core g (b / 8) ≡ false
unfolding unit_verifies
own_unit a g b fit lies =
    let l = unit_lies a.geometry g (b / 8) lies in
    one_fails (λ j. block_verifies a.geometry (set_cores g b 1 None a).core g (8 * (b / 8) + j)) 8 (b % 8) (omega arith)
    (ap (λ n. block_verifies a.geometry (set_cores g b 1 None a).core g n) (whole b) ∙ no_core a g b fit l.0 (below b (group_len_of a.geometry g) l.1))
  where
    whole : (b : ℕ) → 8 * (b / 8) + b % 8 ≡ b
    whole b = omega arith

    below : (b len : ℕ) → 8 * (b / 8) + 7 < len → b < len
    below b len h = omega (arith, h)

never : (a x : State) (h u : ℕ) → SameUnits a x → (has_unit a.geometry h u ≡ true → unit_verifies a.geometry x.core h u ≡ false) → is_chunk x h u ≡ false
unfolding is_chunk is_listed
never a x h u s v =
    let listed : Bool = ino_lists x h u || rmap_lists x h u in
    ap (λ (at : Layout). (has_unit at h u && listed) && unit_verifies at x.core h u) s.geometry ∙ none (has_unit a.geometry h u) listed (unit_verifies a.geometry x.core h u) v
  where
    none : (i l v : Bool) → (i ≡ true → v ≡ false) → ((i && l) && v) ≡ false
    none true true v e = e refl
    none true false v e = refl
    none false l v e = refl

by_reserved : (left : List Kind) (g b : ℕ) (unit : ScrubUnit) (spare : Bool) (a : State) → HasFitting a.geometry → is_chunk a g (b / 8) ≡ false → Keeps a (reserved left g unit b spare a)
unfolding reserved
by_reserved left g b unit spare a fit none h u =
    let f : Group → Group = λ p. own_new left unit (block_extent g b) spare (leave left unit (block_extent g b) spare (record p { reserve = p.reserve ++ owned_by (unit_owner unit) b ∷ [] })) in
    let noted = block_noted left unit (block_extent g b) spare (record (a.group g) { reserve = (a.group g).reserve ++ owned_by (unit_owner unit) b ∷ [] }) in
    let s : SameUnits a (reserved left g unit b spare a) = record { geometry = refl; lists = λ k. lists_in g f a k (record { ino = noted.ino; rmap = noted.rmap }) } in
    (elim ((h == g) && (u == b / 8)) as (λ t. ((h == g) && (u == b / 8)) ≡ t → is_chunk (reserved left g unit b spare a) h u ≡ is_chunk a h u) [
      | true ↦ λ e.
          let v = and_parts (h == g) (u == b / 8) e in
          let hg : h ≡ g = eqb-true h g v.0 in
          let ub : u ≡ b / 8 = eqb-true u (b / 8) v.1 in
          ap₂ (is_chunk (reserved left g unit b spare a)) hg ub ∙ never a (reserved left g unit b spare a) g (b / 8) s (own_unit a g b fit) ∙ sym none ∙ sym (ap₂ (is_chunk a) hg ub)
      | false ↦ λ e. chunks_by a (reserved left g unit b spare a) s h u (other_unit a g b None h u fit e)
    ]) refl

-- ---- switches

in_other : (a x : State) (h u : ℕ) → x.geometry ≡ a.geometry → x.core ≡ a.core → x.group h ≡ a.group h → is_chunk x h u ≡ is_chunk a h u
in_other a x h u g c e = chunk_by a x h u g (subst (SameLists (a.group h)) (sym e) (lists_stay (a.group h))) (λ i. ap (λ f. unit_verifies a.geometry f h u) c)

switch_beside : (a : State) (g : ℕ) (unit : ScrubUnit) (blocks : Kind → List ℕ) (h : ℕ) → (h == g) ≡ false → (switched a g unit blocks).group h ≡ a.group h
unfolding switched moved
switch_beside a g unit blocks h out =
    let m : State = moved a g unit blocks in
    let d : State = derived_in m g unit in
    beside.in_other g (λ p. record p { counters = exact_counters d g unit }) d h out ∙ beside.in_other g (hold (derive m g) (kinds_of unit)) m h out ∙ beside.in_other g (move_blocks a g unit blocks) a h out

switch_core : (a : State) (g : ℕ) (unit : ScrubUnit) (blocks : Kind → List ℕ) → (switched a g unit blocks).core ≡ a.core
unfolding switched moved
switch_core a g unit blocks = refl

switch_geometry : (a : State) (g : ℕ) (unit : ScrubUnit) (blocks : Kind → List ℕ) → (switched a g unit blocks).geometry ≡ a.geometry
unfolding switched moved
switch_geometry a g unit blocks = refl

-- a switch that leaves both listings
by_other_switch : (a : State) (g : ℕ) (unit : ScrubUnit) (blocks : Kind → List ℕ) → ((switched a g unit blocks).group g).tree Ino ≡ (a.group g).tree Ino → ((switched a g unit blocks).group g).tree Rmap ≡ (a.group g).tree Rmap → Keeps a (switched a g unit blocks)
by_other_switch a g unit blocks i r h u =
    let x : State = switched a g unit blocks in
    (elim (h == g) as (λ b. (h == g) ≡ b → is_chunk x h u ≡ is_chunk a h u) [
      | true ↦ λ e. subst (λ (n : ℕ). is_chunk x n u ≡ is_chunk a n u) (sym (eqb-true h g e))
          (chunk_by a x g u (switch_geometry a g unit blocks) (by_trees (a.group g) (x.group g) i r) (λ l. ap (λ f. unit_verifies a.geometry f g u) (switch_core a g unit blocks)))
      | false ↦ λ e. in_other a x h u (switch_geometry a g unit blocks) (switch_core a g unit blocks) (switch_beside a g unit blocks h e)
    ]) refl

by_inode_switch : (a : State) (g : ℕ) (blocks : Kind → List ℕ) → Keeps a (switched a g units.Inode blocks)
by_inode_switch a g blocks h u =
    let x : State = switched a g units.Inode blocks in
    (elim (h == g) as (λ b. (h == g) ≡ b → is_chunk x h u ≡ is_chunk a h u) [
      | true ↦ λ e. subst (λ (n : ℕ). is_chunk x n u ≡ is_chunk a n u) (sym (eqb-true h g e))
          (inodes_again a g blocks u ∙ chunk_alike a (moved a g units.Inode blocks) (moved_listed a g units.Inode blocks) g u)
      | false ↦ λ e. in_other a x h u (switch_geometry a g units.Inode blocks) (switch_core a g units.Inode blocks) (switch_beside a g units.Inode blocks h e)
    ]) refl

by_rmap_switch : (a : State) (g : ℕ) (blocks : Kind → List ℕ) → IsRebuiltAlike (moved a g units.Rmap blocks) g → Keeps a (switched a g units.Rmap blocks)
by_rmap_switch a g blocks r h u =
    rebuilt.chunk_again a g blocks r.0 r.1 r.2 h u ∙ chunk_alike a (moved a g units.Rmap blocks) (moved_listed a g units.Rmap blocks) h u

-- ---- all rows

as_is : (a x y : State) → x ≡ y → Keeps a y → Keeps a x
as_is a x y same k = subst (Keeps a) (sym same) k

pub decided : (a x : State) (left : List Kind) (e : Entry) → HasFitting a.geometry → Row a left e x → LeavesChunks a e → (h u : ℕ) → is_chunk x h u ≡ is_chunk a h u
decided a x left (entries.Mapped m) fit r l = as_is a x _ r.1 (by_mapped m a)
decided a x left (entries.Unmapped m) fit r l = as_is a x _ r.1 (by_unmapped m a)
decided a x left (entries.Converted m) fit r l = as_is a x _ r.1 (by_converted m a)
decided a x left (entries.Shared m) fit r l = as_is a x _ r.1 (by_shared m a)
decided a x left (entries.RmapDone c ino g b n) fit r l = as_is a x _ r.6 (by_rmap left c r.0 r.1 a (subst IsOthers r.2.next l))
decided a x left (entries.RefDone c g b n more) fit r l = as_is a x _ r.5 (by_ref left c more (record { group = g; block = b; count = n }) r.0 r.1 a)
decided a x left (entries.Freed c g b n kept) fit r l = as_is a x _ r.6 (by_freed left c kept (record { group = g; block = b; count = n }) r.1 a)
decided a x left (entries.Taken writer ino uid None) fit r l = taken_keeps_chunks a x left writer ino uid r
decided a x left (entries.Taken writer ino uid (Some b)) fit r l = absurd l
decided a x left (entries.Given writer ino) fit r l = as_is a x _ r.4 (by_given (group_of_inode a ino) r.0 ino a)
decided a x left (entries.Refilled e) fit r l = as_is a x _ r.1 (by_refilled e a)
decided a x left (entries.Trimmed e) fit r l = as_is a x _ r.1 (by_trimmed e a)
decided a x left (entries.Marked g k cause) fit r l = as_is a x _ r.2 (by_marked g k a)
decided a x left (entries.Reserved g unit b spare) fit r l = as_is a x _ r.1 (by_reserved left g b unit spare a fit l)
decided a x left (entries.Released g unit) fit r l = as_is a x _ r.1 (by_released g a)
decided a x left (entries.Fault g unit fault) fit r l = as_is a x _ r.2 (by_marked g (kind_of_fault fault) a)
decided a x left (entries.Verdict g unit verdict) fit r l = as_is a x _ r.1 (by_judged g unit verdict a)
decided a x left (entries.Switched g units.Inode root second) fit r l = as_is a x _ r.4 (by_inode_switch a g r.0)
decided a x left (entries.Switched g units.Rmap root second) fit r l = as_is a x _ r.4 (by_rmap_switch a g r.0 (l r.0 r.2))
decided a x left (entries.Switched g units.Free root second) fit r l = as_is a x _ r.4 (by_other_switch a g units.Free r.0 (trees.by_switched g units.Free r.0 a Ino refl) (trees.by_switched g units.Free r.0 a Rmap refl))
decided a x left (entries.Switched g units.Refc root second) fit r l = as_is a x _ r.4 (by_other_switch a g units.Refc r.0 (trees.by_switched g units.Refc r.0 a Ino refl) (trees.by_switched g units.Refc r.0 a Rmap refl))
decided a x left (entries.Reaped e) fit r l = as_is a x _ r.1 (by_reaped left (owner_of_run (a.group e.group) e) e a l)
decided a x left (entries.Reply writer line code done refused begun) fit r l = as_is a x a r (λ h u. refl)

pub step_keeps_chunks : StepKeepsChunks
step_keeps_chunks a b left e fit s l h u = s.loosely.inodes.chunks h u ∙ decided a s.decided left e fit s.row l h u
