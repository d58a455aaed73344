-- Which entry says something of the trust in a tree: a mark, a fault, a good verdict and a switch, and no other.
use Rattle.std.proofs.Common.{◌≡◌, ℕ, ◌++◌, ◌==◌, ◌&&◌, Bool, true, false, cond, List, [], ◌∷◌, drop, refl, ap, sym, subst, ◌∙◌, inl, inr, eqb-true, eq-eqb, Option, Some, None, filter}
use Rattle.std.specs.Prelude.{if◌then◌else◌, not}
use Rattle.std.proofs.lemmas.Bool.{cases_Bool, false≢true}
use Rattle.fs_change.proofs.Beside.{changes_one_group}
use Rattle.fs_change.proofs.Trees.{in_itself, keeps_other_trees}
use Rattle.fs_change.specs.Changes.{block_extent, change_count, changes_count, chunk_extent, converted, do_mapping, extent_of, free_chunk, freed, give_free, give_owner, given, inodes_follow, is_in_extent, joins_no_space, judge, judged, leave, leave_limbo, list_chunk, make_chunk, mapped, new_count, own_new, owner_of_run, plain_run, reap_in, reaped, ref_done, refilled, released, marked, reserved, rmap_done, shared, take_free, take_owner, taken, trimmed, turn, unmapped, data_of}
use Rattle.fs_change.specs.Edited.{edited_in, group_of_entry, group_of_inode}
use Rattle.fs_change.specs.Loose.{Inside, MovesBlocks, count_used, lost_in}
use Rattle.fs_change.specs.Met.{give_each, take_each}
use Rattle.fs_change.specs.Parts.{edit, in_group, in_trees, records_in, set_blocks, set_trust, set_trusts}
use Rattle.fs_change.specs.Records.{follow_inode, give_mapping, give_span, is_unwritten_at, put_chunk, set_count, take_mapping, take_span, turn_inode}
use Rattle.fs_change.specs.Step.{Step}
use Rattle.fs_change.specs.Switch.{derived_in, exact_counters, hold, join_limbo, moved, owned_by, switched, unit_owner}
use Rattle.fs_state.specs.Derive.{derive}
use Rattle.fs_state.specs.Faults.{kind_of_fault}
use Rattle.fs_state.specs.Records.{kinds_of, unit_of}
use Rattle.fs_state.specs.Laws.{EachTree}
use Rattle.fs_state.specs.Lists.{numbers}
use Rattle.fs_state.specs.Session.{is_at, is_same_unit}
use Rattle.fs_model.specs.declared.entry.Entry.{Entry}
use Rattle.fs_model.specs.declared.entry.Entry.TheVariants as entries
use Rattle.fs_model.specs.declared.entry.Extent.{Extent}
use Rattle.fs_model.specs.declared.entry.Piece.{Piece}
use Rattle.fs_model.specs.declared.entry.SharedPiece.{SharedPiece}
use Rattle.fs_model.specs.declared.fault.Cause.{Cause}
use Rattle.fs_model.specs.declared.fault.Fault.{Fault}
use Rattle.fs_model.specs.declared.unit.Trust.TheVariants.{Good, Sick}
use Rattle.fs_model.specs.declared.unit.Unit.{Unit as ScrubUnit}
use Rattle.fs_model.specs.declared.unit.Unit.TheVariants as units
use Rattle.fs_model.specs.declared.verdict.Verdict.{Verdict}
use Rattle.fs_model.specs.declared.verdict.Verdict.TheVariants as verdicts
use Rattle.fs_state.specs.Group.{is_among}
use Rattle.fs_state.specs.Kinds.{RecOf}
use Rattle.fs_state.specs.State.{Group, State}
use Rattle.fs_state.specs.declared.intent.Intent.{Intent}
use Rattle.law_repairs.proofs.Move.Edits.{edit_trust, space_trust}
use Rattle.law_repairs.specs.Repair.Letters.{IsTrusted}
use Rattle.rmap_recs.specs.Owners.{number_of}
use Rattle.rmap_recs.specs.declared.owner.Owner.TheVariants.{Ag, Inodes}
use Rattle.sblock.specs.declared.kind.Kind.{Kind}
use Rattle.sblock.specs.declared.kind.Kind.TheVariants.{Bno, Cnt, Rmap, Refc, Ino, Fino}
use Rattle.span_recs.specs.declared.refcount.RefcRec.{RefcRec}

-- the tree of this kind is trusted in the second group as in the first
abbrev SameTrust : Group → Group → Kind → Type 0
SameTrust p q k = (q.tree k).trust ≡ (p.tree k).trust

in_own : (g : ℕ) (f : Group → Group) (a : State) (k : Kind) → SameTrust (a.group g) (f (a.group g)) k → SameTrust (a.group g) ((in_group g f a).group g) k
in_own g f a k h = ap (λ (p : Group). (p.tree k).trust) (in_itself g f a) ∙ h

by_test : (t : Bool) (p q r : Group) (k : Kind) → SameTrust p q k → SameTrust p r k → SameTrust p (cond t q r) k
by_test true p q r k h i = h
by_test false p q r k h i = i

-- ---- entries of writers

mapped_trust : (m : Piece) (a : State) (k : Kind) → SameTrust (a.group m.group) ((mapped m a).group m.group) k
unfolding mapped
mapped_trust m a k = in_own m.group (take_free [] (extent_of m)) a k (space_trust take_span [] (extent_of m) (a.group m.group) k)

unmapped_trust : (m : Piece) (a : State) (k : Kind) → SameTrust (a.group m.group) ((unmapped m a).group m.group) k
unfolding unmapped
unmapped_trust m a k = refl

converted_if : (t : Bool) (x y a : State) (g : ℕ) (k : Kind) → SameTrust (a.group g) (x.group g) k → SameTrust (a.group g) (y.group g) k → SameTrust (a.group g) ((if t then x else y).group g) k
converted_if true x y a g k h i = h
converted_if false x y a g k h i = i

converted_trust : (m : Piece) (a : State) (k : Kind) → SameTrust (a.group m.group) ((converted m a).group m.group) k
unfolding converted
converted_trust m a k = converted_if (is_unwritten_at m.offset (data_of a m.ino)) _ a a m.group k refl refl

shared_trust : (m : SharedPiece) (a : State) (k : Kind) → SameTrust (a.group m.group) ((shared m a).group m.group) k
unfolding shared
shared_trust m a k = refl

rmap_trust : (left : List Kind) (c g : ℕ) (i : Intent) (rest : List Intent) (a : State) (k : Kind) → i.group ≡ g → SameTrust (a.group g) ((rmap_done left c i rest a).group g) k
unfolding rmap_done
rmap_trust left c g i rest a k at =
    subst (λ (h : ℕ). SameTrust (a.group h) ((in_group i.group (edit left Rmap (do_mapping i.kind i)) a).group h) k) at
    (in_own i.group (edit left Rmap (do_mapping i.kind i)) a k (edit_trust left Rmap k (do_mapping i.kind i) (a.group i.group)))

ref_trust : (left : List Kind) (c : ℕ) (more : Bool) (e : Extent) (i : Intent) (rest : List Intent) (a : State) (k : Kind) → SameTrust (a.group e.group) ((ref_done left c more e i rest a).group e.group) k
unfolding ref_done
ref_trust left c more e i rest a k =
    let p : Group = a.group e.group in
    let f : List RefcRec → List RefcRec = λ recs. set_count e.block e.count (new_count more recs e.block) recs in
    in_own e.group (change_count left more e) a k
    (by_test (changes_count more (records_in p Refc) e.block) p (edit left Refc f p) p k (edit_trust left Refc k f p) refl)

freed_trust : (left : List Kind) (c : ℕ) (kept : Bool) (e : Extent) (rest : List Intent) (a : State) (k : Kind) → SameTrust (a.group e.group) ((freed left c kept e rest a).group e.group) k
unfolding freed
freed_trust left c true e rest a k = refl
freed_trust left c false e rest a k = in_own e.group (give_free left e) a k (space_trust give_span left e (a.group e.group) k)

turned_trust : (to_free : Bool) (i : ℕ) (p : Group) (k : Kind) → SameTrust p (turn to_free i p) k
turned_trust to_free i p k =
    edit_trust [] Fino k (follow_inode i (turn_inode to_free i (records_in p Ino))) (edit [] Ino (turn_inode to_free i) p) ∙ edit_trust [] Ino k (turn_inode to_free i) p

chunk_trust : (g : ℕ) (chunk : Option ℕ) (a : State) (k : Kind) → SameTrust (a.group g) ((make_chunk g chunk a).group g) k
chunk_trust g None a k = refl
chunk_trust g (Some b) a k =
    let e : Extent = chunk_extent g b in
    let p : Group = a.group g in
    let q : Group = take_free [] e p in
    let r : Group = give_owner [] (number_of Inodes) e q in
    in_own g (λ p. list_chunk b (give_owner [] (number_of Inodes) (chunk_extent g b) (take_free [] (chunk_extent g b) p))) a k
    (edit_trust [] Fino k (put_chunk (free_chunk b)) (edit [] Ino (put_chunk (free_chunk b)) r) ∙ edit_trust [] Ino k (put_chunk (free_chunk b)) r
    ∙ edit_trust [] Rmap k (give_mapping (plain_run (number_of Inodes) e)) q ∙ space_trust take_span [] e p k)

taken_trust : (g i ino uid : ℕ) (chunk : Option ℕ) (a : State) (k : Kind) → SameTrust (a.group g) ((taken g i ino uid chunk a).group g) k
unfolding taken
taken_trust g i ino uid chunk a k =
    let m : State = make_chunk g chunk a in
    in_own g (λ q. inodes_follow (a.group g) (turn false i q)) m k (turned_trust false i (m.group g) k) ∙ chunk_trust g chunk a k

given_trust : (g i ino : ℕ) (a : State) (k : Kind) → SameTrust (a.group g) ((given g i ino a).group g) k
unfolding given
given_trust g i ino a k = in_own g (λ p. inodes_follow p (turn true i p)) a k (turned_trust true i (a.group g) k)

refilled_trust : (e : Extent) (a : State) (k : Kind) → SameTrust (a.group e.group) ((refilled e a).group e.group) k
unfolding refilled
refilled_trust e a k =
    let p : Group = a.group e.group in
    let q : Group = record p { free_list = p.free_list ++ numbers e.block e.count } in
    in_own e.group (λ p. give_owner [] (number_of Ag) e (take_free [] e (record p { free_list = p.free_list ++ numbers e.block e.count }))) a k
    (edit_trust [] Rmap k (give_mapping (plain_run (number_of Ag) e)) (take_free [] e q) ∙ space_trust take_span [] e q k)

trimmed_trust : (e : Extent) (a : State) (k : Kind) → SameTrust (a.group e.group) ((trimmed e a).group e.group) k
unfolding trimmed
trimmed_trust e a k =
    let p : Group = a.group e.group in
    let q : Group = record p { free_list = filter (λ b. not (is_in_extent e b)) p.free_list } in
    in_own e.group (λ p. give_free [] e (take_owner [] (number_of Ag) e (record p { free_list = filter (λ b. not (is_in_extent e b)) p.free_list }))) a k
    (space_trust give_span [] e (take_owner [] (number_of Ag) e q) k ∙ edit_trust [] Rmap k (take_mapping (plain_run (number_of Ag) e)) q)

-- ---- entries of a repair

reaped_trust : (left : List Kind) (owner : ℕ) (e : Extent) (a : State) (k : Kind) → SameTrust (a.group e.group) ((reaped left owner e a).group e.group) k
unfolding reaped
reaped_trust left owner e a k =
    let p : Group = a.group e.group in
    let q : Group = take_owner left owner e (leave_limbo owner e p) in
    let lost = edit_trust left Rmap k (take_mapping (plain_run owner e)) (leave_limbo owner e p) in
    in_own e.group (reap_in left owner e) a k (by_test (joins_no_space owner e p) p q (give_free left e q) k lost (space_trust give_span left e q k ∙ lost))

left_trust : (left : List Kind) (unit : ScrubUnit) (e : Extent) (spare : Bool) (p : Group) (k : Kind) → SameTrust p (leave left unit e spare p) k
left_trust left unit e false p k = refl
left_trust left units.Free e true p k = refl
left_trust left units.Inode e true p k = space_trust take_span left e p k
left_trust left units.Rmap e true p k = space_trust take_span left e p k
left_trust left units.Refc e true p k = space_trust take_span left e p k

owned_trust : (left : List Kind) (unit : ScrubUnit) (e : Extent) (spare : Bool) (p : Group) (k : Kind) → SameTrust p (own_new left unit e spare p) k
owned_trust left units.Rmap e spare p k = refl
owned_trust left units.Free e false p k = refl
owned_trust left units.Free e true p k = edit_trust left Rmap k (give_mapping (plain_run (unit_owner units.Free) e)) p
owned_trust left units.Inode e true p k = edit_trust left Rmap k (give_mapping (plain_run (unit_owner units.Inode) e)) p
owned_trust left units.Refc e true p k = edit_trust left Rmap k (give_mapping (plain_run (unit_owner units.Refc) e)) p
owned_trust left units.Inode e false p k =
    edit_trust left Rmap k (give_mapping (plain_run (unit_owner units.Inode) e)) (take_owner left (number_of Ag) e p) ∙ edit_trust left Rmap k (take_mapping (plain_run (number_of Ag) e)) p
owned_trust left units.Refc e false p k =
    edit_trust left Rmap k (give_mapping (plain_run (unit_owner units.Refc) e)) (take_owner left (number_of Ag) e p) ∙ edit_trust left Rmap k (take_mapping (plain_run (number_of Ag) e)) p

reserved_trust : (left : List Kind) (g b : ℕ) (unit : ScrubUnit) (spare : Bool) (a : State) (k : Kind) → SameTrust (a.group g) ((reserved left g unit b spare a).group g) k
unfolding reserved
reserved_trust left g b unit spare a k =
    let e : Extent = block_extent g b in
    let p : Group = a.group g in
    let q : Group = record p { reserve = p.reserve ++ owned_by (unit_owner unit) b ∷ [] } in
    in_own g (λ p. own_new left unit (block_extent g b) spare (leave left unit (block_extent g b) spare (record p { reserve = p.reserve ++ owned_by (unit_owner unit) b ∷ [] }))) a k
    (owned_trust left unit e spare (leave left unit e spare q) k ∙ left_trust left unit e spare q k)

released_trust : (g : ℕ) (a : State) (k : Kind) → SameTrust (a.group g) ((released g a).group g) k
unfolding released
released_trust g a k = in_own g (λ p. record p { reserve = []; limbo = join_limbo p.reserve p.limbo }) a k refl

judged_trust : (g : ℕ) (unit : ScrubUnit) (v : Verdict) (a : State) (k : Kind) → ((p : Group) → SameTrust p (judge v unit p) k) → SameTrust (a.group g) ((judged g unit v a).group g) k
unfolding judged
judged_trust g unit v a k h = in_own g (judge v unit) a k (h (a.group g))

-- ---- which trees an entry trusts as before

abbrev pub KeepsTrust : Entry → Kind → Type 0
KeepsTrust (entries.Marked g j cause) k = is_among k (j ∷ []) ≡ false
KeepsTrust (entries.Fault g unit fault) k = is_among k (kind_of_fault fault ∷ []) ≡ false
KeepsTrust (entries.Verdict g unit verdicts.Good) k = is_among k (kinds_of unit) ≡ false
KeepsTrust (entries.Switched g unit root second) k = is_among k (kinds_of unit) ≡ false
KeepsTrust e k = Unit {0}

abbrev Keeps : State → State → ℕ → Kind → Type 0
Keeps a x g k = SameTrust (a.group g) (x.group g) k

as_row : (a x y : State) (g : ℕ) (k : Kind) → x ≡ y → Keeps a y g k → Keeps a x g k
as_row a x y g k same h = subst (λ (z : State). Keeps a z g k) (sym same) h

placed_one : (blocks : List ℕ) (j : Kind) (p : Group) (k : Kind) → SameTrust p (set_blocks j blocks p) k
placed_one blocks Bno p Bno = refl
placed_one blocks Cnt p Cnt = refl
placed_one blocks Rmap p Rmap = refl
placed_one blocks Refc p Refc = refl
placed_one blocks Ino p Ino = refl
placed_one blocks Fino p Fino = refl
placed_one blocks j p k = refl

placed : (blocks : Kind → List ℕ) (ks : List Kind) (p : Group) (k : Kind) → SameTrust p (in_trees blocks ks p) k
placed blocks [] p k = refl
placed blocks (j ∷ ks) p k = placed_one (blocks j) j (in_trees blocks ks p) k ∙ placed blocks ks p k

moved_trust : (kept : Bool) (left ks : List Kind) (p q : Group) (k : Kind) → MovesBlocks kept left ks p q → SameTrust p q k
moved_trust kept left ks p q k m =
    let r : Group = record (in_trees m.blocks ks p) { free_list = drop (count_used p.free_list q.free_list) p.free_list ++ m.freed; limbo = m.limbo } in
    ap (λ (s : Group). (s.tree k).trust) m.is
    ∙ edit_trust left Rmap k (λ recs. give_each (lost_in r p) (take_each (lost_in p r) recs)) r
    ∙ placed m.blocks ks p k

inside_trust : (kept : Bool) (left ks : List Kind) (p q : Group) (k : Kind) → Inside kept left ks p q → SameTrust p q k
inside_trust kept left [] p q k inside = ap (λ (s : Group). (s.tree k).trust) inside
inside_trust kept left (j ∷ ks) p q k inside = moved_trust kept left (j ∷ ks) p q k inside

-- what the row decides is trusted so behind the entry
behind : (a b : State) (left : List Kind) (e : Entry) (s : Step a left e b) (k : Kind) → Keeps a s.decided (group_of_entry a e) k → Keeps a b (group_of_entry a e) k
behind a b left e s k h =
    inside_trust a.geometry.inobtcount left (edited_in a left e) (s.decided.group (group_of_entry a e)) (b.group (group_of_entry a e)) k s.loosely.inside ∙ h

other_tree : (a b : State) (left : List Kind) (e : Entry) (s : Step a left e b) (k : Kind) → (b.group (group_of_entry a e)).tree k ≡ (a.group (group_of_entry a e)).tree k → Keeps a b (group_of_entry a e) k
other_tree a b left e s k same = ap (λ i. i.trust) same

own_kept : (a b : State) (left : List Kind) (e : Entry) → Step a left e b → (k : Kind) → KeepsTrust e k → Keeps a b (group_of_entry a e) k
own_kept a b left (entries.Mapped m) s k h = behind a b left (entries.Mapped m) s k (as_row a s.decided (mapped m a) m.group k s.row.1 (mapped_trust m a k))
own_kept a b left (entries.Unmapped m) s k h = behind a b left (entries.Unmapped m) s k (as_row a s.decided (unmapped m a) m.group k s.row.1 (unmapped_trust m a k))
own_kept a b left (entries.Converted m) s k h = behind a b left (entries.Converted m) s k (as_row a s.decided (converted m a) m.group k s.row.1 (converted_trust m a k))
own_kept a b left (entries.Shared m) s k h = behind a b left (entries.Shared m) s k (as_row a s.decided (shared m a) m.group k s.row.1 (shared_trust m a k))
own_kept a b left (entries.RmapDone c ino g block n) s k h =
    behind a b left (entries.RmapDone c ino g block n) s k (as_row a s.decided (rmap_done left c s.row.0 s.row.1 a) g k s.row.6 (rmap_trust left c g s.row.0 s.row.1 a k s.row.2.group))
own_kept a b left (entries.RefDone c g block n more) s k h =
    behind a b left (entries.RefDone c g block n more) s k
    (as_row a s.decided (ref_done left c more (record { group = g; block = block; count = n }) s.row.0 s.row.1 a) g k s.row.5 (ref_trust left c more (record { group = g; block = block; count = n }) s.row.0 s.row.1 a k))
own_kept a b left (entries.Freed c g block n kept) s k h =
    behind a b left (entries.Freed c g block n kept) s k
    (as_row a s.decided (freed left c kept (record { group = g; block = block; count = n }) s.row.1 a) g k s.row.6 (freed_trust left c kept (record { group = g; block = block; count = n }) s.row.1 a k))
own_kept a b left (entries.Taken writer ino uid chunk) s k h =
    behind a b left (entries.Taken writer ino uid chunk) s k
    (as_row a s.decided (taken (group_of_inode a ino) s.row.0 ino uid chunk a) (group_of_inode a ino) k s.row.3 (taken_trust (group_of_inode a ino) s.row.0 ino uid chunk a k))
own_kept a b left (entries.Given writer ino) s k h =
    behind a b left (entries.Given writer ino) s k (as_row a s.decided (given (group_of_inode a ino) s.row.0 ino a) (group_of_inode a ino) k s.row.4 (given_trust (group_of_inode a ino) s.row.0 ino a k))
own_kept a b left (entries.Refilled e) s k h = behind a b left (entries.Refilled e) s k (as_row a s.decided (refilled e a) e.group k s.row.1 (refilled_trust e a k))
own_kept a b left (entries.Trimmed e) s k h = behind a b left (entries.Trimmed e) s k (as_row a s.decided (trimmed e a) e.group k s.row.1 (trimmed_trust e a k))
own_kept a b left (entries.Marked g j cause) s k h = other_tree a b left (entries.Marked g j cause) s k (keeps_other_trees a b left (entries.Marked g j cause) s k h)
own_kept a b left (entries.Fault g unit fault) s k h = other_tree a b left (entries.Fault g unit fault) s k (keeps_other_trees a b left (entries.Fault g unit fault) s k h)
own_kept a b left (entries.Switched g unit root second) s k h =
    other_tree a b left (entries.Switched g unit root second) s k (keeps_other_trees a b left (entries.Switched g unit root second) s k h)
own_kept a b left (entries.Verdict g unit verdicts.Good) s k h =
    other_tree a b left (entries.Verdict g unit verdicts.Good) s k (keeps_other_trees a b left (entries.Verdict g unit verdicts.Good) s k h)
own_kept a b left (entries.Verdict g unit v) s k h =
    behind a b left (entries.Verdict g unit v) s k (as_row a s.decided (judged g unit v a) g k s.row.1 (judged_trust g unit v a k (λ p. refl)))
own_kept a b left (entries.Reserved g unit block spare) s k h =
    behind a b left (entries.Reserved g unit block spare) s k (as_row a s.decided (reserved left g unit block spare a) g k s.row.1 (reserved_trust left g block unit spare a k))
own_kept a b left (entries.Released g unit) s k h = behind a b left (entries.Released g unit) s k (as_row a s.decided (released g a) g k s.row.1 (released_trust g a k))
own_kept a b left (entries.Reaped e) s k h =
    behind a b left (entries.Reaped e) s k (as_row a s.decided (reaped left (owner_of_run (a.group e.group) e) e a) e.group k s.row.1 (reaped_trust left (owner_of_run (a.group e.group) e) e a k))
own_kept a b left (entries.Reply writer line code done refused begun) s k h = behind a b left (entries.Reply writer line code done refused begun) s k (as_row a s.decided a 0 k s.row refl)

-- ---- units

-- Does an entry say something of the trust in this unit?
abbrev pub touches : Entry → ℕ → ScrubUnit → Bool
touches (entries.Marked h k cause) g unit = is_at g unit h (unit_of k)
touches (entries.Fault h own fault) g unit = is_at g unit h (unit_of (kind_of_fault fault))
touches (entries.Verdict h own verdicts.Good) g unit = is_at g unit h own
touches (entries.Switched h own root second) g unit = is_at g unit h own
touches e g unit = false

other_kind : (unit : ScrubUnit) (k : Kind) → is_same_unit unit (unit_of k) ≡ false → EachTree (λ j. is_among j (k ∷ []) ≡ false) (kinds_of unit)
other_kind units.Inode Ino h = absurd (false≢true (sym h))
other_kind units.Inode Fino h = absurd (false≢true (sym h))
other_kind units.Rmap Rmap h = absurd (false≢true (sym h))
other_kind units.Free Bno h = absurd (false≢true (sym h))
other_kind units.Free Cnt h = absurd (false≢true (sym h))
other_kind units.Refc Refc h = absurd (false≢true (sym h))
other_kind units.Inode k h = (refl, (refl, tt))
other_kind units.Rmap k h = (refl, tt)
other_kind units.Free k h = (refl, (refl, tt))
other_kind units.Refc k h = (refl, tt)

other_unit : (unit own : ScrubUnit) → is_same_unit unit own ≡ false → EachTree (λ j. is_among j (kinds_of own) ≡ false) (kinds_of unit)
other_unit units.Inode units.Inode h = absurd (false≢true (sym h))
other_unit units.Rmap units.Rmap h = absurd (false≢true (sym h))
other_unit units.Free units.Free h = absurd (false≢true (sym h))
other_unit units.Refc units.Refc h = absurd (false≢true (sym h))
other_unit units.Inode own h = (refl, (refl, tt))
other_unit units.Rmap own h = (refl, tt)
other_unit units.Free own h = (refl, (refl, tt))
other_unit units.Refc own h = (refl, tt)

unit_each : (ks : List Kind) → EachTree (λ k. Unit {0}) ks
unit_each [] = tt
unit_each (k ∷ ks) = (tt, unit_each ks)

-- a unit of the same group that isn't this one is another unit
is_other : (g h : ℕ) (x : Bool) → (g == h) ≡ true → ((h == g) && x) ≡ false → x ≡ false
is_other g h x same out = sym (ap (λ (b : Bool). b && x) (eq-eqb h g (sym (eqb-true g h same)))) ∙ out

keeps_each : (a : State) (e : Entry) (g : ℕ) (unit : ScrubUnit) → (g == group_of_entry a e) ≡ true → touches e g unit ≡ false → EachTree (KeepsTrust e) (kinds_of unit)
keeps_each a (entries.Marked h k cause) g unit same out = other_kind unit k (is_other g h (is_same_unit unit (unit_of k)) same out)
keeps_each a (entries.Fault h own fault) g unit same out = other_kind unit (kind_of_fault fault) (is_other g h (is_same_unit unit (unit_of (kind_of_fault fault))) same out)
keeps_each a (entries.Verdict h own verdicts.Good) g unit same out = other_unit unit own (is_other g h (is_same_unit unit own) same out)
keeps_each a (entries.Switched h own root second) g unit same out = other_unit unit own (is_other g h (is_same_unit unit own) same out)
keeps_each a e g unit same out = unit_each (kinds_of unit)

abbrev TrustedIn : Group → ScrubUnit → Type 0
TrustedIn p unit = EachTree (λ k. (p.tree k).trust ≡ Good) (kinds_of unit)

module _ (a b : State) (left : List Kind) (e : Entry) (s : Step a left e b) where
  own_trusted : (ks : List Kind) → EachTree (KeepsTrust e) ks → EachTree (λ k. ((a.group (group_of_entry a e)).tree k).trust ≡ Good) ks
      → EachTree (λ k. ((b.group (group_of_entry a e)).tree k).trust ≡ Good) ks
  own_trusted [] keeps trusted = tt
  own_trusted (k ∷ ks) keeps trusted = (own_kept a b left e s k keeps.0 ∙ trusted.0, own_trusted ks keeps.1 trusted.1)

  -- a unit that it doesn't touch stays trusted
  pub trusted_kept : (g : ℕ) (unit : ScrubUnit) → touches e g unit ≡ false → IsTrusted a g unit → IsTrusted b g unit
  trusted_kept g unit out trusted = elim (cases_Bool (g == group_of_entry a e)) [
    | inl same ↦
        let is = eqb-true g (group_of_entry a e) same in
        subst (λ (h : ℕ). IsTrusted b h unit) (sym is)
        (own_trusted (kinds_of unit) (keeps_each a e g unit same out) (subst (λ (h : ℕ). IsTrusted a h unit) is trusted))
    | inr other ↦ subst (λ (p : Group). TrustedIn p unit) (sym ((changes_one_group a b left e s).groups g other)) trusted
  ]

of_kind : (P : Kind → Type 0) (k : Kind) → EachTree P (kinds_of (unit_of k)) → P k
of_kind P Bno all = all.0
of_kind P Cnt all = all.1.0
of_kind P Rmap all = all.0
of_kind P Refc all = all.0
of_kind P Ino all = all.0
of_kind P Fino all = all.1.0

-- so is any tree of it
pub tree_kept : (a b : State) (left : List Kind) (e : Entry) → Step a left e b → (g : ℕ) (k : Kind) → touches e g (unit_of k) ≡ false → ((b.group g).tree k).trust ≡ ((a.group g).tree k).trust
tree_kept a b left e s g k out = elim (cases_Bool (g == group_of_entry a e)) [
  | inl same ↦
      let is = eqb-true g (group_of_entry a e) same in
      subst (λ (h : ℕ). ((b.group h).tree k).trust ≡ ((a.group h).tree k).trust) (sym is)
      (own_kept a b left e s k (of_kind (KeepsTrust e) k (keeps_each a e g (unit_of k) same out)))
  | inr other ↦ ap (λ (p : Group). (p.tree k).trust) ((changes_one_group a b left e s).groups g other)
]

-- ---- trees that a mark makes sick

set_sick : (k : Kind) (p : Group) → ((set_trust Sick k p).tree k).trust ≡ Sick
set_sick Bno p = refl
set_sick Cnt p = refl
set_sick Rmap p = refl
set_sick Refc p = refl
set_sick Ino p = refl
set_sick Fino p = refl

marked_in : (a : State) (g : ℕ) (k : Kind) → (((marked g k a).group g).tree k).trust ≡ Sick
unfolding marked
marked_in a g k = ap (λ (p : Group). (p.tree k).trust) (in_itself g (set_trust Sick k) a) ∙ set_sick k (a.group g)

pub mark_sick : (a b : State) (left : List Kind) (g : ℕ) (k : Kind) (cause : Cause) → Step a left (entries.Marked g k cause) b → ((b.group g).tree k).trust ≡ Sick
mark_sick a b left g k cause s = ap (λ (p : Group). (p.tree k).trust) s.loosely.inside ∙ ap (λ (y : State). ((y.group g).tree k).trust) s.row.2 ∙ marked_in a g k

pub fault_sick : (a b : State) (left : List Kind) (g : ℕ) (unit : ScrubUnit) (fault : Fault) → Step a left (entries.Fault g unit fault) b → ((b.group g).tree (kind_of_fault fault)).trust ≡ Sick
fault_sick a b left g unit fault s =
    ap (λ (p : Group). (p.tree (kind_of_fault fault)).trust) s.loosely.inside ∙ ap (λ (y : State). ((y.group g).tree (kind_of_fault fault)).trust) s.row.2 ∙ marked_in a g (kind_of_fault fault)

-- ---- units that a verdict or a switch makes trusted

good_each : (unit : ScrubUnit) (p : Group) → TrustedIn (set_trusts Good (kinds_of unit) p) unit
good_each units.Inode p = (refl, (refl, tt))
good_each units.Rmap p = (refl, tt)
good_each units.Free p = (refl, (refl, tt))
good_each units.Refc p = (refl, tt)

new_each : (recs : (k : Kind) → List (RecOf k)) (unit : ScrubUnit) (p : Group) → TrustedIn (hold recs (kinds_of unit) p) unit
new_each recs units.Inode p = (refl, (refl, tt))
new_each recs units.Rmap p = (refl, tt)
new_each recs units.Free p = (refl, (refl, tt))
new_each recs units.Refc p = (refl, tt)

pub good_trusted : (a b : State) (left : List Kind) (g : ℕ) (unit : ScrubUnit) → Step a left (entries.Verdict g unit verdicts.Good) b → IsTrusted b g unit
unfolding judged
good_trusted a b left g unit s =
    subst (λ (p : Group). TrustedIn p unit) (sym (s.loosely.inside ∙ ap (λ (y : State). y.group g) s.row.1 ∙ in_itself g (judge verdicts.Good unit) a)) (good_each unit (a.group g))

pub switch_trusted : (a b : State) (left : List Kind) (g root second : ℕ) (unit : ScrubUnit) → Step a left (entries.Switched g unit root second) b → IsTrusted b g unit
unfolding switched moved
switch_trusted a b left g root second unit s =
    let m : State = moved a g unit s.row.0 in
    let d : State = derived_in m g unit in
    let held : TrustedIn (d.group g) unit = subst (λ (p : Group). TrustedIn p unit) (sym (in_itself g (hold (derive m g) (kinds_of unit)) m)) (new_each (derive m g) unit (m.group g)) in
    subst (λ (p : Group). TrustedIn p unit) (sym (s.loosely.inside ∙ ap (λ (y : State). y.group g) s.row.4))
    (subst (λ (p : Group). TrustedIn p unit) (sym (in_itself g (λ p. record p { counters = exact_counters d g unit }) d)) held)
