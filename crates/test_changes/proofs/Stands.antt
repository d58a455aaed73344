-- A row's own state is one that its entry allows; counters are words, by a test.
use Rattle.std.proofs.Common.{◌≡◌, ℕ, ◌&&◌, ◌||◌, ◌^◌, Bool, true, false, nat_lt, nat_le, slice_get, length, List, [], ◌∷◌, refl, sym, is_ok, inl, Some, None}
use Rattle.std.proofs.lemmas.Bool.{and_parts, ltb-true, leb-true, true≢false}
use Rattle.std.specs.List.{list_all, list_any}
use Rattle.dinode_core.specs.declared.mapping.Fork.TheVariants as forks
use Rattle.fs_model.specs.declared.entry.Entry.{Entry}
use Rattle.fs_model.specs.declared.entry.Entry.TheVariants as entries
use Rattle.fs_model.specs.declared.entry.Piece.{Piece}
use Rattle.fs_model.specs.declared.fault.Counter.{Counter}
use Rattle.fs_model.specs.declared.fault.Counter.TheVariants.{Count, Freecount, Iblocks, Fblocks, RmapBlocks, Freeblks, Longest, Btreeblks, RefcountBlocks}
use Rattle.fs_model.specs.declared.fault.Fault.{Fault}
use Rattle.fs_model.specs.declared.unit.Trust.TheVariants.{Good}
use Rattle.fs_model.specs.declared.unit.Unit.{Unit as ScrubUnit}
use Rattle.fs_model.specs.declared.verdict.Verdict.{Verdict}
use Rattle.geom.specs.Layout.{fs_block_of}
use Rattle.sblock.specs.declared.kind.Kind.TheVariants.{Rmap}
use Rattle.sblock.specs.declared.kind.Kind.{Kind}
use Rattle.fs_state.specs.Apart.{is_inode}
use Rattle.fs_state.specs.Group.{is_among}
use Rattle.fs_state.specs.State.{State, Group, blocks_in}
use Rattle.fs_state.specs.declared.intent.Intent.{Intent}
use Rattle.fs_state.specs.declared.intent.IntentKind.TheVariants.{Free}
use Rattle.fs_state.specs.Contradiction.{evidence}
use Rattle.fs_state.specs.Derive.{is_free}
use Rattle.fs_state.specs.Faults.{kind_of_fault}
use Rattle.fs_state.specs.Records.{unit_of, kinds_of}
use Rattle.fs_state.specs.Lists.{numbers}
use Rattle.fs_change.proofs.Stays.{decided_stands, stays}
use Rattle.fs_change.specs.Chains.{gives, takes, pending, is_quiet}
use Rattle.fs_change.specs.Changes.{rmap_done, ref_done, freed, reserved, owner_of_run, reaped, marked, judged, data_of}
use Rattle.fs_change.specs.Choice.{extent, none_sick, piece_kinds}
use Rattle.fs_change.specs.Laws.{AreWords}
use Rattle.fs_change.specs.Records.{is_piece}
use Rattle.fs_change.specs.Step.{Step, Row, IsNext, IsFirst, first_stretch, MayChange, AreRoots, is_ref, is_kept, is_mapping_of, group_of_entry, edited_in, may_leave}
use Rattle.fs_change.specs.Edited.{leaves_faults}
use Rattle.fs_change.specs.Switch.{kind_need, need, AreLaid, is_reserve_of, switched, has_owned, owned_by}

and_both : (x y : Bool) → x ≡ true → y ≡ true → (x && y) ≡ true
and_both true y h i = i
and_both false y h i = absurd (true≢false (sym h))

abbrev pub all_counters : List Counter
all_counters = Count ∷ Freecount ∷ Iblocks ∷ Fblocks ∷ RmapBlocks ∷ Freeblks ∷ Longest ∷ Btreeblks ∷ RefcountBlocks ∷ []

abbrev pub is_word : Group → Counter → Bool
is_word p name = nat_lt (p.counters name) (2 ^ 32)

abbrev pub are_words : Group → Bool
are_words p = list_all (is_word p) all_counters

-- the first test, and those behind it
behind : (p : Group) (name : Counter) (names : List Counter) → list_all (is_word p) (name ∷ names) ≡ true → (is_word p name ≡ true) × (list_all (is_word p) names ≡ true)
behind p name names h = and_parts (is_word p name) (list_all (is_word p) names) h

pub words : (p : Group) → are_words p ≡ true → AreWords p
words p h =
    let w0 = behind p Count (Freecount ∷ Iblocks ∷ Fblocks ∷ RmapBlocks ∷ Freeblks ∷ Longest ∷ Btreeblks ∷ RefcountBlocks ∷ []) h in
    let w1 = behind p Freecount (Iblocks ∷ Fblocks ∷ RmapBlocks ∷ Freeblks ∷ Longest ∷ Btreeblks ∷ RefcountBlocks ∷ []) w0.1 in
    let w2 = behind p Iblocks (Fblocks ∷ RmapBlocks ∷ Freeblks ∷ Longest ∷ Btreeblks ∷ RefcountBlocks ∷ []) w1.1 in
    let w3 = behind p Fblocks (RmapBlocks ∷ Freeblks ∷ Longest ∷ Btreeblks ∷ RefcountBlocks ∷ []) w2.1 in
    let w4 = behind p RmapBlocks (Freeblks ∷ Longest ∷ Btreeblks ∷ RefcountBlocks ∷ []) w3.1 in
    let w5 = behind p Freeblks (Longest ∷ Btreeblks ∷ RefcountBlocks ∷ []) w4.1 in
    let w6 = behind p Longest (Btreeblks ∷ RefcountBlocks ∷ []) w5.1 in
    let w7 = behind p Btreeblks (RefcountBlocks ∷ []) w6.1 in
    let w8 = behind p RefcountBlocks [] w7.1 in
    each p w0.0 w1.0 w2.0 w3.0 w4.0 w5.0 w6.0 w7.0 w8.0
  where
    each : (p : Group) → is_word p Count ≡ true → is_word p Freecount ≡ true → is_word p Iblocks ≡ true → is_word p Fblocks ≡ true → is_word p RmapBlocks ≡ true → is_word p Freeblks ≡ true → is_word p Longest ≡ true → is_word p Btreeblks ≡ true → is_word p RefcountBlocks ≡ true → AreWords p
    each p a b c d e f g h i Count = ltb-true (p.counters Count) (2 ^ 32) a
    each p a b c d e f g h i Freecount = ltb-true (p.counters Freecount) (2 ^ 32) b
    each p a b c d e f g h i Iblocks = ltb-true (p.counters Iblocks) (2 ^ 32) c
    each p a b c d e f g h i Fblocks = ltb-true (p.counters Fblocks) (2 ^ 32) d
    each p a b c d e f g h i RmapBlocks = ltb-true (p.counters RmapBlocks) (2 ^ 32) e
    each p a b c d e f g h i Freeblks = ltb-true (p.counters Freeblks) (2 ^ 32) f
    each p a b c d e f g h i Longest = ltb-true (p.counters Longest) (2 ^ 32) g
    each p a b c d e f g h i Btreeblks = ltb-true (p.counters Btreeblks) (2 ^ 32) h
    each p a b c d e f g h i RefcountBlocks = ltb-true (p.counters RefcountBlocks) (2 ^ 32) i

-- the entry leaves no tree, and the state is what it decides
-- whose edits meet no fault
abbrev pub is_sound : State → Entry → State → Bool
is_sound a e x = leaves_faults a [] e && are_words (x.group (group_of_entry a e))

pub stands : (a x : State) (e : Entry) → Row a [] e x → is_sound a e x ≡ true → Step a [] e x
stands a x e row w =
    let v = and_parts (leaves_faults a [] e) (are_words (x.group (group_of_entry a e))) w in
    decided_stands a x [] e row refl v.0 (words (x.group (group_of_entry a e)) v.1)

-- ---- steps of chain 0 over n blocks of group 0

pub is_next : (a : State) (b n : ℕ) (i : Intent) (rest : List Intent) → a.chains 0 ≡ i ∷ rest → i.group ≡ 0 → i.block ≡ b → nat_lt 0 n ≡ true → nat_le n i.count ≡ true → IsNext a 0 0 b n i rest
is_next a b n i rest next group block some count = record { next = next; group = group; block = block; some = ltb-true 0 n some; count = leb-true n i.count count }

-- of the inode's
pub owner_step : (a : State) (ino b n : ℕ) (i : Intent) (rest : List Intent) → a.chains 0 ≡ i ∷ rest → i.group ≡ 0 → i.block ≡ b → nat_lt 0 n ≡ true → nat_le n i.count ≡ true
    → ((gives i.kind || takes i.kind) ≡ true) → i.ino ≡ ino → i.count ≡ n → is_sound a (entries.RmapDone 0 ino 0 b n) (rmap_done [] 0 i rest a) ≡ true → Step a [] (entries.RmapDone 0 ino 0 b n) (rmap_done [] 0 i rest a)
owner_step a ino b n i rest next group block some count sort same whole w =
    stands a (rmap_done [] 0 i rest a) (entries.RmapDone 0 ino 0 b n) (i, rest, is_next a b n i rest next group block some count, sort, same, whole, refl) w

pub mapping_step : (a : State) (b n : ℕ) (i : Intent) (rest : List Intent) → a.chains 0 ≡ i ∷ rest → i.group ≡ 0 → i.block ≡ b → nat_lt 0 n ≡ true → nat_le n i.count ≡ true
    → ((gives i.kind || takes i.kind) ≡ true) → i.ino ≡ 195 → i.count ≡ n → is_sound a (entries.RmapDone 0 195 0 b n) (rmap_done [] 0 i rest a) ≡ true → Step a [] (entries.RmapDone 0 195 0 b n) (rmap_done [] 0 i rest a)
mapping_step a b n i rest next group block some count sort ino whole w =
    stands a (rmap_done [] 0 i rest a) (entries.RmapDone 0 195 0 b n) (i, rest, is_next a b n i rest next group block some count, sort, ino, whole, refl) w

pub count_step : (a : State) (b n : ℕ) (more : Bool) (i : Intent) (rest : List Intent) → a.chains 0 ≡ i ∷ rest → i.group ≡ 0 → i.block ≡ b → nat_lt 0 n ≡ true → nat_le n i.count ≡ true
    → is_ref more i.kind ≡ true → n ≡ first_stretch (a.group 0) b i.count → is_sound a (entries.RefDone 0 0 b n more) (ref_done [] 0 more (extent 0 b n) i rest a) ≡ true
    → Step a [] (entries.RefDone 0 0 b n more) (ref_done [] 0 more (extent 0 b n) i rest a)
count_step a b n more i rest next group block some count sort one w =
    stands a (ref_done [] 0 more (extent 0 b n) i rest a) (entries.RefDone 0 0 b n more) (i, rest, is_next a b n i rest next group block some count, sort, one, refl) w

pub free_step : (a : State) (b n : ℕ) (kept : Bool) (i : Intent) (rest : List Intent) → a.chains 0 ≡ i ∷ rest → i.group ≡ 0 → i.block ≡ b → nat_lt 0 n ≡ true → nat_le n i.count ≡ true
    → i.kind ≡ Free → i.count ≡ n → kept ≡ is_kept a (extent 0 b n) → is_sound a (entries.Freed 0 0 b n kept) (freed [] 0 kept (extent 0 b n) rest a) ≡ true
    → Step a [] (entries.Freed 0 0 b n kept) (freed [] 0 kept (extent 0 b n) rest a)
free_step a b n kept i rest next group block some count sort whole owner w =
    stands a (freed [] 0 kept (extent 0 b n) rest a) (entries.Freed 0 0 b n kept) (i, rest, is_next a b n i rest next group block some count, sort, whole, owner, refl) w

-- ---- first events of chain 0

pub first_on : (a : State) (c ino : ℕ) → nat_lt c 16 ≡ true → is_inode a ino ≡ true → is_free (a.core ino) ≡ false → is_ok (a.fork ino forks.Data) ≡ true → a.chains c ≡ [] → list_any (is_mapping_of ino) (pending a) ≡ false → IsFirst a c ino
first_on a c ino few there used readable nothing none =
    record { file = record { inode = there; allocated = used; readable = readable }; open_chain = ltb-true c 16 few; owes_nothing = nothing; none_pending = none }

pub first : (a : State) (ino : ℕ) → is_inode a ino ≡ true → is_free (a.core ino) ≡ false → is_ok (a.fork ino forks.Data) ≡ true → a.chains 0 ≡ [] → list_any (is_mapping_of ino) (pending a) ≡ false → IsFirst a 0 ino
first a ino there used readable nothing none = first_on a 0 ino refl there used readable nothing none

pub changes : (a : State) (m : Piece) → m.chain ≡ 0 → (nat_lt 0 m.count && nat_le m.count 1024) ≡ true → IsFirst a m.chain m.ino → (is_piece m.offset (fs_block_of a.geometry m.group m.block) m.count (data_of a m.ino) && none_sick piece_kinds (a.group m.group)) ≡ true → MayChange a m
changes a m chain some is_first there =
    let v = and_parts (is_piece m.offset (fs_block_of a.geometry m.group m.block) m.count (data_of a m.ino)) (none_sick piece_kinds (a.group m.group)) there in
    let u = and_parts (nat_lt 0 m.count) (nat_le m.count 1024) some in
    record { some = ltb-true 0 m.count u.0; most = leb-true m.count 1024 u.1; first = is_first; sound = v.1; piece = v.0 }

-- ---- rebuilding

pub reserve_step : (a : State) (unit : ScrubUnit) (b : ℕ) → slice_get (a.group 0).free_list 0 ≡ Some b → nat_lt 8 (length (a.group 0).free_list) ≡ true
    → (is_reserve_of unit (a.group 0) && is_sound a (entries.Reserved 0 unit b false) (reserved [] 0 unit b false a)) ≡ true → Step a [] (entries.Reserved 0 unit b false) (reserved [] 0 unit b false a)
reserve_step a unit b is_first many w =
    let v = and_parts (is_reserve_of unit (a.group 0)) (is_sound a (entries.Reserved 0 unit b false) (reserved [] 0 unit b false a)) w in
    stands a (reserved [] 0 unit b false a) (entries.Reserved 0 unit b false) ((v.0, is_first, inl (ltb-true 8 (length (a.group 0).free_list) many)), refl) v.1

pub switch_step : (a : State) (unit : ScrubUnit) (blocks : Kind → List ℕ) (root second : ℕ) → is_quiet a 0 ≡ true → evidence a 0 unit ≡ None → nat_le (need a 0 unit) (length (a.group 0).reserve) ≡ true
    → AreLaid (kind_need a 0 unit) (kinds_of unit) (blocks_in (a.group 0).reserve) blocks → AreRoots (kinds_of unit) blocks root second
    → (is_reserve_of unit (a.group 0) && are_words ((switched a 0 unit blocks).group 0)) ≡ true → Step a [] (entries.Switched 0 unit root second) (switched a 0 unit blocks)
unfolding leaves_faults
switch_step a unit blocks root second quiet sound enough laid roots w =
    let v = and_parts (is_reserve_of unit (a.group 0)) (are_words ((switched a 0 unit blocks).group 0)) w in
    stands a (switched a 0 unit blocks) (entries.Switched 0 unit root second)
    (blocks, record { own = v.0; quiet = quiet; sound = sound; enough = leb-true (need a 0 unit) (length (a.group 0).reserve) enough }, laid, roots, refl) (and_both (leaves_faults a [] (entries.Switched 0 unit root second)) (are_words ((switched a 0 unit blocks).group 0)) refl v.1)

pub reap_step : (a : State) (b n : ℕ) → nat_lt 0 n ≡ true → ((a.group 0).tree Rmap).trust ≡ Good → list_all (λ c. has_owned (a.group 0).limbo (owned_by (owner_of_run (a.group 0) (extent 0 b n)) c)) (numbers b n) ≡ true
    → is_sound a (entries.Reaped (extent 0 b n)) (reaped [] (owner_of_run (a.group 0) (extent 0 b n)) (extent 0 b n) a) ≡ true → Step a [] (entries.Reaped (extent 0 b n)) (reaped [] (owner_of_run (a.group 0) (extent 0 b n)) (extent 0 b n) a)
reap_step a b n some good there w =
    stands a (reaped [] (owner_of_run (a.group 0) (extent 0 b n)) (extent 0 b n) a) (entries.Reaped (extent 0 b n)) (record { some = ltb-true 0 n some; good = good; in_limbo = there }, refl) w

pub fault_step : (a : State) (unit : ScrubUnit) (fault : Fault) → unit ≡ unit_of (kind_of_fault fault) → (nat_lt 0 a.geometry.agcount && is_sound a (entries.Fault 0 unit fault) (marked 0 (kind_of_fault fault) a)) ≡ true → Step a [] (entries.Fault 0 unit fault) (marked 0 (kind_of_fault fault) a)
fault_step a unit fault is w =
    let v = and_parts (nat_lt 0 a.geometry.agcount) (is_sound a (entries.Fault 0 unit fault) (marked 0 (kind_of_fault fault) a)) w in
    stands a (marked 0 (kind_of_fault fault) a) (entries.Fault 0 unit fault) (v.0, is, refl) v.1

pub verdict_step : (a : State) (unit : ScrubUnit) (verdict : Verdict) → (nat_lt 0 a.geometry.agcount && is_sound a (entries.Verdict 0 unit verdict) (judged 0 unit verdict a)) ≡ true → Step a [] (entries.Verdict 0 unit verdict) (judged 0 unit verdict a)
verdict_step a unit verdict w =
    let v = and_parts (nat_lt 0 a.geometry.agcount) (is_sound a (entries.Verdict 0 unit verdict) (judged 0 unit verdict a)) w in
    stands a (judged 0 unit verdict a) (entries.Verdict 0 unit verdict) (v.0, refl) v.1

-- a step that leaves reverse mappings
abbrev pub is_left : State → ℕ → ℕ → State → Bool
is_left a b n x = list_all (λ k. is_among k (may_leave a (entries.RmapDone 0 195 0 b n))) (Rmap ∷ []) && (leaves_faults a (Rmap ∷ []) (entries.RmapDone 0 195 0 b n) && are_words (x.group 0))

unfoldable pub leaves_one : (a : State) (b n : ℕ) (i : Intent) (rest : List Intent) → a.chains 0 ≡ i ∷ rest → i.group ≡ 0 → i.block ≡ b → nat_lt 0 n ≡ true → nat_le n i.count ≡ true
    → ((gives i.kind || takes i.kind) ≡ true) → i.ino ≡ 195 → i.count ≡ n → is_left a b n (rmap_done (Rmap ∷ []) 0 i rest a) ≡ true
    → Step a (Rmap ∷ []) (entries.RmapDone 0 195 0 b n) (rmap_done (Rmap ∷ []) 0 i rest a)
leaves_one a b n i rest next group block some count sort ino whole w =
    let x : State = rmap_done (Rmap ∷ []) 0 i rest a in
    let u = and_parts (list_all (λ k. is_among k (may_leave a (entries.RmapDone 0 195 0 b n))) (Rmap ∷ [])) (leaves_faults a (Rmap ∷ []) (entries.RmapDone 0 195 0 b n) && are_words (x.group 0)) w in
    let v = and_parts (leaves_faults a (Rmap ∷ []) (entries.RmapDone 0 195 0 b n)) (are_words (x.group 0)) u.1 in
    record {
      decided = x;
      row = (i, rest, is_next a b n i rest next group block some count, sort, ino, whole, refl);
      leaves = u.0;
      met = v.0;
      uncut = λ asked same. refl;
      loosely = stays 0 (Rmap ∷ []) (edited_in a (Rmap ∷ []) (entries.RmapDone 0 195 0 b n)) a x (words (x.group 0) v.1);
    }
