-- The faults of a group's inode btrees are those of the state, and what decides a unit.
use Rattle.std.proofs.Common.{◌≡◌, ℕ, zero, suc, ◌+◌, ◌*◌, ◌/◌, ◌^◌, ◌<◌, ◌≤◌, Bool, true, false, List, [], ◌∷◌, ◌++◌, All, length, map, refl, ap, sym, subst, ◌∙◌, arith, append_assoc, Option, Some, None, Result, Ok, Err, IfOk, IfErr, IsErrAnd, MatchResult}
use Rattle.std.specs.Prelude.{nat_lt, sum_by, if◌then◌else◌}
use Rattle.std.specs.List.{filter}
use Rattle.std.proofs.lemmas.Bool.{lt-ltb}
use Rattle.std.proofs.lemmas.List.{append-nil}
use Rattle.std.proofs.lemmas.List.Elements.{All-cons, All-nil}
use Rattle.std.proofs.lemmas.List.Sums.{sum_by-cons}
use Rattle.fs_state.specs.Chunks.{chunks, inode_in}
use Rattle.fs_state.specs.Derive.{chunk_record, derive, fino_of, ino_of, is_free}
use Rattle.fs_state.specs.Faults.{blocks_counted, counter_fault, faults, faults_of_counter, faults_of_kind, index_faults, wanted}
use Rattle.fs_state.specs.Claims.{metadata_claims}
use Rattle.fs_state.specs.Contradiction.{bad_block, bad_chunk, bad_tree, evidence, first_contradiction, first_later, first_overlap, later_in}
use Rattle.fs_state.specs.Lists.{first_of_all, numbers}
use Rattle.fs_model.specs.declared.claim.Evidence.{Evidence}
use Rattle.fs_model.specs.declared.fault.Fault.{Fault}
use Rattle.fs_model.specs.declared.fault.Counter.TheVariants.{Count, Freecount, Iblocks, Fblocks}
use Rattle.fs_model.specs.declared.unit.Unit.TheVariants as units
use Rattle.fs_state.specs.Apart.{is_chunk, is_listed}
use Rattle.fs_state.specs.Kinds.{Image, form_of, heads_of}
use Rattle.fs_state.specs.Read.{group_of}
use Rattle.fs_state.specs.State.{Reading, Readable, State, Unreadable, is_readable, recs_of}
use Rattle.derive_defs.proofs.ConditionLemmas.{end_further, end_within, starts_rise}
use Rattle.derive_defs.specs.Mappings.{StartsRise, EndWithin as MappingsEndWithin}
use Rattle.geom.specs.Apart.{HasFitting}
use Rattle.geom.specs.Layout.{Layout, group_len_of}
use Rattle.ino_recs.specs.Chunks.{fino_form, ino_form}
use Rattle.ino_recs.specs.declared.chunk.InoRec.{InoRec}
use Rattle.index_derive.specs.Inodes.{AreUnits, mask_in, record_of, records_from, records_of}
use Rattle.index_derive.proofs.UnitLemmas.{listed_in}
use Rattle.index_derive.specs.Units.{AreListings, is_listed_by}
use Rattle.index_derive.specs.declared.inodes.UnitCores.{UnitCores}
use Rattle.blk_device.specs.Causes.{HasCause, MovesOnly}
use Rattle.inode_pass.specs.Stops.{is_failed}
use Rattle.inode_pass.specs.declared.stop.PassStop.{PassStop}
use Rattle.inode_pass.specs.declared.stop.PassStop.TheVariants as stops
use Rattle.inode_pass.specs.Units.{AreSeen, opened_state, unit_numbers, units_in}
use Rattle.inode_pass.specs.declared.unit.UnitSeen.{UnitSeen}
use Rattle.quiet_check.specs.Faults.{blocks_kept, counter_faults, faults_in, inode_faults, low}
use Rattle.group_trees.specs.Group.{AreInside, AreTrees}
use Rattle.group_trees.specs.Heads.{heads_seen}
use Rattle.quiet_check.specs.Judged.{AreUnitsOf, Decided, Gathered, IsJudged, cores_in, later_evidence, overlap_of}
use Rattle.quiet_check.specs.Chunks.{bad_where, chunk_numbers}
use Rattle.group_trees.specs.Trees.{FewBlocks, IsSound, RisesIfRead, reading_of}
use Rattle.quiet_check.specs.Units.{AreListed, evidence_in}
use Rattle.quiet_check.specs.Counted.{inodes_most, tree_evidence, unless_decided}
use Rattle.group_trees.specs.Counted.{trees_most}
use Rattle.quiet_check.specs.declared.judge.Judged.TheVariants.{Faults}
use Rattle.group_trees.specs.declared.reads.TreeSeen.{TreeSeen}
use Rattle.group_trees.specs.declared.reads.TreeSeen.TheVariants as trees
use Rattle.quiet_check.specs.declared.units.Listed.{Listed}
use Rattle.quiet_check.proofs.ChunkLemmas.{BelowNumbers, bad_said, below_filter, chunks_said, units_below}
use Rattle.group_trees.proofs.ReadLemmas.{group_short}
use Rattle.group_trees.specs.declared.group.GroupTrees.{GroupTrees}
use Rattle.group_trees.specs.declared.heads.GroupHeads.{GroupHeads}
use Rattle.quiet_check.specs.declared.judge.Judged.{Judged}
use Rattle.rmap_recs.specs.Rmap.{rmap_form}
use Rattle.rmap_recs.specs.declared.records.RmapRec.{RmapRec}
use Rattle.run_sets.specs.Runs.{most, runs_below}
use Rattle.run_sets.specs.declared.run.Run.{Run}
use Rattle.sblock.specs.Blocks.{IsRising}
use Rattle.sblock.specs.Form.{Form}
use Rattle.sblock.specs.declared.block.Bounds.{Bounds}
use Rattle.std.specs.Global.{Vec}
use Rattle.std.specs.Option.{is_some}
use Rattle.sblock.specs.Lists.{IsAhead}
use Rattle.sblock.specs.declared.kind.Kind.TheVariants.{Ino, Fino}
use Rattle.xref_scrub.specs.Shown.{fino_shown, ino_shown}

-- ---- which evidence decides

pub one_of : (o : Option Evidence) → first_of_all (o ∷ []) ≡ o
one_of None = refl
one_of (Some e) = refl

pub decided_as : (o p : Option Evidence) (fs : List Fault) (j : Judged) → o ≡ p → Decided o fs j → Decided p fs j
decided_as o p fs j same h = subst (λ (x : Option Evidence). Decided x fs j) same h

pub found_first : (x y z w v : Option Evidence) (e : Evidence) → first_of_all (x ∷ y ∷ z ∷ []) ≡ Some e → first_of_all (first_of_all (x ∷ y ∷ []) ∷ z ∷ w ∷ v ∷ []) ≡ Some e
found_first (Some a) y z w v e h = h
found_first None (Some a) z w v e h = h
found_first None None (Some a) w v e h = h
found_first None None None w v e h = absurd (no_some e h) where
  no_some : (x : Evidence) → ◌≡◌ {A = Option Evidence} None (Some x) → ⊥
  no_some x k = cc

pub none_first : (x y z w v : Option Evidence) → first_of_all (x ∷ y ∷ z ∷ []) ≡ None → first_of_all (first_of_all (x ∷ y ∷ []) ∷ z ∷ w ∷ v ∷ []) ≡ first_of_all (w ∷ v ∷ [])
none_first (Some a) y z w v h = absurd (some_none a h) where
  some_none : (x : Evidence) → ◌≡◌ {A = Option Evidence} (Some x) None → ⊥
  some_none x k = cc
none_first None (Some a) z w v h = absurd (some_none a h) where
  some_none : (x : Evidence) → ◌≡◌ {A = Option Evidence} (Some x) None → ⊥
  some_none x k = cc
none_first None None (Some a) w v h = absurd (some_none a h) where
  some_none : (x : Evidence) → ◌≡◌ {A = Option Evidence} (Some x) None → ⊥
  some_none x k = cc
none_first None None None w v h = refl

-- ---- records that rise

abbrev StartFrom : ℕ → List InoRec → Type 0
StartFrom a [] = Unit {0}
StartFrom a (r ∷ rs) = (a ≤ r.startino) × StartFrom a rs

start_more : (a b : ℕ) (rs : List InoRec) → a ≤ b → StartFrom b rs → StartFrom a rs
start_more a b [] le h = tt
start_more a b (r ∷ rs) le h = (let k = h.0 in omega (arith, le, k), start_more a b rs le h.1)

abbrev UnitsFrom : ℕ → List UnitCores → Type 0
UnitsFrom u [] = Unit {0}
UnitsFrom u (c ∷ cs) = (u ≤ c.unit) × UnitsFrom (c.unit + 1) cs

starts_from : (u : ℕ) (cs : List UnitCores) → UnitsFrom u cs → StartFrom (64 * u) (records_of cs)
unfolding records_of
starts_from u [] h = tt
starts_from u (c ∷ cs) h = one c.free (let k = h.0 in omega (arith, k)) (starts_from (c.unit + 1) cs h.1) where
  one : (free : Option ℕ) → 64 * u ≤ 64 * c.unit → StartFrom (64 * (c.unit + 1)) (records_of cs) → StartFrom (64 * u) (records_from c.unit free ++ records_of cs)
  one None le rest = start_more (64 * u) (64 * (c.unit + 1)) (records_of cs) (omega (arith, le)) rest
  one (Some free) le rest = (le, start_more (64 * u) (64 * (c.unit + 1)) (records_of cs) (omega (arith, le)) rest)

first_ahead : (r : InoRec) (rs : List InoRec) → StartFrom (r.startino + 1) rs → IsAhead (λ x y. ino_form.is_before (ino_form.key_of x) (ino_form.key_of y)) r rs
first_ahead r [] h = tt
first_ahead r (s ∷ rs) h = lt-ltb r.startino s.startino (let k = h.0 in omega (arith, k))

pub recs_rise : (u : ℕ) (cs : List UnitCores) → UnitsFrom u cs → IsRising ino_form (records_of cs)
unfolding records_of
recs_rise u [] h = tt
recs_rise u (c ∷ cs) h = one c.free (starts_from (c.unit + 1) cs h.1) (recs_rise (c.unit + 1) cs h.1) where
  one : (free : Option ℕ) → StartFrom (64 * (c.unit + 1)) (records_of cs) → IsRising ino_form (records_of cs) → IsRising ino_form (records_from c.unit free ++ records_of cs)
  one None starts rest = rest
  one (Some free) starts rest = (first_ahead (record_of c.unit free) (records_of cs) (start_more (64 * c.unit + 1) (64 * (c.unit + 1)) (records_of cs) (omega arith) starts), rest)

abbrev NumbersFrom : ℕ → List ℕ → Type 0
NumbersFrom u [] = Unit {0}
NumbersFrom u (n ∷ ns) = (u ≤ n) × NumbersFrom (n + 1) ns

later_from : (u v : ℕ) (ns : List ℕ) → u ≤ v → NumbersFrom v ns → NumbersFrom u ns
later_from u v [] le h = tt
later_from u v (n ∷ ns) le h = (let k = h.0 in omega (arith, le, k), h.1)

kept_from : (b : Bool) (u : ℕ) (ns : List ℕ) → NumbersFrom (u + 1) ns → NumbersFrom u (if b then u ∷ ns else ns)
kept_from true u ns h = (omega arith, h)
kept_from false u ns h = later_from u (u + 1) ns (omega arith) h

filter_from : (p : ℕ → Bool) (a n : ℕ) → NumbersFrom a (filter p (numbers a n))
filter_from p a zero = tt
filter_from p a (suc n) = kept_from (p a) a (filter p (numbers (a + 1) n)) (filter_from p (a + 1) n)

units_from : (u : ℕ) (seen : List UnitSeen) → NumbersFrom u (unit_numbers seen) → UnitsFrom u (cores_in seen)
units_from u [] h = tt
units_from u (s ∷ ss) h = (h.0, units_from (s.cores.unit + 1) ss h.1)

pub seen_rise : (p : ℕ → Bool) (n : ℕ) (seen : List UnitSeen) → unit_numbers seen ≡ filter p (numbers 0 n) → IsRising ino_form (records_of (cores_in seen))
seen_rise p n seen is = recs_rise 0 (cores_in seen) (units_from 0 seen (subst (NumbersFrom 0) (sym is) (filter_from p 0 n)))

-- ---- the faults of the state

index_ino : (d : List InoRec) (r : Reading InoRec) → faults_in ino_form ino_shown d r ≡ index_faults Ino d r
unfolding form_of
index_ino d (Readable recs blocks) = refl
index_ino d (Unreadable block fault claims) = refl

index_fino : (d : List InoRec) (r : Reading InoRec) → faults_in fino_form fino_shown d r ≡ index_faults Fino d r
unfolding form_of
index_fino d (Readable recs blocks) = refl
index_fino d (Unreadable block fault claims) = refl

low_is : (n : ℕ) → n < 2 ^ 32 → low n ≡ n
low_is n lt = omega (arith, lt)

kept_same : (kept : Bool) (r : Reading InoRec) → FewBlocks r → blocks_kept kept r ≡ (if kept then blocks_counted r else None)
kept_same true (Readable recs blocks) few = ap {B = Option ℕ} Some (low_is (length blocks) few)
kept_same false (Readable recs blocks) few = refl
kept_same true (Unreadable block fault claims) few = refl
kept_same false (Unreadable block fault claims) few = refl

sum_small : (f : ℕ → InoRec) (h : InoRec → ℕ) (us : List ℕ) → ((u : ℕ) → h (f u) ≤ 64) → sum_by h (map f us) ≤ 64 * length us
sum_small f h [] le = omega arith
sum_small f h (u ∷ us) le = let one = sum_by-cons h (f u) (map f us) in let a = le u in let b = sum_small f h us le in omega (arith, one, a, b)

one_or : (b : Bool) → (if b then 1 else 0) ≤ 1
one_or true = omega arith
one_or false = omega arith

ones_small : (p : ℕ → Bool) (ns : List ℕ) → sum_by (λ i. if p i then 1 else 0) ns ≤ length ns
ones_small p [] = omega arith
ones_small p (n ∷ ns) = let one = sum_by-cons (λ i. if p i then 1 else 0) n ns in let a = one_or (p n) in let b = ones_small p ns in omega (arith, one, a, b)

kept_few : (b : Bool) (u n : ℕ) (us : List ℕ) → length us ≤ n → length (if b then u ∷ us else us) ≤ n + 1
kept_few true u n us le = omega (arith, le)
kept_few false u n us le = omega (arith, le)

few_filtered : (p : ℕ → Bool) (a n : ℕ) → length (filter p (numbers a n)) ≤ n
few_filtered p a zero = omega arith
few_filtered p a (suc n) = let k = kept_few (p a) a n (filter p (numbers (a + 1) n)) (few_filtered p (a + 1) n) in omega (arith, k)

shape : (x y c d e f : List Fault) → (x ++ y) ++ (((c ++ d) ++ e) ++ f) ≡ (x ++ (y ++ [])) ++ (c ++ (d ++ (e ++ (f ++ []))))
shape x y c d e f =
    let left : x ++ y ≡ x ++ (y ++ []) = ap (λ (ys : List Fault). x ++ ys) (sym (append-nil y)) in
    let right : ((c ++ d) ++ e) ++ f ≡ c ++ (d ++ (e ++ (f ++ []))) =
    append_assoc (c ++ d) e f ∙ append_assoc c d (e ++ f) ∙ ap (λ (fs : List Fault). c ++ (d ++ (e ++ fs))) (sym (append-nil f)) in
    λ i. left i ++ right i

module _ (at : Layout) (image : Image) (g : ℕ) where
  units_few : 64 * length (chunks (opened_state at image) g) ≤ 64 * (group_len_of at g / 8)
  unfolding chunks
  units_few = let k = few_filtered (is_chunk (opened_state at image) g) 0 (group_len_of at g / 8) in omega (arith, k)

  counts_small : group_len_of at g ≤ 2 ^ 28 → sum_by (λ r. r.count) (ino_of (opened_state at image) g) < 2 ^ 32
  unfolding ino_of
  counts_small short = let s = sum_small (chunk_record (opened_state at image) g) (λ r. r.count) (chunks (opened_state at image) g) (λ u. omega arith) in let f = units_few in omega (arith, s, f, short)

  frees_small : group_len_of at g ≤ 2 ^ 28 → sum_by (λ r. r.freecount) (ino_of (opened_state at image) g) < 2 ^ 32
  unfolding ino_of
  frees_small short =
      let s = sum_small (chunk_record (opened_state at image) g) (λ r. r.freecount) (chunks (opened_state at image) g)
      (λ u. ones_small (λ i. is_free ((opened_state at image).core (inode_in (opened_state at image) g u i))) (numbers 0 64)) in
      let f = units_few in omega (arith, s, f, short)

  faults_said : (heads : GroupHeads) (trees : GroupTrees) (recs : List InoRec) → group_len_of at g ≤ 2 ^ 28 → heads_seen heads ≡ heads_of at image g → AreTrees at image g trees → recs ≡ ino_of (opened_state at image) g
      → inode_faults at.inobtcount heads.agi recs (reading_of trees.ino) (reading_of trees.fino) ≡ faults (opened_state at image) g units.Inode
  unfolding faults inode_faults counter_faults derive fino_of wanted group_of
  faults_said heads trees recs short named are is =
      let a = opened_state at image in
      let x : faults_in ino_form ino_shown recs (reading_of trees.ino) ≡ faults_of_kind a g Ino = index_ino recs (reading_of trees.ino) ∙ (λ i. index_faults Ino (is i) (sym are.ino i)) in
      let y : faults_in fino_form fino_shown (filter (λ r. nat_lt 0 r.freecount) recs) (reading_of trees.fino) ≡ faults_of_kind a g Fino = index_fino (filter (λ r. nat_lt 0 r.freecount) recs) (reading_of trees.fino) ∙ (λ i. index_faults Fino (filter (λ r. nat_lt 0 r.freecount) (is i)) (sym are.fino i)) in
      let agi : heads.agi ≡ (heads_of at image g).agi = ap (λ h. h.agi) named in
      let counts = ap (λ (rs : List InoRec). low (sum_by (λ r. r.count) rs)) is ∙ low_is (sum_by (λ r. r.count) (ino_of a g)) (counts_small short) in
      let frees = ap (λ (rs : List InoRec). low (sum_by (λ r. r.freecount) rs)) is ∙ low_is (sum_by (λ r. r.freecount) (ino_of a g)) (frees_small short) in
      let c : counter_fault Count heads.agi.count (Some (low (sum_by (λ r. r.count) recs))) ≡ faults_of_counter a g Count = λ i. counter_fault Count (agi i).count (Some (counts i)) in
      let d : counter_fault Freecount heads.agi.freecount (Some (low (sum_by (λ r. r.freecount) recs))) ≡ faults_of_counter a g Freecount = λ i. counter_fault Freecount (agi i).freecount (Some (frees i)) in
      let ino = kept_same at.inobtcount (reading_of trees.ino) are.few_ino ∙ ap (λ r. if at.inobtcount then blocks_counted r else None) (sym are.ino) in
      let fino = kept_same at.inobtcount (reading_of trees.fino) are.few_fino ∙ ap (λ r. if at.inobtcount then blocks_counted r else None) (sym are.fino) in
      let e : counter_fault Iblocks heads.agi.iblocks (blocks_kept at.inobtcount (reading_of trees.ino)) ≡ faults_of_counter a g Iblocks = λ i. counter_fault Iblocks (agi i).iblocks (ino i) in
      let f : counter_fault Fblocks heads.agi.fblocks (blocks_kept at.inobtcount (reading_of trees.fino)) ≡ faults_of_counter a g Fblocks = λ i. counter_fault Fblocks (agi i).fblocks (fino i) in
      (λ i. (x i ++ y i) ++ (((c i ++ d i) ++ e i) ++ f i)) ∙ shape (faults_of_kind a g Ino) (faults_of_kind a g Fino) (faults_of_counter a g Count) (faults_of_counter a g Freecount) (faults_of_counter a g Iblocks) (faults_of_counter a g Fblocks)

  -- the cores of units that are listed
  masks_said : (seen : List UnitSeen) → AreSeen at image g seen → All (λ c. c.free ≡ mask_in (opened_state at image) g c.unit) (cores_in seen)
  masks_said [] h = All-nil (λ (c : UnitCores). c.free ≡ mask_in (opened_state at image) g c.unit)
  masks_said (s ∷ ss) h = All-cons (λ (c : UnitCores). c.free ≡ mask_in (opened_state at image) g c.unit) s.cores (cores_in ss) h.0.mask (masks_said ss h.1)

  units_same : (seen : List UnitSeen) → map (λ (c : UnitCores). c.unit) (cores_in seen) ≡ unit_numbers seen
  units_same [] = refl
  units_same (s ∷ ss) = ap (λ (ns : List ℕ). s.cores.unit ∷ ns) (units_same ss)

  pub cores_said : (seen : List UnitSeen) → AreSeen at image g seen → unit_numbers seen ≡ filter (is_listed (opened_state at image) g) (numbers 0 (group_len_of at g / 8)) → AreUnits (opened_state at image) g (cores_in seen)
  cores_said seen h listed = record { listed = units_same seen ∙ listed; masks = masks_said seen h }

-- ---- each step, for any image

listings : (at : Layout) (image : Image) (g : ℕ) (trees : GroupTrees) → g < at.agcount → AreTrees at image g trees → AreListings (opened_state at image) g (group_len_of at g) (recs_of (reading_of trees.ino)) (recs_of (reading_of trees.rmap))
listings at image g trees gl are = record { group = gl; whole = refl; chunks = ap recs_of are.ino; owners = ap recs_of are.rmap }

pub units_said : (at : Layout) (image : Image) (g : ℕ) (trees : GroupTrees) (seen : List UnitSeen) → g < at.agcount → AreTrees at image g trees → AreUnitsOf at g trees seen → unit_numbers seen ≡ filter (is_listed (opened_state at image) g) (numbers 0 (group_len_of at g / 8))
units_said at image g trees seen gl are listed =
    let inos = recs_of (reading_of trees.ino) in
    let maps = recs_of (reading_of trees.rmap) in
    let found = runs_below (is_listed_by inos maps) (group_len_of at g / 8) in
    listed ∙ units_below (is_listed (opened_state at image) g) (group_len_of at g / 8) found (listed_in (opened_state at image) g (group_len_of at g) inos maps found (listings at image g trees gl are) refl)

pub records_judged : (at : Layout) (g : ℕ) (heads : GroupHeads) (trees : GroupTrees) (seen : List UnitSeen) (recs : List InoRec) (found : Vec Fault) → HasFitting at → g < at.agcount → AreUnitsOf at g trees seen
    → ((a : State) (h : ℕ) → AreUnits a h (cores_in seen) → recs ≡ ino_of a h)
    → found.items ≡ inode_faults at.inobtcount heads.agi recs (reading_of trees.ino) (reading_of trees.fino)
    → (image : Image) → Gathered at image g heads trees seen → Decided None (faults (opened_state at image) g units.Inode) (Faults found)
records_judged at g heads trees seen recs found fit gl listed exact is image so =
    let recs_are = exact (opened_state at image) g (cores_said at image g seen so.cores_are (units_said at image g trees seen gl so.trees_are listed)) in
    (refl, is ∙ faults_said at image g heads trees recs (short at g fit) so.named so.trees_are recs_are) where
      short : (l : Layout) (h : ℕ) → HasFitting l → group_len_of l h ≤ 2 ^ 28
      short l h f = group_short l h f

pub overlap_judged : (at : Layout) (g : ℕ) (heads : GroupHeads) (trees : GroupTrees) (seen : List UnitSeen) (list us : List ℕ) (found : Option Evidence) → g < at.agcount → AreUnitsOf at g trees seen → list ≡ heads.list.items → us ≡ chunk_numbers seen
    → ((image : Image) → AreTrees at image g trees → list ≡ (heads_of at image g).list → us ≡ chunks (opened_state at image) g → found ≡ first_overlap (opened_state at image) g (metadata_claims (opened_state at image) g))
    → (image : Image) → Gathered at image g heads trees seen → found ≡ overlap_of (opened_state at image) g
overlap_judged at g heads trees seen list us found gl listed free chunked exact image so =
    exact image so.trees_are (free ∙ ap (λ h. h.list) so.named) (chunked ∙ chunks_said at image g seen so.cores_are (units_said at image g trees seen gl so.trees_are listed))

pub bad_judged : (at : Layout) (g : ℕ) (heads : GroupHeads) (trees : GroupTrees) (seen : List UnitSeen) (listed : Listed) (by_inodes by_owners : List Run) (found : Option Evidence) → g < at.agcount → AreUnitsOf at g trees seen → AreListed (group_len_of at g) trees listed
    → by_inodes ≡ listed.by_inodes.items → by_owners ≡ listed.by_owners.items → found ≡ first_of_all (map (bad_where by_inodes by_owners) seen)
    → (image : Image) → Gathered at image g heads trees seen → found ≡ bad_chunk (opened_state at image) g
bad_judged at g heads trees seen listed by_inodes by_owners found gl units_are lists inodes owners is image so =
    is ∙ bad_said at image g (recs_of (reading_of trees.ino)) (recs_of (reading_of trees.rmap)) by_inodes by_owners seen gl (ap recs_of so.trees_are.ino) (ap recs_of so.trees_are.rmap) (inodes ∙ lists.by_inodes) (owners ∙ lists.by_owners) so.cores_are (units_said at image g trees seen gl so.trees_are units_are)

-- a bad core decides
pub bad_decides : (at : Layout) (g : ℕ) (heads : GroupHeads) (trees : GroupTrees) (seen : List UnitSeen) (e : Evidence) → ((image : Image) → Gathered at image g heads trees seen → Some e ≡ bad_chunk (opened_state at image) g) → (image : Image) → Gathered at image g heads trees seen → later_evidence (opened_state at image) g ≡ Some e
bad_decides at g heads trees seen e bad image so = ap (λ b. first_of_all (b ∷ overlap_of (opened_state at image) g ∷ [])) (sym (bad image so))

-- none is bad, and what is left decides
pub left_decides : (at : Layout) (g : ℕ) (heads : GroupHeads) (trees : GroupTrees) (seen : List UnitSeen) (j : Judged) → ((image : Image) → Gathered at image g heads trees seen → None ≡ bad_chunk (opened_state at image) g)
    → ((image : Image) → Gathered at image g heads trees seen → Decided (overlap_of (opened_state at image) g) (faults (opened_state at image) g units.Inode) j)
    → (image : Image) → Gathered at image g heads trees seen → Decided (later_evidence (opened_state at image) g) (faults (opened_state at image) g units.Inode) j
left_decides at g heads trees seen j none left image so =
    decided_as (overlap_of (opened_state at image) g) (later_evidence (opened_state at image) g) (faults (opened_state at image) g units.Inode) j
    (sym (ap (λ b. first_of_all (b ∷ overlap_of (opened_state at image) g ∷ [])) (sym (none image so)) ∙ one_of (overlap_of (opened_state at image) g)))
    (left image so)

-- ---- the whole evidence

tree_part : (at : Layout) (image : Image) (g : ℕ) (trees : GroupTrees) → AreTrees at image g trees
    → evidence (opened_state at image) g units.Inode ≡ first_of_all (first_of_all (later_in Ino (reading_of trees.ino) ∷ later_in Fino (reading_of trees.fino) ∷ []) ∷ (if is_readable (reading_of trees.ino) then None else bad_block (reading_of trees.rmap)) ∷ bad_chunk (opened_state at image) g ∷ overlap_of (opened_state at image) g ∷ [])
unfolding evidence first_contradiction first_later bad_tree
tree_part at image g trees are =
    λ i. first_of_all (first_of_all (later_in Ino (are.ino i) ∷ later_in Fino (are.fino i) ∷ []) ∷ (if is_readable (are.ino i) then None else bad_block (are.rmap i)) ∷ bad_chunk (opened_state at image) g ∷ overlap_of (opened_state at image) g ∷ [])

pub trees_decide : (at : Layout) (image : Image) (g : ℕ) (trees : GroupTrees) (e : Evidence) → AreTrees at image g trees
    → Some e ≡ first_of_all (later_in Ino (reading_of trees.ino) ∷ later_in Fino (reading_of trees.fino) ∷ (if is_readable (reading_of trees.ino) then None else bad_block (reading_of trees.rmap)) ∷ [])
    → evidence (opened_state at image) g units.Inode ≡ Some e
trees_decide at image g trees e are is =
    tree_part at image g trees are ∙ found_first (later_in Ino (reading_of trees.ino)) (later_in Fino (reading_of trees.fino)) (if is_readable (reading_of trees.ino) then None else bad_block (reading_of trees.rmap)) (bad_chunk (opened_state at image) g) (overlap_of (opened_state at image) g) e (sym is)

pub cores_decide : (at : Layout) (image : Image) (g : ℕ) (trees : GroupTrees) (j : Judged) → AreTrees at image g trees
    → None ≡ first_of_all (later_in Ino (reading_of trees.ino) ∷ later_in Fino (reading_of trees.fino) ∷ (if is_readable (reading_of trees.ino) then None else bad_block (reading_of trees.rmap)) ∷ [])
    → Decided (later_evidence (opened_state at image) g) (faults (opened_state at image) g units.Inode) j → IsJudged (opened_state at image) g units.Inode j
cores_decide at image g trees j are none left =
    decided_as (later_evidence (opened_state at image) g) (evidence (opened_state at image) g units.Inode) (faults (opened_state at image) g units.Inode) j
    (sym (tree_part at image g trees are ∙ none_first (later_in Ino (reading_of trees.ino)) (later_in Fino (reading_of trees.fino)) (if is_readable (reading_of trees.ino) then None else bad_block (reading_of trees.rmap)) (bad_chunk (opened_state at image) g) (overlap_of (opened_state at image) g) (sym none)))
    left

-- ---- how much is read

grouped : (x y z : Option Evidence) → first_of_all (x ∷ y ∷ z ∷ []) ≡ first_of_all (first_of_all (x ∷ y ∷ []) ∷ z ∷ [])
grouped (Some a) y z = refl
grouped None (Some a) z = refl
grouped None None z = refl

trees_said : (at : Layout) (image : Image) (g : ℕ) (trees : GroupTrees) → AreTrees at image g trees → evidence_in trees ≡ tree_evidence (opened_state at image) g
unfolding first_later bad_tree
trees_said at image g trees are =
    grouped (later_in Ino (reading_of trees.ino)) (later_in Fino (reading_of trees.fino)) (if is_readable (reading_of trees.ino) then None else bad_block (reading_of trees.rmap))
    ∙ (λ i. first_of_all (first_of_all (later_in Ino (sym are.ino i) ∷ later_in Fino (sym are.fino i) ∷ []) ∷ (if is_readable (sym are.ino i) then None else bad_block (sym are.rmap i)) ∷ []))

-- the btrees, and then the cores where these don't decide
pub inodes_few : (at : Layout) (image : Image) (g : ℕ) (trees : GroupTrees) (before now after : ℕ) → AreTrees at image g trees → now ≤ before + trees_most at image g → after ≤ now + unless_decided (evidence_in trees) (group_len_of at g) → after ≤ before + inodes_most at image g
unfolding inodes_most
inodes_few at image g trees before now after are first second =
    let cores = subst (λ (o : Option Evidence). after ≤ now + unless_decided o (group_len_of at g)) (trees_said at image g trees are) second in
    omega (arith, first, cores)

-- no evidence of the btrees
pub cores_read : (before after len : ℕ) (found : Option Evidence) → None ≡ found → after ≤ before + len → after ≤ before + unless_decided found len
cores_read before after len found none read = subst (λ (o : Option Evidence). after ≤ before + unless_decided o len) none read

-- ---- the numbers of units are small

units_low : (p : ℕ → Bool) (n : ℕ) (seen : List UnitSeen) → unit_numbers seen ≡ units_in (runs_below p n) → BelowNumbers n (unit_numbers seen)
units_low p n seen is = subst (BelowNumbers n) (sym (is ∙ units_below p n (runs_below p n) refl)) (below_filter p 0 n n (omega arith))

chunks_low : (n : ℕ) (seen : List UnitSeen) → BelowNumbers n (unit_numbers seen) → BelowNumbers n (chunk_numbers seen)
chunks_low n [] h = tt
chunks_low n (s ∷ ss) h = one (is_some s.cores.free) (chunks_low n ss h.1) where
  one : (b : Bool) → BelowNumbers n (chunk_numbers ss) → BelowNumbers n ((if b then s.cores.unit ∷ [] else []) ++ chunk_numbers ss)
  one true k = (h.0, k)
  one false k = k

numbers_inside : (len : ℕ) (us : List ℕ) → BelowNumbers (len / 8) us → AreInside len us
numbers_inside len [] h = tt
numbers_inside len (u ∷ us) h = (let k = h.0 in omega (arith, k), numbers_inside len us h.1)

numbers_small : (n : ℕ) (us : List ℕ) → n ≤ 2 ^ 26 → BelowNumbers n us → All (λ u. u < 2 ^ 26) us
numbers_small n [] le h = All-nil (λ (u : ℕ). u < 2 ^ 26)
numbers_small n (u ∷ us) le h = All-cons (λ (x : ℕ). x < 2 ^ 26) u us (let k = h.0 in omega (arith, le, k)) (numbers_small n us le h.1)

cores_small : (n : ℕ) (seen : List UnitSeen) → n ≤ 2 ^ 26 → BelowNumbers n (unit_numbers seen) → All (λ c. c.unit < 2 ^ 26) (cores_in seen)
cores_small n [] le h = All-nil (λ (c : UnitCores). c.unit < 2 ^ 26)
cores_small n (s ∷ ss) le h = All-cons (λ (c : UnitCores). c.unit < 2 ^ 26) s.cores (cores_in ss) (let k = h.0 in omega (arith, le, k)) (cores_small n ss le h.1)

pub chunk_inside : (at : Layout) (g : ℕ) (trees : GroupTrees) (seen : List UnitSeen) → AreUnitsOf at g trees seen → AreInside (group_len_of at g) (chunk_numbers seen)
chunk_inside at g trees seen is = numbers_inside (group_len_of at g) (chunk_numbers seen) (chunks_low (group_len_of at g / 8) seen (units_low (is_listed_by (recs_of (reading_of trees.ino)) (recs_of (reading_of trees.rmap))) (group_len_of at g / 8) seen is))

pub chunk_small : (at : Layout) (g : ℕ) (trees : GroupTrees) (seen : List UnitSeen) → HasFitting at → AreUnitsOf at g trees seen → All (λ u. u < 2 ^ 26) (chunk_numbers seen)
chunk_small at g trees seen fit is = numbers_small (group_len_of at g / 8) (chunk_numbers seen) (let k = group_short at g fit in omega (arith, k)) (chunks_low (group_len_of at g / 8) seen (units_low (is_listed_by (recs_of (reading_of trees.ino)) (recs_of (reading_of trees.rmap))) (group_len_of at g / 8) seen is))

pub core_small : (at : Layout) (g : ℕ) (trees : GroupTrees) (seen : List UnitSeen) → HasFitting at → AreUnitsOf at g trees seen → All (λ c. c.unit < 2 ^ 26) (cores_in seen)
core_small at g trees seen fit is = cores_small (group_len_of at g / 8) seen (let k = group_short at g fit in omega (arith, k)) (units_low (is_listed_by (recs_of (reading_of trees.ino)) (recs_of (reading_of trees.rmap))) (group_len_of at g / 8) seen is)

pub recs_rising : (at : Layout) (g : ℕ) (trees : GroupTrees) (seen : List UnitSeen) → AreUnitsOf at g trees seen → IsRising ino_form (records_of (cores_in seen))
recs_rising at g trees seen is =
    let p = is_listed_by (recs_of (reading_of trees.ino)) (recs_of (reading_of trees.rmap)) in
    seen_rise p (group_len_of at g / 8) seen (is ∙ units_below p (group_len_of at g / 8) (runs_below p (group_len_of at g / 8)) refl)

pub rises_if_read : {R K : Type 0} (form : Form R K) (bounds : Bounds) (seen : TreeSeen R) → IsSound form bounds seen → RisesIfRead form seen
rises_if_read form bounds (trees.Whole read) sound = sound.rising
rises_if_read form bounds (trees.Bad block fault claims) sound = tt

-- the reverse mappings that were read rise by their starts, and end with the group
pub maps_rise : (bounds : Bounds) (seen : TreeSeen RmapRec) → IsSound rmap_form bounds seen → StartsRise (recs_of (reading_of seen))
maps_rise bounds (trees.Whole read) sound = starts_rise read.recs.items sound.rising
maps_rise bounds (trees.Bad block fault claims) sound = tt

pub maps_end : (bounds : Bounds) (seen : TreeSeen RmapRec) → bounds.length ≤ most → IsSound rmap_form bounds seen → MappingsEndWithin most (recs_of (reading_of seen))
maps_end bounds (trees.Whole read) short sound = end_further bounds.length most read.recs.items short (end_within bounds read.recs.items sound.inside)
maps_end bounds (trees.Bad block fault claims) short sound = tt

-- an overlap decides
pub overlap_decides : (at : Layout) (g : ℕ) (heads : GroupHeads) (trees : GroupTrees) (seen : List UnitSeen) (found : Option Evidence) (e : Evidence) → found ≡ Some e → ((image : Image) → Gathered at image g heads trees seen → found ≡ overlap_of (opened_state at image) g)
    → (image : Image) → Gathered at image g heads trees seen → overlap_of (opened_state at image) g ≡ Some e
overlap_decides at g heads trees seen found e is exact image so = sym (exact image so) ∙ is

-- there is none, and the faults decide
pub faults_decide : (at : Layout) (g : ℕ) (heads : GroupHeads) (trees : GroupTrees) (seen : List UnitSeen) (found : Option Evidence) (j : Judged) → found ≡ None → ((image : Image) → Gathered at image g heads trees seen → found ≡ overlap_of (opened_state at image) g)
    → ((image : Image) → Gathered at image g heads trees seen → Decided None (faults (opened_state at image) g units.Inode) j)
    → (image : Image) → Gathered at image g heads trees seen → Decided (overlap_of (opened_state at image) g) (faults (opened_state at image) g units.Inode) j
faults_decide at g heads trees seen found j is exact left image so =
    decided_as None (overlap_of (opened_state at image) g) (faults (opened_state at image) g units.Inode) j (sym is ∙ exact image so) (left image so)

-- an answer that isn't the device's, after calls that moved no count
pub own_cause : {T : Type 0} (before now : ℕ) (result : Result T PassStop) → now ≡ before → IfErr result (λ stop. stop ≡ stops.Memory) → HasCause is_failed before now result
own_cause before now (Ok answer) same own = same
own_cause before now (Err stop) same own = subst (λ (s : PassStop). MovesOnly (is_failed s) before now) (sym own) same

-- what `map_err` answers is an answer of the call, and has what follows from what the call ensures
pub kept_answers : {T E D : Type 0} (S S' : T → Type 0) (P : E → D → Type 0) (r : Result T E) (result : Result T D) → MatchResult r (λ x. result ≡ Ok x) (λ e. IsErrAnd result (P e)) → ((x : T) → S x → S' x) → IfOk r S → IfOk result S'
kept_answers S S' P (Ok x) result is follows s = subst (λ (y : Result _ _). IfOk y S') (sym is) (follows x s)
kept_answers S S' P (Err e) (Ok x) is follows s = absurd is
kept_answers S S' P (Err e) (Err d) is follows s = tt
