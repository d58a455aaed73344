-- The counters of a switch are those of the heads that the rule makes.
use Rattle.std.proofs.Common.{◌≡◌, ℕ, ◌+◌, ◌-◌, ◌<◌, ◌≤◌, Bool, true, false, List, [], ◌∷◌, Option, Some, None, refl, sym, ap, ◌∙◌, arith}
use Rattle.std.specs.Prelude.{max, sum_by, unwrap_or, IfSome, if◌then◌else◌}
use Rattle.std.proofs.lemmas.Bool.Decides.{nat_tests}
use Rattle.std.proofs.lemmas.List.Sums.{sum_by-cons}
use Rattle.derive_defs.specs.ByCount.{greatest, ordered_by_count, put_in}
use Rattle.derive_defs.specs.Free.{block_count}
use Rattle.span_recs.specs.Spans.{is_before_by_count}
use Rattle.span_recs.specs.declared.span.SpanRec.{SpanRec}
use Rattle.ag_headers.specs.declared.agi.Agi.{Agi}
use Rattle.fs_model.specs.declared.fault.Counter.{Counter}
use Rattle.fs_model.specs.declared.fault.Counter.TheVariants.{Count, Freecount, Iblocks, Fblocks, RmapBlocks, Freeblks, Longest, Btreeblks, RefcountBlocks}
use Rattle.fs_model.specs.declared.unit.Unit.{Unit as ScrubUnit}
use Rattle.fs_model.specs.declared.unit.Unit.TheVariants as units
use Rattle.root_switch.specs.Rooted.{rooted_heads, with_counted}
use Rattle.root_switch.specs.declared.heads.Heads.{Heads}
use Rattle.root_switch.specs.declared.heads.NewTree.{NewTree}
use Rattle.root_switch.specs.declared.heads.Switch.{Switch}
use Rattle.root_switch.specs.declared.heads.Switch.TheVariants.{Inode, Rmap, Free, Refc}
use Rattle.sblock.specs.declared.kind.Kind.{Kind}
use Rattle.sblock.specs.declared.kind.Kind.TheVariants as kinds
use Rattle.fs_state.specs.Kinds.{RecOf}
use Rattle.fs_state.specs.State.{State, Group}
use Rattle.fs_state.specs.Derive.{bno_of, cnt_of, derive}
use Rattle.fs_state.specs.Faults.{wanted}
use Rattle.fs_state.specs.Faults as faults
use Rattle.fs_state.specs.Records.{kinds_of}
use Rattle.fs_change.proofs.Owed.{same_at}
use Rattle.fs_change.specs.Changes.{last_count}
use Rattle.fs_change.specs.Parts.{in_trees}
use Rattle.fs_change.specs.Switch.{exact_counters, hold, move_blocks, moved, sets_counter, switched}
use Rattle.rule_laws.specs.Switches.{AreBeside, HaveRoots, IsGiven, LastIsGreatest, SumsAlike, SwitchesAlike, beside, blocks_in, counter_of, uncounted, unit_of}
use Rattle.rule_laws.proofs.LimboLemmas.{longest_alike}

-- ---- totals of records

count_of : SpanRec → ℕ
count_of r = r.count

sum_put : (r : SpanRec) (rs : List SpanRec) → sum_by (λ s. s.count) (put_in r rs) ≡ r.count + sum_by (λ s. s.count) rs
sum_put r [] = sum_by-cons (λ (s : SpanRec). s.count) r []
sum_put r (s ∷ rs) = by_test (is_before_by_count s r) (sum_put r rs)
  where
    by_test : (t : Bool) → sum_by (λ x. x.count) (put_in r rs) ≡ r.count + sum_by (λ x. x.count) rs → sum_by (λ x. x.count) (if t then s ∷ put_in r rs else r ∷ s ∷ rs) ≡ r.count + sum_by (λ x. x.count) (s ∷ rs)
    by_test true later =
        let a : sum_by (λ x. x.count) (s ∷ put_in r rs) ≡ s.count + sum_by (λ x. x.count) (put_in r rs) = sum_by-cons (λ (x : SpanRec). x.count) s (put_in r rs) in
        let b : sum_by (λ x. x.count) (s ∷ rs) ≡ s.count + sum_by (λ x. x.count) rs = sum_by-cons (λ (x : SpanRec). x.count) s rs in
        omega (arith, a, b, later)
    by_test false later = sum_by-cons (λ (x : SpanRec). x.count) r (s ∷ rs)

pub sums_alike : SumsAlike
unfolding ordered_by_count
sums_alike [] = refl
sums_alike (r ∷ free) =
    let a = sum_put r (ordered_by_count free) in
    let b : block_count (r ∷ free) ≡ r.count + block_count free = sum_by-cons (λ (x : SpanRec). x.count) r free in
    let c = sums_alike free in
    omega (arith, a, b, c)

-- ---- the last record by count is the longest

-- no record of the list is longer than its last
abbrev EndsLongest : List SpanRec → Type 0
EndsLongest rs = last_count rs ≡ greatest rs

greatest_put : (r : SpanRec) (rs : List SpanRec) → greatest (put_in r rs) ≡ max r.count (greatest rs)
greatest_put r [] = refl
greatest_put r (s ∷ rs) = by_test (is_before_by_count s r) (greatest_put r rs)
  where
    by_test : (t : Bool) → greatest (put_in r rs) ≡ max r.count (greatest rs) → greatest (if t then s ∷ put_in r rs else r ∷ s ∷ rs) ≡ max r.count (max s.count (greatest rs))
    by_test true later = omega (arith, later)
    by_test false later = refl

last_low : (rs : List SpanRec) → last_count rs ≤ greatest rs
last_low [] = omega arith
last_low (r ∷ []) = omega arith
last_low (r ∷ s ∷ rs) = let h = last_low (s ∷ rs) in omega (arith, h)

-- the last behind one that was put in, where that isn't put in first
last_behind : (r s : SpanRec) (rs : List SpanRec) → last_count (s ∷ put_in r rs) ≡ last_count (put_in r rs)
last_behind r s [] = refl
last_behind r s (x ∷ rs) = by_test (is_before_by_count x r)
  where
    by_test : (t : Bool) → last_count (s ∷ (if t then x ∷ put_in r rs else r ∷ x ∷ rs)) ≡ last_count (if t then x ∷ put_in r rs else r ∷ x ∷ rs)
    by_test true = refl
    by_test false = refl

before_count : (s r : SpanRec) → is_before_by_count s r ≡ true → s.count ≤ r.count
unfolding is_before_by_count
before_count s r h = grind (arith, nat_tests)

behind_count : (s r : SpanRec) → is_before_by_count s r ≡ false → r.count ≤ s.count
unfolding is_before_by_count
behind_count s r h = grind (arith, nat_tests)

ends_behind : (s : SpanRec) (rs : List SpanRec) → EndsLongest (s ∷ rs) → EndsLongest rs
ends_behind s [] h = refl
ends_behind s (x ∷ rs) h = let low = last_low (x ∷ rs) in omega (arith, h, low)

last_put : (r : SpanRec) (rs : List SpanRec) → EndsLongest rs → EndsLongest (put_in r rs)
last_put r [] h = omega arith
last_put r (s ∷ rs) h = by_test (is_before_by_count s r) refl (last_put r rs (ends_behind s rs h))
  where
    by_test : (t : Bool) → is_before_by_count s r ≡ t → EndsLongest (put_in r rs) → EndsLongest (if t then s ∷ put_in r rs else r ∷ s ∷ rs)
    by_test true e later = let a = last_behind r s rs in let b = before_count s r e in let c = greatest_put r rs in omega (arith, a, b, c, later)
    by_test false e later = let b = behind_count s r e in omega (arith, b, h)

ends_longest : (free : List SpanRec) → EndsLongest (ordered_by_count free)
unfolding ordered_by_count
ends_longest [] = refl
ends_longest (r ∷ free) = last_put r (ordered_by_count free) (ends_longest free)

pub last_is_greatest : LastIsGreatest
last_is_greatest free = longest_alike (ordered_by_count free) ∙ ends_longest free

-- ---- the counters of a group

held_counters : (recs : (k : Kind) → List (RecOf k)) (ks : List Kind) (p : Group) → (hold recs ks p).counters ≡ p.counters
held_counters recs [] p = refl
held_counters recs (k ∷ ks) p = held_counters recs ks p

placed_counters : (blocks : Kind → List ℕ) (ks : List Kind) (p : Group) → (in_trees blocks ks p).counters ≡ p.counters
placed_counters blocks [] p = refl
placed_counters blocks (k ∷ ks) p = placed_counters blocks ks p

beside_same : (o p q : Option ℕ) → IfSome o (λ n. 0 < n) → IfSome p (λ n. 0 < n) → IfSome q (λ n. 0 < n) → beside o p q ≡ faults.beside_roots o p q
beside_same None p q h i j = refl
beside_same (Some x) None q h i j = refl
beside_same (Some x) (Some y) None h i j = refl
beside_same (Some x) (Some y) (Some z) h i j = ap Some (sums x y z h i j)
  where
    sums : (x y z : ℕ) → 0 < x → 0 < y → 0 < z → (x - 1) + (y - 1) + (z - 1) ≡ x + y + z - 3
    sums x y z h i j = omega (arith, h, i, j)

module _ (a : State) (g : ℕ) (unit : ScrubUnit) (blocks : Kind → List ℕ) where
  abbrev made : State
  made = uncounted a g unit blocks

  abbrev after : Counter → ℕ
  after name = ((switched a g unit blocks).group g).counters name

  made_counters : (name : Counter) → (made.group g).counters name ≡ (a.group g).counters name
  unfolding moved
  made_counters name =
      ap (λ (p : Group). p.counters name) (same_at g (hold (derive (moved a g unit blocks) g) (kinds_of unit) ((moved a g unit blocks).group g)) (moved a g unit blocks).group)
      ∙ ap (λ (f : Counter → ℕ). f name) (held_counters (derive (moved a g unit blocks) g) (kinds_of unit) ((moved a g unit blocks).group g))
      ∙ ap (λ (p : Group). p.counters name) (same_at g (move_blocks a g unit blocks (a.group g)) a.group)
      ∙ ap (λ (f : Counter → ℕ). f name) (placed_counters blocks (kinds_of unit) (a.group g))

  after_counters : (name : Counter) → after name ≡ exact_counters made g unit name
  unfolding switched
  after_counters name = ap (λ (p : Group). p.counters name) (same_at g (record (made.group g) { counters = exact_counters made g unit }) made.group)

  module _ (h : Heads) (same : (name : Counter) → counter_of h name ≡ (a.group g).counters name) where
    -- one that the switch leaves, and one that it sets where it can be told
    stays : (name : Counter) → sets_counter unit name ≡ false → counter_of h name ≡ after name
    stays name out =
        same name
        ∙ sym (after_counters name ∙ ap (λ (t : Bool). if t then unwrap_or (wanted made g name) ((made.group g).counters name) else (made.group g).counters name) out ∙ made_counters name)

    told : (name : Counter) (o : Option ℕ) → sets_counter unit name ≡ true → wanted made g name ≡ o → unwrap_or o (counter_of h name) ≡ after name
    told name o set is =
        ap (λ (p : Option ℕ). unwrap_or p (counter_of h name)) (sym is)
        ∙ ap (λ (n : ℕ). unwrap_or (wanted made g name) n) (same name ∙ sym (made_counters name))
        ∙ sym (after_counters name ∙ ap (λ (t : Bool). if t then unwrap_or (wanted made g name) ((made.group g).counters name) else (made.group g).counters name) set)

    beside_told : sets_counter unit Btreeblks ≡ true → HaveRoots made g → (o : Option ℕ) → AreBeside made g o → unwrap_or o (counter_of h Btreeblks) ≡ after Btreeblks
    unfolding wanted
    beside_told set roots o is = told Btreeblks o set (sym (is ∙ beside_same (blocks_in made g kinds.Bno) (blocks_in made g kinds.Cnt) (blocks_in made g kinds.Rmap) (roots kinds.Bno) (roots kinds.Cnt) (roots kinds.Rmap)))

-- ---- by units

abbrev EndsAlike : State → ℕ → (Kind → List ℕ) → Heads → Switch → Type 0
EndsAlike a g blocks h s = (name : Counter) → counter_of (rooted_heads s h) name ≡ ((switched a g (unit_of s) blocks).group g).counters name

module _ (a : State) (g : ℕ) (blocks : Kind → List ℕ) (h : Heads) (same : (name : Counter) → counter_of h name ≡ (a.group g).counters name) where
  ino_counted : (b : Bool) (ino fino : NewTree) (agi : Agi) → (with_counted b ino fino agi).iblocks ≡ unwrap_or (if b then Some ino.blocks else None) agi.iblocks
  ino_counted true ino fino agi = refl
  ino_counted false ino fino agi = refl

  fino_counted : (b : Bool) (ino fino : NewTree) (agi : Agi) → (with_counted b ino fino agi).fblocks ≡ unwrap_or (if b then Some fino.blocks else None) agi.fblocks
  fino_counted true ino fino agi = refl
  fino_counted false ino fino agi = refl

  counted_where : (b c : Bool) (n : ℕ) (o : Option ℕ) → b ≡ c → o ≡ Some n → (if c then o else None) ≡ (if b then Some n else None)
  counted_where b c n o e f = ap (λ (t : Bool). if t then o else None) (sym e) ∙ ap (λ (p : Option ℕ). if b then p else None) f

  abbrev rooted_agi : NewTree → NewTree → Agi
  rooted_agi ino fino = record h.agi { root = ino.root; level = ino.levels; free_root = fino.root; free_level = fino.levels }

  of_inodes : (ino fino : NewTree) (count freecount : ℕ) (counts : Bool) → IsGiven (uncounted a g units.Inode blocks) g (Inode ino fino count freecount counts) → EndsAlike a g blocks h (Inode ino fino count freecount counts)
  unfolding wanted
  of_inodes ino fino count freecount counts given Count = told a g units.Inode blocks h same Count (Some count) refl (ap Some (sym given.2))
  of_inodes ino fino count freecount counts given Freecount = told a g units.Inode blocks h same Freecount (Some freecount) refl (ap Some (sym given.3))
  of_inodes ino fino count freecount counts given Iblocks =
      ino_counted counts ino fino (rooted_agi ino fino)
      ∙ told a g units.Inode blocks h same Iblocks (if counts then Some ino.blocks else None) refl
      (counted_where counts (uncounted a g units.Inode blocks).geometry.inobtcount ino.blocks (blocks_in (uncounted a g units.Inode blocks) g kinds.Ino) given.4 given.0)
  of_inodes ino fino count freecount counts given Fblocks =
      fino_counted counts ino fino (rooted_agi ino fino)
      ∙ told a g units.Inode blocks h same Fblocks (if counts then Some fino.blocks else None) refl
      (counted_where counts (uncounted a g units.Inode blocks).geometry.inobtcount fino.blocks (blocks_in (uncounted a g units.Inode blocks) g kinds.Fino) given.4 given.1)
  of_inodes ino fino count freecount counts given RmapBlocks = stays a g units.Inode blocks h same RmapBlocks refl
  of_inodes ino fino count freecount counts given Freeblks = stays a g units.Inode blocks h same Freeblks refl
  of_inodes ino fino count freecount counts given Longest = stays a g units.Inode blocks h same Longest refl
  of_inodes ino fino count freecount counts given Btreeblks = stays a g units.Inode blocks h same Btreeblks refl
  of_inodes ino fino count freecount counts given RefcountBlocks = stays a g units.Inode blocks h same RefcountBlocks refl

  of_mappings : (rmap : NewTree) (btreeblks : Option ℕ) → HaveRoots (uncounted a g units.Rmap blocks) g → IsGiven (uncounted a g units.Rmap blocks) g (Rmap rmap btreeblks) → EndsAlike a g blocks h (Rmap rmap btreeblks)
  unfolding wanted
  of_mappings rmap btreeblks roots given Count = stays a g units.Rmap blocks h same Count refl
  of_mappings rmap btreeblks roots given Freecount = stays a g units.Rmap blocks h same Freecount refl
  of_mappings rmap btreeblks roots given Iblocks = stays a g units.Rmap blocks h same Iblocks refl
  of_mappings rmap btreeblks roots given Fblocks = stays a g units.Rmap blocks h same Fblocks refl
  of_mappings rmap btreeblks roots given RmapBlocks = told a g units.Rmap blocks h same RmapBlocks (Some rmap.blocks) refl given.0
  of_mappings rmap btreeblks roots given Freeblks = stays a g units.Rmap blocks h same Freeblks refl
  of_mappings rmap btreeblks roots given Longest = stays a g units.Rmap blocks h same Longest refl
  of_mappings rmap btreeblks roots given Btreeblks = beside_told a g units.Rmap blocks h same refl roots btreeblks given.1
  of_mappings rmap btreeblks roots given RefcountBlocks = stays a g units.Rmap blocks h same RefcountBlocks refl

  of_space : (bno cnt : NewTree) (freeblks longest : ℕ) (btreeblks : Option ℕ) → HaveRoots (uncounted a g units.Free blocks) g → IsGiven (uncounted a g units.Free blocks) g (Free bno cnt freeblks longest btreeblks) → EndsAlike a g blocks h (Free bno cnt freeblks longest btreeblks)
  unfolding wanted cnt_of
  of_space bno cnt freeblks longest btreeblks roots given Count = stays a g units.Free blocks h same Count refl
  of_space bno cnt freeblks longest btreeblks roots given Freecount = stays a g units.Free blocks h same Freecount refl
  of_space bno cnt freeblks longest btreeblks roots given Iblocks = stays a g units.Free blocks h same Iblocks refl
  of_space bno cnt freeblks longest btreeblks roots given Fblocks = stays a g units.Free blocks h same Fblocks refl
  of_space bno cnt freeblks longest btreeblks roots given RmapBlocks = stays a g units.Free blocks h same RmapBlocks refl
  of_space bno cnt freeblks longest btreeblks roots given Freeblks =
      told a g units.Free blocks h same Freeblks (Some freeblks) refl (ap Some (sym (given.0 ∙ sums_alike (bno_of (uncounted a g units.Free blocks) g))))
  of_space bno cnt freeblks longest btreeblks roots given Longest =
      told a g units.Free blocks h same Longest (Some longest) refl (ap Some (sym (given.1 ∙ last_is_greatest (bno_of (uncounted a g units.Free blocks) g))))
  of_space bno cnt freeblks longest btreeblks roots given Btreeblks = beside_told a g units.Free blocks h same refl roots btreeblks given.2
  of_space bno cnt freeblks longest btreeblks roots given RefcountBlocks = stays a g units.Free blocks h same RefcountBlocks refl

  of_counts : (refc : NewTree) → IsGiven (uncounted a g units.Refc blocks) g (Refc refc) → EndsAlike a g blocks h (Refc refc)
  unfolding wanted
  of_counts refc given Count = stays a g units.Refc blocks h same Count refl
  of_counts refc given Freecount = stays a g units.Refc blocks h same Freecount refl
  of_counts refc given Iblocks = stays a g units.Refc blocks h same Iblocks refl
  of_counts refc given Fblocks = stays a g units.Refc blocks h same Fblocks refl
  of_counts refc given RmapBlocks = stays a g units.Refc blocks h same RmapBlocks refl
  of_counts refc given Freeblks = stays a g units.Refc blocks h same Freeblks refl
  of_counts refc given Longest = stays a g units.Refc blocks h same Longest refl
  of_counts refc given Btreeblks = stays a g units.Refc blocks h same Btreeblks refl
  of_counts refc given RefcountBlocks = told a g units.Refc blocks h same RefcountBlocks (Some refc.blocks) refl given

pub switches_alike : SwitchesAlike
switches_alike a g blocks h (Inode ino fino count freecount counts) same roots given = of_inodes a g blocks h same ino fino count freecount counts given
switches_alike a g blocks h (Rmap rmap btreeblks) same roots given = of_mappings a g blocks h same rmap btreeblks roots given
switches_alike a g blocks h (Free bno cnt freeblks longest btreeblks) same roots given = of_space a g blocks h same bno cnt freeblks longest btreeblks roots given
switches_alike a g blocks h (Refc refc) same roots given = of_counts a g blocks h same refc given
