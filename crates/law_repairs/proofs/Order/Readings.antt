-- What is read of a group: counters that are words; a list whose blocks differ and lie in the group; and of each tree its blocks,
-- or those that are kept of one that can't be read and is sick.
use Rattle.std.proofs.Common.{◌≡◌, ℕ, ◌+◌, ◌*◌, ◌^◌, ◌<◌, true, false, List, ◌++◌, get_or, take, drop, Option, Some, None, Ok, Err, is_ok, refl, ap, inl, inr, arith, zero, suc, ◌-◌, Bool, [], ◌∷◌, length, sym, subst}
use Rattle.std.proofs.lemmas.Bool.{cases_lt, false≢true, true≢false, and_parts, ltb-true}
use Rattle.std.proofs.lemmas.List.{get_or-drop, get_or-take, get_or_past, length-take}
use Rattle.std.specs.Prelude.{nat_le, nat_lt}
use Rattle.ag_headers.proofs.AgflLemmas.{free_list_from_tests}
use Rattle.ag_headers.specs.Agf.{agf_in}
use Rattle.ag_headers.specs.Agfl.{agfl_fault, agfl_of, entry_fault, entry_tests, own_tests, ring_tests}
use Rattle.ag_headers.specs.Agi.{agi_in}
use Rattle.ag_headers.specs.Fields.{sector}
use Rattle.ag_headers.specs.Ring.{IsFreeList}
use Rattle.byte_fields.proofs.TestLemmas.{all_pass, none_fails}
use Rattle.byte_fields.specs.Fields.{field}
use Rattle.byteorder.specs.Numbers.{big_from-lt}
use Rattle.fs_change.specs.Parts.{is_sick}
use Rattle.fs_model.specs.declared.fault.Counter.TheVariants as counters
use Rattle.fs_model.specs.declared.unit.Trust.TheVariants.{Sick}
use Rattle.fs_model.specs.declared.unit.Trust.{Trust}
use Rattle.fs_state.proofs.Trees.{lawful_of}
use Rattle.fs_state.specs.Kinds.{Image, heads_in, RecOf, form_of, heads_of, level_of, root_of}
use Rattle.fs_state.specs.Read.{Read, claimed, group_of, known, reading_of, walked}
use Rattle.fs_state.specs.State.{Bad, is_readable, Kept, blocks_of}
use Rattle.geom.specs.Apart.{HasFitting}
use Rattle.geom.specs.Layout.{Layout, device_block_of, group_len_of}
use Rattle.law_repairs.proofs.Move.Space.{short_group}
use Rattle.sblock.proofs.BlockLemmas.{children_lie_inside}
use Rattle.sblock.specs.Area.{area_of, child_of}
use Rattle.sblock.specs.Blocks.{AreBlocks, children_of, numrecs}
use Rattle.sblock.specs.Form.{Form}
use Rattle.sblock.specs.Headers.{left_of}
use Rattle.sblock.specs.Lists.{items_from}
use Rattle.sblock.specs.Spans.{span_of}
use Rattle.sblock.specs.declared.kind.Kind.{Kind}
use Rattle.tree_defs.proofs.Rows.{blocks_differ_lem}
use Rattle.tree_defs.proofs.Trees.{reads_trees_lem}
use Rattle.tree_defs.specs.Levels.{AllEntries, IsRight, IsSound, IsTree, blocks_of as tree_blocks, entries, over, recs_of as tree_recs}
use Rattle.tree_defs.specs.Lists.{AllDiffer}
use Rattle.tree_defs.specs.Sites.{group_blocks, site_of}
use Rattle.tree_defs.specs.Tree.{Entry, agrees, entries_from, entry_at, want_of}
use Rattle.tree_defs.specs.declared.site.Site.{Site}
use Rattle.law_repairs.proofs.Order.Lists.{Every, every_both, in_every}
use Rattle.law_repairs.specs.Order.Kept.{ListIsAccepted, LieBelow}
use Rattle.law_repairs.specs.Order.Ordered.{BadIsSick, CountersAreWords, LimboIsPlain}

-- ---- counters

small_piece : (n at : ℕ) (xs : List ℕ) → ((k : ℕ) → get_or xs k 0 < 256) → (j : ℕ) → get_or (take n (drop at xs)) j 0 < 256
small_piece n at xs small j =
    elim (cases_lt j n) [
      | inl low ↦ rw (get_or-take n (drop at xs) j 0 low, get_or-drop) (small (at + j))
      | inr high ↦ rw (get_or_past (take n (drop at xs)) j 0 (omega (arith, length-take n (drop at xs)))) (omega arith)
    ]

small_field : (n at : ℕ) (xs : List ℕ) → ((k : ℕ) → get_or xs k 0 < 256) → field n xs at < 256 ^ n
small_field n at xs small = big_from-lt 0 n (drop at xs) (λ k. rw get_or-drop (small (at + k)))

-- a number of four bytes in a sector is a word
word : (k at : ℕ) (block : List ℕ) → ((i : ℕ) → get_or block i 0 < 256) → field 4 (sector k block) at < 2 ^ 32
word k at block small = small_field 4 at (sector k block) (small_piece 512 (512 * k) block small)

pub words : CountersAreWords
unfolding group_of heads_in agf_in agi_in
words at image kept g bytes counters.Count = word 2 16 (image (device_block_of at g 0)) bytes
words at image kept g bytes counters.Freecount = word 2 28 (image (device_block_of at g 0)) bytes
words at image kept g bytes counters.Iblocks = word 2 336 (image (device_block_of at g 0)) bytes
words at image kept g bytes counters.Fblocks = word 2 340 (image (device_block_of at g 0)) bytes
words at image kept g bytes counters.RmapBlocks = word 1 80 (image (device_block_of at g 0)) bytes
words at image kept g bytes counters.Freeblks = word 1 52 (image (device_block_of at g 0)) bytes
words at image kept g bytes counters.Longest = word 1 56 (image (device_block_of at g 0)) bytes
words at image kept g bytes counters.Btreeblks = word 1 60 (image (device_block_of at g 0)) bytes
words at image kept g bytes counters.RefcountBlocks = word 1 84 (image (device_block_of at g 0)) bytes

-- ---- trees that can't be read

sick_by : {R : Type 0} (bad : Option Bad) (read : Read R) (claims : List ℕ) (t : Trust) → (bad ≡ None → is_ok read ≡ true) → ((b : Bad) → bad ≡ Some b → t ≡ Sick) → is_readable (known bad read claims) ≡ false → is_sick t ≡ true
sick_by (Some b) read claims t ok sick h = ap is_sick (sick b refl)
sick_by None (Ok x) claims t ok sick h = absurd (true≢false h)
sick_by None (Err f) claims t ok sick h = absurd (false≢true (ok refl))

pub bad_is_sick : BadIsSick
unfolding group_of reading_of
bad_is_sick at image kept g lt keeps order k h = sick_by (kept.bad g k) (walked at image g k) (claimed at image g k) (kept.trust g k) (keeps g k lt) (order.sick k) h

pub limbo_is_plain : LimboIsPlain
unfolding group_of
limbo_is_plain at image kept g order = order.limbo_plain

-- ---- the free list

pub accepted : (at : Layout) (image : Image) (g : ℕ) → ListIsAccepted at image g → IsFreeList (group_len_of at g) (agfl_of (image (device_block_of at g 0)))
unfolding agfl_fault entry_fault
accepted at image g h =
    let block : List ℕ = image (device_block_of at g 0) in
    let all = all_pass (own_tests at g (sector 3 block) ++ ring_tests (group_len_of at g) (agfl_of block)) h in
    free_list_from_tests (group_len_of at g) (agfl_of block) (none_fails (entry_tests (group_len_of at g) (agfl_of block)) all.1.1.1.1.1)

-- ---- the blocks of a sound tree lie in the group

module _ {R K : Type 0} (form : Form R K) where
  below_each : (len : ℕ) (area : List ℕ) (n i : ℕ) → AreBlocks len (items_from (child_of form.kind area) n i) → AllEntries (λ (e : Entry K). e.child < len) (items_from (entry_at form area) n i)
  below_each len area zero i h = tt
  below_each len area (suc n) i h = (
    ltb-true (child_of form.kind area i) len (and_parts (nat_le 1 (child_of form.kind area i)) (nat_lt (child_of form.kind area i) len) h.0).1,
    below_each len area n (i + 1) h.1,
  )

  module _ (site : Site) (m : ℕ → List ℕ) where
    abbrev Below : List ℕ → Type 0
    Below ps = Every (λ (p : ℕ). p < site.bounds.length) ps

    children_below : (level : ℕ) (root : Bool) (p : ℕ) → IsRight form m site (suc level) root p → AllEntries (λ (e : Entry K). e.child < site.bounds.length) (entries form m p)
    unfolding entries_from children_of
    children_below level root p right = below_each site.bounds.length (area_of (m p)) (numrecs (m p)) 0 (children_lie_inside form (m p) (want_of form.kind site (suc level) root (left_of (m p)) p) right (omega arith))

    over_below : (level : ℕ) → ((q : ℕ) → IsSound form m site level false q → q < site.bounds.length → Below (tree_blocks form m level q)) → (es : List (Entry K))
        → AllEntries (λ (e : Entry K). IsSound form m site level false e.child × (agrees form e (span_of form (tree_recs form m level e.child)) ≡ true)) es → AllEntries (λ (e : Entry K). e.child < site.bounds.length) es → Below (over (tree_blocks form m level) es)
    over_below level each [] sound inside = tt
    over_below level each (e ∷ es) sound inside =
        every_both (λ (p : ℕ). p < site.bounds.length) (tree_blocks form m level e.child) (over (tree_blocks form m level) es) (each e.child sound.0.0 inside.0) (over_below level each es sound.1 inside.1)

    all_below : (level : ℕ) (root : Bool) (p : ℕ) → IsSound form m site level root p → p < site.bounds.length → Below (tree_blocks form m level p)
    unfolding tree_blocks IsSound
    all_below zero root p sound lt = (lt, tt)
    all_below (suc level) root p sound lt = (lt, over_below level (λ q s l. all_below level false q s l) (entries form m p) sound.1 (children_below level root p sound.0))

    has_root : (level p : ℕ) → 0 < length (tree_blocks form m level p)
    unfolding tree_blocks
    has_root zero p = omega arith
    has_root (suc level) p = omega arith

    tree_below : (root levels : ℕ) (recs : List R) (blocks : List ℕ) → IsTree form site m root levels recs blocks → LieBelow site.bounds.length blocks
    tree_below root levels recs blocks t = in_every (λ (p : ℕ). p < site.bounds.length) blocks (subst Below (sym t.blocks_are) (all_below (levels - 1) true root t.sound t.root_lies.1))

    tree_has_root : (root levels : ℕ) (recs : List R) (blocks : List ℕ) → IsTree form site m root levels recs blocks → 0 < length blocks
    tree_has_root root levels recs blocks t = subst (λ (ps : List ℕ). 0 < length ps) (sym t.blocks_are) (has_root (levels - 1) root)

-- ---- of an image

module _ (at : Layout) (image : Image) (g : ℕ) (k : Kind) (x : List (RecOf k) × List ℕ) (read : walked at image g k ≡ Ok x) where
  is_tree : IsTree (form_of k) (site_of at g) (group_blocks (site_of at g) image) (root_of (heads_of at image g) k) (level_of (heads_of at image g) k) x.0 x.1
  unfolding walked
  is_tree = (reads_trees_lem (form_of k) (lawful_of k) (site_of at g) (group_blocks (site_of at g) image) (root_of (heads_of at image g) k) (level_of (heads_of at image g) k) x.0 x.1).0 read

  read_once : HasFitting at → AllDiffer x.1
  unfolding site_of
  read_once fit =
      let short = short_group at g fit in
      (blocks_differ_lem (form_of k) (site_of at g) (group_blocks (site_of at g) image) (root_of (heads_of at image g) k) (level_of (heads_of at image g) k) x.0 x.1 (omega (arith, short)) is_tree).0

  read_below : LieBelow (group_len_of at g) x.1
  unfolding site_of
  read_below = tree_below (form_of k) (site_of at g) (group_blocks (site_of at g) image) (root_of (heads_of at image g) k) (level_of (heads_of at image g) k) x.0 x.1 is_tree

  read_root : 0 < length x.1
  read_root = tree_has_root (form_of k) (site_of at g) (group_blocks (site_of at g) image) (root_of (heads_of at image g) k) (level_of (heads_of at image g) k) x.0 x.1 is_tree

-- ---- as it is known

blocks_by : {R : Type 0} (P : List ℕ → Type 0) (bad : Option Bad) (read : Read R) (claims : List ℕ) → (bad ≡ None → is_ok read ≡ true) → ((b : Bad) → bad ≡ Some b → P b.claims) → ((x : List R × List ℕ) → read ≡ Ok x → P x.1) → P (blocks_of (known bad read claims))
blocks_by P (Some b) read claims ok old now = old b refl
blocks_by P None (Ok x) claims ok old now = now x refl
blocks_by P None (Err f) claims ok old now = absurd (false≢true (ok refl))

root_by : {R : Type 0} (bad : Option Bad) (read : Read R) (claims : List ℕ) → ((x : List R × List ℕ) → read ≡ Ok x → 0 < length x.1) → is_readable (known bad read claims) ≡ true → 0 < length (blocks_of (known bad read claims))
root_by (Some b) read claims now h = absurd (false≢true h)
root_by None (Ok x) claims now h = now x refl
root_by None (Err f) claims now h = absurd (false≢true h)

module _ (at : Layout) (image : Image) (kept : Kept) (g : ℕ) (k : Kind) where
  pub known_once : HasFitting at → (kept.bad g k ≡ None → is_ok (walked at image g k) ≡ true) → ((b : Bad) → kept.bad g k ≡ Some b → AllDiffer b.claims) → AllDiffer (blocks_of (reading_of at image kept g k))
  unfolding reading_of
  known_once fit keeps old = blocks_by (λ (ps : List ℕ). AllDiffer ps) (kept.bad g k) (walked at image g k) (claimed at image g k) keeps old (λ x read. read_once at image g k x read fit)

  pub known_below : (kept.bad g k ≡ None → is_ok (walked at image g k) ≡ true) → ((b : Bad) → kept.bad g k ≡ Some b → LieBelow (group_len_of at g) b.claims) → LieBelow (group_len_of at g) (blocks_of (reading_of at image kept g k))
  unfolding reading_of
  known_below keeps old = blocks_by (LieBelow (group_len_of at g)) (kept.bad g k) (walked at image g k) (claimed at image g k) keeps old (λ x read. read_below at image g k x read)

  pub known_root : is_readable (reading_of at image kept g k) ≡ true → 0 < length (blocks_of (reading_of at image kept g k))
  unfolding reading_of
  known_root h = root_by (kept.bad g k) (walked at image g k) (claimed at image g k) (λ x read. read_root at image g k x read) h
