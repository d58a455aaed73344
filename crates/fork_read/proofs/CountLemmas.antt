-- How many blocks pieces of a fork read, one after another.
use Rattle.std.proofs.Common.{◌≡◌, ℕ, zero, suc, ◌+◌, ◌-◌, ◌*◌, ◌<◌, ◌≤◌, Bool, true, false, List, [], ◌∷◌, ◌++◌, length, drop, map, filter, Option, Some, None, Result, Ok, Err, refl, ap, sym, subst, ◌∙◌, inl, inr, arith}
use Rattle.std.specs.Prelude.{◌⊎◌, ◌==◌, ◌&&◌, nat_le, nat_lt, if◌then◌else◌}
use Rattle.std.proofs.lemmas.Bool.{and_parts, cases_Bool, false≢true, leb-true}
use Rattle.std.proofs.lemmas.Bool.Decides.{nat_tests}
use Rattle.byte_fields.specs.Checksum.{has_sum}
use Rattle.byte_fields.specs.Fields.{field, has_uuid}
use Rattle.geom.specs.Layout.{Layout, blkno_of, split_of}
use Rattle.dinode_core.specs.declared.inode.Core3.{Core3}
use Rattle.dinode_core.specs.declared.mapping.Mapping.{Mapping}
use Rattle.dinode_core.specs.declared.mapping.Fork.{Fork}
use Rattle.dinode_core.specs.Inline.{first_bad, form_fault, root_level}
use Rattle.dinode_core.specs.Shape.{area_of}
use Rattle.dinode_core.specs.ForkTree.{Image, Trail, TreeBlock, Last, Entry, ◌>>=◌, first_key, is_fork_block, is_right, is_tree, leaf_mappings, met_in, met_of, node_entries, numrecs, start, walk_each, walk_in, walk_tree, with_mappings}
use Rattle.fork_read.specs.declared.fault.ForkPiece.{ForkPiece}
use Rattle.fork_read.specs.declared.tasks.Task.{Task}
use Rattle.fork_read.specs.declared.walk.Stop.{Stop as Way}
use Rattle.fork_read.specs.declared.walk.Stop.TheVariants.{Bad, Whole, Left, Long, Fallen}
use Rattle.fork_read.specs.Answers.{IsPiece, given_of, judged, next_of}
use Rattle.fork_read.specs.Counted.{AreFew, HasSpent, IsSpent, way_down}
use Rattle.fork_read.specs.First.{most_met}
use Rattle.fork_read.specs.Pieces.{Ends, IsTreePiece}
use Rattle.fork_read.specs.Walk.{Leaves, entry_of, first_tasks, is_resumed, passed_from, pruned, read_at, skipped_to, taken_in, tasks_of, walk_from, walk_tasks}
use Rattle.fork_read.specs.Whole.{Follow, all_blocks, all_mappings}
use Rattle.fork_read.proofs.EachLemmas.{one_taken}
use Rattle.fork_read.proofs.JoinLemmas.{Come, View, view}
use Rattle.fork_read.proofs.LawLemmas.{EndOf, any_edge, first_end, follow_on, from_there, past, piece_on, whole_walk}
use Rattle.fork_read.proofs.LeafLemmas.{few_in}
use Rattle.fork_read.proofs.RootLemmas.{root_facts}
use Rattle.fork_read.proofs.RunLemmas.{UpTo, middle, one_way, upto_below}
use Rattle.fork_read.proofs.StandLemmas.{own_mappings, read_parts}
use Rattle.fork_read.proofs.WalkLemmas.{border_leaves}
use Rattle.fork_read.proofs.PieceLemmas.{form_none}
use Rattle.fork_read.proofs.WholeLemmas.{else_parts}

length_both : {A : Type 0} (xs ys : List A) → length (xs ++ ys) ≡ length xs + length ys
length_both [] ys = omega arith
length_both (x ∷ xs) ys = let rest = length_both xs ys in omega (arith, rest)

pub length_mapped : {A B : Type 0} (f : A → B) (xs : List A) → length (map f xs) ≡ length xs
length_mapped f [] = refl
length_mapped f (x ∷ xs) = let rest = length_mapped f xs in omega (arith, rest)

left_none : (n : ℕ) → ◌≡◌ {A = Option ℕ} (Some n) None → ⊥
left_none n e = cc

-- ---- the levels on which no block was read yet

unread : Option Last → ℕ
unread None = 1
unread (Some last) = 0

-- how many of the lower n levels are such
open_of : ℕ → (ℕ → Option Last) → ℕ
open_of zero f = 0
open_of (suc n) f = open_of n f + unread (f n)

set_at : ℕ → Last → (ℕ → Option Last) → ℕ → Option Last
set_at level x f l = if l == level then Some x else f l

other_at : (level l : ℕ) (x : Last) (f : ℕ → Option Last) → (l ≡ level → ⊥) → set_at level x f l ≡ f l
unfolding set_at
other_at level l x f other = by_test (l == level) refl
  where
    by_test : (b : Bool) → (l == level) ≡ b → (if b then Some x else f l) ≡ f l
    by_test true e = absurd (other (grind (arith, nat_tests, e)))
    by_test false e = refl

there_at : (level : ℕ) (x : Last) (f : ℕ → Option Last) → set_at level x f level ≡ Some x
unfolding set_at
there_at level x f = let same : (level == level) ≡ true = grind (arith, nat_tests) in rw same refl

open_above : (n level : ℕ) (x : Last) (f : ℕ → Option Last) → n ≤ level → open_of n (set_at level x f) ≡ open_of n f
unfolding open_of
open_above zero level x f le = refl
open_above (suc n) level x f le =
    let here = other_at level n x f (λ e. omega (arith, e, le)) in
    let rest = open_above n level x f (omega (arith, le)) in
    λ i. rest i + unread (here i)

-- a block that is read fills its level
open_filled : (n level : ℕ) (x : Last) (f : ℕ → Option Last) → level < n → open_of n (set_at level x f) + unread (f level) ≡ open_of n f
unfolding open_of unread
open_filled zero level x f lt = absurd (omega (arith, lt))
open_filled (suc n) level x f lt = elim (cases_Bool (level == n)) [
  | inl e ↦
      let same : level ≡ n = grind (arith, nat_tests, e) in
      let here : set_at level x f n ≡ Some x = subst (λ (k : ℕ). set_at level x f k ≡ Some x) same (there_at level x f) in
      let rest = open_above n level x f (omega (arith, same)) in
      let none : unread (set_at level x f n) ≡ 0 = ap unread here in
      let own : unread (f level) ≡ unread (f n) = ap (λ (k : ℕ). unread (f k)) same in
      omega (arith, rest, none, own)
  | inr e ↦
      let here = other_at level n x f (λ h. let other : (level == n) ≡ true = grind (arith, nat_tests, h) in false≢true (sym e ∙ other)) in
      let below : level < n = grind (arith, nat_tests, e, lt) in
      let rest = open_filled n level x f below in
      let same = ap unread here in
      omega (arith, rest, same)
]

open_none : (n : ℕ) → open_of n (λ l. None) ≡ n
unfolding open_of unread
open_none zero = refl
open_none (suc n) = let rest = open_none n in omega (arith, rest)

module _ (at : Layout) (image : Image) (core : Core3) where
  -- ---- each block of the whole walk once

  -- from 0 on each block that is read is one more
  pub leaves_blocks : (xs ys : List Task) (t u : Trail) (n : ℕ) → Leaves at image core 0 xs t n ys u → length u.blocks ≡ length t.blocks + n
  unfolding Leaves
  leaves_blocks xs ys t u zero h = let e = ap (λ (v : Trail). length v.blocks) h.1 in omega (arith, e)
  leaves_blocks xs ys t u (suc n) h =
      let before = leaves_blocks xs (h.task ∷ h.rest) t h.trail n h.before in
      let one = ap (λ (v : Trail). length v.blocks) h.read.taken ∙ one_taken h.task.level (entry_of h.task) h.read.bytes h.trail in
      omega (arith, before, one)

  part_five : (a b c d e f g h i j : Bool) → (a && b && c && d && e && f && g && h && i && j) ≡ true → e ≡ true
  part_five a b c d e f g h i j p =
      let nine = (and_parts (a && b && c && d && e && f && g && h && i) j p).0 in
      let eight = (and_parts (a && b && c && d && e && f && g && h) i nine).0 in
      let seven = (and_parts (a && b && c && d && e && f && g) h eight).0 in
      let six = (and_parts (a && b && c && d && e && f) g seven).0 in
      let five = (and_parts (a && b && c && d && e) f six).0 in
      (and_parts (a && b && c && d) e five).1

  few_right : (level : ℕ) (e : Entry) (p : ℕ × ℕ) (bytes : List ℕ) → is_right at core level e p bytes ≡ true → numrecs bytes ≤ 251
  unfolding is_right
  few_right level e p bytes h =
      leb-true (numrecs bytes) 251 (part_five (is_fork_block bytes) (nat_lt 0 p.1) (field 2 bytes 4 == level) (nat_le 1 (numrecs bytes)) (nat_le (numrecs bytes) 251) (field 8 bytes 24 == blkno_of at p.0 p.1) (field 8 bytes 56 == core.ino) (has_uuid bytes 40 at.uuid) (has_sum bytes 64) (first_key level bytes == e.key) h)

  few_own : (level : ℕ) (bytes : List ℕ) → numrecs bytes ≤ 251 → length (own_mappings level bytes) ≤ 251
  few_own zero bytes few = let all = few_in (numrecs bytes) (drop 72 bytes) in omega (arith, all, few)
  few_own (suc level) bytes few = omega arith

  own_taken : (from level : ℕ) (e : Entry) (bytes : List ℕ) (t : Trail) → length (taken_in from level e bytes t).mappings ≡ length t.mappings + length (own_mappings level bytes)
  unfolding passed_from
  own_taken from zero e bytes t = length_both t.mappings (leaf_mappings bytes)
  own_taken from (suc level) e bytes t = omega arith

  module _ (from : ℕ) where
    -- no block has more than 251 mappings
    pub leaves_mappings : (xs ys : List Task) (t u : Trail) (n : ℕ) → Leaves at image core from xs t n ys u → length u.mappings ≤ length t.mappings + 251 * n
    unfolding Leaves
    leaves_mappings xs ys t u zero h = let e = ap (λ (v : Trail). length v.mappings) h.1 in omega (arith, e)
    leaves_mappings xs ys t u (suc n) h =
        let before = leaves_mappings xs (h.task ∷ h.rest) t h.trail n h.before in
        let x = h.task in
        let parts = read_parts at image core from x.level (h.trail.last x.level) (entry_of x) (split_of at x.block) h.read.bytes h.read.found in
        let few = few_own x.level h.read.bytes (few_right x.level (entry_of x) parts.0 h.read.bytes parts.3) in
        let one = ap (λ (v : Trail). length v.mappings) h.read.taken ∙ own_taken from x.level (entry_of x) h.read.bytes h.trail in
        omega (arith, before, few, one)

    -- ---- on each level one block at most that an earlier piece has read

    last_taken : (level : ℕ) (e : Entry) (bytes : List ℕ) (t : Trail) → (taken_in from level e bytes t).last ≡ set_at level (record { block = e.block; right = field 8 bytes 16 }) t.last
    unfolding passed_from set_at
    last_taken zero e bytes t = refl
    last_taken (suc level) e bytes t = refl

    resumed_open : (o : Option Last) (key : ℕ) → is_resumed from o key ≡ true → unread o ≡ 1
    unfolding unread
    resumed_open None key h = refl
    resumed_open (Some last) key h = cc

    blocks_taken : (level : ℕ) (e : Entry) (bytes : List ℕ) (t : Trail) (b : Bool) → is_resumed from (t.last level) e.key ≡ b → length (taken_in from level e bytes t).blocks ≡ length t.blocks + (if b then 0 else 1)
    unfolding passed_from
    blocks_taken zero e bytes t true h = rw h (omega arith)
    blocks_taken zero e bytes t false h = rw h (length_both t.blocks (record { block = e.block; before = length t.mappings } ∷ []))
    blocks_taken (suc level) e bytes t true h = rw h (omega arith)
    blocks_taken (suc level) e bytes t false h = rw h (length_both t.blocks (record { block = e.block; before = length t.mappings } ∷ []))

    -- one block more is one of the piece, or fills a level
    one_spent : (n level : ℕ) (e : Entry) (bytes : List ℕ) (t : Trail) → level < n → length t.blocks + open_of n (taken_in from level e bytes t).last + 1 ≤ length (taken_in from level e bytes t).blocks + open_of n t.last
    one_spent n level e bytes t lt = by_test (is_resumed from (t.last level) e.key) refl
      where
        by_test : (b : Bool) → is_resumed from (t.last level) e.key ≡ b → length t.blocks + open_of n (taken_in from level e bytes t).last + 1 ≤ length (taken_in from level e bytes t).blocks + open_of n t.last
        by_test true h =
            let filled = open_filled n level (record { block = e.block; right = field 8 bytes 16 }) t.last lt in
            let last = ap (open_of n) (last_taken level e bytes t) in
            let own = resumed_open (t.last level) e.key h in
            let blocks = blocks_taken level e bytes t true h in
            omega (arith, filled, last, own, blocks)
        by_test false h =
            let filled = open_filled n level (record { block = e.block; right = field 8 bytes 16 }) t.last lt in
            let last = ap (open_of n) (last_taken level e bytes t) in
            let blocks = blocks_taken level e bytes t false h in
            omega (arith, filled, last, blocks)

    record Spent (top n : ℕ) (t u : Trail) (ys : List Task) : Type 0 where
      few : length t.blocks + open_of (suc top) u.last + n ≤ length u.blocks + open_of (suc top) t.last
      upto : UpTo at image core from top ys

    leaves_spent : (top : ℕ) (xs ys : List Task) (t u : Trail) (n : ℕ) → UpTo at image core from top xs → Leaves at image core from xs t n ys u → Spent top n t u ys
    unfolding Leaves
    leaves_spent top xs ys t u zero up h =
        let blocks = ap (λ (v : Trail). length v.blocks) h.1 in
        let last = ap (λ (v : Trail). open_of (suc top) v.last) h.1 in
        record { few = omega (arith, blocks, last); upto = subst (UpTo at image core from top) (sym h.0) up }
    leaves_spent top xs ys t u (suc n) up h =
        let before = leaves_spent top xs (h.task ∷ h.rest) t h.trail n up h.before in
        let x = h.task in
        let r = h.read in
        let low = before.upto.0 in
        let one = one_spent (suc top) x.level (entry_of x) r.bytes h.trail (omega (arith, low)) in
        let blocks = ap (λ (v : Trail). length v.blocks) r.taken in
        let last = ap (λ (v : Trail). open_of (suc top) v.last) r.taken in
        let few = before.few in
        record {
          few = omega (arith, few, one, blocks, last);
          upto = subst (UpTo at image core from top) (sym r.tasks) (upto_below at image core from top (skipped_to from (h.trail.last x.level) x.key) x.level r.bytes h.rest low before.upto.1);
        }

  -- ---- what is met stays met

  blocks_of : Result Trail Trail → ℕ
  blocks_of (Ok t) = length t.blocks
  blocks_of (Err t) = length t.blocks

  then_keeps : (t : Trail) (r : Result Trail Trail) (next : Trail → Result Trail Trail) → length t.blocks ≤ blocks_of r → ((u : Trail) → length u.blocks ≤ blocks_of (next u)) → length t.blocks ≤ blocks_of (r >>= next)
  unfolding blocks_of
  then_keeps t (Ok u) next h rest = let more = rest u in omega (arith, h, more)
  then_keeps t (Err u) next h rest = h

  each_keeps : (walk : Trail → Entry → Result Trail Trail) → ((t : Trail) (e : Entry) → length t.blocks ≤ blocks_of (walk t e)) → (es : List Entry) (t : Trail) → length t.blocks ≤ blocks_of (walk_each walk es t)
  unfolding walk_each blocks_of
  each_keeps walk h [] t = omega arith
  each_keeps walk h (e ∷ es) t = then_keeps t (walk t e) (walk_each walk es) (h t e) (each_keeps walk h es)

  in_keeps : (t : Trail) (o : Option (List ℕ)) (below : List ℕ → Result Trail Trail) → ((bytes : List ℕ) → length t.blocks ≤ blocks_of (below bytes)) → length t.blocks ≤ blocks_of (walk_in o t below)
  unfolding blocks_of
  in_keeps t None below h = omega arith
  in_keeps t (Some bytes) below h = h bytes

  block_keeps : (level : ℕ) (t : Trail) (e : Entry) → length t.blocks ≤ blocks_of (walk_from at image core 0 level t e)
  unfolding walk_from blocks_of
  block_keeps zero t e =
      in_keeps t (read_at at image core 0 zero (t.last zero) e (split_of at e.block)) (λ bytes. Ok (with_mappings (leaf_mappings bytes) (passed_from 0 zero e bytes t))) (λ bytes.
      let one = one_taken zero e bytes t in
      omega (arith, one))
  block_keeps (suc level) t e =
      in_keeps t (read_at at image core 0 (suc level) (t.last (suc level)) e (split_of at e.block)) (λ bytes. walk_each (walk_from at image core 0 level) (pruned (skipped_to 0 (t.last (suc level)) e.key) (node_entries bytes)) (passed_from 0 (suc level) e bytes t)) (λ bytes.
      let one = one_taken (suc level) e bytes t in
      let rest = each_keeps (walk_from at image core 0 level) (block_keeps level) (pruned (skipped_to 0 (t.last (suc level)) e.key) (node_entries bytes)) (passed_from 0 (suc level) e bytes t) in
      omega (arith, one, rest))

  tasks_keep : (xs : List Task) (t : Trail) → length t.blocks ≤ blocks_of (walk_tasks at image core 0 xs t)
  unfolding walk_tasks blocks_of
  tasks_keep [] t = omega arith
  tasks_keep (x ∷ xs) t = then_keeps t (walk_from at image core 0 x.level t (entry_of x)) (walk_tasks at image core 0 xs) (block_keeps x.level t (entry_of x)) (tasks_keep xs)

module _ (at : Layout) (image : Image) (core : Core3) (fork : Fork) where
  abbrev top : ℕ
  top = root_level (area_of core fork) - 1

  abbrev met_blocks : ℕ
  met_blocks = length (met_of at image core fork).blocks

  met_all : (levels : ℕ) (r : Result Trail Trail) → length (met_in levels r).blocks ≡ blocks_of at image core r
  unfolding blocks_of
  met_all levels (Ok t) = refl
  met_all levels (Err t) = refl

  -- the whole walk has read no more blocks than are met
  pub met_count : is_tree core fork ≡ true → (ys : List Task) (t : Trail) (n : ℕ) → Leaves at image core 0 (first_tasks core fork 0) start n ys t → n ≤ met_blocks
  unfolding met_of
  met_count tree ys t n h =
      let count = leaves_blocks at image core (first_tasks core fork 0) ys start t n h in
      let walk = whole_walk at image core fork (walk_tasks at image core 0 ys t) ys t n h refl in
      let kept = tasks_keep at image core ys t in
      let all = met_all (root_level (area_of core fork)) (walk_tree at image core fork) ∙ ap (blocks_of at image core) walk in
      rw tree (omega (arith, count, kept, all))

  upto_first : (from level : ℕ) (es : List Entry) → UpTo at image core from level (tasks_of level es)
  upto_first from level [] = tt
  upto_first from level (e ∷ es) = (omega arith, upto_first from level es)

  -- a piece reads its own blocks, and one on each level at most of those that an earlier one has read
  pub down_count : (from : ℕ) (ys : List Task) (v : Trail) (n : ℕ) → Leaves at image core from (first_tasks core fork from) start n ys v → n ≤ length v.blocks + suc top
  down_count from ys v n h =
      let s = leaves_spent at image core from top (first_tasks core fork from) ys start v n (upto_first from top (pruned from _)) h in
      let few = s.few in
      let all = open_none (suc top) in
      omega (arith, few, all)

  module _ (form : form_fault core fork ≡ None) (tree : is_tree core fork ≡ true) where
    -- a view's blocks are those of earlier pieces, and its own
    view_count : (from : ℕ) (ms : List Mapping) (bs : List ℕ) (ys : List Task) (v : Trail) (w : View at image core fork from ms bs ys v) → w.count ≡ length bs + length v.blocks
    view_count from ms bs ys v w =
        let count = leaves_blocks at image core (first_tasks core fork 0) ys start w.trail w.count w.leaves in
        let all = ap length w.same.blocks ∙ length_both w.own (map (λ (b : TreeBlock). b.block) v.blocks) in
        let own = ap length w.known_blocks in
        let here = length_mapped (λ (b : TreeBlock). b.block) w.trail.blocks in
        let there = length_mapped (λ (b : TreeBlock). b.block) v.blocks in
        omega (arith, count, all, own, here, there)

    come_count : (from : ℕ) (ms : List Mapping) (bs : List ℕ) (c : Come at image core fork from ms bs) → c.count ≡ length bs
    come_count from ms bs c =
        let count = leaves_blocks at image core (first_tasks core fork 0) (c.task ∷ c.rest) start c.trail c.count (border_leaves at image core 0 (first_tasks core fork 0) (c.task ∷ c.rest) start c.trail c.count c.border) in
        let blocks = ap length c.blocks in
        let here = length_mapped (λ (b : TreeBlock). b.block) c.trail.blocks in
        omega (arith, count, blocks, here)

    -- what the blocks of a piece add
    view_adds : (from : ℕ) (ms : List Mapping) (bs : List ℕ) (ys : List Task) (v : Trail) → from_there at image core fork from ms bs → (w : View at image core fork from ms bs ys v) → length w.trail.mappings ≤ length ms + 251 * length v.blocks
    view_adds from ms bs ys v (inl c) w =
        let here = come_count from ms bs c in
        let count = view_count from ms bs ys v w in
        let sum : w.count ≡ c.count + length v.blocks = omega (arith, here, count) in
        let m = middle at image core 0 (first_tasks core fork 0) ys start w.trail c.count (length v.blocks) (subst (λ (k : ℕ). Leaves at image core 0 (first_tasks core fork 0) start k ys w.trail) sum w.leaves) in
        let same = one_way at image core 0 (first_tasks core fork 0) m.tasks (c.task ∷ c.rest) start m.trail c.trail c.count m.front (border_leaves at image core 0 (first_tasks core fork 0) (c.task ∷ c.rest) start c.trail c.count c.border) in
        let more = leaves_mappings at image core 0 m.tasks ys m.trail w.trail (length v.blocks) m.back in
        let before = ap (λ (t : Trail). length t.mappings) same.1 in
        let ms_are = ap length c.mappings in
        omega (arith, more, before, ms_are)
    view_adds from ms bs ys v (inr e) w =
        let count = view_count from ms bs ys v w in
        let none = ap length e.2 in
        let all = leaves_mappings at image core 0 (first_tasks core fork 0) ys start w.trail w.count w.leaves in
        omega (arith, count, none, all)

    -- a piece that leaves something has two blocks of its own
    pub two_own : (from next : ℕ) (ms : List Mapping) (bs : List ℕ) (piece : ForkPiece) → from_there at image core fork from ms bs → IsTreePiece at image core fork from piece → piece.next ≡ Some next → 2 ≤ length piece.tree_blocks.items
    two_own from next ms bs piece c p there = by_way p.stop p.walked p.good p.given
      where
        by_way : (stop : Way) → Ends at image core fork from stop p.trail → judged at fork (root_level (area_of core fork)) stop p.trail ≡ None → IsPiece from p.trail.mappings (map (λ (b : TreeBlock). b.block) p.trail.blocks) (next_of stop) piece → 2 ≤ length piece.tree_blocks.items
        by_way Bad e good given = absurd (left_none next (sym there ∙ given.next))
        by_way Whole e good given = absurd (left_none next (sym there ∙ given.next))
        by_way (Left task) e good given =
            let v = p.trail in
            let n = e.reached.count in
            let h = border_leaves at image core from (first_tasks core fork from) (task ∷ e.rest) start v n e.reached.border in
            let fine = (else_parts (first_bad at fork v.mappings) None good).0 in
            let d = any_edge at image core fork from ms bs task e.rest v c e.reached (λ k. past at image core fork from ms bs k task e.rest v n h e.stopped.1) in
            let blocks = ap length given.tree_blocks ∙ length_mapped (λ (b : TreeBlock). b.block) v.blocks in
            by_late d.view fine h blocks e.reached.late
          where
            by_late : (w : View at image core fork from ms bs (task ∷ e.rest) p.trail) → first_bad at fork p.trail.mappings ≡ None → Leaves at image core from (first_tasks core fork from) start e.reached.count (task ∷ e.rest) p.trail → length piece.tree_blocks.items ≡ length p.trail.blocks → (90 ≤ e.reached.count) ⊎ (261 < given_of from p.trail.mappings) → 2 ≤ length piece.tree_blocks.items
            by_late w fine h blocks (inl many) =
                let down = down_count from (task ∷ e.rest) p.trail e.reached.count h in
                let root = root_facts core fork form tree in
                omega (arith, many, down, blocks, root.high, root.low)
            by_late w fine h blocks (inr enough) =
                let adds = view_adds from ms bs (task ∷ e.rest) p.trail c w in
                let own = ap length (w.given fine) ∙ length_both ms (filter (λ (m : Mapping). nat_le from m.offset) p.trail.mappings) in
                omega (arith, enough, adds, own, blocks)
        by_way (Long task) e good given = absurd (left_none next (sym there ∙ given.next))
        by_way Fallen e good given = absurd (left_none next (sym there ∙ given.next))

    -- so has each of these
    two_each : (pieces : List ForkPiece) (from next : ℕ) (ms : List Mapping) (bs : List ℕ) → from_there at image core fork from ms bs → Follow at image core fork (Some from) pieces (Some next) → 2 * length pieces ≤ length (all_blocks pieces)
    two_each [] from next ms bs c h = omega arith
    two_each (p ∷ ps) from next ms bs c h =
        by_next p.next refl (piece_on at image core fork form tree from ms bs p c (h.0.2 tree)) h.1 (λ m. two_each ps m next (ms ++ p.mappings.items) (bs ++ p.tree_blocks.items))
      where
        nothing : (qs : List ForkPiece) → Follow at image core fork None qs (Some next) → ⊥
        nothing [] k = left_none next (sym k)
        nothing (q ∷ qs) k = k

        by_next : (o : Option ℕ) → p.next ≡ o → EndOf at image core fork o (ms ++ p.mappings.items) (bs ++ p.tree_blocks.items) → Follow at image core fork o ps (Some next) → ((m : ℕ) → from_there at image core fork m (ms ++ p.mappings.items) (bs ++ p.tree_blocks.items) → Follow at image core fork (Some m) ps (Some next) → 2 * length ps ≤ length (all_blocks ps)) → 2 * length (p ∷ ps) ≤ length (all_blocks (p ∷ ps))
        by_next None e on k rest = absurd (nothing ps k)
        by_next (Some m) e on k rest =
            let own = two_own from m ms bs p c (h.0.2 tree) e in
            let more = rest m on k in
            let both = length_both p.tree_blocks.items (all_blocks ps) in
            omega (arith, own, more, both)

    way_there : (from : ℕ) → 0 < from → way_down core fork from ≡ root_level (area_of core fork)
    way_there from h = let some : (from == 0) ≡ false = grind (arith, nat_tests, h) in rw some refl

    -- a piece that came has read its own blocks, and the way down to where it begins
    pub own_count : (from : ℕ) (ys : List Task) (v : Trail) (n before now : ℕ) → Leaves at image core from (first_tasks core fork from) start n ys v → now ≤ before + n → now ≤ before + length v.blocks + way_down core fork from
    own_count from ys v n before now h few = elim (cases_Bool (from == 0)) [
      | inl e ↦
          let none : from ≡ 0 = grind (arith, nat_tests, e) in
          let count = leaves_blocks at image core (first_tasks core fork 0) ys start v n (subst (λ (k : ℕ). Leaves at image core k (first_tasks core fork k) start n ys v) none h) in
          omega (arith, count, few)
      | inr e ↦
          let some : 0 < from = grind (arith, nat_tests, e) in
          let way = way_there from some in
          let root = root_facts core fork form tree in
          let down = down_count from ys v n h in
          omega (arith, way, root.low, down, few)
    ]

    most_there : most_met at image core fork ≡ met_blocks + 1
    most_there = rw tree refl

    -- pieces, and what was read of the next one
    few_there : (pieces : List ForkPiece) (from before now : ℕ) → 2 * length pieces ≤ length (all_blocks pieces) → Come at image core fork from (all_mappings pieces) (all_blocks pieces) → HasSpent at image core from (first_tasks core fork from) start before now → AreFew at image core fork pieces from before now
    few_there pieces from before now two c s =
        let here = come_count from (all_mappings pieces) (all_blocks pieces) c in
        let met = met_count tree (c.task ∷ c.rest) c.trail c.count (border_leaves at image core 0 (first_tasks core fork 0) (c.task ∷ c.rest) start c.trail c.count c.border) in
        let root = root_facts core fork form tree in
        let way = way_there from (omega (arith, c.clears.below)) in
        let most = most_there in
        let few = s.few in
        record {
          two = two;
          blocks = omega (arith, here, met);
          most = elim (cases_Bool (nat_le s.count (suc top))) [
            | inl early ↦
                let low : s.count ≤ suc top = grind (arith, nat_tests, early) in
                omega (arith, here, met, root.low, way, most, few, low)
            | inr late ↦
                let high : suc top ≤ s.count = grind (arith, nat_tests, late) in
                let w = view at image core fork from (all_mappings pieces) (all_blocks pieces) c s.left s.after s.count high s.leaves in
                let count = view_count from (all_mappings pieces) (all_blocks pieces) s.left s.after w in
                let all = met_count tree s.left w.trail w.count w.leaves in
                let down = down_count from s.left s.after s.count s.leaves in
                omega (arith, count, all, down, root.low, way, most, few)
          ];
        }

    few_after : (pieces : List ForkPiece) (from before now : ℕ) → 0 < length pieces → Follow at image core fork (Some 0) pieces (Some from) → HasSpent at image core from (first_tasks core fork from) start before now → AreFew at image core fork pieces from before now
    few_after pieces from before now some h s =
        let two = two_each pieces 0 from [] [] (first_end at image core fork) h in
        by_end two (follow_on at image core fork form tree pieces (Some 0) (Some from) [] [] (first_end at image core fork) h)
      where
        by_end : 2 * length pieces ≤ length (all_blocks pieces) → from_there at image core fork from (all_mappings pieces) (all_blocks pieces) → AreFew at image core fork pieces from before now
        by_end two (inl c) = few_there pieces from before now two c s
        by_end two (inr e) = let none = ap length e.2 in absurd (omega (arith, two, none, some))

  -- the first piece
  few_first : (from before now : ℕ) → is_tree core fork ≡ true → ◌≡◌ {A = Option ℕ} (Some 0) (Some from) → HasSpent at image core from (first_tasks core fork from) start before now → AreFew at image core fork [] from before now
  few_first from before now tree h s =
      let zero_there : 0 ≡ from = cc in
      let leaves = subst (λ (k : ℕ). Leaves at image core k (first_tasks core fork k) start s.count s.left s.after) (sym zero_there) s.leaves in
      let met = met_count tree s.left s.after s.count leaves in
      let few = s.few in
      let most : most_met at image core fork ≡ met_blocks + 1 = rw tree refl in
      record { two = omega arith; blocks = omega arith; most = omega (arith, met, few, most) }

  pub pieces_few : (pieces : List ForkPiece) (from before now : ℕ) → Follow at image core fork (Some 0) pieces (Some from) → IsSpent at image core fork from before now → AreFew at image core fork pieces from before now
  pieces_few pieces from before now h s = by_tree (is_tree core fork) refl
    where
      by_pieces : is_tree core fork ≡ true → (qs : List ForkPiece) → Follow at image core fork (Some 0) qs (Some from) → AreFew at image core fork qs from before now
      by_pieces tree [] k = few_first from before now tree k (s.1 tree)
      by_pieces tree (q ∷ qs) k = few_after (form_none at core fork k.0.0) tree (q ∷ qs) from before now (omega arith) k (s.1 tree)

      off_pieces : is_tree core fork ≡ false → (qs : List ForkPiece) → Follow at image core fork (Some 0) qs (Some from) → AreFew at image core fork qs from before now
      off_pieces off [] k = let same = s.0 off in record { two = omega arith; blocks = omega arith; most = omega (arith, same) }
      off_pieces off (q ∷ qs) k = absurd (nothing qs (subst (λ o. Follow at image core fork o qs (Some from)) (k.0.1 off).next k.1))
        where
          nothing : (rs : List ForkPiece) → Follow at image core fork None rs (Some from) → ⊥
          nothing [] n = left_none from (sym n)
          nothing (r ∷ rs) n = n

      by_tree : (b : Bool) → is_tree core fork ≡ b → AreFew at image core fork pieces from before now
      by_tree true tree = by_pieces tree pieces h
      by_tree false off = off_pieces off pieces h
