-- What pieces from the front on leave of a fork without a fault.
use Rattle.std.proofs.Common.{◌≡◌, ℕ, zero, suc, ◌<◌, ◌≤◌, Bool, true, false, List, [], ◌∷◌, ◌++◌, length, Option, Some, None, Result, Ok, Err, refl, ap, sym, subst, ◌∙◌, inl, inr, append-nil, arith}
use Rattle.std.specs.Prelude.{◌⊎◌}
use Rattle.std.proofs.lemmas.List.{append_assoc, length-append}
use Rattle.geom.specs.Layout.{Layout}
use Rattle.dinode_core.specs.declared.inode.Core3.{Core3}
use Rattle.dinode_core.specs.declared.mapping.Mapping.{Mapping}
use Rattle.dinode_core.specs.declared.mapping.Fork.{Fork}
use Rattle.dinode_core.specs.Inline.{form_fault}
use Rattle.dinode_core.specs.ForkTree.{Image, Trail, TreeBlock, Entry, ◌>>=◌, block_at, is_tree, leaf_mappings, met_of, node_entries, passed, start, walk_block, walk_each, walk_fault, walk_in, walk_tree, with_mappings}
use Rattle.fork_read.specs.declared.fault.ForkPiece.{ForkPiece}
use Rattle.fork_read.specs.declared.tasks.Task.{Task}
use Rattle.fork_read.specs.Parts.{Each}
use Rattle.fork_read.specs.Stuck.{IsBorder}
use Rattle.fork_read.specs.Walk.{IsRead, Leaves, entry_of, first_tasks, taken_in, walk_from, walk_tasks}
use Rattle.fork_read.specs.Whole.{Follow, LeavesRest, all_blocks, all_mappings}
use Rattle.fork_read.proofs.JoinLemmas.{Come, leaf_adds}
use Rattle.fork_read.proofs.LawLemmas.{first_end, follow_on, form_first, from_there, good_walk, whole_walk}
use Rattle.fork_read.proofs.NextLemmas.{Begins}
use Rattle.fork_read.proofs.RestLemmas.{FromKey, met_by, rest_adds}
use Rattle.fork_read.proofs.StandLemmas.{each_then, each_weaker, took}
use Rattle.fork_read.proofs.WalkLemmas.{border_leaves}
use Rattle.fork_read.proofs.WholeLemmas.{passed_same, walk_same}

-- each of these blocks has its first mapping at this number or before, and at this number or behind
abbrev UpTo : ℕ → List TreeBlock → Type 0
UpTo n = Each (λ (b : TreeBlock). b.before ≤ n)

abbrev From : ℕ → List TreeBlock → Type 0
From n = Each (λ (b : TreeBlock). n ≤ b.before)

abbrev blocks_by : Result Trail Trail → List TreeBlock
blocks_by (Ok t) = t.blocks
blocks_by (Err t) = t.blocks

up_to : (n m : ℕ) → n ≤ m → (bs : List TreeBlock) → UpTo n bs → UpTo m bs
up_to n m low bs h = each_weaker (λ (b : TreeBlock). b.before ≤ n) (λ (b : TreeBlock). b.before ≤ m) (λ b own. omega (arith, low, own)) bs h

below : (n m : ℕ) → n < m → (bs : List TreeBlock) → UpTo n bs → Each (λ (b : TreeBlock). b.before < m) bs
below n m low bs h = each_weaker (λ (b : TreeBlock). b.before ≤ n) (λ (b : TreeBlock). b.before < m) (λ b own. omega (arith, low, own)) bs h

from_on : (n m : ℕ) → n ≤ m → (bs : List TreeBlock) → From m bs → From n bs
from_on n m low bs h = each_weaker (λ (b : TreeBlock). m ≤ b.before) (λ (b : TreeBlock). n ≤ b.before) (λ b own. omega (arith, low, own)) bs h

same_least : (n : ℕ) → n ≤ n
same_least n = omega arith

longer_by : (ms more all : List Mapping) → all ≡ ms ++ more → length ms ≤ length all
longer_by ms more all e =
    let long = ap length e ∙ length-append ms more in
    omega (arith, long)

-- a walk goes on with blocks whose first mapping comes behind what was met
record Rest (t : Trail) (r : Result Trail Trail) : Type 0 where
  more : List TreeBlock
  blocks : blocks_by r ≡ t.blocks ++ more
  late : From (length t.mappings) more
  longer : length t.mappings ≤ length (met_by r)

then_rest : (t : Trail) (r : Result Trail Trail) (next : Trail → Result Trail Trail) → Rest t r → ((u : Trail) → Rest u (next u)) → Rest t (r >>= next)
then_rest t (Ok u) next h n =
    let k = n u in
    let before = h.longer in
    let after = k.longer in
    record {
      more = h.more ++ k.more;
      blocks = k.blocks ∙ ap (λ bs. bs ++ k.more) h.blocks ∙ append_assoc t.blocks h.more k.more;
      late = each_then (λ (b : TreeBlock). length t.mappings ≤ b.before) h.more k.more h.late (from_on (length t.mappings) (length u.mappings) before k.more k.late);
      longer = omega (arith, before, after);
    }
then_rest t (Err u) next h n = record { more = h.more; blocks = h.blocks; late = h.late; longer = h.longer }

none_more : (t : Trail) → Rest t (Ok t)
none_more t = record { more = []; blocks = sym (append-nil t.blocks); late = tt; longer = same_least (length t.mappings) }

bad_more : (t : Trail) → Rest t (Err t)
bad_more t = record { more = []; blocks = sym (append-nil t.blocks); late = tt; longer = same_least (length t.mappings) }

leaf_rest : (ms : List Mapping) (t : Trail) → Rest t (Ok (with_mappings ms t))
leaf_rest ms t = record { more = []; blocks = sym (append-nil t.blocks); late = tt; longer = longer_by t.mappings ms (t.mappings ++ ms) refl }

each_rest : (walk : Trail → Entry → Result Trail Trail) → ((t : Trail) (e : Entry) → Rest t (walk t e)) → (es : List Entry) (t : Trail) → Rest t (walk_each walk es t)
unfolding walk_each
each_rest walk h [] t = none_more t
each_rest walk h (e ∷ es) t = then_rest t (walk t e) (walk_each walk es) (h t e) (λ u. each_rest walk h es u)

in_rest : (t : Trail) (o : Option (List ℕ)) (below : List ℕ → Result Trail Trail) → ((bytes : List ℕ) → Rest t (below bytes)) → Rest t (walk_in o t below)
in_rest t None below h = bad_more t
in_rest t (Some bytes) below h = h bytes

-- a block itself comes before what lies below it
own_rest : (level : ℕ) (t : Trail) (e : Entry) (bytes : List ℕ) (r : Result Trail Trail) → Rest (passed level e bytes t) r → Rest t r
own_rest level t e bytes r h =
    let one : TreeBlock = record { block = e.block; before = length t.mappings } in
    record {
      more = one ∷ h.more;
      blocks = h.blocks ∙ append_assoc t.blocks (one ∷ []) h.more;
      late = (same_least (length t.mappings), h.late);
      longer = h.longer;
    }

module _ (at : Layout) (image : Image) (core : Core3) where
  block_rest : (level : ℕ) (t : Trail) (e : Entry) → Rest t (walk_block at image core level t e)
  unfolding walk_block
  block_rest zero t e =
      in_rest t (block_at at image core zero t e) (λ bytes. Ok (with_mappings (leaf_mappings bytes) (passed zero e bytes t))) (λ bytes.
      own_rest zero t e bytes (Ok (with_mappings (leaf_mappings bytes) (passed zero e bytes t))) (leaf_rest (leaf_mappings bytes) (passed zero e bytes t)))
  block_rest (suc level) t e =
      in_rest t (block_at at image core (suc level) t e) (λ bytes. walk_each (walk_block at image core level) (node_entries bytes) (passed (suc level) e bytes t)) (λ bytes.
      own_rest (suc level) t e bytes (walk_each (walk_block at image core level) (node_entries bytes) (passed (suc level) e bytes t)) (each_rest (walk_block at image core level) (block_rest level) (node_entries bytes) (passed (suc level) e bytes t)))

  tasks_rest : (xs : List Task) (t : Trail) → Rest t (walk_tasks at image core 0 xs t)
  unfolding walk_tasks
  tasks_rest [] t = none_more t
  tasks_rest (x ∷ xs) t =
      then_rest t (walk_from at image core 0 x.level t (entry_of x)) (walk_tasks at image core 0 xs) (subst (Rest t) (sym (walk_same at image core x.level t (entry_of x))) (block_rest x.level t (entry_of x))) (λ u. tasks_rest xs u)

  -- from the front on each block that was read has its first mapping among those that were met, or next
  step_blocks : (level : ℕ) (e : Entry) (bytes : List ℕ) (t : Trail) → (taken_in 0 level e bytes t).blocks ≡ t.blocks ++ record { block = e.block; before = length t.mappings } ∷ []
  step_blocks zero e bytes t = ap (λ (u : Trail). u.blocks) (passed_same zero e bytes t)
  step_blocks (suc level) e bytes t = ap (λ (u : Trail). u.blocks) (passed_same (suc level) e bytes t)

  step_front : (x : Task) (xs ys : List Task) (t u : Trail) → UpTo (length t.mappings) t.blocks → IsRead at image core 0 x xs t ys u → UpTo (length t.mappings) u.blocks
  step_front x xs ys t u h r =
      let one : TreeBlock = record { block = x.block; before = length t.mappings } in
      let same : u.blocks ≡ t.blocks ++ one ∷ [] = ap (λ (v : Trail). v.blocks) r.taken ∙ step_blocks x.level (entry_of x) r.bytes t in
      subst (UpTo (length t.mappings)) (sym same) (each_then (λ (b : TreeBlock). b.before ≤ length t.mappings) t.blocks (one ∷ []) h (same_least (length t.mappings), tt))

  front : (xs ys : List Task) (t u : Trail) (n : ℕ) → UpTo (length t.mappings) t.blocks → Leaves at image core 0 xs t n ys u → UpTo (length u.mappings) u.blocks
  unfolding Leaves
  front xs ys t u zero s h = subst (λ (v : Trail). UpTo (length v.mappings) v.blocks) (sym h.1) s
  front xs ys t u (suc n) s h =
      let before = step_front h.task h.rest ys h.trail u (front xs (h.task ∷ h.rest) t h.trail n s h.before) h.read in
      let own = took at image core 0 h.task h.rest ys h.trail u h.read in
      up_to (length h.trail.mappings) (length u.mappings) (longer_by h.trail.mappings _ u.mappings own.mappings) u.blocks before

-- what begins at an offset has a first mapping
some_first : (key : ℕ) (ms : List Mapping) → Begins key ms → (m : Mapping) × (rest : List Mapping) × (ms ≡ m ∷ rest) × (m.offset ≡ key)
some_first key [] b = absurd b
some_first key (m ∷ ms) b = (m, ms, refl, b)

some_left : (n m : ℕ) → ◌≡◌ {A = Option ℕ} (Some n) (Some m) → n ≡ m
some_left n m e = cc

none_left : (n : ℕ) → ◌≡◌ {A = Option ℕ} None (Some n) → ⊥
none_left n e = cc

module _ (at : Layout) (image : Image) (core : Core3) (fork : Fork) where
  -- at a leaf's end each block has its first mapping among those that were met
  border_front : (ys : List Task) (u : Trail) (n : ℕ) → IsBorder at image core 0 (first_tasks core fork 0) start n ys u → Each (λ (b : TreeBlock). b.before < length u.mappings) u.blocks
  border_front ys u n b =
      let x = b.read.task in
      let t = b.read.trail in
      let early = front at image core (first_tasks core fork 0) (x ∷ b.read.rest) start t b.before tt b.read.before in
      let adds = leaf_adds at image core fork 0 x.level x.key x.block b.read.rest ys t u b.leaf b.read.read in
      let long = ap length adds.2 ∙ length-append t.mappings (adds.0 ∷ adds.1) in
      below (length t.mappings) (length u.mappings) (omega (arith, long)) u.blocks (step_front at image core x b.read.rest ys t u early b.read.read)

  met_lists : (w : Trail) → is_tree core fork ≡ true → walk_tree at image core fork ≡ Ok w → ((met_of at image core fork).mappings ≡ w.mappings) × ((met_of at image core fork).blocks ≡ w.blocks)
  unfolding met_of
  met_lists w tree h = (rw (tree, h) refl, rw (tree, h) refl)

  by_come : (pieces : List ForkPiece) (next : ℕ) → form_fault core fork ≡ None → is_tree core fork ≡ true → walk_fault at image core fork ≡ None → Come at image core fork next (all_mappings pieces) (all_blocks pieces) → LeavesRest at image core fork pieces next
  by_come pieces next form tree good c =
      let r = walk_tasks at image core 0 (c.task ∷ c.rest) c.trail in
      let same = whole_walk at image core fork r (c.task ∷ c.rest) c.trail c.count (border_leaves at image core 0 (first_tasks core fork 0) (c.task ∷ c.rest) start c.trail c.count c.border) refl in
      let whole = good_walk at image core fork form tree r same good in
      let w = whole.0 in
      let met = met_lists w tree (same ∙ whole.1) in
      let adds = rest_adds at image core c.task c.rest c.trail in
      let rest = tasks_rest at image core (c.task ∷ c.rest) c.trail in
      let first = some_first c.task.key adds.more (subst (λ (k : Result Trail Trail). FromKey c.task.key k adds.more) whole.1 adds.from_key) in
      let long : length c.trail.mappings ≡ length (all_mappings pieces) = ap length c.mappings in
      record {
        first = first.0;
        more = first.1;
        mappings_are = met.0 ∙ sym (ap met_by whole.1) ∙ adds.split ∙ (λ i. c.mappings i ++ first.2 i);
        begins = first.3 ∙ c.key;
        own = c.trail.blocks;
        later = rest.more;
        blocks_are = met.1 ∙ sym (ap blocks_by whole.1) ∙ rest.blocks;
        given = sym c.blocks;
        own_first = subst (λ n. Each (λ (b : TreeBlock). b.before < n) c.trail.blocks) long (border_front (c.task ∷ c.rest) c.trail c.count c.border);
        later_first = subst (λ n. From n rest.more) long rest.late;
      }

  off_rest : (pieces : List ForkPiece) (next : ℕ) → is_tree core fork ≡ false → Follow at image core fork (Some 0) pieces (Some next) → next ≡ 0
  off_rest [] next off h = sym (some_left 0 next h)
  off_rest (piece ∷ []) next off h = absurd (none_left next (sym (h.0.1 off).next ∙ h.1))
  off_rest (piece ∷ other ∷ pieces) next off h = absurd (subst (λ o. Follow at image core fork o (other ∷ pieces) (Some next)) (h.0.1 off).next h.1)

  pub leaves_rest : (pieces : List ForkPiece) (next : ℕ) → Follow at image core fork (Some 0) pieces (Some next) → 0 < next → walk_fault at image core fork ≡ None → LeavesRest at image core fork pieces next
  leaves_rest pieces next h some good = by_form (is_tree core fork) refl (form_first at image core fork pieces (Some next) h)
    where
      by_there : form_fault core fork ≡ None → is_tree core fork ≡ true → from_there at image core fork next (all_mappings pieces) (all_blocks pieces) → LeavesRest at image core fork pieces next
      by_there form tree (inl c) = by_come pieces next form tree good c
      by_there form tree (inr e) = let none = e.0 in absurd (omega (arith, none, some))

      by_form : (b : Bool) → is_tree core fork ≡ b → (◌≡◌ {A = Option ℕ} (Some next) (Some 0)) ⊎ (form_fault core fork ≡ None) → LeavesRest at image core fork pieces next
      by_form b e (inl none) = let zero_left = some_left next 0 none in absurd (omega (arith, zero_left, some))
      by_form true tree (inr form) = by_there form tree (follow_on at image core fork form tree pieces (Some 0) (Some next) [] [] (first_end at image core fork) h)
      by_form false off (inr form) = let none = off_rest pieces next off h in absurd (omega (arith, none, some))
