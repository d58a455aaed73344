-- A piece from 0 on that leaves nothing is the whole fork.
use Rattle.std.proofs.Common.{◌≡◌, ℕ, zero, suc, ◌-◌, true, false, List, [], ◌∷◌, filter, Option, Some, None, Result, Ok, Err, refl, ap, sym, ◌∙◌, append-nil, arith}
use Rattle.std.specs.Prelude.{nat_lt, nat_le}
use Rattle.std.proofs.lemmas.Bool.Decides.{nat_tests}
use Rattle.geom.specs.Layout.{Layout, split_of}
use Rattle.dinode_core.specs.declared.inode.Core3.{Core3}
use Rattle.dinode_core.specs.declared.mapping.Fork.{Fork}
use Rattle.dinode_core.specs.declared.mapping.ForkFault.{ForkFault}
use Rattle.dinode_core.specs.declared.mapping.Mapping.{Mapping}
use Rattle.dinode_core.specs.Inline.{or_else, root_level}
use Rattle.dinode_core.specs.Shape.{area_of}
use Rattle.dinode_core.specs.ForkTree.{Image, Trail, Last, Entry, ◌>>=◌, sound_at, block_at, passed, with_mappings, leaf_mappings, node_entries, walk_each, walk_in, walk_block, walk_tree, root_entries, start}
use Rattle.fork_read.specs.Walk.{is_resumed, is_sound_from, pruned, read_at, passed_from, skipped_to, walk_from, tasks_of, walk_tasks, walk_all}
use Rattle.fork_read.proofs.WalkLemmas.{each_then}

nothing_below : (n : ℕ) → nat_lt n 0 ≡ false
nothing_below n = grind (arith, nat_tests)

all_above : (n : ℕ) → nat_le 0 n ≡ true
all_above n = grind (arith, nat_tests)

pub pruned_same : (es : List Entry) → pruned 0 es ≡ es
unfolding pruned
pruned_same [] = refl
pruned_same (e ∷ []) = refl
pruned_same (e ∷ next ∷ es) = rw (nothing_below next.key) refl

pub resumed_same : (last : Option Last) (key : ℕ) → is_resumed 0 last key ≡ false
resumed_same None key = nothing_below key
resumed_same (Some last) key = refl

pub passed_same : (level : ℕ) (e : Entry) (bytes : List ℕ) (t : Trail) → passed_from 0 level e bytes t ≡ passed level e bytes t
unfolding passed_from
passed_same level e bytes t = rw (resumed_same (t.last level) e.key) refl

pub skipped_same : (last : Option Last) (key : ℕ) → skipped_to 0 last key ≡ 0
skipped_same last key = rw (resumed_same last key) refl

-- from 0 on no entry of any block is passed by
pub entries_same : (last : Option Last) (key : ℕ) (es : List Entry) → pruned (skipped_to 0 last key) es ≡ es
entries_same last key es = ap (λ n. pruned n es) (skipped_same last key) ∙ pruned_same es

module _ (at : Layout) (image : Image) (core : Core3) where
  read_same : (level : ℕ) (last : Option Last) (e : Entry) (place : Option (ℕ × ℕ)) → read_at at image core 0 level last e place ≡ sound_at at image core level last e place
  unfolding is_sound_from
  read_same level last e None = refl
  read_same level last e (Some p) = rw (resumed_same last e.key) refl

  pub walk_same : (level : ℕ) (t : Trail) (e : Entry) → walk_from at image core 0 level t e ≡ walk_block at image core level t e
  unfolding walk_from walk_block block_at
  walk_same zero t e =
      λ i. walk_in (read_same zero (t.last zero) e (split_of at e.block) i) t (λ bytes. Ok (with_mappings (leaf_mappings bytes) (passed_same zero e bytes t i)))
  walk_same (suc level) t e =
      λ i. walk_in (read_same (suc level) (t.last (suc level)) e (split_of at e.block) i) t (λ bytes. walk_each (λ u x. walk_same level u x i) (entries_same (t.last (suc level)) e.key (node_entries bytes) i) (passed_same (suc level) e bytes t i))

  ends_ok : (r : Result Trail Trail) (f : Trail → Result Trail Trail) → ((t : Trail) → f t ≡ Ok t) → (r >>= f) ≡ r
  ends_ok (Ok t) f h = h t
  ends_ok (Err t) f h = refl

  no_tasks : (t : Trail) → walk_tasks at image core 0 [] t ≡ Ok t
  unfolding walk_tasks
  no_tasks t = refl

  -- from 0 on a walk is that of the whole btree
  pub tree_same : (fork : Fork) → walk_all at image core fork 0 ≡ walk_tree at image core fork
  unfolding walk_all walk_tree
  tree_same fork =
      let level = root_level (area_of core fork) - 1 in
      ap (λ es. walk_tasks at image core 0 (tasks_of level es) start) (pruned_same (root_entries core fork))
      ∙ ap (λ xs. walk_tasks at image core 0 xs start) (sym (append-nil (tasks_of level (root_entries core fork))))
      ∙ each_then at image core 0 level (root_entries core fork) [] start
      ∙ ends_ok (walk_each (walk_from at image core 0 level) (root_entries core fork) start) (walk_tasks at image core 0 []) no_tasks
      ∙ (λ i. walk_each (λ u x. walk_same level u x i) (root_entries core fork) start)

pub all_kept : (ms : List Mapping) → filter (λ m. nat_le 0 m.offset) ms ≡ ms
all_kept [] = refl
all_kept (m ∷ ms) = rw (all_above m.offset) (ap (λ xs. m ∷ xs) (all_kept ms))

pub some_none : (f : ForkFault) → ◌≡◌ {A = Option ForkFault} (Some f) None → ⊥
some_none f e = cc

key_none : (n : ℕ) → ◌≡◌ {A = Option ℕ} (Some n) None → ⊥
key_none n e = cc

pub else_parts : (o x : Option ForkFault) → or_else o x ≡ None → (o ≡ None) × (x ≡ None)
else_parts None x h = (refl, h)
else_parts (Some f) x h = absurd (some_none f h)
