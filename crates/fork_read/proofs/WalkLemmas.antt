-- One task of a walk after the other.
use Rattle.std.proofs.Common.{◌≡◌, ℕ, zero, suc, ◌+◌, ◌-◌, ◌*◌, ◌<◌, ◌≤◌, Bool, true, false, List, [], ◌∷◌, ◌++◌, Option, Some, None, Result, Ok, Err, length, inl, inr, refl, ap, sym, subst, ◌∙◌, arith}
use Rattle.std.specs.Prelude.{◌&&◌, ◌||◌, nat_le, nat_lt, ◌==◌}
use Rattle.std.proofs.lemmas.Bool.{and_parts, cases_Bool, leb-true}
use Rattle.byte_fields.specs.Checksum.{has_sum}
use Rattle.byte_fields.specs.Fields.{field, has_uuid}
use Rattle.geom.specs.Layout.{Layout, blkno_of, device_block_of, split_of}
use Rattle.dinode_core.specs.declared.inode.Core3.{Core3}
use Rattle.dinode_core.specs.ForkTree.{Image, Trail, Last, Entry, entries, numrecs, first_key, is_fork_block, is_right, is_beside, ◌>>=◌, node_entries, leaf_mappings, with_mappings, walk_each}
use Rattle.fork_read.specs.declared.tasks.Task.{Task}
use Rattle.fork_read.specs.Stuck.{IsBorder}
use Rattle.fork_read.specs.Answers.{AllLow, HasRead, first_level}
use Rattle.fork_read.specs.Walk.{IsRead, Leaves, below_of, pruned, is_resumed, is_sound_from, read_at, passed_from, skipped_to, taken_in, walk_from, entry_of, tasks_of, walk_tasks}

part_five : (a b c d e f g h i j : Bool) → (a && b && c && d && e && f && g && h && i && j) ≡ true → e ≡ true
part_five a b c d e f g h i j p =
    let nine = (and_parts (a && b && c && d && e && f && g && h && i) j p).0 in
    let eight = (and_parts (a && b && c && d && e && f && g && h) i nine).0 in
    let seven = (and_parts (a && b && c && d && e && f && g) h eight).0 in
    let six = (and_parts (a && b && c && d && e && f) g seven).0 in
    let five = (and_parts (a && b && c && d && e) f six).0 in
    (and_parts (a && b && c && d) e five).1

part_four : (a b c d e f g h i j : Bool) → (a && b && c && d && e && f && g && h && i && j) ≡ true → d ≡ true
part_four a b c d e f g h i j p =
    let nine = (and_parts (a && b && c && d && e && f && g && h && i) j p).0 in
    let eight = (and_parts (a && b && c && d && e && f && g && h) i nine).0 in
    let seven = (and_parts (a && b && c && d && e && f && g) h eight).0 in
    let six = (and_parts (a && b && c && d && e && f) g seven).0 in
    let five = (and_parts (a && b && c && d && e) f six).0 in
    let four = (and_parts (a && b && c && d) e five).0 in
    (and_parts (a && b && c) d four).1

-- a sound block has a record
pub sound_some : (at : Layout) (core : Core3) (from level : ℕ) (last : Option Last) (e : Entry) (p : ℕ × ℕ) (bytes : List ℕ) → is_sound_from at core from level last e p bytes ≡ true → 1 ≤ numrecs bytes
unfolding is_sound_from is_right
sound_some at core from level last e p bytes h =
    let own = (and_parts (is_right at core level e p bytes) (is_resumed from last e.key || is_beside last e bytes) h).0 in
    leb-true 1 (numrecs bytes) (part_four (is_fork_block bytes) (nat_lt 0 p.1) (field 2 bytes 4 == level) (nat_le 1 (numrecs bytes)) (nat_le (numrecs bytes) 251) (field 8 bytes 24 == blkno_of at p.0 p.1) (field 8 bytes 56 == core.ino) (has_uuid bytes 40 at.uuid) (has_sum bytes 64) (first_key level bytes == e.key) own)

-- a sound block has no more records than it has room for
pub sound_count : (at : Layout) (core : Core3) (from level : ℕ) (last : Option Last) (e : Entry) (p : ℕ × ℕ) (bytes : List ℕ) → is_sound_from at core from level last e p bytes ≡ true → numrecs bytes ≤ 251
unfolding is_sound_from is_right
sound_count at core from level last e p bytes h =
    let own = (and_parts (is_right at core level e p bytes) (is_resumed from last e.key || is_beside last e bytes) h).0 in
    leb-true (numrecs bytes) 251 (part_five (is_fork_block bytes) (nat_lt 0 p.1) (field 2 bytes 4 == level) (nat_le 1 (numrecs bytes)) (nat_le (numrecs bytes) 251) (field 8 bytes 24 == blkno_of at p.0 p.1) (field 8 bytes 56 == core.ino) (has_uuid bytes 40 at.uuid) (has_sum bytes 64) (first_key level bytes == e.key) own)

pub nowhere : (at : Layout) (image : Image) (core : Core3) (from level : ℕ) (last : Option Last) (e : Entry) (place : Option (ℕ × ℕ)) → place ≡ None → read_at at image core from level last e place ≡ None
nowhere at image core from level last e place h = rw h refl

pub unsound : (at : Layout) (image : Image) (core : Core3) (from level : ℕ) (last : Option Last) (e : Entry) (place : Option (ℕ × ℕ)) (p : ℕ × ℕ) (bytes : List ℕ) → place ≡ Some p → bytes ≡ image (device_block_of at p.0 p.1) → is_sound_from at core from level last e p bytes ≡ false → read_at at image core from level last e place ≡ None
unsound at image core from level last e place p bytes h b s = rw (h, ← b, s) refl

pub sound : (at : Layout) (image : Image) (core : Core3) (from level : ℕ) (last : Option Last) (e : Entry) (place : Option (ℕ × ℕ)) (p : ℕ × ℕ) (bytes : List ℕ) → place ≡ Some p → bytes ≡ image (device_block_of at p.0 p.1) → is_sound_from at core from level last e p bytes ≡ true → read_at at image core from level last e place ≡ Some bytes
sound at image core from level last e place p bytes h b s = rw (h, ← b, s) refl

pub low_tasks : (level : ℕ) (es : List Entry) (xs : List Task) → level < 9 → AllLow xs → AllLow (tasks_of level es ++ xs)
low_tasks level [] xs low h = h
low_tasks level (e ∷ es) xs low h = (low, low_tasks level es xs low h)

module _ (at : Layout) (image : Image) (core : Core3) (from : ℕ) where
  abbrev place_of : Task → Option (ℕ × ℕ)
  place_of x = split_of at x.block

  abbrev pub found : Task → Trail → Option (List ℕ)
  found x t = read_at at image core from x.level (t.last x.level) (entry_of x) (place_of x)

  grouped : (r : Result Trail Trail) (f g : Trail → Result Trail Trail) → ((r >>= f) >>= g) ≡ (r >>= (λ t. f t >>= g))
  grouped (Ok t) f g = refl
  grouped (Err t) f g = refl

  -- the tasks of a node are its entries, one after the other
  pub each_then : (level : ℕ) (es : List Entry) (xs : List Task) (t : Trail) → walk_tasks at image core from (tasks_of level es ++ xs) t ≡ (walk_each (walk_from at image core from level) es t >>= walk_tasks at image core from xs)
  unfolding walk_tasks walk_each
  each_then level [] xs t = refl
  each_then level (e ∷ es) xs t =
      ap (λ (f : Trail → Result Trail Trail). walk_from at image core from level t e >>= f) (λ i u. each_then level es xs u i) ∙ sym (grouped (walk_from at image core from level t e) (walk_each (walk_from at image core from level) es) (walk_tasks at image core from xs))

  -- a block that isn't sound ends the walk
  pub bad_level : (level : ℕ) (e : Entry) (t : Trail) → read_at at image core from level (t.last level) e (split_of at e.block) ≡ None → walk_from at image core from level t e ≡ Err t
  unfolding walk_from
  bad_level zero e t h = rw h refl
  bad_level (suc level) e t h = rw h refl

  pub bad_block : (x : Task) (xs : List Task) (t : Trail) → found x t ≡ None → walk_tasks at image core from (x ∷ xs) t ≡ Err t
  unfolding walk_tasks
  bad_block x xs t h = rw (bad_level x.level (entry_of x) t h) refl

  -- a leaf gives its mappings
  pub leaf_level : (level : ℕ) (e : Entry) (t : Trail) (bytes : List ℕ) → level ≡ 0 → read_at at image core from level (t.last level) e (split_of at e.block) ≡ Some bytes → walk_from at image core from level t e ≡ Ok (with_mappings (leaf_mappings bytes) (passed_from from level e bytes t))
  unfolding walk_from
  leaf_level zero e t bytes low h = rw h refl
  leaf_level (suc level) e t bytes low h = absurd (omega (arith, low))

  pub leaf_block : (x : Task) (xs : List Task) (t u : Trail) (bytes : List ℕ) → x.level ≡ 0 → found x t ≡ Some bytes → u ≡ with_mappings (leaf_mappings bytes) (passed_from from x.level (entry_of x) bytes t) → walk_tasks at image core from (x ∷ xs) t ≡ walk_tasks at image core from xs u
  unfolding walk_tasks
  leaf_block x xs t u bytes low h e = rw (leaf_level x.level (entry_of x) t bytes low h, e) refl

  -- a node gives its entries
  pub node_level : (level : ℕ) (e : Entry) (t : Trail) (bytes : List ℕ) → 0 < level → read_at at image core from level (t.last level) e (split_of at e.block) ≡ Some bytes → walk_from at image core from level t e ≡ walk_each (walk_from at image core from (level - 1)) (pruned (skipped_to from (t.last level) e.key) (node_entries bytes)) (passed_from from level e bytes t)
  unfolding walk_from
  node_level zero e t bytes high h = absurd (omega (arith, high))
  node_level (suc level) e t bytes high h =
      let below : suc level - 1 ≡ level = omega arith in
      rw (below, h) refl

  pub node_block : (x : Task) (xs ys : List Task) (t u : Trail) (bytes : List ℕ) → 0 < x.level → found x t ≡ Some bytes → u ≡ passed_from from x.level (entry_of x) bytes t → ys ≡ tasks_of (x.level - 1) (pruned (skipped_to from (t.last x.level) x.key) (node_entries bytes)) ++ xs → walk_tasks at image core from (x ∷ xs) t ≡ walk_tasks at image core from ys u
  node_block x xs ys t u bytes high h e f =
      rw (e, f) (unfold walk_tasks in rw (node_level x.level (entry_of x) t bytes high h) (sym (each_then (x.level - 1) (pruned (skipped_to from (t.last x.level) x.key) (node_entries bytes)) xs (passed_from from x.level (entry_of x) bytes t))))

  nothing_below : (skipped level : ℕ) (bytes : List ℕ) → level ≡ 0 → below_of skipped level bytes ≡ []
  nothing_below skipped zero bytes low = refl
  nothing_below skipped (suc level) bytes low = absurd (omega (arith, low))

  entries_below : (skipped level : ℕ) (bytes : List ℕ) → 0 < level → below_of skipped level bytes ≡ tasks_of (level - 1) (pruned skipped (node_entries bytes))
  entries_below skipped zero bytes high = absurd (omega (arith, high))
  entries_below skipped (suc level) bytes high = let below : suc level - 1 ≡ level = omega arith in rw below refl

  pub taken_leaf : (level : ℕ) (e : Entry) (bytes : List ℕ) (t : Trail) → level ≡ 0 → taken_in from level e bytes t ≡ with_mappings (leaf_mappings bytes) (passed_from from level e bytes t)
  taken_leaf zero e bytes t low = refl
  taken_leaf (suc level) e bytes t low = absurd (omega (arith, low))

  pub taken_node : (level : ℕ) (e : Entry) (bytes : List ℕ) (t : Trail) → 0 < level → taken_in from level e bytes t ≡ passed_from from level e bytes t
  taken_node zero e bytes t high = absurd (omega (arith, high))
  taken_node (suc level) e bytes t high = refl

  pub leaf_read : (x : Task) (xs : List Task) (t u : Trail) (bytes : List ℕ) → x.level ≡ 0 → found x t ≡ Some bytes → u ≡ with_mappings (leaf_mappings bytes) (passed_from from x.level (entry_of x) bytes t) → IsRead at image core from x xs t xs u
  leaf_read x xs t u bytes low h e = record {
    bytes = bytes;
    found = h;
    tasks = sym (ap (λ ys. ys ++ xs) (nothing_below (skipped_to from (t.last x.level) x.key) x.level bytes low));
    taken = e ∙ sym (taken_leaf x.level (entry_of x) bytes t low);
  }

  pub node_read : (x : Task) (xs ys : List Task) (t u : Trail) (bytes : List ℕ) → 0 < x.level → found x t ≡ Some bytes → u ≡ passed_from from x.level (entry_of x) bytes t → ys ≡ tasks_of (x.level - 1) (pruned (skipped_to from (t.last x.level) x.key) (node_entries bytes)) ++ xs → IsRead at image core from x xs t ys u
  node_read x xs ys t u bytes high h e f = record {
    bytes = bytes;
    found = h;
    tasks = f ∙ sym (ap (λ zs. zs ++ xs) (entries_below (skipped_to from (t.last x.level) x.key) x.level bytes high));
    taken = e ∙ sym (taken_node x.level (entry_of x) bytes t high);
  }

  plus_one : (n : ℕ) → suc n ≡ n + 1
  plus_one n = omega arith

  -- no block is read yet
  pub leaves_first : (xs : List Task) (t : Trail) → Leaves at image core from xs t 0 xs t
  unfolding Leaves
  leaves_first xs t = (refl, refl)

  pub leaves_more : (xs all rest ys : List Task) (t u v : Trail) (n : ℕ) (x : Task) → all ≡ x ∷ rest → Leaves at image core from xs t n all u → IsRead at image core from x rest u ys v → Leaves at image core from xs t (suc n) ys v
  unfolding Leaves
  leaves_more xs all rest ys t u v n x e h r = record { task = x; rest = rest; trail = u; before = subst (λ zs. Leaves at image core from xs t n zs u) e h; read = r }

  pub leaves_next : (xs all rest ys : List Task) (t u v : Trail) (n : ℕ) (x : Task) → all ≡ x ∷ rest → Leaves at image core from xs t n all u → IsRead at image core from x rest u ys v → Leaves at image core from xs t (n + 1) ys v
  unfolding Leaves
  leaves_next xs all rest ys t u v n x e h r = subst (λ k. Leaves at image core from xs t k ys v) (plus_one n) (leaves_more xs all rest ys t u v n x e h r)

  -- some blocks, and then some more
  pub leaves_join : (xs ys zs : List Task) (t u v : Trail) (n m : ℕ) → Leaves at image core from xs t n ys u → Leaves at image core from ys u m zs v → Leaves at image core from xs t (n + m) zs v
  unfolding Leaves
  leaves_join xs ys zs t u v n zero h k =
      let same : n ≡ n + 0 = omega arith in
      subst (λ i. Leaves at image core from xs t i zs v) same (subst (λ ws. Leaves at image core from xs t n ws v) (sym k.0) (subst (λ w. Leaves at image core from xs t n ys w) (sym k.1) h))
  leaves_join xs ys zs t u v n (suc m) h k =
      let same : suc (n + m) ≡ n + suc m = omega arith in
      subst (λ i. Leaves at image core from xs t i zs v) same (leaves_more xs (k.task ∷ k.rest) k.rest zs t k.trail v (n + m) k.task refl (leaves_join xs ys (k.task ∷ k.rest) t u k.trail n m h k.before) k.read)

  -- the blocks up to a leaf's end
  pub border_leaves : (xs ys : List Task) (t u : Trail) (n : ℕ) → IsBorder at image core from xs t n ys u → Leaves at image core from xs t n ys u
  unfolding Leaves
  border_leaves xs ys t u n b = subst (λ k. Leaves at image core from xs t k ys u) (sym b.count) b.read

pub with_leaf : (bytes : List ℕ) (noted taken want : Trail) → noted ≡ want → taken ≡ with_mappings (leaf_mappings bytes) noted → taken ≡ with_mappings (leaf_mappings bytes) want
with_leaf bytes noted taken want e h = h ∙ ap (with_mappings (leaf_mappings bytes)) e

pub pushed_node : (skipped want level count : ℕ) (bytes : List ℕ) (old new : List Task) → skipped ≡ want → count ≡ numrecs bytes → new ≡ tasks_of level (pruned skipped (entries count 72 (72 + 8 * 251) bytes)) ++ old → new ≡ tasks_of level (pruned want (node_entries bytes)) ++ old
pushed_node skipped want level count bytes old new s e h =
    subst (λ n. new ≡ tasks_of level (pruned n (node_entries bytes)) ++ old) s (subst (λ n. new ≡ tasks_of level (pruned skipped (entries n 72 (72 + 8 * 251) bytes)) ++ old) e h)

-- what is first of a node's subtrees is one level below it
first_of : (level : ℕ) (es : List Entry) (old : List Task) → 0 < length es → first_level (tasks_of level es ++ old) ≡ level
first_of level [] old h = absurd (omega (arith, h))
first_of level (e ∷ es) old h = refl

pruned_some : (skipped : ℕ) (es : List Entry) → 0 < length es → 0 < length (pruned skipped es)
unfolding pruned
pruned_some skipped [] h = absurd (omega (arith, h))
pruned_some skipped (e ∷ []) h = omega arith
pruned_some skipped (e ∷ f ∷ es) h =
    elim (cases_Bool (nat_lt f.key skipped)) [
      | inl before ↦ rw before (pruned_some skipped (f ∷ es) (omega arith))
      | inr stays ↦ rw stays (omega arith)
    ]

entries_some : (n keys pointers : ℕ) (bytes : List ℕ) → 1 ≤ n → 0 < length (entries n keys pointers bytes)
unfolding entries
entries_some zero keys pointers bytes h = absurd (omega (arith, h))
entries_some (suc n) keys pointers bytes h = omega arith

pub pushed_falls : (skipped level : ℕ) (bytes : List ℕ) (old new : List Task) → 1 ≤ numrecs bytes → new ≡ tasks_of level (pruned skipped (node_entries bytes)) ++ old → first_level new ≡ level
pushed_falls skipped level bytes old new some e =
    ap first_level e ∙ first_of level (pruned skipped (node_entries bytes)) old (pruned_some skipped (node_entries bytes) (entries_some (numrecs bytes) 72 (72 + 8 * 251) bytes some))

pub pushed_low : (from level : ℕ) (bytes : List ℕ) (old new : List Task) → level < 9 → AllLow old → new ≡ tasks_of level (pruned from (node_entries bytes)) ++ old → AllLow new
pushed_low from level bytes old new low h e = subst AllLow (sym e) (low_tasks level (pruned from (node_entries bytes)) old low h)

-- the list of tasks is what is popped and the rest
pub none_popped : (at : Layout) (image : Image) (core : Core3) (from : ℕ) (xs : List Task) (t : Trail) → length xs ≡ 0 → walk_tasks at image core from xs t ≡ Ok t
unfolding walk_tasks
none_popped at image core from [] t h = refl
none_popped at image core from (x ∷ xs) t h = absurd (omega arith)

-- a subtree that was read is done
pub read_one : (at : Layout) (image : Image) (core : Core3) (from : ℕ) (x : Task) (all xs : List Task) (t : Trail) (read : Bool) (whole rest : Result Trail Trail) (u : Trail) → all ≡ x ∷ xs → whole ≡ walk_tasks at image core from all t → HasRead (walk_tasks at image core from (x ∷ xs) t) read rest u → HasRead whole read rest u
read_one at image core from x all xs t true whole rest u e h r = h ∙ ap (λ ys. walk_tasks at image core from ys t) e ∙ r
read_one at image core from x all xs t false whole rest u e h r = h ∙ ap (λ ys. walk_tasks at image core from ys t) e ∙ r
