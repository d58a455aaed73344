-- Where a walk of a btree stands: on each level the entry whose block was read last, and what is left.
use Rattle.std.proofs.Common.{◌≡◌, ℕ, zero, suc, ◌+◌, ◌*◌, ◌≤◌, Bool, true, false, List, [], ◌∷◌, ◌++◌, drop, Option, Some, None, refl, ap, sym, subst, ◌∙◌, inl, inr, append-nil, arith}
use Rattle.std.specs.Prelude.{◌⊎◌, ◌==◌, ◌&&◌, ◌||◌, nat_le, nat_lt, if◌then◌else◌}
use Rattle.std.proofs.lemmas.Bool.{and_parts, leb-true}
use Rattle.std.proofs.lemmas.Bool.Decides.{nat_tests}
use Rattle.std.proofs.lemmas.List.{append_assoc}
use Rattle.byte_fields.specs.Checksum.{has_sum}
use Rattle.byte_fields.specs.Fields.{field, has_uuid}
use Rattle.geom.specs.Layout.{Layout, blkno_of, device_block_of, split_of}
use Rattle.dinode_core.specs.declared.inode.Core3.{Core3}
use Rattle.dinode_core.specs.declared.mapping.Mapping.{Mapping}
use Rattle.dinode_core.specs.Packed.{unpacked}
use Rattle.dinode_core.specs.Inline.{mappings_in}
use Rattle.dinode_core.specs.ForkTree.{Image, Trail, Last, Entry, entries, first_key, is_beside, is_fork_block, is_right, leaf_mappings, node_entries, numrecs}
use Rattle.fork_read.specs.declared.tasks.Task.{Task}
use Rattle.fork_read.specs.Parts.{Each}
use Rattle.fork_read.specs.Walk.{IsRead, below_of, entry_of, is_resumed, is_sound_from, passed_from, read_at, skipped_to, taken_in, tasks_of}
use Rattle.fork_read.proofs.WholeLemmas.{entries_same}

-- one of these mappings begins at this offset
abbrev pub Holds : ℕ → List Mapping → Type 0
Holds k [] = ⊥
Holds k (m ∷ ms) = (m.offset ≡ k) ⊎ Holds k ms

pub holds_more : (k : ℕ) (xs ys : List Mapping) → Holds k xs → Holds k (xs ++ ys)
holds_more k [] ys h = absurd h
holds_more k (x ∷ xs) ys (inl h) = inl h
holds_more k (x ∷ xs) ys (inr h) = inr (holds_more k xs ys h)

pub holds_behind : (k : ℕ) (xs ys : List Mapping) → Holds k ys → Holds k (xs ++ ys)
holds_behind k [] ys h = h
holds_behind k (x ∷ xs) ys h = inr (holds_behind k xs ys h)

pub each_then : {A : Type 0} (P : A → Type 0) (xs ys : List A) → Each P xs → Each P ys → Each P (xs ++ ys)
each_then P [] ys h k = k
each_then P (x ∷ xs) ys h k = (h.0, each_then P xs ys h.1 k)

pub each_front : {A : Type 0} (P : A → Type 0) (xs ys : List A) → Each P (xs ++ ys) → Each P xs
each_front P [] ys h = tt
each_front P (x ∷ xs) ys h = (h.0, each_front P xs ys h.1)

pub each_back : {A : Type 0} (P : A → Type 0) (xs ys : List A) → Each P (xs ++ ys) → Each P ys
each_back P [] ys h = h
each_back P (x ∷ xs) ys h = each_back P xs ys h.1

pub each_weaker : {A : Type 0} (P Q : A → Type 0) → ((x : A) → P x → Q x) → (xs : List A) → Each P xs → Each Q xs
each_weaker P Q f [] h = tt
each_weaker P Q f (x ∷ xs) h = (f x h.0, each_weaker P Q f xs h.1)

some_same : (x : Bool) (b bytes : List ℕ) → (if x then Some b else None) ≡ Some bytes → (x ≡ true) × (b ≡ bytes)
some_same true b bytes h = (refl, cc)
some_same false b bytes h = cc

last_of_ten : (a b c d e f g h i j : Bool) → (a && b && c && d && e && f && g && h && i && j) ≡ true → j ≡ true
last_of_ten a b c d e f g h i j p = (and_parts (a && b && c && d && e && f && g && h && i) j p).1

fourth_of_ten : (a b c d e f g h i j : Bool) → (a && b && c && d && e && f && g && h && i && j) ≡ true → d ≡ true
fourth_of_ten a b c d e f g h i j p =
    let nine = (and_parts (a && b && c && d && e && f && g && h && i) j p).0 in
    let eight = (and_parts (a && b && c && d && e && f && g && h) i nine).0 in
    let seven = (and_parts (a && b && c && d && e && f && g) h eight).0 in
    let six = (and_parts (a && b && c && d && e && f) g seven).0 in
    let five = (and_parts (a && b && c && d && e) f six).0 in
    let four = (and_parts (a && b && c && d) e five).0 in
    (and_parts (a && b && c) d four).1

-- the mappings that stand in a block of this level
abbrev pub own_mappings : ℕ → List ℕ → List Mapping
own_mappings zero bytes = leaf_mappings bytes
own_mappings (suc level) bytes = []

module _ (at : Layout) (image : Image) (core : Core3) where
  -- the block of an entry, sound but for its siblings, and read last on its level
  pub record Reading (level : ℕ) (e : Entry) (bytes : List ℕ) (t : Trail) : Type 0 where
    pub place : ℕ × ℕ
    pub there : split_of at e.block ≡ Some place
    pub own : image (device_block_of at place.0 place.1) ≡ bytes
    pub right : is_right at core level e place bytes ≡ true
    pub last : t.last level ≡ Some (record { block = e.block; right = field 8 bytes 16 })

  pub read_parts : (from level : ℕ) (last : Option Last) (e : Entry) (place : Option (ℕ × ℕ)) (bytes : List ℕ) → read_at at image core from level last e place ≡ Some bytes → (p : ℕ × ℕ) × (place ≡ Some p) × (image (device_block_of at p.0 p.1) ≡ bytes) × (is_right at core level e p bytes ≡ true)
  unfolding is_sound_from
  read_parts from level last e None bytes h = cc
  read_parts from level last e (Some p) bytes h =
      let found = image (device_block_of at p.0 p.1) in
      let both = some_same (is_sound_from at core from level last e p found) found bytes h in
      let right = (and_parts (is_right at core level e p found) (is_resumed from last e.key || is_beside last e found) both.0).0 in
      (p, refl, both.1, subst (λ b. is_right at core level e p b ≡ true) both.1 right)

  -- what a right block begins with, and that it has a record
  pub key_same : (level : ℕ) (e : Entry) (p : ℕ × ℕ) (bytes : List ℕ) → is_right at core level e p bytes ≡ true → first_key level bytes ≡ e.key
  unfolding is_right
  key_same level e p bytes h =
      let test = last_of_ten (is_fork_block bytes) (nat_lt 0 p.1) (field 2 bytes 4 == level) (nat_le 1 (numrecs bytes)) (nat_le (numrecs bytes) 251) (field 8 bytes 24 == blkno_of at p.0 p.1) (field 8 bytes 56 == core.ino) (has_uuid bytes 40 at.uuid) (has_sum bytes 64) (first_key level bytes == e.key) h in
      grind (arith, nat_tests, test)

  pub has_one : (level : ℕ) (e : Entry) (p : ℕ × ℕ) (bytes : List ℕ) → is_right at core level e p bytes ≡ true → 1 ≤ numrecs bytes
  unfolding is_right
  has_one level e p bytes h =
      leb-true 1 (numrecs bytes) (fourth_of_ten (is_fork_block bytes) (nat_lt 0 p.1) (field 2 bytes 4 == level) (nat_le 1 (numrecs bytes)) (nat_le (numrecs bytes) 251) (field 8 bytes 24 == blkno_of at p.0 p.1) (field 8 bytes 56 == core.ino) (has_uuid bytes 40 at.uuid) (has_sum bytes 64) (first_key level bytes == e.key) h)

  -- a leaf begins with a mapping at its key, and a node with an entry of its key
  some_mappings : (n : ℕ) (bytes : List ℕ) → 1 ≤ n → (rest : List Mapping) × (mappings_in n bytes ≡ unpacked bytes ∷ rest)
  unfolding mappings_in
  some_mappings zero bytes h = absurd (omega (arith, h))
  some_mappings (suc n) bytes h = (mappings_in n (drop 16 bytes), refl)

  pub leaf_begins : (e : Entry) (p : ℕ × ℕ) (bytes : List ℕ) → is_right at core zero e p bytes ≡ true → (m : Mapping) × (rest : List Mapping) × (leaf_mappings bytes ≡ m ∷ rest) × (m.offset ≡ e.key)
  leaf_begins e p bytes h =
      let some = some_mappings (numrecs bytes) (drop 72 bytes) (has_one zero e p bytes h) in
      (unpacked (drop 72 bytes), some.0, some.1, key_same zero e p bytes h)

  some_entries : (n keys pointers : ℕ) (bytes : List ℕ) → 1 ≤ n → (e : Entry) × (rest : List Entry) × (entries n keys pointers bytes ≡ e ∷ rest) × (e.key ≡ field 8 bytes keys)
  unfolding entries
  some_entries zero keys pointers bytes h = absurd (omega (arith, h))
  some_entries (suc n) keys pointers bytes h = (record { key = field 8 bytes keys; block = field 8 bytes pointers }, entries n (keys + 8) (pointers + 8) bytes, refl, refl)

  pub node_begins : (level : ℕ) (e : Entry) (p : ℕ × ℕ) (bytes : List ℕ) → is_right at core (suc level) e p bytes ≡ true → (f : Entry) × (rest : List Entry) × (node_entries bytes ≡ f ∷ rest) × (f.key ≡ e.key)
  node_begins level e p bytes h =
      let some = some_entries (numrecs bytes) 72 (72 + 8 * 251) bytes (has_one (suc level) e p bytes h) in
      (some.0, some.1, some.2, some.3 ∙ key_same (suc level) e p bytes h)

  -- what one block more does to a trail
  pub record Took (level : ℕ) (e : Entry) (bytes : List ℕ) (t u : Trail) : Type 0 where
    pub reading : Reading level e bytes u
    pub mappings : u.mappings ≡ t.mappings ++ own_mappings level bytes
    pub others : (l : ℕ) → (l == level) ≡ false → u.last l ≡ t.last l

  same_level : (level : ℕ) → (level == level) ≡ true
  same_level level = grind (arith, nat_tests)

  taken_mappings : (from level : ℕ) (e : Entry) (bytes : List ℕ) (t : Trail) → (taken_in from level e bytes t).mappings ≡ t.mappings ++ own_mappings level bytes
  unfolding passed_from
  taken_mappings from zero e bytes t = refl
  taken_mappings from (suc level) e bytes t = sym (append-nil t.mappings)

  taken_last : (from level : ℕ) (e : Entry) (bytes : List ℕ) (t : Trail) (l : ℕ) → (taken_in from level e bytes t).last l ≡ (if l == level then Some (record { block = e.block; right = field 8 bytes 16 }) else t.last l)
  unfolding passed_from
  taken_last from zero e bytes t l = refl
  taken_last from (suc level) e bytes t l = refl

  pub took : (from : ℕ) (x : Task) (xs ys : List Task) (t u : Trail) → (r : IsRead at image core from x xs t ys u) → Took x.level (entry_of x) r.bytes t u
  took from x xs ys t u r =
      let parts = read_parts from x.level (t.last x.level) (entry_of x) (split_of at x.block) r.bytes r.found in
      let last : (l : ℕ) → u.last l ≡ (if l == x.level then Some (record { block = x.block; right = field 8 r.bytes 16 }) else t.last l) = λ l. ap (λ (v : Trail). v.last l) r.taken ∙ taken_last from x.level (entry_of x) r.bytes t l in
      record {
        reading = record { place = parts.0; there = parts.1; own = parts.2; right = parts.3; last = last x.level ∙ rw (same_level x.level) refl };
        mappings = ap (λ (v : Trail). v.mappings) r.taken ∙ taken_mappings from x.level (entry_of x) r.bytes t;
        others = λ l other. last l ∙ rw other refl;
      }

  -- a list of entries of which some subtrees are read
  pub record Split (es : List Entry) (ms : List Mapping) : Type 0 where
    pub left : List Entry
    pub here : Entry
    pub right : List Entry
    pub split : es ≡ left ++ here ∷ right
    pub met : Each (λ (e : Entry). Holds e.key ms) left

  pub record InLeaf (es : List Entry) (t : Trail) (tasks : List Task) : Type 0 where
    pub parts : Split es t.mappings
    pub bytes : List ℕ
    pub reading : Reading zero parts.here bytes t
    pub held : Holds parts.here.key t.mappings
    pub tasks_are : tasks ≡ tasks_of zero parts.right

  pub record InNode (level : ℕ) (Below : List Entry → Trail → List Task → Type 0) (es : List Entry) (t : Trail) (tasks : List Task) : Type 0 where
    pub parts : Split es t.mappings
    pub bytes : List ℕ
    pub reading : Reading (suc level) parts.here bytes t
    pub inner : List Task
    pub below : Below (node_entries bytes) t inner
    pub tasks_are : tasks ≡ inner ++ tasks_of (suc level) parts.right

  -- of these entries' subtrees none is read yet, or some are
  abbrev pub Stands : ℕ → List Entry → Trail → List Task → Type 0
  Stands zero es t tasks = (tasks ≡ tasks_of zero es) ⊎ InLeaf es t tasks
  Stands (suc level) es t tasks = (tasks ≡ tasks_of (suc level) es) ⊎ InNode level (Stands level) es t tasks

  -- the leaf that was read last
  pub record AtLeaf (es : List Entry) (t : Trail) (tasks : List Task) : Type 0 where
    pub leaf : InLeaf es t tasks
    pub front : List Mapping
    pub tail : t.mappings ≡ front ++ leaf_mappings leaf.bytes

  -- the last block that was read is a leaf
  abbrev pub Deep : ℕ → List Entry → Trail → List Task → Type 0
  Deep zero es t tasks = AtLeaf es t tasks
  Deep (suc level) es t tasks = InNode level (Deep level) es t tasks

  fresh : (level : ℕ) (es : List Entry) (t : Trail) (tasks : List Task) → tasks ≡ tasks_of level es → Stands level es t tasks
  fresh zero es t tasks h = inl h
  fresh (suc level) es t tasks h = inl h

  -- the first subtree is that of the first entry
  pub first_task : (level : ℕ) (es : List Entry) (x : Task) (xs : List Task) → (x ∷ xs) ≡ tasks_of level es → (e : Entry) × (right : List Entry) × (es ≡ e ∷ right) × (x ≡ record { level = level; key = e.key; block = e.block }) × (xs ≡ tasks_of level right)
  first_task level [] x xs h = cc
  first_task level (e ∷ es) x xs h = (e, es, refl, cc, cc)

  met_more : (es : List Entry) (old new more : List Mapping) → new ≡ old ++ more → Each (λ (e : Entry). Holds e.key old) es → Each (λ (e : Entry). Holds e.key new) es
  met_more es old new more e h = each_weaker (λ (x : Entry). Holds x.key old) (λ (x : Entry). Holds x.key new) (λ x k. subst (Holds x.key) (sym e) (holds_more x.key old more k)) es h

  holds_begin : (k : ℕ) (old new ms : List Mapping) (m : Mapping) (rest : List Mapping) → new ≡ old ++ ms → ms ≡ m ∷ rest → m.offset ≡ k → Holds k new
  holds_begin k old new ms m rest e b h = subst (Holds k) (sym e) (holds_behind k old ms (subst (Holds k) (sym b) (inl h)))

  -- a leaf is read
  begin_leaf : (es left right : List Entry) (e : Entry) (xs ys : List Task) (t u : Trail) → es ≡ left ++ e ∷ right → Each (λ (x : Entry). Holds x.key t.mappings) left → xs ≡ tasks_of zero right → IsRead at image core 0 (record { level = zero; key = e.key; block = e.block }) xs t ys u → AtLeaf es u ys
  begin_leaf es left right e xs ys t u split met rest r =
      let x : Task = record { level = zero; key = e.key; block = e.block } in
      let one = took 0 x xs ys t u r in
      let first = leaf_begins e one.reading.place r.bytes one.reading.right in
      record {
        leaf = record {
          parts = record { left = left; here = e; right = right; split = split; met = met_more left t.mappings u.mappings (leaf_mappings r.bytes) one.mappings met };
          bytes = r.bytes;
          reading = one.reading;
          held = holds_begin e.key t.mappings u.mappings (leaf_mappings r.bytes) first.0 first.1 one.mappings first.2 first.3;
          tasks_are = r.tasks ∙ rest;
        };
        front = t.mappings;
        tail = one.mappings;
      }

  -- a node is read
  begin_node : (level : ℕ) (es left right : List Entry) (e : Entry) (xs ys : List Task) (t u : Trail) → es ≡ left ++ e ∷ right → Each (λ (x : Entry). Holds x.key t.mappings) left → xs ≡ tasks_of (suc level) right → IsRead at image core 0 (record { level = suc level; key = e.key; block = e.block }) xs t ys u → InNode level (Stands level) es u ys
  begin_node level es left right e xs ys t u split met rest r =
      let x : Task = record { level = suc level; key = e.key; block = e.block } in
      let one = took 0 x xs ys t u r in
      let all = entries_same (t.last (suc level)) e.key (node_entries r.bytes) in
      record {
        parts = record { left = left; here = e; right = right; split = split; met = met_more left t.mappings u.mappings [] one.mappings met };
        bytes = r.bytes;
        reading = one.reading;
        inner = tasks_of level (node_entries r.bytes);
        below = fresh level (node_entries r.bytes) u (tasks_of level (node_entries r.bytes)) refl;
        tasks_are = r.tasks ∙ (λ i. tasks_of level (all i) ++ rest i);
      }

  begin : (level : ℕ) (es left right : List Entry) (e : Entry) (xs ys : List Task) (t u : Trail) → es ≡ left ++ e ∷ right → Each (λ (x : Entry). Holds x.key t.mappings) left → xs ≡ tasks_of level right → IsRead at image core 0 (record { level = level; key = e.key; block = e.block }) xs t ys u → Stands level es u ys
  begin zero es left right e xs ys t u split met rest r = inr (begin_leaf es left right e xs ys t u split met rest r).leaf
  begin (suc level) es left right e xs ys t u split met rest r = inr (begin_node level es left right e xs ys t u split met rest r)

  -- the next entry of a list
  next_split : (es left right rest : List Entry) (here e : Entry) → es ≡ left ++ here ∷ right → right ≡ e ∷ rest → es ≡ (left ++ here ∷ []) ++ e ∷ rest
  next_split es left right rest here e split h = split ∙ ap (λ xs. left ++ here ∷ xs) h ∙ sym (append_assoc left (here ∷ []) (e ∷ rest))

  nothing_first : (xs ys : List Task) → [] ≡ xs ++ ys → xs ≡ []
  nothing_first [] ys h = refl
  nothing_first (x ∷ xs) ys h = cc

  none_begun : (level : ℕ) (es rest : List Entry) (e : Entry) → es ≡ e ∷ rest → ◌≡◌ {A = List Task} [] (tasks_of level es) → ⊥
  none_begun level [] rest e h k = cc
  none_begun level (x ∷ es) rest e h k = cc

  -- the first entry of a list is met, once its first leaf is read
  by_left : (es rest left right : List Entry) (e here : Entry) (ms : List Mapping) → es ≡ e ∷ rest → es ≡ left ++ here ∷ right → Each (λ (x : Entry). Holds x.key ms) left → (here ≡ e → Holds e.key ms) → Holds e.key ms
  by_left es rest [] right e here ms h split met own = own cc
  by_left es rest (a ∷ left) right e here ms h split met own =
      let same : a ≡ e = cc in
      subst (λ (x : Entry). Holds x.key ms) same met.0

  done_first : (level : ℕ) (es rest : List Entry) (e : Entry) (t : Trail) → Stands level es t [] → es ≡ e ∷ rest → Holds e.key t.mappings
  done_first zero es rest e t (inl h) k = absurd (none_begun zero es rest e k h)
  done_first zero es rest e t (inr s) k =
      by_left es rest s.parts.left s.parts.right e s.parts.here t.mappings k s.parts.split s.parts.met (λ same. subst (λ (x : Entry). Holds x.key t.mappings) same s.held)
  done_first (suc level) es rest e t (inl h) k = absurd (none_begun (suc level) es rest e k h)
  done_first (suc level) es rest e t (inr s) k =
      let first = node_begins level s.parts.here s.reading.place s.bytes s.reading.right in
      let none = nothing_first s.inner (tasks_of (suc level) s.parts.right) s.tasks_are in
      let below = done_first level (node_entries s.bytes) first.1 first.0 t (subst (Stands level (node_entries s.bytes) t) none s.below) first.2 in
      by_left es rest s.parts.left s.parts.right e s.parts.here t.mappings k s.parts.split s.parts.met (λ same. subst (λ n. Holds n t.mappings) (first.3 ∙ ap (λ (x : Entry). x.key) same) below)

  pub deep_first : (level : ℕ) (es rest : List Entry) (tasks : List Task) (e : Entry) (t : Trail) → Deep level es t tasks → es ≡ e ∷ rest → Holds e.key t.mappings
  deep_first zero es rest tasks e t s k =
      by_left es rest s.leaf.parts.left s.leaf.parts.right e s.leaf.parts.here t.mappings k s.leaf.parts.split s.leaf.parts.met (λ same. subst (λ (x : Entry). Holds x.key t.mappings) same s.leaf.held)
  deep_first (suc level) es rest tasks e t s k =
      let first = node_begins level s.parts.here s.reading.place s.bytes s.reading.right in
      let below = deep_first level (node_entries s.bytes) first.1 s.inner first.0 t s.below first.2 in
      by_left es rest s.parts.left s.parts.right e s.parts.here t.mappings k s.parts.split s.parts.met (λ same. subst (λ n. Holds n t.mappings) (first.3 ∙ ap (λ (x : Entry). x.key) same) below)

  -- no subtree that is left is above the list
  own_level : (level : ℕ) (es : List Entry) (x : Task) (xs : List Task) → (x ∷ xs) ≡ tasks_of level es → x.level ≡ level
  own_level level es x xs h = let f = first_task level es x xs h in ap (λ (y : Task). y.level) f.3

  below_level : (level : ℕ) (es : List Entry) (t : Trail) (x : Task) (xs : List Task) → Stands level es t (x ∷ xs) → x.level ≤ level
  below_level zero es t x xs (inl h) = omega (arith, own_level zero es x xs h)
  below_level zero es t x xs (inr s) = omega (arith, own_level zero s.parts.right x xs s.tasks_are)
  below_level (suc level) es t x xs (inl h) = omega (arith, own_level (suc level) es x xs h)
  below_level (suc level) es t x xs (inr s) = by_inner s.inner (below_level level (node_entries s.bytes) t) s.below s.tasks_are
    where
      by_inner : (inner : List Task) → ((y : Task) (ys : List Task) → Stands level (node_entries s.bytes) t (y ∷ ys) → y.level ≤ level) → Stands level (node_entries s.bytes) t inner → (x ∷ xs) ≡ inner ++ tasks_of (suc level) s.parts.right → x.level ≤ suc level
      by_inner [] low below h = omega (arith, own_level (suc level) s.parts.right x xs h)
      by_inner (y ∷ inner) low below h =
          let less = low y inner below in
          let same : y ≡ x = cc in
          omega (arith, less, ap (λ (z : Task). z.level) same)

  keep : (level : ℕ) (e : Entry) (bytes : List ℕ) (t u : Trail) → u.last level ≡ t.last level → Reading level e bytes t → Reading level e bytes u
  keep level e bytes t u h r = record { place = r.place; there = r.there; own = r.own; right = r.right; last = h ∙ r.last }

  -- the same block is read, with less behind it
  fewer : (x : Task) (xs inner ys : List Task) (t u : Trail) → (r : IsRead at image core 0 x xs t ys u) → IsRead at image core 0 x inner t (below_of (skipped_to 0 (t.last x.level) x.key) x.level r.bytes ++ inner) u
  fewer x xs inner ys t u r = record { bytes = r.bytes; found = r.found; tasks = refl; taken = r.taken }

  other_level : (level other : ℕ) → other ≤ level → (suc level == other) ≡ false
  other_level level other h = grind (arith, nat_tests)

  module _ (level : ℕ) (es : List Entry) (t u : Trail) (x : Task) (xs ys : List Task) (r : IsRead at image core 0 x xs t ys u) where
    -- a block below an entry is read
    carry : (Old New : List Entry → Trail → List Task → Type 0) (s : InNode level Old es t (x ∷ xs)) (inner : List Task) → xs ≡ inner ++ tasks_of (suc level) s.parts.right → x.level ≤ level → New (node_entries s.bytes) u (below_of (skipped_to 0 (t.last x.level) x.key) x.level r.bytes ++ inner) → InNode level New es u ys
    carry Old New s inner e low below =
        let one = took 0 x xs ys t u r in
        record {
          parts = record { left = s.parts.left; here = s.parts.here; right = s.parts.right; split = s.parts.split; met = met_more s.parts.left t.mappings u.mappings (own_mappings x.level r.bytes) one.mappings s.parts.met };
          bytes = s.bytes;
          reading = keep (suc level) s.parts.here s.bytes t u (one.others (suc level) (other_level level x.level low)) s.reading;
          inner = below_of (skipped_to 0 (t.last x.level) x.key) x.level r.bytes ++ inner;
          below = below;
          tasks_are = r.tasks ∙ ap (λ zs. below_of (skipped_to 0 (t.last x.level) x.key) x.level r.bytes ++ zs) e ∙ sym (append_assoc (below_of (skipped_to 0 (t.last x.level) x.key) x.level r.bytes) inner (tasks_of (suc level) s.parts.right));
        }

  -- the next entry of a list is read
  begin_next : (level : ℕ) (es left right : List Entry) (here : Entry) (x : Task) (xs ys : List Task) (t u : Trail) → es ≡ left ++ here ∷ right → Each (λ (y : Entry). Holds y.key t.mappings) left → Holds here.key t.mappings → (x ∷ xs) ≡ tasks_of level right → IsRead at image core 0 x xs t ys u → Stands level es u ys
  begin_next level es left right here x xs ys t u split met held h r =
      let f = first_task level right x xs h in
      begin level es (left ++ here ∷ []) f.1 f.0 xs ys t u (next_split es left right f.1 here f.0 split f.2) (each_then (λ (y : Entry). Holds y.key t.mappings) left (here ∷ []) met (held, tt)) f.4 (subst (λ (y : Task). IsRead at image core 0 y xs t ys u) f.3 r)

  begin_first : (level : ℕ) (es : List Entry) (x : Task) (xs ys : List Task) (t u : Trail) → (x ∷ xs) ≡ tasks_of level es → IsRead at image core 0 x xs t ys u → Stands level es u ys
  begin_first level es x xs ys t u h r =
      let f = first_task level es x xs h in
      begin level es [] f.1 f.0 xs ys t u f.2 tt f.4 (subst (λ (y : Task). IsRead at image core 0 y xs t ys u) f.3 r)

  -- where a walk stands after one block more
  pub stands_on : (level : ℕ) (es : List Entry) (t u : Trail) (x : Task) (xs ys : List Task) → Stands level es t (x ∷ xs) → IsRead at image core 0 x xs t ys u → Stands level es u ys
  stands_on zero es t u x xs ys (inl h) r = begin_first zero es x xs ys t u h r
  stands_on zero es t u x xs ys (inr s) r = begin_next zero es s.parts.left s.parts.right s.parts.here x xs ys t u s.parts.split s.parts.met s.held s.tasks_are r
  stands_on (suc level) es t u x xs ys (inl h) r = begin_first (suc level) es x xs ys t u h r
  stands_on (suc level) es t u x xs ys (inr s) r = by_inner s.inner (stands_on level (node_entries s.bytes) t u x) s.below s.tasks_are
    where
      by_inner : (inner : List Task) → ((ws zs : List Task) → Stands level (node_entries s.bytes) t (x ∷ ws) → IsRead at image core 0 x ws t zs u → Stands level (node_entries s.bytes) u zs) → Stands level (node_entries s.bytes) t inner → (x ∷ xs) ≡ inner ++ tasks_of (suc level) s.parts.right → Stands (suc level) es u ys
      by_inner [] goes below h =
          let first = node_begins level s.parts.here s.reading.place s.bytes s.reading.right in
          let held = subst (λ n. Holds n t.mappings) first.3 (done_first level (node_entries s.bytes) first.1 first.0 t below first.2) in
          begin_next (suc level) es s.parts.left s.parts.right s.parts.here x xs ys t u s.parts.split s.parts.met held h r
      by_inner (y ∷ inner) goes below h =
          let same : y ≡ x = cc in
          let here = subst (λ (z : Task). Stands level (node_entries s.bytes) t (z ∷ inner)) same below in
          let rest : xs ≡ inner ++ tasks_of (suc level) s.parts.right = cc in
          inr (carry level es t u x xs ys r (Stands level) (Stands level) s inner rest (below_level level (node_entries s.bytes) t x inner here) (goes inner (below_of (skipped_to 0 (t.last x.level) x.key) x.level r.bytes ++ inner) here (fewer x xs inner ys t u r)))

  leaf_first : (es left : List Entry) (x : Task) (xs ys : List Task) (t u : Trail) (all : List Entry) → all ≡ left ++ es → Each (λ (y : Entry). Holds y.key t.mappings) left → (x ∷ xs) ≡ tasks_of zero es → IsRead at image core 0 x xs t ys u → AtLeaf all u ys
  leaf_first es left x xs ys t u all split met h r =
      let f = first_task zero es x xs h in
      begin_leaf all left f.1 f.0 xs ys t u (split ∙ ap (λ zs. left ++ zs) f.2) met f.4 (subst (λ (y : Task). IsRead at image core 0 y xs t ys u) f.3 r)

  -- where a walk stands after a leaf
  pub deep_on : (level : ℕ) (es : List Entry) (t u : Trail) (x : Task) (xs ys : List Task) → Stands level es t (x ∷ xs) → IsRead at image core 0 x xs t ys u → x.level ≡ 0 → Deep level es u ys
  deep_on zero es t u x xs ys (inl h) r low = leaf_first es [] x xs ys t u es refl tt h r
  deep_on zero es t u x xs ys (inr s) r low =
      leaf_first s.parts.right (s.parts.left ++ s.parts.here ∷ []) x xs ys t u es (s.parts.split ∙ sym (append_assoc s.parts.left (s.parts.here ∷ []) s.parts.right)) (each_then (λ (y : Entry). Holds y.key t.mappings) s.parts.left (s.parts.here ∷ []) s.parts.met (s.held, tt)) s.tasks_are r
  deep_on (suc level) es t u x xs ys (inl h) r low = absurd (omega (arith, low, own_level (suc level) es x xs h))
  deep_on (suc level) es t u x xs ys (inr s) r low = by_inner s.inner (deep_on level (node_entries s.bytes) t u x) s.below s.tasks_are
    where
      by_inner : (inner : List Task) → ((ws zs : List Task) → Stands level (node_entries s.bytes) t (x ∷ ws) → IsRead at image core 0 x ws t zs u → x.level ≡ 0 → Deep level (node_entries s.bytes) u zs) → Stands level (node_entries s.bytes) t inner → (x ∷ xs) ≡ inner ++ tasks_of (suc level) s.parts.right → Deep (suc level) es u ys
      by_inner [] goes below h = absurd (omega (arith, low, own_level (suc level) s.parts.right x xs h))
      by_inner (y ∷ inner) goes below h =
          let same : y ≡ x = cc in
          let here = subst (λ (z : Task). Stands level (node_entries s.bytes) t (z ∷ inner)) same below in
          let rest : xs ≡ inner ++ tasks_of (suc level) s.parts.right = cc in
          carry level es t u x xs ys r (Stands level) (Deep level) s inner rest (below_level level (node_entries s.bytes) t x inner here) (goes inner (below_of (skipped_to 0 (t.last x.level) x.key) x.level r.bytes ++ inner) here (fewer x xs inner ys t u r) low)
