-- From where a piece ended, the next one comes to the same subtrees by the way down.
use Rattle.std.proofs.Common.{◌≡◌, ℕ, zero, suc, ◌+◌, ◌<◌, ◌≤◌, true, false, List, [], ◌∷◌, ◌++◌, Option, Some, None, refl, ap, sym, subst, ◌∙◌, inl, inr, arith}
use Rattle.std.specs.Prelude.{◌⊎◌, ◌==◌, ◌&&◌, ◌||◌, nat_le, nat_lt, if◌then◌else◌}
use Rattle.std.proofs.lemmas.Bool.{cases_Bool}
use Rattle.std.proofs.lemmas.Bool.Decides.{nat_tests}
use Rattle.std.proofs.lemmas.List.{append_assoc}
use Rattle.byte_fields.specs.Fields.{field}
use Rattle.geom.specs.Layout.{Layout, split_of}
use Rattle.dinode_core.specs.declared.inode.Core3.{Core3}
use Rattle.dinode_core.specs.declared.mapping.Mapping.{Mapping}
use Rattle.dinode_core.specs.ForkTree.{Image, Trail, Last, Entry, is_beside, is_right, leaf_mappings, node_entries}
use Rattle.fork_read.specs.declared.tasks.Task.{Task}
use Rattle.fork_read.specs.Parts.{Each}
use Rattle.fork_read.specs.Walk.{IsRead, Leaves, is_passed, is_resumed, is_sound_from, passed_from, pruned, read_at, skipped_to, taken_in, tasks_of}
use Rattle.fork_read.proofs.StandLemmas.{Deep, Holds, Reading, deep_first, each_back, each_front, each_weaker, leaf_begins, node_begins}
use Rattle.fork_read.proofs.WalkLemmas.{leaves_first, leaves_join, leaves_more, sound}

before_test : (key from : ℕ) → key < from → nat_lt key from ≡ true
before_test key from h = grind (arith, nat_tests)

behind_test : (key from : ℕ) → from ≤ key → nat_lt key from ≡ false
behind_test key from h = grind (arith, nat_tests)

-- the subtrees before the one that holds the last leaf are passed by
not_passed : (from level : ℕ) (right : List Entry) → Each (λ (t : Task). from ≤ t.key) (tasks_of level right) → is_passed from right ≡ false
not_passed from level [] h = refl
not_passed from level (e ∷ es) h = behind_test e.key from h.0

stays : (from level : ℕ) (here : Entry) (right : List Entry) → Each (λ (t : Task). from ≤ t.key) (tasks_of level right) → pruned from (here ∷ right) ≡ here ∷ right
unfolding pruned
stays from level here right h = rw (not_passed from level right h) refl

pub pruned_path : (from level : ℕ) (left : List Entry) (here : Entry) (right : List Entry) → Each (λ (e : Entry). e.key < from) left → here.key < from → Each (λ (t : Task). from ≤ t.key) (tasks_of level right) → pruned from (left ++ here ∷ right) ≡ here ∷ right
unfolding pruned
pruned_path from level [] here right l e h = stays from level here right h
pruned_path from level (x ∷ []) here right l e h = rw (before_test here.key from e) (stays from level here right h)
pruned_path from level (x ∷ y ∷ left) here right l e h = rw (before_test y.key from l.1.0) (pruned_path from level (y ∷ left) here right l.1 e h)

le_cases : (l level : ℕ) → l ≤ suc level → (l ≤ level) ⊎ (l ≡ suc level)
le_cases l level h = elim (cases_Bool (nat_le l level)) [ inl a ↦ inl (grind (arith, nat_tests, a)) | inr b ↦ inr (grind (arith, nat_tests, b, h)) ]

module _ (at : Layout) (image : Image) (core : Core3) (from : ℕ) where
  read_resumed : (level : ℕ) (last : Option Last) (e : Entry) (bytes : List ℕ) (t : Trail) → last ≡ None → e.key < from → Reading at image core level e bytes t → read_at at image core from level last e (split_of at e.block) ≡ Some bytes
  unfolding is_sound_from
  read_resumed level last e bytes t none before r =
      let tested : (is_right at core level e r.place bytes && (is_resumed from last e.key || is_beside last e bytes)) ≡ true = rw (none, r.right, before_test e.key from before) refl in
      sound at image core from level last e (split_of at e.block) r.place bytes r.there (sym r.own) tested

  -- an entry whose block an earlier piece has read
  resumed_now : (last : Option Last) (key : ℕ) → last ≡ None → key < from → is_resumed from last key ≡ true
  resumed_now last key none before = rw (none, before_test key from before) refl

  blocks_stay : (level : ℕ) (e : Entry) (bytes : List ℕ) (t : Trail) → is_resumed from (t.last level) e.key ≡ true → (taken_in from level e bytes t).blocks ≡ t.blocks
  unfolding passed_from
  blocks_stay zero e bytes t h = rw h refl
  blocks_stay (suc level) e bytes t h = rw h refl

  last_now : (level : ℕ) (e : Entry) (bytes : List ℕ) (t : Trail) (l : ℕ) → (taken_in from level e bytes t).last l ≡ (if l == level then Some (record { block = e.block; right = field 8 bytes 16 }) else t.last l)
  unfolding passed_from
  last_now zero e bytes t l = refl
  last_now (suc level) e bytes t l = refl

  is_same : (l : ℕ) → (l == l) ≡ true
  is_same l = grind (arith, nat_tests)

  is_other : (l level : ℕ) → (l < level) ⊎ (level < l) → (l == level) ≡ false
  is_other l level (inl h) = grind (arith, nat_tests)
  is_other l level (inr h) = grind (arith, nat_tests)

  leaf_taken : (e : Entry) (bytes : List ℕ) (t : Trail) → (taken_in from zero e bytes t).mappings ≡ t.mappings ++ leaf_mappings bytes
  unfolding passed_from
  leaf_taken e bytes t = refl

  node_taken : (level : ℕ) (e : Entry) (bytes : List ℕ) (t : Trail) → (taken_in from (suc level) e bytes t).mappings ≡ t.mappings
  unfolding passed_from
  node_taken level e bytes t = refl

  -- a walk that went down to the last leaf again
  pub record Resumed (level : ℕ) (es : List Entry) (met : Trail) (tasks : List Task) (t : Trail) (more : List Task) : Type 0 where
    pub trail : Trail
    pub leaves : Leaves at image core from (tasks_of level (pruned from es) ++ more) t (suc level) (tasks ++ more) trail
    pub own : List Mapping
    pub mappings : trail.mappings ≡ t.mappings ++ own
    pub some : (m : Mapping) × (rest : List Mapping) × (own ≡ m ∷ rest)
    pub front : List Mapping
    pub tail : met.mappings ≡ front ++ own
    pub blocks : trail.blocks ≡ t.blocks
    pub same : (l : ℕ) → l ≤ level → trail.last l ≡ met.last l
    pub above : (l : ℕ) → level < l → trail.last l ≡ t.last l

  one_leaf : (x : Task) (rest ys : List Task) (t u : Trail) → IsRead at image core from x rest t ys u → Leaves at image core from (x ∷ rest) t 1 ys u
  one_leaf x rest ys t u r = leaves_more at image core from (x ∷ rest) (x ∷ rest) rest ys t t u 0 x refl (leaves_first at image core from (x ∷ rest) t) r

  pub resume : (level : ℕ) (es : List Entry) (met : Trail) (tasks : List Task) → Deep at image core level es met tasks → ((k : ℕ) → Holds k met.mappings → k < from) → Each (λ (x : Task). from ≤ x.key) tasks → (t : Trail) (more : List Task) → ((l : ℕ) → l ≤ level → t.last l ≡ None) → Resumed level es met tasks t more
  resume zero es met tasks s low behind t more none =
      let here = s.leaf.parts.here in
      let right = s.leaf.parts.right in
      let bytes = s.leaf.bytes in
      let before = low here.key s.leaf.held in
      let left = each_weaker (λ (e : Entry). Holds e.key met.mappings) (λ (e : Entry). e.key < from) (λ e h. low e.key h) s.leaf.parts.left s.leaf.parts.met in
      let later = subst (Each (λ (x : Task). from ≤ x.key)) s.leaf.tasks_are behind in
      let path = ap (pruned from) s.leaf.parts.split ∙ pruned_path from zero s.leaf.parts.left here right left before later in
      let x : Task = record { level = zero; key = here.key; block = here.block } in
      let rest = tasks_of zero right ++ more in
      let u = taken_in from zero here bytes t in
      let read : IsRead at image core from x rest t rest u = record { bytes = bytes; found = read_resumed zero (t.last zero) here bytes met (none zero (omega arith)) before s.leaf.reading; tasks = refl; taken = refl } in
      let one = one_leaf x rest rest t u read in
      record {
        trail = u;
        leaves = subst (λ zs. Leaves at image core from (tasks_of zero zs ++ more) t 1 (tasks ++ more) u) (sym path) (subst (λ zs. Leaves at image core from (x ∷ rest) t 1 (zs ++ more) u) (sym s.leaf.tasks_are) one);
        own = leaf_mappings bytes;
        mappings = leaf_taken here bytes t;
        some = let first = leaf_begins at image core here s.leaf.reading.place bytes s.leaf.reading.right in (first.0, first.1, first.2);
        front = s.front;
        tail = s.tail;
        blocks = blocks_stay zero here bytes t (resumed_now (t.last zero) here.key (none zero (omega arith)) before);
        same = λ l h.
            let e : l ≡ 0 = omega (arith, h) in
            subst (λ k. u.last k ≡ met.last k) (sym e) (last_now zero here bytes t 0 ∙ sym s.leaf.reading.last);
        above = λ l h. last_now zero here bytes t l ∙ rw (is_other l zero (inr h)) refl;
      }
  resume (suc level) es met tasks s low behind t more none =
      let here = s.parts.here in
      let right = s.parts.right in
      let bytes = s.bytes in
      let both = subst (Each (λ (x : Task). from ≤ x.key)) s.tasks_are behind in
      let later = each_back (λ (x : Task). from ≤ x.key) s.inner (tasks_of (suc level) right) both in
      let inner = each_front (λ (x : Task). from ≤ x.key) s.inner (tasks_of (suc level) right) both in
      let first = node_begins at image core level here s.reading.place bytes s.reading.right in
      let held = subst (λ n. Holds n met.mappings) first.3 (deep_first at image core level (node_entries bytes) first.1 s.inner first.0 met s.below first.2) in
      let before = low here.key held in
      let left = each_weaker (λ (e : Entry). Holds e.key met.mappings) (λ (e : Entry). e.key < from) (λ e h. low e.key h) s.parts.left s.parts.met in
      let path = ap (pruned from) s.parts.split ∙ pruned_path from (suc level) s.parts.left here right left before later in
      let x : Task = record { level = suc level; key = here.key; block = here.block } in
      let rest = tasks_of (suc level) right ++ more in
      let u = taken_in from (suc level) here bytes t in
      let resumed = resumed_now (t.last (suc level)) here.key (none (suc level) (omega arith)) before in
      let entries : List Task = tasks_of level (pruned from (node_entries bytes)) in
      let skip : skipped_to from (t.last (suc level)) here.key ≡ from = rw resumed refl in
      let read : IsRead at image core from x rest t (entries ++ rest) u = record { bytes = bytes; found = read_resumed (suc level) (t.last (suc level)) here bytes met (none (suc level) (omega arith)) before s.reading; tasks = ap (λ n. tasks_of level (pruned n (node_entries bytes)) ++ rest) (sym skip); taken = refl } in
      let one = one_leaf x rest (entries ++ rest) t u read in
      let none_below : (l : ℕ) → l ≤ level → u.last l ≡ None = λ l h. last_now (suc level) here bytes t l ∙ rw (is_other l (suc level) (inl (omega (arith, h)))) (none l (omega (arith, h))) in
      let down = resume level (node_entries bytes) met s.inner s.below low inner u rest none_below in
      let all = leaves_join at image core from (x ∷ rest) (entries ++ rest) (s.inner ++ rest) t u down.trail 1 (suc level) one down.leaves in
      let count : 1 + suc level ≡ suc (suc level) = omega arith in
      let ends : s.inner ++ rest ≡ tasks ++ more = sym (append_assoc s.inner (tasks_of (suc level) right) more) ∙ ap (λ zs. zs ++ more) (sym s.tasks_are) in
      record {
        trail = down.trail;
        leaves = subst (λ zs. Leaves at image core from (tasks_of (suc level) zs ++ more) t (suc (suc level)) (tasks ++ more) down.trail) (sym path) (subst (λ n. Leaves at image core from (x ∷ rest) t n (tasks ++ more) down.trail) count (subst (λ zs. Leaves at image core from (x ∷ rest) t (1 + suc level) zs down.trail) ends all));
        own = down.own;
        some = down.some;
        mappings = down.mappings ∙ ap (λ ms. ms ++ down.own) (node_taken level here bytes t);
        front = down.front;
        tail = down.tail;
        blocks = down.blocks ∙ blocks_stay (suc level) here bytes t resumed;
        same = λ l h. elim (le_cases l level h) [
          | inl below ↦ down.same l below
          | inr top ↦ subst (λ k. down.trail.last k ≡ met.last k) (sym top) (down.above (suc level) (omega arith) ∙ last_now (suc level) here bytes t (suc level) ∙ rw (is_same (suc level)) refl ∙ sym s.reading.last)
        ];
        above = λ l h. down.above l (omega (arith, h)) ∙ last_now (suc level) here bytes t l ∙ rw (is_other l (suc level) (inr h)) refl;
      }
