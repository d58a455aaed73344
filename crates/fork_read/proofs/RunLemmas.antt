-- A walk is one way alone, and behind the first leaf it is the whole btree's.
use Rattle.std.proofs.Common.{◌≡◌, ℕ, zero, suc, ◌+◌, ◌-◌, ◌≤◌, Bool, true, false, List, [], ◌∷◌, ◌++◌, map, length, Option, Some, None, refl, ap, sym, subst, ◌∙◌, append-nil, arith}
use Rattle.std.specs.Prelude.{◌==◌, if◌then◌else◌}
use Rattle.std.proofs.lemmas.List.{append_assoc}
use Rattle.byte_fields.specs.Fields.{field}
use Rattle.geom.specs.Layout.{Layout, split_of}
use Rattle.dinode_core.specs.declared.inode.Core3.{Core3}
use Rattle.dinode_core.specs.declared.mapping.Mapping.{Mapping}
use Rattle.dinode_core.specs.ForkTree.{Image, Trail, TreeBlock, Last, Entry, leaf_mappings, node_entries}
use Rattle.fork_read.specs.declared.tasks.Task.{Task}
use Rattle.fork_read.specs.Parts.{Each}
use Rattle.fork_read.specs.Walk.{IsRead, Leaves, below_of, entry_of, is_resumed, is_sound_from, passed_from, pruned, read_at, skipped_to, taken_in, tasks_of, walk_tasks}
use Rattle.fork_read.proofs.StandLemmas.{own_mappings}
use Rattle.fork_read.proofs.WalkLemmas.{leaf_block, leaves_more, node_block}
use Rattle.fork_read.proofs.WholeLemmas.{resumed_same, skipped_same}

pub numbers : List TreeBlock → List ℕ
numbers bs = map (λ b. b.block) bs

numbers_last : (bs : List TreeBlock) (b : TreeBlock) → map (λ (x : TreeBlock). x.block) (bs ++ b ∷ []) ≡ map (λ (x : TreeBlock). x.block) bs ++ b.block ∷ []
numbers_last [] b = refl
numbers_last (x ∷ bs) b = ap (λ ns. x.block ∷ ns) (numbers_last bs b)

module _ (at : Layout) (image : Image) (core : Core3) (from : ℕ) where
  -- some blocks, and the rest of them
  pub record Middle (xs : List Task) (t : Trail) (m k : ℕ) (ys : List Task) (u : Trail) : Type 0 where
    pub tasks : List Task
    pub trail : Trail
    pub front : Leaves at image core from xs t m tasks trail
    pub back : Leaves at image core from tasks trail k ys u

  pub middle : (xs ys : List Task) (t u : Trail) (m k : ℕ) → Leaves at image core from xs t (m + k) ys u → Middle xs t m k ys u
  unfolding Leaves
  middle xs ys t u m zero h =
      let same : m + 0 ≡ m = omega arith in
      record { tasks = ys; trail = u; front = subst (λ n. Leaves at image core from xs t n ys u) same h; back = (refl, refl) }
  middle xs ys t u m (suc k) h =
      let same : m + suc k ≡ suc (m + k) = omega arith in
      let last : Leaves at image core from xs t (suc (m + k)) ys u = subst (λ n. Leaves at image core from xs t n ys u) same h in
      let before = middle xs (last.task ∷ last.rest) t last.trail m k last.before in
      record {
        tasks = before.tasks;
        trail = before.trail;
        front = before.front;
        back = leaves_more at image core from before.tasks (last.task ∷ last.rest) last.rest ys before.trail last.trail u k last.task refl before.back last.read;
      }

  bytes_same : (a b : List ℕ) (o : Option (List ℕ)) → o ≡ Some a → o ≡ Some b → a ≡ b
  bytes_same a b o h k = let e : ◌≡◌ {A = Option (List ℕ)} (Some a) (Some b) = sym h ∙ k in cc

  read_same : (x y : Task) (xs zs ys ws : List Task) (t s u v : Trail) → x ≡ y → xs ≡ zs → t ≡ s → IsRead at image core from x xs t ys u → IsRead at image core from y zs s ws v → (ys ≡ ws) × (u ≡ v)
  read_same x y xs zs ys ws t s u v a b c h k =
      let r : IsRead at image core from y zs s ys u = subst (λ p. IsRead at image core from p zs s ys u) a (subst (λ p. IsRead at image core from x p s ys u) b (subst (λ p. IsRead at image core from x xs p ys u) c h)) in
      let same = bytes_same r.bytes k.bytes (read_at at image core from y.level (s.last y.level) (entry_of y) (split_of at y.block)) r.found k.found in
      (r.tasks ∙ ap (λ bytes. below_of (skipped_to from (s.last y.level) y.key) y.level bytes ++ zs) same ∙ sym k.tasks, r.taken ∙ ap (λ bytes. taken_in from y.level (entry_of y) bytes s) same ∙ sym k.taken)

  -- so many blocks lead to one place
  pub one_way : (xs ys zs : List Task) (t u v : Trail) (n : ℕ) → Leaves at image core from xs t n ys u → Leaves at image core from xs t n zs v → (ys ≡ zs) × (u ≡ v)
  unfolding Leaves
  one_way xs ys zs t u v zero h k = (h.0 ∙ sym k.0, h.1 ∙ sym k.1)
  one_way xs ys zs t u v (suc n) h k =
      let before = one_way xs (h.task ∷ h.rest) (k.task ∷ k.rest) t h.trail k.trail n h.before k.before in
      let first : h.task ≡ k.task = cc in
      let rest : h.rest ≡ k.rest = cc in
      read_same h.task k.task h.rest k.rest ys zs h.trail k.trail u v first rest before.1 h.read k.read

  -- what is met stays in front
  taken_more : (level : ℕ) (e : Entry) (bytes : List ℕ) (t : Trail) → (more : List Mapping) × ((taken_in from level e bytes t).mappings ≡ t.mappings ++ more)
  unfolding passed_from
  taken_more zero e bytes t = (leaf_mappings bytes, refl)
  taken_more (suc level) e bytes t = ([], sym (append-nil t.mappings))

  pub grows : (xs ys : List Task) (t u : Trail) (n : ℕ) → Leaves at image core from xs t n ys u → (more : List Mapping) × (u.mappings ≡ t.mappings ++ more)
  unfolding Leaves
  grows xs ys t u zero h = ([], ap (λ (v : Trail). v.mappings) h.1 ∙ sym (append-nil t.mappings))
  grows xs ys t u (suc n) h =
      let before = grows xs (h.task ∷ h.rest) t h.trail n h.before in
      let one = taken_more h.task.level (entry_of h.task) h.read.bytes h.trail in
      (before.0 ++ one.0, ap (λ (v : Trail). v.mappings) h.read.taken ∙ one.1 ∙ ap (λ ms. ms ++ one.0) before.1 ∙ append_assoc t.mappings before.0 one.0)

  -- where nothing is left nothing is read
  pub nothing_more : (ys : List Task) (t u : Trail) (n : ℕ) → Leaves at image core from [] t n ys u → ys ≡ []
  unfolding Leaves
  nothing_more ys t u zero h = h.0
  nothing_more ys t u (suc n) h =
      let before = nothing_more (h.task ∷ h.rest) t h.trail n h.before in
      cc

  -- where a block is read, it is sound
  pub first_read : (x : Task) (xs ys : List Task) (t u : Trail) (n : ℕ) → Leaves at image core from (x ∷ xs) t (1 + n) ys u → (bytes : List ℕ) × (read_at at image core from x.level (t.last x.level) (entry_of x) (split_of at x.block) ≡ Some bytes)
  unfolding Leaves
  first_read x xs ys t u n h =
      let parts = middle (x ∷ xs) ys t u 1 n h in
      let one : Leaves at image core from (x ∷ xs) t (suc 0) parts.tasks parts.trail = parts.front in
      let same : one.task ≡ x = cc in
      let trail : one.trail ≡ t = one.before.1 in
      (one.read.bytes, subst (λ (y : Task). read_at at image core from y.level (t.last y.level) (entry_of y) (split_of at y.block) ≡ Some one.read.bytes) same (subst (λ (v : Trail). read_at at image core from one.task.level (v.last one.task.level) (entry_of one.task) (split_of at one.task.block) ≡ Some one.read.bytes) trail one.read.found))

  -- blocks that were read are done
  read_done : (level key block : ℕ) (xs ys : List Task) (t u : Trail) → IsRead at image core from (record { level = level; key = key; block = block }) xs t ys u → walk_tasks at image core from (record { level = level; key = key; block = block } ∷ xs) t ≡ walk_tasks at image core from ys u
  unfolding passed_from
  read_done zero key block xs ys t u r =
      leaf_block at image core from (record { level = zero; key = key; block = block }) xs t u r.bytes refl r.found r.taken ∙ ap (λ zs. walk_tasks at image core from zs u) (sym r.tasks)
  read_done (suc level) key block xs ys t u r =
      let low : suc level - 1 ≡ level = omega arith in
      node_block at image core from (record { level = suc level; key = key; block = block }) xs ys t u r.bytes (omega arith) r.found r.taken (r.tasks ∙ ap (λ n. tasks_of n (pruned (skipped_to from (t.last (suc level)) key) (node_entries r.bytes)) ++ xs) (sym low))

  pub walked : (xs ys : List Task) (t u : Trail) (n : ℕ) → Leaves at image core from xs t n ys u → walk_tasks at image core from xs t ≡ walk_tasks at image core from ys u
  unfolding Leaves
  walked xs ys t u zero h = λ i. walk_tasks at image core from (sym h.0 i) (sym h.1 i)
  walked xs ys t u (suc n) h =
      walked xs (h.task ∷ h.rest) t h.trail n h.before ∙ read_done h.task.level h.task.key h.task.block h.rest ys h.trail u h.read

  -- each level has a block that was read last
  abbrev pub Known : ℕ → Trail → Type 0
  Known level t = (l : ℕ) → l ≤ level → t.last l ≡ None → ⊥

  abbrev pub UpTo : ℕ → List Task → Type 0
  UpTo level xs = Each (λ (x : Task). x.level ≤ level) xs

  -- one walk has met more before than the other
  pub record Same (level : ℕ) (ms : List Mapping) (bs : List ℕ) (t u : Trail) : Type 0 where
    pub mappings : t.mappings ≡ ms ++ u.mappings
    pub blocks : map (λ (b : TreeBlock). b.block) t.blocks ≡ bs ++ map (λ (b : TreeBlock). b.block) u.blocks
    pub last : (l : ℕ) → l ≤ level → t.last l ≡ u.last l

  not_resumed : (o : Option Last) (key : ℕ) → (o ≡ None → ⊥) → is_resumed from o key ≡ false
  not_resumed None key known = absurd (known refl)
  not_resumed (Some last) key known = refl

  -- behind the first leaf the same blocks are read
  pub read_alike : (level : ℕ) (o : Option Last) (e : Entry) (place : Option (ℕ × ℕ)) → (o ≡ None → ⊥) → read_at at image core from level o e place ≡ read_at at image core 0 level o e place
  unfolding is_sound_from
  read_alike level o e None known = refl
  read_alike level None e (Some p) known = absurd (known refl)
  read_alike level (Some last) e (Some p) known = refl

  blocks_taken : (other level : ℕ) (e : Entry) (bytes : List ℕ) (t : Trail) → is_resumed other (t.last level) e.key ≡ false → map (λ (b : TreeBlock). b.block) (taken_in other level e bytes t).blocks ≡ map (λ (b : TreeBlock). b.block) t.blocks ++ e.block ∷ []
  unfolding passed_from
  blocks_taken other zero e bytes t h = rw h (numbers_last t.blocks (record { block = e.block; before = length t.mappings }))
  blocks_taken other (suc level) e bytes t h = rw h (numbers_last t.blocks (record { block = e.block; before = length t.mappings }))

  mappings_taken : (other level : ℕ) (e : Entry) (bytes : List ℕ) (t : Trail) → (taken_in other level e bytes t).mappings ≡ t.mappings ++ own_mappings level bytes
  unfolding passed_from
  mappings_taken other zero e bytes t = refl
  mappings_taken other (suc level) e bytes t = sym (append-nil t.mappings)

  last_taken : (other level : ℕ) (e : Entry) (bytes : List ℕ) (t : Trail) (l : ℕ) → (taken_in other level e bytes t).last l ≡ (if l == level then Some (record { block = e.block; right = field 8 bytes 16 }) else t.last l)
  unfolding passed_from
  last_taken other zero e bytes t l = refl
  last_taken other (suc level) e bytes t l = refl

  some_known : (b : Bool) (last : Last) (o : Option Last) → (o ≡ None → ⊥) → (if b then Some last else o) ≡ None → ⊥
  some_known true last o known h = cc
  some_known false last o known h = known h

  upto_tasks : (level n : ℕ) (es : List Entry) → n ≤ level → UpTo level (tasks_of n es)
  upto_tasks level n [] h = tt
  upto_tasks level n (e ∷ es) h = (h, upto_tasks level n es h)

  pub upto_below : (level skipped n : ℕ) (bytes : List ℕ) (xs : List Task) → n ≤ level → UpTo level xs → UpTo level (below_of skipped n bytes ++ xs)
  upto_below level skipped zero bytes xs h up = up
  upto_below level skipped (suc n) bytes xs h up = both (tasks_of n (pruned skipped (node_entries bytes))) (upto_tasks level n (pruned skipped (node_entries bytes)) (omega (arith, h)))
    where
      both : (zs : List Task) → UpTo level zs → UpTo level (zs ++ xs)
      both [] k = up
      both (z ∷ zs) k = (k.0, both zs k.1)

  -- the whole btree's walk reads the same block
  pub record Along (level : ℕ) (ms : List Mapping) (bs : List ℕ) (x : Task) (xs : List Task) (t : Trail) (ys : List Task) (v : Trail) : Type 0 where
    pub trail : Trail
    pub read : IsRead at image core 0 x xs t ys trail
    pub same : Same level ms bs trail v
    pub known : Known level v
    pub upto : UpTo level ys

  pub along : (level : ℕ) (ms : List Mapping) (bs : List ℕ) (x : Task) (xs ys : List Task) (t u v : Trail) → UpTo level (x ∷ xs) → Known level u → Same level ms bs t u → IsRead at image core from x xs u ys v → Along level ms bs x xs t ys v
  along level ms bs x xs ys t u v up known same r =
      let here = same.last x.level up.0 in
      let seen = known x.level up.0 in
      let e = entry_of x in
      let w = taken_in 0 x.level e r.bytes t in
      let found = ap (λ o. read_at at image core 0 x.level o e (split_of at x.block)) here ∙ sym (read_alike x.level (u.last x.level) e (split_of at x.block) seen) ∙ r.found in
      let resumed = not_resumed (u.last x.level) x.key seen in
      let skipped : skipped_to from (u.last x.level) x.key ≡ 0 = rw resumed refl in
      let own = skipped_same (t.last x.level) x.key in
      let mappings = ap (λ (z : Trail). z.mappings) r.taken ∙ mappings_taken from x.level e r.bytes u in
      let blocks = ap (λ (z : Trail). map (λ (b : TreeBlock). b.block) z.blocks) r.taken ∙ blocks_taken from x.level e r.bytes u resumed in
      let last : (l : ℕ) → v.last l ≡ (if l == x.level then Some (record { block = x.block; right = field 8 r.bytes 16 }) else u.last l) = λ l. ap (λ (z : Trail). z.last l) r.taken ∙ last_taken from x.level e r.bytes u l in
      record {
        trail = w;
        read = record { bytes = r.bytes; found = found; tasks = r.tasks ∙ ap (λ n. below_of n x.level r.bytes ++ xs) (skipped ∙ sym own); taken = refl };
        same = record {
          mappings = mappings_taken 0 x.level e r.bytes t ∙ ap (λ zs. zs ++ own_mappings x.level r.bytes) same.mappings ∙ append_assoc ms u.mappings (own_mappings x.level r.bytes) ∙ ap (λ zs. ms ++ zs) (sym mappings);
          blocks = blocks_taken 0 x.level e r.bytes t (resumed_same (t.last x.level) x.key) ∙ ap (λ zs. zs ++ x.block ∷ []) same.blocks ∙ append_assoc bs (map (λ (b : TreeBlock). b.block) u.blocks) (x.block ∷ []) ∙ ap (λ zs. bs ++ zs) (sym blocks);
          last = λ l h. last_taken 0 x.level e r.bytes t l ∙ ap (λ o. if l == x.level then Some (record { block = x.block; right = field 8 r.bytes 16 }) else o) (same.last l h) ∙ sym (last l);
        };
        known = λ l h none. some_known (l == x.level) (record { block = x.block; right = field 8 r.bytes 16 }) (u.last l) (known l h) (sym (last l) ∙ none);
        upto = subst (UpTo level) (sym r.tasks) (upto_below level (skipped_to from (u.last x.level) x.key) x.level r.bytes xs up.0 up.1);
      }

  -- and so many more
  pub record AlongAll (level : ℕ) (ms : List Mapping) (bs : List ℕ) (xs : List Task) (t : Trail) (n : ℕ) (ys : List Task) (v : Trail) : Type 0 where
    pub trail : Trail
    pub leaves : Leaves at image core 0 xs t n ys trail
    pub same : Same level ms bs trail v
    pub known : Known level v
    pub upto : UpTo level ys

  pub along_all : (level : ℕ) (ms : List Mapping) (bs : List ℕ) (xs ys : List Task) (t u v : Trail) (n : ℕ) → UpTo level xs → Known level u → Same level ms bs t u → Leaves at image core from xs u n ys v → AlongAll level ms bs xs t n ys v
  unfolding Leaves
  along_all level ms bs xs ys t u v zero up known same h = record {
    trail = t;
    leaves = (h.0, refl);
    same = subst (Same level ms bs t) (sym h.1) same;
    known = subst (Known level) (sym h.1) known;
    upto = subst (UpTo level) (sym h.0) up;
  }
  along_all level ms bs xs ys t u v (suc n) up known same h =
      let before = along_all level ms bs xs (h.task ∷ h.rest) t u h.trail n up known same h.before in
      let one = along level ms bs h.task h.rest ys before.trail h.trail v before.upto before.known before.same h.read in
      record {
        trail = one.trail;
        leaves = leaves_more at image core 0 xs (h.task ∷ h.rest) h.rest ys t before.trail one.trail n h.task refl before.leaves one.read;
        same = one.same;
        known = one.known;
        upto = one.upto;
      }
