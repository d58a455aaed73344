-- Pieces of a fork, one after another, are its walk from the front.
use Rattle.std.proofs.Common.{◌≡◌, ℕ, zero, suc, ◌+◌, ◌-◌, ◌<◌, ◌≤◌, true, List, [], ◌∷◌, ◌++◌, map, filter, length, Option, Some, None, refl, ap, sym, subst, ◌∙◌, inl, inr, append-nil, arith}
use Rattle.std.specs.Prelude.{◌⊎◌, nat_le}
use Rattle.std.specs.List.{slice_get, list_all}
use Rattle.std.proofs.lemmas.Bool.{and_parts, cases_Bool}
use Rattle.std.proofs.lemmas.Bool.Decides.{nat_tests}
use Rattle.std.proofs.lemmas.List.{append_assoc}
use Rattle.geom.specs.Layout.{Layout, split_of}
use Rattle.dinode_core.specs.declared.inode.Core3.{Core3}
use Rattle.dinode_core.specs.declared.mapping.Mapping.{Mapping}
use Rattle.dinode_core.specs.declared.mapping.Fork.{Fork}
use Rattle.dinode_core.specs.Inline.{first_bad, root_level}
use Rattle.dinode_core.specs.Shape.{area_of}
use Rattle.dinode_core.specs.ForkTree.{Image, Trail, TreeBlock, Last, Entry, node_entries, root_entries, start}
use Rattle.fork_read.specs.declared.tasks.Task.{Task}
use Rattle.fork_read.specs.Answers.{last_clears, may_stop}
use Rattle.fork_read.specs.Parts.{Each}
use Rattle.fork_read.specs.Stuck.{IsBorder}
use Rattle.fork_read.specs.Walk.{IsRead, Leaves, entry_of, first_tasks, read_at, tasks_of}
use Rattle.fork_read.proofs.EndLemmas.{border_next}
use Rattle.fork_read.proofs.NextLemmas.{Begins, Came, Waits, next_begins}
use Rattle.fork_read.proofs.ResumeLemmas.{resume}
use Rattle.fork_read.proofs.RiseLemmas.{Clears, all_before, all_behind, bad_behind, cancel, clears_of, each_kept, filter_both, good_back, none_kept}
use Rattle.fork_read.proofs.RunLemmas.{Known, Same, UpTo, along, along_all, first_read, grows, middle, nothing_more, one_way, read_alike}
use Rattle.fork_read.proofs.StandLemmas.{Deep, Holds, Stands, deep_on, each_back, each_front, each_weaker, leaf_begins, stands_on, took}
use Rattle.fork_read.proofs.WalkLemmas.{border_leaves, leaves_join}
use Rattle.fork_read.proofs.WholeLemmas.{all_kept, pruned_same}

holds_before : (from k : ℕ) (ms : List Mapping) → Each (λ (m : Mapping). m.offset < from) ms → Holds k ms → k < from
holds_before from k [] h held = absurd held
holds_before from k (m ∷ ms) h (inl e) = let first = h.0 in omega (arith, e, first)
holds_before from k (m ∷ ms) h (inr held) = holds_before from k ms h.1 held

all_tasks : (key : ℕ) (xs : List Task) → list_all (λ (t : Task). nat_le key t.key) xs ≡ true → Each (λ (t : Task). key ≤ t.key) xs
all_tasks key [] h = tt
all_tasks key (x ∷ xs) h =
    let both = and_parts (nat_le key x.key) (list_all (λ (t : Task). nat_le key t.key) xs) h in
    let test = both.0 in
    (grind (arith, nat_tests, test), all_tasks key xs both.1)

pub record Stop (from : ℕ) (ms : List Mapping) (task : Task) (rest : List Task) : Type 0 where
  pub clears : Clears from task.key ms
  pub behind : Each (λ (t : Task). task.key ≤ t.key) rest

pub stops : (from : ℕ) (ms : List Mapping) (task : Task) (rest : List Task) → may_stop from ms task rest ≡ true → Stop from ms task rest
unfolding may_stop
stops from ms task rest h =
    let both = and_parts (last_clears from task.key (slice_get ms (length ms - 1))) (list_all (λ t. nat_le task.key t.key) rest) h in
    record { clears = clears_of from task.key ms both.0; behind = all_tasks task.key rest both.1 }

module _ (at : Layout) (image : Image) (core : Core3) (fork : Fork) where
  abbrev top : ℕ
  top = root_level (area_of core fork) - 1

  -- from 0 on no entry of the root is passed by
  pub first_all : first_tasks core fork 0 ≡ tasks_of top (root_entries core fork)
  first_all = ap (tasks_of top) (pruned_same (root_entries core fork))

  begins_at : (level : ℕ) (es : List Entry) (t : Trail) (xs : List Task) → xs ≡ tasks_of level es → Stands at image core level es t xs
  begins_at zero es t xs h = inl h
  begins_at (suc level) es t xs h = inl h

  pub stands_at : (ys : List Task) (t : Trail) (n : ℕ) → Leaves at image core 0 (first_tasks core fork 0) start n ys t → Stands at image core top (root_entries core fork) t ys
  unfolding Leaves
  stands_at ys t zero h = begins_at top (root_entries core fork) t ys (h.0 ∙ first_all)
  stands_at ys t (suc n) h = stands_on at image core top (root_entries core fork) h.trail t h.task h.rest ys (stands_at (h.task ∷ h.rest) h.trail n h.before) h.read

  pub deep_at : (ys : List Task) (t : Trail) (n : ℕ) → IsBorder at image core 0 (first_tasks core fork 0) start n ys t → Deep at image core top (root_entries core fork) t ys
  deep_at ys t n b = deep_on at image core top (root_entries core fork) b.read.trail t b.read.task b.read.rest ys (stands_at (b.read.task ∷ b.read.rest) b.read.trail b.before b.read.before) b.read.read b.leaf

  some_last : (o : Option Last) (last : Last) → o ≡ Some last → o ≡ None → ⊥
  some_last None last h k = cc
  some_last (Some x) last h k = cc

  split_level : (l level : ℕ) → l ≤ suc level → (l ≤ level) ⊎ (l ≡ suc level)
  split_level l level h = elim (cases_Bool (nat_le l level)) [ inl a ↦ inl (grind (arith, nat_tests, a)) | inr b ↦ inr (grind (arith, nat_tests, b, h)) ]

  known_at : (level : ℕ) (es : List Entry) (t : Trail) (ys : List Task) → Deep at image core level es t ys → (l : ℕ) → l ≤ level → t.last l ≡ None → ⊥
  known_at zero es t ys s l h none =
      let e : 0 ≡ l = omega (arith, h) in
      some_last (t.last 0) _ s.leaf.reading.last (subst (λ k. t.last k ≡ None) (sym e) none)
  known_at (suc level) es t ys s l h none =
      elim (split_level l level h) [
        | inl low ↦ known_at level (node_entries s.bytes) t s.inner s.below l low none
        | inr same ↦ some_last (t.last (suc level)) _ s.reading.last (subst (λ k. t.last k ≡ None) same none)
      ]

  upto_own : (level : ℕ) (es : List Entry) → UpTo at image core 0 level (tasks_of level es)
  upto_own level [] = tt
  upto_own level (e ∷ es) = (omega arith, upto_own level es)

  upto_both : (level : ℕ) (xs ys : List Task) → UpTo at image core 0 level xs → UpTo at image core 0 level ys → UpTo at image core 0 level (xs ++ ys)
  upto_both level [] ys h k = k
  upto_both level (x ∷ xs) ys h k = (h.0, upto_both level xs ys h.1 k)

  upto_at : (level : ℕ) (es : List Entry) (t : Trail) (ys : List Task) → Deep at image core level es t ys → UpTo at image core 0 level ys
  upto_at zero es t ys s = subst (UpTo at image core 0 zero) (sym s.leaf.tasks_are) (upto_own zero s.leaf.parts.right)
  upto_at (suc level) es t ys s =
      let inner = each_weaker (λ (x : Task). x.level ≤ level) (λ (x : Task). x.level ≤ suc level) (λ x h. omega (arith, h)) s.inner (upto_at level (node_entries s.bytes) t s.inner s.below) in
      subst (UpTo at image core 0 (suc level)) (sym s.tasks_are) (upto_both (suc level) s.inner (tasks_of (suc level) s.parts.right) inner (upto_own (suc level) s.parts.right))

  -- the walk of the whole btree came to the subtree where a piece begins, with these mappings and blocks
  pub record Come (from : ℕ) (ms : List Mapping) (bs : List ℕ) : Type 0 where
    pub task : Task
    pub rest : List Task
    pub trail : Trail
    pub count : ℕ
    pub border : IsBorder at image core 0 (first_tasks core fork 0) start count (task ∷ rest) trail
    pub key : task.key ≡ from
    pub mappings : trail.mappings ≡ ms
    pub blocks : map (λ (b : TreeBlock). b.block) trail.blocks ≡ bs
    pub good : first_bad at fork trail.mappings ≡ None
    pub first : ℕ
    pub clears : Clears first from trail.mappings
    pub behind : Each (λ (t : Task). from ≤ t.key) rest

  -- and the piece's walk comes there too, by the way down
  pub record Again (from : ℕ) (task : Task) (rest : List Task) (met : Trail) : Type 0 where
    pub trail : Trail
    pub leaves : Leaves at image core from (first_tasks core fork from) start (suc top) (task ∷ rest) trail
    pub front : List Mapping
    pub tail : met.mappings ≡ front ++ trail.mappings
    pub some : (m : Mapping) × (more : List Mapping) × (trail.mappings ≡ m ∷ more)
    pub blocks : trail.blocks ≡ []
    pub same : (l : ℕ) → l ≤ top → trail.last l ≡ met.last l

  pub again : (from : ℕ) (ms : List Mapping) (bs : List ℕ) (c : Come from ms bs) → Again from c.task c.rest c.trail
  again from ms bs c =
      let deep = deep_at (c.task ∷ c.rest) c.trail c.count c.border in
      let before = subst (Each (λ (m : Mapping). m.offset < from)) (sym c.clears.split) (all_before at fork from c.clears.front c.clears.last (subst (λ zs. first_bad at fork zs ≡ None) c.clears.split c.good) c.clears.below) in
      let r = resume at image core from top (root_entries core fork) c.trail (c.task ∷ c.rest) deep (λ k h. holds_before from k c.trail.mappings before h) (omega (arith, c.key), c.behind) start [] (λ l h. refl) in
      let leaves = subst (λ zs. Leaves at image core from zs start (suc top) (c.task ∷ c.rest) r.trail) (append-nil (first_tasks core fork from)) (subst (λ zs. Leaves at image core from (first_tasks core fork from ++ []) start (suc top) zs r.trail) (append-nil (c.task ∷ c.rest)) r.leaves) in
      record {
        trail = r.trail;
        leaves = leaves;
        front = r.front;
        tail = r.tail ∙ ap (λ zs. r.front ++ zs) (sym r.mappings);
        some = (r.some.0, r.some.1, r.mappings ∙ r.some.2);
        blocks = r.blocks;
        same = r.same;
      }

  -- the piece's walk as the whole btree's, which has met more before
  pub record View (from : ℕ) (ms : List Mapping) (bs : List ℕ) (ys : List Task) (v : Trail) : Type 0 where
    pub trail : Trail
    pub count : ℕ
    pub leaves : Leaves at image core 0 (first_tasks core fork 0) start count ys trail
    pub front : List Mapping
    pub own : List ℕ
    pub same : Same at image core 0 top front own trail v
    pub known_blocks : own ≡ bs
    pub bad : first_bad at fork trail.mappings ≡ first_bad at fork v.mappings
    pub alike : (x : Task) (xs : List Task) → ys ≡ x ∷ xs → read_at at image core from x.level (v.last x.level) (entry_of x) (split_of at x.block) ≡ None → read_at at image core 0 x.level (trail.last x.level) (entry_of x) (split_of at x.block) ≡ None
    pub given : first_bad at fork v.mappings ≡ None → trail.mappings ≡ ms ++ filter (λ m. nat_le from m.offset) v.mappings

  before_all : (from : ℕ) (ms : List Mapping) (bs : List ℕ) (c : Come from ms bs) → Each (λ (m : Mapping). m.offset < from) c.trail.mappings
  before_all from ms bs c =
      subst (Each (λ (m : Mapping). m.offset < from)) (sym c.clears.split) (all_before at fork from c.clears.front c.clears.last (subst (λ zs. first_bad at fork zs ≡ None) c.clears.split c.good) c.clears.below)

  -- what both walks have in common where they meet
  meet : (from : ℕ) (ms : List Mapping) (bs : List ℕ) (c : Come from ms bs) (a : Again from c.task c.rest c.trail) → Same at image core from top a.front (map (λ (b : TreeBlock). b.block) c.trail.blocks) c.trail a.trail
  meet from ms bs c a = record {
    mappings = a.tail;
    blocks = sym (append-nil (map (λ (b : TreeBlock). b.block) c.trail.blocks)) ∙ ap (λ (xs : List TreeBlock). map (λ (b : TreeBlock). b.block) c.trail.blocks ++ map (λ (b : TreeBlock). b.block) xs) (sym a.blocks);
    last = λ l h. sym (a.same l h);
  }

  -- a walk of more blocks than the way down has comes there first
  behind_meet : (from : ℕ) (ms : List Mapping) (bs : List ℕ) (c : Come from ms bs) (a : Again from c.task c.rest c.trail) (ys : List Task) (v : Trail) (n : ℕ) → suc top ≤ n → Leaves at image core from (first_tasks core fork from) start n ys v → Leaves at image core from (c.task ∷ c.rest) a.trail (n - suc top) ys v
  behind_meet from ms bs c a ys v n more h =
      let count : n ≡ suc top + (n - suc top) = omega (arith, more) in
      let m = middle at image core from (first_tasks core fork from) ys start v (suc top) (n - suc top) (subst (λ k. Leaves at image core from (first_tasks core fork from) start k ys v) count h) in
      let same = one_way at image core from (first_tasks core fork from) m.tasks (c.task ∷ c.rest) start m.trail a.trail (suc top) m.front a.leaves in
      subst (λ zs. Leaves at image core from zs a.trail (n - suc top) ys v) same.0 (subst (λ w. Leaves at image core from m.tasks w (n - suc top) ys v) same.1 m.back)

  -- one of no more blocks leads there
  before_meet : (from : ℕ) (ms : List Mapping) (bs : List ℕ) (c : Come from ms bs) (a : Again from c.task c.rest c.trail) (ys : List Task) (v : Trail) (n : ℕ) → n ≤ suc top → Leaves at image core from (first_tasks core fork from) start n ys v → Leaves at image core from ys v (suc top - n) (c.task ∷ c.rest) a.trail
  before_meet from ms bs c a ys v n few h =
      let count : suc top ≡ n + (suc top - n) = omega (arith, few) in
      let m = middle at image core from (first_tasks core fork from) (c.task ∷ c.rest) start a.trail n (suc top - n) (subst (λ k. Leaves at image core from (first_tasks core fork from) start k (c.task ∷ c.rest) a.trail) count a.leaves) in
      let same = one_way at image core from (first_tasks core fork from) m.tasks ys start m.trail v n m.front h in
      subst (λ zs. Leaves at image core from zs v (suc top - n) (c.task ∷ c.rest) a.trail) same.0 (subst (λ w. Leaves at image core from m.tasks w (suc top - n) (c.task ∷ c.rest) a.trail) same.1 m.back)

  kept_behind : (from : ℕ) (task : Task) (met now more : List Mapping) (ys : List Task) → task.key ≡ from → now ≡ met ++ more → first_bad at fork more ≡ None → (Waits task.key met ys now ⊎ Came task.key met now) → filter (λ (m : Mapping). nat_le from m.offset) more ≡ more
  kept_behind from task met now more ys k e good (inl w) =
      let none : more ≡ [] = cancel met more [] (sym e ∙ w.same ∙ sym (append-nil met)) in
      rw none refl
  kept_behind from task met now more ys k e good (inr c) =
      let same : more ≡ c.more = cancel met more c.more (sym e ∙ c.split) in
      by_first more (subst (Begins task.key) (sym same) c.begins) good
    where
      by_first : (xs : List Mapping) → Begins task.key xs → first_bad at fork xs ≡ None → filter (λ (m : Mapping). nat_le from m.offset) xs ≡ xs
      by_first [] b g = absurd b
      by_first (m ∷ xs) b g = each_kept from (m ∷ xs) (all_behind at fork from m xs g (omega (arith, b, k)))

  -- the view of a piece's walk that went on from where the walks meet
  pub view : (from : ℕ) (ms : List Mapping) (bs : List ℕ) (c : Come from ms bs) (ys : List Task) (v : Trail) (n : ℕ) → suc top ≤ n → Leaves at image core from (first_tasks core fork from) start n ys v → View from ms bs ys v
  view from ms bs c ys v n more h =
      let a = again from ms bs c in
      let deep = deep_at (c.task ∷ c.rest) c.trail c.count c.border in
      let blocks = map (λ (b : TreeBlock). b.block) c.trail.blocks in
      let on = behind_meet from ms bs c a ys v n more h in
      let known : Known at image core from top a.trail = λ l low none. known_at top (root_entries core fork) c.trail (c.task ∷ c.rest) deep l low (sym (a.same l low) ∙ none) in
      let all = along_all at image core from top a.front blocks (c.task ∷ c.rest) ys c.trail a.trail v (n - suc top) (upto_at top (root_entries core fork) c.trail (c.task ∷ c.rest) deep) known (meet from ms bs c a) on in
      let whole = leaves_join at image core 0 (first_tasks core fork 0) (c.task ∷ c.rest) ys start c.trail all.trail c.count (n - suc top) (border_leaves at image core 0 (first_tasks core fork 0) (c.task ∷ c.rest) start c.trail c.count c.border) all.leaves in
      let next = next_begins at image core c.task c.rest ys c.trail all.trail (n - suc top) all.leaves in
      let grown = grows at image core from (c.task ∷ c.rest) ys a.trail v (n - suc top) on in
      let met = all.same.mappings ∙ ap (λ zs. a.front ++ zs) grown.1 ∙ sym (append_assoc a.front a.trail.mappings grown.0) ∙ ap (λ zs. zs ++ grown.0) (sym a.tail) in
      let some = a.some in
      let good = subst (λ zs. first_bad at fork zs ≡ None) (a.tail ∙ ap (λ zs. a.front ++ zs) some.2) c.good in
      record {
        trail = all.trail;
        count = c.count + (n - suc top);
        leaves = whole;
        front = a.front;
        own = blocks;
        same = record { mappings = all.same.mappings; blocks = all.same.blocks; last = all.same.last };
        known_blocks = c.blocks;
        bad =
            let own = grown.1 ∙ ap (λ zs. zs ++ grown.0) some.2 in
            ap (first_bad at fork) (all.same.mappings ∙ ap (λ zs. a.front ++ zs) own) ∙ bad_behind at fork a.front some.0 some.1 (some.1 ++ grown.0) good ∙ ap (first_bad at fork) (sym own);
        alike = λ x xs e none.
            let low = (subst (UpTo at image core from top) e all.upto).0 in
            ap (λ o. read_at at image core 0 x.level o (entry_of x) (split_of at x.block)) (all.same.last x.level low) ∙ sym (read_alike at image core from x.level (v.last x.level) (entry_of x) (split_of at x.block) (all.known x.level low)) ∙ none;
        given = λ fine.
            let rest = good_back at fork a.trail.mappings grown.0 (subst (λ zs. first_bad at fork zs ≡ None) grown.1 fine) in
            let kept = kept_behind from c.task c.trail.mappings all.trail.mappings grown.0 ys c.key met rest next in
            let none = none_kept from a.trail.mappings (each_back (λ (m : Mapping). m.offset < from) a.front a.trail.mappings (subst (Each (λ (m : Mapping). m.offset < from)) a.tail (before_all from ms bs c))) in
            let piece = ap (filter (λ (m : Mapping). nat_le from m.offset)) grown.1 ∙ filter_both (λ m. nat_le from m.offset) a.trail.mappings grown.0 ∙ ap (λ zs. zs ++ filter (λ (m : Mapping). nat_le from m.offset) grown.0) none ∙ kept in
            met ∙ ap (λ zs. zs ++ grown.0) c.mappings ∙ ap (λ zs. ms ++ zs) (sym piece);
      }

  -- nothing of the piece was met before the walks meet
  pub none_before : (from : ℕ) (ms : List Mapping) (bs : List ℕ) (c : Come from ms bs) (ys : List Task) (v : Trail) (n : ℕ) → n ≤ suc top → Leaves at image core from (first_tasks core fork from) start n ys v → Each (λ (m : Mapping). m.offset < from) v.mappings
  none_before from ms bs c ys v n few h =
      let a = again from ms bs c in
      let on = before_meet from ms bs c a ys v n few h in
      let grown = grows at image core from ys (c.task ∷ c.rest) v a.trail (suc top - n) on in
      let all = each_back (λ (m : Mapping). m.offset < from) a.front a.trail.mappings (subst (Each (λ (m : Mapping). m.offset < from)) a.tail (before_all from ms bs c)) in
      each_front (λ (m : Mapping). m.offset < from) v.mappings grown.0 (subst (Each (λ (m : Mapping). m.offset < from)) grown.1 all)

  -- a walk ends neither before the walks meet nor at a bad block there
  pub goes_there : (from : ℕ) (ms : List Mapping) (bs : List ℕ) (c : Come from ms bs) (v : Trail) (n : ℕ) → Leaves at image core from (first_tasks core fork from) start n [] v → suc top ≤ n
  goes_there from ms bs c v n h =
      elim (cases_Bool (nat_le n top)) [
        | inl early ↦
            let few : n ≤ suc top = grind (arith, nat_tests, early) in
            let none = nothing_more at image core from (c.task ∷ c.rest) v (again from ms bs c).trail (suc top - n) (before_meet from ms bs c (again from ms bs c) [] v n few h) in
            cc
        | inr late ↦ grind (arith, nat_tests, late)
      ]

  pub bad_there : (from : ℕ) (ms : List Mapping) (bs : List ℕ) (c : Come from ms bs) (x : Task) (xs : List Task) (v : Trail) (n : ℕ) → Leaves at image core from (first_tasks core fork from) start n (x ∷ xs) v → read_at at image core from x.level (v.last x.level) (entry_of x) (split_of at x.block) ≡ None → suc top ≤ n
  bad_there from ms bs c x xs v n h bad =
      elim (cases_Bool (nat_le n top)) [
        | inl early ↦
            let low : n ≤ top = grind (arith, nat_tests, early) in
            let on = before_meet from ms bs c (again from ms bs c) (x ∷ xs) v n (omega (arith, low)) h in
            let count : suc top - n ≡ 1 + (top - n) = omega (arith, low) in
            let found = first_read at image core from x xs (c.task ∷ c.rest) v (again from ms bs c).trail (top - n) (subst (λ k. Leaves at image core from (x ∷ xs) v k (c.task ∷ c.rest) (again from ms bs c).trail) count on) in
            let clash : ◌≡◌ {A = Option (List ℕ)} None (Some found.0) = sym bad ∙ found.1 in
            cc
        | inr late ↦ grind (arith, nat_tests, late)
      ]

  -- the first piece's walk is the whole btree's
  pub view_first : (ys : List Task) (v : Trail) (n : ℕ) → Leaves at image core 0 (first_tasks core fork 0) start n ys v → View 0 [] [] ys v
  view_first ys v n h = record {
    trail = v;
    count = n;
    leaves = h;
    front = [];
    own = [];
    same = record { mappings = refl; blocks = refl; last = λ l low. refl };
    known_blocks = refl;
    bad = refl;
    alike = λ x xs e none. none;
    given = λ fine. sym (all_kept v.mappings);
  }

  -- a view at a leaf's end
  pub record Edge (from : ℕ) (ms : List Mapping) (bs : List ℕ) (ys : List Task) (v : Trail) : Type 0 where
    pub view : View from ms bs ys v
    pub border : IsBorder at image core 0 (first_tasks core fork 0) start view.count ys view.trail
    pub before : List Mapping
    pub first : Mapping
    pub after : List Mapping
    pub grown : view.trail.mappings ≡ ms ++ (before ++ first ∷ after)

  -- a leaf adds a mapping
  pub leaf_adds : (skip level key block : ℕ) (xs ys : List Task) (t u : Trail) → level ≡ 0 → IsRead at image core skip (record { level = level; key = key; block = block }) xs t ys u → (m : Mapping) × (rest : List Mapping) × (u.mappings ≡ t.mappings ++ m ∷ rest)
  leaf_adds skip zero key block xs ys t u low r =
      let x : Task = record { level = zero; key = key; block = block } in
      let one = took at image core skip x xs ys t u r in
      let first = leaf_begins at image core (entry_of x) one.reading.place r.bytes one.reading.right in
      (first.0, first.1, one.mappings ∙ ap (λ zs. t.mappings ++ zs) first.2)
  leaf_adds skip (suc level) key block xs ys t u low r = absurd (omega (arith, low))

  pub edge_first : (ys : List Task) (v : Trail) (n : ℕ) → IsBorder at image core 0 (first_tasks core fork 0) start n ys v → Edge 0 [] [] ys v
  unfolding view_first
  edge_first ys v n b =
      let y = b.read.task in
      let adds = leaf_adds 0 y.level y.key y.block b.read.rest ys b.read.trail v b.leaf b.read.read in
      record { view = view_first ys v n (border_leaves at image core 0 (first_tasks core fork 0) ys start v n b); border = b; before = b.read.trail.mappings; first = adds.0; after = adds.1; grown = adds.2 }

  pub edge : (from : ℕ) (ms : List Mapping) (bs : List ℕ) (c : Come from ms bs) (ys : List Task) (v : Trail) (n : ℕ) → suc top < n → IsBorder at image core from (first_tasks core fork from) start n ys v → Edge from ms bs ys v
  unfolding view
  edge from ms bs c ys v n more b =
      let a = again from ms bs c in
      let deep = deep_at (c.task ∷ c.rest) c.trail c.count c.border in
      let blocks = map (λ (b : TreeBlock). b.block) c.trail.blocks in
      let w = view from ms bs c ys v n (omega (arith, more)) (border_leaves at image core from (first_tasks core fork from) ys start v n b) in
      let y = b.read.task in
      let zs = b.read.rest in
      let late : suc top ≤ b.before = omega (arith, more, b.count) in
      let on = behind_meet from ms bs c a (y ∷ zs) b.read.trail b.before late b.read.before in
      let known : Known at image core from top a.trail = λ l low none. known_at top (root_entries core fork) c.trail (c.task ∷ c.rest) deep l low (sym (a.same l low) ∙ none) in
      let all = along_all at image core from top a.front blocks (c.task ∷ c.rest) (y ∷ zs) c.trail a.trail b.read.trail (b.before - suc top) (upto_at top (root_entries core fork) c.trail (c.task ∷ c.rest) deep) known (meet from ms bs c a) on in
      let one = along at image core from top a.front blocks y zs ys all.trail b.read.trail v all.upto all.known all.same b.read.read in
      let whole = leaves_join at image core 0 (first_tasks core fork 0) (c.task ∷ c.rest) (y ∷ zs) start c.trail all.trail c.count (b.before - suc top) (border_leaves at image core 0 (first_tasks core fork 0) (c.task ∷ c.rest) start c.trail c.count c.border) all.leaves in
      let next = border_next at image core 0 (first_tasks core fork 0) (y ∷ zs) zs ys start all.trail one.trail (c.count + (b.before - suc top)) y refl whole one.read b.leaf in
      let steps : n ≡ suc b.before = b.count in
      let count : c.count + (b.before - suc top) + 1 ≡ c.count + (n - suc top) = omega (arith, late, steps) in
      let here = subst (λ k. IsBorder at image core 0 (first_tasks core fork 0) start k ys one.trail) count next in
      let same = one_way at image core 0 (first_tasks core fork 0) ys ys start one.trail w.trail w.count (border_leaves at image core 0 (first_tasks core fork 0) ys start one.trail w.count here) w.leaves in
      let adds = leaf_adds 0 y.level y.key y.block zs ys all.trail one.trail b.leaf one.read in
      let ahead = grows at image core 0 (c.task ∷ c.rest) (y ∷ zs) c.trail all.trail (b.before - suc top) all.leaves in
      record {
        view = w;
        border = subst (λ u. IsBorder at image core 0 (first_tasks core fork 0) start w.count ys u) same.1 here;
        before = ahead.0;
        first = adds.0;
        after = adds.1;
        grown = ap (λ (u : Trail). u.mappings) (sym same.1) ∙ adds.2 ∙ ap (λ ns. ns ++ adds.0 ∷ adds.1) (ahead.1 ∙ ap (λ ns. ns ++ ahead.0) c.mappings) ∙ append_assoc ms ahead.0 (adds.0 ∷ adds.1);
      }
