-- Where no piece can begin, the fork has a fault.
use Rattle.std.proofs.Common.{◌≡◌, ℕ, suc, ◌+◌, ◌-◌, ◌<◌, ◌≤◌, true, List, [], ◌∷◌, ◌++◌, length, Some, None, Result, Ok, Err, refl, ap, sym, subst, ◌∙◌, inl, inr, arith}
use Rattle.std.specs.Prelude.{nat_le, nat_lt}
use Rattle.std.specs.List.{slice_get, list_all}
use Rattle.std.proofs.lemmas.Bool.Decides.{nat_tests}
use Rattle.std.proofs.lemmas.List.{append_assoc}
use Rattle.byte_fields.proofs.TestLemmas.{all_pass}
use Rattle.geom.specs.Layout.{Layout}
use Rattle.dinode_core.specs.declared.inode.Core3.{Core3}
use Rattle.dinode_core.specs.declared.mapping.Mapping.{Mapping}
use Rattle.dinode_core.specs.declared.mapping.Fork.{Fork}
use Rattle.dinode_core.specs.Inline.{clears, first_bad, mapping_fault, mapping_tests}
use Rattle.dinode_core.specs.ForkTree.{Image, Trail, ◌>>=◌}
use Rattle.fork_read.specs.declared.tasks.Task.{Task}
use Rattle.fork_read.specs.Answers.{last_clears, may_stop}
use Rattle.fork_read.specs.Parts.{Each}
use Rattle.fork_read.specs.Walk.{entry_of, walk_from, walk_tasks}
use Rattle.fork_read.proofs.NextLemmas.{Begins}
use Rattle.fork_read.proofs.RestLemmas.{FromKey, block_adds, met_by, rest_adds, tasks_add}
use Rattle.fork_read.proofs.RiseLemmas.{good_rest, good_two}
use Rattle.fork_read.proofs.StandLemmas.{Holds, holds_behind, holds_more}
use Rattle.fork_read.proofs.WholeLemmas.{else_parts}

-- the last of mappings
last_get : (front : List Mapping) (last : Mapping) → slice_get (front ++ last ∷ []) (length (front ++ last ∷ []) - 1) ≡ Some last
last_get [] last = refl
last_get (x ∷ []) last = refl
last_get (x ∷ y ∷ front) last =
    let e : length (x ∷ y ∷ front ++ last ∷ []) - 1 ≡ suc (length (y ∷ front ++ last ∷ []) - 1) = omega arith in
    subst (λ k. slice_get (x ∷ y ∷ front ++ last ∷ []) k ≡ Some last) (sym e) (last_get (y ∷ front) last)

-- mappings that aren't none have a last one
pub last_of : (before after : List Mapping) (m : Mapping) → (front : List Mapping) × (last : Mapping) × (before ++ m ∷ after ≡ front ++ last ∷ [])
last_of before [] m = (before, m, refl)
last_of before (n ∷ after) m =
    let rest = last_of (before ++ m ∷ []) after n in
    (rest.0, rest.1, sym (append_assoc before (m ∷ []) (n ∷ after)) ∙ rest.2)

tasks_all : (key : ℕ) (xs : List Task) → Each (λ (t : Task). key ≤ t.key) xs → list_all (λ (t : Task). nat_le key t.key) xs ≡ true
tasks_all key [] h = refl
tasks_all key (x ∷ xs) h =
    let first = h.0 in
    let test : nat_le key x.key ≡ true = grind (arith, nat_tests, first) in
    rw test (tasks_all key xs h.1)

clears_test : (from key : ℕ) (last : Mapping) → from ≤ last.offset → last.offset < key → last.offset + last.count ≤ key → last_clears from key (Some last) ≡ true
clears_test from key last a b c =
    let one : nat_le from last.offset ≡ true = grind (arith, nat_tests, a) in
    let two : nat_lt last.offset key ≡ true = grind (arith, nat_tests, b) in
    let three : nat_le (last.offset + last.count) key ≡ true = grind (arith, nat_tests, c) in
    rw (one, two, three) refl

pub may_here : (from : ℕ) (ms front : List Mapping) (last : Mapping) (x : Task) (xs : List Task) → ms ≡ front ++ last ∷ [] → from ≤ last.offset → last.offset < x.key → last.offset + last.count ≤ x.key → Each (λ (t : Task). x.key ≤ t.key) xs → may_stop from ms x xs ≡ true
unfolding may_stop
may_here from ms front last x xs split own below ended behind =
    let get = subst (λ zs. slice_get zs (length zs - 1) ≡ Some last) (sym split) (last_get front last) in
    rw (get, clears_test from x.key last own below ended, tasks_all x.key xs behind) refl

module _ (at : Layout) (fork : Fork) where
  -- in good mappings the ones before another begin before it
  across : (front : List Mapping) (f : Mapping) (more : List Mapping) → first_bad at fork (front ++ f ∷ more) ≡ None → Each (λ (m : Mapping). m.offset < f.offset) front
  across [] f more h = tt
  across (m ∷ []) f more h = (good_two at fork m f more h, tt)
  across (m ∷ n ∷ front) f more h =
      let rest = across (n ∷ front) f more (good_rest at fork m ((n ∷ front) ++ f ∷ more) h) in
      let first = good_two at fork m n (front ++ f ∷ more) h in
      let second = rest.0 in
      (omega (arith, first, second), rest)

  pub held_before : (k : ℕ) (ms : List Mapping) (key : ℕ) → Each (λ (m : Mapping). m.offset < key) ms → Holds k ms → k < key
  held_before k [] key h held = absurd held
  held_before k (m ∷ ms) key h (inl e) = let first = h.0 in omega (arith, e, first)
  held_before k (m ∷ ms) key h (inr held) = held_before k ms key h.1 held

  held_key : (k key : ℕ) (ms more after : List Mapping) → Begins key more → Holds k ms → first_bad at fork (ms ++ (more ++ after)) ≡ None → k < key
  held_key k key ms [] after b held good = absurd b
  held_key k key ms (f ∷ more) after b held good =
      let less = held_before k ms f.offset (across ms f (more ++ after) good) held in
      omega (arith, less, b)

  good_fault : (m : Mapping) (ms : List Mapping) → first_bad at fork (m ∷ ms) ≡ None → mapping_fault at fork m ms ≡ None
  unfolding first_bad
  good_fault m ms h = (else_parts (mapping_fault at fork m ms) (first_bad at fork ms) h).0

  -- in good mappings one ends before the next
  pub good_clears : (m n : Mapping) (ms : List Mapping) → first_bad at fork (m ∷ n ∷ ms) ≡ None → m.offset + m.count ≤ n.offset
  unfolding mapping_fault clears
  good_clears m n ms h =
      let pass = all_pass (mapping_tests at fork m (n ∷ ms)) (good_fault m (n ∷ ms) h) in
      let test : nat_le (m.offset + m.count) n.offset ≡ true = pass.1.0 in
      grind (arith, nat_tests, test)

  module _ (image : Image) (core : Core3) where
    key_held : (key : ℕ) (ms more : List Mapping) → Begins key more → Holds key (ms ++ more)
    key_held key ms [] b = absurd b
    key_held key ms (f ∷ more) b = holds_behind key ms (f ∷ more) (inl b)

    -- in a good walk each subtree that is left begins behind what was met
    pub left_behind : (xs : List Task) (u w : Trail) (k : ℕ) → walk_tasks at image core 0 xs u ≡ Ok w → first_bad at fork w.mappings ≡ None → Holds k u.mappings → Each (λ (t : Task). k ≤ t.key) xs
    unfolding walk_tasks
    left_behind [] u w k h good held = tt
    left_behind (x ∷ xs) u w k h good held = by_first (walk_from at image core 0 x.level u (entry_of x)) (block_adds at image core x.level u (entry_of x)).more (block_adds at image core x.level u (entry_of x)).split (block_adds at image core x.level u (entry_of x)).from_key h (λ t e. left_behind xs t w k e good)
      where
        by_first : (r : Result Trail Trail) (more : List Mapping) → met_by r ≡ u.mappings ++ more → FromKey x.key r more → (r >>= walk_tasks at image core 0 xs) ≡ Ok w → ((t : Trail) → walk_tasks at image core 0 xs t ≡ Ok w → Holds k t.mappings → Each (λ (t : Task). k ≤ t.key) xs) → Each (λ (t : Task). k ≤ t.key) (x ∷ xs)
        by_first (Err t) more split b e rest = cc
        by_first (Ok t) more split b e rest =
            let after = tasks_add at image core xs t in
            let whole : w.mappings ≡ u.mappings ++ (more ++ after.more) = ap met_by (sym e) ∙ after.split ∙ ap (λ zs. zs ++ after.more) split ∙ append_assoc u.mappings more after.more in
            let less = held_key k x.key u.mappings more after.more b held (subst (λ zs. first_bad at fork zs ≡ None) whole good) in
            (omega (arith, less), rest t e (subst (Holds k) (sym split) (holds_more k u.mappings more held)))

    pub rest_behind : (x : Task) (xs : List Task) (u w : Trail) → walk_tasks at image core 0 (x ∷ xs) u ≡ Ok w → first_bad at fork w.mappings ≡ None → Each (λ (t : Task). x.key ≤ t.key) xs
    unfolding walk_tasks
    rest_behind x xs u w h good = by_first (walk_from at image core 0 x.level u (entry_of x)) (block_adds at image core x.level u (entry_of x)).more (block_adds at image core x.level u (entry_of x)).split (block_adds at image core x.level u (entry_of x)).from_key h
      where
        by_first : (r : Result Trail Trail) (more : List Mapping) → met_by r ≡ u.mappings ++ more → FromKey x.key r more → (r >>= walk_tasks at image core 0 xs) ≡ Ok w → Each (λ (t : Task). x.key ≤ t.key) xs
        by_first (Err t) more split b e = cc
        by_first (Ok t) more split b e = left_behind xs t w x.key e good (subst (Holds x.key) (sym split) (key_held x.key u.mappings more b))

    -- a good walk may end before each subtree that comes behind mappings of the piece
    pub may_end_here : (from : ℕ) (x : Task) (xs : List Task) (u w : Trail) (ms front before : List Mapping) (last : Mapping) → ms ≡ front ++ last ∷ [] → u.mappings ≡ before ++ last ∷ [] → from ≤ last.offset → walk_tasks at image core 0 (x ∷ xs) u ≡ Ok w → first_bad at fork w.mappings ≡ None → may_stop from ms x xs ≡ true
    may_end_here from x xs u w ms front before last split met own h good =
        let adds = rest_adds at image core x xs u in
        by_more adds.more (ap met_by (sym h) ∙ adds.split ∙ ap (λ zs. zs ++ adds.more) met ∙ append_assoc before (last ∷ []) adds.more) (subst (λ r. FromKey x.key r adds.more) h adds.from_key)
      where
        back : (xs ys : List Mapping) → first_bad at fork (xs ++ ys) ≡ None → first_bad at fork ys ≡ None
        back [] ys g = g
        back (m ∷ ms) ys g = back ms ys (good_rest at fork m (ms ++ ys) g)

        by_more : (more : List Mapping) → w.mappings ≡ before ++ (last ∷ more) → Begins x.key more → may_stop from ms x xs ≡ true
        by_more [] e b = absurd b
        by_more (f ∷ more) e b =
            let two = back before (last ∷ f ∷ more) (subst (λ zs. first_bad at fork zs ≡ None) e good) in
            let rise = good_two at fork last f more two in
            let clear = good_clears last f more two in
            may_here from ms front last x xs split own (omega (arith, rise, b)) (omega (arith, clear, b)) (rest_behind x xs u w h good)
