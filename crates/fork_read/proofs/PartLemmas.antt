-- A piece of a fork without a fault has nothing but the fork's mappings and blocks.
use Rattle.std.proofs.Common.{◌≡◌, ℕ, zero, suc, ◌-◌, Bool, true, false, List, [], ◌∷◌, ◌++◌, map, filter, length, Option, Some, None, Result, Ok, Err, refl, ap, sym, subst, ◌∙◌, inl, inr, append-nil}
use Rattle.std.specs.Prelude.{◌⊎◌, if◌then◌else◌, nat_le}
use Rattle.std.proofs.lemmas.Bool.{cases_Bool}
use Rattle.geom.specs.Layout.{Layout, device_block_of, split_of}
use Rattle.dinode_core.specs.declared.inode.Core3.{Core3}
use Rattle.dinode_core.specs.declared.mapping.Fork.{Fork}
use Rattle.dinode_core.specs.declared.mapping.ForkFault.TheVariants as faults
use Rattle.dinode_core.specs.declared.mapping.Mapping.{Mapping}
use Rattle.dinode_core.specs.Inline.{first_bad, form_fault, inline_mappings, or_else, root_level}
use Rattle.dinode_core.specs.Shape.{area_of}
use Rattle.dinode_core.specs.ForkTree.{Image, Trail, TreeBlock, Last, Entry, ◌>>=◌, is_sound, sound_at, block_at, passed, with_mappings, leaf_mappings, node_entries, walk_each, walk_in, walk_block, walk_tree, root_entries, start, ends, Met, met_of, is_tree, walk_fault}
use Rattle.fork_read.specs.declared.fault.ForkPiece.{ForkPiece}
use Rattle.fork_read.specs.declared.tasks.Task.{Task}
use Rattle.fork_read.specs.declared.walk.Stop.{Stop}
use Rattle.fork_read.specs.declared.walk.Stop.TheVariants.{Bad, Whole, Left, Long, Fallen}
use Rattle.fork_read.specs.Answers.{IsStopped}
use Rattle.fork_read.specs.Parts.{Each, Has, IsPart}
use Rattle.fork_read.specs.Pieces.{IsForkPiece}
use Rattle.fork_read.specs.Walk.{is_passed, is_resumed, skipped_to, is_sound_from, pruned, read_at, passed_from, walk_from, entry_of, tasks_of, walk_tasks, walk_all}
use Rattle.fork_read.proofs.WalkLemmas.{each_then}
use Rattle.fork_read.proofs.WholeLemmas.{else_parts, some_none, walk_same}

each_left : {A : Type 0} (P : A → Type 0) (xs ys : List A) → Each P (xs ++ ys) → Each P xs
each_left P [] ys h = tt
each_left P (x ∷ xs) ys h = (h.0, each_left P xs ys h.1)

each_right : {A : Type 0} (P : A → Type 0) (xs ys : List A) → Each P (xs ++ ys) → Each P ys
each_right P [] ys h = h
each_right P (x ∷ xs) ys h = each_right P xs ys h.1

each_both : {A : Type 0} (P : A → Type 0) (xs ys : List A) → Each P xs → Each P ys → Each P (xs ++ ys)
each_both P [] ys h k = k
each_both P (x ∷ xs) ys h k = (h.0, each_both P xs ys h.1 k)

each_filter : {A : Type 0} (P : A → Type 0) (p : A → Bool) (xs : List A) → Each P xs → Each P (filter p xs)
each_filter P p [] h = tt
each_filter P p (x ∷ xs) h =
    let rest = each_filter P p xs h.1 in
    elim (cases_Bool (p x)) [ inl kept ↦ rw kept (h.0, rest) | inr out ↦ rw out rest ]

each_map : {A : Type 0} {B : Type 0} (P : B → Type 0) (f : A → B) (xs : List A) → Each (λ x. P (f x)) xs → Each P (map f xs)
each_map P f [] h = tt
each_map P f (x ∷ xs) h = (h.0, each_map P f xs h.1)

-- each is one of a list that has them all
each_in : {A : Type 0} (xs all : List A) → ((x : A) → Has x xs → Has x all) → Each (λ x. Has x all) xs
each_in [] all h = tt
each_in (x ∷ xs) all h = (h x (inl refl), each_in xs all (λ y k. h y (inr k)))

pub each_own : {A : Type 0} (xs : List A) → Each (λ x. Has x xs) xs
each_own xs = each_in xs xs (λ x h. h)

mapped_in : (bs : List TreeBlock) (all : List ℕ) → Each (λ b. Has b all) (map (λ b. b.block) bs) → Each (λ (b : TreeBlock). Has b.block all) bs
mapped_in [] all h = tt
mapped_in (b ∷ bs) all h = (h.0, mapped_in bs all h.1)

abbrev trail_in : Result Trail Trail → Trail
trail_in (Ok t) = t
trail_in (Err t) = t

same_or_none : (x y : Bool) (b bytes : List ℕ) → (if x then Some b else None) ≡ Some bytes → ((if y then Some b else None) ≡ None) ⊎ ((if y then Some b else None) ≡ Some bytes)
same_or_none true true b bytes h = inr h
same_or_none true false b bytes h = inl refl
same_or_none false y b bytes h = cc

module _ (P : Mapping → Type 0) (Q : ℕ → Type 0) where
  -- each mapping and block that was met is such a one
  abbrev Own : Trail → Type 0
  Own t = Each P t.mappings × Each (λ (b : TreeBlock). Q b.block) t.blocks

  then_back : (r : Result Trail Trail) (next : Trail → Result Trail Trail) → ((u : Trail) → Own (trail_in (next u)) → Own u) → Own (trail_in (r >>= next)) → Own (trail_in r)
  then_back (Ok t) next h own = h t own
  then_back (Err t) next h own = own

  in_back : (o : Option (List ℕ)) (t : Trail) (below : List ℕ → Result Trail Trail) → ((bytes : List ℕ) → Own (trail_in (below bytes)) → Own t) → Own (trail_in (walk_in o t below)) → Own t
  in_back None t below h own = own
  in_back (Some bytes) t below h own = h bytes own

  each_back : (walk : Trail → Entry → Result Trail Trail) → ((t : Trail) (e : Entry) → Own (trail_in (walk t e)) → Own t) → (es : List Entry) (t : Trail) → Own (trail_in (walk_each walk es t)) → Own t
  unfolding walk_each
  each_back walk h [] t own = own
  each_back walk h (e ∷ es) t own = h t e (then_back (walk t e) (walk_each walk es) (λ u. each_back walk h es u) own)

  passed_back : (from level : ℕ) (e : Entry) (bytes : List ℕ) (t : Trail) → Own (passed_from from level e bytes t) → Own t
  unfolding passed_from
  passed_back from level e bytes t own = (own.0, by_key (is_resumed from (t.last level) e.key) own.1)
    where
      by_key : (b : Bool) → Each (λ (x : TreeBlock). Q x.block) (if b then t.blocks else t.blocks ++ record { block = e.block; before = length t.mappings } ∷ []) → Each (λ (x : TreeBlock). Q x.block) t.blocks
      by_key true h = h
      by_key false h = each_left (λ (x : TreeBlock). Q x.block) t.blocks (record { block = e.block; before = length t.mappings } ∷ []) h

  passed_own : (from level : ℕ) (e : Entry) (bytes : List ℕ) (t : Trail) → Q e.block → Own t → Own (passed_from from level e bytes t)
  unfolding passed_from
  passed_own from level e bytes t q own = (own.0, by_key (is_resumed from (t.last level) e.key))
    where
      by_key : (b : Bool) → Each (λ (x : TreeBlock). Q x.block) (if b then t.blocks else t.blocks ++ record { block = e.block; before = length t.mappings } ∷ [])
      by_key true = own.1
      by_key false = each_both (λ (x : TreeBlock). Q x.block) t.blocks (record { block = e.block; before = length t.mappings } ∷ []) own.1 (q, tt)

  mappings_back : (ms : List Mapping) (t : Trail) → Own (with_mappings ms t) → Own t
  mappings_back ms t own = (each_left P t.mappings ms own.0, own.1)

  module _ (at : Layout) (image : Image) (core : Core3) where
    from_back : (from level : ℕ) (t : Trail) (e : Entry) → Own (trail_in (walk_from at image core from level t e)) → Own t
    unfolding walk_from
    from_back from zero t e own =
        in_back (read_at at image core from zero (t.last zero) e (split_of at e.block)) t (λ bytes. Ok (with_mappings (leaf_mappings bytes) (passed_from from zero e bytes t))) (λ bytes h. passed_back from zero e bytes t (mappings_back (leaf_mappings bytes) (passed_from from zero e bytes t) h)) own
    from_back from (suc level) t e own =
        in_back (read_at at image core from (suc level) (t.last (suc level)) e (split_of at e.block)) t (λ bytes. walk_each (walk_from at image core from level) (pruned (skipped_to from (t.last (suc level)) e.key) (node_entries bytes)) (passed_from from (suc level) e bytes t)) (λ bytes h. passed_back from (suc level) e bytes t (each_back (walk_from at image core from level) (from_back from level) (pruned (skipped_to from (t.last (suc level)) e.key) (node_entries bytes)) (passed_from from (suc level) e bytes t) h)) own

    tasks_back : (from : ℕ) (xs : List Task) (t : Trail) → Own (trail_in (walk_tasks at image core from xs t)) → Own t
    unfolding walk_tasks
    tasks_back from [] t own = own
    tasks_back from (x ∷ xs) t own =
        from_back from x.level t (entry_of x) (then_back (walk_from at image core from x.level t (entry_of x)) (walk_tasks at image core from xs) (λ u. tasks_back from xs u) own)

    block_back : (level : ℕ) (t u : Trail) (e : Entry) → walk_block at image core level t e ≡ Ok u → Own u → Own t
    block_back level t u e h own = from_back 0 level t e (subst (λ r. Own (trail_in r)) (sym (walk_same at image core level t e ∙ h)) own)

    blocks_back : (level : ℕ) (es : List Entry) (t u : Trail) → walk_each (walk_block at image core level) es t ≡ Ok u → Own u → Own t
    blocks_back level es t u h own =
        each_back (walk_block at image core level) (λ x e k. from_back 0 level x e (subst (λ r. Own (trail_in r)) (sym (walk_same at image core level x e)) k)) es t (subst (λ r. Own (trail_in r)) (sym h) own)

    -- from any offset the same block is read, or none
    read_or_none : (from level : ℕ) (last seen : Option Last) (e : Entry) (place : Option (ℕ × ℕ)) (bytes : List ℕ) → sound_at at image core level last e place ≡ Some bytes → (read_at at image core from level seen e place ≡ None) ⊎ (read_at at image core from level seen e place ≡ Some bytes)
    read_or_none from level last seen e None bytes h = cc
    read_or_none from level last seen e (Some p) bytes h =
        same_or_none (is_sound at core level last e p (image (device_block_of at p.0 p.1))) (is_sound_from at core from level seen e p (image (device_block_of at p.0 p.1))) (image (device_block_of at p.0 p.1)) bytes h

    in_ok : (o : Option (List ℕ)) (t u : Trail) (below : List ℕ → Result Trail Trail) → walk_in o t below ≡ Ok u → (bytes : List ℕ) × (o ≡ Some bytes) × (below bytes ≡ Ok u)
    in_ok None t u below h = cc
    in_ok (Some bytes) t u below h = (bytes, refl, h)

    then_ok : (r : Result Trail Trail) (next : Trail → Result Trail Trail) (u : Trail) → (r >>= next) ≡ Ok u → (x : Trail) × (r ≡ Ok x) × (next x ≡ Ok u)
    then_ok (Ok x) next u h = (x, refl, h)
    then_ok (Err x) next u h = cc

    then_own : (r : Result Trail Trail) (next : Trail → Result Trail Trail) → Own (trail_in r) → ((u : Trail) → Own u → Own (trail_in (next u))) → Own (trail_in (r >>= next))
    then_own (Ok t) next own h = h t own
    then_own (Err t) next own h = own

    in_own : (o : Option (List ℕ)) (bytes : List ℕ) (t : Trail) (below : List ℕ → Result Trail Trail) → (o ≡ None) ⊎ (o ≡ Some bytes) → Own t → Own (trail_in (below bytes)) → Own (trail_in (walk_in o t below))
    in_own o bytes t below (inl h) own down = subst (λ x. Own (trail_in (walk_in x t below))) (sym h) own
    in_own o bytes t below (inr h) own down = subst (λ x. Own (trail_in (walk_in x t below))) (sym h) down

    ok_same : (t u : Trail) → ◌≡◌ {A = Result Trail Trail} (Ok t) (Ok u) → t ≡ u
    ok_same t u h = ap trail_in h

    module _ (from : ℕ) where
      any_own : (level : ℕ) → ((t u s : Trail) (e : Entry) → walk_block at image core level t e ≡ Ok u → Own u → Own s → Own (trail_in (walk_from at image core from level s e))) → (es : List Entry) (t u s : Trail) → walk_each (walk_block at image core level) es t ≡ Ok u → Own u → Own s → Own (trail_in (walk_each (walk_from at image core from level) es s))
      unfolding walk_each
      any_own level below [] t u s h own given = given
      any_own level below (e ∷ es) t u s h own given =
          let one = then_ok (walk_block at image core level t e) (walk_each (walk_block at image core level) es) u h in
          then_own (walk_from at image core from level s e) (walk_each (walk_from at image core from level) es) (below t one.0 s e one.1 (blocks_back level es one.0 u one.2 own) given) (λ v k. any_own level below es one.0 u v one.2 own k)

      pruned_own : (skipped level : ℕ) → ((t u s : Trail) (e : Entry) → walk_block at image core level t e ≡ Ok u → Own u → Own s → Own (trail_in (walk_from at image core from level s e))) → (es : List Entry) (t u s : Trail) → walk_each (walk_block at image core level) es t ≡ Ok u → Own u → Own s → Own (trail_in (walk_each (walk_from at image core from level) (pruned skipped es) s))
      unfolding pruned walk_each
      pruned_own skipped level below [] t u s h own given = any_own level below [] t u s h own given
      pruned_own skipped level below (e ∷ es) t u s h own given =
          elim (cases_Bool (is_passed skipped es)) [
            | inl before ↦
                let one = then_ok (walk_block at image core level t e) (walk_each (walk_block at image core level) es) u h in
                rw before (pruned_own skipped level below es one.0 u s one.2 own given)
            | inr stays ↦ rw stays (any_own level below (e ∷ es) t u s h own given)
          ]

      from_own : (level : ℕ) (t u s : Trail) (e : Entry) → walk_block at image core level t e ≡ Ok u → Own u → Own s → Own (trail_in (walk_from at image core from level s e))
      unfolding walk_from walk_block block_at
      from_own zero t u s e h own given =
          let one = in_ok (sound_at at image core zero (t.last zero) e (split_of at e.block)) t u (λ bytes. Ok (with_mappings (leaf_mappings bytes) (passed zero e bytes t))) h in
          let all = subst Own (sym (ok_same (with_mappings (leaf_mappings one.0) (passed zero e one.0 t)) u one.2)) own in
          let q = (each_right (λ (x : TreeBlock). Q x.block) t.blocks (record { block = e.block; before = length t.mappings } ∷ []) all.1).0 in
          let noted = passed_own from zero e one.0 s q given in
          in_own (read_at at image core from zero (s.last zero) e (split_of at e.block)) one.0 s (λ bytes. Ok (with_mappings (leaf_mappings bytes) (passed_from from zero e bytes s))) (read_or_none from zero (t.last zero) (s.last zero) e (split_of at e.block) one.0 one.1) given (each_both P (passed_from from zero e one.0 s).mappings (leaf_mappings one.0) noted.0 (each_right P t.mappings (leaf_mappings one.0) all.0), noted.1)
      from_own (suc level) t u s e h own given =
          let one = in_ok (sound_at at image core (suc level) (t.last (suc level)) e (split_of at e.block)) t u (λ bytes. walk_each (walk_block at image core level) (node_entries bytes) (passed (suc level) e bytes t)) h in
          let all = blocks_back level (node_entries one.0) (passed (suc level) e one.0 t) u one.2 own in
          let q = (each_right (λ (x : TreeBlock). Q x.block) t.blocks (record { block = e.block; before = length t.mappings } ∷ []) all.1).0 in
          in_own (read_at at image core from (suc level) (s.last (suc level)) e (split_of at e.block)) one.0 s (λ bytes. walk_each (walk_from at image core from level) (pruned (skipped_to from (s.last (suc level)) e.key) (node_entries bytes)) (passed_from from (suc level) e bytes s)) (read_or_none from (suc level) (t.last (suc level)) (s.last (suc level)) e (split_of at e.block) one.0 one.1) given (pruned_own (skipped_to from (s.last (suc level)) e.key) level (from_own level) (node_entries one.0) (passed (suc level) e one.0 t) u (passed_from from (suc level) e one.0 s) one.2 own (passed_own from (suc level) e one.0 s q given))

      ends_same : (r : Result Trail Trail) → (r >>= walk_tasks at image core from []) ≡ r
      unfolding walk_tasks
      ends_same (Ok t) = refl
      ends_same (Err t) = refl

      all_own : (fork : Fork) (u : Trail) → walk_tree at image core fork ≡ Ok u → Own u → Own (trail_in (walk_all at image core fork from))
      unfolding walk_all walk_tree
      all_own fork u h own =
          let level = root_level (area_of core fork) - 1 in
          let es = pruned from (root_entries core fork) in
          let same = ap (λ xs. walk_tasks at image core from xs start) (sym (append-nil (tasks_of level es))) ∙ each_then at image core from level es [] start ∙ ends_same (walk_each (walk_from at image core from level) es start) in
          subst (λ r. Own (trail_in r)) (sym same) (pruned_own from level (from_own level) (root_entries core fork) start u start h own (tt, tt))

      stop_own : (fork : Fork) (stop : Stop) (rest : List Task) (t u : Trail) → walk_tree at image core fork ≡ Ok u → Own u → IsStopped (walk_all at image core fork from) (walk_tasks at image core from) from stop rest t → Own t
      stop_own fork Bad rest t u h own k = subst (λ r. Own (trail_in r)) k (all_own fork u h own)
      stop_own fork Whole rest t u h own k = subst (λ r. Own (trail_in r)) k (all_own fork u h own)
      stop_own fork Fallen rest t u h own k = subst (λ r. Own (trail_in r)) k (all_own fork u h own)
      stop_own fork (Left task) rest t u h own k = tasks_back from (task ∷ rest) t (subst (λ r. Own (trail_in r)) k.0 (all_own fork u h own))
      stop_own fork (Long task) rest t u h own k = tasks_back from (task ∷ rest) t (subst (λ r. Own (trail_in r)) k (all_own fork u h own))

module _ (at : Layout) (image : Image) (core : Core3) (fork : Fork) (from : ℕ) (piece : ForkPiece) where
  bad_walk : (t : Trail) → is_tree core fork ≡ true → walk_fault at image core fork ≡ None → walk_tree at image core fork ≡ Err t → ⊥
  unfolding walk_fault met_of
  bad_walk t tree good h =
      let found : or_else (form_fault core fork) (or_else (first_bad at fork t.mappings) (Some faults.Block)) ≡ None = rw (tree, h) at good in
      some_none faults.Block (else_parts (first_bad at fork t.mappings) (Some faults.Block) (else_parts (form_fault core fork) (or_else (first_bad at fork t.mappings) (Some faults.Block)) found).1).1

  walk_ends : (r : Result Trail Trail) → is_tree core fork ≡ true → walk_fault at image core fork ≡ None → walk_tree at image core fork ≡ r → (u : Trail) × (walk_tree at image core fork ≡ Ok u)
  walk_ends (Ok u) tree good h = (u, h)
  walk_ends (Err t) tree good h = absurd (bad_walk t tree good h)

  met_tree : (u : Trail) → is_tree core fork ≡ true → walk_tree at image core fork ≡ Ok u → met_of at image core fork ≡ record { mappings = u.mappings; blocks = u.blocks; whole = ends (root_level (area_of core fork)) u }
  unfolding met_of
  met_tree u tree h = rw (tree, h) refl

  met_inline : is_tree core fork ≡ false → met_of at image core fork ≡ record { mappings = inline_mappings core fork; blocks = []; whole = true }
  unfolding met_of
  met_inline off = rw off refl

  part_of : (met : Met) → met_of at image core fork ≡ met → Each (λ m. Has m met.mappings) piece.mappings.items → Each (λ b. Has b (map (λ b. b.block) met.blocks)) piece.tree_blocks.items → IsPart at image core fork piece
  part_of met h ms bs = record {
    mappings = subst (λ (x : Met). Each (λ m. Has m x.mappings) piece.mappings.items) (sym h) ms;
    tree_blocks = subst (λ (x : Met). Each (λ b. Has b (map (λ (y : TreeBlock). y.block) x.blocks)) piece.tree_blocks.items) (sym h) bs;
  }

  tree_part : (u : Trail) (stop : Stop) (rest : List Task) (t : Trail) → is_tree core fork ≡ true → walk_tree at image core fork ≡ Ok u → IsStopped (walk_all at image core fork from) (walk_tasks at image core from) from stop rest t → piece.mappings.items ≡ filter (λ m. nat_le from m.offset) t.mappings → piece.tree_blocks.items ≡ map (λ b. b.block) t.blocks → IsPart at image core fork piece
  tree_part u stop rest t tree h k ms bs =
      let numbers = map (λ (b : TreeBlock). b.block) u.blocks in
      let own = stop_own (λ m. Has m u.mappings) (λ b. Has b numbers) at image core from fork stop rest t u h (each_own u.mappings, mapped_in u.blocks numbers (each_own numbers)) k in
      part_of (record { mappings = u.mappings; blocks = u.blocks; whole = ends (root_level (area_of core fork)) u }) (met_tree u tree h) (subst (λ xs. Each (λ m. Has m u.mappings) xs) (sym ms) (each_filter (λ m. Has m u.mappings) (λ m. nat_le from m.offset) t.mappings own.0)) (subst (λ xs. Each (λ b. Has b numbers) xs) (sym bs) (each_map (λ b. Has b numbers) (λ (b : TreeBlock). b.block) t.blocks own.1))

  inline_part : is_tree core fork ≡ false → piece.mappings.items ≡ filter (λ m. nat_le from m.offset) (inline_mappings core fork) → piece.tree_blocks.items ≡ [] → IsPart at image core fork piece
  inline_part off ms bs =
      let shown = inline_mappings core fork in
      part_of (record { mappings = shown; blocks = []; whole = true }) (met_inline off) (subst (λ xs. Each (λ m. Has m shown) xs) (sym ms) (each_filter (λ m. Has m shown) (λ m. nat_le from m.offset) shown (each_own shown))) (subst (λ xs. Each (λ (b : ℕ). Has b []) xs) (sym bs) tt)

  pub piece_part : IsForkPiece at image core fork from piece → walk_fault at image core fork ≡ None → IsPart at image core fork piece
  piece_part h good = by_form (is_tree core fork) refl
    where
      by_form : (b : Bool) → is_tree core fork ≡ b → IsPart at image core fork piece
      by_form true tree =
          let found = h.2 tree in
          let whole = walk_ends (walk_tree at image core fork) tree good refl in
          tree_part whole.0 found.stop found.walked.rest found.trail tree whole.1 found.walked.stopped found.given.mappings found.given.tree_blocks
      by_form false off = let given = h.1 off in inline_part off given.mappings given.tree_blocks
