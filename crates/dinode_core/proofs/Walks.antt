-- The walk of a fork's btree in two images.
use Rattle.std.proofs.Common.{◌≡◌, ℕ, zero, suc, Bool, true, false, List, [], ◌∷◌, ◌++◌, Option, Some, None, Result, Ok, Err, is_ok, refl, sym, subst, ◌∙◌, inl, inr}
use Rattle.std.specs.Prelude.{length, ◌&&◌, ◌==◌, ◌⊎◌, nat_le, nat_lt, if◌then◌else◌}
use Rattle.std.proofs.lemmas.Bool.{false≢true}
use Rattle.byte_fields.specs.Checksum.{has_sum}
use Rattle.byte_fields.specs.Fields.{field, has_uuid}
use Rattle.geom.specs.Layout.{Layout, device_block_of, blkno_of, split_of}
use Rattle.dinode_core.specs.declared.inode.Core3.{Core3}
use Rattle.dinode_core.specs.declared.mapping.Mapping.{Mapping}
use Rattle.dinode_core.specs.ForkTree.{Image, TreeBlock, Last, Trail, Entry, ◌>>=◌, numrecs, node_entries, leaf_mappings, first_key, is_fork_block, is_right, is_beside, is_sound, sound_at, block_at, passed, with_mappings, walk_each, walk_in, walk_block}
use Rattle.dinode_core.specs.Frame.{Lies, device_at}

-- what was met
unfoldable pub met : Result Trail Trail → Trail
met (Ok t) = t
met (Err t) = t

pub cases_Option : {A : Type 0} (o : Option A) → (o ≡ None) ⊎ ((x : A) × (o ≡ Some x))
cases_Option None = inl refl
cases_Option (Some x) = inr (x, refl)

lies_left : (at : Layout) (xs ys : List TreeBlock) (d : ℕ) → Lies at xs d → Lies at (xs ++ ys) d
lies_left at [] ys d h = absurd h
lies_left at (x ∷ xs) ys d (inl h) = inl h
lies_left at (x ∷ xs) ys d (inr h) = inr (lies_left at xs ys d h)

lies_right : (at : Layout) (xs ys : List TreeBlock) (d : ℕ) → Lies at ys d → Lies at (xs ++ ys) d
lies_right at [] ys d h = h
lies_right at (x ∷ xs) ys d h = inr (lies_right at xs ys d h)

alien_fails : (a b c d e f g h i j k : Bool) → a ≡ false → (a && b && c && d && e && f && g && h && i && j && k) ≡ false
alien_fails a b c d e f g h i j k p = rw p refl

abbrev met_here : Entry → Trail → List TreeBlock
met_here e t = record { block = e.block; before = length t.mappings } ∷ []

module _ (at : Layout) where
  unfoldable pub Within : Trail → Trail → Type 0
  Within t u = (d : ℕ) → Lies at t.blocks d → Lies at u.blocks d

  within_then : (r : Result Trail Trail) (next : Trail → Result Trail Trail) → ((u : Trail) → Within u (met (next u))) → Within (met r) (met (r >>= next))
  unfolding Within met
  within_then (Ok t) next h d l = h t d l
  within_then (Err t) next h d l = l

  pub within_each : (walk : Trail → Entry → Result Trail Trail) → ((t : Trail) (e : Entry) → Within t (met (walk t e))) → (es : List Entry) (t : Trail) → Within t (met (walk_each walk es t))
  unfolding Within met walk_each
  within_each walk h [] t d l = l
  within_each walk h (e ∷ es) t d l = within_then (walk t e) (walk_each walk es) (λ u. within_each walk h es u) d (h t e d l)

  within_in : (o : Option (List ℕ)) (t : Trail) (below : List ℕ → Result Trail Trail) → ((bytes : List ℕ) → Within t (met (below bytes))) → Within t (met (walk_in o t below))
  unfolding Within met
  within_in None t below h d l = l
  within_in (Some bytes) t below h d l = h bytes d l

  same_blocks : (t : Trail) (ms : List Mapping) → Within t (with_mappings ms t)
  unfolding Within
  same_blocks t ms d l = l

  module _ (core : Core3) (m : Image) where
    pub within_block : (level : ℕ) (t : Trail) (e : Entry) → Within t (met (walk_block at m core level t e))
    unfolding Within met walk_block
    within_block zero t e =
        within_in (block_at at m core zero t e) t (λ bytes. Ok (with_mappings (leaf_mappings bytes) (passed zero e bytes t))) (λ bytes d l. lies_left at t.blocks (met_here e t) d l)
    within_block (suc level) t e =
        within_in (block_at at m core (suc level) t e) t (λ bytes. walk_each (walk_block at m core level) (node_entries bytes) (passed (suc level) e bytes t)) (λ bytes d l.
        within_each (walk_block at m core level) (within_block level) (node_entries bytes) (passed (suc level) e bytes t) d (lies_left at t.blocks (met_here e t) d l))

  module _ (core : Core3) (m n : Image) where
    -- each block that was met stays
    unfoldable pub Good : Trail → Type 0
    Good t = (d : ℕ) → Lies at t.blocks d → n d ≡ m d

    -- a sound block is one of this fork
    sound_is : (level : ℕ) (last : Option Last) (e : Entry) (place : ℕ × ℕ) (bytes : List ℕ) → is_fork_block bytes ≡ false → is_sound at core level last e place bytes ≡ false
    unfolding is_right
    sound_is level last e place bytes h =
        alien_fails (is_fork_block bytes) (nat_lt 0 place.1) (field 2 bytes 4 == level) (nat_le 1 (numrecs bytes)) (nat_le (numrecs bytes) 251) (field 8 bytes 24 == blkno_of at place.0 place.1) (field 8 bytes 56 == core.ino) (has_uuid bytes 40 at.uuid) (has_sum bytes 64) (first_key level bytes == e.key) (is_beside last e bytes) h

    if_false : (b : Bool) (x : List ℕ) → b ≡ false → (if b then Some x else None) ≡ None
    if_false true x h = absurd (false≢true (sym h))
    if_false false x h = refl

    -- the block that an entry points to, where it stays, and where it is another's
    stays_at : (level : ℕ) (last : Option Last) (e : Entry) (place : Option (ℕ × ℕ)) → ((d : ℕ) → device_at at place ≡ Some d → n d ≡ m d) → sound_at at n core level last e place ≡ sound_at at m core level last e place
    stays_at level last e None h = refl
    stays_at level last e (Some p) h = rw (h (device_block_of at p.0 p.1) refl) refl

    strange_at : (level : ℕ) (last : Option Last) (e : Entry) (p : ℕ × ℕ) → is_fork_block (n (device_block_of at p.0 p.1)) ≡ false → sound_at at n core level last e (Some p) ≡ None
    strange_at level last e p h = if_false (is_sound at core level last e p (n (device_block_of at p.0 p.1))) (n (device_block_of at p.0 p.1)) (sound_is level last e p (n (device_block_of at p.0 p.1)) h)

    same_then : (r : Result Trail Trail) (before now : Trail → Result Trail Trail) → Good (met (r >>= before)) → ((u : Trail) → Good (met (before u)) → now u ≡ before u) → (r >>= now) ≡ (r >>= before)
    unfolding Good met
    same_then (Ok u) before now good h = h u good
    same_then (Err u) before now good h = refl

    good_before : (t u : Trail) → Within t u → Good u → Good t
    unfolding Good Within
    good_before t u w good d l = good d (w d l)

    pub same_each : (before now : Trail → Entry → Result Trail Trail) → ((t : Trail) (e : Entry) → Within t (met (before t e))) → ((t : Trail) (e : Entry) → Good (met (before t e)) → now t e ≡ before t e) → (es : List Entry) (t : Trail) → Good (met (walk_each before es t)) → walk_each now es t ≡ walk_each before es t
    unfolding walk_each
    same_each before now w h [] t good = refl
    same_each before now w h (e ∷ es) t good =
        let first : now t e ≡ before t e = h t e (good_before (met (before t e)) (met (before t e >>= walk_each before es)) (within_then (before t e) (walk_each before es) (λ u. within_each before w es u)) good) in
        rw first (same_then (before t e) (walk_each before es) (walk_each now es) good (λ u g. same_each before now w h es u g))

    in_ok : (o : Option (List ℕ)) (t u : Trail) (below : List ℕ → Result Trail Trail) → walk_in o t below ≡ Ok u → (bytes : List ℕ) × (o ≡ Some bytes) × (below bytes ≡ Ok u)
    in_ok None t u below h = cc
    in_ok (Some bytes) t u below h = (bytes, refl, h)

    then_ok : (r : Result Trail Trail) (next : Trail → Result Trail Trail) (u : Trail) → (r >>= next) ≡ Ok u → (x : Trail) × (r ≡ Ok x) × (next x ≡ Ok u)
    then_ok (Ok x) next u h = (x, refl, h)
    then_ok (Err x) next u h = cc

    -- a whole walk stays, where its blocks stay
    pub ok_each : (before now : Trail → Entry → Result Trail Trail) → ((t : Trail) (e : Entry) → Within t (met (before t e))) → ((t u : Trail) (e : Entry) → before t e ≡ Ok u → Good u → now t e ≡ Ok u) → (es : List Entry) (t u : Trail) → walk_each before es t ≡ Ok u → Good u → walk_each now es t ≡ Ok u
    unfolding walk_each met
    ok_each before now w step [] t u h good = h
    ok_each before now w step (e ∷ es) t u h good =
        let first = then_ok (before t e) (walk_each before es) u h in
        let inside = subst (λ r. Within first.0 (met r)) first.2 (within_each before w es first.0) in
        rw (step t first.0 e first.1 (good_before first.0 u inside good)) (ok_each before now w step es first.0 u first.2 good)

    pub ok_block : (level : ℕ) (t u : Trail) (e : Entry) → walk_block at m core level t e ≡ Ok u → Good u → walk_block at n core level t e ≡ Ok u
    unfolding walk_block block_at met Good Within
    ok_block zero t u e h good =
        let below : List ℕ → Result Trail Trail = λ bytes. Ok (with_mappings (leaf_mappings bytes) (passed zero e bytes t)) in
        let some = in_ok (block_at at m core zero t e) t u below h in
        let own : (d : ℕ) → device_at at (split_of at e.block) ≡ Some d → n d ≡ m d =
        λ d place. good d (subst (λ r. Lies at (met r).blocks d) some.2 (lies_right at t.blocks (met_here e t) d (inl place)))
        in
        rw (stays_at zero (t.last zero) e (split_of at e.block) own ∙ some.1) some.2
    ok_block (suc level) t u e h good =
        let old : List ℕ → Result Trail Trail = λ bytes. walk_each (walk_block at m core level) (node_entries bytes) (passed (suc level) e bytes t) in
        let some = in_ok (block_at at m core (suc level) t e) t u old h in
        let next = passed (suc level) e some.0 t in
        let inside = subst (λ r. Within next (met r)) some.2 (within_each (walk_block at m core level) (within_block core m level) (node_entries some.0) next) in
        let own : (d : ℕ) → device_at at (split_of at e.block) ≡ Some d → n d ≡ m d =
        λ d place. good d (inside d (lies_right at t.blocks (met_here e t) d (inl place)))
        in
        rw (stays_at (suc level) (t.last (suc level)) e (split_of at e.block) own ∙ some.1) (ok_each (walk_block at m core level) (walk_block at n core level) (within_block core m level) (λ x y z. ok_block level x y z) (node_entries some.0) next u some.2 good)

    module _ (alike : (d : ℕ) → (n d ≡ m d) ⊎ (is_fork_block (n d) ≡ false)) where
      same_or : (level : ℕ) (last : Option Last) (e : Entry) (place : Option (ℕ × ℕ)) → (sound_at at n core level last e place ≡ sound_at at m core level last e place) ⊎ (sound_at at n core level last e place ≡ None)
      same_or level last e None = inl refl
      same_or level last e (Some p) =
          elim (alike (device_block_of at p.0 p.1)) [
            | inl same ↦ inl (rw same refl)
            | inr other ↦ inr (strange_at level last e p other)
          ]

      same_none : (level : ℕ) (last : Option Last) (e : Entry) (place : Option (ℕ × ℕ)) → sound_at at m core level last e place ≡ None → sound_at at n core level last e place ≡ None
      same_none level last e place none =
          elim (same_or level last e place) [ inl same ↦ same ∙ none | inr h ↦ h ]

      same_in : (before now : Option (List ℕ)) (t : Trail) (old new : List ℕ → Result Trail Trail) → (before ≡ None → now ≡ None) → ((bytes : List ℕ) → before ≡ Some bytes → (now ≡ Some bytes) × (new bytes ≡ old bytes)) → walk_in now t new ≡ walk_in before t old
      same_in None now t old new none some = rw (none refl) refl
      same_in (Some bytes) now t old new none some = rw ((some bytes refl).0) (some bytes refl).1

      good_in : (o : Option (List ℕ)) (t : Trail) (below : List ℕ → Result Trail Trail) (bytes : List ℕ) → o ≡ Some bytes → Good (met (walk_in o t below)) → Good (met (below bytes))
      good_in o t below bytes some good = rw some at good

      own : (o : Option (List ℕ)) (t : Trail) (level : ℕ) (e : Entry) (below : List ℕ → Result Trail Trail) (bytes : List ℕ) → o ≡ Some bytes → Within (passed level e bytes t) (met (below bytes)) → Good (met (walk_in o t below)) → (d : ℕ) → device_at at (split_of at e.block) ≡ Some d → n d ≡ m d
      unfolding Good met Within
      own o t level e below bytes some w good d place =
          let g = rw some at good in
          g d (w d (lies_right at t.blocks (met_here e t) d (inl place)))

      -- the walk is the same, where each block that was met stays
      pub same_block : (level : ℕ) (t : Trail) (e : Entry) → Good (met (walk_block at m core level t e)) → walk_block at n core level t e ≡ walk_block at m core level t e
      unfolding walk_block block_at met
      same_block zero t e good =
          let below : List ℕ → Result Trail Trail = λ bytes. Ok (with_mappings (leaf_mappings bytes) (passed zero e bytes t)) in
          same_in (block_at at m core zero t e) (block_at at n core zero t e) t below below (same_none zero (t.last zero) e (split_of at e.block)) (λ bytes some. (
            stays_at zero (t.last zero) e (split_of at e.block) (own (block_at at m core zero t e) t zero e below bytes some (same_blocks (passed zero e bytes t) (leaf_mappings bytes)) good) ∙ some,
            refl,
          ))
      same_block (suc level) t e good =
          let old : List ℕ → Result Trail Trail = λ bytes. walk_each (walk_block at m core level) (node_entries bytes) (passed (suc level) e bytes t) in
          let new : List ℕ → Result Trail Trail = λ bytes. walk_each (walk_block at n core level) (node_entries bytes) (passed (suc level) e bytes t) in
          same_in (block_at at m core (suc level) t e) (block_at at n core (suc level) t e) t old new (same_none (suc level) (t.last (suc level)) e (split_of at e.block)) (λ bytes some. (
            stays_at (suc level) (t.last (suc level)) e (split_of at e.block) (own (block_at at m core (suc level) t e) t (suc level) e old bytes some (within_each (walk_block at m core level) (within_block core m level) (node_entries bytes) (passed (suc level) e bytes t)) good) ∙ some,
            same_each (walk_block at m core level) (walk_block at n core level) (within_block core m level) (λ u x g. same_block level u x g) (node_entries bytes) (passed (suc level) e bytes t) (good_in (block_at at m core (suc level) t e) t old bytes some good),
          ))

      -- the walk is the same, or it fails
      unfoldable pub Other : Result Trail Trail → Result Trail Trail → Type 0
      Other now before = (now ≡ before) ⊎ (is_ok now ≡ false)

      pub same_other : (r : Result Trail Trail) → Other r r
      unfolding Other
      same_other r = inl refl

      other_then : (r s : Result Trail Trail) (before now : Trail → Result Trail Trail) → Other s r → ((u : Trail) → Other (now u) (before u)) → Other (s >>= now) (r >>= before)
      unfolding Other
      other_then (Ok u) s before now (inl same) h = rw same (h u)
      other_then (Err u) s before now (inl same) h = rw same (inl refl)
      other_then r (Ok u) before now (inr failed) h = absurd (false≢true (sym failed))
      other_then r (Err u) before now (inr failed) h = inr refl

      pub other_each : (before now : Trail → Entry → Result Trail Trail) → ((t : Trail) (e : Entry) → Other (now t e) (before t e)) → (es : List Entry) (t : Trail) → Other (walk_each now es t) (walk_each before es t)
      unfolding walk_each
      other_each before now h [] t = same_other (Ok t)
      other_each before now h (e ∷ es) t =
          other_then (before t e) (now t e) (walk_each before es) (walk_each now es) (h t e) (λ u. other_each before now h es u)

      other_in : (before now : Option (List ℕ)) (t : Trail) (old new : List ℕ → Result Trail Trail) → (now ≡ before) ⊎ (now ≡ None) → ((bytes : List ℕ) → Other (new bytes) (old bytes)) → Other (walk_in now t new) (walk_in before t old)
      unfolding Other
      other_in None now t old new (inl same) h = rw same (inl refl)
      other_in (Some bytes) now t old new (inl same) h = rw same (h bytes)
      other_in before now t old new (inr none) h = rw none (inr refl)

      pub other_block : (level : ℕ) (t : Trail) (e : Entry) → Other (walk_block at n core level t e) (walk_block at m core level t e)
      unfolding walk_block block_at
      other_block zero t e =
          let below : List ℕ → Result Trail Trail = λ bytes. Ok (with_mappings (leaf_mappings bytes) (passed zero e bytes t)) in
          other_in (block_at at m core zero t e) (block_at at n core zero t e) t below below (same_or zero (t.last zero) e (split_of at e.block)) (λ bytes. same_other (below bytes))
      other_block (suc level) t e =
          let old : List ℕ → Result Trail Trail = λ bytes. walk_each (walk_block at m core level) (node_entries bytes) (passed (suc level) e bytes t) in
          let new : List ℕ → Result Trail Trail = λ bytes. walk_each (walk_block at n core level) (node_entries bytes) (passed (suc level) e bytes t) in
          other_in (block_at at m core (suc level) t e) (block_at at n core (suc level) t e) t old new (same_or (suc level) (t.last (suc level)) e (split_of at e.block)) (λ bytes. other_each (walk_block at m core level) (walk_block at n core level) (λ u x. other_block level u x) (node_entries bytes) (passed (suc level) e bytes t))
