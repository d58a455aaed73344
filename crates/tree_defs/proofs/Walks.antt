-- What a walk over a subtree reads, and that it can be read where its levels are sound.
use Rattle.std.proofs.Common.{◌≡◌, ℕ, zero, suc, ◌<◌, Bool, true, false, List, [], ◌∷◌, Option, None, Ok, refl, ap, sym, subst, ◌∙◌, arith}
use Rattle.std.specs.Prelude.{slice_index}
use Rattle.sblock.specs.Blocks.{records_of}
use Rattle.sblock.specs.Form.{Form, IsLawful}
use Rattle.sblock.specs.declared.block.BlockFault.TheVariants.{Key}
use Rattle.sblock.specs.declared.block.BlockFault.{BlockFault}
use Rattle.tree_defs.specs.Levels.{IsChain, RisesAfter, here, recs_of, blocks_of, row, IsSound, AllEntries, over, entries}
use Rattle.sblock.specs.Spans.{join, span_of}
use Rattle.tree_defs.specs.Tree.{Trail, Entry, Read, agrees, noted, with_recs, read_children, read_node}
use Rattle.sblock.specs.declared.spans.Span.{Span}
use Rattle.tree_defs.specs.declared.site.Site.{Site}
use Rattle.tree_defs.proofs.Blocks.{stands, stood, leaf_rises, first_after, same_number}
use Rattle.tree_defs.proofs.Moves.{Sized, Moved, moved_join, moved_none, entered, last_after, no_more}
use Rattle.tree_defs.proofs.Parts.{last_rec, chain_left, chain_right, rising_left, rising_right, tested_ok, both_same, child_ok}
use Rattle.sblock.proofs.SpanLemmas.{span_append, join_none, join_regroup}

module _ {R K : Type 0} (form : Form R K) (m : ℕ → List ℕ) (site : Site) where
  abbrev Fits : ℕ → Entry K → Type 0
  Fits level e = IsSound form m site level false e.child × (agrees form e (span_of form (recs_of form m level e.child)) ≡ true)

  -- a subtree was read
  pub record Reads (level : ℕ) (root : Bool) (p : ℕ) (t u : Trail R) (span : Option (Span K)) : Type 0 where
    pub sound : IsSound form m site level root p
    pub moved : Moved form m (λ j. row form m level j p) (recs_of form m level p) (blocks_of form m level p) t u
    pub span_is : span ≡ span_of form (recs_of form m level p)

  -- the subtrees of these entries were read
  record ReadsAll (level : ℕ) (es : List (Entry K)) (t u : Trail R) (first span : Option (Span K)) : Type 0 where
    sound : AllEntries (Fits level) es
    moved : Moved form m (λ j. over (row form m level j) es) (over (recs_of form m level) es) (over (blocks_of form m level) es) t u
    span_is : span ≡ join form first (span_of form (over (recs_of form m level) es))

next_child : {R K : Type 0} (form : Form R K) (below : ℕ → Trail R → Read R K) (p : ℕ) (e : Entry K) (es : List (Entry K)) (t u : Trail R) (first span : Option (Span K)) (z : Read R K) → below e.child t ≡ Ok (u, span) → agrees form e span ≡ true → read_children form below p es u (join form first span) ≡ z → read_children form below p (e ∷ es) t first ≡ z
unfolding read_children
next_child form below p e es t u first span z h a r = rw (h, read_children) (rw a r)

module _ {R K : Type 0} (form : Form R K) (law : IsLawful form) (m : ℕ → List ℕ) (site : Site) where
  read_all : (level : ℕ) → ((q : ℕ) (t u : Trail R) (s : Option (Span K)) → Sized t → read_node form site m level false q t ≡ Ok (u, s) → Reads form m site level false q t u s) → (p : ℕ) (es : List (Entry K)) (t u : Trail R) (first s : Option (Span K)) → Sized t → read_children form (read_node form site m level false) p es t first ≡ Ok (u, s) → ReadsAll form m site level es t u first s
  unfolding read_children span_of
  read_all level below p [] t u first s sized h =
      let e = both_same {E = ℕ × BlockFault} t u first s h in
      record {
        sound = tt;
        moved = let P : Trail R → Type 0 = λ v. Moved form m (λ j. []) [] [] t v in subst P e.0 (moved_none form m t sized);
        span_is = sym e.1 ∙ sym (join_none form first);
      }
  read_all level below p (e ∷ es) t u first s sized h =
      let c = child_ok form (read_node form site m level false e.child t) e (λ y. read_children form (read_node form site m level false) p es y.0 (join form first y.1)) (p, Key) (u, s) h in
      let a = below e.child t c.0.0 c.0.1 sized c.1 in
      let b = read_all level below p es c.0.0 u (join form first c.0.1) s a.moved.sized c.3 in
      let mine = recs_of form m level e.child in
      let others = over (recs_of form m level) es in
      record {
        sound = ((a.sound, rw (← a.span_is) c.2), b.sound);
        moved = moved_join form m (λ j. row form m level j e.child) (λ j. over (row form m level j) es) mine others (blocks_of form m level e.child) (over (blocks_of form m level) es) t c.0.0 u a.moved b.moved;
        span_is = b.span_is ∙ (join_regroup form law first c.0.1 (span_of form others) ∙ ap (join form first) (rw (a.span_is) (sym (span_append form law mine others))));
      }

  pub reads : (level : ℕ) (root : Bool) (p : ℕ) (t u : Trail R) (s : Option (Span K)) → level < 9 → Sized t → read_node form site m level root p t ≡ Ok (u, s) → Reads form m site level root p t u s
  unfolding read_node recs_of blocks_of row IsSound
  reads zero root p t u s lt sized h =
      let a = tested_ok _ p _ (u, s) h in
      let b = stands form m site t 0 root p a.0 in
      let rs = records_of form (m p) in
      let e = both_same {E = ℕ × BlockFault} (with_recs (noted t 0 p (m p)) rs) u (span_of form rs) s a.1 in
      record {
        sound = b.right;
        moved = let P : Trail R → Type 0 = λ v. Moved form m (λ j. here 0 j p) rs (p ∷ []) t v in subst P e.0 (entered form m t 0 p rs sized lt b.sibling (leaf_rises form m site (last_rec None t.recs) root p b.right (b.after refl)));
        span_is = sym e.1;
      }
  reads (suc level) root p t u s lt sized h =
      let a = tested_ok _ p _ (u, s) h in
      let b = stands form m site t (suc level) root p a.0 in
      let w = with_recs (noted t (suc level) p (m p)) [] in
      let n = entered form m t (suc level) p [] sized lt b.sibling tt in
      let below : level < 9 = omega arith in
      let go : read_children form (read_node form site m level false) p (entries form m p) w None ≡ Ok (u, s) = let P : Trail R → Type 0 = λ v. read_children form (read_node form site m level false) p (entries form m p) v None ≡ Ok (u, s) in subst P (sym (no_more form m (noted t (suc level) p (m p)))) a.1 in
      let c = read_all level (λ q v x y sv hv. reads level false q v x y below sv hv) p (entries form m p) w u None s n.sized go in
      record {
        sound = (b.right, c.sound);
        moved = moved_join form m (λ j. here (suc level) j p) (λ j. over (row form m level j) (entries form m p)) [] (over (recs_of form m level) (entries form m p)) (p ∷ []) (over (blocks_of form m level) (entries form m p)) t w u n c.moved;
        span_is = c.span_is;
      }

  -- a subtree that is sound can be read behind what links with it
  abbrev CanRead : ℕ → Bool → ℕ → Trail R → Type 0
  CanRead level root p t = (u : Trail R) × (s : Option (Span K)) × (read_node form site m level root p t ≡ Ok (u, s))

  abbrev Links : Trail R → (ℕ → List ℕ) → Type 0
  Links t rows = (j : ℕ) → j < 9 → IsChain m (slice_index t.before j) (slice_index t.next j) (rows j)

  read_each : (level : ℕ) → ((q : ℕ) (t u : Trail R) (s : Option (Span K)) → Sized t → read_node form site m level false q t ≡ Ok (u, s) → Reads form m site level false q t u s) → ((q : ℕ) (t : Trail R) → Sized t → IsSound form m site level false q → Links t (λ j. row form m level j q) → RisesAfter form (last_rec None t.recs) (recs_of form m level q) → CanRead level false q t) → (p : ℕ) (es : List (Entry K)) (t : Trail R) (first : Option (Span K)) → Sized t → AllEntries (Fits form m site level) es → Links t (λ j. over (row form m level j) es) → RisesAfter form (last_rec None t.recs) (over (recs_of form m level) es) → (u : Trail R) × (s : Option (Span K)) × (read_children form (read_node form site m level false) p es t first ≡ Ok (u, s))
  unfolding read_children
  read_each level back go p [] t first sized sound links rises = (t, first, refl)
  read_each level back go p (e ∷ es) t first sized sound links rises =
      let mine = recs_of form m level e.child in
      let others = over (recs_of form m level) es in
      let a = go e.child t sized sound.0.0 (λ j lt. chain_left m (slice_index t.before j) (slice_index t.next j) (row form m level j e.child) (over (row form m level j) es) (links j lt)) (rising_left form (last_rec None t.recs) mine others rises) in
      let r = back e.child t a.0 a.1 sized a.2 in
      let same : agrees form e a.1 ≡ true = rw (r.span_is) (sound.0.1) in
      let b = read_each level back go p es a.0 (join form first a.1) r.moved.sized sound.1 (λ j lt. rw (r.moved.before j lt, r.moved.next j lt) (chain_right m (slice_index t.before j) (slice_index t.next j) (row form m level j e.child) (over (row form m level j) es) (links j lt))) (rw (last_after t a.0.recs mine r.moved.recs_are) (rising_right form (last_rec None t.recs) mine others rises)) in
      (b.0, b.1, next_child form (read_node form site m level false) p e es t a.0 first a.1 (Ok (b.0, b.1)) a.2 same b.2)

  pub can_read : (level : ℕ) (root : Bool) (p : ℕ) (t : Trail R) → level < 9 → Sized t → IsSound form m site level root p → Links t (λ j. row form m level j p) → RisesAfter form (last_rec None t.recs) (recs_of form m level p) → CanRead level root p t
  unfolding read_node recs_of row IsSound
  can_read zero root p t lt sized sound links rises =
      let c : IsChain m (slice_index t.before 0) (slice_index t.next 0) (p ∷ []) = links 0 (omega arith) in
      let b = stood form m site t 0 root p (record { right = sound; sibling = (c.0, c.1); after = λ e n. first_after form m site (last_rec None t.recs) p n rises }) in
      let rs = records_of form (m p) in
      (with_recs (noted t 0 p (m p)) rs, span_of form rs, rw b refl)
  can_read (suc level) root p t lt sized sound links rises =
      let below : level < 9 = omega arith in
      let c : IsChain m (slice_index t.before (suc level)) (slice_index t.next (suc level)) (p ∷ []) = rw (same_number (suc level)) at (chain_left m (slice_index t.before (suc level)) (slice_index t.next (suc level)) (here (suc level) (suc level) p) (over (row form m level (suc level)) (entries form m p)) (links (suc level) lt)) in
      let b = stood form m site t (suc level) root p (record { right = sound.0; sibling = (c.0, c.1); after = λ e n. absurd (omega arith) }) in
      let w = with_recs (noted t (suc level) p (m p)) [] in
      let n = entered form m t (suc level) p [] sized lt (c.0, c.1) tt in
      let a = read_each level (λ q v x y sv hv. reads level false q v x y below sv hv) (λ q v sz sv lv rv. can_read level false q v below sz sv lv rv) p (entries form m p) w None n.sized sound.1 (λ j le. rw (n.before j le, n.next j le) (chain_right m (slice_index t.before j) (slice_index t.next j) (here (suc level) j p) (over (row form m level j) (entries form m p)) (links j le))) (rw (last_after t w.recs [] n.recs_are) rises) in
      let go : read_children form (read_node form site m level false) p (entries form m p) (noted t (suc level) p (m p)) None ≡ Ok (a.0, a.1) = let P : Trail R → Type 0 = λ v. read_children form (read_node form site m level false) p (entries form m p) v None ≡ Ok (a.0, a.1) in subst P (no_more form m (noted t (suc level) p (m p))) a.2 in
      (a.0, a.1, rw b go)
