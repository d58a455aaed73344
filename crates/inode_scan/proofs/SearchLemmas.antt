-- What a search meets, block by block.
use Rattle.std.proofs.Common.{◌≡◌, ℕ, zero, suc, ◌+◌, ◌-◌, ◌<◌, ◌≤◌, Bool, true, false, List, ◌∷◌, Option, Some, None, Result, Ok, Err, refl, sym, ap, ◌∙◌, arith}
use Rattle.std.specs.Prelude.{OnOk}
use Rattle.ino_recs.specs.Chunks.{ino_form}
use Rattle.ino_recs.specs.declared.chunk.InoKey.{InoKey}
use Rattle.sblock.specs.Area.{area_of}
use Rattle.sblock.specs.Blocks.{numrecs, records_of}
use Rattle.sblock.specs.Lists.{items_from}
use Rattle.sblock.specs.declared.block.BlockFault.{BlockFault}
use Rattle.sblock.specs.declared.block.BlockFault.TheVariants.{Range}
use Rattle.tree_defs.specs.Claims.{lone_fault}
use Rattle.tree_defs.specs.Tree.{Entry, entry_at, top_of}
use Rattle.tree_defs.specs.declared.site.Site.{Site}
use Rattle.tree_blocks.specs.Meets.{Refuses, RefusesBlock}
use Rattle.tree_blocks.specs.declared.tree.WalkFault.{WalkFault}
use Rattle.tree_blocks.specs.declared.tree.WalkFault.TheVariants.{Bad, Failed, Memory}
use Rattle.tree_find.specs.Meets.{Meets}
use Rattle.tree_find.specs.Next.{start_of}
use Rattle.tree_find.proofs.FindLemmas.{lies_not, does_lie}
use Rattle.inode_scan.specs.Chunk.{first_in}
use Rattle.inode_scan.specs.Search.{Search, among, reads_among, key_from, search_below, reads_below, search_in, reads_in}

-- ---- the entries of a node, one after the other

module _ (below : ℕ → Search) (reads : ℕ → ℕ) (item : ℕ → Entry InoKey) (n i q : ℕ) (lt : i < n) (child : q ≡ (item i).child) where
  more : items_from item (n - i) i ≡ item i ∷ items_from item (n - (i + 1)) (i + 1)
  more = let e : n - i ≡ suc (n - (i + 1)) = omega (arith, lt) in rw e refl

  at_child : (s : Search) → below q ≡ s → below (item i).child ≡ s
  at_child s h = ap below (sym child) ∙ h

  pub found_here : (k : ℕ) → below q ≡ Ok (Some k) → among below (items_from item (n - i) i) ≡ Ok (Some k)
  found_here k h = rw more (rw (at_child (Ok (Some k)) h) refl)

  pub found_reads : (k : ℕ) → below q ≡ Ok (Some k) → reads_among below reads (items_from item (n - i) i) ≡ reads q
  found_reads k h = rw more (rw (at_child (Ok (Some k)) h) (ap reads (sym child)))

  pub none_here : below q ≡ Ok None → among below (items_from item (n - i) i) ≡ among below (items_from item (n - (i + 1)) (i + 1))
  none_here h = rw more (rw (at_child (Ok None) h) refl)

  pub none_reads : below q ≡ Ok None → reads_among below reads (items_from item (n - i) i) ≡ reads q + reads_among below reads (items_from item (n - (i + 1)) (i + 1))
  none_reads h = rw more (rw (at_child (Ok None) h) (ap (λ (k : ℕ). reads k + reads_among below reads (items_from item (n - (i + 1)) (i + 1))) (sym child)))

  pub refused_here : (fault : WalkFault) → Refuses (below q) fault → Refuses (among below (items_from item (n - i) i)) fault
  refused_here (Bad b f) h = rw more (rw (at_child (Err (b, f)) h) refl)
  refused_here Failed h = h
  refused_here Memory h = h

module _ (site : Site) (m : ℕ → List ℕ) (from end : ℕ) where
  one_refused : (level : ℕ) (root : Bool) (p : ℕ) (fault : BlockFault) → lone_fault ino_form site level root p (m p) ≡ Some fault → search_below site m from end level root p ≡ Err (p, fault)
  unfolding search_below
  one_refused zero root p fault h = rw h refl
  one_refused (suc level) root p fault h = rw h refl

  pub block_refused : (level : ℕ) (root : Bool) (p : ℕ) (fault : WalkFault) → RefusesBlock p (lone_fault ino_form site level root p (m p)) fault → Refuses (search_below site m from end level root p) fault
  block_refused level root p (Bad q f) h = one_refused level root p f h.1 ∙ rw (h.0) refl
  block_refused level root p Failed h = h
  block_refused level root p Memory h = h

  pub at_leaf : (level : ℕ) (root : Bool) (p : ℕ) (bytes : List ℕ) (o : Option ℕ) → level ≡ 0 → bytes ≡ m p → lone_fault ino_form site level root p bytes ≡ None → o ≡ first_in from end (records_of ino_form bytes) → search_below site m from end level root p ≡ Ok o
  unfolding search_below
  at_leaf zero root p bytes o z e h f = rw (f, e) (rw (rw e at h) refl)
  at_leaf (suc level) root p bytes o z e h f = absurd (omega (arith, z))

  pub leaf_reads : (level p : ℕ) → level ≡ 0 → reads_below site m from end level p ≡ 1
  unfolding reads_below
  leaf_reads zero p z = refl
  leaf_reads (suc level) p z = absurd (omega (arith, z))

  module _ (p n s : ℕ) (bytes : List ℕ) (is : bytes ≡ m p) (start : s ≡ start_of ino_form (Some (key_from from)) bytes) (count : n ≡ numrecs bytes) where
    pub at_node : (level : ℕ) (root : Bool) → 0 < level → lone_fault ino_form site level root p bytes ≡ None → among (search_below site m from end (level - 1) false) (items_from (entry_at ino_form (area_of bytes)) (n - s) s) ≡ search_below site m from end level root p
    unfolding search_below
    at_node zero root pos h = absurd (omega (arith, pos))
    at_node (suc level) root pos h = let one : suc level - 1 ≡ level = omega arith in rw (count, start, is, one) (rw (rw is at h) refl)

    pub node_reads : (level : ℕ) → 0 < level → 1 + reads_among (search_below site m from end (level - 1) false) (reads_below site m from end (level - 1)) (items_from (entry_at ino_form (area_of bytes)) (n - s) s) ≡ reads_below site m from end level p
    unfolding reads_below
    node_reads zero pos = absurd (omega (arith, pos))
    node_reads (suc level) pos = let one : suc level - 1 ≡ level = omega arith in rw (count, start, is, one) refl

  -- ---- from the root

  pub outside : (root levels : ℕ) → (1 ≤ root → root < site.bounds.length → ⊥) → search_in site m from end root levels ≡ Err (root, Range)
  unfolding search_in
  outside root levels h = rw (lies_not root site.bounds.length h) refl

  pub within : (root levels level : ℕ) (result : Result (Option ℕ) WalkFault) → 1 ≤ root → root < site.bounds.length → level ≡ top_of levels → Meets (search_below site m from end level true root) result → Meets (search_in site m from end root levels) result
  unfolding search_in
  within root levels level result some below e h = rw (does_lie root site.bounds.length some below, ← e) h

  pub all_reads : (root levels level : ℕ) → level ≡ top_of levels → reads_below site m from end level root ≡ reads_in site m from end root levels
  unfolding reads_in
  all_reads root levels level e = ap (λ (l : ℕ). reads_below site m from end l root) e

-- what follows from an Ok follows from what that gives
pub on_ok : {T E : Type 0} (r : Result T E) (P Q : Type 0) → (P → Q) → OnOk r P → OnOk r Q
on_ok (Ok x) P Q f h = f h
on_ok (Err e) P Q f h = tt
