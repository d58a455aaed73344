-- What a walk meets, step by step.
use Rattle.std.proofs.Common.{◌≡◌, ℕ, zero, suc, ◌+◌, ◌-◌, ◌<◌, ◌≤◌, Bool, true, false, List, Option, Some, None, Result, Ok, Err, refl, sym, ◌∙◌, arith}
use Rattle.std.specs.Prelude.{IfOk, IfErr, OnOk}
use Rattle.sblock.specs.Area.{area_of}
use Rattle.sblock.specs.Blocks.{numrecs, records_of}
use Rattle.sblock.specs.Form.{Form}
use Rattle.sblock.specs.Lists.{items_from}
use Rattle.sblock.specs.declared.block.BlockFault.{BlockFault}
use Rattle.sblock.specs.declared.block.BlockFault.TheVariants.{Key}
use Rattle.tree_defs.specs.Walked.{walked_children, walked_node}
use Rattle.sblock.specs.Spans.{join, span_of}
use Rattle.tree_defs.specs.Tree.{Trail, Read, entry_at, entries_from, agrees, noted, with_recs, fault_here, read_children, read_node}
use Rattle.tree_defs.specs.declared.site.Site.{Site}
use Rattle.sblock.specs.declared.spans.Span.{Span}
use Rattle.tree_walk.specs.Trails.{AreSound}
use Rattle.tree_walk.proofs.BlockFacts.{noted_recs, with_more, sound_more}
use Rattle.tree_blocks.specs.Meets.{Refuses, RefusesBlock, IsMemory}
use Rattle.tree_walk.specs.Meets.{MeetsNode, CountedBy, HasRead}
use Rattle.tree_blocks.specs.declared.tree.WalkFault.{WalkFault}
use Rattle.tree_blocks.specs.declared.tree.WalkFault.TheVariants.{Bad, Failed, Memory}

module _ {R K : Type 0} (form : Form R K) (site : Site) (m : ℕ → List ℕ) where
  node_refused : (level : ℕ) (root : Bool) (p : ℕ) (t : Trail R) (fault : BlockFault) → fault_here form site t level root p (m p) ≡ Some fault → read_node form site m level root p t ≡ Err (p, fault)
  unfolding read_node
  node_refused zero root p t fault h = rw h refl
  node_refused (suc level) root p t fault h = rw h refl

  leaf_taken : (root : Bool) (p : ℕ) (t : Trail R) (bytes : List ℕ) → bytes ≡ m p → fault_here form site t 0 root p bytes ≡ None → read_node form site m 0 root p t ≡ Ok (with_recs (noted t 0 p bytes) (records_of form bytes), span_of form (records_of form bytes))
  unfolding read_node
  leaf_taken root p t bytes e h = rw e (rw (rw e at h) refl)

  pub node_taken : (level : ℕ) (root : Bool) (p : ℕ) (t : Trail R) (bytes : List ℕ) → 0 < level → bytes ≡ m p → fault_here form site t level root p bytes ≡ None → read_node form site m level root p t ≡ read_children form (read_node form site m (level - 1) false) p (items_from (entry_at form (area_of bytes)) (numrecs bytes) 0) (noted t level p bytes) None
  unfolding read_node entries_from
  node_taken zero root p t bytes pos e h = absurd (omega arith)
  node_taken (suc level) root p t bytes pos e h = let s : suc level - 1 ≡ level = omega arith in rw (e, s) (rw (rw e at h) refl)

  pub refused_node : (level : ℕ) (root : Bool) (p : ℕ) (t : Trail R) (fault : WalkFault) → RefusesBlock p (fault_here form site t level root p (m p)) fault → Refuses (read_node form site m level root p t) fault
  refused_node level root p t (Bad q f) h = node_refused level root p t f h.1 ∙ rw (h.0) refl
  refused_node level root p t Failed h = h
  refused_node level root p t Memory h = h

  pub leaf_meets : (level : ℕ) (root : Bool) (p : ℕ) (t u v : Trail R) (bytes : List ℕ) (result : Result (Option (Span K)) WalkFault) → level ≡ 0 → bytes ≡ m p → fault_here form site t level root p bytes ≡ None → u ≡ noted t level p bytes → IfOk result (λ s. s ≡ span_of form (records_of form bytes)) → OnOk result (v ≡ with_recs u (records_of form bytes)) → IfErr result IsMemory → MeetsNode (read_node form site m level root p t) result v
  leaf_meets zero root p t u v bytes (Ok s) z e h n a b q = leaf_taken root p t bytes e h ∙ sym (rw (a, b, n) refl)
  leaf_meets zero root p t u v bytes (Err f) z e h n a b q = rw q tt
  leaf_meets (suc level) root p t u v bytes result z e h n a b q = absurd (omega arith)

-- how many blocks are counted with a block
module _ {R K : Type 0} (form : Form R K) (site : Site) (m : ℕ → List ℕ) where
  leaf_counted : (level : ℕ) (root : Bool) (p : ℕ) (t : Trail R) → level ≡ 0 → walked_node form site m level root p t ≡ 1
  unfolding walked_node
  leaf_counted zero root p t z = refl
  leaf_counted (suc level) root p t z = absurd (omega (arith, z))

  some_counted : (level : ℕ) (root : Bool) (p : ℕ) (t : Trail R) → 1 ≤ walked_node form site m level root p t
  unfolding walked_node
  some_counted zero root p t = omega arith
  some_counted (suc level) root p t = omega arith

  fault_counted : (level : ℕ) (root : Bool) (p : ℕ) (t : Trail R) (fault : BlockFault) → fault_here form site t level root p (m p) ≡ Some fault → walked_node form site m level root p t ≡ 1
  unfolding walked_node
  fault_counted zero root p t fault h = refl
  fault_counted (suc level) root p t fault h = rw h refl

  pub node_counted : (level : ℕ) (root : Bool) (p : ℕ) (t : Trail R) (bytes : List ℕ) → 0 < level → bytes ≡ m p → fault_here form site t level root p bytes ≡ None → walked_node form site m level root p t ≡ suc (walked_children form (read_node form site m (level - 1) false) (walked_node form site m (level - 1) false) (items_from (entry_at form (area_of bytes)) (numrecs bytes) 0) (noted t level p bytes))
  unfolding walked_node entries_from
  node_counted zero root p t bytes pos e h = absurd (omega (arith, pos))
  node_counted (suc level) root p t bytes pos e h = let s : suc level - 1 ≡ level = omega arith in rw (e, s) (rw (rw e at h) refl)

  pub refused_counted : (level : ℕ) (root : Bool) (p : ℕ) (t : Trail R) (fault : WalkFault) (before after : ℕ) → RefusesBlock p (fault_here form site t level root p (m p)) fault → after ≡ before + 1 → CountedBy before (walked_node form site m level root p t) after fault
  refused_counted level root p t (Bad q f) before after h one = rw (fault_counted level root p t f h.1) one
  refused_counted level root p t Failed before after h one = omega (arith, one, some_counted level root p t)
  refused_counted level root p t Memory before after h one = omega (arith, one, some_counted level root p t)

  pub leaf_has_read : {A : Type 0} (level : ℕ) (root : Bool) (p : ℕ) (t : Trail R) (result : Result A WalkFault) (before after : ℕ) → level ≡ 0 → IfErr result IsMemory → after ≡ before + 1 → HasRead before (walked_node form site m level root p t) after result
  leaf_has_read level root p t (Ok x) before after z memory one = rw (leaf_counted level root p t z) one
  leaf_has_read level root p t (Err f) before after z memory one = rw (memory, leaf_counted level root p t z) (omega (arith, one))

pub leaf_sound : {R K S : Type 0} (form : Form R K) (site : Site) (level : ℕ) (root : Bool) (p : ℕ) (t u v : Trail R) (bytes : List ℕ) (result : Result S WalkFault) → level ≡ 0 → fault_here form site t level root p bytes ≡ None → u ≡ noted t level p bytes → OnOk result (v ≡ with_recs u (records_of form bytes)) → AreSound form site.bounds t.recs → OnOk result (AreSound form site.bounds v.recs)
leaf_sound form site level root p t u v bytes (Ok s) z pass n more before =
    let more_recs = with_more u v (records_of form bytes) more in
    let same_recs = noted_recs t u level p bytes n in
    rw (more_recs, same_recs) (sound_more form site t level root p bytes pass z before)
leaf_sound form site level root p t u v bytes (Err f) z pass n more before = tt

module _ {R K : Type 0} (form : Form R K) (below : ℕ → Trail R → Read R K) (p : ℕ) (area : List ℕ) where
  children_done : (n i : ℕ) (t : Trail R) (span : Option (Span K)) → n ≤ i → read_children form below p (items_from (entry_at form area) (n - i) i) t span ≡ Ok (t, span)
  unfolding read_children
  children_done n i t span h = let e : n - i ≡ 0 = omega arith in rw e refl

  child_read : (n i : ℕ) (t u : Trail R) (span s : Option (Span K)) → i < n → below (entry_at form area i).child t ≡ Ok (u, s) → agrees form (entry_at form area i) s ≡ true → read_children form below p (items_from (entry_at form area) (n - i) i) t span ≡ read_children form below p (items_from (entry_at form area) (n - (i + 1)) (i + 1)) u (join form span s)
  unfolding read_children
  child_read n i t u span s lt h a = let e : n - i ≡ suc (n - (i + 1)) = omega arith in rw e (rw h (rw a refl))

  child_wrong : (n i : ℕ) (t u : Trail R) (span s : Option (Span K)) → i < n → below (entry_at form area i).child t ≡ Ok (u, s) → agrees form (entry_at form area i) s ≡ false → read_children form below p (items_from (entry_at form area) (n - i) i) t span ≡ Err (p, Key)
  unfolding read_children
  child_wrong n i t u span s lt h a = let e : n - i ≡ suc (n - (i + 1)) = omega arith in rw e (rw h (rw a refl))

  child_bad : (n i : ℕ) (t : Trail R) (span : Option (Span K)) (f : ℕ × BlockFault) → i < n → below (entry_at form area i).child t ≡ Err f → read_children form below p (items_from (entry_at form area) (n - i) i) t span ≡ Err f
  unfolding read_children
  child_bad n i t span f lt h = let e : n - i ≡ suc (n - (i + 1)) = omega arith in rw e (rw h refl)

  module _ (n i q : ℕ) (t : Trail R) (span : Option (Span K)) (whole : Read R K) where
    pub step_read : (u : Trail R) (s after : Option (Span K)) (b : Bool) → i < n → q ≡ (entry_at form area i).child → read_children form below p (items_from (entry_at form area) (n - i) i) t span ≡ whole → below q t ≡ Ok (u, s) → b ≡ agrees form (entry_at form area i) s → b ≡ true → after ≡ join form span s → read_children form below p (items_from (entry_at form area) (n - (i + 1)) (i + 1)) u after ≡ whole
    step_read u s after b lt e w h a agreed j = rw j (sym (child_read n i t u span s lt (rw e at h) (sym a ∙ agreed)) ∙ w)

    pub step_wrong : (u : Trail R) (s : Option (Span K)) (b : Bool) → i < n → q ≡ (entry_at form area i).child → read_children form below p (items_from (entry_at form area) (n - i) i) t span ≡ whole → below q t ≡ Ok (u, s) → b ≡ agrees form (entry_at form area i) s → b ≡ false → whole ≡ Err (p, Key)
    step_wrong u s b lt e w h a differs = sym w ∙ child_wrong n i t u span s lt (rw e at h) (sym a ∙ differs)

    pub step_bad : (fault : WalkFault) → i < n → q ≡ (entry_at form area i).child → read_children form below p (items_from (entry_at form area) (n - i) i) t span ≡ whole → Refuses (below q t) fault → Refuses whole fault
    step_bad (Bad x f) lt e w h = sym w ∙ child_bad n i t span (x, f) lt (rw e at h)
    step_bad Failed lt e w h = h
    step_bad Memory lt e w h = h

    pub all_read : n ≤ i → read_children form below p (items_from (entry_at form area) (n - i) i) t span ≡ whole → whole ≡ Ok (t, span)
    all_read lt w = sym w ∙ children_done n i t span lt

-- how many are counted with the subtrees of a node's entries
module _ {R K : Type 0} (form : Form R K) (below : ℕ → Trail R → Read R K) (count : ℕ → Trail R → ℕ) (area : List ℕ) where
  abbrev left : ℕ → ℕ → Trail R → ℕ
  left n i t = walked_children form below count (items_from (entry_at form area) (n - i) i) t

  pub none_counted : (n i : ℕ) (t : Trail R) → n ≤ i → left n i t ≡ 0
  unfolding walked_children
  none_counted n i t h = let e : n - i ≡ 0 = omega arith in rw e refl

  module _ (n i q : ℕ) (t : Trail R) (lt : i < n) (child : q ≡ (entry_at form area i).child) where
    pub child_counted : (u : Trail R) (s : Option (Span K)) (b : Bool) → below q t ≡ Ok (u, s) → b ≡ agrees form (entry_at form area i) s → b ≡ true → left n i t ≡ count q t + left n (i + 1) u
    unfolding walked_children
    child_counted u s b h a agreed =
        let e : n - i ≡ suc (n - (i + 1)) = omega (arith, lt) in
        rw (e, ← child, h, sym a ∙ agreed) refl

    pub wrong_counted : (u : Trail R) (s : Option (Span K)) (b : Bool) → below q t ≡ Ok (u, s) → b ≡ agrees form (entry_at form area i) s → b ≡ false → left n i t ≡ count q t
    unfolding walked_children
    wrong_counted u s b h a differs =
        let e : n - i ≡ suc (n - (i + 1)) = omega (arith, lt) in
        rw (e, ← child, h, sym a ∙ differs) (omega arith)

    bad_counted : (f : ℕ × BlockFault) → below q t ≡ Err f → left n i t ≡ count q t
    unfolding walked_children
    bad_counted f h =
        let e : n - i ≡ suc (n - (i + 1)) = omega (arith, lt) in
        rw (e, ← child, h) (omega arith)

    part_counted : count q t ≤ left n i t
    unfolding walked_children
    part_counted =
        let e : n - i ≡ suc (n - (i + 1)) = omega (arith, lt) in
        rw (e, ← child) (omega arith)

    pub cut_off : (fault : WalkFault) (start now after whole : ℕ) → now + left n i t ≡ start + whole → Refuses (below q t) fault → CountedBy now (count q t) after fault → CountedBy start whole after fault
    cut_off (Bad x f) start now after whole w h c = omega (arith, w, bad_counted (x, f) h, c)
    cut_off Failed start now after whole w h c = omega (arith, w, part_counted, c)
    cut_off Memory start now after whole w h c = omega (arith, w, part_counted, c)

pub on_ok : {A E : Type 0} {a b : ℕ} (result : Result A E) → a ≡ b → OnOk result (a ≡ b)
on_ok (Ok x) h = h
on_ok (Err f) h = tt
