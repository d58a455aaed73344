-- The blocks of a tree, level by level.
use Rattle.std.proofs.Common.{◌≡◌, ℕ, zero, suc, ◌+◌, ◌-◌, ◌<◌, ◌≤◌, Bool, true, false, List, [], ◌∷◌, length, refl, sym, ◌∙◌, ap, subst, arith}
use Rattle.std.specs.Prelude.{◌==◌, ◌&&◌, nat_le, nat_lt, if◌then◌else◌}
use Rattle.std.proofs.lemmas.Bool.{eqb-true}
use Rattle.std.proofs.lemmas.Bool.Decides.{nat_tests}
use Rattle.byte_fields.specs.Fields.{field}
use Rattle.sblock.proofs.BlockLemmas.{has_level, children_lie_inside}
use Rattle.sblock.specs.Area.{area_of, child_of}
use Rattle.sblock.specs.Blocks.{numrecs, children_of, AreBlocks}
use Rattle.sblock.specs.Form.{Form}
use Rattle.sblock.specs.Lists.{items_from}
use Rattle.tree_defs.specs.Levels.{over, AllEntries, here, entries, recs_of, blocks_of, row, IsRight, IsSound, IsTree}
use Rattle.sblock.specs.Headers.{no_block, left_of}
use Rattle.sblock.specs.Spans.{span_of}
use Rattle.tree_defs.specs.Tree.{Entry, want_of, agrees, entry_at, entries_from}
use Rattle.tree_defs.specs.declared.site.Site.{Site}
use Rattle.tree_defs.specs.Lists.{times, AllDiffer}
use Rattle.tree_defs.specs.Sizes.{BlocksDiffer}
use Rattle.tree_defs.proofs.Chains.{stands_once}
use Rattle.tree_defs.proofs.Counts.{AllBetween, between_append, times_append, same_number, fewer}

-- the level that a block says of itself
abbrev height : (ℕ → List ℕ) → ℕ → ℕ
height m b = field 2 (m b) 4

lies_between : (n p : ℕ) → (nat_le 1 p && nat_lt p n) ≡ true → (1 ≤ p) × (p < n)
lies_between n p h = (grind (arith, nat_tests), grind (arith, nat_tests))

lt_true : (a n : ℕ) → nat_lt a n ≡ true → a < n
lt_true a n h = grind (arith, nat_tests)

lt_false : (a n : ℕ) → nat_lt a n ≡ false → n ≤ a
lt_false a n h = grind (arith, nat_tests)

module _ {R K : Type 0} (form : Form R K) where
  -- each entry of a node leads into the group
  children_between : (len : ℕ) (area : List ℕ) (n i : ℕ) → AreBlocks len (items_from (child_of form.kind area) n i) → AllEntries (λ (e : Entry K). (1 ≤ e.child) × (e.child < len)) (items_from (entry_at form area) n i)
  children_between len area zero i h = tt
  children_between len area (suc n) i h = (lies_between len (child_of form.kind area i) h.0, children_between len area n (i + 1) h.1)

  module _ (site : Site) (m : ℕ → List ℕ) where
    entries_between : (level : ℕ) (root : Bool) (p : ℕ) → IsRight form m site (suc level) root p → AllEntries (λ (e : Entry K). (1 ≤ e.child) × (e.child < site.bounds.length)) (entries form m p)
    unfolding entries_from children_of
    entries_between level root p right = children_between site.bounds.length (area_of (m p)) (numrecs (m p)) 0 (children_lie_inside form (m p) (want_of form.kind site (suc level) root (left_of (m p)) p) right (omega arith))

    has_height : (level : ℕ) (root : Bool) (p : ℕ) → IsRight form m site level root p → height m p ≡ level
    has_height level root p right = (has_level form (m p) (want_of form.kind site level root (left_of (m p)) p) right).0

    -- what follows for each child, follows for all
    abbrev AllSound : ℕ → List (Entry K) → Type 0
    AllSound level es = AllEntries (λ (e : Entry K). IsSound form m site level false e.child × (agrees form e (span_of form (recs_of form m level e.child)) ≡ true)) es

    -- ---- all blocks lie in the group

    over_between : (f : ℕ → List ℕ) (level : ℕ) → ((q : ℕ) → IsSound form m site level false q → 1 ≤ q → q < site.bounds.length → AllBetween site.bounds.length (f q)) → (es : List (Entry K)) → AllSound level es → AllEntries (λ (e : Entry K). (1 ≤ e.child) × (e.child < site.bounds.length)) es → AllBetween site.bounds.length (over f es)
    over_between f level each [] sound inside = tt
    over_between f level each (e ∷ es) sound inside = between_append site.bounds.length (f e.child) (over f es) (each e.child sound.0.0 inside.0.0 inside.0.1) (over_between f level each es sound.1 inside.1)

    blocks_between : (level : ℕ) (root : Bool) (p : ℕ) → IsSound form m site level root p → 1 ≤ p → p < site.bounds.length → AllBetween site.bounds.length (blocks_of form m level p)
    unfolding blocks_of IsSound
    blocks_between zero root p sound low high = (low, high, tt)
    blocks_between (suc level) root p sound low high =
        (low, high, over_between (blocks_of form m level) level (λ q s l h. blocks_between level false q s l h) (entries form m p) sound.1 (entries_between level root p sound.0))

    here_between : (c : Bool) (p : ℕ) → 1 ≤ p → p < site.bounds.length → AllBetween site.bounds.length (if c then p ∷ [] else [])
    here_between true p low high = (low, high, tt)
    here_between false p low high = tt

    row_between : (level j : ℕ) (root : Bool) (p : ℕ) → IsSound form m site level root p → 1 ≤ p → p < site.bounds.length → AllBetween site.bounds.length (row form m level j p)
    unfolding row IsSound
    row_between zero j root p sound low high = here_between (j == 0) p low high
    row_between (suc level) j root p sound low high =
        between_append site.bounds.length (here (suc level) j p) (over (row form m level j) (entries form m p)) (here_between (j == suc level) p low high)
        (over_between (row form m level j) level (λ q s l h. row_between level j false q s l h) (entries form m p) sound.1 (entries_between level root p sound.0))

    -- ---- a block stands in the row of its own level as often as in the tree

    by_number : (c d : Bool) (level p b : ℕ) → (p == b) ≡ c → (height m b == level) ≡ d → height m p ≡ level → times b (p ∷ []) ≤ times b (if d then p ∷ [] else [])
    by_number c true level p b e f right = omega arith
    by_number true false level p b e f right =
        let s : height m b ≡ level = ap (height m) (sym (eqb-true p b e)) ∙ right in
        let t : (height m b == level) ≡ true = ap (λ (k : ℕ). k == level) s ∙ same_number level in
        let z : true ≡ false = sym t ∙ f in cc
    by_number false false level p b e f right = rw e (omega arith)

    own_row : (level p b : ℕ) → height m p ≡ level → times b (p ∷ []) ≤ times b (here level (height m b) p)
    own_row level p b right = by_number (p == b) (height m b == level) level p b refl refl right

    over_fewer : (level b : ℕ) → ((q : ℕ) → IsSound form m site level false q → times b (blocks_of form m level q) ≤ times b (row form m level (height m b) q)) → (es : List (Entry K)) → AllSound level es → times b (over (blocks_of form m level) es) ≤ times b (over (row form m level (height m b)) es)
    over_fewer level b each [] sound = omega arith
    over_fewer level b each (e ∷ es) sound =
        omega (
          arith,
          each e.child sound.0.0,
          over_fewer level b each es sound.1,
          times_append b (blocks_of form m level e.child) (over (blocks_of form m level) es),
          times_append b (row form m level (height m b) e.child) (over (row form m level (height m b)) es),
        )

    fewer_than_row : (level : ℕ) (root : Bool) (p b : ℕ) → IsSound form m site level root p → times b (blocks_of form m level p) ≤ times b (row form m level (height m b) p)
    unfolding blocks_of row IsSound
    fewer_than_row zero root p b sound = own_row 0 p b (has_height 0 root p sound)
    fewer_than_row (suc level) root p b sound =
        omega (
          arith,
          own_row (suc level) p b (has_height (suc level) root p sound.0),
          over_fewer level b (λ q s. fewer_than_row level false q b s) (entries form m p) sound.1,
          times_append b (p ∷ []) (over (blocks_of form m level) (entries form m p)),
          times_append b (here (suc level) (height m b) p) (over (row form m level (height m b)) (entries form m p)),
        )

    -- ---- no row stands above the root's level

    not_here : (level j p b : ℕ) → level < j → times b (here level j p) ≡ 0
    not_here level j p b lt = let e : (j == level) ≡ false = grind (arith, nat_tests) in rw e refl

    over_none : (f : ℕ → List ℕ) (b : ℕ) → ((q : ℕ) → times b (f q) ≡ 0) → (es : List (Entry K)) → times b (over f es) ≡ 0
    over_none f b each [] = refl
    over_none f b each (e ∷ es) = omega (arith, each e.child, over_none f b each es, times_append b (f e.child) (over f es))

    no_row : (level j p b : ℕ) → level < j → times b (row form m level j p) ≡ 0
    unfolding row
    no_row zero j p b lt = not_here 0 j p b lt
    no_row (suc level) j p b lt =
        omega (
          arith,
          not_here (suc level) j p b lt,
          over_none (row form m level j) b (λ q. no_row level j q b (omega (arith, lt))) (entries form m p),
          times_append b (here (suc level) j p) (over (row form m level j) (entries form m p)),
        )

    -- ---- the tree

    module _ (root levels : ℕ) (recs : List R) (blocks : List ℕ) (short : site.bounds.length ≤ no_block) (tree : IsTree form site m root levels recs blocks) where
      row_differs : (c : Bool) (b : ℕ) → nat_lt (height m b) 9 ≡ c → times b (row form m (levels - 1) (height m b) root) ≤ 1
      row_differs true b e =
          stands_once m site.bounds.length short 0 no_block no_block (row form m (levels - 1) (height m b) root) (tree.links (height m b) (lt_true (height m b) 9 e)) refl
          (row_between (levels - 1) (height m b) true root tree.sound tree.root_lies.0 tree.root_lies.1) b
      row_differs false b e =
          let z : times b (row form m (levels - 1) (height m b) root) ≡ 0 = no_row (levels - 1) (height m b) root b (omega (arith, lt_false (height m b) 9 e, tree.has_levels.1)) in
          omega (arith, z)

      once : (b : ℕ) → times b (blocks_of form m (levels - 1) root) ≤ 1
      once b = omega (arith, fewer_than_row (levels - 1) true root b tree.sound, row_differs (nat_lt (height m b) 9) b refl)

      differ : AllDiffer blocks
      differ b = subst (λ (ps : List ℕ). times b ps ≤ 1) (sym tree.blocks_are) (once b)

      few : length blocks < site.bounds.length
      few = fewer site.bounds.length blocks (omega (arith, tree.root_lies.1)) (subst (AllBetween site.bounds.length) (sym tree.blocks_are) (blocks_between (levels - 1) true root tree.sound tree.root_lies.0 tree.root_lies.1)) differ

pub blocks_differ_lem : {R K : Type 0} (form : Form R K) → BlocksDiffer form
blocks_differ_lem form site m root levels recs blocks short tree = (differ form site m root levels recs blocks short tree, few form site m root levels recs blocks short tree)
