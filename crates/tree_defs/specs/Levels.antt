-- What a tree is, by its levels.
use Rattle.std.specs.Prelude.{◌≡◌, ℕ, zero, suc, ◌-◌, ◌<◌, ◌≤◌, ◌==◌, ◌⊎◌, ◌↔◌, Bool, true, false, if◌then◌else◌, List, [], ◌∷◌, ◌++◌, Option, Some, None, Ok}
use Rattle.sblock.specs.Blocks.{numrecs, block_fault, records_of, IsRising}
use Rattle.sblock.specs.Form.{Form}
use Rattle.sblock.specs.Headers.{no_block, left_of, right_of}
use Rattle.sblock.specs.Spans.{span_of}
use Rattle.tree_defs.specs.Tree.{want_of, comes_after, Entry, agrees, entries_from, read_tree}
use Rattle.tree_defs.specs.declared.site.Site.{Site}

-- what the children have, from left to right
abbrev pub over : {A K : Type 0} → (ℕ → List A) → List (Entry K) → List A
over f [] = []
over f (e ∷ es) = f e.child ++ over f es

abbrev pub AllEntries : {K : Type 0} → (Entry K → Type 0) → List (Entry K) → Type 0
AllEntries P [] = Unit {0}
AllEntries P (e ∷ es) = P e × AllEntries P es

-- the block itself, where j is its level
abbrev pub here : ℕ → ℕ → ℕ → List ℕ
here level j p = if j == level then p ∷ [] else []

-- Each block's left sibling is the one before it, whose right sibling it is. Before the list
-- stands a block, with its right sibling.
abbrev pub IsChain : (ℕ → List ℕ) → ℕ → ℕ → List ℕ → Type 0
IsChain m before next [] = Unit {0}
IsChain m before next (p ∷ ps) = (left_of (m p) ≡ before) × ((before ≡ no_block) ⊎ (next ≡ p)) × IsChain m p (right_of (m p)) ps

-- the right sibling of the last of these
abbrev pub last_right : (ℕ → List ℕ) → ℕ → List ℕ → ℕ
last_right m next [] = next
last_right m next (p ∷ ps) = last_right m (right_of (m p)) ps

module _ {R K : Type 0} (form : Form R K) where
  -- the records rise, the first of them behind one that was read before
  abbrev pub RisesAfter : Option R → List R → Type 0
  RisesAfter q [] = Unit {0}
  RisesAfter q (r ∷ rs) = (comes_after form q r ≡ true) × RisesAfter (Some r) rs

  module _ (m : ℕ → List ℕ) where
    abbrev pub entries : ℕ → List (Entry K)
    entries p = entries_from form (m p) 0 (numrecs (m p))

    -- the records below a block of this level, from left to right
    unfoldable pub recs_of : ℕ → ℕ → List R
    recs_of zero p = records_of form (m p)
    recs_of (suc level) p = over (recs_of level) (entries p)

    -- the blocks below a block of this level, itself first
    unfoldable pub blocks_of : ℕ → ℕ → List ℕ
    blocks_of zero p = p ∷ []
    blocks_of (suc level) p = p ∷ over (blocks_of level) (entries p)

    -- those of them that are of level j, from left to right
    unfoldable pub row : ℕ → ℕ → ℕ → List ℕ
    row zero j p = here 0 j p
    row (suc level) j p = here (suc level) j p ++ over (row level j) (entries p)

    -- the block passes its tests, whatever its siblings
    abbrev pub IsRight : Site → ℕ → Bool → ℕ → Type 0
    IsRight site level root p = block_fault form (m p) (want_of form.kind site level root (left_of (m p)) p) ≡ None

    -- so does each block below, and each entry's keys are its subtree's
    unfoldable pub IsSound : Site → ℕ → Bool → ℕ → Type 0
    IsSound site zero root p = IsRight site 0 root p
    IsSound site (suc level) root p = IsRight site (suc level) root p × AllEntries (λ e. IsSound site level false e.child × (agrees form e (span_of form (recs_of level e.child)) ≡ true)) (entries p)

  pub record IsTree (site : Site) (m : ℕ → List ℕ) (root levels : ℕ) (recs : List R) (blocks : List ℕ) : Type 0 where
    pub root_lies : (1 ≤ root) × (root < site.bounds.length)
    pub has_levels : (1 ≤ levels) × (levels ≤ 9)
    pub sound : IsSound m site (levels - 1) true root
    pub links : (j : ℕ) → j < 9 → IsChain m no_block no_block (row m (levels - 1) j root)
    pub ends : (j : ℕ) → j < levels → last_right m no_block (row m (levels - 1) j root) ≡ no_block
    pub rises : IsRising form recs
    pub recs_are : recs ≡ recs_of m (levels - 1) root
    pub blocks_are : blocks ≡ blocks_of m (levels - 1) root

  abbrev pub ReadsTrees : Type 0
  ReadsTrees = (site : Site) (m : ℕ → List ℕ) (root levels : ℕ) (recs : List R) (blocks : List ℕ) → (read_tree form site m root levels ≡ Ok (recs, blocks)) ↔ IsTree site m root levels recs blocks
