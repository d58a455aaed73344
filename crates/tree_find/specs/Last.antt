-- What the last record of a tree is, and what looking for it reads: one way down, by the last entry
-- of each node.
use Rattle.std.specs.Prelude.{◌≡◌, ℕ, zero, suc, ◌-◌, ◌&&◌, nat_le, nat_lt, Bool, true, false, if◌then◌else◌, List, length, slice_get, Option, Result, Ok, Err}
use Rattle.sblock.specs.Area.{area_of, child_of}
use Rattle.sblock.specs.Blocks.{numrecs, records_of}
use Rattle.sblock.specs.Form.{Form}
use Rattle.sblock.specs.declared.block.BlockFault.{BlockFault}
use Rattle.sblock.specs.declared.block.BlockFault.TheVariants as faults
use Rattle.sblock.specs.declared.block.Bounds.{Bounds}
use Rattle.tree_defs.specs.Claims.{lone_fault}
use Rattle.tree_defs.specs.Tree.{tested, top_of}
use Rattle.tree_defs.specs.declared.site.Site.{Site}
use Rattle.tree_find.specs.Laws.{Holds}

-- the last of these, if there is one
abbrev pub last_of : {R : Type 0} → List R → Option R
last_of recs = slice_get recs (length recs - 1)

module _ {R K : Type 0} (form : Form R K) where
  -- below a block of this level
  unfoldable pub last_below : Site → (ℕ → List ℕ) → ℕ → Bool → ℕ → Result (Option R) (ℕ × BlockFault)
  last_below site m zero root p = tested (lone_fault form site zero root p (m p)) p (Ok (last_of (records_of form (m p))))
  last_below site m (suc level) root p =
      tested (lone_fault form site (suc level) root p (m p)) p (last_below site m level false (child_of form.kind (area_of (m p)) (numrecs (m p) - 1)))

  -- in a tree with this root and so many levels
  unfoldable pub last_in : Site → (ℕ → List ℕ) → ℕ → ℕ → Result (Option R) (ℕ × BlockFault)
  last_in site m root levels =
      if nat_le 1 root && nat_lt root site.bounds.length then last_below site m (top_of levels) true root else Err (root, faults.Range)

  -- of a readable tree it is the last of its records
  abbrev pub LastInTrees : Type 0
  LastInTrees = (site : Site) (m : ℕ → List ℕ) (root levels : ℕ) (recs : List R) → Holds form site m root levels recs → last_in site m root levels ≡ Ok (last_of recs)

  -- a record of a supported form, with its numbers in range
  pub record IsSoundOne (bounds : Bounds) (rec : R) : Type 0 where
    pub inside : form.is_in_range bounds rec ≡ true
    pub supported : form.is_supported rec ≡ true
