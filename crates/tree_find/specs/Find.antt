-- What finding a record by its key reads: one block a level on the way from the root.
use Rattle.std.specs.Prelude.{ℕ, zero, suc, ◌&&◌, nat_le, nat_lt, Bool, true, false, if◌then◌else◌, List, Option, Some, None, Result, Ok, Err, find}
use Rattle.sblock.specs.Blocks.{records_of}
use Rattle.sblock.specs.Form.{Form, same_key}
use Rattle.sblock.specs.declared.block.BlockFault.{BlockFault}
use Rattle.sblock.specs.declared.block.BlockFault.TheVariants as faults
use Rattle.tree_defs.specs.Claims.{lone_fault}
use Rattle.tree_defs.specs.Tree.{tested, top_of}
use Rattle.tree_defs.specs.declared.site.Site.{Site}
use Rattle.tree_find.specs.Places.{child_for}

-- goes on to this child, if any; else there is nothing
abbrev pub on_child : {R : Type 0} → (ℕ → Result (Option R) (ℕ × BlockFault)) → Option ℕ → Result (Option R) (ℕ × BlockFault)
on_child below None = Ok None
on_child below (Some q) = below q

module _ {R K : Type 0} (form : Form R K) where
  -- the record with an equal key
  abbrev pub record_with : K → List R → Option R
  record_with key recs = find (λ r. same_key form (form.key_of r) key) recs

  -- below a block of this level: at a node by the last entry whose low key isn't after the key
  unfoldable pub find_below : Site → (ℕ → List ℕ) → K → ℕ → Bool → ℕ → Result (Option R) (ℕ × BlockFault)
  find_below site m key zero root p =
      tested (lone_fault form site zero root p (m p)) p (Ok (record_with key (records_of form (m p))))
  find_below site m key (suc level) root p =
      tested (lone_fault form site (suc level) root p (m p)) p (on_child (find_below site m key level false) (child_for form key (m p)))

  -- in a tree with this root and so many levels
  unfoldable pub find_in : Site → (ℕ → List ℕ) → ℕ → ℕ → K → Result (Option R) (ℕ × BlockFault)
  find_in site m root levels key =
      if nat_le 1 root && nat_lt root site.bounds.length then find_below site m key (top_of levels) true root else Err (root, faults.Range)

-- the blocks of one way down: one a level, or the root alone where no tree has so many levels
abbrev pub way_of : ℕ → ℕ
way_of levels = if nat_le 1 levels && nat_le levels 9 then levels else 1
