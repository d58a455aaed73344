-- What the check of a group's free space and reference counts reads, and adds to the journal.
use Rattle.std.specs.Prelude.{ℕ, ◌+◌, ◌==◌, if◌then◌else◌, List, [], ◌∷◌, ◌++◌, length, map, Result}
use Rattle.ag_headers.specs.declared.agf.Agf.{Agf}
use Rattle.fs_model.specs.declared.entry.Entry.{Entry}
use Rattle.fs_model.specs.declared.entry.Entry.TheVariants as entries
use Rattle.fs_model.specs.declared.fault.Fault.{Fault}
use Rattle.fs_model.specs.declared.unit.Unit.{Unit}
use Rattle.fs_model.specs.declared.verdict.Verdict.{Verdict}
use Rattle.fs_model.specs.declared.verdict.Verdict.TheVariants.{Good, Faulty}
use Rattle.geom.specs.Layout.{Layout}
use Rattle.sblock.specs.Form.{Form}
use Rattle.span_recs.specs.Spans.{bno_form, cnt_form}
use Rattle.tree_blocks.specs.declared.tree.TreeAt.{TreeAt}
use Rattle.tree_defs.specs.Sites.{site_of, group_blocks}
use Rattle.tree_defs.specs.Tree.{read_tree}
use Rattle.tree_defs.specs.Walked.{walked}
use Rattle.space_check.specs.Events.{Event}
use Rattle.space_check.specs.Faults.{Reading}
use Rattle.space_check.specs.Progress.{HasRead}
use Rattle.space_check.specs.declared.halt.Halt.{Halt}

-- good where there is no fault, else faulty with their number
abbrev pub verdict_of : ℕ → Verdict
verdict_of n = if n == 0 then Good else Faulty n

-- the faults of a unit in their order, and its verdict
unfoldable pub unit_entries : ℕ → Unit → List Fault → List Entry
unit_entries g unit faults = map (entries.Fault g unit) faults ++ entries.Verdict g unit (verdict_of (length faults)) ∷ []

-- a verdict by itself
abbrev pub verdict_entries : ℕ → Unit → Verdict → List Entry
verdict_entries g unit verdict = entries.Verdict g unit verdict ∷ []

abbrev pub event : ℕ → List Entry → Event
event reads entries = record { reads = reads; entries = entries }

module _ (at : Layout) (image : ℕ → List ℕ) (g : ℕ) where
  -- a tree of the group, as it is read
  unfoldable pub tree_of : {R K : Type 0} → Form R K → ℕ → ℕ → Reading R
  tree_of form root levels = read_tree form (site_of at g) (group_blocks (site_of at g) image) root levels

  -- how many blocks are read for that
  unfoldable pub blocks_read : {R K : Type 0} → Form R K → ℕ → ℕ → ℕ
  blocks_read form root levels = walked form (site_of at g) (group_blocks (site_of at g) image) root levels

  -- both, where this is the tree
  abbrev pub tree_read : {R K : Type 0} → Form R K → TreeAt → Reading R
  tree_read form tree = tree_of form tree.root tree.levels

  abbrev pub reads_for : {R K : Type 0} → Form R K → TreeAt → ℕ
  reads_for form tree = blocks_read form tree.root tree.levels

  -- the blocks of the two trees of free space
  abbrev pub free_reads : Agf → ℕ
  free_reads agf = blocks_read bno_form agf.bno_root agf.bno_level + blocks_read cnt_form agf.cnt_root agf.cnt_level

-- a tree's blocks were read for it, or no more of them
abbrev pub CountsReads : {R K T : Type 0} → Layout → (ℕ → List ℕ) → Form R K → TreeAt → (before after : ℕ) → Result T Halt → Type 0
CountsReads at image form tree before after result = HasRead before (reads_for at image tree.group form tree) after result
