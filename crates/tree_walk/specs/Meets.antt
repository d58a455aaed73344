-- The answer of a walk beside what the tree reads as.
use Rattle.std.specs.Prelude.{◌≡◌, ◌≤◌, ℕ, ◌+◌, List, Bool, Option, Some, Result, Ok, Err}
use Rattle.sblock.specs.declared.block.BlockFault.{BlockFault}
use Rattle.sblock.specs.Form.{Form}
use Rattle.tree_defs.specs.Tree.{Trail, Read, read_node, read_tree}
use Rattle.tree_defs.specs.Walked.{walked, walked_node}
use Rattle.tree_defs.specs.declared.site.Site.{Site}
use Rattle.tree_blocks.specs.declared.tree.TreeAt.{TreeAt}
use Rattle.sblock.specs.declared.spans.Span.{Span}
use Rattle.tree_blocks.specs.Meets.{Refuses}
use Rattle.tree_blocks.specs.declared.tree.TreeRead.{TreeRead}
use Rattle.tree_blocks.specs.declared.tree.WalkFault.{WalkFault}
use Rattle.tree_blocks.specs.declared.tree.WalkFault.TheVariants.{Bad, Failed, Memory}

-- the subtree is read, and this is the trail then
abbrev pub MeetsNode : {R K : Type 0} → Read R K → Result (Option (Span K)) WalkFault → Trail R → Type 0
MeetsNode read (Ok span) t = read ≡ Ok (t, span)
MeetsNode read (Err fault) t = Refuses read fault

-- the tree is read, with these records and blocks
abbrev pub MeetsTree : {R : Type 0} → Result (List R × List ℕ) (ℕ × BlockFault) → Result (TreeRead R) WalkFault → Type 0
MeetsTree read (Ok tree) = read ≡ Ok (tree.recs.items, tree.blocks.items)
MeetsTree read (Err fault) = Refuses read fault

-- the tree with this root and these levels is read
abbrev pub MeetsTreeAt : {R K : Type 0} → Form R K → Site → (ℕ → List ℕ) → TreeAt → Result (TreeRead R) WalkFault → Type 0
MeetsTreeAt form site m tree result = MeetsTree (read_tree form site m tree.root tree.levels) result

-- n blocks were counted as read, or no more than n where the walk was cut off
abbrev pub CountedBy : ℕ → ℕ → ℕ → WalkFault → Type 0
CountedBy before n after (Bad block fault) = after ≡ before + n
CountedBy before n after Failed = after ≤ before + n
CountedBy before n after Memory = after ≤ before + n

abbrev pub HasRead : {A : Type 0} → ℕ → ℕ → ℕ → Result A WalkFault → Type 0
HasRead before n after (Ok a) = after ≡ before + n
HasRead before n after (Err fault) = CountedBy before n after fault

-- the blocks of this tree that a walk reads were counted
abbrev pub CountsTree : {A R K : Type 0} → Form R K → Site → (ℕ → List ℕ) → TreeAt → ℕ → ℕ → Result A WalkFault → Type 0
CountsTree form site m tree before after result = HasRead before (walked form site m tree.root tree.levels) after result

-- where the blocks are known, the subtree of a block is read, beside the trail so far ..
abbrev pub MeetsBlock : {R K : Type 0} → Form R K → Site → Option (ℕ → List ℕ) → ℕ → Bool → ℕ → Trail R → Result (Option (Span K)) WalkFault → Trail R → Type 0
MeetsBlock form site told level root p before result after =
    (m : ℕ → List ℕ) → told ≡ Some m → MeetsNode (read_node form site m level root p before) result after

-- .. and its reads are counted
abbrev pub CountsBlock : {A R K : Type 0} → Form R K → Site → Option (ℕ → List ℕ) → ℕ → Bool → ℕ → Trail R → ℕ → ℕ → Result A WalkFault → Type 0
CountsBlock form site told level root p trail before after result =
    (m : ℕ → List ℕ) → told ≡ Some m → HasRead before (walked_node form site m level root p trail) after result
