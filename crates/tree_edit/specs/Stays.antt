-- What stays as it was through an edit.
use Rattle.std.specs.Prelude.{◌≡◌, ◌≢◌, ℕ}
use Rattle.std.specs.declared.vec.Vec.{Vec}
use Rattle.std.specs.declared.alloc.Global.{Global}
use Rattle.ag_headers.specs.Ring.{FreeRing}
use Rattle.meta_txn.specs.Joined.{Joined}
use Rattle.edit_blocks.specs.Choice.{IsSameList}
use Rattle.tree_blocks.specs.declared.tree.TreeAt.{TreeAt}
use Rattle.tree_edit.specs.Edited.{IsSameTree}
use Rattle.tree_edit.specs.declared.fault.EditFault.{EditFault}
use Rattle.tree_edit.specs.declared.fault.EditFault.TheVariants.{Failed}

-- After a refusal the tree, the list and limbo are as they were, and so is what is joined, but after Failed.
pub record IsAsBefore (tree : TreeAt) (txn : Joined) (list : FreeRing) (limbo : Vec ℕ Global) (tree' : TreeAt) (txn' : Joined) (list' : FreeRing) (limbo' : Vec ℕ Global) (fault : EditFault) : Type 0 where
  pub joined : fault ≢ Failed → txn' ≡ txn
  pub tree_stays : tree' ≡ tree
  pub list_stays : list' ≡ list
  pub limbo_stays : limbo'.items ≡ limbo.items

-- Whatever the answer is: the tree's kind, group and log sequence number, the list's head and the mark stay.
pub record StaySame (tree : TreeAt) (txn : Joined) (list : FreeRing) (tree' : TreeAt) (txn' : Joined) (list' : FreeRing) : Type 0 where
  pub same_tree : IsSameTree tree tree'
  pub same_list : IsSameList list list'
  pub marked : txn'.marked ≡ txn.marked
