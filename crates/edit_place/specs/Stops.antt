-- Why a tree isn't edited in place, and which of the reasons is the device's.
use Rattle.std.specs.Prelude.{Bool, true, false}
use Rattle.tree_blocks.specs.declared.tree.WalkFault.{WalkFault}
use Rattle.tree_blocks.specs.declared.tree.WalkFault.TheVariants as walk
use Rattle.edit_terms.specs.declared.fault.EditFault.{EditFault}
use Rattle.edit_terms.specs.declared.fault.EditFault.TheVariants as edit
use Rattle.edit_place.specs.declared.stop.Stop.{Stop}
use Rattle.edit_place.specs.declared.stop.Stop.TheVariants.{Failed, Unfit}

abbrev pub is_failed : Stop → Bool
is_failed Failed = true
is_failed Unfit = false

abbrev pub of_walk : WalkFault → Stop
of_walk (walk.Bad block fault) = Unfit
of_walk walk.Failed = Failed
of_walk walk.Memory = Unfit

abbrev pub of_edit : EditFault → Stop
of_edit (edit.Bad block fault) = Unfit
of_edit edit.Missing = Unfit
of_edit edit.Overlap = Unfit
of_edit (edit.Short have need) = Unfit
of_edit (edit.TooLarge n) = Unfit
of_edit edit.Failed = Failed
of_edit edit.Memory = Unfit
