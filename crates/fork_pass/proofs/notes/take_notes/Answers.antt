use Rattle.std.proofs.Common.{refl, ap, ◌∙◌}
use Rattle.std.specs.Global.{Vec}
use Rattle.inode_pass.specs.declared.note.ForkNote.{ForkNote}
use Rattle.fork_pass.proofs.KeptLemmas.{notes_there, others_stay, units_stay}
use Rattle.fork_pass.proofs.notes.take_notes.Goals as goal

pub returns-clause-taken : goal.returns-clause-taken
returns-clause-taken c = ap (λ (v : Vec ForkNote). v.items) c.replace.ensures.value ∙ notes_there c.args.inodes.now c.args.g c.index-inodes-g.result c.requires

pub returns-clause-others : goal.returns-clause-others
returns-clause-others c = λ h lt. others_stay c.args.inodes.now c.args.g h _ lt

pub returns-clause-units : goal.returns-clause-units
returns-clause-units c = units_stay c.args.inodes.now c.args.g _ c.index-inodes-g.result c.requires refl
