use Rattle.std.proofs.Common.{refl}
use Rattle.core_chains.proofs.write.PartLemmas.{one_left}
use Rattle.core_files.proofs.inodes.gives.give_read.Goals as goal

pub returns-clause-left : goal.returns-clause-left
returns-clause-left g c = one_left g.D.Device c.args.desk.now c.give_in.new.desk c.args.groups.now.items _ c.args.given.now.place.group c.give_in.new.kept c.requires.given.kept c.give_in.ensures.halts.desk c.give_in.ensures.halts.steady c.give_in.ensures.kept refl
