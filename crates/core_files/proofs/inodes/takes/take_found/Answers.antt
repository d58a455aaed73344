use Rattle.std.proofs.Common.{refl}
use Rattle.core_chains.proofs.write.PartLemmas.{one_left}
use Rattle.core_files.proofs.inodes.takes.take_found.Goals as goal

pub returns-clause-left : goal.returns-clause-left
returns-clause-left g c = one_left g.D.Device c.args.desk.now c.take_in.new.desk c.args.groups.now.items _ c.args.found.now.group c.take_in.new.kept c.requires.given.kept c.take_in.ensures.halts.desk c.take_in.ensures.halts.steady c.take_in.ensures.kept refl
