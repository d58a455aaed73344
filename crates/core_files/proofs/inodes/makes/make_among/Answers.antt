use Rattle.std.proofs.Common.{refl}
use Rattle.core_chains.proofs.write.PartLemmas.{one_left}
use Rattle.core_files.proofs.inodes.makes.make_among.Goals as goal

pub returns-clause-left : goal.returns-clause-left
returns-clause-left g c = one_left g.D.Device c.args.desk.now c.make_in.new.desk c.args.groups.now.items _ c.args.run.now.group c.make_in.new.kept c.requires.given.kept c.make_in.ensures.halts.desk c.make_in.ensures.halts.steady c.make_in.ensures.kept refl
