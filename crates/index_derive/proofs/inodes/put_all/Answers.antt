use Rattle.std.proofs.Common.{None}
use Rattle.index_derive.specs.declared.inodes.UnitCores.{UnitCores}
use Rattle.index_derive.specs.Inodes.{records_of}
use Rattle.index_derive.proofs.InodeLemmas.{more_left, none_left_over}
use Rattle.index_derive.proofs.inodes.put_all.Goals as goal

-- what a place past the end reads as
abbrev none : UnitCores
none = record { unit = 0; free = None }

pub loop-cores-preserved : goal.loop-cores-preserved
loop-cores-preserved c = more_left c.loop-cores.recs.items c.put_record.new.recs.items (records_of c.args.units.now) c.args.units.now c.loop-cores.cores-index none c.loop-cores-test.true c.in_ok-put_record.ensures c.loop-cores.invariant

pub returns : goal.returns
returns c = none_left_over c.loop-cores.recs.items (records_of c.args.units.now) c.args.units.now c.loop-cores.cores-index c.loop-cores-test.false c.loop-cores.invariant
