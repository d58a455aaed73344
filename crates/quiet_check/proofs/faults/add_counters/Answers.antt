use Rattle.std.proofs.Common.{◌≡◌, ◌++◌}
use Rattle.std.proofs.lemmas.Result.{on_ok_weaker}
use Rattle.fs_state.specs.Faults.{counter_fault}
use Rattle.fs_model.specs.declared.fault.Counter.TheVariants.{Fblocks}
use Rattle.group_trees.specs.Trees.{reading_of}
use Rattle.quiet_check.proofs.FaultLemmas.{four_put}
use Rattle.quiet_check.proofs.faults.add_counters.Goals as goal

pub returns : goal.returns
returns c =
    on_ok_weaker c.add_counter-4.result
    (λ (is : c.add_counter-4.new.faults.items ≡ c.add_counter-3.new.faults.items ++ counter_fault Fblocks c.args.agi.now.fblocks c.blocks_in-fino.result).
    four_put c.args.faults.now.items c.add_counter.new.faults.items c.add_counter-2.new.faults.items c.add_counter-3.new.faults.items c.add_counter-4.new.faults.items c.args.kept c.args.agi.now c.args.recs.now (reading_of c.args.trees.now.ino) (reading_of c.args.trees.now.fino)
    c.total_count-count.result c.total_free-free.result c.blocks_in-ino.result c.blocks_in-fino.result
    c.total_count-count.ensures c.total_free-free.ensures c.blocks_in-ino.ensures c.blocks_in-fino.ensures
    c.in_ok-add_counter.ensures c.in_ok-add_counter-2.ensures c.in_ok-add_counter-3.ensures is)
    c.add_counter-4.ensures
