use Rattle.core_files.proofs.shares.SaidLemmas.{held_shared}
use Rattle.core_files.proofs.shares.shares.share_usable.Goals as goal

-- it says of the chain that was asked for
pub returns-in-Ok-clause-said : goal.returns-in-Ok-clause-said
returns-in-Ok-clause-said g c = held_shared c.args.desk.now c.held_file.new.desk c.share_held.new.desk c.in-Ok.of.held c.args.chain c.args.asked.now.range.offset c.args.asked.now.to_offset c.share_held.result
    c.share_held.ensures.said c.in-Ok.ensures.held c.in-Ok.ensures.geometry c.in-Ok.ensures.items
