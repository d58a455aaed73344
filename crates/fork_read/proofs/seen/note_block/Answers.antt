use Rattle.std.proofs.Common.{map}
use Rattle.fork_read.specs.Walk.{block_of, last_in}
use Rattle.fork_read.proofs.SeenLemmas.{noted}
use Rattle.fork_read.proofs.seen.note_block.Goals as goal

pub returns-clause-trail : goal.returns-clause-trail
returns-clause-trail c =
    let lasts = rw (c.give_block.ensures.lasts) at c.set_last.ensures in
    noted c.args.from c.args.task.now.level c.args.task.now.key c.args.task.now.block c.get_u64.result c.args.block.now.bytes (last_in c.args.seen.now.lasts) (last_in c.set_last.new.lasts) c.args.seen.now.mappings.items c.give_block.new.seen.mappings.items (map block_of c.args.seen.now.blocks.items) (map block_of c.give_block.new.seen.blocks.items) c.get_u64.ensures c.give_block.ensures.mappings c.in_ok-give_block.ensures.blocks lasts
