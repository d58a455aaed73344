use Rattle.std.proofs.Common.{refl}
use Rattle.blk_device.specs.declared.device.Region.TheVariants.{Image}
use Rattle.core_files.proofs.chunks.ChunkLemmas.{opens_put}
use Rattle.core_files.proofs.chunks.puts.ask_block.Goals as goal

pub returns-clause-opened : goal.returns-clause-opened
returns-clause-opened g c =
    let old = c.args.desk.now.store in
    opens_put g.D.Device c.args.g (g.D.Device.blocks old.dev Image) c.join_block.new.txn.blocks old (record { dev = c.join_block.new.dev; geo = old.geo; cache = c.join_block.new.cache; edit = c.mark.new.self }) c.requires.opened refl c.join_block.ensures.looks.sizes refl c.in_ok-join_block.ensures.put c.mark.ensures.kept.joined c.mark.ensures.kept.group c.mark.ensures.marked
