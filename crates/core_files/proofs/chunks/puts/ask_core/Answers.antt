use Rattle.std.proofs.Common.{refl}
use Rattle.blk_device.specs.declared.device.Region.TheVariants.{Image}
use Rattle.core_files.proofs.chunks.ChunkLemmas.{opens_put}
use Rattle.core_files.proofs.chunks.puts.ask_core.Goals as goal

pub returns-clause-opened : goal.returns-clause-opened
returns-clause-opened g c =
    let old = c.args.desk.now.store in
    opens_put g.D.Device c.args.place.now.group (g.D.Device.blocks old.dev Image) c.put_file.new.txn.blocks old (record { dev = c.put_file.new.dev; geo = old.geo; cache = c.put_file.new.cache; edit = c.mark.new.self }) c.requires.opened refl c.put_file.ensures.looks.sizes refl c.in_ok-put_file.ensures.put c.mark.ensures.kept.joined c.mark.ensures.kept.group c.mark.ensures.marked
