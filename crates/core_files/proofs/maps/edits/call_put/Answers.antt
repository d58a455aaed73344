use Rattle.std.proofs.Common.{refl}
use Rattle.core_files.proofs.maps.EditLemmas.{put_open}
use Rattle.core_files.proofs.maps.edits.call_put.Goals as goal

pub returns-in-Ok-clause-opened : goal.returns-in-Ok-clause-opened
returns-in-Ok-clause-opened g c =
    put_open g.D.Device c.args.g c.args.desk.now.store c.put_file.new.dev c.put_file.new.cache (record c.args.desk.now.store.edit { txn = c.put_file.new.txn }) c.mark.new.self c.requires.opened c.in-Ok.ensures.looks.sizes refl c.in-Ok.ensures.put c.mark.ensures.kept c.mark.ensures.marked
