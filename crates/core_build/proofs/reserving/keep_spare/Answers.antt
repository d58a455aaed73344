use Rattle.core_build.proofs.SayLemmas.{spare_next, unnoted_next}
use Rattle.core_build.proofs.reserving.keep_spare.Goals as goal

pub returns-in-Noted-clause-says : goal.returns-in-Noted-clause-says
returns-in-Noted-clause-says g c =
    spare_next c.args.place.now.group c.args.place.now.unit c.args.edited.0 c.args.rebuild.now c.keep_block.new.rebuild c.args.kept.now c.keep_block.new.kept c.args.desk.now c.keep_block.new.desk c.keep_block.result c.keep_block.ensures.says

pub returns-in-Unnoted-clause-says : goal.returns-in-Unnoted-clause-says
returns-in-Unnoted-clause-says g c =
    unnoted_next c.args.place.now.group c.args.place.now.unit c.args.edited.0 c.args.rebuild.now c.args.kept.now c.note_unnoted.new.kept c.args.desk.now c.note_unnoted.new.desk c.note_unnoted.result c.note_unnoted.ensures.told c.note_unnoted.ensures.unnoted
