use Rattle.fork_change.proofs.WrittenLemmas.{reads_as, keeps_attributes}
use Rattle.fork_change.proofs.written.put_all.Goals as goal

pub returns-clause-read : goal.returns-clause-read
returns-clause-read c = reads_as c.args.list.now c.args.core.now c.place.new.core c.place.ensures.exact c.requires.extents c.requires.inside c.requires.list c.requires.room

pub returns-clause-attributes : goal.returns-clause-attributes
returns-clause-attributes c = keeps_attributes c.args.list.now c.args.core.now c.place.new.core c.place.ensures.exact c.requires.room
