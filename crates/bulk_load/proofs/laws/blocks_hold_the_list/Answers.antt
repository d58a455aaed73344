use Rattle.bulk_load.proofs.RecordLemmas.{holds_the_list}
use Rattle.bulk_load.proofs.laws.blocks_hold_the_list.Goals as goal

pub returns : goal.returns
returns g c = holds_the_list g.K.RecKind.form
