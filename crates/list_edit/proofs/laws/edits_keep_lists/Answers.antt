use Rattle.list_edit.proofs.KeepLemmas.{keeps_rising, keeps_each, counts_records}
use Rattle.list_edit.proofs.laws.edits_keep_lists.Goals as goal

pub returns : goal.returns
returns g c = let form = g.K.RecKind.form in record { rising = keeps_rising form g.met.K.RecKind.lawful; each = keeps_each form; counts = counts_records form }
