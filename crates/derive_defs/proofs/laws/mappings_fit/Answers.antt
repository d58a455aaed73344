use Rattle.derive_defs.proofs.ConditionLemmas.{starts_rise, end_within, end_further}
use Rattle.derive_defs.proofs.laws.mappings_fit.Goals as goal

pub returns : goal.returns
returns c bounds further mappings le rises inside =
    let ends = end_within bounds mappings inside in
    (starts_rise mappings rises, ends, end_further bounds.length further mappings le ends)
