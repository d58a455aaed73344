use Rattle.law_accounts.proofs.Edit.Mappings.{mapping_given, mapping_taken}
use Rattle.law_accounts.proofs.edit_laws.mappings_follow.Goals as goal

pub returns-clause-given : goal.returns-clause-given
returns-clause-given c = mapping_given

pub returns-clause-taken : goal.returns-clause-taken
returns-clause-taken c = mapping_taken
