use Rattle.test_changes.proofs.Computing.{computing}
use Rattle.std.proofs.Common.{sym}
use Rattle.std.proofs.lemmas.Bool.{true≢false}
use Rattle.sblock.specs.declared.kind.Kind.TheVariants.{Bno}
use Rattle.test_changes.proofs.rows.claims_kept.Goals as goal

pub returns : goal.returns
unfolding computing
returns c = λ f. true≢false (sym ((f.groups 0).trees Bno).reading)
