use Rattle.std.proofs.Common.{◌≡◌, ◌∙◌}
use Rattle.std.proofs.lemmas.Result.{IfOk-weaker}
use Rattle.index_derive.specs.Inodes.{records_of}
use Rattle.index_derive.proofs.InodeLemmas.{records_exact}
use Rattle.index_derive.proofs.inodes.inode_records.Goals as goal

pub returns-clause-exact : goal.returns-clause-exact
returns-clause-exact c a g are = IfOk-weaker c.put_all.result (λ recs. recs.items ≡ records_of c.args.units.now) _ (λ recs is. is ∙ records_exact a g c.args.units.now are) c.put_all.ensures
