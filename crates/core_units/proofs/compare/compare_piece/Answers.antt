use Rattle.std.proofs.Common.{◌∙◌, refl}
use Rattle.core_units.proofs.compare.compare_piece.Goals as goal

pub returns-clause-exact : goal.returns-clause-exact
returns-clause-exact c = c.next_left-at.ensures c.args.kept c.args.heads.now ∙ c.in_ok-piece.ensures

pub returns-clause-judging : goal.returns-clause-judging
returns-clause-judging c = λ at g is. record { trees = is.trees; spare = is.spare; within = is.within; unit = is.unit; comparable = is.comparable; fit = is.fit; chunks = is.chunks }

pub returns-clause-stays : goal.returns-clause-stays
returns-clause-stays c = record { unit = refl; trees = refl; lists = refl; chunks = refl; owners = refl }
