use Rattle.std.proofs.Common.{Option, subst, sym}
use Rattle.sblock.specs.declared.kind.Kind.{Kind}
use Rattle.core_units.specs.Trees.{Passes}
use Rattle.core_units.proofs.passed.pass_one.Goals as goal

pub returns-in-Some-clause-made : goal.returns-in-Some-clause-made
returns-in-Some-clause-made c = subst (λ (at : Option Kind). Passes c.args.trees.now at c.pass_kind.result) (sym c.in-Some.is) c.pass_kind.ensures
