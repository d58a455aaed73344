use Rattle.std.proofs.Common.{Option, Some, subst, sym}
use Rattle.sblock.specs.declared.kind.Kind.{Kind}
use Rattle.core_units.specs.Trees.{Passes}
use Rattle.core_units.proofs.TreesLemmas.{passed}
use Rattle.core_units.proofs.passed.pass_kind.Goals as goal

pub returns-then-is_bad_kind : goal.returns-then-is_bad_kind
returns-then-is_bad_kind c = subst (λ (next : Option Kind). Passes c.args.trees.now (Some c.args.kind) next) (sym c.next_kind.ensures) (passed c.args.trees.now c.args.kind (c.is_bad_kind.ensures c.if-is_bad_kind.true))
