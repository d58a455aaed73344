use Rattle.std.proofs.Common.{subst}
use Rattle.bulk_load.specs.Shapes.{IsShape}
use Rattle.sblock.specs.declared.kind.Kind.{Kind}
use Rattle.core_units.proofs.stage.shape_in.Goals as goal

pub returns-clause-enough : goal.returns-clause-enough
returns-clause-enough g c = c.requires c.shape.result.blocks (c.shape.result.levels, subst (λ (k : Kind). IsShape k c.args.records c.shape.result.levels c.shape.result.blocks) c.kind.ensures c.shape.ensures)
