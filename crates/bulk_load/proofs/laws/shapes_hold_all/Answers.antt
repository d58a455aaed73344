use Rattle.std.proofs.Common.{sym, ◌∙◌}
use Rattle.bulk_load.proofs.ShapeLemmas.{holds_below, all_levels, at_most, at_least, six_levels}
use Rattle.bulk_load.proofs.laws.shapes_hold_all.Goals as goal

pub returns : goal.returns
returns c = record {
  levels = holds_below;
  blocks = λ kind n levels blocks shape. all_levels kind n levels ∙ sym shape.all;
  most = at_most;
  least = at_least;
  few = six_levels;
}
