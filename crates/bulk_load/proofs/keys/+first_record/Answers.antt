use Rattle.std.proofs.Common.{◌≡◌, ◌+◌, ◌-◌, ◌<◌, ◌≤◌, ℕ, suc, length, refl, sym, ◌∙◌, arith}
use Rattle.bulk_load.proofs.ShapeLemmas.{row_share, row_first, first_of_leaf, first_above, items_leaf, items_above}
use Rattle.bulk_load.proofs.keys.+first_record.Goals as goal

pub first-first-requires-clause-some : goal.first-first-requires-clause-some
first-first-requires-clause-some t c = (row_share c.args.kind c.args.records c.args.level c.args.i c.of_level.result c.of_level.ensures).0

pub returns-then-level-eq0-clause-exact : goal.returns-then-level-eq0-clause-exact
returns-then-level-eq0-clause-exact t c =
    c.first-first.ensures.exact ∙ (row_first c.args.kind c.args.records c.args.level c.args.i c.of_level.result c.of_level.ensures ∙ first_of_leaf c.args.kind c.args.records c.args.level c.args.i c.if-level-eq0.true)

pub returns-then-level-eq0-clause-within : goal.returns-then-level-eq0-clause-within
returns-then-level-eq0-clause-within t c = omega (arith, c.first-first.ensures.within, c.of_level.ensures.holds, items_leaf c.args.kind c.args.records c.args.level c.if-level-eq0.true)

pub first_record-requires : goal.first_record-requires
first_record-requires t c = (
  omega (arith, c.decreases, c.if-level-eq0.false),
  (λ j lt. c.requires.level j (omega (arith, lt)), omega (arith, c.first-first.ensures.within, c.of_level.ensures.holds, items_above c.args.kind c.args.records c.args.level (omega (arith, c.if-level-eq0.false)))),
)

pub returns-clause-exact : goal.returns-clause-exact
returns-clause-exact t c =
    c.first_record.ensures.exact ∙ first_above c.args.kind c.args.records c.args.level c.args.i c.first-first.result (omega (arith, c.if-level-eq0.false))
    (c.first-first.ensures.exact ∙ row_first c.args.kind c.args.records c.args.level c.args.i c.of_level.result c.of_level.ensures)
