use Rattle.std.proofs.Common.{◌-◌, ◌+◌, ◌/◌, sym, ◌∙◌, arith}
use Rattle.xref_scrub.specs.Differences.{comes_before}
use Rattle.xref_scrub.proofs.CursorLemmas.{higher_at, lower_at}
use Rattle.xref_scrub.proofs.OrderLemmas.{order_of}
use Rattle.xref_scrub.proofs.numbers.derived_among.Goals as goal

pub halving-preserved-then-does_come_before : goal.halving-preserved-then-does_come_before
halving-preserved-then-does_come_before g c =
    let form = g.K.RecKind.form in
    let middle = c.halving.low + (c.halving.high - c.halving.low) / 2 in
    record {
      ordered = omega arith;
      within = omega arith;
      among = omega arith;
      enough = c.halving.invariant.enough;
      below = c.halving.invariant.below;
      above = higher_at (comes_before form) (order_of form g.met.K.RecKind.lawful) c.args.derived.now c.args.index.now middle c.args.number c.index-derived-middle.result c.index-index-number.result c.requires.index_rises (omega arith) c.index-derived-middle.is (omega arith) (omega arith) c.index-index-number.is
          (sym c.does_come_before.ensures ∙ c.if-does_come_before.true);
    }

pub halving-preserved : goal.halving-preserved
halving-preserved g c =
    let form = g.K.RecKind.form in
    let middle = c.halving.low + (c.halving.high - c.halving.low) / 2 in
    record {
      ordered = omega arith;
      within = c.halving.invariant.within;
      among = c.halving.invariant.among;
      enough = omega arith;
      below = lower_at (comes_before form) (order_of form g.met.K.RecKind.lawful) c.args.derived.now c.args.index.now middle c.args.number c.index-derived-middle.result c.index-index-number.result c.requires.derived_rises (omega arith) c.index-derived-middle.is (omega arith) c.index-index-number.is
          (sym c.does_come_before.ensures ∙ c.if-does_come_before.false);
      above = c.halving.invariant.above;
    }
