use Rattle.std.proofs.Common.{sym, ◌∙◌}
use Rattle.shadow_rmap.proofs.UnionLemmas.{rooms_left, hull_met, hull_passed, hull_end, hull_room, hull_held}
use Rattle.shadow_rmap.proofs.union.hull.Goals as goal

pub loop-first-preserved-then-meets : goal.loop-first-preserved-then-meets
loop-first-preserved-then-meets c =
    let is = c.in-Some.ensures.cases.0 in
    record {
      records = rooms_left c.in-Some.first.now c.in-Some.later.now c.loop-first.rest.now is c.loop-first.invariant.records;
      room = c.widened-whole.ensures.end;
      whole = hull_met c.loop-first.whole c.widened-whole.result c.args.rec.now c.in-Some.first.now c.in-Some.later.now c.loop-first.rest.now c.args.list.now is
          (sym c.meets.ensures ∙ c.if-meets.true) c.widened-whole.ensures.value c.loop-first.invariant.whole;
    }

pub loop-first-preserved : goal.loop-first-preserved
loop-first-preserved c =
    let is = c.in-Some.ensures.cases.0 in
    record {
      records = rooms_left c.in-Some.first.now c.in-Some.later.now c.loop-first.rest.now is c.loop-first.invariant.records;
      room = c.loop-first.invariant.room;
      whole = hull_passed c.loop-first.whole c.args.rec.now c.in-Some.first.now c.in-Some.later.now c.loop-first.rest.now c.args.list.now is
          (sym c.meets.ensures ∙ c.if-meets.false) c.loop-first.invariant.whole;
    }

pub returns-clause-room : goal.returns-clause-room
returns-clause-room c =
    hull_room c.args.rec.now c.requires.rec c.args.list.now c.requires.records c.loop-first.whole
    (hull_end c.loop-first.whole c.args.rec.now c.loop-first.rest.now c.args.list.now c.in_default.ensures.cases c.loop-first.invariant.whole)

pub returns-clause-held : goal.returns-clause-held
returns-clause-held c =
    hull_held c.args.rec.now c.requires.rec c.args.list.now c.requires.records c.loop-first.whole
    (hull_end c.loop-first.whole c.args.rec.now c.loop-first.rest.now c.args.list.now c.in_default.ensures.cases c.loop-first.invariant.whole)
