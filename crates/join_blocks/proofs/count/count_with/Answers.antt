use Rattle.std.proofs.Common.{◌^◌, subst, arith}
use Rattle.std.specs.BTreeSet.{contains}
use Rattle.std.specs.Ordering.{nat_cmp}
use Rattle.join_blocks.specs.Joins.{is_joined, LieBelow}
use Rattle.std.specs.Prelude.{◌||◌}
use Rattle.join_blocks.proofs.CountLemmas.{counted_new, counted_old, none_more}
use Rattle.join_blocks.proofs.count.count_with.Goals as goal

pub loop-block-preserved-then-branch : goal.loop-block-preserved-then-branch
loop-block-preserved-then-branch c =
    let s = c.loop-block in
    let is = c.in-Some.ensures.cases.0 in
    let fits = subst (LieBelow (2 ^ 64) c.args.first) is s.invariant.fits in
    record {
      fits = fits.1;
      few = omega (arith, s.invariant.few, c.in-Some.ensures.cases.1);
      count = counted_new (contains nat_cmp s.seen) (contains nat_cmp c.note.new.seen) (is_joined c.args.txn.now.blocks) c.args.first c.in-Some.block.now c.from.result s.count _ c.in_ok-note.field-0 c.in-Some.later.now s.rest.now is c.from.ensures c.in_ok-note.ensures.answer c.in_ok-note.ensures.noted s.invariant.count c.if-branch.true;
    }

pub loop-block-preserved : goal.loop-block-preserved
loop-block-preserved c =
    let s = c.loop-block in
    let is = c.in-Some.ensures.cases.0 in
    let fits = subst (LieBelow (2 ^ 64) c.args.first) is s.invariant.fits in
    record {
      fits = fits.1;
      few = omega (arith, s.invariant.few, c.in-Some.ensures.cases.1);
      count = counted_old (contains nat_cmp s.seen) (contains nat_cmp c.note.new.seen) (is_joined c.args.txn.now.blocks) c.args.first c.in-Some.block.now c.from.result s.count _ c.in_ok-note.field-0 c.in-Some.later.now s.rest.now is c.from.ensures c.in_ok-note.ensures.answer c.in_ok-note.ensures.noted s.invariant.count c.if-branch.false;
    }

pub returns : goal.returns
returns c =
    let s = c.loop-block in
    let none = none_more (λ n. contains nat_cmp s.seen n || is_joined c.args.txn.now.blocks n) c.args.first s.rest.now c.in_default.ensures.cases in
    omega (arith, none, s.invariant.count, c.len.ensures.count)
