use Rattle.std.proofs.Common.{◌≡◌, ◌^◌, ◌≤◌, ◌++◌, ◌∙◌, ℕ, List, length, sym, ap, subst, arith, IfErr}
use Rattle.byte_fields.specs.declared.block.Block.{Block}
use Rattle.blk_device.specs.ReadingLaws.{read_on}
use Rattle.blk_device.specs.declared.device.Region.TheVariants.{Image}
use Rattle.meta_txn.specs.declared.fault.TxnFault.TheVariants.{Failed}
use Rattle.join_blocks.specs.Joins.{count_of, placed_in, LieBelow}
use Rattle.join_blocks.proofs.CountLemmas.{with_err, counts_on, none_counted, room_on, free_room, by_either}
use Rattle.join_blocks.proofs.PutLemmas.{none_left, one_less, others_on, among_on}
use Rattle.join_blocks.proofs.join.join_put.Goals as goal

pub overflow_add-first : goal.overflow_add-first
overflow_add-first g c =
    let fits = subst (λ (l : List (ℕ × Block)). LieBelow (2 ^ 64) c.args.first (placed_in l)) c.in-Some.ensures.cases.0 c.loop-block.invariant.fits in
    omega (arith, fits.0, c.from.ensures)

pub returns-in_err-put_one-clause-kind : goal.returns-in_err-put_one-clause-kind
returns-in_err-put_one-clause-kind g c =
    let s = c.loop-block in
    let e = c.in-Some.field-0-0.now in
    let later = c.in-Some.later.now in
    let room = subst (λ (l : List (ℕ × Block)). count_of s.txn.blocks c.args.first (placed_in l) ≤ 160) c.in-Some.ensures.cases.0 s.invariant.room in
    with_err {T = Unit {0}} (λ r. IfErr r (λ f. f ≡ Failed)) c.in_err-put_one.field-0.0 c.from_residual.result c.from_residual.ensures
    (by_either (free_room c.args.first e.0 c.from.result s.txn.blocks (placed_in later) c.from.ensures room) c.in_err-put_one.ensures.kind c.in_err-put_one.ensures.kind_joined)

pub returns-in_err-put_one-clause-reading : goal.returns-in_err-put_one-clause-reading
returns-in_err-put_one-clause-reading g c =
    let met = g.met.D.Device in
    read_on g.D.Device met.only_now met.counts_now c.args.dev.now c.loop-block.dev c.put_one.new.dev c.args.steps.now c.loop-block.steps c.put_one.new.steps c.loop-block.invariant.reading c.in_err-put_one.ensures.reading

pub loop-block-preserved : goal.loop-block-preserved
loop-block-preserved g c =
    let s = c.loop-block in
    let e = c.in-Some.field-0-0.now in
    let is = c.in-Some.ensures.cases.0 in
    let done = c.in_ok-put_one.ensures in
    let met = g.met.D.Device in
    let inside = subst (λ (l : List (ℕ × Block)). LieBelow (g.D.Device.blocks c.args.dev.now Image) c.args.first (placed_in l)) is s.invariant.inside in
    let fits = subst (λ (l : List (ℕ × Block)). LieBelow (2 ^ 64) c.args.first (placed_in l)) is s.invariant.fits in
    let room = subst (λ (l : List (ℕ × Block)). count_of s.txn.blocks c.args.first (placed_in l) ≤ 160) is s.invariant.room in
    record {
      inside = inside.1;
      fits = fits.1;
      room = room_on c.args.first e.0 c.from.result e.1.bytes s.txn.blocks c.put_one.new.txn.blocks (placed_in c.in-Some.later.now) c.from.ensures done.put done.count room;
      put = one_less c.args.first c.from.result e c.in-Some.later.now s.rest.now c.args.placed.now s.txn.blocks c.put_one.new.txn.blocks c.args.txn.now.blocks c.from.ensures is done.put s.invariant.put;
      count = λ bs. counts_on c.args.first e.0 c.from.result e.1.bytes s.txn.blocks c.put_one.new.txn.blocks (placed_in c.in-Some.later.now) bs c.from.ensures done.put done.count ∙ sym (ap (λ (l : List (ℕ × Block)). count_of s.txn.blocks c.args.first (placed_in l ++ bs)) is) ∙ s.invariant.count bs;
      among = among_on e.0 (placed_in c.in-Some.later.now) (placed_in s.rest.now) (placed_in c.args.placed.now) (ap placed_in is) s.invariant.among;
      others = others_on c.args.first e.0 c.from.result e.1.bytes (placed_in c.in-Some.later.now) (placed_in s.rest.now) (placed_in c.args.placed.now) c.args.txn.now.blocks s.txn.blocks c.put_one.new.txn.blocks c.from.ensures (ap placed_in is) done.put s.invariant.among s.invariant.others;
      ticks = omega (arith, done.ticks, s.invariant.ticks);
      few = let one = ap length is in omega (arith, done.few, s.invariant.few, one);
      marked = done.marked ∙ s.invariant.marked;
      reading = read_on g.D.Device met.only_now met.counts_now c.args.dev.now s.dev c.put_one.new.dev c.args.steps.now s.steps c.put_one.new.steps s.invariant.reading done.reading;
      calm = done.cause ∙ s.invariant.calm;
      agrees = done.agrees;
    }

pub returns-clause-put : goal.returns-clause-put
returns-clause-put g c = none_left c.args.first c.loop-block.rest.now c.args.placed.now c.loop-block.txn.blocks c.args.txn.now.blocks c.in_default.ensures.cases c.loop-block.invariant.put

pub returns-clause-count : goal.returns-clause-count
returns-clause-count g c = λ bs. none_counted c.args.first c.loop-block.rest.now c.loop-block.txn.blocks bs c.in_default.ensures.cases ∙ c.loop-block.invariant.count bs
