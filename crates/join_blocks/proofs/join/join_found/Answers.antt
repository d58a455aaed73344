use Rattle.std.proofs.Common.{◌≡◌, ◌^◌, ◌≤◌, ◌∙◌, ◌++◌, ℕ, List, length, sym, ap, subst, arith, IfErr}
use Rattle.blk_device.specs.ReadingLaws.{read_on}
use Rattle.blk_device.specs.declared.device.Region.TheVariants.{Image}
use Rattle.meta_txn.specs.declared.fault.TxnFault.TheVariants.{Failed}
use Rattle.join_blocks.specs.Joins.{count_of, LieBelow}
use Rattle.join_blocks.proofs.CountLemmas.{with_err, counts_on, no_blocks_counted, room_on, free_room, by_either}
use Rattle.join_blocks.proofs.PutLemmas.{found_on, others_on, among_on}
use Rattle.join_blocks.proofs.join.join_found.Goals as goal

pub overflow_add-first : goal.overflow_add-first
overflow_add-first g c =
    let fits = subst (LieBelow (2 ^ 64) c.args.first) c.in-Some.ensures.cases.0 c.loop-block.invariant.fits in
    omega (arith, fits.0, c.from.ensures)

pub returns-in_err-find_one-clause-kind : goal.returns-in_err-find_one-clause-kind
returns-in_err-find_one-clause-kind g c =
    let s = c.loop-block in
    let room = subst (λ (l : List ℕ). count_of s.txn.blocks c.args.first l ≤ 160) c.in-Some.ensures.cases.0 s.invariant.room in
    with_err {T = Unit {0}} (λ r. IfErr r (λ f. f ≡ Failed)) c.in_err-find_one.field-0.0 c.from_residual.result c.from_residual.ensures
    (by_either (free_room c.args.first c.in-Some.block.now c.from.result s.txn.blocks c.in-Some.later.now c.from.ensures room) c.in_err-find_one.ensures.kind c.in_err-find_one.ensures.kind_joined)

pub returns-in_err-find_one-clause-reading : goal.returns-in_err-find_one-clause-reading
returns-in_err-find_one-clause-reading g c =
    let met = g.met.D.Device in
    read_on g.D.Device met.only_now met.counts_now c.args.dev.now c.loop-block.dev c.find_one.new.dev c.args.steps.now c.loop-block.steps c.find_one.new.steps c.loop-block.invariant.reading c.in_err-find_one.ensures.reading

pub loop-block-preserved : goal.loop-block-preserved
loop-block-preserved g c =
    let d = g.D.Device in
    let met = g.met.D.Device in
    let s = c.loop-block in
    let b = c.in-Some.block.now in
    let later = c.in-Some.later.now in
    let is = c.in-Some.ensures.cases.0 in
    let done = c.in_ok-find_one.ensures in
    let inside = subst (LieBelow (d.blocks c.args.dev.now Image) c.args.first) is s.invariant.inside in
    let fits = subst (LieBelow (2 ^ 64) c.args.first) is s.invariant.fits in
    let room = subst (λ (l : List ℕ). count_of s.txn.blocks c.args.first l ≤ 160) is s.invariant.room in
    record {
      inside = inside.1;
      fits = fits.1;
      room = room_on c.args.first b c.from.result done.found.0 s.txn.blocks c.find_one.new.txn.blocks later c.from.ensures done.found.2 done.count room;
      found = λ new behind. s.invariant.found new
          (found_on (d.content c.args.dev.now) (d.content s.dev) c.args.first b c.from.result s.txn.blocks c.find_one.new.txn.blocks new later s.rest.now s.invariant.reading.same c.from.ensures is done.found behind);
      count = λ bs. counts_on c.args.first b c.from.result done.found.0 s.txn.blocks c.find_one.new.txn.blocks later bs c.from.ensures done.found.2 done.count ∙ sym (ap (λ (l : List ℕ). count_of s.txn.blocks c.args.first (l ++ bs)) is) ∙ s.invariant.count bs;
      among = among_on b later s.rest.now c.args.blocks.now is s.invariant.among;
      others = others_on c.args.first b c.from.result done.found.0 later s.rest.now c.args.blocks.now c.args.txn.now.blocks s.txn.blocks c.find_one.new.txn.blocks c.from.ensures is done.found.2 s.invariant.among s.invariant.others;
      ticks = omega (arith, done.ticks, s.invariant.ticks);
      few = let one = ap length is in omega (arith, done.few, s.invariant.few, one);
      marked = done.marked ∙ s.invariant.marked;
      reading = read_on d met.only_now met.counts_now c.args.dev.now s.dev c.find_one.new.dev c.args.steps.now s.steps c.find_one.new.steps s.invariant.reading done.reading;
      calm = done.cause ∙ s.invariant.calm;
      agrees = done.agrees;
    }

pub returns-clause-count : goal.returns-clause-count
returns-clause-count g c = λ bs. no_blocks_counted c.args.first c.loop-block.rest.now c.loop-block.txn.blocks bs c.in_default.ensures.cases ∙ c.loop-block.invariant.count bs
