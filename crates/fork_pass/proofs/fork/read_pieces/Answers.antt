use Rattle.std.proofs.Common.{Option, refl, subst, ◌∙◌, arith}
use Rattle.blk_device.specs.ReadingLaws.{nothing_read, read_on}
use Rattle.blk_device.specs.declared.device.Region.TheVariants.{Image}
use Rattle.dinode_core.specs.declared.mapping.ForkFault.{ForkFault}
use Rattle.geom.specs.Places.{layout}
use Rattle.fork_pass.specs.Read.{HasTaken}
use Rattle.fork_pass.proofs.ForkLemmas.{all_put, come_first}
use Rattle.fork_pass.proofs.fork.read_pieces.Goals as goal

pub loop-met-init : goal.loop-met-init
loop-met-init g c = record {
  come = λ m e. come_first (layout c.args.geo.now) (m Image) c.args.core.now c.args.fork c.args.sets.now c.args.met.now c.args.steps.now.reads c.requires.front c.requires.none c.requires.empty;
  most = λ m e. omega arith;
  few = λ n h. omega (arith, c.requires.none);
  groups = refl;
  reading = nothing_read g.D.Device g.met.D.Device.only_now g.met.D.Device.counts_now c.args.dev.now c.args.steps.now;
  calm = refl;
}

pub returns-in_err-take_piece-clause-reading : goal.returns-in_err-take_piece-clause-reading
returns-in_err-take_piece-clause-reading g c =
    read_on g.D.Device g.met.D.Device.only_now g.met.D.Device.counts_now c.args.dev.now c.loop-met.dev c.take_piece.new.dev c.args.steps.now c.loop-met.steps c.take_piece.new.steps c.loop-met.invariant.reading c.take_piece.ensures.reading

pub loop-met-preserved : goal.loop-met-preserved
loop-met-preserved g c = record {
  come = λ m e.
      let taken = c.in_ok-take_piece.ensures.come m (c.loop-met.invariant.reading.same ∙ e) c.args.sets.now c.args.steps.now.reads c.in-Some.is (c.loop-met.invariant.come m e) in
      subst (λ (o : Option ForkFault). HasTaken (layout c.args.geo.now) (m Image) c.args.core.now c.args.fork c.args.sets.now c.take_piece.new.sets c.take_piece.new.met c.args.steps.now.reads c.take_piece.new.steps.reads o) c.in-None.is taken;
  most = λ m e. c.take_piece.ensures.each m (c.loop-met.invariant.reading.same ∙ e) c.args.sets.now c.args.steps.now.reads c.in-Some.is (c.loop-met.invariant.come m e);
  few = c.in_ok-take_piece.ensures.few c.in-None.is;
  groups = c.take_piece.ensures.groups ∙ c.loop-met.invariant.groups;
  reading = read_on g.D.Device g.met.D.Device.only_now g.met.D.Device.counts_now c.args.dev.now c.loop-met.dev c.take_piece.new.dev c.args.steps.now c.loop-met.steps c.take_piece.new.steps c.loop-met.invariant.reading c.take_piece.ensures.reading;
  calm = c.in_ok-take_piece.ensures.cause ∙ c.loop-met.invariant.calm;
}

pub returns-in-Some-2-clause-read : goal.returns-in-Some-2-clause-read
returns-in-Some-2-clause-read g c = λ m e.
    let taken = c.in_ok-take_piece.ensures.come m (c.loop-met.invariant.reading.same ∙ e) c.args.sets.now c.args.steps.now.reads c.in-Some.is (c.loop-met.invariant.come m e) in
    subst (λ (o : Option ForkFault). HasTaken (layout c.args.geo.now) (m Image) c.args.core.now c.args.fork c.args.sets.now c.take_piece.new.sets c.take_piece.new.met c.args.steps.now.reads c.take_piece.new.steps.reads o) c.in-Some-2.is taken

pub returns-in-Some-2-clause-reading : goal.returns-in-Some-2-clause-reading
returns-in-Some-2-clause-reading g c =
    read_on g.D.Device g.met.D.Device.only_now g.met.D.Device.counts_now c.args.dev.now c.loop-met.dev c.take_piece.new.dev c.args.steps.now c.loop-met.steps c.take_piece.new.steps c.loop-met.invariant.reading c.take_piece.ensures.reading

pub returns-clause-read : goal.returns-clause-read
returns-clause-read g c = λ m e.
    all_put (layout c.args.geo.now) (m Image) c.args.core.now c.args.fork c.args.sets.now c.loop-met.sets c.loop-met.met c.args.steps.now.reads c.loop-met.steps.reads c.in_default.is (c.loop-met.invariant.come m e) (c.pieces_join.ensures (m Image))

pub returns-in_err-take_piece-clause-each : goal.returns-in_err-take_piece-clause-each
returns-in_err-take_piece-clause-each g c = λ m e. c.take_piece.ensures.each m (c.loop-met.invariant.reading.same ∙ e) c.args.sets.now c.args.steps.now.reads c.in-Some.is (c.loop-met.invariant.come m e)

pub returns-in-Some-2-clause-each : goal.returns-in-Some-2-clause-each
returns-in-Some-2-clause-each g c = λ m e. c.take_piece.ensures.each m (c.loop-met.invariant.reading.same ∙ e) c.args.sets.now c.args.steps.now.reads c.in-Some.is (c.loop-met.invariant.come m e)
