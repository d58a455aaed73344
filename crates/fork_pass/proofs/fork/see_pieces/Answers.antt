use Rattle.std.proofs.Common.{Option, sym, subst, ◌∙◌}
use Rattle.std.proofs.lemmas.Result.{IfOk-weaker}
use Rattle.blk_device.specs.ReadingLaws.{cause_on, read_on}
use Rattle.blk_device.specs.declared.device.Region.TheVariants.{Image}
use Rattle.dinode_core.specs.declared.mapping.ForkFault.{ForkFault}
use Rattle.geom.specs.Places.{layout}
use Rattle.inode_pass.specs.Stops.{is_failed}
use Rattle.fork_pass.specs.Read.{HasRead}
use Rattle.fork_pass.proofs.ForkLemmas.{bad_read, count_read, good_read, pieces_counted, worst_counted}
use Rattle.fork_pass.proofs.fork.see_pieces.Goals as goal

pub returns-in-Some-clause-exact : goal.returns-in-Some-clause-exact
returns-in-Some-clause-exact g c =
    IfOk-weaker c.worst.result _ _ (λ read h m e.
    let has = subst (λ (o : Option ForkFault). HasRead (layout c.args.geo.now) (m Image) c.args.core.now c.args.fork c.args.sets.now c.read_pieces.new.sets c.read_pieces.new.met o) c.in-Some.is (c.in_ok-read_pieces.ensures.read m e) in
    bad_read (layout c.args.geo.now) (m Image) c.args.core.now c.args.fork c.in-Some.refusal c.args.sets.now _ read has (h m (c.read_pieces.ensures.reading.same ∙ e))) c.worst.ensures.first

pub returns-in-Some-clause-reading : goal.returns-in-Some-clause-reading
returns-in-Some-clause-reading g c =
    read_on g.D.Device g.met.D.Device.only_now g.met.D.Device.counts_now c.args.dev.now c.read_pieces.new.dev c.worst.new.dev c.args.steps.now c.read_pieces.new.steps c.worst.new.steps c.read_pieces.ensures.reading c.worst.ensures.reading

pub returns-in-Some-clause-cause : goal.returns-in-Some-clause-cause
returns-in-Some-clause-cause g c =
    cause_on is_failed (g.D.Device.faults c.args.dev.now) (g.D.Device.faults c.read_pieces.new.dev) (g.D.Device.faults c.worst.new.dev) c.worst.result c.in_ok-read_pieces.ensures.cause c.worst.ensures.cause

pub returns-then-is_number_wrong-clause-exact : goal.returns-then-is_number_wrong-clause-exact
returns-then-is_number_wrong-clause-exact g c = λ m e.
    let put = subst (λ (o : Option ForkFault). HasRead (layout c.args.geo.now) (m Image) c.args.core.now c.args.fork c.args.sets.now c.read_pieces.new.sets c.read_pieces.new.met o) c.in-None.is (c.in_ok-read_pieces.ensures.read m e) in
    count_read (layout c.args.geo.now) (m Image) c.args.core.now c.args.fork c.args.sets.now c.read_pieces.new.sets c.read_pieces.new.met put (sym c.is_number_wrong.ensures ∙ c.if-is_number_wrong.true)

pub returns-clause-exact : goal.returns-clause-exact
returns-clause-exact g c = λ m e.
    let put = subst (λ (o : Option ForkFault). HasRead (layout c.args.geo.now) (m Image) c.args.core.now c.args.fork c.args.sets.now c.read_pieces.new.sets c.read_pieces.new.met o) c.in-None.is (c.in_ok-read_pieces.ensures.read m e) in
    good_read (layout c.args.geo.now) (m Image) c.args.core.now c.args.fork c.args.sets.now c.read_pieces.new.sets c.read_pieces.new.met put (sym c.is_number_wrong.ensures ∙ c.if-is_number_wrong.false)

pub returns-in_err-read_pieces-clause-each : goal.returns-in_err-read_pieces-clause-each
returns-in_err-read_pieces-clause-each g c = λ m e. pieces_counted (layout c.args.geo.now) (m Image) c.args.core.now c.args.fork c.args.steps.now.reads c.read_pieces.new.steps.reads (c.read_pieces.ensures.each m e)

pub returns-then-is_number_wrong-clause-each : goal.returns-then-is_number_wrong-clause-each
returns-then-is_number_wrong-clause-each g c = λ m e. pieces_counted (layout c.args.geo.now) (m Image) c.args.core.now c.args.fork c.args.steps.now.reads c.read_pieces.new.steps.reads (c.read_pieces.ensures.each m e)

pub returns-clause-each : goal.returns-clause-each
returns-clause-each g c = λ m e. pieces_counted (layout c.args.geo.now) (m Image) c.args.core.now c.args.fork c.args.steps.now.reads c.read_pieces.new.steps.reads (c.read_pieces.ensures.each m e)

pub returns-in-Some-clause-each : goal.returns-in-Some-clause-each
returns-in-Some-clause-each g c = λ m e.
    let has = subst (λ (o : Option ForkFault). HasRead (layout c.args.geo.now) (m Image) c.args.core.now c.args.fork c.args.sets.now c.read_pieces.new.sets c.read_pieces.new.met o) c.in-Some.is (c.in_ok-read_pieces.ensures.read m e) in
    worst_counted (layout c.args.geo.now) (m Image) c.args.core.now c.args.fork c.args.steps.now.reads c.read_pieces.new.steps.reads c.worst.new.steps.reads has (c.read_pieces.ensures.each m e) (c.worst.ensures.each m (c.read_pieces.ensures.reading.same ∙ e))
