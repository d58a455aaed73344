use Rattle.geom.specs.Places.{layout}
use Rattle.xscrub.proofs.SaysLemmas.{says_cause, told_if_ok, line_if_ok, front_if_err, kept_if_told, units_if_err}
use Rattle.xscrub.proofs.judging.judge_counted.Goals as goal

pub returns-clause-told : goal.returns-clause-told
returns-clause-told g c = told_if_ok (g.D.Device.content c.args.dev.now) (layout c.args.geo.now) c.check_image-checked.result c.judgement_of.result c.judgement_of.ensures c.check_image-checked.ensures.exact

pub returns-clause-line : goal.returns-clause-line
returns-clause-line g c = line_if_ok c.args.geo.now.agcount c.check_image-checked.result c.judgement_of.result c.args.geo.now.fitting.some_groups c.judgement_of.ensures c.check_image-checked.ensures.session

pub returns-clause-front : goal.returns-clause-front
returns-clause-front g c = front_if_err (g.D.Device.content c.args.dev.now) (layout c.args.geo.now) c.check_image-checked.result c.judgement_of.result c.judgement_of.ensures c.check_image-checked.ensures.exact

pub returns-clause-kept : goal.returns-clause-kept
returns-clause-kept g c =
    kept_if_told (g.D.Device.content c.args.dev.now) (layout c.args.geo.now) c.args.geo.now.agcount c.new-steps.result.reads c.check_image-checked.new.steps.reads (g.D.Device.reads c.args.dev.now) (g.D.Device.reads c.check_image-checked.new.dev) c.check_image-checked.result c.judgement_of.result
    c.check_image-checked.ensures.reading.counted c.judgement_of.ensures c.check_image-checked.ensures.session c.check_image-checked.ensures.kept

pub returns-clause-units : goal.returns-clause-units
returns-clause-units g c = units_if_err c.args.geo.now.agcount c.check_image-checked.result c.judgement_of.result c.judgement_of.ensures c.check_image-checked.ensures.session

pub returns-clause-cause : goal.returns-clause-cause
returns-clause-cause g c = says_cause (g.D.Device.faults c.args.dev.now) (g.D.Device.faults c.check_image-checked.new.dev) c.check_image-checked.result c.judgement_of.result c.judgement_of.ensures c.check_image-checked.ensures.cause
