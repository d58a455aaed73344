use Rattle.blk_device.specs.ReadingLaws.{read_on}
use Rattle.image_check.proofs.owners.fork_owners.Goals as goal

pub returns-in_err-inodes-clause-reading : goal.returns-in_err-inodes-clause-reading
returns-in_err-inodes-clause-reading g c =
    read_on g.D.Device g.met.D.Device.only_now g.met.D.Device.counts_now c.args.dev.now c.read_all_heads.new.dev c.passed_inodes.new.dev c.args.steps.now c.read_all_heads.new.steps c.passed_inodes.new.steps c.in_ok-heads.ensures.reading c.in_err-inodes.ensures.reading

pub returns-in-Some-clause-reading : goal.returns-in-Some-clause-reading
returns-in-Some-clause-reading g c =
    let both = read_on g.D.Device g.met.D.Device.only_now g.met.D.Device.counts_now c.args.dev.now c.read_all_heads.new.dev c.passed_inodes.new.dev c.args.steps.now c.read_all_heads.new.steps c.passed_inodes.new.steps c.in_ok-heads.ensures.reading c.in_ok-inodes.ensures.reading in
    read_on g.D.Device g.met.D.Device.only_now g.met.D.Device.counts_now c.args.dev.now c.passed_inodes.new.dev c.owners_of.new.dev c.args.steps.now c.passed_inodes.new.steps c.owners_of.new.steps both c.owners_of.ensures.reading

pub returns-clause-reading : goal.returns-clause-reading
returns-clause-reading g c =
    read_on g.D.Device g.met.D.Device.only_now g.met.D.Device.counts_now c.args.dev.now c.read_all_heads.new.dev c.passed_inodes.new.dev c.args.steps.now c.read_all_heads.new.steps c.passed_inodes.new.steps c.in_ok-heads.ensures.reading c.in_ok-inodes.ensures.reading
