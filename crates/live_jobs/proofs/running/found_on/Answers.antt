use Rattle.live_jobs.proofs.running.found_on.Goals as goal

pub returns-clause-device : goal.returns-clause-device
returns-clause-device g c = c.finding_of.ensures.device 0 (g.D.Device.faults c.args.dev.now) c.requires
