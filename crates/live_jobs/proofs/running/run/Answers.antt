use Rattle.live_jobs.proofs.LiveLemmas.{as_it_was, not_run}
use Rattle.live_jobs.proofs.running.run.Goals as goal

pub returns-in-Ok-clause-run : goal.returns-in-Ok-clause-run
returns-in-Ok-clause-run g c =
    as_it_was g.H.Dev.Device c.args.names.now.image.now c.args.names.now.redo.now (g.H.Host.stored c.args.host.now) (g.H.Host.redo_files c.args.host.now) _ _ _ _ (g.H.Host.loans c.args.host.now) _ _ c.run_script.result
    c.read_named.ensures.stored c.read_named.ensures.redo c.read_named.ensures.loans c.run_script.ensures.run

pub returns-in-Err-clause-run : goal.returns-in-Err-clause-run
returns-in-Err-clause-run g c =
    not_run g.H.Dev.Device c.args.names.now.image.now c.args.names.now.redo.now (g.H.Host.stored c.args.host.now) (g.H.Host.redo_files c.args.host.now) _ _ (g.H.Host.loans c.args.host.now) _ c.in-Err.finding
    c.in-Err.ensures.not_run c.read_named.ensures.loans c.read_named.ensures.stored c.read_named.ensures.redo
