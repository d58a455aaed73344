use Rattle.live_fs.proofs.SectionLemmas.{script_sections}
use Rattle.live_fs.proofs.running.run_live.Goals as goal

pub live_session-pass-requires-clause-sections : goal.live_session-pass-requires-clause-sections
live_session-pass-requires-clause-sections g c κs within = rw c.as_slice-sections.ensures.value (script_sections c.args.work.now.script.now c.requires.script)
