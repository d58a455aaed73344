use Rattle.core_scan.proofs.Delivered.{notes_user}
use Rattle.core_scan.proofs.read.note_user.Goals as goal

pub returns-clause-kept : goal.returns-clause-kept
returns-clause-kept c = notes_user c.args.scan.now c.args.held.now c.args.uid c.requires.held
