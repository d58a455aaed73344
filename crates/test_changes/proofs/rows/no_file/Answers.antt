use Rattle.test_changes.proofs.Computing.{computing}
use Rattle.std.proofs.Common.{sym}
use Rattle.std.proofs.lemmas.Bool.{true≢false}
use Rattle.test_changes.proofs.rows.no_file.Goals as goal

pub returns : goal.returns
unfolding computing
returns c = (λ left b s. true≢false (sym s.row.0.first.file.inode), λ left b s. true≢false (sym s.row.0.first.file.inode))
