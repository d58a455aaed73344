use Rattle.std.proofs.Common.{inl, inr}
use Rattle.fork_read.proofs.inode.load.Goals as goal

pub returns-clause-cached : goal.returns-clause-cached
returns-clause-cached g c = inr (c.get.new.into, c.in_ok-get.ensures.keeps)

pub returns-in_err-get-clause-cached : goal.returns-in_err-get-clause-cached
returns-in_err-get-clause-cached g c = inl c.in_err-get.ensures.failed
