use Rattle.law_said.proofs.Session.{session_leaves_no_fault}
use Rattle.law_said.proofs.ends.session_leaves_no_fault.Goals as goal

pub returns : goal.returns
returns c = session_leaves_no_fault c.said_is_true.ensures.images c.given_follow.ensures.memory c.given_follow.ensures.known c.opened_in_order.ensures.well c.ends.ensures.faults
