use Rattle.scrub_order.proofs.CourseLemmas.{course_begins, course_ends, course_goes_on, course_is_fresh, course_is_session, course_stays, course_stops}
use Rattle.scrub_order.proofs.laws.course_follows.Goals as goal

pub returns-clause-begins : goal.returns-clause-begins
returns-clause-begins c = course_begins

pub returns-clause-goes_on : goal.returns-clause-goes_on
returns-clause-goes_on c = course_goes_on

pub returns-clause-ends : goal.returns-clause-ends
returns-clause-ends c = course_ends

pub returns-clause-stops : goal.returns-clause-stops
returns-clause-stops c = course_stops

pub returns-clause-fresh : goal.returns-clause-fresh
returns-clause-fresh c = course_is_fresh

pub returns-clause-stays : goal.returns-clause-stays
returns-clause-stays c = course_stays

pub returns-clause-session : goal.returns-clause-session
returns-clause-session c = course_is_session
