use Rattle.law_repairs.proofs.Order.Blocks.{blocks_are_once}
use Rattle.law_repairs.proofs.Order.Readings.{bad_is_sick, limbo_is_plain, words}
use Rattle.law_repairs.proofs.Order.Whole.{group_is_in_order, inside, next, tuples}
use Rattle.law_repairs.proofs.order_laws.group_in_order.Goals as goal

pub returns-clause-words : goal.returns-clause-words
returns-clause-words c = words

pub returns-clause-bad : goal.returns-clause-bad
returns-clause-bad c = bad_is_sick

pub returns-clause-plain : goal.returns-clause-plain
returns-clause-plain c = limbo_is_plain

pub returns-clause-blocks : goal.returns-clause-blocks
returns-clause-blocks c = blocks_are_once

pub returns-clause-inside : goal.returns-clause-inside
returns-clause-inside c = inside c.good_forks.ensures

pub returns-clause-next : goal.returns-clause-next
returns-clause-next c = next c.good_forks.ensures

pub returns-clause-tuples : goal.returns-clause-tuples
returns-clause-tuples c = tuples c.good_forks.ensures

pub returns-clause-all : goal.returns-clause-all
returns-clause-all c = group_is_in_order c.good_forks.ensures
