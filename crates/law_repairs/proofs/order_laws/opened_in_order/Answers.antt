use Rattle.law_repairs.proofs.Order.Repairs.{opened_is_kept_well}
use Rattle.law_repairs.proofs.Order.Whole.{opened_is_in_order, opened_is_kept}
use Rattle.law_repairs.proofs.order_laws.opened_in_order.Goals as goal

pub returns-clause-kept : goal.returns-clause-kept
returns-clause-kept c = opened_is_kept

pub returns-clause-all : goal.returns-clause-all
returns-clause-all c = opened_is_in_order c.good_forks.ensures c.opening_law.ensures

pub returns-clause-well : goal.returns-clause-well
returns-clause-well c = opened_is_kept_well c.opening_law.ensures
