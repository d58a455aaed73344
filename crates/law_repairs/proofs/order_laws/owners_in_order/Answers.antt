use Rattle.law_repairs.proofs.Order.Switching.{chunks_are_inodes, switch_can_be_made}
use Rattle.law_repairs.proofs.Order.Whole.{order_has_owners, owners_are_in_order}
use Rattle.law_repairs.proofs.order_laws.owners_in_order.Goals as goal

pub returns-clause-order : goal.returns-clause-order
returns-clause-order c = order_has_owners

pub returns-clause-image : goal.returns-clause-image
returns-clause-image c = owners_are_in_order c.good_forks.ensures

pub returns-clause-chunks : goal.returns-clause-chunks
returns-clause-chunks c = chunks_are_inodes c.good_forks.ensures

pub returns-clause-mappings : goal.returns-clause-mappings
returns-clause-mappings c = switch_can_be_made c.good_forks.ensures
