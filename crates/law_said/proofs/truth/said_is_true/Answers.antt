use Rattle.law_said.proofs.Rising.{images_rise}
use Rattle.law_said.proofs.True.{said_is_true, said_of_images}
use Rattle.law_said.proofs.truth.said_is_true.Goals as goal

pub returns-clause-said : goal.returns-clause-said
returns-clause-said c = said_is_true c.no_faults_exactly.ensures

pub returns-clause-rise : goal.returns-clause-rise
returns-clause-rise c = images_rise c.owners_in_order.ensures.order

pub returns-clause-images : goal.returns-clause-images
returns-clause-images c = said_of_images c.no_faults_exactly.ensures (images_rise c.owners_in_order.ensures.order) c.group_in_order.ensures.all
