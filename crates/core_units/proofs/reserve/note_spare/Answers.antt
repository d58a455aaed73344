use Rattle.std.proofs.Common.{subst, sym}
use Rattle.core_units.specs.TreesFit.{CanTake, LieApart}
use Rattle.core_units.proofs.TakenLemmas.{apart_fit, front_apart, mapping_ends}
use Rattle.core_units.specs.Tested.{FreeEnds, SpansEnd}
use Rattle.core_units.proofs.TestedLemmas.{front_ends}
use Rattle.core_units.proofs.reserve.note_spare.Goals as goal

pub give-requires-clause-run : goal.give-requires-clause-run
give-requires-clause-run c = (mapping_ends c.args.block c.number.result c.requires.fits, c.requires.fits)

pub take_front-requires : goal.take_front-requires
take_front-requires c = apart_fit 0 c.in-Free.bno.items (subst CanTake c.in-Free.is c.requires.lists)

pub returns-in-Free-clause-lists : goal.returns-in-Free-clause-lists
returns-in-Free-clause-lists c = subst (LieApart 0) (sym c.take_front.ensures) (front_apart c.in-Free.bno.items (subst CanTake c.in-Free.is c.requires.lists))

pub returns-in-Free-clause-ends : goal.returns-in-Free-clause-ends
returns-in-Free-clause-ends c = λ limit h. subst (SpansEnd limit) (sym c.take_front.ensures) (front_ends limit c.in-Free.bno.items (subst (FreeEnds limit) c.in-Free.is h))
