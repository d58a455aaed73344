use Rattle.std.proofs.Common.{None, refl, subst}
use Rattle.repair_door.specs.Doors.{IsDecided}
use Rattle.repair_door.specs.declared.no_entry.NoEntry.TheVariants as entries
use Rattle.xscrub.specs.Doors.{LeavesImage}
use Rattle.xscrub.proofs.AloneLemmas.{no_entry_lie}
use Rattle.xscrub.proofs.DoorLemmas.{refused_by}
use Rattle.xscrub.proofs.SessionLemmas.{none_begun, none_cut}
use Rattle.xscrub.proofs.repairing.refused.Goals as goal

pub returns-in-Short-clause-units : goal.returns-in-Short-clause-units
returns-in-Short-clause-units c = none_begun

pub returns-in-Count-clause-units : goal.returns-in-Count-clause-units
returns-in-Count-clause-units c = none_begun

pub returns-in-Size-clause-units : goal.returns-in-Size-clause-units
returns-in-Size-clause-units c = none_begun

pub returns-in-Place-clause-units : goal.returns-in-Place-clause-units
returns-in-Place-clause-units c = none_begun

pub returns-in-Image-clause-units : goal.returns-in-Image-clause-units
returns-in-Image-clause-units c = none_begun

pub returns-in-Head-clause-units : goal.returns-in-Head-clause-units
returns-in-Head-clause-units c = none_begun

pub returns-in-Failed-clause-units : goal.returns-in-Failed-clause-units
returns-in-Failed-clause-units c = λ plan turns. none_cut plan turns 5 c.new.result.items refl c.new.ensures.items

pub returns-in-Memory-clause-units : goal.returns-in-Memory-clause-units
returns-in-Memory-clause-units c = λ plan turns. none_cut plan turns 8 c.new-in-Memory.result.items refl c.new-in-Memory.ensures.items

pub returns-in-Short-clause-door : goal.returns-in-Short-clause-door
returns-in-Short-clause-door c = λ decided m left by leaves. refused_by decided m left entries.Short _ refl refl (subst (IsDecided decided) c.in-Short.is by) (subst (LeavesImage m left) c.in-Short.is leaves)

pub returns-in-Count-clause-door : goal.returns-in-Count-clause-door
returns-in-Count-clause-door c = λ decided m left by leaves. refused_by decided m left entries.Count _ refl refl (subst (IsDecided decided) c.in-Count.is by) (subst (LeavesImage m left) c.in-Count.is leaves)

pub returns-in-Size-clause-door : goal.returns-in-Size-clause-door
returns-in-Size-clause-door c = λ decided m left by leaves. refused_by decided m left entries.Size _ refl refl (subst (IsDecided decided) c.in-Size.is by) (subst (LeavesImage m left) c.in-Size.is leaves)

pub returns-in-Place-clause-door : goal.returns-in-Place-clause-door
returns-in-Place-clause-door c = λ decided m left by leaves. refused_by decided m left entries.Place _ refl refl (subst (IsDecided decided) c.in-Place.is by) (subst (LeavesImage m left) c.in-Place.is leaves)

pub returns-in-Image-clause-door : goal.returns-in-Image-clause-door
returns-in-Image-clause-door c = λ decided m left by leaves. refused_by decided m left (entries.Image c.in-Image.fault) _ refl refl (subst (IsDecided decided) c.in-Image.is by) (subst (LeavesImage m left) c.in-Image.is leaves)

pub returns-in-Head-clause-door : goal.returns-in-Head-clause-door
returns-in-Head-clause-door c = λ decided m left by leaves. refused_by decided m left (entries.Head c.in-Head.group c.in-Head.head c.in-Head.fault) _ refl refl (subst (IsDecided decided) c.in-Head.is by) (subst (LeavesImage m left) c.in-Head.is leaves)

pub returns-in-Short-clause-failed : goal.returns-in-Short-clause-failed
returns-in-Short-clause-failed c = λ by. no_entry_lie None entries.Short refl (subst (IsDecided None) c.in-Short.is by)

pub returns-in-Count-clause-failed : goal.returns-in-Count-clause-failed
returns-in-Count-clause-failed c = λ by. no_entry_lie None entries.Count refl (subst (IsDecided None) c.in-Count.is by)

pub returns-in-Size-clause-failed : goal.returns-in-Size-clause-failed
returns-in-Size-clause-failed c = λ by. no_entry_lie None entries.Size refl (subst (IsDecided None) c.in-Size.is by)

pub returns-in-Place-clause-failed : goal.returns-in-Place-clause-failed
returns-in-Place-clause-failed c = λ by. no_entry_lie None entries.Place refl (subst (IsDecided None) c.in-Place.is by)

pub returns-in-Image-clause-failed : goal.returns-in-Image-clause-failed
returns-in-Image-clause-failed c = λ by. no_entry_lie None (entries.Image c.in-Image.fault) refl (subst (IsDecided None) c.in-Image.is by)

pub returns-in-Head-clause-failed : goal.returns-in-Head-clause-failed
returns-in-Head-clause-failed c = λ by. no_entry_lie None (entries.Head c.in-Head.group c.in-Head.head c.in-Head.fault) refl (subst (IsDecided None) c.in-Head.is by)
