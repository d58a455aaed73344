use Rattle.std.proofs.Common.{refl}
use Rattle.core_units.specs.Rebuilt.{KeepsRest}
use Rattle.core_units.specs.declared.rebuild.Rebuild.{Rebuild}
use Rattle.core_units.proofs.RebuildLemmas.{next_below, rebuilding_with, stays_steady}
use Rattle.core_units.proofs.rebuild.choose_next.Goals as goal

pub returns-clause-spare : goal.returns-clause-spare
returns-clause-spare c =
    let old = c.args.rebuild.now in
    next_below old.length c.args.trust c.args.list.now old.trees old.building c.next_of.result c.requires.steady.within c.requires.steady.ends c.next_of.ensures.exact

pub returns-clause-rest : goal.returns-clause-rest
returns-clause-rest c = record { group = refl; length = refl; lsn = refl; trees = refl; chunks = refl; owners = refl; lost = refl; unit = c.next_of.ensures.stays.same }

pub returns-clause-steady : goal.returns-clause-steady
returns-clause-steady c =
    let old = c.args.rebuild.now in
    let new : Rebuild = record old { building = c.next_of.new.building } in
    let rest : KeepsRest old new = record { group = refl; length = refl; lsn = refl; trees = refl; chunks = refl; owners = refl; lost = refl; unit = c.next_of.ensures.stays.same } in
    stays_steady old new rest c.next_of.ensures.stays c.requires.steady

pub returns-clause-rebuilding : goal.returns-clause-rebuilding
returns-clause-rebuilding c =
    let old = c.args.rebuild.now in
    let new : Rebuild = record old { building = c.next_of.new.building } in
    let rest : KeepsRest old new = record { group = refl; length = refl; lsn = refl; trees = refl; chunks = refl; owners = refl; lost = refl; unit = c.next_of.ensures.stays.same } in
    rebuilding_with old new rest (stays_steady old new rest c.next_of.ensures.stays c.requires.steady)
