use Rattle.std.proofs.Common.{refl}
use Rattle.core_units.specs.Rebuilt.{IsSteady, KeepsRest}
use Rattle.core_units.specs.declared.rebuild.Rebuild.{Rebuild}
use Rattle.core_units.proofs.RebuildLemmas.{number_after, rebuilding_with, steady_with}
use Rattle.core_units.proofs.rebuild.take_next.Goals as goal

pub take-requires-clause-fits : goal.take-requires-clause-fits
take-requires-clause-fits c = λ e. number_after c.args.rebuild.now.length c.args.block c.requires.steady.short c.requires.inside

pub returns-clause-rest : goal.returns-clause-rest
returns-clause-rest c = record { group = refl; length = refl; lsn = refl; trees = refl; chunks = refl; owners = refl; lost = refl; unit = c.take.ensures.unit }

pub returns-clause-steady : goal.returns-clause-steady
returns-clause-steady c =
    let old = c.args.rebuild.now in
    let new : Rebuild = record old { building = c.take.new.building } in
    let rest : KeepsRest old new = record { group = refl; length = refl; lsn = refl; trees = refl; chunks = refl; owners = refl; lost = refl; unit = c.take.ensures.unit } in
    let s = c.requires.steady in
    steady_with old new rest c.take.ensures.built (c.take.ensures.ends old.length s.ends) (c.take.ensures.inside old.length c.requires.inside s.inside) s

pub returns-clause-rebuilding : goal.returns-clause-rebuilding
returns-clause-rebuilding c =
    let old = c.args.rebuild.now in
    let new : Rebuild = record old { building = c.take.new.building } in
    let rest : KeepsRest old new = record { group = refl; length = refl; lsn = refl; trees = refl; chunks = refl; owners = refl; lost = refl; unit = c.take.ensures.unit } in
    let s = c.requires.steady in
    let steady : IsSteady new = steady_with old new rest c.take.ensures.built (c.take.ensures.ends old.length s.ends) (c.take.ensures.inside old.length c.requires.inside s.inside) s in
    rebuilding_with old new rest steady
