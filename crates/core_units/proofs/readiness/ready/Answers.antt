use Rattle.std.proofs.Common.{ℕ, ◌<◌, All, refl, sym, subst, Vec, Global}
use Rattle.core_units.specs.Rebuilt.{IsReady, IsReserved, IsSteady, KeepsRest}
use Rattle.core_units.specs.declared.rebuild.Rebuild.{Rebuild}
use Rattle.core_units.proofs.RebuildLemmas.{begins_at, on_ok, on_one, on_three, rebuilding_with, steady_with}
use Rattle.core_units.proofs.readiness.ready.Goals as goal

pub returns-clause-rest : goal.returns-clause-rest
returns-clause-rest c = record { group = refl; length = refl; lsn = refl; trees = refl; chunks = refl; owners = refl; lost = refl; unit = c.settle_all.ensures.unit }

pub returns-clause-steady : goal.returns-clause-steady
returns-clause-steady c =
    let old = c.args.rebuild.now in
    let new : Rebuild = record old { building = c.settle_all.new.building } in
    let rest : KeepsRest old new = record { group = refl; length = refl; lsn = refl; trees = refl; chunks = refl; owners = refl; lost = refl; unit = c.settle_all.ensures.unit } in
    let s = c.requires.steady in
    steady_with old new rest c.settle_all.ensures.built (c.settle_all.ensures.ends old.length s.ends) (subst (λ (v : Vec ℕ Global). All (λ b. b < old.length) v.items) (sym c.settle_all.ensures.reserve) s.inside) s

pub returns-clause-rebuilding : goal.returns-clause-rebuilding
returns-clause-rebuilding c =
    let old = c.args.rebuild.now in
    let new : Rebuild = record old { building = c.settle_all.new.building } in
    let rest : KeepsRest old new = record { group = refl; length = refl; lsn = refl; trees = refl; chunks = refl; owners = refl; lost = refl; unit = c.settle_all.ensures.unit } in
    let s = c.requires.steady in
    let steady : IsSteady new = steady_with old new rest c.settle_all.ensures.built (c.settle_all.ensures.ends old.length s.ends) (subst (λ (v : Vec ℕ Global). All (λ b. b < old.length) v.items) (sym c.settle_all.ensures.reserve) s.inside) s in
    rebuilding_with old new rest steady

pub returns-clause-ready : goal.returns-clause-ready
returns-clause-ready c =
    let old = c.args.rebuild.now in
    let new : Rebuild = record old { building = c.settle_all.new.building } in
    let rest : KeepsRest old new = record { group = refl; length = refl; lsn = refl; trees = refl; chunks = refl; owners = refl; lost = refl; unit = c.settle_all.ensures.unit } in
    let s = c.requires.steady in
    let steady : IsSteady new = steady_with old new rest c.settle_all.ensures.built (c.settle_all.ensures.ends old.length s.ends) (subst (λ (v : Vec ℕ Global). All (λ b. b < old.length) v.items) (sym c.settle_all.ensures.reserve) s.inside) s in
    on_three {S = IsReady new} c.settle_all.result (λ l t e. record { steady = steady; loadable = l; enough = e; totals = t }) c.settle_all.ensures.loadable c.settle_all.ensures.totals c.settle_all.ensures.enough

pub returns-clause-begins : goal.returns-clause-begins
returns-clause-begins c = on_ok c.settle_all.result (begins_at c.settle_all.new.building.lists)

pub returns-clause-reserved : goal.returns-clause-reserved
returns-clause-reserved c =
    let old = c.args.rebuild.now in
    let new : Rebuild = record old { building = c.settle_all.new.building } in
    let rest : KeepsRest old new = record { group = refl; length = refl; lsn = refl; trees = refl; chunks = refl; owners = refl; lost = refl; unit = c.settle_all.ensures.unit } in
    let s = c.requires.steady in
    let steady : IsSteady new = steady_with old new rest c.settle_all.ensures.built (c.settle_all.ensures.ends old.length s.ends) (subst (λ (v : Vec ℕ Global). All (λ b. b < old.length) v.items) (sym c.settle_all.ensures.reserve) s.inside) s in
    λ at g h.
    on_one {P = IsReady new} {S = IsReserved at g new} c.settle_all.result (λ ready. record { rebuilding = rebuilding_with old new rest steady at g h; ready = ready })
    (on_three {S = IsReady new} c.settle_all.result (λ l t e. record { steady = steady; loadable = l; enough = e; totals = t }) c.settle_all.ensures.loadable c.settle_all.ensures.totals c.settle_all.ensures.enough)
