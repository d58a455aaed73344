use Rattle.std.proofs.Common.{ℕ, List, sym, subst}
use Rattle.geom.specs.Layout.{device_block_of}
use Rattle.geom.specs.Places.{layout}
use Rattle.core_units.specs.Staged.{NoneKept}
use Rattle.core_units.proofs.staging.stage_piece.Goals as goal

pub returns-clause-moments : goal.returns-clause-moments
returns-clause-moments g c = λ keep none.
    let first = device_block_of (layout c.args.geo.now) c.args.rebuild.now.group 0 in
    c.stage_lists.ensures.moments keep (subst (λ (l : List ℕ). NoneKept first keep l) (sym c.as_slice-reserve.ensures.value) none)
