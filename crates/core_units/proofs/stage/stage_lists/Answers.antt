use Rattle.blk_device.specs.Moments.{sync_keeps, then_keeps}
use Rattle.core_units.specs.Staged.{IsKept}
use Rattle.core_units.proofs.stage.stage_lists.Goals as goal

pub returns-in_err-sync-clause-moments : goal.returns-in_err-sync-clause-moments
returns-in_err-sync-clause-moments g c =
    let d = g.D.Device in
    let met = g.met.D.Device in
    λ keep none.
    then_keeps d.clock d.may_have_held_since d.may_hold_now met.only_now met.counts_now (IsKept keep) _ _ _ (c.stage_next.ensures.moments keep none)
    (sync_keeps d.clock d.may_have_held_since d.may_hold_now met.only_now met.counts_now (IsKept keep) _ _ c.sync.ensures.crash c.sync.ensures.time)

pub returns-in-Synced-clause-moments : goal.returns-in-Synced-clause-moments
returns-in-Synced-clause-moments g c =
    let d = g.D.Device in
    let met = g.met.D.Device in
    λ keep none.
    then_keeps d.clock d.may_have_held_since d.may_hold_now met.only_now met.counts_now (IsKept keep) _ _ _ (c.stage_next.ensures.moments keep none)
    (sync_keeps d.clock d.may_have_held_since d.may_hold_now met.only_now met.counts_now (IsKept keep) _ _ c.sync.ensures.crash c.sync.ensures.time)
