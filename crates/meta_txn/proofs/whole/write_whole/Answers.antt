use Rattle.std.proofs.Common.{◌≡◌, ℕ, ap, inl, sym, subst}
use Rattle.blk_device.specs.declared.device.Region.{Region}
use Rattle.blk_device.specs.declared.device.Region.TheVariants.{Image}
use Rattle.redo_area.specs.Area.{Blocks, bytes_of, with_batch}
use Rattle.redo_area.specs.Stages.{AtRestBut, Ends, IsReadyBut, PreparesBut, StandsForBut, StandsForEitherBut}
use Rattle.meta_txn.proofs.WholeLemmas.{leaves_too, then_done, then_leaves}
use Rattle.redo_area.proofs.ToldLemmas.{told_on}
use Rattle.meta_txn.proofs.whole.write_whole.Goals as goal

pub returns-in_err-prepared-clause-any_moment_but : goal.returns-in_err-prepared-clause-any_moment_but
returns-in_err-prepared-clause-any_moment_but g c =
    let d = g.D.Device in
    let old = c.args.dev.now in
    let ps = bytes_of c.args.batch.now in
    let size = d.blocks old Image in
    λ K. leaves_too d.clock d.may_have_held_since old c.prepared.new.dev (d.content old) (AtRestBut K (d.may_hold_now old)) (λ m. StandsForBut K size (m Image)) (λ m. StandsForEitherBut K size (m Image) (with_batch ps (m Image)))
    (c.prepared.ensures.any_moment_but K) (λ m x stands. inl stands)

pub returns-clause-any_moment_but : goal.returns-clause-any_moment_but
returns-clause-any_moment_but g c =
    let d = g.D.Device in
    let old = c.args.dev.now in
    let mid = c.prepared.new.dev in
    let ps = bytes_of c.args.batch.now in
    let size = d.blocks old Image in
    let k = d.blocks mid Image in
    let same : k ≡ size = ap (λ (f : Region → ℕ). f Image) c.prepared.ensures.sizes in
    λ K. then_leaves d.clock d.may_have_held_since old mid c.write_ready.new.dev (d.content old) (d.content mid) (AtRestBut K (d.may_hold_now old)) (IsReadyBut K k ps (d.may_hold_now mid))
    (PreparesBut K size ps (d.may_hold_now mid)) (λ m. StandsForEitherBut K size (m Image) (with_batch ps (m Image))) (λ n. StandsForEitherBut K k (n Image) (with_batch ps (n Image)))
    (leaves_too d.clock d.may_have_held_since old mid (d.content old) (AtRestBut K (d.may_hold_now old)) (λ m. StandsForBut K size (m Image)) (λ m. StandsForEitherBut K size (m Image) (with_batch ps (m Image)))
    (c.prepared.ensures.any_moment_but K) (λ m x stands. inl stands))
    (c.in_ok-prepared.ensures.ready_but K) (c.write_ready.ensures.any_moment_but K)
    (λ m n made. (
      subst (λ (s : ℕ). IsReadyBut K s ps (d.may_hold_now mid) n) (sym same) made.ready,
      λ x stands. subst (λ (i : Blocks). StandsForEitherBut K size i (with_batch ps i) x) made.image (subst (λ (s : ℕ). StandsForEitherBut K s (n Image) (with_batch ps (n Image)) x) same stands),
    ))

pub returns-clause-done_but : goal.returns-clause-done_but
returns-clause-done_but g c =
    let d = g.D.Device in
    let old = c.args.dev.now in
    let mid = c.prepared.new.dev in
    let new = c.write_ready.new.dev in
    let ps = bytes_of c.args.batch.now in
    let size = d.blocks old Image in
    let k = d.blocks mid Image in
    let same : k ≡ size = ap (λ (f : Region → ℕ). f Image) c.prepared.ensures.sizes in
    λ K. then_done c.write_ready.result (d.content old) (d.content mid) (d.content new) (AtRestBut K (d.may_hold_now old)) (IsReadyBut K k ps (d.may_hold_now mid))
    (PreparesBut K size ps (d.may_hold_now mid)) (λ n. Ends (with_batch ps (n Image)) (d.may_hold_now new)) (λ m. Ends (with_batch ps (m Image)) (d.may_hold_now new))
    (c.in_ok-prepared.ensures.ready_but K) (c.write_ready.ensures.done_but K)
    (λ m n made. (subst (λ (s : ℕ). IsReadyBut K s ps (d.may_hold_now mid) n) (sym same) made.ready, λ o ends. subst (λ (i : Blocks). Ends (with_batch ps i) (d.may_hold_now new) o) made.image ends))

pub returns-clause-told : goal.returns-clause-told
returns-clause-told g c =
    let d = g.D.Device in
    told_on (d.content c.args.dev.now) (d.content c.prepared.new.dev) (d.content c.write_ready.new.dev) c.prepared.ensures.told c.write_ready.ensures.told
