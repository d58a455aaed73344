use Rattle.std.proofs.Common.{◌≡◌, ℕ, ap, inr, sym, subst}
use Rattle.blk_device.specs.declared.device.Region.{Region}
use Rattle.blk_device.specs.declared.device.Region.TheVariants.{Image}
use Rattle.redo_area.specs.Area.{Blocks, bytes_of, with_batch}
use Rattle.redo_area.specs.Stages.{Ends, IsReady, IsReadyBut, IsWaiting, IsWaitingBut, Opens, OpensBut, StandsFor, StandsForBut, StandsForEither, StandsForEitherBut}
use Rattle.meta_txn.proofs.WholeLemmas.{then_done, then_leaves}
use Rattle.redo_area.proofs.ToldLemmas.{told_on}
use Rattle.meta_txn.proofs.whole.write_ready.Goals as goal

pub returns-in_err-open_gate-clause-any_moment : goal.returns-in_err-open_gate-clause-any_moment
returns-in_err-open_gate-clause-any_moment g c = c.open_gate.ensures.any_moment (bytes_of c.args.batch.now)

pub returns-clause-any_moment : goal.returns-clause-any_moment
returns-clause-any_moment g c =
    let d = g.D.Device in
    let old = c.args.dev.now in
    let mid = c.open_gate.new.dev in
    let ps = bytes_of c.args.batch.now in
    let size = d.blocks old Image in
    let k = d.blocks mid Image in
    let same : k ≡ size = ap (λ (f : Region → ℕ). f Image) c.open_gate.ensures.sizes in
    then_leaves d.clock d.may_have_held_since old mid c.write_waiting.new.dev (d.content old) (d.content mid) (IsReady size ps (d.may_hold_now old)) (IsWaiting k ps (d.may_hold_now mid))
    (Opens size ps (d.may_hold_now mid)) (λ m. StandsForEither size (m Image) (with_batch ps (m Image))) (λ n. StandsFor k (with_batch ps (n Image)))
    (c.open_gate.ensures.any_moment ps) (c.in_ok-open_gate.ensures.opened ps) c.write_waiting.ensures.any_moment
    (λ m n made. (
      subst (λ (s : ℕ). IsWaiting s ps (d.may_hold_now mid) n) (sym same) made.waits,
      λ x stands. inr (subst (λ (i : Blocks). StandsFor size (with_batch ps i) x) made.image (subst (λ (s : ℕ). StandsFor s (with_batch ps (n Image)) x) same stands)),
    ))

pub returns-in_err-open_gate-clause-any_moment_but : goal.returns-in_err-open_gate-clause-any_moment_but
returns-in_err-open_gate-clause-any_moment_but g c = λ K. c.open_gate.ensures.any_moment_but K (bytes_of c.args.batch.now)

pub returns-clause-any_moment_but : goal.returns-clause-any_moment_but
returns-clause-any_moment_but g c =
    let d = g.D.Device in
    let old = c.args.dev.now in
    let mid = c.open_gate.new.dev in
    let ps = bytes_of c.args.batch.now in
    let size = d.blocks old Image in
    let k = d.blocks mid Image in
    let same : k ≡ size = ap (λ (f : Region → ℕ). f Image) c.open_gate.ensures.sizes in
    λ K. then_leaves d.clock d.may_have_held_since old mid c.write_waiting.new.dev (d.content old) (d.content mid) (IsReadyBut K size ps (d.may_hold_now old)) (IsWaitingBut K k ps (d.may_hold_now mid))
    (OpensBut K size ps (d.may_hold_now mid)) (λ m. StandsForEitherBut K size (m Image) (with_batch ps (m Image))) (λ n. StandsForBut K k (with_batch ps (n Image)))
    (c.open_gate.ensures.any_moment_but K ps) (c.in_ok-open_gate.ensures.opened_but K ps) (c.write_waiting.ensures.any_moment_but K)
    (λ m n made. (
      subst (λ (s : ℕ). IsWaitingBut K s ps (d.may_hold_now mid) n) (sym same) made.waits,
      λ x stands. inr (subst (λ (i : Blocks). StandsForBut K size (with_batch ps i) x) made.image (subst (λ (s : ℕ). StandsForBut K s (with_batch ps (n Image)) x) same stands)),
    ))

pub returns-clause-done_but : goal.returns-clause-done_but
returns-clause-done_but g c =
    let d = g.D.Device in
    let old = c.args.dev.now in
    let mid = c.open_gate.new.dev in
    let new = c.write_waiting.new.dev in
    let ps = bytes_of c.args.batch.now in
    let size = d.blocks old Image in
    let k = d.blocks mid Image in
    let same : k ≡ size = ap (λ (f : Region → ℕ). f Image) c.open_gate.ensures.sizes in
    λ K. then_done c.write_waiting.result (d.content old) (d.content mid) (d.content new) (IsReadyBut K size ps (d.may_hold_now old)) (IsWaitingBut K k ps (d.may_hold_now mid))
    (OpensBut K size ps (d.may_hold_now mid)) (λ n. Ends (with_batch ps (n Image)) (d.may_hold_now new)) (λ m. Ends (with_batch ps (m Image)) (d.may_hold_now new))
    (c.in_ok-open_gate.ensures.opened_but K ps) (c.write_waiting.ensures.done_but K)
    (λ m n made. (subst (λ (s : ℕ). IsWaitingBut K s ps (d.may_hold_now mid) n) (sym same) made.waits, λ o ends. subst (λ (i : Blocks). Ends (with_batch ps i) (d.may_hold_now new) o) made.image ends))

pub returns-clause-told : goal.returns-clause-told
returns-clause-told g c =
    let d = g.D.Device in
    told_on (d.content c.args.dev.now) (d.content c.open_gate.new.dev) (d.content c.write_waiting.new.dev) c.open_gate.ensures.told c.write_waiting.ensures.told
