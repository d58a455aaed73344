use Rattle.std.proofs.Common.{ℕ, ap, sym, subst}
use Rattle.blk_device.specs.declared.device.Region.{Region}
use Rattle.blk_device.specs.declared.device.Region.TheVariants.{Image}
use Rattle.redo_area.specs.Area.{bytes_of, gate_bytes, with_batch}
use Rattle.redo_area.specs.Stages.{Installs, IsInstalled, IsWaitingBut, StandsFor, StandsForBut}
use Rattle.redo_area.proofs.AreaLaws.{stands_but}
use Rattle.meta_txn.proofs.WholeLemmas.{image_closed, then_leaves}
use Rattle.redo_area.proofs.ToldLemmas.{told_on}
use Rattle.meta_txn.proofs.whole.write_waiting.Goals as goal

pub returns-clause-image : goal.returns-clause-image
returns-clause-image g c =
    let d = g.D.Device in
    image_closed c.close_gate.result (bytes_of c.args.batch.now) (gate_bytes 0) (d.content c.args.dev.now) (d.content c.install.new.dev) (d.content c.close_gate.new.dev)
    c.in_ok-install.ensures.written c.close_gate.ensures.written

pub returns-clause-any_moment_but : goal.returns-clause-any_moment_but
returns-clause-any_moment_but g c =
    let d = g.D.Device in
    let old = c.args.dev.now in
    let mid = c.install.new.dev in
    let ps = bytes_of c.args.batch.now in
    let size = d.blocks old Image in
    let k = d.blocks mid Image in
    let same = ap (λ (f : Region → ℕ). f Image) c.install.ensures.sizes in
    λ K. then_leaves d.clock d.may_have_held_since old mid c.close_gate.new.dev (d.content old) (d.content mid) (IsWaitingBut K size ps (d.may_hold_now old)) (IsInstalled k (d.may_hold_now mid))
    (Installs size ps (d.may_hold_now mid)) (λ m. StandsForBut K size (with_batch ps (m Image))) (λ n. StandsFor k (n Image))
    (c.install.ensures.any_moment_but K) (c.in_ok-install.ensures.installed_but K) c.close_gate.ensures.any_moment
    (λ m n made. (subst (λ (s : ℕ). IsInstalled s (d.may_hold_now mid) n) (sym same) made.installed, λ x stands. stands_but K size k (with_batch ps (m Image)) (n Image) x same made.image stands))

pub returns-clause-told : goal.returns-clause-told
returns-clause-told g c =
    let d = g.D.Device in
    told_on (d.content c.args.dev.now) (d.content c.install.new.dev) (d.content c.close_gate.new.dev) c.install.ensures.told c.close_gate.ensures.told
