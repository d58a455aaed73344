use Rattle.std.proofs.Common.{◌∙◌, refl, arith}
use Rattle.redo_area.proofs.Steps.{not_raised, raised_both, raised_less, raised_once}
use Rattle.redo_area.proofs.ToldLemmas.{quiet_after}
use Rattle.redo_area.proofs.recovery.look.Goals as goal

pub returns-in_err-sync-clause-reads : goal.returns-in_err-sync-clause-reads
returns-in_err-sync-clause-reads g c = not_raised (g.D.Device.reads c.args.dev.now) (g.D.Device.reads c.sync.new.self) 2 c.sync.ensures.reads

pub returns-in_err-sync-2-clause-reads : goal.returns-in_err-sync-2-clause-reads
returns-in_err-sync-2-clause-reads g c = not_raised (g.D.Device.reads c.args.dev.now) (g.D.Device.reads c.sync-2.new.self) 2 (c.sync-2.ensures.reads ∙ c.sync.ensures.reads)

pub returns-in_err-read-2-clause-reads : goal.returns-in_err-read-2-clause-reads
returns-in_err-read-2-clause-reads g c =
    let reads = g.D.Device.reads in
    let old = c.args.dev.now in
    raised_both (reads old) (reads c.read.new.self) (reads c.read-2.new.self) 1 1 (raised_once (reads old) (reads c.sync-2.new.self) (reads c.read.new.self) (c.sync-2.ensures.reads ∙ c.sync.ensures.reads) c.read.ensures.reads)
    (raised_once (reads c.read.new.self) (reads c.read.new.self) (reads c.read-2.new.self) refl c.read-2.ensures.reads)

pub returns-clause-reads : goal.returns-clause-reads
returns-clause-reads g c =
    let reads = g.D.Device.reads in
    let old = c.args.dev.now in
    raised_both (reads old) (reads c.read.new.self) (reads c.read-2.new.self) 1 1 (raised_once (reads old) (reads c.sync-2.new.self) (reads c.read.new.self) (c.sync-2.ensures.reads ∙ c.sync.ensures.reads) c.read.ensures.reads)
    (raised_once (reads c.read.new.self) (reads c.read.new.self) (reads c.read-2.new.self) refl c.read-2.ensures.reads)

pub returns-in_err-read-clause-reads : goal.returns-in_err-read-clause-reads
returns-in_err-read-clause-reads g c =
    let reads = g.D.Device.reads in
    let old = c.args.dev.now in
    raised_less (reads old) (reads c.read.new.self) 1 2 (omega arith) (raised_once (reads old) (reads c.sync-2.new.self) (reads c.read.new.self) (c.sync-2.ensures.reads ∙ c.sync.ensures.reads) c.read.ensures.reads)

pub returns-then-gate-ne1-clause-reads : goal.returns-then-gate-ne1-clause-reads
returns-then-gate-ne1-clause-reads g c =
    let reads = g.D.Device.reads in
    let old = c.args.dev.now in
    raised_less (reads old) (reads c.read.new.self) 1 2 (omega arith) (raised_once (reads old) (reads c.sync-2.new.self) (reads c.read.new.self) (c.sync-2.ensures.reads ∙ c.sync.ensures.reads) c.read.ensures.reads)

pub returns-then-gate-ne1-clause-quiet : goal.returns-then-gate-ne1-clause-quiet
returns-then-gate-ne1-clause-quiet g c =
    let d = g.D.Device in
    quiet_after (d.content c.args.dev.now) (d.content c.sync.new.self) (d.content c.sync-2.new.self) (d.content c.read.new.self) (d.may_hold_now c.sync.new.self) (d.may_hold_now c.sync-2.new.self) (d.may_hold_now c.read.new.self)
    c.sync.ensures.same c.sync-2.ensures.same c.read.ensures.same c.in_ok-sync.ensures.durable c.sync-2.ensures.crash c.in_ok-sync-2.ensures.durable c.read.ensures.crash

pub returns-clause-quiet : goal.returns-clause-quiet
returns-clause-quiet g c =
    let d = g.D.Device in
    quiet_after (d.content c.args.dev.now) (d.content c.sync.new.self) (d.content c.sync-2.new.self) (d.content c.read-2.new.self) (d.may_hold_now c.sync.new.self) (d.may_hold_now c.sync-2.new.self) (d.may_hold_now c.read-2.new.self)
    c.sync.ensures.same c.sync-2.ensures.same (c.read-2.ensures.same ∙ c.read.ensures.same) c.in_ok-sync.ensures.durable c.sync-2.ensures.crash c.in_ok-sync-2.ensures.durable (λ x held. c.read.ensures.crash x (c.read-2.ensures.crash x held))
