use Rattle.std.proofs.Common.{Bool, IfSome, ap, subst, ◌∙◌}
use Rattle.blk_device.specs.Contents.{map_told}
use Rattle.redo_area.specs.Area.{closed_over}
use Rattle.redo_area.specs.Recover.{IsSeen}
use Rattle.redo_area.proofs.Steps.{raised_both, seen_open, seen_shut}
use Rattle.redo_area.proofs.recovery.recover.Goals as goal

pub returns-in_err-finish-clause-reads : goal.returns-in_err-finish-clause-reads
returns-in_err-finish-clause-reads g c = raised_both (g.D.Device.reads c.args.dev.now) (g.D.Device.reads c.look.new.dev) (g.D.Device.reads c.finish.new.dev) 2 160 c.look.ensures.reads c.finish.ensures.reads

pub returns-clause-reads : goal.returns-clause-reads
returns-clause-reads g c = raised_both (g.D.Device.reads c.args.dev.now) (g.D.Device.reads c.look.new.dev) (g.D.Device.reads c.finish.new.dev) 2 160 c.look.ensures.reads c.finish.ensures.reads

pub returns-clause-written : goal.returns-clause-written
returns-clause-written g c =
    let told = g.D.Device.content c.args.dev.now in
    let table = c.look.new.table.bytes in
    let seen = subst (λ (b : Bool). IfSome told (IsSeen b table)) c.if-not-branch.false c.in_ok-look.ensures.found in
    c.in_ok-finish.ensures.written ∙ ap (map_told (closed_over table)) c.look.ensures.same ∙ seen_open table told seen

pub returns-then-not-branch-clause-written : goal.returns-then-not-branch-clause-written
returns-then-not-branch-clause-written g c =
    let told = g.D.Device.content c.args.dev.now in
    let table = c.look.new.table.bytes in
    let seen = subst (λ (b : Bool). IfSome told (IsSeen b table)) c.if-not-branch.true c.in_ok-look.ensures.found in
    c.look.ensures.same ∙ seen_shut table told seen
