use Rattle.std.proofs.Common.{sym, subst}
use Rattle.std.specs.Prelude.{IfErr}
use Rattle.ag_headers.specs.Ring.{entries}
use Rattle.join_blocks.proofs.CountLemmas.{with_err}
use Rattle.sblock.specs.Blocks.{IsRising, AllInside}
use Rattle.tree_edit.specs.Calls.{Stopped}
use Rattle.tree_edit.specs.declared.make.Made.{Made}
use Rattle.tree_edit.proofs.EditLemmas.{left_of_read, left_writes}
use Rattle.tree_edit.proofs.MakeLemmas.{sound_after}
use Rattle.tree_edit.proofs.PrepareLemmas.{is_prepared}
use Rattle.tree_edit.proofs.StopLemmas.{list_counts, make_ticks}
use Rattle.tree_edit.proofs.prepare.prepare.Goals as goal

pub make-requires-clause-rising : goal.make-requires-clause-rising
make-requires-clause-rising g c =
    let form = g.K.RecKind.form in
    let sound = sound_after form g.met.K.RecKind.lawful c.args.site.now.bounds c.args.how c.args.rec.now c.in_ok-read.read.recs.items c.plan_records.new.recs.items c.requires.given c.in_ok-read.ensures.sound c.in_ok-plan_records.ensures.edits in
    subst (IsRising form) (sym c.deref.ensures.value) sound.rising

pub make-requires-clause-inside : goal.make-requires-clause-inside
make-requires-clause-inside g c =
    let form = g.K.RecKind.form in
    let sound = sound_after form g.met.K.RecKind.lawful c.args.site.now.bounds c.args.how c.args.rec.now c.in_ok-read.read.recs.items c.plan_records.new.recs.items c.requires.given c.in_ok-read.ensures.sound c.in_ok-plan_records.ensures.edits in
    subst (AllInside form c.args.site.now.bounds) (sym c.deref.ensures.value) sound.inside

pub returns-clause-prepared : goal.returns-clause-prepared
returns-clause-prepared g c =
    let form = g.K.RecKind.form in
    let sound = sound_after form g.met.K.RecKind.lawful c.args.site.now.bounds c.args.how c.args.rec.now c.in_ok-read.read.recs.items c.plan_records.new.recs.items c.requires.given c.in_ok-read.ensures.sound c.in_ok-plan_records.ensures.edits in
    is_prepared form c.args.site.now c.args.how c.args.rec.now c.args.tree.now.lsn (g.D.Device.content c.args.dev.now) _ c.in_ok-read.read.recs.items c.plan_records.new.recs.items c.in_ok-read.read.blocks.items c.deref.result.now c.deref-2.result.now
    c.deref.ensures.value c.deref-2.ensures.value c.in_ok-read.ensures.read c.in_ok-plan_records.ensures.edits sound c.in_ok-read.ensures.lie
    c.args.steps.now c.walked.new.steps c.make.new.steps c.in_ok-read.ensures.each c.walked.ensures.reading.writes c.walked.ensures.reading.moves c.make.result c.make.ensures.ready c.make.ensures.counted

pub returns-clause-left : goal.returns-clause-left
returns-clause-left g c = left_writes g.D.Device c.args.dev.now c.walked.new.dev c.args.steps.now c.walked.new.steps c.make.new.steps (left_of_read g.D.Device c.args.dev.now c.walked.new.dev c.args.steps.now c.walked.new.steps c.walked.ensures.reading) c.make.ensures.steps

pub returns-in_err-plan_records-clause-ticks : goal.returns-in_err-plan_records-clause-ticks
returns-in_err-plan_records-clause-ticks g c =
    let form = g.K.RecKind.form in
    let told = g.D.Device.content c.args.dev.now in
    let tree = c.args.tree.now in
    let fault = c.in_err-plan_records.field-0.0 in
    with_err {T = Made} (λ r. IfErr r (Stopped form c.args.site.now c.args.how c.args.rec.now told tree c.args.txn.now c.args.steps.now c.walked.new.steps)) fault c.from_residual-in_err-plan_records.result c.from_residual-in_err-plan_records.ensures
    (list_counts form g.met.K.RecKind.lawful c.args.site.now c.args.how c.args.rec.now told tree.root tree.levels c.args.txn.now (entries c.args.list.now) c.args.steps.now
    c.in_ok-read.read.recs.items c.in_ok-read.read.blocks.items c.in_ok-read.ensures.read c.walked.new.steps c.in_ok-read.ensures.each c.walked.ensures.reading.writes fault c.in_err-plan_records.ensures.refused)

pub returns-clause-ticks : goal.returns-clause-ticks
returns-clause-ticks g c =
    let tree = c.args.tree.now in
    make_ticks g.K.RecKind.form g.met.K.RecKind.lawful c.args.site.now c.args.how c.args.rec.now (g.D.Device.content c.args.dev.now) tree.root tree.levels c.args.txn.now (entries c.args.list.now) c.args.steps.now
    c.in_ok-read.read.recs.items c.in_ok-read.read.blocks.items c.in_ok-read.ensures.read c.plan_records.new.recs.items c.in_ok-plan_records.ensures.edits c.walked.new.steps c.make.new.steps c.in_ok-read.ensures.each c.walked.ensures.reading.writes c.make.ensures.steps
    c.args.site.now.bounds.length c.deref.result.now c.deref-2.result.now c.deref.ensures.value c.deref-2.ensures.value c.make.result c.make.ensures.refused c.make.ensures.unlaid
