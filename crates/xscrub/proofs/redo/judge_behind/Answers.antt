use Rattle.std.proofs.Common.{ℕ, Option, IfSome, ◌≡◌, ◌∙◌, subst}
use Rattle.blk_device.specs.Contents.{Contents}
use Rattle.blk_device.specs.Reading.{EachBlock}
use Rattle.blk_device.specs.ReadingLaws.{keeps_on}
use Rattle.blk_device.specs.declared.device.Region.{Region}
use Rattle.blk_device.specs.declared.device.Region.TheVariants.{Image, Redo}
use Rattle.xscrub.specs.Image.{redo_refusal}
use Rattle.xscrub.specs.Judged.{ReadsForImage}
use Rattle.xscrub.specs.declared.judging.JudgeFault.TheVariants.{Device}
use Rattle.xscrub.specs.declared.last_lines.RedoRefusal.{RedoRefusal}
use Rattle.xscrub.proofs.JudgedLemmas.{units_none}
use Rattle.xscrub.proofs.RedoLemmas.{failed_front, failed_kept, passed_kept, refused_kept}
use Rattle.xscrub.proofs.redo.judge_behind.Goals as goal

pub returns-in-Err-clause-front : goal.returns-in-Err-clause-front
returns-in-Err-clause-front g c = failed_front (g.D.Device.content c.args.dev.now) (g.D.Device.blocks c.args.dev.now) (Device c.new.result) c.new.ensures.items

pub returns-in-Err-clause-units : goal.returns-in-Err-clause-units
returns-in-Err-clause-units g c = units_none (Device c.new.result) c.new.ensures.items

pub returns-in-Err-clause-kept : goal.returns-in-Err-clause-kept
returns-in-Err-clause-kept g c =
    failed_kept (g.D.Device.content c.args.dev.now) (g.D.Device.blocks c.args.dev.now) (Device c.new.result) (g.D.Device.reads c.args.dev.now) (g.D.Device.reads c.redo_refusal.new.dev)
    c.new.ensures.items c.redo_refusal.ensures.one c.redo_refusal.ensures.unread

pub returns-in-Some-clause-kept : goal.returns-in-Some-clause-kept
returns-in-Some-clause-kept g c =
    refused_kept (g.D.Device.content c.args.dev.now) (g.D.Device.blocks c.args.dev.now) c.in-Some.refusal (g.D.Device.reads c.args.dev.now) (g.D.Device.reads c.redo_refusal.new.dev)
    c.redo_refusal.ensures.one (λ short. c.redo_refusal.ensures.unread (c.in-Ok.ensures.short (c.in-Some.is ∙ short)))
    (subst (λ (r : Option RedoRefusal). IfSome (g.D.Device.content c.args.dev.now) (λ m. r ≡ redo_refusal (g.D.Device.blocks c.args.dev.now Redo) m)) c.in-Some.is c.in-Ok.ensures.exact)

pub returns-in-None-clause-kept : goal.returns-in-None-clause-kept
returns-in-None-clause-kept g c =
    passed_kept (g.D.Device.content c.args.dev.now) (g.D.Device.blocks c.args.dev.now) c.judge.result (g.D.Device.reads c.args.dev.now) (g.D.Device.reads c.redo_refusal.new.dev) (g.D.Device.reads c.judge.new.dev)
    c.redo_refusal.ensures.one
    (subst (λ (r : Option RedoRefusal). IfSome (g.D.Device.content c.args.dev.now) (λ m. r ≡ redo_refusal (g.D.Device.blocks c.args.dev.now Redo) m)) c.in-None.is c.in-Ok.ensures.exact)
    (subst (λ (f : Region → ℕ). ReadsForImage (g.D.Device.content c.args.dev.now) (f Image) (g.D.Device.reads c.redo_refusal.new.dev) (g.D.Device.reads c.judge.new.dev) c.judge.result) c.redo_refusal.ensures.sizes
    (subst (λ (t : Option Contents). ReadsForImage t (g.D.Device.blocks c.redo_refusal.new.dev Image) (g.D.Device.reads c.redo_refusal.new.dev) (g.D.Device.reads c.judge.new.dev) c.judge.result) c.redo_refusal.ensures.same c.judge.ensures.kept))

pub returns-in-None-clause-crash : goal.returns-in-None-clause-crash
returns-in-None-clause-crash g c =
    keeps_on g.D.Device g.met.D.Device.only_now g.met.D.Device.counts_now EachBlock c.args.dev.now c.redo_refusal.new.dev c.judge.new.dev c.redo_refusal.ensures.crash c.judge.ensures.crash
