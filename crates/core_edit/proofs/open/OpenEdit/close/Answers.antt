use Rattle.std.proofs.Common.{ℕ, ap, refl, sym, subst, inl, inr}
use Rattle.std.specs.Prelude.{Option}
use Rattle.blk_device.specs.Contents.{Contents}
use Rattle.blk_device.specs.declared.device.Region.{Region}
use Rattle.blk_device.specs.declared.device.Region.TheVariants.{Image}
use Rattle.geom.specs.Places.{device_block}
use Rattle.meta_txn.specs.Joined.{AreBelow}
use Rattle.redo_area.proofs.ToldLemmas.{told_same}
use Rattle.redo_area.specs.Recover.{StaysTold}
use Rattle.core_edit.specs.Closed.{PutsHeads}
use Rattle.core_edit.specs.declared.open.OpenEdit.{OpenEdit}
use Rattle.core_edit.proofs.CloseLemmas.{all_ok, closes}
use Rattle.core_edit.proofs.WriteLemmas.{is_written}
use Rattle.core_edit.proofs.open.OpenEdit.close.Goals as goal

pub returns-in-Ok-clause-stands : goal.returns-in-Ok-clause-stands
returns-in-Ok-clause-stands g c = is_written

pub returns-in-Err-clause-stands : goal.returns-in-Err-clause-stands
returns-in-Err-clause-stands g c = is_written

pub returns-in-Ok-clause-closed : goal.returns-in-Ok-clause-closed
returns-in-Ok-clause-closed g c =
    let met = g.met.D.Device in
    let read = c.write_heads.ensures.reading in
    let h = c.closed_heads-self.result in
    let e = c.args.self.now in
    let e' : OpenEdit = record e { heads = h; txn = c.commit_all.new.txn } in
    let put = subst (λ (n : ℕ). PutsHeads n h e.txn.blocks c.write_heads.new.txn.blocks) c.device_block-first.ensures c.in-Ok.ensures.put in
    inr (closes g.D.Device met.only_now met.counts_now c.args.dev.now c.write_heads.new.dev c.commit_all.new.dev (device_block c.args.geo.now e.group 0) h e e' c.write_heads.new.txn c.commit_all.result put refl c.closed_heads-self.ensures refl c.commit_all.ensures.emptied read.crash read.same read.sizes c.commit_all.ensures.image c.commit_all.ensures.crash c.commit_all.ensures.crash_but (all_ok c.commit_all.result c.commit_all.ensures.emptied))

pub returns-in-Err-clause-closed : goal.returns-in-Err-clause-closed
returns-in-Err-clause-closed g c = let read = c.write_heads.ensures.reading in inl (record { failed = tt; same = read.same; crash = read.crash })

pub commit_all-requires-clause-below : goal.commit_all-requires-clause-below
commit_all-requires-clause-below g c =
    let sizes = ap (λ (f : Region → ℕ). f Image) c.write_heads.ensures.reading.sizes in
    subst (λ (n : ℕ). AreBelow n c.write_heads.new.txn.blocks) (sym sizes) (c.in-Ok.ensures.below c.requires.below)

pub returns-in-Ok-clause-told : goal.returns-in-Ok-clause-told
returns-in-Ok-clause-told g c = subst (λ (t : Option Contents). StaysTold t (g.D.Device.content c.commit_all.new.dev)) c.write_heads.ensures.reading.same c.commit_all.ensures.told

pub returns-in-Err-clause-told : goal.returns-in-Err-clause-told
returns-in-Err-clause-told g c = told_same (g.D.Device.content c.args.dev.now) (g.D.Device.content c.write_heads.new.dev) c.write_heads.ensures.reading.same
