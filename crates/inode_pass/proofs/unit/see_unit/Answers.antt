use Rattle.std.proofs.Common.{◌∙◌, sym, subst}
use Rattle.blk_device.specs.declared.device.Region.TheVariants.{Image}
use Rattle.geom.proofs.ApartLemmas.{splits_in}
use Rattle.geom.specs.Places.{layout}
use Rattle.index_derive.specs.Inodes.{AreModes}
use Rattle.inode_pass.specs.Units.{opened_state}
use Rattle.inode_pass.proofs.NoteLemmas.{fit_kept, unit_put}
use Rattle.inode_pass.proofs.UnitLemmas.{broken_said, modes_said}
use Rattle.inode_pass.proofs.unit.see_unit.Goals as goal

pub returns-clause-exact : goal.returns-clause-exact
returns-clause-exact g c = λ m e.
    let at = layout c.args.geo.now in
    let splits = splits_in at c.args.geo.now.fitting in
    let looks = c.in_ok-looks.ensures.exact m e in
    let modes = modes_said at (m Image) splits c.args.g c.args.unit c.as_slice.result.now c.requires.group c.requires.inside (c.as_slice.ensures.value ∙ looks) in
    record {
      mask = c.free_mask-free.ensures.exact (opened_state at (m Image)) c.args.g c.args.unit (subst (AreModes (opened_state at (m Image)) c.args.g c.args.unit) (sym (c.as_slice-2.ensures.value ∙ c.in_ok-modes.ensures)) modes);
      broken = c.first_broken.ensures ∙ broken_said at (m Image) splits c.args.g c.args.unit c.as_slice-3.result.now c.requires.group c.requires.inside (c.as_slice-3.ensures.value ∙ looks);
    }

pub returns-clause-noted : goal.returns-clause-noted
returns-clause-noted g c = λ m e.
    unit_put (layout c.args.geo.now) (m Image) c.args.g c.args.unit c.len-before.result c.free_mask-free.result c.args.notes.now.items c.look_unit.new.notes.items c.keep_notes.new.notes.items
    (c.len-before.ensures ∙ c.args.notes.now.ok.0) (returns-clause-exact g c m e).mask (c.in_ok-looks.ensures.noted m e) c.keep_notes.ensures

pub returns-clause-fit : goal.returns-clause-fit
returns-clause-fit g c = λ fit.
    fit_kept (layout c.args.geo.now) c.args.g c.len-before.result c.free_mask-free.result c.look_unit.new.notes.items c.keep_notes.new.notes.items c.keep_notes.ensures (c.in_ok-looks.ensures.fit fit)
