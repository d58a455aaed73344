use Rattle.std.proofs.Common.{◌∙◌, ◌++◌, ap}
use Rattle.blk_device.specs.declared.device.Region.TheVariants.{Image}
use Rattle.geom.specs.Places.{layout}
use Rattle.inode_pass.specs.Cores.{block_looks}
use Rattle.inode_pass.specs.Notes.{block_notes}
use Rattle.inode_pass.proofs.CoreLemmas.{eight_more}
use Rattle.inode_pass.proofs.NoteLemmas.{fit_more}
use Rattle.inode_pass.proofs.unit.look_read.Goals as goal

pub returns-clause-exact : goal.returns-clause-exact
returns-clause-exact g c = λ m e.
    c.in_ok-look_block.ensures.looked ∙ ap (λ bytes. c.args.looks.now.items ++ block_looks (layout c.args.geo.now) bytes c.args.g c.args.b) (c.in_ok-read_block.ensures.told m e ∙ ap (m Image) c.device_block-at.ensures)

pub returns-clause-noted : goal.returns-clause-noted
returns-clause-noted g c = λ m e.
    c.in_ok-look_block.ensures.noted ∙ ap (λ bytes. c.args.notes.now.items ++ block_notes (layout c.args.geo.now) bytes c.args.g c.args.b) (c.in_ok-read_block.ensures.told m e ∙ ap (m Image) c.device_block-at.ensures)

pub returns-clause-fit : goal.returns-clause-fit
returns-clause-fit g c =
    fit_more (layout c.args.geo.now) c.read_block.new.into.bytes c.args.g c.args.b c.args.notes.now.items c.look_block.new.notes.items c.requires.block c.in_ok-look_block.ensures.noted

pub returns-clause-eight : goal.returns-clause-eight
returns-clause-eight g c = eight_more (layout c.args.geo.now) c.read_block.new.into.bytes c.args.g c.args.b c.args.looks.now.items c.look_block.new.looks.items c.in_ok-look_block.ensures.looked
