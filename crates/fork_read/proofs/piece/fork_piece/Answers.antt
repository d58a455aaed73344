use Rattle.std.proofs.Common.{◌∙◌, subst}
use Rattle.std.specs.Prelude.{◌+◌}
use Rattle.blk_device.specs.ReadingLaws.{read_on}
use Rattle.blk_device.specs.declared.device.Region.TheVariants.{Image}
use Rattle.geom.specs.Places.{layout}
use Rattle.dinode_core.specs.declared.inode.Core3.{Core3}
use Rattle.dinode_core.specs.Core.{core_of}
use Rattle.fork_read.specs.Counted.{IsSpent}
use Rattle.fork_read.specs.Pieces.{inode_bytes}
use Rattle.fork_read.proofs.SpendLemmas.{nothing_spent}
use Rattle.fork_read.proofs.piece.fork_piece.Goals as goal

pub returns-clause-reading : goal.returns-clause-reading
returns-clause-reading g c =
    read_on g.D.Device g.met.D.Device.only_now g.met.D.Device.counts_now c.args.dev.now c.load_core.new.dev c.piece_of_core.new.dev c.args.steps.now c.load_core.new.steps c.piece_of_core.new.steps c.load_core.ensures.reading c.piece_of_core.ensures.reading

pub returns-in_err-core-clause-spent : goal.returns-in_err-core-clause-spent
returns-in_err-core-clause-spent g c = λ m e.
    let at = layout c.args.geo.now in
    nothing_spent at (m Image) (core_of (inode_bytes at (m Image) c.args.ino)) c.args.fork c.args.from (c.args.steps.now.reads + 1) c.load_core.new.steps.reads c.load_core.ensures.one

pub returns-clause-spent : goal.returns-clause-spent
returns-clause-spent g c = λ m e.
    let at = layout c.args.geo.now in
    let now = c.piece_of_core.new.steps.reads in
    let same = (c.in_ok-core.ensures.core m e).1 in
    let spent = c.piece_of_core.ensures.spent m (c.load_core.ensures.reading.same ∙ e) in
    subst (λ (core : Core3). IsSpent at (m Image) core c.args.fork c.args.from (c.args.steps.now.reads + 1) now) same
    (subst (λ n. IsSpent at (m Image) c.in_ok-core.core c.args.fork c.args.from n now) c.load_core.ensures.one spent)
