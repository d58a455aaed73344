use Rattle.std.proofs.Common.{◌+◌, ◌*◌, refl, sym, arith}
use Rattle.fresh_image.proofs.InodeLemmas.{no_inodes, inode_more, inodes_done}
use Rattle.fresh_image.proofs.inodes.put_inodes.Goals as goal

pub loop-slot-init : goal.loop-slot-init
loop-slot-init c = (c.requires.long, sym (no_inodes c.args.first c.args.bytes.now))

pub loop-slot-preserved : goal.loop-slot-preserved
loop-slot-preserved c =
    let l = c.loop-slot in (
      omega (arith, c.put_inode.auto.bytes, l.invariant.0),
      inode_more l.slot c.args.first (512 * l.slot) (c.args.first + c.from.result) c.args.bytes.now l.bytes c.put_inode.new.bytes refl (omega (arith, c.from.ensures)) l.invariant.1 c.put_inode.ensures,
    )

pub returns : goal.returns
returns c = inodes_done c.loop-slot.slot c.args.first c.args.bytes.now c.loop-slot.bytes (omega arith) (omega arith) c.loop-slot.invariant.1
