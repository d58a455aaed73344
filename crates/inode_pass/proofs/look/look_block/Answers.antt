use Rattle.std.proofs.Common.{◌≡◌, ◌∙◌, arith}
use Rattle.fs_state.specs.Inodes.{core_in, slot_in}
use Rattle.geom.specs.Layout.{inode_at}
use Rattle.geom.specs.Places.{layout}
use Rattle.inode_pass.specs.Cores.{look_in, look_of}
use Rattle.inode_pass.specs.Notes.{notes_at, slot_notes}
use Rattle.inode_pass.proofs.CoreLemmas.{block_whole, put_more}
use Rattle.inode_pass.proofs.NoteLemmas.{block_put, slots_more}
use Rattle.inode_pass.proofs.look.look_block.Goals as goal

pub loop-slot-preserved : goal.loop-slot-preserved
unfolding look_of notes_at
loop-slot-preserved c =
    let at = layout c.args.geo.now in
    record {
      looks =
          put_more c.args.looks.now.items c.loop-slot.looks.items c.look_slot.new.looks.items (λ s. look_in (core_in at (inode_at at c.args.g c.args.b s) (slot_in c.args.block.now.bytes s))) c.loop-slot.slot c.loop-slot.invariant.looks
          c.in_ok-shown.ensures.looked;
      notes =
          slots_more (λ s. slot_notes at (inode_at at c.args.g c.args.b s) (slot_in c.args.block.now.bytes s)) c.loop-slot.slot c.args.notes.now.items c.loop-slot.notes.items c.look_slot.new.notes.items c.loop-slot.shown c.in_ok-shown.shown c.loop-slot.invariant.notes c.in_ok-shown.ensures.left
          c.in_ok-shown.ensures.noted;
    }

pub returns : goal.returns
returns c =
    let all : c.loop-slot.slot ≡ 8 = omega (arith, c.loop-slot-test.false, c.loop-slot.auto.slot-end) in
    record {
      looked = block_whole (layout c.args.geo.now) c.args.block.now.bytes c.args.g c.args.b c.loop-slot.slot c.args.looks.now.items c.loop-slot.looks.items all c.loop-slot.invariant.looks;
      noted =
          block_put (layout c.args.geo.now) c.args.block.now.bytes c.args.g c.args.b c.loop-slot.slot c.len-before.result c.args.notes.now.items c.loop-slot.notes.items c.put_block.new.notes.items c.loop-slot.shown all
          (c.len-before.ensures ∙ c.args.notes.now.ok.0) c.loop-slot.invariant.notes c.in_ok-put_block.ensures.shown c.in_ok-put_block.ensures.block;
    }
