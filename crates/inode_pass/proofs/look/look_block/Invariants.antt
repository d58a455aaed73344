use Rattle.std.proofs.Common.{◌≡◌, ◌++◌, map}
use Rattle.fs_state.specs.Lists.{numbers}
use Rattle.fs_state.specs.Inodes.{core_in, slot_in}
use Rattle.geom.specs.Layout.{inode_at}
use Rattle.geom.specs.Places.{layout}
use Rattle.inode_pass.specs.Cores.{look_in}
use Rattle.inode_pass.specs.Notes.{joined_notes, slot_notes}
use Rattle.inode_pass.specs.Noting.{AreNoted}
use Rattle.inode_pass.proofs.look.look_block.Given as goal

-- what the slots so far say was put down, and what they show
abbrev pub invariant-loop-slot : goal.invariant-loop-slot
invariant-loop-slot l = record {
  looks : l.looks.items ≡ l.fn.looks.items ++ map (λ s. look_in (core_in (layout l.geo) (inode_at (layout l.geo) l.g l.b s) (slot_in l.block.bytes s))) (numbers 0 l.slot);
  notes : AreNoted l.fn.notes.items l.notes.items (joined_notes (map (λ s. slot_notes (layout l.geo) (inode_at (layout l.geo) l.g l.b s) (slot_in l.block.bytes s)) (numbers 0 l.slot))) l.shown;
}
