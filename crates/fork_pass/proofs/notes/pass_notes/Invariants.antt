use Rattle.std.proofs.Common.{◌≡◌, ◌+◌, ◌≤◌, length, drop, Some}
use Rattle.std.specs.Prelude.{All, sum_by}
use Rattle.blk_device.specs.Contents.{Contents}
use Rattle.blk_device.specs.Reading.{OnlyRead}
use Rattle.blk_device.specs.declared.device.Region.TheVariants.{Image}
use Rattle.geom.specs.Places.{layout}
use Rattle.inode_pass.specs.Units.{opened_state}
use Rattle.fork_pass.specs.Counted.{note_most, notes_most}
use Rattle.fork_pass.specs.Passed.{IsInChunk, NotesLeft}
use Rattle.fork_pass.proofs.notes.pass_notes.Given as goal

-- the notes so far are passed
abbrev pub invariant-loop-note : goal.invariant-loop-note
invariant-loop-note g l = record {
  left : (c : Contents) → g.D.Device.content l.fn.dev ≡ Some c → All (IsInChunk (opened_state (layout l.geo) (c Image)) l.g) l.notes → NotesLeft (opened_state (layout l.geo) (c Image)) l.g l.notes (drop l.note-index l.notes) l.fn.sets l.sets;
  each : (c : Contents) → g.D.Device.content l.fn.dev ≡ Some c → l.steps.reads + sum_by (note_most (layout l.geo) (c Image) l.g) (drop l.note-index l.notes) ≤ l.fn.steps.reads + notes_most (layout l.geo) (c Image) l.g l.notes;
  groups : length l.sets ≡ length l.fn.sets;
  reading : OnlyRead g.D.Device l.fn.dev l.dev l.fn.steps l.steps;
  calm : g.D.Device.faults l.dev ≡ g.D.Device.faults l.fn.dev;
}
