use Rattle.std.proofs.Common.{[], ◌∷◌, sym, subst}
use Rattle.std.specs.Prelude.{All}
use Rattle.blk_device.specs.declared.device.Region.TheVariants.{Image}
use Rattle.geom.specs.Places.{layout}
use Rattle.inode_pass.specs.Units.{opened_state}
use Rattle.inode_pass.specs.declared.note.ForkNote.{ForkNote}
use Rattle.fork_pass.specs.Passed.{IsInChunk, NotesPassed}
use Rattle.fork_pass.proofs.NoteLemmas.{block_passed}
use Rattle.fork_pass.proofs.notes.pass_note.Goals as goal

pub returns-in_ok-found-in-Block-clause-exact : goal.returns-in_ok-found-in-Block-clause-exact
returns-in_ok-found-in-Block-clause-exact g c = λ m e.
    let a = opened_state (layout c.args.geo.now) (m Image) in
    subst (λ (note : ForkNote). All (IsInChunk a c.args.g) (note ∷ []) → NotesPassed a c.args.g (note ∷ []) c.args.sets.now c.pass_block.new.sets c.in_ok-found-in-Block.found) (sym c.in-Block.is)
    (block_passed a c.args.g c.in-Block.b c.args.note.now c.args.sets.now c.pass_block.new.sets c.in_ok-found-in-Block.found (c.in_ok-found-in-Block.ensures.exact m e))
