-- A fork that the inode itself holds.
use Rattle.std.proofs.Common.{◌≡◌, ℕ, List, [], None, Result, Ok, Err, refl, ap, sym, subst, ◌∙◌}
use Rattle.std.specs.Prelude.{IfErr, IfOk, map}
use Rattle.blk_device.specs.Causes.{HasCause, MovesOnly}
use Rattle.dinode_core.specs.ForkTree.{Image, TreeBlock, fork_fault, met_of}
use Rattle.dinode_core.specs.Inline.{Refuses, inline_fault, inline_mappings}
use Rattle.dinode_core.specs.declared.inode.Core3.{Core3}
use Rattle.dinode_core.specs.declared.mapping.Fork.{Fork}
use Rattle.dinode_core.specs.declared.mapping.ForkError.{ForkError}
use Rattle.dinode_core.specs.declared.mapping.ForkError.TheVariants.{Fault, Memory as NoListMemory}
use Rattle.dinode_core.specs.declared.mapping.Mapping.{Mapping}
use Rattle.geom.specs.Layout.{Layout}
use Rattle.inode_pass.specs.Stops.{is_failed}
use Rattle.inode_pass.specs.declared.stop.PassStop.{PassStop}
use Rattle.inode_pass.specs.declared.stop.PassStop.TheVariants.{Memory}
use Rattle.unit_plan.specs.declared.claims.ClaimSet.{ClaimSet}
use Rattle.fork_pass.specs.Pieces.{mapping_pieces}
use Rattle.fork_pass.specs.Read.{IsForkRead, IsGood, IsShown}
use Rattle.fork_pass.specs.Sets.{Adds}
use Rattle.fork_pass.specs.declared.fork.ForkRead.{ForkRead}

module _ (at : Layout) (core : Core3) (fork : Fork) where
  -- its mappings were put, and it has no blocks
  pub inline_read : (image : Image) (old new : List ClaimSet) (mappings : List Mapping) (blocks : List ℕ) → fork_fault at image core fork ≡ inline_fault at core fork → (met_of at image core fork).mappings ≡ inline_mappings core fork → (met_of at image core fork).blocks ≡ [] → inline_fault at core fork ≡ None → mappings ≡ inline_mappings core fork → Adds old new (mapping_pieces at fork core.ino mappings) → blocks ≡ [] → IsGood at image core fork old new blocks
  inline_read image old new mappings blocks same met no_blocks good is adds none = record {
    good = same ∙ good;
    put = subst (λ (ms : List Mapping). Adds old new (mapping_pieces at fork core.ino ms)) (is ∙ sym met) adds;
    blocks_are = none ∙ sym (ap (λ (bs : List TreeBlock). map (λ b. b.block) bs) no_blocks);
  }

  -- it has the fault that the inode itself shows
  pub shown_read : (error : ForkError) (result : Result ForkRead PassStop) (old now : List ClaimSet) → IsShown error result → Refuses error (inline_fault at core fork) → ((image : Image) → fork_fault at image core fork ≡ inline_fault at core fork) → IfOk result (λ read. (image : Image) → IsForkRead at image core fork old now read)
  shown_read (Fault fault) result old now is bad same = subst (λ (r : Result ForkRead PassStop). IfOk r (λ read. (image : Image) → IsForkRead at image core fork old now read)) (sym is) (λ image. same image ∙ bad)
  shown_read NoListMemory result old now is bad same = subst (λ (r : Result ForkRead PassStop). IfOk r (λ read. (image : Image) → IsForkRead at image core fork old now read)) (sym is) tt

-- want of memory moves no count
pub memory_cause : {T : Type 0} (faults : ℕ) (result : Result T PassStop) → IfErr result (λ stop. stop ≡ Memory) → HasCause is_failed faults faults result
memory_cause faults (Ok x) h = refl
memory_cause faults (Err stop) h = subst (λ (s : PassStop). MovesOnly (is_failed s) faults faults) (sym h) refl
