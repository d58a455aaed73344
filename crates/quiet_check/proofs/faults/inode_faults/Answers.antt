use Rattle.std.proofs.Common.{◌∙◌, sym, subst}
use Rattle.ino_recs.specs.Chunks.{fino_form}
use Rattle.sblock.specs.Blocks.{IsRising}
use Rattle.quiet_check.proofs.FaultLemmas.{free_rise}
use Rattle.quiet_check.proofs.faults.inode_faults.Goals as goal

pub index_faults-requires-2-clause-derived : goal.index_faults-requires-2-clause-derived
index_faults-requires-2-clause-derived c = subst (IsRising fino_form) (sym (c.as_slice.ensures.value ∙ c.in_ok-with_free.ensures.value)) (free_rise c.args.recs.now c.requires.recs)
