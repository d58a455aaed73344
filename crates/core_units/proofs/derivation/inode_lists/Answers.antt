use Rattle.std.proofs.Common.{◌<◌, ◌^◌, ◌∙◌, List, ap, subst, sym}
use Rattle.std.specs.List.{sum_by}
use Rattle.std.specs.Prelude.{filter, nat_lt}
use Rattle.ino_recs.specs.Chunks.{ino_form}
use Rattle.ino_recs.specs.declared.chunk.InoRec.{InoRec}
use Rattle.sblock.specs.Blocks.{IsRising}
use Rattle.core_units.proofs.FitLemmas.{inodes_derived}
use Rattle.core_units.proofs.derivation.inode_lists.Goals as goal

pub returns-clause-derived : goal.returns-clause-derived
returns-clause-derived c =
    let free = c.in_ok-fino.ensures.value ∙ ap (filter (λ (r : InoRec). nat_lt 0 r.freecount)) c.as_slice.ensures.value in
    inodes_derived c.in_ok-ino.ino c.in_ok-fino.fino (subst (IsRising ino_form) (sym c.in_ok-ino.ensures.value) c.requires.rising) free
    (subst (λ (l : List InoRec). sum_by (λ r. r.count) l < 2 ^ 32) c.as_slice-2.ensures.value (c.do_totals_fit.ensures.count c.if-not-do_totals_fit.false))
    (subst (λ (l : List InoRec). sum_by (λ r. r.freecount) l < 2 ^ 32) c.as_slice-2.ensures.value (c.do_totals_fit.ensures.free c.if-not-do_totals_fit.false))
