use Rattle.std.proofs.Common.{List, sym, subst}
use Rattle.rmap_recs.specs.declared.records.RmapRec.{RmapRec}
use Rattle.run_edits.specs.Edits.{is_before}
use Rattle.sblock.specs.Lists.{Rises}
use Rattle.unit_plan.proofs.claims.ClaimSet.into_mappings.Goals as goal

pub returns-clause-rising : goal.returns-clause-rising
returns-clause-rising c = subst (λ (rs : List RmapRec). Rises is_before rs) (sym c.in_ok-records.ensures) c.into_runs.ensures.rising
