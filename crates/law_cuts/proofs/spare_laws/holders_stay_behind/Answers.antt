use Rattle.law_cuts.proofs.Spare.Held.{chunk_holds, converted_holds, mapped_holds, others_hold, shared_holds, unmapped_holds}
use Rattle.law_cuts.proofs.spare_laws.holders_stay_behind.Goals as goal

pub returns-clause-mapped : goal.returns-clause-mapped
returns-clause-mapped c = mapped_holds

pub returns-clause-unmapped : goal.returns-clause-unmapped
returns-clause-unmapped c = unmapped_holds

pub returns-clause-converted : goal.returns-clause-converted
returns-clause-converted c = converted_holds

pub returns-clause-shared : goal.returns-clause-shared
returns-clause-shared c = shared_holds

pub returns-clause-others : goal.returns-clause-others
returns-clause-others c = others_hold

pub returns-clause-chunk : goal.returns-clause-chunk
returns-clause-chunk c = chunk_holds
