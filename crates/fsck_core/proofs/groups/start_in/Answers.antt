use Rattle.std.proofs.Common.{refl, inl}
use Rattle.core_parts.proofs.common.EntryLemmas.{halt_more}
use Rattle.fsck_core.proofs.groups.start_in.Goals as goal

pub returns-in-Err-clause-says : goal.returns-in-Err-clause-says
returns-in-Err-clause-says g c = record {
  entries = halt_more c.args.parts.now.desk c.args.parts.now.desk c.args.g c.args.unit c.in-Err.fault refl c.in-Err.ensures.halts;
  comes = inl (record { fault = c.in-Err.fault; told = refl; why = inl c.in-Err.ensures.noted; aside = record { units = refl; groups = refl } });
}
