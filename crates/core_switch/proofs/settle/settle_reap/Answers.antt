use Rattle.std.specs.Prelude.{◌∷◌, []}
use Rattle.core_parts.proofs.common.EntryLemmas.{more_on}
use Rattle.core_parts.specs.Common.Marks.{marks_of}
use Rattle.core_switch.proofs.settle.settle_reap.Goals as goal
use Rattle.core_switch.specs.Says.{run_in}
use Rattle.fs_model.specs.declared.entry.Entry.TheVariants as entries

pub returns-clause-reaped : goal.returns-clause-reaped
returns-clause-reaped g c = record {
  left = c.args.left;
  entries =
      more_on c.args.desk.now c.add_entry.new.desk c.mark_all.new.desk (entries.Reaped (run_in c.args.group c.args.run.now) ∷ []) (marks_of c.args.group c.args.left)
      c.add_entry.ensures.added.items c.mark_all.ensures.more;
  trust = c.mark_all.ensures.trust;
}
