use Rattle.std.proofs.Common.{◌∙◌, ap}
use Rattle.std.specs.Prelude.{◌∷◌, []}
use Rattle.core_build.proofs.block_notes.note_block.Goals as goal
use Rattle.core_parts.proofs.common.EntryLemmas.{more_on}
use Rattle.core_parts.specs.Common.Marks.{marks_of, sick_by}
use Rattle.core_parts.specs.declared.groups.Trusts.{Trusts}
use Rattle.fs_model.specs.declared.entry.Entry.TheVariants as entries

pub returns-clause-more : goal.returns-clause-more
returns-clause-more g c =
    more_on c.args.desk.now c.note_reserved.new.desk c.mark_all.new.desk (entries.Reserved c.args.place.now.group c.args.place.now.unit c.args.taken.now.block c.args.taken.now.is_spare ∷ []) (marks_of c.args.place.now.group c.args.taken.now.left)
    c.note_reserved.ensures.more c.mark_all.ensures.more

pub returns-clause-trust : goal.returns-clause-trust
returns-clause-trust g c = c.mark_all.ensures.trust ∙ ap (λ (t : Trusts). sick_by c.args.taken.now.left t) c.keep_edited.ensures.trust
