use Rattle.std.proofs.Common.{◌∙◌, ◌++◌, ◌∷◌, [], List, ap, map}
use Rattle.fs_model.specs.declared.entry.Entry.{Entry}
use Rattle.fs_model.specs.declared.entry.Entry.TheVariants as entries
use Rattle.fs_model.specs.declared.verdict.Verdict.{Verdict}
use Rattle.space_check.specs.Groups.{unit_entries}
use Rattle.space_check.proofs.journal.unit_entries_of.Goals as goal

pub returns : goal.returns
unfolding unit_entries
returns c =
    c.in_ok-push.ensures.items
    ∙ (ap (λ (es : List Entry). es ++ entries.Verdict c.args.group c.args.unit c.verdict_of-verdict.result ∷ []) c.in_ok-entries.ensures
    ∙ ap (λ (v : Verdict). map (entries.Fault c.args.group c.args.unit) c.args.faults.now ++ entries.Verdict c.args.group c.args.unit v ∷ []) c.verdict_of-verdict.ensures)
