use Rattle.std.proofs.Common.{◌≡◌, ◌+◌, ◌++◌, ◌∙◌, List, [], length, ap, subst, sym}
use Rattle.std.specs.Prelude.{Some, None, nat_lt, if◌then◌else◌}
use Rattle.group_trees.specs.Trees.{reading_of}
use Rattle.group_trees.specs.declared.reads.TreeSeen.{TreeSeen}
use Rattle.xref_scrub.specs.Differences.{piece}
use Rattle.core_units.specs.Compared.{from_next, tree_faults_from}
use Rattle.core_units.proofs.CompareLemmas.{part_bad, part_read}
use Rattle.core_units.proofs.compare.compare_tree.Goals as goal

pub returns-in_ok-faults-in-Whole : goal.returns-in_ok-faults-in-Whole
returns-in_ok-faults-in-Whole g c =
    let form = g.K.RecKind.form in
    let shown = g.K.Indexed.shown in
    let P : TreeSeen g.row.K-Rec.Denot → Type 0 = λ seen. tree_faults_from form shown c.args.derived.now (reading_of seen) c.args.from ≡ c.in_ok-faults-in-Whole.faults.items ++ from_next (tree_faults_from form shown c.args.derived.now (reading_of seen)) c.number_behind-next.result in
    let found = c.in_ok-faults-in-Whole.ensures ∙ ap (λ (rs : List g.row.K-Rec.Denot). piece form shown rs c.args.derived.now c.args.from) c.as_slice-recs.ensures.value in
    let behind = c.number_behind-next.ensures ∙ ap (λ (rs : List g.row.K-Rec.Denot). if nat_lt (c.args.from + 512) (length rs + length c.args.derived.now) then Some (c.args.from + 512) else None) c.as_slice-recs.ensures.value in
    subst P (sym c.in-Whole.is) (part_read form shown c.in-Whole.read.recs.items c.args.derived.now c.in-Whole.read.blocks.items c.args.from c.in_ok-faults-in-Whole.faults.items c.number_behind-next.result found behind)

pub returns-in_ok-faults-in-Bad : goal.returns-in_ok-faults-in-Bad
returns-in_ok-faults-in-Bad g c =
    let form = g.K.RecKind.form in
    let shown = g.K.Indexed.shown in
    let P : TreeSeen g.row.K-Rec.Denot → Type 0 = λ seen. tree_faults_from form shown c.args.derived.now (reading_of seen) c.args.from ≡ c.in_ok-faults-in-Bad.faults.items ++ [] in
    subst P (sym c.in-Bad.is) (part_bad form shown c.args.derived.now c.in-Bad.block c.in-Bad.fault c.in-Bad.claims.items c.args.from c.in_ok-faults-in-Bad.faults.items c.in_ok-faults-in-Bad.ensures)
