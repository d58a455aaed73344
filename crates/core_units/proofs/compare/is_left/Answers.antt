use Rattle.std.proofs.Common.{◌≡◌, ◌+◌, ◌≤◌, List, [], length, subst, sym}
use Rattle.group_trees.specs.Trees.{reading_of}
use Rattle.group_trees.specs.declared.reads.TreeSeen.{TreeSeen}
use Rattle.core_units.specs.Compared.{tree_faults_from}
use Rattle.core_units.proofs.CompareLemmas.{none_behind}
use Rattle.core_units.proofs.compare.is_left.Goals as goal

pub returns-in-Whole : goal.returns-in-Whole
returns-in-Whole g c = λ no.
    let form = g.K.RecKind.form in
    let shown = g.K.Indexed.shown in
    let P : TreeSeen g.row.K-Rec.Denot → Type 0 = λ seen. tree_faults_from form shown c.args.derived.now (reading_of seen) c.args.from ≡ [] in
    let past = subst (λ (rs : List g.row.K-Rec.Denot). length rs + length c.args.derived.now ≤ c.args.from) c.as_slice-recs.ensures.value (c.is_some_left.ensures no) in
    subst P (sym c.in-Whole.is) (none_behind form shown c.in-Whole.read.recs.items c.args.derived.now c.in-Whole.read.blocks.items c.args.from past)
