use Rattle.ag_headers.specs.Ring.{entries}
use Rattle.edit_place.proofs.AlongLemmas.{along_all}
use Rattle.edit_place.proofs.checked.along.Goals as goal

pub returns-clause-along : goal.returns-clause-along
returns-clause-along g c =
    let a = c.args in
    let draft = c.in_ok-draft.draft in
    let told = g.B.Blocks.told in
    along_all g.K.RecKind.form a.ask.now a.tree.now (entries a.list.now) draft (told a.blocks.now) (told c.apply.new.blocks) c.deref.result.now c.in_ok-draft.ensures.reading.same c.deref.ensures.value
    (c.in_ok-made.ensures.made c.if-not-made.false) (c.are_stamped.ensures c.if-not-are_stamped.false) (record { few = c.in_ok-draft.ensures.taken; inside = c.in_ok-draft.ensures.inside })
