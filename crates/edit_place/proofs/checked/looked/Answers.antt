use Rattle.std.proofs.Common.{ℕ, List, subst}
use Rattle.std.specs.Prelude.{Option, IfSome}
use Rattle.std.proofs.lemmas.Result.{IfOk-weaker}
use Rattle.ag_headers.specs.Ring.{entries}
use Rattle.over_blocks.specs.declared.draft.Draft.{Draft}
use Rattle.edit_place.specs.Checked.{IsAlong, IsChecked}
use Rattle.edit_place.proofs.AlongLemmas.{along_is_checked}
use Rattle.edit_place.proofs.checked.looked.Goals as goal

pub returns-in-Some-clause-checked : goal.returns-in-Some-clause-checked
returns-in-Some-clause-checked g c = λ reads.
    let a = c.args in
    let form = g.K.RecKind.form in
    let told = g.B.Blocks.told a.blocks.now in
    along_is_checked form a.ask.now a.tree.now (entries a.list.now) c.in-Some.draft g.met.K.RecKind.lawful told
    (subst (λ (o : Option Draft). IfSome o (IsAlong form a.ask.now a.tree.now told (entries a.list.now))) c.in-Some.is c.in_ok-found.ensures.along) reads

pub returns-in-Some-clause-within : goal.returns-in-Some-clause-within
returns-in-Some-clause-within g c =
    let a = c.args in
    let form = g.K.RecKind.form in
    let told = g.B.Blocks.told a.blocks.now in
    let is : IsAlong form a.ask.now a.tree.now told (entries a.list.now) c.in-Some.draft = subst (λ (o : Option Draft). IfSome o (IsAlong form a.ask.now a.tree.now told (entries a.list.now))) c.in-Some.is c.in_ok-found.ensures.along in
    is.within

pub returns-in-None-clause-checked : goal.returns-in-None-clause-checked
returns-in-None-clause-checked g c =
    let a = c.args in
    let form = g.K.RecKind.form in
    IfOk-weaker c.compared.result _ _ (λ draft is reads. subst (λ (o : Option (ℕ → List ℕ)). IsChecked form a.ask.now a.tree.now o (entries a.list.now) draft) c.in_ok-found.ensures.reading.same is) c.compared.ensures.checked
