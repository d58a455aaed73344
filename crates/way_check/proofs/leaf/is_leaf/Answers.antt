use Rattle.std.proofs.Common.{◌∙◌}
use Rattle.way_check.proofs.LeafLemmas.{has_edit}
use Rattle.way_check.proofs.leaf.is_leaf.Goals as goal

pub returns : goal.returns
returns g c = λ yes.
    let a = c.args in
    has_edit g.K.RecKind.form g.met.K.RecKind.lawful a.ask.now.rec a.old.now.bytes c.requires.rising c.place_in-at.result c.place_in-at.ensures.within (c.is_front.ensures c.if-not-is_front.false) a.ask.now.how a.new.now.bytes (c.is_back.ensures c.if-not-is_back.false) (c.is_here.ensures c.if-not-is_here.false) (c.is_many.ensures c.if-not-is_many.false) (c.has_records.ensures yes)
