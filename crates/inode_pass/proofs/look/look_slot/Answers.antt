use Rattle.std.proofs.Common.{◌∙◌, ◌++◌, ◌∷◌, [], ap, sym, subst, refl, false}
use Rattle.geom.specs.Places.{layout}
use Rattle.inode_pass.specs.Noting.{IsNoted}
use Rattle.inode_pass.proofs.CoreLemmas.{look_bad}
use Rattle.inode_pass.proofs.NoteLemmas.{slot_bad}
use Rattle.inode_pass.proofs.look.look_slot.Goals as goal

pub returns-in-Some-clause-looked : goal.returns-in-Some-clause-looked
returns-in-Some-clause-looked c =
    let said = look_bad (layout c.args.geo.now) c.args.block.now.bytes c.slot_of-own.result.now c.args.place c.inode_number.result c.in-Some.fault c.slot_of-own.ensures.bytes c.inode_number.ensures c.in-Some.ensures in
    c.in_ok-push.ensures.items ∙ ap (λ look. c.args.looks.now.items ++ look ∷ []) (sym said)

pub returns-in-Some-clause-noted : goal.returns-in-Some-clause-noted
returns-in-Some-clause-noted c = λ so.
    let said = slot_bad (layout c.args.geo.now) c.args.block.now.bytes c.slot_of-own.result.now c.args.place c.inode_number.result c.in-Some.fault c.slot_of-own.ensures.bytes c.inode_number.ensures c.in-Some.ensures in
    subst (λ o. IsNoted c.args.notes.now.items c.args.notes.now.items o false) (sym said) (refl, refl)
