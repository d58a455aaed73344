use Rattle.std.proofs.Common.{Bool, ◌∙◌, sym, subst}
use Rattle.std.specs.Prelude.{OnOk}
use Rattle.live_hooks.specs.Heard.{Inode, owned_by}
use Rattle.live_hooks.specs.Meaning.{MovesOwned}
use Rattle.shadow_rmap.specs.Told.{KeepsOwn}
use Rattle.shadow_rmap.proofs.ToldLemmas.{told_given, told_taken, told_other}
use Rattle.shadow_rmap.proofs.listening.ShadowListener.delta.Goals as goal

pub returns-then-rec-group-clause-told : goal.returns-then-rec-group-clause-told
returns-then-rec-group-clause-told c =
    let v : Inode = record { ino = c.args._ino; uid = c.args._uid } in
    told_other c.args.self.now v c.args.rec.now (λ same. c.if-rec-group.true (same ∙ sym c.group.ensures)) c.args.add

pub returns-then-add-clause-told : goal.returns-then-add-clause-told
returns-then-add-clause-told c =
    let v : Inode = record { ino = c.args._ino; uid = c.args._uid } in
    let old = c.args.self.now in
    let new = c.add.new.self in
    subst (λ (b : Bool). OnOk c.add.result (MovesOwned (λ vs os. KeepsOwn old os) (λ vs os. KeepsOwn new os) b (owned_by v c.args.rec.now))) (sym c.if-add.true)
    (told_given old new c.add.ensures.group v c.args.rec.now (c.if-rec-group.false ∙ c.group.ensures) c.add.result c.add.ensures.kept)

pub returns-clause-told : goal.returns-clause-told
returns-clause-told c =
    let v : Inode = record { ino = c.args._ino; uid = c.args._uid } in
    let old = c.args.self.now in
    let new = c.remove.new.self in
    subst (λ (b : Bool). OnOk c.remove.result (MovesOwned (λ vs os. KeepsOwn old os) (λ vs os. KeepsOwn new os) b (owned_by v c.args.rec.now))) (sym c.if-add.false)
    (told_taken old new c.remove.ensures.group v c.args.rec.now (c.if-rec-group.false ∙ c.group.ensures) c.remove.result c.remove.ensures.kept)
