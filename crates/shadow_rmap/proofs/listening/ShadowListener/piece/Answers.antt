use Rattle.std.proofs.Common.{true, ◌∙◌, sym}
use Rattle.live_hooks.specs.Heard.{Inode}
use Rattle.shadow_rmap.proofs.ToldLemmas.{told_given, told_other}
use Rattle.shadow_rmap.proofs.listening.ShadowListener.piece.Goals as goal

pub returns-then-rec-group-clause-told : goal.returns-then-rec-group-clause-told
returns-then-rec-group-clause-told c =
    let v : Inode = record { ino = c.args._ino; uid = c.args._uid } in
    told_other c.args.self.now v c.args.rec.now (λ same. c.if-rec-group.true (same ∙ sym c.group.ensures)) true

pub returns-clause-told : goal.returns-clause-told
returns-clause-told c =
    let v : Inode = record { ino = c.args._ino; uid = c.args._uid } in
    told_given c.args.self.now c.add.new.self c.add.ensures.group v c.args.rec.now (c.if-rec-group.false ∙ c.group.ensures) c.add.result c.add.ensures.kept
