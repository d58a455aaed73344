use Rattle.std.proofs.Common.{ap, ◌∙◌}
use Rattle.sblock.specs.Kinds.{magic_of}
use Rattle.tree_walk.proofs.WalkLemmas.{by_level, by_other_magic, root_counted, levels_counted}
use Rattle.tree_walk.proofs.walker.refuse_levels.Goals as goal

pub returns-then-get_u32-magic-clause-exact : goal.returns-then-get_u32-magic-clause-exact
returns-then-get_u32-magic-clause-exact g c = λ m e.
    by_level g.K.RecKind.form c.args.site.now m c.args.root c.in-Ok.block.bytes c.magic.result (c.in-Ok.ensures.told m e) (c.magic.ensures ∙ ap magic_of c.kind.ensures) (rw (c.get_u32.ensures) at c.if-get_u32-magic.true)

pub returns-else-get_u32-magic-clause-exact : goal.returns-else-get_u32-magic-clause-exact
returns-else-get_u32-magic-clause-exact g c = λ m e.
    by_other_magic g.K.RecKind.form c.args.site.now m c.args.root c.in-Ok.block.bytes c.magic.result (c.in-Ok.ensures.told m e) (c.magic.ensures ∙ ap magic_of c.kind.ensures) (rw (c.get_u32.ensures) at c.if-get_u32-magic.false)

pub returns-in-Err-clause-counted : goal.returns-in-Err-clause-counted
returns-in-Err-clause-counted g c = λ m e. levels_counted g.K.RecKind.form c.args.site.now m c.args.root c.in-Err.fault (g.B.Blocks.count c.args.blocks.now) (g.B.Blocks.count c.load.new.self) c.in-Err.ensures.one

pub returns-then-get_u32-magic-clause-counted : goal.returns-then-get_u32-magic-clause-counted
returns-then-get_u32-magic-clause-counted g c = λ m e. rw (root_counted g.K.RecKind.form c.args.site.now m c.args.root) c.in-Ok.ensures.one

pub returns-else-get_u32-magic-clause-counted : goal.returns-else-get_u32-magic-clause-counted
returns-else-get_u32-magic-clause-counted g c = λ m e. rw (root_counted g.K.RecKind.form c.args.site.now m c.args.root) c.in-Ok.ensures.one
