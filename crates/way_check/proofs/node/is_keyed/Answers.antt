use Rattle.std.proofs.Common.{◌≡◌, true, Option, sym, subst, ◌∙◌}
use Rattle.sblock.specs.Area.{area_of}
use Rattle.sblock.specs.declared.spans.Span.{Span}
use Rattle.tree_defs.specs.Tree.{agrees, entry_at}
use Rattle.way_check.proofs.node.is_keyed.Goals as goal

pub returns-in-Some : goal.returns-in-Some
returns-in-Some g c = λ yes.
    let form = g.K.RecKind.form in
    subst (λ (s : Option (Span g.row.K-Key.Denot)). agrees form (entry_at form (area_of c.args.node.now.bytes) c.args.at) s ≡ true) (sym (c.span_of_block.ensures c.in-Some.span c.in-Some.is)) (sym c.has_keys.ensures ∙ yes)
