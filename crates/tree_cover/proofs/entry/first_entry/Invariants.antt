use Rattle.std.proofs.Common.{◌≡◌, ◌-◌}
use Rattle.sblock.specs.Lists.{items_from}
use Rattle.tree_defs.specs.Tree.{entry_at}
use Rattle.tree_cover.specs.Covering.{first_in, choice_in}
use Rattle.tree_cover.proofs.entry.first_entry.Given as goal

abbrev pub invariant-loop-i : goal.invariant-loop-i
invariant-loop-i g l = record {
  first : first_in g.K.RecKind.form l.asked.run l.asked.after (items_from (entry_at g.K.RecKind.form l.area) (l.n - l.from) l.from) ≡ first_in g.K.RecKind.form l.asked.run l.asked.after (items_from (entry_at g.K.RecKind.form l.area) (l.n - l.i) l.i);
  choice : choice_in g.K.RecKind.form l.asked.run l.asked.after (items_from (entry_at g.K.RecKind.form l.area) (l.n - l.from) l.from) ≡ choice_in g.K.RecKind.form l.asked.run l.asked.after (items_from (entry_at g.K.RecKind.form l.area) (l.n - l.i) l.i);
}
