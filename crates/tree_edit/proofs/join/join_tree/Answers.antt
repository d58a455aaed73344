use Rattle.std.proofs.Common.{◌∙◌, ◌++◌, ℕ, List, ap, sym, subst}
use Rattle.join_blocks.specs.Joins.{count_of, placed_in, OnlyThese}
use Rattle.join_blocks.proofs.CountLemmas.{counts_joined}
use Rattle.tree_edit.proofs.join.join_tree.Goals as goal

pub returns-clause-count : goal.returns-clause-count
returns-clause-count g c =
    counts_joined c.args.first (placed_in c.args.placed.now ++ c.args.left.now) c.args.txn.now.blocks c.join_both.new.txn.blocks c.in_ok-join_both.ensures.count
    ∙ ap (count_of c.args.txn.now.blocks c.args.first) (sym c.requires.touched)

pub returns-clause-others : goal.returns-clause-others
returns-clause-others g c = subst (λ (bs : List ℕ). OnlyThese c.args.first bs c.args.txn.now.blocks c.join_both.new.txn.blocks) (sym c.requires.touched) c.join_both.ensures.others

pub returns-in_err-join_both-clause-others : goal.returns-in_err-join_both-clause-others
returns-in_err-join_both-clause-others g c = subst (λ (bs : List ℕ). OnlyThese c.args.first bs c.args.txn.now.blocks c.join_both.new.txn.blocks) (sym c.requires.touched) c.join_both.ensures.others
