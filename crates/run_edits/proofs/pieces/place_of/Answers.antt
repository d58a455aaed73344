use Rattle.std.proofs.Common.{rules, of_calls, arith}
use Rattle.std.proofs.lemmas.Fn.{always_returns_same}
use Rattle.run_edits.specs.Edits.{is_before}
use Rattle.run_edits.proofs.PieceLemmas.{parted}
use Rattle.run_edits.proofs.pieces.place_of.Goals as goal

pub returns-clause-before : goal.returns-clause-before
returns-clause-before c =
    let point = c.partition_point.ensures.partitioned (λ u. is_before u c.args.next.now) (always_returns_same _ _ _ (λ a r f k. search (rules, of_calls))) (parted c.args.pieces.now c.args.next.now c.requires) in
    λ k d below. point.0 k d (omega arith) below

pub returns-clause-others : goal.returns-clause-others
returns-clause-others c =
    let point = c.partition_point.ensures.partitioned (λ u. is_before u c.args.next.now) (always_returns_same _ _ _ (λ a r f k. search (rules, of_calls))) (parted c.args.pieces.now c.args.next.now c.requires) in
    λ k d from within. point.1 k d from within
