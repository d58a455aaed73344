use Rattle.std.proofs.Common.{sym, ◌∙◌}
use Rattle.rmap_recs.proofs.ChainLemmas.{block_on, room_behind}
use Rattle.rmap_recs.proofs.SearchLemmas.{from_has, follower_there, follower_missing, no_follower_at_all}
use Rattle.rmap_recs.proofs.tuples.follower.Goals as goal

pub returns-in_err-behind-clause-value : goal.returns-in_err-behind-clause-value
returns-in_err-behind-clause-value c =
    let none = no_follower_at_all c.args.tuples.now c.args.tuple.now (λ v goes. let no = c.in_err-behind.ensures.only v goes in cc) in
    cc

pub returns-then-is_among-clause-value : goal.returns-then-is_among-clause-value
returns-then-is_among-clause-value c =
    sym (follower_there c.args.tuples.now c.args.tuple.now c.in_ok-behind.behind (sym c.is_among.ensures ∙ c.if-is_among.true) c.in_ok-behind.ensures.behind c.in_ok-behind.ensures.only)

pub returns-then-is_among-clause-next : goal.returns-then-is_among-clause-next
returns-then-is_among-clause-next c =
    (block_on c.args.tuple.now c.in_ok-behind.behind c.in_ok-behind.ensures.behind, room_behind c.args.tuples.now c.requires.blocks c.in_ok-behind.behind (from_has c.args.tuples.now c.in_ok-behind.behind (sym c.is_among.ensures ∙ c.if-is_among.true)))

pub returns-clause-value : goal.returns-clause-value
returns-clause-value c =
    sym (follower_missing c.args.tuples.now c.args.tuple.now c.in_ok-behind.behind (sym c.is_among.ensures ∙ c.if-is_among.false) c.in_ok-behind.ensures.only)
