use Rattle.std.proofs.Common.{ap, ◌∙◌}
use lib.ListN.{get_elem?}
use Rattle.turn_lock.proofs.Steps.{all_served, has_no_more, is_as_known, lies_there}
use Rattle.turn_lock.proofs.Positions.{entries_stay}
use Rattle.turn_lock.proofs.lock.TurnLock.close.Goals as goal

pub returns-in_default-clause-always : goal.returns-in_default-clause-always
returns-in_default-clause-always g c all =
    let j = g.T.Recorded.journal in let o = g.T.Recorded.origin in let k = g.T.Recorded.kept in
    let f = c.close_with-closed.ensures.values.2 in
    let zeroth = ap (λ ws. get_elem? ws 0) f.2 ∙ c.word.ensures in
    let first = ap (λ ws. get_elem? ws 1) f.2 ∙ c.word-2.ensures in
    let same = all_served j o k _ _ _ f.0 _ _ f.1.0 f.1.1 c.args.pass.idle.0 all zeroth first in
    absurd (c.in_default.not-Some f.1.0.current (lies_there j o k _ _ _ f.0 _ _ f.1.0 f.1.1 zeroth first _ f.4 _ c.take-home.ensures.value same))

pub returns-then-not-all_served-clause-always : goal.returns-then-not-all_served-clause-always
returns-then-not-all_served-clause-always g c all =
    let f = c.close_with-closed.ensures.values.2 in
    let zeroth = ap (λ ws. get_elem? ws 0) f.2 ∙ c.word.ensures in
    let first = ap (λ ws. get_elem? ws 1) f.2 ∙ c.word-2.ensures in
    absurd (c.if-not-all_served.true (all_served g.T.Recorded.journal g.T.Recorded.origin g.T.Recorded.kept _ _ _ f.0 _ _ f.1.0 f.1.1 c.args.pass.idle.0 all zeroth first))

pub returns-clause-value : goal.returns-clause-value
returns-clause-value g c =
    let f = c.close_with-closed.ensures.values.2 in
    let zeroth = ap (λ ws. get_elem? ws 0) f.2 ∙ c.word.ensures in
    let first = ap (λ ws. get_elem? ws 1) f.2 ∙ c.word-2.ensures in
    let j = g.T.Recorded.journal in let o = g.T.Recorded.origin in let k = g.T.Recorded.kept in
    let v = c.args.pass.seat.me.0 in
    let a = is_as_known j o k _ _ _ f.0 _ _ f.1.0 f.1.1 zeroth first _ f.4 _ c.take-home.ensures.value c.if-not-all_served.false c.in-Some.value c.in-Some.is in record {
      agrees = a;
      whole = has_no_more j o k _ _ _ f.0 _ _ f.1.0 f.1.1 zeroth first _ f.4 _ c.take-home.ensures.value c.if-not-all_served.false c.in-Some.value c.in-Some.is;
      entries = entries_stay v.seen (j c.in-Some.value) v.own a.seen c.args.pass.within;
    }
