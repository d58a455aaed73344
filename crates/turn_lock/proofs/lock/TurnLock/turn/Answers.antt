use Rattle.std.proofs.Common.{ap}
use Rattle.turn_lock.proofs.Chain.{agreed, told_before, extends_now, told_after, idle_after, begun_after, turned, distinct_after, within_after}
use Rattle.turn_lock.proofs.lock.TurnLock.turn.Goals as goal

pub call-answer-requires : goal.call-answer-requires
call-answer-requires g c = let j = g.T.Recorded.journal in let o = g.T.Recorded.origin in let k = g.T.Recorded.kept in
    c.requires.safe c.take-value.result (agreed j o k _ _ _ _ _ c.draw-ticket.ensures.drew c.wait.ensures.takes c.take-value.ensures.took.0)

pub publish-requires-clause-out : goal.publish-requires-clause-out
publish-requires-clause-out g c = let j = g.T.Recorded.journal in let o = g.T.Recorded.origin in let k = g.T.Recorded.kept in
    let x = c.take-value.result in let y = c.call-answer.new.value in
    let drew = c.draw-ticket.ensures.drew in let takes = c.wait.ensures.takes in let took = c.take-value.ensures.took in
    let m0 = c.args.pass.now.seat.me in let m1 = c.draw-ticket.new.seat.me in let m2 = c.wait.new.seat.me in let m3 = c.take-value.new.seat.me in
    let extends = c.requires.lawful x y c.call-answer.result (agreed j o k _ m0 m1 m2 x drew takes took.0) c.call-answer.ensures in
    (x, told_before j o k _ m0 m1 m2 x drew takes took.0 y m3 took.1, extends_now j o k _ m0 m1 m2 x drew takes took.0 y m3 took.1 extends)

pub serve-requires-clause-out : goal.serve-requires-clause-out
serve-requires-clause-out g c = let j = g.T.Recorded.journal in let o = g.T.Recorded.origin in let k = g.T.Recorded.kept in
    let x = c.take-value.result in let y = c.call-answer.new.value in
    let drew = c.draw-ticket.ensures.drew in let takes = c.wait.ensures.takes in let took = c.take-value.ensures.took in
    let m0 = c.args.pass.now.seat.me in let m1 = c.draw-ticket.new.seat.me in let m2 = c.wait.new.seat.me in let m3 = c.take-value.new.seat.me in
    let m4 = c.publish.new.seat.me in let m5 = c.give.new.seat.me in
    (y, ap (λ m. m.1) c.give.ensures.gave, told_after j o k _ m0 m1 m2 x drew takes took.0 y m3 took.1 m4 m5 m5 c.publish.ensures.published c.give.ensures.gave)

pub invariant_of-pass : goal.invariant_of-pass
invariant_of-pass g c = let j = g.T.Recorded.journal in let o = g.T.Recorded.origin in let k = g.T.Recorded.kept in
    let x = c.take-value.result in let y = c.call-answer.new.value in
    let drew = c.draw-ticket.ensures.drew in let takes = c.wait.ensures.takes in let took = c.take-value.ensures.took in
    let m0 = c.args.pass.now.seat.me in let m1 = c.draw-ticket.new.seat.me in let m2 = c.wait.new.seat.me in let m3 = c.take-value.new.seat.me in
    let m4 = c.publish.new.seat.me in let m5 = c.give.new.seat.me in let m6 = c.serve.new.seat.me in
    let told = c.publish.ensures.published in let gave = c.give.ensures.gave in let served = c.serve.ensures.served in
    let extends = c.requires.lawful x y c.call-answer.result (agreed j o k _ m0 m1 m2 x drew takes took.0) c.call-answer.ensures in
    let p = c.args.pass.now in record {
      idle = idle_after j o k _ m0 m1 m2 x drew takes took.0 y m3 took.1 m4 m5 m6 told gave served p.idle;
      begun = begun_after j o k _ m0 m1 m2 x drew takes took.0 y m3 took.1 m4 m5 m6 told gave served p.begun;
      distinct = distinct_after j o k _ m0 m1 m2 x drew takes took.0 y m3 took.1 m4 m5 m6 told gave served extends p.distinct p.within;
      within = within_after j o k _ m0 m1 m2 x drew takes took.0 y m3 took.1 m4 m5 m6 told gave served extends p.distinct p.within;
    }

pub returns-clause-turned : goal.returns-clause-turned
returns-clause-turned g c = let j = g.T.Recorded.journal in let o = g.T.Recorded.origin in let k = g.T.Recorded.kept in
    let x = c.take-value.result in let y = c.call-answer.new.value in
    let drew = c.draw-ticket.ensures.drew in let takes = c.wait.ensures.takes in let took = c.take-value.ensures.took in
    let m0 = c.args.pass.now.seat.me in let m1 = c.draw-ticket.new.seat.me in let m2 = c.wait.new.seat.me in let m3 = c.take-value.new.seat.me in
    let m4 = c.publish.new.seat.me in let m5 = c.give.new.seat.me in let m6 = c.serve.new.seat.me in
    let told = c.publish.ensures.published in let gave = c.give.ensures.gave in let served = c.serve.ensures.served in
    let extends = c.requires.lawful x y c.call-answer.result (agreed j o k _ m0 m1 m2 x drew takes took.0) c.call-answer.ensures in
    let p = c.args.pass.now in
    (x, y, c.call-answer.ensures, turned j o k _ m0 m1 m2 x drew takes took.0 y m3 took.1 m4 m5 m6 told gave served extends p.distinct p.within)
