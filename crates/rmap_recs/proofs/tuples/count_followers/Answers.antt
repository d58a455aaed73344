use Rattle.std.proofs.Common.{◌≡◌, ◌-◌, ◌^◌, find, None, sym, arith}
use Rattle.rmap_recs.specs.Runs.{goes_on}
use Rattle.rmap_recs.proofs.ChainLemmas.{more_followers, no_follower}
use Rattle.rmap_recs.proofs.tuples.count_followers.Goals as goal

pub loop-next-preserved : goal.loop-next-preserved
loop-next-preserved c =
    let next = c.in-Some.ensures.next in
    let inv = c.loop-next.invariant in
    let more = more_followers c.args.tuples.now c.loop-next.last c.in-Some.next inv.room next.0 (sym c.in-Some.ensures.value) in
    record { place = omega (arith, next.0, inv.place); room = next.1; rest = omega (arith, more, inv.rest) }

pub returns-clause-count : goal.returns-clause-count
returns-clause-count c =
    let none : find (goes_on c.loop-next.last) c.args.tuples.now ≡ None = cc (c.in_default.ensures.value) in
    omega (arith, c.loop-next.invariant.rest, no_follower (2 ^ 32 - c.loop-next.last.block) c.args.tuples.now c.loop-next.last none)
