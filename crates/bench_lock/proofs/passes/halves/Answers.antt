use Rattle.std.proofs.Common.{◌≡◌, ◌+◌, ◌-◌, ◌<◌, ◌≤◌, sym, ap, ◌∙◌, subst, arith, length}
use Rattle.turn_lock.specs.Lists.{actors_of, below, above, from_up}
use Rattle.turn_lock.proofs.Actors.{actors_below, actors_above, actors_length}
use Rattle.bench_lock.proofs.passes.halves.Goals as goal

pub split-other-requires-clause-lower : goal.split-other-requires-clause-lower
split-other-requires-clause-lower c =
    let kept = c.args.pass.seat.me.0.kept in
    let l = c.args.lower in
    let u = c.args.upper in
    let n = actors_length (below (c.args.first + l) kept) c.args.first l (actors_below kept c.args.first (l + u) l c.requires.speaks (omega arith)) in
    let p = c.requires.sizes.0 in omega (arith, n, p)

pub split-other-requires-clause-upper : goal.split-other-requires-clause-upper
split-other-requires-clause-upper c =
    let kept = c.args.pass.seat.me.0.kept in
    let l = c.args.lower in
    let u = c.args.upper in
    let n = actors_length (above (c.args.first + l) kept) (c.args.first + l) ((l + u) - l) (actors_above kept c.args.first (l + u) l c.requires.speaks (omega arith)) in
    let p = c.requires.sizes.1 in omega (arith, n, p)

pub returns-clause-lower : goal.returns-clause-lower
returns-clause-lower c =
    let kept = c.args.pass.seat.me.0.kept in
    let l = c.args.lower in
    ap (λ v. actors_of v.kept) c.split-other.ensures.stays ∙ actors_below kept c.args.first (l + c.args.upper) l c.requires.speaks (omega arith)

pub returns-clause-upper : goal.returns-clause-upper
returns-clause-upper c =
    let kept = c.args.pass.seat.me.0.kept in
    let l = c.args.lower in
    let u = c.args.upper in
    let n = (let n : (l + u) - l ≡ u = omega arith in n) in
    ap (λ v. actors_of v.kept) c.split-other.ensures.goes ∙ (actors_above kept c.args.first (l + u) l c.requires.speaks (omega arith) ∙ ap (λ k. from_up (c.args.first + l) k) n)
