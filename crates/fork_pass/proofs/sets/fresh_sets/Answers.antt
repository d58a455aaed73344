use Rattle.std.proofs.Common.{◌≡◌, subst, arith}
use Rattle.fork_pass.specs.Sets.{AreFresh}
use Rattle.fork_pass.proofs.SetLemmas.{fresh_more, fresh_none}
use Rattle.fork_pass.proofs.sets.fresh_sets.Goals as goal

pub loop-i-init : goal.loop-i-init
loop-i-init c = fresh_none c.new-sets.result.items c.new-sets.ensures.items

pub loop-i-preserved : goal.loop-i-preserved
loop-i-preserved c = fresh_more c.loop-i.i c.loop-i.sets.items c.push.new.self.items c.new-set.result c.loop-i.invariant c.in_ok-push.ensures.items c.new-set.ensures

pub returns-clause-fresh : goal.returns-clause-fresh
returns-clause-fresh c =
    let all : c.loop-i.i ≡ c.args.groups = omega (arith, c.loop-i-test.false, c.loop-i.auto.i-end) in
    subst (λ n. AreFresh n c.loop-i.sets.items) all c.loop-i.invariant
