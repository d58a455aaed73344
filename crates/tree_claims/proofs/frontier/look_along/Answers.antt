use Rattle.std.proofs.Common.{◌≡◌, ℕ, ◌+◌, sym, ◌∙◌, ap, arith}
use Rattle.std.specs.Prelude.{◌==◌}
use Rattle.run_sets.specs.Runs.{is_within}
use Rattle.tree_blocks.proofs.ReadingLemmas.{reads_on}
use Rattle.tree_claims.specs.Lists.{lists}
use Rattle.tree_claims.proofs.LookLemmas.{looked_on, looked_as}
use Rattle.tree_claims.proofs.RunLemmas.{is_between, one_between_more}
use Rattle.tree_claims.proofs.frontier.look_along.Goals as goal

pub loop-p-preserved : goal.loop-p-preserved
loop-p-preserved g c = record {
  exact = λ m e. looked_on g.K.RecKind.form c.args.site.now m c.args.level c.args.root (is_between c.args.run.now.start c.loop-p.p) (λ b. b == c.loop-p.p) (is_between c.args.run.now.start (c.loop-p.p + 1)) (lists c.args.claimed.now.items) (lists c.loop-p.claimed.items) (lists c.look_at.new.claimed.items) (lists c.args.next.now.items) (lists c.loop-p.next.items) (lists c.look_at.new.next.items) (c.loop-p.invariant.exact m e) (c.in_ok-look_at.ensures.exact m (c.loop-p.invariant.reading.same ∙ e)) (λ b. one_between_more c.args.run.now.start c.loop-p.p b (omega (arith, c.loop-p.auto.p)));
  claims_lie = λ h. c.in_ok-look_at.ensures.claims_lie (c.loop-p.invariant.claims_lie h);
  next_lies = λ h. c.in_ok-look_at.ensures.next_lies (c.loop-p.invariant.next_lies h);
  reading = reads_on g.B.Blocks g.met.B.Blocks.follows_trans c.args.blocks.now c.loop-p.blocks c.look_at.new.blocks c.loop-p.invariant.reading c.look_at.ensures.reading;
  calm = c.in_ok-look_at.ensures.cause ∙ c.loop-p.invariant.calm;
  each = omega (arith, c.loop-p.invariant.each, c.in_ok-look_at.ensures.one);
}

pub returns-clause-exact : goal.returns-clause-exact
returns-clause-exact g c = λ m e.
    let run = c.args.run.now in
    let all : c.loop-p.p ≡ run.start + run.count = omega (arith, c.loop-p-test.false, c.loop-p.auto.p-end) in
    looked_as g.K.RecKind.form c.args.site.now m c.args.level c.args.root (is_between run.start c.loop-p.p) (λ b. is_within b run) (lists c.args.claimed.now.items) (lists c.loop-p.claimed.items) (lists c.args.next.now.items) (lists c.loop-p.next.items) (c.loop-p.invariant.exact m e)
    (λ b. ap (λ (n : ℕ). is_between run.start n b) (sym all))
