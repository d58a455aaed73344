use Rattle.std.proofs.Common.{◌≡◌, ◌+◌, ◌-◌, ◌≤◌, ℕ, refl, ◌∙◌, ap, arith}
use Rattle.std.specs.Prelude.{◌==◌}
use Rattle.std.proofs.lemmas.Result.{IfOk-weaker}
use Rattle.run_sets.specs.Runs.{most}
use Rattle.run_sets.specs.Sets.{has}
use Rattle.tree_defs.specs.Claims.{IsClaimed, IsReached}
use Rattle.tree_defs.specs.Tree.{top_of}
use Rattle.tree_blocks.proofs.ReadingLemmas.{reads_none, reads_on}
use Rattle.tree_claims.specs.Lists.{lists}
use Rattle.tree_claims.proofs.ListLemmas.{lists_nothing, lists_low, set_lists, pass_as, lie_as, ok_holds}
use Rattle.tree_claims.proofs.ClaimLemmas.{deep, deep_most, top_most, root_lies, none_lies, root_reached, none_named, next_reached, next_named, all_claimed, level_read, levels_read}
use Rattle.tree_claims.proofs.RowLemmas.{none_read, one_row_read, all_rows_read}
use Rattle.run_sets.proofs.SetLemmas.{maximal_of}
use Rattle.tree_claims.proofs.claims.claimed_from.Goals as goal

pub returns-in_err-next-clause-few : goal.returns-in_err-next-clause-few
returns-in_err-next-clause-few g c =
    let len = c.args.site.now.bounds.length in
    let most : c.levels_below-depth-end.result ≤ 9 = rw (c.levels_below-depth-end.ensures.exact, c.top_level-top.ensures) (deep_most (top_of c.args.levels) (top_most c.args.levels)) in
    let here = level_read (g.B.Blocks.count c.args.blocks.now) (g.B.Blocks.count c.loop-depth.blocks) (g.B.Blocks.count c.look_level.new.blocks) c.loop-depth.depth len c.loop-depth.invariant.few c.look_level.ensures.few in
    levels_read (g.B.Blocks.count c.args.blocks.now) (g.B.Blocks.count c.look_level.new.blocks) (c.loop-depth.depth + 1) len (omega (arith, c.loop-depth-test.true, most)) here

pub returns-in_err-frontier-2-clause-few : goal.returns-in_err-frontier-2-clause-few
returns-in_err-frontier-2-clause-few g c =
    let len = c.args.site.now.bounds.length in
    let most : c.levels_below-depth-end.result ≤ 9 = rw (c.levels_below-depth-end.ensures.exact, c.top_level-top.ensures) (deep_most (top_of c.args.levels) (top_most c.args.levels)) in
    let here = level_read (g.B.Blocks.count c.args.blocks.now) (g.B.Blocks.count c.loop-depth.blocks) (g.B.Blocks.count c.look_level.new.blocks) c.loop-depth.depth len c.loop-depth.invariant.few c.look_level.ensures.few in
    levels_read (g.B.Blocks.count c.args.blocks.now) (g.B.Blocks.count c.look_level.new.blocks) (c.loop-depth.depth + 1) len (omega (arith, c.loop-depth-test.true, most)) here

pub loop-depth-init : goal.loop-depth-init
loop-depth-init g c =
    let form = g.K.RecKind.form in
    let len = c.args.site.now.bounds.length in
    record {
      reached = λ m e. root_reached form c.args.site.now m c.args.root c.args.levels (has c.in_ok-frontier.frontier) c.in_ok-frontier.ensures.exact;
      named = λ m e. none_named form c.args.site.now m c.args.root c.args.levels (lists c.new-claimed.result.items) (lists_nothing c.new-claimed.result.items c.new-claimed.ensures.items);
      frontier_lies = root_lies len c.args.root (has c.in_ok-frontier.frontier) c.requires.inside c.in_ok-frontier.ensures.exact;
      claims_lie = none_lies len (lists c.new-claimed.result.items) (lists_nothing c.new-claimed.result.items c.new-claimed.ensures.items);
      reading = reads_none g.B.Blocks g.met.B.Blocks.follows_refl c.args.blocks.now;
      calm = refl;
      each = λ m e. none_read form c.args.site.now m c.args.root c.args.levels (g.B.Blocks.count c.args.blocks.now);
      few = omega arith;
    }

pub loop-depth-preserved : goal.loop-depth-preserved
loop-depth-preserved g c =
    let form = g.K.RecKind.form in
    let depth = c.loop-depth.depth in
    let level = c.top_level-top.result - depth in
    let is_level : level ≡ top_of c.args.levels - depth = ap (λ (n : ℕ). n - depth) c.top_level-top.ensures in
    let next = c.in_ok-next.next.items in
    let same = set_lists (has c.in_ok-frontier-2.frontier) next c.deref.result.now c.deref.ensures.value c.in_ok-frontier-2.ensures.exact in
    record {
      reached = λ m e. pass_as (lists next) (has c.in_ok-frontier-2.frontier) (IsReached form c.args.site.now m c.args.root c.args.levels (depth + 1)) same
          (next_reached form c.args.site.now m c.args.root c.args.levels depth level (depth == 0) is_level refl (has c.loop-depth.frontier) (lists c.loop-depth.claimed.items) (lists c.look_level.new.claimed.items) (lists c.in_ok-next.next.items) (c.in_ok-next.ensures.exact m (c.loop-depth.invariant.reading.same ∙ e)) (c.loop-depth.invariant.reached m e));
      named = λ m e. next_named form c.args.site.now m c.args.root c.args.levels depth level (depth == 0) is_level refl (has c.loop-depth.frontier) (lists c.loop-depth.claimed.items) (lists c.look_level.new.claimed.items) (lists c.in_ok-next.next.items) (c.in_ok-next.ensures.exact m (c.loop-depth.invariant.reading.same ∙ e)) (c.loop-depth.invariant.reached m e) (c.loop-depth.invariant.named m e);
      frontier_lies = lie_as c.args.site.now.bounds.length (lists next) (has c.in_ok-frontier-2.frontier) same c.in_ok-next.ensures.next_lies;
      claims_lie = c.in_ok-next.ensures.claims_lie c.loop-depth.invariant.claims_lie;
      reading = reads_on g.B.Blocks g.met.B.Blocks.follows_trans c.args.blocks.now c.loop-depth.blocks c.look_level.new.blocks c.loop-depth.invariant.reading c.look_level.ensures.reading;
      calm = c.in_ok-next.ensures.cause ∙ c.loop-depth.invariant.calm;
      each = λ m e. one_row_read form c.args.site.now m c.args.root c.args.levels depth (g.B.Blocks.count c.args.blocks.now) (g.B.Blocks.count c.loop-depth.blocks) (g.B.Blocks.count c.look_level.new.blocks) c.loop-depth.frontier.runs.items (c.loop-depth.invariant.each m e)
          (record { maximal = maximal_of 0 c.loop-depth.frontier.runs.items c.loop-depth.frontier.maximal; exact = c.loop-depth.invariant.reached m e })
          c.in_ok-next.ensures.each;
      few = level_read (g.B.Blocks.count c.args.blocks.now) (g.B.Blocks.count c.loop-depth.blocks) (g.B.Blocks.count c.look_level.new.blocks) depth c.args.site.now.bounds.length c.loop-depth.invariant.few c.look_level.ensures.few;
    }

pub set_of-requires : goal.set_of-requires
set_of-requires g c = record { low = lists_low c.in_ok-next.next.items c.deref.result.now c.args.site.now.bounds.length most c.deref.ensures.value c.requires.short c.in_ok-next.ensures.next_lies }

pub returns-clause-exact : goal.returns-clause-exact
returns-clause-exact g c = λ m e.
    let form = g.K.RecKind.form in
    let image = m in
    let end : deep (top_of c.args.levels) ≤ c.loop-depth.depth = rw (c.levels_below-depth-end.ensures.exact, c.top_level-top.ensures) at c.loop-depth-test.false in
    IfOk-weaker c.set_of-2.result _ _
    (λ set exact. pass_as (lists c.loop-depth.claimed.items) (has set) (IsClaimed form c.args.site.now image c.args.root c.args.levels)
    (set_lists (has set) c.loop-depth.claimed.items c.deref-2.result.now c.deref-2.ensures.value exact)
    (all_claimed form c.args.site.now image c.args.root c.args.levels c.loop-depth.depth (lists c.loop-depth.claimed.items) c.requires.some c.requires.inside end (c.loop-depth.invariant.named m e)))
    c.set_of-2.ensures.exact

pub returns-clause-lies : goal.returns-clause-lies
returns-clause-lies g c =
    IfOk-weaker c.set_of-2.result _ _
    (λ set exact. lie_as c.args.site.now.bounds.length (lists c.loop-depth.claimed.items) (has set)
    (set_lists (has set) c.loop-depth.claimed.items c.deref-2.result.now c.deref-2.ensures.value exact)
    c.loop-depth.invariant.claims_lie)
    c.set_of-2.ensures.exact

pub returns-clause-each : goal.returns-clause-each
returns-clause-each g c = λ m e.
    let end : deep (top_of c.args.levels) ≤ c.loop-depth.depth = rw (c.levels_below-depth-end.ensures.exact, c.top_level-top.ensures) at c.loop-depth-test.false in
    let most : c.levels_below-depth-end.result ≤ 9 = rw (c.levels_below-depth-end.ensures.exact, c.top_level-top.ensures) (deep_most (top_of c.args.levels) (top_most c.args.levels)) in
    ok_holds _ c.set_of-2.result (all_rows_read g.K.RecKind.form c.args.site.now m c.args.root c.args.levels c.loop-depth.depth (g.B.Blocks.count c.args.blocks.now) (g.B.Blocks.count c.loop-depth.blocks) end (omega (arith, c.loop-depth.auto.depth-end, most)) (c.loop-depth.invariant.each m e))
