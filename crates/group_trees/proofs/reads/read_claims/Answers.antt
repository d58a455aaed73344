use Rattle.std.proofs.Common.{◌≡◌, ℕ, ◌<◌, true, IfOk}
use Rattle.blk_device.specs.declared.device.Region.TheVariants.{Image}
use Rattle.geom.specs.Layout.{group_len_of}
use Rattle.geom.specs.Places.{layout}
use Rattle.inode_pass.specs.declared.stop.PassStop.{PassStop}
use Rattle.run_sets.specs.Sets.{has}
use Rattle.tree_blocks.proofs.ReadingLemmas.{each_told}
use Rattle.tree_blocks.specs.Told.{OfTree}
use Rattle.tree_claims.specs.Rows.{AreClaims}
use Rattle.group_trees.proofs.ClaimLemmas.{claims_inside, claims_listed}
use Rattle.group_trees.proofs.HeadLemmas.{answered}
use Rattle.group_trees.proofs.reads.read_claims.Goals as goal

pub returns-clause-exact : goal.returns-clause-exact
returns-clause-exact g c = λ m e.
    let claims = answered PassStop (λ r. OfTree (layout c.args.geo.now) c.args.tree.now (g.D.Device.content c.args.dev.now) (λ site image root levels. IfOk r (λ set. AreClaims g.K.RecKind.form site image root levels (has set)))) c.claimed.result c.in_ok-set.set c.in_ok-set.ensures.cases c.claimed.ensures.exact in
    claims_listed g.K.RecKind.form (layout c.args.geo.now) (m Image) c.args.tree.now.group c.args.tree.now.root c.args.tree.now.levels (has c.in_ok-set.set) c.runs.result.now c.in_ok-blocks.blocks.items (each_told _ _ m claims e) c.runs.ensures.exact c.in_ok-blocks.ensures

pub returns-clause-inside : goal.returns-clause-inside
returns-clause-inside g c =
    let inside = answered PassStop (λ r. IfOk r (λ set. (b : ℕ) → has set b ≡ true → b < group_len_of (layout c.args.geo.now) c.args.tree.now.group)) c.claimed.result c.in_ok-set.set c.in_ok-set.ensures.cases c.claimed.ensures.inside in
    claims_inside (has c.in_ok-set.set) c.runs.result.now c.in_ok-blocks.blocks.items (group_len_of (layout c.args.geo.now) c.args.tree.now.group) inside c.runs.ensures.exact c.in_ok-blocks.ensures
