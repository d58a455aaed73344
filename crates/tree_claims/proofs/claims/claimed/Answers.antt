use Rattle.std.proofs.Common.{◌≡◌, ◌<◌, ◌≤◌, ℕ, true, ap, subst, arith}
use Rattle.std.specs.Prelude.{◌↔◌, IfOk, OnOk, IfSome}
use Rattle.blk_device.specs.Contents.{Contents}
use Rattle.blk_device.specs.declared.device.Region.TheVariants.{Image}
use Rattle.geom.specs.Layout.{group_len_of}
use Rattle.geom.specs.Places.{layout}
use Rattle.run_sets.specs.Sets.{has}
use Rattle.tree_defs.specs.Claims.{IsClaimed}
use Rattle.tree_defs.specs.Sites.{site_of, group_blocks}
use Rattle.tree_defs.specs.declared.site.Site.{Site}
use Rattle.tree_claims.specs.Rows.{ReadsRows}
use Rattle.tree_blocks.specs.Cached.{blocks_told}
use Rattle.tree_blocks.proofs.ReadingLemmas.{told}
use Rattle.tree_claims.proofs.claims.claimed.Goals as goal

pub returns-clause-exact : goal.returns-clause-exact
returns-clause-exact g c =
    let P : Contents → Site → Type 0 = λ m site. IfOk c.claimed_at.result (λ set. (b : ℕ) → (has set b ≡ true) ↔ IsClaimed g.K.RecKind.form site (group_blocks site (m Image)) c.args.tree.now.root c.args.tree.now.levels b) in
    told (g.D.Device.content c.args.dev.now) (λ m. P m (site_of (layout c.args.geo.now) c.args.tree.now.group)) (λ m e. subst (P m) c.of_group-site.ensures.exact (c.claimed_at.ensures.exact (group_blocks c.of_group-site.result (m Image)) (ap (blocks_told c.of_group-site.result) e)))

pub returns-clause-inside : goal.returns-clause-inside
unfolding site_of
returns-clause-inside g c =
    let e : c.of_group-site.result.bounds.length ≡ group_len_of (layout c.args.geo.now) c.args.tree.now.group = ap (λ (s : Site). s.bounds.length) c.of_group-site.ensures.exact in
    let P : ℕ → Type 0 = λ len. IfOk c.claimed_at.result (λ set. (b : ℕ) → has set b ≡ true → b < len) in
    subst P e c.claimed_at.ensures.lies

pub returns-clause-each : goal.returns-clause-each
returns-clause-each g c =
    let root = c.args.tree.now.root in
    let P : Contents → Site → Type 0 = λ m site. OnOk c.claimed_at.result (1 ≤ root → root < site.bounds.length → ReadsRows g.K.RecKind.form site (group_blocks site (m Image)) root c.args.tree.now.levels c.args.steps.now.reads c.claimed_at.new.blocks.steps.now.reads) in
    let each : IfSome (g.D.Device.content c.args.dev.now) (λ m. P m (site_of (layout c.args.geo.now) c.args.tree.now.group)) =
    told (g.D.Device.content c.args.dev.now) (λ m. P m (site_of (layout c.args.geo.now) c.args.tree.now.group)) (λ m e. subst (P m) c.of_group-site.ensures.exact (c.claimed_at.ensures.each (group_blocks c.of_group-site.result (m Image)) (ap (blocks_told c.of_group-site.result) e))) in
    grind (arith, each, c.claimed_at.ensures.reading.onward.same_steps)
