use Rattle.std.proofs.Common.{◌≡◌, ◌^◌, ◌<◌, arith, ap, subst, IfOk, IfSome}
use Rattle.blk_device.specs.declared.device.Region.TheVariants.{Image}
use Rattle.geom.specs.Places.{layout}
use Rattle.sblock.specs.declared.block.Bounds.{Bounds}
use Rattle.tree_defs.specs.Sites.{bounds_of, site_of, group_blocks}
use Rattle.tree_defs.specs.declared.site.Site.{Site}
use Rattle.tree_cover.specs.Answers.{AnswersReadable}
use Rattle.tree_cover.specs.Covers.{IsSought}
use Rattle.tree_cover.proofs.AnswerLemmas.{all_answers}
use Rattle.tree_blocks.specs.Cached.{blocks_told}
use Rattle.tree_cover.proofs.top.covering.Goals as goal

pub returns-clause-readable : goal.returns-clause-readable
returns-clause-readable g c =
    let form = g.K.RecKind.form in
    let site = c.of_group-site.result in
    let short : site.bounds.length < 2 ^ 32 = omega (arith, c.of_group-site.ensures.short) in
    let answer = all_answers form g.met.K.RecKind.lawful g.met.K.Covers.covers site short c.args.run c.args.after c.args.tree.now.root c.args.tree.now.levels c.search_site.result (g.D.Device.content c.args.dev.now) (λ m e. c.search_site.ensures.exact (group_blocks site (m Image)) (ap (blocks_told site) e)) in
    let P : Site → Type 0 = λ s. IfSome (g.D.Device.content c.args.dev.now) (λ m. AnswersReadable form s (group_blocks s (m Image)) c.args.run c.args.after c.args.tree.now.root c.args.tree.now.levels c.search_site.result) in
    subst P c.of_group-site.ensures.exact answer

pub returns-clause-sought : goal.returns-clause-sought
unfolding site_of
returns-clause-sought g c =
    let e : c.of_group-site.result.bounds ≡ bounds_of (layout c.args.geo.now) c.args.tree.now.group = ap (λ (s : Site). s.bounds) c.of_group-site.ensures.exact in
    let P : Bounds → Type 0 = λ b. IfOk c.search_site.result (λ found. IfSome found (IsSought g.K.RecKind.form b c.args.run c.args.after)) in
    subst P e c.search_site.ensures.sought
