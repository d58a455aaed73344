use Rattle.std.proofs.Common.{subst, ap, ◌∙◌}
use Rattle.group_trees.specs.Trees.{IsFewRead, walk_of}
use Rattle.blk_device.specs.ReadingLaws.{read_on}
use Rattle.blk_device.specs.declared.device.Region.TheVariants.{Image}
use Rattle.geom.specs.Layout.{group_len_of}
use Rattle.geom.specs.Places.{layout}
use Rattle.group_trees.proofs.CountLemmas.{claims_tree, walk_tree}
use Rattle.group_trees.proofs.ReadLemmas.{few_of_group, group_short}
use Rattle.group_trees.proofs.reads.read_tree.Goals as goal

pub returns-in_err-claims-in-Bad-clause-reading : goal.returns-in_err-claims-in-Bad-clause-reading
returns-in_err-claims-in-Bad-clause-reading g c =
    read_on g.D.Device g.met.D.Device.only_now g.met.D.Device.counts_now c.args.dev.now c.walk_tree.new.dev c.read_claims.new.dev c.args.steps.now c.walk_tree.new.steps c.read_claims.new.steps c.in_ok-walked.ensures.reading c.in_err-claims-in-Bad.ensures.reading

pub returns-in_ok-claims-in-Bad-clause-reading : goal.returns-in_ok-claims-in-Bad-clause-reading
returns-in_ok-claims-in-Bad-clause-reading g c =
    read_on g.D.Device g.met.D.Device.only_now g.met.D.Device.counts_now c.args.dev.now c.walk_tree.new.dev c.read_claims.new.dev c.args.steps.now c.walk_tree.new.steps c.read_claims.new.steps c.in_ok-walked.ensures.reading c.in_ok-claims-in-Bad.ensures.reading

pub returns-in-Whole-clause-few : goal.returns-in-Whole-clause-few
returns-in-Whole-clause-few g c = λ m e.
    few_of_group (group_len_of (layout c.args.geo.now) c.args.tree.now.group) c.in-Whole.read.recs.items c.in-Whole.read.blocks.items (group_short (layout c.args.geo.now) c.args.tree.now.group c.args.geo.now.fitting) (subst (IsFewRead (group_len_of (layout c.args.geo.now) c.args.tree.now.group)) c.in-Whole.is (c.in_ok-walked.ensures.few m e))

pub returns-in_err-walked-clause-counted : goal.returns-in_err-walked-clause-counted
returns-in_err-walked-clause-counted g c = λ m e.
    walk_tree g.K.RecKind.form (layout c.args.geo.now) (m Image) c.args.tree.now.group c.args.tree.now.root c.args.tree.now.levels _ _ (c.in_err-walked.ensures.counted m e)

pub returns-in-Whole-clause-counted : goal.returns-in-Whole-clause-counted
returns-in-Whole-clause-counted g c = λ m e.
    walk_tree g.K.RecKind.form (layout c.args.geo.now) (m Image) c.args.tree.now.group c.args.tree.now.root c.args.tree.now.levels _ _ (c.in_ok-walked.ensures.counted m e)

pub returns-in_err-claims-in-Bad-clause-counted : goal.returns-in_err-claims-in-Bad-clause-counted
returns-in_err-claims-in-Bad-clause-counted g c = λ m e.
    claims_tree g.K.RecKind.form (layout c.args.geo.now) (m Image) c.args.tree.now.group c.args.tree.now.root c.args.tree.now.levels _ _ _ c.in-Bad.block c.in-Bad.fault (c.in_ok-walked.ensures.exact m e ∙ ap walk_of c.in-Bad.is) (c.in_ok-walked.ensures.counted m e) c.in_err-claims-in-Bad.ensures.few

pub returns-in_ok-claims-in-Bad-clause-counted : goal.returns-in_ok-claims-in-Bad-clause-counted
returns-in_ok-claims-in-Bad-clause-counted g c = λ m e.
    claims_tree g.K.RecKind.form (layout c.args.geo.now) (m Image) c.args.tree.now.group c.args.tree.now.root c.args.tree.now.levels _ _ _ c.in-Bad.block c.in-Bad.fault (c.in_ok-walked.ensures.exact m e ∙ ap walk_of c.in-Bad.is) (c.in_ok-walked.ensures.counted m e) c.in_ok-claims-in-Bad.ensures.few
