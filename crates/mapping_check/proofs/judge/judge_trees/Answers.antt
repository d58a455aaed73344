use Rattle.std.proofs.Common.{◌≡◌, ◌∙◌, sym}
use Rattle.std.proofs.lemmas.Result.{IfOk-weaker}
use Rattle.fs_state.specs.Kinds.{Image, heads_of}
use Rattle.geom.specs.Places.{layout}
use Rattle.group_trees.specs.Group.{AreTrees}
use Rattle.group_trees.specs.Heads.{heads_seen}
use Rattle.unit_plan.specs.Sets.{pieces_of}
use Rattle.mapping_check.specs.Mapped.{HasForks, IsClaimDecided}
use Rattle.mapping_check.proofs.MapLemmas.{claims_decide, later_decides}
use Rattle.mapping_check.proofs.judge.judge_trees.Goals as goal

pub returns-in-Some-clause-exact : goal.returns-in-Some-clause-exact
returns-in-Some-clause-exact c = λ image named are.
    later_decides (layout c.args.geo.now) image c.args.g c.args.geo.now.fitting c.args.heads.now c.args.trees.now c.args.chunks.now c.args.set c.in-Some.found (sym c.in-Some.is ∙ c.later_in.ensures) are

pub returns-in-None-clause-exact : goal.returns-in-None-clause-exact
returns-in-None-clause-exact c =
    let at = layout c.args.geo.now in
    IfOk-weaker c.judge_all_claims.result (λ judged. (image : Image) → heads_seen c.args.heads.now ≡ heads_of at image c.args.g → AreTrees at image c.args.g c.args.trees.now → HasForks at image c.args.g c.args.chunks.now (pieces_of c.args.set) → IsClaimDecided at image c.args.g judged) _
    (λ judged decided image named are. claims_decide at image c.args.g c.args.geo.now.fitting c.args.trees.now c.args.chunks.now c.args.set judged (sym c.in-None.is ∙ c.later_in.ensures) are (decided image named are))
    c.judge_all_claims.ensures.exact
