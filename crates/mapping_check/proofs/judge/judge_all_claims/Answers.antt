use Rattle.std.proofs.Common.{◌≡◌, ◌∙◌, ◌++◌, OnOk, ap}
use Rattle.std.proofs.lemmas.Result.{IfOk-weaker}
use Rattle.fs_state.specs.Kinds.{Image}
use Rattle.geom.specs.Places.{layout}
use Rattle.group_trees.proofs.HeadLemmas.{answered}
use Rattle.group_trees.specs.Group.{tree_blocks}
use Rattle.group_trees.specs.Metadata.{metadata_pieces}
use Rattle.inode_pass.specs.declared.stop.PassStop.{PassStop}
use Rattle.unit_plan.specs.Sets.{pieces_of}
use Rattle.mapping_check.specs.Mapped.{AreMaps, IsClaimDecided}
use Rattle.mapping_check.proofs.MapLemmas.{maps_put}
use Rattle.mapping_check.proofs.judge.judge_all_claims.Goals as goal

pub returns-clause-exact : goal.returns-clause-exact
returns-clause-exact c =
    let at = layout c.args.geo.now in
    let put = answered PassStop (λ r. OnOk r (pieces_of c.put_metadata.new.set ≡ pieces_of c.args.set ++ metadata_pieces c.args.geo.now.log c.args.g c.as_slice-list.result.now (tree_blocks c.args.trees.now) c.args.chunks.now)) c.put_metadata.result tt c.in_ok-map_err.ensures.cases c.put_metadata.ensures in
    IfOk-weaker c.judge_claims.result (λ judged. (image : Image) → AreMaps at image c.args.g c.args.heads.now.agf c.args.trees.now (pieces_of c.put_metadata.new.set) → IsClaimDecided at image c.args.g judged) _
    (λ judged decided image named are forks. decided image (maps_put at image c.args.g c.args.geo.now.fitting c.args.heads.now c.args.trees.now c.args.chunks.now (pieces_of c.args.set) (pieces_of c.put_metadata.new.set)
    c.args.geo.now.log_inside c.requires.list c.requires.trees c.requires.chunks
    (put ∙ ap (λ list. pieces_of c.args.set ++ metadata_pieces c.args.geo.now.log c.args.g list (tree_blocks c.args.trees.now) c.args.chunks.now) c.as_slice-list.ensures.value)
    named are forks))
    c.judge_claims.ensures.exact
