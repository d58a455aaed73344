use Rattle.std.proofs.Common.{List, subst, Option}
use Rattle.std.proofs.lemmas.Result.{IfOk-weaker}
use Rattle.fs_model.specs.declared.claim.Evidence.{Evidence}
use Rattle.fs_state.specs.Kinds.{Image}
use Rattle.geom.specs.Places.{layout}
use Rattle.unit_plan.specs.Sets.{IsFirstOverlap, pieces_of}
use Rattle.unit_plan.specs.declared.piece.Among.TheVariants.{All as AllClaims}
use Rattle.unit_plan.specs.declared.piece.Piece.{Piece}
use Rattle.mapping_check.specs.Mapped.{AreApart, AreFaultsOf, AreMaps}
use Rattle.mapping_check.proofs.MapLemmas.{faults_decide, overlap_decides}
use Rattle.mapping_check.proofs.judge.judge_claims.Goals as goal

pub returns-in-Some-clause-exact : goal.returns-in-Some-clause-exact
returns-in-Some-clause-exact c image maps =
    overlap_decides (layout c.args.geo.now) image c.args.g c.args.geo.now.fitting c.overlap_of_group.ensures c.good_forks.ensures c.args.agf.now c.args.trees.now (pieces_of c.args.set) c.in-Some.found
    (subst (λ (o : Option Evidence). IsFirstOverlap AllClaims (pieces_of c.args.set) o) c.in-Some.is c.first_overlap.ensures.exact) maps

pub returns-in-None-clause-exact : goal.returns-in-None-clause-exact
returns-in-None-clause-exact c =
    let none = subst (λ (o : Option Evidence). IsFirstOverlap AllClaims (pieces_of c.args.set) o) c.in-None.is c.first_overlap.ensures.exact in
    IfOk-weaker c.judge_records.result (λ judged. (image : Image) (ps : List Piece) → AreApart ps (pieces_of c.first_overlap.new.self) → AreMaps (layout c.args.geo.now) image c.args.g c.args.agf.now c.args.trees.now ps → AreFaultsOf (layout c.args.geo.now) image c.args.g judged) _
    (λ judged faults image maps. faults_decide (layout c.args.geo.now) image c.args.g c.args.geo.now.fitting c.overlap_of_group.ensures c.good_forks.ensures c.args.agf.now c.args.trees.now (pieces_of c.args.set) judged none maps
    (faults image (pieces_of c.args.set) (record { same = c.first_overlap.ensures.kept; none = none }) maps))
    c.judge_records.ensures.exact
