use Rattle.std.proofs.Common.{ℕ, List, arith, subst, sym, ◌∙◌}
use Rattle.blk_device.specs.declared.device.Region.TheVariants.{Image}
use Rattle.check_phases.proofs.PartLemmas.{accepted_among, heads_among}
use Rattle.check_phases.specs.Checks.{IsHeadsOf}
use Rattle.fork_pass.proofs.KeptLemmas.{units_there}
use Rattle.fork_pass.specs.Passed.{units_at}
use Rattle.geom.specs.Layout.{group_len_of}
use Rattle.geom.specs.Places.{layout}
use Rattle.group_trees.specs.declared.heads.GroupHeads.{GroupHeads}
use Rattle.mapping_check.specs.Mapped.{HasForks}
use Rattle.tree_walk.specs.Trails.{LieInside}
use Rattle.unit_plan.specs.Sets.{pieces_of}
use Rattle.unit_plan.specs.declared.piece.Piece.{Piece}
use Rattle.image_check.specs.Mappings.{LieIn}
use Rattle.image_check.proofs.mappings.check_claims_of.Goals as goal

pub check_mappings-requires-clause-list : goal.check_mappings-requires-clause-list
check_mappings-requires-clause-list g c = subst (λ (h : GroupHeads). LieInside (group_len_of (layout c.args.geo.now) c.args.g) h.list.items) (sym c.index-heads-g.is) (accepted_among (layout c.args.geo.now) c.args.g c.index-heads-g.result c.args.heads.now (omega (arith, c.requires.all, c.requires.group)) c.requires.accepted)

pub check_mappings-requires-clause-heads : goal.check_mappings-requires-clause-heads
check_mappings-requires-clause-heads g c = λ m e. subst (λ (h : GroupHeads). IsHeadsOf (layout c.args.geo.now) (m Image) c.args.g h) (sym c.index-heads-g.is) (heads_among (layout c.args.geo.now) (m Image) c.args.g c.index-heads-g.result c.args.heads.now (omega (arith, c.requires.all, c.requires.group)) (c.requires.heads m e))

pub check_mappings-requires-clause-chunks : goal.check_mappings-requires-clause-chunks
check_mappings-requires-clause-chunks g c =
    subst (LieIn (layout c.args.geo.now) c.args.g) (units_there c.args.inodes.now c.args.g c.index-inodes-g.result (omega (arith, c.requires.inodes, c.requires.group)) ∙ sym c.as_slice-chunks.ensures.value) (c.requires.inside c.args.g c.requires.group)

pub returns-clause-exact : goal.returns-clause-exact
returns-clause-exact g c = λ m e ready.
    c.check_mappings.ensures.exact m e
    (subst (λ (us : List ℕ). HasForks (layout c.args.geo.now) (m Image) c.args.g us (pieces_of c.take_set-set.result))
    (units_there c.args.inodes.now c.args.g c.index-inodes-g.result (omega (arith, c.requires.inodes, c.requires.group)) ∙ sym c.as_slice-chunks.ensures.value)
    (subst (λ (ps : List Piece). HasForks (layout c.args.geo.now) (m Image) c.args.g (units_at c.args.inodes.now c.args.g) ps) (sym c.take_set-set.ensures.taken) ready))

pub returns-clause-kept : goal.returns-clause-kept
returns-clause-kept g c = λ m e ready.
    c.check_mappings.ensures.kept m e
    (subst (λ (us : List ℕ). HasForks (layout c.args.geo.now) (m Image) c.args.g us (pieces_of c.take_set-set.result))
    (units_there c.args.inodes.now c.args.g c.index-inodes-g.result (omega (arith, c.requires.inodes, c.requires.group)) ∙ sym c.as_slice-chunks.ensures.value)
    (subst (λ (ps : List Piece). HasForks (layout c.args.geo.now) (m Image) c.args.g (units_at c.args.inodes.now c.args.g) ps) (sym c.take_set-set.ensures.taken) ready))
