use Rattle.std.proofs.Common.{◌∙◌, ap, List, None, length, subst, sym}
use Rattle.blk_device.specs.declared.device.Region.TheVariants.{Image}
use Rattle.check_phases.specs.Phases.{Mappings, lacks_inodes}
use Rattle.geom.specs.Places.{layout}
use Rattle.inode_pass.specs.Units.{opened_state}
use Rattle.unit_plan.specs.declared.claims.ClaimSet.{ClaimSet}
use Rattle.image_check.proofs.AllLemmas.{of_whole}
use Rattle.image_check.specs.Mappings.{AreReady}
use Rattle.check_phases.proofs.AddedLemmas.{of_all}
use Rattle.image_check.specs.Units.{IsMappingPart}
use Rattle.image_check.proofs.KeptUnitsLemmas.{mappings_of_whole}
use Rattle.image_check.proofs.image.check_by_sets.Goals as goal

pub check_mapping_part-requires-clause-sets : goal.check_mapping_part-requires-clause-sets
check_mapping_part-requires-clause-sets g c = ap (λ (x : List ClaimSet). length x) c.deref_mut.ensures.value ∙ c.requires.sets

pub check_mapping_part-requires-clause-ready : goal.check_mapping_part-requires-clause-ready
check_mapping_part-requires-clause-ready g c = λ m e. subst (λ (x : List ClaimSet). AreReady (layout c.args.geo.now) (m Image) c.args.inodes.now x) (sym c.deref_mut.ensures.value) (c.requires.ready m e)

pub returns-clause-exact : goal.returns-clause-exact
returns-clause-exact g c = λ m e.
    of_whole (opened_state (layout c.args.geo.now) (m Image)) Mappings (lacks_inodes None) c.whole-part.result c.args.geo.now.agcount c.args.tally.now c.check_mapping_part.new.tally c.check_mapping_part.result c.whole-part.ensures.from c.whole-part.ensures.to (c.check_mapping_part.ensures.exact m e)

pub returns-clause-added : goal.returns-clause-added
returns-clause-added g c = of_all IsMappingPart c.whole-part.result c.args.geo.now.agcount c.args.tally.now c.check_mapping_part.new.tally c.check_mapping_part.result c.whole-part.ensures.from c.whole-part.ensures.to c.check_mapping_part.ensures.added

pub returns-clause-kept : goal.returns-clause-kept
returns-clause-kept g c =
    mappings_of_whole (layout c.args.geo.now) (g.D.Device.content c.args.dev.now) c.whole-part.result c.args.geo.now.agcount c.args.tally.now c.check_mapping_part.new.tally c.args.steps.now.reads c.check_mapping_part.new.steps.reads c.check_mapping_part.result c.whole-part.ensures.from c.whole-part.ensures.to c.check_mapping_part.ensures.kept
