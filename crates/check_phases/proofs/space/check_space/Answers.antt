use Rattle.std.proofs.Common.{◌∙◌, ◌∷◌, [], None, Option, Some, false, subst, sym}
use Rattle.blk_device.specs.declared.device.Region.TheVariants.{Image}
use Rattle.fs_state.specs.Session.{Place}
use Rattle.geom.specs.Places.{layout}
use Rattle.inode_pass.specs.Units.{opened_state}
use Rattle.check_phases.specs.Checks.{ChecksSpace}
use Rattle.check_phases.proofs.SpaceLemmas.{lacked_is, passed_if_none}
use Rattle.check_phases.proofs.AddedLemmas as added
use Rattle.check_phases.proofs.KeptToldLemmas as kept
use Rattle.check_phases.specs.Phases.{lacks_mappings}
use Rattle.check_phases.proofs.space.check_space.Goals as goal

pub check_mapped-requires-clause-readable : goal.check_mapped-requires-clause-readable
check_mapped-requires-clause-readable g c = λ m e. c.requires.readable m e c.args.g (passed_if_none c.args.passed.now c.args.g (sym c.mappings_lacked.ensures ∙ c.in-None.is))

pub returns-in-Some-clause-exact : goal.returns-in-Some-clause-exact
returns-in-Some-clause-exact g c = λ m e.
    subst (λ (o : Option Place). ChecksSpace (opened_state (layout c.args.geo.now) (m Image)) o c.args.g c.args.tally.now c.skip_both.new.tally c.skip_both.result) (sym c.in-Some.is ∙ c.mappings_lacked.ensures)
    (c.skip_both.ensures.exact (opened_state (layout c.args.geo.now) (m Image)))

pub returns-in-None-clause-exact : goal.returns-in-None-clause-exact
returns-in-None-clause-exact g c = λ m e.
    subst (λ (o : Option Place). ChecksSpace (opened_state (layout c.args.geo.now) (m Image)) o c.args.g c.args.tally.now c.check_mapped.new.tally c.check_mapped.result) (sym c.in-None.is ∙ c.mappings_lacked.ensures)
    (c.check_mapped.ensures.exact m e)

pub returns-in-Some-clause-added : goal.returns-in-Some-clause-added
returns-in-Some-clause-added g c =
    added.as_skipped c.args.g c.in-Some.needed c.args.tally.now c.skip_both.new.tally c.skip_both.result (lacked_is c.args.passed.now c.args.g c.in-Some.needed (sym c.mappings_lacked.ensures ∙ c.in-Some.is)) c.skip_both.ensures.added

pub returns-in-Some-clause-kept : goal.returns-in-Some-clause-kept
returns-in-Some-clause-kept g c =
    kept.lacking (layout c.args.geo.now) (g.D.Device.content c.args.dev.now) c.args.g (lacks_mappings c.args.passed.now) (Some c.in-Some.needed) c.args.tally.now c.skip_both.new.tally c.args.steps.now.reads c.args.steps.now.reads c.skip_both.result (sym c.in-Some.is ∙ c.mappings_lacked.ensures)
    (kept.skipped (layout c.args.geo.now) (g.D.Device.content c.args.dev.now) c.args.g c.in-Some.needed (false ∷ false ∷ []) c.args.tally.now c.skip_both.new.tally c.args.steps.now.reads c.skip_both.result c.skip_both.ensures.exact)

pub returns-in-None-clause-kept : goal.returns-in-None-clause-kept
returns-in-None-clause-kept g c =
    kept.lacking (layout c.args.geo.now) (g.D.Device.content c.args.dev.now) c.args.g (lacks_mappings c.args.passed.now) None c.args.tally.now c.check_mapped.new.tally c.args.steps.now.reads c.check_mapped.new.steps.reads c.check_mapped.result (sym c.in-None.is ∙ c.mappings_lacked.ensures) c.check_mapped.ensures.kept
