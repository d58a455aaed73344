use Rattle.std.proofs.Common.{◌≡◌, ◌∙◌, ap, map}
use Rattle.std.proofs.lemmas.Result.{IfOk-weaker}
use Rattle.derive_defs.specs.Shared.{refc_of, shared_space}
use Rattle.derive_defs.proofs.SharedLemmas.{runs_stand, shared_value, are_shared, shared_rise, refcs_inside}
use Rattle.derive_defs.proofs.shared.shared_of.Goals as goal

pub overlaps-requires-clause-runs : goal.overlaps-requires-clause-runs
overlaps-requires-clause-runs c = runs_stand c.args.mappings.now c.as_slice.result.now c.requires.within (c.as_slice.ensures.value ∙ c.in_ok-runs.ensures)

pub returns-in-Ok-clause-value : goal.returns-in-Ok-clause-value
returns-in-Ok-clause-value c = IfOk-weaker c.records_of.result (λ recs. recs.items ≡ map refc_of c.as_slice-in-Ok.result.now) (λ recs. recs.items ≡ shared_space c.args.mappings.now)
    (λ recs made. shared_value c.args.mappings.now c.as_slice.result.now c.in-Ok.shared.items recs.items
    (c.as_slice.ensures.value ∙ c.in_ok-runs.ensures) c.in-Ok.ensures.value (made ∙ ap (map refc_of) c.as_slice-in-Ok.ensures.value))
    c.records_of.ensures

pub returns-in-Ok-clause-exact : goal.returns-in-Ok-clause-exact
returns-in-Ok-clause-exact c = IfOk-weaker c.records_of.result (λ recs. recs.items ≡ shared_space c.args.mappings.now) _
    (λ recs is. are_shared c.args.mappings.now recs.items is) (returns-in-Ok-clause-value c)

pub returns-in-Ok-clause-rising : goal.returns-in-Ok-clause-rising
returns-in-Ok-clause-rising c = IfOk-weaker c.records_of.result (λ recs. recs.items ≡ shared_space c.args.mappings.now) _
    (λ recs is. shared_rise c.args.mappings.now recs.items is) (returns-in-Ok-clause-value c)

pub returns-in-Ok-clause-inside : goal.returns-in-Ok-clause-inside
returns-in-Ok-clause-inside c = IfOk-weaker c.records_of.result (λ recs. recs.items ≡ shared_space c.args.mappings.now) _
    (λ recs is. refcs_inside c.args.mappings.now recs.items is) (returns-in-Ok-clause-value c)
