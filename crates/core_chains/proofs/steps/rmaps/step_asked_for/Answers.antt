use Rattle.std.proofs.Common.{refl}
use Rattle.core_chains.proofs.steps.PartLemmas.{heard_parts}
use Rattle.core_chains.proofs.steps.rmaps.step_asked_for.Goals as goal

pub returns-clause-left : goal.returns-clause-left
returns-clause-left g c =
    heard_parts g.D.Device c.args.parts.now c.step_heard.new.desk c.step_heard.new.groups _ c.rmap_place-place.result c.as_slice.result.now c.index_mut.result.now c.step_heard.new.place c.step_heard.result
    c.requires.safe c.requires.unshut c.step_heard.ensures.left c.step_heard.ensures.reason
    c.as_slice.ensures.value c.rmap_place-place.ensures c.index_mut.ensures.value c.step_heard.ensures.stays refl
