use Rattle.std.proofs.Common.{◌≡◌, ◌∙◌, Some, None, subst, ap, sym}
use Rattle.std.specs.Prelude.{if◌then◌else◌}
use Rattle.defer_chain.specs.Steps.{are_owed, freed, owed_in, no_intent}
use Rattle.defer_chain.proofs.ChainLemmas.{counts_of, stretch_left, first_count}
use Rattle.defer_chain.proofs.chain.Chain.finish_stretch.Goals as goal

pub bounds-self-self : goal.bounds-self-self
bounds-self-self c = (counts_of c.args.self.now.free c.args.self.now.steps c.args.self.now.done c.args.self.now.end c.args.self.now.long c.args.self.now.fits c.requires.kind).few

pub steps_left-steps-requires-clause-first : goal.steps_left-steps-requires-clause-first
steps_left-steps-requires-clause-first c = (counts_of c.args.self.now.free c.args.self.now.steps c.args.self.now.done c.args.self.now.end c.args.self.now.long c.args.self.now.fits c.requires.kind).first.some

pub steps_left-steps-requires-clause-run : goal.steps_left-steps-requires-clause-run
steps_left-steps-requires-clause-run c = (counts_of c.args.self.now.free c.args.self.now.steps c.args.self.now.done c.args.self.now.end c.args.self.now.long c.args.self.now.fits c.requires.kind).run

pub steps_left-steps-requires-clause-count : goal.steps_left-steps-requires-clause-count
steps_left-steps-requires-clause-count c =
    let counts = counts_of c.args.self.now.free c.args.self.now.steps c.args.self.now.done c.args.self.now.end c.args.self.now.long c.args.self.now.fits c.requires.kind in
    first_count c.args.self.now.free c.args.self.now.steps c.args.self.now.done c.args.self.now.end c.args.count counts c.requires.inside

pub change-requires : goal.change-requires
change-requires c =
    let s = c.args.self.now in
    let counts = counts_of s.free s.steps s.done s.end s.long s.fits c.requires.kind in
    let inside = first_count s.free s.steps s.done s.end c.args.count counts c.requires.inside in
    let left = stretch_left s.free s.steps s.done s.end c.args.count c.args.frees c.steps_left-steps.result.steps c.steps_left-steps.result.done counts c.requires.some inside c.steps_left-steps.ensures.left c.steps_left-steps.ensures.order in
    ap (λ f. are_owed f c.steps_left-steps.result.steps c.steps_left-steps.result.done s.end) c.freed_if-free.ensures ∙ left.fits

pub returns : goal.returns
returns c =
    let s = c.args.self.now in
    let counts = counts_of s.free s.steps s.done s.end s.long s.fits c.requires.kind in
    let inside = first_count s.free s.steps s.done s.end c.args.count counts c.requires.inside in
    let left = stretch_left s.free s.steps s.done s.end c.args.count c.args.frees c.steps_left-steps.result.steps c.steps_left-steps.result.done counts c.requires.some inside c.steps_left-steps.ensures.left c.steps_left-steps.ensures.order in
    let e = c.change.ensures in
    record { owes = e.owes ∙ ap (λ f. owed_in f c.steps_left-steps.result.steps c.steps_left-steps.result.done s.end) c.freed_if-free.ensures ∙ left.owes; writer = e.writer; first = e.first; second = e.second }
