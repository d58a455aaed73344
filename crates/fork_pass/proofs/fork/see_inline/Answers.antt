use Rattle.std.proofs.Common.{◌≡◌, true, List, sym, subst, ◌∙◌}
use Rattle.std.specs.Prelude.{All}
use Rattle.dinode_core.specs.Inline.{in_range}
use Rattle.dinode_core.specs.declared.mapping.Mapping.{Mapping}
use Rattle.fork_read.proofs.RangeLemmas.{inline_in_range}
use Rattle.geom.specs.Places.{layout}
use Rattle.fork_pass.proofs.InlineLemmas.{inline_read, shown_read}
use Rattle.fork_pass.proofs.fork.see_inline.Goals as goal

pub put_mappings-requires-clause-range : goal.put_mappings-requires-clause-range
put_mappings-requires-clause-range c =
    subst (λ (ms : List Mapping). All (λ m. in_range (layout c.args.geo.now) c.args.fork m ≡ true) ms) (sym (c.as_slice.ensures.value ∙ c.in-Ok.ensures.1)) (inline_in_range (layout c.args.geo.now) c.args.core.now c.args.fork c.in-Ok.ensures.0)

pub returns-in-Err-clause-exact : goal.returns-in-Err-clause-exact
returns-in-Err-clause-exact c =
    shown_read (layout c.args.geo.now) c.args.core.now c.args.fork c.in-Err.error c.shown.result c.args.sets.now c.args.sets.now c.shown.ensures.shown c.in-Err.ensures c.inline_is_whole.ensures.fault

pub returns-clause-exact : goal.returns-clause-exact
returns-clause-exact c = λ image.
    inline_read (layout c.args.geo.now) c.args.core.now c.args.fork image c.args.sets.now c.put_mappings.new.sets c.as_slice.result.now c.new.result.items
    (c.inline_is_whole.ensures.fault image) (c.inline_is_whole.ensures.mappings image) (c.inline_is_whole.ensures.blocks image)
    c.in-Ok.ensures.0 (c.as_slice.ensures.value ∙ c.in-Ok.ensures.1) c.in_ok-put_mappings.ensures.put c.new.ensures.items
