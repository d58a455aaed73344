use Rattle.std.proofs.Common.{◌∙◌, sym}
use Rattle.blk_device.specs.declared.device.Region.TheVariants.{Image}
use Rattle.geom.specs.Places.{layout}
use Rattle.fork_read.proofs.EachLemmas.{none_found, shown_found}
use Rattle.fork_read.proofs.PieceLemmas.{form_none}
use Rattle.fork_read.proofs.first.first_fault_of_core.Goals as goal

pub tree_fault-requires-clause-form : goal.tree_fault-requires-clause-form
tree_fault-requires-clause-form g c = form_none (layout c.args.geo.now) c.args.core.now c.args.fork c.in-Ok.ensures.0

pub returns-in-Err-clause-exact : goal.returns-in-Err-clause-exact
returns-in-Err-clause-exact g c = λ m e. shown_found (layout c.args.geo.now) (m Image) c.args.core.now c.args.fork c.in-Err.error c.shown.result c.in-Err.ensures c.shown.ensures.shown

pub returns-clause-exact : goal.returns-clause-exact
returns-clause-exact g c = λ m e. none_found (layout c.args.geo.now) (m Image) c.args.core.now c.args.fork c.in-Ok.ensures.0 (sym c.is_in_btree.ensures ∙ c.if-is_in_btree.false)
