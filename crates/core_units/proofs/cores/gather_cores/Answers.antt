use Rattle.std.proofs.Common.{◌∙◌, ◌/◌, ◌++◌, List, ap, arith, subst, sym}
use Rattle.std.proofs.lemmas.Bool.{leb-true}
use Rattle.blk_device.specs.declared.device.Region.TheVariants.{Image}
use Rattle.geom.specs.Layout.{group_len_of}
use Rattle.geom.specs.Places.{layout}
use Rattle.group_trees.proofs.ReadLemmas.{group_short}
use Rattle.inode_pass.specs.Units.{AreSeen}
use Rattle.inode_pass.specs.declared.unit.UnitSeen.{UnitSeen}
use Rattle.core_units.proofs.CoresLemmas.{none_left, seen_on, within_most}
use Rattle.core_units.proofs.cores.gather_cores.Goals as goal

pub next_units-requires : goal.next_units-requires
next_units-requires g c =
    let k = group_short (layout c.args.geo.now) c.args.g c.args.geo.now.fitting in
    within_most (group_len_of (layout c.args.geo.now) c.args.g) c.args.units.now (omega (arith, k)) c.requires.inside

pub see_units-requires-clause-inside : goal.see_units-requires-clause-inside
see_units-requires-clause-inside g c = (c.in-Some.ensures.some.inside (group_len_of (layout c.args.geo.now) c.args.g / 8) c.requires.inside, tt)

pub returns-clause-done : goal.returns-clause-done
returns-clause-done g c = λ past. none_left c.args.units.now c.in-Some.behind.run c.in-Some.behind.passed (leb-true _ _ past)

pub returns-clause-exact : goal.returns-clause-exact
returns-clause-exact g c = λ m e old.
    let P = AreSeen (layout c.args.geo.now) (m Image) c.args.g in
    subst P (sym (c.in_ok-extend_from_slice.ensures.items ∙ ap (λ (l : List UnitSeen). c.args.seen.now.items ++ l) c.as_slice.ensures.value)) (seen_on (layout c.args.geo.now) (m Image) c.args.g c.args.seen.now.items c.in_ok-found.found.items old (c.in_ok-found.ensures.exact m e))
