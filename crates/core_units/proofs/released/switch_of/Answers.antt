use Rattle.std.proofs.Common.{◌<◌, ◌^◌, ℕ, List, length, arith, sym, subst}
use Rattle.core_units.proofs.released.switch_of.Goals as goal

pub new_trees-requires-clause-few : goal.new_trees-requires-clause-few
new_trees-requires-clause-few c =
    let r = c.args.rebuild.now in
    let few = c.requires.steady.built.few in
    subst (λ (l : List ℕ). length l < 2 ^ 32) (sym c.as_slice-reserve.ensures.value) (omega (arith, few))
