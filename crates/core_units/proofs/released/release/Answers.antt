use Rattle.std.proofs.Common.{ℕ, List, sym, subst}
use Rattle.core_units.specs.Released.{BlocksEnd}
use Rattle.core_units.proofs.RebuildLemmas.{blocks_end}
use Rattle.core_units.proofs.released.release.Goals as goal

pub put_blocks-requires-clause-blocks : goal.put_blocks-requires-clause-blocks
put_blocks-requires-clause-blocks c =
    let r = c.args.rebuild.now in
    subst (λ (l : List ℕ). BlocksEnd l) (sym c.as_slice-blocks.ensures.value) (blocks_end r.length r.building.reserve.items c.requires.steady.short c.requires.steady.inside)
