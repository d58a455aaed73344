use Rattle.std.proofs.Common.{◌≤◌, ◌+◌, ◌^◌, ℕ, List, sym, subst, arith}
use Rattle.byte_fields.specs.declared.block.Block.{Block}
use Rattle.join_blocks.specs.Joins.{placed_in, LieBelow}
use Rattle.tree_edit.proofs.BlockLemmas.{lie_of_inside}
use Rattle.edit_place.proofs.drafted.drafted.Goals as goal

pub has_room-requires : goal.has_room-requires
has_room-requires g c =
    let site = c.args.ask.now.site in
    let placed = c.in_ok-draft.draft.placed.items in
    let room : site.first + site.bounds.length ≤ 2 ^ 64 = omega (arith, c.requires.fits) in
    record { fits = subst (λ (es : List (ℕ × Block)). LieBelow (2 ^ 64) site.first (placed_in es)) (sym c.deref.ensures.value) (lie_of_inside (2 ^ 64) site.first site.bounds.length (placed_in placed) room c.in_ok-draft.ensures.within.inside) }
