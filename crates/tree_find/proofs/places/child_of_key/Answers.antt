use Rattle.std.proofs.Common.{◌≡◌, ◌-◌, suc, sym, ◌∙◌, ap, arith, Some}
use Rattle.sblock.specs.Area.{area_of, child_of}
use Rattle.sblock.specs.Blocks.{numrecs}
use Rattle.std.specs.Prelude.{false}
use Rattle.tree_find.specs.Places.{place_behind, child_before, child_for}
use Rattle.tree_find.proofs.places.child_of_key.Goals as goal

pub returns-then-place-eq0 : goal.returns-then-place-eq0
unfolding child_for
returns-then-place-eq0 g c =
    let form = g.K.RecKind.form in
    let e : c.place_of-place.result ≡ place_behind form c.args.key.now false (area_of c.args.block.now.bytes) (numrecs c.args.block.now.bytes) = rw (c.data_area-area.ensures.shows, c.count_of.ensures) at c.place_of-place.ensures.place in
    ap (child_before form (area_of c.args.block.now.bytes)) (sym c.if-place-eq0.true ∙ e)

pub returns : goal.returns
unfolding child_for
returns g c =
    let form = g.K.RecKind.form in
    let e : c.place_of-place.result ≡ place_behind form c.args.key.now false (area_of c.args.block.now.bytes) (numrecs c.args.block.now.bytes) = rw (c.data_area-area.ensures.shows, c.count_of.ensures) at c.place_of-place.ensures.place in
    let one : c.place_of-place.result ≡ suc (c.place_of-place.result - 1) = omega (arith, c.if-place-eq0.false) in
    let child : c.child_at.result ≡ child_of form.kind (area_of c.args.block.now.bytes) (c.place_of-place.result - 1) = rw (c.kind.ensures, c.data_area-area.ensures.shows) at c.child_at.ensures in
    ap Some child ∙ ap (child_before form (area_of c.args.block.now.bytes)) (sym one ∙ e)
