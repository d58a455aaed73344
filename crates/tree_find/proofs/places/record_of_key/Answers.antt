use Rattle.std.proofs.Common.{◌≡◌, ◌-◌, ℕ, sym, ◌∙◌, ap, arith, Some, true, false}
use Rattle.sblock.specs.Area.{area_of}
use Rattle.sblock.specs.Blocks.{numrecs}
use Rattle.tree_find.specs.Places.{place_behind}
use Rattle.tree_find.proofs.RecordLemmas.{no_place, another, found}
use Rattle.tree_find.proofs.places.record_of_key.Goals as goal

pub returns-then-place-eq0 : goal.returns-then-place-eq0
returns-then-place-eq0 g c =
    let form = g.K.RecKind.form in
    let bytes = c.args.block.now.bytes in
    let e : c.place_of-place.result ≡ place_behind form c.args.key.now true (area_of c.args.block.now.bytes) (numrecs c.args.block.now.bytes) = rw (c.data_area-area.ensures.shows, c.count_of.ensures) at c.place_of-place.ensures.place in
    sym (no_place form g.met.K.RecKind.lawful bytes c.requires.rising c.args.key.now c.place_of-place.result e c.if-place-eq0.true)

pub returns-then-is_before : goal.returns-then-is_before
returns-then-is_before g c =
    let form = g.K.RecKind.form in
    let bytes = c.args.block.now.bytes in
    let i : ℕ = c.place_of-place.result - 1 in
    let e : c.place_of-place.result ≡ place_behind form c.args.key.now true (area_of c.args.block.now.bytes) (numrecs c.args.block.now.bytes) = rw (c.data_area-area.ensures.shows, c.count_of.ensures) at c.place_of-place.ensures.place in
    let rec : c.record_at-rec.result ≡ form.record_at (area_of c.args.block.now.bytes) (c.place_of-place.result - 1) = rw (c.data_area-area.ensures.shows) at c.record_at-rec.ensures in
    let t : form.is_before (form.key_of (form.record_at (area_of c.args.block.now.bytes) (c.place_of-place.result - 1))) c.args.key.now ≡ true = rw (← rec, ← (c.key_of.ensures)) (sym c.is_before.ensures ∙ c.if-is_before.true) in
    sym (another form g.met.K.RecKind.lawful bytes c.requires.rising c.args.key.now c.place_of-place.result e i (omega (arith, c.if-place-eq0.false)) t)

pub returns : goal.returns
returns g c =
    let form = g.K.RecKind.form in
    let bytes = c.args.block.now.bytes in
    let i : ℕ = c.place_of-place.result - 1 in
    let e : c.place_of-place.result ≡ place_behind form c.args.key.now true (area_of c.args.block.now.bytes) (numrecs c.args.block.now.bytes) = rw (c.data_area-area.ensures.shows, c.count_of.ensures) at c.place_of-place.ensures.place in
    let rec : c.record_at-rec.result ≡ form.record_at (area_of c.args.block.now.bytes) (c.place_of-place.result - 1) = rw (c.data_area-area.ensures.shows) at c.record_at-rec.ensures in
    let f : form.is_before (form.key_of (form.record_at (area_of c.args.block.now.bytes) (c.place_of-place.result - 1))) c.args.key.now ≡ false = rw (← rec, ← (c.key_of.ensures)) (sym c.is_before.ensures ∙ c.if-is_before.false) in
    ap Some rec ∙ sym (found form g.met.K.RecKind.lawful bytes c.requires.rising c.args.key.now c.place_of-place.result e i (omega (arith, c.if-place-eq0.false)) f)
