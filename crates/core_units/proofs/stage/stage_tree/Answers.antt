use Rattle.std.proofs.Common.{◌≡◌, ◌+◌, ◌<◌, ◌≤◌, ℕ, List, [], length, ◌∙◌, All, Some, None, ap, refl, sym, subst, arith, Bool, rules}
use Rattle.blk_device.specs.Contents.{map_told}
use Rattle.blk_device.specs.declared.device.Region.TheVariants.{Image}
use Rattle.bulk_load.specs.Loaded.{IsLoaded}
use Rattle.byte_fields.specs.declared.block.Block.{Block}
use Rattle.geom.specs.Places.{layout}
use Rattle.sblock.specs.declared.block.Frame.{Frame}
use Rattle.core_units.specs.Staged.{AreOut, LieOn, NoneKept, frame_at, with_blocks}
use Rattle.core_units.proofs.StageLemmas.{first_is, frame_is, length_is, piece_on, piece_out, staged_as}
use Rattle.core_units.proofs.stage.stage_tree.Goals as goal

pub load-requires-clause-begins : goal.load-requires-clause-begins
load-requires-clause-begins g c = c.requires.begins c.shape_in-shape.result.blocks (c.shape_in-shape.result.levels, c.shape_in-shape.ensures.shaped)

pub write_all-requires-clause-inside : goal.write_all-requires-clause-inside
write_all-requires-clause-inside g c =
    let d = g.D.Device in
    let form = g.K.RecKind.form in
    let site = c.of_group-site.result in
    let claimed = c.front-claimed.result.now in
    let frame : Frame = record { group = c.args.g; first = site.first; uuid = site.uuid; lsn = c.args.lsn } in
    let begins = c.requires.begins c.shape_in-shape.result.blocks (c.shape_in-shape.result.levels, c.shape_in-shape.ensures.shaped) in
    let loaded = subst (λ (o : List (ℕ × Block)). IsLoaded form c.args.list.now claimed frame c.args.from c.in_ok-next.next o c.load.new.placed.items) c.new-placed.ensures.items c.in_ok-next.ensures.loaded in
    let many : length claimed ≡ c.shape_in-shape.result.blocks = search rules in
    let within : c.in_ok-next.next ≤ length claimed = omega (arith, c.in_ok-next.ensures.next, many, begins) in
    let inside = subst (λ (n : ℕ). All (λ b. b < n) c.args.reserve.now) (sym (length_is (layout c.args.geo.now) c.args.g site c.of_group-site.ensures.exact)) c.requires.inside in
    let fits : site.first + site.bounds.length ≤ d.blocks c.args.dev.now Image = omega (arith, c.of_group-site.ensures.inside, c.requires.room) in
    subst (LieOn site.first (d.blocks c.args.dev.now Image)) (sym c.as_slice.ensures.value)
    (piece_on form c.args.list.now c.args.reserve.now claimed c.shape_in-shape.result.blocks c.front-claimed.ensures frame c.args.from c.in_ok-next.next c.load.new.placed.items loaded within (d.blocks c.args.dev.now Image) site.bounds.length fits inside)

pub returns-in_err-write_all-clause-moments : goal.returns-in_err-write_all-clause-moments
returns-in_err-write_all-clause-moments g c = λ keep none.
    let d = g.D.Device in
    let form = g.K.RecKind.form in
    let site = c.of_group-site.result in
    let claimed = c.front-claimed.result.now in
    let frame : Frame = record { group = c.args.g; first = site.first; uuid = site.uuid; lsn = c.args.lsn } in
    let begins = c.requires.begins c.shape_in-shape.result.blocks (c.shape_in-shape.result.levels, c.shape_in-shape.ensures.shaped) in
    let loaded = subst (λ (o : List (ℕ × Block)). IsLoaded form c.args.list.now claimed frame c.args.from c.in_ok-next.next o c.load.new.placed.items) c.new-placed.ensures.items c.in_ok-next.ensures.loaded in
    let many : length claimed ≡ c.shape_in-shape.result.blocks = search rules in
    let within : c.in_ok-next.next ≤ length claimed = omega (arith, c.in_ok-next.ensures.next, many, begins) in
    let first = first_is (layout c.args.geo.now) c.args.g site c.of_group-site.ensures.exact in
    let kept = subst (λ (f : ℕ). NoneKept f keep c.args.reserve.now) (sym first) none in
    c.write_all.ensures.moments keep (subst (AreOut site.first keep) (sym c.as_slice.ensures.value) (piece_out form c.args.list.now c.args.reserve.now claimed c.shape_in-shape.result.blocks c.front-claimed.ensures frame c.args.from c.in_ok-next.next c.load.new.placed.items loaded within keep kept))

pub returns-in_err-write_all-clause-kept : goal.returns-in_err-write_all-clause-kept
returns-in_err-write_all-clause-kept g c = λ keep none.
    let d = g.D.Device in
    let form = g.K.RecKind.form in
    let site = c.of_group-site.result in
    let claimed = c.front-claimed.result.now in
    let frame : Frame = record { group = c.args.g; first = site.first; uuid = site.uuid; lsn = c.args.lsn } in
    let begins = c.requires.begins c.shape_in-shape.result.blocks (c.shape_in-shape.result.levels, c.shape_in-shape.ensures.shaped) in
    let loaded = subst (λ (o : List (ℕ × Block)). IsLoaded form c.args.list.now claimed frame c.args.from c.in_ok-next.next o c.load.new.placed.items) c.new-placed.ensures.items c.in_ok-next.ensures.loaded in
    let many : length claimed ≡ c.shape_in-shape.result.blocks = search rules in
    let within : c.in_ok-next.next ≤ length claimed = omega (arith, c.in_ok-next.ensures.next, many, begins) in
    let first = first_is (layout c.args.geo.now) c.args.g site c.of_group-site.ensures.exact in
    let kept = subst (λ (f : ℕ). NoneKept f keep c.args.reserve.now) (sym first) none in
    c.write_all.ensures.kept keep (subst (AreOut site.first keep) (sym c.as_slice.ensures.value) (piece_out form c.args.list.now c.args.reserve.now claimed c.shape_in-shape.result.blocks c.front-claimed.ensures frame c.args.from c.in_ok-next.next c.load.new.placed.items loaded within keep kept))

pub returns-then-next-shape-clause-moments : goal.returns-then-next-shape-clause-moments
returns-then-next-shape-clause-moments g c = λ keep none.
    let d = g.D.Device in
    let form = g.K.RecKind.form in
    let site = c.of_group-site.result in
    let claimed = c.front-claimed.result.now in
    let frame : Frame = record { group = c.args.g; first = site.first; uuid = site.uuid; lsn = c.args.lsn } in
    let begins = c.requires.begins c.shape_in-shape.result.blocks (c.shape_in-shape.result.levels, c.shape_in-shape.ensures.shaped) in
    let loaded = subst (λ (o : List (ℕ × Block)). IsLoaded form c.args.list.now claimed frame c.args.from c.in_ok-next.next o c.load.new.placed.items) c.new-placed.ensures.items c.in_ok-next.ensures.loaded in
    let many : length claimed ≡ c.shape_in-shape.result.blocks = search rules in
    let within : c.in_ok-next.next ≤ length claimed = omega (arith, c.in_ok-next.ensures.next, many, begins) in
    let first = first_is (layout c.args.geo.now) c.args.g site c.of_group-site.ensures.exact in
    let kept = subst (λ (f : ℕ). NoneKept f keep c.args.reserve.now) (sym first) none in
    c.write_all.ensures.moments keep (subst (AreOut site.first keep) (sym c.as_slice.ensures.value) (piece_out form c.args.list.now c.args.reserve.now claimed c.shape_in-shape.result.blocks c.front-claimed.ensures frame c.args.from c.in_ok-next.next c.load.new.placed.items loaded within keep kept))

pub returns-then-next-shape-clause-kept : goal.returns-then-next-shape-clause-kept
returns-then-next-shape-clause-kept g c = λ keep none.
    let d = g.D.Device in
    let form = g.K.RecKind.form in
    let site = c.of_group-site.result in
    let claimed = c.front-claimed.result.now in
    let frame : Frame = record { group = c.args.g; first = site.first; uuid = site.uuid; lsn = c.args.lsn } in
    let begins = c.requires.begins c.shape_in-shape.result.blocks (c.shape_in-shape.result.levels, c.shape_in-shape.ensures.shaped) in
    let loaded = subst (λ (o : List (ℕ × Block)). IsLoaded form c.args.list.now claimed frame c.args.from c.in_ok-next.next o c.load.new.placed.items) c.new-placed.ensures.items c.in_ok-next.ensures.loaded in
    let many : length claimed ≡ c.shape_in-shape.result.blocks = search rules in
    let within : c.in_ok-next.next ≤ length claimed = omega (arith, c.in_ok-next.ensures.next, many, begins) in
    let first = first_is (layout c.args.geo.now) c.args.g site c.of_group-site.ensures.exact in
    let kept = subst (λ (f : ℕ). NoneKept f keep c.args.reserve.now) (sym first) none in
    c.write_all.ensures.kept keep (subst (AreOut site.first keep) (sym c.as_slice.ensures.value) (piece_out form c.args.list.now c.args.reserve.now claimed c.shape_in-shape.result.blocks c.front-claimed.ensures frame c.args.from c.in_ok-next.next c.load.new.placed.items loaded within keep kept))

pub returns-clause-moments : goal.returns-clause-moments
returns-clause-moments g c = λ keep none.
    let d = g.D.Device in
    let form = g.K.RecKind.form in
    let site = c.of_group-site.result in
    let claimed = c.front-claimed.result.now in
    let frame : Frame = record { group = c.args.g; first = site.first; uuid = site.uuid; lsn = c.args.lsn } in
    let begins = c.requires.begins c.shape_in-shape.result.blocks (c.shape_in-shape.result.levels, c.shape_in-shape.ensures.shaped) in
    let loaded = subst (λ (o : List (ℕ × Block)). IsLoaded form c.args.list.now claimed frame c.args.from c.in_ok-next.next o c.load.new.placed.items) c.new-placed.ensures.items c.in_ok-next.ensures.loaded in
    let many : length claimed ≡ c.shape_in-shape.result.blocks = search rules in
    let within : c.in_ok-next.next ≤ length claimed = omega (arith, c.in_ok-next.ensures.next, many, begins) in
    let first = first_is (layout c.args.geo.now) c.args.g site c.of_group-site.ensures.exact in
    let kept = subst (λ (f : ℕ). NoneKept f keep c.args.reserve.now) (sym first) none in
    c.write_all.ensures.moments keep (subst (AreOut site.first keep) (sym c.as_slice.ensures.value) (piece_out form c.args.list.now c.args.reserve.now claimed c.shape_in-shape.result.blocks c.front-claimed.ensures frame c.args.from c.in_ok-next.next c.load.new.placed.items loaded within keep kept))

pub returns-clause-kept : goal.returns-clause-kept
returns-clause-kept g c = λ keep none.
    let d = g.D.Device in
    let form = g.K.RecKind.form in
    let site = c.of_group-site.result in
    let claimed = c.front-claimed.result.now in
    let frame : Frame = record { group = c.args.g; first = site.first; uuid = site.uuid; lsn = c.args.lsn } in
    let begins = c.requires.begins c.shape_in-shape.result.blocks (c.shape_in-shape.result.levels, c.shape_in-shape.ensures.shaped) in
    let loaded = subst (λ (o : List (ℕ × Block)). IsLoaded form c.args.list.now claimed frame c.args.from c.in_ok-next.next o c.load.new.placed.items) c.new-placed.ensures.items c.in_ok-next.ensures.loaded in
    let many : length claimed ≡ c.shape_in-shape.result.blocks = search rules in
    let within : c.in_ok-next.next ≤ length claimed = omega (arith, c.in_ok-next.ensures.next, many, begins) in
    let first = first_is (layout c.args.geo.now) c.args.g site c.of_group-site.ensures.exact in
    let kept = subst (λ (f : ℕ). NoneKept f keep c.args.reserve.now) (sym first) none in
    c.write_all.ensures.kept keep (subst (AreOut site.first keep) (sym c.as_slice.ensures.value) (piece_out form c.args.list.now c.args.reserve.now claimed c.shape_in-shape.result.blocks c.front-claimed.ensures frame c.args.from c.in_ok-next.next c.load.new.placed.items loaded within keep kept))

pub returns-then-next-shape-clause-staged : goal.returns-then-next-shape-clause-staged
returns-then-next-shape-clause-staged g c =
    let d = g.D.Device in
    let form = g.K.RecKind.form in
    let site = c.of_group-site.result in
    let claimed = c.front-claimed.result.now in
    let shape = c.shape_in-shape in
    let frame : Frame = record { group = c.args.g; first = site.first; uuid = site.uuid; lsn = c.args.lsn } in
    let placed = c.load.new.placed.items in
    let loaded = subst (λ (o : List (ℕ × Block)). IsLoaded form c.args.list.now claimed frame c.args.from c.in_ok-next.next o placed) c.new-placed.ensures.items c.in_ok-next.ensures.loaded in
    let written : d.content c.write_all.new.dev ≡ map_told (with_blocks site.first placed) (d.content c.args.dev.now) =
    subst (λ (l : List (ℕ × Block)). d.content c.write_all.new.dev ≡ map_told (with_blocks site.first l) (d.content c.args.dev.now)) c.as_slice.ensures.value c.in_ok-write_all.ensures.written in
    staged_as form c.args.list.now c.args.reserve.now claimed shape.result.blocks shape.result.levels shape.ensures.shaped c.front-claimed.ensures frame (frame_at (layout c.args.geo.now) c.args.g c.args.lsn) (frame_is (layout c.args.geo.now) c.args.g c.args.lsn site c.of_group-site.ensures.exact) c.args.from c.in_ok-next.next placed loaded c.in_ok-next.ensures.next (d.content c.args.dev.now) (d.content c.write_all.new.dev) written
    (Some c.in_ok-next.next) refl

pub returns-clause-staged : goal.returns-clause-staged
returns-clause-staged g c =
    let d = g.D.Device in
    let form = g.K.RecKind.form in
    let site = c.of_group-site.result in
    let claimed = c.front-claimed.result.now in
    let shape = c.shape_in-shape in
    let frame : Frame = record { group = c.args.g; first = site.first; uuid = site.uuid; lsn = c.args.lsn } in
    let placed = c.load.new.placed.items in
    let loaded = subst (λ (o : List (ℕ × Block)). IsLoaded form c.args.list.now claimed frame c.args.from c.in_ok-next.next o placed) c.new-placed.ensures.items c.in_ok-next.ensures.loaded in
    let written : d.content c.write_all.new.dev ≡ map_told (with_blocks site.first placed) (d.content c.args.dev.now) =
    subst (λ (l : List (ℕ × Block)). d.content c.write_all.new.dev ≡ map_told (with_blocks site.first l) (d.content c.args.dev.now)) c.as_slice.ensures.value c.in_ok-write_all.ensures.written in
    let begins = c.requires.begins shape.result.blocks (shape.result.levels, shape.ensures.shaped) in
    staged_as form c.args.list.now c.args.reserve.now claimed shape.result.blocks shape.result.levels shape.ensures.shaped c.front-claimed.ensures frame (frame_at (layout c.args.geo.now) c.args.g c.args.lsn) (frame_is (layout c.args.geo.now) c.args.g c.args.lsn site c.of_group-site.ensures.exact) c.args.from c.in_ok-next.next placed loaded c.in_ok-next.ensures.next (d.content c.args.dev.now) (d.content c.write_all.new.dev) written
    None (search rules)
