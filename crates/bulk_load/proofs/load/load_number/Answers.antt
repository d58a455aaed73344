use Rattle.std.proofs.Common.{◌≡◌, ◌+◌, ◌-◌, ◌<◌, ◌≤◌, suc, List, ℕ, length, sym, ap, subst, ◌∙◌, arith}
use Rattle.std.specs.Prelude.{slice_index}
use Rattle.sblock.specs.Area.{area_of}
use Rattle.sblock.specs.declared.block.Header.{Header}
use Rattle.bulk_load.specs.Leaf.{block_bytes}
use Rattle.bulk_load.specs.Loaded.{IsHeaded, header_for, Has, area_bytes}
use Rattle.bulk_load.specs.Shapes.{IsRow, start}
use Rattle.bulk_load.proofs.LoadLemmas.{has_number}
use Rattle.bulk_load.proofs.ShapeLemmas.{start_on, start_up}
use Rattle.bulk_load.proofs.load.load_number.Goals as goal

pub header_of-header-requires-clause-within : goal.header_of-header-requires-clause-within
header_of-header-requires-clause-within g c =
    let row : IsRow g.K.RecKind.form.kind (length c.args.list.now) c.level_with-level.result c.of_level-row.result = rw (c.kind-2.ensures, c.number_of-records.ensures.exact) at c.of_level-row.ensures in
    let from : start g.K.RecKind.form.kind (length c.args.list.now) c.level_with-level.result ≤ c.args.k = rw (c.kind.ensures, c.number_of-records.ensures.exact) at c.level_with-level.ensures.from in
    let to : c.args.k < start g.K.RecKind.form.kind (length c.args.list.now) (suc c.level_with-level.result) = rw (c.kind.ensures, c.number_of-records.ensures.exact) at c.level_with-level.ensures.to in
    rw (c.kind-3.ensures, c.number_of-records.ensures.exact) (omega (arith, row.starts, from, to, start_on g.K.RecKind.form.kind (length c.args.list.now) c.level_with-level.result))

pub header_of-header-requires-clause-claimed : goal.header_of-header-requires-clause-claimed
header_of-header-requires-clause-claimed g c =
    rw (c.kind-3.ensures, c.number_of-records.ensures.exact) (omega (arith, c.requires.claimed, start_up g.K.RecKind.form.kind (length c.args.list.now) (suc c.level_with-level.result) c.args.levels (omega (arith, c.level_with-level.ensures.level))))

pub area_for-area-requires-clause-within : goal.area_for-area-requires-clause-within
area_for-area-requires-clause-within g c =
    let row : IsRow g.K.RecKind.form.kind (length c.args.list.now) c.level_with-level.result c.of_level-row.result = rw (c.kind-2.ensures, c.number_of-records.ensures.exact) at c.of_level-row.ensures in
    let from : start g.K.RecKind.form.kind (length c.args.list.now) c.level_with-level.result ≤ c.args.k = rw (c.kind.ensures, c.number_of-records.ensures.exact) at c.level_with-level.ensures.from in
    let to : c.args.k < start g.K.RecKind.form.kind (length c.args.list.now) (suc c.level_with-level.result) = rw (c.kind.ensures, c.number_of-records.ensures.exact) at c.level_with-level.ensures.to in
    omega (arith, row.starts, from, to, start_on g.K.RecKind.form.kind (length c.args.list.now) c.level_with-level.result)

pub returns : goal.returns
returns g c =
    let row : IsRow g.K.RecKind.form.kind (length c.args.list.now) c.level_with-level.result c.of_level-row.result = rw (c.kind-2.ensures, c.number_of-records.ensures.exact) at c.of_level-row.ensures in
    let from : start g.K.RecKind.form.kind (length c.args.list.now) c.level_with-level.result ≤ c.args.k = rw (c.kind.ensures, c.number_of-records.ensures.exact) at c.level_with-level.ensures.from in
    let to : c.args.k < start g.K.RecKind.form.kind (length c.args.list.now) (suc c.level_with-level.result) = rw (c.kind.ensures, c.number_of-records.ensures.exact) at c.level_with-level.ensures.to in
    let number : start g.K.RecKind.form.kind (length c.args.list.now) c.level_with-level.result + (c.args.k - c.of_level-row.result.start) ≡ c.args.k = omega (arith, row.starts, from) in
    let numbers : c.header_of-header.result ≡ header_for g.K.RecKind.form.kind (length c.args.list.now) c.args.claimed.now c.args.frame.now.lsn c.level_with-level.result (c.args.k - c.of_level-row.result.start) = rw (c.kind-3.ensures, c.number_of-records.ensures.exact) at c.header_of-header.ensures in
    let made : IsHeaded g.K.RecKind.form.kind c.header_of-header.result c.args.frame.now (slice_index c.args.claimed.now c.args.k) c.block_of.result.bytes = rw c.kind-4.ensures at c.block_of.ensures.head in
    let written : c.block_of.result.bytes ≡ block_bytes g.K.RecKind.form.kind c.header_of-header.result c.args.frame.now (slice_index c.args.claimed.now c.args.k) c.area_for-area.result = rw c.kind-4.ensures at c.block_of.ensures.exact in
    let told : c.block_of.result.bytes ≡ block_bytes g.K.RecKind.form.kind (header_for g.K.RecKind.form.kind (length c.args.list.now) c.args.claimed.now c.args.frame.now.lsn c.level_with-level.result (c.args.k - c.of_level-row.result.start)) c.args.frame.now (slice_index c.args.claimed.now c.args.k)
    (area_bytes g.K.RecKind.form c.args.list.now c.args.claimed.now c.level_with-level.result (c.args.k - c.of_level-row.result.start)) =
    written
    ∙ (ap (λ (h : Header). block_bytes g.K.RecKind.form.kind h c.args.frame.now (slice_index c.args.claimed.now c.args.k) c.area_for-area.result) numbers
    ∙ ap (block_bytes g.K.RecKind.form.kind (header_for g.K.RecKind.form.kind (length c.args.list.now) c.args.claimed.now c.args.frame.now.lsn c.level_with-level.result (c.args.k - c.of_level-row.result.start)) c.args.frame.now (slice_index c.args.claimed.now c.args.k)) c.area_for-area.ensures.exact) in
    has_number g.K.RecKind.form c.args.list.now c.args.claimed.now c.args.frame.now c.level_with-level.result (c.args.k - c.of_level-row.result.start) c.args.k c.block_of.result.bytes from to number
    (subst (λ (h : Header). IsHeaded g.K.RecKind.form.kind h c.args.frame.now (slice_index c.args.claimed.now c.args.k) c.block_of.result.bytes) numbers made)
    (subst (λ (xs : List ℕ). Has g.K.RecKind.form c.args.list.now c.args.claimed.now c.level_with-level.result (c.args.k - c.of_level-row.result.start) xs) (sym c.block_of.ensures.area) c.area_for-area.ensures.has)
    told
