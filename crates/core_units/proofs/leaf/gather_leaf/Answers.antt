use Rattle.std.proofs.Common.{◌≡◌, ◌∙◌, Err, None, Ok, Option, ap, subst, sym}
use Rattle.blk_device.specs.declared.device.Region.TheVariants.{Image}
use Rattle.geom.specs.Places.{layout}
use Rattle.tree_blocks.proofs.ReadingLemmas.{each_told, told}
use Rattle.tree_defs.specs.Sites.{bounds_of, group_blocks, site_of}
use Rattle.tree_blocks.specs.declared.tree.WalkFault.{WalkFault}
use Rattle.tree_find.specs.Laws.{WhereHolds}
use Rattle.tree_find.specs.Next.{AreAbove}
use Rattle.tree_pieces.specs.Meets.{GivesPiece}
use Rattle.tree_pieces.specs.Pieces.{key_behind, piece_in}
use Rattle.tree_walk.specs.Trails.{AreSound}
use Rattle.core_units.proofs.FrontLemmas.{leaf_bad, leaf_last, leaf_more, no_records, some_records, sound_on}
use Rattle.core_units.proofs.leaf.gather_leaf.Goals as goal

pub returns-then-is_empty-clause-exact : goal.returns-then-is_empty-clause-exact
returns-then-is_empty-clause-exact g c =
    told (g.D.Device.content c.args.dev.now) _ (λ m e.
    let form = g.K.RecKind.form in
    let site = site_of (layout c.args.geo.now) c.args.tree.now.group in
    let image = group_blocks site (m Image) in
    let after = c.key_behind-after.ensures ∙ ap (key_behind form None) c.as_slice.ensures.value in
    let read = subst (λ (k : Option g.row.K-Key.Denot). piece_in form site image c.args.tree.now.root c.args.tree.now.levels k ≡ Ok (c.in-Ok.piece.recs.items, c.in-Ok.piece.blocks.items)) after (each_told _ _ m c.in-Ok.ensures.exact e) in
    leaf_last form site image c.args.tree.now.root c.args.tree.now.levels c.args.front.now c.put_behind.new.front g.met.K.RecKind.lawful c.in-Ok.piece.recs.items c.in-Ok.piece.blocks.items read c.in_ok-put_behind-in-Ok.ensures.recs c.in_ok-put_behind-in-Ok.ensures.blocks (no_records c.in-Ok.piece.recs.items c.as_slice-more.result.now c.is_empty.result c.as_slice-more.ensures.value c.is_empty.ensures c.if-is_empty.true))

pub returns-else-is_empty-clause-exact : goal.returns-else-is_empty-clause-exact
returns-else-is_empty-clause-exact g c =
    told (g.D.Device.content c.args.dev.now) _ (λ m e.
    let form = g.K.RecKind.form in
    let site = site_of (layout c.args.geo.now) c.args.tree.now.group in
    let image = group_blocks site (m Image) in
    let after = c.key_behind-after.ensures ∙ ap (key_behind form None) c.as_slice.ensures.value in
    let read = subst (λ (k : Option g.row.K-Key.Denot). piece_in form site image c.args.tree.now.root c.args.tree.now.levels k ≡ Ok (c.in-Ok.piece.recs.items, c.in-Ok.piece.blocks.items)) after (each_told _ _ m c.in-Ok.ensures.exact e) in
    leaf_more form site image c.args.tree.now.root c.args.tree.now.levels c.args.front.now c.put_behind.new.front c.in-Ok.piece.recs.items c.in-Ok.piece.blocks.items read c.in_ok-put_behind-in-Ok.ensures.recs c.in_ok-put_behind-in-Ok.ensures.blocks (some_records c.in-Ok.piece.recs.items c.as_slice-more.result.now c.is_empty.result c.as_slice-more.ensures.value c.is_empty.ensures c.if-is_empty.false))

pub returns-else-is_empty-clause-sound : goal.returns-else-is_empty-clause-sound
returns-else-is_empty-clause-sound g c = λ sound.
    let form = g.K.RecKind.form in
    let bounds = bounds_of (layout c.args.geo.now) c.args.tree.now.group in
    let after = c.key_behind-after.ensures ∙ ap (key_behind form None) c.as_slice.ensures.value in
    let above = subst (λ (k : Option g.row.K-Key.Denot). AreAbove form bounds k c.in-Ok.piece.recs.items) after c.in-Ok.ensures.sound in
    subst (AreSound form bounds) (sym c.in_ok-put_behind-in-Ok.ensures.recs) (sound_on form bounds c.args.front.now.recs.items c.in-Ok.piece.recs.items sound above)

pub returns-in-Err-Bad-clause-exact : goal.returns-in-Err-Bad-clause-exact
returns-in-Err-Bad-clause-exact g c =
    told (g.D.Device.content c.args.dev.now) _ (λ m e.
    let form = g.K.RecKind.form in
    let site = site_of (layout c.args.geo.now) c.args.tree.now.group in
    let image = group_blocks site (m Image) in
    let P : WalkFault → Type 0 = λ w. WhereHolds form site image c.args.tree.now.root c.args.tree.now.levels (GivesPiece form image c.args.tree.now.root c.args.tree.now.levels c.key_behind-after.result (Err w)) in
    leaf_bad form site image c.args.tree.now.root c.args.tree.now.levels c.args.front.now c.args.front.now c.key_behind-after.result c.in-Err-Bad.block c.in-Err-Bad.fault (subst P c.in-Err-Bad.field-0-is (each_told _ _ m c.in-Err-Bad.ensures.right e)))
