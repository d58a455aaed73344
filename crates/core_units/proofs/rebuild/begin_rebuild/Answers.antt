use Rattle.std.proofs.Common.{◌++◌, ℕ, true, List, map, rules, sym, subst}
use Rattle.geom.specs.Layout.{group_len_of}
use Rattle.geom.specs.Places.{layout}
use Rattle.group_trees.specs.Group.{tree_blocks}
use Rattle.rmap_recs.specs.declared.records.RmapRec.{RmapRec}
use Rattle.unit_plan.specs.Sets.{LieBelow, pieces_of}
use Rattle.unit_plan.specs.declared.piece.Piece.{Piece}
use Rattle.core_units.specs.Claims.{group_pieces, owner_piece}
use Rattle.core_units.specs.Lasting.{LieWithin}
use Rattle.core_units.proofs.rebuild.begin_rebuild.Goals as goal

pub lost_blocks-requires : goal.lost_blocks-requires
lost_blocks-requires c =
    let len = group_len_of (layout c.args.geo.now) c.args.g in
    let log = c.args.geo.now.log in
    let g = c.args.g in
    let blocks = tree_blocks c.args.judging.trees in
    let limbo = c.args.limbo.now in
    let heads = c.args.heads.now.list.items in
    let chunks = c.args.judging.chunks.items in
    let owners = c.args.judging.owners.items in
    let within = c.requires.judged.within in
    let all : LieBelow len (group_pieces log g heads true blocks limbo chunks ++ map owner_piece owners) = c.claims_lie.ensures (search rules) in
    let owned = subst (λ (o : List RmapRec). LieBelow len (group_pieces log g heads true blocks limbo chunks ++ map owner_piece o)) (sym c.as_slice-owned.ensures.value) all in
    let units = subst (λ (u : List ℕ). LieBelow len (group_pieces log g heads true blocks limbo u ++ map owner_piece c.as_slice-owned.result.now)) (sym c.as_slice-units.ensures.value) owned in
    let listed = subst (λ (l : List ℕ). LieBelow len (group_pieces log g l true blocks limbo c.as_slice-units.result.now ++ map owner_piece c.as_slice-owned.result.now)) (sym c.as_slice-list.ensures.value) units in
    let pieces = subst (λ (ps : List Piece). LieBelow len ps) (sym c.in_ok-set.ensures) listed in
    subst (λ (n : ℕ). LieWithin n c.args.judging.trees (pieces_of c.in_ok-set.set)) (sym c.group_len-length.ensures) (record { pieces = pieces; free = within.free; mappings = within.mappings })
