-- What the tests of lists and claims give.
use Rattle.std.proofs.Common.{◌≡◌, ℕ, zero, suc, ◌+◌, ◌-◌, ◌*◌, ◌<◌, ◌≤◌, ◌^◌, Bool, true, false, List, [], ◌∷◌, ◌++◌, map, length, All, Option, Some, None, refl, arith, sym, subst}
use Rattle.std.specs.Prelude.{◌==◌, ◌&&◌, nat_le, if◌then◌else◌}
use Rattle.std.proofs.lemmas.Bool.{and_parts, eqb-true, leb-false, leb-true}
use Rattle.std.proofs.lemmas.List.Elements.{All-cons}
use Rattle.block_reap.specs.declared.runs.LimboRun.{LimboRun}
use Rattle.fs_model.specs.declared.claim.Claim.{Claim}
use Rattle.fs_state.specs.Records.{tree_owner}
use Rattle.fs_model.specs.declared.claim.Claim.TheVariants.{Heads, List as FreeList, Log, Tree}
use Rattle.geom.specs.declared.geometry.Run3.{Run3}
use Rattle.group_trees.specs.Metadata.{block_piece, chunk_piece, log_pieces, piece_of, tree_pieces}
use Rattle.rmap_recs.specs.Owners.{number_of}
use Rattle.rmap_recs.specs.declared.owner.Owner.TheVariants.{Fs, Ag, Log as OfLog}
use Rattle.rmap_recs.specs.Rmap.{has_end, is_owner_right, is_rec_in_range, rmap_form}
use Rattle.rmap_recs.specs.RmapLaws.{lawful_rmap}
use Rattle.rmap_recs.specs.declared.records.RmapRec.{RmapRec}
use Rattle.run_edits.specs.Edits.{HasRoom}
use Rattle.run_sets.specs.Runs.{most}
use Rattle.sblock.specs.declared.block.Bounds.{Bounds}
use Rattle.sblock.specs.declared.kind.Kind.{Kind}
use Rattle.sblock.specs.declared.kind.Kind.TheVariants.{Bno, Cnt, Rmap, Refc, Ino, Fino}
use Rattle.span_recs.specs.declared.span.SpanRec.{SpanRec}
use Rattle.unit_plan.specs.Sets.{LieBelow}
use Rattle.unit_plan.specs.declared.piece.Piece.{Piece}
use Rattle.core_units.specs.Claims.{group_pieces, limbo_piece, owner_piece, rmap_pieces}
use Rattle.core_units.specs.TreesFit.{LieApart}
use Rattle.core_units.specs.Taken.{without_front}
use Rattle.core_units.specs.Tested.{ApartWithin, BlocksWithin, LimboWithin, LogWithin, OwnersWithin, RoomWithin, SpansEnd, TreesWithin, UnitsWithin}

-- ---- free space

pub lie_apart : (limit from : ℕ) (rs : List SpanRec) → limit < 2 ^ 32 → ApartWithin limit from rs → LieApart from rs
lie_apart limit from [] le h = tt
lie_apart limit from (r ∷ rs) le h = (h.0, h.1, (let e = h.2 in omega (arith, le, e)), lie_apart limit (r.start + r.count) rs le h.3)

pub spans_end : (limit from : ℕ) (rs : List SpanRec) → ApartWithin limit from rs → SpansEnd limit rs
spans_end limit from [] h = tt
spans_end limit from (r ∷ rs) h = (h.2, spans_end limit (r.start + r.count) rs h.3)

front_ends_of : (b : Bool) (limit : ℕ) (r : SpanRec) (rs : List SpanRec) → nat_le r.count 1 ≡ b → SpansEnd limit (r ∷ rs) → SpansEnd limit (if b then rs else record { start = r.start + 1; count = r.count - 1 } ∷ rs)
front_ends_of true limit r rs e h = h.1
front_ends_of false limit r rs e h = let big = leb-false r.count 1 e in let ends = h.0 in (omega (arith, big, ends), h.1)

pub front_ends : (limit : ℕ) (rs : List SpanRec) → SpansEnd limit rs → SpansEnd limit (without_front rs)
front_ends limit [] h = tt
front_ends limit (r ∷ rs) h = front_ends_of (nat_le r.count 1) limit r rs refl h

-- ---- reverse mappings

room_of : (bounds : Bounds) (r : RmapRec) → bounds.length < 2 ^ 32 → is_rec_in_range bounds r ≡ true → HasRoom r
room_of bounds r small h =
    let group = (and_parts (nat_le 1 r.count && nat_le (r.start + r.count) bounds.length) (is_owner_right bounds r) h).0 in
    let ends = leb-true (r.start + r.count) bounds.length (and_parts (nat_le 1 r.count) (nat_le (r.start + r.count) bounds.length) group).1 in
    (lawful_rmap.reaches bounds r small h, omega (arith, ends, small))

pub have_room : (bounds : Bounds) (maps : List RmapRec) → bounds.length < 2 ^ 32 → RoomWithin bounds maps → All HasRoom maps
have_room bounds [] small h = λ k d lt. absurd (let no : ⊥ = omega (arith, lt) in no)
have_room bounds (r ∷ rs) small h = All-cons HasRoom r rs (room_of bounds r small h.0) (have_room bounds rs small h.1)

-- ---- claims

joined : (limit : ℕ) (xs ys : List Piece) → LieBelow limit xs → LieBelow limit ys → LieBelow limit (xs ++ ys)
joined limit [] ys h k = k
joined limit (x ∷ xs) ys h k = (h.0, joined limit xs ys h.1 k)

blocks_below : (limit : ℕ) (c : Claim) (owner : ℕ) (bs : List ℕ) → BlocksWithin limit bs → LieBelow limit (map (block_piece c owner) bs)
blocks_below limit c owner [] h = tt
blocks_below limit c owner (b ∷ bs) h = (h.0, blocks_below limit c owner bs h.1)

limbo_below : (limit : ℕ) (rs : List LimboRun) → LimboWithin limit rs → LieBelow limit (map limbo_piece rs)
limbo_below limit [] h = tt
limbo_below limit (r ∷ rs) h = (h.0, limbo_below limit rs h.1)

owners_below : (limit : ℕ) (rs : List RmapRec) → OwnersWithin limit rs → LieBelow limit (map owner_piece rs)
owners_below limit [] h = tt
owners_below limit (r ∷ rs) h = (h.0, owners_below limit rs h.1)

units_below : (limit : ℕ) (us : List ℕ) → UnitsWithin limit us → LieBelow limit (map chunk_piece us)
units_below limit [] h = tt
units_below limit (u ∷ us) h = (h.0, units_below limit us h.1)

only_log : (limit : ℕ) (p : Piece) (b : Bool) → (b ≡ true → p.run.start + p.run.count ≤ limit) → LieBelow limit (if b then p ∷ [] else [])
only_log limit p true h = (h refl, tt)
only_log limit p false h = tt

log_below : (limit : ℕ) (log : Option Run3) (g : ℕ) → LogWithin limit log g → LieBelow limit (log_pieces log g)
log_below limit None g h = tt
log_below limit (Some run) g h = only_log limit (piece_of Log (number_of OfLog) run.start run.count) (run.group == g) (λ e. h (eqb-true run.group g e))

module _ (limit : ℕ) (log : Option Run3) (g : ℕ) (list : List ℕ) (blocks : Kind → List ℕ) (limbo : List LimboRun) (chunks : List ℕ) where
  pub group_below : 0 < limit → LogWithin limit log g → BlocksWithin limit list → TreesWithin limit blocks → LimboWithin limit limbo → UnitsWithin limit chunks → LieBelow limit (group_pieces log g list true blocks limbo chunks)
  unfolding group_pieces
  group_below some logs lists trees waits units =
      let heads : List Piece = block_piece Heads (number_of Fs) 0 ∷ log_pieces log g in
      let a : List Piece = heads ++ map (block_piece FreeList (number_of Ag)) list in
      let b : List Piece = a ++ tree_pieces blocks Bno in
      let c : List Piece = b ++ tree_pieces blocks Cnt in
      let d : List Piece = c ++ rmap_pieces true blocks in
      let e : List Piece = d ++ tree_pieces blocks Refc in
      let f : List Piece = e ++ tree_pieces blocks Ino in
      let h : List Piece = f ++ tree_pieces blocks Fino in
      let i : List Piece = h ++ map limbo_piece limbo in
      let on_heads : LieBelow limit heads = (omega (arith, some), log_below limit log g logs) in
      let on_a : LieBelow limit a = joined limit heads (map (block_piece FreeList (number_of Ag)) list) on_heads (blocks_below limit FreeList (number_of Ag) list lists) in
      let on_b : LieBelow limit b = joined limit a (tree_pieces blocks Bno) on_a (blocks_below limit (Tree Bno) (tree_owner Bno) (blocks Bno) trees.bno) in
      let on_c : LieBelow limit c = joined limit b (tree_pieces blocks Cnt) on_b (blocks_below limit (Tree Cnt) (tree_owner Cnt) (blocks Cnt) trees.cnt) in
      let on_d : LieBelow limit d = joined limit c (rmap_pieces true blocks) on_c (blocks_below limit (Tree Rmap) (tree_owner Rmap) (blocks Rmap) trees.rmap) in
      let on_e : LieBelow limit e = joined limit d (tree_pieces blocks Refc) on_d (blocks_below limit (Tree Refc) (tree_owner Refc) (blocks Refc) trees.refc) in
      let on_f : LieBelow limit f = joined limit e (tree_pieces blocks Ino) on_e (blocks_below limit (Tree Ino) (tree_owner Ino) (blocks Ino) trees.ino) in
      let on_h : LieBelow limit h = joined limit f (tree_pieces blocks Fino) on_f (blocks_below limit (Tree Fino) (tree_owner Fino) (blocks Fino) trees.fino) in
      let on_i : LieBelow limit i = joined limit h (map limbo_piece limbo) on_h (limbo_below limit limbo waits) in
      joined limit i (map chunk_piece chunks) on_i (units_below limit chunks units)

  pub all_below : (owners : List RmapRec) → LieBelow limit (group_pieces log g list true blocks limbo chunks) → OwnersWithin limit owners → LieBelow limit (group_pieces log g list true blocks limbo chunks ++ map owner_piece owners)
  all_below owners group own = joined limit (group_pieces log g list true blocks limbo chunks) (map owner_piece owners) group (owners_below limit owners own)
