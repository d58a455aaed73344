-- The pieces of a group's metadata are its claims, block by block with owner and word.
use Rattle.std.proofs.Common.{◌≡◌, ℕ, zero, suc, ◌+◌, ◌*◌, ◌≤◌, ◌^◌, Bool, true, false, List, [], ◌∷◌, ◌++◌, All, map, refl, ap, sym, subst, ◌∙◌, arith, append_assoc, Option, Some, None}
use Rattle.std.specs.Prelude.{◌==◌, flat_map, if◌then◌else◌}
use Rattle.std.specs.Option.{ForSome}
use Rattle.std.proofs.lemmas.Bool.{le-leb}
use Rattle.std.proofs.lemmas.Grind.{flat_map-append}
use Rattle.std.proofs.lemmas.List.{append-nil}
use Rattle.std.proofs.lemmas.List.Elements.{All-cons, All-nil}
use Rattle.fs_state.specs.Chunks.{chunks}
use Rattle.fs_state.specs.Claims.{Claimed, claimed_by, log_claims}
use Rattle.fs_state.specs.Records.{all_kinds, tree_owner}
use Rattle.fs_state.specs.Lists.{numbers}
use Rattle.fs_model.specs.declared.claim.Claim.{Claim}
use Rattle.fs_model.specs.declared.claim.Claim.TheVariants.{Heads, Log, List as FreeList, Tree, Chunk}
use Rattle.fs_state.specs.Kinds.{Image, heads_of}
use Rattle.geom.specs.Apart.{HasFitting}
use Rattle.geom.specs.Layout.{Layout, group_len_of}
use Rattle.geom.specs.Numbers.{HoldsLog}
use Rattle.geom.specs.declared.geometry.Run3.{Run3}
use Rattle.group_trees.proofs.MetadataLemmas.{KindsRise, blocks_in_state, blocks_same, from_right, kinds_rise, metadata_below, metadata_plain, pieces_same, plain_claims, some_blocks}
use Rattle.group_trees.proofs.ReadLemmas.{group_short}
use Rattle.group_trees.specs.Group.{AreInside, AreSoundTrees, AreTrees, tree_blocks}
use Rattle.group_trees.specs.Metadata.{block_piece, chunk_piece, log_pieces, metadata_pieces, piece_of, tree_pieces}
use Rattle.group_trees.specs.declared.group.GroupTrees.{GroupTrees}
use Rattle.inode_pass.specs.Units.{opened_state}
use Rattle.rmap_recs.specs.Owners.{number_of}
use Rattle.rmap_recs.specs.Rmap.{has_end}
use Rattle.rmap_recs.specs.Words.{is_fork_data}
use Rattle.rmap_recs.specs.declared.owner.Owner.TheVariants.{Fs, Log as OfLog, Ag, Inodes}
use Rattle.run_edits.specs.Edits.{HasRoom}
use Rattle.sblock.specs.declared.kind.Kind.{Kind}
use Rattle.sblock.specs.declared.kind.Kind.TheVariants as kinds
use Rattle.tree_walk.specs.Trails.{LieInside}
use Rattle.unit_plan.specs.Group.{AreOwnPieces, FromPlace, claimed_at, claims_of}
use Rattle.unit_plan.specs.Lost.{of_piece}
use Rattle.unit_plan.specs.Order.{inode, place}
use Rattle.unit_plan.specs.Sets.{LieBelow}
use Rattle.unit_plan.specs.declared.piece.Piece.{Piece}

-- ---- block by block

row_claimed : (c : Claim) (owner b n k m : ℕ) → is_fork_data owner 0 ≡ false → map (claimed_at (piece_of c owner b n)) (numbers k m) ≡ map (claimed_by c owner) (numbers (b + k) m)
row_claimed c owner b n k zero plain = refl
row_claimed c owner b n k (suc m) plain =
    let word : (if is_fork_data owner 0 then 0 + k else 0) ≡ 0 = ap (λ (q : Bool). if q then 0 + k else 0) plain in
    let next : b + (k + 1) ≡ (b + k) + 1 = omega arith in
    let rest = row_claimed c owner b n (k + 1) m plain ∙ ap (λ x. map (claimed_by c owner) (numbers x m)) next in
    λ i. record { block = b + k; claim = c; owner = owner; word = word i } ∷ rest i

run_claimed : (c : Claim) (owner b n : ℕ) → is_fork_data owner 0 ≡ false → claims_of (piece_of c owner b n ∷ []) ≡ map (claimed_by c owner) (numbers b n)
run_claimed c owner b n plain =
    let start : b + 0 ≡ b = omega arith in
    append-nil (map (claimed_at (piece_of c owner b n)) (numbers 0 n)) ∙ row_claimed c owner b n 0 n plain ∙ ap (λ x. map (claimed_by c owner) (numbers x n)) start

both_claimed : (ps qs : List Piece) → claims_of (ps ++ qs) ≡ claims_of ps ++ claims_of qs
both_claimed ps qs = flat_map-append (λ p. map (claimed_at p) (numbers 0 p.run.count)) ps qs

two_claimed : (ps qs : List Piece) (xs ys : List Claimed) → claims_of ps ≡ xs → claims_of qs ≡ ys → claims_of (ps ++ qs) ≡ xs ++ ys
two_claimed ps qs xs ys a b = both_claimed ps qs ∙ (λ i. a i ++ b i)

list_claimed : (c : Claim) (owner : ℕ) (bs : List ℕ) → is_fork_data owner 0 ≡ false → claims_of (map (block_piece c owner) bs) ≡ map (claimed_by c owner) bs
list_claimed c owner [] plain = refl
list_claimed c owner (b ∷ bs) plain = two_claimed (block_piece c owner b ∷ []) (map (block_piece c owner) bs) (claimed_by c owner b ∷ []) (map (claimed_by c owner) bs) (run_claimed c owner b 1 plain) (list_claimed c owner bs plain)

plain_tree : (k : Kind) → is_fork_data (tree_owner k) 0 ≡ false
unfolding is_fork_data
plain_tree kinds.Bno = refl
plain_tree kinds.Cnt = refl
plain_tree kinds.Rmap = refl
plain_tree kinds.Refc = refl
plain_tree kinds.Ino = refl
plain_tree kinds.Fino = refl

plain_fs : is_fork_data (number_of Fs) 0 ≡ false
unfolding is_fork_data
plain_fs = refl

plain_log : is_fork_data (number_of OfLog) 0 ≡ false
unfolding is_fork_data
plain_log = refl

plain_ag : is_fork_data (number_of Ag) 0 ≡ false
unfolding is_fork_data
plain_ag = refl

plain_inodes : is_fork_data (number_of Inodes) 0 ≡ false
unfolding is_fork_data
plain_inodes = refl

trees_claimed : (blocks : Kind → List ℕ) (ks : List Kind) → claims_of (flat_map (tree_pieces blocks) ks) ≡ flat_map (λ k. map (claimed_by (Tree k) (tree_owner k)) (blocks k)) ks
trees_claimed blocks [] = refl
trees_claimed blocks (k ∷ ks) = two_claimed (tree_pieces blocks k) (flat_map (tree_pieces blocks) ks) (map (claimed_by (Tree k) (tree_owner k)) (blocks k)) _ (list_claimed (Tree k) (tree_owner k) (blocks k) (plain_tree k)) (trees_claimed blocks ks)

chunks_claimed : (us : List ℕ) → claims_of (map chunk_piece us) ≡ flat_map (λ u. map (claimed_by Chunk (number_of Inodes)) (numbers (8 * u) 8)) us
chunks_claimed [] = refl
chunks_claimed (u ∷ us) = two_claimed (chunk_piece u ∷ []) (map chunk_piece us) (map (claimed_by Chunk (number_of Inodes)) (numbers (8 * u) 8)) _ (run_claimed Chunk (number_of Inodes) (8 * u) 8 plain_inodes) (chunks_claimed us)

log_if : (b : Bool) (run : Run3) → claims_of (if b then piece_of Log (number_of OfLog) run.start run.count ∷ [] else []) ≡ (if b then map (claimed_by Log (number_of OfLog)) (numbers run.start run.count) else [])
log_if true run = run_claimed Log (number_of OfLog) run.start run.count plain_log
log_if false run = refl

log_claimed : (log : Option Run3) (g : ℕ) → claims_of (log_pieces log g) ≡ log_claims log g
log_claimed None g = refl
log_claimed (Some run) g = log_if (run.group == g) run

all_claimed : (log : Option Run3) (g : ℕ) (list : List ℕ) (blocks : Kind → List ℕ) (us : List ℕ) → claims_of (metadata_pieces log g list blocks us) ≡ plain_claims log g list blocks us
unfolding metadata_pieces
all_claimed log g list blocks us =
    let free_claims = map (claimed_by FreeList (number_of Ag)) list in
    let tree_claims = flat_map (λ k. map (claimed_by (Tree k) (tree_owner k)) (blocks k)) all_kinds in
    let chunk_claims = flat_map (λ u. map (claimed_by Chunk (number_of Inodes)) (numbers (8 * u) 8)) us in
    let fixed = block_piece Heads (number_of Fs) 0 ∷ log_pieces log g in
    let fixed_claims = claimed_by Heads (number_of Fs) 0 ∷ log_claims log g in
    let free = map (block_piece FreeList (number_of Ag)) list in
    let trees = flat_map (tree_pieces blocks) all_kinds in
    let first = two_claimed (block_piece Heads (number_of Fs) 0 ∷ []) (log_pieces log g) (claimed_by Heads (number_of Fs) 0 ∷ []) (log_claims log g) (run_claimed Heads (number_of Fs) 0 1 plain_fs) (log_claimed log g) in
    let second = two_claimed fixed free fixed_claims free_claims first (list_claimed FreeList (number_of Ag) list plain_ag) in
    let third = two_claimed (fixed ++ free) trees (fixed_claims ++ free_claims) tree_claims second (trees_claimed blocks all_kinds) in
    two_claimed ((fixed ++ free) ++ trees) (map chunk_piece us) ((fixed_claims ++ free_claims) ++ tree_claims) chunk_claims third (chunks_claimed us)

-- ---- in the claims' order

lower : (m n : ℕ) (ps : List Piece) → m ≤ n → FromPlace n ps → FromPlace m ps
lower m n [] le h = tt
lower m n (p ∷ ps) le h = (let k = h.0 in omega (arith, le, k), h.1, h.2, h.3)

in_list : (c : Claim) (owner : ℕ) (bs : List ℕ) (rest : List Piece) (n : ℕ) → n ≤ place c → place c ≤ 11 → inode c ≡ 0 → FromPlace (place c) rest → FromPlace n (map (block_piece c owner) bs ++ rest)
in_list c owner [] rest n le low z h = lower n (place c) rest le h
in_list c owner (b ∷ bs) rest n le low z h = (le, low, z, in_list c owner bs rest (place c) (omega arith) low z h)

in_chunks : (us : List ℕ) (n : ℕ) → n ≤ 11 → FromPlace n (map chunk_piece us)
in_chunks [] n le = tt
in_chunks (u ∷ us) n le = (le, omega arith, refl, in_chunks us 11 (omega arith))

tree_low : (k : Kind) → place (Tree k) ≤ 11
tree_low kinds.Bno = omega arith
tree_low kinds.Cnt = omega arith
tree_low kinds.Rmap = omega arith
tree_low kinds.Refc = omega arith
tree_low kinds.Ino = omega arith
tree_low kinds.Fino = omega arith

in_trees : (blocks : Kind → List ℕ) (ks : List Kind) (rest : List Piece) (n m : ℕ) → KindsRise n ks m → FromPlace m rest → FromPlace n (flat_map (tree_pieces blocks) ks ++ rest)
in_trees blocks [] rest n m le h = lower n m rest le h
in_trees blocks (k ∷ ks) rest n m le h =
    subst (FromPlace n) (sym (append_assoc (tree_pieces blocks k) (flat_map (tree_pieces blocks) ks) rest))
    (in_list (Tree k) (tree_owner k) (blocks k) (flat_map (tree_pieces blocks) ks ++ rest) n le.0 (tree_low k) refl (in_trees blocks ks rest (place (Tree k)) m le.1 h))

in_if : (b : Bool) (run : Run3) (rest : List Piece) → FromPlace 2 rest → FromPlace 0 ((if b then piece_of Log (number_of OfLog) run.start run.count ∷ [] else []) ++ rest)
in_if true run rest h = (omega arith, omega arith, refl, lower 1 2 rest (omega arith) h)
in_if false run rest h = lower 0 2 rest (omega arith) h

in_log : (log : Option Run3) (g : ℕ) (rest : List Piece) → FromPlace 2 rest → FromPlace 0 (log_pieces log g ++ rest)
in_log None g rest h = lower 0 2 rest (omega arith) h
in_log (Some run) g rest h = in_if (run.group == g) run rest h

in_all : (log : Option Run3) (g : ℕ) (list : List ℕ) (blocks : Kind → List ℕ) (us : List ℕ) → FromPlace 0 (metadata_pieces log g list blocks us)
unfolding metadata_pieces
in_all log g list blocks us =
    let trees = in_trees blocks all_kinds (map chunk_piece us) 2 11 kinds_rise (in_chunks us 11 (omega arith)) in
    let free = in_list FreeList (number_of Ag) list (flat_map (tree_pieces blocks) all_kinds ++ map chunk_piece us) 2 (omega arith) (omega arith) refl trees in
    subst (FromPlace 0) (sym (from_right (block_piece Heads (number_of Fs) 0) (log_pieces log g) (map (block_piece FreeList (number_of Ag)) list) (flat_map (tree_pieces blocks) all_kinds) (map chunk_piece us)))
    (omega arith, omega arith, refl, in_log log g (map (block_piece FreeList (number_of Ag)) list ++ (flat_map (tree_pieces blocks) all_kinds ++ map chunk_piece us)) free)

-- ---- each has a block, and numbers behind it

-- without an offset, with a block, and some numbers behind it
abbrev IsPlain : Piece → Type 0
IsPlain p = (is_fork_data p.owner p.word ≡ false) × (1 ≤ p.run.count)

abbrev ArePlain : List Piece → Type 0
ArePlain [] = Unit {0}
ArePlain (p ∷ ps) = IsPlain p × ArePlain ps

plain_both : (ps qs : List Piece) → ArePlain ps → ArePlain qs → ArePlain (ps ++ qs)
plain_both [] qs h k = k
plain_both (p ∷ ps) qs h k = (h.0, plain_both ps qs h.1 k)

plain_list : (c : Claim) (owner : ℕ) (bs : List ℕ) → is_fork_data owner 0 ≡ false → ArePlain (map (block_piece c owner) bs)
plain_list c owner [] plain = tt
plain_list c owner (b ∷ bs) plain = ((plain, omega arith), plain_list c owner bs plain)

plain_trees : (blocks : Kind → List ℕ) (ks : List Kind) → ArePlain (flat_map (tree_pieces blocks) ks)
plain_trees blocks [] = tt
plain_trees blocks (k ∷ ks) = plain_both (tree_pieces blocks k) (flat_map (tree_pieces blocks) ks) (plain_list (Tree k) (tree_owner k) (blocks k) (plain_tree k)) (plain_trees blocks ks)

plain_chunks : (us : List ℕ) → ArePlain (map chunk_piece us)
plain_chunks [] = tt
plain_chunks (u ∷ us) = ((plain_inodes, omega arith), plain_chunks us)

plain_if : (b : Bool) (run : Run3) → 1 ≤ run.count → ArePlain (if b then piece_of Log (number_of OfLog) run.start run.count ∷ [] else [])
plain_if true run some = ((plain_log, some), tt)
plain_if false run some = tt

plain_log_run : (at : Layout) (log : Option Run3) (g : ℕ) → ForSome log (λ run. HoldsLog at.agblocks at.agcount at.dblocks run) → ArePlain (log_pieces log g)
plain_log_run at None g h = tt
plain_log_run at (Some run) g h = plain_if (run.group == g) run (h run refl).some_blocks

all_plain : (at : Layout) (g : ℕ) (list : List ℕ) (blocks : Kind → List ℕ) (us : List ℕ) → ForSome at.log (λ run. HoldsLog at.agblocks at.agcount at.dblocks run) → ArePlain (metadata_pieces at.log g list blocks us)
unfolding metadata_pieces
all_plain at g list blocks us log =
    let fixed = block_piece Heads (number_of Fs) 0 ∷ log_pieces at.log g in
    let free = map (block_piece FreeList (number_of Ag)) list in
    plain_both ((fixed ++ free) ++ flat_map (tree_pieces blocks) all_kinds) (map chunk_piece us)
    (plain_both (fixed ++ free) (flat_map (tree_pieces blocks) all_kinds)
    (plain_both fixed free ((plain_fs, omega arith), plain_log_run at at.log g log) (plain_list FreeList (number_of Ag) list plain_ag))
    (plain_trees blocks all_kinds))
    (plain_chunks us)

one_room : (p : Piece) → IsPlain p → p.run.start + p.run.count ≤ 268435456 → HasRoom (of_piece p)
unfolding has_end
one_room p plain short = (has_both, omega (arith, short)) where
  has_both : has_end (of_piece p) ≡ true
  has_both = rw (plain.0, le-leb 1 p.run.count plain.1, le-leb (p.run.start + p.run.count) (2 ^ 32) (omega (arith, short))) refl

rooms : (len : ℕ) (ps : List Piece) → len ≤ 268435456 → ArePlain ps → LieBelow len ps → All HasRoom (map of_piece ps)
rooms len [] short plain low = All-nil HasRoom
rooms len (p ∷ ps) short plain low = All-cons HasRoom (of_piece p) (map of_piece ps) (one_room p plain.0 (let k = low.0 in omega (arith, short, k))) (rooms len ps short plain.1 low.1)

-- ---- the whole

pub own_pieces : (at : Layout) (image : Image) (g : ℕ) (list : List ℕ) (trees : GroupTrees) (us : List ℕ) → HasFitting at → ForSome at.log (λ run. HoldsLog at.agblocks at.agcount at.dblocks run) → LieInside (group_len_of at g) list → AreSoundTrees at g trees → AreInside (group_len_of at g) us
    → AreTrees at image g trees → list ≡ (heads_of at image g).list → us ≡ chunks (opened_state at image) g
    → AreOwnPieces (opened_state at image) g (metadata_pieces at.log g list (tree_blocks trees) us)
own_pieces at image g list trees us fit log free sound inside are listed chunked =
    let low = metadata_below at g list (tree_blocks trees) us (some_blocks at g fit) log free sound.inside inside in
    record {
      metadata = ap claims_of (pieces_same at.log g list (tree_blocks trees) (blocks_in_state at image g) us (blocks_same at image g trees are))
          ∙ all_claimed at.log g list (blocks_in_state at image g) us
          ∙ (λ i. plain_claims at.log g (listed i) (blocks_in_state at image g) (chunked i))
          ∙ sym (metadata_plain at image g);
      order = in_all at.log g list (tree_blocks trees) us;
      low = low;
      rooms = rooms (group_len_of at g) (metadata_pieces at.log g list (tree_blocks trees) us) (group_short at g fit) (all_plain at g list (tree_blocks trees) us log) low;
    }
