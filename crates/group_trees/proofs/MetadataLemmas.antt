-- The pieces of a group's metadata stand for its claims.
use Rattle.std.proofs.Common.{◌≡◌, ℕ, zero, suc, ◌+◌, ◌*◌, ◌≤◌, Bool, true, false, List, [], ◌∷◌, ◌++◌, map, refl, ap, sym, subst, ◌∙◌, arith, append_assoc, Option, Some, None}
use Rattle.std.specs.Prelude.{◌-◌, ◌==◌, flat_map, if◌then◌else◌}
use Rattle.std.specs.List.{filter}
use Rattle.std.proofs.lemmas.Bool.{eqb-true, ltb-true}
use Rattle.std.proofs.lemmas.Bool.Decides.{nat_tests}
use Rattle.std.proofs.lemmas.Grind.{flat_map-append}
use Rattle.std.proofs.lemmas.List.{append-nil, map-append}
use Rattle.fs_state.specs.Chunks.{chunks}
use Rattle.fs_state.specs.Claims.{Claimed, claimed_by, log_claims, metadata_claims}
use Rattle.fs_state.specs.Contradiction.{first_overlap, is_data, is_written_data}
use Rattle.fs_state.specs.Records.{all_kinds, tree_owner}
use Rattle.fs_state.specs.Lists.{numbers}
use Rattle.fs_model.specs.declared.claim.Claim.{Claim}
use Rattle.fs_model.specs.declared.claim.Claim.TheVariants.{Heads, Log, List as FreeList, Tree, Chunk}
use Rattle.fs_state.specs.Kinds.{Image, heads_of}
use Rattle.fs_state.specs.Read.{group_of, opened}
use Rattle.fs_state.specs.State.{blocks_of}
use Rattle.fs_model.specs.declared.claim.Evidence.{Evidence}
use Rattle.geom.specs.Apart.{HasFitting}
use Rattle.geom.specs.Layout.{Layout, group_len_of}
use Rattle.geom.specs.Numbers.{HoldsLog}
use Rattle.geom.specs.declared.geometry.Run3.{Run3}
use Rattle.inode_pass.specs.Units.{opened_state}
use Rattle.group_trees.specs.Group.{AreInside, AreSoundTrees, AreTrees, first_kinds, last_kinds, tree_blocks}
use Rattle.group_trees.specs.declared.group.GroupTrees.{GroupTrees}
use Rattle.group_trees.specs.Metadata.{block_piece, chunk_piece, log_pieces, metadata_pieces, piece_of, tree_pieces}
use Rattle.rmap_recs.specs.Owners.{number_of}
use Rattle.rmap_recs.specs.declared.owner.Owner.TheVariants.{Fs, Log as OfLog, Ag, Inodes}
use Rattle.sblock.specs.declared.kind.Kind.{Kind}
use Rattle.sblock.specs.declared.kind.Kind.TheVariants as kinds
use Rattle.std.specs.Option.{ForSome}
use Rattle.tree_walk.specs.Trails.{LieInside}
use Rattle.unit_plan.proofs.LawLemmas.{in_group_lem}
use Rattle.unit_plan.specs.Sets.{IsFirstOverlap, LieBelow}
use Rattle.unit_plan.specs.Laws.{StandFor, seen}
use Rattle.unit_plan.specs.Order.{comes_before, inode, is_first, place}
use Rattle.unit_plan.specs.Pieces.{blocks_of as blocks_in, claimed, claimed_blocks, in_order, is_looked_at, put_piece}
use Rattle.unit_plan.specs.declared.piece.Among.TheVariants.{Metadata}
use Rattle.unit_plan.specs.declared.piece.Piece.{Piece}

-- what an overlap asks of the blocks of pieces
abbrev Shown : Type 0
Shown = List (ℕ × (Claim × Bool))

abbrev said : List Piece → Shown
said ps = map seen (blocks_in ps)

blocks_both : (ps qs : List Piece) → blocks_in (ps ++ qs) ≡ blocks_in ps ++ blocks_in qs
blocks_both [] qs = refl
blocks_both (p ∷ ps) qs = ap (λ (cs : List Claimed). map (claimed p) (numbers p.run.start p.run.count) ++ cs) (blocks_both ps qs) ∙ sym (append_assoc (map (claimed p) (numbers p.run.start p.run.count)) (blocks_in ps) (blocks_in qs))

said_both : (ps qs : List Piece) → said (ps ++ qs) ≡ said ps ++ said qs
said_both ps qs = ap (map seen) (blocks_both ps qs) ∙ map-append seen (blocks_in ps) (blocks_in qs)

not_data : (c : Claimed) → is_data c.claim ≡ false → is_written_data c ≡ false
unfolding is_written_data
not_data c h = rw h refl

seen_same : (c d : Claimed) → c.block ≡ d.block → c.claim ≡ d.claim → is_data c.claim ≡ false → seen c ≡ seen d
seen_same c d b k h =
    let left = not_data c h in
    let right = not_data d (ap is_data (sym k) ∙ h) in
    λ i. (b i, (k i, (left ∙ sym right) i))

-- n blocks of a piece
row_same : (c : Claim) (owner b n m k : ℕ) → is_data c ≡ false → map seen (map (claimed (piece_of c owner b n)) (numbers m k)) ≡ map seen (map (claimed_by c owner) (numbers m k))
row_same c owner b n m zero h = refl
row_same c owner b n m (suc k) h =
    let one = seen_same (claimed (piece_of c owner b n) m) (claimed_by c owner m) refl refl h in
    let rest = row_same c owner b n (m + 1) k h in
    λ i. one i ∷ rest i

run_said : (c : Claim) (owner b n : ℕ) → is_data c ≡ false → said (piece_of c owner b n ∷ []) ≡ map seen (map (claimed_by c owner) (numbers b n))
run_said c owner b n h = ap (map seen) (append-nil (map (claimed (piece_of c owner b n)) (numbers b n))) ∙ row_same c owner b n b n h

list_said : (c : Claim) (owner : ℕ) (bs : List ℕ) → is_data c ≡ false → said (map (block_piece c owner) bs) ≡ map seen (map (claimed_by c owner) bs)
list_said c owner [] h = refl
list_said c owner (b ∷ bs) h =
    let one = seen_same (claimed (block_piece c owner b) b) (claimed_by c owner b) refl refl h in
    let rest = list_said c owner bs h in
    λ i. one i ∷ rest i

trees_said : (blocks : Kind → List ℕ) (ks : List Kind) → said (flat_map (tree_pieces blocks) ks) ≡ map seen (flat_map (λ k. map (claimed_by (Tree k) (tree_owner k)) (blocks k)) ks)
trees_said blocks [] = refl
trees_said blocks (k ∷ ks) =
    said_both (tree_pieces blocks k) (flat_map (tree_pieces blocks) ks)
    ∙ (λ i. list_said (Tree k) (tree_owner k) (blocks k) refl i ++ trees_said blocks ks i)
    ∙ sym (map-append seen (map (claimed_by (Tree k) (tree_owner k)) (blocks k)) (flat_map (λ j. map (claimed_by (Tree j) (tree_owner j)) (blocks j)) ks))

chunks_said : (us : List ℕ) → said (map chunk_piece us) ≡ map seen (flat_map (λ u. map (claimed_by Chunk (number_of Inodes)) (numbers (8 * u) 8)) us)
chunks_said [] = refl
chunks_said (u ∷ us) =
    said_both (chunk_piece u ∷ []) (map chunk_piece us)
    ∙ (λ i. run_said Chunk (number_of Inodes) (8 * u) 8 refl i ++ chunks_said us i)
    ∙ sym (map-append seen (map (claimed_by Chunk (number_of Inodes)) (numbers (8 * u) 8)) (flat_map (λ v. map (claimed_by Chunk (number_of Inodes)) (numbers (8 * v) 8)) us))

log_if : (b : Bool) (run : Run3) → said (if b then piece_of Log (number_of OfLog) run.start run.count ∷ [] else []) ≡ map seen (if b then map (claimed_by Log (number_of OfLog)) (numbers run.start run.count) else [])
log_if true run = run_said Log (number_of OfLog) run.start run.count refl
log_if false run = refl

log_said : (log : Option Run3) (g : ℕ) → said (log_pieces log g) ≡ map seen (log_claims log g)
log_said None g = refl
log_said (Some run) g = log_if (run.group == g) run

-- two segments in front of what is left
two_said : (ps qs : List Piece) (xs ys : List Claimed) → said ps ≡ map seen xs → said qs ≡ map seen ys → said (ps ++ qs) ≡ map seen (xs ++ ys)
two_said ps qs xs ys a b = said_both ps qs ∙ (λ i. a i ++ b i) ∙ sym (map-append seen xs ys)

-- ---- the pieces are in the claims' order

-- no piece's place is below this one, and none falls
abbrev pub Ordered : ℕ → List Piece → Type 0
Ordered n [] = Unit {0}
Ordered n (p ∷ ps) = (n ≤ place p.claim) × (inode p.claim ≡ 0) × (is_looked_at Metadata p.claim ≡ true) × Ordered (place p.claim) ps

lower : (m n : ℕ) (ps : List Piece) → m ≤ n → Ordered n ps → Ordered m ps
lower m n [] le h = tt
lower m n (p ∷ ps) le h = (let k = h.0 in omega (arith, le, k), h.1, h.2, h.3)

before_no : (a i b j : ℕ) → b ≤ a → i ≡ 0 → j ≡ 0 → is_first a i b j ≡ false
unfolding is_first
before_no a i b j le x y = grind (arith, nat_tests, le, x, y)

ahead : (p : Piece) (ps : List Piece) → inode p.claim ≡ 0 → Ordered (place p.claim) ps → put_piece p ps ≡ p ∷ ps
ahead p [] z h = refl
ahead p (q ∷ qs) z h = let e : comes_before q.claim p.claim ≡ false = before_no (place q.claim) (inode q.claim) (place p.claim) (inode p.claim) h.0 h.1 z in rw e refl

pub sorted : (n : ℕ) (ps : List Piece) → Ordered n ps → in_order ps ≡ ps
sorted n [] h = refl
sorted n (p ∷ ps) h = ap (put_piece p) (sorted (place p.claim) ps h.3) ∙ ahead p ps h.1 h.3

pub all_looked : (n : ℕ) (ps : List Piece) → Ordered n ps → filter (λ p. is_looked_at Metadata p.claim) ps ≡ ps
all_looked n [] h = refl
all_looked n (p ∷ ps) h = rw h.2 (ap (λ (qs : List Piece). p ∷ qs) (all_looked (place p.claim) ps h.3))

ordered_list : (c : Claim) (owner : ℕ) (bs : List ℕ) (rest : List Piece) (n : ℕ) → n ≤ place c → inode c ≡ 0 → is_looked_at Metadata c ≡ true → Ordered (place c) rest → Ordered n (map (block_piece c owner) bs ++ rest)
ordered_list c owner [] rest n le z l h = lower n (place c) rest le h
ordered_list c owner (b ∷ bs) rest n le z l h = (le, z, l, ordered_list c owner bs rest (place c) (omega arith) z l h)

ordered_chunks : (us : List ℕ) (n : ℕ) → n ≤ 11 → Ordered n (map chunk_piece us)
ordered_chunks [] n le = tt
ordered_chunks (u ∷ us) n le = (le, refl, refl, ordered_chunks us 11 (omega arith))

-- the places of these trees rise from one number to another
abbrev pub KindsRise : ℕ → List Kind → ℕ → Type 0
KindsRise n [] m = n ≤ m
KindsRise n (k ∷ ks) m = (n ≤ place (Tree k)) × KindsRise (place (Tree k)) ks m

ordered_trees : (blocks : Kind → List ℕ) (ks : List Kind) (rest : List Piece) (n m : ℕ) → KindsRise n ks m → Ordered m rest → Ordered n (flat_map (tree_pieces blocks) ks ++ rest)
ordered_trees blocks [] rest n m le h = lower n m rest le h
ordered_trees blocks (k ∷ ks) rest n m le h =
    subst (Ordered n) (sym (append_assoc (tree_pieces blocks k) (flat_map (tree_pieces blocks) ks) rest))
    (ordered_list (Tree k) (tree_owner k) (blocks k) (flat_map (tree_pieces blocks) ks ++ rest) n le.0 refl refl (ordered_trees blocks ks rest (place (Tree k)) m le.1 h))

ordered_if : (b : Bool) (run : Run3) (rest : List Piece) → Ordered 2 rest → Ordered 0 ((if b then piece_of Log (number_of OfLog) run.start run.count ∷ [] else []) ++ rest)
ordered_if true run rest h = (omega arith, refl, refl, lower 1 2 rest (omega arith) h)
ordered_if false run rest h = lower 0 2 rest (omega arith) h

ordered_log : (log : Option Run3) (g : ℕ) (rest : List Piece) → Ordered 2 rest → Ordered 0 (log_pieces log g ++ rest)
ordered_log None g rest h = lower 0 2 rest (omega arith) h
ordered_log (Some run) g rest h = ordered_if (run.group == g) run rest h

pub kinds_rise : KindsRise 2 all_kinds 11
kinds_rise = (omega arith, (omega arith, (omega arith, (omega arith, (omega arith, (omega arith, omega arith))))))

-- heads, log, free list, trees and chunks, joined from the left, as joined from the right
pub from_right : {A : Type 0} (x : A) (log free trees rest : List A) → (((x ∷ log) ++ free) ++ trees) ++ rest ≡ x ∷ (log ++ (free ++ (trees ++ rest)))
from_right x log free trees rest = append_assoc ((x ∷ log) ++ free) trees rest ∙ append_assoc (x ∷ log) free (trees ++ rest)

ordered_all : (log : Option Run3) (g : ℕ) (list : List ℕ) (blocks : Kind → List ℕ) (us : List ℕ) → Ordered 0 (metadata_pieces log g list blocks us)
unfolding metadata_pieces
ordered_all log g list blocks us =
    let trees = ordered_trees blocks all_kinds (map chunk_piece us) 2 11 kinds_rise (ordered_chunks us 11 (omega arith)) in
    let free = ordered_list FreeList (number_of Ag) list (flat_map (tree_pieces blocks) all_kinds ++ map chunk_piece us) 2 (omega arith) refl refl trees in
    subst (Ordered 0) (sym (from_right (block_piece Heads (number_of Fs) 0) (log_pieces log g) (map (block_piece FreeList (number_of Ag)) list) (flat_map (tree_pieces blocks) all_kinds) (map chunk_piece us)))
    (omega arith, refl, refl, ordered_log log g (map (block_piece FreeList (number_of Ag)) list ++ (flat_map (tree_pieces blocks) all_kinds ++ map chunk_piece us)) free)

-- ---- the whole

-- the claims of a group's metadata, where nothing is reserved or in limbo
abbrev pub plain_claims : Option Run3 → ℕ → List ℕ → (Kind → List ℕ) → List ℕ → List Claimed
plain_claims log g list blocks us =
    claimed_by Heads (number_of Fs) 0 ∷ log_claims log g
    ++ map (claimed_by FreeList (number_of Ag)) list
    ++ flat_map (λ k. map (claimed_by (Tree k) (tree_owner k)) (blocks k)) all_kinds
    ++ flat_map (λ u. map (claimed_by Chunk (number_of Inodes)) (numbers (8 * u) 8)) us

all_said : (log : Option Run3) (g : ℕ) (list : List ℕ) (blocks : Kind → List ℕ) (us : List ℕ) → said (metadata_pieces log g list blocks us) ≡ map seen (plain_claims log g list blocks us)
unfolding metadata_pieces
all_said log g list blocks us =
    let free_claims = map (claimed_by FreeList (number_of Ag)) list in
    let tree_claims = flat_map (λ k. map (claimed_by (Tree k) (tree_owner k)) (blocks k)) all_kinds in
    let chunk_claims = flat_map (λ u. map (claimed_by Chunk (number_of Inodes)) (numbers (8 * u) 8)) us in
    let fixed = block_piece Heads (number_of Fs) 0 ∷ log_pieces log g in
    let fixed_claims = claimed_by Heads (number_of Fs) 0 ∷ log_claims log g in
    let free = map (block_piece FreeList (number_of Ag)) list in
    let trees = flat_map (tree_pieces blocks) all_kinds in
    let first = two_said (block_piece Heads (number_of Fs) 0 ∷ []) (log_pieces log g) (claimed_by Heads (number_of Fs) 0 ∷ []) (log_claims log g) (run_said Heads (number_of Fs) 0 1 refl) (log_said log g) in
    let second = two_said fixed free fixed_claims free_claims first (list_said FreeList (number_of Ag) list refl) in
    let third = two_said (fixed ++ free) trees (fixed_claims ++ free_claims) tree_claims second (trees_said blocks all_kinds) in
    two_said ((fixed ++ free) ++ trees) (map chunk_piece us) ((fixed_claims ++ free_claims) ++ tree_claims) chunk_claims third (chunks_said us)

-- the blocks of a state's trees
abbrev pub blocks_in_state : Layout → Image → ℕ → Kind → List ℕ
blocks_in_state at image g k = blocks_of (((opened_state at image).group g).tree k).reading

pub metadata_plain : (at : Layout) (image : Image) (g : ℕ) → metadata_claims (opened_state at image) g ≡ plain_claims at.log g (heads_of at image g).list (blocks_in_state at image g) (chunks (opened_state at image) g)
unfolding metadata_claims group_of opened
metadata_plain at image g =
    let chunk_claims = flat_map (λ u. map (claimed_by Chunk (number_of Inodes)) (numbers (8 * u) 8)) (chunks (opened_state at image) g) in
    let front = ((claimed_by Heads (number_of Fs) 0 ∷ log_claims at.log g) ++ map (claimed_by FreeList (number_of Ag)) (heads_of at image g).list) ++ flat_map (λ k. map (claimed_by (Tree k) (tree_owner k)) (blocks_in_state at image g k)) all_kinds in
    ap (λ (cs : List Claimed). cs ++ chunk_claims) (append-nil (front ++ []) ∙ append-nil front)

pub metadata_said : (at : Layout) (image : Image) (g : ℕ) → map seen (metadata_claims (opened_state at image) g) ≡ said (metadata_pieces at.log g (heads_of at image g).list (blocks_in_state at image g) (chunks (opened_state at image) g))
metadata_said at image g = ap (map seen) (metadata_plain at image g) ∙ sym (all_said at.log g (heads_of at image g).list (blocks_in_state at image g) (chunks (opened_state at image) g))

-- ---- what is put one after the other

five : (p a b c d e : List Piece) → ((((p ++ a) ++ b) ++ c) ++ d) ++ e ≡ p ++ (((a ++ b) ++ (c ++ d)) ++ e)
five p a b c d e =
    ap (λ (xs : List Piece). ((xs ++ c) ++ d) ++ e) (append_assoc p a b)
    ∙ ap (λ (xs : List Piece). xs ++ e) (append_assoc (p ++ (a ++ b)) c d ∙ append_assoc p (a ++ b) (c ++ d))
    ∙ append_assoc p ((a ++ b) ++ (c ++ d)) e

pub all_put : (p q r s t u : List Piece) (log : Option Run3) (g : ℕ) (list : List ℕ) (blocks : Kind → List ℕ) (us : List ℕ)
    → q ≡ p ++ block_piece Heads (number_of Fs) 0 ∷ log_pieces log g → r ≡ q ++ map (block_piece FreeList (number_of Ag)) list
    → s ≡ r ++ flat_map (tree_pieces blocks) first_kinds → t ≡ s ++ flat_map (tree_pieces blocks) last_kinds → u ≡ t ++ map chunk_piece us
    → u ≡ p ++ metadata_pieces log g list blocks us
unfolding metadata_pieces
all_put p q r s t u log g list blocks us fixed free first last chunked =
    let a = block_piece Heads (number_of Fs) 0 ∷ log_pieces log g in
    let b = map (block_piece FreeList (number_of Ag)) list in
    let c = flat_map (tree_pieces blocks) first_kinds in
    let d = flat_map (tree_pieces blocks) last_kinds in
    let e = map chunk_piece us in
    chunked
    ∙ ap (λ (xs : List Piece). xs ++ e) (last ∙ ap (λ (xs : List Piece). xs ++ d) (first ∙ ap (λ (xs : List Piece). xs ++ c) (free ∙ ap (λ (xs : List Piece). xs ++ b) fixed)))
    ∙ five p a b c d e
    ∙ ap (λ (xs : List Piece). p ++ (((a ++ b) ++ xs) ++ e)) (sym (flat_map-append (tree_pieces blocks) first_kinds last_kinds))

looked_blocks : (log : Option Run3) (g : ℕ) (list : List ℕ) (blocks : Kind → List ℕ) (us : List ℕ) → claimed_blocks Metadata (metadata_pieces log g list blocks us) ≡ blocks_in (metadata_pieces log g list blocks us)
unfolding claimed_blocks
looked_blocks log g list blocks us =
    let ps = metadata_pieces log g list blocks us in
    let h = ordered_all log g list blocks us in
    ap (λ (qs : List Piece). blocks_in (in_order qs)) (all_looked 0 ps h) ∙ ap (λ (qs : List Piece). blocks_in qs) (sorted 0 ps h)

keep_if : (b : Bool) (c : Claimed) (cs : List Claimed) → map seen (if b then c ∷ cs else cs) ≡ (if b then seen c ∷ map seen cs else map seen cs)
keep_if true c cs = refl
keep_if false c cs = refl

filter_seen : (b : ℕ) (cs : List Claimed) → map seen (filter (λ c. c.block == b) cs) ≡ filter (λ (s : ℕ × (Claim × Bool)). s.0 == b) (map seen cs)
filter_seen b [] = refl
filter_seen b (c ∷ cs) = keep_if (c.block == b) c (filter (λ d. d.block == b) cs) ∙ ap (λ xs. if c.block == b then seen c ∷ xs else xs) (filter_seen b cs)

same_seen : (cs ds : List Claimed) → map seen cs ≡ map seen ds → (b : ℕ) → map seen (filter (λ c. c.block == b) cs) ≡ map seen (filter (λ c. c.block == b) ds)
same_seen cs ds same b = filter_seen b cs ∙ ap (filter (λ (s : ℕ × (Claim × Bool)). s.0 == b)) same ∙ sym (filter_seen b ds)

-- the pieces of a group's metadata stand for its claims
pub metadata_stands : (at : Layout) (image : Image) (g : ℕ) (ps : List Piece) → ps ≡ metadata_pieces at.log g (heads_of at image g).list (blocks_in_state at image g) (chunks (opened_state at image) g) → StandFor Metadata ps (metadata_claims (opened_state at image) g)
metadata_stands at image g ps is =
    let whole = metadata_pieces at.log g (heads_of at image g).list (blocks_in_state at image g) (chunks (opened_state at image) g) in
    same_seen (metadata_claims (opened_state at image) g) (claimed_blocks Metadata ps)
    (metadata_said at image g ∙ ap (map seen) (sym (looked_blocks at.log g (heads_of at image g).list (blocks_in_state at image g) (chunks (opened_state at image) g))) ∙ ap (λ (qs : List Piece). map seen (claimed_blocks Metadata qs)) (sym is))

-- ---- the pieces lie in the group

below_both : (len : ℕ) (ps qs : List Piece) → LieBelow len ps → LieBelow len qs → LieBelow len (ps ++ qs)
below_both len [] qs h k = k
below_both len (p ∷ ps) qs h k = (h.0, below_both len ps qs h.1 k)

below_list : (c : Claim) (owner len : ℕ) (bs : List ℕ) → LieInside len bs → LieBelow len (map (block_piece c owner) bs)
below_list c owner len [] h = tt
below_list c owner len (b ∷ bs) h = (let lt = ltb-true b len h.0 in omega (arith, lt), below_list c owner len bs h.1)

below_trees : (len : ℕ) (blocks : Kind → List ℕ) (ks : List Kind) → ((k : Kind) → LieInside len (blocks k)) → LieBelow len (flat_map (tree_pieces blocks) ks)
below_trees len blocks [] h = tt
below_trees len blocks (k ∷ ks) h = below_both len (tree_pieces blocks k) (flat_map (tree_pieces blocks) ks) (below_list (Tree k) (tree_owner k) len (blocks k) (h k)) (below_trees len blocks ks h)

below_chunks : (len : ℕ) (us : List ℕ) → AreInside len us → LieBelow len (map chunk_piece us)
below_chunks len [] h = tt
below_chunks len (u ∷ us) h = (h.0, below_chunks len us h.1)

below_if : (len : ℕ) (b : Bool) (run : Run3) → (b ≡ true → run.start + run.count ≤ len) → LieBelow len (if b then piece_of Log (number_of OfLog) run.start run.count ∷ [] else [])
below_if len true run h = (h refl, tt)
below_if len false run h = tt

below_log : (at : Layout) (log : Option Run3) (g : ℕ) → ForSome log (λ run. HoldsLog at.agblocks at.agcount at.dblocks run) → LieBelow (group_len_of at g) (log_pieces log g)
below_log at None g h = tt
below_log at (Some run) g h =
    below_if (group_len_of at g) (run.group == g) run (λ is. let same : run.group ≡ g = eqb-true run.group g is in subst (λ (x : ℕ). run.start + run.count ≤ group_len_of at x) same (h run refl).inside)

long_or : (b : Bool) (x y : ℕ) → 64 ≤ x → 64 ≤ y → 1 ≤ (if b then x else y)
long_or true x y p q = omega (arith, p)
long_or false x y p q = omega (arith, q)

pub some_blocks : (at : Layout) (g : ℕ) → HasFitting at → 1 ≤ group_len_of at g
some_blocks at g fit = long_or (g + 1 == at.agcount) (at.dblocks - (at.agcount - 1) * at.agblocks) at.agblocks fit.last_long fit.long_groups

pub metadata_below : (at : Layout) (g : ℕ) (list : List ℕ) (blocks : Kind → List ℕ) (us : List ℕ) → 1 ≤ group_len_of at g → ForSome at.log (λ run. HoldsLog at.agblocks at.agcount at.dblocks run) → LieInside (group_len_of at g) list → ((k : Kind) → LieInside (group_len_of at g) (blocks k)) → AreInside (group_len_of at g) us → LieBelow (group_len_of at g) (metadata_pieces at.log g list blocks us)
unfolding metadata_pieces
metadata_below at g list blocks us some log free trees chunked =
    let len = group_len_of at g in
    let fixed = block_piece Heads (number_of Fs) 0 ∷ log_pieces at.log g in
    below_both len ((fixed ++ map (block_piece FreeList (number_of Ag)) list) ++ flat_map (tree_pieces blocks) all_kinds) (map chunk_piece us)
    (below_both len (fixed ++ map (block_piece FreeList (number_of Ag)) list) (flat_map (tree_pieces blocks) all_kinds)
    (below_both len fixed (map (block_piece FreeList (number_of Ag)) list) (some_more some (below_log at at.log g log)) (below_list FreeList (number_of Ag) len list free))
    (below_trees len blocks all_kinds trees))
    (below_chunks len us chunked) where
      some_more : 1 ≤ group_len_of at g → LieBelow (group_len_of at g) (log_pieces at.log g) → LieBelow (group_len_of at g) (block_piece Heads (number_of Fs) 0 ∷ log_pieces at.log g)
      some_more le h = (omega (arith, le), h)

-- the blocks of trees that are those of the state
pub blocks_same : (at : Layout) (image : Image) (g : ℕ) (trees : GroupTrees) → AreTrees at image g trees → (k : Kind) → tree_blocks trees k ≡ blocks_in_state at image g k
blocks_same at image g trees are kinds.Bno = ap blocks_of (sym are.bno)
blocks_same at image g trees are kinds.Cnt = ap blocks_of (sym are.cnt)
blocks_same at image g trees are kinds.Rmap = ap blocks_of (sym are.rmap)
blocks_same at image g trees are kinds.Refc = ap blocks_of (sym are.refc)
blocks_same at image g trees are kinds.Ino = ap blocks_of (sym are.ino)
blocks_same at image g trees are kinds.Fino = ap blocks_of (sym are.fino)

pub pieces_same : (log : Option Run3) (g : ℕ) (list : List ℕ) (blocks others : Kind → List ℕ) (us : List ℕ) → ((k : Kind) → blocks k ≡ others k) → metadata_pieces log g list blocks us ≡ metadata_pieces log g list others us
unfolding metadata_pieces
pieces_same log g list blocks others us same =
    ap (λ (ts : List Piece). (((block_piece Heads (number_of Fs) 0 ∷ log_pieces log g) ++ map (block_piece FreeList (number_of Ag)) list) ++ ts) ++ map chunk_piece us) (each all_kinds) where
      each : (ks : List Kind) → flat_map (tree_pieces blocks) ks ≡ flat_map (tree_pieces others) ks
      each [] = refl
      each (k ∷ ks) = λ i. map (block_piece (Tree k) (tree_owner k)) (same k i) ++ each ks i

-- the first overlap of the pieces is that of the group's metadata
pub overlap_said : (at : Layout) (image : Image) (g : ℕ) (list : List ℕ) (trees : GroupTrees) (us : List ℕ) (none ps : List Piece) (found : Option Evidence)
    → ForSome at.log (λ run. HoldsLog at.agblocks at.agcount at.dblocks run) → LieInside (group_len_of at g) list → AreSoundTrees at g trees → AreInside (group_len_of at g) us
    → none ≡ [] → ps ≡ none ++ metadata_pieces at.log g list (tree_blocks trees) us
    → 1 ≤ group_len_of at g → IsFirstOverlap Metadata ps found
    → AreTrees at image g trees → list ≡ (heads_of at image g).list → us ≡ chunks (opened_state at image) g → found ≡ first_overlap (opened_state at image) g (metadata_claims (opened_state at image) g)
overlap_said at image g list trees us none ps found log free sound inside empty put some first are listed chunked =
    let plain : ps ≡ metadata_pieces at.log g list (tree_blocks trees) us = put ∙ ap (λ (qs : List Piece). qs ++ metadata_pieces at.log g list (tree_blocks trees) us) empty in
    let below : LieBelow (group_len_of at g) ps = subst (LieBelow (group_len_of at g)) (sym plain) (metadata_below at g list (tree_blocks trees) us some log free sound.inside inside) in
    let whole = plain ∙ pieces_same at.log g list (tree_blocks trees) (blocks_in_state at image g) us (blocks_same at image g trees are)
    ∙ ap (λ (xs : List ℕ). metadata_pieces at.log g xs (blocks_in_state at image g) us) listed
    ∙ ap (λ (xs : List ℕ). metadata_pieces at.log g (heads_of at image g).list (blocks_in_state at image g) xs) chunked in
    in_group_lem Metadata ps found (opened_state at image) g (metadata_claims (opened_state at image) g) below (metadata_stands at image g ps whole) first

pub overlap_all : (at : Layout) (g : ℕ) (list : List ℕ) (trees : GroupTrees) (us : List ℕ) (none ps : List Piece) (found : Option Evidence)
    → ForSome at.log (λ run. HoldsLog at.agblocks at.agcount at.dblocks run) → LieInside (group_len_of at g) list → AreSoundTrees at g trees → AreInside (group_len_of at g) us
    → none ≡ [] → ps ≡ none ++ metadata_pieces at.log g list (tree_blocks trees) us → 1 ≤ group_len_of at g → IsFirstOverlap Metadata ps found
    → (image : Image) → AreTrees at image g trees → list ≡ (heads_of at image g).list → us ≡ chunks (opened_state at image) g → found ≡ first_overlap (opened_state at image) g (metadata_claims (opened_state at image) g)
overlap_all at g list trees us none ps found log free sound inside empty put some first image = overlap_said at image g list trees us none ps found log free sound inside empty put some first
