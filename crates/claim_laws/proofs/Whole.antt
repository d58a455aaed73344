-- Pieces that stand for the claims on a group's blocks: their first overlap, and their runs.
use Rattle.std.proofs.Common.{◌≡◌, ◌<◌, ◌≤◌, ◌+◌, ◌-◌, ◌^◌, ℕ, Bool, true, false, cond, not, ◌&&◌, ◌==◌, List, [], ◌∷◌, ◌++◌, map, All, Option, None, Ok, Err, refl, ap, sym, subst, ◌∙◌, inl, inr, arith, append_assoc}
use Rattle.std.specs.Prelude.{⊤, flat_map, if◌then◌else◌}
use Rattle.std.specs.List.{filter}
use Rattle.std.specs.List.Sorted.{IsPermutation}
use Rattle.std.proofs.lemmas.Bool.{cases_eq, lt-ltb}
use Rattle.std.proofs.lemmas.List.{append-nil, map-append}
use Rattle.std.proofs.lemmas.List.Elements.{All-append}
use Rattle.std.proofs.lemmas.List.Sorted.{All-permutation, IsPermutation-append_comm, IsPermutation-append_left, IsPermutation-append_right, IsPermutation-map, IsPermutation-refl, IsPermutation-sym, IsPermutation-trans}
use Rattle.dinode_core.specs.declared.mapping.Fork.{Fork}
use Rattle.dinode_core.specs.declared.mapping.Fork.TheVariants as forks
use Rattle.fs_state.specs.Chunks.{inodes}
use Rattle.fs_state.specs.Claims.{Claimed, attribute, attribute_claims, claims, data_claims, fork_claims, fork_of, read_fork, tree_claims}
use Rattle.fs_state.specs.Contradiction.{first_overlap, is_data}
use Rattle.fs_state.specs.Own.{rmap_of, tuple_of}
use Rattle.fs_model.specs.declared.claim.Claim.{Claim}
use Rattle.fs_model.specs.declared.claim.Claim.TheVariants.{Heads, Log, List as FreeList, Tree, Reserve, Limbo, Chunk, Data, Attr, ForkTree, Staging}
use Rattle.fs_model.specs.declared.claim.Evidence.{Evidence}
use Rattle.fs_state.specs.State.{State}
use Rattle.geom.specs.Apart.{HasFitting}
use Rattle.geom.specs.Layout.{group_len_of}
use Rattle.index_derive.proofs.OwnerLemmas.{only_claimed}
use Rattle.index_derive.specs.Owners.{AreOrderly, claimed_tuples}
use Rattle.plan_laws.proofs.Lying.{claimed_once_lem}
use Rattle.plan_laws.specs.Lying.{AreWrittenOnce}
use Rattle.rmap_recs.specs.Owners.{is_inode}
use Rattle.rmap_recs.specs.Runs.{AreRuns}
use Rattle.rmap_recs.specs.Words.{is_unwritten}
use Rattle.rmap_recs.specs.declared.records.Key.{Key}
use Rattle.rmap_recs.specs.declared.records.RmapRec.{RmapRec}
use Rattle.rmap_recs.specs.declared.tuples.Tuple.{Tuple}
use Rattle.run_edits.specs.Edits.{HasRoom}
use Rattle.run_edits.specs.Pieces.{AreTuplesOf}
use Rattle.unit_plan.proofs.Counting.{many, permuted}
use Rattle.unit_plan.proofs.LawLemmas.{any_order_lem, in_group_lem}
use Rattle.unit_plan.specs.Group.{AreClaimsOf, AreGoodForks, FromPlace, claims_of, fork_pieces, mapping_pieces, tree_pieces}
use Rattle.unit_plan.specs.Joined.{ClaimOnce, has_key, how_many}
use Rattle.unit_plan.specs.Laws.{StandFor, seen}
use Rattle.unit_plan.specs.Lost.{of_piece}
use Rattle.unit_plan.specs.Order.{is_first, place}
use Rattle.unit_plan.specs.Pieces.{blocks_of, claimed_blocks, in_order, is_hard, is_looked_at}
use Rattle.unit_plan.specs.Sets.{IsFirstOverlap, LieBelow}
use Rattle.unit_plan.specs.declared.piece.Among.TheVariants.{All as AllClaims}
use Rattle.unit_plan.specs.declared.piece.Piece.{Piece}
use Rattle.claim_laws.proofs.Forks.{AllRoom, Good, all_rooms, below_both, good_from, many_append, mappings_claimed, mappings_low, mappings_room, mappings_sort, mappings_steady, once_each, other_owner, room_both, trees_claim, trees_claimed, trees_low, trees_room}
use Rattle.claim_laws.proofs.Inodes.{Up, inodes_up, len_short, up_le}
use Rattle.claim_laws.proofs.Ordered.{After, AllClaim, claim_both, inos_after, no_first, own_after, sorted}
use Rattle.claim_laws.proofs.Pieces.{AllSteady, all_said, claims_both, next, steady_both, steady_other, tuples_are, tuples_move, untied}
use Rattle.claim_laws.specs.Whole.{MappingsOfGroup, OverlapOfGroup}

-- ---- two kinds of piece, inode by inode, as all of one and then all of the other

apart : (f h : ℕ → List Piece) (xs : List ℕ) → IsPermutation (flat_map (λ x. f x ++ h x) xs) (flat_map f xs ++ flat_map h xs)
apart f h [] = IsPermutation-refl []
apart f h (x ∷ xs) =
    let both = flat_map (λ y. f y ++ h y) xs in
    let fs = flat_map f xs in
    let hs = flat_map h xs in
    let before : (f x ++ h x) ++ (fs ++ hs) ≡ f x ++ ((h x ++ fs) ++ hs) = append_assoc (f x) (h x) (fs ++ hs) ∙ ap (λ (ps : List Piece). f x ++ ps) (sym (append_assoc (h x) fs hs)) in
    let behind : f x ++ ((fs ++ h x) ++ hs) ≡ (f x ++ fs) ++ (h x ++ hs) = ap (λ (ps : List Piece). f x ++ ps) (append_assoc fs (h x) hs) ∙ sym (append_assoc (f x) fs (h x ++ hs)) in
    let first : IsPermutation ((f x ++ h x) ++ both) (f x ++ ((h x ++ fs) ++ hs)) = subst (IsPermutation ((f x ++ h x) ++ both)) before (IsPermutation-append_right (f x ++ h x) both (fs ++ hs) (apart f h xs)) in
    let second : IsPermutation (f x ++ ((h x ++ fs) ++ hs)) ((f x ++ fs) ++ (h x ++ hs)) =
    subst (IsPermutation (f x ++ ((h x ++ fs) ++ hs))) behind (IsPermutation-append_right (f x) ((h x ++ fs) ++ hs) ((fs ++ h x) ++ hs) (IsPermutation-append_left hs (h x ++ fs) (fs ++ h x) (IsPermutation-append_comm (h x) fs))) in
    IsPermutation-trans ((f x ++ h x) ++ both) (f x ++ ((h x ++ fs) ++ hs)) ((f x ++ fs) ++ (h x ++ hs)) first second

-- ---- what holds of each inode's pieces holds of all

small : (x hi : ℕ) → x + 1 ≤ hi → hi ≤ 2 ^ 49 → is_inode x ≡ true
small x hi le top = lt-ltb x (2 ^ 64 - 9) (omega (arith, le, top))

over : (P : List Piece → Type 0) → P [] → ((ps qs : List Piece) → P ps → P qs → P (ps ++ qs)) → (f : ℕ → List Piece) → ((ino : ℕ) → is_inode ino ≡ true → P (f ino)) → (lo hi : ℕ) (inos : List ℕ) → Up lo hi inos → hi ≤ 2 ^ 49 → P (flat_map f inos)
over P none both f each lo hi [] up top = none
over P none both f each lo hi (ino ∷ inos) up top =
    both (f ino) (flat_map f inos) (each ino (small ino hi (up_le (ino + 1) hi inos up.1) top)) (over P none both f each (ino + 1) hi inos up.1 top)

over_claims : (f : ℕ → List Piece) (h : ℕ → List Claimed) → ((ino : ℕ) → is_inode ino ≡ true → claims_of (f ino) ≡ h ino) → (lo hi : ℕ) (inos : List ℕ) → Up lo hi inos → hi ≤ 2 ^ 49 → claims_of (flat_map f inos) ≡ flat_map h inos
over_claims f h each lo hi [] up top = refl
over_claims f h each lo hi (ino ∷ inos) up top =
    let one = each ino (small ino hi (up_le (ino + 1) hi inos up.1) top) in
    let rest = over_claims f h each (ino + 1) hi inos up.1 top in
    claims_both (f ino) (flat_map f inos) ∙ (λ i. one i ++ rest i)

-- ---- pieces of no file data

abbrev NoData : List Piece → Type 0
NoData [] = ⊤
NoData (p ∷ ps) = (is_data p.claim ≡ false) × NoData ps

no_data_both : (ps qs : List Piece) → NoData ps → NoData qs → NoData (ps ++ qs)
no_data_both [] qs h k = k
no_data_both (p ∷ ps) qs h k = (h.0, no_data_both ps qs h.1 k)

no_data_claim : (c : Claim) (ps : List Piece) → is_data c ≡ false → AllClaim c ps → NoData ps
no_data_claim c [] none h = tt
no_data_claim c (p ∷ ps) none h = (ap is_data h.0 ∙ none, no_data_claim c ps none h.1)

low_place : (c : Claim) → place c ≤ 11 → is_data c ≡ false
low_place Heads le = refl
low_place Log le = refl
low_place FreeList le = refl
low_place (Tree kind) le = refl
low_place Reserve le = refl
low_place Limbo le = refl
low_place Chunk le = refl
low_place (Data ino) le = absurd (omega (arith, le))
low_place (Attr ino) le = refl
low_place (ForkTree ino) le = refl
low_place Staging le = refl

own_no_data : (n : ℕ) (own : List Piece) → FromPlace n own → NoData own
own_no_data n [] h = tt
own_no_data n (p ∷ ps) h = (low_place p.claim h.1, own_no_data (place p.claim) ps h.3)

no_data_steady : (ps : List Piece) → NoData ps → AllSteady ps
no_data_steady [] h = tt
no_data_steady (p ∷ ps) h = (steady_other p h.0, no_data_steady ps h.1)

-- ---- counts

count_is : {X : Type 0} (t : X → Bool) (xs : List X) → how_many t xs ≡ many t xs
count_is t [] = refl
count_is t (x ∷ xs) = ap (λ (n : ℕ). cond (t x) (1 + n) n) (count_is t xs)

fewer : {X : Type 0} (s t : X → Bool) (xs : List X) → many (λ x. s x && t x) xs ≤ many t xs
fewer s t [] = omega arith
fewer s t (x ∷ xs) = let rest = fewer s t xs in step (s x) (t x) (many (λ y. s y && t y) xs) (many t xs) rest where
  step : (a b : Bool) (m n : ℕ) → m ≤ n → cond (a && b) (1 + m) m ≤ cond b (1 + n) n
  step true true m n le = omega (arith, le)
  step true false m n le = le
  step false true m n le = omega (arith, le)
  step false false m n le = le

abbrev soft_with : Key → Piece → Bool
soft_with k p = not (is_hard p) && has_key k (of_piece p)

none_soft : (k : Key) (ps : List Piece) → NoData ps → many (soft_with k) ps ≡ 0
none_soft k [] h = refl
none_soft k (p ∷ ps) h =
    let hard : soft_with k p ≡ false = ap (λ (b : Bool). not (not (b && not (is_unwritten p.word))) && has_key k (of_piece p)) h.0 in
    ap (λ (b : Bool). cond b (1 + many (soft_with k) ps) (many (soft_with k) ps)) hard ∙ none_soft k ps h.1

-- ---- claims that look the same

keep_if : (b : Bool) (c : Claimed) (cs : List Claimed) → map seen (if b then c ∷ cs else cs) ≡ (if b then seen c ∷ map seen cs else map seen cs)
keep_if true c cs = refl
keep_if false c cs = refl

filter_seen : (b : ℕ) (cs : List Claimed) → map seen (filter (λ c. c.block == b) cs) ≡ filter (λ (s : ℕ × (Claim × Bool)). s.0 == b) (map seen cs)
filter_seen b [] = refl
filter_seen b (c ∷ cs) = keep_if (c.block == b) c (filter (λ d. d.block == b) cs) ∙ ap (λ xs. if c.block == b then seen c ∷ xs else xs) (filter_seen b cs)

same_seen : (cs ds : List Claimed) → map seen cs ≡ map seen ds → (b : ℕ) → map seen (filter (λ c. c.block == b) cs) ≡ map seen (filter (λ c. c.block == b) ds)
same_seen cs ds same b = filter_seen b cs ∙ (ap (filter (λ (s : ℕ × (Claim × Bool)). s.0 == b)) same ∙ sym (filter_seen b ds))

all_looked : (ps : List Piece) → filter (λ p. is_looked_at AllClaims p.claim) ps ≡ ps
all_looked [] = refl
all_looked (p ∷ ps) = ap (λ (qs : List Piece). p ∷ qs) (all_looked ps)

-- ---- a group

module _ (a : State) (g : ℕ) (fit : HasFitting a.geometry) (good : AreGoodForks a) where
  fork_good : (ino : ℕ) (f : Fork) → Good a.geometry (fork_of a ino f).mappings
  fork_good ino f = (elim (a.fork ino f) as (λ r. a.fork ino f ≡ r → Good a.geometry (read_fork r).mappings) [
    | Ok list ↦ λ e. good_from a.geometry f list.mappings (good ino f list e)
    | Err fault ↦ λ e. tt
  ]) refl

  abbrev data_of : ℕ → List Piece
  data_of ino = mapping_pieces a.geometry g (Data ino) ino 0 (fork_of a ino forks.Data).mappings

  abbrev attr_of : ℕ → List Piece
  attr_of ino = mapping_pieces a.geometry g (Attr ino) ino attribute (fork_of a ino forks.Attr).mappings

  abbrev trees_of : ℕ → List Piece
  trees_of ino = tree_pieces a.geometry g ino 0 (map (λ b. b.block) (fork_of a ino forks.Data).blocks) ++ tree_pieces a.geometry g ino attribute (map (λ b. b.block) (fork_of a ino forks.Attr).blocks)

  abbrev in_forks : List Piece
  in_forks = flat_map data_of (inodes a) ++ (flat_map attr_of (inodes a) ++ flat_map trees_of (inodes a))

  forks_same : IsPermutation (fork_pieces a g (inodes a)) in_forks
  forks_same =
      let others = flat_map (λ x. attr_of x ++ trees_of x) (inodes a) in
      IsPermutation-trans (fork_pieces a g (inodes a)) (flat_map data_of (inodes a) ++ others) in_forks (apart data_of (λ x. attr_of x ++ trees_of x) (inodes a))
      (IsPermutation-append_right (flat_map data_of (inodes a)) others (flat_map attr_of (inodes a) ++ flat_map trees_of (inodes a)) (apart attr_of trees_of (inodes a)))

  abbrev top : ℕ
  top = (inodes_up a fit).0

  up : Up 0 top (inodes a)
  up = (inodes_up a fit).1

  few : top ≤ 2 ^ 49
  few = (inodes_up a fit).2

  short : group_len_of a.geometry g < 2 ^ 32
  short = let le = len_short a fit g in omega (arith, le)

  -- ---- their claims

  trees_are : (ino : ℕ) → is_inode ino ≡ true → claims_of (trees_of ino) ≡ tree_claims a g ino
  trees_are ino is =
      claims_both (tree_pieces a.geometry g ino 0 (map (λ b. b.block) (fork_of a ino forks.Data).blocks)) (tree_pieces a.geometry g ino attribute (map (λ b. b.block) (fork_of a ino forks.Attr).blocks))
      ∙ (λ i. trees_claimed a.geometry g ino 0 (fork_of a ino forks.Data).blocks i ++ trees_claimed a.geometry g ino attribute (fork_of a ino forks.Attr).blocks i)

  forks_claimed : claims_of in_forks ≡ fork_claims a g
  unfolding fork_claims
  forks_claimed =
      let first = over_claims data_of (data_claims a g) (λ ino is. mappings_claimed a.geometry g (Data ino) ino 0 is (inl refl) (fork_of a ino forks.Data).mappings (fork_good ino forks.Data)) 0 top (inodes a) up few in
      let second = over_claims attr_of (attribute_claims a g) (λ ino is. mappings_claimed a.geometry g (Attr ino) ino attribute is (inr refl) (fork_of a ino forks.Attr).mappings (fork_good ino forks.Attr)) 0 top (inodes a) up few in
      let third = over_claims trees_of (tree_claims a g) trees_are 0 top (inodes a) up few in
      claims_both (flat_map data_of (inodes a)) (flat_map attr_of (inodes a) ++ flat_map trees_of (inodes a))
      ∙ (ap (λ (cs : List Claimed). claims_of (flat_map data_of (inodes a)) ++ cs) (claims_both (flat_map attr_of (inodes a)) (flat_map trees_of (inodes a)))
      ∙ ((λ i. first i ++ (second i ++ third i)) ∙ sym (append_assoc (flat_map (data_claims a g) (inodes a)) (flat_map (attribute_claims a g) (inodes a)) (flat_map (tree_claims a g) (inodes a)))))

  -- ---- their order

  trees_sort : (ino : ℕ) → AllClaim (ForkTree ino) (trees_of ino)
  trees_sort ino =
      claim_both (ForkTree ino) (tree_pieces a.geometry g ino 0 (map (λ b. b.block) (fork_of a ino forks.Data).blocks)) (tree_pieces a.geometry g ino attribute (map (λ b. b.block) (fork_of a ino forks.Attr).blocks))
      (trees_claim a.geometry g ino 0 (map (λ b. b.block) (fork_of a ino forks.Data).blocks)) (trees_claim a.geometry g ino attribute (map (λ b. b.block) (fork_of a ino forks.Attr).blocks))

  data_sort : (ino : ℕ) → AllClaim (Data ino) (data_of ino)
  data_sort ino = mappings_sort a.geometry g (Data ino) ino 0 (fork_of a ino forks.Data).mappings

  attr_sort : (ino : ℕ) → AllClaim (Attr ino) (attr_of ino)
  attr_sort ino = mappings_sort a.geometry g (Attr ino) ino attribute (fork_of a ino forks.Attr).mappings

  at_same : (k : ℕ) → is_first k 0 k 0 ≡ false
  at_same k = no_first k 0 k 0 (omega arith) (omega arith)

  forks_after : After 12 0 in_forks
  forks_after =
      let trees = flat_map trees_of (inodes a) in
      let last : After 14 0 (trees ++ []) = inos_after 14 (λ ino. ForkTree ino) (λ ino. refl) (λ ino. refl) trees_of trees_sort 14 0 0 top (inodes a) [] up (at_same 14) tt in
      let third : After 14 0 trees = subst (After 14 0) (append-nil trees) last in
      let second : After 13 0 (flat_map attr_of (inodes a) ++ trees) = inos_after 13 (λ ino. Attr ino) (λ ino. refl) (λ ino. refl) attr_of attr_sort 13 0 0 top (inodes a) trees up (at_same 13) third in
      inos_after 12 (λ ino. Data ino) (λ ino. refl) (λ ino. refl) data_of data_sort 12 0 0 top (inodes a) (flat_map attr_of (inodes a) ++ trees) up (at_same 12) second

  -- ---- what else holds of them

  forks_steady : AllSteady in_forks
  forks_steady =
      steady_both (flat_map data_of (inodes a)) (flat_map attr_of (inodes a) ++ flat_map trees_of (inodes a))
      (over AllSteady tt steady_both data_of (λ ino is. mappings_steady a.geometry g (Data ino) ino 0 is (inl refl) refl (fork_of a ino forks.Data).mappings (fork_good ino forks.Data)) 0 top (inodes a) up few)
      (no_data_steady (flat_map attr_of (inodes a) ++ flat_map trees_of (inodes a)) others_no_data)
    where
      others_no_data : NoData (flat_map attr_of (inodes a) ++ flat_map trees_of (inodes a))
      others_no_data =
          no_data_both (flat_map attr_of (inodes a)) (flat_map trees_of (inodes a))
          (over NoData tt no_data_both attr_of (λ ino is. no_data_claim (Attr ino) (attr_of ino) refl (attr_sort ino)) 0 top (inodes a) up few)
          (over NoData tt no_data_both trees_of (λ ino is. no_data_claim (ForkTree ino) (trees_of ino) refl (trees_sort ino)) 0 top (inodes a) up few)

  forks_low : LieBelow (group_len_of a.geometry g) in_forks
  forks_low =
      below_both (group_len_of a.geometry g) (flat_map data_of (inodes a)) (flat_map attr_of (inodes a) ++ flat_map trees_of (inodes a))
      (over (LieBelow (group_len_of a.geometry g)) tt (below_both (group_len_of a.geometry g)) data_of (λ ino is. mappings_low a.geometry g (Data ino) ino 0 is (inl refl) (fork_of a ino forks.Data).mappings (fork_good ino forks.Data)) 0 top (inodes a) up few)
      (below_both (group_len_of a.geometry g) (flat_map attr_of (inodes a)) (flat_map trees_of (inodes a))
      (over (LieBelow (group_len_of a.geometry g)) tt (below_both (group_len_of a.geometry g)) attr_of (λ ino is. mappings_low a.geometry g (Attr ino) ino attribute is (inr refl) (fork_of a ino forks.Attr).mappings (fork_good ino forks.Attr)) 0 top (inodes a) up few)
      (over (LieBelow (group_len_of a.geometry g)) tt (below_both (group_len_of a.geometry g)) trees_of trees_below 0 top (inodes a) up few))
    where
      trees_below : (ino : ℕ) → is_inode ino ≡ true → LieBelow (group_len_of a.geometry g) (trees_of ino)
      trees_below ino is =
          below_both (group_len_of a.geometry g) (tree_pieces a.geometry g ino 0 (map (λ b. b.block) (fork_of a ino forks.Data).blocks)) (tree_pieces a.geometry g ino attribute (map (λ b. b.block) (fork_of a ino forks.Attr).blocks))
          (trees_low a.geometry g ino 0 (map (λ b. b.block) (fork_of a ino forks.Data).blocks)) (trees_low a.geometry g ino attribute (map (λ b. b.block) (fork_of a ino forks.Attr).blocks))

  forks_room : AllRoom in_forks
  forks_room =
      room_both (flat_map data_of (inodes a)) (flat_map attr_of (inodes a) ++ flat_map trees_of (inodes a))
      (over AllRoom tt room_both data_of (λ ino is. mappings_room a.geometry g (Data ino) ino 0 is (inl refl) short (fork_of a ino forks.Data).mappings (fork_good ino forks.Data)) 0 top (inodes a) up few)
      (room_both (flat_map attr_of (inodes a)) (flat_map trees_of (inodes a))
      (over AllRoom tt room_both attr_of (λ ino is. mappings_room a.geometry g (Attr ino) ino attribute is (inr refl) short (fork_of a ino forks.Attr).mappings (fork_good ino forks.Attr)) 0 top (inodes a) up few)
      (over AllRoom tt room_both trees_of trees_free 0 top (inodes a) up few))
    where
      trees_free : (ino : ℕ) → is_inode ino ≡ true → AllRoom (trees_of ino)
      trees_free ino is =
          room_both (tree_pieces a.geometry g ino 0 (map (λ b. b.block) (fork_of a ino forks.Data).blocks)) (tree_pieces a.geometry g ino attribute (map (λ b. b.block) (fork_of a ino forks.Attr).blocks))
          (trees_room a.geometry g ino 0 (inl refl) short (map (λ b. b.block) (fork_of a ino forks.Data).blocks)) (trees_room a.geometry g ino attribute (inr refl) short (map (λ b. b.block) (fork_of a ino forks.Attr).blocks))

  -- ---- file data is claimed once at an offset

  abbrev has_it : Key → Piece → Bool
  has_it k p = has_key k (of_piece p)

  none_later : (k : Key) (lo hi : ℕ) (inos : List ℕ) → Up lo hi inos → hi ≤ 2 ^ 49 → k.owner < lo → many (has_it k) (flat_map data_of inos) ≡ 0
  none_later k lo hi [] up few low = refl
  none_later k lo hi (ino ∷ inos) up few low =
      let start = up.0 in
      let is = small ino hi (up_le (ino + 1) hi inos up.1) few in
      let one = other_owner a.geometry g (Data ino) ino 0 is (inl refl) k (fork_of a ino forks.Data).mappings (fork_good ino forks.Data) (λ e. omega (arith, e, low, start)) in
      let rest = none_later k (ino + 1) hi inos up.1 few (omega (arith, low, start)) in
      let sum = many_append (has_it k) (data_of ino) (flat_map data_of inos) in
      omega (arith, one, rest, sum)

  once_in_all : (k : Key) (lo hi : ℕ) (inos : List ℕ) → Up lo hi inos → hi ≤ 2 ^ 49 → many (has_it k) (flat_map data_of inos) ≤ 1
  once_in_all k lo hi [] up few = omega arith
  once_in_all k lo hi (ino ∷ inos) up few =
      let is = small ino hi (up_le (ino + 1) hi inos up.1) few in
      let sum = many_append (has_it k) (data_of ino) (flat_map data_of inos) in
      elim (cases_eq k.owner ino) [
        | inl same ↦
            let one = once_each a.geometry g (Data ino) ino 0 is (inl refl) k (fork_of a ino forks.Data).mappings (fork_good ino forks.Data) in
            let rest = none_later k (ino + 1) hi inos up.1 few (omega (arith, same)) in
            omega (arith, one, rest, sum)
        | inr other ↦
            let one = other_owner a.geometry g (Data ino) ino 0 is (inl refl) k (fork_of a ino forks.Data).mappings (fork_good ino forks.Data) other in
            let rest = once_in_all k (ino + 1) hi inos up.1 few in
            omega (arith, one, rest, sum)
      ]

  -- ---- with the group's own metadata

  module _ (ps : List Piece) (are : AreClaimsOf a g ps) where
    abbrev own : List Piece
    own = are.own

    abbrev whole : List Piece
    whole = own ++ in_forks

    ps_same : IsPermutation ps whole
    ps_same = IsPermutation-trans ps (own ++ fork_pieces a g (inodes a)) whole are.all (IsPermutation-append_right own (fork_pieces a g (inodes a)) in_forks forks_same)

    whole_claimed : claims_of whole ≡ claims a g
    unfolding claims
    whole_claimed = claims_both own in_forks ∙ (λ i. are.metadata.metadata i ++ forks_claimed i)

    whole_in_order : in_order whole ≡ whole
    whole_in_order = sorted 0 0 whole (own_after 0 own in_forks (omega arith) are.metadata.order forks_after)

    whole_looked : claimed_blocks AllClaims whole ≡ blocks_of whole
    unfolding claimed_blocks
    whole_looked = ap (λ (qs : List Piece). blocks_of (in_order qs)) (all_looked whole) ∙ ap (λ (qs : List Piece). blocks_of qs) whole_in_order

    stands : StandFor AllClaims whole (claims a g)
    stands = same_seen (claims a g) (claimed_blocks AllClaims whole)
        (ap (map seen) (sym whole_claimed) ∙ (sym (all_said whole (steady_both own in_forks (no_data_steady own (own_no_data 0 own are.metadata.order)) forks_steady)) ∙ ap (map seen) (sym whole_looked)))

    whole_low : LieBelow (group_len_of a.geometry g) whole
    whole_low = below_both (group_len_of a.geometry g) own in_forks are.metadata.low forks_low

    pub overlap_is : (e : Option Evidence) → IsFirstOverlap AllClaims ps e → e ≡ first_overlap a g (claims a g)
    overlap_is e first = in_group_lem AllClaims whole e a g (claims a g) whole_low stands (any_order_lem AllClaims ps whole e ps_same first)

    written_once : AreWrittenOnce ps
    written_once k =
        let named = count_is (soft_with k) ps in
        let moved = permuted ps whole ps_same (soft_with k) in
        let first = many_append (soft_with k) own in_forks in
        let second = many_append (soft_with k) (flat_map data_of (inodes a)) (flat_map attr_of (inodes a) ++ flat_map trees_of (inodes a)) in
        let third = many_append (soft_with k) (flat_map attr_of (inodes a)) (flat_map trees_of (inodes a)) in
        let none_own = none_soft k own (own_no_data 0 own are.metadata.order) in
        let none_attr = none_soft k (flat_map attr_of (inodes a)) (over NoData tt no_data_both attr_of (λ ino is. no_data_claim (Attr ino) (attr_of ino) refl (attr_sort ino)) 0 top (inodes a) up few) in
        let none_trees = none_soft k (flat_map trees_of (inodes a)) (over NoData tt no_data_both trees_of (λ ino is. no_data_claim (ForkTree ino) (trees_of ino) refl (trees_sort ino)) 0 top (inodes a) up few) in
        let fewer_data = fewer (λ p. not (is_hard p)) (has_it k) (flat_map data_of (inodes a)) in
        let once_data = once_in_all k 0 top (inodes a) up few in
        omega (arith, named, moved, first, second, third, none_own, none_attr, none_trees, fewer_data, once_data)

    rooms : All HasRoom (map of_piece ps)
    rooms =
        All-permutation HasRoom (map of_piece whole) (map of_piece ps) (IsPermutation-map of_piece whole ps (IsPermutation-sym ps whole ps_same))
        (subst (All HasRoom) (sym (map-append of_piece own in_forks)) (All-append HasRoom (map of_piece own) (map of_piece in_forks) are.metadata.rooms (all_rooms in_forks forks_room)))

    tuples : AreTuplesOf (claimed_tuples a g) (map of_piece ps)
    tuples = tuples_move (claimed_tuples a g) ps whole ps_same (subst (λ (cs : List Claimed). AreTuplesOf (map tuple_of cs) (map of_piece whole)) whole_claimed (tuples_are whole))

    pub mappings_are : IsFirstOverlap AllClaims ps None → (recs : List RmapRec) → (ClaimOnce ps → (ts : List Tuple) → AreTuplesOf ts (map of_piece ps) → AreRuns ts recs) → recs ≡ rmap_of a g
    mappings_are none recs runs =
        let once = claimed_once_lem ps none written_once rooms in
        let orderly : AreOrderly (claimed_tuples a g) = record { untied = untied ps (claimed_tuples a g) once tuples; next = next ps (claimed_tuples a g) once tuples } in
        only_claimed a g orderly recs (runs once (claimed_tuples a g) tuples)

pub overlap_lem : OverlapOfGroup
overlap_lem a g ps e fit good are first = overlap_is a g fit good ps are e first

pub mappings_lem : MappingsOfGroup
mappings_lem a g ps recs fit good are none runs = mappings_are a g fit good ps are none recs runs
