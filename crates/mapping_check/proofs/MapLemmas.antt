-- What decides the reverse mappings of a group: a form that isn't supported, then the first overlap, then the faults.
use Rattle.std.proofs.Common.{◌≡◌, ℕ, ◌+◌, ◌<◌, ◌^◌, Bool, true, cond, List, [], ◌∷◌, ◌++◌, length, map, refl, ap, sym, subst, ◌∙◌, arith, Option, Some, None}
use Rattle.std.specs.List.Sorted.{IsPermutation}
use Rattle.std.specs.Option.{ForSome, option_or}
use Rattle.std.specs.Global.{Vec}
use Rattle.std.proofs.lemmas.List.{append-nil}
use Rattle.std.proofs.lemmas.List.Sorted.{All-permutation, Contains-permutation, IsPermutation-append_comm, IsPermutation-append_right, IsPermutation-map, IsPermutation-sym, IsPermutation-trans}
use Rattle.ag_headers.specs.declared.agf.Agf.{Agf}
use Rattle.claim_laws.specs.Whole.{ForksAreGood, MappingsOfGroup, OverlapOfGroup}
use Rattle.fs_state.specs.Chunks.{inodes}
use Rattle.fs_state.specs.Claims.{claims}
use Rattle.fs_state.specs.Contradiction.{evidence, first_bad_fork, first_contradiction, first_later, first_overlap, later_in}
use Rattle.fs_state.specs.Derive.{derive}
use Rattle.fs_state.specs.Faults.{blocks_counted, counter_fault, faults, faults_of_counter, faults_of_kind, index_faults, wanted}
use Rattle.fs_state.specs.Lists.{first_of_all}
use Rattle.fs_state.specs.Own.{rmap_of}
use Rattle.fs_model.specs.declared.claim.Evidence.{Evidence}
use Rattle.fs_model.specs.declared.fault.Counter.TheVariants.{RmapBlocks}
use Rattle.fs_model.specs.declared.fault.Fault.{Fault}
use Rattle.fs_model.specs.declared.unit.Unit.TheVariants as units
use Rattle.fs_state.specs.Kinds.{Image, form_of, heads_of}
use Rattle.fs_state.specs.Read.{group_of, opened}
use Rattle.fs_state.specs.State.{Reading, Readable, Unreadable}
use Rattle.geom.specs.Apart.{HasFitting}
use Rattle.geom.specs.Layout.{Layout, group_len_of}
use Rattle.geom.specs.Numbers.{HoldsLog}
use Rattle.group_trees.specs.Group.{AreInside, AreSoundTrees, AreTrees, tree_blocks}
use Rattle.group_trees.specs.Heads.{heads_seen}
use Rattle.group_trees.specs.Metadata.{metadata_pieces}
use Rattle.group_trees.specs.Trees.{FewBlocks, reading_of}
use Rattle.group_trees.specs.declared.group.GroupTrees.{GroupTrees}
use Rattle.group_trees.specs.declared.heads.GroupHeads.{GroupHeads}
use Rattle.inode_pass.specs.Units.{opened_state}
use Rattle.quiet_check.proofs.JudgeLemmas.{decided_as, one_of}
use Rattle.quiet_check.specs.Faults.{blocks_kept, faults_in, low}
use Rattle.quiet_check.specs.declared.judge.Judged.{Judged}
use Rattle.quiet_check.specs.declared.judge.Judged.TheVariants.{Faults, GaveUp}
use Rattle.rmap_recs.specs.Rmap.{rmap_form}
use Rattle.rmap_recs.specs.declared.records.Key.{Key}
use Rattle.rmap_recs.specs.declared.records.RmapRec.{RmapRec}
use Rattle.rmap_recs.specs.declared.tuples.Tuple.{Tuple}
use Rattle.run_edits.specs.Edits.{HasRoom}
use Rattle.run_edits.specs.Pieces.{AreTuplesOf}
use Rattle.sblock.specs.declared.kind.Kind.TheVariants.{Rmap}
use Rattle.tree_walk.specs.Trails.{LieInside}
use Rattle.unit_plan.proofs.Counting.{many, permuted}
use Rattle.unit_plan.specs.Group.{fork_pieces}
use Rattle.unit_plan.specs.Joined.{AreRunsOf, ClaimOnce, has_key, how_many}
use Rattle.unit_plan.specs.Lost.{of_piece}
use Rattle.unit_plan.specs.Sets.{IsFirstOverlap, pieces_of}
use Rattle.unit_plan.specs.declared.claims.ClaimSet.{ClaimSet}
use Rattle.unit_plan.specs.declared.piece.Among.TheVariants.{All as AllClaims}
use Rattle.unit_plan.specs.declared.piece.Piece.{Piece}
use Rattle.xref_scrub.specs.Shown.{rmap_shown}
use Rattle.mapping_check.specs.Mapped.{AreApart, AreFaultsOf, AreMaps, HasForks, IsClaimDecided, IsMappingJudged, mapping_faults}
use Rattle.mapping_check.proofs.OwnLemmas.{own_pieces}

-- ---- the same pieces in another order

many_is : {X : Type 0} (p : X → Bool) (xs : List X) → how_many p xs ≡ many p xs
many_is p [] = refl
many_is p (x ∷ xs) = ap (λ (n : ℕ). cond (p x) (1 + n) n) (many_is p xs)

tuples_moved : (ts : List Tuple) (ps qs : List Piece) → IsPermutation ps qs → AreTuplesOf ts (map of_piece ps) → AreTuplesOf ts (map of_piece qs)
tuples_moved ts ps qs same are =
    let moved = IsPermutation-map of_piece ps qs same in
    record {
      has = λ r c t h. are.has r (Contains-permutation (map of_piece qs) (map of_piece ps) r (IsPermutation-sym (map of_piece ps) (map of_piece qs) moved) c) t h;
      only = λ t c. (let of = are.only t c in (of.0, Contains-permutation (map of_piece ps) (map of_piece qs) of.0 moved of.1, of.2));
    }

module _ (ps qs : List Piece) (same : IsPermutation ps qs) where
  once_moved : ClaimOnce ps → ClaimOnce qs
  once_moved claims = record {
    once = λ k. (let e = counted k in let le = claims.once k in omega (arith, e, le));
    rooms = All-permutation HasRoom (map of_piece ps) (map of_piece qs) (IsPermutation-map of_piece ps qs same) claims.rooms;
  } where
    counted : (k : Key) → how_many (has_key k) (map of_piece qs) ≡ how_many (has_key k) (map of_piece ps)
    counted k = how_many_moved (has_key k)
      where
        how_many_moved : (p : RmapRec → Bool) → how_many p (map of_piece qs) ≡ how_many p (map of_piece ps)
        how_many_moved p = many_is p (map of_piece qs) ∙ (sym (permuted (map of_piece ps) (map of_piece qs) (IsPermutation-map of_piece ps qs same) p) ∙ sym (many_is p (map of_piece ps)))

  runs_moved : (recs : List RmapRec) → (ClaimOnce qs → AreRunsOf qs recs) → ClaimOnce ps → AreRunsOf ps recs
  runs_moved recs runs claims ts tuples = runs (once_moved claims) ts (tuples_moved ts ps qs same tuples)

-- ---- the faults

index_same : (d : List RmapRec) (r : Reading RmapRec) → faults_in rmap_form rmap_shown d r ≡ index_faults Rmap d r
unfolding form_of
index_same d (Readable recs blocks) = refl
index_same d (Unreadable block fault claims) = refl

low_is : (n : ℕ) → n < 2 ^ 32 → low n ≡ n
low_is n lt = omega (arith, lt)

kept_same : (r : Reading RmapRec) → FewBlocks r → blocks_kept true r ≡ blocks_counted r
kept_same (Readable recs blocks) few = ap {B = Option ℕ} Some (low_is (length blocks) few)
kept_same (Unreadable block fault claims) few = refl

module _ (at : Layout) (image : Image) (g : ℕ) (fit : HasFitting at) where
  faults_same : (agf : Agf) (trees : GroupTrees) (ps : List Piece) (recs : List RmapRec) → AreMaps at image g agf trees ps → recs ≡ rmap_of (opened_state at image) g → mapping_faults agf recs (reading_of trees.rmap) ≡ faults (opened_state at image) g units.Rmap
  unfolding faults mapping_faults derive wanted group_of
  faults_same agf trees ps recs maps is =
      let a = opened_state at image in
      let x : faults_in rmap_form rmap_shown recs (reading_of trees.rmap) ≡ faults_of_kind a g Rmap = index_same recs (reading_of trees.rmap) ∙ (λ i. index_faults Rmap (is i) (sym maps.trees_are.rmap i)) in
      let blocks = kept_same (reading_of trees.rmap) maps.trees_are.few_rmap ∙ ap blocks_counted (sym maps.trees_are.rmap) in
      let c : counter_fault RmapBlocks agf.rmap_blocks (blocks_kept true (reading_of trees.rmap)) ≡ faults_of_counter a g RmapBlocks = λ i. counter_fault RmapBlocks (maps.named i).rmap_blocks (blocks i) in
      (λ i. x i ++ c i) ∙ (λ i. sym (append-nil (faults_of_kind a g Rmap)) i ++ sym (append-nil (faults_of_counter a g RmapBlocks)) i)

  pub records_decide : MappingsOfGroup → ForksAreGood → (agf : Agf) (trees : GroupTrees) (ps qs : List Piece) (recs : List RmapRec) (found : Vec Fault) → (ClaimOnce qs → AreRunsOf qs recs) → found.items ≡ mapping_faults agf recs (reading_of trees.rmap) → AreApart ps qs → AreMaps at image g agf trees ps → AreFaultsOf at image g (Faults found)
  records_decide mappings_law good_law agf trees ps qs recs found runs are apart maps =
      let derived = mappings_law (opened_state at image) g ps recs fit (good_law at image (opened at image)) maps.pieces apart.none (runs_moved ps qs apart.same recs runs) in
      (refl, are ∙ faults_same agf trees ps recs maps derived)

  pub overlap_decides : OverlapOfGroup → ForksAreGood → (agf : Agf) (trees : GroupTrees) (ps : List Piece) (e : Evidence) → IsFirstOverlap AllClaims ps (Some e) → AreMaps at image g agf trees ps → IsClaimDecided at image g (GaveUp e)
  overlap_decides overlap_law good_law agf trees ps e first maps = sym (overlap_law (opened_state at image) g ps (Some e) fit (good_law at image (opened at image)) maps.pieces first)

  pub faults_decide : OverlapOfGroup → ForksAreGood → (agf : Agf) (trees : GroupTrees) (ps : List Piece) (j : Judged) → IsFirstOverlap AllClaims ps None → AreMaps at image g agf trees ps → AreFaultsOf at image g j → IsClaimDecided at image g j
  faults_decide overlap_law good_law agf trees ps j first maps decided =
      decided_as None (first_overlap (opened_state at image) g (claims (opened_state at image) g)) (faults (opened_state at image) g units.Rmap) j (overlap_law (opened_state at image) g ps None fit (good_law at image (opened at image)) maps.pieces first) decided

  -- ---- the whole evidence

  whole : first_bad_fork (opened_state at image) ≡ None → (trees : GroupTrees) → AreTrees at image g trees
      → evidence (opened_state at image) g units.Rmap ≡ first_of_all (first_of_all (later_in Rmap (reading_of trees.rmap) ∷ []) ∷ first_overlap (opened_state at image) g (claims (opened_state at image) g) ∷ [])
  unfolding evidence first_contradiction first_later
  whole none trees are =
      let a = opened_state at image in
      λ i. option_or (none i) (first_of_all (first_of_all (later_in Rmap (are.rmap i) ∷ []) ∷ first_overlap a g (claims a g) ∷ []))

  pub later_decides : (heads : GroupHeads) (trees : GroupTrees) (us : List ℕ) (set : ClaimSet) (e : Evidence) → Some e ≡ later_in Rmap (reading_of trees.rmap) → AreTrees at image g trees → IsMappingJudged at image g us set (GaveUp e)
  later_decides heads trees us set e is are forks =
      whole forks.none_bad trees are ∙ ap (λ o. first_of_all (first_of_all (o ∷ []) ∷ first_overlap (opened_state at image) g (claims (opened_state at image) g) ∷ [])) (sym is)

  pub claims_decide : (trees : GroupTrees) (us : List ℕ) (set : ClaimSet) (j : Judged) → None ≡ later_in Rmap (reading_of trees.rmap) → AreTrees at image g trees → (HasForks at image g us (pieces_of set) → IsClaimDecided at image g j) → IsMappingJudged at image g us set j
  claims_decide trees us set j none are decided forks =
      let ov = first_overlap (opened_state at image) g (claims (opened_state at image) g) in
      decided_as ov (evidence (opened_state at image) g units.Rmap) (faults (opened_state at image) g units.Rmap) j
      (sym (whole forks.none_bad trees are ∙ ap (λ o. first_of_all (first_of_all (o ∷ []) ∷ ov ∷ [])) (sym none) ∙ one_of ov))
      (decided forks)

  -- the group's own metadata behind the claims of the forks
  pub maps_put : (heads : GroupHeads) (trees : GroupTrees) (us : List ℕ) (old new : List Piece) → ForSome at.log (λ run. HoldsLog at.agblocks at.agcount at.dblocks run) → LieInside (group_len_of at g) heads.list.items → AreSoundTrees at g trees → AreInside (group_len_of at g) us
      → new ≡ old ++ metadata_pieces at.log g heads.list.items (tree_blocks trees) us → heads_seen heads ≡ heads_of at image g → AreTrees at image g trees → HasForks at image g us old → AreMaps at image g heads.agf trees new
  maps_put heads trees us old new log list sound inside put named are forks =
      let own = metadata_pieces at.log g heads.list.items (tree_blocks trees) us in
      let all = fork_pieces (opened_state at image) g (inodes (opened_state at image)) in
      record {
        named = ap (λ h. h.agf) named;
        trees_are = are;
        none_bad = forks.none_bad;
        pieces = record {
          own = own;
          metadata = own_pieces at image g heads.list.items trees us fit log list sound inside are (ap (λ h. h.list) named) forks.chunked;
          all = subst (λ (x : List Piece). IsPermutation x (own ++ all)) (sym put) (IsPermutation-trans (old ++ own) (own ++ old) (own ++ all) (IsPermutation-append_comm old own) (IsPermutation-append_right own old all forks.forks));
        };
      }
