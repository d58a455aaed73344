-- A fork that is read piece by piece.
use Rattle.std.proofs.Common.{◌≡◌, ℕ, zero, suc, ◌+◌, ◌-◌, ◌*◌, ◌<◌, ◌≤◌, Bool, true, false, List, [], ◌∷◌, ◌++◌, length, get_or, drop, Option, Some, None, Result, Ok, refl, ap, sym, subst, ◌∙◌, arith, append_assoc}
use Rattle.std.specs.Prelude.{IfOk, flat_map, not, ◌&&◌, ◌==◌, if◌then◌else◌}
use Rattle.std.specs.Option.{option_or}
use Rattle.std.proofs.Math.Nat.{mul-le-mul_left, mul-suc}
use Rattle.std.proofs.Math.Seq.{drop-cons}
use Rattle.std.proofs.lemmas.Grind.{flat_map-append}
use Rattle.std.proofs.lemmas.List.{append-nil, drop_all}
use Rattle.std.proofs.lemmas.Bool.{eqb-true, false≢true}
use Rattle.byte_fields.proofs.TestLemmas.{all_pass}
use Rattle.byte_fields.specs.Fields.{field}
use Rattle.dinode_core.specs.Core.{core_fault, core_of, core_tests}
use Rattle.dinode_core.specs.ForkTree.{Image, fork_fault, has_number, is_tree, met_of, walk_fault}
use Rattle.dinode_core.specs.Frame.{fork_in, list_of, list_or}
use Rattle.dinode_core.specs.Inline.{or_else, root_level}
use Rattle.dinode_core.specs.Shape.{area_of, count_of}
use Rattle.dinode_core.specs.declared.inode.Core3.{Core3}
use Rattle.dinode_core.specs.declared.mapping.Fork.{Fork}
use Rattle.dinode_core.specs.declared.mapping.Fork.TheVariants as forks
use Rattle.dinode_core.specs.declared.mapping.ForkFault.{ForkFault}
use Rattle.dinode_core.specs.declared.mapping.ForkFault.TheVariants as faults
use Rattle.dinode_core.specs.declared.mapping.Mapping.{Mapping}
use Rattle.blk_device.specs.Causes.{HasCause, MovesOnly}
use Rattle.dinode_core.specs.declared.inode.CoreFault.{CoreFault}
use Rattle.fork_read.specs.Answers.{is_failed as is_failed_read}
use Rattle.fork_read.specs.Counted.{AreFew, IsOwn, IsSpent, PiecesAreFew, way_down}
use Rattle.fork_read.specs.First.{most_met}
use Rattle.fork_read.specs.Pieces.{IsForkFault, IsForkPiece}
use Rattle.fork_read.specs.declared.fault.ReadFault.{ReadFault}
use Rattle.fork_read.specs.declared.fault.ReadFault.TheVariants.{Fork as IsFork, Core as IsCoreFault, Failed as ReadFailed, Memory as NoMemory}
use Rattle.inode_pass.specs.Stops.{is_failed}
use Rattle.inode_pass.specs.declared.stop.PassStop.{PassStop}
use Rattle.fork_read.specs.Whole.{FirstFaultTells, Follow, HasFault, IsWhole, all_blocks, all_mappings}
use Rattle.fork_read.specs.declared.fault.ForkPiece.{ForkPiece}
use Rattle.fs_state.specs.Claims.{read_fork}
use Rattle.fs_state.specs.Contradiction.{bad_fork_of}
use Rattle.fs_model.specs.declared.claim.Evidence.{Evidence}
use Rattle.fs_model.specs.declared.claim.Evidence.TheVariants.{BadFork}
use Rattle.fs_state.specs.Inodes.{no_fork}
use Rattle.fs_state.specs.State.{ForkList}
use Rattle.geom.specs.Layout.{Layout, split_of}
use Rattle.unit_plan.specs.declared.claims.ClaimSet.{ClaimSet}
use Rattle.unit_plan.specs.declared.piece.Piece.{Piece}
use Rattle.fork_pass.specs.Counted.{again_most, fork_most, inode_most, pieces_most, slot_most, turns_most}
use Rattle.fork_pass.specs.Pieces.{block_pieces, blocks_in, mapped_in, mapping_piece, mapping_pieces, piece_where, pieces_for}
use Rattle.fork_pass.specs.Read.{Come, IsForkRead, IsGood, IsInodeRead, IsPut, IsRefusal, IsRestRead, IsSlotRead, IsWorst, fault_for, is_number_wrong, lists_of, rest_pieces, slot_fork, worst_of}
use Rattle.fork_pass.specs.Sets.{Adds}
use Rattle.fork_pass.specs.declared.fork.ForkRead.{ForkRead}
use Rattle.fork_pass.specs.declared.fork.ForkRead.TheVariants.{Bad}
use Rattle.fork_pass.specs.declared.fork.Met.{Met}
use Rattle.fork_pass.proofs.SetLemmas.{adds_none, adds_same, adds_then, not_last}

-- ---- a row of mappings or of blocks

pub more_first : {X : Type 0} (f : X → List Piece) (xs : List X) (i : ℕ) (d : X) → i < length xs → flat_map f (drop i xs) ≡ f (get_or xs i d) ++ flat_map f (drop (i + 1) xs)
more_first {X = X} f xs i d lt =
    let next : suc i ≡ i + 1 = omega arith in
    ap (λ (ys : List X). flat_map f ys) (drop-cons xs i d lt) ∙ ap (λ (k : ℕ). f (get_or xs i d) ++ flat_map f (drop k xs)) next

pub none_more : {X : Type 0} (f : X → List Piece) (xs : List X) (i : ℕ) → length xs ≤ i → flat_map f (drop i xs) ≡ []
none_more {X = X} f xs i le = ap (λ (ys : List X). flat_map f ys) (drop_all i xs le)

-- ---- pieces one after another

follow_more : (at : Layout) (image : Image) (core : Core3) (fork : Fork) (o : Option ℕ) (pieces : List ForkPiece) (piece : ForkPiece) (from : ℕ) → Follow at image core fork o pieces (Some from) → IsForkPiece at image core fork from piece → Follow at image core fork o (pieces ++ piece ∷ []) piece.next
follow_more at image core fork None [] piece from h k = absurd (none_some from h)
  where
    none_some : (n : ℕ) → ◌≡◌ {A = Option ℕ} None (Some n) → ⊥
    none_some n e = cc
follow_more at image core fork (Some n) [] piece from h k =
    let same : n ≡ from = some_same n from h in
    (subst (λ (m : ℕ). IsForkPiece at image core fork m piece) (sym same) k, refl)
  where
    some_same : (n m : ℕ) → ◌≡◌ {A = Option ℕ} (Some n) (Some m) → n ≡ m
    some_same n m e = cc
follow_more at image core fork None (p ∷ ps) piece from h k = absurd h
follow_more at image core fork (Some n) (p ∷ ps) piece from h k = (h.0, follow_more at image core fork p.next ps piece from h.1 k)

mappings_more : (pieces : List ForkPiece) (piece : ForkPiece) → all_mappings (pieces ++ piece ∷ []) ≡ all_mappings pieces ++ piece.mappings.items
mappings_more [] piece = append-nil piece.mappings.items
mappings_more (p ∷ ps) piece = ap (λ (ms : List Mapping). p.mappings.items ++ ms) (mappings_more ps piece) ∙ sym (append_assoc p.mappings.items (all_mappings ps) piece.mappings.items)

blocks_more : (pieces : List ForkPiece) (piece : ForkPiece) → all_blocks (pieces ++ piece ∷ []) ≡ all_blocks pieces ++ piece.tree_blocks.items
blocks_more [] piece = append-nil piece.tree_blocks.items
blocks_more (p ∷ ps) piece = ap (λ (bs : List ℕ). p.tree_blocks.items ++ bs) (blocks_more ps piece) ∙ sym (append_assoc p.tree_blocks.items (all_blocks ps) piece.tree_blocks.items)

length_both : {X : Type 0} (xs ys : List X) → length (xs ++ ys) ≡ length xs + length ys
length_both [] ys = omega arith
length_both (x ∷ xs) ys = let r = length_both xs ys in omega (arith, r)

module _ (at : Layout) (image : Image) (core : Core3) (fork : Fork) where
  abbrev levels : ℕ
  levels = root_level (area_of core fork)

  no_way : (from : ℕ) → ◌≡◌ {A = Option ℕ} (Some 0) (Some from) → way_down core fork from ≡ 0
  no_way from e =
      let none : 0 ≡ from = cc in
      subst (λ (n : ℕ). way_down core fork n ≡ 0) none refl

  way_low : (from : ℕ) → way_down core fork from ≤ levels
  way_low from = by_test (from == 0)
    where
      by_test : (b : Bool) → (if b then 0 else root_level (area_of core fork)) ≤ root_level (area_of core fork)
      by_test true = omega arith
      by_test false = omega arith

  -- a piece more reads its own blocks, and the way down, where it isn't the first
  few_more : (pieces : List ForkPiece) (piece : ForkPiece) (from before reads now : ℕ) → Follow at image core fork (Some 0) pieces (Some from) → reads ≤ before + length (all_blocks pieces) + levels * (length pieces - 1) → IsOwn core fork from reads now piece → now ≤ before + length (all_blocks (pieces ++ piece ∷ [])) + levels * (length (pieces ++ piece ∷ []) - 1)
  few_more [] piece from before reads now h few own =
      let none = no_way from h in
      let blocks = ap length (blocks_more [] piece) in
      let n : now ≤ before + length piece.tree_blocks.items = omega (arith, few, own, none) in
      omega (arith, n, blocks)
  few_more (p ∷ ps) piece from before reads now h few own =
      let low = way_low from in
      let blocks = ap length (blocks_more (p ∷ ps) piece) ∙ length_both (all_blocks (p ∷ ps)) piece.tree_blocks.items in
      let count : length ((p ∷ ps) ++ piece ∷ []) - 1 ≡ suc (length ps) = let all = length_both ps (piece ∷ []) in omega (arith, all) in
      let before_it : length (p ∷ ps) - 1 ≡ length ps = omega arith in
      let more = ap (λ (n : ℕ). levels * n) count ∙ mul-suc levels (length ps) in
      let same = ap (λ (n : ℕ). levels * n) before_it in
      omega (arith, few, own, low, blocks, more, same)

  -- the pieces that came, and one more that was begun
  few_begun : (pieces : List ForkPiece) (from before reads now : ℕ) → Follow at image core fork (Some 0) pieces (Some from) → reads ≤ before + length (all_blocks pieces) + levels * (length pieces - 1) → AreFew at image core fork pieces from reads now → now ≤ before + pieces_most at image core fork
  few_begun [] from before reads now h few are =
      let none = no_way from h in
      let most = are.most in
      omega (arith, few, most, none)
  few_begun (p ∷ ps) from before reads now h few are =
      let low = way_low from in
      let most = are.most in
      let two = are.two in
      let blocks = are.blocks in
      let before_it : length (p ∷ ps) - 1 ≡ length ps = omega arith in
      let same = ap (λ (n : ℕ). levels * n) before_it in
      let turns : suc (length ps) ≤ turns_most at image core fork = omega (arith, two, blocks) in
      let all = mul-le-mul_left levels turns in
      let more = mul-suc levels (length ps) in
      omega (arith, few, most, low, same, all, more)

  pub pieces_begun : (first old : List ClaimSet) (met : Met) (from before reads now : ℕ) → PiecesAreFew at core fork → met.next ≡ Some from → Come at image core fork first old met before reads → IsSpent at image core fork from reads now → now ≤ before + pieces_most at image core fork
  pieces_begun first old met from before reads now law there come spent =
      let follow = subst (λ (o : Option ℕ). Follow at image core fork (Some 0) come.pieces o) there come.follow in
      few_begun come.pieces from before reads now follow come.few (law image come.pieces from reads now follow spent)

  -- a fork with a fault is walked once more
  pub worst_counted : (before mid now : ℕ) → HasFault (walk_fault at image core fork) → mid ≤ before + pieces_most at image core fork → now ≤ mid + most_met at image core fork → now ≤ before + fork_most at image core fork
  unfolding fork_most
  worst_counted before mid now has h k =
      let again = ap (λ (o : Option ForkFault). again_most o (most_met at image core fork)) has.1 in
      omega (arith, h, k, again)

  pub pieces_counted : (before now : ℕ) → now ≤ before + pieces_most at image core fork → now ≤ before + fork_most at image core fork
  unfolding fork_most
  pieces_counted before now h = omega (arith, h)

  pub come_first : (sets : List ClaimSet) (met : Met) (reads : ℕ) → met.next ≡ Some 0 → met.count ≡ 0 → met.blocks.items ≡ [] → Come at image core fork sets sets met reads reads
  come_first sets met reads next count blocks = record {
    pieces = [];
    follow = sym next;
    put = adds_none sets;
    blocks = blocks;
    count = count;
    few = omega arith;
  }

  -- a piece more
  pub come_more : (first old new : List ClaimSet) (met after : Met) (from before reads now : ℕ) (piece : ForkPiece) → met.next ≡ Some from → Come at image core fork first old met before reads → IsOwn core fork from reads now piece → IsForkPiece at image core fork from piece → Adds old new (mapping_pieces at fork core.ino piece.mappings.items) → after.next ≡ piece.next → after.count ≡ met.count + length piece.mappings.items → after.blocks.items ≡ met.blocks.items ++ piece.tree_blocks.items → Come at image core fork first new after before now
  come_more first old new met after from before reads now piece there come own is adds next count blocks = record {
    pieces = come.pieces ++ piece ∷ [];
    follow = subst (λ (o : Option ℕ). Follow at image core fork (Some 0) (come.pieces ++ piece ∷ []) o) (sym next) (follow_more at image core fork (Some 0) come.pieces piece from (subst (λ (o : Option ℕ). Follow at image core fork (Some 0) come.pieces o) there come.follow) is);
    put = adds_same first new (λ g. mapping_pieces at fork core.ino (all_mappings come.pieces) g ++ mapping_pieces at fork core.ino piece.mappings.items g) (mapping_pieces at fork core.ino (all_mappings (come.pieces ++ piece ∷ [])))
        (λ g. sym (ap (λ (ms : List Mapping). mapping_pieces at fork core.ino ms g) (mappings_more come.pieces piece) ∙ flat_map-append (λ m. piece_where g (mapping_piece fork core.ino m) (split_of at m.block)) (all_mappings come.pieces) piece.mappings.items))
        (adds_then first old new (mapping_pieces at fork core.ino (all_mappings come.pieces)) (mapping_pieces at fork core.ino piece.mappings.items) come.put adds);
    blocks = blocks ∙ ap (λ (bs : List ℕ). bs ++ piece.tree_blocks.items) come.blocks ∙ sym (blocks_more come.pieces piece);
    count = count ∙ ap (λ (n : ℕ). n + length piece.mappings.items) come.count ∙ sym (ap (λ (ms : List Mapping). length ms) (mappings_more come.pieces piece) ∙ length_both (all_mappings come.pieces) piece.mappings.items);
    few = few_more come.pieces piece from before reads now (subst (λ (o : Option ℕ). Follow at image core fork (Some 0) come.pieces o) there come.follow) come.few own;
  }

  -- where nothing is left, the whole fork was put
  pub all_put : (old now : List ClaimSet) (met : Met) (before reads : ℕ) → met.next ≡ None → Come at image core fork old now met before reads → ((pieces : List ForkPiece) → Follow at image core fork (Some 0) pieces None → IsWhole at image core fork (all_mappings pieces) (all_blocks pieces)) → IsPut at image core fork old now met
  all_put old now met before reads none come law =
      let whole = law come.pieces (subst (λ (o : Option ℕ). Follow at image core fork (Some 0) come.pieces o) none come.follow) in
      record {
        good = whole.good;
        put = adds_same old now (mapping_pieces at fork core.ino (all_mappings come.pieces)) (mapping_pieces at fork core.ino (met_of at image core fork).mappings) (λ g. ap (λ (ms : List Mapping). mapping_pieces at fork core.ino ms g) whole.mappings_are) come.put;
        blocks = come.blocks ∙ whole.blocks_are;
        count = come.count ∙ ap (λ (ms : List Mapping). length ms) whole.mappings_are;
      }

  -- ---- a whole fork

  pub bad_read : (refusal : ForkFault) (old now : List ClaimSet) (read : ForkRead) → HasFault (walk_fault at image core fork) → IsWorst refusal (walk_fault at image core fork) read → IsForkRead at image core fork old now read
  unfolding fork_fault
  bad_read refusal old now read has worst = subst (IsForkRead at image core fork old now) (sym (worst ∙ ap (λ (o : Option ForkFault). Bad (worst_of refusal o)) has.1)) (rw has.1 refl)

  wrong_number : (tree : Bool) (n m : ℕ) → (tree && not (n == m)) ≡ true → (if (if tree then n == m else true) then None else Some faults.Count) ≡ Some faults.Count
  wrong_number true n m h = by_test (n == m) h
    where
      by_test : (b : Bool) → (true && not b) ≡ true → (if b then None else Some faults.Count) ≡ Some faults.Count
      by_test true h = absurd (false≢true h)
      by_test false h = refl
  wrong_number false n m h = absurd (false≢true h)

  right_number : (tree : Bool) (n m : ℕ) → (tree && not (n == m)) ≡ false → (if (if tree then n == m else true) then None else Some faults.Count) ≡ None
  right_number true n m h = by_test (n == m) h
    where
      by_test : (b : Bool) → (true && not b) ≡ false → (if b then None else Some faults.Count) ≡ None
      by_test true h = refl
      by_test false h = absurd (false≢true (sym h))
  right_number false n m h = refl

  pub count_read : (old now : List ClaimSet) (met : Met) → IsPut at image core fork old now met → is_number_wrong core fork met.count ≡ true → fork_fault at image core fork ≡ Some faults.Count
  unfolding fork_fault
  count_read old now met put wrong =
      let own : is_number_wrong core fork (length (met_of at image core fork).mappings) ≡ true = ap (is_number_wrong core fork) (sym put.count) ∙ wrong in
      ap (λ (o : Option ForkFault). or_else o (if has_number at image core fork then None else Some faults.Count)) put.good ∙ wrong_number (is_tree core fork) (length (met_of at image core fork).mappings) (count_of core fork) own

  pub good_read : (old now : List ClaimSet) (met : Met) → IsPut at image core fork old now met → is_number_wrong core fork met.count ≡ false → IsGood at image core fork old now met.blocks.items
  unfolding fork_fault
  good_read old now met put wrong =
      let own : is_number_wrong core fork (length (met_of at image core fork).mappings) ≡ false = ap (is_number_wrong core fork) (sym put.count) ∙ wrong in
      record {
        good = ap (λ (o : Option ForkFault). or_else o (if has_number at image core fork then None else Some faults.Count)) put.good ∙ right_number (is_tree core fork) (length (met_of at image core fork).mappings) (count_of core fork) own;
        put = put.put;
        blocks_are = put.blocks;
      }

  -- a refused piece is one of a fork with a first fault
  pub taken_bad : (first old : List ClaimSet) (met : Met) (from before reads : ℕ) (fault : ForkFault) → FirstFaultTells at core fork → met.next ≡ Some from → Come at image core fork first old met before reads → IsForkFault at image core fork from fault → HasFault (walk_fault at image core fork)
  taken_bad first old met from before reads fault law there come refused =
      (law image come.pieces).1 from fault (subst (λ (o : Option ℕ). Follow at image core fork (Some 0) come.pieces o) there come.follow) refused

-- ---- why no piece came

pub refused_so : (P : Option ForkFault → Type 0) (fault : ReadFault) (result : Result (Option ForkFault) PassStop) → IsRefusal fault result → ((f : ForkFault) → fault ≡ IsFork f → P (Some f)) → ((f : CoreFault) → fault ≡ IsCoreFault f → P (Some faults.Format)) → IfOk result P
refused_so P (IsFork f) result is fork core = subst (λ (r : Result (Option ForkFault) PassStop). IfOk r P) (sym is) (fork f refl)
refused_so P (IsCoreFault f) result is fork core = subst (λ (r : Result (Option ForkFault) PassStop). IfOk r P) (sym is) (core f refl)
refused_so P ReadFailed result is fork core = subst (λ (r : Result (Option ForkFault) PassStop). IfOk r P) (sym is) tt
refused_so P NoMemory result is fork core = subst (λ (r : Result (Option ForkFault) PassStop). IfOk r P) (sym is) tt

pub some_fault : (f : ForkFault) → ◌≡◌ {A = Option ForkFault} (Some f) None → ⊥
some_fault f e = cc

-- none of these comes with a piece
pub refused_none : (Q : Type 0) (fault : ReadFault) (result : Result (Option ForkFault) PassStop) → IsRefusal fault result → IfOk result (λ found. found ≡ None → Q)
refused_none Q fault result is = refused_so (λ found. found ≡ None → Q) fault result is (λ f _ none. absurd (some_fault f none)) (λ f _ none. absurd (some_fault faults.Format none))

pub refused_cause : (before now : ℕ) (fault : ReadFault) (result : Result (Option ForkFault) PassStop) → IsRefusal fault result → MovesOnly (is_failed_read fault) before now → HasCause is_failed before now result
refused_cause before now (IsFork f) result is moves = subst (HasCause is_failed before now) (sym is) moves
refused_cause before now (IsCoreFault f) result is moves = subst (HasCause is_failed before now) (sym is) moves
refused_cause before now ReadFailed result is moves = subst (HasCause is_failed before now) (sym is) moves
refused_cause before now NoMemory result is moves = subst (HasCause is_failed before now) (sym is) moves

-- ---- both forks of an inode

module _ (at : Layout) (image : Image) (core : Core3) where
  pub data_bad : (old now : List ClaimSet) (fault : ForkFault) → fork_fault at image core forks.Data ≡ Some fault → IsInodeRead at image core old now (Some fault)
  data_bad old now fault bad = record {
    first = sym (ap (λ (o : Option ForkFault). option_or o (fork_fault at image core forks.Attr)) bad);
    put = λ none. absurd (some_fault fault none);
  }

  pub rest_bad : (old now : List ClaimSet) (blocks : List ℕ) (fault : ForkFault) → fork_fault at image core forks.Attr ≡ Some fault → IsRestRead at image core blocks old now (Some fault)
  rest_bad old now blocks fault bad = record { first = sym bad; put = λ none. absurd (some_fault fault none) }

  pub rest_read : (b c d e : List ClaimSet) (blocks attr : List ℕ) → IsGood at image core forks.Attr b c attr → Adds c d (block_pieces at forks.Data core.ino blocks) → Adds d e (block_pieces at forks.Attr core.ino attr) → IsRestRead at image core blocks b e None
  rest_read b c d e blocks attr good third fourth = record {
    first = sym good.good;
    put = λ _.
        let two = adds_same d e (block_pieces at forks.Attr core.ino attr) (λ g. blocks_in at core.ino (lists_of at image core) g forks.Attr) (λ g. ap (λ (bs : List ℕ). block_pieces at forks.Attr core.ino bs g) good.blocks_are) fourth in
        adds_then b c e (λ g. mapped_in at core.ino (lists_of at image core) g forks.Attr) (λ g. block_pieces at forks.Data core.ino blocks g ++ blocks_in at core.ino (lists_of at image core) g forks.Attr) good.put
        (adds_then c d e (block_pieces at forks.Data core.ino blocks) (λ g. blocks_in at core.ino (lists_of at image core) g forks.Attr) third two);
  }

  pub inode_read : (a b e : List ClaimSet) (blocks : List ℕ) (found : Option ForkFault) → IsGood at image core forks.Data a b blocks → IsRestRead at image core blocks b e found → IsInodeRead at image core a e found
  inode_read a b e blocks found good rest = record {
    first = rest.first ∙ sym (ap (λ (o : Option ForkFault). option_or o (fork_fault at image core forks.Attr)) good.good);
    put = λ none.
        adds_same a e (λ g. mapped_in at core.ino (lists_of at image core) g forks.Data ++ rest_pieces at image core blocks g) (pieces_for at core.ino (lists_of at image core))
        (λ g. ap (λ (bs : List ℕ). mapped_in at core.ino (lists_of at image core) g forks.Data ++ rest_pieces at image core bs g) good.blocks_are)
        (adds_then a b e (λ g. mapped_in at core.ino (lists_of at image core) g forks.Data) (rest_pieces at image core blocks) good.put (rest.put none));
  }

  -- ---- an inode's evidence

  fork_said : (ino : ℕ) (f : Fork) → bad_fork_of ino (fork_in at image core f) ≡ (bad_fork_of ino (list_or (fork_fault at image core f) (list_of (met_of at image core f))))
  unfolding fork_in
  fork_said ino f = refl

  bad_of_none : (ino : ℕ) (list : ForkList) (o : Option ForkFault) → o ≡ None → bad_fork_of ino (list_or o list) ≡ None
  bad_of_none ino list o h = rw h refl

  bad_of_some : (ino : ℕ) (list : ForkList) (o : Option ForkFault) (fault : ForkFault) → o ≡ Some fault → bad_fork_of ino (list_or o list) ≡ Some (BadFork ino fault)
  bad_of_some ino list o fault h = rw h refl

  first_fault_said : (ino : ℕ) (d a : Option ForkFault) (own attr : ForkList) (fault : ForkFault) → Some fault ≡ option_or d a → Some (BadFork ino fault) ≡ option_or (bad_fork_of ino (list_or d own)) (bad_fork_of ino (list_or a attr))
  first_fault_said ino None a own attr fault h = rw (sym h) refl
  first_fault_said ino (Some f) a own attr fault h = ap (λ (o : Option ForkFault). bad_fork_of ino (list_or o own)) h

  none_said : (ino : ℕ) (d a : Option ForkFault) (own attr : ForkList) → None ≡ option_or d a → None ≡ option_or (bad_fork_of ino (list_or d own)) (bad_fork_of ino (list_or a attr))
  none_said ino None None own attr h = refl
  none_said ino None (Some f) own attr h = absurd (none_some f h)
    where
      none_some : (f : ForkFault) → ◌≡◌ {A = Option ForkFault} None (Some f) → ⊥
      none_some f e = cc
  none_said ino (Some f) a own attr h = absurd (none_some f h)
    where
      none_some : (f : ForkFault) → ◌≡◌ {A = Option ForkFault} None (Some f) → ⊥
      none_some f e = cc

  none_parts : (d a : Option ForkFault) → None ≡ option_or d a → (d ≡ None) × (a ≡ None)
  none_parts None None h = (refl, refl)
  none_parts None (Some f) h = cc
  none_parts (Some f) a h = cc

  pub fault_passed : (ino : ℕ) (old now : List ClaimSet) (fault : ForkFault) → core.ino ≡ ino → IsInodeRead at image core old now (Some fault) → IsSlotRead at ino (fork_in at image core) old now (Some (BadFork ino fault))
  unfolding fork_in
  fault_passed ino old now fault number read = record {
    first = first_fault_said ino (fork_fault at image core forks.Data) (fork_fault at image core forks.Attr) (list_of (met_of at image core forks.Data)) (list_of (met_of at image core forks.Attr)) fault read.first;
    put = λ none. absurd (some_none none);
  }
    where
      some_none : ◌≡◌ {A = Option Evidence} (Some (BadFork ino fault)) None → ⊥
      some_none e = cc

  list_said : (f : Fork) (o : Option ForkFault) (list : ForkList) → o ≡ None → read_fork (list_or o list) ≡ list
  list_said f o list h = rw h refl

  pub none_passed : (ino : ℕ) (old now : List ClaimSet) → core.ino ≡ ino → IsInodeRead at image core old now None → IsSlotRead at ino (fork_in at image core) old now None
  unfolding fork_in
  none_passed ino old now number read =
      let parts = none_parts (fork_fault at image core forks.Data) (fork_fault at image core forks.Attr) read.first in
      record {
        first = none_said ino (fork_fault at image core forks.Data) (fork_fault at image core forks.Attr) (list_of (met_of at image core forks.Data)) (list_of (met_of at image core forks.Attr)) read.first;
        put = λ _. adds_same old now (pieces_for at core.ino (lists_of at image core)) (pieces_for at ino (λ f. read_fork (fork_in at image core f)))
            (λ g. ap (λ (n : ℕ). pieces_for at n (lists_of at image core) g) number ∙ sym (both_lists ino g (λ f. read_fork (list_or (fork_fault at image core f) (list_of (met_of at image core f)))) (lists_of at image core)
            (list_said forks.Data (fork_fault at image core forks.Data) (list_of (met_of at image core forks.Data)) parts.0)
            (list_said forks.Attr (fork_fault at image core forks.Attr) (list_of (met_of at image core forks.Attr)) parts.1)))
            (read.put refl);
      }
    where
      both_lists : (ino g : ℕ) (xs ys : Fork → ForkList) → xs forks.Data ≡ ys forks.Data → xs forks.Attr ≡ ys forks.Attr → pieces_for at ino xs g ≡ pieces_for at ino ys g
      both_lists ino g xs ys d t = rw (d, t) refl

-- ---- the inode in a slot

-- a free inode has no forks
free_fork : (at : Layout) (image : Image) (bytes : List ℕ) (f : Fork) → field 2 bytes 2 ≡ 0 → slot_fork at image bytes f ≡ Ok no_fork
unfolding core_of
free_fork at image bytes f free = rw free refl

pub free_slot : (at : Layout) (image : Image) (ino : ℕ) (bytes : List ℕ) (sets : List ClaimSet) → field 2 bytes 2 ≡ 0 → IsSlotRead at ino (slot_fork at image bytes) sets sets None
free_slot at image ino bytes sets free = record {
  first = sym (λ i. fault_for ino (λ f. free_fork at image bytes f free i));
  put = λ _. adds_same sets sets (λ g. []) (pieces_for at ino (λ f. read_fork (slot_fork at image bytes f))) (λ g. sym (λ i. pieces_for at ino (λ f. read_fork (free_fork at image bytes f free i)) g)) (adds_none sets);
}

pub core_number : (ino : ℕ) (bytes uuid : List ℕ) → core_fault bytes ino uuid ≡ None → (core_of bytes).ino ≡ ino
unfolding core_fault core_of
core_number ino bytes uuid whole = eqb-true (field 8 bytes 152) ino (all_pass (core_tests bytes ino uuid) whole).1.1.0

used_test : (n : ℕ) → (n ≡ 0 → ⊥) → (n == 0) ≡ false
used_test zero h = absurd (h refl)
used_test (suc n) h = not_last n

slot_same : (at : Layout) (image : Image) (bytes : List ℕ) (n : ℕ) (f : Fork) → n ≡ (core_of bytes).mode → (n == 0) ≡ false → slot_fork at image bytes f ≡ fork_in at image (core_of bytes) f
slot_same at image bytes n f is used = rw (sym is, used) refl

pub core_slot : (at : Layout) (image : Image) (ino : ℕ) (bytes : List ℕ) (core : Core3) (old new : List ClaimSet) (found : Option Evidence) → core_fault bytes ino at.uuid ≡ None → core ≡ core_of bytes → (n : ℕ) → field 2 bytes 2 ≡ n → (n ≡ 0 → ⊥) → (core.ino ≡ ino → IsSlotRead at ino (fork_in at image core) old new found) → IsSlotRead at ino (slot_fork at image bytes) old new found
unfolding core_of
core_slot at image ino bytes core old new found whole is n mode used read =
    let number : core.ino ≡ ino = ap (λ (c : Core3). c.ino) is ∙ core_number ino bytes at.uuid whole in
    let here = subst (λ (c : Core3). IsSlotRead at ino (fork_in at image c) old new found) is (read number) in
    let same : (f : Fork) → slot_fork at image bytes f ≡ fork_in at image (core_of bytes) f = λ f. slot_same at image bytes n f (sym mode) (used_test n used) in
    record {
      first = here.first ∙ sym (λ i. fault_for ino (λ f. same f i));
      put = λ none. adds_same old new (pieces_for at ino (λ f. read_fork (fork_in at image (core_of bytes) f))) (pieces_for at ino (λ f. read_fork (slot_fork at image bytes f))) (λ g. sym (λ i. pieces_for at ino (λ f. read_fork (same f i)) g)) (here.put none);
    }

-- ---- what is read of a slot

pub core_counted : (at : Layout) (image : Image) (bytes : List ℕ) (core : Core3) (n before now : ℕ) → field 2 bytes 2 ≡ n → (n ≡ 0 → ⊥) → core ≡ core_of bytes → now ≤ before + inode_most at image core → now ≤ before + slot_most at image bytes
unfolding core_of slot_most
core_counted at image bytes core n before now mode used is h =
    let some = used_test n used in
    let here : (field 2 bytes 2 == 0) ≡ false = ap (λ (k : ℕ). k == 0) mode ∙ some in
    rw here (subst (λ (c : Core3). now ≤ before + inode_most at image c) is h)
