-- The piece behind others has the next mappings of a fork without a fault.
use Rattle.std.proofs.Common.{◌≡◌, ℕ, zero, suc, ◌+◌, ◌-◌, ◌<◌, ◌≤◌, Bool, true, false, cond, List, [], ◌∷◌, ◌++◌, length, map, filter, take, drop, Option, Some, None, Result, Ok, Err, refl, ap, sym, subst, ◌∙◌, inl, inr, append-nil, arith}
use Rattle.std.specs.Prelude.{◌⊎◌, ◌&&◌, nat_le, nat_lt, if◌then◌else◌}
use Rattle.std.proofs.lemmas.Bool.{cases_Bool}
use Rattle.std.proofs.lemmas.Bool.Decides.{nat_tests}
use Rattle.std.proofs.lemmas.List.{append_assoc, length-append, take-append-le, drop-append-le}
use Rattle.geom.specs.Layout.{Layout, split_of}
use Rattle.dinode_core.specs.declared.inode.Core3.{Core3}
use Rattle.dinode_core.specs.declared.mapping.Mapping.{Mapping}
use Rattle.dinode_core.specs.declared.mapping.Fork.{Fork}
use Rattle.dinode_core.specs.declared.mapping.ForkFault.{ForkFault}
use Rattle.dinode_core.specs.declared.mapping.ForkFault.TheVariants as faults
use Rattle.dinode_core.specs.Inline.{first_bad, form_fault, inline_mappings, or_else, root_level}
use Rattle.dinode_core.specs.Shape.{area_of}
use Rattle.dinode_core.specs.ForkTree.{Image, Met, Trail, TreeBlock, Entry, ◌>>=◌, block_fault, ends, fork_fault, has_number, is_tree, leaf_mappings, met_of, node_entries, passed, root_entries, start, walk_block, walk_each, walk_fault, walk_in, walk_tree, with_mappings}
use Rattle.dinode_core.specs.Frame.{ForkList, fork_in, list_of, list_or}
use Rattle.fork_read.specs.declared.fault.ForkPiece.{ForkPiece}
use Rattle.fork_read.specs.Parts.{Each}
use Rattle.fork_read.specs.Pieces.{IsForkPiece}
use Rattle.fork_read.specs.Walk.{passed_from, pruned, read_at, skipped_to, walk_from}
use Rattle.fork_read.specs.Whole.{Follow, IsWhole, LeavesRest, all_blocks, all_mappings}
use Rattle.fork_read.proofs.LawLemmas.{good_walk, pieces_whole}
use Rattle.fork_read.proofs.LeftLemmas.{leaves_rest}
use Rattle.fork_read.proofs.StandLemmas.{each_then, each_weaker, leaf_begins, node_begins, read_parts}
use Rattle.fork_read.proofs.WholeLemmas.{else_parts, entries_same, passed_same, walk_same}
use Rattle.piece_laws.specs.Forks.{Comes, IsNextPiece, NextIsGiven}

-- ---- each block of a whole btree has a mapping below it

abbrev Below : ℕ → List TreeBlock → Type 0
Below n = Each (λ (b : TreeBlock). b.before < n)

abbrev From : ℕ → List TreeBlock → Type 0
From n = Each (λ (b : TreeBlock). n ≤ b.before)

higher : (n m : ℕ) → n ≤ m → (bs : List TreeBlock) → Below n bs → Below m bs
higher n m low bs h = each_weaker (λ (b : TreeBlock). b.before < n) (λ (b : TreeBlock). b.before < m) (λ b own. omega (arith, low, own)) bs h

trail_of : Result Trail Trail → Trail
trail_of (Ok t) = t
trail_of (Err t) = t

same_ok : (t u : Trail) → ◌≡◌ {A = Result Trail Trail} (Ok t) (Ok u) → t ≡ u
same_ok t u h = cc

-- a walk that ends well gives blocks with mappings below them
record Kept (t u : Trail) : Type 0 where
  more : List TreeBlock
  blocks : u.blocks ≡ t.blocks ++ more
  low : Below (length u.mappings) more
  longer : length t.mappings ≤ length u.mappings

-- and one of a block at least
record Grown (t u : Trail) : Type 0 where
  kept : Kept t u
  some : length t.mappings < length u.mappings

none_kept : (t : Trail) → Kept t t
none_kept t = record { more = []; blocks = sym (append-nil t.blocks); low = tt; longer = omega arith }

then_kept : (t u v : Trail) → Kept t u → Kept u v → Kept t v
then_kept t u v h k =
    let first = h.longer in
    let second = k.longer in
    record {
      more = h.more ++ k.more;
      blocks = k.blocks ∙ ap (λ bs. bs ++ k.more) h.blocks ∙ append_assoc t.blocks h.more k.more;
      low = each_then (λ (b : TreeBlock). b.before < length v.mappings) h.more k.more (higher (length u.mappings) (length v.mappings) second h.more h.low) k.low;
      longer = omega (arith, first, second);
    }

then_ok : (r : Result Trail Trail) (next : Trail → Result Trail Trail) (u : Trail) → (r >>= next) ≡ Ok u → (x : Trail) × (r ≡ Ok x) × (next x ≡ Ok u)
then_ok (Ok x) next u h = (x, refl, h)
then_ok (Err x) next u h = cc

in_ok : (o : Option (List ℕ)) (t u : Trail) (below : List ℕ → Result Trail Trail) → walk_in o t below ≡ Ok u → (bytes : List ℕ) × (o ≡ Some bytes) × (below bytes ≡ Ok u)
in_ok None t u below h = cc
in_ok (Some bytes) t u below h = (bytes, refl, h)

each_kept : (walk : Trail → Entry → Result Trail Trail) → ((t u : Trail) (e : Entry) → walk t e ≡ Ok u → Grown t u) → (es : List Entry) (t u : Trail) → walk_each walk es t ≡ Ok u → Kept t u
unfolding walk_each
each_kept walk h [] t u k = subst (Kept t) (same_ok t u k) (none_kept t)
each_kept walk h (e ∷ es) t u k =
    let one = then_ok (walk t e) (walk_each walk es) u k in
    then_kept t one.0 u (h t one.0 e one.1).kept (each_kept walk h es one.0 u one.2)

some_grown : (walk : Trail → Entry → Result Trail Trail) → ((t u : Trail) (e : Entry) → walk t e ≡ Ok u → Grown t u) → (e : Entry) (es : List Entry) (t u : Trail) → walk_each walk (e ∷ es) t ≡ Ok u → Grown t u
unfolding walk_each
some_grown walk h e es t u k =
    let one = then_ok (walk t e) (walk_each walk es) u k in
    let first = h t one.0 e one.1 in
    let rest = each_kept walk h es one.0 u one.2 in
    let less = first.some in
    let more = rest.longer in
    record { kept = then_kept t one.0 u first.kept rest; some = omega (arith, less, more) }

-- a block itself comes before what lies below it
own_grown : (level : ℕ) (t u v : Trail) (e : Entry) (bytes : List ℕ) → v ≡ passed level e bytes t → Grown v u → Grown t u
own_grown level t u v e bytes same h =
    let one : TreeBlock = record { block = e.block; before = length t.mappings } in
    let maps : v.mappings ≡ t.mappings = ap (λ (x : Trail). x.mappings) same in
    let long : length v.mappings ≡ length t.mappings = ap length maps in
    let some = h.some in
    let less : length t.mappings < length u.mappings = omega (arith, long, some) in
    record {
      kept = record {
        more = one ∷ h.kept.more;
        blocks = h.kept.blocks ∙ ap (λ (x : Trail). x.blocks ++ h.kept.more) same ∙ append_assoc t.blocks (one ∷ []) h.kept.more;
        low = (less, h.kept.low);
        longer = omega (arith, less);
      };
      some = less;
    }

leaf_grown : (t u : Trail) (ms rest : List Mapping) (m : Mapping) → ms ≡ m ∷ rest → with_mappings ms t ≡ u → Grown t u
leaf_grown t u ms rest m e same =
    let maps : u.mappings ≡ t.mappings ++ m ∷ rest = ap (λ (x : Trail). x.mappings) (sym same) ∙ ap (λ xs. t.mappings ++ xs) e in
    let long : length u.mappings ≡ length t.mappings + length (m ∷ rest) = ap length maps ∙ length-append t.mappings (m ∷ rest) in
    let less : length t.mappings < length u.mappings = omega (arith, long) in
    record {
      kept = record { more = []; blocks = ap (λ (x : Trail). x.blocks) (sym same) ∙ sym (append-nil t.blocks); low = tt; longer = omega (arith, less) };
      some = less;
    }

module _ (at : Layout) (image : Image) (core : Core3) where
  block_grown : (level : ℕ) (t u : Trail) (e : Entry) → walk_from at image core 0 level t e ≡ Ok u → Grown t u
  unfolding walk_from
  block_grown zero t u e h =
      let one = in_ok (read_at at image core 0 zero (t.last zero) e (split_of at e.block)) t u (λ bytes. Ok (with_mappings (leaf_mappings bytes) (passed_from 0 zero e bytes t))) h in
      let parts = read_parts at image core 0 zero (t.last zero) e (split_of at e.block) one.0 one.1 in
      let first = leaf_begins at image core e parts.0 one.0 parts.3 in
      own_grown zero t u (passed_from 0 zero e one.0 t) e one.0 (passed_same zero e one.0 t) (leaf_grown (passed_from 0 zero e one.0 t) u (leaf_mappings one.0) first.1 first.0 first.2 (same_ok (with_mappings (leaf_mappings one.0) (passed_from 0 zero e one.0 t)) u one.2))
  block_grown (suc level) t u e h =
      let one = in_ok (read_at at image core 0 (suc level) (t.last (suc level)) e (split_of at e.block)) t u (λ bytes. walk_each (walk_from at image core 0 level) (pruned (skipped_to 0 (t.last (suc level)) e.key) (node_entries bytes)) (passed_from 0 (suc level) e bytes t)) h in
      let parts = read_parts at image core 0 (suc level) (t.last (suc level)) e (split_of at e.block) one.0 one.1 in
      let first = node_begins at image core level e parts.0 one.0 parts.3 in
      let all = entries_same (t.last (suc level)) e.key (node_entries one.0) ∙ first.2 in
      own_grown (suc level) t u (passed_from 0 (suc level) e one.0 t) e one.0 (passed_same (suc level) e one.0 t) (some_grown (walk_from at image core 0 level) (block_grown level) first.0 first.1 (passed_from 0 (suc level) e one.0 t) u (subst (λ es. walk_each (walk_from at image core 0 level) es (passed_from 0 (suc level) e one.0 t) ≡ Ok u) all one.2))

  tree_kept : (fork : Fork) (w : Trail) → walk_tree at image core fork ≡ Ok w → Kept start w
  unfolding walk_tree
  tree_kept fork w h =
      each_kept (walk_block at image core (root_level (area_of core fork) - 1)) (λ t u e k. block_grown (root_level (area_of core fork) - 1) t u e (walk_same at image core (root_level (area_of core fork) - 1) t e ∙ k)) (root_entries core fork) start w h

-- ---- a fork without a fault

some_fault : (fault : ForkFault) (list : ForkList) → ◌≡◌ {A = Result ForkList ForkFault} (Err fault) (Ok list) → ⊥
some_fault fault list h = cc

by_fault : (o : Option ForkFault) (x list : ForkList) → list_or o x ≡ Ok list → (o ≡ None) × (x ≡ list)
by_fault None x list h = (refl, cc)
by_fault (Some fault) x list h = absurd (some_fault fault list h)

pub record IsGood (at : Layout) (image : Image) (core : Core3) (fork : Fork) (list : ForkList) : Type 0 where
  pub walk : walk_fault at image core fork ≡ None
  pub number : has_number at image core fork ≡ true
  pub same : list_of (met_of at image core fork) ≡ list

number_is : (b : Bool) → (if b then None else Some faults.Count) ≡ None → b ≡ true
number_is true h = refl
number_is false h = cc

pub is_good : (at : Layout) (image : Image) (core : Core3) (fork : Fork) (list : ForkList) → fork_in at image core fork ≡ Ok list → IsGood at image core fork list
unfolding fork_in fork_fault
is_good at image core fork list h =
    let one = by_fault (or_else (walk_fault at image core fork) (if has_number at image core fork then None else Some faults.Count)) (list_of (met_of at image core fork)) list h in
    let parts = else_parts (walk_fault at image core fork) (if has_number at image core fork then None else Some faults.Count) one.0 in
    record { walk = parts.0; number = number_is (has_number at image core fork) parts.1; same = one.1 }

pub good_is : (at : Layout) (image : Image) (core : Core3) (fork : Fork) → walk_fault at image core fork ≡ None → has_number at image core fork ≡ true → fork_in at image core fork ≡ Ok (list_of (met_of at image core fork))
unfolding fork_in fork_fault
good_is at image core fork walk number = rw (walk, number) refl

form_good : (at : Layout) (image : Image) (core : Core3) (fork : Fork) → walk_fault at image core fork ≡ None → form_fault core fork ≡ None
unfolding walk_fault
form_good at image core fork h = (else_parts (form_fault core fork) (or_else (first_bad at fork (met_of at image core fork).mappings) (block_fault (met_of at image core fork).whole)) h).0

module _ (at : Layout) (image : Image) (core : Core3) (fork : Fork) where
  met_tree : (w : Trail) → is_tree core fork ≡ true → walk_tree at image core fork ≡ Ok w → met_of at image core fork ≡ record { mappings = w.mappings; blocks = w.blocks; whole = ends (root_level (area_of core fork)) w }
  unfolding met_of
  met_tree w tree h = rw (tree, h) refl

  met_inline : is_tree core fork ≡ false → met_of at image core fork ≡ record { mappings = inline_mappings core fork; blocks = []; whole = true }
  unfolding met_of
  met_inline off = rw off refl

  -- each of its blocks has a mapping below it
  met_below : walk_fault at image core fork ≡ None → (b : Bool) → is_tree core fork ≡ b → Below (length (met_of at image core fork).mappings) (met_of at image core fork).blocks
  met_below good true tree =
      let found = good_walk at image core fork (form_good at image core fork good) tree (walk_tree at image core fork) refl good in
      let w = found.0 in
      let kept = tree_kept at image core fork w found.1 in
      subst (λ (x : Met). Below (length x.mappings) x.blocks) (sym (met_tree w tree found.1)) (subst (Below (length w.mappings)) (sym kept.blocks) kept.low)
  met_below good false off = subst (λ (x : Met). Below (length x.mappings) x.blocks) (sym (met_inline off)) tt

  pub list_below : (list : ForkList) → fork_in at image core fork ≡ Ok list → Below (length list.mappings) list.blocks
  list_below list h =
      let good = is_good at image core fork list h in
      subst (λ (x : ForkList). Below (length x.mappings) x.blocks) good.same (met_below good.walk (is_tree core fork) refl)

-- ---- what pieces are of a list

record Prefix (list : ForkList) (ms : List Mapping) (bs : List ℕ) : Type 0 where
  more : List Mapping
  mappings_are : list.mappings ≡ ms ++ more
  own : List TreeBlock
  later : List TreeBlock
  blocks_are : list.blocks ≡ own ++ later
  given : bs ≡ map (λ (b : TreeBlock). b.block) own
  own_first : Below (length ms) own
  later_first : From (length ms) later

all_from : (bs : List TreeBlock) → From 0 bs
all_from [] = tt
all_from (b ∷ bs) = (omega arith, all_from bs)

none_before : (list : ForkList) → Prefix list [] []
none_before list = record { more = list.mappings; mappings_are = refl; own = []; later = list.blocks; blocks_are = refl; given = refl; own_first = tt; later_first = all_from list.blocks }

module _ (at : Layout) (image : Image) (core : Core3) (fork : Fork) (list : ForkList) (good : fork_in at image core fork ≡ Ok list) where
  abbrev is : IsGood at image core fork list
  is = is_good at image core fork list good

  some_before : (pieces : List ForkPiece) (from : ℕ) → 0 < from → Follow at image core fork (Some 0) pieces (Some from) → Prefix list (all_mappings pieces) (all_blocks pieces)
  some_before pieces from some h =
      let rest = leaves_rest at image core fork pieces from h some is.walk in
      record {
        more = rest.first ∷ rest.more;
        mappings_are = ap (λ (x : ForkList). x.mappings) (sym is.same) ∙ rest.mappings_are;
        own = rest.own;
        later = rest.later;
        blocks_are = ap (λ (x : ForkList). x.blocks) (sym is.same) ∙ rest.blocks_are;
        given = rest.given;
        own_first = rest.own_first;
        later_first = rest.later_first;
      }

  before : (pieces : List ForkPiece) (from : ℕ) → (pieces ≡ []) ⊎ (0 < from) → Follow at image core fork (Some 0) pieces (Some from) → Prefix list (all_mappings pieces) (all_blocks pieces)
  before pieces from (inl none) h = subst (λ ps. Prefix list (all_mappings ps) (all_blocks ps)) (sym none) (none_before list)
  before pieces from (inr some) h = some_before pieces from some h

  whole : (pieces : List ForkPiece) → Follow at image core fork (Some 0) pieces None → Prefix list (all_mappings pieces) (all_blocks pieces) × (length (all_mappings pieces) ≡ length list.mappings)
  whole pieces h =
      let all = pieces_whole at image core fork pieces h in
      let maps : all_mappings pieces ≡ list.mappings = all.mappings_are ∙ ap (λ (x : ForkList). x.mappings) is.same in
      let blocks : all_blocks pieces ≡ map (λ (b : TreeBlock). b.block) list.blocks = all.blocks_are ∙ ap (λ (x : ForkList). map (λ (b : TreeBlock). b.block) x.blocks) is.same in (
        record {
          more = [];
          mappings_are = sym maps ∙ sym (append-nil (all_mappings pieces));
          own = list.blocks;
          later = [];
          blocks_are = sym (append-nil list.blocks);
          given = blocks;
          own_first = subst (λ n. Below n list.blocks) (ap length (sym maps)) (list_below at image core fork list good);
          later_first = tt;
        },
        ap length maps,
      )

-- ---- one piece more

snoc_mappings : (pieces : List ForkPiece) (piece : ForkPiece) → all_mappings (pieces ++ piece ∷ []) ≡ all_mappings pieces ++ piece.mappings.items
snoc_mappings [] piece = append-nil piece.mappings.items
snoc_mappings (p ∷ pieces) piece = ap (λ xs. p.mappings.items ++ xs) (snoc_mappings pieces piece) ∙ sym (append_assoc p.mappings.items (all_mappings pieces) piece.mappings.items)

snoc_blocks : (pieces : List ForkPiece) (piece : ForkPiece) → all_blocks (pieces ++ piece ∷ []) ≡ all_blocks pieces ++ piece.tree_blocks.items
snoc_blocks [] piece = append-nil piece.tree_blocks.items
snoc_blocks (p ∷ pieces) piece = ap (λ xs. p.tree_blocks.items ++ xs) (snoc_blocks pieces piece) ∙ sym (append_assoc p.tree_blocks.items (all_blocks pieces) piece.tree_blocks.items)

pub snoc_follow : (at : Layout) (image : Image) (core : Core3) (fork : Fork) (pieces : List ForkPiece) (first : Option ℕ) (from : ℕ) (piece : ForkPiece) → Follow at image core fork first pieces (Some from) → IsForkPiece at image core fork from piece → Follow at image core fork first (pieces ++ piece ∷ []) piece.next
snoc_follow at image core fork [] first from piece h p = subst (λ (o : Option ℕ). Follow at image core fork o (piece ∷ []) piece.next) (sym h) (p, refl)
snoc_follow at image core fork (q ∷ pieces) None from piece h p = absurd h
snoc_follow at image core fork (q ∷ pieces) (Some first) from piece h p = (h.0, snoc_follow at image core fork pieces q.next from piece h.1 p)

pub snoc_count : (pieces : List ForkPiece) (piece : ForkPiece) → length (all_mappings (pieces ++ piece ∷ [])) ≡ length (all_mappings pieces) + length piece.mappings.items
snoc_count pieces piece = ap length (snoc_mappings pieces piece) ∙ length-append (all_mappings pieces) piece.mappings.items

-- ---- lists

take_all : {X : Type 0} (xs ys : List X) → take (length xs) (xs ++ ys) ≡ xs
take_all [] ys = refl
take_all (x ∷ xs) ys = ap (λ zs. x ∷ zs) (take_all xs ys)

drop_all : {X : Type 0} (xs ys : List X) → drop (length xs) (xs ++ ys) ≡ ys
drop_all [] ys = refl
drop_all (x ∷ xs) ys = drop_all xs ys

middle : {X : Type 0} (xs ys zs all : List X) → all ≡ (xs ++ ys) ++ zs → take (length ys) (drop (length xs) all) ≡ ys
middle xs ys zs all e = ap (λ l. take (length ys) (drop (length xs) l)) (e ∙ append_assoc xs ys zs) ∙ ap (take (length ys)) (drop_all xs (ys ++ zs)) ∙ take_all ys zs

passes : (p : TreeBlock → Bool) (b : TreeBlock) (bs : List TreeBlock) (t : Bool) → p b ≡ t → filter p (b ∷ bs) ≡ cond t (b ∷ filter p bs) (filter p bs)
passes p b bs t e = ap (λ x. cond x (b ∷ filter p bs) (filter p bs)) e

both_parts : (p : TreeBlock → Bool) (xs ys : List TreeBlock) → filter p (xs ++ ys) ≡ filter p xs ++ filter p ys
both_parts p [] ys = refl
both_parts p (x ∷ xs) ys =
    let rest = both_parts p xs ys in
    elim (cases_Bool (p x)) [ inl kept ↦ passes p x (xs ++ ys) true kept ∙ ap (λ zs. x ∷ zs) rest ∙ ap (λ zs. zs ++ filter p ys) (sym (passes p x xs true kept)) | inr out ↦ passes p x (xs ++ ys) false out ∙ rest ∙ ap (λ zs. zs ++ filter p ys) (sym (passes p x xs false out)) ]

abbrev among : ℕ → ℕ → TreeBlock → Bool
among k n b = nat_le k b.before && nat_lt b.before (k + n)

not_among : (k n x : ℕ) → x < k → (nat_le k x && nat_lt x (k + n)) ≡ false
not_among k n x h = grind (arith, nat_tests)

none_among : (k n : ℕ) (bs : List TreeBlock) → Below k bs → filter (among k n) bs ≡ []
none_among k n [] h = refl
none_among k n (b ∷ bs) h =
    let low = h.0 in
    passes (among k n) b bs false (not_among k n b.before low) ∙ none_among k n bs h.1

among_all : (k n x : ℕ) → k ≤ x → (nat_le k x && nat_lt x (k + n)) ≡ nat_lt x (k + n)
among_all k n x h = grind (arith, nat_tests)

all_among : (k n : ℕ) (bs : List TreeBlock) → From k bs → filter (among k n) bs ≡ filter (λ (b : TreeBlock). nat_lt b.before (k + n)) bs
all_among k n [] h = refl
all_among k n (b ∷ bs) h =
    let low = h.0 in
    ap (λ x. cond x (b ∷ filter (among k n) bs) (filter (among k n) bs)) (among_all k n b.before low) ∙ ap (λ zs. cond (nat_lt b.before (k + n)) (b ∷ zs) zs) (all_among k n bs h.1)

is_low : (x n : ℕ) → x < n → nat_lt x n ≡ true
is_low x n h = grind (arith, nat_tests)

is_high : (x n : ℕ) → n ≤ x → nat_lt x n ≡ false
is_high x n h = grind (arith, nat_tests)

all_low : (n : ℕ) (bs : List TreeBlock) → Below n bs → filter (λ (b : TreeBlock). nat_lt b.before n) bs ≡ bs
all_low n [] h = refl
all_low n (b ∷ bs) h = passes (λ (x : TreeBlock). nat_lt x.before n) b bs true (is_low b.before n h.0) ∙ ap (λ zs. b ∷ zs) (all_low n bs h.1)

none_low : (n : ℕ) (bs : List TreeBlock) → From n bs → filter (λ (b : TreeBlock). nat_lt b.before n) bs ≡ []
none_low n [] h = refl
none_low n (b ∷ bs) h = passes (λ (x : TreeBlock). nat_lt x.before n) b bs false (is_high b.before n h.0) ∙ none_low n bs h.1

cancel : (xs ys zs : List ℕ) → xs ++ ys ≡ xs ++ zs → ys ≡ zs
cancel [] ys zs h = h
cancel (x ∷ xs) ys zs h = cancel xs ys zs (cc)

map_both : (xs ys : List TreeBlock) → map (λ (b : TreeBlock). b.block) (xs ++ ys) ≡ map (λ (b : TreeBlock). b.block) xs ++ map (λ (b : TreeBlock). b.block) ys
map_both [] ys = refl
map_both (x ∷ xs) ys = ap (λ zs. x.block ∷ zs) (map_both xs ys)

-- blocks of two fronts of a list, and those between
between : (k n : ℕ) (all own later own' later' : List TreeBlock) (bs : List ℕ) → all ≡ own ++ later → all ≡ own' ++ later' → Below k own → From k later → Below (k + n) own' → From (k + n) later' → Below (k + n) own → map (λ (b : TreeBlock). b.block) own ++ bs ≡ map (λ (b : TreeBlock). b.block) own' → map (λ (b : TreeBlock). b.block) (filter (among k n) all) ≡ bs
between k n all own later own' later' bs e e' o l o' l' o2 g =
    let chosen = ap (filter (among k n)) e ∙ both_parts (among k n) own later ∙ (λ i. none_among k n own o i ++ all_among k n later l i) in
    let low : TreeBlock → Bool = λ (b : TreeBlock). nat_lt b.before (k + n) in
    let first : filter low all ≡ own ++ filter low later = ap (filter low) e ∙ both_parts low own later ∙ ap (λ zs. zs ++ filter low later) (all_low (k + n) own o2) in
    let second : filter low all ≡ own' = ap (filter low) e' ∙ both_parts low own' later' ∙ (λ i. all_low (k + n) own' o' i ++ none_low (k + n) later' l' i) ∙ append-nil own' in
    let same : own' ≡ own ++ filter (among k n) all = sym second ∙ first ∙ ap (λ zs. own ++ zs) (sym chosen) in
    sym (cancel (map (λ (b : TreeBlock). b.block) own) bs (map (λ (b : TreeBlock). b.block) (filter (among k n) all)) (g ∙ ap (map (λ (b : TreeBlock). b.block)) same ∙ map_both own (filter (among k n) all)))

longer : (xs ys all : List Mapping) (n : ℕ) → all ≡ xs ++ ys → length xs ≡ n → n ≤ length all
longer xs ys all n e l = let k = ap length e ∙ length-append xs ys in omega (arith, k, l)

-- ---- the law

module _ (at : Layout) (image : Image) (core : Core3) (fork : Fork) (list : ForkList) where
  next_piece : (k : ℕ) (pieces : List ForkPiece) (piece : ForkPiece) → k ≡ length (all_mappings pieces) → Prefix list (all_mappings pieces) (all_blocks pieces) → Prefix list (all_mappings (pieces ++ piece ∷ [])) (all_blocks (pieces ++ piece ∷ [])) → (piece.next ≡ None → length (all_mappings (pieces ++ piece ∷ [])) ≡ length list.mappings) → IsNextPiece list k piece
  next_piece k pieces piece count p q last =
      let n : ℕ = length piece.mappings.items in
      let long : length (all_mappings (pieces ++ piece ∷ [])) ≡ k + n = snoc_count pieces piece ∙ ap (λ x. x + n) (sym count) in
      let low = subst (λ x. Below x p.own) (sym count) p.own_first in
      record {
        mappings = ap (λ x. take n (drop x list.mappings)) count ∙ middle (all_mappings pieces) piece.mappings.items q.more list.mappings (q.mappings_are ∙ ap (λ xs. xs ++ q.more) (snoc_mappings pieces piece));
        blocks = between k n list.blocks p.own p.later q.own q.later piece.tree_blocks.items p.blocks_are q.blocks_are low (subst (λ x. From x p.later) (sym count) p.later_first) (subst (λ x. Below x q.own) long q.own_first) (subst (λ x. From x q.later) long q.later_first) (higher k (k + n) (omega arith) p.own low)
            (ap (λ bs. bs ++ piece.tree_blocks.items) (sym p.given) ∙ sym (snoc_blocks pieces piece) ∙ q.given);
        inside = longer (all_mappings (pieces ++ piece ∷ [])) q.more list.mappings (k + n) q.mappings_are long;
        last = λ none. sym long ∙ last none;
      }

pub next_is_given : (at : Layout) (core : Core3) (fork : Fork) → NextIsGiven at core fork
next_is_given at core fork image list from k piece good c behind p =
    let on = snoc_follow at image core fork c.pieces (Some 0) from piece c.follow p in
    let first = before at image core fork list good c.pieces from c.begun c.follow in
    by_next piece.next refl on first
  where
    none_some : (o : ℕ) → ◌≡◌ {A = Option ℕ} (Some o) None → ⊥
    none_some o h = cc

    by_next : (o : Option ℕ) → piece.next ≡ o → Follow at image core fork (Some 0) (c.pieces ++ piece ∷ []) piece.next → Prefix list (all_mappings c.pieces) (all_blocks c.pieces) → IsNextPiece list k piece
    by_next None e on first =
        let end = whole at image core fork list good (c.pieces ++ piece ∷ []) (subst (Follow at image core fork (Some 0) (c.pieces ++ piece ∷ [])) e on) in
        next_piece at image core fork list k c.pieces piece c.count first end.0 (λ none. end.1)
    by_next (Some o) e on first =
        let late = behind o e in
        let end = some_before at image core fork list good (c.pieces ++ piece ∷ []) o (omega (arith, late)) (subst (Follow at image core fork (Some 0) (c.pieces ++ piece ∷ [])) e on) in
        next_piece at image core fork list k c.pieces piece c.count first end (λ none. absurd (none_some o (sym e ∙ none)))
