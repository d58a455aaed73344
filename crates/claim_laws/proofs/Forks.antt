-- The pieces of forks: their claims, their places, and how often a block is claimed at one offset.
use Rattle.std.proofs.Common.{◌≡◌, ◌<◌, ◌≤◌, ◌+◌, ◌-◌, ◌^◌, ◌%◌, ◌/◌, ℕ, Bool, true, false, cond, not, ◌&&◌, List, [], ◌∷◌, ◌++◌, map, All, Option, Some, None, refl, ap, sym, subst, ◌∙◌, inl, inr, arith, add-zero}
use Rattle.std.specs.Prelude.{◌==◌, ◌||◌, ⊤, nat_lt, nat_le, if◌then◌else◌}
use Rattle.std.proofs.lemmas.Bool.{and_from, and_parts, cases_lt, eqb-true, false≢true, false_from_ne_true, le-leb, leb-true, ltb-true}
use Rattle.std.proofs.lemmas.List.{append-nil}
use Rattle.std.proofs.lemmas.List.Elements.{All-cons, All-nil}
use Rattle.byte_fields.specs.FirstFailing.{first_failing}
use Rattle.dinode_core.specs.ForkTree.{TreeBlock}
use Rattle.dinode_core.specs.Inline.{clears, ends_in_group, first_bad, in_range, is_attr, mapping_fault, or_else, rises}
use Rattle.dinode_core.specs.declared.mapping.Fork.{Fork}
use Rattle.dinode_core.specs.declared.mapping.ForkFault.{ForkFault}
use Rattle.dinode_core.specs.declared.mapping.ForkFault.TheVariants as faults
use Rattle.dinode_core.specs.declared.mapping.Mapping.{Mapping}
use Rattle.fs_state.specs.Claims.{blocks_at, fork_tree, fork_tree_claims, mapped_blocks, mapping_claims, tree_block_at, word_of}
use Rattle.fs_state.specs.Lists.{numbers, only_if}
use Rattle.fs_model.specs.declared.claim.Claim.{Claim}
use Rattle.fs_model.specs.declared.claim.Claim.TheVariants.{ForkTree}
use Rattle.geom.specs.Layout.{Layout, group_len_of, split_of}
use Rattle.geom.specs.Numbers.{split}
use Rattle.rmap_recs.specs.Owners.{is_inode}
use Rattle.rmap_recs.specs.Rmap.{has_end}
use Rattle.rmap_recs.specs.Runs.{tuple_at}
use Rattle.rmap_recs.specs.Words.{is_fork_data, is_unwritten, key_word, offset_of}
use Rattle.rmap_recs.specs.declared.records.Key.{Key}
use Rattle.run_edits.specs.Edits.{HasRoom}
use Rattle.unit_plan.proofs.Counting.{many}
use Rattle.unit_plan.specs.Group.{claimed_at, claims_of, mapping_pieces, piece_at, tree_piece_at, tree_pieces}
use Rattle.unit_plan.specs.Joined.{has_key}
use Rattle.unit_plan.specs.Lost.{of_piece}
use Rattle.unit_plan.specs.Sets.{LieBelow}
use Rattle.unit_plan.specs.declared.piece.Piece.{Piece}
use Rattle.claim_laws.proofs.Ordered.{AllClaim, claim_both}
use Rattle.claim_laws.proofs.Pieces.{AllSteady, Steady, claims_both, row, steady_both, steady_data}
use Rattle.claim_laws.proofs.Words.{IsFlag, fork_data_at, key_offset, offset_at, unwritten_at, word_at}

-- ---- lists

pub below_both : (len : ℕ) (ps qs : List Piece) → LieBelow len ps → LieBelow len qs → LieBelow len (ps ++ qs)
below_both len [] qs h k = k
below_both len (p ∷ ps) qs h k = (h.0, below_both len ps qs h.1 k)

abbrev pub AllRoom : List Piece → Type 0
AllRoom [] = ⊤
AllRoom (p ∷ ps) = HasRoom (of_piece p) × AllRoom ps

pub room_both : (ps qs : List Piece) → AllRoom ps → AllRoom qs → AllRoom (ps ++ qs)
room_both [] qs h k = k
room_both (p ∷ ps) qs h k = (h.0, room_both ps qs h.1 k)

pub all_rooms : (ps : List Piece) → AllRoom ps → All HasRoom (map of_piece ps)
all_rooms [] h = All-nil HasRoom
all_rooms (p ∷ ps) h = All-cons HasRoom (of_piece p) (map of_piece ps) h.0 (all_rooms ps h.1)

sum_on : (b : Bool) (m n : ℕ) → cond b (1 + (m + n)) (m + n) ≡ cond b (1 + m) m + n
sum_on true m n = omega arith
sum_on false m n = refl

pub many_append : {X : Type 0} (t : X → Bool) (xs ys : List X) → many t (xs ++ ys) ≡ many t xs + many t ys
many_append t [] ys = omega arith
many_append t (x ∷ xs) ys = ap (λ (n : ℕ). cond (t x) (1 + n) n) (many_append t xs ys) ∙ sum_on (t x) (many t xs) (many t ys)

-- ---- mappings without a fault

four : (a b c d : Bool) → (a && b && c && d) ≡ true → (a ≡ true) × (b ≡ true) × (c ≡ true) × (d ≡ true)
four true true true true h = (refl, refl, refl, refl)
four true true true false h = absurd (false≢true h)
four true true false d h = absurd (false≢true h)
four true false c d h = absurd (false≢true h)
four false b c d h = absurd (false≢true h)

some_none : (f : ForkFault) → ◌≡◌ {A = Option ForkFault} (Some f) None → ⊥
some_none f h = cc

tests_pass : (r c i : Bool) (rest : Option ForkFault) → or_else (first_failing ((r, faults.Order) ∷ (c, faults.Overlap) ∷ (i, faults.Range) ∷ [])) rest ≡ None → (c ≡ true) × (i ≡ true) × (rest ≡ None)
tests_pass true true true rest h = (refl, refl, h)
tests_pass true true false rest h = absurd (some_none faults.Range h)
tests_pass true false i rest h = absurd (some_none faults.Overlap h)
tests_pass false c i rest h = absurd (some_none faults.Order h)

-- n blocks at an offset, and where it lies in a group they end in it
pub record IsFit (at : Layout) (m : Mapping) : Type 0 where
  pub some : 1 ≤ m.count
  pub inside : ends_in_group at (split_of at m.block) m.count ≡ true
  pub offsets : m.offset + m.count ≤ 2 ^ 54

abbrev pub Good : Layout → List Mapping → Type 0
Good at [] = ⊤
Good at (m ∷ ms) = (clears m ms ≡ true) × IsFit at m × Good at ms

fit_from : (at : Layout) (f : Fork) (m : Mapping) → in_range at f m ≡ true → IsFit at m
unfolding in_range
fit_from at f m h =
    let k = four (nat_le 1 m.count) (ends_in_group at (split_of at m.block) m.count) (nat_le (m.offset + m.count) (2 ^ 54)) (not (m.unwritten && is_attr f)) h in
    record { some = leb-true 1 m.count k.0; inside = k.1; offsets = leb-true (m.offset + m.count) (2 ^ 54) k.2 }

pub good_from : (at : Layout) (f : Fork) (ms : List Mapping) → first_bad at f ms ≡ None → Good at ms
unfolding first_bad mapping_fault
good_from at f [] h = tt
good_from at f (m ∷ ms) h =
    let k = tests_pass (rises m ms) (clears m ms) (in_range at f m) (first_bad at f ms) h in
    (k.0, fit_from at f m k.1, good_from at f ms k.2)

-- each piece of mappings has their claim
module _ (at : Layout) (g : ℕ) (c : Claim) (ino flag : ℕ) where
  sort_if : (x : Piece) (b : Bool) → x.claim ≡ c → AllClaim c (only_if b x)
  sort_if x true h = (h, tt)
  sort_if x false h = tt

  one_sort : (m : Mapping) (o : Option (ℕ × ℕ)) → AllClaim c (piece_at g c ino flag m o)
  one_sort m None = tt
  one_sort m (Some p) = sort_if (record { claim = c; run = record { start = p.1; count = m.count }; owner = ino; word = word_of flag m }) (p.0 == g) refl

  pub mappings_sort : (ms : List Mapping) → AllClaim c (mapping_pieces at g c ino flag ms)
  mappings_sort [] = tt
  mappings_sort (m ∷ ms) = claim_both c (piece_at g c ino flag m (split_of at m.block)) (mapping_pieces at g c ino flag ms) (one_sort m (split_of at m.block)) (mappings_sort ms)

-- ---- the pieces of mappings

module _ (at : Layout) (g : ℕ) (c : Claim) (ino flag : ℕ) (inode : is_inode ino ≡ true) (is_flag : IsFlag flag) where
  abbrev piece_of : Mapping → ℕ × ℕ → Piece
  piece_of m p = record { claim = c; run = record { start = p.1; count = m.count }; owner = ino; word = word_of flag m }

  fork_data : (m : Mapping) → IsFit at m → is_fork_data ino (word_of flag m) ≡ true
  fork_data m fit = let some = fit.some in let end = fit.offsets in fork_data_at ino m.offset flag m.unwritten inode is_flag (omega (arith, some, end))

  if_claims : (m : Mapping) (p : ℕ × ℕ) (b : Bool) → is_fork_data ino (word_of flag m) ≡ true → claims_of (only_if b (piece_of m p)) ≡ (if b then mapped_blocks c ino p.1 (word_of flag m) m.count else [])
  if_claims m p false fd = refl
  if_claims m p true fd = append-nil (map (claimed_at (piece_of m p)) (numbers 0 m.count)) ∙ row (piece_of m p) fd 0 m.count p.1 (word_of flag m) (omega arith) (omega arith)

  one_claims : (m : Mapping) (o : Option (ℕ × ℕ)) → is_fork_data ino (word_of flag m) ≡ true → claims_of (piece_at g c ino flag m o) ≡ blocks_at g c ino flag m o
  one_claims m None fd = refl
  one_claims m (Some p) fd = if_claims m p (p.0 == g) fd

  pub mappings_claimed : (ms : List Mapping) → Good at ms → claims_of (mapping_pieces at g c ino flag ms) ≡ mapping_claims at g c ino flag ms
  mappings_claimed [] good = refl
  mappings_claimed (m ∷ ms) good =
      claims_both (piece_at g c ino flag m (split_of at m.block)) (mapping_pieces at g c ino flag ms)
      ∙ (λ i. one_claims m (split_of at m.block) (fork_data m good.1) i ++ mappings_claimed ms good.2 i)

  -- they lie in the group
  ends_at : (m : Mapping) (p : ℕ × ℕ) → ends_in_group at (Some p) m.count ≡ true → (p.0 == g) ≡ true → p.1 + m.count ≤ group_len_of at g
  ends_at m p h is = subst (λ (x : ℕ). p.1 + m.count ≤ group_len_of at x) (eqb-true p.0 g is) (leb-true (p.1 + m.count) (group_len_of at p.0) h)

  one_low : (m : Mapping) (o : Option (ℕ × ℕ)) → ends_in_group at o m.count ≡ true → LieBelow (group_len_of at g) (piece_at g c ino flag m o)
  one_low m None h = tt
  one_low m (Some p) h = (elim (p.0 == g) as (λ b. (p.0 == g) ≡ b → LieBelow (group_len_of at g) (only_if b (piece_of m p))) [
    | true ↦ λ is. (ends_at m p h is, tt)
    | false ↦ λ is. tt
  ]) refl

  pub mappings_low : (ms : List Mapping) → Good at ms → LieBelow (group_len_of at g) (mapping_pieces at g c ino flag ms)
  mappings_low [] good = tt
  mappings_low (m ∷ ms) good = below_both (group_len_of at g) (piece_at g c ino flag m (split_of at m.block)) (mapping_pieces at g c ino flag ms) (one_low m (split_of at m.block) good.1.inside) (mappings_low ms good.2)

  -- and their numbers have room
  room_of : (m : Mapping) (p : ℕ × ℕ) → IsFit at m → p.1 + m.count < 2 ^ 32 → HasRoom (of_piece (piece_of m p))
  unfolding has_end
  room_of m p fit room =
      let some = fit.some in
      let end = fit.offsets in
      let whole = add-zero (word_of flag m) in
      let offset : offset_of (word_of flag m) ≡ m.offset = ap offset_of (sym whole) ∙ (offset_at m.offset flag m.unwritten 0 is_flag (omega (arith, some, end)) ∙ add-zero m.offset) in
      let ends : nat_le (offset_of (word_of flag m) + m.count) (2 ^ 54) ≡ true = ap (λ (o : ℕ). nat_le (o + m.count) (2 ^ 54)) offset ∙ le-leb (m.offset + m.count) (2 ^ 54) end in (
        and_from (nat_le 1 m.count && nat_le (p.1 + m.count) (2 ^ 32)) (not (is_fork_data ino (word_of flag m)) || nat_le (offset_of (word_of flag m) + m.count) (2 ^ 54))
            (and_from (nat_le 1 m.count) (nat_le (p.1 + m.count) (2 ^ 32)) (le-leb 1 m.count some) (le-leb (p.1 + m.count) (2 ^ 32) (omega (arith, room))))
            (or_last (not (is_fork_data ino (word_of flag m))) (nat_le (offset_of (word_of flag m) + m.count) (2 ^ 54)) ends),
        room,
      )
    where
      or_last : (a b : Bool) → b ≡ true → (a || b) ≡ true
      or_last true b h = refl
      or_last false b h = h

  one_room : (short : (group_len_of at g) < 2 ^ 32) (m : Mapping) (o : Option (ℕ × ℕ)) → IsFit at m → ends_in_group at o m.count ≡ true → AllRoom (piece_at g c ino flag m o)
  one_room short m None fit h = tt
  one_room short m (Some p) fit h = (elim (p.0 == g) as (λ b. (p.0 == g) ≡ b → AllRoom (only_if b (piece_of m p))) [
    | true ↦ λ is. (room_of m p fit (let end = ends_at m p h is in omega (arith, end, short)), tt)
    | false ↦ λ is. tt
  ]) refl

  pub mappings_room : (short : (group_len_of at g) < 2 ^ 32) (ms : List Mapping) → Good at ms → AllRoom (mapping_pieces at g c ino flag ms)
  mappings_room short [] good = tt
  mappings_room short (m ∷ ms) good = room_both (piece_at g c ino flag m (split_of at m.block)) (mapping_pieces at g c ino flag ms) (one_room short m (split_of at m.block) good.1 good.1.inside) (mappings_room short ms good.2)

  -- written blocks and unwritten ones stay what they are
  steady_of : flag ≡ 0 → (m : Mapping) (p : ℕ × ℕ) → IsFit at m → Steady (piece_of m p)
  steady_of zero_flag m p fit = steady_data (piece_of m p) (λ i lt.
      let end = fit.offsets in
      let whole = add-zero (word_of flag m) in
      let word : (tuple_at (of_piece (piece_of m p)) i).word ≡ word_at m.offset flag m.unwritten i = ap (λ (t : Bool). if t then word_of flag m + i else word_of flag m) (fork_data m fit) in
      ap is_unwritten word ∙ (unwritten_at m.offset flag m.unwritten i zero_flag (omega (arith, end, lt)) ∙ (sym (unwritten_at m.offset flag m.unwritten 0 zero_flag (omega (arith, end, lt))) ∙ ap is_unwritten whole)))

  one_steady : flag ≡ 0 → (m : Mapping) (o : Option (ℕ × ℕ)) → IsFit at m → AllSteady (piece_at g c ino flag m o)
  one_steady z m None fit = tt
  one_steady z m (Some p) fit = elim (p.0 == g) as (λ b. AllSteady (only_if b (piece_of m p))) [ true ↦ (steady_of z m p fit, tt) | false ↦ tt ]

  pub mappings_steady : flag ≡ 0 → (ms : List Mapping) → Good at ms → AllSteady (mapping_pieces at g c ino flag ms)
  mappings_steady z [] good = tt
  mappings_steady z (m ∷ ms) good = steady_both (piece_at g c ino flag m (split_of at m.block)) (mapping_pieces at g c ino flag ms) (one_steady z m (split_of at m.block) good.1) (mappings_steady z ms good.2)

  -- ---- a block is claimed once at an offset

  abbrev with_key : Key → Piece → Bool
  with_key k p = has_key k (of_piece p)

  -- who has the key has its owner, and its offset among those of the mapping
  key_in : (m : Mapping) (p : ℕ × ℕ) (k : Key) → IsFit at m → with_key k (piece_of m p) ≡ true → (k.owner ≡ ino) × (m.offset ≤ offset_of k.word) × (offset_of k.word < m.offset + m.count)
  key_in m p k fit h =
      let b = p.1 in
      let i = k.start - b in
      let halves = and_parts (nat_le b k.start && nat_lt k.start (b + m.count)) ((ino == k.owner) && (key_word (tuple_at (of_piece (piece_of m p)) i).word == k.word)) h in
      let places = and_parts (nat_le b k.start) (nat_lt k.start (b + m.count)) halves.0 in
      let names = and_parts (ino == k.owner) (key_word (tuple_at (of_piece (piece_of m p)) i).word == k.word) halves.1 in
      let low = leb-true b k.start places.0 in
      let high = ltb-true k.start (b + m.count) places.1 in
      let end = fit.offsets in
      let short : i < m.count = omega (arith, low, high) in
      let word : (tuple_at (of_piece (piece_of m p)) i).word ≡ word_at m.offset flag m.unwritten i = ap (λ (t : Bool). if t then word_of flag m + i else word_of flag m) (fork_data m fit) in
      let offset : offset_of k.word ≡ m.offset + i =
      ap offset_of (sym (eqb-true (key_word (tuple_at (of_piece (piece_of m p)) i).word) k.word names.1))
      ∙ (key_offset (tuple_at (of_piece (piece_of m p)) i).word ∙ (ap offset_of word ∙ offset_at m.offset flag m.unwritten i is_flag (omega (arith, end, short)))) in
      (sym (eqb-true ino k.owner names.0), omega (arith, offset), omega (arith, offset, short))

  many_if : (t : Piece → Bool) (x : Piece) (b : Bool) → t x ≡ false → many t (only_if b x) ≡ 0
  many_if t x true h = ap (λ (s : Bool). cond {A = ℕ} s 1 0) h
  many_if t x false h = refl

  one_if : (t : Piece → Bool) (x : Piece) (b : Bool) → many t (only_if b x) ≤ 1
  one_if t x true = most (t x) where
    most : (s : Bool) → cond {A = ℕ} s 1 0 ≤ 1
    most true = omega arith
    most false = omega arith
  one_if t x false = omega arith

  none_at : (m : Mapping) (k : Key) (o : Option (ℕ × ℕ)) → IsFit at m → ((k.owner ≡ ino) → m.offset ≤ offset_of k.word → offset_of k.word < m.offset + m.count → ⊥) → many (with_key k) (piece_at g c ino flag m o) ≡ 0
  none_at m k None fit never = refl
  none_at m k (Some p) fit never = many_if (with_key k) (piece_of m p) (p.0 == g) (false_from_ne_true (with_key k (piece_of m p)) (λ h. let x = key_in m p k fit h in never x.0 x.1 x.2))

  most_at : (m : Mapping) (k : Key) (o : Option (ℕ × ℕ)) → many (with_key k) (piece_at g c ino flag m o) ≤ 1
  most_at m k None = omega arith
  most_at m k (Some p) = one_if (with_key k) (piece_of m p) (p.0 == g)

  pub other_owner : (k : Key) (ms : List Mapping) → Good at ms → (k.owner ≡ ino → ⊥) → many (with_key k) (mapping_pieces at g c ino flag ms) ≡ 0
  other_owner k [] good never = refl
  other_owner k (m ∷ ms) good never =
      let one = none_at m k (split_of at m.block) good.1 (λ is low high. never is) in
      let rest = other_owner k ms good.2 never in
      let sum = many_append (with_key k) (piece_at g c ino flag m (split_of at m.block)) (mapping_pieces at g c ino flag ms) in
      omega (arith, one, rest, sum)

  -- none begins below an offset
  abbrev From : ℕ → List Mapping → Type 0
  From lo [] = ⊤
  From lo (m ∷ ms) = (lo ≤ m.offset) × From lo ms

  from_lower : (hi lo : ℕ) (ms : List Mapping) → lo ≤ hi → From hi ms → From lo ms
  from_lower hi lo [] le h = tt
  from_lower hi lo (m ∷ ms) le h = ((let l = h.0 in omega (arith, le, l)), from_lower hi lo ms le h.1)

  behind : (m : Mapping) (ms : List Mapping) → Good at (m ∷ ms) → From (m.offset + m.count) ms
  unfolding clears
  behind m [] good = tt
  behind m (n ∷ ms) good =
      let le = leb-true (m.offset + m.count) n.offset good.0 in
      (le, from_lower (n.offset + n.count) (m.offset + m.count) ms (omega (arith, le)) (behind n ms good.2))

  none_below : (k : Key) (lo : ℕ) (ms : List Mapping) → Good at ms → From lo ms → offset_of k.word < lo → many (with_key k) (mapping_pieces at g c ino flag ms) ≡ 0
  none_below k lo [] good from low = refl
  none_below k lo (m ∷ ms) good from low =
      let start = from.0 in
      let one = none_at m k (split_of at m.block) good.1 (λ is x y. omega (arith, low, start, x)) in
      let rest = none_below k lo ms good.2 from.1 low in
      let sum = many_append (with_key k) (piece_at g c ino flag m (split_of at m.block)) (mapping_pieces at g c ino flag ms) in
      omega (arith, one, rest, sum)

  pub once_each : (k : Key) (ms : List Mapping) → Good at ms → many (with_key k) (mapping_pieces at g c ino flag ms) ≤ 1
  once_each k [] good = omega arith
  once_each k (m ∷ ms) good =
      let most = most_at m k (split_of at m.block) in
      let sum = many_append (with_key k) (piece_at g c ino flag m (split_of at m.block)) (mapping_pieces at g c ino flag ms) in
      elim (cases_lt (offset_of k.word) (m.offset + m.count)) [
        | inl low ↦ (let rest = none_below k (m.offset + m.count) ms good.2 (behind m ms good) low in omega (arith, most, rest, sum))
        | inr high ↦
            let one = none_at m k (split_of at m.block) good.1 (λ is x y. omega (arith, high, y)) in
            let rest = once_each k ms good.2 in
            omega (arith, one, rest, sum)
      ]

-- ---- blocks of a fork's own btree

module _ (at : Layout) (g ino flag : ℕ) where
  abbrev block_of : ℕ × ℕ → Piece
  block_of p = record { claim = ForkTree ino; run = record { start = p.1; count = 1 }; owner = ino; word = fork_tree + flag }

  no_more : (t : Bool) (w : ℕ) → (if t then w + 0 else w) ≡ w
  no_more true w = add-zero w
  no_more false w = refl

  if_tree : (p : ℕ × ℕ) (b : Bool) → claims_of (only_if b (block_of p)) ≡ only_if b (record { block = p.1; claim = ForkTree ino; owner = ino; word = fork_tree + flag })
  if_tree p false = refl
  if_tree p true =
      let start = add-zero p.1 in
      let word = no_more (is_fork_data ino (fork_tree + flag)) (fork_tree + flag) in
      λ i. record { block = start i; claim = ForkTree ino; owner = ino; word = word i } ∷ []

  one_tree : (o : Option (ℕ × ℕ)) → claims_of (tree_piece_at g ino flag o) ≡ tree_block_at g ino flag o
  one_tree None = refl
  one_tree (Some p) = if_tree p (p.0 == g)

  pub trees_claimed : (bs : List TreeBlock) → claims_of (tree_pieces at g ino flag (map (λ b. b.block) bs)) ≡ fork_tree_claims at g ino flag bs
  trees_claimed [] = refl
  trees_claimed (b ∷ bs) =
      claims_both (tree_piece_at g ino flag (split_of at b.block)) (tree_pieces at g ino flag (map (λ x. x.block) bs))
      ∙ (λ i. one_tree (split_of at b.block) i ++ trees_claimed bs i)

  tree_sort : (o : Option (ℕ × ℕ)) → AllClaim (ForkTree ino) (tree_piece_at g ino flag o)
  tree_sort None = tt
  tree_sort (Some p) = elim (p.0 == g) as (λ b. AllClaim (ForkTree ino) (only_if b (block_of p))) [ true ↦ (refl, tt) | false ↦ tt ]

  pub trees_claim : (bs : List ℕ) → AllClaim (ForkTree ino) (tree_pieces at g ino flag bs)
  trees_claim [] = tt
  trees_claim (b ∷ bs) = claim_both (ForkTree ino) (tree_piece_at g ino flag (split_of at b)) (tree_pieces at g ino flag bs) (tree_sort (split_of at b)) (trees_claim bs)

  -- a block of the image lies in its group
  inside : (n : ℕ) (p : ℕ × ℕ) → split_of at n ≡ Some p → p.1 < group_len_of at p.0
  unfolding split
  inside n p h = from (nat_lt (n / 2 ^ at.agblklog) at.agcount && nat_lt (n % 2 ^ at.agblklog) (group_len_of at (n / 2 ^ at.agblklog))) refl h where
    from : (b : Bool) → (nat_lt (n / 2 ^ at.agblklog) at.agcount && nat_lt (n % 2 ^ at.agblklog) (group_len_of at (n / 2 ^ at.agblklog))) ≡ b → (if b then Some (n / 2 ^ at.agblklog, n % 2 ^ at.agblklog) else None) ≡ Some p → p.1 < group_len_of at p.0
    from true is e = subst (λ (q : ℕ × ℕ). q.1 < group_len_of at q.0) (some_same e) (ltb-true (n % 2 ^ at.agblklog) (group_len_of at (n / 2 ^ at.agblklog)) (and_parts (nat_lt (n / 2 ^ at.agblklog) at.agcount) (nat_lt (n % 2 ^ at.agblklog) (group_len_of at (n / 2 ^ at.agblklog))) is).1) where
      some_same : ◌≡◌ {A = Option (ℕ × ℕ)} (Some (n / 2 ^ at.agblklog, n % 2 ^ at.agblklog)) (Some p) → (n / 2 ^ at.agblklog, n % 2 ^ at.agblklog) ≡ p
      some_same s = cc
    from false is e = absurd (none_some e) where
      none_some : ◌≡◌ {A = Option (ℕ × ℕ)} None (Some p) → ⊥
      none_some s = cc

  low_at : (n : ℕ) (o : Option (ℕ × ℕ)) → split_of at n ≡ o → LieBelow (group_len_of at g) (tree_piece_at g ino flag o)
  low_at n None e = tt
  low_at n (Some p) e = (elim (p.0 == g) as (λ b. (p.0 == g) ≡ b → LieBelow (group_len_of at g) (only_if b (block_of p))) [
    | true ↦ λ is. ((let lt = subst (λ (x : ℕ). p.1 < group_len_of at x) (eqb-true p.0 g is) (inside n p e) in omega (arith, lt)), tt)
    | false ↦ λ is. tt
  ]) refl

  pub trees_low : (bs : List ℕ) → LieBelow (group_len_of at g) (tree_pieces at g ino flag bs)
  trees_low [] = tt
  trees_low (b ∷ bs) = below_both (group_len_of at g) (tree_piece_at g ino flag (split_of at b)) (tree_pieces at g ino flag bs) (low_at b (split_of at b) refl) (trees_low bs)

  -- and it has numbers behind it
  no_offset : IsFlag flag → offset_of (fork_tree + flag) ≡ 0
  no_offset (inl z) = omega (arith, z)
  no_offset (inr z) = omega (arith, z)

  room_at : IsFlag flag → (p : ℕ × ℕ) → p.1 + 1 < 2 ^ 32 → HasRoom (of_piece (block_of p))
  unfolding has_end
  room_at is_flag p room =
      let ends : nat_le (offset_of (fork_tree + flag) + 1) (2 ^ 54) ≡ true = ap (λ (o : ℕ). nat_le (o + 1) (2 ^ 54)) (no_offset is_flag) in (
        and_from (nat_le 1 1 && nat_le (p.1 + 1) (2 ^ 32)) (not (is_fork_data ino (fork_tree + flag)) || nat_le (offset_of (fork_tree + flag) + 1) (2 ^ 54))
            (and_from (nat_le 1 1) (nat_le (p.1 + 1) (2 ^ 32)) refl (le-leb (p.1 + 1) (2 ^ 32) (omega (arith, room))))
            (or_last (not (is_fork_data ino (fork_tree + flag))) (nat_le (offset_of (fork_tree + flag) + 1) (2 ^ 54)) ends),
        room,
      )
    where
      or_last : (a b : Bool) → b ≡ true → (a || b) ≡ true
      or_last true b h = refl
      or_last false b h = h

  one_free : IsFlag flag → group_len_of at g < 2 ^ 32 → (o : Option (ℕ × ℕ)) → LieBelow (group_len_of at g) (tree_piece_at g ino flag o) → AllRoom (tree_piece_at g ino flag o)
  one_free is_flag short None low = tt
  one_free is_flag short (Some p) low = (elim (p.0 == g) as (λ b. LieBelow (group_len_of at g) (only_if b (block_of p)) → AllRoom (only_if b (block_of p))) [
    | true ↦ λ l. (room_at is_flag p (let end = l.0 in omega (arith, end, short)), tt)
    | false ↦ λ l. tt
  ]) low

  pub trees_room : IsFlag flag → group_len_of at g < 2 ^ 32 → (bs : List ℕ) → AllRoom (tree_pieces at g ino flag bs)
  trees_room is_flag short [] = tt
  trees_room is_flag short (b ∷ bs) = room_both (tree_piece_at g ino flag (split_of at b)) (tree_pieces at g ino flag bs) (one_free is_flag short (split_of at b) (low_at b (split_of at b) refl)) (trees_room is_flag short bs)
