-- How often mappings of a fork have a block: of one that is added, and of a piece that leaves.
use Rattle.std.proofs.Common.{◌≡◌, ℕ, ◌+◌, ◌-◌, ◌*◌, ◌^◌, ◌<◌, ◌≤◌, ◌==◌, ◌&&◌, ◌||◌, Bool, true, false, not, cond, nat_le, nat_lt, List, [], ◌∷◌, ◌++◌, filter, find, Option, Some, None, refl, sym, ap, ap₂, ◌∙◌, arith, eqb-true}
use Rattle.std.specs.Prelude.{sum_by, if◌then◌else◌}
use Rattle.std.specs.Option.{option_map_or}
use Rattle.std.proofs.lemmas.Bool.{false≢true, true≢false, and_parts}
use Rattle.std.proofs.lemmas.Bool.Decides.{nat_tests}
use Rattle.std.proofs.lemmas.List.Sums.{sum_by-append, sum_by-cons}
use Rattle.law_accounts.specs.Account.Accounts.{at_span}
use Rattle.law_accounts.proofs.Account.Sums.{at_split}
use Rattle.law_writers.proofs.Change.Covers.{Meeting, Place, behind_place, joined_placed, meeting, place_of}
use Rattle.law_writers.proofs.Change.Lists.{Single, found_one, not_found, one_begins, one_ends}
use Rattle.law_writers.proofs.Change.Pieces.{Cut, PieceAt, same_place}
use Rattle.law_writers.specs.Change.Forks.{AreApart, Each, IsPlaced}
use Rattle.dinode_core.specs.declared.mapping.Mapping.{Mapping}
use Rattle.fs_change.specs.Records.{add_mapping, is_piece, is_unwritten_at, joined_to, mapping_rest, maps, meets, put_by, take_piece, with_before}
use Rattle.fs_state.specs.Lists.{only_if}
use Rattle.geom.proofs.ApartLemmas.{splits_in}
use Rattle.geom.specs.Apart.{HasFitting}
use Rattle.geom.specs.Layout.{Layout, fs_block_of, group_len_of, split_of}

abbrev pub share : Bool → Bool → ℕ → ℕ
share x y n = if x then (if y then n else 0) else 0

share_more : (x y : Bool) (n m k : ℕ) → n ≡ m + k → share x y n ≡ share x y m + share x y k
share_more true true n m k e = e
share_more true false n m k e = refl
share_more false y n m k e = refl

pub share_none : (x y : Bool) → share x y 0 ≡ 0
share_none true true = refl
share_none true false = refl
share_none false y = refl

span_none : (s x : ℕ) → at_span s 0 x ≡ 0
span_none s x = ap (λ b. if b then 1 else 0) (none s x)
  where
    none : (s x : ℕ) → (nat_le s x && nat_lt x (s + 0)) ≡ false
    none s x = grind (arith, nat_tests)

-- ---- sums over lists of mappings

module _ (W : Mapping → ℕ) where
  sum_put : (key : Mapping → ℕ) (x : Mapping) (ys : List Mapping) → sum_by W (put_by key x ys) ≡ W x + sum_by W ys
  sum_put key x [] = sum_by-cons W x []
  sum_put key x (y ∷ ys) = by (nat_lt (key y) (key x)) (sum_put key x ys)
    where
      swap : (a b c d : ℕ) → d ≡ b + c → a + d ≡ b + (a + c)
      swap a b c d e = omega (arith, e)

      by : (b : Bool) → sum_by W (put_by key x ys) ≡ W x + sum_by W ys → sum_by W (cond b (y ∷ put_by key x ys) (x ∷ y ∷ ys)) ≡ W x + sum_by W (y ∷ ys)
      by true rest = sum_by-cons W y (put_by key x ys) ∙ swap (W y) (W x) (sum_by W ys) (sum_by W (put_by key x ys)) rest ∙ ap (λ z. W x + z) (sym (sum_by-cons W y ys))
      by false rest = sum_by-cons W x (y ∷ ys)

  abbrev of_one : (Mapping → Bool) → List Mapping → ℕ
  of_one T ms = option_map_or W (find T ms) 0

  -- a list is what passes neither of two tests, and the one that passes the second, and the one that passes the first
  parted : (A B : Mapping → Bool) (ms : List Mapping) → Single A ms → Single B ms → ((m : Mapping) → A m ≡ true → B m ≡ false)
      → sum_by W ms ≡ (sum_by W (filter (λ m. not (A m || B m)) ms) + of_one B ms) + of_one A ms
  parted A B [] sa sb apart = refl
  parted A B (m ∷ ms) sa sb apart = sum_by-cons W m ms ∙ by (A m) refl (B m) refl (parted A B ms sa.1 sb.1 apart)
    where
      last : (w s f b a : ℕ) → s ≡ (f + b) + a → a ≡ 0 → w + s ≡ (f + b) + w
      last w s f b a e z = omega (arith, e, z)

      middle : (w s f b a : ℕ) → s ≡ (f + b) + a → b ≡ 0 → w + s ≡ (f + w) + a
      middle w s f b a e z = omega (arith, e, z)

      kept : (w s f b a g : ℕ) → s ≡ (f + b) + a → g ≡ w + f → w + s ≡ (g + b) + a
      kept w s f b a g e h = omega (arith, e, h)

      by : (x : Bool) → A m ≡ x → (y : Bool) → B m ≡ y → sum_by W ms ≡ (sum_by W (filter (λ z. not (A z || B z)) ms) + of_one B ms) + of_one A ms
          → W m + sum_by W ms ≡ (sum_by W (cond (not (x || y)) (m ∷ filter (λ z. not (A z || B z)) ms) (filter (λ z. not (A z || B z)) ms)) + option_map_or W (cond y (Some m) (find B ms)) 0) + option_map_or W (cond x (Some m) (find A ms)) 0
      by true p true q rest = absurd (true≢false (sym q ∙ apart m p))
      by true p false q rest = last (W m) (sum_by W ms) (sum_by W (filter (λ z. not (A z || B z)) ms)) (of_one B ms) (of_one A ms) rest (ap (λ o. option_map_or W o 0) (not_found A ms (sa.0 p)))
      by false p true q rest = middle (W m) (sum_by W ms) (sum_by W (filter (λ z. not (A z || B z)) ms)) (of_one B ms) (of_one A ms) rest (ap (λ o. option_map_or W o 0) (not_found B ms (sb.0 q)))
      by false p false q rest = kept (W m) (sum_by W ms) (sum_by W (filter (λ z. not (A z || B z)) ms)) (of_one B ms) (of_one A ms) (sum_by W (m ∷ filter (λ z. not (A z || B z)) ms)) rest (sum_by-cons W m (filter (λ z. not (A z || B z)) ms))

-- ---- one block of a group, where mappings with a flag that passes count

module _ (at : Layout) (h b : ℕ) (t : Bool → Bool) where
  abbrev pub part : Option (ℕ × ℕ) → Mapping → ℕ
  part None m = 0
  part (Some p) m = share (p.0 == h) (t m.unwritten) (at_span p.1 m.count b)

  abbrev pub weigh : Mapping → ℕ
  weigh m = part (split_of at m.block) m

  pub weigh_at : (m : Mapping) (g c : ℕ) → split_of at m.block ≡ Some (g, c) → weigh m ≡ share (g == h) (t m.unwritten) (at_span c m.count b)
  weigh_at m g c e = ap (λ o. part o m) e

  weigh_joined : (p q : Mapping) → IsPlaced at p → IsPlaced at q → Meeting at.agblklog p q → weigh (record p { count = p.count + q.count }) ≡ weigh p + weigh q
  weigh_joined p q pp qp m =
      let P : Place at p = place_of at p pp in
      let Q : Place at q = place_of at q qp in
      let k = behind_place at p q P Q m in
      let second : share (P.group == h) (t p.unwritten) (at_span (P.block + p.count) q.count b) ≡ weigh q =
      (λ i. share (sym k.0 i == h) (t (m.flags i)) (at_span (sym k.1 i) q.count b)) ∙ sym (weigh_at q Q.group Q.block Q.split) in
      weigh_at (record p { count = p.count + q.count }) P.group P.block P.split
      ∙ share_more (P.group == h) (t p.unwritten) (at_span P.block (p.count + q.count) b) (at_span P.block p.count b) (at_span (P.block + p.count) q.count b) (at_split P.block p.count q.count (p.count + q.count) b refl)
      ∙ ap₂ (λ x y. x + y) (sym (weigh_at p P.group P.block P.split)) second

  -- the mapping with the one before it
  before_weighs : (m : Mapping) (ms : List Mapping) → IsPlaced at m → Each (IsPlaced at) ms → (o : Option Mapping) → find (λ p. meets at.agblklog p m) ms ≡ o
      → (weigh (joined_to o m) ≡ weigh m + option_map_or weigh o 0) × IsPlaced at (joined_to o m) × ((joined_to o m).offset + (joined_to o m).count ≡ m.offset + m.count)
  before_weighs m ms pm ps None e = (none (weigh m), pm, refl)
    where
      none : (x : ℕ) → x ≡ x + 0
      none x = omega arith
  before_weighs m ms pm ps (Some p) e =
      let f = found_one (λ q. meets at.agblklog q m) (IsPlaced at) ms p ps e in
      let meet : Meeting at.agblklog p m = meeting at.agblklog p m f.0 in
      (weigh_joined p m f.1 pm meet ∙ turn (weigh p) (weigh m), joined_placed at p m f.1 pm meet, ends p.offset p.count m.offset m.count meet.offsets)
    where
      turn : (x y : ℕ) → x + y ≡ y + x
      turn x y = omega arith

      ends : (x n y k : ℕ) → x + n ≡ y → x + (n + k) ≡ y + k
      ends x n y k e = omega (arith, e)

  after_weighs : (x : Mapping) (ms : List Mapping) → IsPlaced at x → Each (IsPlaced at) ms → (o : Option Mapping) → find (meets at.agblklog x) ms ≡ o → weigh (option_map_or (joined_to (Some x)) o x) ≡ weigh x + option_map_or weigh o 0
  after_weighs x ms px ps None e = none (weigh x)
    where
      none : (y : ℕ) → y ≡ y + 0
      none y = omega arith
  after_weighs x ms px ps (Some q) e =
      let f = found_one (meets at.agblklog x) (IsPlaced at) ms q ps e in
      weigh_joined x q px f.1 (meeting at.agblklog x q f.0)

  gathered : (m a c f all y x : ℕ) → y ≡ x + c → x ≡ m + a → all ≡ (f + c) + a → y + f ≡ all + m
  gathered m a c f all y x e i k = omega (arith, e, i, k)

  -- How often does a fork have it that a mapping was added to? As often as before, and as often as the mapping.
  pub added_weighs : (m : Mapping) (ms : List Mapping) → IsPlaced at m → Each (IsPlaced at) ms → AreApart ms → sum_by weigh (add_mapping at.agblklog m ms) ≡ sum_by weigh ms + weigh m
  unfolding add_mapping
  added_weighs m ms pm ps apart =
      let l : ℕ = at.agblklog in
      let x : Mapping = with_before l m ms in
      let front = before_weighs m ms pm ps (find (λ p. meets l p m) ms) refl in
      let y : Mapping = option_map_or (joined_to (Some x)) (find (meets l x) ms) x in
      let others : ℕ = sum_by weigh (filter (λ p. not (meets l p m || meets l x p)) ms) in
      sum_put weigh (λ p. p.offset) y (filter (λ p. not (meets l p m || meets l x p)) ms)
      ∙ gathered (weigh m) (option_map_or weigh (find (λ p. meets l p m) ms) 0) (option_map_or weigh (find (meets l x) ms) 0) others (sum_by weigh ms) (weigh y) (weigh x) (after_weighs x ms front.1 ps (find (meets l x) ms) refl) front.0
      (parted weigh (λ p. meets l p m) (meets l x) ms
      (one_ends at (λ p. meets l p m) m.offset (λ p e. (meeting l p m e).offsets) ms ps apart)
      (one_begins at (meets l x) (x.offset + x.count) (λ q e. (meeting l x q e).offsets) ms ps apart)
      (λ p e. never p x (meets l x p) refl ((meeting l p m e).offsets) front.2 pm.some))
    where
      behind : (o n mo mn xe : ℕ) → o + n ≡ mo → xe ≡ mo + mn → 0 < mn → xe ≡ o → ⊥
      behind o n mo mn xe a b k e = omega (arith, a, b, k, e)

      never : (p x : Mapping) (c : Bool) → meets at.agblklog x p ≡ c → p.offset + p.count ≡ m.offset → x.offset + x.count ≡ m.offset + m.count → 0 < m.count → meets at.agblklog x p ≡ false
      never p x false k e f some = k
      never p x true k e f some = absurd (behind p.offset p.count m.offset m.count (x.offset + x.count) e f some ((meeting at.agblklog x p k).offsets))

  -- ---- a piece leaves

  abbrev run : ℕ → ℕ → ℕ → Bool → ℕ
  run g c n flag = share (g == h) (t flag) (at_span c n b)

  sum_if : (z : Bool) (m : Mapping) (n : ℕ) → (z ≡ true → weigh m ≡ n) → (z ≡ false → n ≡ 0) → sum_by weigh (only_if z m) ≡ n
  sum_if true m n e f = sum_by-cons weigh m [] ∙ none (weigh m) ∙ e refl
    where
      none : (x : ℕ) → x + 0 ≡ x
      none x = omega arith
  sum_if false m n e f = sym (f refl)

  -- what of a mapping is beside its piece, with the piece, has what the mapping has
  rest_weighs : (m : Mapping) (offset n g c : ℕ) → HasFitting at → IsPlaced at m → Cut m offset n → 0 < n → g < at.agcount → c + n ≤ group_len_of at g → fs_block_of at g c ≡ m.block + (offset - m.offset)
      → sum_by weigh (mapping_rest offset n m) + run g c n m.unwritten ≡ weigh m
  rest_weighs m offset n g c fit pm k some gl bl number =
      let p : Place at m = place_of at m pm in
      let d : ℕ = k.before in
      let e : ℕ = k.behind in
      let x : Bool = p.group == h in
      let y : Bool = t m.unwritten in
      let piece : PieceAt at m p g c d = same_place at m p g c d n fit gl bl some (fits d n e m.count k.whole) (number ∙ ap (λ z. m.block + z) (less offset m.offset d k.begins)) in
      let front : sum_by weigh (only_if (nat_lt m.offset offset) (record m { count = offset - m.offset })) ≡ share x y (at_span p.block d b) =
      sum_if (nat_lt m.offset offset) (record m { count = offset - m.offset }) (share x y (at_span p.block d b))
      (λ i. weigh_at (record m { count = offset - m.offset }) p.group p.block p.split ∙ ap (λ z. share x y (at_span p.block z b)) (less offset m.offset d k.begins))
      (λ i. ap (λ z. share x y (at_span p.block z b)) (no_front offset m.offset d k.begins i) ∙ ap (share x y) (span_none p.block b) ∙ share_none x y) in
      let back : sum_by weigh (only_if (nat_lt (offset + n) (m.offset + m.count)) (record m { offset = offset + n; block = m.block + (offset + n - m.offset); count = m.offset + m.count - (offset + n) })) ≡ share x y (at_span (p.block + d + n) e b) =
      sum_if (nat_lt (offset + n) (m.offset + m.count)) (record m { offset = offset + n; block = m.block + (offset + n - m.offset); count = m.offset + m.count - (offset + n) }) (share x y (at_span (p.block + d + n) e b))
      (λ i.
      weigh_at (record m { offset = offset + n; block = m.block + (offset + n - m.offset); count = m.offset + m.count - (offset + n) }) p.group (p.block + d + n)
      (ap (split_of at) (sym (along (p.group * 2 ^ at.agblklog) p.block m.block offset m.offset d n p.parts.number k.begins)) ∙ splits_in at fit p.group (p.block + d + n) p.parts.group (inside p.block m.offset offset d n e m.count (group_len_of at p.group) k.begins i k.whole p.ends))
      ∙ ap (λ z. share x y (at_span (p.block + d + n) z b)) (count offset m.offset d n e m.count k.begins k.whole))
      (λ i. ap (λ z. share x y (at_span (p.block + d + n) z b)) (no_back offset m.offset d n e m.count k.begins k.whole i) ∙ ap (share x y) (span_none (p.block + d + n) b) ∙ share_none x y) in
      let middle : run g c n m.unwritten ≡ share x y (at_span (p.block + d) n b) = λ i. share (piece.group i == h) y (at_span (piece.block i) n b) in
      let whole : weigh m ≡ share x y (at_span p.block m.count b) = weigh_at m p.group p.block p.split in
      let two : share x y (at_span p.block m.count b) ≡ share x y (at_span p.block d b) + share x y (at_span (p.block + d) (n + e) b) = share_more x y _ _ _ (at_split p.block d (n + e) m.count b (regroup d n e m.count k.whole)) in
      let three : share x y (at_span (p.block + d) (n + e) b) ≡ share x y (at_span (p.block + d) n b) + share x y (at_span (p.block + d + n) e b) = share_more x y _ _ _ (at_split (p.block + d) n e (n + e) b refl) in
      let both = sum_by-append weigh (only_if (nat_lt m.offset offset) (record m { count = offset - m.offset })) (only_if (nat_lt (offset + n) (m.offset + m.count)) (record m { offset = offset + n; block = m.block + (offset + n - m.offset); count = m.offset + m.count - (offset + n) })) in
      sums _ _ _ _ _ _ _ _ _ both front back middle whole _ two three
    where
      sums : (all f k r w u v s z : ℕ) → all ≡ f + k → f ≡ u → k ≡ v → r ≡ s → w ≡ z → (q : ℕ) → z ≡ u + q → q ≡ s + v → all + r ≡ w
      sums all f k r w u v s z a e i j l q m o = omega (arith, a, e, i, j, l, m, o)

      regroup : (d n e c : ℕ) → c ≡ d + n + e → c ≡ d + (n + e)
      regroup d n e c h = omega (arith, h)

      fits : (d n e c : ℕ) → c ≡ d + n + e → d + n ≤ c
      fits d n e c h = omega (arith, h)

      less : (x y d : ℕ) → x ≡ y + d → x - y ≡ d
      less x y d h = omega (arith, h)

      no_front : (x y d : ℕ) → x ≡ y + d → nat_lt y x ≡ false → d ≡ 0
      no_front x y d h i = grind (arith, nat_tests)

      no_back : (x y d n e c : ℕ) → x ≡ y + d → c ≡ d + n + e → nat_lt (x + n) (y + c) ≡ false → e ≡ 0
      no_back x y d n e c h i j = grind (arith, nat_tests)

      along : (z c mb x y d n : ℕ) → z + c ≡ mb → x ≡ y + d → z + (c + d + n) ≡ mb + (x + n - y)
      along z c mb x y d n h i = omega (arith, h, i)

      inside : (c y x d n e k len : ℕ) → x ≡ y + d → nat_lt (x + n) (y + k) ≡ true → k ≡ d + n + e → c + k ≤ len → c + d + n < len
      inside c y x d n e k len h i j l = grind (arith, nat_tests)

      count : (x y d n e c : ℕ) → x ≡ y + d → c ≡ d + n + e → y + c - (x + n) ≡ e
      count x y d n e c h i = omega (arith, h, i)

  -- mappings behind the piece's stay
  untouched : (offset n : ℕ) (ms : List Mapping) → Each (λ q. offset < q.offset) ms → sum_by weigh (take_piece offset n ms) ≡ sum_by weigh ms
  unfolding take_piece
  untouched offset n [] e = refl
  untouched offset n (m ∷ ms) e =
      ap (λ z. sum_by weigh (cond z (mapping_rest offset n m) (m ∷ []) ++ take_piece offset n ms)) (not_there offset m.offset (nat_lt offset (m.offset + m.count)) e.0)
      ∙ sum_by-cons weigh m (take_piece offset n ms)
      ∙ ap (λ z. weigh m + z) (untouched offset n ms e.1)
      ∙ sym (sum_by-cons weigh m ms)
    where
      not_there : (x y : ℕ) (z : Bool) → x < y → (nat_le y x && z) ≡ false
      not_there x y z k = grind (arith, nat_tests)

  -- How often does a fork have it that lost a piece? The piece, with what is left, has it as often as the fork had it.
  pub lost_weighs : (offset n g c : ℕ) (ms : List Mapping) → HasFitting at → 0 < n → g < at.agcount → c + n ≤ group_len_of at g → Each (IsPlaced at) ms → AreApart ms → is_piece offset (fs_block_of at g c) n ms ≡ true
      → ((m : Mapping) → maps offset m ≡ true → nat_le (offset + n) (m.offset + m.count) ≡ true → Cut m offset n)
      → sum_by weigh (take_piece offset n ms) + run g c n (is_unwritten_at offset ms) ≡ sum_by weigh ms
  unfolding take_piece
  lost_weighs offset n g c [] fit some gl bl placed apart is cut = absurd (false≢true is)
  lost_weighs offset n g c (m ∷ ms) fit some gl bl placed apart is cut = by_test (maps offset m) refl is (λ i. lost_weighs offset n g c ms fit some gl bl placed.1 apart.1 i cut) ∙ sym (sum_by-cons weigh m ms)
    where
      beyond : (y x k z : ℕ) (w : Bool) → (w && nat_lt x (y + k)) ≡ true → y + k ≤ z → x < z
      beyond y x k z w i j = by w i
        where
          by : (w : Bool) → (w && nat_lt x (y + k)) ≡ true → x < z
          by true i = grind (arith, nat_tests)
          by false i = absurd (false≢true i)

      all_beyond : (qs : List Mapping) → maps offset m ≡ true → Each (λ q. m.offset + m.count ≤ q.offset) qs → Each (λ q. offset < q.offset) qs
      all_beyond [] e a = tt
      all_beyond (q ∷ qs) e a = (beyond m.offset offset m.count q.offset (nat_le m.offset offset) e a.0, all_beyond qs e a.1)

      first : (w s all r k tl : ℕ) → w + r ≡ k → s ≡ tl → all ≡ w + s → all + r ≡ k + tl
      first w s all r k tl e i j = omega (arith, e, i, j)

      next : (w s all r tl : ℕ) → s + r ≡ tl → all ≡ w + s → all + r ≡ w + tl
      next w s all r tl e i = omega (arith, e, i)

      by_test : (z : Bool) → maps offset m ≡ z → option_map_or (λ q. nat_le (offset + n) (q.offset + q.count) && (q.block + (offset - q.offset) == fs_block_of at g c)) (cond z (Some m) (find (maps offset) ms)) false ≡ true
          → (is_piece offset (fs_block_of at g c) n ms ≡ true → sum_by weigh (take_piece offset n ms) + run g c n (is_unwritten_at offset ms) ≡ sum_by weigh ms)
          → sum_by weigh (cond z (mapping_rest offset n m) (m ∷ []) ++ take_piece offset n ms) + run g c n (option_map_or (λ q. q.unwritten) (cond z (Some m) (find (maps offset) ms)) false) ≡ weigh m + sum_by weigh ms
      by_test true e i later =
          let v = and_parts (nat_le (offset + n) (m.offset + m.count)) (m.block + (offset - m.offset) == fs_block_of at g c) i in
          first (sum_by weigh (mapping_rest offset n m)) (sum_by weigh (take_piece offset n ms)) _ (run g c n m.unwritten) (weigh m) (sum_by weigh ms)
          (rest_weighs m offset n g c fit placed.0 (cut m e v.0) some gl bl (sym (eqb-true (m.block + (offset - m.offset)) (fs_block_of at g c) v.1)))
          (untouched offset n ms (all_beyond ms e apart.0))
          (sum_by-append weigh (mapping_rest offset n m) (take_piece offset n ms))
      by_test false e i later = next (weigh m) (sum_by weigh (take_piece offset n ms)) _ (run g c n (is_unwritten_at offset ms)) (sum_by weigh ms) (later i) (sum_by-cons weigh m (take_piece offset n ms))
