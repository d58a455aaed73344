-- A piece that becomes written: it leaves its list, and is added to what is left.
use Rattle.std.proofs.Common.{◌≡◌, ◌⊎◌, inl, inr, ℕ, ◌+◌, ◌-◌, ◌*◌, ◌^◌, ◌<◌, ◌≤◌, ◌==◌, ◌&&◌, ◌||◌, Bool, true, false, not, cond, nat_le, nat_lt, List, [], ◌∷◌, ◌++◌, find, flat_map, Option, Some, None, refl, sym, ap, ap₂, subst, ◌∙◌, arith}
use Rattle.std.specs.Prelude.{if◌then◌else◌}
use Rattle.std.specs.List.{list_any}
use Rattle.std.specs.Option.{option_map_or}
use Rattle.std.proofs.lemmas.Bool.{false≢true, and_parts, ltb-true, leb-true}
use Rattle.std.proofs.lemmas.Bool.Decides.{nat_tests}
use Rattle.dinode_core.specs.declared.mapping.Mapping.{Mapping}
use Rattle.fs_model.specs.declared.claim.Claim.{Claim}
use Rattle.fs_model.specs.declared.claim.Claim.TheVariants.{Data}
use Rattle.fs_model.specs.declared.entry.Entry.TheVariants as entries
use Rattle.fs_model.specs.declared.entry.Piece.{Piece}
use Rattle.geom.proofs.ApartLemmas.{splits_in}
use Rattle.geom.specs.Apart.{HasFitting}
use Rattle.geom.specs.Layout.{Layout, group_len_of, fs_block_of, split_of}
use Rattle.rmap_recs.specs.Runs.{has}
use Rattle.rmap_recs.specs.declared.tuples.Tuple.{Tuple}
use Rattle.sblock.specs.declared.kind.Kind.{Kind}
use Rattle.fs_state.specs.State.{State}
use Rattle.fs_state.specs.declared.intent.Intent.{Intent}
use Rattle.fs_state.specs.declared.intent.IntentKind.TheVariants.{RmapChange}
use Rattle.fs_state.specs.Claims.{read_fork, word_of}
use Rattle.fs_state.specs.Lists.{numbers, only_if}
use Rattle.fs_change.proofs.Beside as beside
use Rattle.fs_change.specs.Chains.{pending, given_by, taken_by, settled_forks, tuples_of}
use Rattle.fs_change.specs.Changes.{converted, intent, extent_of, data_of, mapping_of, change_data}
use Rattle.fs_change.specs.Parts.{set_chain}
use Rattle.fs_change.specs.Records.{maps, add_mapping, take_piece, mapping_rest, mapping_at, is_piece, is_unwritten_at}
use Rattle.fs_change.specs.Step.{Step}
use Rattle.law_writers.proofs.Change.Covers.{covers, flag_word, Place, place_of, maps_it, maps_at, maps_placed}
use Rattle.law_writers.proofs.Change.Firsts.{Change, any_of, begins, forks_by, run_tuples, run_owner, run_low, below_all, in_len, plain_word}
use Rattle.law_writers.proofs.Change.Lists.{found_one, none_that, both_each, added_has}
use Rattle.law_writers.proofs.Change.Pieces.{overlaps, run_has, beside_run, piece_lost, piece_had}
use Rattle.law_writers.proofs.Change.Settled.{settled_alike, same_inodes, open_forks, owners_by}
use Rattle.law_writers.specs.Change.Forks.{Each, LieFrom, IsPlaced, AreApart, IsSound, IsRunAt, ConvertedKeeps}

pub each_in : (P : Mapping → Type 0) (xs ys : List Mapping) → Each P xs → Each P ys → Each P (xs ++ ys)
each_in P [] ys p q = q
each_in P (x ∷ xs) ys p q = (p.0, each_in P xs ys p.1 q)

if_each : (P : Mapping → Type 0) (b : Bool) (x : Mapping) → (b ≡ true → P x) → Each P (only_if b x)
if_each P true x f = (f refl, tt)
if_each P false x f = tt

abbrev front : Mapping → ℕ → Mapping
front m offset = record m { count = offset - m.offset }

abbrev back : Mapping → ℕ → ℕ → Mapping
back m offset n = record m { offset = offset + n; block = m.block + (offset + n - m.offset); count = m.offset + m.count - (offset + n) }

-- ---- what is left stands apart, each in its group

front_placed : (at : Layout) (m : Mapping) (offset : ℕ) → IsPlaced at m → maps offset m ≡ true → nat_lt m.offset offset ≡ true → IsPlaced at (front m offset)
front_placed at m offset p it c =
    let P : Place at m = place_of at m p in
    let v = ltb-true offset (m.offset + m.count) (and_parts (nat_le m.offset offset) (nat_lt offset (m.offset + m.count)) it).1 in
    record {
      some = some m.offset offset (ltb-true m.offset offset c);
      offsets = few m.offset offset m.count v p.offsets (ltb-true m.offset offset c);
      lies = subst (λ o. LieFrom at o (offset - m.offset)) (sym P.split) (fits P.block m.offset offset m.count (group_len_of at P.group) v P.ends);
    }
  where
    some : (y x : ℕ) → y < x → 0 < x - y
    some y x h = omega (arith, h)

    few : (y x c : ℕ) → x < y + c → y + c ≤ 2 ^ 54 → y < x → y + (x - y) ≤ 2 ^ 54
    few y x c h i j = omega (arith, h, i, j)

    fits : (b y x c len : ℕ) → x < y + c → b + c ≤ len → b + (x - y) ≤ len
    fits b y x c len h i = omega (arith, h, i)

back_placed : (at : Layout) (m : Mapping) (offset n : ℕ) → HasFitting at → IsPlaced at m → maps offset m ≡ true → nat_lt (offset + n) (m.offset + m.count) ≡ true → IsPlaced at (back m offset n)
back_placed at m offset n fit p it c =
    let P : Place at m = place_of at m p in
    let low = leb-true m.offset offset (and_parts (nat_le m.offset offset) (nat_lt offset (m.offset + m.count)) it).0 in
    let high = ltb-true (offset + n) (m.offset + m.count) c in
    let place : split_of at (m.block + (offset + n - m.offset)) ≡ Some (P.group, P.block + (offset + n - m.offset)) =
    ap (split_of at) (sym (along (P.group * 2 ^ at.agblklog) P.block (offset + n - m.offset) m.block P.parts.number))
    ∙ splits_in at fit P.group (P.block + (offset + n - m.offset)) P.parts.group (inside P.block m.offset offset n m.count (group_len_of at P.group) low high P.ends) in
    record {
      some = some m.offset offset n m.count high;
      offsets = few m.offset offset n m.count high p.offsets;
      lies = subst (λ o. LieFrom at o (m.offset + m.count - (offset + n))) (sym place) (fits P.block m.offset offset n m.count (group_len_of at P.group) low high P.ends);
    }
  where
    along : (z b d mb : ℕ) → z + b ≡ mb → z + (b + d) ≡ mb + d
    along z b d mb h = omega (arith, h)

    inside : (b y x n c len : ℕ) → y ≤ x → x + n < y + c → b + c ≤ len → b + (x + n - y) < len
    inside b y x n c len h i j = omega (arith, h, i, j)

    some : (y x n c : ℕ) → x + n < y + c → 0 < y + c - (x + n)
    some y x n c h = omega (arith, h)

    few : (y x n c : ℕ) → x + n < y + c → y + c ≤ 2 ^ 54 → x + n + (y + c - (x + n)) ≤ 2 ^ 54
    few y x n c h i = omega (arith, h, i)

    fits : (b y x n c len : ℕ) → y ≤ x → x + n < y + c → b + c ≤ len → b + (x + n - y) + (y + c - (x + n)) ≤ len
    fits b y x n c len h i j = omega (arith, h, i, j)

pub left_placed : (at : Layout) (offset n : ℕ) → HasFitting at → (ms : List Mapping) → Each (IsPlaced at) ms → Each (IsPlaced at) (take_piece offset n ms)
unfolding take_piece
left_placed at offset n fit [] e = tt
left_placed at offset n fit (m ∷ ms) e = each_in (IsPlaced at) (if maps offset m then mapping_rest offset n m else m ∷ []) (take_piece offset n ms) (one (maps offset m) refl) (left_placed at offset n fit ms e.1)
  where
    one : (b : Bool) → maps offset m ≡ b → Each (IsPlaced at) (if b then mapping_rest offset n m else m ∷ [])
    one true it = each_in (IsPlaced at) (only_if (nat_lt m.offset offset) (front m offset)) (only_if (nat_lt (offset + n) (m.offset + m.count)) (back m offset n))
        (if_each (IsPlaced at) (nat_lt m.offset offset) (front m offset) (front_placed at m offset e.0 it))
        (if_each (IsPlaced at) (nat_lt (offset + n) (m.offset + m.count)) (back m offset n) (back_placed at m offset n fit e.0 it))
    one false it = (e.0, tt)

-- of what is behind an offset nothing comes before it
left_behind : (offset n low : ℕ) (ms : List Mapping) → Each (λ q. low ≤ q.offset) ms → Each (λ q. low ≤ q.offset) (take_piece offset n ms)
unfolding take_piece
left_behind offset n low [] e = tt
left_behind offset n low (m ∷ ms) e = each_in (λ q. low ≤ q.offset) (if maps offset m then mapping_rest offset n m else m ∷ []) (take_piece offset n ms) (one (maps offset m) refl) (left_behind offset n low ms e.1)
  where
    later : (x y n l : ℕ) (b : Bool) → (nat_le y x && b) ≡ true → l ≤ y → l ≤ x + n
    later x y n l b h i = let v = leb-true y x (and_parts (nat_le y x) b h).0 in omega (arith, v, i)

    one : (b : Bool) → maps offset m ≡ b → Each (λ q. low ≤ q.offset) (if b then mapping_rest offset n m else m ∷ [])
    one true it = each_in (λ q. low ≤ q.offset) (only_if (nat_lt m.offset offset) (front m offset)) (only_if (nat_lt (offset + n) (m.offset + m.count)) (back m offset n))
        (if_each (λ q. low ≤ q.offset) (nat_lt m.offset offset) (front m offset) (λ c. e.0))
        (if_each (λ q. low ≤ q.offset) (nat_lt (offset + n) (m.offset + m.count)) (back m offset n) (λ c. later offset m.offset n low (nat_lt offset (m.offset + m.count)) it e.0))
    one false it = (e.0, tt)

apart_in : (high : ℕ) (xs ys : List Mapping) → AreApart xs → Each (λ q. q.offset + q.count ≤ high) xs → Each (λ q. high ≤ q.offset) ys → AreApart ys → AreApart (xs ++ ys)
apart_in high [] ys a e f b = b
apart_in high (x ∷ xs) ys a e f b = (each_in (λ q. x.offset + x.count ≤ q.offset) xs ys a.0 (farther x ys e.0 f), apart_in high xs ys a.1 e.1 f b)
  where
    on : (x y z : ℕ) → x ≤ y → y ≤ z → x ≤ z
    on x y z h i = omega (arith, h, i)

    farther : (x : Mapping) (ys : List Mapping) → x.offset + x.count ≤ high → Each (λ q. high ≤ q.offset) ys → Each (λ q. x.offset + x.count ≤ q.offset) ys
    farther x [] h f = tt
    farther x (y ∷ ys) h f = (on (x.offset + x.count) high y.offset h f.0, farther x ys h f.1)

pub left_apart : (offset n : ℕ) (ms : List Mapping) → AreApart ms → AreApart (take_piece offset n ms)
unfolding take_piece
left_apart offset n [] a = tt
left_apart offset n (m ∷ ms) a = by_test (maps offset m) refl (left_behind offset n (m.offset + m.count) ms a.0) (left_apart offset n ms a.1)
  where
    even : (x : ℕ) → x ≤ x
    even x = omega arith

    ends_front : (x y c : ℕ) (b : Bool) → (b && nat_lt x (y + c)) ≡ true → (nat_lt y x) ≡ true → y + (x - y) ≤ y + c
    ends_front x y c b h i = let v = ltb-true x (y + c) (and_parts b (nat_lt x (y + c)) h).1 in let w = ltb-true y x i in omega (arith, v, w)

    ends_back : (x n y c : ℕ) → nat_lt (x + n) (y + c) ≡ true → x + n + (y + c - (x + n)) ≤ y + c
    ends_back x n y c h = let v = ltb-true (x + n) (y + c) h in omega (arith, v)

    meet : (x y n : ℕ) → nat_lt y x ≡ true → y + (x - y) ≤ x + n
    meet x y n h = let v = ltb-true y x h in omega (arith, v)

    two : (c d : Bool) (it : maps offset m ≡ true) → nat_lt m.offset offset ≡ c → nat_lt (offset + n) (m.offset + m.count) ≡ d → AreApart (only_if c (front m offset) ++ only_if d (back m offset n)) × Each (λ q. q.offset + q.count ≤ m.offset + m.count) (only_if c (front m offset) ++ only_if d (back m offset n))
    two true true it e f = (((meet offset m.offset n e, tt), (tt, tt)), (ends_front offset m.offset m.count (nat_le m.offset offset) it e, (ends_back offset n m.offset m.count f, tt)))
    two true false it e f = ((tt, tt), (ends_front offset m.offset m.count (nat_le m.offset offset) it e, tt))
    two false true it e f = ((tt, tt), (ends_back offset n m.offset m.count f, tt))
    two false false it e f = (tt, tt)

    by_test : (b : Bool) → maps offset m ≡ b → Each (λ q. m.offset + m.count ≤ q.offset) (take_piece offset n ms) → AreApart (take_piece offset n ms) → AreApart ((if b then mapping_rest offset n m else m ∷ []) ++ take_piece offset n ms)
    by_test true it behind apart = let parts = two (nat_lt m.offset offset) (nat_lt (offset + n) (m.offset + m.count)) it refl refl in apart_in (m.offset + m.count) (mapping_rest offset n m) (take_piece offset n ms) parts.0 parts.1 behind apart
    by_test false it behind apart = (behind, apart)

-- ---- all mappings but the piece's own are beside its offsets

abbrev Far : ℕ → ℕ → Option Mapping → Mapping → Type 0
Far offset n o q = (overlaps offset n q ≡ false) ⊎ (o ≡ Some q)

others_far : (offset n big : ℕ) (ms : List Mapping) → AreApart ms → is_piece offset big n ms ≡ true → Each (Far offset n (mapping_at offset ms)) ms
others_far offset n big [] a is = tt
others_far offset n big (m ∷ ms) a is = by_test (maps offset m) refl is (λ i. others_far offset n big ms a.1 i)
  where
    far : (y x n c z zc : ℕ) → nat_le (x + n) (y + c) ≡ true → y + c ≤ z → (nat_lt z (x + n) && nat_lt x (z + zc)) ≡ false
    far y x n c z zc h i = grind (arith, nat_tests)

    all_far : (qs : List Mapping) → nat_le (offset + n) (m.offset + m.count) ≡ true → Each (λ q. m.offset + m.count ≤ q.offset) qs → Each (Far offset n (Some m)) qs
    all_far [] e f = tt
    all_far (q ∷ qs) e f = (inl (far m.offset offset n m.count q.offset q.count e f.0), all_far qs e f.1)

    near : (y x n c z : ℕ) (b : Bool) → (nat_le z x && b) ≡ true → y + c ≤ z → (nat_lt y (x + n) && nat_lt x (y + c)) ≡ false
    near y x n c z b h i = grind (arith, nat_tests)

    holder : (o : Option Mapping) → find (maps offset) ms ≡ o → option_map_or (λ q. nat_le (offset + n) (q.offset + q.count) && (q.block + (offset - q.offset) == big)) o false ≡ true → overlaps offset n m ≡ false
    holder None e i = absurd (false≢true i)
    holder (Some q) e i =
        let f = found_one (maps offset) (λ x. m.offset + m.count ≤ x.offset) ms q a.0 e in
        near m.offset offset n m.count q.offset (nat_lt offset (q.offset + q.count)) f.0 f.1

    by_test : (z : Bool) → maps offset m ≡ z → option_map_or (λ q. nat_le (offset + n) (q.offset + q.count) && (q.block + (offset - q.offset) == big)) (cond z (Some m) (find (maps offset) ms)) false ≡ true
        → (is_piece offset big n ms ≡ true → Each (Far offset n (mapping_at offset ms)) ms) → Each (Far offset n (cond z (Some m) (find (maps offset) ms))) (m ∷ ms)
    by_test true e i later = (inr refl, all_far ms (and_parts (nat_le (offset + n) (m.offset + m.count)) (m.block + (offset - m.offset) == big) i).0 a.0)
    by_test false e i later = (inl (holder (find (maps offset) ms) refl i), later i)

-- ---- no block of the piece is written before

two_words : (tb tw qb qo qn b off n : ℕ) → off + n ≤ 2 ^ 54 → ((nat_le qb tb && nat_lt tb (qb + qn)) && (tw + qb == qo + 0 + flag_word true + tb)) ≡ true → ((nat_le b tb && nat_lt tb (b + n)) && (tw + b == off + flag_word false + tb)) ≡ true → ⊥
two_words tb tw qb qo qn b off n i p q = grind (arith, nat_tests)

unwritten_beside : (at : Layout) (h ino g b offset n : ℕ) (c : Claim) (t : Tuple) → offset + n ≤ 2 ^ 54 → run_has h ino g b offset false t n ≡ true → (m : Mapping) → IsPlaced at m → m.unwritten ≡ true → maps_it at h c ino 0 t m ≡ false
unwritten_beside at h ino g b offset n c t few run m pm flag = by_test (maps_it at h c ino 0 t m) refl
  where
    by_test : (x : Bool) → maps_it at h c ino 0 t m ≡ x → maps_it at h c ino 0 t m ≡ false
    by_test false e = e
    by_test true e =
        let p = place_of at m pm in
        let had = and_parts (p.group == h) (covers t ino p.block (word_of 0 m) m.count) (sym (maps_placed at h c ino 0 t m p) ∙ e) in
        let ran = and_parts (g == h) (covers t ino b (offset + flag_word false) n) run in
        let body = (and_parts (t.owner == ino) _ had.1).1 in
        absurd (two_words t.block t.word p.block m.offset m.count b offset n few
        (subst (λ u. ((nat_le p.block t.block && nat_lt t.block (p.block + m.count)) && (t.word + p.block == m.offset + 0 + flag_word u + t.block)) ≡ true) flag body)
        (and_parts (t.owner == ino) _ ran.1).1)

none_written : (at : Layout) (h ino g b offset n big : ℕ) (c : Claim) (t : Tuple) (ms : List Mapping) → offset + n ≤ 2 ^ 54 → Each (IsPlaced at) ms → AreApart ms → is_piece offset big n ms ≡ true → is_unwritten_at offset ms ≡ true
    → run_has h ino g b offset false t n ≡ true → list_any (maps_it at h c ino 0 t) ms ≡ false
none_written at h ino g b offset n big c t ms few placed apart is flag run =
    none_that (maps_it at h c ino 0 t) (λ q. IsPlaced at q × Far offset n (mapping_at offset ms) q) ms (both_each (IsPlaced at) (Far offset n (mapping_at offset ms)) ms placed (others_far offset n big ms apart is))
    (λ q both. either q both.0 both.1)
  where
    either : (q : Mapping) → IsPlaced at q → Far offset n (mapping_at offset ms) q → maps_it at h c ino 0 t q ≡ false
    either q p (inl f) = beside_run at h ino g b offset n false c t few run q (p, f)
    either q p (inr f) = unwritten_beside at h ino g b offset n c t few run q p (sym (ap (λ o. option_map_or (λ (x : Mapping). x.unwritten) o false) f) ∙ flag)

-- ---- rows

convert_change : (a : State) (h ino g b n offset : ℕ) (taken given : List Tuple) → HasFitting a.geometry → IsSound a ino → IsRunAt a (record { group = g; block = b; count = n }) offset → 0 < n → is_piece offset (fs_block_of a.geometry g b) n (data_of a ino) ≡ true
    → is_unwritten_at offset (data_of a ino) ≡ true → ((t : Tuple) → has taken t ≡ run_has h ino g b offset true t n) → ((t : Tuple) → has given t ≡ run_has h ino g b offset false t n)
    → Change a h ino (λ ms. add_mapping a.geometry.agblklog (mapping_of a offset g b n false) (take_piece offset n ms)) taken given
convert_change a h ino g b n offset taken given fit sound run some is flag takes gives = record {
  owner_taken = λ t e. run_owner h ino g b n offset true t (sym (takes t) ∙ e);
  owner_given = λ t e. run_owner h ino g b n offset false t (sym (gives t) ∙ e);
  low_taken = λ t e. run_low h ino g b n offset true t run.offsets (sym (takes t) ∙ e);
  low_given = λ t e. run_low h ino g b n offset false t run.offsets (sym (gives t) ∙ e);
  had = λ t.
      added_has a.geometry h (Data ino) ino 0 t (mapping_of a offset g b n false) (take_piece offset n (data_of a ino)) placed (left_placed a.geometry offset n fit (data_of a ino) sound.placed) (left_apart offset n (data_of a ino) sound.apart)
      ∙ ap₂ (λ x y. x || y) (lost t ∙ ap (λ x. any_of a h ino (data_of a ino) t && not x) (sym (takes t))) (has_new t ∙ sym (gives t));
  fresh = λ t e. none_written a.geometry h ino g b offset n (fs_block_of a.geometry g b) (Data ino) t (data_of a ino) run.offsets sound.placed sound.apart is flag (sym (gives t) ∙ e);
  there = λ t e. piece_had a.geometry fit h (Data ino) ino t offset n g b (data_of a ino) some run.group run.ends sound.placed is (ap (λ f. run_has h ino g b offset f t n) flag ∙ sym (takes t) ∙ e);
}
  where
    place : split_of a.geometry (fs_block_of a.geometry g b) ≡ Some (g, b)
    place = splits_in a.geometry fit g b run.group (in_len b n (group_len_of a.geometry g) some run.ends)

    placed : IsPlaced a.geometry (mapping_of a offset g b n false)
    placed = record { some = some; offsets = run.offsets; lies = subst (λ o. LieFrom a.geometry o n) (sym place) run.ends }

    lost : (t : Tuple) → any_of a h ino (take_piece offset n (data_of a ino)) t ≡ (any_of a h ino (data_of a ino) t && not (run_has h ino g b offset true t n))
    lost t =
        piece_lost a.geometry fit h (Data ino) ino t offset n g b (data_of a ino) some run.offsets run.group run.ends sound.placed sound.apart is
        ∙ ap (λ f. any_of a h ino (data_of a ino) t && not (run_has h ino g b offset f t n)) flag

    no_flag : (x u : ℕ) → x + 0 + u ≡ x + u
    no_flag x u = omega arith

    has_new : (t : Tuple) → maps_it a.geometry h (Data ino) ino 0 t (mapping_of a offset g b n false) ≡ run_has h ino g b offset false t n
    has_new t = maps_at a.geometry h (Data ino) ino 0 t (mapping_of a offset g b n false) g b place ∙ ap (λ w. (g == h) && covers t ino b w n) (no_flag offset (flag_word false))

abbrev written_state : Piece → State → State
written_state m a =
    set_chain m.chain (intent RmapChange m.ino m.offset (extent_of m) ∷ [])
    (change_data m.ino (λ ms. add_mapping a.geometry.agblklog (mapping_of a m.offset m.group m.block m.count false) (take_piece m.offset m.count ms)) a)

converted_if : (m : Piece) (a : State) (b : Bool) → is_unwritten_at m.offset (data_of a m.ino) ≡ b → converted m a ≡ (if b then written_state m a else a)
unfolding converted
converted_if m a b e = ap (λ x. if x then written_state m a else a) e

-- a written piece changes nothing
nothing_done : (a b : State) (left : List Kind) (m : Piece) (h : ℕ) → HasFitting a.geometry → (s : Step a left (entries.Converted m) b) → s.decided ≡ a → settled_forks b h ≡ settled_forks a h
unfolding pending
nothing_done a b left m h fit s same =
    let chains : b.chains ≡ a.chains = s.loosely.chains ∙ ap (λ (x : State). x.chains) same in
    settled_alike a b h
    (λ t. ap (λ (f : ℕ → List Intent). has (flat_map (given_by h) (flat_map f (numbers 0 16))) t) chains)
    (λ t. ap (λ (f : ℕ → List Intent). has (flat_map (taken_by h) (flat_map f (numbers 0 16))) t) chains)
    (λ t. owners_by a b h t fit ((beside.changes_one_group a b left (entries.Converted m) s).geometry) (same_inodes a b left (entries.Converted m) t.owner fit s tt) (λ is k.
    open_forks a b left (entries.Converted m) s t.owner is k ∙ ap (λ (x : State). read_fork (x.fork t.owner k)) same))

pub converted_keeps : ConvertedKeeps
converted_keeps a b left m h fit s sound run = by_test (is_unwritten_at m.offset (data_of a m.ino)) refl
  where
    by_test : (z : Bool) → is_unwritten_at m.offset (data_of a m.ino) ≡ z → settled_forks b h ≡ settled_forks a h
    by_test false e = nothing_done a b left m h fit s (s.row.1 ∙ converted_if m a false e)
    by_test true e =
        let is : s.decided ≡ written_state m a = s.row.1 ∙ converted_if m a true e in
        begins a b h m.ino m.chain (intent RmapChange m.ino m.offset (extent_of m) ∷ []) (λ ms. add_mapping a.geometry.agblklog (mapping_of a m.offset m.group m.block m.count false) (take_piece m.offset m.count ms)) fit s.row.0.first
        (s.loosely.chains ∙ ap (λ (x : State). x.chains) is)
        (forks_by a b left (entries.Converted m) s m.ino (λ ms. add_mapping a.geometry.agblklog (mapping_of a m.offset m.group m.block m.count false) (take_piece m.offset m.count ms)) fit tt s.row.0.first.file.inode (ap (λ (x : State). x.fork) is))
        (convert_change a h m.ino m.group m.block m.count m.offset _ _ fit sound run s.row.0.some s.row.0.piece e
        (λ t. run_tuples h m.ino m.group m.block m.count m.offset true t sound.number (below_all m.offset m.count s.row.0.some run.offsets))
        (λ t. ap (λ w. has ((if m.group == h then tuples_of (record { start = m.block; count = m.count; owner = m.ino; word = w }) else []) ++ []) t) (plain_word m.offset)
        ∙ run_tuples h m.ino m.group m.block m.count m.offset false t sound.number (below_all m.offset m.count s.row.0.some run.offsets)))
