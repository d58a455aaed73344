-- How many claims on a block there are once a data fork changed.
use Rattle.std.proofs.Common.{◌≡◌, ℕ, zero, suc, ◌+◌, ◌*◌, ◌^◌, ◌<◌, ◌≤◌, ◌==◌, ◌&&◌, ◌||◌, Bool, true, false, not, cond, nat_le, nat_lt, bit_and, List, [], ◌∷◌, ◌++◌, filter, find, flat_map, Option, Some, None, refl, sym, ap, ap₂, ◌∙◌, arith, add-zero, lit<}
use Rattle.std.specs.Prelude.{◌/◌, ◌%◌, sum_by, if◌then◌else◌}
use Rattle.std.specs.Option.{option_map_or}
use Rattle.std.specs.Int.Bits.{and_zero_r}
use Rattle.std.proofs.lemmas.Bool.Decides.{nat_tests}
use Rattle.std.proofs.lemmas.List.Sums.{sum_by-append, sum_by-cons}
use Rattle.std.proofs.lemmas.Nat.{and_block, mod_below, shr_split}
use Rattle.law_accounts.specs.Account.Accounts.{alone_at, at_span, owned_at}
use Rattle.law_accounts.proofs.Account.Sums.{at_split}
use Rattle.law_writers.proofs.Change.Covers.{joined_placed, meeting}
use Rattle.law_writers.proofs.Change.Lists.{found_one}
use Rattle.law_writers.specs.Change.Forks.{Each, IsPlaced}
use Rattle.dinode_core.specs.declared.mapping.Mapping.{Mapping}
use Rattle.fs_change.specs.Changes.{data_of}
use Rattle.fs_change.specs.Records.{add_mapping, joined_to, meets, put_by, with_before}
use Rattle.fs_state.specs.Chunks.{inodes}
use Rattle.fs_state.specs.Claims.{Claimed, attribute_claims, blocks_at, claims, data_claims, fork_claims, mapped_blocks, metadata_claims, tree_claims, unwritten, word_of}
use Rattle.fs_state.specs.Contradiction.{is_written_data}
use Rattle.fs_model.specs.declared.claim.Claim.{Claim}
use Rattle.fs_model.specs.declared.claim.Claim.TheVariants.{Data}
use Rattle.fs_state.specs.Apart.{is_inode}
use Rattle.fs_state.specs.State.{State}
use Rattle.geom.specs.Apart.{HasFitting}
use Rattle.geom.specs.Layout.{Layout, split_of}
use Rattle.rmap_recs.specs.Words.{is_unwritten}
use Rattle.law_writers.proofs.Fork.Rising.{Beside, all_change}
use Rattle.law_writers.proofs.Fork.Shares.{part, share, weigh}

-- ---- the unwritten flag of a word

bit_above : (word bit : ℕ) → bit_and word (bit * 2 ^ 54) ≡ bit_and (word / 2 ^ 54) bit * 2 ^ 54
bit_above word bit =
    let parts : (word / 2 ^ 54) * 2 ^ 54 + word % 2 ^ 54 ≡ word = shr_split word 54 in
    ap (λ (w : ℕ). bit_and w (bit * 2 ^ 54)) (sym parts)
    ∙ (ap (λ (n : ℕ). bit_and ((word / 2 ^ 54) * 2 ^ 54 + word % 2 ^ 54) n) (sym (add-zero (bit * 2 ^ 54)))
    ∙ (and_block 54 (word / 2 ^ 54) bit (word % 2 ^ 54) 0 (mod_below word (2 ^ 54) (lit< tt)) (lit< tt)
    ∙ (ap (λ (n : ℕ). bit_and (word / 2 ^ 54) bit * 2 ^ 54 + n) (and_zero_r (word % 2 ^ 54))
    ∙ add-zero (bit_and (word / 2 ^ 54) bit * 2 ^ 54))))

flag_by : (word k n : ℕ) → word / 2 ^ 54 ≡ k → bit_and k (2 ^ 7) ≡ n → is_unwritten word ≡ nat_lt 0 (n * 2 ^ 54)
flag_by word k n e is = ap (λ (m : ℕ). nat_lt 0 m) (bit_above word (2 ^ 7) ∙ (ap (λ (f : ℕ). bit_and f (2 ^ 7) * 2 ^ 54) e ∙ ap (λ (m : ℕ). m * 2 ^ 54) is))

flag_at : (o i : ℕ) (b : Bool) → o + i < 2 ^ 54 → is_unwritten ((o + 0 + (if b then unwritten else 0)) + i) ≡ b
flag_at o i true l = flag_by ((o + 0 + 2 ^ 61) + i) 128 128 (omega (arith, l)) refl
flag_at o i false l = flag_by ((o + 0 + 0) + i) 0 0 (omega (arith, l)) refl

-- ---- one run

hit_first : (c n b : ℕ) → at_span c (suc n) b ≡ (if c == b then 1 else 0) + at_span (c + 1) n b
hit_first c n b = at_split c 1 n (suc n) b (one n) ∙ ap (λ t. (if t then 1 else 0) + at_span (c + 1) n b) (here c b)
  where
    one : (n : ℕ) → suc n ≡ 1 + n
    one n = omega arith

    here : (c b : ℕ) → (nat_le c b && nat_lt b (c + 1)) ≡ (c == b)
    here c b = grind (arith, nat_tests)

hit_none : (c b : ℕ) → 0 ≡ at_span c 0 b
hit_none c b = ap (λ t. if t then 1 else 0) (none c b)
  where
    none : (c b : ℕ) → false ≡ (nat_le c b && nat_lt b (c + 0))
    none c b = grind (arith, nat_tests)

owned_run : (k : Claim) (ino c w n b : ℕ) → owned_at b (mapped_blocks k ino c w n) ≡ at_span c n b
owned_run k ino c w zero b = hit_none c b
owned_run k ino c w (suc n) b =
    sum_by-cons (λ (x : Claimed). if x.block == b then 1 else 0) (record { block = c; claim = k; owner = ino; word = w }) (mapped_blocks k ino (c + 1) (w + 1) n)
    ∙ ap (λ z. (if c == b then 1 else 0) + z) (owned_run k ino (c + 1) (w + 1) n b)
    ∙ sym (hit_first c n b)

-- only unwritten blocks of data stand alone
abbrev stands : ℕ → Claimed → ℕ
stands b c = if (c.block == b) && (if is_written_data c then false else true) then 1 else 0

one_stands : (b ino c w : ℕ) (f : Bool) → is_unwritten w ≡ f → stands b (record { block = c; claim = Data ino; owner = ino; word = w }) ≡ (if f then (if c == b then 1 else 0) else 0)
unfolding is_written_data
one_stands b ino c w f e = ap (λ t. if (c == b) && (if true && not t then false else true) then 1 else 0) e ∙ by (c == b) f
  where
    by : (x f : Bool) → ◌≡◌ {A = ℕ} (if x && (if true && not f then false else true) then 1 else 0) (if f then (if x then 1 else 0) else 0)
    by true true = refl
    by true false = refl
    by false true = refl
    by false false = refl

alone_run : (ino c o i n b : ℕ) (f : Bool) → o + i + n ≤ 2 ^ 54 → alone_at b (mapped_blocks (Data ino) ino c ((o + 0 + (if f then unwritten else 0)) + i) n) ≡ (if f then at_span c n b else 0)
alone_run ino c o i zero b f l = by f
  where
    by : (f : Bool) → 0 ≡ (if f then at_span c 0 b else 0)
    by true = hit_none c b
    by false = refl
alone_run ino c o i (suc n) b f l =
    sum_by-cons (stands b) (record { block = c; claim = Data ino; owner = ino; word = (o + 0 + (if f then unwritten else 0)) + i }) (mapped_blocks (Data ino) ino (c + 1) ((o + 0 + (if f then unwritten else 0)) + i + 1) n)
    ∙ ap₂ (λ x y. x + y) (one_stands b ino c ((o + 0 + (if f then unwritten else 0)) + i) f (flag_at o i f (omega (arith, l))))
    (ap (λ w. alone_at b (mapped_blocks (Data ino) ino (c + 1) w n)) (next (o + 0 + (if f then unwritten else 0)) i) ∙ alone_run ino (c + 1) o (i + 1) n b f (omega (arith, l)))
    ∙ by f
  where
    next : (x i : ℕ) → x + i + 1 ≡ x + (i + 1)
    next x i = omega arith

    by : (f : Bool) → (if f then (if c == b then 1 else 0) else 0) + (if f then at_span (c + 1) n b else 0) ≡ (if f then at_span c (suc n) b else 0)
    by true = sym (hit_first c n b)
    by false = refl

-- ---- one mapping

owned_part : (at : Layout) (h ino b : ℕ) (m : Mapping) (o : Option (ℕ × ℕ)) → owned_at b (blocks_at h (Data ino) ino 0 m o) ≡ part at h b (λ u. true) o m
owned_part at h ino b m None = refl
owned_part at h ino b m (Some p) = by (p.0 == h)
  where
    by : (x : Bool) → owned_at b (if x then mapped_blocks (Data ino) ino p.1 (word_of 0 m) m.count else []) ≡ share x true (at_span p.1 m.count b)
    by true = owned_run (Data ino) ino p.1 (word_of 0 m) m.count b
    by false = refl

alone_part : (at : Layout) (h ino b : ℕ) (m : Mapping) (o : Option (ℕ × ℕ)) → m.offset + m.count ≤ 2 ^ 54 → alone_at b (blocks_at h (Data ino) ino 0 m o) ≡ part at h b (λ u. u) o m
alone_part at h ino b m None l = refl
alone_part at h ino b m (Some p) l = by (p.0 == h)
  where
    plain : (x : ℕ) → x ≡ x + 0
    plain x = omega arith

    few : (o n : ℕ) → o + n ≤ 2 ^ 54 → o + 0 + n ≤ 2 ^ 54
    few o n k = omega (arith, k)

    by : (x : Bool) → alone_at b (if x then mapped_blocks (Data ino) ino p.1 (word_of 0 m) m.count else []) ≡ share x m.unwritten (at_span p.1 m.count b)
    by true = ap (λ w. alone_at b (mapped_blocks (Data ino) ino p.1 w m.count)) (plain (word_of 0 m)) ∙ alone_run ino p.1 m.offset 0 m.count b m.unwritten (few m.offset m.count l)
    by false = refl

-- ---- a whole fork

sum_flat : (F : Claimed → ℕ) (f : Mapping → List Claimed) (V : Mapping → ℕ) (ms : List Mapping) → Each (λ m. sum_by F (f m) ≡ V m) ms → sum_by F (flat_map f ms) ≡ sum_by V ms
sum_flat F f V [] e = refl
sum_flat F f V (m ∷ ms) e = sum_by-append F (f m) (flat_map f ms) ∙ ap₂ (λ x y. x + y) e.0 (sum_flat F f V ms e.1) ∙ sym (sum_by-cons V m ms)

each_of : (P Q : Mapping → Type 0) (ms : List Mapping) → ((m : Mapping) → P m → Q m) → Each P ms → Each Q ms
each_of P Q [] f e = tt
each_of P Q (m ∷ ms) f e = (f m e.0, each_of P Q ms f e.1)

each_any : (Q : Mapping → Type 0) (ms : List Mapping) → ((m : Mapping) → Q m) → Each Q ms
each_any Q [] f = tt
each_any Q (m ∷ ms) f = (f m, each_any Q ms f)

pub owned_data : (a : State) (h ino b : ℕ) → owned_at b (data_claims a h ino) ≡ sum_by (weigh a.geometry h b (λ u. true)) (data_of a ino)
owned_data a h ino b =
    sum_flat (λ (c : Claimed). if c.block == b then 1 else 0) (λ m. blocks_at h (Data ino) ino 0 m (split_of a.geometry m.block)) (weigh a.geometry h b (λ u. true)) (data_of a ino)
    (each_any _ (data_of a ino) (λ m. owned_part a.geometry h ino b m (split_of a.geometry m.block)))

pub alone_data : (a : State) (h ino b : ℕ) → Each (IsPlaced a.geometry) (data_of a ino) → alone_at b (data_claims a h ino) ≡ sum_by (weigh a.geometry h b (λ u. u)) (data_of a ino)
alone_data a h ino b placed =
    sum_flat (stands b) (λ m. blocks_at h (Data ino) ino 0 m (split_of a.geometry m.block)) (weigh a.geometry h b (λ u. u)) (data_of a ino)
    (each_of (IsPlaced a.geometry) _ (data_of a ino) (λ m p. alone_part a.geometry h ino b m (split_of a.geometry m.block) p.offsets) placed)

-- ---- what is added stays placed

each_filter : (P : Mapping → Type 0) (p : Mapping → Bool) (ms : List Mapping) → Each P ms → Each P (filter p ms)
each_filter P p [] e = tt
each_filter P p (m ∷ ms) e = elim (p m) as (λ b. Each P (cond b (m ∷ filter p ms) (filter p ms))) [
  | true ↦ (e.0, each_filter P p ms e.1)
  | false ↦ each_filter P p ms e.1
]

each_put : (P : Mapping → Type 0) (key : Mapping → ℕ) (x : Mapping) (ms : List Mapping) → P x → Each P ms → Each P (put_by key x ms)
each_put P key x [] h e = (h, tt)
each_put P key x (m ∷ ms) h e = elim (nat_lt (key m) (key x)) as (λ b. Each P (cond b (m ∷ put_by key x ms) (x ∷ m ∷ ms))) [
  | true ↦ (e.0, each_put P key x ms h e.1)
  | false ↦ (h, e)
]

before_placed : (at : Layout) (m : Mapping) (ms : List Mapping) → IsPlaced at m → Each (IsPlaced at) ms → (o : Option Mapping) → find (λ p. meets at.agblklog p m) ms ≡ o → IsPlaced at (joined_to o m)
before_placed at m ms pm ps None e = pm
before_placed at m ms pm ps (Some p) e = let f = found_one (λ q. meets at.agblklog q m) (IsPlaced at) ms p ps e in joined_placed at p m f.1 pm (meeting at.agblklog p m f.0)

after_placed : (at : Layout) (x : Mapping) (ms : List Mapping) → IsPlaced at x → Each (IsPlaced at) ms → (o : Option Mapping) → find (meets at.agblklog x) ms ≡ o → IsPlaced at (option_map_or (joined_to (Some x)) o x)
after_placed at x ms px ps None e = px
after_placed at x ms px ps (Some q) e = let f = found_one (meets at.agblklog x) (IsPlaced at) ms q ps e in joined_placed at x q px f.1 (meeting at.agblklog x q f.0)

pub added_placed : (at : Layout) (m : Mapping) (ms : List Mapping) → IsPlaced at m → Each (IsPlaced at) ms → Each (IsPlaced at) (add_mapping at.agblklog m ms)
unfolding add_mapping
added_placed at m ms pm ps =
    let l : ℕ = at.agblklog in
    let x : Mapping = with_before l m ms in
    let px : IsPlaced at x = before_placed at m ms pm ps (find (λ p. meets l p m) ms) refl in
    each_put (IsPlaced at) (λ p. p.offset) (option_map_or (joined_to (Some x)) (find (meets l x) ms) x) (filter (λ p. not (meets l p m || meets l x p)) ms)
    (after_placed at x ms px ps (find (meets l x) ms) refl) (each_filter (IsPlaced at) (λ p. not (meets l p m || meets l x p)) ms ps)

-- ---- all claims of a group

-- all but the data of one file is as it was
pub record OneFile (a x : State) (h ino : ℕ) : Type 0 where
  pub inode : is_inode a ino ≡ true
  pub metadata : metadata_claims x h ≡ metadata_claims a h
  pub inodes : inodes x ≡ inodes a
  pub data_beside : (o : ℕ) → (o == ino) ≡ false → data_claims x h o ≡ data_claims a h o
  pub attributes : (o : ℕ) → attribute_claims x h o ≡ attribute_claims a h o
  pub trees : (o : ℕ) → tree_claims x h o ≡ tree_claims a h o

pub flat_sum : (F : Claimed → ℕ) (D : ℕ → List Claimed) (ns : List ℕ) → sum_by F (flat_map D ns) ≡ sum_by (λ n. sum_by F (D n)) ns
flat_sum F D [] = refl
flat_sum F D (n ∷ ns) = sum_by-append F (D n) (flat_map D ns) ∙ ap (λ z. sum_by F (D n) + z) (flat_sum F D ns) ∙ sym (sum_by-cons (λ k. sum_by F (D k)) n ns)

-- the claims of a group, part by part
pub by_parts : (F : Claimed → ℕ) (a : State) (h : ℕ) → sum_by F (claims a h) ≡ sum_by F (metadata_claims a h) + ((sum_by (λ n. sum_by F (data_claims a h n)) (inodes a) + sum_by F (flat_map (attribute_claims a h) (inodes a))) + sum_by F (flat_map (tree_claims a h) (inodes a)))
unfolding claims fork_claims
by_parts F a h =
    sum_by-append F (metadata_claims a h) _
    ∙ ap (λ z. sum_by F (metadata_claims a h) + z)
    (sum_by-append F (flat_map (data_claims a h) (inodes a) ++ flat_map (attribute_claims a h) (inodes a)) (flat_map (tree_claims a h) (inodes a))
    ∙ ap (λ z. z + sum_by F (flat_map (tree_claims a h) (inodes a)))
    (sum_by-append F (flat_map (data_claims a h) (inodes a)) (flat_map (attribute_claims a h) (inodes a)) ∙ ap (λ z. z + sum_by F (flat_map (attribute_claims a h) (inodes a))) (flat_sum F (data_claims a h) (inodes a))))

module _ (F : Claimed → ℕ) (a x : State) (h ino : ℕ) (fit : HasFitting a.geometry) (k : OneFile a x h ino) where
  -- of the second state, with the data of its inodes apart
  parts_behind : sum_by F (claims x h) ≡ sum_by F (metadata_claims a h) + ((sum_by (λ n. sum_by F (data_claims x h n)) (inodes a) + sum_by F (flat_map (attribute_claims a h) (inodes a))) + sum_by F (flat_map (tree_claims a h) (inodes a)))
  parts_behind = by_parts F x h ∙ (λ i. sum_by F (k.metadata i) + ((sum_by (λ n. sum_by F (data_claims x h n)) (k.inodes i) + sum_by F (flat_map (λ o. k.attributes o i) (k.inodes i))) + sum_by F (flat_map (λ o. k.trees o i) (k.inodes i))))

  beside : Beside (λ n. sum_by F (data_claims a h n)) (λ n. sum_by F (data_claims x h n)) ino
  beside o out = ap (sum_by F) (k.data_beside o out)

  pub claims_more : (d : ℕ) → sum_by F (data_claims x h ino) ≡ sum_by F (data_claims a h ino) + d → sum_by F (claims x h) ≡ sum_by F (claims a h) + d
  claims_more d e = sums _ _ _ _ _ _ _ d parts_behind (by_parts F a h) (all_change a (λ n. sum_by F (data_claims a h n)) (λ n. sum_by F (data_claims x h n)) ino d fit k.inode beside e)
    where
      sums : (x a m v u p q d : ℕ) → x ≡ m + ((v + p) + q) → a ≡ m + ((u + p) + q) → v ≡ u + d → x ≡ a + d
      sums x a m v u p q d e f g = omega (arith, e, f, g)

  pub claims_less : (d : ℕ) → sum_by F (data_claims x h ino) + d ≡ sum_by F (data_claims a h ino) → sum_by F (claims x h) + d ≡ sum_by F (claims a h)
  claims_less d e =
      sums _ _ _ _ _ _ _ d parts_behind (by_parts F a h)
      (all_change a (λ n. sum_by F (data_claims x h n)) (λ n. sum_by F (data_claims a h n)) ino d fit k.inode (λ o out. sym (beside o out)) (sym e))
    where
      sums : (x a m v u p q d : ℕ) → x ≡ m + ((v + p) + q) → a ≡ m + ((u + p) + q) → u ≡ v + d → x + d ≡ a
      sums x a m v u p q d e f g = omega (arith, e, f, g)
