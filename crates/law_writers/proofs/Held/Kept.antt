-- Entries of a writer keep each block sound, with the claims that the state has.
use Rattle.std.proofs.Common.{◌≡◌, ℕ, zero, suc, ◌+◌, ◌-◌, ◌*◌, ◌<◌, ◌≤◌, ◌==◌, ◌&&◌, ◌||◌, ◌⊎◌, Bool, true, false, nat_le, nat_lt, List, [], ◌∷◌, flat_map, take, length, Option, Some, None, refl, sym, ap, subst, ◌∙◌, arith, inl, inr, eqb-true}
use Rattle.std.specs.Prelude.{sum_by, if◌then◌else◌}
use Rattle.std.specs.List.{list_all}
use Rattle.std.proofs.lemmas.Bool.{false≢true, and_parts}
use Rattle.std.proofs.lemmas.Bool.Decides.{nat_tests}
use Rattle.std.proofs.lemmas.List.Sums.{sum_by-cons}
use Rattle.law_accounts.specs.Account.Accounts.{alone_at, at_span, due, hits, ledger_in, ledger_of, owes, owned_at, raises, removes}
use Rattle.law_accounts.specs.Account.Firsts.{run_shared}
use Rattle.law_accounts.specs.Account.Ledger.{Sound}
use Rattle.law_accounts.specs.Account.Stated.{ChunksStay, ledger_at}
use Rattle.law_accounts.proofs.Account.First.{piece_is_shared, piece_is_written, piece_leaves}
use Rattle.law_accounts.proofs.Account.Framed.{SameParts, claims_same, edit_parts, freed_stated, rmap_done_stated}
use Rattle.law_accounts.proofs.Account.Guards.{guard_passes}
use Rattle.law_accounts.proofs.Account.Holders.{pairs_found}
use Rattle.law_accounts.proofs.Account.Lists.{refilled_sound, trimmed_sound}
use Rattle.law_accounts.proofs.Account.Runs.{mapped_sound}
use Rattle.law_accounts.proofs.Account.Sums.{came, hit_bit}
use Rattle.law_writers.proofs.Change.Rows as chunk_rows
use Rattle.law_writers.specs.Change.Forks.{IsRunAt, IsSound}
use Rattle.dinode_core.specs.declared.mapping.Mapping.{Mapping}
use Rattle.fs_change.proofs.Trees.{in_itself}
use Rattle.fs_change.specs.Chains.{most_chains}
use Rattle.fs_change.specs.Changes.{change_data, chunk_extent, converted, data_of, data_word, extent_of, given, inodes_follow, intent, mapping_of, shared, taken, turn, unmapped}
use Rattle.fs_change.specs.Parts.{at_only, edit, records_in, set_chain}
use Rattle.fs_change.specs.Records.{add_mapping, follow_inode, is_piece, is_unwritten_at, take_piece, turn_inode}
use Rattle.fs_change.specs.Step.{Row, group_of_inode, to_trim}
use Rattle.fs_state.specs.Chunks.{inodes}
use Rattle.fs_state.specs.Claims.{Claimed, attribute_claims, claims, data_claims, metadata_claims, tree_claims}
use Rattle.fs_state.specs.Contradiction.{is_written_data}
use Rattle.fs_state.specs.Lists.{numbers}
use Rattle.fs_model.specs.declared.entry.Entry.TheVariants as entries
use Rattle.fs_model.specs.declared.entry.Extent.{Extent}
use Rattle.fs_model.specs.declared.entry.Piece.{Piece}
use Rattle.fs_model.specs.declared.entry.SharedPiece.{SharedPiece}
use Rattle.fs_state.specs.Apart.{is_inode}
use Rattle.fs_state.specs.State.{Group, State}
use Rattle.fs_state.specs.declared.intent.IntentKind.TheVariants.{RefLess, RefMore, RmapAdd, RmapChange, RmapRemove}
use Rattle.geom.specs.Apart.{HasFitting}
use Rattle.geom.specs.Layout.{Layout, fs_block_of, split_of}
use Rattle.law_accounts.proofs.Ref.Stated.{ref_done_stated}
use Rattle.sblock.specs.declared.kind.Kind.TheVariants.{Fino, Ino}
use Rattle.tree_defs.specs.Lists.{is_in, times}
use Rattle.law_writers.proofs.Run.Chunks.{chunk_claims}
use Rattle.law_writers.proofs.Fork.Forks.{alone_data, by_parts, owned_data}
use Rattle.law_writers.proofs.Run.Found.{chunk_found, intent_found, listed_found, mapped_found, refilled_found}
use Rattle.law_writers.proofs.Held.Held.{converted_stays, shared_held, unmapped_held}
use Rattle.law_writers.proofs.Run.Listed.{all_sum, list_part, lone, lone_list, metadata_sum, owned_list, refilled_claims, trimmed_claims}
use Rattle.law_writers.proofs.Fork.Rising.{among}
use Rattle.law_writers.proofs.Fork.Rows as rows
use Rattle.law_writers.proofs.Fork.Shares.{part, share, weigh}
use Rattle.law_accounts.proofs.Step.Inodes.{chunk_taken_sound, given_sound, taken_sound}
use Rattle.law_writers.specs.Fork.Counted.{Gains, Loses}
use Rattle.law_writers.specs.Held.Held.{AreHolders, weight_at}
use Rattle.law_writers.specs.Held.Kept.{ChunkKept, ConvertedKept, FreedKept, GivenKept, MappedKept, RefDoneKept, RefilledKept, RmapDoneKept, SharedKept, TakenKept, TrimmedKept, UnmappedKept}

-- the numbers of a block whose claims are so many
with_claims : (x : State) (g b owned alone : ℕ) → owned ≡ owned_at b (claims x g) → alone ≡ alone_at b (claims x g) → Sound (ledger_of x g b owned alone) → Sound (ledger_at x g b)
with_claims x g b owned alone o l s = subst (λ n. Sound (ledger_of x g b (owned_at b (claims x g)) n)) l (subst (λ n. Sound (ledger_of x g b n alone)) o s)

-- ---- a mapping, and runs of the list

pub mapped_kept : MappedKept
mapped_kept a x left m b fit made sound run w h =
    let g : ℕ = m.group in
    let k : Gains a x g b (hits g b (extent_of m)) (hits g b (extent_of m)) = rows.mapped_claims a x left m g b fit made.row sound run in
    with_claims x g b _ _ (sym k.owned_then) (sym k.alone_then) (mapped_sound a x left m b (owned_at b (claims a g)) (alone_at b (claims a g)) w (mapped_found a x left m made w.edited) made.row h)

pub refilled_kept : RefilledKept
refilled_kept a x left e b fit made w h =
    let g : ℕ = e.group in
    let k : Gains a x g b (hits g b e) (hits g b e) = refilled_claims a x left e g b fit made.row in
    with_claims x g b _ _ (sym k.owned_then) (sym k.alone_then) (refilled_sound a x left e b (owned_at b (claims a g)) (alone_at b (claims a g)) w (refilled_found a x left e made w.spans.edited) made.row h)

pub chunk_kept : ChunkKept
chunk_kept a x left writer ino uid c b fit made words readable w h =
    let g : ℕ = group_of_inode a ino in
    let k : Gains a x g b (hits g b (chunk_extent g c)) (hits g b (chunk_extent g c)) = chunk_claims a x left writer ino uid c b fit made words readable in
    with_claims x g b _ _ (sym k.owned_then) (sym k.alone_then) (chunk_taken_sound a x left writer ino uid c b (owned_at b (claims a g)) (alone_at b (claims a g)) w (chunk_found a x left writer ino uid c made w.spans.edited) made.row h)

-- ---- claims that stand alone are claims

zero_or : (n : ℕ) → (n ≡ 0) ⊎ (1 ≤ n)
zero_or zero = inl refl
zero_or (suc n) = inr (omega arith)

fewer_alone : (b : ℕ) (cs : List Claimed) → alone_at b cs ≤ owned_at b cs
fewer_alone b [] = omega arith
fewer_alone b (c ∷ cs) =
    let one = sum_by-cons (lone b) c cs in
    let two = sum_by-cons (λ (x : Claimed). if x.block == b then 1 else 0) c cs in
    let rest = fewer_alone b cs in
    let first = bit (c.block == b) (if is_written_data c then false else true) in
    sums _ _ _ _ _ _ one two first rest
  where
    bit : (x y : Bool) → (if x && y then 1 else 0) ≤ (if x then 1 else 0)
    bit true true = omega arith
    bit true false = omega arith
    bit false y = omega arith

    sums : (s t l o r q : ℕ) → s ≡ l + r → t ≡ o + q → l ≤ o → r ≤ q → s ≤ t
    sums s t l o r q e f g h = omega (arith, e, f, g, h)

-- ---- how often a block stands in a list

pub stood : (b : ℕ) (bs : List ℕ) → is_in b bs ≡ true → 1 ≤ times b bs
stood b [] h = absurd (false≢true h)
stood b (c ∷ bs) h = by (c == b) h (stood b bs)
  where
    by : (k : Bool) → (k || is_in b bs) ≡ true → (is_in b bs ≡ true → 1 ≤ times b bs) → 1 ≤ (if k then 1 else 0) + times b bs
    by true i f = omega arith
    by false i f = let r = f i in omega (arith, r)

pub in_front : (b n : ℕ) (bs : List ℕ) → is_in b (take n bs) ≡ true → is_in b bs ≡ true
in_front b zero bs h = absurd (false≢true h)
in_front b (suc n) [] h = absurd (false≢true h)
in_front b (suc n) (c ∷ bs) h = by (c == b) h (in_front b n bs)
  where
    by : (k : Bool) → (k || is_in b (take n bs)) ≡ true → (is_in b (take n bs) ≡ true → is_in b bs ≡ true) → (k || is_in b bs) ≡ true
    by true i f = refl
    by false i f = f i

pub each_number : (p : ℕ → Bool) (s n b : ℕ) → list_all p (numbers s n) ≡ true → s ≤ b → b < s + n → p b ≡ true
each_number p s zero b h l m = absurd (omega (arith, l, m))
each_number p s (suc n) b h l m = by (s == b) refl (λ o. each_number p (s + 1) n b parts.1 (further s b l o) (omega (arith, m)))
  where
    parts : (p s ≡ true) × (list_all p (numbers (s + 1) n) ≡ true)
    parts = and_parts (p s) (list_all p (numbers (s + 1) n)) h

    further : (s b : ℕ) → s ≤ b → (s == b) ≡ false → s + 1 ≤ b
    further s b l o = grind (arith, nat_tests)

    by : (k : Bool) → (s == b) ≡ k → ((s == b) ≡ false → p b ≡ true) → p b ≡ true
    by true e later = ap p (sym (eqb-true s b e)) ∙ parts.0
    by false e later = later e

-- a block of the run is in it
hit_inside : (g b : ℕ) (e : Extent) → hits g b e ≡ 1 → (e.block ≤ b) × (b < e.block + e.count)
hit_inside g b e h = by (e.group == g) (nat_le e.block b) refl (nat_lt b (e.block + e.count)) refl h
  where
    by : (x y : Bool) → nat_le e.block b ≡ y → (z : Bool) → nat_lt b (e.block + e.count) ≡ z → ◌≡◌ {A = ℕ} (if x then (if y && z then 1 else 0) else 0) 1 → (e.block ≤ b) × (b < e.block + e.count)
    by true true p true q i = (grind (arith, nat_tests), grind (arith, nat_tests))
    by true true p false q i = absurd (omega (arith, i))
    by true false p z q i = absurd (omega (arith, i))
    by false y p z q i = absurd (omega (arith, i))

-- the list's claims are some of all
pub list_least : (F : Claimed → ℕ) (a : State) (g n : ℕ) → sum_by F (list_part (a.group g).free_list) ≡ n → n ≤ sum_by F (claims a g)
list_least F a g n e =
    let all = all_sum F a g in
    let parts = metadata_sum F a g in
    least _ _ _ _ _ _ _ _ _ _ all parts e
  where
    least : (s m f h n t r l c k : ℕ) → s ≡ m + f → m ≡ ((((h + n) + t) + r) + l) + c → n ≡ k → k ≤ s
    least s m f h n t r l c k p q i = omega (arith, p, q, i)

pub trimmed_kept : TrimmedKept
trimmed_kept a x left e b fit made w h =
    let g : ℕ = e.group in
    let list : List ℕ = (a.group g).free_list in
    let n : ℕ = if hits g b e == 1 then times b list else 0 in
    let k : Loses a x g b n n = trimmed_claims a x left e b n fit made.row refl in
    let same : n ≡ hits g b e = elim (hit_bit g b e) [
      | inl z ↦ ap (λ y. if y == 1 then times b list else 0) z ∙ sym z
      | inr o ↦ ap (λ y. if y == 1 then times b list else 0) o ∙ once o ∙ sym o
    ] in
    trimmed_sound a x left e b (owned_at b (claims a g)) (alone_at b (claims a g)) (owned_at b (claims x g)) (alone_at b (claims x g)) w (record {
      there = listed_found a x left e made w.maps.edited;
      owned_then = sym k.owned_then ∙ ap (λ z. owned_at b (claims x g) + z) same;
      alone_then = sym k.alone_then ∙ ap (λ z. alone_at b (claims x g) + z) same;
      some = fewer_alone b (claims x g);
      none_goes = none_goes;
    }) made.row h
  where
    -- it stands on the list
    listed : hits e.group b e ≡ 1 → 1 ≤ times b (a.group e.group).free_list
    listed o =
        let i = hit_inside e.group b e o in
        stood b (a.group e.group).free_list (in_front b (length (a.group e.group).free_list - 16) (a.group e.group).free_list (each_number (λ c. is_in c (to_trim (a.group e.group).free_list)) e.block e.count b made.row.0.on_list i.0 i.1))

    few_owned : times b (a.group e.group).free_list ≤ owned_at b (claims a e.group)
    few_owned = list_least (λ (c : Claimed). if c.block == b then 1 else 0) a e.group (times b (a.group e.group).free_list) (owned_list b (a.group e.group).free_list)

    few_alone : times b (a.group e.group).free_list ≤ alone_at b (claims a e.group)
    few_alone = list_least (lone b) a e.group (times b (a.group e.group).free_list) (lone_list b (a.group e.group).free_list)

    -- so it has one claim, and no count of it falls
    alone_there : hits e.group b e ≡ 1 → 1 ≤ alone_at b (claims a e.group)
    alone_there o = let l = listed o in omega (arith, l, few_alone)

    once : hits e.group b e ≡ 1 → times b (a.group e.group).free_list ≡ 1
    once o = let l = listed o in let s = (h.single (alone_there o)).0 in exactly _ _ l few_owned s
      where
        exactly : (t n : ℕ) → 1 ≤ t → t ≤ n → n ≡ 1 → t ≡ 1
        exactly t n p q r = omega (arith, p, q, r)

    none_goes : hits e.group b e ≡ 1 → due (owes removes e.group b) a.chains ≡ 0
    none_goes o = none _ _ h.falls (h.single (alone_there o)).1
      where
        none : (g l : ℕ) → g ≤ l → l ≡ 0 → g ≡ 0
        none g l p q = omega (arith, p, q)

-- ---- a piece that leaves its file

-- where a count rises, all claims have its pair
holders_least : (a : State) (held : ℕ → List ℕ) (g b : ℕ) → AreHolders a held → 2 * due (owes raises g b) a.chains ≤ owned_at b (claims a g)
holders_least a held g b k =
    let pairs = pairs_found (inodes a) a.chains held (weight_at a g b) g b k.apart (k.paired g b) in
    let parts = by_parts (λ (c : Claimed). if c.block == b then 1 else 0) a g in
    least _ _ _ _ _ _ pairs parts
  where
    least : (d s w m p q : ℕ) → 2 * d ≤ w → s ≡ m + ((w + p) + q) → 2 * d ≤ s
    least d s w m p q e f = omega (arith, e, f)

unmapped_is : (m : Piece) (a : State) (g b owned alone : ℕ)
    → Sound (ledger_in (a.group g) (at_only m.chain (intent RmapRemove m.ino (data_word (is_unwritten_at m.offset (data_of a m.ino)) m.offset) (extent_of m) ∷ intent RefLess 0 0 (extent_of m) ∷ []) a.chains) g b owned alone) → Sound (ledger_of (unmapped m a) g b owned alone)
unfolding unmapped
unmapped_is m a g b owned alone s = s

unmapped_due : (m : Piece) (a : State) (g b : ℕ) → m.chain < most_chains → a.chains m.chain ≡ [] → due (owes raises g b) (unmapped m a).chains ≡ due (owes raises g b) a.chains
unfolding unmapped
unmapped_due m a g b lt e =
    came (owes raises g b) a.chains m.chain (intent RmapRemove m.ino (data_word (is_unwritten_at m.offset (data_of a m.ino)) m.offset) (extent_of m)) (intent RefLess 0 0 (extent_of m)) lt e ∙ plain (due (owes raises g b) a.chains)
  where
    plain : (n : ℕ) → n + (0 + 0) ≡ n
    plain n = omega arith

pub unmapped_kept : UnmappedKept
unmapped_kept a x left m held g b fit row sound run own holders h =
    let e : Extent = extent_of m in
    let flag = is_unwritten_at m.offset (data_of a m.ino) in
    let k = rows.unmapped_claims a x left m g b fit row sound run in
    let still : ℕ = owned_at b (claims x g) in
    let other : ℕ = alone_at b (claims x g) in
    let after = unmapped_held a x left m held fit row sound run own holders in
    let rises : due (owes raises g b) x.chains ≡ due (owes raises g b) a.chains = ap (λ (s : State). due (owes raises g b) s.chains) row.1 ∙ unmapped_due m a g b row.0.first.open_chain row.0.first.owes_nothing in
    let pairs : 2 * due (owes raises g b) a.chains ≤ still = subst (λ n. 2 * n ≤ still) rises (holders_least x held g b after) in
    subst (λ (s : State). Sound (ledger_of s g b still other)) (sym row.1)
    (unmapped_is m a g b still other
    (piece_leaves (a.group g) a.chains m.chain m.ino (data_word flag m.offset) e g b (owned_at b (claims a g)) (alone_at b (claims a g)) still other row.0.first.open_chain row.0.first.owes_nothing
    (sym k.owned_then) (fewer _ _ _ k.alone_then) (λ z. elsewhere flag (hits g b e) other (alone_at b (claims a g)) z k.alone_then) (λ one none. alone_then one none) pairs h))
  where
    fewer : (s n t : ℕ) → s + n ≡ t → s ≤ t
    fewer s n t p = omega (arith, p)

    elsewhere : (f : Bool) (n s t : ℕ) → n ≡ 0 → s + (if f then n else 0) ≡ t → s ≡ t
    elsewhere true n s t z p = omega (arith, z, p)
    elsewhere false n s t z p = omega (arith, p)

    alone_then : 1 ≤ alone_at b (claims x g) → owned_at b (claims x g) ≡ 0 → ⊥
    alone_then one none = let l = fewer_alone b (claims x g) in never _ _ one l none
      where
        never : (p q : ℕ) → 1 ≤ p → p ≤ q → q ≡ 0 → ⊥
        never p q u v w = omega (arith, u, v, w)

-- ---- written data beside all that stands alone

lighter : (at : Layout) (g b : ℕ) (ms : List Mapping) → sum_by (weigh at g b (λ u. u)) ms ≤ sum_by (weigh at g b (λ u. true)) ms
lighter at g b [] = omega arith
lighter at g b (m ∷ ms) =
    let one = sum_by-cons (weigh at g b (λ u. u)) m ms in
    let two = sum_by-cons (weigh at g b (λ u. true)) m ms in
    let rest = lighter at g b ms in
    let first = by_place (split_of at m.block) in
    sums _ _ _ _ _ _ one two first rest
  where
    by_flag : (x y : Bool) (n : ℕ) → share x y n ≤ share x true n
    by_flag true true n = omega arith
    by_flag true false n = omega arith
    by_flag false y n = omega arith

    by_place : (o : Option (ℕ × ℕ)) → part at g b (λ u. u) o m ≤ part at g b (λ u. true) o m
    by_place None = omega arith
    by_place (Some p) = by_flag (p.0 == g) m.unwritten (at_span p.1 m.count b)

    sums : (s t l o r q : ℕ) → s ≡ l + r → t ≡ o + q → l ≤ o → r ≤ q → s ≤ t
    sums s t l o r q e f g h = omega (arith, e, f, g, h)

-- a file with a written piece has it beside what stands alone
written_piece : (a : State) (ino g c n offset h b : ℕ) → HasFitting a.geometry → 0 < n → IsSound a ino → IsRunAt a (record { group = g; block = c; count = n }) offset → is_piece offset (fs_block_of a.geometry g c) n (data_of a ino) ≡ true
    → is_unwritten_at offset (data_of a ino) ≡ false → alone_at b (data_claims a h ino) + hits h b (record { group = g; block = c; count = n }) ≤ owned_at b (data_claims a h ino)
written_piece a ino g c n offset h b fit some sound run piece old =
    let all = rows.left_weighs a ino g c n offset h b (λ u. true) fit some sound run piece in
    let lone_ones = rows.left_weighs a ino g c n offset h b (λ u. u) fit some sound run piece in
    let none : share (g == h) (is_unwritten_at offset (data_of a ino)) (at_span c n b) ≡ 0 = ap (λ y. share (g == h) y (at_span c n b)) old ∙ off (g == h) (at_span c n b) in
    sums _ _ _ _ _ _ _ _ (owned_data a h ino b) (alone_data a h ino b sound.placed) all lone_ones none (lighter a.geometry h b (take_piece offset n (data_of a ino)))
  where
    off : (x : Bool) (n : ℕ) → share x false n ≡ 0
    off true n = refl
    off false n = refl

    sums : (o l w v r q s z : ℕ) → o ≡ w → l ≡ v → r + s ≡ w → q + z ≡ v → z ≡ 0 → q ≤ r → l + s ≤ o
    sums o l w v r q s z d e f g h i = omega (arith, d, e, f, g, h, i)

sum_less : (U V : ℕ → ℕ) (i d : ℕ) (xs : List ℕ) → ((n : ℕ) → V n ≤ U n) → V i + d ≤ U i → is_in i xs ≡ true → sum_by V xs + d ≤ sum_by U xs
sum_less U V i d [] all here h = absurd (false≢true h)
sum_less U V i d (x ∷ xs) all here h = by (x == i) refl h (λ k. sum_less U V i d xs all here k) (no_more xs) (sum_by-cons U x xs) (sum_by-cons V x xs)
  where
    no_more : (ys : List ℕ) → sum_by V ys ≤ sum_by U ys
    no_more [] = omega arith
    no_more (y ∷ ys) = let r = no_more ys in let k = all y in let e = sum_by-cons U y ys in let f = sum_by-cons V y ys in omega (arith, r, k, e, f)

    by : (t : Bool) → (x == i) ≡ t → (t || is_in i xs) ≡ true → (is_in i xs ≡ true → sum_by V xs + d ≤ sum_by U xs) → sum_by V xs ≤ sum_by U xs → sum_by U (x ∷ xs) ≡ U x + sum_by U xs → sum_by V (x ∷ xs) ≡ V x + sum_by V xs → sum_by V (x ∷ xs) + d ≤ sum_by U (x ∷ xs)
    by true q k later less e f = let l = subst (λ n. V n + d ≤ U n) (sym (eqb-true x i q)) here in omega (arith, l, less, e, f)
    by false q k later less e f = let l = later k in let m = all x in omega (arith, l, m, e, f)

written_there : (a : State) (ino g c n offset h b : ℕ) → HasFitting a.geometry → is_inode a ino ≡ true → 0 < n → IsSound a ino → IsRunAt a (record { group = g; block = c; count = n }) offset → is_piece offset (fs_block_of a.geometry g c) n (data_of a ino) ≡ true
    → is_unwritten_at offset (data_of a ino) ≡ false → alone_at b (claims a h) + hits h b (record { group = g; block = c; count = n }) ≤ owned_at b (claims a h)
written_there a ino g c n offset h b fit is some sound run piece old =
    let files = sum_less (λ k. owned_at b (data_claims a h k)) (λ k. alone_at b (data_claims a h k)) ino (hits h b (record { group = g; block = c; count = n })) (inodes a) (λ k. fewer_alone b (data_claims a h k))
    (written_piece a ino g c n offset h b fit some sound run piece old) (among a ino fit ∙ is) in
    sums _ _ _ _ _ _ _ _ _ _ _ (by_parts (λ (k : Claimed). if k.block == b then 1 else 0) a h) (by_parts (lone b) a h) files
    (fewer_alone b (metadata_claims a h)) (fewer_alone b (flat_map (attribute_claims a h) (inodes a))) (fewer_alone b (flat_map (tree_claims a h) (inodes a)))
  where
    sums : (o l m w p q n v r s d : ℕ) → o ≡ m + ((w + p) + q) → l ≡ n + ((v + r) + s) → v + d ≤ w → n ≤ m → r ≤ p → s ≤ q → l + d ≤ o
    sums o l m w p q n v r s d e f g h i j = omega (arith, e, f, g, h, i, j)

-- ---- one that is mapped a second time

shared_is : (m : SharedPiece) (a : State) (g b owned alone : ℕ)
    → Sound (ledger_in (a.group g) (at_only m.chain (intent RmapAdd m.to m.to_offset (run_shared m) ∷ intent RefMore 0 0 (run_shared m) ∷ []) a.chains) g b owned alone) → Sound (ledger_of (shared m a) g b owned alone)
unfolding shared
shared_is m a g b owned alone s = s

shared_due : (m : SharedPiece) (a : State) (g b : ℕ) → m.chain < most_chains → a.chains m.chain ≡ [] → due (owes raises g b) (shared m a).chains ≡ due (owes raises g b) a.chains + hits g b (run_shared m)
unfolding shared
shared_due m a g b lt e =
    came (owes raises g b) a.chains m.chain (intent RmapAdd m.to m.to_offset (run_shared m)) (intent RefMore 0 0 (run_shared m)) lt e ∙ plain (due (owes raises g b) a.chains) (hits g b (run_shared m))
  where
    plain : (n k : ℕ) → n + (0 + k) ≡ n + k
    plain n k = omega arith

pub shared_kept : SharedKept
shared_kept a x left m held g b fit row from_sound from_run to_sound to_run from_own to_own holders h =
    let e : Extent = run_shared m in
    let k = rows.shared_claims a x left m g b fit row to_sound to_run in
    let after = shared_held a x left m held fit row from_sound from_run to_sound to_run from_own to_own holders in
    let rises : due (owes raises g b) x.chains ≡ due (owes raises g b) a.chains + hits g b e = ap (λ (s : State). due (owes raises g b) s.chains) row.1 ∙ shared_due m a g b row.0.to_first.open_chain row.0.to_first.owes_nothing in
    let pairs = holders_least x held g b after in
    with_claims x g b (owned_at b (claims a g) + hits g b e) (alone_at b (claims a g)) (sym k.owned_then) (plain (alone_at b (claims a g)) ∙ sym k.alone_then)
    (subst (λ (s : State). Sound (ledger_of s g b (owned_at b (claims a g) + hits g b e) (alone_at b (claims a g)))) (sym row.1)
    (shared_is m a g b _ _
    (piece_is_shared (a.group g) a.chains m.chain m.to m.to_offset e g b (owned_at b (claims a g)) (alone_at b (claims a g)) row.0.to_first.open_chain row.0.to_first.owes_nothing
    (λ one. (least_written one, none_alone one, twice _ _ _ _ _ pairs rises k.owned_then one)) h)))
  where
    plain : (n : ℕ) → n ≡ n + 0
    plain n = omega arith

    twice : (d x o y n : ℕ) → 2 * d ≤ o → d ≡ x + n → o ≡ y + n → n ≡ 1 → 2 * (x + 1) ≤ y + 1
    twice d x o y n p q r s = omega (arith, p, q, r, s)

    there : alone_at b (claims a g) + hits g b (run_shared m) ≤ owned_at b (claims a g)
    there = written_there a m.from m.group m.block m.count m.from_offset g b fit row.0.from_first.file.inode row.0.some from_sound from_run row.0.piece row.0.written

    least_written : hits g b (run_shared m) ≡ 1 → 1 ≤ owned_at b (claims a g)
    least_written o = omega (arith, there, o)

    none_alone : hits g b (run_shared m) ≡ 1 → alone_at b (claims a g) ≡ 0
    none_alone o = by (zero_or (alone_at b (claims a g)))
      where
        by : (alone_at b (claims a g) ≡ 0) ⊎ (1 ≤ alone_at b (claims a g)) → alone_at b (claims a g) ≡ 0
        by (inl z) = z
        by (inr k) = let s = (h.single k).0 in absurd (never _ _ _ there o s k)
          where
            never : (l o n : ℕ) → l + n ≤ o → n ≡ 1 → o ≡ 1 → 1 ≤ l → ⊥
            never l o n p q r t = omega (arith, p, q, r, t)

-- ---- one that becomes written

abbrev written_state : State → Piece → State
written_state a m =
    set_chain m.chain (intent RmapChange m.ino m.offset (extent_of m) ∷ [])
    (change_data m.ino (λ ms. add_mapping a.geometry.agblklog (mapping_of a m.offset m.group m.block m.count false) (take_piece m.offset m.count ms)) a)

converted_is : (m : Piece) (a : State) (g b owned alone : ℕ) → is_unwritten_at m.offset (data_of a m.ino) ≡ true
    → Sound (ledger_in (a.group g) (at_only m.chain (intent RmapChange m.ino m.offset (extent_of m) ∷ []) a.chains) g b owned alone) → Sound (ledger_of (converted m a) g b owned alone)
unfolding converted
converted_is m a g b owned alone e s = by (is_unwritten_at m.offset (data_of a m.ino)) e s
  where
    by : (t : Bool) → t ≡ true → Sound (ledger_in (a.group g) (at_only m.chain (intent RmapChange m.ino m.offset (extent_of m) ∷ []) a.chains) g b owned alone) → Sound (ledger_of (if t then written_state a m else a) g b owned alone)
    by true q k = k
    by false q k = absurd (false≢true q)

pub converted_kept : ConvertedKept
converted_kept a x left m g b fit row sound run h = by (is_unwritten_at m.offset (data_of a m.ino)) refl
  where
    plain : (n : ℕ) → n ≡ n + 0
    plain n = omega arith

    by : (t : Bool) → is_unwritten_at m.offset (data_of a m.ino) ≡ t → Sound (ledger_at x g b)
    by true e =
        let k = rows.converted_claims a x left m g b fit row e sound run in
        with_claims x g b (owned_at b (claims a g)) (alone_at b (claims x g)) (sym k.owned_then ∙ sym (plain (owned_at b (claims x g)))) refl
        (subst (λ (s : State). Sound (ledger_of s g b (owned_at b (claims a g)) (alone_at b (claims x g)))) (sym row.1)
        (converted_is m a g b (owned_at b (claims a g)) (alone_at b (claims x g)) e
        (piece_is_written (a.group g) a.chains m.chain m.ino m.offset (extent_of m) g b (owned_at b (claims a g)) (alone_at b (claims a g)) (alone_at b (claims x g)) row.0.first.open_chain row.0.first.owes_nothing (sym k.alone_then) h)))
    by false e = subst (λ (s : State). Sound (ledger_at s g b)) (sym (row.1 ∙ converted_stays m a e)) h

-- ---- inodes, and finished steps

turned_parts : (old : Group) (to_free : Bool) (i : ℕ) (p : Group) → SameParts p (inodes_follow old (turn to_free i p))
turned_parts old to_free i p =
    let one = edit_parts [] Ino (turn_inode to_free i) p in
    let two = edit_parts [] Fino (follow_inode i (turn_inode to_free i (records_in p Ino))) (edit [] Ino (turn_inode to_free i) p) in
    record { list = two.list ∙ one.list; blocks = λ k. two.blocks k ∙ one.blocks k; reserve = two.reserve ∙ one.reserve; limbo = two.limbo ∙ one.limbo }

taken_same : (g i ino uid : ℕ) (a : State) → ChunksStay a (taken g i ino uid None a) → claims (taken g i ino uid None a) g ≡ claims a g
unfolding taken
taken_same g i ino uid a stay =
    claims_same a (taken g i ino uid None a) g refl refl stay
    (subst (SameParts (a.group g)) (sym (in_itself g (λ q. inodes_follow (a.group g) (turn false i q)) a)) (turned_parts (a.group g) false i (a.group g)))

pub taken_kept : TakenKept
taken_kept a x left writer ino uid b fit row h =
    let g : ℕ = group_of_inode a ino in
    let y : State = taken g row.0 ino uid None a in
    let stay : ChunksStay a x = chunk_rows.decided a x left (entries.Taken writer ino uid None) fit row tt in
    let same : claims x g ≡ claims a g = ap (λ (s : State). claims s g) row.3 ∙ taken_same g row.0 ino uid a (subst (ChunksStay a) row.3 stay) in
    with_claims x g b (owned_at b (claims a g)) (alone_at b (claims a g)) (sym (ap (owned_at b) same)) (sym (ap (alone_at b) same))
    (taken_sound a x left writer ino uid b (owned_at b (claims a g)) (alone_at b (claims a g)) row h)

given_same : (g i ino : ℕ) (a : State) → ChunksStay a (given g i ino a) → claims (given g i ino a) g ≡ claims a g
unfolding given
given_same g i ino a stay =
    claims_same a (given g i ino a) g refl refl stay
    (subst (SameParts (a.group g)) (sym (in_itself g (λ p. inodes_follow p (turn true i p)) a)) (turned_parts (a.group g) true i (a.group g)))

pub given_kept : GivenKept
given_kept a x left writer ino b fit row h =
    let g : ℕ = group_of_inode a ino in
    let stay : ChunksStay a x = chunk_rows.decided a x left (entries.Given writer ino) fit row tt in
    let same : claims x g ≡ claims a g = ap (λ (s : State). claims s g) row.4 ∙ given_same g row.0 ino a (subst (ChunksStay a) row.4 stay) in
    with_claims x g b (owned_at b (claims a g)) (alone_at b (claims a g)) (sym (ap (owned_at b) same)) (sym (ap (alone_at b) same))
    (given_sound a x left writer ino b (owned_at b (claims a g)) (alone_at b (claims a g)) row h)

pub rmap_done_kept : RmapDoneKept
rmap_done_kept a x left c ino g at n b fit lt made w leaves h =
    rmap_done_stated a x left c ino g at n b lt w (intent_found a x left c ino g at n made w.edited) (chunk_rows.decided a x left (entries.RmapDone c ino g at n) fit made.row leaves) made.row h

pub ref_done_kept : RefDoneKept
ref_done_kept a x left c g at n more b fit lt w chains row h =
    ref_done_stated a x left c g at n more b lt w chains (chunk_rows.decided a x left (entries.RefDone c g at n more) fit row tt) row h

pub freed_kept : FreedKept
freed_kept a x left c g at n kept b fit lt w sound each row h =
    let free : kept ≡ false = guard_passes a x left c g at n kept lt sound (λ k i. (owned_at k (claims a g), alone_at k (claims a g), each k i)) row in
    freed_stated a x left c g at n b lt w (chunk_rows.decided a x left (entries.Freed c g at n kept) fit row tt) (subst (λ (k : Bool). Row a left (entries.Freed c g at n k) x) free row) h
