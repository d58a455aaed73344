-- Chains whose counts rise keep their owners.
use Rattle.std.proofs.Common.{◌≡◌, ℕ, zero, suc, ◌+◌, ◌*◌, ◌<◌, ◌≤◌, ◌==◌, ◌||◌, Bool, true, false, cond, List, [], ◌∷◌, flat_map, refl, sym, ap, ap₂, subst, ◌∙◌, arith, eqb-true, eq-eqb}
use Rattle.std.specs.Prelude.{sum_by, if◌then◌else◌}
use Rattle.std.proofs.lemmas.Bool.{false≢true, true≢false}
use Rattle.std.proofs.lemmas.Bool.Decides.{nat_tests}
use Rattle.std.proofs.lemmas.List.Sums.{sum_by-cons}
use Rattle.law_accounts.specs.Account.Accounts.{hits, owes, owned_at, raises}
use Rattle.law_accounts.specs.Account.Chained.{AreHeld}
use Rattle.law_accounts.specs.Account.Firsts.{run_shared}
use Rattle.fs_change.specs.Chains.{most_chains}
use Rattle.fs_change.specs.Changes.{converted, data_of, data_word, extent_of, intent, mapped, shared, unmapped}
use Rattle.fs_change.specs.Parts.{at_only}
use Rattle.fs_change.specs.Records.{is_unwritten_at}
use Rattle.fs_change.specs.Step.{Row}
use Rattle.fs_state.specs.Chunks.{inodes}
use Rattle.fs_state.specs.Claims.{data_claims}
use Rattle.fs_state.specs.Lists.{numbers}
use Rattle.fs_model.specs.declared.entry.Entry.TheVariants as entries
use Rattle.fs_model.specs.declared.entry.Piece.{Piece}
use Rattle.fs_model.specs.declared.entry.SharedPiece.{SharedPiece}
use Rattle.fs_state.specs.State.{State}
use Rattle.fs_state.specs.declared.intent.Intent.{Intent}
use Rattle.fs_state.specs.declared.intent.IntentKind.TheVariants.{RefLess, RefMore, RmapAdd, RmapChange, RmapRemove}
use Rattle.geom.specs.Apart.{HasFitting}
use Rattle.sblock.specs.declared.kind.Kind.{Kind}
use Rattle.tree_defs.specs.Lists.{AllDiffer, is_in, times}
use Rattle.law_writers.proofs.Fork.Forks.{owned_data}
use Rattle.law_writers.proofs.Run.Listed.{times_both}
use Rattle.law_writers.proofs.Fork.Rows as rows
use Rattle.law_writers.specs.Change.Forks.{IsRunAt, IsSound}
use Rattle.law_writers.specs.Held.Held.{AreHolders, ConvertedHeld, MappedHeld, SharedHeld, UnmappedHeld, weight_at}

-- ---- sums over lists of numbers

pub sum_same : (U V : ℕ → ℕ) (xs : List ℕ) → ((i : ℕ) → is_in i xs ≡ true → V i ≡ U i) → sum_by V xs ≡ sum_by U xs
sum_same U V [] e = refl
sum_same U V (x ∷ xs) e =
    sum_by-cons V x xs
    ∙ ap₂ (λ m n. m + n) (e x (ap (λ b. b || is_in x xs) (eq-eqb x x refl))) (sum_same U V xs (λ i k. e i (or_right (x == i) (is_in i xs) k)))
    ∙ sym (sum_by-cons U x xs)
  where
    or_right : (p q : Bool) → q ≡ true → (p || q) ≡ true
    or_right true q h = refl
    or_right false q h = h

least_one : (U : ℕ → ℕ) (i : ℕ) (xs : List ℕ) → is_in i xs ≡ true → U i ≤ sum_by U xs
least_one U i [] h = absurd (false≢true h)
least_one U i (x ∷ xs) h = by (x == i) refl h (least_one U i xs) (sum_by-cons U x xs)
  where
    by : (b : Bool) → (x == i) ≡ b → (b || is_in i xs) ≡ true → (is_in i xs ≡ true → U i ≤ sum_by U xs) → sum_by U (x ∷ xs) ≡ U x + sum_by U xs → U i ≤ sum_by U (x ∷ xs)
    by true q k later c = let same : U x ≡ U i = ap U (eqb-true x i q) in omega (arith, same, c)
    by false q k later c = let l = later k in omega (arith, l, c)

least_two : (U : ℕ → ℕ) (i j : ℕ) (xs : List ℕ) → (i == j) ≡ false → is_in i xs ≡ true → is_in j xs ≡ true → U i + U j ≤ sum_by U xs
least_two U i j [] o h k = absurd (false≢true h)
least_two U i j (x ∷ xs) o h k = by (x == i) refl (x == j) refl h k (λ m n. least_two U i j xs o m n) (sum_by-cons U x xs)
  where
    neither : (x i j : ℕ) → (i == j) ≡ false → x ≡ i → x ≡ j → ⊥
    neither x i j o e f = true≢false (sym (eq-eqb i j (sym e ∙ f)) ∙ o)

    by : (p : Bool) → (x == i) ≡ p → (q : Bool) → (x == j) ≡ q → (p || is_in i xs) ≡ true → (q || is_in j xs) ≡ true → (is_in i xs ≡ true → is_in j xs ≡ true → U i + U j ≤ sum_by U xs) → sum_by U (x ∷ xs) ≡ U x + sum_by U xs → U i + U j ≤ sum_by U (x ∷ xs)
    by true d true e m n later c = absurd (neither x i j o (eqb-true x i d) (eqb-true x j e))
    by true d false e m n later c = let same : U x ≡ U i = ap U (eqb-true x i d) in let l = least_one U j xs n in omega (arith, same, l, c)
    by false d true e m n later c = let same : U x ≡ U j = ap U (eqb-true x j e) in let l = least_one U i xs m in omega (arith, same, l, c)
    by false d false e m n later c = let l = later m n in omega (arith, l, c)

-- ---- an inode that one chain holds is held by no other

times_flat : (b : ℕ) (held : ℕ → List ℕ) (cs : List ℕ) → times b (flat_map held cs) ≡ sum_by (λ c. times b (held c)) cs
times_flat b held [] = refl
times_flat b held (c ∷ cs) = times_both b (held c) (flat_map held cs) ∙ ap (λ z. times b (held c) + z) (times_flat b held cs) ∙ sym (sum_by-cons (λ d. times b (held d)) c cs)

stands : (i : ℕ) (xs : List ℕ) → is_in i xs ≡ true → 1 ≤ times i xs
stands i [] h = absurd (false≢true h)
stands i (x ∷ xs) h = by (x == i) h (stands i xs)
  where
    by : (k : Bool) → (k || is_in i xs) ≡ true → (is_in i xs ≡ true → 1 ≤ times i xs) → 1 ≤ (if k then 1 else 0) + times i xs
    by true e f = omega arith
    by false e f = let r = f e in omega (arith, r)

in_numbers : (k n c : ℕ) → k ≤ c → c < k + n → is_in c (numbers k n) ≡ true
in_numbers k zero c l m = absurd (omega (arith, l, m))
in_numbers k (suc n) c l m = by (k == c) refl (λ o. in_numbers (k + 1) n c (further k c l o) (omega (arith, m)))
  where
    further : (k c : ℕ) → k ≤ c → (k == c) ≡ false → k + 1 ≤ c
    further k c l o = grind (arith, nat_tests)

    by : (b : Bool) → (k == c) ≡ b → ((k == c) ≡ false → is_in c (numbers (k + 1) n) ≡ true) → (b || is_in c (numbers (k + 1) n)) ≡ true
    by true q later = refl
    by false q later = later q

held_apart : (held : ℕ → List ℕ) (c d i : ℕ) → AllDiffer (flat_map held (numbers 0 most_chains)) → c < most_chains → d < most_chains → (d == c) ≡ false → is_in i (held c) ≡ true → is_in i (held d) ≡ true → ⊥
held_apart held c d i differ lc ld o hc hd =
    let two = least_two (λ e. times i (held e)) d c (numbers 0 most_chains) o (in_numbers 0 most_chains d (omega arith) (omega (arith, ld))) (in_numbers 0 most_chains c (omega arith) (omega (arith, lc))) in
    let all = times_flat i held (numbers 0 most_chains) in
    let most = differ i in
    let first = stands i (held c) hc in
    let second = stands i (held d) hd in
    never _ _ _ _ two all most first second
  where
    never : (x y s t : ℕ) → x + y ≤ s → t ≡ s → t ≤ 1 → 1 ≤ y → 1 ≤ x → ⊥
    never x y s t a b k m n = omega (arith, a, b, k, m, n)

-- ---- one chain begins, and one of its inodes changes

not_here : (i ino : ℕ) → (i ≡ ino → ⊥) → (i == ino) ≡ false
not_here i ino f = by (i == ino) refl
  where
    by : (b : Bool) → (i == ino) ≡ b → b ≡ false
    by true e = absurd (f (eqb-true i ino e))
    by false e = refl

pub holders_begin : (a x : State) (held : ℕ → List ℕ) (c ino : ℕ) → AreHolders a held → inodes x ≡ inodes a → c < most_chains → is_in ino (held c) ≡ true → ((d : ℕ) → (d == c) ≡ false → x.chains d ≡ a.chains d)
    → ((g o : ℕ) → (o == ino) ≡ false → data_claims x g o ≡ data_claims a g o) → ((g b : ℕ) → 2 * sum_by (owes raises g b) (x.chains c) ≤ sum_by (weight_at x g b) (held c)) → AreHolders x held
holders_begin a x held c ino h same lc own others kept mine = record {
  apart = subst (λ all. AreHeld all held) (sym same) h.apart;
  paired = λ g b d ld. by g b d ld (d == c) refl;
}
  where
    by : (g b d : ℕ) → d < most_chains → (t : Bool) → (d == c) ≡ t → 2 * sum_by (owes raises g b) (x.chains d) ≤ sum_by (weight_at x g b) (held d)
    by g b d ld true e = subst (λ k. 2 * sum_by (owes raises g b) (x.chains k) ≤ sum_by (weight_at x g b) (held k)) (sym (eqb-true d c e)) (mine g b)
    by g b d ld false e =
        let weights : sum_by (weight_at x g b) (held d) ≡ sum_by (weight_at a g b) (held d) = sum_same (weight_at a g b) (weight_at x g b) (held d) (λ i k.
        ap (owned_at b) (kept g i (not_here i ino (λ q. held_apart held c d ino h.apart.distinct lc ld e own (subst (λ n. is_in n (held d) ≡ true) q k))))) in
        subst (λ n. 2 * sum_by (owes raises g b) (x.chains d) ≤ n) (sym weights) (subst (λ is. 2 * sum_by (owes raises g b) is ≤ sum_by (weight_at a g b) (held d)) (sym (others d e)) (h.paired g b d ld))

-- ---- first events

pub at_own : (c : ℕ) (is : List Intent) (cs : ℕ → List Intent) → at_only c is cs c ≡ is
at_own c is cs = ap (λ b. cond b is (cs c)) (eq-eqb c c refl)

pub at_others : (c : ℕ) (is : List Intent) (cs : ℕ → List Intent) (d : ℕ) → (d == c) ≡ false → at_only c is cs d ≡ cs d
at_others c is cs d o = ap (λ b. cond b is (cs d)) o

-- a chain of one intent, or two, where no count rises
one_none : (g b : ℕ) (i : Intent) (n : ℕ) → owes raises g b i ≡ 0 → 2 * sum_by (owes raises g b) (i ∷ []) ≤ n
one_none g b i n e = let c = sum_by-cons (owes raises g b) i [] in omega (arith, c, e)

two_none : (g b : ℕ) (i j : Intent) (n : ℕ) → owes raises g b i ≡ 0 → owes raises g b j ≡ 0 → 2 * sum_by (owes raises g b) (i ∷ j ∷ []) ≤ n
two_none g b i j n e f = let c = sum_by-cons (owes raises g b) i (j ∷ []) in let d = sum_by-cons (owes raises g b) j [] in omega (arith, c, d, e, f)

pub mapped_chains : (m : Piece) (a : State) → (mapped m a).chains ≡ at_only m.chain (intent RmapAdd m.ino (data_word true m.offset) (extent_of m) ∷ []) a.chains
unfolding mapped
mapped_chains m a = refl

pub unmapped_chains : (m : Piece) (a : State) → (unmapped m a).chains ≡ at_only m.chain (intent RmapRemove m.ino (data_word (is_unwritten_at m.offset (data_of a m.ino)) m.offset) (extent_of m) ∷ intent RefLess 0 0 (extent_of m) ∷ []) a.chains
unfolding unmapped
unmapped_chains m a = refl

pub shared_chains : (m : SharedPiece) (a : State) → (shared m a).chains ≡ at_only m.chain (intent RmapAdd m.to m.to_offset (run_shared m) ∷ intent RefMore 0 0 (run_shared m) ∷ []) a.chains
unfolding shared
shared_chains m a = refl

-- a first event whose chain raises no count
begins_none : (a x : State) (held : ℕ → List ℕ) (c ino : ℕ) (is : List Intent) → AreHolders a held → inodes x ≡ inodes a → c < most_chains → is_in ino (held c) ≡ true → x.chains ≡ at_only c is a.chains
    → ((g o : ℕ) → (o == ino) ≡ false → data_claims x g o ≡ data_claims a g o) → ((g b n : ℕ) → 2 * sum_by (owes raises g b) is ≤ n) → AreHolders x held
begins_none a x held c ino is h same lc own chains kept none =
    holders_begin a x held c ino h same lc own
    (λ d o. ap (λ (cs : ℕ → List Intent). cs d) chains ∙ at_others c is a.chains d o) kept
    (λ g b. subst (λ (js : List Intent). 2 * sum_by (owes raises g b) js ≤ sum_by (weight_at x g b) (held c)) (sym (ap (λ (cs : ℕ → List Intent). cs c) chains ∙ at_own c is a.chains)) (none g b (sum_by (weight_at x g b) (held c))))

pub mapped_held : MappedHeld
mapped_held a x left m held fit row sound run own h =
    let i : Intent = intent RmapAdd m.ino (data_word true m.offset) (extent_of m) in
    begins_none a x held m.chain m.ino (i ∷ []) h ((rows.mapped_file a x left m 0 fit row).inodes) row.0.first.open_chain own (ap (λ (s : State). s.chains) row.1 ∙ mapped_chains m a)
    (λ g o out. (rows.mapped_file a x left m g fit row).data_beside o out) (λ g b n. one_none g b i n refl)

pub unmapped_held : UnmappedHeld
unmapped_held a x left m held fit row sound run own h =
    let i : Intent = intent RmapRemove m.ino (data_word (is_unwritten_at m.offset (data_of a m.ino)) m.offset) (extent_of m) in
    let j : Intent = intent RefLess 0 0 (extent_of m) in
    begins_none a x held m.chain m.ino (i ∷ j ∷ []) h ((rows.unmapped_file a x left m 0 fit row).inodes) row.0.first.open_chain own (ap (λ (s : State). s.chains) row.1 ∙ unmapped_chains m a)
    (λ g o out. (rows.unmapped_file a x left m g fit row).data_beside o out) (λ g b n. two_none g b i j n refl refl)

turned_chains : (t : Bool) (y a : State) (c : ℕ) (is : List Intent) → t ≡ true → y.chains ≡ at_only c is a.chains → (if t then y else a).chains ≡ at_only c is a.chains
turned_chains true y a c is e h = h
turned_chains false y a c is e h = absurd (false≢true e)

pub converted_chains : (m : Piece) (a : State) → is_unwritten_at m.offset (data_of a m.ino) ≡ true → (converted m a).chains ≡ at_only m.chain (intent RmapChange m.ino m.offset (extent_of m) ∷ []) a.chains
unfolding converted
converted_chains m a e = turned_chains (is_unwritten_at m.offset (data_of a m.ino)) _ a m.chain _ e refl

nothing_turns : (t : Bool) (y a : State) → t ≡ false → (if t then y else a) ≡ a
nothing_turns true y a e = absurd (true≢false e)
nothing_turns false y a e = refl

pub converted_stays : (m : Piece) (a : State) → is_unwritten_at m.offset (data_of a m.ino) ≡ false → converted m a ≡ a
unfolding converted
converted_stays m a e = nothing_turns (is_unwritten_at m.offset (data_of a m.ino)) _ a e

pub converted_held : ConvertedHeld
converted_held a x left m held fit row sound run own h = by (is_unwritten_at m.offset (data_of a m.ino)) refl
  where
    by : (t : Bool) → is_unwritten_at m.offset (data_of a m.ino) ≡ t → AreHolders x held
    by true e =
        begins_none a x held m.chain m.ino (intent RmapChange m.ino m.offset (extent_of m) ∷ []) h ((rows.turned_file a x left m 0 fit row e).inodes) row.0.first.open_chain own (ap (λ (s : State). s.chains) row.1 ∙ converted_chains m a e)
        (λ g o out. (rows.turned_file a x left m g fit row e).data_beside o out) (λ g b n. one_none g b (intent RmapChange m.ino m.offset (extent_of m)) n refl)
    by false e = subst (λ (s : State). AreHolders s held) (sym (row.1 ∙ converted_stays m a e)) h

-- ---- a piece that is shared has two owners

-- the file that it is taken from has it
source_weighs : (a x : State) (left : List Kind) (m : SharedPiece) (g b : ℕ) → HasFitting a.geometry → Row a left (entries.Shared m) x → IsSound a m.from → IsRunAt a (run_shared m) m.from_offset → hits g b (run_shared m) ≤ weight_at a g b m.from
source_weighs a x left m g b fit row sound run =
    let piece = rows.left_weighs a m.from m.group m.block m.count m.from_offset g b (λ u. true) fit row.0.some sound run row.0.piece in
    let all = owned_data a g m.from b in
    part _ _ _ _ piece all
  where
    part : (r s w n : ℕ) → r + s ≡ w → n ≡ w → s ≤ n
    part r s w n e f = omega (arith, e, f)

pub shared_held : SharedHeld
shared_held a x left m held fit row from_sound from_run to_sound to_run from_own to_own h =
    holders_begin a x held m.chain m.to h ((rows.shared_file a x left m 0 fit row).inodes) row.0.to_first.open_chain to_own
    (λ d o. ap (λ (cs : ℕ → List Intent). cs d) chains ∙ at_others m.chain _ a.chains d o)
    (λ g o out. (rows.shared_file a x left m g fit row).data_beside o out)
    (λ g b. subst (λ (js : List Intent). 2 * sum_by (owes raises g b) js ≤ sum_by (weight_at x g b) (held m.chain)) (sym (ap (λ (cs : ℕ → List Intent). cs m.chain) chains ∙ at_own m.chain _ a.chains)) (twice g b (m.from == m.to) refl))
  where
    chains : x.chains ≡ at_only m.chain (intent RmapAdd m.to m.to_offset (run_shared m) ∷ intent RefMore 0 0 (run_shared m) ∷ []) a.chains
    chains = ap (λ (s : State). s.chains) row.1 ∙ shared_chains m a

    raised : (g b : ℕ) → sum_by (owes raises g b) (intent RmapAdd m.to m.to_offset (run_shared m) ∷ intent RefMore 0 0 (run_shared m) ∷ []) ≡ hits g b (run_shared m)
    raised g b =
        sum_by-cons (owes raises g b) (intent RmapAdd m.to m.to_offset (run_shared m)) (intent RefMore 0 0 (run_shared m) ∷ [])
        ∙ ap (λ z. 0 + z) (sum_by-cons (owes raises g b) (intent RefMore 0 0 (run_shared m)) [])
        ∙ plain (hits g b (run_shared m))
      where
        plain : (n : ℕ) → 0 + (n + 0) ≡ n
        plain n = omega arith

    same_two : (s n v w t l : ℕ) → s ≡ n → n ≤ v → w ≡ v + n → w ≤ l → 2 * s ≤ l
    same_two s n v w t l e f k o = omega (arith, e, f, k, o)

    both_two : (s n u v w l : ℕ) → s ≡ n → n ≤ u → w ≡ v + n → u + w ≤ l → 2 * s ≤ l
    both_two s n u v w l e f k o = omega (arith, e, f, k, o)

    twice : (g b : ℕ) (t : Bool) → (m.from == m.to) ≡ t → 2 * sum_by (owes raises g b) (intent RmapAdd m.to m.to_offset (run_shared m) ∷ intent RefMore 0 0 (run_shared m) ∷ []) ≤ sum_by (weight_at x g b) (held m.chain)
    twice g b true e =
        same_two _ (hits g b (run_shared m)) (weight_at a g b m.to) (weight_at x g b m.to) 0 _ (raised g b)
        (subst (λ n. hits g b (run_shared m) ≤ weight_at a g b n) (eqb-true m.from m.to e) (source_weighs a x left m g b fit row from_sound from_run))
        (rows.shared_weight a x left m g b fit row to_sound to_run) (least_one (weight_at x g b) m.to (held m.chain) to_own)
    twice g b false e =
        let beside : weight_at x g b m.from ≡ weight_at a g b m.from = ap (owned_at b) ((rows.shared_file a x left m g fit row).data_beside m.from e) in
        both_two _ (hits g b (run_shared m)) (weight_at x g b m.from) (weight_at a g b m.to) (weight_at x g b m.to) _ (raised g b)
        (subst (λ n. hits g b (run_shared m) ≤ n) (sym beside) (source_weighs a x left m g b fit row from_sound from_run))
        (rows.shared_weight a x left m g b fit row to_sound to_run) (least_two (weight_at x g b) m.from m.to (held m.chain) e from_own to_own)
