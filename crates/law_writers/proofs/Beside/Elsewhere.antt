-- An entry leaves the numbers of the blocks of other groups.
use Rattle.std.proofs.Common.{◌≡◌, ℕ, ◌+◌, ◌-◌, ◌<◌, ◌==◌, Bool, true, false, List, [], ◌∷◌, ◌++◌, Some, None, refl, sym, ap, ap₂, subst, ◌∙◌, arith}
use Rattle.std.specs.Prelude.{sum_by, if◌then◌else◌}
use Rattle.std.proofs.lemmas.Bool.Decides.{nat_tests}
use Rattle.std.proofs.lemmas.List.Sums.{sum_by-append, sum_by-cons}
use Rattle.law_accounts.specs.Account.Accounts.{adds, alone_at, at_span, covers_at, due, frees, hits, lowers, owes, owned_at, raises, removes, spans_at}
use Rattle.law_accounts.specs.Account.Firsts.{run_shared}
use Rattle.law_accounts.specs.Account.Ledger.{Sound}
use Rattle.law_accounts.specs.Account.Stated.{ledger_at}
use Rattle.law_accounts.proofs.Account.Blocks.{carry}
use Rattle.law_accounts.proofs.Account.Framed.{claims_same, same_parts, SameParts}
use Rattle.law_accounts.proofs.Account.Sums.{came, came_one, due_changes}
use Rattle.law_writers.specs.Beside.Elsewhere.{ElsewhereKept, IsAsked}
use Rattle.law_writers.proofs.Change.Rows as chunk_rows
use Rattle.law_writers.specs.Change.Chunks.{LeavesChunks}
use Rattle.law_writers.proofs.Fork.Rows.{converted_claims, mapped_claims, shared_claims, unmapped_claims}
use Rattle.law_writers.specs.Fork.Counted.{Gains, Loses}
use Rattle.fs_change.proofs.Beside as beside
use Rattle.fs_change.specs.Chains.{most_chains}
use Rattle.fs_change.specs.Changes.{behind, data_of, data_word, extent_of, intent, to_free}
use Rattle.fs_change.specs.Parts.{at_only, records_in}
use Rattle.fs_change.specs.Records.{count_at, is_unwritten_at}
use Rattle.fs_change.specs.Step.{Row, group_of_entry}
use Rattle.fs_state.specs.Claims.{claims}
use Rattle.fs_state.specs.Lists.{only_if}
use Rattle.fs_model.specs.declared.entry.Entry.{Entry}
use Rattle.fs_model.specs.declared.entry.Entry.TheVariants as entries
use Rattle.fs_model.specs.declared.entry.Extent.{Extent}
use Rattle.fs_model.specs.declared.entry.Piece.{Piece}
use Rattle.fs_model.specs.declared.entry.SharedPiece.{SharedPiece}
use Rattle.fs_state.specs.State.{Group, State}
use Rattle.fs_state.specs.declared.intent.Intent.{Intent}
use Rattle.fs_state.specs.declared.intent.IntentKind.{IntentKind}
use Rattle.fs_state.specs.declared.intent.IntentKind.TheVariants.{Free, RefLess, RefMore, RmapAdd, RmapChange, RmapRemove}
use Rattle.geom.specs.Apart.{HasFitting}
use Rattle.law_writers.proofs.Held.Held.{converted_chains, converted_stays, mapped_chains, shared_chains, unmapped_chains}
use Rattle.law_writers.proofs.Held.Holders.{forks_stay, freed_chains, ref_chains, rmap_chains}
use Rattle.law_writers.specs.Held.Held.{LeavesForks}
use Rattle.law_writers.proofs.Run.Chunks.{chunk_elsewhere}
use Rattle.sblock.specs.declared.kind.Kind.{Kind}
use Rattle.sblock.specs.declared.kind.Kind.TheVariants.{Bno, Refc, Rmap}

-- ---- what is owed to a block

same_bit : (t : Bool) → ◌≡◌ {A = ℕ} (if t then 0 else 0) 0
same_bit true = refl
same_bit false = refl

-- an intent of another group owes it nothing
owes_none : (T : IntentKind → Bool) (h b : ℕ) (i : Intent) → (i.group == h) ≡ false → owes T h b i ≡ 0
owes_none T h b i e = ap (λ (k : Bool). if T i.kind then (if k then at_span i.block i.count b else 0) else 0) e ∙ same_bit (T i.kind)

-- what is due to a block, by each test
abbrev SameDue : State → State → ℕ → ℕ → Type 0
SameDue a x h b = (T : IntentKind → Bool) → due (owes T h b) x.chains ≡ due (owes T h b) a.chains

-- all numbers of a block are as they were
stays_sound : (a x : State) (h b : ℕ) → x.group h ≡ a.group h → owned_at b (claims x h) ≡ owned_at b (claims a h) → alone_at b (claims x h) ≡ alone_at b (claims a h) → SameDue a x h b → Sound (ledger_at a h b) → Sound (ledger_at x h b)
stays_sound a x h b group owned alone d s =
    carry (ledger_at a h b) (ledger_at x h b) (ap (λ (p : Group). count_at (records_in p Refc) b) (sym group)) (sym (d raises)) (sym (d removes)) (sym (d lowers)) (sym (d frees)) (sym (d adds))
    (ap (λ (p : Group). spans_at (records_in p Bno) b) (sym group)) (ap (λ (p : Group). covers_at (records_in p Rmap) b) (sym group)) (sym owned) (sym alone) s

-- ---- chains

one_comes : (a x : State) (h b c : ℕ) (i : Intent) → c < most_chains → a.chains c ≡ [] → x.chains ≡ at_only c (i ∷ []) a.chains → (i.group == h) ≡ false → SameDue a x h b
one_comes a x h b c i lt none chains out T =
    ap (due (owes T h b)) chains ∙ came_one (owes T h b) a.chains c i lt none ∙ plain (due (owes T h b) a.chains) (owes T h b i) (owes_none T h b i out)
  where
    plain : (n k : ℕ) → k ≡ 0 → n + k ≡ n
    plain n k e = omega (arith, e)

two_come : (a x : State) (h b c : ℕ) (i j : Intent) → c < most_chains → a.chains c ≡ [] → x.chains ≡ at_only c (i ∷ j ∷ []) a.chains → (i.group == h) ≡ false → (j.group == h) ≡ false → SameDue a x h b
two_come a x h b c i j lt none chains out too T =
    ap (due (owes T h b)) chains ∙ came (owes T h b) a.chains c i j lt none ∙ plain (due (owes T h b) a.chains) (owes T h b i) (owes T h b j) (owes_none T h b i out) (owes_none T h b j too)
  where
    plain : (n k l : ℕ) → k ≡ 0 → l ≡ 0 → n + (k + l) ≡ n
    plain n k l e f = omega (arith, e, f)

-- the chain's next intent is of another group, and so is what comes in its place
next_leaves : (a x : State) (h b c : ℕ) (i : Intent) (new rest : List Intent) → c < most_chains → a.chains c ≡ i ∷ rest → x.chains ≡ at_only c (new ++ rest) a.chains → (i.group == h) ≡ false → ((T : IntentKind → Bool) → sum_by (owes T h b) new ≡ 0)
    → SameDue a x h b
next_leaves a x h b c i new rest lt next chains out none T =
    ap (due (owes T h b)) chains
    ∙ sums _ _ _ _ _ _ _ (due_changes (owes T h b) c (new ++ rest) a.chains lt) (ap (sum_by (owes T h b)) next ∙ sum_by-cons (owes T h b) i rest) (owes_none T h b i out) (sum_by-append (owes T h b) new rest) (none T)
  where
    sums : (y s z w k r n : ℕ) → y + s ≡ z + w → s ≡ k + r → k ≡ 0 → w ≡ n + r → n ≡ 0 → y ≡ z
    sums y s z w k r n e f g h i = omega (arith, e, f, g, h, i)

one_if : (T : IntentKind → Bool) (h b : ℕ) (t : Bool) (i : Intent) → (i.group == h) ≡ false → sum_by (owes T h b) (only_if t i) ≡ 0
one_if T h b true i out = sum_by-cons (owes T h b) i [] ∙ ap (λ n. n + 0) (owes_none T h b i out)
one_if T h b false i out = refl

-- what a stretch frees, and what is behind it
stretch_none : (T : IntentKind → Bool) (h b n : ℕ) (more : Bool) (p : Group) (e : Extent) (i : Intent) → (e.group == h) ≡ false → (i.group == h) ≡ false → sum_by (owes T h b) (to_free more p e ++ behind n i) ≡ 0
stretch_none T h b n more p e i out too =
    sum_by-append (owes T h b) (to_free more p e) (behind n i) ∙ ap₂ (λ y z. y + z) (one_if T h b _ (intent Free 0 0 e) out) (one_if T h b _ (record i { block = i.block + n; count = i.count - n }) too)

all_same : (a x : State) (h b : ℕ) → ((d : ℕ) → x.chains d ≡ a.chains d) → SameDue a x h b
all_same a x h b e T = λ i. due (owes T h b) (λ d. e d i)

turned : (m n : ℕ) → (m == n) ≡ false → (n == m) ≡ false
turned m n o = grind (arith, nat_tests)

-- ---- claims

no_hits : (h b : ℕ) (e : Extent) → (e.group == h) ≡ false → hits h b e ≡ 0
no_hits h b e out = ap (λ t. if t then at_span e.block e.count b else 0) out

gains_none : (a x : State) (h b n m : ℕ) → n ≡ 0 → m ≡ 0 → Gains a x h b n m → (owned_at b (claims x h) ≡ owned_at b (claims a h)) × (alone_at b (claims x h) ≡ alone_at b (claims a h))
gains_none a x h b n m e f k = (plain _ _ _ k.owned_then e, plain _ _ _ k.alone_then f)
  where
    plain : (y z n : ℕ) → y ≡ z + n → n ≡ 0 → y ≡ z
    plain y z n p q = omega (arith, p, q)

loses_none : (a x : State) (h b n m : ℕ) → n ≡ 0 → m ≡ 0 → Loses a x h b n m → (owned_at b (claims x h) ≡ owned_at b (claims a h)) × (alone_at b (claims x h) ≡ alone_at b (claims a h))
loses_none a x h b n m e f k = (plain _ _ _ k.owned_then e, plain _ _ _ k.alone_then f)
  where
    plain : (y z n : ℕ) → y + n ≡ z → n ≡ 0 → y ≡ z
    plain y z n p q = omega (arith, p, q)

-- entries that leave forks leave all claims of other groups
by_forks : (a x : State) (left : List Kind) (e : Entry) (h b : ℕ) → HasFitting a.geometry → Row a left e x → LeavesForks e → LeavesChunks a e → (h == group_of_entry a e) ≡ false → SameDue a x h b → Sound (ledger_at a h b) → Sound (ledger_at x h b)
by_forks a x left e h b fit row forks chunks out d s =
    let around = beside.decided a x left e row in
    let group : x.group h ≡ a.group h = around.groups h out in
    let same : claims x h ≡ claims a h = claims_same a x h around.geometry (λ i n. forks_stay a x left e row forks n i) (chunk_rows.decided a x left e fit row chunks) (subst (SameParts (a.group h)) (sym group) (same_parts (a.group h))) in
    stays_sound a x h b group (ap (owned_at b) same) (ap (alone_at b) same) d s

-- ---- the entries

by_mapped : (a x : State) (left : List Kind) (m : Piece) (h b : ℕ) → HasFitting a.geometry → Row a left (entries.Mapped m) x → IsAsked a x (entries.Mapped m) → (h == m.group) ≡ false → Sound (ledger_at a h b) → Sound (ledger_at x h b)
by_mapped a x left m h b fit row asked out s =
    let away : (m.group == h) ≡ false = turned h m.group out in
    let zero_hits : hits h b (extent_of m) ≡ 0 = no_hits h b (extent_of m) away in
    let same = gains_none a x h b (hits h b (extent_of m)) (hits h b (extent_of m)) zero_hits zero_hits (mapped_claims a x left m h b fit row asked.0 asked.1) in
    stays_sound a x h b ((beside.decided a x left (entries.Mapped m) row).groups h out) same.0 same.1
    (one_comes a x h b m.chain (intent RmapAdd m.ino (data_word true m.offset) (extent_of m)) row.0.first.open_chain row.0.first.owes_nothing (ap (λ (y : State). y.chains) row.1 ∙ mapped_chains m a) away) s

by_unmapped : (a x : State) (left : List Kind) (m : Piece) (h b : ℕ) → HasFitting a.geometry → Row a left (entries.Unmapped m) x → IsAsked a x (entries.Unmapped m) → (h == m.group) ≡ false → Sound (ledger_at a h b) → Sound (ledger_at x h b)
by_unmapped a x left m h b fit row asked out s =
    let away : (m.group == h) ≡ false = turned h m.group out in
    let zero_hits : hits h b (extent_of m) ≡ 0 = no_hits h b (extent_of m) away in
    let flag : Bool = is_unwritten_at m.offset (data_of a m.ino) in
    let same = loses_none a x h b (hits h b (extent_of m)) (if flag then hits h b (extent_of m) else 0) zero_hits (ap (λ n. if flag then n else 0) zero_hits ∙ same_bit flag) (unmapped_claims a x left m h b fit row asked.0 asked.1) in
    stays_sound a x h b ((beside.decided a x left (entries.Unmapped m) row).groups h out) same.0 same.1
    (two_come a x h b m.chain (intent RmapRemove m.ino (data_word flag m.offset) (extent_of m)) (intent RefLess 0 0 (extent_of m)) row.0.first.open_chain row.0.first.owes_nothing (ap (λ (y : State). y.chains) row.1 ∙ unmapped_chains m a) away away) s

by_converted : (a x : State) (left : List Kind) (m : Piece) (h b : ℕ) → HasFitting a.geometry → Row a left (entries.Converted m) x → IsAsked a x (entries.Converted m) → (h == m.group) ≡ false → Sound (ledger_at a h b) → Sound (ledger_at x h b)
by_converted a x left m h b fit row asked out s = by (is_unwritten_at m.offset (data_of a m.ino)) refl
  where
    away : (m.group == h) ≡ false
    away = turned h m.group out

    by : (t : Bool) → is_unwritten_at m.offset (data_of a m.ino) ≡ t → Sound (ledger_at x h b)
    by true old =
        let same = loses_none a x h b 0 (hits h b (extent_of m)) refl (no_hits h b (extent_of m) away) (converted_claims a x left m h b fit row old asked.0 asked.1) in
        stays_sound a x h b ((beside.decided a x left (entries.Converted m) row).groups h out) same.0 same.1
        (one_comes a x h b m.chain (intent RmapChange m.ino m.offset (extent_of m)) row.0.first.open_chain row.0.first.owes_nothing (ap (λ (y : State). y.chains) row.1 ∙ converted_chains m a old) away) s
    by false old = subst (λ (y : State). Sound (ledger_at y h b)) (sym (row.1 ∙ converted_stays m a old)) s

by_shared : (a x : State) (left : List Kind) (m : SharedPiece) (h b : ℕ) → HasFitting a.geometry → Row a left (entries.Shared m) x → IsAsked a x (entries.Shared m) → (h == m.group) ≡ false → Sound (ledger_at a h b) → Sound (ledger_at x h b)
by_shared a x left m h b fit row asked out s =
    let away : (m.group == h) ≡ false = turned h m.group out in
    let same = gains_none a x h b (hits h b (run_shared m)) 0 (no_hits h b (run_shared m) away) refl (shared_claims a x left m h b fit row asked.0 asked.1) in
    stays_sound a x h b ((beside.decided a x left (entries.Shared m) row).groups h out) same.0 same.1
    (two_come a x h b m.chain (intent RmapAdd m.to m.to_offset (run_shared m)) (intent RefMore 0 0 (run_shared m)) row.0.to_first.open_chain row.0.to_first.owes_nothing (ap (λ (y : State). y.chains) row.1 ∙ shared_chains m a) away away) s

-- the next intent is of the entry's group
next_group : (g h : ℕ) (i : Intent) → i.group ≡ g → (h == g) ≡ false → (i.group == h) ≡ false
next_group g h i e out = ap (λ n. n == h) e ∙ turned h g out

pub elsewhere_kept : ElsewhereKept
elsewhere_kept a x left (entries.Mapped m) h b fit made asked out s = by_mapped a x left m h b fit made.row asked out s
elsewhere_kept a x left (entries.Unmapped m) h b fit made asked out s = by_unmapped a x left m h b fit made.row asked out s
elsewhere_kept a x left (entries.Converted m) h b fit made asked out s = by_converted a x left m h b fit made.row asked out s
elsewhere_kept a x left (entries.Shared m) h b fit made asked out s = by_shared a x left m h b fit made.row asked out s
elsewhere_kept a x left (entries.RmapDone c ino g at n) h b fit made asked out s =
    let row = made.row in
    by_forks a x left (entries.RmapDone c ino g at n) h b fit row tt asked.1 out
    (next_leaves a x h b c row.0 [] row.1 asked.0 row.2.next (ap (λ (y : State). y.chains) row.6 ∙ rmap_chains left c row.0 row.1 a) (next_group g h row.0 row.2.group out) (λ T. refl)) s
elsewhere_kept a x left (entries.RefDone c g at n more) h b fit made asked out s =
    let row = made.row in
    let e : Extent = record { group = g; block = at; count = n } in
    by_forks a x left (entries.RefDone c g at n more) h b fit row tt tt out
    (next_leaves a x h b c row.0 (to_free more (a.group g) e ++ behind n row.0) row.1 asked row.2.next (ap (λ (y : State). y.chains) row.5 ∙ ref_chains left c more e row.0 row.1 a) (next_group g h row.0 row.2.group out)
    (λ T. stretch_none T h b n more (a.group g) e row.0 (turned h g out) (next_group g h row.0 row.2.group out))) s
elsewhere_kept a x left (entries.Freed c g at n kept) h b fit made asked out s =
    let row = made.row in
    by_forks a x left (entries.Freed c g at n kept) h b fit row tt tt out
    (next_leaves a x h b c row.0 [] row.1 asked row.2.next (ap (λ (y : State). y.chains) row.6 ∙ freed_chains left c kept (record { group = g; block = at; count = n }) row.1 a) (next_group g h row.0 row.2.group out) (λ T. refl)) s
elsewhere_kept a x left (entries.Taken writer ino uid None) h b fit made asked out s =
    by_forks a x left (entries.Taken writer ino uid None) h b fit made.row tt tt out (all_same a x h b (λ d. (beside.decided a x left (entries.Taken writer ino uid None) made.row).chains d tt)) s
elsewhere_kept a x left (entries.Taken writer ino uid (Some c)) h b fit made asked out s =
    let around = beside.decided a x left (entries.Taken writer ino uid (Some c)) made.row in
    let same = gains_none a x h b 0 0 refl refl (chunk_elsewhere a x left writer ino uid c h b fit made asked.0 asked.1 out) in
    stays_sound a x h b (around.groups h out) same.0 same.1 (all_same a x h b (λ d. around.chains d tt)) s
elsewhere_kept a x left (entries.Given writer ino) h b fit made asked out s =
    by_forks a x left (entries.Given writer ino) h b fit made.row tt tt out (all_same a x h b (λ d. (beside.decided a x left (entries.Given writer ino) made.row).chains d tt)) s
elsewhere_kept a x left (entries.Refilled e) h b fit made asked out s =
    by_forks a x left (entries.Refilled e) h b fit made.row tt tt out (all_same a x h b (λ d. (beside.decided a x left (entries.Refilled e) made.row).chains d tt)) s
elsewhere_kept a x left (entries.Trimmed e) h b fit made asked out s =
    by_forks a x left (entries.Trimmed e) h b fit made.row tt tt out (all_same a x h b (λ d. (beside.decided a x left (entries.Trimmed e) made.row).chains d tt)) s
elsewhere_kept a x left (entries.Marked g k cause) h b fit made asked out s =
    by_forks a x left (entries.Marked g k cause) h b fit made.row tt tt out (all_same a x h b (λ d. (beside.decided a x left (entries.Marked g k cause) made.row).chains d tt)) s
elsewhere_kept a x left (entries.Reply writer line code done refused begun) h b fit made asked out s =
    by_forks a x left (entries.Reply writer line code done refused begun) h b fit made.row tt tt out (all_same a x h b (λ d. (beside.decided a x left (entries.Reply writer line code done refused begun) made.row).chains d tt)) s
elsewhere_kept a x left (entries.Reserved g unit at spare) h b fit made asked out s = absurd asked
elsewhere_kept a x left (entries.Released g unit) h b fit made asked out s = absurd asked
elsewhere_kept a x left (entries.Fault g unit fault) h b fit made asked out s = absurd asked
elsewhere_kept a x left (entries.Verdict g unit verdict) h b fit made asked out s = absurd asked
elsewhere_kept a x left (entries.Switched g unit root second) h b fit made asked out s = absurd asked
elsewhere_kept a x left (entries.Reaped e) h b fit made asked out s = absurd asked
