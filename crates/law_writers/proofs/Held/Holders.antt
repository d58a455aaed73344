-- Entries that leave forks leave the owners of chains whose counts rise.
use Rattle.std.proofs.Common.{◌≡◌, ℕ, zero, suc, ◌+◌, ◌-◌, ◌*◌, ◌<◌, ◌≤◌, ◌==◌, ◌&&◌, ◌||◌, Bool, true, false, not, nat_le, nat_lt, List, [], ◌∷◌, ◌++◌, flat_map, Some, None, refl, sym, ap, subst, ◌∙◌, arith, eqb-true}
use Rattle.std.specs.Prelude.{sum_by, if◌then◌else◌}
use Rattle.std.proofs.lemmas.Bool.{true≢false}
use Rattle.std.proofs.lemmas.Bool.Decides.{nat_tests}
use Rattle.std.proofs.lemmas.List.Sums.{sum_by-append, sum_by-cons}
use Rattle.law_accounts.specs.Account.Accounts.{at_span, owes, owned_at, raises}
use Rattle.law_writers.proofs.Change.Rows as chunk_rows
use Rattle.dinode_core.specs.declared.mapping.Fork.TheVariants as forks
use Rattle.fs_change.proofs.Beside as beside
use Rattle.fs_change.proofs.Inodes as inode_rows
use Rattle.fs_change.specs.Chains.{most_chains}
use Rattle.fs_change.specs.Changes.{behind, freed, given, intent, ref_done, rmap_done, taken, to_free}
use Rattle.fs_change.specs.Parts.{at_only, sick_in, records_in}
use Rattle.fs_change.specs.Records.{count_at}
use Rattle.fs_change.specs.Step.{Row, group_of_inode}
use Rattle.fs_state.specs.Chunks.{inodes}
use Rattle.fs_state.specs.Claims.{mapping_claims, read_fork}
use Rattle.fs_state.specs.Lists.{numbers, only_if}
use Rattle.fs_model.specs.declared.claim.Claim.TheVariants.{Data}
use Rattle.fs_model.specs.declared.entry.Entry.{Entry}
use Rattle.fs_model.specs.declared.entry.Entry.TheVariants as entries
use Rattle.fs_model.specs.declared.entry.Extent.{Extent}
use Rattle.fs_state.specs.Apart.{is_inode}
use Rattle.fs_state.specs.State.{Group, State}
use Rattle.fs_state.specs.declared.intent.Intent.{Intent}
use Rattle.fs_state.specs.declared.intent.IntentKind.TheVariants.{Free}
use Rattle.geom.specs.Apart.{HasFitting}
use Rattle.sblock.specs.declared.kind.Kind.{Kind}
use Rattle.sblock.specs.declared.kind.Kind.TheVariants.{Refc}
use Rattle.tree_defs.specs.Lists.{is_in}
use Rattle.law_writers.proofs.Run.Chunks.{KeepsInodes, chunk_keeps}
use Rattle.law_writers.proofs.Held.Held.{at_others, at_own, sum_same}
use Rattle.law_writers.proofs.Fork.Rising.{among}
use Rattle.law_writers.proofs.Fork.Rows.{inodes_same}
use Rattle.law_writers.specs.Held.Held.{AreHolders, ChunkHeld, LeavesForks, OthersHeld, weight_at}

-- ---- what a chain holds is an inode

in_both : (i : ℕ) (xs ys : List ℕ) → is_in i (xs ++ ys) ≡ (is_in i xs || is_in i ys)
in_both i [] ys = refl
in_both i (x ∷ xs) ys = ap (λ b. (x == i) || b) (in_both i xs ys) ∙ again (x == i) (is_in i xs) (is_in i ys)
  where
    again : (p q r : Bool) → (p || (q || r)) ≡ ((p || q) || r)
    again true q r = refl
    again false q r = refl

in_flat : (held : ℕ → List ℕ) (i c k n : ℕ) → k ≤ c → c < k + n → is_in i (held c) ≡ true → is_in i (flat_map held (numbers k n)) ≡ true
in_flat held i c k zero l m h = absurd (omega (arith, l, m))
in_flat held i c k (suc n) l m h = in_both i (held k) (flat_map held (numbers (k + 1) n)) ∙ by (k == c) refl (λ o. in_flat held i c (k + 1) n (further k c l o) (omega (arith, m)) h)
  where
    further : (k c : ℕ) → k ≤ c → (k == c) ≡ false → k + 1 ≤ c
    further k c l o = grind (arith, nat_tests)

    or_right : (p q : Bool) → q ≡ true → (p || q) ≡ true
    or_right true q e = refl
    or_right false q e = e

    by : (t : Bool) → (k == c) ≡ t → ((k == c) ≡ false → is_in i (flat_map held (numbers (k + 1) n)) ≡ true) → (is_in i (held k) || is_in i (flat_map held (numbers (k + 1) n))) ≡ true
    by true e later = ap (λ b. b || is_in i (flat_map held (numbers (k + 1) n))) (ap (λ d. is_in i (held d)) (eqb-true k c e) ∙ h)
    by false e later = or_right (is_in i (held k)) _ (later e)

-- ---- where no held inode maps less, and no chain raises more

follow : (a x : State) (held : ℕ → List ℕ) → AreHolders a held → ((i : ℕ) → is_in i (inodes a) ≡ true → is_in i (inodes x) ≡ true) → ((g b i : ℕ) → is_in i (inodes a) ≡ true → weight_at x g b i ≡ weight_at a g b i)
    → ((g b c : ℕ) → sum_by (owes raises g b) (x.chains c) ≤ sum_by (owes raises g b) (a.chains c)) → AreHolders x held
follow a x held h grow weights less = record {
  apart = record { distinct = h.apart.distinct; listed = λ i k. grow i (h.apart.listed i k) };
  paired = λ g b c lc.
      let same : sum_by (weight_at x g b) (held c) ≡ sum_by (weight_at a g b) (held c) = sum_same (weight_at a g b) (weight_at x g b) (held c) (λ i k. weights g b i (h.apart.listed i (in_flat held i c 0 most_chains (omega arith) (omega (arith, lc)) k))) in
      let pairs = h.paired g b c lc in
      let few = less g b c in
      chain _ _ _ _ few pairs same;
}
  where
    chain : (s t u v : ℕ) → s ≤ t → 2 * t ≤ u → v ≡ u → 2 * s ≤ v
    chain s t u v p q r = omega (arith, p, q, r)

-- ---- the chain of a finished step

abbrev rising : ℕ → ℕ → List Intent → ℕ
rising g b is = sum_by (owes raises g b) is

one_left : (g b : ℕ) (i : Intent) (rest : List Intent) → rising g b rest ≤ rising g b (i ∷ rest)
one_left g b i rest = let c = sum_by-cons (owes raises g b) i rest in omega (arith, c)

-- what is behind a stretch is less
span_behind : (s n m x : ℕ) → at_span (s + n) (m - n) x ≤ at_span s m x
span_behind s n m x = by (nat_le (s + n) x && nat_lt x (s + n + (m - n))) refl (nat_le s x && nat_lt x (s + m)) refl
  where
    inside : (s n m x : ℕ) → (nat_le (s + n) x && nat_lt x (s + n + (m - n))) ≡ true → (nat_le s x && nat_lt x (s + m)) ≡ true
    inside s n m x e = grind (arith, nat_tests)

    by : (p : Bool) → (nat_le (s + n) x && nat_lt x (s + n + (m - n))) ≡ p → (q : Bool) → (nat_le s x && nat_lt x (s + m)) ≡ q → ◌≤◌ (if p then 1 else 0) (if q then 1 else 0)
    by true e true f = omega arith
    by true e false f = absurd (true≢false (sym (inside s n m x e) ∙ f))
    by false e q f = omega arith

owes_less : (raise in_it : Bool) (m n : ℕ) → m ≤ n → (if raise then (if in_it then m else 0) else 0) ≤ (if raise then (if in_it then n else 0) else 0)
owes_less true true m n h = h
owes_less true false m n h = omega arith
owes_less false y m n h = omega arith

behind_less : (g b n : ℕ) (i : Intent) → rising g b (behind n i) ≤ owes raises g b i
behind_less g b n i = by (nat_lt n i.count)
  where
    by : (t : Bool) → rising g b (only_if t (record i { block = i.block + n; count = i.count - n })) ≤ owes raises g b i
    by true =
        let c = sum_by-cons (owes raises g b) (record i { block = i.block + n; count = i.count - n }) [] in
        let l = owes_less (raises i.kind) (i.group == g) (at_span (i.block + n) (i.count - n) b) (at_span i.block i.count b) (span_behind i.block n i.count b) in
        omega (arith, c, l)
    by false = omega arith

free_none : (g b : ℕ) (more : Bool) (p : Group) (e : Extent) → rising g b (to_free more p e) ≡ 0
free_none g b more p e = by (not more && not (sick_in p Refc) && (count_at (records_in p Refc) e.block == 1))
  where
    by : (t : Bool) → rising g b (only_if t (intent Free 0 0 e)) ≡ 0
    by true = sum_by-cons (owes raises g b) (intent Free 0 0 e) []
    by false = refl

stretch_less : (g b n : ℕ) (more : Bool) (p : Group) (e : Extent) (i : Intent) (rest : List Intent) → rising g b (to_free more p e ++ behind n i ++ rest) ≤ rising g b (i ∷ rest)
stretch_less g b n more p e i rest =
    let first = sum_by-append (owes raises g b) (to_free more p e ++ behind n i) rest in
    let second = sum_by-append (owes raises g b) (to_free more p e) (behind n i) in
    let none = free_none g b more p e in
    let less = behind_less g b n i in
    let whole = sum_by-cons (owes raises g b) i rest in
    omega (arith, first, second, none, less, whole)

-- a chain whose next intent leaves
own_less : (a x : State) (c : ℕ) (i : Intent) (rest is : List Intent) (g b d : ℕ) → a.chains c ≡ i ∷ rest → x.chains ≡ at_only c is a.chains → rising g b is ≤ rising g b (i ∷ rest) → rising g b (x.chains d) ≤ rising g b (a.chains d)
own_less a x c i rest is g b d next chains less = by (d == c) refl
  where
    by : (t : Bool) → (d == c) ≡ t → rising g b (x.chains d) ≤ rising g b (a.chains d)
    by true e =
        subst (λ k. rising g b (x.chains k) ≤ rising g b (a.chains k)) (sym (eqb-true d c e))
        (subst (λ (js : List Intent). rising g b (x.chains c) ≤ rising g b js) (sym next) (subst (λ (js : List Intent). rising g b js ≤ rising g b (i ∷ rest)) (sym (ap (λ (cs : ℕ → List Intent). cs c) chains ∙ at_own c is a.chains)) less))
    by false e =
        subst (λ (js : List Intent). rising g b js ≤ rising g b (a.chains d)) (sym (ap (λ (cs : ℕ → List Intent). cs d) chains ∙ at_others c is a.chains d e)) (omega arith)

pub rmap_chains : (left : List Kind) (c : ℕ) (i : Intent) (rest : List Intent) (a : State) → (rmap_done left c i rest a).chains ≡ at_only c rest a.chains
unfolding rmap_done
rmap_chains left c i rest a = refl

pub ref_chains : (left : List Kind) (c : ℕ) (more : Bool) (e : Extent) (i : Intent) (rest : List Intent) (a : State) → (ref_done left c more e i rest a).chains ≡ at_only c (to_free more (a.group e.group) e ++ behind e.count i ++ rest) a.chains
unfolding ref_done
ref_chains left c more e i rest a = refl

pub freed_chains : (left : List Kind) (c : ℕ) (kept : Bool) (e : Extent) (rest : List Intent) (a : State) → (freed left c kept e rest a).chains ≡ at_only c rest a.chains
unfolding freed
freed_chains left c true e rest a = refl
freed_chains left c false e rest a = refl

all_same : (a x : State) (g b d : ℕ) → x.chains d ≡ a.chains d → rising g b (x.chains d) ≤ rising g b (a.chains d)
all_same a x g b d e = subst (λ (js : List Intent). rising g b js ≤ rising g b (a.chains d)) (sym e) (omega arith)

chains_less : (a x : State) (left : List Kind) (e : Entry) → Row a left e x → LeavesForks e → (g b d : ℕ) → rising g b (x.chains d) ≤ rising g b (a.chains d)
chains_less a x left (entries.RmapDone c ino h at n) row l g b d =
    own_less a x c row.0 row.1 row.1 g b d row.2.next (ap (λ (s : State). s.chains) row.6 ∙ rmap_chains left c row.0 row.1 a) (one_left g b row.0 row.1)
chains_less a x left (entries.RefDone c h at n more) row l g b d =
    let e : Extent = record { group = h; block = at; count = n } in
    own_less a x c row.0 row.1 (to_free more (a.group h) e ++ behind n row.0 ++ row.1) g b d row.2.next (ap (λ (s : State). s.chains) row.5 ∙ ref_chains left c more e row.0 row.1 a) (stretch_less g b n more (a.group h) e row.0 row.1)
chains_less a x left (entries.Freed c h at n kept) row l g b d =
    own_less a x c row.0 row.1 row.1 g b d row.2.next (ap (λ (s : State). s.chains) row.6 ∙ freed_chains left c kept (record { group = h; block = at; count = n }) row.1 a) (one_left g b row.0 row.1)
chains_less a x left (entries.Taken writer ino uid None) row l g b d = all_same a x g b d ((beside.decided a x left (entries.Taken writer ino uid None) row).chains d tt)
chains_less a x left (entries.Given writer ino) row l g b d = all_same a x g b d ((beside.decided a x left (entries.Given writer ino) row).chains d tt)
chains_less a x left (entries.Refilled e) row l g b d = all_same a x g b d ((beside.decided a x left (entries.Refilled e) row).chains d tt)
chains_less a x left (entries.Trimmed e) row l g b d = all_same a x g b d ((beside.decided a x left (entries.Trimmed e) row).chains d tt)
chains_less a x left (entries.Marked h k cause) row l g b d = all_same a x g b d ((beside.decided a x left (entries.Marked h k cause) row).chains d tt)
chains_less a x left (entries.Reply writer line code done refused begun) row l g b d = all_same a x g b d ((beside.decided a x left (entries.Reply writer line code done refused begun) row).chains d tt)
chains_less a x left (entries.Taken writer ino uid (Some c)) row l g b d = absurd l
chains_less a x left (entries.Mapped m) row l g b d = absurd l
chains_less a x left (entries.Unmapped m) row l g b d = absurd l
chains_less a x left (entries.Converted m) row l g b d = absurd l
chains_less a x left (entries.Shared m) row l g b d = absurd l
chains_less a x left (entries.Reserved h unit at spare) row l g b d = absurd l
chains_less a x left (entries.Released h unit) row l g b d = absurd l
chains_less a x left (entries.Fault h unit fault) row l g b d = absurd l
chains_less a x left (entries.Verdict h unit verdict) row l g b d = absurd l
chains_less a x left (entries.Switched h unit root second) row l g b d = absurd l
chains_less a x left (entries.Reaped e) row l g b d = absurd l

taken_fork : (g i own uid : ℕ) (a : State) (n : ℕ) → (taken g i own uid None a).fork n ≡ a.fork n
unfolding taken
taken_fork g i own uid a n = refl

given_fork : (g i own : ℕ) (a : State) (n : ℕ) → (given g i own a).fork n ≡ a.fork n
unfolding given
given_fork g i own a n = refl

pub forks_stay : (a x : State) (left : List Kind) (e : Entry) → Row a left e x → LeavesForks e → (n : ℕ) → x.fork n ≡ a.fork n
forks_stay a x left (entries.RmapDone c ino h at k) row l n = (inode_rows.decided a x left (entries.RmapDone c ino h at k) row n refl).fork
forks_stay a x left (entries.RefDone c h at k more) row l n = (inode_rows.decided a x left (entries.RefDone c h at k more) row n refl).fork
forks_stay a x left (entries.Freed c h at k kept) row l n = (inode_rows.decided a x left (entries.Freed c h at k kept) row n refl).fork
forks_stay a x left (entries.Taken writer ino uid None) row l n = ap (λ (s : State). s.fork n) row.3 ∙ taken_fork (group_of_inode a ino) row.0 ino uid a n
forks_stay a x left (entries.Given writer ino) row l n = ap (λ (s : State). s.fork n) row.4 ∙ given_fork (group_of_inode a ino) row.0 ino a n
forks_stay a x left (entries.Refilled e) row l n = (inode_rows.decided a x left (entries.Refilled e) row n refl).fork
forks_stay a x left (entries.Trimmed e) row l n = (inode_rows.decided a x left (entries.Trimmed e) row n refl).fork
forks_stay a x left (entries.Marked h k cause) row l n = (inode_rows.decided a x left (entries.Marked h k cause) row n refl).fork
forks_stay a x left (entries.Reply writer line code done refused begun) row l n = (inode_rows.decided a x left (entries.Reply writer line code done refused begun) row n refl).fork
forks_stay a x left (entries.Taken writer ino uid (Some c)) row l n = absurd l
forks_stay a x left (entries.Mapped m) row l n = absurd l
forks_stay a x left (entries.Unmapped m) row l n = absurd l
forks_stay a x left (entries.Converted m) row l n = absurd l
forks_stay a x left (entries.Shared m) row l n = absurd l
forks_stay a x left (entries.Reserved h unit at spare) row l n = absurd l
forks_stay a x left (entries.Released h unit) row l n = absurd l
forks_stay a x left (entries.Fault h unit fault) row l n = absurd l
forks_stay a x left (entries.Verdict h unit verdict) row l n = absurd l
forks_stay a x left (entries.Switched h unit root second) row l n = absurd l
forks_stay a x left (entries.Reaped e) row l n = absurd l

weight_by : (a x : State) (g b n : ℕ) → x.geometry ≡ a.geometry → x.fork n ≡ a.fork n → weight_at x g b n ≡ weight_at a g b n
weight_by a x g b n at fork = λ i. owned_at b (mapping_claims (at i) g (Data n) n 0 (read_fork (fork i forks.Data)).mappings)

pub others_held : OthersHeld
others_held a x left e held fit row l chunks h =
    let at : x.geometry ≡ a.geometry = (beside.decided a x left e row).geometry in
    let same : inodes x ≡ inodes a = inodes_same a x at (chunk_rows.decided a x left e fit row chunks) in
    follow a x held h (λ i k. ap (is_in i) same ∙ k) (λ g b i k. weight_by a x g b i at (forks_stay a x left e row l i)) (chains_less a x left e row l)

pub chunk_held : ChunkHeld
chunk_held a x left writer ino uid c held fit made words readable h =
    let k : KeepsInodes a x = chunk_keeps a x left writer ino uid c fit made words readable in
    let there : (i : ℕ) → is_in i (inodes a) ≡ true → is_inode a i ≡ true = λ i m. sym (among a i fit) ∙ m in
    follow a x held h (λ i m. among x i (subst HasFitting (sym k.geometry) fit) ∙ k.inodes i (there i m)) (λ g b i m. weight_by a x g b i k.geometry (k.forks i (there i m)))
    (λ g b d. all_same a x g b d ((beside.decided a x left (entries.Taken writer ino uid (Some c)) made.row).chains d tt))
