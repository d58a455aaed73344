-- Entries and settled owners.
use Rattle.std.proofs.Common.{◌≡◌, ◌⊎◌, inl, inr, ℕ, ◌+◌, ◌-◌, ◌<◌, ◌==◌, ◌&&◌, ◌||◌, Bool, true, false, not, cond, length, nat_le, nat_lt, List, [], ◌∷◌, ◌++◌, map, filter, flat_map, Option, Some, None, refl, sym, ap, ap₂, subst, ◌∙◌, arith, eqb-true}
use Rattle.std.specs.Prelude.{◌/◌, Result, Ok, Err, if◌then◌else◌}
use Rattle.std.specs.List.{list_any}
use Rattle.std.proofs.lemmas.Bool.{false≢true, true≢false, and_parts}
use Rattle.std.proofs.lemmas.Bool.Decides.{nat_tests}
use Rattle.dinode_core.specs.declared.mapping.Fork.{Fork}
use Rattle.dinode_core.specs.declared.mapping.Fork.TheVariants as forks
use Rattle.dinode_core.specs.declared.mapping.ForkFault.{ForkFault}
use Rattle.fs_model.specs.declared.claim.Claim.TheVariants.{Data, Attr}
use Rattle.fs_model.specs.declared.entry.Entry.{Entry}
use Rattle.fs_model.specs.declared.entry.Entry.TheVariants as entries
use Rattle.fs_model.specs.declared.entry.Extent.{Extent}
use Rattle.geom.specs.Apart.{HasFitting}
use Rattle.geom.specs.Layout.{Layout, split_of}
use Rattle.rmap_recs.specs.Runs.{is_same, has}
use Rattle.rmap_recs.specs.declared.tuples.Tuple.{Tuple}
use Rattle.sblock.specs.declared.kind.Kind.{Kind}
use Rattle.sblock.specs.declared.kind.Kind.TheVariants.{Refc, Ino}
use Rattle.fs_state.specs.Apart.{is_inode, in_chunk, is_chunk}
use Rattle.fs_state.specs.Frame.{SameFork}
use Rattle.fs_state.specs.State.{State, ForkList, is_readable}
use Rattle.fs_state.specs.declared.intent.Intent.{Intent}
use Rattle.fs_state.specs.declared.intent.IntentKind.{IntentKind}
use Rattle.fs_state.specs.declared.intent.IntentKind.TheVariants.{RmapAdd, RmapRemove, RmapChange, RefMore, RefLess, Free}
use Rattle.fs_state.specs.Claims.{Claimed, read_fork, fork_of, mapping_claims, fork_tree_claims, attribute}
use Rattle.fs_state.specs.Lists.{numbers, only_if}
use Rattle.fs_state.specs.Own.{tuple_of, set_of}
use Rattle.fs_change.proofs.Beside as beside
use Rattle.fs_change.proofs.Inodes as inodes
use Rattle.fs_change.proofs.Owed.{step_moves}
use Rattle.fs_change.proofs.Sets.{one_set, has_set, has_both, has_passing}
use Rattle.fs_change.proofs.Settled.{in_settled}
use Rattle.fs_change.specs.Chains.{most_chains, pending, gives, takes, tuples_in, word_taken, given_by, taken_by, owed_gifts, owed_takings, settled_forks}
use Rattle.fs_change.specs.Changes.{intent, taken, given, rmap_done, ref_done, freed, to_free, behind}
use Rattle.fs_change.specs.Laws.{IsOther, chain_of, EndsChange, fork_owners, is_seen}
use Rattle.fs_change.specs.Parts.{at_only, is_place, no_forks, stands_in, sick_in, records_in}
use Rattle.fs_change.specs.Records.{count_at}
use Rattle.fs_change.specs.Scan.{visited, first_mappings, held_tuples, shadow_of}
use Rattle.fs_change.specs.Step.{Row, Step, is_ref, group_of_inode}
use Rattle.law_writers.proofs.Change.Members.{any_flat, any_same, owners_by_inode}
use Rattle.law_writers.proofs.Change.Newly.{NewAt, new_at, forks_behind, no_claims}
use Rattle.law_writers.proofs.Change.Rows.{step_keeps_chunks}
use Rattle.law_writers.specs.Change.Chunks.{LeavesChunks}
use Rattle.law_writers.specs.Change.Owners.{inode_claims, has_claim_of}
use Rattle.law_writers.specs.Change.Settled.{LeavesOwners, OtherEntriesKeep, IsOwedOnce, IsNextOnce, given_next, taken_next, FinishedStepMoves, IsHeldApart, ShadowBySettled, ShadowStays, ShadowFollows}

-- ---- inodes that stay, with their forks

-- in a state after it, an entry that leaves chunks has the inodes that there were
pub same_inodes : (a b : State) (left : List Kind) (e : Entry) (ino : ℕ) → HasFitting a.geometry → Step a left e b → LeavesChunks a e → is_inode b ino ≡ is_inode a ino
unfolding is_inode
same_inodes a b left e ino fit s l =
    ap (λ (at : Layout). in_chunk b (split_of at (ino / 8))) ((beside.changes_one_group a b left e s).geometry)
    ∙ inodes.in_same_chunk a b (step_keeps_chunks a b left e fit s l) (split_of a.geometry (ino / 8))

read_same : (r now : Result ForkList ForkFault) → SameFork r now → read_fork now ≡ read_fork r
read_same (Ok list) now h = ap read_fork h
read_same (Err fault) (Ok list) h = absurd (true≢false h)
read_same (Err fault) (Err other) h = refl

-- the claims of an inode are read off its forks
pub claims_by : (a b : State) (h ino : ℕ) → b.geometry ≡ a.geometry → ((f : Fork) → fork_of b ino f ≡ fork_of a ino f) → inode_claims b h ino ≡ inode_claims a h ino
claims_by a b h ino g f =
    λ i. (mapping_claims (g i) h (Data ino) ino 0 (f forks.Data i).mappings ++ mapping_claims (g i) h (Attr ino) ino attribute (f forks.Attr i).mappings)
    ++ (fork_tree_claims (g i) h ino 0 (f forks.Data i).blocks ++ fork_tree_claims (g i) h ino attribute (f forks.Attr i).blocks)

-- an inode of a chunk doesn't stand in a block of none
not_there : (a : State) (g b ino : ℕ) → is_chunk a g (b / 8) ≡ false → is_inode a ino ≡ true → stands_in a g b 1 ino ≡ false
unfolding is_inode
not_there a g b ino none is = by_place (split_of a.geometry (ino / 8)) is
  where
    by_place : (p : Option (ℕ × ℕ)) → in_chunk a p ≡ true → is_place g b 1 p ≡ false
    by_place None h = refl
    by_place (Some p) h = (elim ((p.0 == g) && (nat_le b p.1 && nat_lt p.1 (b + 1))) as (λ t. ((p.0 == g) && (nat_le b p.1 && nat_lt p.1 (b + 1))) ≡ t → ((p.0 == g) && (nat_le b p.1 && nat_lt p.1 (b + 1))) ≡ false) [
      | false ↦ λ e. e
      | true ↦ λ e.
          let v = and_parts (p.0 == g) (nat_le b p.1 && nat_lt p.1 (b + 1)) e in
          absurd (true≢false (sym h ∙ ap₂ (λ m n. is_chunk a m (n / 8)) (eqb-true p.0 g v.0) (same p.1 b v.1) ∙ none))
    ]) refl
      where
        same : (m n : ℕ) → (nat_le n m && nat_lt m (n + 1)) ≡ true → m ≡ n
        same m n e = grind (arith, nat_tests)

taken_fork : (g i own uid : ℕ) (a : State) (ino : ℕ) → (taken g i own uid None a).fork ino ≡ a.fork ino
unfolding taken
taken_fork g i own uid a ino = refl

given_fork : (g i own : ℕ) (a : State) (ino : ℕ) → (given g i own a).fork ino ≡ a.fork ino
unfolding given
given_fork g i own a ino = refl

-- an entry that leaves owners leaves the forks of all inodes
row_forks : (a x : State) (left : List Kind) (e : Entry) → Row a left e x → LeavesOwners a e → LeavesChunks a e → (ino : ℕ) → is_inode a ino ≡ true → x.fork ino ≡ a.fork ino
row_forks a x left (entries.Mapped m) r l c ino is = absurd l
row_forks a x left (entries.Unmapped m) r l c ino is = absurd l
row_forks a x left (entries.Converted m) r l c ino is = absurd l
row_forks a x left (entries.Shared m) r l c ino is = absurd l
row_forks a x left (entries.RmapDone d own g b n) r l c ino is = absurd l
row_forks a x left (entries.Taken writer own uid None) r l c ino is = ap (λ (s : State). s.fork ino) r.3 ∙ taken_fork (group_of_inode a own) r.0 own uid a ino
row_forks a x left (entries.Taken writer own uid (Some b)) r l c ino is = absurd c
row_forks a x left (entries.Given writer own) r l c ino is = ap (λ (s : State). s.fork ino) r.4 ∙ given_fork (group_of_inode a own) r.0 own a ino
row_forks a x left (entries.Reserved g unit b spare) r l c ino is = (inodes.decided a x left (entries.Reserved g unit b spare) r ino (not_there a g b ino l is)).fork
row_forks a x left (entries.RefDone d g b n more) r l c ino is = (inodes.decided a x left (entries.RefDone d g b n more) r ino refl).fork
row_forks a x left (entries.Freed d g b n kept) r l c ino is = (inodes.decided a x left (entries.Freed d g b n kept) r ino refl).fork
row_forks a x left (entries.Refilled e) r l c ino is = (inodes.decided a x left (entries.Refilled e) r ino refl).fork
row_forks a x left (entries.Trimmed e) r l c ino is = (inodes.decided a x left (entries.Trimmed e) r ino refl).fork
row_forks a x left (entries.Marked g k cause) r l c ino is = (inodes.decided a x left (entries.Marked g k cause) r ino refl).fork
row_forks a x left (entries.Released g unit) r l c ino is = (inodes.decided a x left (entries.Released g unit) r ino refl).fork
row_forks a x left (entries.Fault g unit fault) r l c ino is = (inodes.decided a x left (entries.Fault g unit fault) r ino refl).fork
row_forks a x left (entries.Verdict g unit verdict) r l c ino is = (inodes.decided a x left (entries.Verdict g unit verdict) r ino refl).fork
row_forks a x left (entries.Switched g unit root second) r l c ino is = (inodes.decided a x left (entries.Switched g unit root second) r ino refl).fork
row_forks a x left (entries.Reaped e) r l c ino is = (inodes.decided a x left (entries.Reaped e) r ino refl).fork
row_forks a x left (entries.Reply writer line code done refused begun) r l c ino is = (inodes.decided a x left (entries.Reply writer line code done refused begun) r ino refl).fork

-- from the decided state to the one behind it
pub open_forks : (a b : State) (left : List Kind) (e : Entry) (s : Step a left e b) (ino : ℕ) → is_inode b ino ≡ true → (f : Fork) → fork_of b ino f ≡ fork_of s.decided ino f
open_forks a b left e s ino is f =
    let there : is_inode s.decided ino ≡ true = sym (inodes.same_inodes _ left _ a s.decided b ino s.loosely) ∙ is in
    read_same (s.decided.fork ino f) (b.fork ino f) (s.loosely.inodes.forks ino f there)

pub under : (i p q : Bool) → (i ≡ true → p ≡ q) → (i && p) ≡ (i && q)
under true p q e = e refl
under false p q e = refl

-- owners of forks are the same where the forks of each inode are
pub owners_by : (a b : State) (h : ℕ) (t : Tuple) → HasFitting a.geometry → b.geometry ≡ a.geometry → is_inode b t.owner ≡ is_inode a t.owner → (is_inode b t.owner ≡ true → (f : Fork) → fork_of b t.owner f ≡ fork_of a t.owner f)
    → has (fork_owners b h) t ≡ has (fork_owners a h) t
owners_by a b h t fit g is f =
    owners_by_inode b h t (subst HasFitting (sym g) fit)
    ∙ under (is_inode b t.owner) (has_claim_of b h t.owner t) (has_claim_of a h t.owner t) (λ e. ap (λ cs. has (map tuple_of cs) t) (claims_by a b h t.owner g (f e)))
    ∙ ap (λ i. i && has_claim_of a h t.owner t) is
    ∙ sym (owners_by_inode a h t fit)

-- ---- what is owed

-- a list of intents owes the tuple
abbrev owes : (Intent → List Tuple) → List Intent → Tuple → Bool
owes F is t = list_any (λ i. has (F i) t) is

owed_by : (F : Intent → List Tuple) (f : ℕ → List Intent) (t : Tuple) → has (flat_map F (flat_map f (numbers 0 most_chains))) t ≡ list_any (λ c. owes F (f c) t) (numbers 0 most_chains)
owed_by F f t = any_flat (is_same t) F (flat_map f (numbers 0 most_chains)) ∙ any_flat (λ i. has (F i) t) f (numbers 0 most_chains)

-- each chain owes it alike
pub same_owed : (F : Intent → List Tuple) (f k : ℕ → List Intent) (t : Tuple) → ((c : ℕ) → owes F (f c) t ≡ owes F (k c) t) → has (flat_map F (flat_map f (numbers 0 most_chains))) t ≡ has (flat_map F (flat_map k (numbers 0 most_chains))) t
same_owed F f k t e = owed_by F f t ∙ any_same (λ c. owes F (f c) t) (λ c. owes F (k c) t) (numbers 0 most_chains) e ∙ sym (owed_by F k t)

-- an intent that neither gives nor takes
abbrev IsPlain : Intent → Type 0
IsPlain i = (gives i.kind ≡ false) × (takes i.kind ≡ false)

no_gift : (h : ℕ) (i : Intent) → IsPlain i → (t : Tuple) → has (given_by h i) t ≡ false
no_gift h i p t = ap (λ b. has (if b then tuples_in h i i.word else []) t) p.0

no_taking : (h : ℕ) (i : Intent) → IsPlain i → (t : Tuple) → has (taken_by h i) t ≡ false
no_taking h i p t = ap (λ b. has (if b then tuples_in h i (word_taken i) else []) t) p.1

ref_is_plain : (more : Bool) (kind : IntentKind) → is_ref more kind ≡ true → (gives kind ≡ false) × (takes kind ≡ false)
ref_is_plain more RefMore h = (refl, refl)
ref_is_plain more RefLess h = (refl, refl)
ref_is_plain true RmapAdd h = absurd (false≢true h)
ref_is_plain false RmapAdd h = absurd (false≢true h)
ref_is_plain true RmapRemove h = absurd (false≢true h)
ref_is_plain false RmapRemove h = absurd (false≢true h)
ref_is_plain true RmapChange h = absurd (false≢true h)
ref_is_plain false RmapChange h = absurd (false≢true h)
ref_is_plain true Free h = absurd (false≢true h)
ref_is_plain false Free h = absurd (false≢true h)

-- a function of intents that are plain gives nothing
abbrev Skips : (Intent → List Tuple) → Tuple → Type 0
Skips F t = (i : Intent) → IsPlain i → has (F i) t ≡ false

none_first : (F : Intent → List Tuple) (t : Tuple) → Skips F t → (i : Intent) (rest : List Intent) → IsPlain i → owes F (i ∷ rest) t ≡ owes F rest t
none_first F t skips i rest p = ap (λ b. b || owes F rest t) (skips i p)

if_there : (F : Intent → List Tuple) (t : Tuple) → Skips F t → (b : Bool) (i : Intent) (rest : List Intent) → IsPlain i → owes F (only_if b i ++ rest) t ≡ owes F rest t
if_there F t skips true i rest p = none_first F t skips i rest p
if_there F t skips false i rest p = refl

joined : (F : Intent → List Tuple) (t : Tuple) → Skips F t → (b d : Bool) (i j : Intent) (rest : List Intent) → IsPlain i → IsPlain j → owes F ((only_if b i ++ only_if d j) ++ rest) t ≡ owes F rest t
joined F t skips true d i j rest p q = none_first F t skips i (only_if d j ++ rest) p ∙ if_there F t skips d j rest q
joined F t skips false d i j rest p q = if_there F t skips d j rest q

-- one chain's intents in place of others that owe the same
in_chain : (F : Intent → List Tuple) (f : ℕ → List Intent) (t : Tuple) (c : ℕ) (is : List Intent) → owes F is t ≡ owes F (f c) t → (d : ℕ) → owes F (at_only c is f d) t ≡ owes F (f d) t
in_chain F f t c is e d = (elim (d == c) as (λ b. (d == c) ≡ b → owes F (cond b is (f d)) t ≡ owes F (f d) t) [
  | true ↦ λ k. e ∙ sym (ap (λ n. owes F (f n) t) (eqb-true d c k))
  | false ↦ λ k. refl
]) refl

ref_chains : (left : List Kind) (c : ℕ) (more : Bool) (e : Extent) (i : Intent) (rest : List Intent) (a : State)
    → (ref_done left c more e i rest a).chains ≡ at_only c ((to_free more (a.group e.group) e ++ behind e.count i) ++ rest) a.chains
unfolding ref_done
ref_chains left c more e i rest a = refl

freed_chains : (left : List Kind) (c : ℕ) (kept : Bool) (e : Extent) (rest : List Intent) (a : State) → (freed left c kept e rest a).chains ≡ at_only c rest a.chains
unfolding freed
freed_chains left c true e rest a = refl
freed_chains left c false e rest a = refl

by_ref : (a : State) (left : List Kind) (c : ℕ) (more : Bool) (e : Extent) (i : Intent) (rest : List Intent) (F : Intent → List Tuple) (t : Tuple) → Skips F t → a.chains c ≡ i ∷ rest → IsPlain i
    → (d : ℕ) → owes F ((ref_done left c more e i rest a).chains d) t ≡ owes F (a.chains d) t
by_ref a left c more e i rest F t skips next plain d =
    let frees : Bool = not more && not (sick_in (a.group e.group) Refc) && (count_at (records_in (a.group e.group) Refc) e.block == 1) in
    let last : Intent = record i { block = i.block + e.count; count = i.count - e.count } in
    ap (λ (f : ℕ → List Intent). owes F (f d) t) (ref_chains left c more e i rest a)
    ∙ in_chain F a.chains t c ((only_if frees (intent Free 0 0 e) ++ only_if (nat_lt e.count i.count) last) ++ rest)
    (joined F t skips frees (nat_lt e.count i.count) (intent Free 0 0 e) last rest (refl, refl) plain ∙ sym (none_first F t skips i rest plain) ∙ ap (λ is. owes F is t) (sym next)) d

by_freed : (a : State) (left : List Kind) (c : ℕ) (kept : Bool) (e : Extent) (i : Intent) (rest : List Intent) (F : Intent → List Tuple) (t : Tuple) → Skips F t → a.chains c ≡ i ∷ rest → IsPlain i
    → (d : ℕ) → owes F ((freed left c kept e rest a).chains d) t ≡ owes F (a.chains d) t
by_freed a left c kept e i rest F t skips next plain d =
    ap (λ (f : ℕ → List Intent). owes F (f d) t) (freed_chains left c kept e rest a)
    ∙ in_chain F a.chains t c rest (sym (none_first F t skips i rest plain) ∙ ap (λ is. owes F is t) (sym next)) d

-- an entry of no chain
of_none : (a x : State) (left : List Kind) (e : Entry) → Row a left e x → chain_of e ≡ None → (F : Intent → List Tuple) (t : Tuple) (d : ℕ) → owes F (x.chains d) t ≡ owes F (a.chains d) t
of_none a x left e r none F t d = ap (λ is. owes F is t) ((beside.decided a x left e r).chains d (subst (λ (o : Option ℕ). IsOther o d) (sym none) tt))

-- an entry that leaves owners owes the same gifts and takings
row_owes : (a x : State) (left : List Kind) (e : Entry) → Row a left e x → LeavesOwners a e → (F : Intent → List Tuple) (t : Tuple) → Skips F t → (d : ℕ) → owes F (x.chains d) t ≡ owes F (a.chains d) t
row_owes a x left (entries.Mapped m) r l F t skips d = absurd l
row_owes a x left (entries.Unmapped m) r l F t skips d = absurd l
row_owes a x left (entries.Converted m) r l F t skips d = absurd l
row_owes a x left (entries.Shared m) r l F t skips d = absurd l
row_owes a x left (entries.RmapDone c own g b n) r l F t skips d = absurd l
row_owes a x left (entries.RefDone c g b n more) r l F t skips d =
    ap (λ (s : State). owes F (s.chains d) t) r.5
    ∙ by_ref a left c more (record { group = g; block = b; count = n }) r.0 r.1 F t skips r.2.next (ref_is_plain more r.0.kind r.3) d
row_owes a x left (entries.Freed c g b n kept) r l F t skips d =
    ap (λ (s : State). owes F (s.chains d) t) r.6
    ∙ by_freed a left c kept (record { group = g; block = b; count = n }) r.0 r.1 F t skips r.2.next (ap gives r.3, ap takes r.3) d
row_owes a x left (entries.Taken writer ino uid None) r l F t skips d = of_none a x left (entries.Taken writer ino uid None) r refl F t d
row_owes a x left (entries.Taken writer ino uid (Some b)) r l F t skips d = of_none a x left (entries.Taken writer ino uid (Some b)) r refl F t d
row_owes a x left (entries.Given writer ino) r l F t skips d = of_none a x left (entries.Given writer ino) r refl F t d
row_owes a x left (entries.Refilled e) r l F t skips d = of_none a x left (entries.Refilled e) r refl F t d
row_owes a x left (entries.Trimmed e) r l F t skips d = of_none a x left (entries.Trimmed e) r refl F t d
row_owes a x left (entries.Marked g k cause) r l F t skips d = of_none a x left (entries.Marked g k cause) r refl F t d
row_owes a x left (entries.Reserved g unit b spare) r l F t skips d = of_none a x left (entries.Reserved g unit b spare) r refl F t d
row_owes a x left (entries.Released g unit) r l F t skips d = of_none a x left (entries.Released g unit) r refl F t d
row_owes a x left (entries.Fault g unit fault) r l F t skips d = of_none a x left (entries.Fault g unit fault) r refl F t d
row_owes a x left (entries.Verdict g unit verdict) r l F t skips d = of_none a x left (entries.Verdict g unit verdict) r refl F t d
row_owes a x left (entries.Switched g unit root second) r l F t skips d = of_none a x left (entries.Switched g unit root second) r refl F t d
row_owes a x left (entries.Reaped e) r l F t skips d = of_none a x left (entries.Reaped e) r refl F t d
row_owes a x left (entries.Reply writer line code done refused begun) r l F t skips d = of_none a x left (entries.Reply writer line code done refused begun) r refl F t d

-- ---- settled owners

-- what decides them, tuple by tuple
pub settled_alike : (a b : State) (h : ℕ) → ((t : Tuple) → has (owed_gifts b h) t ≡ has (owed_gifts a h) t) → ((t : Tuple) → has (owed_takings b h) t ≡ has (owed_takings a h) t) → ((t : Tuple) → has (fork_owners b h) t ≡ has (fork_owners a h) t)
    → settled_forks b h ≡ settled_forks a h
unfolding settled_forks
settled_alike a b h gifts takings owners =
    one_set (filter (λ t. not (has (owed_gifts b h) t)) (fork_owners b h) ++ owed_takings b h) (filter (λ t. not (has (owed_gifts a h) t)) (fork_owners a h) ++ owed_takings a h) (λ t.
    in_settled (owed_gifts b h) (owed_takings b h) (fork_owners b h) t
    ∙ (λ i. (owners t i && not (gifts t i)) || takings t i)
    ∙ sym (in_settled (owed_gifts a h) (owed_takings a h) (fork_owners a h) t))

-- the entry makes a chunk
record Makes (a : State) (e : Entry) : Type 0 where
  writer : ℕ
  ino : ℕ
  uid : ℕ
  block : ℕ
  is : e ≡ entries.Taken writer ino uid (Some block)
  readable : is_readable ((a.group (group_of_inode a ino)).tree Ino).reading ≡ true

leaves_or_makes : (a : State) (e : Entry) → LeavesOwners a e → LeavesChunks a e ⊎ Makes a e
leaves_or_makes a (entries.Mapped m) l = absurd l
leaves_or_makes a (entries.Unmapped m) l = absurd l
leaves_or_makes a (entries.Converted m) l = absurd l
leaves_or_makes a (entries.Shared m) l = absurd l
leaves_or_makes a (entries.RmapDone c ino g b n) l = absurd l
leaves_or_makes a (entries.RefDone c g b n more) l = inl l
leaves_or_makes a (entries.Freed c g b n kept) l = inl l
leaves_or_makes a (entries.Taken writer ino uid None) l = inl l
leaves_or_makes a (entries.Taken writer ino uid (Some b)) l = inr (record { writer = writer; ino = ino; uid = uid; block = b; is = refl; readable = l })
leaves_or_makes a (entries.Given writer ino) l = inl l
leaves_or_makes a (entries.Refilled e) l = inl l
leaves_or_makes a (entries.Trimmed e) l = inl l
leaves_or_makes a (entries.Marked g k cause) l = inl l
leaves_or_makes a (entries.Reserved g unit b spare) l = inl l
leaves_or_makes a (entries.Released g unit) l = inl l
leaves_or_makes a (entries.Fault g unit fault) l = inl l
leaves_or_makes a (entries.Verdict g unit verdict) l = inl l
leaves_or_makes a (entries.Switched g unit root second) l = inl l
leaves_or_makes a (entries.Reaped e) l = inl l
leaves_or_makes a (entries.Reply writer line code done refused begun) l = inl l

step_owes : (a b : State) (left : List Kind) (e : Entry) → Step a left e b → LeavesOwners a e → (F : Intent → List Tuple) (t : Tuple) → Skips F t → has (flat_map F (flat_map b.chains (numbers 0 most_chains))) t ≡ has (flat_map F (flat_map a.chains (numbers 0 most_chains))) t
step_owes a b left e s l F t skips =
    same_owed F b.chains a.chains t (λ c. ap (λ (f : ℕ → List Intent). owes F (f c) t) s.loosely.chains ∙ row_owes a s.decided left e s.row l F t skips c)

-- an entry that makes a chunk leaves whose the blocks of forks are
made_owners : (a b : State) (left : List Kind) (writer ino uid block h : ℕ) (t : Tuple) → HasFitting a.geometry → Step a left (entries.Taken writer ino uid (Some block)) b → is_readable ((a.group (group_of_inode a ino)).tree Ino).reading ≡ true
    → has (fork_owners b h) t ≡ has (fork_owners a h) t
made_owners a b left writer ino uid block h t fit s readable = by (stands_in a (group_of_inode a ino) block 8 t.owner) refl
  where
    at : b.geometry ≡ a.geometry
    at = (beside.changes_one_group a b left (entries.Taken writer ino uid (Some block)) s).geometry

    new : NewAt a b (group_of_inode a ino) block t.owner
    new = new_at a b left writer ino uid block t.owner fit s readable

    -- its forks, as they are decided
    behind_it : (v : Bool) → stands_in a (group_of_inode a ino) block 8 t.owner ≡ v → is_inode b t.owner ≡ true → (f : Fork) → fork_of b t.owner f ≡ read_fork ((if v then no_forks else a.fork t.owner) f)
    behind_it v k is f =
        open_forks a b left (entries.Taken writer ino uid (Some block)) s t.owner is f
        ∙ ap (λ (r : Fork → Result ForkList ForkFault). read_fork (r f))
        (ap (λ (x : State). x.fork t.owner) s.row.3 ∙ forks_behind a (group_of_inode a ino) s.row.0 ino uid block t.owner ∙ ap (λ (c : Bool). if c then no_forks else a.fork t.owner) k)

    neither : (x y u v : Bool) → (x ≡ true → y ≡ false) → u ≡ false → (x && y) ≡ (u && v)
    neither true y u v p q = p refl ∙ sym (ap (λ c. c && v) q)
    neither false y u v p q = sym (ap (λ c. c && v) q)

    by : (v : Bool) → stands_in a (group_of_inode a ino) block 8 t.owner ≡ v → has (fork_owners b h) t ≡ has (fork_owners a h) t
    by true k =
        owners_by_inode b h t (subst HasFitting (sym at) fit)
        ∙ neither (is_inode b t.owner) (has_claim_of b h t.owner t) (is_inode a t.owner) (has_claim_of a h t.owner t) (λ is. no_claims b h t.owner t (behind_it true k is)) (new.gone k)
        ∙ sym (owners_by_inode a h t fit)
    by false k = owners_by a b h t fit at (new.stay k) (λ is f. behind_it false k is f)

-- each entry that leaves owners leaves these
owners_stay : (a b : State) (left : List Kind) (e : Entry) (h : ℕ) (t : Tuple) → HasFitting a.geometry → Step a left e b → LeavesOwners a e → LeavesChunks a e ⊎ Makes a e → has (fork_owners b h) t ≡ has (fork_owners a h) t
owners_stay a b left e h t fit s l (inl c) =
    owners_by a b h t fit ((beside.changes_one_group a b left e s).geometry) (same_inodes a b left e t.owner fit s c) (λ is f.
    open_forks a b left e s t.owner is f
    ∙ ap (λ (r : Fork → Result ForkList ForkFault). read_fork (r f)) (row_forks a s.decided left e s.row l c t.owner (sym (same_inodes a b left e t.owner fit s c) ∙ is)))
owners_stay a b left e h t fit s l (inr m) = made_owners a b left m.writer m.ino m.uid m.block h t fit (subst (λ (n : Entry). Step a left n b) m.is s) m.readable

pub other_entries_keep : OtherEntriesKeep
unfolding pending
other_entries_keep a b left e h fit s l =
    settled_alike a b h
    (λ t. step_owes a b left e s l (given_by h) t (λ i p. no_gift h i p t))
    (λ t. step_owes a b left e s l (taken_by h) t (λ i p. no_taking h i p t))
    (λ t. owners_stay a b left e h t fit s l (leaves_or_makes a e l))

-- ---- a finished step

rmap_chains : (left : List Kind) (c : ℕ) (i : Intent) (rest : List Intent) (a : State) → (rmap_done left c i rest a).chains ≡ at_only c rest a.chains
unfolding rmap_done
rmap_chains left c i rest a = refl

ends : (a b : State) (left : List Kind) (c ino g block n h : ℕ) → HasFitting a.geometry → c < most_chains → (s : Step a left (entries.RmapDone c ino g block n) b) → LeavesChunks a (entries.RmapDone c ino g block n) → IsNextOnce a b h (a.chains c)
    → EndsChange a b h c s.row.0 s.row.1
ends a b left c ino g block n h fit below s l once =
    let e : Entry = entries.RmapDone c ino g block n in
    let o : IsOwedOnce a b h s.row.0 = subst (IsNextOnce a b h) s.row.2.next once in
    record {
      below = below;
      next = s.row.2.next;
      chain = s.loosely.chains ∙ ap (λ (x : State). x.chains) s.row.6 ∙ rmap_chains left c s.row.0 s.row.1 a;
      forks = λ t. owners_by a b h t fit ((beside.changes_one_group a b left e s).geometry) (same_inodes a b left e t.owner fit s l) (λ is f.
          open_forks a b left e s t.owner is f ∙ ap (λ (r : Fork → Result ForkList ForkFault). read_fork (r f)) (inodes.decided a s.decided left e s.row t.owner refl).fork);
      there = o.there;
      given_once = o.given_once;
      gone = o.gone;
      taken_once = o.taken_once;
    }

pub finished_step_moves : FinishedStepMoves
finished_step_moves a b left c ino g block n h fit below s l once =
    step_moves a b h c s.row.0 s.row.1 (ends a b left c ino g block n h fit below s l once)
    ∙ ap (λ is. set_of (filter (λ t. not (has (taken_next h is) t)) (settled_forks a h) ++ given_next h is)) (sym s.row.2.next)

-- ---- what a scan has seen

-- a piece, read off forks
abbrev piece_of : Layout → (Fork → ForkList) → ℕ → ℕ → ℕ → List Claimed
piece_of at F h ino k =
    let d = first_mappings k (F forks.Data) in
    let t = first_mappings (k - length (F forks.Data).mappings) (F forks.Attr) in
    mapping_claims at h (Data ino) ino 0 d.mappings ++ mapping_claims at h (Attr ino) ino attribute t.mappings
    ++ fork_tree_claims at h ino 0 d.blocks ++ fork_tree_claims at h ino attribute t.blocks

held_same : (a b : State) (left : List Kind) (e : Entry) (h k : ℕ) (held : Option ℕ) → Step a left e b → ((ino : ℕ) → is_inode a ino ≡ true → is_inode b ino ≡ true) → IsHeldApart a e held → held_tuples b h held k ≡ held_tuples a h held k
held_same a b left e h k None s still apart = refl
held_same a b left e h k (Some ino) s still apart =
    let is : is_inode b ino ≡ true = still ino apart.1 in
    let same = inodes.keeps_other_inodes a b left e s ino apart.0 is in
    let g : b.geometry ≡ a.geometry = (beside.changes_one_group a b left e s).geometry in
    λ i. map tuple_of (piece_of (g i) (λ f. read_same (a.fork ino f) (b.fork ino f) (same.1 f) i) h ino k)

shadow_same : (a b : State) (left : List Kind) (e : Entry) (h cursor k : ℕ) (held : Option ℕ) → Step a left e b → ((ino : ℕ) → is_inode a ino ≡ true → is_inode b ino ≡ true) → IsHeldApart a e held
    → settled_forks b h ≡ settled_forks a h → shadow_of b h cursor held k ≡ shadow_of a h cursor held k
unfolding shadow_of
shadow_same a b left e h cursor k held s still apart same = ap₂ (λ ts us. set_of (filter (λ t. visited cursor t.owner) ts ++ us)) same (held_same a b left e h k held s still apart)

-- inodes of chunks that all stay
still_inodes : (a b : State) (left : List Kind) (e : Entry) → HasFitting a.geometry → Step a left e b → LeavesChunks a e → (ino : ℕ) → is_inode a ino ≡ true → is_inode b ino ≡ true
still_inodes a b left e fit s l ino is = same_inodes a b left e ino fit s l ∙ is

pub shadow_by_settled : ShadowBySettled
shadow_by_settled a b left e h cursor k held fit s l apart same =
    shadow_same a b left e h cursor k held s (still_inodes a b left e fit s l) apart same

-- an inode that there was is one behind an entry that makes a chunk
still_made : (a b : State) (left : List Kind) (writer ino uid block n : ℕ) → HasFitting a.geometry → Step a left (entries.Taken writer ino uid (Some block)) b → is_readable ((a.group (group_of_inode a ino)).tree Ino).reading ≡ true
    → is_inode a n ≡ true → is_inode b n ≡ true
still_made a b left writer ino uid block n fit s readable is = by (stands_in a (group_of_inode a ino) block 8 n) refl
  where
    new : NewAt a b (group_of_inode a ino) block n
    new = new_at a b left writer ino uid block n fit s readable

    by : (v : Bool) → stands_in a (group_of_inode a ino) block 8 n ≡ v → is_inode b n ≡ true
    by true k = absurd (true≢false (sym is ∙ new.gone k))
    by false k = new.stay k ∙ is

still_there : (a b : State) (left : List Kind) (e : Entry) → HasFitting a.geometry → Step a left e b → LeavesChunks a e ⊎ Makes a e → (ino : ℕ) → is_inode a ino ≡ true → is_inode b ino ≡ true
still_there a b left e fit s (inl c) ino is = still_inodes a b left e fit s c ino is
still_there a b left e fit s (inr m) ino is = still_made a b left m.writer m.ino m.uid m.block ino fit (subst (λ (n : Entry). Step a left n b) m.is s) m.readable is

pub shadow_stays : ShadowStays
shadow_stays a b left e h cursor k held fit s l apart =
    shadow_same a b left e h cursor k held s (still_there a b left e fit s (leaves_or_makes a e l)) apart (other_entries_keep a b left e h fit s l)

follows : (s o n v k : Bool) → (o ≡ true → k ≡ false) → (((((s && not o) || n) && v) || k)) ≡ ((((s && v) || k) && not (o && v)) || (n && v))
follows s true n v true e = absurd (true≢false (e refl))
follows true true true true false e = refl
follows true true true false false e = refl
follows true true false true false e = refl
follows true true false false false e = refl
follows false true true true false e = refl
follows false true true false false e = refl
follows false true false true false e = refl
follows false true false false false e = refl
follows true false true true true e = refl
follows true false true true false e = refl
follows true false true false true e = refl
follows true false true false false e = refl
follows true false false true true e = refl
follows true false false true false e = refl
follows true false false false true e = refl
follows true false false false false e = refl
follows false false true true true e = refl
follows false false true true false e = refl
follows false false true false true e = refl
follows false false true false false e = refl
follows false false false true true e = refl
follows false false false true false e = refl
follows false false false false true e = refl
follows false false false false false e = refl

-- visited owners and a held inode's, after owners were taken and given
seen_after : (old new owners us : List Tuple) (cursor : ℕ) → ((t : Tuple) → has old t ≡ true → has us t ≡ false)
    → set_of (filter (is_seen cursor) (set_of (filter (λ t. not (has old t)) owners ++ new)) ++ us) ≡ set_of (filter (λ t. not (has old t && is_seen cursor t)) (set_of (filter (is_seen cursor) owners ++ us)) ++ filter (is_seen cursor) new)
seen_after old new owners us cursor apart =
    let after : List Tuple = filter (λ t. not (has old t)) owners ++ new in
    let seen : List Tuple = filter (is_seen cursor) owners ++ us in
    one_set (filter (is_seen cursor) (set_of after) ++ us) (filter (λ t. not (has old t && is_seen cursor t)) (set_of seen) ++ filter (is_seen cursor) new) (λ t.
    has_both (filter (is_seen cursor) (set_of after)) us t
    ∙ ap (λ b. b || has us t) (has_passing (is_seen cursor) (set_of after) t ∙ ap (λ b. b && is_seen cursor t) (has_set after t ∙ has_both (filter (λ u. not (has old u)) owners) new t ∙ ap (λ b. b || has new t) (has_passing (λ u. not (has old u)) owners t)))
    ∙ follows (has owners t) (has old t) (has new t) (is_seen cursor t) (has us t) (apart t)
    ∙ ap₂ (λ x y. x || y)
    (ap (λ b. b && not (has old t && is_seen cursor t)) (ap (λ b. b || has us t) (sym (has_passing (is_seen cursor) owners t)) ∙ sym (has_both (filter (is_seen cursor) owners) us t) ∙ sym (has_set seen t)) ∙ sym (has_passing (λ u. not (has old u && is_seen cursor u)) (set_of seen) t))
    (sym (has_passing (is_seen cursor) new t))
    ∙ sym (has_both (filter (λ u. not (has old u && is_seen cursor u)) (set_of seen)) (filter (is_seen cursor) new) t))

pub shadow_follows : ShadowFollows
unfolding shadow_of
shadow_follows a b left c ino g block n h cursor k held fit below s l once apart old =
    ap₂ (λ ts us. set_of (filter (is_seen cursor) ts ++ us)) (finished_step_moves a b left c ino g block n h fit below s l once) (held_same a b left (entries.RmapDone c ino g block n) h k held s (still_inodes a b left (entries.RmapDone c ino g block n) fit s l) apart)
    ∙ seen_after (taken_next h (a.chains c)) (given_next h (a.chains c)) (settled_forks a h) (held_tuples a h held k) cursor old
