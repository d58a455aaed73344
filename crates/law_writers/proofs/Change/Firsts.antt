-- First events, fork by fork.
use Rattle.std.proofs.Common.{◌≡◌, ℕ, ◌+◌, ◌-◌, ◌^◌, ◌<◌, ◌≤◌, ◌==◌, ◌&&◌, ◌||◌, zero, suc, Bool, true, false, not, nat_le, nat_lt, List, [], ◌∷◌, ◌++◌, map, Option, Some, None, refl, sym, ap, ap₂, subst, ◌∙◌, arith, eqb-true, eq-eqb}
use Rattle.std.specs.Prelude.{Result, Ok, if◌then◌else◌}
use Rattle.std.specs.List.{list_any}
use Rattle.std.proofs.lemmas.Bool.{false≢true, true≢false, and_parts}
use Rattle.std.proofs.lemmas.Bool.Decides.{nat_tests}
use Rattle.dinode_core.specs.ForkTree.{TreeBlock}
use Rattle.dinode_core.specs.declared.mapping.Fork.{Fork}
use Rattle.dinode_core.specs.declared.mapping.Fork.TheVariants as forks
use Rattle.dinode_core.specs.declared.mapping.ForkFault.{ForkFault}
use Rattle.dinode_core.specs.declared.mapping.Mapping.{Mapping}
use Rattle.fs_model.specs.declared.claim.Claim.{Claim}
use Rattle.fs_model.specs.declared.claim.Claim.TheVariants.{Data, Attr, ForkTree}
use Rattle.fs_model.specs.declared.entry.Entry.{Entry}
use Rattle.fs_model.specs.declared.entry.Entry.TheVariants as entries
use Rattle.fs_model.specs.declared.entry.Piece.{Piece}
use Rattle.fs_model.specs.declared.entry.SharedPiece.{SharedPiece}
use Rattle.geom.proofs.ApartLemmas.{splits_in}
use Rattle.geom.specs.Apart.{HasFitting}
use Rattle.geom.specs.Layout.{Layout, group_len_of, fs_block_of, split_of}
use Rattle.rmap_recs.specs.Runs.{is_same, has, tuple_at}
use Rattle.rmap_recs.specs.declared.records.RmapRec.{RmapRec}
use Rattle.rmap_recs.specs.declared.tuples.Tuple.{Tuple}
use Rattle.sblock.specs.declared.kind.Kind.{Kind}
use Rattle.fs_state.specs.Apart.{is_inode}
use Rattle.fs_state.specs.State.{State, ForkList}
use Rattle.fs_state.specs.declared.intent.Intent.{Intent}
use Rattle.fs_state.specs.declared.intent.IntentKind.TheVariants.{RmapAdd, RmapRemove, RefMore, RefLess}
use Rattle.fs_state.specs.Claims.{read_fork, fork_of, blocks_at, mapping_claims, tree_block_at, fork_tree_claims, attribute_claims, tree_claims, word_of, attribute, unwritten}
use Rattle.fs_state.specs.Lists.{numbers, only_if}
use Rattle.fs_change.proofs.Beside as beside
use Rattle.fs_change.proofs.Inodes.{data_beside}
use Rattle.fs_change.proofs.Owed.{same_at, first_event_keeps}
use Rattle.fs_change.proofs.Sets.{has_both}
use Rattle.fs_change.specs.Chains.{pending, gives, takes, run_of, tuples_of, given_by, owed_gifts, settled_forks}
use Rattle.fs_change.specs.Changes.{mapped, unmapped, shared, intent, data_word, extent_of, data_of, mapping_of, changed_fork, change_data}
use Rattle.fs_change.specs.Laws.{fork_owners, all_given, all_taken}
use Rattle.fs_change.specs.Parts.{at_only, data_only}
use Rattle.fs_change.specs.Records.{add_mapping, take_piece, is_unmapped, is_piece, is_unwritten_at}
use Rattle.fs_change.specs.Step.{Step, IsFirst, is_mapping_of}
use Rattle.law_writers.proofs.Change.Covers.{covers, flag_word, counts_up, has_record, maps_it, maps_at}
use Rattle.law_writers.proofs.Change.Lists.{added_has}
use Rattle.law_writers.proofs.Change.Members.{any_flat, none_any, hasc, hasc_both, hasc_flat, parts_of, owners_by_inode}
use Rattle.law_writers.proofs.Change.Pieces.{run_has, unmapped_has, piece_lost, piece_had}
use Rattle.law_writers.proofs.Change.Settled.{same_inodes, open_forks, owners_by}
use Rattle.law_writers.specs.Change.Chunks.{LeavesChunks}
use Rattle.law_writers.specs.Change.Forks.{LieFrom, IsPlaced, IsSound, IsRunAt, MappedKeeps, UnmappedKeeps, SharedKeeps, shared_extent}
use Rattle.law_writers.specs.Change.Owners.{has_claim_of}

-- ---- claims that aren't of a data fork's mappings have high words

high_word : (o : Bool) (tb tw b w n : ℕ) → tw < 2 ^ 62 → 2 ^ 62 ≤ w → (o && ((nat_le b tb && nat_lt tb (b + n)) && (tw + b == w + tb))) ≡ false
high_word true tb tw b w n h i = grind (arith, nat_tests)
high_word false tb tw b w n h i = refl

not_high : (at : Layout) (h : ℕ) (c : Claim) (ino : ℕ) (t : Tuple) → t.word < 2 ^ 62 → (m : Mapping) (o : Option (ℕ × ℕ)) → split_of at m.block ≡ o → maps_it at h c ino attribute t m ≡ false
not_high at h c ino t low m None e = ap (λ o. hasc (blocks_at h c ino attribute m o) t) e
not_high at h c ino t low m (Some p) e =
    maps_at at h c ino attribute t m p.0 p.1 e
    ∙ ap (λ b. (p.0 == h) && b) (high_word (t.owner == ino) t.block t.word p.1 (word_of attribute m) m.count low (high m.offset (if m.unwritten then unwritten else 0)))
    ∙ none (p.0 == h)
  where
    high : (x u : ℕ) → 2 ^ 62 ≤ x + 2 ^ 63 + u
    high x u = omega arith

    none : (b : Bool) → (b && false) ≡ false
    none true = refl
    none false = refl

no_attributes : (a : State) (h ino : ℕ) (t : Tuple) → t.word < 2 ^ 62 → hasc (attribute_claims a h ino) t ≡ false
no_attributes a h ino t low =
    hasc_flat (λ m. blocks_at h (Attr ino) ino attribute m (split_of a.geometry m.block)) (fork_of a ino forks.Attr).mappings t
    ∙ none_any (maps_it a.geometry h (Attr ino) ino attribute t) (fork_of a ino forks.Attr).mappings (λ m. not_high a.geometry h (Attr ino) ino t low m (split_of a.geometry m.block) refl)

no_block : (h ino flag : ℕ) (t : Tuple) → t.word < 2 ^ 62 → (o : Option (ℕ × ℕ)) → hasc (tree_block_at h ino flag o) t ≡ false
no_block h ino flag t low None = refl
no_block h ino flag t low (Some p) = by_group (p.0 == h)
  where
    last_false : (x y : Bool) (w f : ℕ) → w < 2 ^ 62 → (((x && y) && (w == 2 ^ 62 + f)) || false) ≡ false
    last_false x y w f l = ap (λ b. ((x && y) && b) || false) (differs w f l) ∙ none (x && y)
      where
        differs : (w f : ℕ) → w < 2 ^ 62 → (w == 2 ^ 62 + f) ≡ false
        differs w f l = grind (arith, nat_tests)

        none : (b : Bool) → ((b && false) || false) ≡ false
        none true = refl
        none false = refl

    by_group : (b : Bool) → hasc (only_if b (record { block = p.1; claim = ForkTree ino; owner = ino; word = 2 ^ 62 + flag })) t ≡ false
    by_group true = last_false (t.block == p.1) (t.owner == ino) t.word flag low
    by_group false = refl

no_tree : (at : Layout) (h ino flag : ℕ) (t : Tuple) → t.word < 2 ^ 62 → (bs : List TreeBlock) → hasc (fork_tree_claims at h ino flag bs) t ≡ false
no_tree at h ino flag t low bs = hasc_flat (λ b. tree_block_at h ino flag (split_of at b.block)) bs t ∙ none_any _ bs (λ b. no_block h ino flag t low (split_of at b.block))

no_trees : (a : State) (h ino : ℕ) (t : Tuple) → t.word < 2 ^ 62 → hasc (tree_claims a h ino) t ≡ false
no_trees a h ino t low =
    hasc_both (fork_tree_claims a.geometry h ino 0 (fork_of a ino forks.Data).blocks) (fork_tree_claims a.geometry h ino attribute (fork_of a ino forks.Attr).blocks) t
    ∙ ap₂ (λ x y. x || y) (no_tree a.geometry h ino 0 t low (fork_of a ino forks.Data).blocks) (no_tree a.geometry h ino attribute t low (fork_of a ino forks.Attr).blocks)

-- ---- a change of one data fork, owner by owner

-- a list of the inode's mappings has the tuple
abbrev pub any_of : State → ℕ → ℕ → List Mapping → Tuple → Bool
any_of a h ino ms t = list_any (maps_it a.geometry h (Data ino) ino 0 t) ms

data_any : (a : State) (h ino : ℕ) (ms : List Mapping) (t : Tuple) → hasc (mapping_claims a.geometry h (Data ino) ino 0 ms) t ≡ any_of a h ino ms t
data_any a h ino ms t = hasc_flat (λ m. blocks_at h (Data ino) ino 0 m (split_of a.geometry m.block)) ms t

pub record Change (a : State) (h ino : ℕ) (f : List Mapping → List Mapping) (taken given : List Tuple) : Type 0 where
  pub owner_taken : (t : Tuple) → has taken t ≡ true → t.owner ≡ ino
  pub owner_given : (t : Tuple) → has given t ≡ true → t.owner ≡ ino
  pub low_taken : (t : Tuple) → has taken t ≡ true → t.word < 2 ^ 62
  pub low_given : (t : Tuple) → has given t ≡ true → t.word < 2 ^ 62
  pub had : (t : Tuple) → any_of a h ino (f (data_of a ino)) t ≡ ((any_of a h ino (data_of a ino) t && not (has taken t)) || has given t)
  pub fresh : (t : Tuple) → has given t ≡ true → any_of a h ino (data_of a ino) t ≡ false
  pub there : (t : Tuple) → has taken t ≡ true → any_of a h ino (data_of a ino) t ≡ true

-- all other forks are as they were, and this one changed so
pub record Forks (a b : State) (ino : ℕ) (f : List Mapping → List Mapping) : Type 0 where
  pub geometry : b.geometry ≡ a.geometry
  pub inodes : (o : ℕ) → is_inode b o ≡ is_inode a o
  pub others : (o : ℕ) → (o == ino) ≡ false → is_inode b o ≡ true → (k : Fork) → fork_of b o k ≡ fork_of a o k
  pub own : is_inode a ino ≡ true
  pub changed : fork_of b ino forks.Data ≡ changed_fork f (fork_of a ino forks.Data)
  pub attributes : fork_of b ino forks.Attr ≡ fork_of a ino forks.Attr

by_false : (x : Bool) → (x ≡ true → ⊥) → x ≡ false
by_false false f = refl
by_false true f = absurd (f refl)

formula : (d e x y taken given : Bool) → d ≡ ((e && not taken) || given) → (taken ≡ true → x ≡ false) → (taken ≡ true → y ≡ false) → ((d || x) || y) ≡ ((((e || x) || y) && not taken) || given)
formula d e x y taken given h i j = ap (λ b. (b || x) || y) h ∙ by_cases e x y taken given i j
  where
    by_cases : (e x y taken given : Bool) → (taken ≡ true → x ≡ false) → (taken ≡ true → y ≡ false) → ((((e && not taken) || given) || x) || y) ≡ ((((e || x) || y) && not taken) || given)
    by_cases e true y true given i j = absurd (true≢false (i refl))
    by_cases e false true true given i j = absurd (true≢false (j refl))
    by_cases true false false true true i j = refl
    by_cases true false false true false i j = refl
    by_cases false false false true true i j = refl
    by_cases false false false true false i j = refl
    by_cases true x y false given i j = refl
    by_cases false true y false true i j = refl
    by_cases false true y false false i j = refl
    by_cases false false true false true i j = refl
    by_cases false false true false false i j = refl
    by_cases false false false false true i j = refl
    by_cases false false false false false i j = refl

module _ (a b : State) (h ino : ℕ) (f : List Mapping → List Mapping) (taken given : List Tuple) (fit : HasFitting a.geometry) (k : Forks a b ino f) (c : Change a h ino f taken given) where
  -- the changed inode's claims
  own_claims : (t : Tuple) → has_claim_of b h ino t ≡ ((has_claim_of a h ino t && not (has taken t)) || has given t)
  own_claims t =
      let x : Bool = hasc (attribute_claims a h ino) t in
      let y : Bool = hasc (tree_claims a h ino) t in
      parts_of b h ino t
      ∙ (λ i. (hasc (mapping_claims (k.geometry i) h (Data ino) ino 0 (k.changed i).mappings) t || hasc (mapping_claims (k.geometry i) h (Attr ino) ino attribute (k.attributes i).mappings) t)
      || hasc (fork_tree_claims (k.geometry i) h ino 0 (k.changed i).blocks ++ fork_tree_claims (k.geometry i) h ino attribute (k.attributes i).blocks) t)
      ∙ ap (λ d. (d || x) || y) (data_any a h ino (f (data_of a ino)) t)
      ∙ formula (any_of a h ino (f (data_of a ino)) t) (any_of a h ino (data_of a ino) t) x y (has taken t) (has given t) (c.had t) (λ e. no_attributes a h ino t (c.low_taken t e)) (λ e. no_trees a h ino t (c.low_taken t e))
      ∙ ap (λ d. (((d || x) || y) && not (has taken t)) || has given t) (sym (data_any a h ino (data_of a ino) t))
      ∙ ap (λ d. (d && not (has taken t)) || has given t) (sym (parts_of a h ino t))

  not_own : (t : Tuple) → (t.owner == ino) ≡ false → (ts : List Tuple) → ((u : Tuple) → has ts u ≡ true → u.owner ≡ ino) → has ts t ≡ false
  not_own t out ts owner = by_false (has ts t) (λ e. true≢false (sym (eq-eqb t.owner ino (owner t e)) ∙ out))

  owned_inode : (t : Tuple) → t.owner ≡ ino → has (fork_owners a h) t ≡ has_claim_of a h ino t
  owned_inode t same = owners_by_inode a h t fit ∙ ap (λ n. is_inode a n && has_claim_of a h n t) same ∙ ap (λ e. e && has_claim_of a h ino t) k.own

  pub owners_change : (t : Tuple) → has (fork_owners b h) t ≡ ((has (fork_owners a h) t && not (has taken t)) || has given t)
  owners_change t = (elim (t.owner == ino) as (λ e. (t.owner == ino) ≡ e → has (fork_owners b h) t ≡ ((has (fork_owners a h) t && not (has taken t)) || has given t)) [
    | true ↦ λ e.
        let same : t.owner ≡ ino = eqb-true t.owner ino e in
        owners_by_inode b h t (subst HasFitting (sym k.geometry) fit) ∙ ap (λ n. is_inode b n && has_claim_of b h n t) same
        ∙ ap (λ i. i && has_claim_of b h ino t) (k.inodes ino ∙ k.own)
        ∙ own_claims t
        ∙ ap (λ d. (d && not (has taken t)) || has given t) (sym (owned_inode t same))
    | false ↦ λ e.
        owners_by a b h t fit k.geometry (k.inodes t.owner) (k.others t.owner e)
        ∙ all_in (has (fork_owners a h) t)
        ∙ ap₂ (λ x y. (has (fork_owners a h) t && not x) || y) (sym (not_own t e taken c.owner_taken)) (sym (not_own t e given c.owner_given))
  ]) refl
    where
      all_in : (x : Bool) → x ≡ ((x && true) || false)
      all_in true = refl
      all_in false = refl

  pub fresh_owners : (t : Tuple) → has given t ≡ true → has (fork_owners a h) t ≡ false
  fresh_owners t e =
      owned_inode t (c.owner_given t e) ∙ parts_of a h ino t
      ∙ ap₂ (λ x y. x || y) (ap₂ (λ x y. x || y) (data_any a h ino (data_of a ino) t ∙ c.fresh t e) (no_attributes a h ino t (c.low_given t e))) (no_trees a h ino t (c.low_given t e))

  pub taken_owners : (t : Tuple) → has taken t ≡ true → has (fork_owners a h) t ≡ true
  taken_owners t e =
      owned_inode t (c.owner_taken t e) ∙ parts_of a h ino t
      ∙ ap (λ d. (d || hasc (attribute_claims a h ino) t) || hasc (tree_claims a h ino) t) (data_any a h ino (data_of a ino) t ∙ c.there t e)

-- ---- nobody owes the inode a mapping

tuple_owner : (r : RmapRec) (k n : ℕ) (t : Tuple) → has (map (tuple_at r) (numbers k n)) t ≡ true → t.owner ≡ r.owner
tuple_owner r k zero t e = absurd (false≢true e)
tuple_owner r k (suc n) t e = (elim (is_same t (tuple_at r k)) as (λ b. is_same t (tuple_at r k) ≡ b → (b || has (map (tuple_at r) (numbers (k + 1) n)) t) ≡ true → t.owner ≡ r.owner) [
  | true ↦ λ s i. eqb-true t.owner r.owner (and_parts (t.block == r.start + k) (t.owner == r.owner) (and_parts ((t.block == r.start + k) && (t.owner == r.owner)) (t.word == (tuple_at r k).word) s).0).1
  | false ↦ λ s i. tuple_owner r (k + 1) n t i
]) refl e

no_gift_of : (h ino : ℕ) (i : Intent) (t : Tuple) → t.owner ≡ ino → is_mapping_of ino i ≡ false → has (given_by h i) t ≡ false
no_gift_of h ino i t own none = by_kind (gives i.kind) (takes i.kind) (i.group == h) none
  where
    by_kind : (x y z : Bool) → ((x || y) && (i.ino == ino)) ≡ false → has (if x then (if z then tuples_of (run_of i i.word) else []) else []) t ≡ false
    by_kind false y z n = refl
    by_kind true y false n = refl
    by_kind true y true n = by_false (has (tuples_of (run_of i i.word)) t) (λ e. true≢false (sym (eq-eqb i.ino ino (sym (tuple_owner (run_of i i.word) 0 i.count t e) ∙ own)) ∙ n))

none_of_all : (h ino : ℕ) (t : Tuple) → t.owner ≡ ino → (is : List Intent) → list_any (is_mapping_of ino) is ≡ false → list_any (λ i. has (given_by h i) t) is ≡ false
none_of_all h ino t own [] none = refl
none_of_all h ino t own (i ∷ is) none = ap₂ (λ x y. x || y) (no_gift_of h ino i t own (first_false (is_mapping_of ino i) (list_any (is_mapping_of ino) is) none)) (none_of_all h ino t own is (rest_false (is_mapping_of ino i) (list_any (is_mapping_of ino) is) none))
  where
    first_false : (x y : Bool) → (x || y) ≡ false → x ≡ false
    first_false false y h = refl
    first_false true y h = absurd (true≢false h)

    rest_false : (x y : Bool) → (x || y) ≡ false → y ≡ false
    rest_false false y h = h
    rest_false true y h = absurd (true≢false h)

no_gifts : (a : State) (h ino : ℕ) (t : Tuple) → t.owner ≡ ino → list_any (is_mapping_of ino) (pending a) ≡ false → has (owed_gifts a h) t ≡ false
no_gifts a h ino t own none = any_flat (is_same t) (given_by h) (pending a) ∙ none_of_all h ino t own (pending a) none

pub begins : (a b : State) (h ino chain : ℕ) (intents : List Intent) (f : List Mapping → List Mapping) → HasFitting a.geometry → IsFirst a chain ino → b.chains ≡ at_only chain intents a.chains
    → Forks a b ino f → Change a h ino f (all_taken h intents) (all_given h intents) → settled_forks b h ≡ settled_forks a h
begins a b h ino chain intents f fit first chains k c = first_event_keeps a b h chain intents (record {
  below = first.open_chain;
  nothing = first.owes_nothing;
  chain = chains;
  forks = owners_change a b h ino f (all_taken h intents) (all_given h intents) fit k c;
  fresh = fresh_owners a b h ino f (all_taken h intents) (all_given h intents) fit k c;
  there = taken_owners a b h ino f (all_taken h intents) (all_given h intents) fit k c;
  apart = λ t e. no_gifts a h ino t (c.owner_taken t e) first.none_pending;
})

-- ---- runs

-- the owners of a run, as an intent has them
pub run_tuples : (h ino g b n offset : ℕ) (flag : Bool) (t : Tuple) → ino < 2 ^ 64 - 9 → offset < 2 ^ 54 → has ((if g == h then tuples_of (record { start = b; count = n; owner = ino; word = offset + flag_word flag }) else []) ++ []) t ≡ run_has h ino g b offset flag t n
run_tuples h ino g b n offset flag t number low =
    let r : RmapRec = record { start = b; count = n; owner = ino; word = offset + flag_word flag } in
    has_both (if g == h then tuples_of r else []) [] t ∙ or_none (has (if g == h then tuples_of r else []) t) ∙ by_group (g == h)
  where
    or_none : (x : Bool) → (x || false) ≡ x
    or_none true = refl
    or_none false = refl

    by_group : (z : Bool) → has (if z then tuples_of (record { start = b; count = n; owner = ino; word = offset + flag_word flag }) else []) t ≡ (z && covers t ino b (offset + flag_word flag) n)
    by_group true = has_record (record { start = b; count = n; owner = ino; word = offset + flag_word flag }) t (counts_up flag ino offset number low)
    by_group false = refl

pub run_owner : (h ino g b n offset : ℕ) (flag : Bool) (t : Tuple) → run_has h ino g b offset flag t n ≡ true → t.owner ≡ ino
run_owner h ino g b n offset flag t e = eqb-true t.owner ino (and_parts (t.owner == ino) _ (and_parts (g == h) (covers t ino b (offset + flag_word flag) n) e).1).0

low_run : (flag : Bool) (tb tw b n offset : ℕ) → offset + n ≤ 2 ^ 54 → ((nat_le b tb && nat_lt tb (b + n)) && (tw + b == offset + flag_word flag + tb)) ≡ true → tw < 2 ^ 62
low_run true tb tw b n offset h e = grind (arith, nat_tests)
low_run false tb tw b n offset h e = grind (arith, nat_tests)

pub run_low : (h ino g b n offset : ℕ) (flag : Bool) (t : Tuple) → offset + n ≤ 2 ^ 54 → run_has h ino g b offset flag t n ≡ true → t.word < 2 ^ 62
run_low h ino g b n offset flag t few e = low_run flag t.block t.word b n offset few (and_parts (t.owner == ino) _ (and_parts (g == h) (covers t ino b (offset + flag_word flag) n) e).1).1

pub below_all : (offset n : ℕ) → 0 < n → offset + n ≤ 2 ^ 54 → offset < 2 ^ 54
below_all offset n h i = omega (arith, h, i)

pub in_len : (b n len : ℕ) → 0 < n → b + n ≤ len → b < len
in_len b n len h i = omega (arith, h, i)

-- ---- a mapping is added

-- `given` are the run's owners
add_change : (a : State) (h ino g b n offset : ℕ) (flag : Bool) (given : List Tuple) → HasFitting a.geometry → IsSound a ino → IsRunAt a (record { group = g; block = b; count = n }) offset → 0 < n → is_unmapped offset n (data_of a ino) ≡ true
    → ((t : Tuple) → has given t ≡ run_has h ino g b offset flag t n) → Change a h ino (add_mapping a.geometry.agblklog (mapping_of a offset g b n flag)) [] given
add_change a h ino g b n offset flag given fit sound run some none is = record {
  owner_taken = λ t e. absurd (false≢true e);
  owner_given = λ t e. run_owner h ino g b n offset flag t (sym (is t) ∙ e);
  low_taken = λ t e. absurd (false≢true e);
  low_given = λ t e. run_low h ino g b n offset flag t run.offsets (sym (is t) ∙ e);
  had = λ t.
      added_has a.geometry h (Data ino) ino 0 t (mapping_of a offset g b n flag) (data_of a ino) placed sound.placed sound.apart
      ∙ ap₂ (λ x y. x || y) (all_in (any_of a h ino (data_of a ino) t)) (has_new t ∙ sym (is t));
  fresh = λ t e. unmapped_has a.geometry h ino g b offset n flag (Data ino) t (data_of a ino) run.offsets sound.placed none (sym (is t) ∙ e);
  there = λ t e. absurd (false≢true e);
}
  where
    place : split_of a.geometry (fs_block_of a.geometry g b) ≡ Some (g, b)
    place = splits_in a.geometry fit g b run.group (in_len b n (group_len_of a.geometry g) some run.ends)

    placed : IsPlaced a.geometry (mapping_of a offset g b n flag)
    placed = record { some = some; offsets = run.offsets; lies = subst (λ o. LieFrom a.geometry o n) (sym place) run.ends }

    all_in : (x : Bool) → x ≡ (x && true)
    all_in true = refl
    all_in false = refl

    no_flag : (x u : ℕ) → x + 0 + u ≡ x + u
    no_flag x u = omega arith

    has_new : (t : Tuple) → maps_it a.geometry h (Data ino) ino 0 t (mapping_of a offset g b n flag) ≡ run_has h ino g b offset flag t n
    has_new t = maps_at a.geometry h (Data ino) ino 0 t (mapping_of a offset g b n flag) g b place ∙ ap (λ w. (g == h) && covers t ino b w n) (no_flag offset (flag_word flag))

-- ---- rows

data_changed : (ino : ℕ) (f : List Mapping → List Mapping) (a : State) → fork_of (change_data ino f a) ino forks.Data ≡ changed_fork f (fork_of a ino forks.Data)
data_changed ino f a = ap (λ (r : Fork → Result ForkList ForkFault). read_fork (r forks.Data)) (same_at ino (data_only (Ok (changed_fork f (fork_of a ino forks.Data))) (a.fork ino)) a.fork)

attributes_stay : (ino : ℕ) (f : List Mapping → List Mapping) (a : State) → fork_of (change_data ino f a) ino forks.Attr ≡ fork_of a ino forks.Attr
attributes_stay ino f a = ap (λ (r : Fork → Result ForkList ForkFault). read_fork (r forks.Attr)) (same_at ino (data_only (Ok (changed_fork f (fork_of a ino forks.Data))) (a.fork ino)) a.fork)

-- a step whose decided state has the forks of a state with one data fork changed
pub forks_by : (a b : State) (left : List Kind) (e : Entry) (s : Step a left e b) (ino : ℕ) (f : List Mapping → List Mapping) → HasFitting a.geometry → LeavesChunks a e → is_inode a ino ≡ true → s.decided.fork ≡ (change_data ino f a).fork → Forks a b ino f
forks_by a b left e s ino f fit l own same = record {
  geometry = (beside.changes_one_group a b left e s).geometry;
  inodes = inode_stays;
  others = λ o out is k. open_forks a b left e s o is k ∙ ap (λ (F : ℕ → Fork → Result ForkList ForkFault). read_fork (F o k)) same ∙ ap (λ (r : Fork → Result ForkList ForkFault). read_fork (r k)) (data_beside ino f a o out);
  own = own;
  changed = open_forks a b left e s ino (inode_stays ino ∙ own) forks.Data ∙ ap (λ (F : ℕ → Fork → Result ForkList ForkFault). read_fork (F ino forks.Data)) same ∙ data_changed ino f a;
  attributes = open_forks a b left e s ino (inode_stays ino ∙ own) forks.Attr ∙ ap (λ (F : ℕ → Fork → Result ForkList ForkFault). read_fork (F ino forks.Attr)) same ∙ attributes_stay ino f a;
}
  where
    inode_stays : (o : ℕ) → is_inode b o ≡ is_inode a o
    inode_stays o = same_inodes a b left e o fit s l

mapped_fork : (m : Piece) (a : State) → (mapped m a).fork ≡ (change_data m.ino (add_mapping a.geometry.agblklog (mapping_of a m.offset m.group m.block m.count true)) a).fork
unfolding mapped
mapped_fork m a = refl

mapped_chains : (m : Piece) (a : State) → (mapped m a).chains ≡ at_only m.chain (intent RmapAdd m.ino (data_word true m.offset) (extent_of m) ∷ []) a.chains
unfolding mapped
mapped_chains m a = refl

pub mapped_keeps : MappedKeeps
mapped_keeps a b left m h fit s sound run =
    begins a b h m.ino m.chain (intent RmapAdd m.ino (data_word true m.offset) (extent_of m) ∷ []) (add_mapping a.geometry.agblklog (mapping_of a m.offset m.group m.block m.count true)) fit s.row.0.first
    (s.loosely.chains ∙ ap (λ (x : State). x.chains) s.row.1 ∙ mapped_chains m a)
    (forks_by a b left (entries.Mapped m) s m.ino _ fit tt s.row.0.first.file.inode (ap (λ (x : State). x.fork) s.row.1 ∙ mapped_fork m a))
    (add_change a h m.ino m.group m.block m.count m.offset true _ fit sound run s.row.0.some s.row.0.unmapped (λ t. run_tuples h m.ino m.group m.block m.count m.offset true t sound.number (below_all m.offset m.count s.row.0.some run.offsets)))

shared_fork : (m : SharedPiece) (a : State) → (shared m a).fork ≡ (change_data m.to (add_mapping a.geometry.agblklog (mapping_of a m.to_offset m.group m.block m.count false)) a).fork
unfolding shared
shared_fork m a = refl

shared_chains : (m : SharedPiece) (a : State) → (shared m a).chains ≡ at_only m.chain (intent RmapAdd m.to m.to_offset (shared_extent m) ∷ intent RefMore 0 0 (shared_extent m) ∷ []) a.chains
unfolding shared
shared_chains m a = refl

pub plain_word : (x : ℕ) → x ≡ x + 0
plain_word x = omega arith

pub shared_keeps : SharedKeeps
shared_keeps a b left m h fit s sound run =
    begins a b h m.to m.chain (intent RmapAdd m.to m.to_offset (shared_extent m) ∷ intent RefMore 0 0 (shared_extent m) ∷ []) (add_mapping a.geometry.agblklog (mapping_of a m.to_offset m.group m.block m.count false)) fit s.row.0.to_first
    (s.loosely.chains ∙ ap (λ (x : State). x.chains) s.row.1 ∙ shared_chains m a)
    (forks_by a b left (entries.Shared m) s m.to _ fit tt s.row.0.to_first.file.inode (ap (λ (x : State). x.fork) s.row.1 ∙ shared_fork m a))
    (add_change a h m.to m.group m.block m.count m.to_offset false _ fit sound run s.row.0.some s.row.0.unmapped (λ t.
    ap (λ w. has ((if m.group == h then tuples_of (record { start = m.block; count = m.count; owner = m.to; word = w }) else []) ++ []) t) (plain_word m.to_offset)
    ∙ run_tuples h m.to m.group m.block m.count m.to_offset false t sound.number (below_all m.to_offset m.count s.row.0.some run.offsets)))

-- ---- a piece leaves

take_change : (a : State) (h ino g b n offset : ℕ) (taken : List Tuple) → HasFitting a.geometry → IsSound a ino → IsRunAt a (record { group = g; block = b; count = n }) offset → 0 < n → is_piece offset (fs_block_of a.geometry g b) n (data_of a ino) ≡ true
    → ((t : Tuple) → has taken t ≡ run_has h ino g b offset (is_unwritten_at offset (data_of a ino)) t n) → Change a h ino (take_piece offset n) taken []
take_change a h ino g b n offset taken fit sound run some is each = record {
  owner_taken = λ t e. run_owner h ino g b n offset (is_unwritten_at offset (data_of a ino)) t (sym (each t) ∙ e);
  owner_given = λ t e. absurd (false≢true e);
  low_taken = λ t e. run_low h ino g b n offset (is_unwritten_at offset (data_of a ino)) t run.offsets (sym (each t) ∙ e);
  low_given = λ t e. absurd (false≢true e);
  had = λ t. lost t ∙ ap (λ x. any_of a h ino (data_of a ino) t && not x) (sym (each t)) ∙ or_none (any_of a h ino (data_of a ino) t && not (has taken t));
  fresh = λ t e. absurd (false≢true e);
  there = λ t e. piece_had a.geometry fit h (Data ino) ino t offset n g b (data_of a ino) some run.group run.ends sound.placed is (sym (each t) ∙ e);
}
  where
    lost : (t : Tuple) → any_of a h ino (take_piece offset n (data_of a ino)) t ≡ (any_of a h ino (data_of a ino) t && not (run_has h ino g b offset (is_unwritten_at offset (data_of a ino)) t n))
    lost t = piece_lost a.geometry fit h (Data ino) ino t offset n g b (data_of a ino) some run.offsets run.group run.ends sound.placed sound.apart is

    or_none : (x : Bool) → x ≡ (x || false)
    or_none true = refl
    or_none false = refl

unmapped_fork : (m : Piece) (a : State) → (unmapped m a).fork ≡ (change_data m.ino (take_piece m.offset m.count) a).fork
unfolding unmapped
unmapped_fork m a = refl

abbrev lost_intents : Piece → State → List Intent
lost_intents m a = intent RmapRemove m.ino (data_word (is_unwritten_at m.offset (data_of a m.ino)) m.offset) (extent_of m) ∷ intent RefLess 0 0 (extent_of m) ∷ []

unmapped_chains : (m : Piece) (a : State) → (unmapped m a).chains ≡ at_only m.chain (lost_intents m a) a.chains
unfolding unmapped
unmapped_chains m a = refl

pub unmapped_keeps : UnmappedKeeps
unmapped_keeps a b left m h fit s sound run =
    begins a b h m.ino m.chain (lost_intents m a) (take_piece m.offset m.count) fit s.row.0.first
    (s.loosely.chains ∙ ap (λ (x : State). x.chains) s.row.1 ∙ unmapped_chains m a)
    (forks_by a b left (entries.Unmapped m) s m.ino _ fit tt s.row.0.first.file.inode (ap (λ (x : State). x.fork) s.row.1 ∙ unmapped_fork m a))
    (take_change a h m.ino m.group m.block m.count m.offset _ fit sound run s.row.0.some s.row.0.piece (λ t.
    run_tuples h m.ino m.group m.block m.count m.offset (is_unwritten_at m.offset (data_of a m.ino)) t sound.number (below_all m.offset m.count s.row.0.some run.offsets)))
