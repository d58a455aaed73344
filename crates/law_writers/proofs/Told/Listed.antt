-- Runs that get an owner, or lose it, in mappings that tell settled owners.
use Rattle.std.proofs.Common.{◌≡◌, ℕ, zero, suc, ◌+◌, ◌-◌, ◌*◌, ◌<◌, ◌≤◌, ◌==◌, ◌&&◌, ◌||◌, Bool, true, false, not, List, [], ◌∷◌, ◌++◌, length, map, filter, flat_map, Some, None, refl, sym, ap, ap₂, subst, ◌∙◌, arith, eqb-true, eq-eqb}
use Rattle.std.specs.Prelude.{◌/◌, if◌then◌else◌}
use Rattle.std.specs.List.{list_any}
use Rattle.std.proofs.lemmas.Bool.{false≢true, true≢false, and_parts}
use Rattle.std.proofs.lemmas.Bool.Decides.{nat_tests}
use Rattle.law_accounts.specs.Account.Accounts.{alone_at, at_span, hits, in_span, owned_at}
use Rattle.law_accounts.specs.Account.Ledger.{Sound}
use Rattle.law_accounts.specs.Account.Stated.{ChunksStay, ledger_at}
use Rattle.law_accounts.specs.Account.Steps.{IsWritten}
use Rattle.law_accounts.proofs.Account.Framed.{SameParts, edit_parts, same_parts}
use Rattle.law_accounts.proofs.Account.Mappings.{edited_recs}
use Rattle.law_writers.proofs.Change.Made.{MadeAt, chunk_is_made, made_at}
use Rattle.law_writers.proofs.Change.Members.{both_ways, hasc, hasc_flat}
use Rattle.law_writers.proofs.Change.Rows as chunk_rows
use Rattle.law_writers.proofs.Change.Settled.{other_entries_keep}
use Rattle.law_accounts.proofs.Edit.Mappings.{mapping_given, mapping_taken}
use Rattle.fs_change.proofs.Beside as beside
use Rattle.fs_change.proofs.Stays.{decided_stands}
use Rattle.fs_change.proofs.Trees.{edited, given_space, in_itself, spaced, turned_tree}
use Rattle.fs_change.specs.Chains.{given_by, most_chains, pending, settled_by, settled_forks, settled_own, taken_by, tuples_of}
use Rattle.fs_change.specs.Changes.{chunk_extent, free_chunk, give_free, give_owner, given, inodes_follow, is_in_extent, list_chunk, plain_run, refilled, take_free, take_owner, taken, trimmed, turn}
use Rattle.fs_change.specs.Parts.{edit, in_group, is_sick, records_in}
use Rattle.fs_change.specs.Records.{follow_inode, give_mapping, put_chunk, take_mapping, turn_inode}
use Rattle.fs_change.specs.Laws.{AreWords}
use Rattle.fs_change.specs.Step.{Row, Step, group_of_inode, to_trim}
use Rattle.fs_state.specs.Chunks.{chunks}
use Rattle.fs_state.specs.Claims.{Claimed, claimed_by, claims, fork_claims, log_claims, metadata_claims}
use Rattle.fs_state.specs.Derive.{mappings}
use Rattle.fs_state.specs.Records.{all_kinds, tree_owner}
use Rattle.fs_state.specs.Lists.{numbers}
use Rattle.fs_state.specs.Own.{set_of, tuple_of}
use Rattle.fs_model.specs.declared.claim.Claim.TheVariants.{Chunk, Heads, Limbo, List as FreeList, Reserve, Tree}
use Rattle.fs_model.specs.declared.entry.Entry.{Entry}
use Rattle.fs_model.specs.declared.entry.Entry.TheVariants as entries
use Rattle.fs_model.specs.declared.entry.Extent.{Extent}
use Rattle.fs_state.specs.Apart.{is_chunk}
use Rattle.fs_state.specs.Kinds.{RecOf}
use Rattle.fs_state.specs.State.{Group, Index, Owned, State, is_readable, recs_of}
use Rattle.geom.specs.Apart.{HasFitting}
use Rattle.geom.specs.Layout.{group_len_of}
use Rattle.law_writers.proofs.Held.Kept.{each_number, in_front, list_least, stood}
use Rattle.law_writers.proofs.Held.Holders.{forks_stay}
use Rattle.law_writers.specs.Held.Held.{LeavesForks}
use Rattle.law_accounts.proofs.Owner.Finished.{run_given, run_taken}
use Rattle.law_accounts.proofs.Owner.Members.{has_metadata, metadata_same, same_chunks, settled_is}
use Rattle.law_accounts.proofs.Owner.Nobodys.{takes_nobodys}
use Rattle.law_accounts.specs.Owner.Nobodys.{IsNobodys}
use Rattle.law_accounts.specs.Owner.Told.{AreTold}
use Rattle.rmap_recs.specs.Owners.{number_of}
use Rattle.rmap_recs.specs.Runs.{AreRuns, has}
use Rattle.rmap_recs.specs.declared.owner.Owner.TheVariants.{Ag, Fs, Inodes}
use Rattle.run_edits.specs.EditLaws.{AreUntied}
use Rattle.rmap_recs.specs.declared.records.RmapRec.{RmapRec}
use Rattle.rmap_recs.specs.declared.tuples.Tuple.{Tuple}
use Rattle.law_writers.proofs.Inode.Cores.{own_chunks}
use Rattle.law_writers.proofs.Run.Chunks.{made_group, made_parts}
use Rattle.law_writers.specs.Run.Found.{IsMade}
use Rattle.law_writers.proofs.Run.Listed.{NewList, all_sum, chunk_part, forks_same, head_part, limbo_part, list_part, lone, lone_list, refilled_list, reserve_part, tree_part, trimmed_claims, trimmed_list}
use Rattle.sblock.specs.declared.kind.Kind.{Kind}
use Rattle.tree_defs.specs.Lists.{is_in, times}
use Rattle.sblock.specs.declared.kind.Kind.TheVariants.{Fino, Ino, Rmap}
use Rattle.law_writers.proofs.Fork.Rows.{inodes_same}
use Rattle.law_writers.proofs.Told.Parts.{counted, has_listed, in_rest, list_both, list_tuple, listed_has, metadata_has, of_run, run_has, run_inside, unit_new}
use Rattle.law_writers.specs.Told.Listed.{ChunkListTold, GivenListTold, IsRunOf, RefilledListTold, TakenListTold, TrimmedListTold}

-- ---- entries that leave forks and chains

settled_same : (a x : State) (h : ℕ) → x.chains ≡ a.chains → fork_claims x h ≡ fork_claims a h → settled_forks x h ≡ settled_forks a h
unfolding settled_forks pending
settled_same a x h chains forks =
    λ i. settled_by (flat_map (given_by h) (flat_map (chains i) (numbers 0 most_chains))) (flat_map (taken_by h) (flat_map (chains i) (numbers 0 most_chains))) (map tuple_of (forks i))

own_same : (a x : State) (h : ℕ) → metadata_claims x h ≡ metadata_claims a h → settled_forks x h ≡ settled_forks a h → settled_own x h ≡ settled_own a h
unfolding settled_own
own_same a x h meta forks = λ i. set_of (map tuple_of (meta i) ++ forks i)

-- all that an entry says of forks and chains, where it leaves both
pub record Leaves (a x : State) : Type 0 where
  pub geometry : x.geometry ≡ a.geometry
  pub chunks : ChunksStay a x
  pub chains : x.chains ≡ a.chains
  pub forks : (h : ℕ) → settled_forks x h ≡ settled_forks a h

leaves : (a x : State) (left : List Kind) (e : Entry) → Row a left e x → LeavesForks e → ChunksStay a x → ((c : ℕ) → x.chains c ≡ a.chains c) → Leaves a x
leaves a x left e row l stay same =
    let at : x.geometry ≡ a.geometry = (beside.decided a x left e row).geometry in
    let chains : x.chains ≡ a.chains = λ i c. same c i in
    record {
      geometry = at;
      chunks = stay;
      chains = chains;
      forks = λ h. settled_same a x h chains (forks_same a x h at (λ i n. forks_stay a x left e row l n i) (inodes_same a x at stay));
    }

-- mappings of a group that tell its owners
told_by : (a x : State) (h : ℕ) → Leaves a x → SameParts (a.group h) (x.group h) → mappings x h ≡ mappings a h → AreTold a h → AreTold x h
told_by a x h k parts maps told =
    let own : settled_own x h ≡ settled_own a h = own_same a x h (metadata_same a x h k.geometry k.chunks parts) (k.forks h) in
    subst (λ ts. AreRuns ts (mappings x h)) (sym own) (subst (AreRuns (settled_own a h)) (sym maps) told)

-- ---- inodes of chunks that are there

turned_parts : (old : Group) (to_free : Bool) (i : ℕ) (p : Group) → SameParts p (inodes_follow old (turn to_free i p))
turned_parts old to_free i p =
    let one = edit_parts [] Ino (turn_inode to_free i) p in
    let two = edit_parts [] Fino (follow_inode i (turn_inode to_free i (records_in p Ino))) (edit [] Ino (turn_inode to_free i) p) in
    record { list = two.list ∙ one.list; blocks = λ k. two.blocks k ∙ one.blocks k; reserve = two.reserve ∙ one.reserve; limbo = two.limbo ∙ one.limbo }

-- one group changes so, and its mappings stay
record Keeps (a x : State) (h : ℕ) : Type 0 where
  pub parts : SameParts (a.group h) (x.group h)
  pub maps : mappings x h ≡ mappings a h

keeps_in : (a : State) (g : ℕ) (f : Group → Group) (h : ℕ) → SameParts (a.group g) (f (a.group g)) → records_in (f (a.group g)) Rmap ≡ records_in (a.group g) Rmap → Keeps a (in_group g f a) h
keeps_in a g f h parts maps = by (h == g) refl
  where
    by : (t : Bool) → (h == g) ≡ t → Keeps a (in_group g f a) h
    by true e =
        let here : (in_group g f a).group g ≡ f (a.group g) = in_itself g f a in
        subst (Keeps a (in_group g f a)) (sym (eqb-true h g e)) (record { parts = subst (SameParts (a.group g)) (sym here) parts; maps = ap (λ (p : Group). records_in p Rmap) here ∙ maps })
    by false e =
        let here : (in_group g f a).group h ≡ a.group h = beside.in_other g f a h e in
        record { parts = subst (SameParts (a.group h)) (sym here) (same_parts (a.group h)); maps = ap (λ (p : Group). records_in p Rmap) here }

taken_keeps : (g i ino uid : ℕ) (a : State) (h : ℕ) → Keeps a (taken g i ino uid None a) h
unfolding taken
taken_keeps g i ino uid a h =
    let k = keeps_in a g (λ q. inodes_follow (a.group g) (turn false i q)) h (turned_parts (a.group g) false i (a.group g)) (ap (λ t. recs_of t.reading) (turned_tree false i Rmap (a.group g) refl refl)) in
    record { parts = k.parts; maps = k.maps }

given_keeps : (g i ino : ℕ) (a : State) (h : ℕ) → Keeps a (given g i ino a) h
unfolding given
given_keeps g i ino a h =
    let k = keeps_in a g (λ p. inodes_follow p (turn true i p)) h (turned_parts (a.group g) true i (a.group g)) (ap (λ t. recs_of t.reading) (turned_tree true i Rmap (a.group g) refl refl)) in
    record { parts = k.parts; maps = k.maps }

pub taken_told : TakenListTold
taken_told a x left writer ino uid h fit row told =
    let e : Entry = entries.Taken writer ino uid None in
    let k : Keeps a x h = subst (λ (s : State). Keeps a s h) (sym row.3) (taken_keeps (group_of_inode a ino) row.0 ino uid a h) in
    told_by a x h (leaves a x left e row tt (chunk_rows.decided a x left e fit row tt) (λ c. (beside.decided a x left e row).chains c tt)) k.parts k.maps told

pub given_told : GivenListTold
given_told a x left writer ino h fit row told =
    let e : Entry = entries.Given writer ino in
    let k : Keeps a x h = subst (λ (s : State). Keeps a s h) (sym row.4) (given_keeps (group_of_inode a ino) row.0 ino a h) in
    told_by a x h (leaves a x left e row tt (chunk_rows.decided a x left e fit row tt) (λ c. (beside.decided a x left e row).chains c tt)) k.parts k.maps told

-- ---- a run that fills the list

-- a list of owners that gains a run that nobody had
gains_run : (a x : State) (g owner : ℕ) (e : Extent) → e.group ≡ g → IsRunOf a x owner e → IsNobodys a e → AreTold a g → mappings x g ≡ give_mapping (plain_run owner e) (mappings a g)
    → ((t : Tuple) → has_metadata x g t ≡ (has_metadata a g t || has (tuples_of (plain_run owner e)) t)) → settled_forks x g ≡ settled_forks a g → AreTold x g
gains_run a x g owner e same run nobody told maps meta forks =
    subst (AreRuns (settled_own x g)) (sym maps)
    (mapping_given (settled_own a g) (settled_own x g) (mappings a g) (plain_run owner e) run.ends (subst (λ n. AreUntied (settled_own x n)) same run.untied)
    (run_given (settled_own a g) (settled_own x g) (plain_run owner e) fresh gained) told)
  where
    not_true : (b : Bool) → (b ≡ true → ⊥) → b ≡ false
    not_true true f = absurd (f refl)
    not_true false f = refl

    fresh : (t : Tuple) → has (tuples_of (plain_run owner e)) t ≡ true → has (settled_own a g) t ≡ false
    fresh t h = not_true (has (settled_own a g) t) (λ k. true≢false (sym (run_inside owner e t h).0 ∙ nobody t (subst (λ n. has (settled_own a n) t ≡ true) (sym same) k)))

    turn : (m r f : Bool) → ((m || r) || f) ≡ ((m || f) || r)
    turn true r f = refl
    turn false true true = refl
    turn false true false = refl
    turn false false true = refl
    turn false false false = refl

    gained : (t : Tuple) → has (settled_own x g) t ≡ (has (settled_own a g) t || has (tuples_of (plain_run owner e)) t)
    gained t =
        settled_is x g t ∙ ap₂ (λ y z. y || z) (meta t) (ap (λ ts. has ts t) forks)
        ∙ turn (has_metadata a g t) (has (tuples_of (plain_run owner e)) t) (has (settled_forks a g) t)
        ∙ ap (λ z. z || has (tuples_of (plain_run owner e)) t) (sym (settled_is a g t))

written_by : (p q : Group) → q.tree Rmap ≡ p.tree Rmap → IsWritten [] p → IsWritten [] q
written_by p q same w = record {
  edited = ap (λ (t : Index (RecOf Rmap)). if is_sick t.trust then false else true) same ∙ w.edited;
  readable = ap (λ (t : Index (RecOf Rmap)). is_readable t.reading) same ∙ w.readable;
}

-- metadata whose list is this one
listed_metadata : (a x : State) (g : ℕ) (list : List ℕ) (t : Tuple) → NewList a x g list → chunks x g ≡ chunks a g → has_metadata x g t
    ≡ (((((hasc (head_part a g) t || hasc (list_part list) t) || hasc (tree_part (a.group g)) t) || hasc (reserve_part (a.group g)) t) || hasc (limbo_part (a.group g)) t) || hasc (chunk_part (chunks a g)) t)
listed_metadata a x g list t new units =
    metadata_has x g t
    ∙ (λ i. ((((hasc (claimed_by Heads (number_of Fs) 0 ∷ log_claims (new.geometry i).log g) t || hasc (list_part (new.parts.list i)) t) || hasc (flat_map (λ k. map (claimed_by (Tree k) (tree_owner k)) (new.parts.blocks k i)) all_kinds) t)
    || hasc (map (λ (o : Owned). claimed_by Reserve o.owner o.block) (new.parts.reserve i)) t) || hasc (map (λ (o : Owned). claimed_by Limbo o.owner o.block) (new.parts.limbo i)) t) || hasc (chunk_part (units i)) t)

refilled_maps : (e : Extent) (a : State) → IsWritten [] (a.group e.group) → mappings (refilled e a) e.group ≡ give_mapping (plain_run (number_of Ag) e) (mappings a e.group)
unfolding refilled
refilled_maps e a w =
    let p : Group = record (a.group e.group) { free_list = (a.group e.group).free_list ++ numbers e.block e.count } in
    let same : (take_free [] e p).tree Rmap ≡ p.tree Rmap = spaced [] Rmap e p refl refl in
    ap (λ (q : Group). records_in q Rmap) (in_itself e.group (λ q. give_owner [] (number_of Ag) e (take_free [] e (record q { free_list = q.free_list ++ numbers e.block e.count }))) a)
    ∙ edited_recs [] (give_mapping (plain_run (number_of Ag) e)) (take_free [] e p) (written_by (a.group e.group) (take_free [] e p) same w)
    ∙ ap (λ (t : Index (RecOf Rmap)). give_mapping (plain_run (number_of Ag) e) (recs_of t.reading)) same

pub refilled_told : RefilledListTold
refilled_told a x left e fit row run told =
    let g : ℕ = e.group in
    let f : Entry = entries.Refilled e in
    let stay : ChunksStay a x = chunk_rows.decided a x left f fit row tt in
    let new : NewList a x g ((a.group g).free_list ++ numbers e.block e.count) = subst (λ (s : State). NewList a s g ((a.group g).free_list ++ numbers e.block e.count)) (sym row.1) (refilled_list e a) in
    let k : Leaves a x = leaves a x left f row tt stay (λ c. (beside.decided a x left f row).chains c tt) in
    gains_run a x g (number_of Ag) e refl run (takes_nobodys a x left f row told).0 (told g) (ap (λ (s : State). mappings s g) row.1 ∙ refilled_maps e a run.written)
    (λ t.
    listed_metadata a x g ((a.group g).free_list ++ numbers e.block e.count) t new (same_chunks a x k.geometry stay g)
    ∙ ap (λ z. ((((hasc (head_part a g) t || z) || hasc (tree_part (a.group g)) t) || hasc (reserve_part (a.group g)) t) || hasc (limbo_part (a.group g)) t) || hasc (chunk_part (chunks a g)) t)
    (list_both t (a.group g).free_list (numbers e.block e.count) ∙ ap (λ z. hasc (list_part (a.group g).free_list) t || z) (run_has FreeList (number_of Ag) e t refl))
    ∙ out_of (has (tuples_of (plain_run (number_of Ag) e)) t) (hasc (head_part a g) t) (hasc (list_part (a.group g).free_list) t) (hasc (tree_part (a.group g)) t) (hasc (reserve_part (a.group g)) t) (hasc (limbo_part (a.group g)) t) (hasc (chunk_part (chunks a g)) t)
    ∙ ap (λ z. z || has (tuples_of (plain_run (number_of Ag) e)) t) (sym (metadata_has a g t)))
    (k.forks g)
  where
    always : (h l t r o c : Bool) → (((((h || (l || true)) || t) || r) || o) || c) ≡ ((((((h || l) || t) || r) || o) || c) || true)
    always h l t r o c = up (((((h || (l || true)) || t) || r) || o) || c) (first h l t r o c) ∙ sym (last (((((h || l) || t) || r) || o) || c))
      where
        up : (z : Bool) → z ≡ true → z ≡ true
        up z e = e

        last : (z : Bool) → (z || true) ≡ true
        last true = refl
        last false = refl

        on : (y z : Bool) → y ≡ true → (y || z) ≡ true
        on true z e = refl
        on false z e = absurd (false≢true e)

        first : (h l t r o c : Bool) → (((((h || (l || true)) || t) || r) || o) || c) ≡ true
        first h l t r o c = on ((((h || (l || true)) || t) || r) || o) c (on (((h || (l || true)) || t) || r) o (on ((h || (l || true)) || t) r (on (h || (l || true)) t (last_of h (l || true) (last l)))))
          where
            last_of : (y z : Bool) → z ≡ true → (y || z) ≡ true
            last_of true z e = refl
            last_of false z e = e

    none_of : (y : Bool) → (y || false) ≡ y
    none_of true = refl
    none_of false = refl

    out_of : (n h l t r o c : Bool) → (((((h || (l || n)) || t) || r) || o) || c) ≡ ((((((h || l) || t) || r) || o) || c) || n)
    out_of true h l t r o c = always h l t r o c
    out_of false h l t r o c = ap (λ z. ((((h || z) || t) || r) || o) || c) (none_of l) ∙ sym (none_of (((((h || l) || t) || r) || o) || c))

-- ---- a run that leaves the list

in_numbers : (s n b : ℕ) → s ≤ b → b < s + n → is_in b (numbers s n) ≡ true
in_numbers s zero b l m = absurd (omega (arith, l, m))
in_numbers s (suc n) b l m = by (s == b) refl (λ o. in_numbers (s + 1) n b (further s b l o) (omega (arith, m)))
  where
    further : (s b : ℕ) → s ≤ b → (s == b) ≡ false → s + 1 ≤ b
    further s b l o = grind (arith, nat_tests)

    by : (k : Bool) → (s == b) ≡ k → ((s == b) ≡ false → is_in b (numbers (s + 1) n) ≡ true) → (k || is_in b (numbers (s + 1) n)) ≡ true
    by true q later = refl
    by false q later = later q

in_bounds : (s n b : ℕ) → in_span s n b ≡ true → (s ≤ b) × (b < s + n)
in_bounds s n b h = (grind (arith, nat_tests), grind (arith, nat_tests))

trimmed_maps : (e : Extent) (a : State) → IsWritten [] (a.group e.group) → mappings (trimmed e a) e.group ≡ take_mapping (plain_run (number_of Ag) e) (mappings a e.group)
unfolding trimmed
trimmed_maps e a w =
    let p : Group = record (a.group e.group) { free_list = filter (λ c. not (is_in_extent e c)) (a.group e.group).free_list } in
    ap (λ (q : Group). records_in q Rmap) (in_itself e.group (λ q. give_free [] e (take_owner [] (number_of Ag) e (record q { free_list = filter (λ c. not (is_in_extent e c)) q.free_list }))) a)
    ∙ ap (λ (t : Index (RecOf Rmap)). recs_of t.reading) (given_space [] Rmap e (take_owner [] (number_of Ag) e p) refl refl)
    ∙ edited_recs [] (take_mapping (plain_run (number_of Ag) e)) p (written_by (a.group e.group) p refl w)

module _ (a x : State) (left : List Kind) (e : Extent) (fit : HasFitting a.geometry) (row : Row a left (entries.Trimmed e) x) (alien : (t : Tuple) → t.owner ≡ number_of Ag → has (settled_forks a e.group) t ≡ false)
    (sound : (b : ℕ) → in_span e.block e.count b ≡ true → Sound (ledger_at a e.group b)) where
  abbrev g : ℕ
  g = e.group

  abbrev run : RmapRec
  run = plain_run (number_of Ag) e

  abbrev list : List ℕ
  list = (a.group g).free_list

  abbrev rest : List ℕ
  rest = filter (λ c. not (is_in_extent e c)) list

  -- tuples of the run are those of its blocks on a list
  as_listed : (t : Tuple) → hasc (list_part (numbers e.block e.count)) t ≡ has (tuples_of run) t
  as_listed t = run_has FreeList (number_of Ag) e t refl

  on_list : (b : ℕ) → in_span e.block e.count b ≡ true → is_in b list ≡ true
  on_list b i = let l = in_bounds e.block e.count b i in in_front b (length list - 16) list (each_number (λ c. is_in c (to_trim list)) e.block e.count b row.0.on_list l.0 l.1)

  run_there : (t : Tuple) → has (tuples_of run) t ≡ true → hasc (list_part list) t ≡ true
  run_there t h =
      let k = listed_has t (numbers e.block e.count) (as_listed t ∙ h) in
      has_listed t list (on_list t.block (run_inside (number_of Ag) e t h).0) k.1

  -- a block of the run has no claim left
  none_left : (b : ℕ) → in_span e.block e.count b ≡ true → owned_at b (claims x g) ≡ 0
  none_left b i =
      let s = sound b i in
      let there : 1 ≤ times b list = stood b list (on_list b i) in
      let hit : hits g b e ≡ 1 = ap (λ t. if t then at_span e.block e.count b else 0) (eq-eqb g g refl) ∙ ap (λ t. if t then 1 else 0) i in
      let n : ℕ = if hits g b e == 1 then times b list else 0 in
      let lost = trimmed_claims a x left e b n fit row refl in
      let as_times : n ≡ times b list = ap (λ y. if y == 1 then times b list else 0) hit in
      let alone : times b list ≤ alone_at b (claims a g) = list_least (lone b) a g (times b list) (lone_list b list) in
      let one = (s.single (more _ _ there alone)).0 in
      zero_left _ _ _ _ lost.owned_then as_times there one
    where
      more : (t l : ℕ) → 1 ≤ t → t ≤ l → 1 ≤ l
      more t l p q = omega (arith, p, q)

      zero_left : (y n o t : ℕ) → y + n ≡ o → n ≡ t → 1 ≤ t → o ≡ 1 → y ≡ 0
      zero_left y n o t p q r s = omega (arith, p, q, r, s)

  not_true : (b : Bool) → (b ≡ true → ⊥) → b ≡ false
  not_true true f = absurd (f refl)
  not_true false f = refl

  gone : (t : Tuple) → has (tuples_of run) t ≡ true → has_metadata x g t ≡ false
  gone t h = not_true (has_metadata x g t) (λ k.
      let i = (run_inside (number_of Ag) e t h).0 in
      let one = counted (metadata_claims x g) t k in
      never _ _ _ one (all_sum (λ (c : Claimed). if c.block == t.block then 1 else 0) x g) (none_left t.block i))
    where
      never : (m f y : ℕ) → 1 ≤ m → y ≡ m + f → y ≡ 0 → ⊥
      never m f y p q r = omega (arith, p, q, r)

  -- what of the list isn't the run's stays
  list_stays : (t : Tuple) → has (tuples_of run) t ≡ false → hasc (list_part rest) t ≡ hasc (list_part list) t
  list_stays t out = both_ways (hasc (list_part rest) t) (hasc (list_part list) t)
      (λ h. let k = listed_has t rest h in has_listed t list (and_parts (is_in t.block list) (not (is_in_extent e t.block)) (sym (in_rest (λ c. not (is_in_extent e c)) t.block list) ∙ k.0)).0 k.1)
      (λ h.
      let k = listed_has t list h in
      has_listed t rest (in_rest (λ c. not (is_in_extent e c)) t.block list ∙ ap₂ (λ y z. y && not z) k.0 (beside t out k.1)) k.1)
    where
      beside : (u : Tuple) → has (tuples_of run) u ≡ false → u ≡ list_tuple u.block → is_in_extent e u.block ≡ false
      beside u none q = not_true (is_in_extent e u.block) (λ i.
          let l = in_bounds e.block e.count u.block i in
          true≢false (sym (has_listed u (numbers e.block e.count) (in_numbers e.block e.count u.block l.0 l.1) q) ∙ as_listed u ∙ none))

  new : NewList a x g rest
  new = subst (λ (s : State). NewList a s g rest) (sym row.1) (trimmed_list e a)

  kept : Leaves a x
  kept = leaves a x left (entries.Trimmed e) row tt (chunk_rows.decided a x left (entries.Trimmed e) fit row tt) (λ c. (beside.decided a x left (entries.Trimmed e) row).chains c tt)

  other_parts : (t : Tuple) → has (tuples_of run) t ≡ false → has_metadata x g t ≡ has_metadata a g t
  other_parts t out =
      listed_metadata a x g rest t new (same_chunks a x kept.geometry kept.chunks g)
      ∙ ap (λ z. ((((hasc (head_part a g) t || z) || hasc (tree_part (a.group g)) t) || hasc (reserve_part (a.group g)) t) || hasc (limbo_part (a.group g)) t) || hasc (chunk_part (chunks a g)) t) (list_stays t out)
      ∙ sym (metadata_has a g t)

  in_all : (h l t r o c : Bool) → l ≡ true → (((((h || l) || t) || r) || o) || c) ≡ true
  in_all h l t r o c e = on ((((h || l) || t) || r) || o) c (on (((h || l) || t) || r) o (on ((h || l) || t) r (on (h || l) t (last h l e))))
    where
      on : (y z : Bool) → y ≡ true → (y || z) ≡ true
      on true z q = refl
      on false z q = absurd (false≢true q)

      last : (y z : Bool) → z ≡ true → (y || z) ≡ true
      last true z q = refl
      last false z q = q

  there : (t : Tuple) → has (tuples_of run) t ≡ true → has (settled_own a g) t ≡ true
  there t h =
      settled_is a g t
      ∙ ap (λ z. z || has (settled_forks a g) t)
      (metadata_has a g t ∙ in_all (hasc (head_part a g) t) (hasc (list_part list) t) (hasc (tree_part (a.group g)) t) (hasc (reserve_part (a.group g)) t) (hasc (limbo_part (a.group g)) t) (hasc (chunk_part (chunks a g)) t) (run_there t h))

  each : (t : Tuple) → has (settled_own x g) t ≡ (has (settled_own a g) t && not (has (tuples_of run) t))
  each t = by (has (tuples_of run) t) refl
    where
      none : (z : Bool) → false ≡ (z && false)
      none true = refl
      none false = refl

      all : (z : Bool) → z ≡ (z && true)
      all true = refl
      all false = refl

      by : (k : Bool) → has (tuples_of run) t ≡ k → has (settled_own x g) t ≡ (has (settled_own a g) t && not k)
      by true h = settled_is x g t ∙ ap₂ (λ y z. y || z) (gone t h) (ap (λ ts. has ts t) (kept.forks g) ∙ alien t (run_inside (number_of Ag) e t h).1) ∙ none (has (settled_own a g) t)
      by false h = settled_is x g t ∙ ap₂ (λ y z. y || z) (other_parts t h) (ap (λ ts. has ts t) (kept.forks g)) ∙ sym (settled_is a g t) ∙ all (has (settled_own a g) t)

  loses_run : IsRunOf a x (number_of Ag) e → AreTold a g → AreTold x g
  loses_run k told =
      subst (AreRuns (settled_own x g)) (sym (ap (λ (s : State). mappings s g) row.1 ∙ trimmed_maps e a k.written))
      (mapping_taken (settled_own a g) (settled_own x g) (mappings a g) run k.ends k.untied (run_taken (settled_own a g) (settled_own x g) run there each) told)

pub trimmed_told : TrimmedListTold
trimmed_told a x left e fit row run alien sound told = loses_run a x left e fit row alien sound run told

-- ---- a new chunk

chunk_maps : (a : State) (g i ino uid c : ℕ) → IsWritten [] (a.group g) → mappings (taken g i ino uid (Some c) a) g ≡ give_mapping (plain_run (number_of Inodes) (chunk_extent g c)) (mappings a g)
chunk_maps a g i ino uid c w =
    let e : Extent = chunk_extent g c in
    let p : Group = take_free [] e (a.group g) in
    let q : Group = give_owner [] (number_of Inodes) e p in
    let same : p.tree Rmap ≡ (a.group g).tree Rmap = spaced [] Rmap e (a.group g) refl refl in
    ap (λ (r : Group). records_in r Rmap) (made_group a g i ino uid c)
    ∙ ap (λ (t : Index (RecOf Rmap)). recs_of t.reading)
    (turned_tree false i Rmap (list_chunk c q) refl refl ∙ edited [] Fino Rmap (put_chunk (free_chunk c)) (edit [] Ino (put_chunk (free_chunk c)) q) refl ∙ edited [] Ino Rmap (put_chunk (free_chunk c)) q refl)
    ∙ edited_recs [] (give_mapping (plain_run (number_of Inodes) e)) p (written_by (a.group g) p same w)
    ∙ ap (λ (t : Index (RecOf Rmap)). give_mapping (plain_run (number_of Inodes) e) (recs_of t.reading)) same

module _ (a x : State) (left : List Kind) (writer ino uid c : ℕ) (fit : HasFitting a.geometry) (made : IsMade a x left (entries.Taken writer ino uid (Some c))) (words : AreWords (x.group (group_of_inode a ino)))
    (readable : is_readable ((a.group (group_of_inode a ino)).tree Ino).reading ≡ true) where
  abbrev own : ℕ
  own = group_of_inode a ino

  abbrev entry : Entry
  entry = entries.Taken writer ino uid (Some c)

  step : Step a left entry x
  step = decided_stands a x left entry made.row made.leaves made.met words

  at : x.geometry ≡ a.geometry
  at = (beside.changes_one_group a x left entry step).geometry

  its : MadeAt a own c
  its = made_at a made.row.1.0 own c made.row.1.2

  now : (u : ℕ) → is_chunk x own u ≡ (is_chunk a own u || ((own == own) && (8 * u == c)))
  now = chunk_is_made a x left writer ino uid c fit step readable own

  unit_there : is_chunk x own its.unit ≡ true
  unit_there = now its.unit ∙ ap₂ (λ y z. is_chunk a own its.unit || (y && z)) (eq-eqb own own refl) (eq-eqb (8 * its.unit) c its.block) ∙ or_one (is_chunk a own its.unit)
    where
      or_one : (y : Bool) → (y || true) ≡ true
      or_one true = refl
      or_one false = refl

  unit_only : (u : ℕ) → (u == its.unit) ≡ false → is_chunk x own u ≡ is_chunk a own u
  unit_only u out = now u ∙ ap₂ (λ y z. is_chunk a own u || (y && z)) (eq-eqb own own refl) (eighth u its.unit c its.block out) ∙ or_none (is_chunk a own u)
    where
      or_none : (y : Bool) → (y || false) ≡ y
      or_none true = refl
      or_none false = refl

      eighth : (u v n : ℕ) → 8 * v ≡ n → (u == v) ≡ false → (8 * u == n) ≡ false
      eighth u v n d out = grind (arith, nat_tests)

  chunk_owners : (t : Tuple) → hasc (chunk_part (chunks x own)) t ≡ (hasc (chunk_part (chunks a own)) t || has (tuples_of (plain_run (number_of Inodes) (chunk_extent own c))) t)
  chunk_owners t =
      let H : ℕ → Bool = λ u. hasc (of_run Chunk (number_of Inodes) (numbers (8 * u) 8)) t in
      let D : ℕ → List Claimed = λ u. of_run Chunk (number_of Inodes) (numbers (8 * u) 8) in
      hasc_flat D (chunks x own) t
      ∙ ap (list_any H) (own_chunks x own ∙ (λ i. filter (is_chunk x own) (numbers 0 (group_len_of (at i) own / 8))))
      ∙ unit_new H (is_chunk a own) (is_chunk x own) its.unit (group_len_of a.geometry own / 8) its.inside unit_there unit_only
      ∙ ap₂ (λ y z. y || z) (ap (list_any H) (sym (own_chunks a own)) ∙ sym (hasc_flat D (chunks a own) t)) (ap (λ n. hasc (of_run Chunk (number_of Inodes) (numbers n 8)) t) its.block ∙ run_has Chunk (number_of Inodes) (chunk_extent own c) t refl)

  same_parts_then : SameParts (a.group own) (x.group own)
  same_parts_then = subst (SameParts (a.group own)) (sym (ap (λ (y : State). y.group own) made.row.3 ∙ made_group a own made.row.0 ino uid c)) (made_parts own made.row.0 c (a.group own))

  metadata_more : (t : Tuple) → has_metadata x own t ≡ (has_metadata a own t || has (tuples_of (plain_run (number_of Inodes) (chunk_extent own c))) t)
  metadata_more t =
      let p : SameParts (a.group own) (x.group own) = same_parts_then in
      metadata_has x own t
      ∙ ap₂ (λ y z. y || z)
      (λ i. (((hasc (claimed_by Heads (number_of Fs) 0 ∷ log_claims (at i).log own) t || hasc (list_part (p.list i)) t) || hasc (flat_map (λ k. map (claimed_by (Tree k) (tree_owner k)) (p.blocks k i)) all_kinds) t)
      || hasc (map (λ (o : Owned). claimed_by Reserve o.owner o.block) (p.reserve i)) t) || hasc (map (λ (o : Owned). claimed_by Limbo o.owner o.block) (p.limbo i)) t)
      (chunk_owners t)
      ∙ again ((((hasc (head_part a own) t || hasc (list_part (a.group own).free_list) t) || hasc (tree_part (a.group own)) t) || hasc (reserve_part (a.group own)) t) || hasc (limbo_part (a.group own)) t) (hasc (chunk_part (chunks a own)) t)
      (has (tuples_of (plain_run (number_of Inodes) (chunk_extent own c))) t)
      ∙ ap (λ z. z || has (tuples_of (plain_run (number_of Inodes) (chunk_extent own c))) t) (sym (metadata_has a own t))
    where
      again : (p q r : Bool) → (p || (q || r)) ≡ ((p || q) || r)
      again true q r = refl
      again false q r = refl

  gains_chunk : IsRunOf a x (number_of Inodes) (chunk_extent own c) → ((h : ℕ) → AreTold a h) → AreTold x own
  gains_chunk k told =
      gains_run a x own (number_of Inodes) (chunk_extent own c) refl k (takes_nobodys a x left entry made.row told).0 (told own)
      (ap (λ (s : State). mappings s own) made.row.3 ∙ chunk_maps a own made.row.0 ino uid c k.written) metadata_more (other_entries_keep a x left entry own fit step readable)

pub chunk_told : ChunkListTold
chunk_told a x left writer ino uid c fit made words readable run told = gains_chunk a x left writer ino uid c fit made words readable run told
