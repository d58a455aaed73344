-- Mappings of groups that an entry isn't about go on telling settled owners.
use Rattle.std.proofs.Common.{◌≡◌, ℕ, ◌*◌, ◌==◌, ◌&&◌, ◌||◌, Bool, true, false, not, List, [], ◌∷◌, ◌++◌, filter, map, Some, refl, sym, ap, ap₂, subst, ◌∙◌, arith}
use Rattle.std.specs.Prelude.{◌/◌, if◌then◌else◌}
use Rattle.std.proofs.lemmas.Bool.{false≢true}
use Rattle.std.proofs.lemmas.Bool.Decides.{nat_tests}
use Rattle.law_writers.proofs.Change.Convert.{converted_keeps}
use Rattle.law_writers.proofs.Change.Firsts.{mapped_keeps, shared_keeps, unmapped_keeps}
use Rattle.law_writers.proofs.Change.Made.{chunk_is_made}
use Rattle.law_writers.proofs.Change.Rows.{step_keeps_chunks}
use Rattle.law_writers.proofs.Change.Settled.{finished_step_moves, other_entries_keep}
use Rattle.law_writers.specs.Change.Settled.{IsNextOnce, given_next, taken_next}
use Rattle.fs_change.proofs.Beside as beside
use Rattle.fs_change.proofs.Sets.{has_both, has_passing, has_set}
use Rattle.fs_change.specs.Chains.{given_by, gives, run_of, settled_forks, taken_by, takes, tuples_of, word_taken}
use Rattle.fs_change.specs.Parts.{records_in}
use Rattle.fs_change.specs.Step.{Step, group_of_entry}
use Rattle.fs_state.specs.Chunks.{chunks}
use Rattle.fs_state.specs.Claims.{Claimed}
use Rattle.fs_state.specs.Lists.{numbers}
use Rattle.fs_state.specs.Own.{set_of, tuple_of}
use Rattle.fs_model.specs.declared.entry.Entry.{Entry}
use Rattle.fs_model.specs.declared.entry.Entry.TheVariants as entries
use Rattle.fs_state.specs.Apart.{is_chunk}
use Rattle.fs_state.specs.State.{Group, State}
use Rattle.fs_state.specs.declared.intent.Intent.{Intent}
use Rattle.geom.specs.Apart.{HasFitting}
use Rattle.geom.specs.Layout.{group_len_of}
use Rattle.law_repairs.proofs.Repair.Totals.{metadata_parts, parts}
use Rattle.rmap_recs.specs.Runs.{has}
use Rattle.rmap_recs.specs.declared.tuples.Tuple.{Tuple}
use Rattle.sblock.specs.declared.kind.Kind.{Kind}
use Rattle.sblock.specs.declared.kind.Kind.TheVariants.{Rmap}
use Rattle.law_cuts.specs.Spare.Cut.{ElsewhereTold, LeavesElsewhere}
use Rattle.law_cuts.proofs.Spare.Cut.{SameOwners, told_same}

or_none : (b : Bool) → (b || false) ≡ b
or_none true = refl
or_none false = refl

-- ---- chunks

chunks_by : (a z : State) (h : ℕ) → z.geometry ≡ a.geometry → ((u : ℕ) → is_chunk z h u ≡ is_chunk a h u) → chunks z h ≡ chunks a h
unfolding chunks
chunks_by a z h at stay = λ i. filter (λ u. stay u i) (numbers 0 (group_len_of (at i) h / 8))

-- a new one is of the entry's group
chunk_stays : (a z : State) (left : List Kind) (e : Entry) (h u : ℕ) → HasFitting a.geometry → Step a left e z → LeavesElsewhere a e → (h == group_of_entry a e) ≡ false → is_chunk z h u ≡ is_chunk a h u
chunk_stays a z left (entries.Taken writer ino uid (Some b)) h u fit s asked out =
    chunk_is_made a z left writer ino uid b fit s asked h u ∙ ap (λ (t : Bool). is_chunk a h u || (t && (8 * u == b))) out ∙ or_none (is_chunk a h u)
chunk_stays a z left (entries.Mapped m) h u fit s asked out = step_keeps_chunks a z left (entries.Mapped m) fit s tt h u
chunk_stays a z left (entries.Unmapped m) h u fit s asked out = step_keeps_chunks a z left (entries.Unmapped m) fit s tt h u
chunk_stays a z left (entries.Converted m) h u fit s asked out = step_keeps_chunks a z left (entries.Converted m) fit s tt h u
chunk_stays a z left (entries.Shared m) h u fit s asked out = step_keeps_chunks a z left (entries.Shared m) fit s tt h u
chunk_stays a z left (entries.RmapDone c ino g b n) h u fit s asked out = step_keeps_chunks a z left (entries.RmapDone c ino g b n) fit s asked.1 h u
chunk_stays a z left e h u fit s asked out = step_keeps_chunks a z left e fit s asked h u

-- ---- a finished step of another group

given_none : (i : Intent) (h : ℕ) → (i.group == h) ≡ false → given_by h i ≡ []
given_none i h out = ap (λ (t : Bool). if gives i.kind then (if t then tuples_of (run_of i i.word) else []) else []) out ∙ by (gives i.kind)
  where
    by : (t : Bool) → ◌≡◌ {A = List Tuple} (if t then [] else []) []
    by true = refl
    by false = refl

taken_none : (i : Intent) (h : ℕ) → (i.group == h) ≡ false → taken_by h i ≡ []
taken_none i h out = ap (λ (t : Bool). if takes i.kind then (if t then tuples_of (run_of i (word_taken i)) else []) else []) out ∙ by (takes i.kind)
  where
    by : (t : Bool) → ◌≡◌ {A = List Tuple} (if t then [] else []) []
    by true = refl
    by false = refl

away : (m n k : ℕ) → m ≡ n → (k == n) ≡ false → (m == k) ≡ false
away m n k e out = grind (arith, nat_tests)

-- gives and takes nothing here
module _ (a z : State) (left : List Kind) (c ino g b n h : ℕ) (fit : HasFitting a.geometry) (s : Step a left (entries.RmapDone c ino g b n) z) (asked : LeavesElsewhere a (entries.RmapDone c ino g b n)) (out : (h == g) ≡ false) where
  abbrev i : Intent
  i = s.row.0

  abbrev changed : List Tuple → List Tuple → List Tuple
  changed old new = set_of (filter (λ u. not (has old u)) (settled_forks a h) ++ new)

  elsewhere : (i.group == h) ≡ false
  elsewhere = away i.group g h s.row.2.group out

  no_given : (u : Tuple) → has (given_by h i) u ≡ true → ⊥
  no_given u k = false≢true (sym (ap (λ (ts : List Tuple). has ts u) (given_none i h elsewhere)) ∙ k)

  no_taken : (u : Tuple) → has (taken_by h i) u ≡ true → ⊥
  no_taken u k = false≢true (sym (ap (λ (ts : List Tuple). has ts u) (taken_none i h elsewhere)) ∙ k)

  once : IsNextOnce a z h (i ∷ s.row.1)
  once = record { there = λ u k. absurd (no_given u k); given_once = λ u k. absurd (no_given u k); gone = λ u k. absurd (no_taken u k); taken_once = λ u k. absurd (no_taken u k) }

  and_all : (y : Bool) → (y && true) ≡ y
  and_all true = refl
  and_all false = refl

  finished_beside : (t : Tuple) → has (settled_forks z h) t ≡ has (settled_forks a h) t
  finished_beside t =
      ap (λ (ts : List Tuple). has ts t) (finished_step_moves a z left c ino g b n h fit asked.0 s asked.1 (subst (IsNextOnce a z h) (sym s.row.2.next) once))
      ∙ ap (λ (is : List Intent). has (changed (taken_next h is) (given_next h is)) t) s.row.2.next
      ∙ ap₂ (λ (old new : List Tuple). has (changed old new) t) (taken_none i h elsewhere) (given_none i h elsewhere)
      ∙ has_set (filter (λ u. not (has [] u)) (settled_forks a h) ++ []) t
      ∙ has_both (filter (λ u. not (has [] u)) (settled_forks a h)) [] t
      ∙ or_none (has (filter (λ u. not (has [] u)) (settled_forks a h)) t)
      ∙ has_passing (λ u. not (has [] u)) (settled_forks a h) t
      ∙ and_all (has (settled_forks a h) t)

-- ---- settled owners of forks

forks_beside : (a z : State) (left : List Kind) (e : Entry) (h : ℕ) → HasFitting a.geometry → Step a left e z → LeavesElsewhere a e → (h == group_of_entry a e) ≡ false → (t : Tuple) → has (settled_forks z h) t ≡ has (settled_forks a h) t
forks_beside a z left (entries.Mapped m) h fit s asked out t = ap (λ (ts : List Tuple). has ts t) (mapped_keeps a z left m h fit s asked.0 asked.1)
forks_beside a z left (entries.Unmapped m) h fit s asked out t = ap (λ (ts : List Tuple). has ts t) (unmapped_keeps a z left m h fit s asked.0 asked.1)
forks_beside a z left (entries.Converted m) h fit s asked out t = ap (λ (ts : List Tuple). has ts t) (converted_keeps a z left m h fit s asked.0 asked.1)
forks_beside a z left (entries.Shared m) h fit s asked out t = ap (λ (ts : List Tuple). has ts t) (shared_keeps a z left m h fit s asked.0 asked.1)
forks_beside a z left (entries.RmapDone c ino g b n) h fit s asked out t = finished_beside a z left c ino g b n h fit s asked out t
forks_beside a z left e h fit s asked out t = ap (λ (ts : List Tuple). has ts t) (other_entries_keep a z left e h fit s asked)

-- ---- the entry

pub elsewhere_told : ElsewhereTold
elsewhere_told a z left e h fit s asked out told = told_same a z h same told
  where
    at : z.geometry ≡ a.geometry
    at = (beside.changes_one_group a z left e s).geometry

    group : z.group h ≡ a.group h
    group = (beside.changes_one_group a z left e s).groups h out

    units : chunks z h ≡ chunks a h
    units = chunks_by a z h at (λ u. chunk_stays a z left e h u fit s asked out)

    same : SameOwners a z h
    same = record {
      metadata = λ t. ap (λ (cs : List Claimed). has (map tuple_of cs) t) (metadata_parts z h ∙ (λ i. parts (at i) h (group i) (units i)) ∙ sym (metadata_parts a h));
      forks = forks_beside a z left e h fit s asked out;
      maps = ap (λ (p : Group). records_in p Rmap) group;
    }
