-- What chains still owe, and the owners of blocks as they stand once all of it is done or undone (Online Fsck Design,
-- "Eventual Consistency").
use Rattle.std.specs.Prelude.{ℕ, ◌+◌, ◌==◌, ◌≡◌, Bool, true, false, not, List, [], ◌++◌, map, filter, flat_map, if◌then◌else◌}
use Rattle.std.specs.List.{list_any}
use Rattle.rmap_recs.specs.Runs.{tuple_at, has}
use Rattle.rmap_recs.specs.declared.records.RmapRec.{RmapRec}
use Rattle.rmap_recs.specs.declared.tuples.Tuple.{Tuple}
use Rattle.fs_state.specs.State.{State}
use Rattle.fs_state.specs.declared.intent.Intent.{Intent}
use Rattle.fs_state.specs.declared.intent.IntentKind.{IntentKind}
use Rattle.fs_state.specs.declared.intent.IntentKind.TheVariants.{RmapAdd, RmapRemove, RmapChange, RefMore, RefLess, Free}
use Rattle.fs_state.specs.Claims.{metadata_claims, fork_claims, unwritten}
use Rattle.fs_state.specs.Lists.{numbers}
use Rattle.fs_state.specs.Own.{tuple_of, set_of}

-- so many chains may be open; a new one gets the lowest number that no open one has
abbrev pub most_chains : ℕ
most_chains = 16

-- What do all chains still owe?
unfoldable pub pending : State → List Intent
pending a = flat_map a.chains (numbers 0 most_chains)

-- ---- in reverse mappings

-- the run of an intent, with this word of its first block
abbrev pub run_of : Intent → ℕ → RmapRec
run_of i word = record { start = i.block; count = i.count; owner = i.ino; word = word }

abbrev pub tuples_of : RmapRec → List Tuple
tuples_of r = map (tuple_at r) (numbers 0 r.count)

-- its owners in the group
abbrev pub tuples_in : ℕ → Intent → ℕ → List Tuple
tuples_in g i word = if i.group == g then tuples_of (run_of i word) else []

-- whether a step of this kind gives owners, and whether it takes some
abbrev pub gives : IntentKind → Bool
gives RmapAdd = true
gives RmapRemove = false
gives RmapChange = true
gives RefMore = false
gives RefLess = false
gives Free = false

abbrev pub takes : IntentKind → Bool
takes RmapAdd = false
takes RmapRemove = true
takes RmapChange = true
takes RefMore = false
takes RefLess = false
takes Free = false

abbrev pub is_change : IntentKind → Bool
is_change RmapAdd = false
is_change RmapRemove = false
is_change RmapChange = true
is_change RefMore = false
is_change RefLess = false
is_change Free = false

-- the word of the mapping that is taken: that of the unwritten one, where it changes
abbrev pub word_taken : Intent → ℕ
word_taken i = if is_change i.kind then i.word + unwritten else i.word

-- Which owners will the intent give blocks of the group, and which will it take from them?
abbrev pub given_by : ℕ → Intent → List Tuple
given_by g i = if gives i.kind then tuples_in g i i.word else []

abbrev pub taken_by : ℕ → Intent → List Tuple
taken_by g i = if takes i.kind then tuples_in g i (word_taken i) else []

abbrev pub owed_gifts : State → ℕ → List Tuple
owed_gifts a g = flat_map (given_by g) (pending a)

abbrev pub owed_takings : State → ℕ → List Tuple
owed_takings a g = flat_map (taken_by g) (pending a)

-- ---- settled

-- a set without what is still to be given, and with what is still to be taken
abbrev pub settled_by : List Tuple → List Tuple → List Tuple → List Tuple
settled_by gifts takings ts = set_of (filter (λ t. not (has gifts t)) ts ++ takings)

-- Which blocks of a group would forks have, if what is pending hadn't begun? So do reverse mappings still say.
unfoldable pub settled_forks : State → ℕ → List Tuple
settled_forks a g = settled_by (owed_gifts a g) (owed_takings a g) (map tuple_of (fork_claims a g))

-- Who would own which block of a group then?
unfoldable pub settled_own : State → ℕ → List Tuple
settled_own a g = set_of (map tuple_of (metadata_claims a g) ++ settled_forks a g)

-- ---- quiet

-- Is a group quiet? No chain owes it anything.
unfoldable pub is_quiet : State → ℕ → Bool
is_quiet a g = not (list_any (λ i. i.group == g) (pending a))

abbrev pub Quiet : State → ℕ → Type 0
Quiet a g = is_quiet a g ≡ true
