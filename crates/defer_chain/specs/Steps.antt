-- The intents of a chain as a list, and what a step leaves of it ("Eventual Consistency").
use Rattle.std.specs.Prelude.{◌≡◌, ℕ, ◌+◌, ◌-◌, ◌*◌, ◌^◌, ◌==◌, ◌&&◌, nat_lt, nat_le, Bool, true, false, List, [], ◌∷◌, ◌++◌, take, drop, sum_by, Option, Some, None, option_to_list, option_map, if◌then◌else◌}
use Rattle.std.specs.List.{list_all, slice_get}
use Rattle.fs_state.specs.declared.intent.Intent.{Intent}
use Rattle.fs_state.specs.declared.intent.IntentKind.{IntentKind}
use Rattle.fs_state.specs.declared.intent.IntentKind.TheVariants.{RmapAdd, RmapRemove, RmapChange, RefMore, RefLess, Free}
use Rattle.defer_chain.specs.declared.kinds.Due.{Due}
use Rattle.defer_chain.specs.declared.kinds.Due.TheVariants.{Entries, Blocks, Deltas}
use Rattle.defer_chain.specs.declared.kinds.StepKind.{StepKind}
use Rattle.defer_chain.specs.declared.kinds.StepKind.TheVariants as steps

-- which step an intent needs
abbrev pub step_of : IntentKind → StepKind
step_of RmapAdd = steps.Rmap
step_of RmapRemove = steps.Rmap
step_of RmapChange = steps.Rmap
step_of RefMore = steps.Ref
step_of RefLess = steps.Ref
step_of Free = steps.Free

abbrev pub is_rmap : IntentKind → Bool
is_rmap RmapAdd = true
is_rmap RmapRemove = true
is_rmap RmapChange = true
is_rmap RefMore = false
is_rmap RefLess = false
is_rmap Free = false

abbrev pub is_ref : IntentKind → Bool
is_ref RmapAdd = false
is_ref RmapRemove = false
is_ref RmapChange = false
is_ref RefMore = true
is_ref RefLess = true
is_ref Free = false

abbrev pub is_less : IntentKind → Bool
is_less RmapAdd = false
is_less RmapRemove = false
is_less RmapChange = false
is_less RefMore = false
is_less RefLess = true
is_less Free = false

abbrev pub is_free : IntentKind → Bool
is_free RmapAdd = false
is_free RmapRemove = false
is_free RmapChange = false
is_free RefMore = false
is_free RefLess = false
is_free Free = true

-- the run of the intent has blocks, and an end
abbrev pub has_run : Intent → Bool
has_run i = nat_lt 0 i.count && nat_lt (i.block + i.count) (2 ^ 32)

abbrev pub is_count : Intent → Bool
is_count i = is_ref i.kind && has_run i

-- intents of reverse mappings, then those of reference counts
unfoldable pub in_order : List Intent → Bool
in_order [] = true
in_order (i ∷ is) = if is_rmap i.kind then has_run i && in_order is else is_count i && list_all is_count is

-- what is read past the end of a list
abbrev pub no_intent : Intent
no_intent = record { kind = RmapAdd; ino = 0; word = 0; group = 0; block = 0; count = 0 }

-- some intents of an array
unfoldable pub steps_in : List Intent → ℕ → ℕ → List Intent
steps_in steps done end = take (end - done) (drop done steps)

-- what is still owed: the run to be freed, and the steps that aren't done
abbrev pub owed_in : Option Intent → List Intent → ℕ → ℕ → List Intent
owed_in free steps done end = option_to_list free ++ steps_in steps done end

-- the steps are in order, and a run to be freed stands in front of counts alone
abbrev pub front_fits : Option Intent → List Intent → Bool
front_fits None is = in_order is
front_fits (Some f) is = is_free f.kind && (has_run f && list_all is_count is)

abbrev pub are_owed : Option Intent → List Intent → ℕ → ℕ → Bool
are_owed free steps done end = nat_le done end && (nat_le end 5 && front_fits free (steps_in steps done end))

-- the first of them passes
abbrev pub first_is : (IntentKind → Bool) → List Intent → Bool
first_is test [] = false
first_is test (i ∷ is) = test i.kind

abbrev pub count_of_first : List Intent → ℕ
count_of_first [] = 0
count_of_first (i ∷ is) = i.count

-- the first n blocks of an intent, to be freed, and what is left of it
abbrev pub freed : ℕ → Intent → Intent
freed n i = record { kind = Free; ino = 0; word = 0; group = i.group; block = i.block; count = n }

abbrev pub left_of : ℕ → Intent → Intent
left_of n i = record i { block = i.block + n; count = i.count - n }

abbrev pub freed_if : Bool → ℕ → Intent → List Intent
freed_if true n i = freed n i ∷ []
freed_if false n i = []

abbrev pub left_if : Bool → ℕ → Intent → List Intent
left_if true n i = []
left_if false n i = left_of n i ∷ []

-- What is owed after a step changed the count of the first n blocks of the first intent? They leave it, and where they
-- have no owner left they are to be freed before the rest.
unfoldable pub stretched : ℕ → Bool → List Intent → List Intent
stretched n free [] = []
stretched n free (i ∷ is) = freed_if free n i ++ (left_if (n == i.count) n i ++ is)

-- ---- what is due

-- how many entries of the journal the steps of an intent add at most: an entry and a mark; an entry and two marks for
-- each block whose count changes, and as many where it is freed; an entry and two marks
abbrev pub entries_of : Intent → ℕ
entries_of i = if is_rmap i.kind then 2 else if is_less i.kind then 6 * i.count else if is_ref i.kind then 3 * i.count else 3

-- how many steps an intent needs at most
abbrev pub steps_of : Intent → ℕ
steps_of i = if is_less i.kind then 2 * i.count else if is_ref i.kind then i.count else 1

-- how many differences of owners an intent makes
abbrev pub deltas_of : IntentKind → ℕ
deltas_of RmapAdd = 1
deltas_of RmapRemove = 1
deltas_of RmapChange = 2
deltas_of RefMore = 0
deltas_of RefLess = 0
deltas_of Free = 0

-- what the steps of an intent may use; a step frees 160 blocks at most
abbrev pub amount_of : Due → Intent → ℕ
amount_of Entries i = entries_of i
amount_of (Blocks g) i = if i.group == g then 160 * steps_of i else 0
amount_of Deltas i = deltas_of i.kind

-- What is due to all steps of a chain?
unfoldable pub due_of : Due → List Intent → ℕ
due_of what is = sum_by (amount_of what) is

abbrev pub counted_in : ℕ → Intent → ℕ
counted_in g i = if i.group == g then 1 else 0

-- How many unfinished intents of a group are there?
unfoldable pub owed_to : ℕ → List Intent → ℕ
owed_to g is = sum_by (counted_in g) is
