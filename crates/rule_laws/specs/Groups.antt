-- A run that groups give, a stretch of one count, and what chains owe a group: as rules have them, and as steps do.
use Rattle.std.specs.Prelude.{◌≡◌, ◌<◌, ℕ, ◌==◌, nat_lt, Bool, false, List, [], map, filter, find, length, Option, Some, None, Result, Ok, Err, option_map}
use Rattle.fs_model.specs.declared.entry.Extent.{Extent}
use Rattle.fs_state.specs.State.{State}
use Rattle.fs_state.specs.declared.intent.Intent.{Intent}
use Rattle.span_recs.specs.declared.refcount.RefcRec.{RefcRec}
use Rattle.sblock.specs.declared.kind.Kind.TheVariants.{Cnt}
use Rattle.defer_chain.specs.Owed.{owed}
use Rattle.defer_chain.specs.Stretch.{counter_of, owners_of, stretch_count}
use Rattle.defer_chain.specs.declared.chain.Chain.{Chain}
use Rattle.free_space.specs.Choice.{choice}
use Rattle.free_space.specs.declared.choice.GroupSpace.{GroupSpace}
use Rattle.free_space.specs.declared.choice.NoRun.{NoRun}
use Rattle.intent_drain.specs.Chains.{chain_at, count_in}
use Rattle.fs_change.specs.Chains.{is_quiet}
use Rattle.fs_change.specs.Choice.{chosen_of, fitting, is_usable, last_of, space_kinds}
use Rattle.fs_change.specs.Parts.{records_in, sick_in}
use Rattle.fs_change.specs.Records.{count_at, stretch}

-- ---- a run of free space

-- what the rule asks of a group, by a state and its gates, where no tree is too large to be edited
abbrev pub space_of : State → (ℕ → Bool) → ℕ → ℕ → GroupSpace
space_of a gates wanted g = record {
  group = g;
  is_open = gates g;
  sick = find (sick_in (a.group g)) space_kinds;
  is_large = false;
  fit = fitting wanted (records_in (a.group g) Cnt);
  last = last_of (records_in (a.group g) Cnt);
}

abbrev pub run_in : Result Extent NoRun → Option Extent
run_in (Ok e) = Some e
run_in (Err why) = None

-- of groups in the order in which they are tried, the rule gives the run that a step takes of the usable ones
abbrev pub ChoosesAlike : Type 0
ChoosesAlike = (a : State) (gates : ℕ → Bool) (wanted : ℕ) (gs : List ℕ) → run_in (choice wanted (map (space_of a gates wanted) gs)) ≡ chosen_of a wanted (filter (is_usable a gates space_kinds) gs)

-- ---- a stretch of one count

abbrev pub next_start : List RefcRec → ℕ → Option ℕ
next_start rs b = option_map (λ r. r.start) (find (λ r. nat_lt b r.start) rs)

pub record CountsAlike (rs : List RefcRec) (b n : ℕ) : Type 0 where
  pub reach : stretch_count b n (counter_of rs b) (next_start rs b) ≡ stretch rs b n
  pub count : owners_of (counter_of rs b) ≡ count_at rs b

-- ---- unfinished intents

abbrev pub owed_of : Option Chain → List Intent
owed_of None = []
owed_of (Some c) = owed c

-- the chains of a drain are those of a state
pub record AreChainsOf (a : State) (cs : List (Option Chain)) : Type 0 where
  pub all : length cs ≡ 16
  pub each : (n : ℕ) → n < 16 → a.chains n ≡ owed_of (chain_at cs n)

-- a group is quiet where the count is 0
abbrev pub QuietAlike : Type 0
QuietAlike = (a : State) (cs : List (Option Chain)) (g : ℕ) → AreChainsOf a cs → is_quiet a g ≡ (count_in g cs == 0)
