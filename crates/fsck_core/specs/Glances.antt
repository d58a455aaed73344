-- What the accessors tell behind an event.
use Rattle.std.specs.Prelude.{ℕ, List, Option, Some, None, length, option_map}
use Rattle.std.specs.List.{slice_get}
use Rattle.std.specs.Option.{option_or}
use Rattle.ag_headers.specs.Ring.{entries}
use Rattle.core_calls.specs.declared.answers.Answer.{Answer}
use Rattle.core_calls.specs.declared.answers.Answer.TheVariants.{Chain as IsChain, Taken}
use Rattle.core_calls.specs.declared.answers.Glance.{Glance}
use Rattle.core_calls.specs.declared.asks.Ask.{Ask}
use Rattle.core_calls.specs.declared.asks.Ask.TheVariants as asks
use Rattle.core_notes.specs.declared.note.Asker.{Asker}
use Rattle.core_parts.specs.declared.groups.GroupKept.{GroupKept}
use Rattle.core_parts.specs.declared.parts.Parts.{Parts}
use Rattle.defer_chain.specs.Owed.{owed}
use Rattle.defer_chain.specs.Steps.{step_of}
use Rattle.defer_chain.specs.declared.chain.Chain.{Chain}
use Rattle.fs_state.specs.declared.intent.Intent.{Intent}
use Rattle.fsck_core.specs.Asks.{group_asked, phase_of_group}
use Rattle.intent_drain.specs.Chains.{chain_at}
use Rattle.intent_drain.specs.Drains.{chains_of}

-- the chain that an event is asked for
abbrev pub chain_asked : Ask → Option ℕ
chain_asked (asks.MapFirst chain offset count) = Some chain
chain_asked (asks.UnmapFirst chain offset count) = Some chain
chain_asked (asks.StripFirst chain) = Some chain
chain_asked (asks.ShareFirst chain offset to_offset count) = Some chain
chain_asked (asks.ConvertFirst chain offset count) = Some chain
chain_asked (asks.RmapStep chain) = Some chain
chain_asked (asks.RefStep chain) = Some chain
chain_asked (asks.FreeStep chain) = Some chain
chain_asked (asks.GiveInode chain) = Some chain
chain_asked (asks.End chain) = Some chain
chain_asked ask = None

-- or that it has opened
abbrev pub chain_told : Answer → Option ℕ
chain_told (IsChain chain) = Some chain
chain_told (Taken ino chain) = Some chain
chain_told answer = None

abbrev pub chain_behind : Ask → Answer → Option ℕ
chain_behind ask answer = option_or (chain_asked ask) (chain_told answer)

abbrev pub chain_named : List (Option Chain) → Option ℕ → Option Chain
chain_named cs None = None
chain_named cs (Some n) = chain_at cs n

-- the first of what it owes
abbrev pub first_owed : Option Chain → Option Intent
first_owed None = None
first_owed (Some c) = slice_get (owed c) 0

-- how long a group's free list is; 0 where there is no such group
abbrev pub list_in_place : Option GroupKept → ℕ
list_in_place None = 0
list_in_place (Some k) = length (entries k.heads.list)

abbrev pub list_of_group : List GroupKept → Option ℕ → ℕ
list_of_group ks None = 0
list_of_group ks (Some g) = list_in_place (slice_get ks g)

-- by the chain and the event's own group
abbrev pub glance_by : {D : Type 0} → Parts D → Option Intent → Option ℕ → Glance
glance_by p next group = record {
  next = option_map (λ i. step_of i.kind) next;
  group = option_map (λ i. i.group) next;
  list = list_of_group p.groups.items (option_or (option_map (λ i. i.group) next) group);
  phase = phase_of_group p.units.items group;
}

-- behind an event with this answer
abbrev pub glance_of : {D : Type 0} → Parts D → Ask → Answer → Glance
glance_of p ask answer = glance_by p (first_owed (chain_named (chains_of p.desk.drain) (chain_behind ask answer))) (group_asked ask)

-- ---- who asks

abbrev pub nobody : Asker
nobody = record { writer = 0; first = 0; second = None }

-- the writer of a chain, with the chain's inodes
abbrev pub asker_by : Option Chain → Asker
asker_by None = nobody
asker_by (Some c) = record { writer = c.writer; first = c.first.ino; second = option_map (λ i. i.ino) c.second }

-- the writer that asks for an event, with the inodes that it asks for
abbrev pub asker_in : List (Option Chain) → Ask → Asker
asker_in cs (asks.Begin writer first second) = record { writer = writer; first = first; second = second }
asker_in cs (asks.TakeInode writer uid) = record { writer = writer; first = 0; second = None }
asker_in cs ask = asker_by (chain_named cs (chain_asked ask))
