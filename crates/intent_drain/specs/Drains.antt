-- What a drain keeps, and which of it stays.
use Rattle.std.specs.Prelude.{◌≡◌, List, Option}
use Rattle.std.specs.Vec.{vec_capacity}
use Rattle.defer_chain.specs.declared.chain.Chain.{Chain}
use Rattle.intent_drain.specs.declared.drain.Drain.{Drain}
use Rattle.intent_drain.specs.declared.gates.Gate.{Gate}
use Rattle.intent_drain.specs.declared.holds.Hold.{Hold}

abbrev pub gates_of : Drain → List Gate
gates_of d = d.gates.items

abbrev pub holds_of : Drain → List Hold
holds_of d = d.holds.items

abbrev pub chains_of : Drain → List (Option Chain)
chains_of d = d.chains.items

abbrev pub SameGates : Drain → Drain → Type 0
SameGates old new = gates_of new ≡ gates_of old

-- with the room for them
abbrev pub SameHolds : Drain → Drain → Type 0
SameHolds old new = (holds_of new ≡ holds_of old) × (vec_capacity new.holds ≡ vec_capacity old.holds)

abbrev pub SameChains : Drain → Drain → Type 0
SameChains old new = chains_of new ≡ chains_of old
