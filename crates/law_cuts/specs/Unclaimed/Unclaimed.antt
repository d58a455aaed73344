-- What says of a spare block of a rebuild of free space that no metadata claims it? It is read off reverse mappings alone: none
-- of these covers it.
use Rattle.std.specs.Prelude.{◌≡◌, ℕ, true, false, List}
use Rattle.fs_change.specs.Choice.{has_claim}
use Rattle.fs_change.specs.Step.{Row, Step}
use Rattle.fs_state.specs.Claims.{metadata_claims}
use Rattle.fs_model.specs.declared.entry.Entry.{Entry}
use Rattle.fs_model.specs.declared.entry.Entry.TheVariants as entries
use Rattle.fs_model.specs.declared.unit.Trust.TheVariants.{Unknown}
use Rattle.fs_model.specs.declared.unit.Unit.TheVariants as units
use Rattle.fs_state.specs.State.{State}
use Rattle.geom.specs.Apart.{HasFitting}
use Rattle.law_repairs.specs.Letter.Known.{is_of_repair}
use Rattle.law_accounts.specs.Owner.Told.{AreTold}
use Rattle.law_repairs.specs.Repair.Letters.{Stands}
use Rattle.sblock.specs.declared.kind.Kind.{Kind}
use Rattle.sblock.specs.declared.kind.Kind.TheVariants.{Rmap}

-- Where mappings tell settled owners: whatever metadata claims has one, blocks of a tree that can't be read too.
abbrev pub ToldUnclaimed : Type 0
ToldUnclaimed = (a x : State) (left : List Kind) (g b : ℕ) → Row a left (entries.Reserved g units.Free b true) x
    → AreTold a g → has_claim (metadata_claims a g) b ≡ false

-- Were the reverse mappings of a group judged since opening? A verdict or a switch made their tree good, or a fault of it was
-- met. Free space, which is read off them, is judged only behind that.
abbrev pub WereJudged : State → ℕ → Type 0
WereJudged a g = ((a.group g).tree Rmap).trust ≡ Unknown → ⊥

-- Where it is known of mappings that they hold what they should, which is said of a trusted tree alone: so they must have been
-- judged, and where a spare block is found they aren't sick.
abbrev pub KnownUnclaimed : Type 0
KnownUnclaimed = (a x : State) (left : List Kind) (g b : ℕ) → HasFitting a.geometry
    → Row a left (entries.Reserved g units.Free b true) x → Stands a g units.Rmap → WereJudged a g
    → has_claim (metadata_claims a g) b ≡ false

-- those that were judged stay so behind an entry of a repair
abbrev pub JudgedStay : Type 0
JudgedStay = (a b : State) (left : List Kind) (e : Entry) (g : ℕ) → Step a left e b → is_of_repair e ≡ true → WereJudged a g
    → WereJudged b g
