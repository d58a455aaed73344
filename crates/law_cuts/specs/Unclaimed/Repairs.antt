-- The laws of entries of a repair from one image to another, where of a spare block of a rebuild of free space is asked what
-- says that no metadata claims it.
use Rattle.std.specs.Prelude.{◌≡◌, ◌⊎◌, ℕ, true, false, List}
use Rattle.fs_change.specs.Edited.{group_of_entry}
use Rattle.fs_change.specs.Step.{Step}
use Rattle.fs_model.specs.declared.entry.Entry.{Entry}
use Rattle.fs_model.specs.declared.entry.Entry.TheVariants as entries
use Rattle.fs_model.specs.declared.unit.Unit.TheVariants as units
use Rattle.fs_state.specs.Frame.{Firm}
use Rattle.fs_state.specs.Kinds.{Image}
use Rattle.fs_state.specs.Read.{state_of}
use Rattle.fs_state.specs.State.{Kept, State}
use Rattle.geom.specs.Apart.{HasFitting}
use Rattle.geom.specs.Layout.{Layout}
use Rattle.law_repairs.specs.Letter.Known.{AreKnown, Facts, Letters, is_of_repair, letters_after}
use Rattle.law_repairs.specs.Order.Kept.{HeadsAreBytes, ListIsAccepted, LogLiesInside}
use Rattle.law_repairs.specs.Order.Repairs.{IsKeptWell}
use Rattle.law_accounts.specs.Owner.Told.{AreTold}
use Rattle.law_repairs.specs.Repair.Kept.{IsTrue}
use Rattle.law_repairs.specs.Repair.Letters.{Stands}
use Rattle.law_repairs.specs.Repair.Moves.{SameChunks}
use Rattle.sblock.specs.declared.kind.Kind.{Kind}
use Rattle.law_cuts.specs.Unclaimed.Unclaimed.{WereJudged}

-- What else is asked of an entry? A verdict is true; and where free space gives a spare block for its own rebuild, the group's
-- reverse mappings tell settled owners, or it is known of them that they hold what they should.
abbrev pub IsGiven : State → Entry → Type 0
IsGiven a (entries.Verdict g own verdict) = IsTrue a g own verdict
IsGiven a (entries.Reserved g units.Free block true) = AreTold a g ⊎ (Stands a g units.Rmap × WereJudged a g)
IsGiven a e = Unit {0}

-- ---- as order_laws has them

-- what is in memory of a group stays in order
abbrev pub GivenKeepsMemory : Type 0
GivenKeepsMemory = (at : Layout) (image image' : Image) (kept kept' : Kept) (left : List Kind) (e : Entry) (h : ℕ)
    → HasFitting at → IsKeptWell at image kept (group_of_entry (state_of at image kept) e) → is_of_repair e ≡ true
    → IsGiven (state_of at image kept) e → Step (state_of at image kept) left e (state_of at image' kept')
    → IsKeptWell at image kept h → Firm at image' kept' → HeadsAreBytes at image' h → ListIsAccepted at image' h
    → IsKeptWell at image' kept' h

-- all chunks stay
abbrev pub GivenKeepsChunks : Type 0
GivenKeepsChunks = (at : Layout) (image : Image) (kept : Kept) (b : State) (left : List Kind) (e : Entry)
    → HasFitting at → LogLiesInside at → IsKeptWell at image kept (group_of_entry (state_of at image kept) e)
    → is_of_repair e ≡ true → IsGiven (state_of at image kept) e → Step (state_of at image kept) left e b
    → SameChunks (state_of at image kept) b

-- the entry has the facts that letters ask for
abbrev pub GivenHasFacts : Type 0
GivenHasFacts = (at : Layout) (image image' : Image) (kept kept' : Kept) (left : List Kind) (e : Entry)
    → HasFitting at → LogLiesInside at → IsKeptWell at image kept (group_of_entry (state_of at image kept) e)
    → Firm at image' kept' → HeadsAreBytes at image' (group_of_entry (state_of at image kept) e)
    → ListIsAccepted at image' (group_of_entry (state_of at image kept) e) → IsGiven (state_of at image kept) e
    → (s : Step (state_of at image kept) left e (state_of at image' kept'))
    → Facts (state_of at image kept) (state_of at image' kept') left e s

-- ---- what is known of all groups

-- Is that known of a group which its letters say? Of reverse mappings also that they were judged, as a good verdict and a
-- switch leave them.
abbrev pub AreKnownWell : State → ℕ → Letters → Type 0
AreKnownWell a g letters = AreKnown a g letters × (letters units.Rmap ≡ true → WereJudged a g)

-- then of such a spare block nothing is asked where reverse mappings are known
abbrev pub IsGivenBeside : State → (ℕ → Letters) → Entry → Type 0
IsGivenBeside a letters (entries.Reserved g units.Free block true) =
    letters g units.Rmap ≡ false → IsGiven a (entries.Reserved g units.Free block true)
IsGivenBeside a letters e = IsGiven a e

-- and what was known of a group is known behind the entry, as the table of letters has it
abbrev pub KnownFollow : Type 0
KnownFollow = (at : Layout) (image image' : Image) (kept kept' : Kept) (left : List Kind) (e : Entry) (h : ℕ)
    → (letters : ℕ → Letters) → HasFitting at → LogLiesInside at
    → IsKeptWell at image kept (group_of_entry (state_of at image kept) e)
    → Firm at image' kept' → HeadsAreBytes at image' (group_of_entry (state_of at image kept) e)
    → ListIsAccepted at image' (group_of_entry (state_of at image kept) e)
    → IsGivenBeside (state_of at image kept) letters e
    → Step (state_of at image kept) left e (state_of at image' kept')
    → ((g : ℕ) → AreKnownWell (state_of at image kept) g (letters g))
    → AreKnownWell (state_of at image' kept') h (letters_after (state_of at image kept) left e h (letters h))
