-- What is known of units behind an entry of a repair that leads from one image to another, where their groups are in order.
use Rattle.std.specs.Prelude.{◌≡◌, ℕ, ◌<◌, true, false, List}
use Rattle.fs_change.specs.Choice.{has_claim}
use Rattle.fs_change.specs.Edited.{group_of_entry}
use Rattle.fs_change.specs.Step.{Step}
use Rattle.fs_state.specs.Claims.{metadata_claims}
use Rattle.fs_model.specs.declared.entry.Entry.{Entry}
use Rattle.fs_model.specs.declared.entry.Entry.TheVariants as entries
use Rattle.fs_model.specs.declared.unit.Unit.TheVariants as units
use Rattle.fs_state.specs.Apart.{Apart}
use Rattle.fs_state.specs.Frame.{Firm}
use Rattle.fs_state.specs.Kinds.{Image}
use Rattle.fs_state.specs.Read.{opened, state_of}
use Rattle.fs_state.specs.State.{Kept, State, blocks_in, pairs_of}
use Rattle.geom.specs.Apart.{HasFitting}
use Rattle.geom.specs.Layout.{Layout}
use Rattle.law_repairs.specs.Repair.Kept.{IsTrue}
use Rattle.law_repairs.specs.Repair.Moves.{SameChunks}
use Rattle.sblock.specs.declared.kind.Kind.{Kind}
use Rattle.tree_defs.specs.Lists.{AllDiffer}
use Rattle.law_repairs.specs.Letter.Known.{AreKnown, Facts, Letters, is_of_repair, letters_after}
use Rattle.law_repairs.specs.Order.Kept.{AreNoChunks, HeadsAreBytes, KeptInOrder, ListIsAccepted, LogLiesInside}

-- Is a group kept as it should be, in an image and in memory? What its order follows from; no block stands in the reserve
-- twice, and no owner in limbo is that of chunks.
pub record IsKeptWell (at : Layout) (image : Image) (kept : Kept) (g : ℕ) : Type 0 where
  pub group : g < at.agcount
  pub firm : Firm at image kept
  pub order : KeptInOrder at kept g
  pub reserve_once : AllDiffer (blocks_in (kept.reserve g))
  pub chunks : AreNoChunks (pairs_of (kept.limbo g))
  pub bytes : HeadsAreBytes at image g
  pub list : ListIsAccepted at image g

-- right after an image was opened each is, where no block of metadata has a second claim
abbrev pub OpenedIsKeptWell : Type 0
OpenedIsKeptWell = (at : Layout) (image : Image) (g : ℕ) → g < at.agcount → Apart (state_of at image (opened at image))
    → HeadsAreBytes at image g → ListIsAccepted at image g → IsKeptWell at image (opened at image) g

-- What else is asked of an entry? A verdict is true; and a spare block of a rebuild of free space, which is read off reverse
-- mappings alone, is claimed by no metadata.
abbrev pub Given : State → Entry → Type 0
Given a (entries.Verdict g own verdict) = IsTrue a g own verdict
Given a (entries.Reserved g units.Free block true) = has_claim (metadata_claims a g) block ≡ false
Given a e = Unit {0}

-- Then each group is kept so behind an entry of a repair, where no block of metadata has a second claim in the image behind it,
-- heads are bytes and the list is accepted.
abbrev pub RepairKeepsMemory : Type 0
RepairKeepsMemory = (at : Layout) (image image' : Image) (kept kept' : Kept) (left : List Kind) (e : Entry) (h : ℕ)
    → HasFitting at → IsKeptWell at image kept (group_of_entry (state_of at image kept) e) → is_of_repair e ≡ true
    → Given (state_of at image kept) e → Step (state_of at image kept) left e (state_of at image' kept')
    → IsKeptWell at image kept h → Firm at image' kept' → HeadsAreBytes at image' h → ListIsAccepted at image' h
    → IsKeptWell at image' kept' h

-- a repair leaves all chunks
abbrev pub RepairKeepsChunks : Type 0
RepairKeepsChunks = (at : Layout) (image : Image) (kept : Kept) (b : State) (left : List Kind) (e : Entry)
    → HasFitting at → LogLiesInside at → IsKeptWell at image kept (group_of_entry (state_of at image kept) e)
    → is_of_repair e ≡ true → Given (state_of at image kept) e → Step (state_of at image kept) left e b
    → SameChunks (state_of at image kept) b

-- and an entry from one image to another has the facts that letters ask for
abbrev pub ImagesHaveFacts : Type 0
ImagesHaveFacts = (at : Layout) (image image' : Image) (kept kept' : Kept) (left : List Kind) (e : Entry)
    → HasFitting at → LogLiesInside at → IsKeptWell at image kept (group_of_entry (state_of at image kept) e)
    → Firm at image' kept' → HeadsAreBytes at image' (group_of_entry (state_of at image kept) e)
    → ListIsAccepted at image' (group_of_entry (state_of at image kept) e) → Given (state_of at image kept) e
    → (s : Step (state_of at image kept) left e (state_of at image' kept'))
    → Facts (state_of at image kept) (state_of at image' kept') left e s

-- so of each group what was known is known behind it, as the table has it
abbrev pub ImagesFollow : Type 0
ImagesFollow = (at : Layout) (image image' : Image) (kept kept' : Kept) (left : List Kind) (e : Entry) (h : ℕ)
    → (letters : Letters) → HasFitting at → LogLiesInside at
    → IsKeptWell at image kept (group_of_entry (state_of at image kept) e)
    → Firm at image' kept' → HeadsAreBytes at image' (group_of_entry (state_of at image kept) e)
    → ListIsAccepted at image' (group_of_entry (state_of at image kept) e) → Given (state_of at image kept) e
    → Step (state_of at image kept) left e (state_of at image' kept')
    → AreKnown (state_of at image kept) h letters
    → AreKnown (state_of at image' kept') h (letters_after (state_of at image kept) left e h letters)
