-- What is kept in memory of each group stays in order behind each entry from one image to another, a writer's too.
use Rattle.std.specs.Prelude.{◌≡◌, ℕ, ◌<◌, true, false, List}
use Rattle.std.specs.List.{list_any}
use Rattle.law_accounts.specs.Account.Ledger.{Sound}
use Rattle.law_accounts.specs.Account.Stated.{ledger_at}
use Rattle.fs_change.specs.Changes.{is_in_extent}
use Rattle.fs_change.specs.Step.{Step}
use Rattle.fs_model.specs.declared.entry.Entry.{Entry}
use Rattle.fs_model.specs.declared.entry.Entry.TheVariants as entries
use Rattle.fs_model.specs.declared.entry.Extent.{Extent}
use Rattle.fs_state.specs.Apart.{Covered}
use Rattle.fs_state.specs.Frame.{Firm}
use Rattle.fs_state.specs.Kinds.{Image}
use Rattle.fs_state.specs.Read.{state_of}
use Rattle.fs_state.specs.State.{Kept, State}
use Rattle.geom.specs.Apart.{HasFitting}
use Rattle.geom.specs.Layout.{Layout}
use Rattle.law_repairs.specs.Letter.Known.{is_of_repair}
use Rattle.law_repairs.specs.Order.Kept.{HeadsAreBytes, KeptInOrder, ListIsAccepted}
use Rattle.law_repairs.specs.Order.Repairs.{Given, IsKeptWell}
use Rattle.sblock.specs.declared.kind.Kind.{Kind}

-- Is a run that fills the free list new to limbo? None of its blocks waits there to be freed.
abbrev pub RefillIsNew : State → Entry → Type 0
RefillIsNew a (entries.Refilled e) = list_any (λ o. is_in_extent e o.block) (a.group e.group).limbo ≡ false
RefillIsNew a e = Unit {0}

-- So it is where the run's blocks are sound, as entries of writers keep them: free space lists them, and nobody has one.
abbrev pub SoundRefillIsNew : Type 0
SoundRefillIsNew = (a b : State) (left : List Kind) (e : Extent) → Step a left (entries.Refilled e) b
    → ((p : ℕ) → is_in_extent e p ≡ true → Sound (ledger_at a e.group p)) → RefillIsNew a (entries.Refilled e)

-- So it is too in damaged groups, where each block of metadata that free space lists has a reverse mapping: the run has none.
abbrev pub CoveredRefillIsNew : Type 0
CoveredRefillIsNew = (at : Layout) (image : Image) (kept : Kept) (b : State) (left : List Kind) (e : Extent)
    → IsKeptWell at image kept e.group → Covered (state_of at image kept)
    → Step (state_of at image kept) left (entries.Refilled e) b → RefillIsNew (state_of at image kept) (entries.Refilled e)

-- Then each entry of a writer keeps what is in memory of a group in order by itself, whatever the image behind it holds: no
-- block of metadata has a second claim before it, and the free list is accepted.
abbrev pub WriterKeepsOrder : Type 0
WriterKeepsOrder = (at : Layout) (image image' : Image) (kept kept' : Kept) (left : List Kind) (e : Entry) (h : ℕ)
    → HasFitting at → h < at.agcount → is_of_repair e ≡ false → RefillIsNew (state_of at image kept) e
    → Step (state_of at image kept) left e (state_of at image' kept')
    → Firm at image kept → ListIsAccepted at image h → KeptInOrder at kept h → KeptInOrder at kept' h

-- So each group is kept as it should be behind it, where no block of metadata has a second claim in the image behind it, heads
-- are bytes and the list is accepted.
abbrev pub WriterKeepsMemory : Type 0
WriterKeepsMemory = (at : Layout) (image image' : Image) (kept kept' : Kept) (left : List Kind) (e : Entry) (h : ℕ)
    → HasFitting at → is_of_repair e ≡ false → RefillIsNew (state_of at image kept) e
    → Step (state_of at image kept) left e (state_of at image' kept')
    → IsKeptWell at image kept h → Firm at image' kept' → HeadsAreBytes at image' h → ListIsAccepted at image' h
    → IsKeptWell at image' kept' h

-- and so it is behind any entry, of a writer or of a repair
abbrev pub EntryKeepsMemory : Type 0
EntryKeepsMemory = (at : Layout) (image image' : Image) (kept kept' : Kept) (left : List Kind) (e : Entry) (h : ℕ)
    → HasFitting at → Given (state_of at image kept) e → RefillIsNew (state_of at image kept) e
    → Step (state_of at image kept) left e (state_of at image' kept')
    → IsKeptWell at image kept h → Firm at image' kept' → HeadsAreBytes at image' h → ListIsAccepted at image' h
    → IsKeptWell at image' kept' h

-- every group of an image is kept so
abbrev pub AreKeptWell : Layout → Image → Kept → Type 0
AreKeptWell at image kept = (g : ℕ) → g < at.agcount → IsKeptWell at image kept g

-- what an event has to know of the image that it leaves
pub record IsFit (at : Layout) (image : Image) (kept : Kept) : Type 0 where
  pub firm : Firm at image kept
  pub bytes : (g : ℕ) → g < at.agcount → HeadsAreBytes at image g
  pub lists : (g : ℕ) → g < at.agcount → ListIsAccepted at image g

-- at every moment: from one entry to the next
abbrev pub MemoryAtEveryMoment : Type 0
MemoryAtEveryMoment = (at : Layout) (image image' : Image) (kept kept' : Kept) (left : List Kind) (e : Entry)
    → HasFitting at → AreKeptWell at image kept → IsFit at image' kept'
    → Given (state_of at image kept) e → RefillIsNew (state_of at image kept) e
    → Step (state_of at image kept) left e (state_of at image' kept') → AreKeptWell at image' kept'
