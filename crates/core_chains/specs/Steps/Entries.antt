-- Which entries a step adds to the journal ("Eventual Consistency").
use Rattle.std.specs.Prelude.{◌≡◌, ◌++◌, ◌∷◌, ⊤, [], ℕ, Bool, true, false, List, Option, Some, None}
use Rattle.std.specs.List.{slice_get}
use Rattle.core_parts.specs.declared.desk.Desk.{Desk}
use Rattle.core_parts.specs.declared.parts.Parts.{Parts}
use Rattle.core_chains.specs.Steps.Counts.{IsPart}
use Rattle.defer_chain.specs.Owed.{owed}
use Rattle.defer_chain.specs.declared.chain.Chain.{Chain}
use Rattle.fs_model.specs.declared.entry.Entry.{Entry}
use Rattle.fs_model.specs.declared.entry.Entry.TheVariants as entries
use Rattle.fs_model.specs.declared.fault.Cause.{Cause}
use Rattle.fs_model.specs.declared.fault.Cause.TheVariants.{Owner}
use Rattle.fs_state.specs.declared.intent.Intent.{Intent}
use Rattle.fs_state.specs.declared.intent.IntentKind.{IntentKind}
use Rattle.fs_state.specs.declared.intent.IntentKind.TheVariants as kinds
use Rattle.intent_drain.specs.Chains.{chain_at}
use Rattle.intent_drain.specs.Drains.{chains_of}
use Rattle.sblock.specs.declared.kind.Kind.{Kind}
use Rattle.sblock.specs.declared.kind.Kind.TheVariants.{Bno, Cnt, Rmap, Refc}

-- the mark of a btree that was left for a cause, if it was
abbrev pub mark_of : ℕ → Kind → Option Cause → List Entry
mark_of g k None = []
mark_of g k (Some cause) = entries.Marked g k cause ∷ []

-- this is the first of the intents that the chain owes
pub record IsFirst {D : Type 0} (k : Desk D) (chain : ℕ) (i : Intent) : Type 0 where
  pub owner : Chain
  pub there : chain_at (chains_of k.drain) chain ≡ Some owner
  pub first : slice_get (owed owner) 0 ≡ Some i

-- ---- reverse mappings: the entry, and a mark where they were left

abbrev pub rmap_entry : ℕ → Intent → Entry
rmap_entry chain i = entries.RmapDone chain i.ino i.group i.block i.count

abbrev pub SaysRmap : ℕ → Intent → (was now : List Entry) → Type 0
SaysRmap chain i was now = (left : Option Cause) × (now ≡ was ++ rmap_entry chain i ∷ [] ++ mark_of i.group Rmap left)

-- ---- counts: a stretch is done, with a mark for each index that was left; or a fault is met before it is known, which
-- marks counts first, and the rest of the run is done

abbrev pub is_more : IntentKind → Bool
is_more kinds.RmapAdd = false
is_more kinds.RmapRemove = false
is_more kinds.RmapChange = false
is_more kinds.RefMore = true
is_more kinds.RefLess = false
is_more kinds.Free = false

abbrev pub ref_entry : ℕ → Intent → ℕ → Entry
ref_entry chain i count = entries.RefDone chain i.group i.block count (is_more i.kind)

pub data Counted : Type 0 where
  Stretched : (count : ℕ) → (refc rmap : Option Cause) → Counted
  Blocked : Cause → Counted

abbrev pub counted_on : List Entry → ℕ → Intent → Counted → List Entry
counted_on was chain i (Stretched count refc rmap) = was ++ ref_entry chain i count ∷ [] ++ mark_of i.group Refc refc ++ mark_of i.group Rmap rmap
counted_on was chain i (Blocked cause) = was ++ entries.Marked i.group Refc cause ∷ [] ++ ref_entry chain i i.count ∷ []

abbrev pub IsInside : Intent → Counted → Type 0
IsInside i (Stretched count refc rmap) = IsPart count i.count
IsInside i (Blocked cause) = ⊤

abbrev pub SaysRef : ℕ → Intent → (was now : List Entry) → Type 0
SaysRef chain i was now = (c : Counted) × IsInside i c × (now ≡ counted_on was chain i c)

-- ---- a run that was to be freed: it is, with a mark for each index that was left; or it is kept, since its owner can't be
-- asked for, since a fault is met there, which marks reverse mappings first, or since it has an owner

pub data Fate : Type 0 where
  Given : (bno cnt : Option Cause) → Fate
  Unasked : Fate
  Faulty : Cause → Fate
  Owned : Fate

abbrev pub free_entry : ℕ → Intent → Bool → Entry
free_entry chain i kept = entries.Freed chain i.group i.block i.count kept

abbrev pub freed_on : List Entry → ℕ → Intent → Fate → List Entry
freed_on was chain i (Given bno cnt) = was ++ free_entry chain i false ∷ [] ++ mark_of i.group Bno bno ++ mark_of i.group Cnt cnt
freed_on was chain i Unasked = was ++ free_entry chain i true ∷ []
freed_on was chain i (Faulty cause) = was ++ entries.Marked i.group Rmap cause ∷ [] ++ free_entry chain i true ∷ []
freed_on was chain i Owned = was ++ free_entry chain i true ∷ [] ++ entries.Marked i.group Refc Owner ∷ []

abbrev pub SaysFree : ℕ → Intent → (was now : List Entry) → Type 0
SaysFree chain i was now = (fate : Fate) × (now ≡ freed_on was chain i fate)

-- ---- of all parts: the chain's first intent is done

abbrev pub HasSaid : {D : Type 0} → (ℕ → Intent → List Entry → List Entry → Type 0) → ℕ → Parts D → Parts D → Type 0
HasSaid Says chain old new = (i : Intent) × IsFirst old.desk chain i × Says chain i old.desk.book.journal.items new.desk.book.journal.items
