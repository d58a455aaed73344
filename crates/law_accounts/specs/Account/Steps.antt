-- A finished step of reverse mappings keeps each block sound: one entry, its row, and that its record is there.
use Rattle.std.specs.Prelude.{ℕ, ◌≡◌, ◌+◌, ◌<◌, true, List, [], ◌∷◌}
use Rattle.std.specs.List.{list_any}
use Rattle.fs_change.specs.Chains.{most_chains, run_of, takes, word_taken}
use Rattle.fs_change.specs.Parts.{is_edited, records_in}
use Rattle.fs_change.specs.Records.{give_mapping, take_mapping}
use Rattle.fs_change.specs.Step.{Row}
use Rattle.fs_model.specs.declared.entry.Entry.TheVariants as entries
use Rattle.fs_state.specs.State.{State, Group, is_readable}
use Rattle.fs_state.specs.declared.intent.Intent.{Intent}
use Rattle.rmap_recs.specs.declared.records.RmapRec.{RmapRec}
use Rattle.run_edits.specs.Edits.{holds}
use Rattle.sblock.specs.declared.kind.Kind.{Kind}
use Rattle.sblock.specs.declared.kind.Kind.TheVariants.{Rmap}
use Rattle.law_accounts.specs.Account.Accounts.{at_span, covers_at, ledger_of}
use Rattle.law_accounts.specs.Account.Ledger.{Sound}

-- ---- how many mappings cover a block, where a run gets an owner or loses it

abbrev pub GivenCovers : Type 0
GivenCovers = (r : RmapRec) (rs : List RmapRec) (b : ℕ) → 0 < r.count → covers_at (give_mapping r rs) b ≡ covers_at rs b + at_span r.start r.count b

abbrev pub TakenCovers : Type 0
TakenCovers = (r : RmapRec) (rs : List RmapRec) (b : ℕ) → 0 < r.count → list_any (λ p. holds p r) rs ≡ true → covers_at (take_mapping r rs) b + at_span r.start r.count b ≡ covers_at rs b

-- ---- the step

-- the tree can be edited, and isn't left
pub record IsWritten (left : List Kind) (p : Group) : Type 0 where
  pub edited : is_edited left p Rmap ≡ true
  pub readable : is_readable (p.tree Rmap).reading ≡ true

-- the record that an intent takes out of the mappings is there
abbrev pub IsThere : List RmapRec → Intent → Type 0
IsThere recs i = takes i.kind ≡ true → list_any (λ p. holds p (run_of i (word_taken i))) recs ≡ true

abbrev pub NextIsThere : List RmapRec → List Intent → Type 0
NextIsThere recs [] = Unit {0}
NextIsThere recs (i ∷ is) = IsThere recs i

abbrev pub RmapDoneSound : Type 0
RmapDoneSound = (a x : State) (left : List Kind) (c ino g at n b owned alone : ℕ) → c < most_chains → IsWritten left (a.group g) → NextIsThere (records_in (a.group g) Rmap) (a.chains c)
    → Row a left (entries.RmapDone c ino g at n) x → Sound (ledger_of a g b owned alone) → Sound (ledger_of x g b owned alone)
