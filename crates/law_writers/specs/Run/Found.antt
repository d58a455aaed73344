-- What an event has of its entry, and which records its edits find.
use Rattle.std.specs.Prelude.{ℕ, ◌≡◌, true, List, [], Some, is_some}
use Rattle.std.specs.List.{list_all, list_any}
use Rattle.law_accounts.specs.Account.Steps.{NextIsThere}
use Rattle.fs_change.specs.Changes.{plain_run}
use Rattle.fs_change.specs.Edited.{leaves_faults, may_leave}
use Rattle.fs_change.specs.Parts.{is_edited, records_in}
use Rattle.fs_change.specs.Records.{holder_of, span}
use Rattle.fs_change.specs.Step.{Row, group_of_inode}
use Rattle.fs_model.specs.declared.entry.Entry.{Entry}
use Rattle.fs_model.specs.declared.entry.Entry.TheVariants as entries
use Rattle.fs_model.specs.declared.entry.Extent.{Extent}
use Rattle.fs_model.specs.declared.entry.Piece.{Piece}
use Rattle.fs_state.specs.Group.{is_among}
use Rattle.fs_state.specs.State.{State}
use Rattle.rmap_recs.specs.Owners.{number_of}
use Rattle.rmap_recs.specs.declared.owner.Owner.TheVariants.{Ag}
use Rattle.run_edits.specs.Edits.{holds}
use Rattle.sblock.specs.declared.kind.Kind.{Kind}
use Rattle.sblock.specs.declared.kind.Kind.TheVariants.{Bno, Rmap}

-- its row holds, and each tree whose edit meets a fault is left
pub record IsMade (a x : State) (left : List Kind) (e : Entry) : Type 0 where
  pub row : Row a left e x
  pub leaves : list_all (λ k. is_among k (may_leave a e)) left ≡ true
  pub met : leaves_faults a left e ≡ true

-- where reverse mappings are edited, the record that a finished step takes out is there
abbrev pub IntentFound : Type 0
IntentFound = (a x : State) (left : List Kind) (c ino g at n : ℕ) → IsMade a x left (entries.RmapDone c ino g at n) → is_edited left (a.group g) Rmap ≡ true → NextIsThere (records_in (a.group g) Rmap) (a.chains c)

-- so is the mapping of a run that leaves the list
abbrev pub ListedFound : Type 0
ListedFound = (a x : State) (left : List Kind) (e : Extent) → IsMade a x left (entries.Trimmed e) → is_edited [] (a.group e.group) Rmap ≡ true
    → list_any (λ r. holds r (plain_run (number_of Ag) e)) (records_in (a.group e.group) Rmap) ≡ true

-- where free space is edited, a record of it holds the run that leaves it
abbrev pub MappedFound : Type 0
MappedFound = (a x : State) (left : List Kind) (m : Piece) → IsMade a x left (entries.Mapped m) → is_edited [] (a.group m.group) Bno ≡ true → is_some (holder_of (records_in (a.group m.group) Bno) (span m.block m.count)) ≡ true

abbrev pub RefilledFound : Type 0
RefilledFound = (a x : State) (left : List Kind) (e : Extent) → IsMade a x left (entries.Refilled e) → is_edited [] (a.group e.group) Bno ≡ true → is_some (holder_of (records_in (a.group e.group) Bno) (span e.block e.count)) ≡ true

abbrev pub ChunkFound : Type 0
ChunkFound = (a x : State) (left : List Kind) (writer ino uid c : ℕ) → IsMade a x left (entries.Taken writer ino uid (Some c)) → is_edited [] (a.group (group_of_inode a ino)) Bno ≡ true
    → is_some (holder_of (records_in (a.group (group_of_inode a ino)) Bno) (span c 8)) ≡ true
