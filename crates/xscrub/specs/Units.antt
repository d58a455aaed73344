-- What a journal has, whether or not the host tells the image: the units of all groups in the order of a session, each
-- with its faults and its verdict, given up, or skipped for a unit that it needs; or the first of them.
use Rattle.std.specs.Prelude.{◌≡◌, ⊤, ℕ, ◌≤◌, ◌++◌, List, [], length}
use Rattle.blk_device.specs.Taken.{IsFront}
use Rattle.fs_model.specs.declared.entry.Entry.{Entry}
use Rattle.fs_state.specs.Session.{Session, unit_order}
use Rattle.fs_state.specs.declared.plan.Plan.{Plan}
use Rattle.image_check.specs.Units.{AreUnits, HasUnits as HasUnitsOfGroups, StopsInUnits}
use Rattle.space_check.specs.Events.{Event, entries_of}
use Rattle.space_check.specs.declared.halt.Halt.TheVariants.{Full}
use Rattle.xscrub.specs.Outcome.{code_of}
use Rattle.xscrub.specs.declared.ending.Status.{Status}
use Rattle.xscrub.specs.declared.ending.Status.TheVariants as statuses

pub record HasAllUnits (journal : List Entry) : Type 0 where
  pub groups : ℕ
  pub some : 1 ≤ groups
  pub units : HasUnitsOfGroups groups [] journal

-- those before one that found the journal full
pub record HasItsMost (journal : List Entry) : Type 0 where
  pub groups : ℕ
  pub full : StopsInUnits groups Full [] journal

-- the first units, each with all its entries; the rest isn't there
pub record HasFirstUnits (journal : List Entry) : Type 0 where
  pub groups : ℕ
  pub done : List Event
  pub rest : List Event
  pub units : AreUnits groups (done ++ rest)
  pub entries : journal ≡ entries_of done

-- a front of such entries, as far as there was memory to tell them
abbrev pub HasFront : List Entry → Type 0
HasFront journal = (whole : List Entry) × HasFirstUnits whole × IsFront journal whole

abbrev pub HasUnits : Status → List Entry → Type 0
HasUnits statuses.Clean journal = HasAllUnits journal
HasUnits statuses.Faulty journal = HasAllUnits journal
HasUnits statuses.GaveUp journal = HasAllUnits journal
HasUnits statuses.Full journal = HasItsMost journal
HasUnits statuses.Usage journal = ⊤
HasUnits statuses.Refused journal = ⊤
HasUnits statuses.Failed journal = HasFirstUnits journal
HasUnits statuses.Memory journal = HasFront journal

-- the most entries of a journal, before which another unit begins
abbrev pub IsFullJournal : List Entry → Type 0
IsFullJournal journal = 1048576 ≤ length journal

-- A session of a repair over the units of one group or more: one verdict for each, in their order, and each as plan,
-- turns and the verdicts before it allow; at a status at which it is cut short the first of them, at a refusal none.
pub record HasSession (plan : Plan) (turns status : ℕ) (journal : List Entry) : Type 0 where
  pub groups : ℕ
  pub some : 1 ≤ groups
  pub session : Session (unit_order groups) plan turns groups status journal

abbrev pub HasRepairUnits : Plan → (turns : ℕ) → Status → List Entry → Type 0
HasRepairUnits plan turns statuses.Full journal = IsFullJournal journal × HasSession plan turns (code_of statuses.Full) journal
HasRepairUnits plan turns status journal = HasSession plan turns (code_of status) journal
