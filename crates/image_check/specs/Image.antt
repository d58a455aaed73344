-- What a check of a whole image does and how it ends, as its bytes decide it: the heads of all groups first, and then all
-- units of all groups in the order of a session.
use Rattle.std.specs.Prelude.{◌≡◌, ◌≤◌, ℕ, ◌+◌, List, [], ◌∷◌, ◌++◌, Some, None, Result, Ok, Err}
use Rattle.std.specs.Global.{Vec}
pub use Rattle.check_phases.specs.Kept.{begun_of}
use Rattle.check_phases.specs.Session.{check_events}
use Rattle.fs_state.specs.Session.{Place, unit_order}
use Rattle.fs_model.specs.declared.entry.Entry.{Entry}
use Rattle.fs_model.specs.declared.unit.Unit.{Unit as ScrubUnit}
use Rattle.fs_state.specs.Kinds.{Image}
use Rattle.geom.specs.Layout.{Layout}
use Rattle.inode_pass.specs.Units.{opened_state}
use Rattle.space_check.specs.Checked.{Checked, Judged, MeetsHalt, RefusedHead, bad_head_from, looked_at, looks, recorded}
use Rattle.space_check.specs.Events.{Event, entries_of, reads_of}
use Rattle.space_check.specs.declared.halt.Halt.{Halt}
use Rattle.space_check.specs.declared.stop.CheckStop.{CheckStop}
use Rattle.image_check.specs.Reads.{most_read}

-- these events, each with the most blocks that the unit at its place may read
abbrev pub bounded : (ℕ → ScrubUnit → ℕ) → List Place → List Event → List Event
bounded most [] events = []
bounded most (p ∷ ps) [] = []
bounded most (p ∷ ps) (e ∷ es) = record { reads = most p.0 p.1; entries = e.entries } ∷ bounded most ps es

module _ (at : Layout) (image : Image) where
  -- the units of all groups, where no head is refused
  unfoldable pub units_events : List Event
  units_events =
      elim (bad_head_from at image 0 at.agcount) [
        | Some bad ↦ []
        | None ↦ bounded (most_read at image) (unit_order at.agcount) (check_events (opened_state at image))
      ]

  -- What does a check of the image do? It looks at the heads of all groups, and then judges all units.
  unfoldable pub image_events : List Event
  image_events = looks (looked_at at image) ++ units_events

  -- How does a check of the image end that nothing stops?
  unfoldable pub image_checked : Checked
  image_checked =
      elim (bad_head_from at image 0 at.agcount) [
        | Some bad ↦ RefusedHead bad.0 bad.1.0 bad.1.1
        | None ↦ recorded [] image_events
      ]

-- with this journal it ends as this decides, or a front of what is decided is in it
abbrev pub MeetsEnd : {T : Type 0} → Checked → (journal : List Entry) → Result T Halt → Type 0
MeetsEnd decided journal (Ok done) = decided ≡ Judged journal
MeetsEnd decided journal (Err halt) = MeetsHalt decided halt journal

-- the journal that goes with an answer
abbrev pub journal_in : Result (Vec Entry) CheckStop → List Entry
journal_in (Ok journal) = journal.items
journal_in (Err stop) = stop.journal.items

-- Of these events the first were done, with these entries, and no more blocks were read than for them and for the next
-- one, which begins only where the journal has room.
pub record ReadsForEvents (events : List Event) (before now : ℕ) (journal : List Entry) : Type 0 where
  pub done : List Event
  pub rest : List Event
  pub whole : events ≡ done ++ rest
  pub entries : journal ≡ entries_of done
  pub read : now ≤ before + (reads_of done + begun_of journal rest)
