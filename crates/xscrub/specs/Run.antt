-- What a whole run owes to whoever called it, by the host before and after it.
use Rattle.std.specs.Prelude.{◌≡◌, ℕ, Bool, List, [], ◌∷◌, length, Option, IfSome}
use Rattle.blk_device.specs.declared.device.Device.{Ghosts}
use Rattle.blk_device.specs.declared.sink.Sink.{Ghosts as SinkGhosts}
use Rattle.xscrub.specs.Alone.{StaysAlone}
use Rattle.xscrub.specs.Command.{Job}
use Rattle.xscrub.specs.Doors.{EndsAtDoor}
use Rattle.xscrub.specs.Ending.{EndsByWords, EndsSound, EndsUnopened, HasOutcomeCause, HasUnitsOf, IsAsked, IsOutcome, IsShown, LeavesRedos, LeavesStored, TellsBy, decided_by}
use Rattle.xscrub.specs.Outcome.{Outcome, code_of}
use Rattle.image_hosts.specs.Stored.{Stored, Request, Loan}
use Rattle.xscrub.specs.declared.ending.Status.TheVariants as statuses
use Rattle.image_hosts.specs.declared.host.Host.{Ghosts as HostGhosts}
use Rattle.xscrub.specs.declared.top.RunEnd.{RunEnd}

-- a host as it stands before a run or after it
pub record Seen (D : Type 0) : Type 0 where
  pub tells : Bool
  pub stored : List ℕ → Option Stored
  pub redos : List ℕ → Option Stored
  pub host : ℕ
  pub devices : ℕ
  pub sink : ℕ
  pub taken : Option (List ℕ)
  pub asked : List Request
  pub loans : Option (List (Loan D))

abbrev pub seen : {H D E : Type 0} → HostGhosts H D E → SinkGhosts H → H → Seen D
seen g s h = record {
  tells = g.tells h;
  stored = g.stored h;
  redos = g.redo_files h;
  host = g.host_faults h;
  devices = g.dev_faults h;
  sink = s.sink_faults h;
  taken = s.taken h;
  asked = g.asked h;
  loans = g.loans h;
}

-- What a run owes: how it ended is what words and bytes decide, or has a cause in a count that
-- rose; its journal has each unit of each group, or the first of them where it was stopped; this is what
-- the sink took; and what is stored is as it was, but for a new image and for what a repair changes, of which a check
-- ends with 0 where the repair does; an image of which a check finds every unit good is then as it was.
pub record IsRun {D : Type 0} (job : Job) (told : Outcome) (old new : Seen D) (end : RunEnd) : Type 0 where
  pub status : end.status ≡ code_of told.status
  pub journal : end.journal.items ≡ told.journal
  pub starts : end.starts ≡ 0 ∷ length told.journal ∷ length told.journal ∷ []
  pub words : EndsByWords job told
  pub decided : IfSome (decided_by job old.stored old.redos) (IsOutcome told)
  pub cause : HasOutcomeCause job told old.host new.host old.devices new.devices old.sink new.sink
  pub units : HasUnitsOf job told.status told.journal
  pub shown : IsShown told.journal told.last old.sink new.sink old.taken new.taken
  pub asked_for : IsAsked job (told.status ≡ statuses.Memory) old.asked new.asked
  pub stored : LeavesStored job old.tells (told.status ≡ statuses.Clean) (EndsUnopened told) old.stored new.stored
  pub redo_files : LeavesRedos job old.redos new.redos
  pub refused : EndsAtDoor job old.stored old.redos new.stored told
  pub alone : StaysAlone job old.stored old.redos new.stored told
  pub sound : EndsSound job (told.status ≡ statuses.Clean) new.stored new.redos

-- a run for these words, with the device that was handed out for it
abbrev pub RunsFor : {D : Type 0} → Ghosts D → Job → (old new : Seen D) → RunEnd → Type 0
RunsFor g job old new end = (told : Outcome) × TellsBy g job old.stored old.redos new.stored new.redos old.loans new.loans told × IsRun job told old new end
