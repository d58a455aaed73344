-- What a whole run owes to whoever called it.
use Rattle.std.specs.Prelude.{◌≡◌, ◌<◌, ◌≤◌, ◌⊎◌, ℕ, Bool, true, false, List, [], ◌∷◌, ◌++◌, Option, Some, None, IfSome, is_some, ⊤}
use Rattle.std.specs.Str.{bytes_eq}
use Rattle.std.specs.List.{list_all, list_any}
use Rattle.blk_device.specs.Causes.{Rose}
use Rattle.blk_device.specs.Contents.{Becomes}
use Rattle.blk_device.specs.Crash.{IsDurable}
use Rattle.blk_device.specs.Reading.{EachBlock, Keeps}
use Rattle.blk_device.specs.Taken.{Takes, IsFront}
use Rattle.fresh_image.specs.Fresh.{fresh}
use Rattle.fresh_image.specs.Written.{AllButFresh, BecomesFresh, OthersStay}
use Rattle.xscrub.specs.Command.{Job, check_of, repair_of, make_of, unbuilt, usage}
use Rattle.blk_device.specs.declared.device.Device.{Ghosts}
use Rattle.blk_device.specs.declared.device.Region.TheVariants.{Image, Redo}
use Rattle.blk_device.specs.declared.sink.Sink.{Ghosts as SinkGhosts}
use Rattle.xscrub.specs.Image.{device_events, device_outcome}
use Rattle.xscrub.specs.Outcome.{Outcome, outcome_of, is_given_up, is_calm, is_no_repair, is_refusal, judged_outcome, made_outcome, repaired_outcome, filled_outcome, stopped_outcome, ended_outcome}
use Rattle.run_text.specs.Report.{report_of}
use Rattle.xscrub.specs.LastLines.{is_fixed}
use Rattle.xscrub.specs.Repairs.{FindsSession}
use Rattle.xscrub.specs.Shown.{StopsAt, TakesFronts, last_text}
use Rattle.image_hosts.specs.Stored.{Stored, Request, Loan, Out, Back, HoldsRedo, Lends, IsOpened, asks, opened, redo_named, stored_image, stored_redo}
use Rattle.xscrub.specs.Units.{HasAllUnits, HasItsMost, HasFirstUnits, HasRepairUnits, HasUnits, IsFullJournal}
use Rattle.xscrub.specs.declared.ending.Finding.{Finding}
use Rattle.xscrub.specs.declared.ending.Finding.TheVariants as findings
use Rattle.xscrub.specs.declared.ending.Status.{Status}
use Rattle.xscrub.specs.declared.ending.Status.TheVariants as statuses
use Rattle.xscrub.specs.declared.ending.Told.{Told}
use Rattle.fs_model.specs.declared.entry.Entry.{Entry}
use Rattle.image_check.specs.Image.{ReadsForEvents}
use Rattle.image_hosts.specs.declared.host.Host.{Ghosts as HostGhosts}
use Rattle.image_hosts.specs.declared.host.Purpose.TheVariants.{Change as ForChange, Check as ForCheck, Make as ForMake}
use Rattle.xscrub.specs.declared.last_lines.LastLine.{LastLine}
use Rattle.xscrub.specs.declared.last_lines.LastLine.TheVariants as lines
use Rattle.xscrub.specs.declared.telling.TellStop.{TellStop}

-- ---- what words and bytes decide

-- an image with a redo region, whose redo file is looked at where one is given
abbrev pub stored_outcome : (given : Bool) → (image redo : Option Stored) → Option Outcome
stored_outcome given None redo = None
stored_outcome given (Some file) None = None
stored_outcome given (Some file) (Some redo) = Some (device_outcome given redo.size file.size (opened file redo))

-- how a run ends that nothing stops: None where the host doesn't tell the files that are named, and of a repair, of which
-- no clause says what the bytes decide
abbrev pub decided_by : Job → (stored redos : List ℕ → Option Stored) → Option Outcome
decided_by usage stored redos = Some (ended_outcome statuses.Usage lines.Usage)
decided_by unbuilt stored redos = Some (ended_outcome statuses.Refused lines.Unbuilt)
decided_by (check_of name redo) stored redos = stored_outcome (is_some redo) (stored name) (redo_named redos redo)
decided_by (repair_of name redo plan turns) stored redos = None
decided_by (make_of name) stored redos = Some made_outcome

-- what the host is asked for
abbrev pub requests_of : Job → List Request
requests_of usage = []
requests_of unbuilt = []
requests_of (check_of name redo) = asks name redo ForCheck ∷ []
requests_of (repair_of name redo plan turns) = asks name (Some redo) ForChange ∷ []
requests_of (make_of name) = asks name None (ForMake 256) ∷ []

-- ---- what a check of an image finds, before it is told

-- what wasn't stopped is what was decided; what was stopped has a front of that journal
abbrev pub Decides : Option Outcome → Finding → Type 0
Decides decided (findings.Judged journal) = IfSome decided (λ o. judged_outcome journal.items ≡ o)
Decides decided (findings.Repaired journal sick) = IfSome decided (λ o. repaired_outcome sick journal.items ≡ o)
Decides decided (findings.Full journal) = IfSome decided (λ o. filled_outcome journal.items ≡ o)
Decides decided (findings.Refused line) = IfSome decided (λ o. ended_outcome statuses.Refused line ≡ o)
Decides decided findings.Made = IfSome decided (λ o. made_outcome ≡ o)
Decides decided findings.Usage = IfSome decided (λ o. ended_outcome statuses.Usage lines.Usage ≡ o)
Decides decided (findings.DeviceFailed journal) = IfSome decided (λ o. IsFront journal.items o.journal)
Decides decided findings.HostFailed = ⊤
Decides decided (findings.Memory journal) = IfSome decided (λ o. IsFront journal.items o.journal)

-- a fault is found only where its count rose, and nothing is judged where one did
abbrev pub IsFoundBy : Finding → (host host' devices devices' : ℕ) → Type 0
IsFoundBy (findings.Judged journal) host host' devices devices' = (host' ≡ host) × (devices' ≡ devices)
IsFoundBy (findings.Repaired journal sick) host host' devices devices' = (host' ≡ host) × (devices' ≡ devices)
IsFoundBy (findings.Full journal) host host' devices devices' = ⊤
IsFoundBy (findings.Refused line) host host' devices devices' = ⊤
IsFoundBy findings.Made host host' devices devices' = (host' ≡ host) × (devices' ≡ devices)
IsFoundBy findings.Usage host host' devices devices' = ⊤
IsFoundBy (findings.DeviceFailed journal) host host' devices devices' = Rose devices devices'
IsFoundBy findings.HostFailed host host' devices devices' = Rose host host'
IsFoundBy (findings.Memory journal) host host' devices devices' = ⊤

-- a finding that an image may have, and the redo file that is given
abbrev pub IsOfImage : Bool → Finding → Type 0
IsOfImage given (findings.Judged journal) = HasAllUnits journal.items
IsOfImage given (findings.Repaired journal sick) = ⊥
IsOfImage given (findings.Full journal) = HasItsMost journal.items
IsOfImage given (findings.Refused line) = is_refusal given line ≡ true
IsOfImage given findings.Made = ⊥
IsOfImage given findings.Usage = ⊥
IsOfImage given (findings.DeviceFailed journal) = HasFirstUnits journal.items
IsOfImage given findings.HostFailed = ⊤
IsOfImage given (findings.Memory journal) = HasFirstUnits journal.items

-- a finding that the making of an image may have
abbrev pub IsOfMake : Finding → Type 0
IsOfMake (findings.Judged journal) = ⊥
IsOfMake (findings.Repaired journal sick) = ⊥
IsOfMake (findings.Full journal) = ⊥
IsOfMake (findings.Refused line) = ⊥
IsOfMake findings.Made = ⊤
IsOfMake findings.Usage = ⊥
IsOfMake (findings.DeviceFailed journal) = journal.items ≡ []
IsOfMake findings.HostFailed = ⊤
IsOfMake (findings.Memory journal) = journal.items ≡ []

-- a finding that a repair may have
abbrev pub IsOfRepair : Finding → Type 0
IsOfRepair (findings.Judged journal) = ⊥
IsOfRepair (findings.Repaired journal sick) = ⊤
IsOfRepair (findings.Full journal) = IsFullJournal journal.items
IsOfRepair (findings.Refused line) = is_no_repair line ≡ true
IsOfRepair findings.Made = ⊥
IsOfRepair findings.Usage = ⊥
IsOfRepair (findings.DeviceFailed journal) = ⊤
IsOfRepair findings.HostFailed = ⊤
IsOfRepair (findings.Memory journal) = ⊤

-- there was no memory for the words, or to open the image
abbrev pub IsShort : Finding → Type 0
IsShort (findings.Judged journal) = ⊥
IsShort (findings.Repaired journal sick) = ⊥
IsShort (findings.Full journal) = ⊥
IsShort (findings.Refused line) = ⊥
IsShort findings.Made = ⊥
IsShort findings.Usage = ⊥
IsShort (findings.DeviceFailed journal) = ⊥
IsShort findings.HostFailed = ⊥
IsShort (findings.Memory journal) = journal.items ≡ []

-- A device with this image and redo region was handed out, and came back. It was only read, and the journal has all
-- that was judged by what was read of it.
pub record CameBack {D : Type 0} (g : Ghosts D) (given : Bool) (file redo : Option Stored) (loans loans' : Option (List (Loan D))) (journal : List Entry) : Type 0 where
  pub dev : D
  pub back : D
  pub lent : Lends (Out dev ∷ Back back ∷ []) loans loans'
  pub opened_so : IsOpened file redo (g.content dev) (g.blocks dev)
  pub same : g.content back ≡ g.content dev
  pub crash : Keeps g EachBlock dev back
  pub kept : IfSome (g.content dev) (λ m. ReadsForEvents (device_events given (g.blocks dev Redo) (g.blocks dev Image) m) (g.reads dev) (g.reads back) journal)

-- A device with room for a new image was handed out, and came back. Once it is done, the new image is on
-- it and durable; until then blocks of that image alone may have changed.
pub record WasMade {D : Type 0} (g : Ghosts D) (done : Type 0) (loans loans' : Option (List (Loan D))) : Type 0 where
  pub dev : D
  pub back : D
  pub lent : Lends (Out dev ∷ Back back ∷ []) loans loans'
  pub size : g.blocks dev Image ≡ 256
  pub written : done → Becomes (g.content dev) (g.content back) (BecomesFresh 1 256)
  pub durable : done → IsDurable Image (g.content back) (g.may_hold_now back)
  pub others : Becomes (g.content dev) (g.content back) (OthersStay 1 256)
  pub crash : Keeps g (AllButFresh 1 256) dev back

-- A device with this image and redo file was handed out for a change, and came back. Its regions keep their sizes, and what
-- is stored under both names is what it holds then; or the host tells the redo file no more.
pub record WasRepaired {D : Type 0} (g : Ghosts D) (name redo : List ℕ) (stored redos stored' redos' : List ℕ → Option Stored) (loans loans' : Option (List (Loan D))) : Type 0 where
  pub dev : D
  pub back : D
  pub lent : Lends (Out dev ∷ Back back ∷ []) loans loans'
  pub opened_so : IsOpened (stored name) (redos redo) (g.content dev) (g.blocks dev)
  pub sizes : g.blocks back ≡ g.blocks dev
  pub later : g.faults dev ≤ g.faults back
  pub image : stored' name ≡ stored_image (g.content back) (g.blocks back)
  pub redo_file : HoldsRedo redo (stored_redo (g.content back) (g.blocks back)) redos redos'

-- no image and no redo file changed
pub record AllStay (stored redos stored' redos' : List ℕ → Option Stored) : Type 0 where
  pub images : (n : List ℕ) → stored' n ≡ stored n
  pub redo_files : (n : List ℕ) → redos' n ≡ redos n

-- no device was handed out
abbrev pub IsUnopened : Finding → Type 0
IsUnopened (findings.Judged journal) = ⊥
IsUnopened (findings.Repaired journal sick) = ⊥
IsUnopened (findings.Full journal) = ⊥
IsUnopened (findings.Refused line) = ⊥
IsUnopened findings.Made = ⊥
IsUnopened findings.Usage = ⊥
IsUnopened (findings.DeviceFailed journal) = ⊥
IsUnopened findings.HostFailed = ⊤
IsUnopened (findings.Memory journal) = journal.items ≡ []

-- what is found for these words, with the device that was handed out for them
abbrev pub FindsBy : {D : Type 0} → Ghosts D → Job → (stored redos stored' redos' : List ℕ → Option Stored) → (loans loans' : Option (List (Loan D))) → Finding → Type 0
FindsBy g usage stored redos stored' redos' loans loans' finding = loans' ≡ loans
FindsBy g unbuilt stored redos stored' redos' loans loans' finding = loans' ≡ loans
FindsBy g (check_of name redo) stored redos stored' redos' loans loans' finding =
    (IsUnopened finding × (loans' ≡ loans)) ⊎ CameBack g (is_some redo) (stored name) (redo_named redos redo) loans loans' (outcome_of finding).journal
FindsBy g (repair_of name redo plan turns) stored redos stored' redos' loans loans' finding =
    (IsUnopened finding × (loans' ≡ loans) × AllStay stored redos stored' redos') ⊎ WasRepaired g name redo stored redos stored' redos' loans loans'
FindsBy g (make_of name) stored redos stored' redos' loans loans' finding =
    (IsUnopened finding × (loans' ≡ loans)) ⊎ WasMade g (finding ≡ findings.Made) loans loans'

-- a stored image is the new one of one group of 256 blocks
abbrev pub IsFreshFile : Option Stored → Type 0
IsFreshFile file = (f : Stored) × (file ≡ Some f) × (f.size ≡ 256) × ((b : ℕ) → b < 256 → f.at b ≡ fresh 1 256 b)

-- What is stored after the making of an image. Once it is done, the named image is the new one, where the
-- host tells what its images hold. Where no device was handed out, all is as it was; else all others are.
pub record MakesImage (tells : Bool) (name : List ℕ) (done unopened : Type 0) (stored stored' : List ℕ → Option Stored) : Type 0 where
  pub others : (n : List ℕ) → bytes_eq n name ≡ false → stored' n ≡ stored n
  pub fresh_one : done → tells ≡ true → IsFreshFile (stored' name)
  pub kept : unopened → (n : List ℕ) → stored' n ≡ stored n

-- what is stored after a run: a repair may change the image that is named, and the making of one does
abbrev pub LeavesStored : Job → (tells : Bool) → (done unopened : Type 0) → (stored stored' : List ℕ → Option Stored) → Type 0
LeavesStored (make_of name) tells done unopened stored stored' = MakesImage tells name done unopened stored stored'
LeavesStored (repair_of name redo plan turns) tells done unopened stored stored' = (n : List ℕ) → bytes_eq n name ≡ false → stored' n ≡ stored n
LeavesStored other tells done unopened stored stored' = (n : List ℕ) → stored' n ≡ stored n

-- which redo files stay: all, but for that of a repair
abbrev pub LeavesRedos : Job → (redos redos' : List ℕ → Option Stored) → Type 0
LeavesRedos (repair_of name redo plan turns) redos redos' = (n : List ℕ) → bytes_eq n redo ≡ false → redos' n ≡ redos n
LeavesRedos other redos redos' = (n : List ℕ) → redos' n ≡ redos n

-- What a repair leaves that is done: a check of what is stored, with the redo file beside the image, ends with 0, where
-- the host tells both.
abbrev pub EndsSound : Job → (done : Type 0) → (stored redos : List ℕ → Option Stored) → Type 0
EndsSound (repair_of name redo plan turns) done stored redos = done → IfSome (stored_outcome true (stored name) (redos redo)) (λ o. o.status ≡ statuses.Clean)
EndsSound other done stored redos = ⊤

-- what the words alone say of a finding
abbrev pub IsWorded : Job → Finding → Type 0
IsWorded usage finding = (finding ≡ findings.Usage) ⊎ IsShort finding
IsWorded unbuilt finding = (finding ≡ findings.Refused lines.Unbuilt) ⊎ IsShort finding
IsWorded (check_of name redo) finding = IsOfImage (is_some redo) finding
IsWorded (repair_of name redo plan turns) finding = IsOfRepair finding × FindsSession plan turns finding
IsWorded (make_of name) finding = IsOfMake finding

pub record IsFound (decided : Option Outcome) (host host' devices devices' : ℕ) (finding : Finding) : Type 0 where
  pub decides : Decides decided finding
  pub cause : IsFoundBy finding host host' devices devices'

-- what is found where this is decided, by the counts of a host before and after it
abbrev pub Finds : {H D E : Type 0} → HostGhosts H D E → Option Outcome → (old new : H) → Finding → Type 0
Finds g decided old new finding = IsFound decided (g.host_faults old) (g.host_faults new) (g.dev_faults old) (g.dev_faults new) finding

-- ---- how it is told

abbrev pub told_outcome : Told → Outcome
told_outcome told = record { status = told.status; journal = told.journal.items; last = told.last }

-- the sink took these lines, all of them where it didn't fail
pub record IsShown (journal : List Entry) (last : Option LastLine) (faults faults' : ℕ) (taken taken' : Option (List ℕ)) : Type 0 where
  pub later : faults ≤ faults'
  pub whole : (Rose faults faults' → ⊥) → Takes (report_of journal ++ last_text last) taken taken'
  pub fronts : TakesFronts (report_of journal) (last_text last) taken taken'

-- there may be no memory for the line
abbrev pub NeedsMemory : Option LastLine → Type 0
NeedsMemory None = ⊥
NeedsMemory (Some line) = is_fixed line ≡ false

-- What is told of a finding: itself; or, where the sink failed in the journal, that the host failed;
-- or, where there was no memory for a line, as much of that as had been told.
abbrev pub IsToldOf : Outcome → (faults faults' : ℕ) → Outcome → Type 0
IsToldOf found faults faults' told =
    ((told ≡ found) × (found.last ≡ None → faults' ≡ faults))
    ⊎ (((told ≡ stopped_outcome statuses.Failed found.journal lines.HostFailed) × Rose faults faults' × (found.journal ≡ [] → ⊥))
    ⊎ ((told.status ≡ statuses.Memory) × (told.last ≡ Some lines.Memory) × IsFront told.journal found.journal
    × (found.journal ≡ [] → NeedsMemory found.last)))

-- Where the telling of a journal stopped, this is what is told after all, by the sink behind that stop and after the run:
-- whatever the sink was before the journal, it took these lines since.
abbrev pub ShowsStopped : {K : Type 0} → SinkGhosts K → (journal : List Entry) → TellStop → (old new : K) → Told → Type 0
ShowsStopped k journal stop old new told =
    (f : ℕ) (a : Option (List ℕ)) → f ≤ k.sink_faults old → StopsAt journal f (k.sink_faults old) a (k.taken old) stop
    → IsShown told.journal.items told.last f (k.sink_faults new) a (k.taken new)

-- and whatever was found with this journal, it is what is told of that
abbrev pub TellsStopped : {K : Type 0} → SinkGhosts K → (journal : List Entry) → TellStop → (old new : K) → Told → Type 0
TellsStopped k journal stop old new told =
    (found : Outcome) (f : ℕ) (a : Option (List ℕ)) → found.journal ≡ journal → StopsAt journal f (k.sink_faults old) a (k.taken old) stop
    → IsToldOf found f (k.sink_faults new) (told_outcome told)

-- ---- the whole run

-- why a run ends with a status, by the counts of host, devices and sink before and after it
abbrev pub EndsFor : Status → Outcome → (host host' devices devices' sink sink' : ℕ) → Type 0
EndsFor statuses.Clean told host host' devices devices' sink sink' =
    (list_all is_calm told.journal ≡ true) × (told.last ≡ None) × (host' ≡ host) × (devices' ≡ devices) × (sink' ≡ sink)
EndsFor statuses.Faulty told host host' devices devices' sink sink' =
    (list_all is_calm told.journal ≡ false) × (list_any is_given_up told.journal ≡ false) × (told.last ≡ None) × (host' ≡ host) × (devices' ≡ devices) × (sink' ≡ sink)
EndsFor statuses.GaveUp told host host' devices devices' sink sink' =
    (list_any is_given_up told.journal ≡ true) × (told.last ≡ None) × (host' ≡ host) × (devices' ≡ devices) × (sink' ≡ sink)
EndsFor statuses.Usage told host host' devices devices' sink sink' = told ≡ ended_outcome statuses.Usage lines.Usage
EndsFor statuses.Refused told host host' devices devices' sink sink' = (line : LastLine) × (told ≡ ended_outcome statuses.Refused line)
EndsFor statuses.Failed told host host' devices devices' sink sink' =
    ((told.last ≡ Some lines.DeviceFailed) × Rose devices devices')
    ⊎ ((told.last ≡ Some lines.HostFailed) × (Rose host host' ⊎ Rose sink sink'))
EndsFor statuses.Full told host host' devices devices' sink sink' = told.last ≡ Some lines.JournalFull
EndsFor statuses.Memory told host host' devices devices' sink sink' = told.last ≡ Some lines.Memory

-- a repair is faulty also where a btree is sick at the end, though each verdict is calm
abbrev pub EndsForRepair : Status → Outcome → (host host' devices devices' sink sink' : ℕ) → Type 0
EndsForRepair statuses.Faulty told host host' devices devices' sink sink' =
    (list_any is_given_up told.journal ≡ false) × (told.last ≡ None) × (host' ≡ host) × (devices' ≡ devices) × (sink' ≡ sink)
EndsForRepair status told host host' devices devices' sink sink' = EndsFor status told host host' devices devices' sink sink'

abbrev pub HasOutcomeCause : Job → Outcome → (host host' devices devices' sink sink' : ℕ) → Type 0
HasOutcomeCause (repair_of name redo plan turns) told host host' devices devices' sink sink' = EndsForRepair told.status told host host' devices devices' sink sink'
HasOutcomeCause job told host host' devices devices' sink sink' = EndsFor told.status told host host' devices devices' sink sink'

-- neither a fault nor want of memory ended it
abbrev pub IsSettled : Status → Type 0
IsSettled statuses.Clean = ⊤
IsSettled statuses.Faulty = ⊤
IsSettled statuses.GaveUp = ⊤
IsSettled statuses.Usage = ⊤
IsSettled statuses.Refused = ⊤
IsSettled statuses.Full = ⊤
IsSettled statuses.Failed = ⊥
IsSettled statuses.Memory = ⊥

-- what is told is what words and bytes decide; a run that was stopped told a front of its journal
pub record IsOutcome (told decided : Outcome) : Type 0 where
  pub front : IsFront told.journal decided.journal
  pub whole : IsSettled told.status → told ≡ decided

-- what the host was asked for, in order; where memory was short, perhaps nothing
abbrev pub IsAsked : Job → (short : Type 0) → (asked asked' : List Request) → Type 0
IsAsked command short asked asked' = (short × (asked' ≡ asked)) ⊎ (asked' ≡ asked ++ requests_of command)

-- a line that tells of the image, or of the redo file that is given
abbrev pub IsImageLine : Bool → Option LastLine → Type 0
IsImageLine given last = (line : LastLine) × (last ≡ Some line) × (is_refusal given line ≡ true)

-- a line that tells why there was no repair
abbrev pub IsNoRepairLine : Option LastLine → Type 0
IsNoRepairLine last = (line : LastLine) × (last ≡ Some line) × (is_no_repair line ≡ true)

-- this is told; or that there was no memory, and nothing else
abbrev pub IsToldOrShort : (wanted told : Outcome) → Type 0
IsToldOrShort wanted told = (told ≡ wanted) ⊎ (told ≡ ended_outcome statuses.Memory lines.Memory)

-- Words that ask for neither check nor repair nor new image end the run at once, and always so; only they do. A
-- check that is refused tells of the image, and a repair why there was none.
abbrev pub EndsByWords : Job → Outcome → Type 0
EndsByWords usage told = IsToldOrShort (ended_outcome statuses.Usage lines.Usage) told
EndsByWords unbuilt told = IsToldOrShort (ended_outcome statuses.Refused lines.Unbuilt) told
EndsByWords (check_of name redo) told =
    (told.status ≡ statuses.Usage → ⊥) × (told.last ≡ Some lines.Unbuilt → ⊥)
    × (told.status ≡ statuses.Refused → IsImageLine (is_some redo) told.last)
EndsByWords (repair_of name redo plan turns) told =
    (told.status ≡ statuses.Usage → ⊥) × (told.last ≡ Some lines.Unbuilt → ⊥)
    × (told.status ≡ statuses.Refused → IsNoRepairLine told.last)
EndsByWords (make_of name) told = (told ≡ made_outcome) ⊎ ((told.journal ≡ []) × (IsSettled told.status → ⊥))

-- Words that ask for nothing built have no device. A check has one, and tells all that was judged by what
-- was read of it, or where memory was short a front of that; or the host handed none out. A repair has one
-- that may have changed.
abbrev pub TellsBy : {D : Type 0} → Ghosts D → Job → (stored redos stored' redos' : List ℕ → Option Stored) → (loans loans' : Option (List (Loan D))) → Outcome → Type 0
TellsBy g usage stored redos stored' redos' loans loans' told = loans' ≡ loans
TellsBy g unbuilt stored redos stored' redos' loans loans' told = loans' ≡ loans
TellsBy g (check_of name redo) stored redos stored' redos' loans loans' told =
    ((loans' ≡ loans) × (told.journal ≡ []) × (IsSettled told.status → ⊥))
    ⊎ ((found : List Entry) × CameBack g (is_some redo) (stored name) (redo_named redos redo) loans loans' found × IsFront told.journal found
    × ((told.status ≡ statuses.Memory → ⊥) → told.journal ≡ found))
TellsBy g (repair_of name redo plan turns) stored redos stored' redos' loans loans' told =
    ((loans' ≡ loans) × (told.journal ≡ []) × (IsSettled told.status → ⊥) × AllStay stored redos stored' redos')
    ⊎ WasRepaired g name redo stored redos stored' redos' loans loans'
TellsBy g (make_of name) stored redos stored' redos' loans loans' told =
    ((loans' ≡ loans) × (told.journal ≡ []) × (IsSettled told.status → ⊥)) ⊎ WasMade g (told.status ≡ statuses.Clean) loans loans'

-- the units of a journal; a new image has none, and a repair's stand by its plan and its turns
abbrev pub HasUnitsOf : Job → Status → List Entry → Type 0
HasUnitsOf (make_of name) status journal = journal ≡ []
HasUnitsOf (repair_of name redo plan turns) status journal = HasRepairUnits plan turns status journal
HasUnitsOf other status journal = HasUnits status journal

-- the run ended before a device was handed out for a new image
abbrev pub EndsUnopened : Outcome → Type 0
EndsUnopened told = (told.status ≡ statuses.Clean → ⊥) × (told.last ≡ Some lines.DeviceFailed → ⊥)
