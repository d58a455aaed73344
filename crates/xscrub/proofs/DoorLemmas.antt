-- A repair that is refused: by which line, and what it leaves.
use Rattle.std.proofs.Common.{◌≡◌, ◌∙◌, ℕ, List, Bool, true, false, cond, Option, Some, None, IfSome, inl, inr, refl, sym, ap, subst}
use Rattle.std.specs.List.{list_all, list_any}
use Rattle.blk_device.specs.Contents.{Contents}
use Rattle.blk_device.specs.declared.device.Region.{Region}
use Rattle.blk_device.specs.declared.device.Region.TheVariants.{Image, Redo}
use Rattle.fs_model.specs.declared.entry.Entry.{Entry}
use Rattle.image_hosts.specs.Stored.{Stored, IsOpened, opened, stored_image}
use Rattle.quiet_repair.specs.Refusals.{LeavesRefused, RefusesAs}
use Rattle.quiet_repair.specs.declared.repair.Repair.{Repair}
use Rattle.quiet_repair.specs.declared.repair.Repair.TheVariants.{Refused, Ended}
use Rattle.repair_door.specs.Doors.{IsDecided, Leaves, door_refusal}
use Rattle.repair_door.specs.declared.no_entry.NoEntry.{NoEntry}
use Rattle.repair_door.specs.declared.no_entry.NoEntry.TheVariants as entries
use Rattle.xscrub.specs.Command.{Job, check_of, repair_of, make_of, unbuilt, usage}
use Rattle.xscrub.specs.Doors.{EndsAtDoor, EndsOfFiles, EndsSoRefused, FindsAtDoor, FindsByDoor, IsRefusedBy, LeavesImage, RepairLeaves, entry_line, image_stored, image_told}
use Rattle.xscrub.specs.Ending.{IsToldOf}
use Rattle.xscrub.specs.Outcome.{Outcome, is_calm, is_given_up, outcome_of}
use Rattle.xscrub.specs.declared.ending.Finding.{Finding}
use Rattle.xscrub.specs.declared.ending.Finding.TheVariants as findings
use Rattle.xscrub.specs.declared.ending.Status.{Status}
use Rattle.xscrub.specs.declared.ending.Status.TheVariants as statuses
use Rattle.xscrub.specs.declared.last_lines.LastLine.{LastLine}

lie : false ≡ true → ⊥
lie e = cc

-- ---- of an answer of the door

abbrev is_line : NoEntry → Bool
is_line entries.Failed = false
is_line entries.Memory = false
is_line why = true

pub refused_by : (decided : Option NoEntry) (m : Contents) (left : Option (ℕ → List ℕ)) (why : NoEntry) (line : LastLine) → line ≡ entry_line why → is_line why ≡ true → IsDecided decided why → LeavesImage m left why
    → IsRefusedBy decided m left line
refused_by decided m left entries.Short line is lined by leaves = record { why = entries.Short; decides = by; told = is; leaves = leaves }
refused_by decided m left entries.Count line is lined by leaves = record { why = entries.Count; decides = by; told = is; leaves = leaves }
refused_by decided m left entries.Size line is lined by leaves = record { why = entries.Size; decides = by; told = is; leaves = leaves }
refused_by decided m left entries.Place line is lined by leaves = record { why = entries.Place; decides = by; told = is; leaves = leaves }
refused_by decided m left (entries.Image fault) line is lined by leaves = record { why = entries.Image fault; decides = by; told = is; leaves = leaves }
refused_by decided m left (entries.Head g head fault) line is lined by leaves = record { why = entries.Head g head fault; decides = by; told = is; leaves = leaves }
refused_by decided m left entries.Failed line is lined by leaves = absurd (lie lined)
refused_by decided m left entries.Memory line is lined by leaves = absurd (lie lined)

image_left : (m : Contents) (new : Option Contents) (why : NoEntry) → Leaves (Some m) new why → LeavesImage m (image_told new) why
image_left m new entries.Short leaves = ap image_told leaves
image_left m new entries.Count leaves = ap image_told leaves
image_left m new entries.Size leaves = ap image_told leaves
image_left m new entries.Place leaves = ap image_told leaves
image_left m new (entries.Image fault) leaves = ap image_told leaves
image_left m new (entries.Head g head fault) leaves = ap image_told leaves
image_left m new entries.Failed leaves = tt
image_left m new entries.Memory leaves = ap image_told leaves

-- ---- of a device that was repaired

repair_left : (m : Contents) (new : Option Contents) (repair : Repair) → LeavesRefused (Some m) new repair → RepairLeaves m (image_told new) repair
repair_left m new (Refused why) leaves = image_left m new why leaves
repair_left m new (Ended repaired) leaves = tt

pub told_left : (old new new' : Option Contents) (repair : Repair) (m : Contents) → old ≡ Some m → new' ≡ new → LeavesRefused old new repair → RepairLeaves m (image_told new') repair
told_left old new new' repair m is same leaves =
    subst (λ (t : Option Contents). RepairLeaves m (image_told t) repair) (sym same) (repair_left m new repair (subst (λ (t : Option Contents). LeavesRefused t new repair) is leaves))

pub told_refuses : (old : Option Contents) (decided : Contents → Option NoEntry) (repair : Repair) (m : Contents) → old ≡ Some m → IfSome old (λ n. RefusesAs (decided n) repair) → RefusesAs (decided m) repair
told_refuses old decided repair m is by = subst (λ (t : Option Contents). IfSome t (λ n. RefusesAs (decided n) repair)) is by

-- ---- of what is stored

module _ (decided : Option NoEntry) (m : Contents) (left : Option (ℕ → List ℕ)) where
  by_tests : (a b : Bool) → decided ≡ None → EndsSoRefused decided m left (cond a statuses.Clean (cond b statuses.GaveUp statuses.Faulty)) None
  by_tests true b none = none
  by_tests false true none = none
  by_tests false false none = none

  by_test : (b : Bool) → decided ≡ None → EndsSoRefused decided m left (cond b statuses.GaveUp statuses.Faulty) None
  by_test true none = none
  by_test false none = none

  by_finding : (f : Finding) → FindsByDoor decided m left f → EndsSoRefused decided m left (outcome_of f).status (outcome_of f).last
  by_finding (findings.Judged journal) finds = by_tests (list_all is_calm journal.items) (list_any is_given_up journal.items) finds
  by_finding (findings.Repaired journal true) finds = by_test (list_any is_given_up journal.items) finds
  by_finding (findings.Repaired journal false) finds = by_tests (list_all is_calm journal.items) (list_any is_given_up journal.items) finds
  by_finding (findings.Full journal) finds = finds
  by_finding (findings.Refused line) finds = (line, refl, finds)
  by_finding findings.Made finds = finds
  by_finding findings.Usage finds = tt
  by_finding (findings.DeviceFailed journal) finds = tt
  by_finding findings.HostFailed finds = tt
  by_finding (findings.Memory journal) finds = tt

same_image : (content : Option Contents) (blocks : Region → ℕ) → image_told content ≡ image_stored (stored_image content blocks)
same_image None blocks = refl
same_image (Some m) blocks = refl

pub stored_door : (f : Finding) (file redo file' : Option Stored) (content content' : Option Contents) (blocks blocks' : Region → ℕ) → IsOpened file redo content blocks → file' ≡ stored_image content' blocks'
    → ((m : Contents) → content ≡ Some m → FindsAtDoor (blocks Redo) (blocks Image) m (image_told content') f) → EndsOfFiles file redo file' (outcome_of f)
stored_door f None redo file' content content' blocks blocks' is held finds = tt
stored_door f (Some file) None file' content content' blocks blocks' is held finds = tt
stored_door f (Some file) (Some redo) file' content content' blocks blocks' is held finds =
    let m = opened file redo in
    let there : image_told content' ≡ image_stored file' = same_image content' blocks' ∙ ap image_stored (sym held) in
    by_finding (door_refusal redo.size file.size m) m (image_stored file') f
    (subst (λ (left : Option (ℕ → List ℕ)). FindsAtDoor redo.size file.size m left f) there
    (subst (λ (n : ℕ). FindsAtDoor redo.size n m (image_told content') f) is.1
    (subst (λ (n : ℕ). FindsAtDoor n (blocks Image) m (image_told content') f) is.2 (finds m is.0))))

-- ---- and how it is told

failed_door : (decided : Option NoEntry) (m : Contents) (left : Option (ℕ → List ℕ)) (status : Status) (last : Option LastLine) → status ≡ statuses.Failed → EndsSoRefused decided m left status last
failed_door decided m left status last is = subst (λ (s : Status). EndsSoRefused decided m left s last) (sym is) tt

memory_door : (decided : Option NoEntry) (m : Contents) (left : Option (ℕ → List ℕ)) (status : Status) (last : Option LastLine) → status ≡ statuses.Memory → EndsSoRefused decided m left status last
memory_door decided m left status last is = subst (λ (s : Status). EndsSoRefused decided m left s last) (sym is) tt

told_files : (found told : Outcome) (k k' : ℕ) (file redo file' : Option Stored) → EndsOfFiles file redo file' found → IsToldOf found k k' told → EndsOfFiles file redo file' told
told_files found told k k' None redo file' ends is = tt
told_files found told k k' (Some file) None file' ends is = tt
told_files found told k k' (Some file) (Some redo) file' ends (inl whole) = subst (EndsOfFiles (Some file) (Some redo) file') (sym whole.0) ends
told_files found told k k' (Some file) (Some redo) file' ends (inr (inl failed)) =
    failed_door (door_refusal redo.size file.size (opened file redo)) (opened file redo) (image_stored file') told.status told.last (ap (λ (o : Outcome). o.status) failed.0)
told_files found told k k' (Some file) (Some redo) file' ends (inr (inr memory)) =
    memory_door (door_refusal redo.size file.size (opened file redo)) (opened file redo) (image_stored file') told.status told.last memory.0

pub told_door : (job : Job) (finding : Finding) (told : Outcome) (k k' : ℕ) (stored redos stored' stored'' : List ℕ → Option Stored) → EndsAtDoor job stored redos stored' (outcome_of finding) → IsToldOf (outcome_of finding) k k' told
    → ((n : List ℕ) → stored'' n ≡ stored' n) → EndsAtDoor job stored redos stored'' told
told_door usage finding told k k' stored redos stored' stored'' ends is same = tt
told_door unbuilt finding told k k' stored redos stored' stored'' ends is same = tt
told_door (check_of name redo) finding told k k' stored redos stored' stored'' ends is same = tt
told_door (repair_of name redo plan turns) finding told k k' stored redos stored' stored'' ends is same =
    subst (λ (f : Option Stored). EndsOfFiles (stored name) (redos redo) f told) (sym (same name)) (told_files (outcome_of finding) told k k' (stored name) (redos redo) (stored' name) ends is)
told_door (make_of name) finding told k k' stored redos stored' stored'' ends is same = tt

-- a run that has no memory for its words, or a host that hands no device out
lost_files : (f : Finding) (file redo file' : Option Stored) → ((decided : Option NoEntry) (m : Contents) (left : Option (ℕ → List ℕ)) → FindsByDoor decided m left f) → EndsOfFiles file redo file' (outcome_of f)
lost_files f None redo file' none = tt
lost_files f (Some file) None file' none = tt
lost_files f (Some file) (Some redo) file' none =
    by_finding (door_refusal redo.size file.size (opened file redo)) (opened file redo) (image_stored file') f (none (door_refusal redo.size file.size (opened file redo)) (opened file redo) (image_stored file'))

pub lost_door : (job : Job) (f : Finding) (stored redos stored' : List ℕ → Option Stored) → ((decided : Option NoEntry) (m : Contents) (left : Option (ℕ → List ℕ)) → FindsByDoor decided m left f) → EndsAtDoor job stored redos stored' (outcome_of f)
lost_door usage f stored redos stored' none = tt
lost_door unbuilt f stored redos stored' none = tt
lost_door (check_of name redo) f stored redos stored' none = tt
lost_door (repair_of name redo plan turns) f stored redos stored' none = lost_files f (stored name) (redos redo) (stored' name) none
lost_door (make_of name) f stored redos stored' none = tt
