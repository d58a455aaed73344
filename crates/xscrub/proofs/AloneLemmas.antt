-- A repair of an image of which a check finds every unit good.
use Rattle.std.proofs.Common.{◌≡◌, ◌≤◌, ◌∙◌, ℕ, List, Bool, true, false, Option, Some, None, IfSome, inl, inr, refl, sym, ap, subst}
use Rattle.std.specs.Prelude.{if◌then◌else◌}
use Rattle.std.specs.List.{list_all, list_any}
use Rattle.blk_device.specs.Contents.{Contents}
use Rattle.blk_device.specs.declared.device.Region.{Region}
use Rattle.blk_device.specs.declared.device.Region.TheVariants.{Image, Redo}
use Rattle.core_calls.specs.declared.answers.ScrubFault.{ScrubFault}
use Rattle.fs_model.specs.declared.entry.Entry.{Entry}
use Rattle.fs_state.specs.declared.plan.Plan.{Plan}
use Rattle.fs_state.specs.declared.plan.Plan.TheVariants as plans
use Rattle.geom.specs.Superblock.{first_fault}
use Rattle.geom.specs.declared.fault.ImageFault.{ImageFault}
use Rattle.image_hosts.specs.Stored.{Stored, IsOpened, opened, stored_image}
use Rattle.quiet_repair.specs.Sound.{DoesNothing, IsNothingDone, IsSoundDevice, KeepsSound, LeavesAlone, is_good_entry}
use Rattle.quiet_repair.specs.declared.repair.Repair.{Repair}
use Rattle.quiet_repair.specs.declared.repair.Repair.TheVariants.{Refused, Ended}
use Rattle.quiet_repair.specs.declared.repair.Repaired.{Repaired}
use Rattle.redo_area.specs.Area.{after_recovery, closed_over, is_open}
use Rattle.redo_area.specs.declared.TheConstants.{REDO_BLOCKS}
use Rattle.repair_door.specs.declared.no_entry.NoEntry.{NoEntry}
use Rattle.sblock.specs.Lists.{Each}
use Rattle.xscrub.specs.Alone.{EndsAlone, FilesAlone, FindsAlone, FindsFailed, FindsStill, LentAlone, PlanAlone, StaysAlone, sizes_of}
use Rattle.xscrub.specs.Command.{Job, check_of, repair_of, make_of, unbuilt, usage}
use Rattle.xscrub.specs.Doors.{image_stored}
use Rattle.xscrub.specs.Ending.{IsToldOf}
use Rattle.xscrub.specs.Outcome.{Outcome, is_given_up, judged_outcome, outcome_of, repaired_outcome}
use Rattle.xscrub.specs.Repairs.{was_sound}
use Rattle.xscrub.specs.declared.ending.Finding.{Finding}
use Rattle.xscrub.specs.declared.ending.Finding.TheVariants as findings
use Rattle.xscrub.specs.declared.ending.Status.{Status}
use Rattle.xscrub.specs.declared.ending.Status.TheVariants as statuses
use Rattle.xscrub.proofs.EndingLemmas.{status_by}
use Rattle.xscrub.proofs.SoundLemmas.{all_calm}

lie : false ≡ true → ⊥
lie e = cc

-- ---- of what is found

pub no_entry_lie : (decided : Option NoEntry) (why : NoEntry) → decided ≡ None → decided ≡ Some why → ⊥
no_entry_lie decided why none some = cc

pub no_stop_lie : (stop : Option ScrubFault) (fault : ScrubFault) → stop ≡ None → stop ≡ Some fault → ⊥
no_stop_lie stop fault none some = cc

pub failed_alone : (journal : List Entry) (f : Finding) → FindsFailed f → FindsAlone journal f
failed_alone journal (findings.Judged found) failed = failed
failed_alone journal (findings.Repaired found sick) failed = absurd failed
failed_alone journal (findings.Full found) failed = failed
failed_alone journal (findings.Refused line) failed = failed
failed_alone journal findings.Made failed = failed
failed_alone journal findings.Usage failed = tt
failed_alone journal (findings.DeviceFailed found) failed = tt
failed_alone journal findings.HostFailed failed = tt
failed_alone journal (findings.Memory found) failed = tt

still : (m : Contents) (new : Option Contents) (journal : List Entry) (f : Finding) → new ≡ Some m → FindsAlone journal f → FindsStill m new journal f
still m new journal (findings.Judged found) same finds = finds
still m new journal (findings.Repaired found sick) same finds = (finds.0, finds.1, same)
still m new journal (findings.Full found) same finds = finds
still m new journal (findings.Refused line) same finds = finds
still m new journal findings.Made same finds = finds
still m new journal findings.Usage same finds = tt
still m new journal (findings.DeviceFailed found) same finds = tt
still m new journal findings.HostFailed same finds = tt
still m new journal (findings.Memory found) same finds = tt

failed_still : (m : Contents) (new : Option Contents) (journal : List Entry) (f : Finding) → FindsFailed f → FindsStill m new journal f
failed_still m new journal (findings.Judged found) failed = failed
failed_still m new journal (findings.Repaired found sick) failed = absurd failed
failed_still m new journal (findings.Full found) failed = failed
failed_still m new journal (findings.Refused line) failed = failed
failed_still m new journal findings.Made failed = failed
failed_still m new journal findings.Usage failed = tt
failed_still m new journal (findings.DeviceFailed found) failed = tt
failed_still m new journal findings.HostFailed failed = tt
failed_still m new journal (findings.Memory found) failed = tt

pub not_unsound : (journal : List Entry) (repaired : Repaired) → IsNothingDone journal repaired → repaired.is_sound ≡ false → ⊥
not_unsound journal repaired nothing is = lie (sym is ∙ nothing.told)

-- ---- of a device that was repaired

recovered : (m : Contents) → is_open m ≡ false → after_recovery m ≡ m
recovered m closed = ap (λ (b : Bool). if b then closed_over (m Redo 1) m else m) closed

pub lent_sound : (plan : Plan) (old new : Option Contents) (blocks : Region → ℕ) (repair : Repair) (f : Finding) → IfSome old (λ m. (journal : List Entry) → IsSoundDevice blocks journal m → LeavesAlone plan journal repair)
    → was_sound repair ≡ true → KeepsSound old new repair → ((journal : List Entry) → DoesNothing journal repair → FindsAlone journal f) → LentAlone plan old blocks new f
lent_sound plans.Check old new blocks repair f leaves is kept finds = tt
lent_sound plans.Repair None new blocks repair f leaves is kept finds = tt
lent_sound plans.Repair (Some m) new blocks (Refused why) f leaves is kept finds = absurd (lie is)
lent_sound plans.Repair (Some m) new blocks (Ended repaired) f leaves is kept finds = λ journal sound.
    still m new journal f (kept is ∙ ap Some (recovered m sound.closed)) (finds journal (leaves journal sound))
lent_sound plans.Rebuild old new blocks repair f leaves is kept finds = tt

pub lent_failed : (plan : Plan) (old new : Option Contents) (blocks : Region → ℕ) (repair : Repair) (f : Finding) → IfSome old (λ m. (journal : List Entry) → IsSoundDevice blocks journal m → LeavesAlone plan journal repair)
    → ((journal : List Entry) → DoesNothing journal repair → FindsFailed f) → LentAlone plan old blocks new f
lent_failed plans.Check old new blocks repair f leaves failed = tt
lent_failed plans.Repair None new blocks repair f leaves failed = tt
lent_failed plans.Repair (Some m) new blocks repair f leaves failed = λ journal sound. failed_still m new journal f (failed journal (leaves journal sound))
lent_failed plans.Rebuild old new blocks repair f leaves failed = tt

-- ---- of what is stored

whole_alone : (journal : List Entry) (file : Stored) (file' : Option Stored) → Each is_good_entry journal → image_stored file' ≡ Some file.at → EndsAlone journal file file' (judged_outcome journal).status (judged_outcome journal)
whole_alone journal file file' good image =
    let clean : (judged_outcome journal).status ≡ statuses.Clean = ap (λ (b : Bool). status_by b (list_any is_given_up journal)) (all_calm journal good) in
    subst (λ (s : Status). EndsAlone journal file file' s (judged_outcome journal)) (sym clean) (refl, image)

ends_alone : (journal : List Entry) (file : Stored) (file' : Option Stored) (m : Contents) (new : Option Contents) (f : Finding) → Each is_good_entry journal → (new ≡ Some m → image_stored file' ≡ Some file.at)
    → FindsStill m new journal f → EndsAlone journal file file' (outcome_of f).status (outcome_of f)
ends_alone journal file file' m new (findings.Judged found) good image finds = absurd finds
ends_alone journal file file' m new (findings.Repaired found sick) good image finds =
    let same : repaired_outcome sick found.items ≡ judged_outcome journal = λ i. repaired_outcome (finds.1 i) (finds.0 i) in
    subst (λ (o : Outcome). EndsAlone journal file file' o.status o) (sym same) (whole_alone journal file file' good (image finds.2))
ends_alone journal file file' m new (findings.Full found) good image finds = absurd finds
ends_alone journal file file' m new (findings.Refused line) good image finds = absurd finds
ends_alone journal file file' m new findings.Made good image finds = absurd finds
ends_alone journal file file' m new findings.Usage good image finds = tt
ends_alone journal file file' m new (findings.DeviceFailed found) good image finds = tt
ends_alone journal file file' m new findings.HostFailed good image finds = tt
ends_alone journal file file' m new (findings.Memory found) good image finds = tt

-- a device with the sizes of its files
sound_opened : (file redo : Stored) (blocks : Region → ℕ) (journal : List Entry) → blocks Image ≡ file.size → blocks Redo ≡ redo.size → IsSoundDevice (sizes_of file redo) journal (opened file redo) → IsSoundDevice blocks journal (opened file redo)
sound_opened file redo blocks journal image area sound = record {
  long = subst (λ (n : ℕ). REDO_BLOCKS ≤ n) (sym area) sound.long;
  closed = sound.closed;
  superblock = ap (λ (n : ℕ). first_fault (file.at 0) n) image ∙ sound.superblock;
  judged = sound.judged;
  good = sound.good;
}

files_alone : (f : Finding) (file redo file' : Option Stored) (content content' : Option Contents) (blocks blocks' : Region → ℕ) → IsOpened file redo content blocks → file' ≡ stored_image content' blocks'
    → LentAlone plans.Repair content blocks content' f → FilesAlone file redo file' (outcome_of f)
files_alone f None redo file' content content' blocks blocks' is held lent = tt
files_alone f (Some file) None file' content content' blocks blocks' is held lent = tt
files_alone f (Some file) (Some redo) file' content content' blocks blocks' is held lent = λ journal sound.
    let m = opened file redo in
    let finds : FindsStill m content' journal f =
    subst (λ (c : Option Contents). LentAlone plans.Repair c blocks content' f) is.0 lent journal (sound_opened file redo blocks journal is.1 is.2 sound) in
    ends_alone journal file file' m content' f sound.good (λ same. ap image_stored (held ∙ ap (λ (c : Option Contents). stored_image c blocks') same)) finds

pub stored_alone : (plan : Plan) (f : Finding) (file redo file' : Option Stored) (content content' : Option Contents) (blocks blocks' : Region → ℕ) → IsOpened file redo content blocks → file' ≡ stored_image content' blocks'
    → LentAlone plan content blocks content' f → PlanAlone plan file redo file' (outcome_of f)
stored_alone plans.Check f file redo file' content content' blocks blocks' is held lent = tt
stored_alone plans.Repair f file redo file' content content' blocks blocks' is held lent = files_alone f file redo file' content content' blocks blocks' is held lent
stored_alone plans.Rebuild f file redo file' content content' blocks blocks' is held lent = tt

-- ---- and how it is told

stopped_alone : (journal : List Entry) (file : Stored) (file' : Option Stored) (told : Outcome) (status : Status) → told.status ≡ status → EndsAlone journal file file' status told → EndsAlone journal file file' told.status told
stopped_alone journal file file' told status is ends = subst (λ (s : Status). EndsAlone journal file file' s told) (sym is) ends

told_files : (found told : Outcome) (k k' : ℕ) (file redo file' : Option Stored) → FilesAlone file redo file' found → IsToldOf found k k' told → FilesAlone file redo file' told
told_files found told k k' None redo file' ends is = tt
told_files found told k k' (Some file) None file' ends is = tt
told_files found told k k' (Some file) (Some redo) file' ends (inl whole) = subst (FilesAlone (Some file) (Some redo) file') (sym whole.0) ends
told_files found told k k' (Some file) (Some redo) file' ends (inr (inl failed)) = λ journal sound. stopped_alone journal file file' told statuses.Failed (ap (λ (o : Outcome). o.status) failed.0) tt
told_files found told k k' (Some file) (Some redo) file' ends (inr (inr memory)) = λ journal sound. stopped_alone journal file file' told statuses.Memory memory.0 tt

told_plan : (plan : Plan) (found told : Outcome) (k k' : ℕ) (file redo file' : Option Stored) → PlanAlone plan file redo file' found → IsToldOf found k k' told → PlanAlone plan file redo file' told
told_plan plans.Check found told k k' file redo file' ends is = tt
told_plan plans.Repair found told k k' file redo file' ends is = told_files found told k k' file redo file' ends is
told_plan plans.Rebuild found told k k' file redo file' ends is = tt

pub told_alone : (job : Job) (finding : Finding) (told : Outcome) (k k' : ℕ) (stored redos stored' stored'' : List ℕ → Option Stored) → StaysAlone job stored redos stored' (outcome_of finding) → IsToldOf (outcome_of finding) k k' told
    → ((n : List ℕ) → stored'' n ≡ stored' n) → StaysAlone job stored redos stored'' told
told_alone usage finding told k k' stored redos stored' stored'' ends is same = tt
told_alone unbuilt finding told k k' stored redos stored' stored'' ends is same = tt
told_alone (check_of name redo) finding told k k' stored redos stored' stored'' ends is same = tt
told_alone (repair_of name redo plan turns) finding told k k' stored redos stored' stored'' ends is same =
    subst (λ (f : Option Stored). PlanAlone plan (stored name) (redos redo) f told) (sym (same name)) (told_plan plan (outcome_of finding) told k k' (stored name) (redos redo) (stored' name) ends is)
told_alone (make_of name) finding told k k' stored redos stored' stored'' ends is same = tt

-- a run that has no memory for its words, or a host that hands no device out
lost_files : (f : Finding) (file redo file' : Option Stored) → ((journal : List Entry) (i : Stored) → EndsAlone journal i file' (outcome_of f).status (outcome_of f)) → FilesAlone file redo file' (outcome_of f)
lost_files f None redo file' none = tt
lost_files f (Some file) None file' none = tt
lost_files f (Some file) (Some redo) file' none = λ journal sound. none journal file

lost_plan : (plan : Plan) (f : Finding) (file redo file' : Option Stored) → ((journal : List Entry) (i : Stored) → EndsAlone journal i file' (outcome_of f).status (outcome_of f)) → PlanAlone plan file redo file' (outcome_of f)
lost_plan plans.Check f file redo file' none = tt
lost_plan plans.Repair f file redo file' none = lost_files f file redo file' none
lost_plan plans.Rebuild f file redo file' none = tt

pub lost_alone : (job : Job) (f : Finding) (stored redos stored' : List ℕ → Option Stored) → ((journal : List Entry) (i : Stored) (file' : Option Stored) → EndsAlone journal i file' (outcome_of f).status (outcome_of f))
    → StaysAlone job stored redos stored' (outcome_of f)
lost_alone usage f stored redos stored' none = tt
lost_alone unbuilt f stored redos stored' none = tt
lost_alone (check_of name redo) f stored redos stored' none = tt
lost_alone (repair_of name redo plan turns) f stored redos stored' none = lost_plan plan f (stored name) (redos redo) (stored' name) (λ journal i. none journal i (stored' name))
lost_alone (make_of name) f stored redos stored' none = tt
