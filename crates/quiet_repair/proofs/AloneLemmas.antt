-- A device of which a check finds every unit good is left alone.
use Rattle.std.proofs.Common.{◌≡◌, ◌∙◌, ℕ, ◌≤◌, List, [], ◌∷◌, Bool, true, false, Option, Some, None, Result, Ok, IfSome, refl, sym, ap, subst, arith}
use Rattle.std.proofs.lemmas.Bool.Decides.{nat_tests}
use Rattle.std.specs.Global.{Vec}
use Rattle.std.specs.List.{list_all}
use Rattle.std.specs.Option.{option_map}
use Rattle.std.specs.Prelude.{nat_lt, if◌then◌else◌, ◌&&◌}
use Rattle.ag_headers.specs.declared.fault.HeadFault.{HeadFault}
use Rattle.blk_device.specs.Contents.{Contents, map_told}
use Rattle.blk_device.specs.declared.device.Region.{Region}
use Rattle.blk_device.specs.declared.device.Region.TheVariants.{Image, Redo}
use Rattle.fs_model.specs.declared.entry.Entry.{Entry}
use Rattle.fs_model.specs.declared.unit.Head.{Head}
use Rattle.fs_state.specs.declared.plan.Plan.{Plan}
use Rattle.fs_state.specs.declared.plan.Plan.TheVariants as plans
use Rattle.geom.specs.Layout.{Layout, layout_of}
use Rattle.geom.specs.Places.{layout}
use Rattle.geom.specs.declared.geometry.Geometry.{Geometry}
use Rattle.image_check.specs.Image.{image_checked}
use Rattle.quiet_repair.specs.Sound.{DoesNothing, IsSound, IsSoundDevice, IsUnsound, LeavesAlone, is_good_entry}
use Rattle.quiet_repair.specs.declared.repair.Repair.{Repair}
use Rattle.quiet_repair.specs.declared.repair.Repair.TheVariants.{Refused, Ended}
use Rattle.redo_area.specs.Area.{after_recovery, closed_over, is_open}
use Rattle.redo_area.specs.Recover.{redo_fault}
use Rattle.redo_area.specs.Table.{table_fault}
use Rattle.redo_area.specs.declared.TheConstants.{REDO_BLOCKS}
use Rattle.redo_area.specs.declared.faults.RedoFault.{RedoFault}
use Rattle.redo_area.specs.declared.faults.RedoFault.TheVariants.{Short}
use Rattle.repair_door.specs.Doors.{IsDecided, door_refusal, head_entry, heads_refusal, image_entry, redo_entry, superblock_refusal}
use Rattle.repair_door.specs.Found.{HasGeometry}
use Rattle.repair_door.specs.declared.no_entry.NoEntry.{NoEntry}
use Rattle.sblock.specs.Lists.{Each}
use Rattle.space_check.specs.Checked.{Checked, Filled, Judged, MeetsCheck, MeetsHalt, RefusedHead, bad_head_from, journal_of, or_else}
use Rattle.space_check.specs.declared.halt.Halt.{Halt}
use Rattle.space_check.specs.declared.halt.Halt.TheVariants as halts

-- ---- all entries of a journal

all_of_each : (js : List Entry) → Each is_good_entry js → list_all is_good_entry js ≡ true
all_of_each [] each = refl
all_of_each (e ∷ js) each = ap (λ (b : Bool). b && list_all is_good_entry js) each.0 ∙ all_of_each js each.1

and_first : (a b : Bool) → (a && b) ≡ true → a ≡ true
and_first true b is = refl
and_first false b is = is

and_second : (a b : Bool) → (a && b) ≡ true → b ≡ true
and_second true b is = is
and_second false b is = absurd (lie is)
  where
    lie : false ≡ true → ⊥
    lie e = cc

pub each_of_all : (js : List Entry) → list_all is_good_entry js ≡ true → Each is_good_entry js
each_of_all [] all = tt
each_of_all (e ∷ js) all = (and_first (is_good_entry e) (list_all is_good_entry js) all, each_of_all js (and_second (is_good_entry e) (list_all is_good_entry js) all))

true_false : true ≡ false → ⊥
true_false e = cc

-- ---- what a check decides

same_journal : (js ks : List Entry) → Judged js ≡ Judged ks → js ≡ ks
same_journal js ks is = ap journal_of is

judged_head : (g : ℕ) (head : Head) (fault : HeadFault) (js : List Entry) → RefusedHead g head fault ≡ Judged js → ⊥
judged_head g head fault js e = cc

judged_filled : (ks js : List Entry) → Filled ks ≡ Judged js → ⊥
judged_filled ks js e = cc

-- one that isn't good
pub not_all_good : (checked : Checked) (js : List Entry) → checked ≡ Judged js → list_all is_good_entry js ≡ false → IsUnsound checked
not_all_good checked js is not = λ ks same each.
    true_false (sym (all_of_each js (subst (λ (xs : List Entry). Each is_good_entry xs) (same_journal ks js (sym same ∙ is)) each)) ∙ not)

-- the check of an image that went to its end
pub some_sound : (content : Option Contents) (at : Layout) (journal : Vec Entry) → IfSome content (λ m. MeetsCheck (image_checked at (m Image)) (Ok journal)) → Each is_good_entry journal.items
    → IfSome content (λ m. IsSound (image_checked at (m Image)) (Some journal))
some_sound None at journal meets each = tt
some_sound (Some m) at journal meets each = (meets, each)

pub none_sound : (content : Option Contents) (at : Layout) (journal : Vec Entry) → IfSome content (λ m. MeetsCheck (image_checked at (m Image)) (Ok journal)) → list_all is_good_entry journal.items ≡ false
    → IfSome content (λ m. IsSound (image_checked at (m Image)) None)
none_sound None at journal meets not = tt
none_sound (Some m) at journal meets not = not_all_good (image_checked at (m Image)) journal.items meets not

-- neither a failed device nor want of memory stopped it
abbrev pub is_late : Halt → Bool
is_late (halts.Head g head fault) = false
is_late halts.Full = false
is_late halts.Failed = true
is_late halts.Memory = true

-- one that a head, or a full journal, stopped
pub halted_unsound : (checked : Checked) (halt : Halt) (js : List Entry) → is_late halt ≡ false → MeetsHalt checked halt js → IsUnsound checked
halted_unsound checked (halts.Head g head fault) js early meets = λ ks same each. judged_head g head fault ks (sym meets.0 ∙ same)
halted_unsound checked halts.Full js early meets = λ ks same each. judged_filled js ks (sym meets ∙ same)
halted_unsound checked halts.Failed js early meets = absurd (true_false early)
halted_unsound checked halts.Memory js early meets = absurd (true_false early)

-- ---- behind the door

module _ (blocks : Region → ℕ) (geo : Geometry) (repair : Repair) where
  -- a check found it
  pub found_alone : (content : Option Contents) (found : Vec Entry) → IfSome content (HasGeometry (blocks Image) geo) → IfSome content (λ m. IsSound (image_checked (layout geo) (m Image)) (Some found))
      → ((journal : List Entry) → found.items ≡ journal → DoesNothing journal repair) → IfSome content (λ m. (journal : List Entry) → IsSoundDevice blocks journal m → DoesNothing journal repair)
  found_alone None found has sound does = tt
  found_alone (Some m) found has sound does = λ journal is.
      does journal (same_journal found.items journal (sym sound.0 ∙ (ap (λ (at : Layout). image_checked at (m Image)) (sym has.places) ∙ is.judged)))

  -- or didn't
  pub missed_alone : (content : Option Contents) → IfSome content (HasGeometry (blocks Image) geo) → IfSome content (λ m. IsSound (image_checked (layout geo) (m Image)) None)
      → IfSome content (λ m. (journal : List Entry) → IsSoundDevice blocks journal m → DoesNothing journal repair)
  missed_alone None has unsound = tt
  missed_alone (Some m) has unsound = λ journal is. absurd (unsound journal (ap (λ (at : Layout). image_checked at (m Image)) (sym has.places) ∙ is.judged) is.good)

-- or stopped
pub stopped_alone : (content : Option Contents) (blocks : Region → ℕ) (why : NoEntry) → IsDecided None why → IfSome content (λ m. (journal : List Entry) → IsSoundDevice blocks journal m → DoesNothing journal (Refused why))
stopped_alone None blocks why only = tt
stopped_alone (Some m) blocks why only = λ journal is. only

pub planned_alone : (content : Option Contents) (blocks : Region → ℕ) (plan : Plan) (repair : Repair) → plan ≡ plans.Repair → IfSome content (λ m. (journal : List Entry) → IsSoundDevice blocks journal m → DoesNothing journal repair)
    → IfSome content (λ m. (journal : List Entry) → IsSoundDevice blocks journal m → LeavesAlone plan journal repair)
planned_alone None blocks plan repair is does = tt
planned_alone (Some m) blocks plan repair is does = λ journal sound. subst (λ (p : Plan). LeavesAlone p journal repair) (sym is) (does journal sound)

pub checked_alone : (content : Option Contents) (blocks : Region → ℕ) (plan : Plan) (repair : Repair) → plan ≡ plans.Check → IfSome content (λ m. (journal : List Entry) → IsSoundDevice blocks journal m → LeavesAlone plan journal repair)
checked_alone None blocks plan repair is = tt
checked_alone (Some m) blocks plan repair is = λ journal sound. subst (λ (p : Plan). LeavesAlone p journal repair) (sym is) tt

pub rebuilt_alone : (content : Option Contents) (blocks : Region → ℕ) (plan : Plan) (repair : Repair) → plan ≡ plans.Rebuild → IfSome content (λ m. (journal : List Entry) → IsSoundDevice blocks journal m → LeavesAlone plan journal repair)
rebuilt_alone None blocks plan repair is = tt
rebuilt_alone (Some m) blocks plan repair is = λ journal sound. subst (λ (p : Plan). LeavesAlone p journal repair) (sym is) tt

-- ---- at the door

recovered_same : (m : Contents) → is_open m ≡ false → after_recovery m ≡ m
recovered_same m closed = ap (λ (b : Bool). if b then closed_over (m Redo 1) m else m) closed

at_least : (n most : ℕ) → most ≤ n → nat_lt n most ≡ false
at_least n most h = grind (arith, nat_tests)

abbrev refusal_by : (short waits : Bool) → Option RedoFault → Option RedoFault
refusal_by short waits fault = if short then Some Short else (if waits then fault else None)

no_redo_fault : (redo size : ℕ) (m : Contents) → REDO_BLOCKS ≤ redo → is_open m ≡ false → redo_fault redo size m ≡ None
no_redo_fault redo size m long closed = λ i. refusal_by (at_least redo REDO_BLOCKS long i) (closed i) (table_fault size (m Redo 1))

refused_image : (at : Layout) (image : ℕ → List ℕ) (bad : ℕ × (Head × HeadFault)) → bad_head_from at image 0 at.agcount ≡ Some bad → image_checked at image ≡ RefusedHead bad.0 bad.1.0 bad.1.1
unfolding image_checked
refused_image at image bad e = rw (e, image_checked) refl

no_bad_head : (at : Layout) (image : ℕ → List ℕ) (js : List Entry) → image_checked at image ≡ Judged js → heads_refusal at image ≡ None
no_bad_head at image js is = by_first (bad_head_from at image 0 at.agcount) refl
  where
    by_first : (first : Option (ℕ × (Head × HeadFault))) → bad_head_from at image 0 at.agcount ≡ first → option_map head_entry (bad_head_from at image 0 at.agcount) ≡ None
    by_first None e = ap (option_map head_entry) e
    by_first (Some bad) e = absurd (judged_head bad.0 bad.1.0 bad.1.1 js (sym (refused_image at image bad e) ∙ is))

sound_passes : (blocks : Region → ℕ) (js : List Entry) (m : Contents) → IsSoundDevice blocks js m → door_refusal (blocks Redo) (blocks Image) m ≡ None
sound_passes blocks js m sound =
    let same : after_recovery m ≡ m = recovered_same m sound.closed in
    let redo : option_map redo_entry (redo_fault (blocks Redo) (blocks Image) m) ≡ None = ap (option_map redo_entry) (no_redo_fault (blocks Redo) (blocks Image) m sound.long sound.closed) in
    let first : superblock_refusal (blocks Image) (m Image) ≡ None = ap (option_map image_entry) sound.superblock in
    let heads : heads_refusal (layout_of (m Image 0)) (m Image) ≡ None = no_bad_head (layout_of (m Image 0)) (m Image) js sound.judged in
    ap (λ (x : Option NoEntry). or_else x (or_else (superblock_refusal (blocks Image) (after_recovery m Image)) (heads_refusal (layout_of (after_recovery m Image 0)) (after_recovery m Image)))) redo
    ∙ (ap (λ (n : Contents). or_else (superblock_refusal (blocks Image) (n Image)) (heads_refusal (layout_of (n Image 0)) (n Image))) same
    ∙ (ap (λ (x : Option NoEntry). or_else x (heads_refusal (layout_of (m Image 0)) (m Image))) first ∙ heads))

alone_refused : (plan : Plan) (js : List Entry) (why : NoEntry) → IsDecided None why → LeavesAlone plan js (Refused why)
alone_refused plans.Check js why only = tt
alone_refused plans.Repair js why only = only
alone_refused plans.Rebuild js why only = tt

pub door_alone : (content : Option Contents) (blocks : Region → ℕ) (plan : Plan) (why : NoEntry) → IfSome content (λ m. IsDecided (door_refusal (blocks Redo) (blocks Image) m) why)
    → IfSome content (λ m. (journal : List Entry) → IsSoundDevice blocks journal m → LeavesAlone plan journal (Refused why))
door_alone None blocks plan why decided = tt
door_alone (Some m) blocks plan why decided = λ journal sound.
    alone_refused plan journal why (subst (λ (d : Option NoEntry). IsDecided d why) (sound_passes blocks journal m sound) decided)

pub passed_alone : (old new : Option Contents) (blocks blocks' : Region → ℕ) (plan : Plan) (repair : Repair) → new ≡ map_told after_recovery old → blocks' ≡ blocks
    → IfSome new (λ m. (journal : List Entry) → IsSoundDevice blocks' journal m → LeavesAlone plan journal repair) → IfSome old (λ m. (journal : List Entry) → IsSoundDevice blocks journal m → LeavesAlone plan journal repair)
passed_alone None new blocks blocks' plan repair is sizes alone = tt
passed_alone (Some m) new blocks blocks' plan repair is sizes alone = λ journal sound.
    let here : (js : List Entry) → IsSoundDevice blocks' js (after_recovery m) → LeavesAlone plan js repair =
    subst (λ (t : Option Contents). IfSome t (λ n. (js : List Entry) → IsSoundDevice blocks' js n → LeavesAlone plan js repair)) is alone in
    here journal (subst (λ (n : Contents). IsSoundDevice blocks' journal n) (sym (recovered_same m sound.closed)) (subst (λ (f : Region → ℕ). IsSoundDevice f journal m) (sym sizes) sound))
