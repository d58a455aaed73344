-- Which refusal comes: of what is tested one after the other the first that fails.
use Rattle.std.proofs.Common.{◌≡◌, ◌∙◌, ℕ, List, Option, Some, None, Result, Ok, Err, IfSome, IfErr, Bool, refl, sym, ap, subst}
use Rattle.blk_device.specs.Causes.{MovesOnly}
use Rattle.blk_device.specs.Contents.{Contents, Holds, map_told}
use Rattle.blk_device.specs.declared.device.Region.TheVariants.{Image, Redo}
use Rattle.geom.specs.Layout.{Layout, layout_of}
use Rattle.geom.specs.Places.{layout}
use Rattle.geom.specs.Superblock.{first_fault}
use Rattle.geom.specs.declared.fault.ImageFault.{ImageFault}
use Rattle.geom.specs.declared.fault.ImageFault.TheVariants.{DeviceShort}
use Rattle.geom.specs.declared.geometry.Geometry.{Geometry}
use Rattle.redo_area.specs.Area.{after_recovery, is_open}
use Rattle.redo_area.specs.Recover.{Answers, redo_fault}
use Rattle.redo_area.specs.declared.faults.RedoFault.{RedoFault}
use Rattle.redo_area.specs.declared.faults.RedoFault.TheVariants as redos
use Rattle.repair_door.specs.Causes.{is_failed, is_failed_redo}
use Rattle.repair_door.specs.Doors.{IsDecided, Leaves, PassesBy, door_refusal, halt_entry, head_entry, heads_refusal, image_entry, image_refusal, redo_entry, redo_refusal, superblock_refusal}
use Rattle.repair_door.specs.Found.{HasGeometry}
use Rattle.repair_door.specs.declared.no_entry.NoEntry.{NoEntry}
use Rattle.repair_door.specs.declared.no_entry.NoEntry.TheVariants as entries
use Rattle.space_check.specs.Checked.{HaltsInHeads, LooksAtHeads, bad_head_from, or_else}
use Rattle.space_check.specs.Progress.{is_failed as is_failed_halt}
use Rattle.space_check.specs.declared.halt.Halt.{Halt}
use Rattle.space_check.specs.declared.halt.Halt.TheVariants as halts
use Rattle.std.specs.Option.{option_map}
use Rattle.std.specs.Prelude.{⊤}

-- both answers refuse alike
abbrev SameRefusal : {T U : Type 0} → Result T NoEntry → Result U NoEntry → Type 0
SameRefusal (Ok a) (Ok b) = ⊤
SameRefusal (Ok a) (Err why) = ⊥
SameRefusal (Err why) (Ok b) = ⊥
SameRefusal (Err why) (Err other) = other ≡ why

with_same : {T U : Type 0} (r : Result T NoEntry) (s : Result U NoEntry) (decided : Option NoEntry) → SameRefusal r s → PassesBy decided r → PassesBy decided s
with_same (Ok a) (Ok b) decided same passes = passes
with_same (Ok a) (Err why) decided same passes = absurd same
with_same (Err why) (Ok b) decided same passes = absurd same
with_same (Err why) (Err other) decided same passes = subst (IsDecided decided) (sym same) passes

-- ---- of two tests

with_first : (a b : Option NoEntry) (why : NoEntry) → a ≡ Some why → or_else a b ≡ Some why
with_first a b why is = ap (λ (x : Option NoEntry). or_else x b) is

pub first_decides : (a b : Option NoEntry) (why : NoEntry) → IsDecided a why → IsDecided (or_else a b) why
first_decides a b entries.Short is = with_first a b entries.Short is
first_decides a b entries.Count is = with_first a b entries.Count is
first_decides a b entries.Size is = with_first a b entries.Size is
first_decides a b entries.Place is = with_first a b entries.Place is
first_decides a b (entries.Image fault) is = with_first a b (entries.Image fault) is
first_decides a b (entries.Head group head fault) is = with_first a b (entries.Head group head fault) is
first_decides a b entries.Failed is = tt
first_decides a b entries.Memory is = tt

pub next_passes : {T : Type 0} (a b : Option NoEntry) (r : Result T NoEntry) → a ≡ None → PassesBy b r → PassesBy (or_else a b) r
next_passes a b r none passes = subst (λ (x : Option NoEntry). PassesBy (or_else x b) r) (sym none) passes

-- ---- the redo region

redo_decides : (fault : Option RedoFault) (waits : Bool) (why : RedoFault) → Answers fault waits (Err why) → IsDecided (option_map redo_entry fault) (redo_entry why)
redo_decides fault waits redos.Short is = ap (option_map redo_entry) is
redo_decides fault waits redos.Count is = ap (option_map redo_entry) is
redo_decides fault waits redos.Size is = ap (option_map redo_entry) is
redo_decides fault waits redos.Place is = ap (option_map redo_entry) is
redo_decides fault waits redos.Failed is = tt

pub recovered_passes : (told : Option Contents) (redo size : ℕ) (b : Bool) → IfSome told (λ m. Answers (redo_fault redo size m) (is_open m) (Ok b)) → IfSome told (λ m. PassesBy {T = Unit {0}} (redo_refusal redo size m) (Ok tt))
recovered_passes None redo size b answers = tt
recovered_passes (Some m) redo size b answers = ap (option_map redo_entry) answers.0

pub recovery_decides : (told : Option Contents) (redo size : ℕ) (why : RedoFault) (e : NoEntry) → e ≡ redo_entry why → IfSome told (λ m. Answers (redo_fault redo size m) (is_open m) (Err why)) → IfSome told (λ m. PassesBy {T = Unit {0}} (redo_refusal redo size m) (Err e))
recovery_decides None redo size why e is answers = tt
recovery_decides (Some m) redo size why e is answers = subst (IsDecided (redo_refusal redo size m)) (sym is) (redo_decides (redo_fault redo size m) (is_open m) why answers)

pub redo_leaves : (old new : Option Contents) (why : RedoFault) (e : NoEntry) → e ≡ redo_entry why → ((why ≡ redos.Failed → ⊥) → new ≡ old) → Leaves old new e
redo_leaves old new why e is same = subst (Leaves old new) (sym is) (each why same)
  where
    each : (why : RedoFault) → ((why ≡ redos.Failed → ⊥) → new ≡ old) → Leaves old new (redo_entry why)
    each redos.Short same = same (λ x. cc)
    each redos.Count same = same (λ x. cc)
    each redos.Size same = same (λ x. cc)
    each redos.Place same = same (λ x. cc)
    each redos.Failed same = tt

pub redo_moves : (before now : ℕ) (why : RedoFault) (e : NoEntry) → e ≡ redo_entry why → MovesOnly (is_failed_redo why) before now → MovesOnly (is_failed e) before now
redo_moves before now why e is moves = subst (λ (x : NoEntry). MovesOnly (is_failed x) before now) (sym is) (each why moves)
  where
    each : (why : RedoFault) → MovesOnly (is_failed_redo why) before now → MovesOnly (is_failed (redo_entry why)) before now
    each redos.Short moves = moves
    each redos.Count moves = moves
    each redos.Size moves = moves
    each redos.Place moves = moves
    each redos.Failed moves = moves

-- ---- the image

no_block : (image : ℕ → List ℕ) → superblock_refusal 0 image ≡ Some (entries.Image DeviceShort)
unfolding first_fault
no_block image = refl

pub short_decides : (told : Option Contents) (size n : ℕ) → n ≡ size → n ≡ 0 → IfSome told (λ m. PassesBy {T = Geometry} (superblock_refusal size (m Image)) (Err (entries.Image DeviceShort)))
short_decides None size n same none = tt
short_decides (Some m) size n same none = ap (λ (k : ℕ). superblock_refusal k (m Image)) (sym same ∙ none) ∙ no_block (m Image)

pub superblock_decides : (told : Option Contents) (size n : ℕ) (bytes : List ℕ) (fault : ImageFault) → n ≡ size → Holds Image 0 bytes told → first_fault bytes n ≡ Some fault
    → IfSome told (λ m. PassesBy {T = Geometry} (superblock_refusal size (m Image)) (Err (entries.Image fault)))
superblock_decides None size n bytes fault same holds bad = tt
superblock_decides (Some m) size n bytes fault same holds bad =
    ap (option_map image_entry) (ap (λ (k : ℕ). first_fault (m Image 0) k) (sym same) ∙ (ap (λ (b : List ℕ). first_fault b n) holds ∙ bad))

pub superblock_passes : (told : Option Contents) (size n : ℕ) (bytes : List ℕ) (geo : Geometry) → n ≡ size → Holds Image 0 bytes told → first_fault bytes n ≡ None
    → IfSome told (λ m. PassesBy {T = Geometry} (superblock_refusal size (m Image)) (Ok geo))
superblock_passes None size n bytes geo same holds good = tt
superblock_passes (Some m) size n bytes geo same holds good =
    ap (option_map image_entry) (ap (λ (k : ℕ). first_fault (m Image 0) k) (sym same) ∙ (ap (λ (b : List ℕ). first_fault b n) holds ∙ good))

pub heads_decide : (at : Layout) (image : ℕ → List ℕ) (before after : ℕ) (halt : Halt) (e : NoEntry) → e ≡ halt_entry halt → HaltsInHeads at image before after halt → IsDecided (heads_refusal at image) e
heads_decide at image before after (halts.Head g head fault) e is halted = subst (IsDecided (heads_refusal at image)) (sym is) (ap (option_map head_entry) halted.0)
heads_decide at image before after halts.Full e is halted = absurd halted
heads_decide at image before after halts.Failed e is halted = subst (IsDecided (heads_refusal at image)) (sym is) tt
heads_decide at image before after halts.Memory e is halted = subst (IsDecided (heads_refusal at image)) (sym is) tt

pub heads_pass : (at : Layout) (image : ℕ → List ℕ) → bad_head_from at image 0 at.agcount ≡ None → heads_refusal at image ≡ None
heads_pass at image none = ap (option_map head_entry) none

pub halt_moves : (before now : ℕ) (halt : Halt) (e : NoEntry) → e ≡ halt_entry halt → MovesOnly (is_failed_halt halt) before now → MovesOnly (is_failed e) before now
halt_moves before now halt e is moves = subst (λ (x : NoEntry). MovesOnly (is_failed x) before now) (sym is) (each halt moves)
  where
    each : (halt : Halt) → MovesOnly (is_failed_halt halt) before now → MovesOnly (is_failed (halt_entry halt)) before now
    each (halts.Head g head fault) moves = moves
    each halts.Full moves = moves
    each halts.Failed moves = moves
    each halts.Memory moves = moves

-- ---- all of it

-- a refused redo region
pub door_redo : (told : Option Contents) (redo size : ℕ) (why : NoEntry) → IfSome told (λ m. PassesBy {T = Unit {0}} (redo_refusal redo size m) (Err why))
    → IfSome told (λ m. PassesBy {T = Geometry} (door_refusal redo size m) (Err why))
door_redo None redo size why decided = tt
door_redo (Some m) redo size why decided = first_decides (redo_refusal redo size m) (image_refusal size (after_recovery m Image)) why decided

-- a refused superblock behind a recovery
pub door_superblock : (old new : Option Contents) (redo size : ℕ) (why : NoEntry) → new ≡ map_told after_recovery old → IfSome old (λ m. PassesBy {T = Unit {0}} (redo_refusal redo size m) (Ok tt))
    → IfSome new (λ m. PassesBy {T = Geometry} (superblock_refusal size (m Image)) (Err why)) → IfSome old (λ m. PassesBy {T = Geometry} (door_refusal redo size m) (Err why))
door_superblock None new redo size why is passed decided = tt
door_superblock (Some m) new redo size why is passed decided =
    next_passes {T = Geometry} (redo_refusal redo size m) (image_refusal size (after_recovery m Image)) (Err why) passed
    (first_decides (superblock_refusal size (after_recovery m Image)) (heads_refusal (layout_of (after_recovery m Image 0)) (after_recovery m Image)) why
    (subst (λ (t : Option Contents). IfSome t (λ n. IsDecided (superblock_refusal size (n Image)) why)) is decided))

-- the heads, refused or not
pub door_heads : {T U : Type 0} (old new : Option Contents) (redo size : ℕ) (geo : Geometry) (r : Result T NoEntry) (s : Result U NoEntry) → new ≡ map_told after_recovery old → IfSome old (λ m. PassesBy {T = Unit {0}} (redo_refusal redo size m) (Ok tt))
    → IfSome new (HasGeometry size geo) → ((m : Contents) → new ≡ Some m → PassesBy (heads_refusal (layout geo) (m Image)) r) → SameRefusal r s → IfSome old (λ m. PassesBy (door_refusal redo size m) s)
door_heads None new redo size geo r s is passed has decided same = tt
door_heads (Some m) new redo size geo r s is passed has decided same =
    let here : HasGeometry size geo (after_recovery m) = subst (λ (t : Option Contents). IfSome t (HasGeometry size geo)) is has in
    next_passes (redo_refusal redo size m) (image_refusal size (after_recovery m Image)) s passed
    (next_passes (superblock_refusal size (after_recovery m Image)) (heads_refusal (layout_of (after_recovery m Image 0)) (after_recovery m Image)) s (ap (option_map image_entry) here.superblock)
    (subst (λ (at : Layout). PassesBy (heads_refusal at (after_recovery m Image)) s) (sym here.places) (with_same r s (heads_refusal (layout geo) (after_recovery m Image)) same (decided (after_recovery m) is))))
