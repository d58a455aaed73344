-- How an image ends, test by test.
use Rattle.std.proofs.Common.{◌≡◌, ◌≤◌, ℕ, ◌+◌, List, [], ◌∷◌, Option, Some, None, Result, Ok, Err, IfSome, IfOk, IfErr, IsErr, refl, sym, ◌∙◌, ap, subst}
use Rattle.std.specs.Prelude.{IsErrAnd, Bool}
use Rattle.blk_device.specs.Contents.{Contents, Holds}
use Rattle.blk_device.specs.declared.device.Region.TheVariants.{Image, Redo}
use Rattle.geom.specs.Layout.{Layout, layout_of}
use Rattle.geom.specs.Superblock.{first_fault}
use Rattle.geom.specs.declared.fault.ImageFault.{ImageFault}
use Rattle.geom.specs.declared.fault.ImageFault.TheVariants.{DeviceShort}
use Rattle.blk_device.specs.Taken.{IsFront}
use Rattle.fs_model.specs.declared.entry.Entry.{Entry}
use Rattle.image_check.specs.Image.{ReadsForEvents, image_checked, image_events as groups_events}
use Rattle.space_check.specs.Checked.{look}
use Rattle.space_check.specs.Events.{Event}
use Rattle.xscrub.specs.Image.{device_outcome, image_events, image_outcome, superblock_events, superblock_outcome, checked_outcome, refused}
use Rattle.xscrub.specs.Judged.{HasDeviceFront, HasFrontOf, IsDeviceJudged, IsJudged, ReadsForImage, journal_at, journal_in, judgement_outcome}
use Rattle.xscrub.specs.Outcome.{Outcome}
use Rattle.blk_device.specs.declared.device.Region.{Region}
use Rattle.xscrub.specs.Ending.{stored_outcome}
use Rattle.image_hosts.specs.Stored.{Stored, IsOpened, opened}
use Rattle.xscrub.specs.Units.{HasFirstUnits}
use Rattle.xscrub.proofs.SaysLemmas.{kept_behind, kept_first_block, kept_none, kept_unread}
use Rattle.xscrub.proofs.UnitLemmas.{no_units}
use Rattle.xscrub.specs.declared.judging.JudgeFault.{JudgeFault}
use Rattle.xscrub.specs.declared.judging.Judgement.{Judgement}
use Rattle.xscrub.specs.declared.judging.Judgement.TheVariants.{Refused}
use Rattle.xscrub.specs.declared.last_lines.LastLine.{LastLine}
use Rattle.xscrub.specs.declared.last_lines.LastLine.TheVariants as lines

-- what holds of an answer, from what else holds of it
pub if_ok : (result : Result Judgement JudgeFault) (P Q : Judgement → Type 0) → IfOk result P → ((found : Judgement) → P found → Q found) → IfOk result Q
if_ok (Ok found) P Q holds each = each found holds
if_ok (Err fault) P Q holds each = tt

no_block : (image : ℕ → List ℕ) → image_outcome 0 image ≡ refused (lines.Image DeviceShort)
unfolding image_outcome first_fault
no_block image = refl

-- an image without a block
pub judged_short : (told : Option Contents) (size n : ℕ) → n ≡ size → n ≡ 0 → IsJudged told size (Refused (lines.Image DeviceShort))
judged_short None size n same none = tt
judged_short (Some m) size n same none = sym (ap (λ (k : ℕ). image_outcome k (m Image)) (sym same ∙ none) ∙ no_block (m Image))

module _ (size : ℕ) (image : ℕ → List ℕ) (bytes : List ℕ) (held : image 0 ≡ bytes) where
  at_superblock : image_outcome size image ≡ superblock_outcome (layout_of bytes) image (first_fault bytes size)
  unfolding image_outcome
  at_superblock = ap (λ (b : List ℕ). superblock_outcome (layout_of b) image (first_fault b size)) held

  bad_superblock : (fault : ImageFault) → first_fault bytes size ≡ Some fault → image_outcome size image ≡ refused (lines.Image fault)
  bad_superblock fault bad = at_superblock ∙ ap (superblock_outcome (layout_of bytes) image) bad

  pub good_superblock : (at : Layout) → first_fault bytes size ≡ None → at ≡ layout_of bytes → image_outcome size image ≡ checked_outcome (image_checked at image)
  good_superblock at good same =
      at_superblock ∙ ap (superblock_outcome (layout_of bytes) image) good ∙ ap (λ (l : Layout). checked_outcome (image_checked l image)) (sym same)

  at_events : image_events size image ≡ look ∷ superblock_events (layout_of bytes) image (first_fault bytes size)
  unfolding image_events
  at_events = ap (λ (b : List ℕ). look ∷ superblock_events (layout_of b) image (first_fault b size)) held

  good_events : (at : Layout) → first_fault bytes size ≡ None → at ≡ layout_of bytes → image_events size image ≡ look ∷ groups_events at image
  good_events at good same =
      at_events ∙ ap (λ f. look ∷ superblock_events (layout_of bytes) image f) good ∙ ap (λ (l : Layout). look ∷ groups_events l image) (sym same)

-- an image with a fault in its superblock
pub judged_bad : (told : Option Contents) (size n : ℕ) (bytes : List ℕ) (fault : ImageFault) → n ≡ size → Holds Image 0 bytes told → first_fault bytes n ≡ Some fault
    → IsJudged told size (Refused (lines.Image fault))
judged_bad None size n bytes fault same holds bad = tt
judged_bad (Some m) size n bytes fault same holds bad =
    sym (bad_superblock n (m Image) bytes holds fault bad) ∙ ap (λ (k : ℕ). image_outcome k (m Image)) same

-- an image whose superblock passes its tests, from what is found of its groups
pub judged_groups : (told : Option Contents) (size n : ℕ) (bytes : List ℕ) (at : Layout) (found : Judgement) → n ≡ size → Holds Image 0 bytes told → first_fault bytes n ≡ None → at ≡ layout_of bytes
    → IfSome told (λ m. judgement_outcome found ≡ checked_outcome (image_checked at (m Image))) → IsJudged told size found
judged_groups None size n bytes at found same holds good is groups = tt
judged_groups (Some m) size n bytes at found same holds good is groups =
    groups ∙ sym (good_superblock n (m Image) bytes holds at good is) ∙ ap (λ (k : ℕ). image_outcome k (m Image)) same

-- ---- what was kept of an image

pub if_err : (result : Result Judgement JudgeFault) (P Q : JudgeFault → Type 0) → IfErr result P → ((fault : JudgeFault) → P fault → Q fault) → IfErr result Q
if_err (Ok found) P Q holds each = tt
if_err (Err fault) P Q holds each = each fault holds

-- an answer that `?` hands on
pub err_with : {T E : Type 0} (P : Result T E → Type 0) (e : E) (result : Result T E) → IsErr result × IsErrAnd result (λ x. x ≡ e) → P (Err e) → P result
err_with P e (Ok done) is p = absurd is.1
err_with {E = E} P e (Err x) is p = subst (λ (y : E). P (Err y)) (sym is.1) p

-- block 0 couldn't be read
pub front_none : (told : Option Contents) (size : ℕ) (fault : JudgeFault) → journal_at fault ≡ [] → HasFrontOf told size fault
front_none None size fault none = tt
front_none (Some m) size fault none =
    subst (λ (js : List Entry). IsFront js (image_outcome size (m Image)).journal) (sym none) ((image_outcome size (m Image)).journal, refl)

pub kept_first : (told : Option Contents) (size : ℕ) (fault : JudgeFault) (before now : ℕ) → journal_at fault ≡ [] → now ≤ before + 1 → ReadsForImage told size before now (Err fault)
unfolding image_events
kept_first None size fault before now none one = tt
kept_first (Some m) size fault before now none one =
    subst (λ (js : List Entry). ReadsForEvents (image_events size (m Image)) before now js) (sym none) (at_block_0 (m Image))
  where
    at_block_0 : (image : ℕ → List ℕ) → ReadsForEvents (image_events size image) before now []
    at_block_0 image = kept_none (superblock_events (layout_of (image 0)) image (first_fault (image 0) size)) before now one

-- its superblock was refused
pub kept_bad : (told : Option Contents) (size : ℕ) (line : LastLine) (before now : ℕ) → now ≤ before + 1 → ReadsForImage told size before now (Ok (Refused line))
unfolding image_events
kept_bad None size line before now one = tt
kept_bad (Some m) size line before now one = kept_first_block (superblock_events (layout_of (m Image 0)) (m Image) (first_fault (m Image 0) size)) before now one

-- it has no block
pub kept_short : (told : Option Contents) (size : ℕ) (line : LastLine) (n : ℕ) → ReadsForImage told size n n (Ok (Refused line))
kept_short None size line n = tt
kept_short (Some m) size line n = kept_unread (image_events size (m Image)) n

-- its groups were checked, and that was stopped
pub front_groups : (told : Option Contents) (size n : ℕ) (bytes : List ℕ) (at : Layout) (fault : JudgeFault) → n ≡ size → Holds Image 0 bytes told → first_fault bytes n ≡ None → at ≡ layout_of bytes
    → IfSome told (λ m. IsFront (journal_at fault) (checked_outcome (image_checked at (m Image))).journal) → HasFrontOf told size fault
front_groups None size n bytes at fault same holds good is front = tt
front_groups (Some m) size n bytes at fault same holds good is front =
    let whole = sym (good_superblock n (m Image) bytes holds at good is) ∙ ap (λ (k : ℕ). image_outcome k (m Image)) same in
    subst (λ (o : Outcome). IsFront (journal_at fault) o.journal) whole front

pub kept_groups : (told : Option Contents) (size n : ℕ) (bytes : List ℕ) (at : Layout) (result : Result Judgement JudgeFault) (before mid now : ℕ) → n ≡ size → Holds Image 0 bytes told → first_fault bytes n ≡ None → at ≡ layout_of bytes → mid ≤ before + 1
    → IfSome told (λ m. ReadsForEvents (groups_events at (m Image)) mid now (journal_in result)) → ReadsForImage told size before now result
kept_groups None size n bytes at result before mid now same holds good is one kept = tt
kept_groups (Some m) size n bytes at result before mid now same holds good is one kept =
    let whole = sym (good_events n (m Image) bytes holds at good is) ∙ ap (λ (k : ℕ). image_events k (m Image)) same in
    subst (λ (es : List Event). ReadsForEvents es before now (journal_in result)) whole (kept_behind (groups_events at (m Image)) before mid now (journal_in result) one kept)

pub units_none : (fault : JudgeFault) → journal_at fault ≡ [] → HasFirstUnits (journal_at fault)
units_none fault none = subst HasFirstUnits (sym none) no_units

-- ---- of an image that was opened

pub opened_front : (given : Bool) (file redo : Option Stored) (content : Option Contents) (blocks : Region → ℕ) (fault : JudgeFault) → IsOpened file redo content blocks → HasDeviceFront given content blocks fault
    → IfSome (stored_outcome given file redo) (λ o. IsFront (journal_at fault) o.journal)
opened_front given None redo content blocks fault is front = tt
opened_front given (Some f) None content blocks fault is front = tt
opened_front given (Some f) (Some r) content blocks fault is front =
    let told : HasDeviceFront given (Some (opened f r)) blocks fault = subst (λ (c : Option Contents). HasDeviceFront given c blocks fault) is.0 front in
    let sized : IsFront (journal_at fault) (device_outcome given (blocks Redo) f.size (opened f r)).journal = subst (λ (n : ℕ). IsFront (journal_at fault) (device_outcome given (blocks Redo) n (opened f r)).journal) is.1 told in
    subst (λ (n : ℕ). IsFront (journal_at fault) (device_outcome given n f.size (opened f r)).journal) is.2 sized

-- and of one that was judged
pub opened_told : (given : Bool) (file redo : Option Stored) (content : Option Contents) (blocks : Region → ℕ) (found : Judgement) → IsOpened file redo content blocks → IsDeviceJudged given content blocks found
    → IfSome (stored_outcome given file redo) (λ o. judgement_outcome found ≡ o)
opened_told given None redo content blocks found is told = tt
opened_told given (Some f) None content blocks found is told = tt
opened_told given (Some f) (Some r) content blocks found is told =
    let held : IsDeviceJudged given (Some (opened f r)) blocks found = subst (λ (c : Option Contents). IsDeviceJudged given c blocks found) is.0 told in
    let sized : judgement_outcome found ≡ device_outcome given (blocks Redo) f.size (opened f r) = subst (λ (n : ℕ). judgement_outcome found ≡ device_outcome given (blocks Redo) n (opened f r)) is.1 held in
    subst (λ (n : ℕ). judgement_outcome found ≡ device_outcome given n f.size (opened f r)) is.2 sized

-- nothing was opened
pub front_before : (decided : Option Outcome) (journal : List Entry) → journal ≡ [] → IfSome decided (λ o. IsFront journal o.journal)
front_before None journal none = tt
front_before (Some o) journal none = subst (λ (js : List Entry). IsFront js o.journal) (sym none) (o.journal, refl)
