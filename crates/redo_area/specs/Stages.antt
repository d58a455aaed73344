-- The stages of a commit, each with nothing pending on the device.
use Rattle.std.specs.Prelude.{◌≡◌, ◌⊎◌, ℕ, Bool, true, false, None}
use Rattle.blk_device.specs.declared.device.Region.TheVariants.{Image, Redo}
use Rattle.blk_device.specs.Contents.{Contents}
use Rattle.redo_area.specs.Area.{Blocks, Batch, SameBut, after_crash, is_open, waiting_batch, with_batch}
use Rattle.redo_area.specs.Table.{table_fault}

-- a crash leaves what is read
abbrev pub IsQuiet : (Contents → Type 0) → Contents → Type 0
IsQuiet may_hold m = (c : Contents) → may_hold c → c ≡ m

-- the table that stands there has no fault
abbrev pub IsSound : ℕ → Contents → Type 0
IsSound size c = table_fault size (c Redo 1) ≡ None

-- A recovery of these contents finds no fault, and gives this image.
pub record StandsFor (size : ℕ) (blocks : Blocks) (c : Contents) : Type 0 where
  pub image : after_crash c ≡ blocks
  pub sound : is_open c ≡ true → IsSound size c

-- a recovery gives the changed image
abbrev pub After : (Blocks → Blocks) → ℕ → Blocks → Contents → Type 0
After change size image = StandsFor size (change image)

-- a recovery gives one of these two images
abbrev pub StandsForEither : ℕ → Blocks → Blocks → Contents → Type 0
StandsForEither size before after c = StandsFor size before c ⊎ StandsFor size after c

-- a recovery gives the image before a change, or the one after it
abbrev pub BeforeOrAfter : (Blocks → Blocks) → ℕ → Blocks → Contents → Type 0
BeforeOrAfter change size image = StandsForEither size image (change image)

-- nothing waits
pub record AtRest (may_hold : Contents → Type 0) (m : Contents) : Type 0 where
  pub quiet : IsQuiet may_hold m
  pub shut : is_open m ≡ false

-- table and copies of this batch stand there, whatever the gate
pub record IsReady (size : ℕ) (batch : Batch) (may_hold : Contents → Type 0) (m : Contents) : Type 0 where
  pub quiet : IsQuiet may_hold m
  pub stands : waiting_batch m ≡ batch
  pub sound : IsSound size m

-- this batch waits
pub record IsWaiting (size : ℕ) (batch : Batch) (may_hold : Contents → Type 0) (m : Contents) : Type 0 where
  pub ready : IsReady size batch may_hold m
  pub opened : is_open m ≡ true

-- the batch that stands there is written in the image
pub record IsInstalled (size : ℕ) (may_hold : Contents → Type 0) (m : Contents) : Type 0 where
  pub quiet : IsQuiet may_hold m
  pub same : with_batch (waiting_batch m) (m Image) ≡ m Image
  pub sound : IsSound size m

-- What each call makes of m: the image after it, and its stage.

pub record Prepares (size : ℕ) (batch : Batch) (may_hold : Contents → Type 0) (m n : Contents) : Type 0 where
  pub image : n Image ≡ m Image
  pub shut : is_open n ≡ false
  pub ready : IsReady size batch may_hold n

pub record Opens (size : ℕ) (batch : Batch) (may_hold : Contents → Type 0) (m n : Contents) : Type 0 where
  pub image : n Image ≡ m Image
  pub waits : IsWaiting size batch may_hold n

pub record Installs (size : ℕ) (batch : Batch) (may_hold : Contents → Type 0) (m n : Contents) : Type 0 where
  pub image : n Image ≡ with_batch batch (m Image)
  pub installed : IsInstalled size may_hold n

pub record Ends (blocks : Blocks) (may_hold : Contents → Type 0) (n : Contents) : Type 0 where
  pub image : n Image ≡ blocks
  pub rest : AtRest may_hold n

-- the image is the changed one, and nothing waits
abbrev pub EndsAs : (Blocks → Blocks) → (Contents → Type 0) → Contents → Contents → Type 0
EndsAs change may_hold m = Ends (change (m Image)) may_hold

-- The same stages while some blocks of the image, those in K, are written and not yet durable: a crash may leave
-- anything in them.

-- a crash leaves what is read, but for the blocks in K
pub record IsQuietBut (K : ℕ → Bool) (may_hold : Contents → Type 0) (m : Contents) : Type 0 where
  pub redo : (c : Contents) → may_hold c → c Redo ≡ m Redo
  pub image : (c : Contents) → may_hold c → SameBut K (c Image) (m Image)

-- A recovery of these contents finds no fault, and gives this image but for the blocks in K.
pub record StandsForBut (K : ℕ → Bool) (size : ℕ) (blocks : Blocks) (c : Contents) : Type 0 where
  pub image : SameBut K (after_crash c) blocks
  pub sound : is_open c ≡ true → IsSound size c

-- a recovery gives the changed image, but for the blocks in K
abbrev pub AfterBut : (ℕ → Bool) → (Blocks → Blocks) → ℕ → Blocks → Contents → Type 0
AfterBut K change size image = StandsForBut K size (change image)

-- a recovery gives one of these two images, but for the blocks in K
abbrev pub StandsForEitherBut : (ℕ → Bool) → ℕ → Blocks → Blocks → Contents → Type 0
StandsForEitherBut K size before after c = StandsForBut K size before c ⊎ StandsForBut K size after c

-- a recovery gives the image before a change, or the one after it, but for the blocks in K
abbrev pub BeforeOrAfterBut : (ℕ → Bool) → (Blocks → Blocks) → ℕ → Blocks → Contents → Type 0
BeforeOrAfterBut K change size image = StandsForEitherBut K size image (change image)

-- nothing waits
pub record AtRestBut (K : ℕ → Bool) (may_hold : Contents → Type 0) (m : Contents) : Type 0 where
  pub quiet : IsQuietBut K may_hold m
  pub shut : is_open m ≡ false

-- table and copies of this batch stand there, whatever the gate
pub record IsReadyBut (K : ℕ → Bool) (size : ℕ) (batch : Batch) (may_hold : Contents → Type 0) (m : Contents) : Type 0 where
  pub quiet : IsQuietBut K may_hold m
  pub stands : waiting_batch m ≡ batch
  pub sound : IsSound size m

-- this batch waits
pub record IsWaitingBut (K : ℕ → Bool) (size : ℕ) (batch : Batch) (may_hold : Contents → Type 0) (m : Contents) : Type 0 where
  pub ready : IsReadyBut K size batch may_hold m
  pub opened : is_open m ≡ true

-- the batch that stands there is written in the image
pub record IsInstalledBut (K : ℕ → Bool) (size : ℕ) (may_hold : Contents → Type 0) (m : Contents) : Type 0 where
  pub quiet : IsQuietBut K may_hold m
  pub same : SameBut K (with_batch (waiting_batch m) (m Image)) (m Image)
  pub sound : IsSound size m

pub record PreparesBut (K : ℕ → Bool) (size : ℕ) (batch : Batch) (may_hold : Contents → Type 0) (m n : Contents) : Type 0 where
  pub image : n Image ≡ m Image
  pub shut : is_open n ≡ false
  pub ready : IsReadyBut K size batch may_hold n

pub record OpensBut (K : ℕ → Bool) (size : ℕ) (batch : Batch) (may_hold : Contents → Type 0) (m n : Contents) : Type 0 where
  pub image : n Image ≡ m Image
  pub waits : IsWaitingBut K size batch may_hold n

-- the image is this one, and nothing waits
pub record EndsBut (K : ℕ → Bool) (blocks : Blocks) (may_hold : Contents → Type 0) (n : Contents) : Type 0 where
  pub image : n Image ≡ blocks
  pub rest : AtRestBut K may_hold n

-- the image is the changed one, and nothing waits
abbrev pub EndsAsBut : (ℕ → Bool) → (Blocks → Blocks) → (Contents → Type 0) → Contents → Contents → Type 0
EndsAsBut K change may_hold m = EndsBut K (change (m Image)) may_hold
