-- What a host keeps under a name, and what it is asked.
use Rattle.std.specs.Prelude.{◌≡◌, ◌⊎◌, ⊤, ℕ, Bool, false, nat_lt, if◌then◌else◌, List, [], ◌∷◌, ◌++◌, Option, Some, None}
use Rattle.std.specs.Borrow.{Bor}
use Rattle.std.specs.Option.{option_map}
use Rattle.std.specs.List.{last_or}
use Rattle.std.specs.Str.{bytes_eq}
use Rattle.byte_fields.specs.Zeros.{zeros}
use Rattle.blk_device.specs.Contents.{Contents}
use Rattle.blk_device.specs.Stored.{blank}
use Rattle.blk_device.specs.declared.device.Device.{Ghosts}
use Rattle.blk_device.specs.declared.device.Region.{Region}
use Rattle.blk_device.specs.declared.device.Region.TheVariants.{Image, Redo}
use Rattle.redo_area.specs.declared.TheConstants.{REDO_BLOCKS}
use Rattle.image_hosts.specs.declared.host.Purpose.{Purpose}
use Rattle.image_hosts.specs.declared.host.Purpose.TheVariants.{Check, Change, Make}

-- a file of blocks: how many, and the bytes of each
pub record Stored : Type 0 where
  pub size : ℕ
  pub at : ℕ → List ℕ

-- a device that was asked for, by the name of its image, that of its redo file and its purpose
pub record Request : Type 0 where
  pub image : List ℕ
  pub redo : Option (List ℕ)
  pub purpose : Purpose

-- a device that was handed out, or one that came back, as it was then
pub data Loan (D : Type 0) : Type 0 where
  Out : (dev : D) → Loan D
  Back : (dev : D) → Loan D

-- these loans were added at the end, where the host tells its loans
abbrev pub Lends : {D : Type 0} → List (Loan D) → (old new : Option (List (Loan D))) → Type 0
Lends loans None None = ⊤
Lends loans None (Some new) = ⊥
Lends loans (Some old) None = ⊥
Lends loans (Some old) (Some new) = new ≡ old ++ loans

-- the redo region without a redo file: so many blocks of zeros as it has at least
abbrev pub no_redo : Stored
no_redo = record { size = REDO_BLOCKS; at = λ b. zeros }

-- the redo region by the name of a redo file, where one is given
abbrev pub redo_named : (List ℕ → Option Stored) → Option (List ℕ) → Option Stored
redo_named redos None = Some no_redo
redo_named redos (Some name) = redos name

-- the name of a redo file that a call may be given
abbrev pub name_of : Option (Bor (List ℕ)) → Option (List ℕ)
name_of redo = option_map (λ s. s.now) redo

-- the redo region that such a call asks for
abbrev pub redo_asked : (List ℕ → Option Stored) → Option (Bor (List ℕ)) → Option Stored
redo_asked redos redo = redo_named redos (name_of redo)

-- an image with a redo region beside it
abbrev pub opened : Stored → Stored → Contents
opened file redo Image b = file.at b
opened file redo Redo b = redo.at b

-- the device that was handed out has the named image and redo region, where the host tells the image; one that
-- tells images tells redo files too
abbrev pub IsOpened : Option Stored → Option Stored → Option Contents → (Region → ℕ) → Type 0
IsOpened None redo content blocks = content ≡ None
IsOpened (Some file) None content blocks = ⊥
IsOpened (Some file) (Some redo) content blocks = (content ≡ Some (opened file redo)) × (blocks Image ≡ file.size) × (blocks Redo ≡ redo.size)

-- of the device itself
abbrev pub Opened : {D : Type 0} → Ghosts D → (image redo : Option Stored) → D → Type 0
Opened g file redo dev = IsOpened file redo (g.content dev) (g.blocks dev)

-- a device over a new image of so many blocks: zeros, where the host tells what its images hold
abbrev pub IsNew : Bool → ℕ → Option Contents → (Region → ℕ) → Type 0
IsNew tells n content blocks = (content ≡ (if tells then Some blank else None)) × (blocks Image ≡ n)

-- the device that is handed out for a purpose: over the image of that name and its redo region, or over a new
-- image
abbrev pub IsLent : Purpose → Bool → (image redo : Option Stored) → Option Contents → (Region → ℕ) → Type 0
IsLent (Make n) tells file redo content blocks = IsNew tells n content blocks
IsLent other tells file redo content blocks = IsOpened file redo content blocks

-- the device itself
abbrev pub Lent : {D : Type 0} → Ghosts D → Purpose → Bool → (image redo : Option Stored) → D → Type 0
Lent g purpose tells file redo dev = IsLent purpose tells file redo (g.content dev) (g.blocks dev)

-- so many blocks are enough for the purpose: a new image has as many as are wanted
abbrev pub HasRoomFor : Purpose → ℕ → Type 0
HasRoomFor (Make n) blocks = blocks ≡ n
HasRoomFor other blocks = ⊤

-- the image of a device that comes back, where the device tells it
abbrev pub stored_image : Option Contents → (Region → ℕ) → Option Stored
stored_image None blocks = None
stored_image (Some content) blocks = Some (record { size = blocks Image; at = content Image })

abbrev pub image_of : {D : Type 0} → Ghosts D → D → Option Stored
image_of g dev = stored_image (g.content dev) (g.blocks dev)

-- the images with this one under its name
abbrev pub stored_with : List ℕ → Option Stored → (List ℕ → Option Stored) → List ℕ → Option Stored
stored_with name file stored n = if bytes_eq n name then file else stored n

-- the request for a device
abbrev pub asks : List ℕ → Option (List ℕ) → Purpose → Request
asks image redo purpose = record { image = image; redo = redo; purpose = purpose }

-- the request was kept; or it wasn't, as there was no memory for it
abbrev pub IsAskedFor : (short : Type 0) → Request → (old new : List Request) → Type 0
IsAskedFor short request old new = (short × (new ≡ old)) ⊎ (new ≡ old ++ request ∷ [])

-- ---- the redo file of a device that is changed

-- the name of the redo file that a device asked for like this is kept in when it comes back
abbrev pub due_by : Purpose → Option (List ℕ) → Option (List ℕ)
due_by Check redo = None
due_by Change redo = redo
due_by (Make n) redo = None

abbrev pub due_in : Option Request → Option (List ℕ)
due_in None = None
due_in (Some request) = due_by request.purpose request.redo

-- by the last of these requests
abbrev pub due_of : List Request → Option (List ℕ)
due_of asked = due_in (last_or None asked)

-- so many blocks as a redo file: none lies behind its end
abbrev pub redo_held : ℕ → (ℕ → List ℕ) → Stored
redo_held size at = record { size = size; at = λ b. if nat_lt b size then at b else zeros }

-- the redo region of a device that comes back, where the device tells it
abbrev pub stored_redo : Option Contents → (Region → ℕ) → Option Stored
stored_redo None blocks = None
stored_redo (Some content) blocks = Some (redo_held (blocks Redo) (content Redo))

-- The redo file of that name is this one now, or isn't told any more; all others are as they were.
pub record HoldsRedo (name : List ℕ) (held : Option Stored) (old new : List ℕ → Option Stored) : Type 0 where
  pub others : (n : List ℕ) → bytes_eq n name ≡ false → new n ≡ old n
  pub one : (new name ≡ held) ⊎ (new name ≡ None)

-- what becomes of the redo files where a device comes back that was asked for to be changed beside one of them
abbrev pub FollowsRedo : (due : Option (List ℕ)) → (held : Option Stored) → (old new : List ℕ → Option Stored) → Type 0
FollowsRedo None held old new = (n : List ℕ) → new n ≡ old n
FollowsRedo (Some name) held old new = HoldsRedo name held old new
