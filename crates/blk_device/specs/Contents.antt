-- What both regions of a device hold.
use Rattle.std.specs.Prelude.{◌≡◌, ℕ, List, Bool, true, false, ◌==◌, ◌&&◌, if◌then◌else◌, Option, Some, None, IfSome, ⊤}
use Rattle.blk_device.specs.declared.device.Region.{Region}
use Rattle.blk_device.specs.declared.device.Region.TheVariants.{Image, Redo}

-- the bytes of each block
abbrev pub Contents : Type 0
Contents = Region → ℕ → List ℕ

abbrev pub same_region : Region → Region → Bool
same_region Image Image = true
same_region Image Redo = false
same_region Redo Image = false
same_region Redo Redo = true

-- the contents with these bytes in one block
abbrev pub put : Region → ℕ → List ℕ → Contents → Contents
put r at bytes c s b = if same_region s r && (b == at) then bytes else c s b

-- changed contents, where they are told
abbrev pub map_told : (Contents → Contents) → Option Contents → Option Contents
map_told change None = None
map_told change (Some c) = Some (change c)

-- the block holds these bytes, where that is told
abbrev pub Holds : Region → ℕ → List ℕ → Option Contents → Type 0
Holds r at bytes told = IfSome told (λ c. c r at ≡ bytes)

-- the same but for one block, whose bytes may be any
abbrev pub InDoubt : Region → ℕ → Contents → Contents → Type 0
InDoubt r at old new = (s : Region) (b : ℕ) → ((s ≡ r) × (b ≡ at) → ⊥) → new s b ≡ old s b

-- what was told has become what is told, as P says, and what wasn't told isn't
abbrev pub Becomes : Option Contents → Option Contents → (Contents → Contents → Type 0) → Type 0
Becomes None None P = ⊤
Becomes None (Some d) P = ⊥
Becomes (Some c) None P = ⊥
Becomes (Some c) (Some d) P = P c d

-- what was told is still told, but for one block
abbrev pub Doubts : Region → ℕ → Option Contents → Option Contents → Type 0
Doubts r at old new = Becomes old new (InDoubt r at)
