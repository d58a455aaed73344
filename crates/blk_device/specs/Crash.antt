-- What a crash may leave, now and at the moments since an earlier one.
use Rattle.std.specs.Prelude.{◌≡◌, ◌≤◌, ◌⊎◌, ℕ, false, List, length, Option, IfSome}
use Rattle.blk_device.specs.declared.device.Region.{Region}
use Rattle.blk_device.specs.Contents.{Contents, put, same_region}

-- each new outcome of a crash is an old outcome after a step
abbrev pub Follows : (Contents → Contents → Type 0) → (Contents → Type 0) → (Contents → Type 0) → Type 0
Follows step old new = (c : Contents) → new c → (d : Contents) × old d × step d c

-- each new outcome is an old one
abbrev pub NoMore : (Contents → Type 0) → (Contents → Type 0) → Type 0
NoMore old new = (c : Contents) → new c → old c

-- each old outcome is a new one, whatever 4,096 bytes it has in this block
abbrev pub LeavesAny : Region → ℕ → (Contents → Type 0) → (Contents → Type 0) → Type 0
LeavesAny r at old new = (c : Contents) (bytes : List ℕ) → length bytes ≡ 4096 → old c → new (put r at bytes c)

-- each old outcome is a new one, but for this region's blocks: what a crash may leave of the other region stays
abbrev pub KeepsOther : Region → (Contents → Type 0) → (Contents → Type 0) → Type 0
KeepsOther r old new = (c : Contents) → old c → (d : Contents) × new d × ((s : Region) → same_region s r ≡ false → (b : ℕ) → d s b ≡ c s b)

-- in this region each outcome is what is read
abbrev pub IsDurable : Region → Option Contents → (Contents → Type 0) → Type 0
IsDurable r told outcomes = IfSome told (λ m. (c : Contents) → outcomes c → (b : ℕ) → c r b ≡ m r b)

-- Time goes on: a crash since t might have left what it might have left before, or what it may leave now.
pub record Elapses (before now : ℕ) (past since : ℕ → Contents → Type 0) (may_hold : Contents → Type 0) : Type 0 where
  pub later : before ≤ now
  pub nothing_else : (t : ℕ) (c : Contents) → t ≤ before → since t c → past t c ⊎ may_hold c
  pub keeps : (t : ℕ) (c : Contents) → t ≤ before → past t c → since t c

-- A crash at any moment since old leaves contents that have P.
pub record LeavesOnly {D : Type 0} (clock : D → ℕ) (held_since : D → ℕ → Contents → Type 0) (old new : D) (P : Contents → Type 0) : Type 0 where
  pub later : clock old ≤ clock new
  pub each : (c : Contents) → held_since new (clock old) c → P c
  -- for a run that began earlier
  pub before : (t : ℕ) (c : Contents) → t ≤ clock old → held_since new t c → held_since old t c ⊎ P c

-- an outcome from before, of which the blocks in K are kept
abbrev pub Reached : (Region → ℕ → Type 0) → (Contents → Type 0) → Contents → Type 0
Reached K old c = (d : Contents) × old d × ((s : Region) (b : ℕ) → K s b → c s b ≡ d s b)
