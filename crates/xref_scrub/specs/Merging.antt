-- Two rising lists as one list in their order.
use Rattle.std.specs.Prelude.{Bool, List, [], ◌∷◌, ◌++◌, map, if◌then◌else◌}

module _ {R : Type 0} (before : R → R → Bool) where
  -- the records in front that come before this one, and those from the first on that doesn't
  abbrev pub until : R → List R → List R
  until r [] = []
  until r (s ∷ ss) = if before s r then s ∷ until r ss else []

  abbrev pub from : R → List R → List R
  from r [] = []
  from r (s ∷ ss) = if before s r then from r ss else s ∷ ss

  -- Before a record of the first list stand those of the second that come before it; where keys are
  -- equal, the first list's record stands first. Each list has its way to tell a record.
  unfoldable pub merged : {T : Type 0} → (R → T) → (R → T) → List R → List R → List T
  merged first second [] ss = map second ss
  merged first second (r ∷ rs) ss = map second (until r ss) ++ (first r ∷ merged first second rs (from r ss))
