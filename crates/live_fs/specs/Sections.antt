-- The sections of a script, and the pass that speaks for their writers.
use Rattle.std.specs.Prelude.{◌≡◌, ◌<◌, ◌≤◌, ◌+◌, ℕ, List, [], ◌∷◌}
use Rattle.script_defs.specs.Shape.{IsInRange}
use Rattle.script_defs.specs.declared.section.Line.{Line}
use Rattle.script_defs.specs.declared.section.Section.{Section}
use Rattle.turn_lock.specs.Lists.{actors_of, from_up}

-- each field of each operation is one that a script may write
abbrev pub AreInRange : List Line → Type 0
AreInRange [] = Unit {0}
AreInRange (l ∷ ls) = IsInRange l.op × AreInRange ls

-- the writers rise from a number on, below another
abbrev pub AreSections : ℕ → ℕ → List Section → Type 0
AreSections least end [] = Unit {0}
AreSections least end (s ∷ ss) = (least ≤ s.writer) × (s.writer < end) × AreInRange s.lines.items × AreSections (s.writer + 1) end ss

-- the writer of the first section
abbrev pub first_of : List Section → ℕ
first_of [] = 0
first_of (s ∷ ss) = s.writer

module _ {K : Type 0} where
  -- what is kept for actors that follow one another, with all writers of these sections among them
  abbrev pub SpeaksFor : List (ℕ × K) → List Section → Type 0
  SpeaksFor kept ss = (a : ℕ) × (n : ℕ) × (actors_of kept ≡ from_up a n) × AreSections a (a + n) ss
