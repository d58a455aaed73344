-- What holds of each script that is read, whether its source tells its bytes or not.
use Rattle.std.specs.Prelude.{◌≡◌, ◌<◌, ◌≤◌, ◌+◌, ◌^◌, ℕ, List, [], ◌∷◌, Some, length}
use Rattle.script_defs.specs.Words.{name_of, text_of}
use Rattle.script_defs.specs.Texts.{Part, seen}
use Rattle.script_defs.specs.declared.name.Name.{Name}
use Rattle.script_defs.specs.declared.operation.Op.{Op}
use Rattle.script_defs.specs.declared.operation.Op.TheVariants as ops
use Rattle.script_defs.specs.declared.section.Line.{Line}
use Rattle.script_defs.specs.declared.section.Script.{Script}

-- ---- operations

-- the one value that a word of 1 to 16 lower-case letters and digits has as a name
abbrev pub IsName : Name → Type 0
IsName n = name_of (text_of n) ≡ Some n

-- at least one block, the last one below 2^54
abbrev pub AreBlocks : ℕ → ℕ → Type 0
AreBlocks offset count = (0 < count) × (count < 2 ^ 32) × (offset + count ≤ 2 ^ 54)

-- each field of an operation is one that a script may write
abbrev pub IsInRange : Op → Type 0
IsInRange (ops.Open name ino) = IsName name × (ino < 2 ^ 64)
IsInRange (ops.Create name uid) = IsName name × (uid < 2 ^ 32)
IsInRange (ops.Map name offset count) = IsName name × AreBlocks offset count
IsInRange (ops.Unmap name offset count) = IsName name × AreBlocks offset count
IsInRange (ops.Convert name offset count) = IsName name × AreBlocks offset count
IsInRange (ops.Share name offset count to place) = IsName name × AreBlocks offset count × IsName to × AreBlocks place count
IsInRange (ops.Remove name) = IsName name

-- ---- sections

-- the lines' numbers rise from a number on, up to the last line that a script may have
abbrev pub LinesRise : ℕ → List Line → Type 0
LinesRise least [] = Unit {0}
LinesRise least (l ∷ ls) = (least ≤ l.number) × (l.number ≤ 65536) × IsInRange l.op × LinesRise (l.number + 1) ls

-- the writers rise from a number on, up to 16
abbrev pub WritersRise : ℕ → List Part → Type 0
WritersRise least [] = Unit {0}
WritersRise least (p ∷ ps) = (least ≤ p.writer) × (p.writer ≤ 16) × LinesRise 1 p.lines × WritersRise (p.writer + 1) ps

-- at least one section, of writers 1 to 16 that rise
abbrev pub AreParts : List Part → Type 0
AreParts ps = (0 < length ps) × WritersRise 1 ps

abbrev pub IsScript : Script → Type 0
IsScript script = AreParts (seen script)
