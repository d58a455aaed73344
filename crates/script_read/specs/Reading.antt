-- What a reader has read, and what its answers say of a text.
use Rattle.std.specs.Prelude.{◌≡◌, ◌≤◌, ◌+◌, ℕ, List, [], ◌++◌, Option, Some, None, Result, Ok, Err, Bool, true, false, take, length, ⊤}
use Rattle.script_defs.specs.Words.{Text}
use Rattle.script_defs.specs.Operations.{said_of}
use Rattle.script_defs.specs.Texts.{Part, Sheet, all_parts, parts_of, read_from, blank, seen, with_said}
use Rattle.script_defs.specs.declared.section.Script.{Script}
use Rattle.script_read.specs.declared.fault.ScriptFault.{ScriptFault}
use Rattle.script_read.specs.declared.fault.ScriptFault.TheVariants.{Wrong, Failed, Memory}
use Rattle.script_read.specs.declared.reader.Reader.{Reader}

-- what was read so far
abbrev pub sheet_of : Reader → Sheet
sheet_of r = record { closed = parts_of r.closed.items; writer = r.writer; lines = r.lines.items; number = r.number; text = take r.length r.text; taken = r.taken }

-- the numbers of a reader stay in their bounds
pub record IsInside (r : Reader) : Type 0 where
  pub taken : r.taken ≤ 4194304
  pub first : 1 ≤ r.number
  pub number : r.number ≤ 65537
  pub size : length r.text ≡ 96
  pub length : r.length ≤ 86

-- with the open section among the closed ones
abbrev pub closed_in : Sheet → Sheet
closed_in s = record s { closed = all_parts s; lines = [] }

-- with the line that was read, where it says what may stand there
abbrev pub with_line : Sheet → Option Sheet
with_line s = with_said s (said_of s.text)

-- one line more makes this sheet, or the line is wrong
abbrev pub Steps : {T : Type 0} → Result T ScriptFault → Option Sheet → ℕ → Sheet → Type 0
Steps (Ok answer) found number new = found ≡ Some new
Steps (Err (Wrong n)) found number new = (found ≡ None) × (n ≡ number)
Steps (Err Failed) found number new = ⊥
Steps (Err Memory) found number new = ⊤

-- bytes were put: what follows them is read on from the new sheet, or a line is wrong whatever follows
abbrev pub Puts : {T : Type 0} → Result T ScriptFault → Text → Sheet → Sheet → Type 0
Puts (Ok answer) bytes old new = (more : Text) → read_from (bytes ++ more) old ≡ read_from more new
Puts (Err (Wrong n)) bytes old new = ((more : Text) → read_from (bytes ++ more) old ≡ Err n) × (1 ≤ n) × (n ≤ 65537)
Puts (Err Failed) bytes old new = ⊥
Puts (Err Memory) bytes old new = ⊤

-- the answer is what is made of the text, but for want of memory and a failed source
abbrev pub IsReading : Result Script ScriptFault → Result (List Part) ℕ → Type 0
IsReading (Ok script) found = found ≡ Ok (seen script)
IsReading (Err (Wrong n)) found = found ≡ Err n
IsReading (Err Failed) found = ⊤
IsReading (Err Memory) found = ⊤

-- a wrong line is one of the first 65,537
abbrev pub HasLine : Result Script ScriptFault → Type 0
HasLine (Ok script) = ⊤
HasLine (Err (Wrong n)) = (1 ≤ n) × (n ≤ 65537)
HasLine (Err Failed) = ⊤
HasLine (Err Memory) = ⊤

-- the source failed
abbrev pub is_failed : ScriptFault → Bool
is_failed (Wrong n) = false
is_failed Failed = true
is_failed Memory = false

-- at most so many bytes went, from the front, where that is told
abbrev pub TakesUpTo : ℕ → Option Text → Option Text → Type 0
TakesUpTo most None None = ⊤
TakesUpTo most None (Some new) = ⊥
TakesUpTo most (Some old) None = ⊥
TakesUpTo most (Some old) (Some new) = (front : Text) × (old ≡ front ++ new) × (length front ≤ most)

-- of what was told at first these bytes stand before what is left, and what comes before them is in the sheet
abbrev pub IsRead : Text → Sheet → Option Text → Option Text → Type 0
IsRead piece s None None = ⊤
IsRead piece s None (Some left) = ⊥
IsRead piece s (Some all) None = ⊥
IsRead piece s (Some all) (Some left) = (front : Text) × (all ≡ front ++ left) × (length front ≡ s.taken + length piece) × (read_from all blank ≡ read_from (piece ++ left) s)
