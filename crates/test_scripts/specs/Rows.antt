-- Worked journals of writers: which of them fit the lines of a script.
use Rattle.std.specs.Prelude.{ℕ, List, [], ◌∷◌, ◌++◌, Option, Some, None, true, false}
use Rattle.fs_model.specs.declared.entry.Entry.{Entry}
use Rattle.fs_model.specs.declared.entry.Entry.TheVariants as entries
use Rattle.fs_model.specs.declared.entry.Piece.{Piece}
use Rattle.fs_model.specs.declared.entry.SharedPiece.{SharedPiece}
use Rattle.fs_model.specs.declared.event.EventKind.TheVariants as events
use Rattle.fs_model.specs.declared.event.Refused.{Refused}
use Rattle.script_defs.specs.Words.{named}
use Rattle.script_defs.specs.Journals.{cut, entries_of}
use Rattle.script_defs.specs.Fits.{FitsAll, asks_at, begins, none_bound}
use Rattle.script_defs.specs.declared.name.Name.{Name}
use Rattle.script_defs.specs.declared.operation.Op.{Op}
use Rattle.script_defs.specs.declared.operation.Op.TheVariants as ops
use Rattle.script_defs.specs.declared.section.Line.{Line}

-- the entries of writer 1 fit these lines
abbrev pub Fit : List Line → List Entry → Type 0
Fit lines journal = FitsAll none_bound lines (cut (entries_of 1 journal)).segments (cut (entries_of 1 journal)).rest

-- ---- parts of scripts and journals

abbrev pub a : Name
a = named (97 ∷ [])

abbrev pub b : Name
b = named (98 ∷ [])

abbrev pub line : ℕ → Op → Line
line number op = record { number = number; op = op }

-- blocks of the file 195, by writer 1 in chain 0
abbrev pub piece : ℕ → ℕ → ℕ → Piece
piece offset block count = record { writer = 1; chain = 0; ino = 195; offset = offset; group = 0; block = block; count = count }

abbrev pub shared : ℕ → ℕ → ℕ → ℕ → SharedPiece
shared offset place block count = record { writer = 1; chain = 0; from = 195; from_offset = offset; to = 195; to_offset = place; group = 0; block = block; count = count }

-- a reply of writer 1, whose line began with a chain of this inode
abbrev pub reply : ℕ → ℕ → ℕ → Option Refused → Option ℕ → Entry
reply line code done refused begun = entries.Reply 1 line code done refused begun

abbrev pub taken : ℕ → Entry
taken uid = entries.Taken 1 195 uid None

-- ---- lines that are done

abbrev pub six_lines : List Line
six_lines =
    line 2 (ops.Create a 1000) ∷ line 3 (ops.Map a 0 4) ∷ line 4 (ops.Convert a 0 4) ∷ line 5 (ops.Share a 0 2 a 8)
    ∷ line 6 (ops.Unmap a 8 1) ∷ line 7 (ops.Remove a) ∷ []

-- a mapping comes in two pieces, and another writer takes and maps a file meanwhile
abbrev pub first_lines : List Entry
first_lines =
    taken 1000 ∷ reply 2 0 0 None None
    ∷ entries.Mapped (piece 0 32 3) ∷ entries.Taken 2 196 7 None ∷ entries.RmapDone 0 195 0 32 3 ∷ entries.Reply 2 9 0 0 None None
    ∷ entries.Mapped (piece 3 36 1) ∷ entries.RmapDone 0 195 0 36 1 ∷ reply 3 0 4 None (Some 195)
    ∷ entries.Converted (piece 0 32 3) ∷ entries.Converted (piece 3 36 1) ∷ reply 4 0 4 None (Some 195) ∷ []

abbrev pub last_lines : List Entry
last_lines =
    entries.Shared (shared 0 8 32 2) ∷ entries.RefDone 0 0 32 2 true ∷ reply 5 0 2 None (Some 195)
    ∷ entries.Unmapped (piece 8 32 1) ∷ entries.RefDone 0 0 32 1 false ∷ reply 6 0 1 None (Some 195)
    ∷ entries.Unmapped (piece 0 32 3) ∷ entries.Unmapped (piece 3 36 1) ∷ entries.Freed 0 0 36 1 false ∷ entries.Unmapped (piece 9 33 1)
    ∷ entries.Given 1 195 ∷ reply 7 0 5 None (Some 195) ∷ []

abbrev pub LinesFit : Type 0
LinesFit = Fit six_lines (first_lines ++ last_lines)

-- ---- lines that are refused

abbrev pub five_lines : List Line
five_lines =
    line 2 (ops.Create a 0) ∷ line 3 (ops.Map a 0 2) ∷ line 4 (ops.Map a 1 2) ∷ line 5 (ops.Unmap a 5 1) ∷ line 6 (ops.Map b 0 1) ∷ []

abbrev pub refused_lines : List Entry
refused_lines =
    taken 0 ∷ reply 2 0 0 None None
    ∷ entries.Mapped (piece 0 32 2) ∷ reply 3 0 2 None (Some 195)
    ∷ reply 4 2 0 (Some (asks_at events.MapFirst 195 1 2)) (Some 195)
    ∷ reply 5 3 0 (Some (asks_at events.UnmapFirst 195 5 1)) (Some 195)
    ∷ reply 6 1 0 (Some (begins 0 None)) None ∷ []

abbrev pub RefusedLinesFit : Type 0
RefusedLinesFit = Fit five_lines refused_lines

-- ---- a line that isn't ended

abbrev pub two_lines : List Line
two_lines = line 2 (ops.Create a 0) ∷ line 3 (ops.Map a 0 4) ∷ []

abbrev pub StoppedLineFits : Type 0
StoppedLineFits = Fit two_lines (taken 0 ∷ reply 2 0 0 None None ∷ entries.Mapped (piece 0 32 3) ∷ [])

-- ---- what no writer of these two lines may do

abbrev pub Unfit : List Entry → Type 0
Unfit es = Fit two_lines (taken 0 ∷ reply 2 0 0 None None ∷ es) → ⊥

abbrev pub whole : List Entry
whole = entries.Mapped (piece 0 32 4) ∷ reply 3 0 4 None (Some 195) ∷ []

abbrev pub stops : ℕ → Entry
stops code = reply 3 code 0 (Some (asks_at events.MapFirst 195 0 4)) (Some 195)

abbrev pub elsewhere : Piece
elsewhere = record (piece 0 32 4) { ino = 196 }

-- the first list alone fits
pub record NoneFits : Type 0 where
  pub right : Fit two_lines (taken 0 ∷ reply 2 0 0 None None ∷ whole)
  pub twice : Unfit (whole ++ whole)
  pub half : Unfit (entries.Mapped (piece 0 32 3) ∷ reply 3 0 3 None (Some 195) ∷ [])
  pub place : Unfit (entries.Mapped (piece 1 32 4) ∷ reply 3 0 4 None (Some 195) ∷ [])
  pub other : Unfit (entries.Mapped elsewhere ∷ reply 3 0 4 None (Some 195) ∷ [])
  pub shut : Unfit (stops 12 ∷ [])
  pub more : Unfit (whole ++ taken 0 ∷ [])
