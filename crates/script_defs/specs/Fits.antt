-- Which entries of its writer a line of a script may make, and how it may end.
use Rattle.std.specs.Prelude.{◌≡◌, ◌≢◌, ◌⊎◌, ◌<◌, ◌≤◌, ◌+◌, ◌-◌, ◌==◌, ℕ, List, [], ◌∷◌, Option, Some, None, if◌then◌else◌}
use Rattle.std.specs.Str.{bytes_eq}
use Rattle.fs_model.specs.declared.entry.Entry.{Entry}
use Rattle.fs_model.specs.declared.entry.Entry.TheVariants as entries
use Rattle.fs_model.specs.declared.entry.Piece.{Piece}
use Rattle.fs_model.specs.declared.entry.SharedPiece.{SharedPiece}
use Rattle.fs_model.specs.declared.event.EventKind.{EventKind}
use Rattle.fs_model.specs.declared.event.EventKind.TheVariants as events
use Rattle.fs_model.specs.declared.event.Refused.{Refused}
use Rattle.script_defs.specs.Words.{Text, text_of}
use Rattle.script_defs.specs.Journals.{Segment}
use Rattle.script_defs.specs.declared.name.Name.{Name}
use Rattle.script_defs.specs.declared.operation.Op.{Op}
use Rattle.script_defs.specs.declared.operation.Op.TheVariants as ops
use Rattle.script_defs.specs.declared.section.Line.{Line}

-- ---- what names stand for

-- the inode of each name, 0 where it isn't bound
abbrev pub Binds : Type 0
Binds = Text → ℕ

abbrev pub none_bound : Binds
none_bound name = 0

abbrev pub bound : Binds → Name → ℕ
bound binds name = binds (text_of name)

abbrev pub bind : Name → ℕ → Binds → Binds
bind name ino binds t = if bytes_eq t (text_of name) then ino else binds t

-- the inode of the first entry, where it is one that was taken
abbrev pub taken_ino : List Entry → ℕ
taken_ino (entries.Taken writer ino uid chunk ∷ es) = ino
taken_ino es = 0

-- `create` and `open` bind, `remove` unbinds
abbrev pub bound_by : Op → List Entry → Binds → Binds
bound_by (ops.Create name uid) es binds = bind name (taken_ino es) binds
bound_by (ops.Open name ino) es binds = bind name ino binds
bound_by (ops.Remove name) es binds = bind name 0 binds
bound_by op es binds = binds

-- what the names stand for behind a line; a line that was refused changes nothing
unfoldable pub after : Op → Segment → Binds → Binds
after op s binds = if s.code == 0 then bound_by op s.entries binds else binds

-- ---- entries

-- pieces of the inode, their offsets one behind the other, `done` being the sum of the counts
abbrev pub IsPiece : ℕ → ℕ → Piece → Type 0
IsPiece ino offset p = (p.ino ≡ ino) × (p.offset ≡ offset) × (0 < p.count)

abbrev pub Maps : ℕ → ℕ → ℕ → List Entry → Type 0
Maps ino offset done [] = done ≡ 0
Maps ino offset done (entries.Mapped p ∷ es) = IsPiece ino offset p × (p.count ≤ done) × Maps ino (offset + p.count) (done - p.count) es
Maps ino offset done (e ∷ es) = ⊥

abbrev pub Unmaps : ℕ → ℕ → ℕ → List Entry → Type 0
Unmaps ino offset done [] = done ≡ 0
Unmaps ino offset done (entries.Unmapped p ∷ es) = IsPiece ino offset p × (p.count ≤ done) × Unmaps ino (offset + p.count) (done - p.count) es
Unmaps ino offset done (e ∷ es) = ⊥

abbrev pub Converts : ℕ → ℕ → ℕ → List Entry → Type 0
Converts ino offset done [] = done ≡ 0
Converts ino offset done (entries.Converted p ∷ es) = IsPiece ino offset p × (p.count ≤ done) × Converts ino (offset + p.count) (done - p.count) es
Converts ino offset done (e ∷ es) = ⊥

abbrev pub IsSharedPiece : ℕ → ℕ → ℕ → ℕ → SharedPiece → Type 0
IsSharedPiece ino offset to place p = (p.from ≡ ino) × (p.from_offset ≡ offset) × (p.to ≡ to) × (p.to_offset ≡ place) × (0 < p.count)

abbrev pub Shares : ℕ → ℕ → ℕ → ℕ → ℕ → List Entry → Type 0
Shares ino offset to place done [] = done ≡ 0
Shares ino offset to place done (entries.Shared p ∷ es) = IsSharedPiece ino offset to place p × (p.count ≤ done) × Shares ino (offset + p.count) to (place + p.count) (done - p.count) es
Shares ino offset to place done (e ∷ es) = ⊥

-- pieces of the inode that were unmapped, in any order
abbrev pub Strips : ℕ → ℕ → List Entry → Type 0
Strips ino done [] = done ≡ 0
Strips ino done (entries.Unmapped p ∷ es) = (p.ino ≡ ino) × (p.count ≤ done) × Strips ino (done - p.count) es
Strips ino done (e ∷ es) = ⊥

-- the same, and then the inode that was given
abbrev pub StripsAndGives : ℕ → ℕ → List Entry → Type 0
StripsAndGives ino done [] = ⊥
StripsAndGives ino done (entries.Unmapped p ∷ es) = (p.ino ≡ ino) × (p.count ≤ done) × StripsAndGives ino (done - p.count) es
StripsAndGives ino done (entries.Given writer given ∷ []) = (given ≡ ino) × (done ≡ 0)
StripsAndGives ino done (e ∷ es) = ⊥

-- one inode that was taken, with this owner
abbrev pub TakesOne : ℕ → List Entry → Type 0
TakesOne owner (entries.Taken writer ino uid chunk ∷ []) = uid ≡ owner
TakesOne owner es = ⊥

-- ---- a line by its operation

-- all is done exactly where the code is 0
abbrev pub IsWhole : ℕ → ℕ → ℕ → Type 0
IsWhole code done count = (done ≤ count) × ((code ≡ 0) → done ≡ count) × ((done ≡ count) → code ≡ 0)

abbrev pub CreateDoes : ℕ → Segment → Type 0
CreateDoes uid s = ((s.code ≡ 0) → TakesOne uid s.entries) × ((s.code ≢ 0) → s.entries ≡ []) × (s.done ≡ 0)

abbrev pub OpenDoes : ℕ → Segment → Type 0
OpenDoes ino s = (s.entries ≡ []) × (s.done ≡ 0) × ((s.code ≡ 0) → s.begun ≡ Some ino)

abbrev pub RemoveDoes : ℕ → Segment → Type 0
RemoveDoes ino s = ((s.code ≡ 0) → StripsAndGives ino s.done s.entries) × ((s.code ≢ 0) → Strips ino s.done s.entries)

abbrev pub Does : Binds → Op → Segment → Type 0
Does binds (ops.Open name ino) s = OpenDoes ino s
Does binds (ops.Create name uid) s = CreateDoes uid s
Does binds (ops.Map name offset count) s = Maps (bound binds name) offset s.done s.entries × IsWhole s.code s.done count
Does binds (ops.Unmap name offset count) s = Unmaps (bound binds name) offset s.done s.entries × IsWhole s.code s.done count
Does binds (ops.Convert name offset count) s = Converts (bound binds name) offset s.done s.entries × IsWhole s.code s.done count
Does binds (ops.Share name offset count to place) s = Shares (bound binds name) offset (bound binds to) place s.done s.entries × IsWhole s.code s.done count
Does binds (ops.Remove name) s = RemoveDoes (bound binds name) s

-- ---- refusals

abbrev pub begins : ℕ → Option ℕ → Refused
begins first second = record { event = events.Begin; first = first; second = second; offset = 0; to_offset = 0; count = 0 }

-- an event that is asked for an inode alone
abbrev pub asks_of : EventKind → ℕ → Refused
asks_of event ino = record { event = event; first = ino; second = None; offset = 0; to_offset = 0; count = 0 }

abbrev pub asks_at : EventKind → ℕ → ℕ → ℕ → Refused
asks_at event ino offset count = record { event = event; first = ino; second = None; offset = offset; to_offset = 0; count = count }

-- a file that is shared with itself is named once
abbrev pub second_of : ℕ → ℕ → Option ℕ
second_of first second = if first == second then None else Some second

abbrev pub asks_share : ℕ → ℕ → ℕ → ℕ → ℕ → Refused
asks_share first second offset place count = record { event = events.ShareFirst; first = first; second = second_of first second; offset = offset; to_offset = place; count = count }

-- what may have been refused to a line of which `done` blocks were done
abbrev pub MayRefuse : Binds → Op → ℕ → Refused → Type 0
MayRefuse binds (ops.Open name ino) done r = r ≡ begins ino None
MayRefuse binds (ops.Create name uid) done r = r ≡ asks_of events.TakeInode 0
MayRefuse binds (ops.Map name offset count) done r = (r ≡ begins (bound binds name) None) ⊎ (r ≡ asks_at events.MapFirst (bound binds name) (offset + done) (count - done))
MayRefuse binds (ops.Unmap name offset count) done r = (r ≡ begins (bound binds name) None) ⊎ (r ≡ asks_at events.UnmapFirst (bound binds name) (offset + done) (count - done))
MayRefuse binds (ops.Convert name offset count) done r = (r ≡ begins (bound binds name) None) ⊎ (r ≡ asks_at events.ConvertFirst (bound binds name) (offset + done) (count - done))
MayRefuse binds (ops.Share name offset count to place) done r = (r ≡ begins (bound binds name) (Some (bound binds to))) ⊎ (r ≡ asks_share (bound binds name) (bound binds to) (offset + done) (place + done) (count - done))
MayRefuse binds (ops.Remove name) done r = (r ≡ begins (bound binds name) None) ⊎ ((r ≡ asks_of events.StripFirst (bound binds name)) ⊎ (r ≡ asks_of events.GiveInode (bound binds name)))

-- Codes are the places of the refusals in `WriteFault`, from 1. Those up to 9 end a line; a writer waits at 10, 11 and 14,
-- stops at 12, 13 and 17, and never meets 15 and 16.
abbrev pub EndsLine : ℕ → Type 0
EndsLine code = (0 < code) × (code ≤ 9)

abbrev pub RefusedBy : Binds → Op → Segment → Option Refused → Type 0
RefusedBy binds op s None = s.code ≡ 0
RefusedBy binds op s (Some r) = EndsLine s.code × MayRefuse binds op s.done r

-- ---- lines

pub record Fits (binds : Binds) (line : Line) (s : Segment) : Type 0 where
  pub number : s.line ≡ line.number
  pub refused : RefusedBy binds line.op s s.refused
  pub does : Does binds line.op s

-- entries that a line may have made so far, its code left open
abbrev pub MayFollow : Binds → Line → List Entry → Type 0
MayFollow binds line es = (s : Segment) × (s.entries ≡ es) × Fits binds line s

-- each segment fits its line, and what is left may be of the next one
abbrev pub FitsAll : Binds → List Line → List Segment → List Entry → Type 0
FitsAll binds [] [] rest = rest ≡ []
FitsAll binds [] (s ∷ ss) rest = ⊥
FitsAll binds (l ∷ ls) [] rest = MayFollow binds l rest
FitsAll binds (l ∷ ls) (s ∷ ss) rest = Fits binds l s × FitsAll (after l.op s binds) ls ss rest
