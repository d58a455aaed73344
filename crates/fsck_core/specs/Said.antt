-- Which entries an event of a writer adds to the journal, as it is answered ("Eventual Consistency").
use Rattle.std.specs.Prelude.{◌≡◌, ⊤, ℕ, List}
use Rattle.core_calls.specs.declared.answers.Answer.{Answer}
use Rattle.core_calls.specs.declared.answers.Answer.TheVariants as answers
use Rattle.core_calls.specs.declared.asks.Ask.{Ask}
use Rattle.core_calls.specs.declared.asks.Ask.TheVariants as asks
use Rattle.core_chains.specs.Refill.Entries.{SaysRefilled}
use Rattle.core_chains.specs.Steps.Entries.{HasSaid, SaysFree, SaysRef, SaysRmap}
use Rattle.core_chains.specs.Write.Says.{SaysRefused}
use Rattle.core_files.specs.First.Entries.{HasPiece, HasStripped}
use Rattle.core_files.specs.Inodes.Entries.{HasGiven, SaysTaken}
use Rattle.core_files.specs.Shares.Entries.{HasShared}
use Rattle.core_parts.specs.declared.parts.Parts.{Parts}
use Rattle.fs_model.specs.declared.entry.Entry.{Entry}
use Rattle.fs_model.specs.declared.entry.Entry.TheVariants as entries

abbrev pub journal : {D : Type 0} → Parts D → List Entry
journal p = p.desk.book.journal.items

-- a refusal adds marks at most
abbrev pub SaysDone : {D : Type 0} → Type 0 → Answer → Parts D → Parts D → Type 0
SaysDone Says answers.Done old new = Says
SaysDone Says (answers.Write fault) old new = SaysRefused fault (journal old) (journal new)
SaysDone Says answer old new = ⊥

abbrev pub SaysBlocks : {D : Type 0} → (ℕ → Type 0) → Answer → Parts D → Parts D → Type 0
SaysBlocks Says (answers.Blocks n) old new = Says n
SaysBlocks Says (answers.Write fault) old new = SaysRefused fault (journal old) (journal new)
SaysBlocks Says answer old new = ⊥

abbrev pub SaysInode : {D : Type 0} → (ℕ → Type 0) → Answer → Parts D → Parts D → Type 0
SaysInode Says (answers.Taken ino chain) old new = Says ino
SaysInode Says (answers.Write fault) old new = SaysRefused fault (journal old) (journal new)
SaysInode Says answer old new = ⊥

-- of a writer's event; of a reply and of the scrubber's events nothing is said here
abbrev pub SaysEvent : {D : Type 0} → Ask → Answer → Parts D → Parts D → Type 0
SaysEvent (asks.Begin writer first second) answer old new = journal new ≡ journal old
SaysEvent (asks.End chain) answer old new = journal new ≡ journal old
SaysEvent (asks.MapFirst chain offset count) answer old new = SaysBlocks (λ n. HasPiece entries.Mapped chain offset n old.desk new.desk) answer old new
SaysEvent (asks.UnmapFirst chain offset count) answer old new = SaysBlocks (λ n. HasPiece entries.Unmapped chain offset n old.desk new.desk) answer old new
SaysEvent (asks.ConvertFirst chain offset count) answer old new = SaysBlocks (λ n. HasPiece entries.Converted chain offset n old.desk new.desk) answer old new
SaysEvent (asks.StripFirst chain) answer old new = SaysBlocks (λ n. HasStripped chain n old.desk new.desk) answer old new
SaysEvent (asks.ShareFirst chain offset to_offset count) answer old new = SaysBlocks (λ n. HasShared chain offset to_offset n old.desk new.desk) answer old new
SaysEvent (asks.RmapStep chain) answer old new = SaysDone (HasSaid SaysRmap chain old new) answer old new
SaysEvent (asks.RefStep chain) answer old new = SaysDone (HasSaid SaysRef chain old new) answer old new
SaysEvent (asks.FreeStep chain) answer old new = SaysDone (HasSaid SaysFree chain old new) answer old new
SaysEvent (asks.TakeInode writer uid) answer old new = SaysInode (λ ino. SaysTaken writer uid ino (journal old) (journal new)) answer old new
SaysEvent (asks.GiveInode chain) answer old new = SaysDone (HasGiven chain old.desk new.desk) answer old new
SaysEvent (asks.Refill g) answer old new = SaysBlocks (λ n. SaysRefilled old.groups.items g n (journal old) (journal new)) answer old new
SaysEvent ask answer old new = ⊤
