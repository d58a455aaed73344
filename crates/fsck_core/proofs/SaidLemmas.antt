-- What an event of a writer says, as it is told.
use Rattle.std.proofs.Common.{◌≡◌, ℕ, refl, sym, subst}
use Rattle.std.specs.Prelude.{Option, None, Some, Result, Ok, Err, IfOk, OnErr, OnOk}
use Rattle.core_calls.specs.declared.answers.Answer.{Answer}
use Rattle.core_calls.specs.declared.answers.Answer.TheVariants.{Blocks, Done, Write}
use Rattle.core_calls.specs.declared.answers.WriteFault.{WriteFault}
use Rattle.core_calls.specs.declared.answers.WriteFault.TheVariants as faults
use Rattle.core_calls.specs.declared.asks.Ask.{Ask}
use Rattle.core_calls.specs.declared.asks.Ask.TheVariants as asks
use Rattle.core_chains.proofs.write.SaysLemmas.{refuses_none}
use Rattle.core_chains.specs.Write.Says.{RefusesBy}
use Rattle.core_parts.specs.declared.parts.Parts.{Parts}
use Rattle.fsck_core.specs.Replies.{reply_asked}
use Rattle.fsck_core.specs.Said.{SaysBlocks, SaysDone, SaysEvent, SaysInode, journal}
use Rattle.fsck_core.specs.Told.{told_by, told_taken}

none_asked : (to : ℕ × ℕ) → Some to ≡ None → ⊥
none_asked to is = cc

module _ {D : Type 0} where
  blocks_told : (Says : ℕ → Type 0) (p q : Parts D) (r : Result ℕ WriteFault) → IfOk r Says → RefusesBy r (journal p) (journal q) → SaysBlocks Says (told_by Blocks r) p q
  blocks_told Says p q (Ok n) says refuses = says
  blocks_told Says p q (Err f) says refuses = refuses

  done_told : (Says : Type 0) (p q : Parts D) (r : Result (Unit {0}) WriteFault) → OnOk r Says → RefusesBy r (journal p) (journal q) → SaysDone Says (told_by (λ (nothing : Unit {0}). Done) r) p q
  done_told Says p q (Ok x) says refuses = says
  done_told Says p q (Err f) says refuses = refuses

  inode_told : (Says : ℕ → Type 0) (p q : Parts D) (r : Result (ℕ × ℕ) WriteFault) → IfOk r (λ t. Says t.0) → RefusesBy r (journal p) (journal q) → SaysInode Says (told_by told_taken r) p q
  inode_told Says p q (Ok t) says refuses = says
  inode_told Says p q (Err f) says refuses = refuses

  -- where a refusal may add marks
  pub blocks_said : (Says : ℕ → Type 0) (p q : Parts D) (r : Result ℕ WriteFault) (a : Answer) → a ≡ told_by Blocks r → IfOk r Says → RefusesBy r (journal p) (journal q) → SaysBlocks Says a p q
  blocks_said Says p q r a is says refuses = subst (λ (x : Answer). SaysBlocks Says x p q) (sym is) (blocks_told Says p q r says refuses)

  pub done_said : (Says : Type 0) (p q : Parts D) (r : Result (Unit {0}) WriteFault) (a : Answer) → a ≡ told_by (λ (nothing : Unit {0}). Done) r → OnOk r Says → RefusesBy r (journal p) (journal q) → SaysDone Says a p q
  done_said Says p q r a is says refuses = subst (λ (x : Answer). SaysDone Says x p q) (sym is) (done_told Says p q r says refuses)

  pub inode_said : (Says : ℕ → Type 0) (p q : Parts D) (r : Result (ℕ × ℕ) WriteFault) (a : Answer) → a ≡ told_by told_taken r → IfOk r (λ t. Says t.0) → RefusesBy r (journal p) (journal q) → SaysInode Says a p q
  inode_said Says p q r a is says refuses = subst (λ (x : Answer). SaysInode Says x p q) (sym is) (inode_told Says p q r says refuses)

  -- where it adds none
  pub blocks_alone : (Says : ℕ → Type 0) (p q : Parts D) (r : Result ℕ WriteFault) (a : Answer) → a ≡ told_by Blocks r → IfOk r Says → OnErr r (journal q ≡ journal p) → SaysBlocks Says a p q
  blocks_alone Says p q r a is says same = blocks_said Says p q r a is says (refuses_none r (journal p) (journal q) same)

  pub done_alone : (Says : Type 0) (p q : Parts D) (r : Result (Unit {0}) WriteFault) (a : Answer) → a ≡ told_by (λ (nothing : Unit {0}). Done) r → OnOk r Says → OnErr r (journal q ≡ journal p) → SaysDone Says a p q
  done_alone Says p q r a is says same = done_said Says p q r a is says (refuses_none r (journal p) (journal q) same)

  -- ---- what no event of a writer is

  pub memory_said : (ask : Ask) (p : Parts D) → SaysEvent ask (Write faults.Memory) p p
  memory_said (asks.Begin writer first second) p = refl
  memory_said (asks.MapFirst chain offset count) p = refl
  memory_said (asks.UnmapFirst chain offset count) p = refl
  memory_said (asks.StripFirst chain) p = refl
  memory_said (asks.ShareFirst chain offset to_offset count) p = refl
  memory_said (asks.ConvertFirst chain offset count) p = refl
  memory_said (asks.RmapStep chain) p = refl
  memory_said (asks.RefStep chain) p = refl
  memory_said (asks.FreeStep chain) p = refl
  memory_said (asks.TakeInode writer uid) p = refl
  memory_said (asks.GiveInode chain) p = refl
  memory_said (asks.Refill group) p = refl
  memory_said (asks.End chain) p = refl
  memory_said (asks.Note writer line) p = tt
  memory_said (asks.Start group unit plan turns) p = tt
  memory_said (asks.Advance group) p = tt
  memory_said (asks.ScanPiece group) p = tt
  memory_said (asks.Close group) p = tt
  memory_said (asks.GatherPiece group) p = tt
  memory_said (asks.ComparePiece group) p = tt
  memory_said (asks.ReservePiece group) p = tt
  memory_said (asks.StagePiece group) p = tt
  memory_said (asks.Switch group) p = tt
  memory_said (asks.ReapPiece group) p = tt
  memory_said (asks.Reopen group) p = tt

  pub note_said : (ask : Ask) (to : ℕ × ℕ) (a : Answer) (p q : Parts D) → Some to ≡ reply_asked ask → SaysEvent ask a p q
  note_said (asks.Begin writer first second) to a p q is = absurd (none_asked to is)
  note_said (asks.MapFirst chain offset count) to a p q is = absurd (none_asked to is)
  note_said (asks.UnmapFirst chain offset count) to a p q is = absurd (none_asked to is)
  note_said (asks.StripFirst chain) to a p q is = absurd (none_asked to is)
  note_said (asks.ShareFirst chain offset to_offset count) to a p q is = absurd (none_asked to is)
  note_said (asks.ConvertFirst chain offset count) to a p q is = absurd (none_asked to is)
  note_said (asks.RmapStep chain) to a p q is = absurd (none_asked to is)
  note_said (asks.RefStep chain) to a p q is = absurd (none_asked to is)
  note_said (asks.FreeStep chain) to a p q is = absurd (none_asked to is)
  note_said (asks.TakeInode writer uid) to a p q is = absurd (none_asked to is)
  note_said (asks.GiveInode chain) to a p q is = absurd (none_asked to is)
  note_said (asks.Refill group) to a p q is = absurd (none_asked to is)
  note_said (asks.End chain) to a p q is = absurd (none_asked to is)
  note_said (asks.Note writer line) to a p q is = tt
  note_said (asks.Start group unit plan turns) to a p q is = tt
  note_said (asks.Advance group) to a p q is = tt
  note_said (asks.ScanPiece group) to a p q is = tt
  note_said (asks.Close group) to a p q is = tt
  note_said (asks.GatherPiece group) to a p q is = tt
  note_said (asks.ComparePiece group) to a p q is = tt
  note_said (asks.ReservePiece group) to a p q is = tt
  note_said (asks.StagePiece group) to a p q is = tt
  note_said (asks.Switch group) to a p q is = tt
  note_said (asks.ReapPiece group) to a p q is = tt
  note_said (asks.Reopen group) to a p q is = tt
