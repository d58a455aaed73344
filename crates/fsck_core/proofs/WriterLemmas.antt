-- What an event of a writer keeps, as it is told.
use Rattle.std.proofs.Common.{◌≡◌, ℕ, sym, subst}
use Rattle.std.specs.Prelude.{Result, Ok, Err}
use Rattle.blk_device.specs.declared.device.Device.{Ghosts}
use Rattle.core_calls.specs.declared.answers.Answer.{Answer}
use Rattle.core_calls.specs.declared.answers.Answer.TheVariants.{Blocks, Chain, Done, Write}
use Rattle.core_calls.specs.declared.answers.WriteFault.{WriteFault}
use Rattle.core_calls.specs.declared.answers.WriteFault.TheVariants as faults
use Rattle.core_parts.proofs.common.AskLemmas.{steady_self}
use Rattle.core_parts.specs.Safe.{IsSafe}
use Rattle.core_parts.specs.declared.desk.Desk.{Desk}
use Rattle.core_parts.specs.declared.parts.Parts.{Parts}
use Rattle.core_chains.specs.Write.Writes.{WriteParts, WritesWell}
use Rattle.fsck_core.specs.Acts.{Acts, TellsAll}
use Rattle.fsck_core.specs.Told.{told_by, told_taken}

tells : {D T : Type 0} (tell : T → Answer) (k : Desk D) → ((x : T) → TellsAll k (tell x)) → (r : Result T WriteFault) → WritesWell k r → TellsAll k (told_by tell r)
tells tell k plain (Ok x) well = plain x
tells tell k plain (Err f) well = well

module _ {D : Type 0} (d : Ghosts D) where
  write_acts : {T : Type 0} (tell : T → Answer) (p q : Parts D) (r : Result T WriteFault) (a : Answer) → ((x : T) → TellsAll q.desk (tell x)) → a ≡ told_by tell r → WriteParts d p q r → Acts d p q a
  write_acts tell p q r a plain is w = record {
    safe = w.safe;
    steady = w.steady;
    told = subst (TellsAll q.desk) (sym is) (tells tell q.desk plain r w.reason);
    shut = w.shut;
  }

  pub chain_acts : (p q : Parts D) (r : Result ℕ WriteFault) (a : Answer) → a ≡ told_by Chain r → WriteParts d p q r → Acts d p q a
  chain_acts p q r a is w = write_acts Chain p q r a (λ x. tt) is w

  pub blocks_acts : (p q : Parts D) (r : Result ℕ WriteFault) (a : Answer) → a ≡ told_by Blocks r → WriteParts d p q r → Acts d p q a
  blocks_acts p q r a is w = write_acts Blocks p q r a (λ x. tt) is w

  pub made_acts : (p q : Parts D) (r : Result (Unit {0}) WriteFault) (a : Answer) → a ≡ told_by (λ (nothing : Unit {0}). Done) r → WriteParts d p q r → Acts d p q a
  made_acts p q r a is w = write_acts (λ (nothing : Unit {0}). Done) p q r a (λ x. tt) is w

  pub taken_acts : (p q : Parts D) (r : Result (ℕ × ℕ) WriteFault) (a : Answer) → a ≡ told_by told_taken r → WriteParts d p q r → Acts d p q a
  taken_acts p q r a is w = write_acts told_taken p q r a (λ x. tt) is w

  pub none_acts : (p : Parts D) → IsSafe d p → Acts d p p (Write faults.Memory)
  none_acts p s = record { safe = s; steady = steady_self d p.desk; told = tt; shut = λ n is. is }
