-- What searches leave of the desk.
use Rattle.std.proofs.Common.{◌≡◌, ◌≤◌, ℕ, Bool, true, false, refl, sym, arith}
use Rattle.std.proofs.lemmas.Bool.{false≢true}
use Rattle.std.specs.Prelude.{Result, Ok, Err}
use Rattle.blk_cache.specs.Cache.{AgreesTold}
use Rattle.blk_cache.specs.declared.cache.BlkCache.{BlkCache}
use Rattle.blk_device.specs.Causes.{HasCause, MovesOnly, Rose}
use Rattle.blk_device.specs.Reading.{OnlyRead}
use Rattle.blk_device.specs.declared.device.Device.{Ghosts}
use Rattle.byte_fields.specs.Steps.{StepCount}
use Rattle.core_calls.specs.declared.answers.WriteFault.{WriteFault}
use Rattle.core_parts.proofs.common.AskLemmas.{asked_steady, steady_on}
use Rattle.core_parts.specs.Common.Asks.{IsUsable}
use Rattle.core_parts.specs.Keeps.{IsAsked, failed_by}
use Rattle.core_parts.specs.declared.desk.Desk.{Desk}
use Rattle.core_chains.specs.Write.Writes.{WriteAnswers}
use Rattle.tree_blocks.specs.Reading.{is_failed}
use Rattle.tree_blocks.specs.declared.tree.WalkFault.{WalkFault}

rose_if : (t : Bool) (before now : ℕ) → MovesOnly t before now → t ≡ true → Rose before now
rose_if true before now moves told = moves.1
rose_if false before now moves told = absurd (false≢true told)

cause_rose : {T : Type 0} (before now : ℕ) (result : Result T WalkFault) → HasCause is_failed before now result → failed_by is_failed result ≡ true → Rose before now
cause_rose before now (Ok x) cause told = absurd (false≢true told)
cause_rose before now (Err e) cause told = rose_if (is_failed e) before now cause told

module _ {D : Type 0} (d : Ghosts D) where
  pub read_asked : {T : Type 0} (k : Desk D) (dev : D) (cache : BlkCache) (before after : StepCount) (result : Result T WalkFault) → OnlyRead d k.store.dev dev before after → HasCause is_failed (d.faults k.store.dev) (d.faults dev) result → AgreesTold cache (d.content dev)
      → IsAsked d (failed_by is_failed result) k (record k { store = record k.store { dev = dev; cache = cache } })
  read_asked k dev cache before after result read cause agreed = record {
    geometry = refl;
    sizes = read.sizes;
    later = read.later;
    agreed = λ _. agreed;
    rose = λ told. cause_rose (d.faults k.store.dev) (d.faults dev) result cause told;
    book = refl;
    drain = refl;
    trees = refl;
  }

  -- what comes behind a call that stopped
  pub asked_on : {T : Type 0} (failed : Bool) (old mid new : Desk D) (answer : Result T WriteFault) → IsAsked d failed old mid → WriteAnswers d mid new answer → WriteAnswers d old new answer
  asked_on failed old mid new answer a b = record { desk = b.desk; steady = steady_on d old mid new (asked_steady d failed old mid a) b.steady; reason = b.reason; unshut = b.unshut }
