-- What the calls of the events leave of the desk.
use Rattle.std.proofs.Common.{◌≡◌, ◌≤◌, ◌∙◌, ℕ, Bool, true, false, refl, sym, ap, subst, arith, append-nil}
use Rattle.std.proofs.lemmas.Bool.{false≢true}
use Rattle.std.proofs.lemmas.List.{length-set}
use Rattle.std.specs.Prelude.{◌||◌, [], Option, List, Result, Ok, Err, OnOk, IfErr, length, slice_set}
use Rattle.blk_cache.specs.Cache.{AgreesTold}
use Rattle.blk_device.specs.Causes.{HasCause, MovesOnly, Rose, any_error}
use Rattle.blk_device.specs.Contents.{Contents}
use Rattle.blk_device.specs.Crash.{IsDurable}
use Rattle.blk_device.specs.declared.device.Region.TheVariants.{Image}
use Rattle.blk_device.specs.declared.device.Device.{Ghosts}
use Rattle.byte_fields.specs.Steps.{StepCount}
use Rattle.block_reap.specs.Limbo.{has}
use Rattle.core_units.specs.Released.{block_runs, owner_in}
use Rattle.core_units.specs.declared.rebuild.Rebuild.{Rebuild}
use Rattle.core_switch.specs.Reserves.{has_reserve}
use Rattle.core_calls.specs.declared.answers.ScrubFault.{ScrubFault}
use Rattle.core_parts.proofs.common.AskLemmas.{asked_steady, asked_usable, steady_on}
use Rattle.core_parts.specs.Common.Asks.{Answers, IsUsable}
use Rattle.core_edit.specs.Open.{is_device}
use Rattle.core_edit.specs.declared.stop.Stop.{Stop}
use Rattle.core_edit.specs.declared.stop.Stop.TheVariants as stops
use Rattle.core_parts.specs.Keeps.{IsAsked, IsSteady, failed_by}
use Rattle.core_parts.specs.Reasons.{HasReason}
use Rattle.core_parts.specs.Safe.{IsDesk}
use Rattle.core_parts.specs.declared.desk.Desk.{Desk}
use Rattle.core_edit.specs.Ready.{IsReady, KeepsStore}
use Rattle.core_edit.specs.declared.store.Store.{Store}
use Rattle.intent_drain.specs.Drains.{gates_of}
use Rattle.intent_drain.specs.declared.drain.Drain.{Drain}
use Rattle.intent_drain.specs.declared.gates.Gate.{Gate}
use Rattle.core_edit.specs.Opened.{EditsStore}

pub or_false : (b : Bool) → b ≡ (b || false)
or_false true = refl
or_false false = refl

-- what was read before is read after
pub sync_durable : {T E : Type 0} (result : Result T E) (old new : Option Contents) (outcomes : Contents → Type 0) → new ≡ old → OnOk result (IsDurable Image old outcomes) → OnOk result (IsDurable Image new outcomes)
sync_durable (Ok x) old new outcomes same durable = subst (λ (told : Option Contents). IsDurable Image told outcomes) (sym same) durable
sync_durable (Err e) old new outcomes same durable = tt

pub not_unsynced : {X : Type 0} (b : Bool) → b ≡ false → b ≡ true → X
not_unsynced b isnt is = absurd (false≢true (sym isnt ∙ is))

-- an empty reserve has no block
pub none_reserved : (r : Rebuild) (c : Bool) (b o : ℕ) → r.building.reserve.items ≡ [] → c ≡ (c || has_reserve r b o)
none_reserved r c b o none = subst (λ (bs : List ℕ). c ≡ (c || has (block_runs (owner_in r) bs) b o)) (sym none) (or_false c)

moves_rose : (t : Bool) (before now : ℕ) → MovesOnly t before now → t ≡ true → Rose before now
moves_rose true before now moves told = moves.1
moves_rose false before now moves told = absurd (false≢true told)

pub cause_rose : {T E : Type 0} (is_devices : E → Bool) (before now : ℕ) (result : Result T E) → HasCause is_devices before now result → failed_by is_devices result ≡ true → Rose before now
cause_rose is_devices before now (Ok x) cause told = absurd (false≢true told)
cause_rose is_devices before now (Err e) cause told = moves_rose (is_devices e) before now cause told

moves_later : (t : Bool) (before now : ℕ) → MovesOnly t before now → before ≤ now
moves_later true before now moves = moves.0
moves_later false before now moves = omega (arith, moves)

cause_later : {T E : Type 0} (is_devices : E → Bool) (before now : ℕ) (result : Result T E) → HasCause is_devices before now result → before ≤ now
cause_later is_devices before now (Ok x) cause = omega (arith, cause)
cause_later is_devices before now (Err e) cause = moves_later (is_devices e) before now cause

-- a commit that isn't stopped by the device is done
commit_done : {P : Type 0} (result : Result (Unit {0}) Stop) → IfErr result (λ stop. stop ≡ stops.Failed) → OnOk result P → failed_by is_device result ≡ false → P
commit_done (Ok x) kind p told = p
commit_done (Err stops.Failed) kind p told = absurd (false≢true (sym told))
commit_done (Err (stops.Left k cause)) kind p told = absurd (false≢true (ap is_device kind))
commit_done (Err stops.Memory) kind p told = absurd (false≢true (ap is_device kind))

module _ {D : Type 0} (d : Ghosts D) where
  pub usable_ready : (k : Desk D) → IsUsable d k → IsReady d k.store
  usable_ready k u = record { room = u.desk.room; agreed = u.desk.agreed u.unshut }

  pub edits_asked : {T : Type 0} (k : Desk D) (store : Store D) (before after : StepCount) (result : Result T Stop) → EditsStore d k.store store before after → HasCause is_device (d.faults k.store.dev) (d.faults store.dev) result → IsAsked d (failed_by is_device result) k (record k { store = store })
  edits_asked k store before after result edits cause = record {
    geometry = edits.geometry;
    sizes = edits.left.sizes;
    later = edits.left.later;
    agreed = λ _. edits.agreed;
    rose = λ told. cause_rose is_device (d.faults k.store.dev) (d.faults store.dev) result cause told;
    book = refl;
    drain = refl;
    trees = refl;
  }

  pub commit_asked : (k : Desk D) (store : Store D) (result : Result (Unit {0}) Stop) → KeepsStore d k.store store → OnOk result (IsReady d store) → IfErr result (λ stop. stop ≡ stops.Failed) → HasCause is_device (d.faults k.store.dev) (d.faults store.dev) result → IsAsked d (failed_by is_device result) k (record k { store = store })
  commit_asked k store result keeps ready kind cause = record {
    geometry = keeps.geometry;
    sizes = keeps.sizes;
    later = keeps.later;
    agreed = λ told. (commit_done result kind ready told).agreed;
    rose = λ told. cause_rose is_device (d.faults k.store.dev) (d.faults store.dev) result cause told;
    book = refl;
    drain = refl;
    trees = refl;
  }

  pub sync_asked : {T E : Type 0} (k : Desk D) (dev : D) (result : Result T E) → IsUsable d k → d.content dev ≡ d.content k.store.dev → d.blocks dev ≡ d.blocks k.store.dev → HasCause any_error (d.faults k.store.dev) (d.faults dev) result → IsAsked d (failed_by any_error result) k (record k { store = record k.store { dev = dev } })
  sync_asked k dev result u same sizes cause = record {
    geometry = refl;
    sizes = sizes;
    later = cause_later any_error (d.faults k.store.dev) (d.faults dev) result cause;
    agreed = λ _. subst (λ (told : Option Contents). AgreesTold k.store.cache told) (sym same) (u.desk.agreed u.unshut);
    rose = λ told. cause_rose any_error (d.faults k.store.dev) (d.faults dev) result cause told;
    book = refl;
    drain = refl;
    trees = refl;
  }

  pub asked_answers : {T : Type 0} (old new : Desk D) (answer : T) → IsAsked d false old new → IsUsable d old → Answers {D = D} {T = T} d old new (Ok answer)
  asked_answers old new answer a u =
      let usable = asked_usable d old new a u in
      record { desk = usable.desk; steady = asked_steady d false old new a; reason = tt; unshut = usable.unshut }

  pub stopped_answers : {T : Type 0} (failed : Bool) (old mid new : Desk D) (fault : ScrubFault) → IsAsked d failed old mid → IsDesk d new → IsSteady d mid new → HasReason new fault → Answers {D = D} {T = T} d old new (Err fault)
  stopped_answers failed old mid new fault a desk steady reason =
      record { desk = desk; steady = steady_on d old mid new (asked_steady d failed old mid a) steady; reason = reason; unshut = tt }

  -- what was made durable stays so, while nothing is asked of the device
  pub synced_still : {T E : Type 0} (P : Type 0) (old mid new : Store D) (result : Result T E) → mid ≡ old → new ≡ mid → (P → IsDurable Image (d.content old.dev) (d.may_hold_now old.dev))
      → OnOk result (P → IsDurable Image (d.content new.dev) (d.may_hold_now new.dev))
  synced_still P old mid new (Ok x) a b durable = λ p. subst (λ (s : Store D). IsDurable Image (d.content s.dev) (d.may_hold_now s.dev)) (sym (b ∙ a)) (durable p)
  synced_still P old mid new (Err e) a b durable = tt

  pub opens_desk : (k : Desk D) (drain : Drain) (g : ℕ) (gate : Gate) → gates_of drain ≡ slice_set (gates_of k.drain) g gate → IsUsable d k → IsUsable d (record k { drain = drain })
  opens_desk k drain g gate gates u = record {
    desk = record {
      room = u.desk.room;
      agreed = u.desk.agreed;
      later = u.desk.later;
      cause = u.desk.cause;
      gates = ap (λ (gs : List Gate). length gs) gates ∙ (length-set (gates_of k.drain) g gate ∙ u.desk.gates);
      trees = u.desk.trees;
    };
    unshut = u.unshut;
  }

  pub opens_steady : (k : Desk D) (drain : Drain) → IsSteady d k (record k { drain = drain })
  opens_steady k drain = record { geometry = refl; sizes = refl; later = omega arith; begun = refl; added = []; journal = sym (append-nil k.book.journal.items) }
