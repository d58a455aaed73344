-- What calls of an event keep that may stop before its commit.
use Rattle.std.proofs.Common.{◌≡◌, ◌≤◌, ◌+◌, ◌∙◌, ℕ, refl, sym, ap, subst, arith, length-set}
use Rattle.std.specs.Prelude.{Bool, true, false, List, Result, Ok, Err, IfErr, length, slice_set}
use Rattle.std.specs.Vec.{vec_capacity, vec_len}
use Rattle.blk_cache.specs.Cache.{AgreesTold}
use Rattle.blk_device.specs.Causes.{HasCause, MovesOnly, Rose}
use Rattle.blk_device.specs.Reading.{OnlyRead}
use Rattle.blk_device.specs.declared.device.Device.{Ghosts}
use Rattle.byte_fields.specs.Steps.{StepCount}
use Rattle.core_calls.specs.declared.answers.WriteFault.{WriteFault}
use Rattle.core_calls.specs.declared.answers.WriteFault.TheVariants as faults
use Rattle.core_parts.proofs.common.AskLemmas.{asked_steady, asked_usable, same_desk, same_steady, same_usable, steady_on, steady_self}
use Rattle.core_parts.specs.Common.Asks.{Adds, IsSame, IsUsable}
use Rattle.core_parts.specs.Keeps.{IsAsked, IsSteady, failed_by}
use Rattle.core_parts.specs.Safe.{AreKept, IsDesk, IsKept}
use Rattle.core_parts.specs.declared.book.Book.{Book}
use Rattle.core_parts.specs.declared.desk.Desk.{Desk}
use Rattle.core_parts.specs.declared.groups.GroupKept.{GroupKept}
use Rattle.core_edit.specs.declared.store.Store.{Store}
use Rattle.core_switch.specs.Marks.{IsLonger}
use Rattle.core_chains.proofs.write.Places.{set_kept}
use Rattle.fs_model.specs.declared.entry.Entry.{Entry}
use Rattle.geom.specs.declared.geometry.Geometry.{Geometry}
use Rattle.core_chains.specs.Refill.Halts.{EndsWell, Halts, HaltsWell, IsMarkable, IsMemory, IsMet}
use Rattle.core_chains.specs.declared.refill.halts.Halt.{Halt}
use Rattle.core_chains.specs.declared.refill.halts.Halt.TheVariants as halts
use Rattle.core_chains.specs.Write.Writes.{HasWriteReason, IsGivenAll, IsLeftAll, WriteAnswers}

moves_rose : (t : Bool) (before now : ℕ) → MovesOnly t before now → t ≡ true → Rose before now
moves_rose true before now moves is = moves.1
moves_rose false before now moves is = cc

cause_rose : {T E : Type 0} (is_devices : E → Bool) (before now : ℕ) (result : Result T E) → HasCause is_devices before now result → failed_by is_devices result ≡ true → Rose before now
cause_rose is_devices before now (Ok x) cause is = cc
cause_rose is_devices before now (Err e) cause is = moves_rose (is_devices e) before now cause is

met_well : {D : Type 0} (k : Desk D) (halt : Halt) → IsMet halt → IsMarkable k → HaltsWell k halt
met_well k (halts.Refused fault) is can = absurd is
met_well k (halts.Met g kind cause) is can = can
met_well k (halts.Owned g) is can = can

memory_well : {D : Type 0} (k : Desk D) (halt : Halt) → IsMemory halt → HaltsWell k halt
memory_well k halt is = subst (HaltsWell k) (sym is) tt

-- ---- what is kept of all groups

pub many_set : (ks : List GroupKept) (g : ℕ) (k : GroupKept) → length (slice_set ks g k) ≡ length ks
many_set ks g k = length-set ks g k

pub kept_set : (ks : List GroupKept) (g : ℕ) (k : GroupKept) → AreKept ks → IsKept k → AreKept (slice_set ks g k)
kept_set ks g k all here = set_kept ks g k all here

pub adds_longer : {D : Type 0} (old new : Desk D) (e : Entry) → Adds e old new → IsLonger old.book.journal new.book.journal
adds_longer old new e adds = record { few = let longer = adds.longer in omega (arith, longer); capacity = adds.capacity }

module _ {D : Type 0} (d : Ghosts D) where
  pub read_asked : {T E : Type 0} (is_devices : E → Bool) (result : Result T E) (old new : Desk D) (before after : StepCount) → OnlyRead d old.store.dev new.store.dev before after → HasCause is_devices (d.faults old.store.dev) (d.faults new.store.dev) result
      → AgreesTold new.store.cache (d.content new.store.dev) → new.store.geo ≡ old.store.geo → new.book ≡ old.book → new.drain ≡ old.drain → new.ino_trees ≡ old.ino_trees → IsAsked d (failed_by is_devices result) old new
  read_asked is_devices result old new before after read cause agrees geometry book drain trees = record {
    geometry = geometry;
    sizes = read.sizes;
    later = read.later;
    agreed = λ _. agrees;
    rose = cause_rose is_devices (d.faults old.store.dev) (d.faults new.store.dev) result cause;
    book = book;
    drain = drain;
    trees = trees;
  }

  pub asked_halts : {T : Type 0} (old new : Desk D) (x : T) → IsAsked d false old new → IsUsable d old → Halts d old new (Ok x)
  asked_halts old new x a u =
      let now = asked_usable d old new a u in
      record { desk = now.desk; steady = asked_steady d false old new a; ends = now.unshut }

  pub halted_halts : {T : Type 0} (failed : Bool) (old mid new : Desk D) (halt : Halt) → IsAsked d failed old mid → IsDesk d new → IsSteady d mid new → HaltsWell new halt → Halts {T = T} d old new (Err halt)
  halted_halts failed old mid new halt a desk steady ends = record { desk = desk; steady = steady_on d old mid new (asked_steady d failed old mid a) steady; ends = ends }

  pub halts_usable : {T : Type 0} (old new : Desk D) (x : T) → Halts d old new (Ok x) → IsUsable d new
  halts_usable old new x h = record { desk = h.desk; unshut = h.ends }

  -- a call after others
  pub halts_on : {T : Type 0} (old mid new : Desk D) (r : Result T Halt) → IsSteady d old mid → Halts d mid new r → Halts d old new r
  halts_on old mid new r steady h = record { desk = h.desk; steady = steady_on d old mid new steady h.steady; ends = h.ends }

  pub steady_halts : {T : Type 0} (old new : Desk D) (x : T) → IsUsable d new → IsSteady d old new → Halts d old new (Ok x)
  steady_halts old new x u steady = record { desk = u.desk; steady = steady; ends = u.unshut }

  -- nothing is asked of the device
  pub self_ok : {T : Type 0} (k : Desk D) (x : T) → IsUsable d k → Halts d k k (Ok x)
  self_ok k x u = record { desk = u.desk; steady = steady_self d k; ends = u.unshut }

  pub self_err : {T : Type 0} (k : Desk D) (halt : Halt) → IsUsable d k → HaltsWell k halt → Halts {T = T} d k k (Err halt)
  self_err k halt u well = record { desk = u.desk; steady = steady_self d k; ends = well }

  -- memory is wanting
  pub memory_halts : {T : Type 0} (k : Desk D) (halt : Halt) → IsUsable d k → IsMemory halt → Halts {T = T} d k k (Err halt)
  memory_halts k halt u is = self_err k halt u (memory_well k halt is)

  -- a call of a writer
  pub write_ok : {S T : Type 0} (old new : Desk D) (x : S) (y : T) → WriteAnswers d old new (Ok x) → Halts d old new (Ok y)
  write_ok old new x y a = record { desk = a.desk; steady = a.steady; ends = a.unshut }

  pub write_err : {S T : Type 0} (old new : Desk D) (fault : WriteFault) → WriteAnswers {T = S} d old new (Err fault) → Halts {T = T} d old new (Err (halts.Refused fault))
  write_err old new fault a = record { desk = a.desk; steady = a.steady; ends = a.reason }

  met_ends : {T : Type 0} (k : Desk D) (r : Result T Halt) → IfErr r IsMet → IsMarkable k → EndsWell k r
  met_ends k (Ok x) is can = can.unshut
  met_ends k (Err halt) is can = met_well k halt is can

  -- and then perhaps what an index met
  pub write_met : {S T : Type 0} (old new : Desk D) (x : S) (r : Result T Halt) → WriteAnswers d old new (Ok x) → IfErr r IsMet → new.book ≡ old.book → vec_len old.book.journal + 2 ≤ vec_capacity old.book.journal → Halts d old new r
  write_met old new x r a is same room = record {
    desk = a.desk;
    steady = a.steady;
    ends = met_ends new r is (record { unshut = a.unshut; room = subst (λ (b : Book). vec_len b.journal + 2 ≤ vec_capacity b.journal) (sym same) room });
  }

  -- and then perhaps what is met in memory alone
  pub met_after : {S T : Type 0} (old new : Desk D) (x : S) (r : Result T Halt) → Halts d old new (Ok x) → IfErr r IsMet → new.book ≡ old.book → vec_len old.book.journal + 2 ≤ vec_capacity old.book.journal → Halts d old new r
  met_after old new x r h is same room = record {
    desk = h.desk;
    steady = h.steady;
    ends = met_ends new r is (record { unshut = h.ends; room = subst (λ (b : Book). vec_len b.journal + 2 ≤ vec_capacity b.journal) (sym same) room });
  }

  -- ---- with what is kept of all groups

  -- a room of the journal was taken
  pub given_same : (old new : Desk D) (ks : List GroupKept) → IsSame old new → IsGivenAll d old ks → IsGivenAll d new ks
  given_same old new ks same given = record {
    usable = same_usable d old new same given.usable;
    groups = given.groups ∙ sym (ap (λ (s : Store D). s.geo.agcount) same.store);
    kept = given.kept;
  }

  pub left_same : (old mid new : Desk D) (was ks : List GroupKept) → IsSame old mid → IsLeftAll d mid new was ks → IsLeftAll d old new was ks
  left_same old mid new was ks same left = record { desk = left.desk; steady = steady_on d old mid new (same_steady d old mid same) left.steady; groups = left.groups; kept = left.kept }

  pub none_same : (old new : Desk D) (ks : List GroupKept) → IsSame old new → IsGivenAll d old ks → IsLeftAll d old new ks ks
  none_same old new ks same given = record { desk = same_desk d old new same given.usable.desk; steady = same_steady d old new same; groups = refl; kept = given.kept }

  -- and marks follow
  pub left_marked : (old mid new : Desk D) (was between ks : List GroupKept) → IsLeftAll d old mid was between → IsDesk d new → IsSteady d mid new → length ks ≡ length between → AreKept ks → IsLeftAll d old new was ks
  left_marked old mid new was between ks left desk steady many kept = record { desk = desk; steady = steady_on d old mid new left.steady steady; groups = many ∙ left.groups; kept = kept }

  -- nothing was changed yet
  pub left_before : (old mid new : Desk D) (was ks : List GroupKept) → IsSteady d old mid → IsLeftAll d mid new was ks → IsLeftAll d old new was ks
  left_before old mid new was ks steady left = record { desk = left.desk; steady = steady_on d old mid new steady left.steady; groups = left.groups; kept = left.kept }

  pub left_none : {T : Type 0} (old new : Desk D) (ks : List GroupKept) (r : Result T Halt) → Halts d old new r → IsGivenAll d old ks → IsLeftAll d old new ks ks
  left_none old new ks r h given = record { desk = h.desk; steady = h.steady; groups = refl; kept = given.kept }

  -- a call that only looks
  pub given_after : {T : Type 0} (old new : Desk D) (ks : List GroupKept) (x : T) → Halts d old new (Ok x) → IsGivenAll d old ks → IsGivenAll d new ks
  given_after old new ks x h given = record {
    usable = halts_usable old new x h;
    groups = given.groups ∙ sym (ap (λ (y : Geometry). y.agcount) h.steady.geometry);
    kept = given.kept;
  }
