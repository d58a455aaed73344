-- Edits over a store in a row, and what each leaves open.
use Rattle.std.proofs.Common.{◌≡◌, ◌≤◌, ◌<◌, ℕ, Bool, true, false, refl, sym, ap, subst, ◌∙◌, Result, Ok, Err, arith}
use Rattle.std.specs.Prelude.{Option, Some, None, List, OnOk}
use Rattle.std.specs.List.{slice_get}
use Rattle.ag_headers.specs.Ring.{entries}
use Rattle.byte_fields.specs.Steps.{StepCount}
use Rattle.blk_cache.specs.Cache.{AgreesTold}
use Rattle.blk_device.specs.Causes.{HasCause, MovesOnly}
use Rattle.blk_device.specs.Contents.{Contents}
use Rattle.blk_device.specs.Reading.{EachBlock, OnlyRead}
use Rattle.blk_device.specs.ReadingLaws.{keeps_on as crash_on, keeps_self as crash_self}
use Rattle.blk_device.specs.declared.device.Device.{Ghosts}
use Rattle.blk_device.specs.declared.device.Region.{Region}
use Rattle.blk_device.specs.declared.device.Region.TheVariants.{Image}
use Rattle.geom.specs.Places.{device_block, layout}
use Rattle.geom.specs.declared.geometry.Geometry.{Geometry}
use Rattle.join_blocks.specs.Joins.{is_joined}
use Rattle.meta_txn.specs.Joined.{AreBelow}
use Rattle.redo_area.proofs.ToldLemmas.{told_same}
use Rattle.redo_area.specs.Recover.{StaysTold}
use Rattle.tree_edit.specs.Device.{IsLeft}
use Rattle.core_edit.specs.Edited.{LosesFirst}
use Rattle.core_edit.specs.One.{StayJoined}
use Rattle.core_edit.specs.Open.{AtMark, IsOpened, is_device}
use Rattle.core_edit.specs.declared.stop.Stop.{Stop}
use Rattle.core_edit.specs.declared.heads.EditHeads.{EditHeads}
use Rattle.core_edit.specs.declared.open.OpenEdit.{OpenEdit}
use Rattle.core_edit.specs.Ready.{HasRoom, IsReady, KeepsStore}
use Rattle.core_edit.specs.declared.store.Store.{Store}
use Rattle.core_edit.proofs.StoreLemmas.{room_stays}
use Rattle.core_edit.specs.Opened.{EditsStore, IsOpen}

pub on_ok : {T E : Type 0} {P Q : Type 0} (result : Result T E) → (P → Q) → OnOk result P → OnOk result Q
on_ok (Ok x) f p = f p
on_ok (Err e) f p = tt

-- the block that was taken is the list's first
pub lost_first : (result : Option ℕ) (e e' : OpenEdit) → LosesFirst result e e' → result ≡ slice_get (entries e.heads.list) 0
lost_first None e e' lost = ap (λ (xs : List ℕ). slice_get xs 0) (sym lost.0)
lost_first (Some b) e e' lost = ap (λ (xs : List ℕ). slice_get xs 0) (sym lost.0)

moves_later : (t : Bool) (before now : ℕ) → MovesOnly t before now → before ≤ now
moves_later true before now moves = moves.0
moves_later false before now moves = omega (arith, moves)

-- no answer lets the count of faults fall
cause_later : {T E : Type 0} (is_devices : E → Bool) (before now : ℕ) (result : Result T E) → HasCause is_devices before now result → before ≤ now
cause_later is_devices before now (Ok x) cause = omega (arith, cause)
cause_later is_devices before now (Err e) cause = moves_later (is_devices e) before now cause

module _ {D : Type 0} (d : Ghosts D) where
  -- a device that is only read
  pub left_of_read : (old new : D) (before after : StepCount) → OnlyRead d old new before after → IsLeft d old new before after
  left_of_read old new before after read = record {
    same = read.same;
    sizes = read.sizes;
    later = read.later;
    crash = read.crash;
    counted = read.counted;
    writes = omega (arith, read.writes);
    moves = read.moves;
  }

  pub keeps_after : (old new : Store D) (before after : StepCount) → EditsStore d old new before after → KeepsStore d old new
  keeps_after old new before after edits = record {
    geometry = edits.geometry;
    sizes = edits.left.sizes;
    later = edits.left.later;
    told = told_same (d.content old.dev) (d.content new.dev) edits.left.same;
  }

  pub ready_after : (old new : Store D) (before after : StepCount) → IsReady d old → EditsStore d old new before after → IsReady d new
  ready_after old new before after ready edits = record {
    room = room_stays d old new (keeps_after old new before after edits) ready.room;
    agreed = edits.agreed;
  }

  -- a group that is there stays there
  pub group_after : (n : ℕ) (old new : Store D) (before after : StepCount) → EditsStore d old new before after → n < old.geo.agcount → n < new.geo.agcount
  group_after n old new before after edits inside = subst (λ (x : Geometry). n < x.agcount) (sym edits.geometry) inside

  -- what is open stays so, where edits join blocks of the image and end marked
  pub opens_after : (g : ℕ) (old new : Store D) (before after : StepCount) → IsOpen d g old → new.geo ≡ old.geo → IsLeft d old.dev new.dev before after → new.edit.group ≡ old.edit.group → AtMark new.edit → StayJoined old.edit.txn.blocks new.edit.txn.blocks
      → (AreBelow (d.blocks old.dev Image) old.edit.txn.blocks → AreBelow (d.blocks old.dev Image) new.edit.txn.blocks) → IsOpen d g new
  opens_after g old new before after was geo left group marked stay below = record {
    group = group ∙ was.group;
    marked = marked;
    joined = subst (λ (x : Geometry). is_joined new.edit.txn.blocks (device_block x g 0) ≡ true) (sym geo) (stay (device_block old.geo g 0) was.joined);
    below = subst (λ (f : Region → ℕ). AreBelow (f Image) new.edit.txn.blocks) (sym left.sizes) (below was.below);
  }

  -- where nothing was asked of the device, and the edit may be another
  pub edits_self : (only_now : (x : D) (c : Contents) → d.may_have_held_since x (d.clock x) c → d.may_hold_now x c) (counts_now : (x : D) (t : ℕ) (c : Contents) → t ≤ d.clock x → d.may_hold_now x c → d.may_have_held_since x t c) (s : Store D) (e : OpenEdit) (steps : StepCount) → IsReady d s → EditsStore d s (record s { edit = e }) steps steps
  edits_self only_now counts_now s e steps ready = record {
    geometry = refl;
    left = record {
      same = refl;
      sizes = refl;
      later = omega arith;
      crash = crash_self d only_now counts_now EachBlock s.dev;
      counted = omega arith;
      writes = omega arith;
      moves = refl;
    };
    agreed = ready.agreed;
  }

  pub edits_on : (only_now : (x : D) (c : Contents) → d.may_have_held_since x (d.clock x) c → d.may_hold_now x c) (counts_now : (x : D) (t : ℕ) (c : Contents) → t ≤ d.clock x → d.may_hold_now x c → d.may_have_held_since x t c) (old mid new : Store D) (before between after : StepCount) → EditsStore d old mid before between → EditsStore d mid new between after → EditsStore d old new before after
  edits_on only_now counts_now old mid new before between after a b = record {
    geometry = b.geometry ∙ a.geometry;
    left = record {
      same = b.left.same ∙ a.left.same;
      sizes = b.left.sizes ∙ a.left.sizes;
      later = omega (arith, a.left.later, b.left.later);
      crash = crash_on d only_now counts_now EachBlock old.dev mid.dev new.dev a.left.crash b.left.crash;
      counted = omega (arith, a.left.counted, b.left.counted);
      writes = omega (arith, a.left.writes, b.left.writes);
      moves = b.left.moves ∙ a.left.moves;
    };
    agreed = b.agreed;
  }

  -- an edit as it begins
  pub begins : {T E : Type 0} (result : Result T E) (g : ℕ) (heads : EditHeads) (old new : Store D) → new.geo ≡ old.geo → d.blocks new.dev ≡ d.blocks old.dev → OnOk result (IsOpened (layout old.geo) (d.content old.dev) g heads None new.edit) → OnOk result (is_joined new.edit.txn.blocks (device_block old.geo g 0) ≡ true)
      → OnOk result (AreBelow (d.blocks old.dev Image) new.edit.txn.blocks) → OnOk result (IsOpen d g new)
  begins (Ok x) g heads old new geo sizes o joined below = record {
    group = o.group;
    marked = o.marked;
    joined = subst (λ (y : Geometry). is_joined new.edit.txn.blocks (device_block y g 0) ≡ true) (sym geo) joined;
    below = subst (λ (f : Region → ℕ). AreBelow (f Image) new.edit.txn.blocks) (sym sizes) below;
  }
  begins (Err e) g heads old new geo sizes o joined below = tt

  -- a commit
  pub closes_keeps : {T : Type 0} (old new : Store D) (result : Result T Stop) → d.blocks new.dev ≡ d.blocks old.dev → StaysTold (d.content old.dev) (d.content new.dev) → HasCause is_device (d.faults old.dev) (d.faults new.dev) result → new.geo ≡ old.geo → KeepsStore d old new
  closes_keeps old new result sizes told cause geo = record { geometry = geo; sizes = sizes; later = cause_later is_device (d.faults old.dev) (d.faults new.dev) result cause; told = told }

  pub closes_ready : {T : Type 0} (old new : Store D) (result : Result T Stop) → KeepsStore d old new → HasRoom d old → OnOk result (AgreesTold new.cache (d.content new.dev)) → OnOk result (IsReady d new)
  closes_ready old new (Ok x) keeps room agreed = record { room = room_stays d old new keeps room; agreed = agreed }
  closes_ready old new (Err e) keeps room agreed = tt
