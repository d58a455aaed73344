-- What calls over chunks keep of the desk.
use Rattle.std.proofs.Common.{◌≡◌, ◌≤◌, ◌<◌, ◌∙◌, ℕ, refl, sym, ap, subst, arith}
use Rattle.std.specs.Prelude.{Bool, true, false, List, Option, Some, None, Result, Ok, Err, IfErr, is_some, if◌then◌else◌}
use Rattle.blk_cache.specs.Cache.{AgreesTold}
use Rattle.blk_device.specs.Causes.{HasCause, MovesOnly, Rose}
use Rattle.blk_device.specs.declared.device.Device.{Ghosts}
use Rattle.blk_device.specs.declared.device.Region.{Region}
use Rattle.blk_device.specs.declared.device.Region.TheVariants.{Image}
use Rattle.core_calls.specs.declared.answers.WriteFault.{WriteFault}
use Rattle.core_calls.specs.declared.answers.WriteFault.TheVariants as faults
use Rattle.core_edit.specs.Open.{AtMark}
use Rattle.core_parts.specs.Keeps.{IsAsked, failed_by}
use Rattle.core_parts.specs.declared.desk.Desk.{Desk}
use Rattle.core_files.specs.Chunks.Plain.{IsPlain, IsPlainHalt}
use Rattle.core_chains.specs.Refill.Halts.{EndsWell, Halts, HaltsWell}
use Rattle.core_chains.specs.declared.refill.halts.Halt.{Halt}
use Rattle.core_chains.specs.declared.refill.halts.Halt.TheVariants as halts
use Rattle.core_chains.specs.Write.Writes.{HasWriteReason}
use Rattle.core_edit.specs.declared.store.Store.{Store}
use Rattle.file_cores.specs.Looks.{Looks}
use Rattle.file_cores.specs.Puts.{PutsOne}
use Rattle.geom.proofs.ApartLemmas.{lies_inside}
use Rattle.geom.specs.Places.{HasBlock, HasInode, device_block, layout}
use Rattle.geom.specs.declared.geometry.Geometry.{Geometry}
use Rattle.geom.specs.declared.geometry.InodePlace.{InodePlace}
use Rattle.join_blocks.specs.Joins.{is_joined}
use Rattle.meta_txn.proofs.JoinedLaws.{below_with, bytes_at_with}
use Rattle.meta_txn.specs.Joined.{AreBelow, bytes_at, with_block}
use Rattle.redo_area.specs.Area.{Batch}
use Rattle.core_edit.specs.Opened.{IsOpen}

-- a block of a group lies in the image
pub inside_image : (geo : Geometry) (g b size : ℕ) → HasBlock geo g b → geo.dblocks ≤ size → device_block geo g b < size
inside_image geo g b size has room =
    let inside = lies_inside (layout geo) geo.fitting g b has.group has.block in
    omega (arith, inside)

-- an inode's place stays one
pub inode_stays : (old new : Geometry) (place : InodePlace) → new ≡ old → HasInode old place → HasInode new place
inode_stays old new place same has = subst (λ (x : Geometry). HasInode x place) (sym same) has

moves_rose : (t : Bool) (before now : ℕ) → MovesOnly t before now → t ≡ true → Rose before now
moves_rose true before now moves is = moves.1
moves_rose false before now moves is = cc

moves_later : (t : Bool) (before now : ℕ) → MovesOnly t before now → before ≤ now
moves_later true before now moves = moves.0
moves_later false before now moves = omega (arith, moves)

cause_rose : {T E : Type 0} (is_devices : E → Bool) (before now : ℕ) (result : Result T E) → HasCause is_devices before now result → failed_by is_devices result ≡ true → Rose before now
cause_rose is_devices before now (Ok x) cause is = cc
cause_rose is_devices before now (Err e) cause is = moves_rose (is_devices e) before now cause is

cause_later : {T E : Type 0} (is_devices : E → Bool) (before now : ℕ) (result : Result T E) → HasCause is_devices before now result → before ≤ now
cause_later is_devices before now (Ok x) cause = omega (arith, cause)
cause_later is_devices before now (Err e) cause = moves_later (is_devices e) before now cause

-- ---- refusals

pub plain_reason : {D : Type 0} (k : Desk D) (fault : WriteFault) → IsPlain fault → HasWriteReason k fault
plain_reason k (faults.Shut n) is = absurd is
plain_reason k faults.JournalFull is = absurd is
plain_reason k fault is = tt

plain_well : {D : Type 0} (k : Desk D) (halt : Halt) → IsPlainHalt halt → HaltsWell k halt
plain_well k (halts.Refused fault) is = plain_reason k fault is
plain_well k halt is = absurd is

plain_ends : {D T : Type 0} (k : Desk D) (r : Result T Halt) → IfErr r IsPlainHalt → k.book.shut ≡ None → EndsWell k r
plain_ends k (Ok x) is unshut = unshut
plain_ends k (Err halt) is unshut = plain_well k halt is

-- ---- blocks that are joined

is_some_same : {X : Type 0} (a b : Option X) → a ≡ b → is_some b ≡ true → is_some a ≡ true
is_some_same {X = X} a b same is = subst (λ (o : Option X). is_some o ≡ true) (sym same) is

some_if : (c : Bool) (bytes : List ℕ) (o : Option (List ℕ)) → is_some o ≡ true → is_some (if c then Some bytes else o) ≡ true
some_if true bytes o is = refl
some_if false bytes o is = is

-- what is joined stays so
stays_joined : (at b : ℕ) (bytes : List ℕ) (old new : Batch) → new ≡ with_block at bytes old → is_joined old b ≡ true → is_joined new b ≡ true
stays_joined at b bytes old new put is = is_some_same (bytes_at b new) (bytes_at b (with_block at bytes old)) (ap (bytes_at b) put) (is_some_same (bytes_at b (with_block at bytes old)) _ (bytes_at_with b at bytes old) (some_if _ bytes (bytes_at b old) is))

module _ {D : Type 0} (d : Ghosts D) where
  -- a read of one block
  pub block_asked : {T E : Type 0} (is_devices : E → Bool) (result : Result T E) (old new : Desk D) → d.blocks new.store.dev ≡ d.blocks old.store.dev → HasCause is_devices (d.faults old.store.dev) (d.faults new.store.dev) result → AgreesTold new.store.cache (d.content new.store.dev)
      → new.store.geo ≡ old.store.geo → new.book ≡ old.book → new.drain ≡ old.drain → new.ino_trees ≡ old.ino_trees → IsAsked d (failed_by is_devices result) old new
  block_asked is_devices result old new sizes cause agrees geometry book drain trees = record {
    geometry = geometry;
    sizes = sizes;
    later = cause_later is_devices (d.faults old.store.dev) (d.faults new.store.dev) result cause;
    agreed = λ _. agrees;
    rose = cause_rose is_devices (d.faults old.store.dev) (d.faults new.store.dev) result cause;
    book = book;
    drain = drain;
    trees = trees;
  }

  -- a call that looks at a file
  pub looks_asked : (failed : Bool) (old new : Desk D) → Looks d failed old.store.dev new.store.dev new.store.cache → new.store.geo ≡ old.store.geo → new.book ≡ old.book → new.drain ≡ old.drain → new.ino_trees ≡ old.ino_trees → IsAsked d failed old new
  looks_asked failed old new look geometry book drain trees = record {
    geometry = geometry;
    sizes = look.sizes;
    later = look.later;
    agreed = λ _. look.agreed;
    rose = look.rose;
    book = book;
    drain = drain;
    trees = trees;
  }

  -- one block more is joined, and marked
  pub opens_put : (g size : ℕ) (mid : Batch) (old new : Store D) → IsOpen d g old → new.geo ≡ old.geo → d.blocks new.dev ≡ d.blocks old.dev → size ≡ d.blocks old.dev Image → PutsOne size old.edit.txn.blocks mid → new.edit.txn.blocks ≡ mid → new.edit.group ≡ old.edit.group → AtMark new.edit → IsOpen d g new
  opens_put g size mid old new was geo sizes is puts same group marked = record {
    group = group ∙ was.group;
    marked = marked;
    joined = subst (λ (x : Geometry). is_joined new.edit.txn.blocks (device_block x g 0) ≡ true) (sym geo) (subst (λ (b : Batch). is_joined b (device_block old.geo g 0) ≡ true) (sym same) (stays_joined puts.at (device_block old.geo g 0) puts.bytes old.edit.txn.blocks mid puts.put was.joined));
    below = subst (λ (f : Region → ℕ). AreBelow (f Image) new.edit.txn.blocks) (sym sizes) (subst (λ (n : ℕ). AreBelow n new.edit.txn.blocks) is (subst (AreBelow size) (sym (same ∙ puts.put)) (below_with size puts.at puts.bytes old.edit.txn.blocks (subst (λ (n : ℕ). AreBelow n old.edit.txn.blocks) (sym is) was.below) puts.inside)));
  }

  -- ---- what a call in memory alone answers

  pub plain_after : {S T : Type 0} (old new : Desk D) (x : S) (r : Result T Halt) → Halts d old new (Ok x) → IfErr r IsPlainHalt → Halts d old new r
  plain_after old new x r h is = record { desk = h.desk; steady = h.steady; ends = plain_ends new r is h.ends }
