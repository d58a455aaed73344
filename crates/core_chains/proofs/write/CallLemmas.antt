-- What the calls of the events leave of the desk.
use Rattle.std.proofs.Common.{◌≡◌, ◌∙◌, ℕ, Bool, true, false, refl, sym, subst, arith, append-nil}
use Rattle.std.specs.Prelude.{[], Option, None, Some, Result, Ok, Err, OnOk}
use Rattle.blk_device.specs.declared.device.Region.{Region}
use Rattle.blk_device.specs.declared.device.Device.{Ghosts}
use Rattle.blk_device.specs.declared.device.Region.TheVariants.{Image}
use Rattle.core_calls.specs.declared.answers.WriteFault.{WriteFault}
use Rattle.core_parts.proofs.common.AskLemmas.{asked_steady, asked_usable, steady_on}
use Rattle.core_parts.specs.Common.Asks.{IsUsable}
use Rattle.core_edit.proofs.RunLemmas.{back_marked, grows_self}
use Rattle.core_edit.specs.One.{SameMark}
use Rattle.core_edit.specs.Open.{IsBack, IsOpened, LiesBelow}
use Rattle.core_edit.specs.declared.heads.EditHeads.{EditHeads}
use Rattle.core_edit.specs.declared.open.OpenEdit.{OpenEdit}
use Rattle.core_parts.specs.Keeps.{IsAsked, IsSteady}
use Rattle.core_parts.specs.Safe.{IsDesk}
use Rattle.core_parts.specs.declared.desk.Desk.{Desk}
use Rattle.core_edit.specs.Ready.{HasRoom}
use Rattle.core_edit.specs.declared.store.Store.{Store}
use Rattle.core_chains.specs.Write.Writes.{HasWriteReason, WriteAnswers}
use Rattle.geom.specs.Places.{device_block, layout}
use Rattle.geom.specs.declared.geometry.Geometry.{Geometry}
use Rattle.join_blocks.specs.Joins.{is_joined}
use Rattle.meta_txn.specs.Joined.{AreBelow}
use Rattle.redo_area.specs.Area.{Batch}
use Rattle.core_edit.specs.Opened.{IsOpen}

module _ {D : Type 0} (d : Ghosts D) where
  pub asked_answers : {T : Type 0} (old new : Desk D) (answer : T) → IsAsked d false old new → IsUsable d old → WriteAnswers {D = D} {T = T} d old new (Ok answer)
  asked_answers old new answer a u =
      let usable = asked_usable d old new a u in
      record { desk = usable.desk; steady = asked_steady d false old new a; reason = tt; unshut = usable.unshut }

  pub stopped_answers : {T : Type 0} (failed : Bool) (old mid new : Desk D) (fault : WriteFault) → IsAsked d failed old mid → IsDesk d new → IsSteady d mid new → HasWriteReason new fault → WriteAnswers {D = D} {T = T} d old new (Err fault)
  stopped_answers failed old mid new fault a desk steady reason =
      record { desk = desk; steady = steady_on d old mid new (asked_steady d failed old mid a) steady; reason = reason; unshut = tt }

  -- ---- the open edit goes back

  -- another edit of the same device
  pub back_usable : (k : Desk D) (edit : OpenEdit) → IsUsable d k → IsUsable d (record k { store = record k.store { edit = edit } })
  back_usable k edit u = record {
    desk = record {
      room = record { image = u.desk.room.image; redo = u.desk.room.redo };
      agreed = u.desk.agreed;
      later = u.desk.later;
      cause = u.desk.cause;
      gates = u.desk.gates;
      trees = u.desk.trees;
    };
    unshut = u.unshut;
  }

  pub back_steady : (k : Desk D) (edit : OpenEdit) → IsSteady d k (record k { store = record k.store { edit = edit } })
  back_steady k edit = record { geometry = refl; sizes = refl; later = omega arith; begun = refl; added = []; journal = sym (append-nil k.book.journal.items) }

  self_mark : (e : OpenEdit) → SameMark e e
  self_mark e = record { group = refl; heads = refl; joined = refl; lens = refl }

  -- where nothing was edited since the mark, all is as it was
  pub back_open : (g : ℕ) (s : Store D) (edit : OpenEdit) → IsOpen d g s → IsBack s.edit edit → IsOpen d g (record s { edit = edit })
  back_open g s edit o back =
      let same = back.joined ∙ o.marked.joined in
      record {
        group = back.group ∙ o.group;
        marked = back_marked s.edit s.edit edit o.marked (self_mark s.edit) (grows_self s.edit.freed) back;
        joined = subst (λ (b : Batch). is_joined b (device_block s.geo g 0) ≡ true) (sym same) o.joined;
        below = subst (AreBelow (d.blocks s.dev Image)) (sym same) o.below;
      }

  -- ---- an edit as it begins

  pub begins_at : {T E : Type 0} (result : Result T E) (g : ℕ) (heads : EditHeads) (inode : Option ℕ) (old new : Store D) → new.geo ≡ old.geo → d.blocks new.dev ≡ d.blocks old.dev → OnOk result (IsOpened (layout old.geo) (d.content old.dev) g heads inode new.edit) → OnOk result (is_joined new.edit.txn.blocks (device_block old.geo g 0) ≡ true)
      → OnOk result (AreBelow (d.blocks old.dev Image) new.edit.txn.blocks) → OnOk result (IsOpen d g new)
  begins_at (Ok x) g heads inode old new geo sizes o joined below = record {
    group = o.group;
    marked = o.marked;
    joined = subst (λ (y : Geometry). is_joined new.edit.txn.blocks (device_block y g 0) ≡ true) (sym geo) joined;
    below = subst (λ (f : Region → ℕ). AreBelow (f Image) new.edit.txn.blocks) (sym sizes) below;
  }
  begins_at (Err e) g heads inode old new geo sizes o joined below = tt

  -- an inode's block lies on the device where it lies in the image
  pub lies_on : (s : Store D) (inode : Option ℕ) → HasRoom d s → LiesBelow s.geo.dblocks inode → LiesBelow (d.blocks s.dev Image) inode
  lies_on s None room lies = lies
  lies_on s (Some n) room lies = omega (arith, lies, room.image)
