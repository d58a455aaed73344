-- What the calls of an event keep of the desk, one after the other.
use Rattle.std.specs.Prelude.{◌≡◌, ◌+◌, ◌++◌, ◌∷◌, [], Bool, true, false, None, Result, OnOk}
use Rattle.std.specs.Vec.{vec_capacity, vec_len}
use Rattle.blk_device.specs.declared.device.Device.{Ghosts}
use Rattle.core_calls.specs.declared.answers.ScrubFault.{ScrubFault}
use Rattle.core_parts.specs.Keeps.{IsShaken, IsSteady}
use Rattle.core_parts.specs.Reasons.{AnswersWell}
use Rattle.core_parts.specs.Safe.{IsDesk}
use Rattle.core_parts.specs.declared.desk.Desk.{Desk}
use Rattle.fs_model.specs.declared.entry.Entry.{Entry}

-- no fault of the device was noted, so an event may go on
pub record IsUsable {D : Type 0} (d : Ghosts D) (k : Desk D) : Type 0 where
  pub desk : IsDesk d k
  pub unshut : k.book.shut ≡ None

-- a call stopped: by the device, which is to be noted, or for another cause
abbrev pub IsStopped : {D : Type 0} → Ghosts D → Bool → Desk D → Type 0
IsStopped d true k = IsShaken d k
IsStopped d false k = IsUsable d k

-- What a call of an event leaves: a desk that is safe, with the geometry, the sizes and a journal that grew; a refusal
-- has its reason, and without one the event may go on.
pub record Answers {D T : Type 0} (d : Ghosts D) (old new : Desk D) (answer : Result T ScrubFault) : Type 0 where
  pub desk : IsDesk d new
  pub steady : IsSteady d old new
  pub reason : AnswersWell new answer
  pub unshut : OnOk answer (new.book.shut ≡ None)

-- all is as it was, but for the room of the journal
pub record IsSame {D : Type 0} (old new : Desk D) : Type 0 where
  pub store : new.store ≡ old.store
  pub items : new.book.journal.items ≡ old.book.journal.items
  pub begun : new.book.begun ≡ old.book.begun
  pub shut : new.book.shut ≡ old.book.shut
  pub drain : new.drain ≡ old.drain
  pub trees : new.ino_trees ≡ old.ino_trees

-- this entry came, in room that was there
pub record Adds {D : Type 0} (entry : Entry) (old new : Desk D) : Type 0 where
  pub store : new.store ≡ old.store
  pub items : new.book.journal.items ≡ old.book.journal.items ++ entry ∷ []
  pub begun : new.book.begun ≡ old.book.begun
  pub shut : new.book.shut ≡ old.book.shut
  pub drain : new.drain ≡ old.drain
  pub trees : new.ino_trees ≡ old.ino_trees
  pub capacity : vec_capacity new.book.journal ≡ vec_capacity old.book.journal
  pub longer : vec_len new.book.journal ≡ vec_len old.book.journal + 1
