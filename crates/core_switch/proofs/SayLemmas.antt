-- The entries of the events of a rebuild's end, one after the other.
use Rattle.std.proofs.Common.{◌≡◌, ◌∙◌, ℕ, Bool, true, false, refl, ap, inl, inr}
use Rattle.std.specs.Prelude.{◌∷◌, [], List, Some, None, Result, Ok, Err, OnErr, OnOk}
use Rattle.block_reap.specs.Limbo.{next_of}
use Rattle.block_reap.specs.declared.runs.LimboRun.{LimboRun}
use Rattle.core_calls.specs.declared.answers.ScrubFault.{ScrubFault}
use Rattle.core_parts.proofs.common.EntryLemmas.{more_after, none_more}
use Rattle.core_parts.specs.Common.Entries.{HasMore}
use Rattle.core_parts.specs.Common.Kinds.{is_good, with_trust}
use Rattle.core_parts.specs.Common.Marks.{sick_by}
use Rattle.core_parts.specs.declared.desk.Desk.{Desk}
use Rattle.core_parts.specs.declared.groups.GroupKept.{GroupKept}
use Rattle.core_parts.specs.declared.groups.Trusts.{Trusts}
use Rattle.core_switch.specs.Says.{IsIdle, MarksRmap, ReapsRun, SaysBy, SaysReaped, SaysReaping, SaysRun, reaped_of}
use Rattle.fs_model.specs.declared.entry.Entry.{Entry}
use Rattle.fs_model.specs.declared.entry.Entry.TheVariants as entries
use Rattle.fs_model.specs.declared.fault.Cause.{Cause}
use Rattle.fs_model.specs.declared.unit.Trust.TheVariants.{Sick}
use Rattle.sblock.specs.declared.kind.Kind.TheVariants.{Rmap}

module _ {D : Type 0} where
  -- ---- what is said of a run, where a call before added none

  reaps_after : (old mid new : Desk D) (g : ℕ) (run : LimboRun) (p q : GroupKept) → mid.book.journal.items ≡ old.book.journal.items → ReapsRun g run p q mid new → ReapsRun g run p q old new
  reaps_after old mid new g run p q same r = record { left = r.left; entries = more_after old mid new (reaped_of g run r.left) same r.entries; trust = r.trust }

  marks_after : (old mid new : Desk D) (g : ℕ) (answer : Bool) (p q : GroupKept) → mid.book.journal.items ≡ old.book.journal.items → MarksRmap g answer p q mid new → MarksRmap g answer p q old new
  marks_after old mid new g answer p q same m = record { cause = m.cause; entries = more_after old mid new (entries.Marked g Rmap m.cause ∷ []) same m.entries; trust = m.trust; limbo = m.limbo; told = m.told }

  pub run_after : (old mid new : Desk D) (g : ℕ) (run : LimboRun) (p q : GroupKept) (result : Result Bool ScrubFault) → mid.book.journal.items ≡ old.book.journal.items → SaysRun g run p q mid new result → SaysRun g run p q old new result
  run_after old mid new g run p q (Ok answer) same (inl r) = inl (reaps_after old mid new g run p q same r)
  run_after old mid new g run p q (Ok answer) same (inr m) = inr (marks_after old mid new g answer p q same m)
  run_after old mid new g run p q (Err fault) same says = says ∙ same

  -- of the group as it was kept before, which knew the same of its btrees
  pub reaped_says : (old mid new : Desk D) (g : ℕ) (run : LimboRun) (p was q : GroupKept) → mid.book.journal.items ≡ old.book.journal.items → was.trust ≡ p.trust → ReapsRun g run was q mid new → ReapsRun g run p q old new
  reaped_says old mid new g run p was q same trust r = record {
    left = r.left;
    entries = more_after old mid new (reaped_of g run r.left) same r.entries;
    trust = r.trust ∙ ap (λ (t : Trusts). sick_by r.left t) trust;
  }

  pub reaped_by : (old new : Desk D) (g : ℕ) (run : LimboRun) (p was q : GroupKept) (result : Result Bool ScrubFault) → was.trust ≡ p.trust → SaysReaped g run was q old new result → SaysReaped g run p q old new result
  reaped_by old new g run p was q (Ok answer) trust r = reaped_says old old new g run p was q refl trust r
  reaped_by old new g run p was q (Err fault) trust says = says

  pub run_reaped : (old mid new : Desk D) (g : ℕ) (run : LimboRun) (p q : GroupKept) (result : Result Bool ScrubFault) → mid.book.journal.items ≡ old.book.journal.items → SaysReaped g run p q mid new result → SaysRun g run p q old new result
  run_reaped old mid new g run p q (Ok answer) same r = inl (reaps_after old mid new g run p q same r)
  run_reaped old mid new g run p q (Err fault) same says = says ∙ same

  pub met_says : (old new : Desk D) (g : ℕ) (run : LimboRun) (cause : Cause) (p q : GroupKept) → HasMore old new (entries.Marked g Rmap cause ∷ []) → q.trust ≡ with_trust p.trust Rmap Sick → q.limbo ≡ p.limbo → SaysRun g run p q old new (Ok true)
  met_says old new g run cause p q more trust limbo = inr (record { cause = cause; entries = more; trust = trust; limbo = limbo; told = refl })

  -- ---- and of a piece

  pub idle_says : (p : GroupKept) (k : Desk D) (g : ℕ) → IsIdle p → SaysReaping g p p k k (Ok true)
  idle_says p k g idle = inl (record { idle = idle; told = refl; entries = none_more k k refl; kept = refl })

  pub run_says : (old new : Desk D) (g : ℕ) (run : LimboRun) (p q : GroupKept) (result : Result Bool ScrubFault) → is_good p.trust.rmap ≡ true → next_of p.limbo.items ≡ Some run → SaysRun g run p q old new result → SaysReaping g p q old new result
  run_says old new g run p q (Ok answer) good next says = inr (run, (record { good = good; next = next }, says))
  run_says old new g run p q (Err fault) good next says = says

  -- ---- a reserve that is released

  pub released_says : {T : Type 0} (old mid after new : Desk D) (es : List Entry) (had_room : Bool) (result : Result T ScrubFault) → mid.book.journal.items ≡ old.book.journal.items → (had_room ≡ true → HasMore mid after es) → (had_room ≡ false → after.book.journal.items ≡ mid.book.journal.items) → new.book.journal.items ≡ after.book.journal.items → OnOk result (had_room ≡ true) → OnErr result (had_room ≡ false) → SaysBy es old new result
  released_says old mid after new es had_room (Ok x) synced said unsaid gate room lack = gate ∙ more_after old mid after es synced (said room)
  released_says old mid after new es had_room (Err fault) synced said unsaid gate room lack = gate ∙ (unsaid lack ∙ synced)
