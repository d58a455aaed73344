-- Events one after the other: those that were done, and the one that ended a check.
use Rattle.std.proofs.Common.{◌≡◌, ℕ, ◌+◌, ◌<◌, ◌≤◌, List, [], ◌∷◌, ◌++◌, length, Result, Ok, Err, IsErr, refl, sym, ◌∙◌, ap, subst, append_assoc, arith}
use Rattle.std.specs.Prelude.{IsErrAnd}
use Rattle.std.proofs.lemmas.List.{append-nil}
use Rattle.blk_device.specs.Causes.{HasCause, MovesOnly}
use Rattle.fs_model.specs.declared.entry.Entry.{Entry}
use Rattle.space_check.specs.Events.{Event, Moment, reads_of, entries_of, most_entries, HasRoom, AreDone, IsCutOff, EndsAt, StopsIn, Does}
use Rattle.space_check.specs.Progress.{is_failed, Adds, IsOutside}
use Rattle.space_check.specs.declared.halt.Halt.{Halt}
use Rattle.space_check.specs.declared.halt.Halt.TheVariants as halts

room_both : (journal : List Entry) (es fs : List Event) → HasRoom journal es → HasRoom (journal ++ entries_of es) fs → HasRoom journal (es ++ fs)
room_both journal [] fs h k = subst (λ (j : List Entry). HasRoom j fs) (append-nil journal) k
room_both journal (e ∷ es) fs h k =
    (h.0, room_both (journal ++ e.entries) es fs h.1 (subst (λ (j : List Entry). HasRoom j fs) (sym (append_assoc journal e.entries (entries_of es))) k))

entries_both : (es fs : List Event) → entries_of (es ++ fs) ≡ entries_of es ++ entries_of fs
entries_both [] fs = refl
entries_both (e ∷ es) fs = ap (λ (x : List Entry). e.entries ++ x) (entries_both es fs) ∙ sym (append_assoc e.entries (entries_of es) (entries_of fs))

reads_both : (es fs : List Event) → reads_of (es ++ fs) ≡ reads_of es + reads_of fs
reads_both [] fs = omega arith
reads_both (e ∷ es) fs = omega (arith, reads_both es fs)

pub none_done : (a : Moment) → AreDone [] a a
none_done a = record { room = tt; added = sym (append-nil a.journal); read = omega arith }

pub one_done : (event : Event) (a b : Moment) → length a.journal < most_entries → b.journal ≡ a.journal ++ event.entries → b.reads ≡ a.reads + event.reads → AreDone (event ∷ []) a b
one_done event a b room added read = record {
  room = (room, tt);
  added = added ∙ ap (λ (x : List Entry). a.journal ++ x) (sym (append-nil event.entries));
  read = omega (arith, read);
}

pub both_done : (es fs : List Event) (a b c : Moment) → AreDone es a b → AreDone fs b c → AreDone (es ++ fs) a c
both_done es fs a b c first second = record {
  room = room_both a.journal es fs first.room (subst (λ (j : List Entry). HasRoom j fs) first.added second.room);
  added = second.added ∙ (ap (λ (x : List Entry). x ++ entries_of fs) first.added ∙ (append_assoc a.journal (entries_of es) (entries_of fs) ∙ ap (λ (x : List Entry). a.journal ++ x) (sym (entries_both es fs))));
  read = omega (arith, first.read, second.read, reads_both es fs);
}

pub first_stops : (halt : Halt) (es fs : List Event) (a b : Moment) → StopsIn halt es a b → StopsIn halt (es ++ fs) a b
first_stops halt es fs a b s = record {
  done = s.done;
  next = s.next;
  rest = s.rest ++ fs;
  whole = ap (λ (x : List Event). x ++ fs) s.whole ∙ append_assoc s.done (s.next ∷ s.rest) fs;
  reached = s.reached;
  front = s.front;
  ended = s.ended;
}

pub then_stops : (halt : Halt) (es fs : List Event) (a b c : Moment) → AreDone es a b → StopsIn halt fs b c → StopsIn halt (es ++ fs) a c
then_stops halt es fs a b c d s = record {
  done = es ++ s.done;
  next = s.next;
  rest = s.rest;
  whole = ap (λ (x : List Event). es ++ x) s.whole ∙ sym (append_assoc es s.done (s.next ∷ s.rest));
  reached = s.reached;
  front = both_done es s.done a b s.reached d s.front;
  ended = s.ended;
}

pub then_does : {T : Type 0} (es fs : List Event) (a b c : Moment) (result : Result T Halt) → AreDone es a b → Does fs b c result → Does (es ++ fs) a c result
then_does es fs a b c (Ok done) d h = both_done es fs a b c d h
then_does es fs a b c (Err halt) d h = then_stops halt es fs a b c d h

-- ---- one event

pub next_stops : (halt : Halt) (event : Event) (rest : List Event) (a b : Moment) → EndsAt halt event a b → StopsIn halt (event ∷ rest) a b
next_stops halt event rest a b h = record { done = []; next = event; rest = rest; whole = refl; reached = a; front = none_done a; ended = h }

-- the journal was full
pub not_begun : (halt : Halt) (event : Event) (rest : List Event) (a b : Moment) → (halt ≡ halts.Full) × (most_entries ≤ length a.journal) → b ≡ a → StopsIn halt (event ∷ rest) a b
not_begun halt event rest a b full same = subst (λ (h : Halt). StopsIn h (event ∷ rest) a b) (sym full.0) (next_stops halts.Full event rest a b (full.1, same))

-- the device failed or there was no memory
pub cut_off : (halt : Halt) (event : Event) (rest : List Event) (a b : Moment) → IsOutside halt → IsCutOff event a b → StopsIn halt (event ∷ rest) a b
cut_off (halts.Head g head fault) event rest a b out cut = absurd out
cut_off halts.Full event rest a b out cut = absurd out
cut_off halts.Failed event rest a b out cut = next_stops halts.Failed event rest a b cut
cut_off halts.Memory event rest a b out cut = next_stops halts.Memory event rest a b cut

-- its blocks were read, and its entries were added or not
pub one_event : {T : Type 0} (event : Event) (a b : Moment) (result : Result T Halt) → length a.journal < most_entries → Adds a.journal event.entries b.journal result → b.reads ≡ a.reads + event.reads → Does (event ∷ []) a b result
one_event event a b (Ok done) room added read = one_done event a b room added read
one_event event a b (Err halt) room added read =
    subst (λ (h : Halt). StopsIn h (event ∷ []) a b) (sym added.0) (next_stops halts.Memory event [] a b (record { room = room; none = added.1; read = omega (arith, read) }))

-- ---- answers that `?` hands on

pub with_err : {T : Type 0} (P : Result T Halt → Type 0) (halt : Halt) (result : Result T Halt) → IsErr result × IsErrAnd result (λ e. e ≡ halt) → P (Err halt) → P result
with_err P halt (Ok done) is p = absurd is.1
with_err P halt (Err e) is p = subst (λ (h : Halt). P (Err h)) (sym is.1) p

pub err_cause : {T : Type 0} (before mid now : ℕ) (halt : Halt) (result : Result T Halt) → IsErr result × IsErrAnd result (λ e. e ≡ halt) → mid ≡ before → MovesOnly (is_failed halt) mid now → HasCause is_failed before now result
err_cause before mid now halt (Ok done) is same cause = absurd is.1
err_cause before mid now halt (Err e) is same cause =
    subst (λ (h : Halt). MovesOnly (is_failed h) before now) (sym is.1) (subst (λ (n : ℕ). MovesOnly (is_failed halt) n now) same cause)
