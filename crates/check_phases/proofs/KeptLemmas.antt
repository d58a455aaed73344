-- Blocks that were read, for events one after the other.
use Rattle.std.proofs.Common.{◌≡◌, ℕ, suc, ◌+◌, ◌-◌, ◌<◌, ◌≤◌, Bool, true, List, [], ◌∷◌, ◌++◌, length, Option, Result, Ok, Err, refl, sym, ◌∙◌, ap, subst, append_assoc, arith}
use Rattle.std.specs.Prelude.{nat_lt, if◌then◌else◌}
use Rattle.std.proofs.lemmas.Bool.Decides.{nat_tests}
use Rattle.std.proofs.lemmas.List.{append-nil}
use Rattle.fs_state.specs.Session.{Place}
use Rattle.fs_model.specs.declared.entry.Entry.{Entry}
use Rattle.fs_model.specs.declared.unit.Unit.{Unit as ScrubUnit}
use Rattle.fs_state.specs.State.{State}
use Rattle.space_check.specs.Events.{Event, Moment, entries_of, most_entries, reads_of}
use Rattle.space_check.specs.Progress.{Adds}
use Rattle.space_check.specs.declared.halt.Halt.{Halt}
use Rattle.space_check.specs.declared.halt.Halt.TheVariants.{Memory}
use Rattle.check_phases.specs.Kept.{AreKept, KeepsEvents, StopsKept, begun_of, group_kept, phase_kept}
use Rattle.check_phases.specs.Phases.{Phase}
use Rattle.check_phases.proofs.PartLemmas.{last_part, next_part}

entries_both : (es fs : List Event) → entries_of (es ++ fs) ≡ entries_of es ++ entries_of fs
entries_both [] fs = refl
entries_both (e ∷ es) fs = ap (λ (x : List Entry). e.entries ++ x) (entries_both es fs) ∙ sym (append_assoc e.entries (entries_of es) (entries_of fs))

reads_both : (es fs : List Event) → reads_of (es ++ fs) ≡ reads_of es + reads_of fs
reads_both [] fs = omega arith
reads_both (e ∷ es) fs = omega (arith, reads_both es fs)

pub none_kept : (a : Moment) → AreKept [] a a
none_kept a = record { entries = sym (append-nil a.journal); read = omega arith }

added_both : (es fs : List Event) (a b c : List Entry) → b ≡ a ++ entries_of es → c ≡ b ++ entries_of fs → c ≡ a ++ entries_of (es ++ fs)
added_both es fs a b c first second =
    second ∙ ap (λ (x : List Entry). x ++ entries_of fs) first ∙ append_assoc a (entries_of es) (entries_of fs) ∙ ap (λ (x : List Entry). a ++ x) (sym (entries_both es fs))

pub both_kept : (es fs : List Event) (a b c : Moment) → AreKept es a b → AreKept fs b c → AreKept (es ++ fs) a c
both_kept es fs a b c first second = record {
  entries = added_both es fs a.journal b.journal c.journal first.entries second.entries;
  read = omega (arith, first.read, second.read, reads_both es fs);
}

begun_more : (journal : List Entry) (rest more : List Event) → begun_of journal rest ≤ begun_of journal (rest ++ more)
begun_more journal [] more = omega arith
begun_more journal (e ∷ es) more = omega arith

pub stops_early : (es fs : List Event) (a b : Moment) → StopsKept es a b → StopsKept (es ++ fs) a b
stops_early es fs a b s = record {
  done = s.done;
  rest = s.rest ++ fs;
  whole = ap (λ (x : List Event). x ++ fs) s.whole ∙ append_assoc s.done s.rest fs;
  entries = s.entries;
  read = omega (arith, s.read, begun_more b.journal s.rest fs);
}

pub then_keeps : {T : Type 0} (es fs : List Event) (a b c : Moment) (result : Result T Halt) → AreKept es a b → KeepsEvents fs b c result → KeepsEvents (es ++ fs) a c result
then_keeps es fs a b c (Ok done) first second = both_kept es fs a b c first second
then_keeps es fs a b c (Err halt) first s = record {
  done = es ++ s.done;
  rest = s.rest;
  whole = ap (λ (x : List Event). es ++ x) s.whole ∙ sym (append_assoc es s.done s.rest);
  entries = added_both es s.done a.journal b.journal c.journal first.entries s.entries;
  read = omega (arith, first.read, s.read, reads_both es s.done);
}

pub as_kept : {T : Type 0} (es fs : List Event) (a b : Moment) (result : Result T Halt) → es ≡ fs → KeepsEvents es a b result → KeepsEvents fs a b result
as_kept es fs a b result same h = subst (λ (x : List Event). KeepsEvents x a b result) same h

-- ---- one event

-- nothing was read
pub none_begun : (es : List Event) (a : Moment) → StopsKept es a a
none_begun es a = record { done = []; rest = es; whole = refl; entries = sym (append-nil a.journal); read = omega arith }

has_room : (n most : ℕ) → n < most → nat_lt n most ≡ true
has_room n most h = grind (arith, nat_tests)

pub begun_here : (journal : List Entry) (e : Event) (es : List Event) → length journal < most_entries → begun_of journal (e ∷ es) ≡ e.reads
begun_here journal e es room = ap (λ (b : Bool). if b then e.reads else 0) (has_room (length journal) most_entries room)

-- the next one had begun
pub cut_kept : (e : Event) (es : List Event) (a b : Moment) → length a.journal < most_entries → b.journal ≡ a.journal → b.reads ≤ a.reads + e.reads → StopsKept (e ∷ es) a b
cut_kept e es a b room same read =
    let here = ap (λ (j : List Entry). begun_of j (e ∷ es)) same ∙ begun_here a.journal e es room in
    record { done = []; rest = e ∷ es; whole = refl; entries = same ∙ sym (append-nil a.journal); read = omega (arith, read, here) }

-- it was done, or there was no memory for its entries
pub one_kept : {T : Type 0} (e : Event) (a b : Moment) (result : Result T Halt) → length a.journal < most_entries → Adds a.journal e.entries b.journal result → b.reads ≤ a.reads + e.reads → KeepsEvents (e ∷ []) a b result
one_kept e a b (Ok done) room added read = record { entries = added ∙ ap (λ (x : List Entry). a.journal ++ x) (sym (append-nil e.entries)); read = omega (arith, read) }
one_kept e a b (Err halt) room added read = cut_kept e [] a b room added.1 read

-- ---- groups, one after the other

module _ (most : ℕ → ScrubUnit → ℕ) (a : State) (phase : Phase) (lacks : ℕ → Option Place) where
  abbrev here : (g n : ℕ) → List Event
  here g n = phase_kept most a phase lacks g n

  pub groups_begun : (from n : ℕ) (t : Moment) → n ≡ 0 → AreKept (here from n) t t
  unfolding phase_kept
  groups_begun from n t none = subst (λ k. AreKept (phase_kept most a phase lacks from k) t t) (sym none) (none_kept t)

  pub groups_go_on : (from g : ℕ) (before now after : Moment) → from ≤ g → AreKept (here from (g - from)) before now → AreKept (group_kept most a phase lacks g) now after → AreKept (here from ((g + 1) - from)) before after
  unfolding phase_kept
  groups_go_on from g before now after le so one =
      let n = g - from in
      let at : from + n ≡ g = omega (arith, le) in
      let more : n + 1 ≡ (g + 1) - from = omega (arith, le) in
      subst (λ k. AreKept (phase_kept most a phase lacks from k) before after) more
      (subst (λ (es : List Event). AreKept es before after)
      (ap (λ h. phase_kept most a phase lacks from n ++ group_kept most a phase lacks h) (sym at) ∙ sym (last_part (group_kept most a phase lacks) from n))
      (both_kept (phase_kept most a phase lacks from n) (group_kept most a phase lacks g) before now after so one))

  pub groups_stop : (from to g : ℕ) (before now after : Moment) → from ≤ g → g < to → AreKept (here from (g - from)) before now → StopsKept (group_kept most a phase lacks g) now after → StopsKept (here from (to - from)) before after
  unfolding phase_kept
  groups_stop from to g before now after le lt so one =
      let n = g - from in
      let m = to - (g + 1) in
      let at : from + n ≡ g = omega (arith, le) in
      let all : n + suc m ≡ to - from = omega (arith, le, lt) in
      let es = phase_kept most a phase lacks from n in
      let fs = phase_kept most a phase lacks ((from + n) + 1) m in
      subst (λ k. StopsKept (phase_kept most a phase lacks from k) before after) all
      (subst (λ (x : List Event). StopsKept x before after)
      (ap (λ h. es ++ (group_kept most a phase lacks h ++ fs)) (sym at) ∙ sym (next_part (group_kept most a phase lacks) from n m))
      (then_keeps {T = Unit {0}} es (group_kept most a phase lacks g ++ fs) before now after (Err Memory) so (stops_early (group_kept most a phase lacks g) fs now after one)))

  pub groups_ended : (from to g : ℕ) (before now : Moment) → g - from ≡ to - from → AreKept (here from (g - from)) before now → AreKept (here from (to - from)) before now
  groups_ended from to g before now same so = subst (λ k. AreKept (here from k) before now) same so
