-- Each journal of a whole check is a session's, or a front of one.
use Rattle.std.proofs.Common.{◌≡◌, ℕ, ◌-◌, ◌<◌, ◌≤◌, List, [], length, Result, Ok, Err, refl, sym, subst, arith, lit<}
use Rattle.check_phases.proofs.AddedLemmas.{any_judged, groups_begun, groups_stop, of_all, unit_cut}
use Rattle.check_phases.specs.Parts.{IsInodePart}
use Rattle.check_phases.specs.declared.tally.Tally.{Tally}
use Rattle.fs_model.specs.declared.entry.Entry.{Entry}
use Rattle.fs_model.specs.declared.unit.Unit.TheVariants as units
use Rattle.space_check.specs.Events.{most_entries}
use Rattle.space_check.specs.Progress.{IsNotFull, IsOutside}
use Rattle.space_check.specs.declared.halt.Halt.{Halt}
use Rattle.space_check.specs.declared.halt.Halt.TheVariants as halts
use Rattle.image_check.proofs.UnitsLemmas.{ends_in_units, inodes_stop, whole}
use Rattle.image_check.specs.Units.{EndsInSession, EndsInUnits, HaltsInSession, StopsInUnits}

empty_room : length {A = Entry} [] < most_entries
unfolding most_entries
empty_room = lit< tt

-- the first unit was cut off
cut_off : (n : ℕ) (t : Tally) (halt : Halt) → 1 ≤ n → t.journal.entries.items ≡ [] → IsOutside halt → StopsInUnits n halt t.journal.entries.items t.journal.entries.items
unfolding whole
cut_off n t halt some empty out =
    let room = subst (λ (j : List Entry). length j < most_entries) (sym empty) empty_room in
    let inodes = of_all {T = Unit {0}} IsInodePart (whole n) n t t (Err halt) refl refl
    (groups_stop IsInodePart 0 (any_judged units.Inode) n 0 t t t halt (omega arith) (omega (arith, some)) (groups_begun IsInodePart 0 (0 - 0) t (omega arith)) (unit_cut 0 units.Inode (Unit {0}) t halt room out)) in
    ends_in_units n {T = Unit {0}} t t (Err halt) (inodes_stop n (Unit {0}) (Unit {0}) t t halt inodes)

-- the heads ended it
pub heads_end : (n : ℕ) (t : Tally) (halt : Halt) → 1 ≤ n → t.journal.entries.items ≡ [] → IsNotFull halt → HaltsInSession n halt t.journal.entries.items
heads_end n t (halts.Head g head fault) some empty clear = empty
heads_end n t halts.Full some empty clear = absurd clear
heads_end n t halts.Failed some empty clear = subst (λ (j : List Entry). StopsInUnits n halts.Failed j t.journal.entries.items) empty (cut_off n t halts.Failed some empty tt)
heads_end n t halts.Memory some empty clear = subst (λ (j : List Entry). StopsInUnits n halts.Memory j t.journal.entries.items) empty (cut_off n t halts.Memory some empty tt)

-- the units did, or all were judged or skipped
pub units_end : {T : Type 0} (n : ℕ) (before after : List Entry) (result : Result T Halt) → before ≡ [] → EndsInUnits n before after result → EndsInSession n after result
units_end n before after result empty h = by_answer result (subst (λ (j : List Entry). EndsInUnits n j after result) empty h)
  where
    by_answer : {S : Type 0} (result : Result S Halt) → EndsInUnits n [] after result → EndsInSession n after result
    by_answer (Ok done) h = h
    by_answer (Err (halts.Head g head fault)) h = absurd h.stop.ended
    by_answer (Err halts.Full) h = h
    by_answer (Err halts.Failed) h = h
    by_answer (Err halts.Memory) h = h
