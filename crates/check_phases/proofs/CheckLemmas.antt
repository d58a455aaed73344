-- Parts of a check, one after the other: their events, and which of their units passed.
use Rattle.std.proofs.Common.{◌≡◌, ◌<◌, Bool, List, [], ◌∷◌, ◌++◌, length, Result, Ok, Err, OnOk, refl, sym, ◌∙◌, ap, subst, append_assoc, arith}
use Rattle.std.proofs.lemmas.List.{append-nil}
use Rattle.fs_model.specs.declared.entry.Entry.{Entry}
use Rattle.space_check.proofs.EventLemmas.{both_done, cut_off, first_stops, next_stops, none_done, not_begun, one_done, then_stops}
use Rattle.space_check.specs.Events.{Event, StopsIn, most_entries}
use Rattle.space_check.specs.Groups.{event}
use Rattle.space_check.specs.Progress.{Adds, Begins, IsOutside}
use Rattle.space_check.specs.declared.halt.Halt.{Halt}
use Rattle.space_check.specs.declared.halt.Halt.TheVariants as halts
use Rattle.check_phases.specs.Checks.{Checks, reached}
use Rattle.check_phases.specs.declared.tally.Tally.{Tally}

pub nothing_checked : {T : Type 0} (t : Tally) (done : T) → Checks [] [] t t (Ok done)
nothing_checked t done = (none_done (reached t), sym (append-nil t.passed.items))

pub then_checks : {S T : Type 0} (es fs : List Event) (ps qs : List Bool) (a b c : Tally) (done : S) (result : Result T Halt) → Checks {T = S} es ps a b (Ok done) → Checks fs qs b c result → Checks (es ++ fs) (ps ++ qs) a c result
then_checks es fs ps qs a b c done (Ok last) first second = (
  both_done es fs (reached a) (reached b) (reached c) first.0 second.0,
  second.1 ∙ ap (λ (x : List Bool). x ++ qs) first.1 ∙ append_assoc a.passed.items ps qs,
)
then_checks es fs ps qs a b c done (Err halt) first second = then_stops halt es fs (reached a) (reached b) (reached c) first.0 second

pub stops_before : (S T : Type 0) (es fs : List Event) (ps qs : List Bool) (a b : Tally) (halt : Halt) → Checks {T = S} es ps a b (Err halt) → Checks {T = T} (es ++ fs) qs a b (Err halt)
stops_before S T es fs ps qs a b halt first = first_stops halt es fs (reached a) (reached b) first

-- ---- one unit

-- the journal was full
pub full_checks : (S T : Type 0) (e : Event) (es : List Event) (ps : List Bool) (a : Tally) (halt : Halt) → Begins {T = S} a.journal.entries.items (Err halt) → Checks {T = T} (e ∷ es) ps a a (Err halt)
full_checks S T e es ps a halt full = not_begun halt e es (reached a) (reached a) full refl

-- the device failed or there was no memory, before anything was added
pub cut_checks : (T : Type 0) (entries : List Entry) (es : List Event) (ps : List Bool) (a : Tally) (halt : Halt) → length a.journal.entries.items < most_entries → IsOutside halt → Checks {T = T} (event 0 entries ∷ es) ps a a (Err halt)
cut_checks T entries es ps a halt room out = cut_off halt (event 0 entries) es (reached a) (reached a) out (record { room = room; none = refl; read = omega arith })

-- the entries of a unit were added, or there was no memory for them
pub unit_checks : {T : Type 0} (entries : List Entry) (p : Bool) (a b : Tally) (result : Result T Halt) → length a.journal.entries.items < most_entries → Adds a.journal.entries.items entries b.journal.entries.items result → OnOk result (b.passed.items ≡ a.passed.items ++ p ∷ []) → Checks (event 0 entries ∷ []) (p ∷ []) a b result
unit_checks entries p a b (Ok done) room added passed = (one_done (event 0 entries) (reached a) (reached b) room added (omega arith), passed)
unit_checks entries p a b (Err halt) room added passed =
    subst (λ (h : Halt). StopsIn h (event 0 entries ∷ []) (reached a) (reached b)) (sym added.0) (next_stops halts.Memory (event 0 entries) [] (reached a) (reached b) (record { room = room; none = added.1; read = omega arith }))

pub as_checked : {T : Type 0} (es fs : List Event) (ps qs : List Bool) (a b : Tally) (result : Result T Halt) → es ≡ fs → ps ≡ qs → Checks es ps a b result → Checks fs qs a b result
as_checked es fs ps qs a b result e p h = subst (λ (x : List Event). Checks x qs a b result) e (subst (λ (x : List Bool). Checks es x a b result) p h)
