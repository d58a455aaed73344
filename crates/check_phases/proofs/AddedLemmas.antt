-- What parts of a check add, one after the other, whatever the device tells.
use Rattle.std.proofs.Common.{◌≡◌, ℕ, zero, suc, ◌+◌, ◌-◌, ◌<◌, ◌≤◌, List, [], ◌∷◌, ◌++◌, length, Result, Ok, Err, inl, inr, refl, sym, ap, subst, append_assoc, arith}
use Rattle.std.proofs.lemmas.List.{append-nil}
use Rattle.fs_state.specs.Session.{Place}
use Rattle.fs_model.specs.declared.entry.Entry.{Entry}
use Rattle.fs_model.specs.declared.unit.Unit.{Unit as ScrubUnit}
use Rattle.fs_model.specs.declared.unit.Unit.TheVariants as units
use Rattle.fs_model.specs.declared.claim.Evidence.TheVariants.{BadTree}
use Rattle.fs_model.specs.declared.verdict.Verdict.{Verdict}
use Rattle.sblock.specs.declared.kind.Kind.TheVariants.{Rmap}
use Rattle.quiet_check.specs.Entries.{entries_of}
use Rattle.quiet_check.specs.declared.judge.Judged.{Judged}
use Rattle.quiet_check.specs.declared.judge.Judged.TheVariants as judged
use Rattle.space_check.specs.Events.{Does, Event, most_entries}
use Rattle.space_check.specs.Groups.{event, unit_entries, verdict_entries}
use Rattle.space_check.specs.Progress.{Adds, Begins, IsOutside}
use Rattle.space_check.specs.Session.{come_to}
use Rattle.space_check.specs.declared.halt.Halt.{Halt}
use Rattle.space_check.specs.declared.journal.Journal.{Journal}
use Rattle.space_check.proofs.EventLemmas.{cut_off, first_stops, none_done, not_begun, one_event, then_does}
use Rattle.check_phases.specs.Checks.{reached}
use Rattle.check_phases.specs.Parts.{AddsGroups, AddsPart, AddsParts, AreGivenUp, AreParts, AreSkipped, HaveVerdict, IsJudgedEvent, IsJudgedPart, IsSpacePart, gave_up_event}
use Rattle.check_phases.specs.declared.part.Part.{Part}
use Rattle.check_phases.specs.declared.tally.Tally.{Tally}

-- ---- what is added, and what ends the check before it is

pub one_added : {T : Type 0} (Are : List Event → Type 0) (entries : List Entry) (before after : Tally) (result : Result T Halt) → Are (event 0 entries ∷ []) → length before.journal.entries.items < most_entries → Adds before.journal.entries.items entries after.journal.entries.items result → AddsPart Are before after result
one_added Are entries before after result are room added = record { events = event 0 entries ∷ []; are = are; added = one_event (event 0 entries) (reached before) (reached after) result room added refl }

pub none_cut : (T : Type 0) (Are : List Event → Type 0) (entries : List Entry) (rest : List Event) (t : Tally) (halt : Halt) → Are (event 0 entries ∷ rest) → length t.journal.entries.items < most_entries → IsOutside halt → AddsPart {T = T} Are t t (Err halt)
none_cut T Are entries rest t halt are room out = record {
  events = event 0 entries ∷ rest;
  are = are;
  added = cut_off halt (event 0 entries) rest (reached t) (reached t) out (record { room = room; none = refl; read = omega arith });
}

pub none_full : (S T : Type 0) (Are : List Event → Type 0) (entries : List Entry) (rest : List Event) (t : Tally) (halt : Halt) → Are (event 0 entries ∷ rest) → Begins {T = S} t.journal.entries.items (Err halt) → AddsPart {T = T} Are t t (Err halt)
none_full S T Are entries rest t halt are full = record {
  events = event 0 entries ∷ rest;
  are = are;
  added = not_begun halt (event 0 entries) rest (reached t) (reached t) full refl;
}

pub then_added : {S T : Type 0} (P Q R : List Event → Type 0) (a b c : Tally) (done : S) (result : Result T Halt) → ((es fs : List Event) → P es → Q fs → R (es ++ fs)) → AddsPart {T = S} P a b (Ok done) → AddsPart Q b c result → AddsPart R a c result
then_added P Q R a b c done result both first second = record {
  events = first.events ++ second.events;
  are = both first.events second.events first.are second.are;
  added = then_does first.events second.events (reached a) (reached b) (reached c) result first.added second.added;
}

-- the first of these and of those behind them were added
pub stops_before : (S T : Type 0) (P Q : List Event → Type 0) (more : List Event) (a b : Tally) (halt : Halt) → ((es : List Event) → P es → Q (es ++ more)) → AddsPart {T = S} P a b (Err halt) → AddsPart {T = T} Q a b (Err halt)
stops_before S T P Q more a b halt before h = record {
  events = h.events ++ more;
  are = before h.events h.are;
  added = first_stops halt h.events more (reached a) (reached b) h.added;
}

pub as_added : {T : Type 0} (P Q : List Event → Type 0) (a b : Tally) (result : Result T Halt) → ((es : List Event) → P es → Q es) → AddsPart P a b result → AddsPart Q a b result
as_added P Q a b result so h = record { events = h.events; are = so h.events h.are; added = h.added }

-- from a tally with the same journal on
pub from_same : {T : Type 0} (Are : List Event → Type 0) (a b c : Tally) (result : Result T Halt) → b.journal ≡ a.journal → AddsPart Are b c result → AddsPart Are a c result
from_same Are a b c result same h = record {
  events = h.events;
  are = h.are;
  added = subst (λ (j : Journal). Does h.events (come_to j.entries.items) (reached c) result) same h.added;
}

-- ---- one unit

pub judged_event : (g : ℕ) (unit : ScrubUnit) (j : Judged) → IsJudgedEvent g unit (event 0 (entries_of g unit j))
judged_event g unit (judged.Faults found) = inl (found.items, refl)
judged_event g unit (judged.GaveUp found) = inr (found, refl)

pub judged_part : (g : ℕ) (unit : ScrubUnit) (j : Judged) → IsJudgedPart g unit (event 0 (entries_of g unit j) ∷ [])
judged_part g unit j = (event 0 (entries_of g unit j), judged_event g unit j, refl)

-- a unit without a fault stands for one that wasn't judged any more
abbrev pub stands_for : ℕ → ScrubUnit → List Entry
stands_for g unit = unit_entries g unit []

any_part : (g : ℕ) (unit : ScrubUnit) → IsJudgedPart g unit (event 0 (stands_for g unit) ∷ [])
any_part g unit = (event 0 (stands_for g unit), inl ([], refl), refl)

module _ (g : ℕ) (unit : ScrubUnit) where
  pub unit_added : {T : Type 0} (j : Judged) (before after : Tally) (result : Result T Halt) → length before.journal.entries.items < most_entries → Adds before.journal.entries.items (entries_of g unit j) after.journal.entries.items result → AddsPart (IsJudgedPart g unit) before after result
  unit_added j before after result room added = one_added (IsJudgedPart g unit) (entries_of g unit j) before after result (judged_part g unit j) room added

  pub unit_cut : (T : Type 0) (t : Tally) (halt : Halt) → length t.journal.entries.items < most_entries → IsOutside halt → AddsPart {T = T} (IsJudgedPart g unit) t t (Err halt)
  unit_cut T t halt room out = none_cut T (IsJudgedPart g unit) (stands_for g unit) [] t halt (any_part g unit) room out

  pub unit_full : (S T : Type 0) (t : Tally) (halt : Halt) → Begins {T = S} t.journal.entries.items (Err halt) → AddsPart {T = T} (IsJudgedPart g unit) t t (Err halt)
  unit_full S T t halt full = none_full S T (IsJudgedPart g unit) (stands_for g unit) [] t halt (any_part g unit) full

-- ---- free space and reference counts of a group

module _ (g : ℕ) where
  both_judged : (es fs : List Event) → IsJudgedPart g units.Free es → IsJudgedPart g units.Refc fs → IsSpacePart g (es ++ fs)
  both_judged es fs free counts = inl (record { free = free.0; counts = counts.0; free_judged = free.1; counts_judged = counts.1; both = λ i. free.2 i ++ counts.2 i })

  any_space : IsSpacePart g (event 0 (stands_for g units.Free) ∷ event 0 (stands_for g units.Refc) ∷ [])
  any_space = both_judged (event 0 (stands_for g units.Free) ∷ []) (event 0 (stands_for g units.Refc) ∷ []) (any_part g units.Free) (any_part g units.Refc)

  pub both_added : {S T : Type 0} (a b c : Tally) (done : S) (result : Result T Halt) → AddsPart {T = S} (IsJudgedPart g units.Free) a b (Ok done) → AddsPart (IsJudgedPart g units.Refc) b c result → AddsPart (IsSpacePart g) a c result
  both_added a b c done result free counts = then_added (IsJudgedPart g units.Free) (IsJudgedPart g units.Refc) (IsSpacePart g) a b c done result both_judged free counts

  pub free_stops : (S T : Type 0) (a b : Tally) (halt : Halt) → AddsPart {T = S} (IsJudgedPart g units.Free) a b (Err halt) → AddsPart {T = T} (IsSpacePart g) a b (Err halt)
  free_stops S T a b halt h =
      stops_before S T (IsJudgedPart g units.Free) (IsSpacePart g) (event 0 (stands_for g units.Refc) ∷ []) a b halt (λ es free. both_judged es (event 0 (stands_for g units.Refc) ∷ []) free (any_part g units.Refc)) h

  pub space_cut : (T : Type 0) (t : Tally) (halt : Halt) → length t.journal.entries.items < most_entries → IsOutside halt → AddsPart {T = T} (IsSpacePart g) t t (Err halt)
  space_cut T t halt room out = none_cut T (IsSpacePart g) (stands_for g units.Free) (event 0 (stands_for g units.Refc) ∷ []) t halt any_space room out

  pub space_full : (S T : Type 0) (t : Tally) (halt : Halt) → Begins {T = S} t.journal.entries.items (Err halt) → AddsPart {T = T} (IsSpacePart g) t t (Err halt)
  space_full S T t halt full = none_full S T (IsSpacePart g) (stands_for g units.Free) (event 0 (stands_for g units.Refc) ∷ []) t halt any_space full

  -- both get one verdict

  module _ (verdict : Verdict) where
    abbrev says : ScrubUnit → List Entry
    says unit = verdict_entries g unit verdict

    abbrev IsSaid : ScrubUnit → List Event → Type 0
    IsSaid unit es = es ≡ event 0 (says unit) ∷ []

    pub verdict_added : {T : Type 0} (unit : ScrubUnit) (before after : Tally) (result : Result T Halt) → length before.journal.entries.items < most_entries → Adds before.journal.entries.items (says unit) after.journal.entries.items result → AddsPart (IsSaid unit) before after result
    verdict_added unit before after result room added = one_added (IsSaid unit) (says unit) before after result refl room added

    pub verdict_full : (S T : Type 0) (unit : ScrubUnit) (t : Tally) (halt : Halt) → Begins {T = S} t.journal.entries.items (Err halt) → AddsPart {T = T} (IsSaid unit) t t (Err halt)
    verdict_full S T unit t halt full = none_full S T (IsSaid unit) (says unit) [] t halt refl full

    pub verdicts_added : {S T : Type 0} (a b c : Tally) (done : S) (result : Result T Halt) → AddsPart {T = S} (IsSaid units.Free) a b (Ok done) → AddsPart (IsSaid units.Refc) b c result → AddsPart (HaveVerdict verdict g) a c result
    verdicts_added a b c done result free counts = then_added (IsSaid units.Free) (IsSaid units.Refc) (HaveVerdict verdict g) a b c done result (λ es fs p q. λ i. p i ++ q i) free counts

    pub verdict_stops : (S T : Type 0) (a b : Tally) (halt : Halt) → AddsPart {T = S} (IsSaid units.Free) a b (Err halt) → AddsPart {T = T} (HaveVerdict verdict g) a b (Err halt)
    verdict_stops S T a b halt h = stops_before S T (IsSaid units.Free) (HaveVerdict verdict g) (event 0 (says units.Refc) ∷ []) a b halt (λ es p. ap (λ (x : List Event). x ++ event 0 (says units.Refc) ∷ []) p) h

    pub verdicts_full : (S T : Type 0) (t : Tally) (halt : Halt) → Begins {T = S} t.journal.entries.items (Err halt) → AddsPart {T = T} (HaveVerdict verdict g) t t (Err halt)
    verdicts_full S T t halt full = none_full S T (HaveVerdict verdict g) (says units.Free) (event 0 (says units.Refc) ∷ []) t halt refl full

  pub as_skipped : {T : Type 0} (needed : Place) (a b : Tally) (result : Result T Halt) → needed ≡ (g, units.Rmap) → AddsPart (AreSkipped needed g) a b result → AddsPart (IsSpacePart g) a b result
  as_skipped needed a b result is h = as_added (AreSkipped needed g) (IsSpacePart g) a b result (λ es p. inr (subst (λ (n : Place). AreSkipped n g es) is p)) h

  pub as_given_up : {T : Type 0} (block : ℕ) (a b : Tally) (result : Result T Halt) → AddsPart (AreGivenUp block g) a b result → AddsPart (IsSpacePart g) a b result
  as_given_up block a b result h =
      let bad = BadTree Rmap block in
      as_added (AreGivenUp block g) (IsSpacePart g) a b result
      (λ es p. inl (record { free = gave_up_event g units.Free bad; counts = gave_up_event g units.Refc bad; free_judged = inr (bad, refl); counts_judged = inr (bad, refl); both = p })) h

-- ---- groups, one after the other

module _ (Are : ℕ → List Event → Type 0) where
  next_part : (n : ℕ) (es fs : List Event) → AreParts Are n es → Are n fs → AreParts Are (n + 1) (es ++ fs)
  next_part n es fs before last = let e : n + 1 ≡ suc n = omega arith in subst (λ k. AreParts Are k (es ++ fs)) (sym e) (es, fs, before, last, refl)

  -- what further groups may add behind those of the first n
  pub record Further (k n : ℕ) (events : List Event) : Type 0 where
    pub more : List Event
    pub parts : AreParts Are (n + k) (events ++ more)

  module _ (any : (i : ℕ) → (es : List Event) × Are i es) where
    pub further : (k n : ℕ) (events : List Event) → AreParts Are n events → Further k n events
    further zero n events h =
        let e : n ≡ n + 0 = omega arith in
        record { more = []; parts = subst (λ k. AreParts Are k (events ++ [])) e (subst (λ (es : List Event). AreParts Are n es) (sym (append-nil events)) h) }
    further (suc k) n events h =
        let one = (any n).0 in
        let on : Further k (n + 1) (events ++ one) = further k (n + 1) (events ++ one) (next_part n events one h (any n).1) in
        let e : (n + 1) + k ≡ n + suc k = omega arith in
        record {
          more = one ++ on.more;
          parts = subst (λ j. AreParts Are j (events ++ (one ++ on.more))) e (subst (λ (es : List Event). AreParts Are ((n + 1) + k) es) (append_assoc events one on.more) on.parts);
        }

    pub some_parts : (n : ℕ) → (es : List Event) × AreParts Are n es
    some_parts n =
        let on : Further n 0 [] = further n 0 [] refl in
        let e : 0 + n ≡ n = omega arith in
        (on.more, subst (λ k. AreParts Are k on.more) e on.parts)

-- parts of one sort are such of another
pub as_parts : (P Q : ℕ → List Event → Type 0) → ((i : ℕ) (es : List Event) → P i es → Q i es) → (n : ℕ) (es : List Event) → AreParts P n es → AreParts Q n es
as_parts P Q so zero es h = h
as_parts P Q so (suc n) es h = (h.0, h.1, as_parts P Q so n h.0 h.2, so n h.1 h.3, h.4)

module _ (Are : ℕ → List Event → Type 0) (from : ℕ) where
  abbrev Here : ℕ → List Event → Type 0
  Here i = Are (from + i)

  here : (g : ℕ) (es : List Event) → from ≤ g → Are g es → Here (g - from) es
  here g es le are = let e : g ≡ from + (g - from) = omega (arith, le) in subst (λ k. Are k es) e are

  pub groups_begun : (n : ℕ) (t : Tally) → n ≡ 0 → AddsGroups {T = Unit {0}} Are from n t t (Ok tt)
  groups_begun n t none = subst (λ k. AddsGroups {T = Unit {0}} Are from k t t (Ok tt)) (sym none) (record { events = []; are = refl; added = none_done (reached t) })

  pub groups_go_on : (g : ℕ) (before now after : Tally) → from ≤ g → AddsGroups {T = Unit {0}} Are from (g - from) before now (Ok tt) → AddsPart {T = Unit {0}} (Are g) now after (Ok tt) → AddsGroups {T = Unit {0}} Are from ((g + 1) - from) before after (Ok tt)
  groups_go_on g before now after le so one =
      let n = g - from in
      let more : n + 1 ≡ (g + 1) - from = omega (arith, le) in
      subst (λ k. AddsGroups {T = Unit {0}} Are from k before after (Ok tt)) more
      (then_added {S = Unit {0}} {T = Unit {0}} (AreParts Here n) (Are g) (AreParts Here (n + 1)) before now after tt (Ok tt) (λ es fs p q. next_part Here n es fs p (here g fs le q)) so one)

  pub groups_stop : ((i : ℕ) → (es : List Event) × Are i es) → (to g : ℕ) (before now after : Tally) (halt : Halt) → from ≤ g → g < to → AddsGroups {T = Unit {0}} Are from (g - from) before now (Ok tt) → AddsPart {T = Unit {0}} (Are g) now after (Err halt) → AddsGroups {T = Unit {0}} Are from (to - from) before after (Err halt)
  groups_stop any to g before now after halt le lt so one =
      let n = g - from in
      let m = to - (g + 1) in
      let both = then_added {S = Unit {0}} {T = Unit {0}} (AreParts Here n) (Are g) (AreParts Here (n + 1)) before now after tt (Err halt) (λ es fs p q. next_part Here n es fs p (here g fs le q)) so one in
      let on : Further Here m (n + 1) both.events = further Here (λ i. any (from + i)) m (n + 1) both.events both.are in
      let all : (n + 1) + m ≡ to - from = omega (arith, le, lt) in
      record {
        events = both.events ++ on.more;
        are = subst (λ k. AreParts Here k (both.events ++ on.more)) all on.parts;
        added = first_stops halt both.events on.more (reached before) (reached after) both.added;
      }

  pub groups_ended : (to g : ℕ) (before now : Tally) → g - from ≡ to - from → AddsGroups {T = Unit {0}} Are from (g - from) before now (Ok tt) → AddsGroups {T = Unit {0}} Are from (to - from) before now (Ok tt)
  groups_ended to g before now same so = subst (λ k. AddsGroups {T = Unit {0}} Are from k before now (Ok tt)) same so

-- those of all groups
pub of_all : {T : Type 0} (Are : ℕ → List Event → Type 0) (part : Part) (n : ℕ) (before after : Tally) (result : Result T Halt) → part.from ≡ 0 → part.to ≡ n → AddsParts Are part before after result → AddsPart (AreParts Are n) before after result
of_all Are part n before after result from to h =
    as_added (AreParts (λ i. Are (part.from + i)) (part.to - part.from)) (AreParts Are n) before after result
    (λ es p.
    let e : part.to - part.from ≡ n = omega (arith, from, to) in
    subst (λ k. AreParts Are k es) e
    (as_parts (λ i. Are (part.from + i)) Are (λ i fs q. let f : part.from + i ≡ i = omega (arith, from) in subst (λ k. Are k fs) f q) (part.to - part.from) es p)) h

pub any_judged : (unit : ScrubUnit) (g : ℕ) → (es : List Event) × IsJudgedPart g unit es
any_judged unit g = (event 0 (stands_for g unit) ∷ [], any_part g unit)

pub any_space_part : (g : ℕ) → (es : List Event) × IsSpacePart g es
any_space_part g = (event 0 (stands_for g units.Free) ∷ event 0 (stands_for g units.Refc) ∷ [], any_space g)
