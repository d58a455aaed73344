-- The entries of a piece of the reserving, one call after the other.
use Rattle.std.proofs.Common.{◌≡◌, ◌∙◌, ℕ, Bool, true, false, refl, sym, subst, ap, inl, inr}
use Rattle.std.specs.Global.{Vec}
use Rattle.std.specs.Prelude.{◌++◌, ◌∷◌, [], IfErr, IfOk, List, Result, Ok, Err, IsErr, IsErrAnd}
use Rattle.ag_headers.specs.Ring.{entries as list_entries}
use Rattle.core_build.specs.Pieces.{IfMemory, work_by}
use Rattle.core_build.specs.Says.{Does, IsBegun, IsNextBy, IsUnnoted, LeavesBlock, MayRefuse, MayRefuseBy, MayRefuseOf, SaysFrom, SaysNext, SaysPiece, SaysReserving, SaysTaken, Takes, reserved_of, space_in}
use Rattle.core_calls.specs.declared.answers.Phase.{Phase}
use Rattle.core_calls.specs.declared.answers.ScrubFault.{ScrubFault}
use Rattle.core_calls.specs.declared.answers.ScrubFault.TheVariants as faults
use Rattle.core_parts.proofs.common.EntryLemmas.{more_after, none_more, with_err}
use Rattle.core_parts.specs.Common.Entries.{HasMore, IsHalt, WantsRoom, entries_of, entries_on}
use Rattle.core_parts.specs.Common.Marks.{sick_by}
use Rattle.core_parts.specs.declared.desk.Desk.{Desk}
use Rattle.core_parts.specs.declared.groups.GroupKept.{GroupKept}
use Rattle.core_parts.specs.declared.groups.Trusts.{Trusts}
use Rattle.core_parts.specs.declared.units.Work.{Work}
use Rattle.core_parts.specs.declared.units.Work.TheVariants as works
use Rattle.core_units.specs.Rebuilt.{IsNext}
use Rattle.core_units.specs.declared.rebuild.Next.{Next}
use Rattle.core_units.specs.declared.rebuild.Next.TheVariants.{Met, GaveUp, Listed, Spare}
use Rattle.core_units.specs.declared.rebuild.Rebuild.{Rebuild}
use Rattle.core_units.specs.declared.judging.Judging.{Judging}
use Rattle.fs_model.specs.declared.entry.Entry.TheVariants as entries
use Rattle.fs_model.specs.declared.unit.Trust.{Trust}
use Rattle.fs_model.specs.declared.unit.Unit.{Unit as ScrubUnit}
use Rattle.fs_model.specs.declared.verdict.Reason.{Reason}
use Rattle.sblock.specs.declared.kind.Kind.TheVariants.{Rmap}
use Rattle.core_edit.specs.declared.place.IndexesLeft.{IndexesLeft}
use Rattle.unit_plan.specs.declared.spare.SpaceTrust.{SpaceTrust}

-- ---- what is next, by what is kept

space_of : Trust → Trust → Trust → SpaceTrust
space_of b c r = record { bno = b; cnt = c; rmap = r }

pub space_same : (s : SpaceTrust) (t : Trusts) → s.bno ≡ t.bno → s.cnt ≡ t.cnt → s.rmap ≡ t.rmap → s ≡ space_in t
unfolding space_of
space_same s t b c r =
    ap (λ (x : Trust). space_of x s.cnt s.rmap) b ∙ ap (λ (x : Trust). space_of t.bno x s.rmap) c ∙ ap (λ (x : Trust). space_of t.bno t.cnt x) r

pub next_by : (s : SpaceTrust) (xs : List ℕ) (p : GroupKept) (r : Rebuild) (next : Next) → s ≡ space_in p.trust → xs ≡ list_entries p.heads.list → IsNext s xs r.trees r.building next → IsNextBy p r next
next_by s xs p r next trust list is =
    subst (λ (ys : List ℕ). IsNext (space_in p.trust) ys r.trees r.building next) list
    (subst (λ (t : SpaceTrust). IsNext t xs r.trees r.building next) trust is)

-- ---- refusals

not_true : ◌≡◌ {A = Bool} false true → ⊥
not_true e = cc

pub memory_halts : (fault : ScrubFault) → fault ≡ faults.Memory → IsHalt fault
memory_halts fault is = subst IsHalt (sym is) tt

pub memory_may : (next : Next) (fault : ScrubFault) → fault ≡ faults.Memory → MayRefuse next fault
memory_may next fault is = subst (MayRefuse next) (sym is) tt

pub halt_may : (next : Next) (fault : ScrubFault) → IsHalt fault → MayRefuse next fault
halt_may next (faults.Shut count) is = tt
halt_may next faults.Memory is = tt
halt_may next fault is = absurd is

pub room_may : (next : Next) (fault : ScrubFault) → WantsRoom fault → MayRefuse next fault
room_may next faults.JournalFull is = tt
room_may next faults.Memory is = tt
room_may next fault is = absurd is

pub may_exit : {T : Type 0} (next : Next) (fault : ScrubFault) (r : Result T ScrubFault) → IsErr r × IsErrAnd r (λ e. e ≡ fault) → MayRefuse next fault → IfErr r (MayRefuse next)
may_exit next fault r is may = with_err (λ x. IfErr x (MayRefuse next)) fault r is may

pub memory_by : (p : GroupKept) (r : Rebuild) (fault : ScrubFault) → fault ≡ faults.Memory → MayRefuseBy p r fault
memory_by p r fault is = subst (MayRefuseBy p r) (sym is) tt

pub memory_of : (was : Work) (p : GroupKept) (fault : ScrubFault) → fault ≡ faults.Memory → MayRefuseOf was p fault
memory_of was p fault is = subst (MayRefuseOf was p) (sym is) tt

-- by what is next
next_may : (p : GroupKept) (r : Rebuild) (next : Next) (fault : ScrubFault) → IsNextBy p r next → MayRefuse next fault → MayRefuseBy p r fault
next_may p r next (faults.GaveUp reason) chosen is = subst (IsNextBy p r) is chosen
next_may p r next fault chosen is = is

-- of the unit's work
by_work : (was : Work) (p : GroupKept) (r : Rebuild) (fault : ScrubFault) → IsBegun was r → MayRefuseBy p r fault → MayRefuseOf was p fault
by_work was p r (faults.GaveUp reason) begun may = (r, begun, may)
by_work was p r (faults.OtherPhase phase) begun may = tt
by_work was p r fault begun may = may

module _ {D : Type 0} where
  pub no_more : (k : Desk D) → HasMore k k []
  no_more k = none_more k k refl

  -- without memory no entry comes
  pub memory_on : (old new : Desk D) (g : ℕ) (unit : ScrubUnit) (fault : ScrubFault) → fault ≡ faults.Memory → new.book.journal.items ≡ old.book.journal.items → HasMore old new (entries_on g unit fault)
  memory_on old new g unit fault is same = none_more old new same ∙ ap (λ (f : ScrubFault). old.book.journal.items ++ entries_on g unit f) (sym is)

  -- ---- a refusal that `?` hands on

  pub taken_exit : (g : ℕ) (unit : ScrubUnit) (block : ℕ) (spare : Bool) (r s : Rebuild) (p q : GroupKept) (old new : Desk D) (fault : ScrubFault) (result : Result Bool ScrubFault) → IsErr result × IsErrAnd result (λ e. e ≡ fault) → IsHalt fault → HasMore old new (entries_on g unit fault) → SaysTaken g unit block spare r s p q old new result
  taken_exit g unit block spare r s p q old new fault result is halts more = with_err (λ x. SaysTaken g unit block spare r s p q old new x) fault result is (halts, more)

  pub next_exit : (g : ℕ) (unit : ScrubUnit) (next : Next) (r s : Rebuild) (p q : GroupKept) (old new : Desk D) (fault : ScrubFault) (result : Result Bool ScrubFault) → IsErr result × IsErrAnd result (λ e. e ≡ fault) → MayRefuse next fault → HasMore old new (entries_on g unit fault) → SaysNext g unit next r s p q old new result
  next_exit g unit next r s p q old new fault result is may more = with_err (λ x. SaysNext g unit next r s p q old new x) fault result is (may, more)

  pub piece_exit : (g : ℕ) (unit : ScrubUnit) (r s : Rebuild) (p q : GroupKept) (old new : Desk D) (fault : ScrubFault) (result : Result Bool ScrubFault) → IsErr result × IsErrAnd result (λ e. e ≡ fault) → MayRefuseBy p r fault → HasMore old new (entries_on g unit fault) → SaysPiece g unit r s p q old new result
  piece_exit g unit r s p q old new fault result is may more = with_err (λ x. SaysPiece g unit r s p q old new x) fault result is (may, more)

  pub reserving_exit : (g : ℕ) (unit : ScrubUnit) (was w : Work) (p q : GroupKept) (old new : Desk D) (fault : ScrubFault) (result : Result Bool ScrubFault) → IsErr result × IsErrAnd result (λ e. e ≡ fault) → MayRefuseOf was p fault → HasMore old new (entries_on g unit fault) → SaysReserving g unit was w p q old new result
  reserving_exit g unit was w p q old new fault result is may more = with_err (λ x. SaysReserving g unit was w p q old new x) fault result is (may, more)

  -- ---- a block that was edited

  pub taken_says : (g : ℕ) (unit : ScrubUnit) (block : ℕ) (spare : Bool) (left : IndexesLeft) (r s t : Rebuild) (p m q : GroupKept) (old mid new : Desk D) → mid.book.journal.items ≡ old.book.journal.items → HasMore mid new (reserved_of g unit block spare left)
      → s.building.reserve.items ≡ r.building.reserve.items ++ block ∷ [] → t.building.reserve ≡ s.building.reserve → m.trust ≡ p.trust → q.trust ≡ sick_by left m.trust → Takes g unit block spare r t p q old new
  taken_says g unit block spare left r s t p m q old mid new same more behind ready room trust = record {
    left = left;
    entries = more_after old mid new (reserved_of g unit block spare left) same more;
    behind = ap (λ (v : Vec ℕ). v.items) ready ∙ behind;
    trust = trust ∙ ap (λ (x : Trusts). sick_by left x) room;
  }

  takes_after : (g : ℕ) (unit : ScrubUnit) (block : ℕ) (spare : Bool) (r s : Rebuild) (p q : GroupKept) (old mid new : Desk D) → mid.book.journal.items ≡ old.book.journal.items → Takes g unit block spare r s p q mid new → Takes g unit block spare r s p q old new
  takes_after g unit block spare r s p q old mid new same t = record { left = t.left; entries = more_after old mid new (reserved_of g unit block spare t.left) same t.entries; behind = t.behind; trust = t.trust }

  leaves_after : (g : ℕ) (answer : Bool) (r s : Rebuild) (p q : GroupKept) (old mid new : Desk D) → mid.book.journal.items ≡ old.book.journal.items → LeavesBlock g answer r s p q mid new → LeavesBlock g answer r s p q old new
  leaves_after g answer r s p q old mid new same l = record {
    unnoted = record { cause = l.unnoted.cause; entries = more_after old mid new (entries.Marked g Rmap l.unnoted.cause ∷ []) same l.unnoted.entries; trust = l.unnoted.trust };
    told = l.told;
    reserve = l.reserve;
  }

  pub listed_next : (g : ℕ) (unit : ScrubUnit) (block : ℕ) (r s : Rebuild) (p q : GroupKept) (old mid new : Desk D) (result : Result Bool ScrubFault) → mid.book.journal.items ≡ old.book.journal.items → SaysTaken g unit block false r s p q mid new result → SaysNext g unit (Listed block) r s p q old new result
  listed_next g unit block r s p q old mid new (Ok answer) same t = takes_after g unit block false r s p q old mid new same t
  listed_next g unit block r s p q old mid new (Err fault) same t = (halt_may (Listed block) fault t.0, more_after old mid new (entries_on g unit fault) same t.1)

  pub spare_next : (g : ℕ) (unit : ScrubUnit) (block : ℕ) (r s : Rebuild) (p q : GroupKept) (old new : Desk D) (result : Result Bool ScrubFault) → SaysTaken g unit block true r s p q old new result → SaysNext g unit (Spare block) r s p q old new result
  spare_next g unit block r s p q old new (Ok answer) t = inl t
  spare_next g unit block r s p q old new (Err fault) t = (halt_may (Spare block) fault t.0, t.1)

  pub unnoted_next : (g : ℕ) (unit : ScrubUnit) (block : ℕ) (r : Rebuild) (p q : GroupKept) (old new : Desk D) (result : Result Bool ScrubFault) → result ≡ Ok false → IsUnnoted g p q old new → SaysNext g unit (Spare block) r r p q old new result
  unnoted_next g unit block r p q old new result is unnoted =
      subst (λ (x : Result Bool ScrubFault). SaysNext g unit (Spare block) r r p q old new x) (sym is) (inr (record { unnoted = unnoted; told = refl; reserve = refl }))

  -- ---- the next thing

  pub next_as : (g : ℕ) (unit : ScrubUnit) (n m : Next) (r s : Rebuild) (p q : GroupKept) (old new : Desk D) (result : Result Bool ScrubFault) → n ≡ m → SaysNext g unit m r s p q old new result → SaysNext g unit n r s p q old new result
  next_as g unit n m r s p q old new result is says = subst (λ (x : Next). SaysNext g unit x r s p q old new result) (sym is) says

  pub met_next : (g : ℕ) (unit : ScrubUnit) (r s : Rebuild) (p : GroupKept) (k : Desk D) (result : Result Bool ScrubFault) → IfMemory result → IfOk result (λ is_met. is_met ≡ true) → SaysNext g unit Met r s p p k k result
  met_next g unit r s p k (Ok answer) memory told = (told, no_more k, refl)
  met_next g unit r s p k (Err fault) memory told = (memory_may Met fault memory, memory_on k k g unit fault memory refl)

  pub gave_next : (g : ℕ) (unit : ScrubUnit) (reason : Reason) (r : Rebuild) (p : GroupKept) (old new : Desk D) (result : Result Bool ScrubFault) → IsErr result → IfErr result (MayRefuse (GaveUp reason)) → HasMore old new (entries_of g unit result) → SaysNext g unit (GaveUp reason) r r p p old new result
  gave_next g unit reason r p old new (Ok answer) never may more = not_true never
  gave_next g unit reason r p old new (Err fault) never may more = (may, more)

  pub next_after : (g : ℕ) (unit : ScrubUnit) (block : ℕ) (r s : Rebuild) (p q : GroupKept) (old mid new : Desk D) (result : Result Bool ScrubFault) → mid.book.journal.items ≡ old.book.journal.items → SaysNext g unit (Spare block) r s p q mid new result → SaysNext g unit (Spare block) r s p q old new result
  next_after g unit block r s p q old mid new (Ok answer) same (inl t) = inl (takes_after g unit block true r s p q old mid new same t)
  next_after g unit block r s p q old mid new (Ok answer) same (inr l) = inr (leaves_after g answer r s p q old mid new same l)
  next_after g unit block r s p q old mid new (Err fault) same t = (t.0, more_after old mid new (entries_on g unit fault) same t.1)

  -- ---- a piece

  takes_from : (g : ℕ) (unit : ScrubUnit) (block : ℕ) (spare : Bool) (r m s : Rebuild) (p q : GroupKept) (old new : Desk D) → m.building.reserve ≡ r.building.reserve → Takes g unit block spare m s p q old new → Takes g unit block spare r s p q old new
  takes_from g unit block spare r m s p q old new same t = record { left = t.left; entries = t.entries; behind = t.behind ∙ ap (λ (v : Vec ℕ). v.items ++ block ∷ []) same; trust = t.trust }

  does_from : (g : ℕ) (unit : ScrubUnit) (next : Next) (answer : Bool) (r m s : Rebuild) (p q : GroupKept) (old new : Desk D) → m.building.reserve ≡ r.building.reserve → Does g unit next answer m s p q old new → Does g unit next answer r s p q old new
  does_from g unit Met answer r m s p q old new same d = d
  does_from g unit (GaveUp reason) answer r m s p q old new same d = d
  does_from g unit (Listed block) answer r m s p q old new same t = takes_from g unit block false r m s p q old new same t
  does_from g unit (Spare block) answer r m s p q old new same (inl t) = inl (takes_from g unit block true r m s p q old new same t)
  does_from g unit (Spare block) answer r m s p q old new same (inr l) = inr (record { unnoted = l.unnoted; told = l.told; reserve = l.reserve ∙ ap (λ (v : Vec ℕ). v.items) same })

  pub piece_says : (g : ℕ) (unit : ScrubUnit) (next : Next) (r m s : Rebuild) (p q : GroupKept) (old new : Desk D) (result : Result Bool ScrubFault) → IsNextBy p r next → m.building.reserve ≡ r.building.reserve → SaysNext g unit next m s p q old new result → SaysPiece g unit r s p q old new result
  piece_says g unit next r m s p q old new (Ok answer) chosen same does = (next, chosen, does_from g unit next answer r m s p q old new same does)
  piece_says g unit next r m s p q old new (Err fault) chosen same t = (next_may p r next fault chosen t.0, t.1)

  -- ---- the unit's work

  pub piece_from : (g : ℕ) (unit : ScrubUnit) (r s : Rebuild) (w : Work) (p q : GroupKept) (old new : Desk D) (result : Result Bool ScrubFault) → w ≡ work_by s result → SaysPiece g unit r s p q old new result → SaysFrom g unit r w p q old new result
  piece_from g unit r s w p q old new (Ok answer) work says = record { built = s; work = work; next = says.0; chosen = says.1; does = says.2 }
  piece_from g unit r s w p q old new (Err fault) work more = more

  pub of_place : (g h : ℕ) (unit other : ScrubUnit) (r : Rebuild) (w : Work) (p q : GroupKept) (old new : Desk D) (result : Result Bool ScrubFault) → h ≡ g → other ≡ unit → SaysFrom h other r w p q old new result → SaysFrom g unit r w p q old new result
  of_place g h unit other r w p q old new result group of says =
      subst (λ (n : ℕ). SaysFrom n unit r w p q old new result) group (subst (λ (u : ScrubUnit). SaysFrom h u r w p q old new result) of says)

  pub judged_says : (g : ℕ) (unit : ScrubUnit) (judging : Judging) (r : Rebuild) (w : Work) (p q : GroupKept) (old new : Desk D) (result : Result Bool ScrubFault) → r.building.unit ≡ judging.unit → SaysFrom g unit r w p q old new result → SaysReserving g unit (works.Chosen judging) w p q old new result
  judged_says g unit judging r w p q old new (Ok answer) is says = (r, is, says)
  judged_says g unit judging r w p q old new (Err fault) is t = (by_work (works.Chosen judging) p r fault is t.0, t.1)

  building_says : (g : ℕ) (unit : ScrubUnit) (r : Rebuild) (w : Work) (p q : GroupKept) (old new : Desk D) (result : Result Bool ScrubFault) → SaysFrom g unit r w p q old new result → SaysReserving g unit (works.Building r) w p q old new result
  building_says g unit r w p q old new (Ok answer) says = (r, refl, says)
  building_says g unit r w p q old new (Err fault) t = (by_work (works.Building r) p r fault refl t.0, t.1)

  pub of_work : (g : ℕ) (unit : ScrubUnit) (was is w : Work) (p q : GroupKept) (old new : Desk D) (result : Result Bool ScrubFault) → was ≡ is → SaysReserving g unit is w p q old new result → SaysReserving g unit was w p q old new result
  of_work g unit was is w p q old new result same says = subst (λ (x : Work). SaysReserving g unit x w p q old new result) (sym same) says

  pub built_says : (g : ℕ) (unit : ScrubUnit) (was : Work) (r : Rebuild) (w : Work) (p q : GroupKept) (old new : Desk D) (result : Result Bool ScrubFault) → was ≡ works.Building r → SaysFrom g unit r w p q old new result → SaysReserving g unit was w p q old new result
  built_says g unit was r w p q old new result same says = of_work g unit was (works.Building r) w p q old new result same (building_says g unit r w p q old new result says)

  -- the event isn't one of the phase
  pub other_says : (g : ℕ) (unit : ScrubUnit) (was w : Work) (p : GroupKept) (k : Desk D) (phase : Phase) (result : Result Bool ScrubFault) → result ≡ Err (faults.OtherPhase phase) → SaysReserving g unit was w p p k k result
  other_says g unit was w p k phase result is = subst (λ (x : Result Bool ScrubFault). SaysReserving g unit was w p p k k x) (sym is) (tt, no_more k)
