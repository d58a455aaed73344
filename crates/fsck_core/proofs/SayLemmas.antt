-- The entries of an event, from the unit's own call to what was asked.
use Rattle.std.proofs.Common.{◌≡◌, ◌∙◌, ℕ, zero, suc, Bool, refl, sym, ap, subst, inl, inr}
use Rattle.std.specs.Prelude.{List, [], ◌∷◌, Option, Some, None, Result, Ok, Err, IfErr, IsErr, IsErrAnd, slice_set}
use Rattle.std.specs.Global.{Vec}
use Rattle.core_calls.specs.declared.answers.Answer.{Answer}
use Rattle.core_calls.specs.declared.answers.Answer.TheVariants.{Scrub}
use Rattle.core_calls.specs.declared.answers.Moved.{Moved}
use Rattle.core_calls.specs.declared.answers.Moved.TheVariants.{At, End}
use Rattle.core_calls.specs.declared.answers.ScrubFault.{ScrubFault}
use Rattle.core_calls.specs.declared.asks.Ask.{Ask}
use Rattle.core_calls.specs.declared.asks.Ask.TheVariants as asks
use Rattle.core_parts.proofs.common.EntryLemmas.{with_err}
use Rattle.core_parts.specs.Common.Entries.{HasMore, entries_of}
use Rattle.core_parts.specs.declared.desk.Desk.{Desk}
use Rattle.core_parts.specs.declared.groups.GroupKept.{GroupKept}
use Rattle.core_parts.specs.declared.parts.Parts.{Parts}
use Rattle.core_parts.specs.declared.units.UnitState.{UnitState}
use Rattle.fs_state.specs.declared.plan.Plan.{Plan}
use Rattle.fs_model.specs.declared.unit.Unit.{Unit as ScrubUnit}
use Rattle.fsck_core.proofs.Places.{none_some}
use Rattle.fsck_core.specs.Entries.{IsDoneBy, IsOut, IsSetBack, Says, SaysAmong, SaysIn, SaysOpen, SaysReleased, SaysReopened, entries_told}
use Rattle.fsck_core.specs.Moves.{StaysKnown}
use Rattle.fsck_core.specs.Replies.{reply_asked}
use Rattle.fsck_core.specs.Told.{told_done, told_moved, told_piece}
use Rattle.fsck_core.specs.declared.events.Event.{Event}

-- ---- places

set_again : {X : Type 0} (xs : List X) (i : ℕ) (x y : X) → slice_set (slice_set xs i x) i y ≡ slice_set xs i y
set_again [] i x y = refl
set_again (z ∷ zs) zero x y = refl
set_again (z ∷ zs) (suc i) x y = ap (λ ws. z ∷ ws) (set_again zs i x y)

pub put_in : (us : Vec (Option UnitState)) (was : List (Option UnitState)) (n m : ℕ) (u : UnitState) → us.items ≡ slice_set was n (Some u) → n ≡ m → us.items ≡ slice_set was m (Some u)
put_in us was n m u put is = subst (λ (i : ℕ). us.items ≡ slice_set was i (Some u)) is put

module _ {D : Type 0} where
  -- ---- as it is told

  moved_more : (old new : Desk D) (g : ℕ) (unit : ScrubUnit) (r : Result Moved ScrubFault) → HasMore old new (entries_of g unit r) → HasMore old new (entries_told g unit (told_moved r))
  moved_more old new g unit (Ok (At ino)) more = more
  moved_more old new g unit (Ok End) more = more
  moved_more old new g unit (Err fault) more = more

  piece_more : (old new : Desk D) (g : ℕ) (unit : ScrubUnit) (r : Result Bool ScrubFault) → HasMore old new (entries_of g unit r) → HasMore old new (entries_told g unit (told_piece r))
  piece_more old new g unit (Ok is_last) more = more
  piece_more old new g unit (Err fault) more = more

  done_more : {T : Type 0} (old new : Desk D) (g : ℕ) (unit : ScrubUnit) (r : Result T ScrubFault) → HasMore old new (entries_of g unit r) → HasMore old new (entries_told g unit (told_done r))
  done_more old new g unit (Ok nothing) more = more
  done_more old new g unit (Err fault) more = more

  pub moved_says : (old new : Desk D) (g : ℕ) (unit : ScrubUnit) (r : Result Moved ScrubFault) (a : Answer) → a ≡ told_moved r → HasMore old new (entries_of g unit r) → HasMore old new (entries_told g unit a)
  moved_says old new g unit r a is more = subst (λ (b : Answer). HasMore old new (entries_told g unit b)) (sym is) (moved_more old new g unit r more)

  pub piece_says : (old new : Desk D) (g : ℕ) (unit : ScrubUnit) (r : Result Bool ScrubFault) (a : Answer) → a ≡ told_piece r → HasMore old new (entries_of g unit r) → HasMore old new (entries_told g unit a)
  piece_says old new g unit r a is more = subst (λ (b : Answer). HasMore old new (entries_told g unit b)) (sym is) (piece_more old new g unit r more)

  pub done_says : {T : Type 0} (old new : Desk D) (g : ℕ) (unit : ScrubUnit) (r : Result T ScrubFault) (a : Answer) → a ≡ told_done r → HasMore old new (entries_of g unit r) → HasMore old new (entries_told g unit a)
  done_says old new g unit r a is more = subst (λ (b : Answer). HasMore old new (entries_told g unit b)) (sym is) (done_more old new g unit r more)

  pub in_event : (e f : Event) (u v : UnitState) (p q : GroupKept) (old new : Desk D) (a : Answer) → e ≡ f → SaysIn f u v p q old new a → SaysIn e u v p q old new a
  in_event e f u v p q old new a is says = subst (λ (x : Event). SaysIn x u v p q old new a) (sym is) says

  -- ---- among all parts

  among_on : (event : Event) (u v : UnitState) (was ks : List GroupKept) (old mid new : Desk D) (a : Answer) → mid ≡ old → SaysAmong event u v was ks mid new a → SaysAmong event u v was ks old new a
  among_on event u v was ks old mid new a is says = subst (λ (k : Desk D). SaysAmong event u v was ks k new a) is says

  among_groups : (event : Event) (u v : UnitState) (was mid : Vec GroupKept) (ks : List GroupKept) (old new : Desk D) (a : Answer) → mid ≡ was → SaysAmong event u v mid.items ks old new a → SaysAmong event u v was.items ks old new a
  among_groups event u v was mid ks old new a is says = subst (λ (w : Vec GroupKept). SaysAmong event u v w.items ks old new a) is says

  pub done_from : (g : ℕ) (event : Event) (old mid new : Parts D) (u : UnitState) (a : Answer) → IsOut g old mid u → IsDoneBy event u mid new a → SaysOpen g event old new a
  done_from g event old mid new u a out done = inr (record {
    unit = u;
    later = done.later;
    place = out.unit;
    group = out.group;
    units = put_in new.units mid.units.items u.group g done.later done.units out.group
        ∙ (ap (λ (us : List (Option UnitState)). slice_set us g (Some done.later)) out.units ∙ set_again old.units.items g None (Some done.later));
    says = among_groups event u done.later old.groups mid.groups new.groups.items old.desk new.desk a out.groups (among_on event u done.later mid.groups.items new.groups.items old.desk mid.desk new.desk a out.desk done.says);
  })

  known_on : (g : ℕ) (old mid new : Parts D) (u : UnitState) → IsOut g old mid u → StaysKnown u.group mid.groups.items new.groups.items → StaysKnown g old.groups.items new.groups.items
  known_on g old mid new u out known = subst (λ (i : ℕ). StaysKnown i old.groups.items new.groups.items) out.group (subst (λ (ks : Vec GroupKept). StaysKnown u.group ks.items new.groups.items) out.groups known)

  pub released_from : (g : ℕ) (old mid new : Parts D) (u : UnitState) (a : Answer) → IsOut g old mid u → new.units ≡ mid.units → SaysReleased u mid.desk new.desk a → StaysKnown u.group mid.groups.items new.groups.items → SaysReopened g old new a
  released_from g old mid new u a out same says known = inr (record {
    unit = u;
    place = out.unit;
    units = ap (λ (us : Vec (Option UnitState)). us.items) same ∙ out.units;
    says = subst (λ (k : Desk D). SaysReleased u k new.desk a) out.desk says;
    known = known_on g old mid new u out known;
  })

  pub back_open : (g : ℕ) (event : Event) (old new : Parts D) (fault : ScrubFault) → IsSetBack g old new fault → SaysOpen g event old new (Scrub fault)
  back_open g event old new fault back = inl (fault, refl, back)

  pub back_released : (g : ℕ) (old new : Parts D) (fault : ScrubFault) → IsSetBack g old new fault → SaysReopened g old new (Scrub fault)
  back_released g old new fault back = inl (fault, refl, back)

  pub back_exit : (g : ℕ) (old new : Parts D) (fault : ScrubFault) (r : Result UnitState ScrubFault) → IsErr r × IsErrAnd r (λ e. e ≡ fault) → IsSetBack g old new fault → IfErr r (IsSetBack g old new)
  back_exit g old new fault r is back = with_err (λ x. IfErr x (IsSetBack g old new)) fault r is back

  -- ---- as it is asked

  pub says_as : (ask is : Ask) (old new : Parts D) (a : Answer) → ask ≡ is → Says is old new a → Says ask old new a
  says_as ask is old new a same says = subst (λ (x : Ask). Says x old new a) (sym same) says

  -- a reply to a writer isn't of a repair
  pub reply_says : (ask : Ask) (to : ℕ × ℕ) (old new : Parts D) (a : Answer) → Some to ≡ reply_asked ask → Says ask old new a
  unfolding Says
  reply_says (asks.Note writer line) to old new a is = tt
  reply_says ask to old new a is = absurd (none_some to (sym is))

  -- nor is what a writer asks for
  pub writer_says : (ask : Ask) (old new : Parts D) (a : Answer) → ((g : ℕ) (unit : ScrubUnit) (plan : Plan) (turns : ℕ) → ask ≡ asks.Start g unit plan turns → ⊥)
      → ((g : ℕ) → ask ≡ asks.Advance g → ⊥) → ((g : ℕ) → ask ≡ asks.ScanPiece g → ⊥) → ((g : ℕ) → ask ≡ asks.Close g → ⊥) → ((g : ℕ) → ask ≡ asks.GatherPiece g → ⊥) → ((g : ℕ) → ask ≡ asks.ComparePiece g → ⊥)
      → ((g : ℕ) → ask ≡ asks.ReservePiece g → ⊥) → ((g : ℕ) → ask ≡ asks.StagePiece g → ⊥) → ((g : ℕ) → ask ≡ asks.Switch g → ⊥) → ((g : ℕ) → ask ≡ asks.ReapPiece g → ⊥) → ((g : ℕ) → ask ≡ asks.Reopen g → ⊥) → Says ask old new a
  unfolding Says
  writer_says (asks.Start g unit plan turns) old new a no0 no1 no2 no3 no4 no5 no6 no7 no8 no9 no10 = absurd (no0 g unit plan turns refl)
  writer_says (asks.Advance g) old new a no0 no1 no2 no3 no4 no5 no6 no7 no8 no9 no10 = absurd (no1 g refl)
  writer_says (asks.ScanPiece g) old new a no0 no1 no2 no3 no4 no5 no6 no7 no8 no9 no10 = absurd (no2 g refl)
  writer_says (asks.Close g) old new a no0 no1 no2 no3 no4 no5 no6 no7 no8 no9 no10 = absurd (no3 g refl)
  writer_says (asks.GatherPiece g) old new a no0 no1 no2 no3 no4 no5 no6 no7 no8 no9 no10 = absurd (no4 g refl)
  writer_says (asks.ComparePiece g) old new a no0 no1 no2 no3 no4 no5 no6 no7 no8 no9 no10 = absurd (no5 g refl)
  writer_says (asks.ReservePiece g) old new a no0 no1 no2 no3 no4 no5 no6 no7 no8 no9 no10 = absurd (no6 g refl)
  writer_says (asks.StagePiece g) old new a no0 no1 no2 no3 no4 no5 no6 no7 no8 no9 no10 = absurd (no7 g refl)
  writer_says (asks.Switch g) old new a no0 no1 no2 no3 no4 no5 no6 no7 no8 no9 no10 = absurd (no8 g refl)
  writer_says (asks.ReapPiece g) old new a no0 no1 no2 no3 no4 no5 no6 no7 no8 no9 no10 = absurd (no9 g refl)
  writer_says (asks.Reopen g) old new a no0 no1 no2 no3 no4 no5 no6 no7 no8 no9 no10 = absurd (no10 g refl)
  writer_says ask old new a no0 no1 no2 no3 no4 no5 no6 no7 no8 no9 no10 = tt
