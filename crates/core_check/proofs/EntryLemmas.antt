-- The entries and the work of a piece, one call after the other.
use Rattle.std.proofs.Common.{◌≡◌, ◌∙◌, ℕ, ◌+◌, ◌^◌, ◌<◌, refl, sym, ap, subst, append_assoc, inl, inr}
use Rattle.std.specs.Prelude.{◌++◌, Bool, List, Result, Ok, Err, IfErr, IfOk, OnErr, OnOk, length, map}
use Rattle.std.specs.Global.{Vec}
use Rattle.core_calls.specs.declared.answers.ScrubFault.{ScrubFault}
use Rattle.core_calls.specs.declared.answers.ScrubFault.TheVariants as faults
use Rattle.core_parts.specs.Common.Entries.{HasMore, IsHalt, WantsRoom}
use Rattle.core_edit.specs.declared.heads.EditHeads.{EditHeads}
use Rattle.core_units.specs.Compared.{faults_from}
use Rattle.core_units.specs.Judging.{StaysJudged}
use Rattle.core_units.specs.declared.judging.Judging.{Judging}
use Rattle.core_parts.specs.declared.desk.Desk.{Desk}
use Rattle.core_parts.specs.declared.units.UnitState.{UnitState}
use Rattle.core_parts.specs.declared.units.Work.{Work}
use Rattle.core_parts.specs.declared.units.Work.TheVariants as works
use Rattle.core_units.specs.declared.lists.Lists.{Lists}
use Rattle.fs_model.specs.declared.entry.Entry.{Entry}
use Rattle.fs_model.specs.declared.fault.Fault.{Fault}
use Rattle.fs_model.specs.declared.unit.Unit.{Unit as ScrubUnit}
use Rattle.group_trees.specs.declared.group.GroupTrees.{GroupTrees}
use Rattle.group_trees.specs.declared.heads.GroupHeads.{GroupHeads}
use Rattle.rmap_recs.specs.declared.records.RmapRec.{RmapRec}
use Rattle.core_check.specs.Ends.{end_of}
use Rattle.core_check.specs.Entries.{Follows, GathersFor, GivesEvidence, IsGatheredBy, IsLeftByGathering, IsListed, IsNext, Stands, TellsPiece, is_end, owners_in, told_by, verdict_by, work_by}
use Rattle.core_check.specs.Told.{entry_of}
use Rattle.core_check.specs.declared.tell.Outcome.{Outcome}
use Rattle.core_check.specs.declared.work.Left.{Left}
use Rattle.core_check.specs.declared.work.Which.{Which}

-- ---- by the answer

pub on_ok : {T E P : Type 0} (r : Result T E) → P → OnOk r P
on_ok (Ok x) p = p
on_ok (Err e) p = tt

pub not_refused : {T E : Type 0} (P : Type 0) (r : Result T E) (x : T) → r ≡ Ok x → OnErr r P
not_refused P r x is = subst (λ (a : Result _ _). OnErr a P) (sym is) tt

pub ok_then : {T E P Q : Type 0} (r : Result T E) → (P → Q) → OnOk r P → OnOk r Q
ok_then (Ok x) f p = f p
ok_then (Err e) f p = tt

pub err_then : {T E P Q : Type 0} (r : Result T E) → (P → Q) → OnErr r P → OnErr r Q
err_then (Ok x) f p = tt
err_then (Err e) f p = f p

err_on : {T E : Type 0} {P : E → Type 0} (r : Result T E) (Q : E → Type 0) → ((e : E) → P e → Q e) → IfErr r P → IfErr r Q
err_on (Ok x) Q f h = tt
err_on (Err e) Q f h = f e h

-- ---- a piece of the comparison

pub next_of : {E : Type 0} (counted : Bool) (heads : EditHeads) (listed : GroupHeads) (was next : Judging) (r : Result (Vec Fault) E) → IsListed heads listed → StaysJudged was next
    → IfOk r (λ piece. faults_from counted listed was.trees was.lists was.at ≡ piece.items ++ faults_from counted listed was.trees was.lists next.at)
    → IfOk r (λ piece. was.found + length piece.items < 2 ^ 64 → next.found ≡ was.found + length piece.items) → IfOk r (λ piece. IsNext counted heads was next piece.items)
next_of counted heads listed was next (Ok piece) is stays exact found = record { listed = listed; heads = is; exact = exact; stays = stays; found = found }
next_of counted heads listed was next (Err e) is stays exact found = tt

built : Judging → ScrubUnit → GroupTrees → Lists → Vec ℕ → Vec RmapRec → Judging
built was unit trees lists chunks owners = record { unit = unit; trees = trees; lists = lists; chunks = chunks; owners = owners; at = was.at; found = was.found }

-- a comparison that is put back is the one before the piece
pub put_same : (was next : Judging) → StaysJudged was next → record next { at = was.at; found = was.found } ≡ was
unfolding built
put_same was next s =
    ap (λ (x : ScrubUnit). built was x next.trees next.lists next.chunks next.owners) s.unit
    ∙ ap (λ (x : GroupTrees). built was was.unit x next.lists next.chunks next.owners) s.trees
    ∙ ap (λ (x : Lists). built was was.unit was.trees x next.chunks next.owners) s.lists
    ∙ ap (λ (x : Vec ℕ). built was was.unit was.trees was.lists x next.owners) s.chunks
    ∙ ap (λ (x : Vec RmapRec). built was was.unit was.trees was.lists was.chunks x) s.owners

answer_by : Outcome → Result Bool ScrubFault
answer_by outcome = Ok (is_end outcome)

module _ {D : Type 0} where
  -- entries came, and then others
  pub told_more : (old mid new : Desk D) (told more : List Entry) → HasMore old mid told → HasMore mid new more → HasMore old new (told ++ more)
  told_more old mid new told more first then = then ∙ (ap (λ (es : List Entry). es ++ more) first ∙ append_assoc old.book.journal.items told more)

  pub follows_of : (which : Which) (next : Judging) (piece : List Fault) (old mid new : Desk D) (left : Left) (outcome : Outcome) → outcome ≡ end_of which.plan next.at next.found
      → mid.book.journal.items ≡ old.book.journal.items ++ map (entry_of which.group which.unit) piece → HasMore mid new (verdict_by which.group which.unit outcome)
      → left.work ≡ work_by next outcome → left.answer ≡ Ok (is_end outcome) → Follows which next piece old new left
  unfolding answer_by
  follows_of which next piece old mid new left outcome is told more work answer = record {
    entries = told_more old mid new (map (entry_of which.group which.unit) piece) (verdict_by which.group which.unit outcome) told more
        ∙ ap (λ (o : Outcome). old.book.journal.items ++ told_by which.group which.unit piece o) is;
    work = work ∙ ap (λ (o : Outcome). work_by next o) is;
    answer = answer ∙ ap answer_by is;
  }

  -- after a call that added no entry
  pub follows_after : (which : Which) (next : Judging) (piece : List Fault) (old mid new : Desk D) (left : Left) → mid.book.journal.items ≡ old.book.journal.items → Follows which next piece mid new left → Follows which next piece old new left
  follows_after which next piece old mid new left same f = record {
    entries = f.entries ∙ ap (λ (es : List Entry). es ++ told_by which.group which.unit piece (end_of which.plan next.at next.found)) same;
    work = f.work;
    answer = f.answer;
  }

  pub stands_as : (v w : Work) (old new : Desk D) (left : Left) → v ≡ w → Stands v old new left → Stands w old new left
  stands_as v w old new left is s = record { items = s.items; work = s.work ∙ is }

  -- the same of the work that was taken out of the unit and put back
  pub piece_told : (which : Which) (heads : EditHeads) (v w : Work) (old new : Desk D) (left : Left) (work : Work) → v ≡ w → work ≡ left.work → OnOk left.answer (TellsPiece which heads v old new left)
      → OnOk left.answer (TellsPiece which heads w old new (record { work = work; answer = left.answer }))
  piece_told which heads v w old new left work was now tells = ok_then left.answer (λ (t : TellsPiece which heads v old new left).
      subst (λ (x : Work). TellsPiece which heads w old new (record { work = x; answer = left.answer })) (sym now) (subst (λ (x : Work). TellsPiece which heads x old new left) was t)) tells

-- ---- the unit

pub unit_back : (u t n : UnitState) (w : Work) → t ≡ record u { work = works.Judged } → n ≡ record t { work = w } → w ≡ u.work → n ≡ u
unit_back u t n w taken put is = put ∙ (ap (λ (x : UnitState). record x { work = w }) taken ∙ ap (λ (x : Work). record u { work = x }) is)

pub unit_rest : (u t n : UnitState) (w : Work) → t ≡ record u { work = works.Judged } → n ≡ record t { work = w } → n ≡ record u { work = n.work }
unit_rest u t n w taken put = put ∙ (ap (λ (x : UnitState). record x { work = w }) taken ∙ ap (λ (x : Work). record u { work = x }) (sym (ap (λ (x : UnitState). x.work) put)))

-- ---- the gathering

pub room_gathers : (owners : List RmapRec) (fault : ScrubFault) (new : Work) → WantsRoom fault → GathersFor owners new → IsGatheredBy owners fault new
room_gathers owners faults.JournalFull new is on = inl on
room_gathers owners faults.Memory new is on = inl on
room_gathers owners fault new is on = absurd is

pub halt_gathers : (owners : List RmapRec) (fault : ScrubFault) (new : Work) → IsHalt fault → GathersFor owners new → IsGatheredBy owners fault new
halt_gathers owners (faults.Shut count) new is on = on
halt_gathers owners faults.Memory new is on = inl on
halt_gathers owners fault new is on = absurd is

pub room_judged : (owners : List RmapRec) (fault : ScrubFault) → WantsRoom fault → IsGatheredBy owners fault works.Judged
room_judged owners faults.JournalFull is = inr refl
room_judged owners faults.Memory is = inr refl
room_judged owners fault is = absurd is

pub gathered_for : (os ps : List RmapRec) (r : Result Bool ScrubFault) (w : Work) → os ≡ ps → IfErr r (λ fault. IsGatheredBy os fault w) → IfErr r (λ fault. IsGatheredBy ps fault w)
gathered_for os ps r w same by = subst (λ (xs : List RmapRec). IfErr r (λ fault. IsGatheredBy xs fault w)) same by

pub room_gives : (fault : ScrubFault) → WantsRoom fault → GivesEvidence fault
room_gives faults.JournalFull is = tt
room_gives faults.Memory is = tt
room_gives fault is = absurd is

pub halt_gives : (fault : ScrubFault) → IsHalt fault → GivesEvidence fault
halt_gives (faults.Shut count) is = tt
halt_gives faults.Memory is = tt
halt_gives fault is = absurd is

left_gathered : (old : Work) (fault : ScrubFault) (new : Work) → IsGatheredBy (owners_in old) fault new → IsLeftByGathering old fault new
left_gathered old (faults.OtherPhase phase) new by = absurd by
left_gathered old fault new by = by

-- the work was closed or gathering, by these owners
pub left_for : (old : Work) (os : List RmapRec) (r : Result Bool ScrubFault) (w : Work) → os ≡ owners_in old → IfErr r (λ fault. IsGatheredBy os fault w) → IfErr r (λ fault. IsLeftByGathering old fault w)
left_for old os r w same by = err_on r (λ fault. IsLeftByGathering old fault w) (λ fault is. left_gathered old fault w is) (gathered_for os (owners_in old) r w same by)

pub left_put : (v w : Work) (r : Result Bool ScrubFault) (now put : Work) → v ≡ w → put ≡ now → IfErr r (λ fault. IsLeftByGathering v fault now) → IfErr r (λ fault. IsLeftByGathering w fault put)
left_put v w r now put was is by = subst (λ (x : Work). IfErr r (λ fault. IsLeftByGathering w fault x)) (sym is) (subst (λ (x : Work). IfErr r (λ fault. IsLeftByGathering x fault now)) was by)
