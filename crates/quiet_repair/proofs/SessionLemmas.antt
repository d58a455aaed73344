-- What a turn of a session keeps.
use Rattle.std.proofs.Common.{◌≡◌, ℕ, sym, subst}
use Rattle.std.specs.Prelude.{Bool, true, false, if◌then◌else◌}
use Rattle.blk_device.specs.declared.device.Device.{Ghosts}
use Rattle.core_calls.specs.declared.answers.Answer.{Answer}
use Rattle.core_calls.specs.declared.answers.Phase.{Phase}
use Rattle.core_parts.specs.Keeps.{IsSteady}
use Rattle.core_parts.specs.Reasons.{TellsWell}
use Rattle.core_parts.specs.Safe.{IsSafe}
use Rattle.core_parts.specs.declared.parts.Parts.{Parts}
use Rattle.fsck_core.specs.Acts.{StaysShut}
use Rattle.geom.specs.declared.geometry.Geometry.{Geometry}
use Rattle.quiet_repair.proofs.InsideLemmas.{took_inside}
use Rattle.quiet_repair.proofs.StopLemmas.{stopped_on, taken_stop}
use Rattle.quiet_repair.specs.Sessions.{GoesOn, IsInside, Stands}
use Rattle.scrub_order.specs.Orders.{took_in}
use Rattle.scrub_order.specs.declared.order.Order.{Order}

taken_inside : (n : ℕ) (b : Bool) (o o' : Order) (a : Answer) (p : Phase) → o' ≡ (if b then took_in o a p else o) → IsInside n o → IsInside n o'
taken_inside n true o o' a p is i = subst (IsInside n) (sym is) (took_inside n o a p i)
taken_inside n false o o' a p is i = subst (IsInside n) (sym is) i

inside_on : (x y : Geometry) (o : Order) → y ≡ x → IsInside x.agcount o → IsInside y.agcount o
inside_on x y o is i = subst (λ (z : Geometry). IsInside z.agcount o) (sym is) i

module _ {D : Type 0} (d : Ghosts D) where
  pub asked_on : (p q : Parts D) (b : Bool) (o o' : Order) (a : Answer) (h : Phase) → Stands p.desk o → IsSafe d q → IsSteady d p.desk q.desk → StaysShut p.desk q.desk → TellsWell q.desk a → o' ≡ (if b then took_in o a h else o) → GoesOn d p q o'
  asked_on p q b o o' a h stands s steady shut told is = record {
    safe = s;
    steady = steady;
    stands = record {
      stopped = taken_stop q.desk b o o' a h is (stopped_on d p.desk q.desk o.stop steady shut stands.stopped) told;
      inside = inside_on p.desk.store.geo q.desk.store.geo o' steady.geometry (taken_inside p.desk.store.geo.agcount b o o' a h is stands.inside);
    };
  }
