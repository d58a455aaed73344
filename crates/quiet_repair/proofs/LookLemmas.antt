-- What a look at all forks leaves of a session.
use Rattle.std.proofs.Common.{◌≡◌, ℕ, ◌<◌, refl, sym, ap, subst}
use Rattle.std.specs.Global.{Vec}
use Rattle.std.specs.Prelude.{List, [], Option}
use Rattle.blk_device.specs.declared.device.Device.{Ghosts}
use Rattle.core_parts.proofs.common.AskLemmas.{steady_on}
use Rattle.core_parts.specs.declared.groups.GroupKept.{GroupKept}
use Rattle.core_parts.specs.declared.parts.Parts.{Parts}
use Rattle.core_parts.specs.declared.units.UnitState.{UnitState}
use Rattle.fs_model.specs.declared.entry.Entry.{Entry}
use Rattle.fs_state.specs.declared.plan.Plan.{Plan}
use Rattle.geom.specs.declared.geometry.Geometry.{Geometry}
use Rattle.quiet_repair.proofs.StopLemmas.{stopped_on}
use Rattle.quiet_repair.specs.Courses.{HasOpen, OnCourse}
use Rattle.quiet_repair.specs.Forks.{LeavesParts}
use Rattle.quiet_repair.specs.Sessions.{GoesOn, IsInside, Stands}
use Rattle.scrub_order.specs.Course.{Course}
use Rattle.scrub_order.specs.Laws.{behind}
use Rattle.scrub_order.specs.declared.order.Order.{Order}
use Rattle.unit_trust.specs.Trusts.{Agrees}

module _ {D : Type 0} (d : Ghosts D) where
  pub stands_looked : (p q : Parts D) (o : Order) → LeavesParts d p q → Stands p.desk o → Stands q.desk o
  stands_looked p q o left stands = record {
    stopped = stopped_on d p.desk q.desk o.stop left.steady left.shut stands.stopped;
    inside = subst (λ (x : Geometry). IsInside x.agcount o) (sym left.steady.geometry) stands.inside;
  }

  pub course_looked : (p q : Parts D) (plan : Plan) (turns : ℕ) (o : Order) → LeavesParts d p q → OnCourse plan turns p o → OnCourse plan turns q o
  course_looked p q plan turns o left on = record {
    course = subst (λ (x : Geometry). Course x.agcount plan turns q.desk.book.journal.items o) (sym left.steady.geometry)
        (subst (λ (es : List Entry). Course p.desk.store.geo.agcount plan turns es o) (sym left.items) on.course);
    at_work = λ work. subst (λ (us : Vec (Option UnitState)). HasOpen o.group o.unit plan turns us.items) (sym left.units) (on.at_work work);
    agrees = λ goes. subst (λ (es : List Entry). Agrees (behind [] es) q.groups.items) (sym left.items) (subst (λ (ks : Vec GroupKept). Agrees (behind [] p.desk.book.journal.items) ks.items) (sym left.groups) (on.agrees goes));
  }

  pub goes_looked : (p q r : Parts D) (o : Order) → LeavesParts d p q → GoesOn d q r o → GoesOn d p r o
  goes_looked p q r o left goes = record { safe = goes.safe; steady = steady_on d p.desk q.desk r.desk left.steady goes.steady; stands = goes.stands }
