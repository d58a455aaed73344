-- How a repair ends.
use Rattle.std.proofs.Common.{◌≡◌, ℕ, ◌≤◌, sym, subst, arith}
use Rattle.std.specs.Global.{Vec}
use Rattle.std.specs.Prelude.{Bool, true, false, Option, Some, None}
use Rattle.blk_device.specs.Causes.{MovesOnly}
use Rattle.blk_device.specs.declared.device.Device.{Ghosts}
use Rattle.blk_device.specs.declared.device.Region.{Region}
use Rattle.core_calls.specs.declared.answers.OpenRefused.{OpenRefused}
use Rattle.core_calls.specs.declared.answers.ScrubFault.{ScrubFault}
use Rattle.core_calls.specs.declared.answers.ScrubFault.TheVariants as faults
use Rattle.core_parts.specs.Opens.Heads.{is_failed as is_failed_open}
use Rattle.core_parts.specs.Keeps.{IsSteady}
use Rattle.core_parts.specs.Safe.{IsDesk, IsSafe}
use Rattle.core_parts.specs.declared.desk.Desk.{Desk}
use Rattle.core_parts.specs.declared.parts.Parts.{Parts}
use Rattle.fs_model.specs.declared.entry.Entry.{Entry}
use Rattle.fs_state.specs.declared.plan.Plan.{Plan}
use Rattle.quiet_repair.specs.Ends.{EndsWell, HasOrder, StopsWell}
use Rattle.quiet_repair.specs.Sessions.{IsStopped}
use Rattle.quiet_repair.specs.declared.repair.Repair.{Repair}
use Rattle.repair_door.specs.Causes.{is_failed}
use Rattle.repair_door.specs.declared.no_entry.NoEntry.{NoEntry}
use Rattle.scrub_order.specs.Course.{IsInOrder}

pub stops_well : {D : Type 0} (d : Ghosts D) (k : Desk D) (stop : Option ScrubFault) → IsDesk d k → IsStopped k stop → StopsWell k.book.begun (d.faults k.store.dev) k.book.journal.items stop
stops_well d k None desk h = tt
stops_well d k (Some (faults.Busy i)) desk h = tt
stops_well d k (Some (faults.Draining g n)) desk h = tt
stops_well d k (Some (faults.UnitOpen g u)) desk h = tt
stops_well d k (Some (faults.Skipped g u)) desk h = tt
stops_well d k (Some (faults.GaveUp r)) desk h = tt
stops_well d k (Some (faults.OtherPhase p)) desk h = tt
stops_well d k (Some faults.JournalFull) desk h = h
stops_well d k (Some (faults.Shut n)) desk h = desk.cause n h
stops_well d k (Some faults.Memory) desk h = tt

pub same_cause : (refused : OpenRefused) (why : NoEntry) (before now : ℕ) → is_failed why ≡ is_failed_open refused → MovesOnly (is_failed_open refused) before now → MovesOnly (is_failed why) before now
same_cause refused why before now is moves = subst (λ b. MovesOnly b before now) (sym is) moves

pub parts_end : {D : Type 0} (d : Ghosts D) (p q : Parts D) (dev : D) (journal : Vec Entry) (stop : Option ScrubFault) → IsSafe d q → IsSteady d p.desk q.desk → IsStopped q.desk stop → dev ≡ q.desk.store.dev → journal ≡ q.desk.book.journal
    → StopsWell p.desk.book.begun (d.faults dev) journal.items stop
parts_end {D} d p q dev journal stop s steady h is all =
    let here : StopsWell q.desk.book.begun (d.faults q.desk.store.dev) q.desk.book.journal.items stop = stops_well d q.desk stop s.desk h in
    let told : StopsWell q.desk.book.begun (d.faults q.desk.store.dev) journal.items stop = subst (λ (v : Vec Entry). StopsWell q.desk.book.begun (d.faults q.desk.store.dev) v.items stop) (sym all) here in
    let back : StopsWell q.desk.book.begun (d.faults dev) journal.items stop = subst (λ (x : D). StopsWell q.desk.book.begun (d.faults x) journal.items stop) (sym is) told in
    subst (λ (b : ℕ). StopsWell b (d.faults dev) journal.items stop) steady.begun back

-- in the order that the session kept
pub parts_order : {D : Type 0} (p : Parts D) (plan : Plan) (turns : ℕ) (journal : Vec Entry) (stop : Option ScrubFault) → IsInOrder p.desk.store.geo.agcount plan turns stop p.desk.book.journal.items → journal ≡ p.desk.book.journal
    → HasOrder plan turns stop journal.items
parts_order p plan turns journal stop order all = record {
  groups = p.desk.store.geo.agcount;
  some = p.desk.store.geo.fitting.some_groups;
  order = subst (λ (v : Vec Entry). IsInOrder p.desk.store.geo.agcount plan turns stop v.items) (sym all) order;
}

pub ends_on : (before begun now : ℕ) (r : Repair) → begun ≡ before → EndsWell begun now r → EndsWell before now r
ends_on before begun now r is h = subst (λ (b : ℕ). EndsWell b now r) is h

pub moves_later : (failed : Bool) (before now : ℕ) → MovesOnly failed before now → before ≤ now
moves_later true before now moves = moves.0
moves_later false before now moves = omega (arith, moves)

pub room_on : (old new : Region → ℕ) (n : ℕ) (r : Region) → new ≡ old → n ≤ old r → n ≤ new r
room_on old new n r is h = subst (λ (f : Region → ℕ). n ≤ f r) (sym is) h
