-- What a turn keeps of its pass, and what several turns keep.
use Rattle.std.proofs.Common.{◌≡◌, ℕ, List, refl, sym, ap, ◌∙◌}
use Rattle.blk_device.specs.declared.device.Device.{Ghosts as DeviceGhosts}
use Rattle.core_parts.specs.Keeps.{IsSteady}
use Rattle.core_parts.specs.declared.parts.Parts.{Parts}
use Rattle.live_fs.specs.Passes.{IsPassOf, PassOn, origin_of}
use Rattle.live_fs.specs.declared.origin.Origin.{Origin}
use Rattle.turn_lock.proofs.Actors.{actors_kept}
use Rattle.turn_lock.proofs.Sets.{begins_same, begins_trans}
use Rattle.turn_lock.specs.Lists.{Begins, actors_of}
use Rattle.turn_lock.specs.Passes.{known, Belongs}
use Rattle.turn_lock.specs.Views.{Turned}
use Rattle.turn_lock.specs.declared.lock.TurnLock.{TurnLock}
use Rattle.turn_lock.specs.declared.pass.Pass.{Pass}
use Rattle.turn_lock.specs.declared.recorded.Recorded.{Ghosts}

-- no event changes it
pub same_origin : {D : Type 0} (d : DeviceGhosts D) (p q : Parts D) → IsSteady d p.desk q.desk → origin_of d q ≡ origin_of d p
same_origin d p q s = rw (s.geometry, s.begun, s.sizes) refl

module _ {T E K : Type 0} {g : Ghosts T E Origin K} where
  pub on_self : (l : TurnLock T E Origin K) (o : Origin) (p : Pass T E Origin K g) → IsPassOf l o p → PassOn l o p p
  on_self l o p is = record { is = is; actors = refl; seen = begins_same (known p).seen }

  pub on_on : (l : TurnLock T E Origin K) (o : Origin) (p q r : Pass T E Origin K g) → PassOn l o p q → PassOn l o q r → PassOn l o p r
  on_on l o p q r a b = record { is = b.is; actors = b.actors ∙ a.actors; seen = begins_trans (known p).seen (known q).seen (known r).seen a.seen b.seen }

  pub turned_on : (journal : T → List E) (origin : T → Origin) (kept : T → ℕ → K) (l : TurnLock T E Origin K) (o : Origin) (p q : Pass T E Origin K g) (x y : T)
      → IsPassOf l o p → Belongs q l → Turned journal origin kept (known p) x y (known q) → PassOn l o p q
  turned_on journal origin kept l o p q x y is belongs t = record {
    is = record { lock = belongs; origin = ap (λ v. v.origin) t.view ∙ is.origin };
    actors = ap (λ v. actors_of v.kept) t.view ∙ actors_kept _ (λ r. refl) (known p).kept;
    seen = begins_trans (known p).seen (journal x) (known q).seen t.agrees.seen (t.extends.longer.0, t.extends.longer.1 ∙ sym (ap (λ v. v.seen) t.view));
  }
