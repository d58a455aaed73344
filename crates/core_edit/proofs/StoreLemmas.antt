-- A store that keeps nothing is ready, and what calls in a row keep.
use Rattle.std.proofs.Common.{◌≡◌, ◌≤◌, ◌∙◌, ℕ, refl, sym, ap, subst, arith}
use Rattle.std.specs.Prelude.{Option, Some, None, IfSome}
use Rattle.blk_cache.specs.Cache.{Agrees, AgreesTold}
use Rattle.blk_cache.specs.declared.cache.BlkCache.{BlkCache}
use Rattle.blk_device.specs.Contents.{Contents}
use Rattle.blk_device.specs.declared.device.Device.{Ghosts}
use Rattle.blk_device.specs.declared.device.Region.{Region}
use Rattle.blk_device.specs.declared.device.Region.TheVariants.{Image, Redo}
use Rattle.geom.specs.declared.geometry.Geometry.{Geometry}
use Rattle.redo_area.proofs.ToldLemmas.{told_on, told_self}
use Rattle.redo_area.specs.declared.TheConstants.{REDO_BLOCKS}
use Rattle.core_edit.specs.Ready.{HasRoom, IsReady, KeepsStore}
use Rattle.core_edit.specs.declared.store.Store.{Store}

pub agrees_told : (cache : BlkCache) → ((c : Contents) → Agrees cache c) → (told : Option Contents) → AgreesTold cache told
agrees_told cache agrees None = tt
agrees_told cache agrees (Some c) = agrees c

module _ {D : Type 0} (d : Ghosts D) where
  pub fresh_ready : (s : Store D) → ((c : Contents) → Agrees s.cache c) → s.geo.dblocks ≤ d.blocks s.dev Image → REDO_BLOCKS ≤ d.blocks s.dev Redo → IsReady d s
  fresh_ready s agrees image redo = record { room = record { image = image; redo = redo }; agreed = agrees_told s.cache agrees (d.content s.dev) }

  pub keeps_self : (s : Store D) → KeepsStore d s s
  keeps_self s = record { geometry = refl; sizes = refl; later = omega arith; told = told_self (d.content s.dev) }

  pub keeps_on : (old mid new : Store D) → KeepsStore d old mid → KeepsStore d mid new → KeepsStore d old new
  keeps_on old mid new a b = record {
    geometry = b.geometry ∙ a.geometry;
    sizes = b.sizes ∙ a.sizes;
    later = omega (arith, a.later, b.later);
    told = told_on (d.content old.dev) (d.content mid.dev) (d.content new.dev) a.told b.told;
  }

  -- room stays where geometry and sizes do
  pub room_stays : (old new : Store D) → KeepsStore d old new → HasRoom d old → HasRoom d new
  room_stays old new k room = record {
    image = subst (λ (n : ℕ). n ≤ d.blocks new.dev Image) (sym (ap (λ (x : Geometry). x.dblocks) k.geometry)) (subst (λ (f : Region → ℕ). old.geo.dblocks ≤ f Image) (sym k.sizes) room.image);
    redo = subst (λ (f : Region → ℕ). REDO_BLOCKS ≤ f Redo) (sym k.sizes) room.redo;
  }
