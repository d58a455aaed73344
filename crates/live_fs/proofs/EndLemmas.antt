-- How a run ends whose core was shared.
use Rattle.std.proofs.Common.{◌≡◌, ℕ, ◌≤◌, Option, Some, None, ap, ◌∙◌, subst}
use Rattle.std.specs.Prelude.{IfSome}
use Rattle.blk_device.specs.declared.device.Device.{Ghosts}
use Rattle.blk_device.specs.declared.device.Region.{Region}
use Rattle.blk_device.specs.declared.device.Region.TheVariants.{Image, Redo}
use Rattle.core_parts.specs.declared.parts.Parts.{Parts}
use Rattle.live_fs.specs.Passes.{origin_of}
use Rattle.live_fs.specs.Runs.{IsRun, IsRunFrom}
use Rattle.live_fs.specs.declared.origin.Origin.{Origin}
use Rattle.quiet_repair.specs.Ends.{EndsWell}
use Rattle.quiet_repair.specs.declared.repair.Repair.{Repair}

in_region : (f g : Region → ℕ) → f Image ≡ g Image → f Redo ≡ g Redo → (r : Region) → f r ≡ g r
in_region f g a b Image = a
in_region f g a b Redo = b

same_sizes : (f g : Region → ℕ) → f Image ≡ g Image → f Redo ≡ g Redo → f ≡ g
same_sizes f g a b = λ i r. in_region f g a b r i

module _ {D : Type 0} (d : Ghosts D) (p : Parts D) (o : Origin) where
  run_from : (r : D × Repair) → o ≡ origin_of d p → IsRunFrom d o r → IsRun d (d.blocks p.desk.store.dev) p.desk.book.begun r
  run_from r e h = record {
    sizes = same_sizes (d.blocks r.0) (d.blocks p.desk.store.dev) (h.image ∙ ap (λ (z : Origin). z.image_blocks) e) (h.redo ∙ ap (λ (z : Origin). z.redo_blocks) e);
    later = subst (λ (b : ℕ). b ≤ d.faults r.0) (ap (λ (z : Origin). z.begun) e) h.later;
    ends = subst (λ (b : ℕ). EndsWell b (d.faults r.0) r.1) (ap (λ (z : Origin). z.begun) e) h.ends;
  }

  -- of a core with this origin
  pub run_some : (found : Option (D × Repair)) → o ≡ origin_of d p → IfSome found (IsRunFrom d o) → IfSome found (IsRun d (d.blocks p.desk.store.dev) p.desk.book.begun)
  run_some None e h = tt
  run_some (Some r) e h = run_from r e h
