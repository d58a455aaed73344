-- What is told, in both forms.
use Rattle.std.proofs.Common.{◌≡◌, ℕ, List, Option, Some, None, refl, subst, ◌∙◌, arith}
use Rattle.std.specs.Prelude.{IfSome}
use Rattle.blk_device.specs.Contents.{Contents}
use Rattle.blk_device.specs.declared.device.Region.TheVariants.{Image}
use Rattle.tree_defs.specs.Sites.{group_blocks}
use Rattle.tree_defs.specs.declared.site.Site.{Site}
use Rattle.tree_blocks.specs.Cached.{blocks_told}
use Rattle.tree_blocks.specs.Calls.{Reads}
use Rattle.tree_blocks.specs.declared.blocks.Blocks.{Ghosts}

-- what holds of each content that is told holds where it is told, and the other way round
pub told : {C : Type 0} (o : Option C) (P : C → Type 0) → ((c : C) → o ≡ Some c → P c) → IfSome o P
told None P h = tt
told (Some c) P h = h c refl

pub each_told : {C : Type 0} (o : Option C) (P : C → Type 0) (c : C) → IfSome o P → o ≡ Some c → P c
each_told {C = C} o P c h e = subst (λ (x : Option C). IfSome x P) e h

-- what holds of a group's blocks that are told holds of those of each content that is told
pub told_blocks : (site : Site) (o : Option Contents) (P : (ℕ → List ℕ) → Type 0) → ((m : ℕ → List ℕ) → blocks_told site o ≡ Some m → P m) → IfSome o (λ c. P (group_blocks site (c Image)))
told_blocks site None P h = tt
told_blocks site (Some c) P h = h (group_blocks site (c Image)) refl

-- one reading after the other
pub reads_on : {B : Type 0} (g : Ghosts B) → ((a b c : B) → g.follows a b → g.follows b c → g.follows a c) → (old mid new : B) → Reads g old mid → Reads g mid new → Reads g old new
reads_on g trans old mid new first second = record {
  same = second.same ∙ first.same;
  stays = second.stays ∙ first.stays;
  later = omega (arith, first.later, second.later);
  onward = trans old mid new first.onward second.onward;
}

pub reads_none : {B : Type 0} (g : Ghosts B) → ((b : B) → g.follows b b) → (b : B) → Reads g b b
reads_none g self b = record { same = refl; stays = refl; later = omega arith; onward = self b }
