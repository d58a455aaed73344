-- A scan that reads the inode that it holds.
use Rattle.std.proofs.Common.{◌≡◌, ℕ, Option, Some, subst, sym, ◌∙◌}
use Rattle.blk_device.specs.Contents.{Contents}
use Rattle.blk_device.specs.declared.device.Region.TheVariants.{Image as OfImage}
use Rattle.dinode_core.specs.ForkTree.{Image}
use Rattle.geom.specs.Layout.{Layout}
use Rattle.shadow_rmap.specs.Kept.{ShadowState}
use Rattle.fs_state.specs.State.{State}
use Rattle.core_scan.specs.Equation.{IsScan, IsUntied}
use Rattle.core_scan.specs.Moves.{KeepsAll, Scans}
use Rattle.core_scan.specs.declared.held.Held.{Held}
use Rattle.core_scan.specs.declared.scan.Scan.{Scan}

-- one call after the other
pub scans_both : (at : Layout) (told later : Option Contents) (old mid new : Scan) → later ≡ told → mid.group ≡ old.group → Scans at told old mid → Scans at later mid new → Scans at told old new
scans_both at told later old mid new same group first second c e a here calm untied k = second c (same ∙ e) a here calm (subst (IsUntied a) (sym group) untied) (first c e a here calm untied k)

pub scans_kept : (at : Layout) (told : Option Contents) (old new : Scan) → KeepsAll old new → Scans at told old new
scans_kept at told old new kept c e a here calm untied k = kept a (c OfImage) k

-- whose the inode is makes no difference
user_noted : (a : State) (n : Image) (g c : ℕ) (h : Held) (s : ShadowState) (u : ℕ) → IsScan a n g c (Some h) s → IsScan a n g c (Some (record h { uid = u })) s
user_noted a n g c h s u k = record {
  own = k.own;
  holds = record {
    next = k.holds.next;
    there = k.holds.there;
    idle = k.holds.idle;
    first = k.holds.first;
    alike = k.holds.alike;
    bytes = k.holds.bytes;
    same = k.holds.same;
    come = k.holds.come;
  };
  equation = k.equation;
}

pub notes_user : (old : Scan) (h : Held) (u : ℕ) → old.held ≡ Some h → KeepsAll old (record old { held = Some (record h { uid = u }) })
notes_user old h u held a n k = user_noted a n old.group old.cursor h old.shadow u (subst (λ (o : Option Held). IsScan a n old.group old.cursor o old.shadow) held k)
