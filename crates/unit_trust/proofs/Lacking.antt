-- By what is known a unit lacks the very one that the journal says.
use Rattle.std.proofs.Common.{◌≡◌, ℕ, zero, suc, ◌+◌, ◌<◌, ◌≤◌, Bool, List, [], ◌∷◌, length, map, refl, ap, ◌∙◌, Option, Some, arith}
use Rattle.std.specs.Prelude.{if◌then◌else◌}
use Rattle.std.specs.List.{slice_get}
use Rattle.core_parts.specs.declared.groups.GroupKept.{GroupKept}
use Rattle.fs_model.specs.declared.entry.Entry.{Entry}
use Rattle.fs_model.specs.declared.unit.Unit.{Unit as ScrubUnit}
use Rattle.fs_model.specs.declared.unit.Unit.TheVariants as units
use Rattle.fs_state.specs.Lists.{numbers}
use Rattle.fs_state.specs.Session.{Place, first_fallen, first_unready, needed, stands}
use Rattle.unit_trust.proofs.Places.{value_at}
use Rattle.unit_trust.specs.Laws.{LacksAlike}
use Rattle.unit_trust.specs.Trusts.{Agrees, first_lacking, stands_in}

-- these places are of the first n groups
abbrev AllBelow : ℕ → List Place → Type 0
AllBelow n [] = Unit {0}
AllBelow n (p ∷ ps) = (p.0 < n) × AllBelow n ps

inodes_below : (n m a : ℕ) → a + m ≤ n → AllBelow n (map (λ h. (h, units.Inode)) (numbers a m))
inodes_below n zero a within = tt
inodes_below n (suc m) a within = (omega (arith, within), inodes_below n m (a + 1) (omega (arith, within)))

needed_below : (n g : ℕ) (u : ScrubUnit) → g < n → AllBelow n (needed n g u)
unfolding needed
needed_below n g units.Inode lt = tt
needed_below n g units.Rmap lt = inodes_below n n 0 (omega arith)
needed_below n g units.Free lt = (lt, tt)
needed_below n g units.Refc lt = (lt, tt)

module _ (past : List Entry) (ks : List GroupKept) (agrees : Agrees past ks) where
  stands_alike : (g : ℕ) (u : ScrubUnit) → g < length ks → stands_in (slice_get ks g) u ≡ stands g u past
  stands_alike g u lt =
      let kept = value_at ks g lt in
      ap (λ (o : Option GroupKept). stands_in o u) kept.1 ∙ agrees g kept.0 u kept.1

  first_alike : (ps : List Place) → AllBelow (length ks) ps → first_lacking ks ps ≡ first_fallen past ps
  first_alike [] below = refl
  first_alike (p ∷ ps) below =
      ap (λ (b : Bool). if b then first_lacking ks ps else Some p) (stands_alike p.0 p.1 below.0)
      ∙ ap (λ (o : Option Place). if stands p.0 p.1 past then o else Some p) (first_alike ps below.1)

pub lack_alike : LacksAlike
unfolding first_unready
lack_alike past g u ks agrees lt = first_alike past ks agrees (needed (length ks) g u) (needed_below (length ks) g u lt)
