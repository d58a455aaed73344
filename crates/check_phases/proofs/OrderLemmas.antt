-- The three phases one after the other are the order of a session.
use Rattle.std.proofs.Common.{◌≡◌, ℕ, zero, suc, ◌+◌, List, [], ◌∷◌, ◌++◌, map, refl, ap}
use Rattle.std.specs.Prelude.{flat_map}
use Rattle.fs_state.specs.Lists.{numbers}
use Rattle.fs_state.specs.Session.{Place, unit_order}
use Rattle.fs_model.specs.declared.unit.Unit.TheVariants as units
use Rattle.check_phases.specs.Phases.{Inodes, Mappings, PhasesInOrder, places}

inodes_listed : (g n : ℕ) → places Inodes g n ≡ map (λ h. (h, units.Inode)) (numbers g n)
inodes_listed g zero = refl
inodes_listed g (suc n) = ap (λ (ps : List Place). (g, units.Inode) ∷ ps) (inodes_listed (g + 1) n)

mappings_listed : (g n : ℕ) → places Mappings g n ≡ map (λ h. (h, units.Rmap)) (numbers g n)
mappings_listed g zero = refl
mappings_listed g (suc n) = ap (λ (ps : List Place). (g, units.Rmap) ∷ ps) (mappings_listed (g + 1) n)

pub phases_in_order : PhasesInOrder
unfolding unit_order
phases_in_order n =
    λ i. (inodes_listed 0 n i ++ mappings_listed 0 n i) ++ flat_map (λ h. (h, units.Free) ∷ (h, units.Refc) ∷ []) (numbers 0 n)
