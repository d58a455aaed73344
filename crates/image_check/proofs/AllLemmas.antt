-- A phase over all groups, and how it ends before its first unit.
use Rattle.std.proofs.Common.{◌≡◌, ℕ, zero, suc, ◌+◌, ◌-◌, ◌<◌, ◌≤◌, Bool, List, [], ◌∷◌, length, Option, Result, Err, refl, ap, subst, ◌∙◌, arith}
use Rattle.std.specs.Prelude.{flat_map}
use Rattle.check_phases.proofs.CheckLemmas.{cut_checks, full_checks}
use Rattle.check_phases.specs.Checks.{ChecksPhase}
use Rattle.check_phases.specs.Phases.{Inodes, Mappings, Phase, group_events, group_passes, lacks_nothing, phase_events, phase_passes, unit_event}
use Rattle.check_phases.specs.Session.{first_fallen_from, inode_fallen}
use Rattle.check_phases.specs.declared.part.Part.{Part}
use Rattle.check_phases.specs.declared.tally.Tally.{Tally}
use Rattle.fork_pass.specs.Passed.{AreChunks, AreForkClaims}
use Rattle.fs_state.specs.Lists.{numbers}
use Rattle.fs_state.specs.Session.{Place}
use Rattle.fs_model.specs.declared.unit.Unit.TheVariants as units
use Rattle.fs_state.specs.Kinds.{Image}
use Rattle.fs_state.specs.State.{State}
use Rattle.geom.specs.Layout.{Layout}
use Rattle.inode_pass.specs.Units.{opened_state}
use Rattle.inode_pass.specs.declared.note.GroupInodes.{GroupInodes}
use Rattle.quiet_check.specs.Entries.{entries_after}
use Rattle.space_check.specs.Events.{most_entries}
use Rattle.space_check.specs.Progress.{Begins, IsOutside}
use Rattle.space_check.specs.declared.halt.Halt.{Halt}
use Rattle.unit_plan.specs.declared.claims.ClaimSet.{ClaimSet}
use Rattle.image_check.proofs.FallenLemmas.{fallen_is}
use Rattle.image_check.proofs.PieceLemmas.{set_is}
use Rattle.image_check.specs.Checked.{IsFirstFallen}
use Rattle.image_check.specs.Mappings.{AreReady}

pub of_whole : {T : Type 0} (a : State) (phase : Phase) (lacks : ℕ → Option Place) (part : Part) (n : ℕ) (x y : Tally) (r : Result T Halt) → part.from ≡ 0 → part.to ≡ n → ChecksPhase a phase lacks part.from (part.to - part.from) x y r → ChecksPhase a phase lacks 0 n x y r
of_whole a phase lacks part n x y r none all h =
    let some : part.to - part.from ≡ n = omega (arith, none, all) in
    subst (λ k. ChecksPhase a phase lacks k n x y r) none (subst (λ k. ChecksPhase a phase lacks part.from k x y r) some h)

module _ (a : State) (lacks : ℕ → Option Place) where
  pub cut_phase : (T : Type 0) (n : ℕ) (t : Tally) (halt : Halt) → 1 ≤ n → length t.journal.entries.items < most_entries → IsOutside halt → ChecksPhase {T = T} a Mappings lacks 0 n t t (Err halt)
  unfolding phase_events phase_passes
  cut_phase T zero t halt some room out = absurd (omega (arith, some))
  cut_phase T (suc n) t halt some room out = cut_checks T (entries_after a 0 units.Rmap (lacks 0)) (flat_map (group_events a Mappings lacks) (numbers 1 n)) (flat_map (group_passes a Mappings lacks) (numbers 0 (suc n))) t halt room out

  pub full_phase : (S T : Type 0) (n : ℕ) (t : Tally) (halt : Halt) → 1 ≤ n → Begins {T = S} t.journal.entries.items (Err halt) → ChecksPhase {T = T} a Mappings lacks 0 n t t (Err halt)
  unfolding phase_events phase_passes
  full_phase S T zero t halt some full = absurd (omega (arith, some))
  full_phase S T (suc n) t halt some full = full_checks S T (unit_event a 0 (lacks 0) units.Rmap) (flat_map (group_events a Mappings lacks) (numbers 1 n)) (flat_map (group_passes a Mappings lacks) (numbers 0 (suc n))) t halt full

-- ---- which inodes fell

singles_long : (f : ℕ → Bool) (k n : ℕ) → length (flat_map (λ g. f g ∷ []) (numbers k n)) ≡ n
singles_long f k zero = refl
singles_long f k (suc n) = ap suc (singles_long f (k + 1) n)

passes_long : (a : State) (n : ℕ) → length (phase_passes a Inodes lacks_nothing 0 n) ≡ n
unfolding phase_passes
passes_long a n = singles_long _ 0 n

pub fallen_said : (at : Layout) (image : Image) (ps : List Bool) (o : Option ℕ) → ps ≡ phase_passes (opened_state at image) Inodes lacks_nothing 0 at.agcount → IsFirstFallen ps at.agcount o → o ≡ inode_fallen (opened_state at image)
fallen_said at image ps o same is = fallen_is ps at.agcount o (ap (λ (bs : List Bool). length bs) same ∙ passes_long (opened_state at image) at.agcount) is ∙ ap (first_fallen_from 0) same

-- ---- what was kept of the inodes, and sets

pub are_ready : (at : Layout) (image : Image) (inodes : List GroupInodes) (sets : List ClaimSet) → AreChunks (opened_state at image) inodes → AreForkClaims (opened_state at image) sets → AreReady at image inodes sets
are_ready at image inodes sets chunks claims g lt = record { none_bad = claims.none; chunked = chunks g lt; forks = set_is (opened_state at image) g sets claims }
