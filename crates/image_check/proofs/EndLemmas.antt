-- How a check of all units ends, by the ends of its phases.
use Rattle.std.proofs.Common.{◌≡◌, ◌∙◌, ◌++◌, [], ℕ, List, Bool, Err, Ok, Option, Result, ap, subst, sym}
use Rattle.check_phases.specs.Checks.{AreReadable, ChecksPhase, reached}
use Rattle.check_phases.specs.Phases.{Inodes, Mappings, Space, lacks_inodes, lacks_mappings, lacks_nothing, phase_events, phase_passes}
use Rattle.check_phases.specs.Session.{PassedCanBeRead, PhasesAreSession, inode_fallen, mappings_passed}
use Rattle.check_phases.specs.declared.tally.Tally.{Tally}
use Rattle.fs_state.specs.Kinds.{Image}
use Rattle.geom.specs.Layout.{Layout}
use Rattle.inode_pass.specs.Units.{opened_state}
use Rattle.space_check.specs.Events.{AreDone, Does, Moment, StopsIn}
use Rattle.space_check.specs.Session.{come_to}
use Rattle.space_check.specs.declared.halt.Halt.{Halt}
use Rattle.space_check.specs.declared.journal.Journal.{Journal}
use Rattle.image_check.proofs.WholeLemmas.{inodes_stop, mappings_stop, space_does}
use Rattle.image_check.specs.Checked.{ChecksAll, ChecksUnits}

does_of : {T : Type 0} (at : Layout) (image : Image) (passed : List Bool) (x y : Tally) (r : Result T Halt) → ChecksPhase (opened_state at image) Space (lacks_mappings passed) 0 at.agcount x y r → Does (phase_events (opened_state at image) Space (lacks_mappings passed) 0 at.agcount) (reached x) (reached y) r
does_of at image passed x y (Ok done) h = h.0
does_of at image passed x y (Err halt) h = h

same_place : (x y : Tally) → y.journal ≡ x.journal → reached y ≡ reached x
same_place x y same = ap (λ (j : Journal). come_to j.entries.items) same

module _ (at : Layout) (image : Image) where
  pub passed_said : (x y : Tally) (fallen : Option ℕ) (ps : List Bool) → x.passed.items ≡ [] → fallen ≡ inode_fallen (opened_state at image) → ChecksAll {T = Unit {0}} at image fallen x y (Ok tt) → ps ≡ y.passed.items → ps ≡ mappings_passed (opened_state at image)
  passed_said x y fallen ps fresh first all same =
      let a = opened_state at image in
      same ∙ all.1 ∙ ap (λ (bs : List Bool). bs ++ phase_passes a Mappings (lacks_inodes fallen) 0 at.agcount) fresh ∙ ap (λ (o : Option ℕ). phase_passes a Mappings (lacks_inodes o) 0 at.agcount) first

  pub readable_then : PassedCanBeRead → (x y : Tally) (fallen : Option ℕ) (ps : List Bool) → x.passed.items ≡ [] → fallen ≡ inode_fallen (opened_state at image) → ChecksAll {T = Unit {0}} at image fallen x y (Ok tt) → ps ≡ y.passed.items → AreReadable (opened_state at image) ps
  readable_then law x y fallen ps fresh first all same = let a = opened_state at image in subst (AreReadable a) (sym (passed_said x y fallen ps fresh first all same)) (law a)

  module _ (law : PhasesAreSession) where
    pub inodes_end : (x y : Tally) (halt : Halt) → ChecksPhase {T = Unit {0}} (opened_state at image) Inodes lacks_nothing 0 at.agcount x y (Err halt) → ChecksUnits {T = Unit {0}} at image x y (Err halt)
    inodes_end x y halt h = inodes_stop (opened_state at image) law halt (reached x) (reached y) h

    pub mappings_end : (x y z w : Tally) (fallen : Option ℕ) (halt : Halt) → AreDone (phase_events (opened_state at image) Inodes lacks_nothing 0 at.agcount) (reached x) (reached y) → z.journal ≡ y.journal → fallen ≡ inode_fallen (opened_state at image)
        → ChecksAll {T = Unit {0}} at image fallen z w (Err halt) → ChecksUnits {T = Unit {0}} at image x w (Err halt)
    mappings_end x y z w fallen halt done same first h =
        let a = opened_state at image in
        let there = subst (λ (o : Option ℕ). ChecksAll {T = Unit {0}} at image o z w (Err halt)) first h in
        mappings_stop a law halt (reached x) (reached y) (reached w) done (subst (λ (p : Moment). StopsIn halt (phase_events a Mappings (lacks_inodes (inode_fallen a)) 0 at.agcount) p (reached w)) (same_place y z same) there)

    pub units_end : {T : Type 0} (x y z w v u : Tally) (fallen : Option ℕ) (ps : List Bool) (r : Result T Halt) → AreDone (phase_events (opened_state at image) Inodes lacks_nothing 0 at.agcount) (reached x) (reached y) → z.journal ≡ y.journal → z.passed.items ≡ [] → fallen ≡ inode_fallen (opened_state at image)
        → ChecksAll {T = Unit {0}} at image fallen z w (Ok tt) → v.journal ≡ w.journal → ps ≡ w.passed.items → ChecksPhase (opened_state at image) Space (lacks_mappings ps) 0 at.agcount v u r → ChecksUnits at image x u r
    units_end x y z w v u fallen ps r done same fresh first all here are h =
        let a = opened_state at image in
        let there = subst (λ (o : Option ℕ). ChecksAll {T = Unit {0}} at image o z w (Ok tt)) first all in
        let passed = are ∙ there.1 ∙ ap (λ (bs : List Bool). bs ++ phase_passes a Mappings (lacks_inodes (inode_fallen a)) 0 at.agcount) fresh in
        let second = subst (λ (p : Moment). AreDone (phase_events a Mappings (lacks_inodes (inode_fallen a)) 0 at.agcount) p (reached w)) (same_place y z same) there.0 in
        let last = subst (λ (qs : List Bool). Does (phase_events a Space (lacks_mappings qs) 0 at.agcount) (reached v) (reached u) r) passed (does_of at image ps v u r h) in
        space_does a law (reached x) (reached y) (reached w) (reached u) r done second (subst (λ (p : Moment). Does (phase_events a Space (lacks_mappings (mappings_passed a)) 0 at.agcount) p (reached u) r) (same_place w v here) last)
