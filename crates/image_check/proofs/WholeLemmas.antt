-- The three phases one after the other.
use Rattle.std.proofs.Common.{List, ◌++◌, Result, subst}
use Rattle.check_phases.specs.Phases.{Inodes, Mappings, Space, lacks_inodes, lacks_mappings, lacks_nothing, phase_events}
use Rattle.check_phases.specs.Session.{PhasesAreSession, check_events, inode_fallen, mappings_passed}
use Rattle.fs_state.specs.State.{State}
use Rattle.space_check.proofs.EventLemmas.{both_done, first_stops, then_does, then_stops}
use Rattle.space_check.specs.Events.{AreDone, Does, Event, Moment, StopsIn}
use Rattle.space_check.specs.declared.halt.Halt.{Halt}

module _ (a : State) (law : PhasesAreSession) where
  first : List Event
  first = phase_events a Inodes lacks_nothing 0 a.geometry.agcount

  second : List Event
  second = phase_events a Mappings (lacks_inodes (inode_fallen a)) 0 a.geometry.agcount

  third : List Event
  third = phase_events a Space (lacks_mappings (mappings_passed a)) 0 a.geometry.agcount

  pub inodes_stop : (halt : Halt) (x y : Moment) → StopsIn halt (phase_events a Inodes lacks_nothing 0 a.geometry.agcount) x y → StopsIn halt (check_events a) x y
  unfolding first second third
  inodes_stop halt x y s = subst (λ (es : List Event). StopsIn halt es x y) (law a) (first_stops halt (first ++ second) third x y (first_stops halt first second x y s))

  pub mappings_stop : (halt : Halt) (x y z : Moment) → AreDone (phase_events a Inodes lacks_nothing 0 a.geometry.agcount) x y → StopsIn halt (phase_events a Mappings (lacks_inodes (inode_fallen a)) 0 a.geometry.agcount) y z → StopsIn halt (check_events a) x z
  unfolding first second third
  mappings_stop halt x y z done s = subst (λ (es : List Event). StopsIn halt es x z) (law a) (first_stops halt (first ++ second) third x z (then_stops halt first second x y z done s))

  pub space_does : {T : Type 0} (x y z w : Moment) (result : Result T Halt) → AreDone (phase_events a Inodes lacks_nothing 0 a.geometry.agcount) x y → AreDone (phase_events a Mappings (lacks_inodes (inode_fallen a)) 0 a.geometry.agcount) y z
      → Does (phase_events a Space (lacks_mappings (mappings_passed a)) 0 a.geometry.agcount) z w result → Does (check_events a) x w result
  unfolding first second third
  space_does {T} x y z w result inodes mappings does = subst (λ (es : List Event). Does es x w result) (law a) (then_does (first ++ second) third x z w result (both_done first second x y z inodes mappings) does)
