-- The first units of a journal.
use Rattle.std.proofs.Common.{◌≡◌, ℕ, List, [], ◌∷◌, inl, refl, sym, ◌∙◌, ap, subst, append-nil}
use Rattle.fs_model.specs.declared.entry.Entry.{Entry}
use Rattle.image_check.specs.Units.{AreUnits, StopsInUnits}
use Rattle.space_check.specs.Events.{Event, Moment}
use Rattle.space_check.specs.declared.halt.Halt.{Halt}
use Rattle.space_check.specs.declared.halt.Halt.TheVariants as halts
use Rattle.xscrub.specs.Units.{HasAllUnits, HasItsMost, HasFirstUnits}

no_groups : AreUnits 0 []
no_groups = record { inodes = []; mappings = []; space = []; inode_parts = refl; mapping_parts = inl refl; space_parts = refl; whole = refl }

pub no_units : HasFirstUnits []
no_units = record { groups = 0; done = []; rest = []; units = no_groups; entries = refl }

pub all_are_first : (journal : List Entry) → HasAllUnits journal → HasFirstUnits journal
all_are_first journal all = record {
  groups = all.groups;
  done = all.units.events;
  rest = [];
  units = subst (λ (es : List Event). AreUnits all.groups es) (sym (append-nil all.units.events)) all.units.units;
  entries = all.units.done.added;
}

pub stopped_are_first : (n : ℕ) (halt : Halt) (journal : List Entry) (s : StopsInUnits n halt [] journal) → journal ≡ s.stop.reached.journal → HasFirstUnits journal
stopped_are_first n halt journal s same = record {
  groups = n;
  done = s.stop.done;
  rest = s.stop.next ∷ s.stop.rest;
  units = subst (λ (es : List Event). AreUnits n es) s.stop.whole s.units;
  entries = same ∙ s.stop.front.added;
}

pub most_are_first : (journal : List Entry) → HasItsMost journal → HasFirstUnits journal
most_are_first journal most = stopped_are_first most.groups halts.Full journal most.full (ap (λ (m : Moment). m.journal) most.full.stop.ended.1)
