use Rattle.std.proofs.Common.{◌≡◌, length}
use Rattle.fsck_core.specs.Opens.{NoneOpen}
use Rattle.fsck_core.proofs.opened.no_units.Given as goal

abbrev pub invariant-loop-g : goal.invariant-loop-g
invariant-loop-g l = record { all : length l.units.items ≡ l._g; none : NoneOpen l.units.items }
