use Rattle.std.proofs.Common.{◌≡◌}
use Rattle.core_begin.proofs.needs.first_fallen.Given as goal
use Rattle.core_begin.proofs.StartLemmas.{Rest}
use Rattle.core_begin.specs.Starts.{inodes_from}
use Rattle.unit_trust.specs.Trusts.{first_lacking}

abbrev pub invariant-loop-h : goal.invariant-loop-h
invariant-loop-h l = first_lacking l.groups (inodes_from 0 l.count) ≡ Rest l.groups l.h l.count
