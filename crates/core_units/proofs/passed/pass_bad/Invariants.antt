use Rattle.std.proofs.Common.{◌≡◌, None}
use Rattle.core_units.specs.Trees.{Passes}
use Rattle.core_units.proofs.passed.pass_bad.Given as goal

-- the trees in front of the one that was come to are bad
abbrev pub invariant-loop : goal.invariant-loop
invariant-loop l = record {
  made : Passes l.trees l.fn.reading l.at;
  none : l.fn.reading ≡ None → l.at ≡ None;
}
