use Rattle.std.proofs.Common.{◌≡◌, take, true}
use Rattle.std.specs.List.{list_all}
use Rattle.xscrub.specs.Outcome.{is_calm}
use Rattle.xscrub.proofs.telling.are_all_calm.Given as goal

abbrev pub invariant-loop-entry : goal.invariant-loop-entry
invariant-loop-entry l = list_all is_calm (take l.entry-index l.journal) ≡ true
