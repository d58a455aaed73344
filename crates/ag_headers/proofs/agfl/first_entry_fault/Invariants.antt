use Rattle.std.proofs.Common.{◌≡◌}
use Rattle.ag_headers.specs.Agfl.{entry_fault}
use Rattle.ag_headers.proofs.AgflLemmas.{faults_from}
use Rattle.ag_headers.proofs.agfl.first_entry_fault.Given as goal

abbrev pub invariant-loop-i : goal.invariant-loop-i
invariant-loop-i l = entry_fault l.blocks l.list ≡ faults_from l.blocks l.list l.i
