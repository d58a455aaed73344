use Rattle.std.proofs.Common.{◌≡◌, true}
use Rattle.byte_fields.specs.Below.{all_below}
use Rattle.ag_headers.specs.Ring.{entries, differ}
use Rattle.ag_headers.proofs.agfl.is_entry_new.Given as goal

abbrev pub invariant-loop-j : goal.invariant-loop-j
invariant-loop-j l = all_below l.j (differ (entries l.list) l.i) ≡ true
