-- A run that is to be free isn't kept, so it joins free space.
use Rattle.std.specs.Prelude.{Bool, false, ◌≡◌}
use Rattle.std.proofs.Common.{subst}
use Rattle.fs_change.specs.Step.{Row}
use Rattle.fs_model.specs.declared.entry.Entry.TheVariants as entries
use Rattle.law_accounts.proofs.Account.Guards.{guard_passes}
use Rattle.law_accounts.proofs.Account.Runs.{freed_sound}
use Rattle.law_accounts.specs.Step.Steps.{FreedKeeps}

pub freed_keeps : FreedKeeps
freed_keeps a x left c g at n kept b owned alone lt w sound each row h =
    let free : kept ≡ false = guard_passes a x left c g at n kept lt sound each row in
    freed_sound a x left c g at n b owned alone lt w (subst (λ (k : Bool). Row a left (entries.Freed c g at n k) x) free row) h
