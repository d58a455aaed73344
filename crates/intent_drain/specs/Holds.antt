-- Who holds which inode ("Inode Scans").
use Rattle.std.specs.Prelude.{ℕ, ◌==◌, Bool, not, List, [], ◌∷◌, Option, None, Some, filter, if◌then◌else◌}
use Rattle.intent_drain.specs.declared.holds.Hold.{Hold}
use Rattle.intent_drain.specs.declared.holds.Holder.{Holder}

-- Who holds the inode? The first that is noted.
abbrev pub holder_in : List Hold → ℕ → Option Holder
holder_in [] ino = None
holder_in (h ∷ hs) ino = if h.ino == ino then Some h.holder else holder_in hs ino

abbrev pub is_hold_of : ℕ → Hold → Bool
is_hold_of ino h = h.ino == ino

abbrev pub without : List Hold → ℕ → List Hold
without holds ino = filter (λ h. not (is_hold_of ino h)) holds
