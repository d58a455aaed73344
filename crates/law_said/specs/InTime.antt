-- Journals of a repair, in which no unit is begun again behind its verdict (Online Fsck Design, "Metadata Repair").
use Rattle.std.specs.Prelude.{◌≡◌, ℕ, ◌||◌, nat_lt, Bool, true, false, List, [], ◌∷◌}
use Rattle.fs_state.specs.Session.{is_at}
use Rattle.fs_model.specs.declared.entry.Entry.{Entry}
use Rattle.fs_model.specs.declared.entry.Entry.TheVariants as entries
use Rattle.fs_model.specs.declared.unit.Unit.{Unit as ScrubUnit}

-- an entry of a repair, of a group that the image has; a reply is of none
abbrev pub is_repair_in : ℕ → Entry → Bool
is_repair_in n (entries.Marked g kind cause) = nat_lt g n
is_repair_in n (entries.Fault g unit fault) = nat_lt g n
is_repair_in n (entries.Verdict g unit verdict) = nat_lt g n
is_repair_in n (entries.Reserved g unit block spare) = nat_lt g n
is_repair_in n (entries.Released g unit) = nat_lt g n
is_repair_in n (entries.Switched g unit root second) = nat_lt g n
is_repair_in n (entries.Reaped e) = nat_lt e.group n
is_repair_in n (entries.Reply writer line code done refused begun) = true
is_repair_in n e = false

-- of a journal whose last entry comes first: the unit has a verdict
unfoldable pub was_judged : ℕ → ScrubUnit → List Entry → Bool
was_judged g unit [] = false
was_judged g unit (entries.Verdict h u verdict ∷ es) = is_at g unit h u || was_judged g unit es
was_judged g unit (e ∷ es) = was_judged g unit es

-- what makes a new tree of a unit comes before the unit's verdict
abbrev pub MakesInTime : List Entry → Entry → Type 0
MakesInTime past (entries.Reserved g unit block spare) = was_judged g unit past ≡ false
MakesInTime past (entries.Switched g unit root second) = was_judged g unit past ≡ false
MakesInTime past e = Unit {0}

abbrev pub AllInTime : List Entry → List Entry → Type 0
AllInTime past [] = Unit {0}
AllInTime past (e ∷ es) = MakesInTime past e × AllInTime (e ∷ past) es
