-- The answer of an edit beside what the list gives.
use Rattle.std.specs.Prelude.{◌≡◌, ⊤, Result, Ok, Err}
use Rattle.list_edit.specs.declared.fault.ListFault.{ListFault}
use Rattle.list_edit.specs.declared.fault.ListFault.TheVariants.{Missing, Overlap, Memory}

-- a fault of the list is the one that is told
abbrev pub Refuses : {A : Type 0} → Result A ListFault → ListFault → Type 0
Refuses made Missing = made ≡ Err Missing
Refuses made Overlap = made ≡ Err Overlap
Refuses made Memory = ⊤

-- this is the list now
abbrev pub MeetsEdit : {A T : Type 0} → Result A ListFault → Result T ListFault → A → Type 0
MeetsEdit made (Ok done) now = made ≡ Ok now
MeetsEdit made (Err fault) now = Refuses made fault

-- no memory was asked for
abbrev pub IsNoMemory : ListFault → Type 0
IsNoMemory Missing = ⊤
IsNoMemory Overlap = ⊤
IsNoMemory Memory = ⊥
