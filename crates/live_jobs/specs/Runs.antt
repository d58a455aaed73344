-- What becomes of the device that a run was handed, and of what the host stores.
use Rattle.std.specs.Prelude.{◌≡◌, ◌≤◌, ◌⊎◌, ⊤, false, ℕ, List, [], ◌∷◌, Option}
use Rattle.std.specs.Str.{bytes_eq}
use Rattle.blk_device.specs.declared.device.Device.{Ghosts}
use Rattle.image_hosts.specs.Stored.{Loan, Out, Stored, Lends}
use Rattle.xscrub.specs.Ending.{AllStay, IsUnopened, WasRepaired}
use Rattle.xscrub.specs.Repairs.{CountsFor, IsOfDevice}
use Rattle.xscrub.specs.declared.ending.Finding.{Finding}
use Rattle.live_jobs.specs.declared.ending.LiveFinding.{LiveFinding}
use Rattle.live_jobs.specs.declared.ending.LiveFinding.TheVariants as lives

-- a device that counted no fault comes back with its sizes and with what was found
pub record Comes {D : Type 0} (g : Ghosts D) (dev : D) (r : D × Finding) : Type 0 where
  pub sizes : g.blocks r.0 ≡ g.blocks dev
  pub later : g.faults dev ≤ g.faults r.0
  pub device : IsOfDevice r.1
  pub count : CountsFor 0 (g.faults r.0) r.1

-- A device was handed out, and there was no memory to share it: it didn't come back, and nothing was stored under other
-- names.
pub record WasLost {D : Type 0} (g : Ghosts D) (name : List ℕ) (stored redos stored' redos' : List ℕ → Option Stored) (loans loans' : Option (List (Loan D))) : Type 0 where
  pub dev : D
  pub lent : Lends (Out dev ∷ []) loans loans'
  pub others : (n : List ℕ) → bytes_eq n name ≡ false → stored' n ≡ stored n
  pub redo_files : (n : List ℕ) → redos' n ≡ redos n

-- none was handed out, or it came back, or it was lost
abbrev pub IsRunBy : {D : Type 0} → Ghosts D → (name redo : List ℕ) → (stored redos stored' redos' : List ℕ → Option Stored) → (loans loans' : Option (List (Loan D))) → Finding → Type 0
IsRunBy g name redo stored redos stored' redos' loans loans' finding =
    (IsUnopened finding × (loans' ≡ loans) × AllStay stored redos stored' redos')
    ⊎ (WasRepaired g name redo stored redos stored' redos' loans loans' ⊎ WasLost g name stored redos stored' redos' loans loans')

-- also of a run whose script is refused: none is handed out then
abbrev pub IsLiveBy : {D : Type 0} → Ghosts D → (name redo : List ℕ) → (stored redos stored' redos' : List ℕ → Option Stored) → (loans loans' : Option (List (Loan D))) → LiveFinding → Type 0
IsLiveBy g name redo stored redos stored' redos' loans loans' (lives.Found finding) = IsRunBy g name redo stored redos stored' redos' loans loans' finding
IsLiveBy g name redo stored redos stored' redos' loans loans' (lives.ScriptWrong line) = (loans' ≡ loans) × AllStay stored redos stored' redos'
IsLiveBy g name redo stored redos stored' redos' loans loans' lives.ScriptFailed = (loans' ≡ loans) × AllStay stored redos stored' redos'

-- nothing was run
abbrev pub NotRun : LiveFinding → Type 0
NotRun (lives.Found finding) = IsUnopened finding
NotRun (lives.ScriptWrong line) = ⊤
NotRun lives.ScriptFailed = ⊤
