-- What a host in memory stands for.
use Rattle.std.specs.Prelude.{◌≡◌, ℕ, List, map, Option, None, IsSome}
use Rattle.std.specs.BTreeMap.{get_by_text}
use Rattle.std.specs.Global.{Vec}
use Rattle.std.specs.Option.{option_map}
use Rattle.redo_area.specs.Counts.{raised}
use Rattle.image_hosts.specs.Asked.{request_of}
use Rattle.image_hosts.specs.MemFiles.{HasDue, due_bytes, file_named, failing_named, redo_file_named}
use Rattle.blk_device.specs.declared.memory.MemDevice.{MemDevice}
use Rattle.image_hosts.specs.Stored.{Stored, Request, Loan, due_of}
use Rattle.image_hosts.specs.declared.mem_host.MemHost.{MemHost}

abbrev pub stored_by : MemHost → List ℕ → Option Stored
stored_by host name = file_named host.images name

-- the numbers of the device calls that are to fail on the image of that name
abbrev pub failing_by : MemHost → List ℕ → Option (List ℕ)
failing_by host name = failing_named host.images name

-- behind so many others
abbrev pub failing_behind : (others : ℕ) → MemHost → List ℕ → Option (List ℕ)
failing_behind others host name = option_map (map (λ call. raised call others)) (failing_by host name)

abbrev pub redo_files_by : MemHost → List ℕ → Option Stored
redo_files_by host name = redo_file_named host.redos name

abbrev pub asked_of : MemHost → List Request
asked_of host = map request_of host.asked.items

-- the image is there, and the redo file in which a device is kept that was asked for to be changed
pub record Awaits (host : MemHost) (name : List ℕ) : Type 0 where
  pub image : IsSome (get_by_text host.images name)
  pub due : due_of (asked_of host) ≡ due_bytes host.due
  pub redo : HasDue host.redos host.due

-- it doesn't tell its loans
abbrev pub loans_of : MemHost → Option (List (Loan MemDevice))
loans_of host = None

-- the bytes of the script of that name
abbrev pub script_by : MemHost → List ℕ → Option (List ℕ)
script_by host name = option_map (λ (v : Vec ℕ). v.items) (get_by_text host.scripts name)

-- the report changes nothing else that a clause speaks of
abbrev pub KeepsFiles : MemHost → MemHost → Type 0
KeepsFiles a b =
    (b.host_faults ≡ a.host_faults) × (b.dev_faults ≡ a.dev_faults) × (asked_of b ≡ asked_of a)
    × ((n : List ℕ) → stored_by b n ≡ stored_by a n) × (loans_of b ≡ loans_of a)
    × ((n : List ℕ) → redo_files_by b n ≡ redo_files_by a n)
