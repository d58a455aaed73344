-- What an image or a redo file in memory, and a map of them, stands for.
use Rattle.std.specs.Prelude.{ℕ, zero, suc, if◌then◌else◌, List, Option, Some, None, IsSome, IfSome, string_bytes}
use Rattle.std.specs.Borrow.{Bor}
use Rattle.std.specs.Option.{option_map}
use Rattle.std.specs.BTreeMap.{BTreeMap, get_by_text}
use Rattle.std.specs.declared.string.String.{String}
use Rattle.std.specs.declared.alloc.Global.{Global}
use Rattle.blk_device.specs.Stored.{stored}
use Rattle.blk_device.specs.Contents.{Contents, put}
use Rattle.blk_device.specs.declared.device.Region.TheVariants.{Redo}
use Rattle.image_hosts.specs.Stored.{Stored, no_redo, redo_held}
use Rattle.image_hosts.specs.declared.host.Purpose.{Purpose}
use Rattle.image_hosts.specs.declared.host.Purpose.TheVariants.{Make}
use Rattle.image_hosts.specs.declared.mem_host.MemImage.{MemImage}
use Rattle.image_hosts.specs.declared.mem_host.MemRedo.{MemRedo}

abbrev pub file_of : MemImage → Stored
file_of image = record { size = image.size; at = stored image.blocks }

-- the file of that name
abbrev pub file_named : BTreeMap (String Global) MemImage → List ℕ → Option Stored
file_named images name = option_map file_of (get_by_text images name)

-- the numbers of the device calls that are to fail on the file of that name
abbrev pub failing_named : BTreeMap (String Global) MemImage → List ℕ → Option (List ℕ)
failing_named images name = option_map (λ (i : MemImage). i.failing.items) (get_by_text images name)

-- no block lies behind its end
abbrev pub redo_of : MemRedo → Stored
redo_of redo = redo_held redo.size (stored redo.blocks)

-- one that was lost isn't told
abbrev pub redo_told : MemRedo → Option Stored
redo_told redo = if redo.is_lost then None else Some (redo_of redo)

abbrev pub redo_or_none : Option MemRedo → Option Stored
redo_or_none None = Some no_redo
redo_or_none (Some redo) = redo_told redo

-- the redo file of that name; one that isn't there is made of zeros
abbrev pub redo_file_named : BTreeMap (String Global) MemRedo → List ℕ → Option Stored
redo_file_named redos name = redo_or_none (get_by_text redos name)

-- the redo file that is due is there
abbrev pub HasDue : BTreeMap (String Global) MemRedo → Option (String Global) → Type 0
HasDue redos due = IfSome due (λ name. IsSome (get_by_text redos (string_bytes name)))

abbrev pub due_bytes : Option (String Global) → Option (List ℕ)
due_bytes due = option_map string_bytes due

-- How many calls does a device have behind it once the redo file that is named was put there? One for each of the file's
-- blocks, and none for one that isn't there.
abbrev pub calls_for : Option MemRedo → ℕ
calls_for None = 0
calls_for (Some redo) = redo.size

abbrev pub calls_for_redo : BTreeMap (String Global) MemRedo → Option (Bor (List ℕ)) → ℕ
calls_for_redo redos None = 0
calls_for_redo redos (Some name) = calls_for (get_by_text redos name.now)

-- once it was opened for a purpose: a new image has no redo file
abbrev pub calls_to_open : Purpose → BTreeMap (String Global) MemRedo → Option (Bor (List ℕ)) → ℕ
calls_to_open (Make n) redos redo = 0
calls_to_open other redos redo = calls_for_redo redos redo

-- the contents with the first k blocks of a redo file
abbrev pub with_redo : (ℕ → List ℕ) → ℕ → Contents → Contents
with_redo held zero c = c
with_redo held (suc k) c = put Redo k (held k) (with_redo held k c)
