-- The line that a run ends with.
use Rattle.std.specs.Prelude.{ℕ, List, ◌∷◌, [], Bool, true, false, codes}
use Rattle.std.specs.Fmt.{decimal}
use Rattle.ag_headers.specs.declared.fault.HeadFault.{HeadFault}
use Rattle.ag_headers.specs.declared.fault.HeadFault.TheVariants as heads
use Rattle.fs_model.specs.declared.unit.Head.{Head as GroupHead}
use Rattle.fs_model.specs.declared.unit.Head.TheVariants.{Agf, Agi, Agfl}
use Rattle.geom.specs.declared.fault.ImageFault.{ImageFault}
use Rattle.geom.specs.declared.fault.ImageFault.TheVariants as images
use Rattle.run_text.specs.Lines.{line_from, spaced}
use Rattle.xscrub.specs.declared.last_lines.RedoRefusal.{RedoRefusal}
use Rattle.xscrub.specs.declared.last_lines.RedoRefusal.TheVariants as redos
use Rattle.xscrub.specs.declared.last_lines.BatchRefusal.{BatchRefusal}
use Rattle.xscrub.specs.declared.last_lines.BatchRefusal.TheVariants as batches
use Rattle.xscrub.specs.declared.last_lines.LastLine.{LastLine}
use Rattle.xscrub.specs.declared.last_lines.LastLine.TheVariants.{Usage, Unbuilt, Redo, Batch, Image, Head, DeviceFailed, HostFailed, JournalFull, Memory}

abbrev pub head_name : GroupHead → List ℕ
head_name Agf = codes "agf"
head_name Agi = codes "agi"
head_name Agfl = codes "agfl"

-- a wrong free list goes with the place in it
abbrev pub head_fault_text : HeadFault → List ℕ
head_fault_text heads.Magic = codes "magic"
head_fault_text heads.Version = codes "version"
head_fault_text heads.Seqno = codes "seqno"
head_fault_text heads.Length = codes "length"
head_fault_text heads.Checksum = codes "checksum"
head_fault_text heads.Uuid = codes "uuid"
head_fault_text (heads.FreeList place) = spaced (codes "freelist") (decimal place)

-- a feature goes with its bit
abbrev pub image_fault_words : ImageFault → List (List ℕ)
image_fault_words images.Magic = codes "magic" ∷ []
image_fault_words images.Version = codes "version" ∷ []
image_fault_words images.Sizes = codes "sizes" ∷ []
image_fault_words (images.Feature bit) = codes "feature" ∷ decimal bit ∷ []
image_fault_words images.Realtime = codes "realtime" ∷ []
image_fault_words images.Checksum = codes "checksum" ∷ []
image_fault_words images.Counts = codes "counts" ∷ []
image_fault_words images.DeviceShort = codes "deviceshort" ∷ []

abbrev pub redo_word : RedoRefusal → List ℕ
redo_word redos.Short = codes "short"
redo_word redos.Waiting = codes "waiting"

abbrev pub batch_word : BatchRefusal → List ℕ
batch_word batches.Count = codes "count"
batch_word batches.Size = codes "size"
batch_word batches.Place = codes "place"

abbrev pub last_words : LastLine → List (List ℕ)
last_words Usage = codes "usage: xscrub JOB TARGET [--redo FILE] [--script FILE] [--rebuild] [--turns N]" ∷ []
last_words Unbuilt = codes "unbuilt job" ∷ []
last_words (Redo refusal) = codes "redo" ∷ redo_word refusal ∷ []
last_words (Batch refusal) = codes "redo" ∷ batch_word refusal ∷ []
last_words (Image fault) = codes "image" ∷ image_fault_words fault
last_words (Head group head fault) = codes "group" ∷ decimal group ∷ head_name head ∷ head_fault_text fault ∷ []
last_words DeviceFailed = codes "device failed" ∷ []
last_words HostFailed = codes "host failed" ∷ []
last_words JournalFull = codes "journal full" ∷ []
last_words Memory = codes "memory" ∷ []

unfoldable pub last_line_of : LastLine → List ℕ
last_line_of last = line_from (last_words last)

-- no number stands in it
abbrev pub is_fixed : LastLine → Bool
is_fixed (Image (images.Feature bit)) = false
is_fixed (Head group head fault) = false
is_fixed last = true
