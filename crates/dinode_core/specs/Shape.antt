-- The forks of an inode: where they lie in its literal area, how they are kept, and how many mappings they have.
use Rattle.std.specs.Prelude.{ℕ, ◌-◌, ◌*◌, ◌/◌, ◌%◌, ◌==◌, Bool, false, if◌then◌else◌, List, take, drop, Option, Some, None}
use Rattle.dinode_core.specs.declared.inode.Core3.{Core3}
use Rattle.dinode_core.specs.declared.mapping.Fork.{Fork}
use Rattle.dinode_core.specs.declared.mapping.Fork.TheVariants.{Data, Attr}
use Rattle.dinode_core.specs.declared.shape.Format.{Format}
use Rattle.dinode_core.specs.declared.shape.Format.TheVariants.{Dev, Local, Extents, Btree}

-- without an attribute fork the data fork has the whole area
abbrev pub data_size : Core3 → ℕ
data_size core = if core.forkoff == 0 then 336 else 8 * core.forkoff

-- bytes of a fork
abbrev pub size_of : Core3 → Fork → ℕ
size_of core Data = data_size core
size_of core Attr = 336 - data_size core

abbrev pub area_of : Core3 → Fork → List ℕ
area_of core Data = take (data_size core) core.literal
area_of core Attr = drop (data_size core) core.literal

-- an attribute fork is there exactly where di_forkoff isn't 0
abbrev pub is_absent : Core3 → Fork → Bool
is_absent core Data = false
is_absent core Attr = core.forkoff == 0

-- how many packed mappings the fork has room for
abbrev pub room_of : Core3 → Fork → ℕ
room_of core fork = size_of core fork / 16

-- bit 4 of di_flags2: the numbers of mappings have 64 and 32 bits
abbrev pub has_large_counts : Core3 → Bool
has_large_counts core = core.flags2 / 16 % 2 == 1

-- how many mappings the core says that the fork has
unfoldable pub count_of : Core3 → Fork → ℕ
count_of core Data = if has_large_counts core then core.big_nextents else core.nextents
count_of core Attr = if has_large_counts core then core.nextents else core.anextents

abbrev pub format_named : ℕ → Option Format
format_named n =
    if n == 0 then Some Dev else (if n == 1 then Some Local else (if n == 2 then Some Extents else (if n == 3 then Some Btree else None)))

-- how the fork is kept: none where such a fork has no such format; an attribute fork is no device
unfoldable pub format_of : Core3 → Fork → Option Format
format_of core Data = format_named core.format
format_of core Attr = if core.aformat == 0 then None else format_named core.aformat
