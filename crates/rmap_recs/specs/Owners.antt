-- The owners of blocks, and the numbers by which records name them.
use Rattle.std.specs.Prelude.{ℕ, ◌-◌, ◌^◌, ◌==◌, Bool, true, nat_lt, List, codes, Option, Some, None, if◌then◌else◌}
use Rattle.std.specs.Fmt.{decimal}
use Rattle.rmap_recs.specs.declared.owner.Owner.{Owner}
use Rattle.rmap_recs.specs.declared.owner.Owner.TheVariants.{Fs, Log, Ag, Inobt, Inodes, Refc, Cow, Inode}

-- seven numbers below zero, as two's complement of 64 bits, and inode numbers
abbrev pub number_of : Owner → ℕ
number_of Fs = 2 ^ 64 - 3
number_of Log = 2 ^ 64 - 4
number_of Ag = 2 ^ 64 - 5
number_of Inobt = 2 ^ 64 - 6
number_of Inodes = 2 ^ 64 - 7
number_of Refc = 2 ^ 64 - 8
number_of Cow = 2 ^ 64 - 9
number_of (Inode ino) = ino

-- an inode number: one below the seven
abbrev pub is_inode : ℕ → Bool
is_inode number = nat_lt number (2 ^ 64 - 9)

-- the owner with this number; -1 and -2, for none and for an unknown one, are nobody's
unfoldable pub owner_of : ℕ → Option Owner
owner_of number =
    if number == 2 ^ 64 - 3 then Some Fs
    else if number == 2 ^ 64 - 4 then Some Log
    else if number == 2 ^ 64 - 5 then Some Ag
    else if number == 2 ^ 64 - 6 then Some Inobt
    else if number == 2 ^ 64 - 7 then Some Inodes
    else if number == 2 ^ 64 - 8 then Some Refc
    else if number == 2 ^ 64 - 9 then Some Cow
    else if is_inode number then Some (Inode number) else None

-- one of the seven, or an inode by an inode number
abbrev pub is_owner : Owner → Bool
is_owner Fs = true
is_owner Log = true
is_owner Ag = true
is_owner Inobt = true
is_owner Inodes = true
is_owner Refc = true
is_owner Cow = true
is_owner (Inode ino) = is_inode ino

-- how an owner is printed
abbrev pub owner_text : Owner → List ℕ
owner_text Fs = codes "fs"
owner_text Log = codes "log"
owner_text Ag = codes "ag"
owner_text Inobt = codes "inobt"
owner_text Inodes = codes "inodes"
owner_text Refc = codes "refc"
owner_text Cow = codes "cow"
owner_text (Inode ino) = decimal ino
