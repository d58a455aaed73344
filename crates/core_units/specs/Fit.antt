-- How many records the btrees of a unit get.
use Rattle.std.specs.Prelude.{ℕ, length}
use Rattle.core_units.specs.declared.lists.Lists.{Lists}
use Rattle.core_units.specs.declared.lists.Lists.TheVariants as lists

-- that by count has as many as that by start
abbrev pub first_number : Lists → ℕ
first_number (lists.Inode ino fino) = length ino.items
first_number (lists.Rmap rmap) = length rmap.items
first_number (lists.Free bno cnt) = length bno.items
first_number (lists.Refc refc) = length refc.items

abbrev pub second_number : Lists → ℕ
second_number (lists.Inode ino fino) = length fino.items
second_number (lists.Rmap rmap) = 0
second_number (lists.Free bno cnt) = length bno.items
second_number (lists.Refc refc) = 0
