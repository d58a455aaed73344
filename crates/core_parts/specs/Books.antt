-- What entries make of a book.
use Rattle.std.specs.Prelude.{◌≡◌, ◌≤◌, ◌+◌, ◌++◌, ℕ, List}
use Rattle.std.specs.Vec.{vec_capacity, vec_len}
use Rattle.fs_model.specs.declared.entry.Entry.{Entry}
use Rattle.core_parts.specs.declared.book.Book.{Book}

-- so many entries came, in room that was there
pub record Grows (old new : Book) (count : ℕ) : Type 0 where
  pub added : List Entry
  pub journal : new.journal.items ≡ old.journal.items ++ added
  pub longer : vec_len new.journal ≡ vec_len old.journal + count
  pub capacity : vec_capacity new.journal ≡ vec_capacity old.journal
  pub begun : new.begun ≡ old.begun
  pub shut : new.shut ≡ old.shut

-- at most so many
pub record GrowsBy (most : ℕ) (old new : Book) : Type 0 where
  pub many : ℕ
  pub few : many ≤ most
  pub grows : Grows old new many
