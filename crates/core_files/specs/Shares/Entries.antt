-- Which entry a sharing adds to the journal ("Reference Count B+tree").
use Rattle.std.specs.Prelude.{◌≡◌, ◌++◌, ◌∷◌, [], ℕ, List}
use Rattle.std.specs.Option.{option_map_or}
use Rattle.core_files.specs.First.Entries.{IsHeld}
use Rattle.core_files.specs.First.Spots.{IsSpot}
use Rattle.core_files.specs.declared.first.files.Held.{Held}
use Rattle.core_files.specs.declared.first.spots.Spot.{Spot}
use Rattle.core_parts.specs.declared.desk.Desk.{Desk}
use Rattle.defer_chain.specs.declared.chain.Chain.{Chain}
use Rattle.fs_model.specs.declared.entry.Entry.{Entry}
use Rattle.fs_model.specs.declared.entry.Entry.TheVariants as entries
use Rattle.fs_model.specs.declared.entry.SharedPiece.{SharedPiece}
use Rattle.geom.specs.declared.geometry.Geometry.{Geometry}

-- the second file, or the only one
abbrev pub target : Chain → ℕ
target c = option_map_or (λ i. i.ino) c.second c.first.ino

abbrev pub shared_piece : Held → (offset to_offset : ℕ) → Spot → SharedPiece
shared_piece h offset to_offset s = record {
  writer = h.chain.writer;
  chain = h.number;
  from = h.chain.first.ino;
  from_offset = offset;
  to = target h.chain;
  to_offset = to_offset;
  group = s.group;
  block = s.block;
  count = s.count;
}

-- one entry, of so many blocks of a group
pub record SaysShared (geo : Geometry) (h : Held) (offset to_offset count : ℕ) (was now : List Entry) : Type 0 where
  pub spot : Spot
  pub inside : IsSpot geo spot
  pub count_is : spot.count ≡ count
  pub said : now ≡ was ++ entries.Shared (shared_piece h offset to_offset spot) ∷ []

-- the same of the chain of a number
pub record HasShared {D : Type 0} (number offset to_offset count : ℕ) (old new : Desk D) : Type 0 where
  pub chain : Held
  pub held : IsHeld old number chain
  pub says : SaysShared old.store.geo chain offset to_offset count old.book.journal.items new.book.journal.items
