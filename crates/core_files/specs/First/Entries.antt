-- Which entry a first event adds to the journal ("Eventual Consistency").
use Rattle.std.specs.Prelude.{◌≡◌, ◌++◌, ◌∷◌, ◌⊎◌, [], ℕ, List, Some}
use Rattle.core_files.specs.First.Spots.{IsSpot}
use Rattle.core_files.specs.declared.first.files.Held.{Held}
use Rattle.core_files.specs.declared.first.spots.Spot.{Spot}
use Rattle.core_parts.specs.declared.desk.Desk.{Desk}
use Rattle.defer_chain.specs.Owed.{owed}
use Rattle.fs_model.specs.declared.entry.Entry.{Entry}
use Rattle.fs_model.specs.declared.entry.Entry.TheVariants as entries
use Rattle.fs_model.specs.declared.entry.Piece.{Piece}
use Rattle.geom.specs.declared.geometry.Geometry.{Geometry}
use Rattle.intent_drain.specs.Chains.{chain_at}
use Rattle.intent_drain.specs.Drains.{chains_of}

-- this is the chain of that number, and it owes nothing
pub record IsHeld {D : Type 0} (k : Desk D) (number : ℕ) (h : Held) : Type 0 where
  pub number_is : h.number ≡ number
  pub there : chain_at (chains_of k.drain) number ≡ Some h.chain
  pub idle : owed h.chain ≡ []

-- blocks at an offset of the chain's first file
abbrev pub piece : Held → ℕ → Spot → Piece
piece h offset s = record { writer = h.chain.writer; chain = h.number; ino = h.chain.first.ino; offset = offset; group = s.group; block = s.block; count = s.count }

-- one entry, of so many blocks of a group
pub record SaysPiece (entry : Piece → Entry) (geo : Geometry) (h : Held) (offset count : ℕ) (was now : List Entry) : Type 0 where
  pub spot : Spot
  pub inside : IsSpot geo spot
  pub count_is : spot.count ≡ count
  pub said : now ≡ was ++ entry (piece h offset spot) ∷ []

-- the same of the chain of a number
pub record HasPiece {D : Type 0} (entry : Piece → Entry) (number offset count : ℕ) (old new : Desk D) : Type 0 where
  pub chain : Held
  pub held : IsHeld old number chain
  pub says : SaysPiece entry old.store.geo chain offset count old.book.journal.items new.book.journal.items

-- the first piece of a file left it, or there was none
pub record SaysStripped (geo : Geometry) (h : Held) (count : ℕ) (was now : List Entry) : Type 0 where
  pub stripped : ((count ≡ 0) × (now ≡ was)) ⊎ ((offset : ℕ) × SaysPiece entries.Unmapped geo h offset count was now)

pub record HasStripped {D : Type 0} (number count : ℕ) (old new : Desk D) : Type 0 where
  pub chain : Held
  pub held : IsHeld old number chain
  pub says : SaysStripped old.store.geo chain count old.book.journal.items new.book.journal.items
