-- How many claims a block gains or loses where a fork changes: one entry and its row.
use Rattle.std.specs.Prelude.{ℕ, ◌≡◌, ◌+◌, true, List, if◌then◌else◌}
use Rattle.law_accounts.specs.Account.Accounts.{alone_at, hits, owned_at}
use Rattle.law_accounts.specs.Account.Firsts.{run_shared}
use Rattle.law_writers.specs.Change.Forks.{IsRunAt, IsSound}
use Rattle.fs_change.specs.Changes.{data_of, extent_of}
use Rattle.fs_change.specs.Records.{is_unwritten_at}
use Rattle.fs_change.specs.Step.{Row}
use Rattle.fs_state.specs.Claims.{claims}
use Rattle.fs_model.specs.declared.entry.Entry.TheVariants as entries
use Rattle.fs_model.specs.declared.entry.Piece.{Piece}
use Rattle.fs_model.specs.declared.entry.SharedPiece.{SharedPiece}
use Rattle.fs_state.specs.State.{State}
use Rattle.geom.specs.Apart.{HasFitting}
use Rattle.sblock.specs.declared.kind.Kind.{Kind}

-- so many claims come, and so many of these stand alone
pub record Gains (a x : State) (h b owned alone : ℕ) : Type 0 where
  pub owned_then : owned_at b (claims x h) ≡ owned_at b (claims a h) + owned
  pub alone_then : alone_at b (claims x h) ≡ alone_at b (claims a h) + alone

-- or go
pub record Loses (a x : State) (h b owned alone : ℕ) : Type 0 where
  pub owned_then : owned_at b (claims x h) + owned ≡ owned_at b (claims a h)
  pub alone_then : alone_at b (claims x h) + alone ≡ alone_at b (claims a h)

-- ---- a fork's change, in every group

-- a mapping comes unwritten, so its blocks gain a claim that stands alone
abbrev pub MappedClaims : Type 0
MappedClaims = (a x : State) (left : List Kind) (m : Piece) (h b : ℕ) → HasFitting a.geometry → Row a left (entries.Mapped m) x → IsSound a m.ino → IsRunAt a (extent_of m) m.offset
    → Gains a x h b (hits h b (extent_of m)) (hits h b (extent_of m))

-- a piece that goes takes a claim along, which stood alone where it was unwritten
abbrev pub UnmappedClaims : Type 0
UnmappedClaims = (a x : State) (left : List Kind) (m : Piece) (h b : ℕ) → HasFitting a.geometry → Row a left (entries.Unmapped m) x → IsSound a m.ino → IsRunAt a (extent_of m) m.offset
    → Loses a x h b (hits h b (extent_of m)) (if is_unwritten_at m.offset (data_of a m.ino) then hits h b (extent_of m) else 0)

-- one that becomes written doesn't stand alone any more
abbrev pub ConvertedClaims : Type 0
ConvertedClaims = (a x : State) (left : List Kind) (m : Piece) (h b : ℕ) → HasFitting a.geometry → Row a left (entries.Converted m) x → is_unwritten_at m.offset (data_of a m.ino) ≡ true → IsSound a m.ino
    → IsRunAt a (extent_of m) m.offset → Loses a x h b 0 (hits h b (extent_of m))

-- one that is mapped a second time brings a claim that may be shared
abbrev pub SharedClaims : Type 0
SharedClaims = (a x : State) (left : List Kind) (m : SharedPiece) (h b : ℕ) → HasFitting a.geometry → Row a left (entries.Shared m) x → IsSound a m.to → IsRunAt a (run_shared m) m.to_offset
    → Gains a x h b (hits h b (run_shared m)) 0
