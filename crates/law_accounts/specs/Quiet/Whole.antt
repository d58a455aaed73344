-- At a quiet moment each index of a group holds what it should, as a list.
use Rattle.std.specs.Prelude.{ℕ, ◌≡◌, ◌<◌, ◌≤◌, true, Contains}
use Rattle.derive_defs.specs.ByCount.{ordered_by_count}
use Rattle.derive_defs.specs.Mappings.{covers}
use Rattle.fs_change.specs.Chains.{Quiet}
use Rattle.fs_change.specs.Parts.{records_in}
use Rattle.fs_change.specs.Records.{count_at}
use Rattle.fs_state.specs.Claims.{claims}
use Rattle.fs_state.specs.Derive.{derive, fino_of, ino_of, mappings}
use Rattle.fs_state.specs.Own.{own, rmap_of}
use Rattle.fs_state.specs.State.{State}
use Rattle.geom.specs.Layout.{group_len_of}
use Rattle.rmap_recs.specs.Rmap.{is_shareable}
use Rattle.rmap_recs.specs.Runs.{AreRuns}
use Rattle.rmap_recs.specs.declared.records.RmapRec.{RmapRec}
use Rattle.run_sets.specs.Runs.{most}
use Rattle.sblock.specs.declared.kind.Kind.{Kind}
use Rattle.sblock.specs.declared.kind.Kind.TheVariants.{Bno, Cnt, Refc, Ino, Fino}
use Rattle.law_accounts.specs.Account.Accounts.{alone_at, covers_at, owned_at, spans_at}
use Rattle.law_accounts.specs.Account.Ledger.{Sound}
use Rattle.law_accounts.specs.Account.Space.{AreApart}
use Rattle.law_accounts.specs.Account.Stated.{ledger_at}
use Rattle.law_accounts.specs.Count.Counted.{AreCounts, AreShown}
use Rattle.law_accounts.specs.Owner.Told.{AreTold}

-- a mapping of a block that written file data alone has is of such data
abbrev pub AreOfData : State → ℕ → Type 0
AreOfData a g = (b : ℕ) (r : RmapRec) → 1 ≤ owned_at b (claims a g) → alone_at b (claims a g) ≡ 0 → Contains (mappings a g) r → covers b r ≡ true → is_shareable r ≡ true

-- behind the group's last block nothing is noted
pub record EndsThere (a : State) (g b : ℕ) : Type 0 where
  pub spans : spans_at (records_in (a.group g) Bno) b ≡ 0
  pub covers : covers_at (mappings a g) b ≡ 0
  pub count : count_at (records_in (a.group g) Refc) b ≡ 1

-- When is a group balanced, as it is at every moment? Its blocks are sound; mappings tell settled owners; free space and reference
-- counts are in order and as few records as can be; and the inode btrees hold what they should.
pub record IsBalanced (a : State) (g : ℕ) : Type 0 where
  pub sound : (b : ℕ) → b < group_len_of a.geometry g → Sound (ledger_at a g b)
  pub outside : (b : ℕ) → group_len_of a.geometry g ≤ b → EndsThere a g b
  pub told : AreTold a g
  pub free : AreApart 0 (records_in (a.group g) Bno)
  pub ordered : records_in (a.group g) Cnt ≡ ordered_by_count (records_in (a.group g) Bno)
  pub counts : AreCounts 0 (records_in (a.group g) Refc)
  pub shown : AreShown (records_in (a.group g) Refc)
  pub inodes : records_in (a.group g) Ino ≡ ino_of a g
  pub free_inodes : records_in (a.group g) Fino ≡ fino_of a g

-- and what is known of its size and its owners: numbers are words, maximal runs of all owners can be made, and mappings of
-- data say that it is
pub record Fits (a : State) (g : ℕ) : Type 0 where
  pub length : group_len_of a.geometry g ≤ most
  pub few : (b : ℕ) → covers_at (mappings a g) b ≤ most
  pub runs : AreRuns (own a g) (rmap_of a g)
  pub of_data : AreOfData a g

-- where no chain owes the group anything, each index is what is derived
abbrev pub QuietIsWhole : Type 0
QuietIsWhole = (a : State) (g : ℕ) (k : Kind) → Quiet a g → IsBalanced a g → Fits a g → records_in (a.group g) k ≡ derive a g k
