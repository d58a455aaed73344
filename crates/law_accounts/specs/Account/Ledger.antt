-- One block's numbers at any moment of any interleaving of chains.
use Rattle.std.specs.Prelude.{ℕ, ◌≡◌, ◌+◌, ◌*◌, ◌≤◌}

-- the count kept; counts that will rise, mappings that will go; counts that will fall, runs that will be free, mappings
-- that will come; free runs, mappings; claims as they stand, and those among them that aren't written file data
pub record Ledger : Type 0 where
  pub count : ℕ
  pub more : ℕ
  pub goes : ℕ
  pub less : ℕ
  pub frees : ℕ
  pub comes : ℕ
  pub spans : ℕ
  pub covers : ℕ
  pub owned : ℕ
  pub alone : ℕ

-- What holds of a block at every moment? The count balances; mappings say who owns it, but for what is pending; a count
-- that rises has two owners, and a mapping that goes has a count that falls; what is free, or to be freed, is so once and
-- nobody's; and what isn't written file data has one owner.
pub record Sound (l : Ledger) : Type 0 where
  pub balance : l.count + (l.more + l.goes) ≡ (l.less + l.frees + l.comes) + (l.spans + l.covers)
  pub owns : l.covers + l.comes ≡ l.owned + l.goes
  pub pairs : 2 * l.more ≤ l.owned
  pub falls : l.goes ≤ l.less
  pub loose : 1 ≤ l.spans + l.frees → (l.owned ≡ 0) × (l.less ≡ 0) × (l.spans + l.frees ≤ 1)
  pub single : 1 ≤ l.alone → (l.owned ≡ 1) × (l.less ≡ 0)
  pub least : 1 ≤ l.count

-- nothing else is due to a block, and no mapping covers it
pub record Bare (l : Ledger) : Type 0 where
  pub more : l.more ≡ 0
  pub goes : l.goes ≡ 0
  pub comes : l.comes ≡ 0
  pub covers : l.covers ≡ 0
  pub owned : l.owned ≡ 0

-- a stretch of RefLess without a record: the block is bare, and is to be freed once. What goes is of other chains, whose counts fall later
abbrev pub LastOne : Type 0
LastOne = (l : Ledger) → Sound l → l.count ≡ 1 → l.goes + 1 ≤ l.less → Bare l × (l.less ≡ 1) × (l.frees ≡ 0) × (l.spans ≡ 0) × Sound (record l { less = 0; frees = 1 })

-- a block that is to be freed is bare, so the guard lets it pass
abbrev pub FreeOne : Type 0
FreeOne = (l : Ledger) → Sound l → 1 ≤ l.frees → Bare l × (l.count ≡ 1) × (l.frees ≡ 1) × (l.spans ≡ 0) × Sound (record l { frees = 0; spans = 1 })

abbrev pub CountFalls : Type 0
CountFalls = (l : Ledger) (n k : ℕ) → Sound l → l.count ≡ k + 1 → 1 ≤ k → l.less ≡ n + 1 → l.goes ≤ n → Sound (record l { count = k; less = n })

abbrev pub CountRises : Type 0
CountRises = (l : Ledger) (n : ℕ) → Sound l → l.more ≡ n + 1 → Sound (record l { count = l.count + 1; more = n })

abbrev pub RecordComes : Type 0
RecordComes = (l : Ledger) (n : ℕ) → Sound l → l.comes ≡ n + 1 → Sound (record l { comes = n; covers = l.covers + 1 })

abbrev pub RecordGoes : Type 0
RecordGoes = (l : Ledger) (n c : ℕ) → Sound l → l.goes ≡ n + 1 → l.covers ≡ c + 1 → Sound (record l { goes = n; covers = c })

-- unwritten data, alone, or written data of one of the holders: after it, chains with a rising count still have their two
abbrev pub PieceGoes : Type 0
PieceGoes = (l : Ledger) (n m : ℕ) → Sound l → l.owned ≡ n + 1 → m ≤ l.alone → (1 ≤ m → n ≡ 0 → ⊥) → 2 * l.more ≤ n → Sound (record l { goes = l.goes + 1; less = l.less + 1; owned = n; alone = m })

-- a written piece of a holder is shared by a chain that holds it and had nothing pending
abbrev pub PieceShared : Type 0
PieceShared = (l : Ledger) → Sound l → 1 ≤ l.owned → l.alone ≡ 0 → 2 * (l.more + 1) ≤ l.owned + 1 → Sound (record l { comes = l.comes + 1; more = l.more + 1; owned = l.owned + 1 })

abbrev pub RunTaken : Type 0
RunTaken = (l : Ledger) (n : ℕ) → Sound l → l.spans ≡ n + 1 → Sound (record l { spans = n; comes = l.comes + 1; owned = l.owned + 1; alone = l.alone + 1 })

abbrev pub BecomesWritten : Type 0
BecomesWritten = (l : Ledger) (n : ℕ) → Sound l → l.alone ≡ n + 1 → Sound (record l { alone = n })

-- a block of the list goes back to free space
abbrev pub BlockTrimmed : Type 0
BlockTrimmed = (l : Ledger) (n c : ℕ) → Sound l → l.alone ≡ n + 1 → l.covers ≡ c + 1 → l.goes ≡ 0 → l.owned ≡ 1 → Sound (record l { alone = 0; covers = c; owned = 0; spans = l.spans + 1 })

-- a free block goes to the list, or to a new chunk: a record and a claim come at once
abbrev pub RunListed : Type 0
RunListed = (l : Ledger) (n : ℕ) → Sound l → l.spans ≡ n + 1 → Sound (record l { spans = n; covers = l.covers + 1; owned = l.owned + 1; alone = l.alone + 1 })

-- ---- all of them

pub record EntriesOfABlock : Type 0 where
  pub last_one : LastOne
  pub free_one : FreeOne
  pub count_falls : CountFalls
  pub count_rises : CountRises
  pub record_comes : RecordComes
  pub record_goes : RecordGoes
  pub piece_goes : PieceGoes
  pub piece_shared : PieceShared
  pub run_taken : RunTaken
  pub becomes_written : BecomesWritten
  pub block_trimmed : BlockTrimmed
  pub run_listed : RunListed

-- ---- at a quiet moment

-- nothing is pending
pub record IsSettled (l : Ledger) : Type 0 where
  pub more : l.more ≡ 0
  pub goes : l.goes ≡ 0
  pub less : l.less ≡ 0
  pub frees : l.frees ≡ 0
  pub comes : l.comes ≡ 0

-- then the block is free exactly where no mapping covers it, and once; else its count is how many do; and these are its
-- owners
pub record IsDerived (l : Ledger) : Type 0 where
  pub free : l.covers ≡ 0 → (l.spans ≡ 1) × (l.count ≡ 1)
  pub counted : 1 ≤ l.covers → (l.spans ≡ 0) × (l.count ≡ l.covers)
  pub owners : l.covers ≡ l.owned

abbrev pub SettledIsDerived : Type 0
SettledIsDerived = (l : Ledger) → Sound l → IsSettled l → IsDerived l
