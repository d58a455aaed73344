-- What a source in memory tells beside what each source tells.
use Rattle.std.specs.Prelude.{◌≡◌, ℕ, List, Option, Some, Contains, drop}
use Rattle.blk_device.specs.Causes.{one_more}
use Rattle.blk_device.specs.declared.given.MemSource.{MemSource}

-- the bytes that are left
abbrev pub left_in : MemSource → Option (List ℕ)
left_in s = Some (drop s.at s.bytes.items)

-- how often it was asked
abbrev pub calls_taken : MemSource → ℕ
calls_taken s = s.asked

-- the numbers of the calls that fail
abbrev pub failing_takes : MemSource → List ℕ
failing_takes s = s.failing.items

-- the next call is one of those that fail
abbrev pub FailsToGive : MemSource → Type 0
FailsToGive s = Contains (failing_takes s) (calls_taken s)

-- one call was asked, and the same calls fail
abbrev pub TakenOnce : MemSource → MemSource → Type 0
TakenOnce old new = (calls_taken new ≡ one_more (calls_taken old)) × (failing_takes new ≡ failing_takes old)
