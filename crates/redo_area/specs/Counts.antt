-- How the count of reads goes on over a call that reads several blocks.
use Rattle.std.specs.Prelude.{◌≡◌, ℕ, zero, suc, ◌≤◌}
use Rattle.blk_device.specs.Causes.{one_more}

-- raised by one so often
abbrev pub raised : ℕ → ℕ → ℕ
raised n zero = n
raised n (suc k) = one_more (raised n k)

-- raised by one at most so often
abbrev pub RaisedUpTo : ℕ → ℕ → ℕ → Type 0
RaisedUpTo most before now = (k : ℕ) × (k ≤ most) × (now ≡ raised before k)
