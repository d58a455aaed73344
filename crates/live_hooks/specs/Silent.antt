-- A listener that ignores all.
use Rattle.std.specs.Prelude.{ℕ, ◌^◌}
use Rattle.live_hooks.specs.Meaning.{AnyOrder}

-- it stands for whatever lists
abbrev pub StandsForAll : Type 0
StandsForAll = Unit {0}

-- it needs no memory for any number of calls that can be named
abbrev pub all_room : ℕ
all_room = 2 ^ 32

pub any_order_of_all : AnyOrder (λ vs os. StandsForAll)
any_order_of_all vs ws os ps inodes owned holds = tt
