-- What is kept of a tree that couldn't be read stands in the state.
use Rattle.std.proofs.Common.{refl}
use Rattle.fs_state.specs.Frame.{BadTreesStand}
use Rattle.fs_state.specs.Read.{group_of, reading_of}

pub stands : BadTreesStand
unfolding group_of reading_of
stands at image kept g k bad is = record { unread = rw is refl; none = rw is refl; claims = rw is refl }
