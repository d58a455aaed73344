-- A journal without an entry has room.
use Rattle.std.proofs.Common.{◌<◌, [], length, lit<}
use Rattle.fs_model.specs.declared.entry.Entry.{Entry}
use Rattle.space_check.specs.Events.{most_entries}

pub empty_room : length {A = Entry} [] < most_entries
unfolding most_entries
empty_room = lit< tt
