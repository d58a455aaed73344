use Rattle.std.specs.Prelude.{refl}
use Rattle.bulk_load.specs.Shapes.{width, start, leaves_for}
use Rattle.rmap_recs.specs.Words.{key_word, is_fork_data, word_goes_on}
use Rattle.rmap_recs.specs.Rmap.{is_key_before}
use Rattle.run_edits.specs.Edits.{put_rec}
use Rattle.span_recs.specs.Spans.{is_before_by_count}
use Rattle.fs_change.specs.Choice.{is_guarded}
use Rattle.fs_change.specs.Records.{take_span, give_span, give_mapping, take_mapping, count_at, stretch, set_count, turn_inode, follow_inode, add_mapping, take_piece}
use Rattle.fs_change.specs.Switch.{need_of}
use Rattle.fs_change.proofs.laws.worked_records.Goals as goal

pub returns : goal.returns
unfolding width start leaves_for key_word is_fork_data word_goes_on is_key_before put_rec is_before_by_count is_guarded take_span give_span give_mapping take_mapping count_at stretch set_count turn_inode follow_inode add_mapping take_piece need_of
returns c = record {
  space = record { front = refl; middle = refl; whole = refl; beyond = refl; between = refl; alone = refl; behind = refl; counted = refl; cut = refl; more = refl; less = refl };
  mappings = record { joined = refl; offset = refl; other = refl; middle = refl; first = refl; guarded = refl; unguarded = refl };
  counts = record { there = refl; none = refl; reach = refl; beyond = refl; empty = refl; meets = refl; last = refl; hidden = refl; risen = refl; gone = refl; begun = refl };
  inodes = record { taken = refl; given = refl; listed = refl; unlisted = refl };
  forks = record { before = refl; beside = refl; groups = refl; both = refl; most = refl; cut = refl };
  trees = record { empty = refl; leaf = refl; root = refl; mapped = refl; nodes = refl; pairs = refl };
  faults = record { sound = refl; not_free = refl; left_over = refl; hidden = refl; behind = refl; given_behind = refl; taken_before = refl; counted_behind = refl; listed = refl; unlisted = refl; twice_free = refl; neighbour = refl; lost = refl; not_owned = refl; gained = refl; same_key = refl; turned = refl; not_turned = refl; nothing_to_turn = refl; risen = refl; beyond = refl; greatest = refl; too_great = refl; freed = refl; not_listed = refl; listed_full = refl };
}
