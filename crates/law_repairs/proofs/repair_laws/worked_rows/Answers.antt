use Rattle.byte_fields.specs.Below.{all_below}
use Rattle.bulk_load.specs.Shapes.{leaves_for, start, width}
use Rattle.derive_defs.specs.ByCount.{ordered_by_count}
use Rattle.derive_defs.specs.Free.{free_space, is_free}
use Rattle.fs_change.specs.Records.{take_mapping}
use Rattle.fs_change.specs.Switch.{limbo_of, lost_blocks, moved, need, need_of, prepared, without_trees}
use Rattle.fs_state.specs.Chunks.{chunks, inodes, inodes_in}
use Rattle.fs_state.specs.Claims.{claims, fork_claims, metadata_claims}
use Rattle.fs_state.specs.Derive.{bno_of, cnt_of, derive}
use Rattle.fs_state.specs.Own.{comes_before, own}
use Rattle.fs_state.specs.Apart.{block_verifies, has_unit, ino_lists, is_chunk, is_listed, rmap_lists, unit_verifies}
use Rattle.geom.specs.Numbers.{split}
use Rattle.law_repairs.proofs.repair_laws.worked_rows.Goals as goal
use Rattle.rmap_recs.specs.Rmap.{is_key_before}
use Rattle.rmap_recs.specs.Words.{is_fork_data, key_word, word_goes_on}
use Rattle.run_edits.specs.Edits.{put_rec}
use Rattle.run_sets.specs.Runs.{runs_below}
use Rattle.span_recs.specs.Spans.{is_before_by_count}
use Rattle.std.proofs.Common.{refl}

pub returns : goal.returns
unfolding all_below width start leaves_for ordered_by_count is_free free_space chunks inodes_in inodes metadata_claims fork_claims claims bno_of cnt_of derive comes_before own ino_lists rmap_lists block_verifies unit_verifies has_unit is_listed is_chunk split is_key_before key_word is_fork_data word_goes_on put_rec runs_below is_before_by_count need_of without_trees lost_blocks prepared need limbo_of moved take_mapping
returns c = record { kept = refl; before = refl; lost = refl; empty_run = refl }
