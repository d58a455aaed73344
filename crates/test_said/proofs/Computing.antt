-- All that the rows compute with, under one name.
use Rattle.bulk_load.specs.Shapes.{width, start, leaves_for}
use Rattle.byte_fields.specs.Below.{all_below}
use Rattle.derive_defs.specs.ByCount.{ordered_by_count}
use Rattle.derive_defs.specs.Free.{is_free, free_space}
use Rattle.derive_defs.specs.Shared.{sharers}
use Rattle.fs_change.specs.Chains.{is_quiet, pending}
use Rattle.fs_change.specs.Changes.{marked, judged, reserved, released, reaped}
use Rattle.fs_change.specs.Choice.{is_guarded, is_spare, spare_block}
use Rattle.fs_change.specs.Edited.{leaves_faults}
use Rattle.fs_change.specs.Records.{take_span, give_span, give_mapping, take_mapping}
use Rattle.fs_change.specs.Switch.{need_of, without_trees, lost_blocks, prepared, need, limbo_of, moved, switched}
use Rattle.fs_state.specs.Chunks.{chunks, inodes_in, inodes}
use Rattle.fs_state.specs.Claims.{metadata_claims, fork_claims, claims}
use Rattle.fs_state.specs.Contradiction.{first_later, bad_tree, bad_chunk, is_written_data, first_overlap, first_contradiction, first_bad_fork, evidence}
use Rattle.fs_state.specs.Derive.{ino_of, fino_of, bno_of, cnt_of, refc_of, derive}
use Rattle.fs_state.specs.Faults.{wanted, faults}
use Rattle.fs_state.specs.Own.{comes_before, own, rmap_of}
use Rattle.fs_state.specs.Session.{unit_order, verdict_places, first_unready, needed, stands}
use Rattle.fs_said.specs.Said.{was_ready}
use Rattle.fs_state.specs.Apart.{ino_lists, rmap_lists, block_verifies, unit_verifies, has_unit, is_listed, is_chunk, is_inode, is_free as in_spans}
use Rattle.fs_state.specs.Kinds.{form_of}
use Rattle.geom.specs.Numbers.{split}
use Rattle.rmap_recs.specs.Rmap.{is_key_before, is_shareable}
use Rattle.rmap_recs.specs.Runs.{goes_on, followers, runs_of}
use Rattle.rmap_recs.specs.Words.{key_word, is_fork_data, word_goes_on}
use Rattle.run_edits.specs.Edits.{put_rec}
use Rattle.run_sets.specs.Runs.{runs_below}
use Rattle.run_sets.specs.Stretches.{stretches}
use Rattle.span_recs.specs.Spans.{is_before_by_count}
use Rattle.xref_scrub.specs.Differences.{differences}
use Rattle.xref_scrub.specs.Merging.{merged}

unfoldable pub computing : Unit {0}
unfolding all_below width start leaves_for ordered_by_count is_free free_space chunks inodes_in inodes metadata_claims fork_claims claims first_later bad_tree bad_chunk is_written_data first_overlap first_contradiction first_bad_fork evidence ino_of fino_of bno_of cnt_of refc_of derive wanted faults comes_before own rmap_of ino_lists rmap_lists block_verifies unit_verifies has_unit is_listed is_chunk is_inode in_spans leaves_faults form_of split is_key_before is_shareable goes_on followers runs_of key_word is_fork_data word_goes_on put_rec runs_below is_before_by_count differences merged pending is_quiet marked judged reserved released reaped is_guarded is_spare spare_block take_span give_span give_mapping take_mapping need_of without_trees lost_blocks prepared need limbo_of moved switched sharers stretches unit_order verdict_places first_unready needed stands was_ready
computing = tt
