use Rattle.std.specs.Prelude.{refl}
use Rattle.byte_fields.specs.Below.{all_below}
use Rattle.fs_state.specs.Chunks.{chunks, inodes_in, inodes}
use Rattle.fs_state.specs.Claims.{metadata_claims, fork_claims, claims}
use Rattle.fs_state.specs.Contradiction.{first_later, bad_tree, bad_chunk, is_written_data, first_overlap, first_contradiction, first_bad_fork, evidence}
use Rattle.fs_state.specs.Derive.{ino_of, fino_of}
use Rattle.fs_state.specs.Apart.{ino_lists, rmap_lists, block_verifies, unit_verifies, has_unit, is_listed, is_chunk}
use Rattle.geom.specs.Numbers.{split}
use Rattle.fs_state.proofs.derive_laws.worked_image.Goals as goal

pub returns : goal.returns
unfolding all_below chunks inodes_in inodes metadata_claims fork_claims claims first_later bad_tree bad_chunk is_written_data first_overlap first_contradiction first_bad_fork evidence ino_of fino_of ino_lists rmap_lists block_verifies unit_verifies has_unit is_listed is_chunk split
returns c = record {
  claimed = refl;
  shared = refl;
  is_chunk = refl;
  no_chunk = refl;
  full = refl;
  none_free = refl;
  frees_one = refl;
  has_free = refl;
  overlap = refl;
  lowest = refl;
  lowest_fork = refl;
  data_first = refl;
  besides = refl;
  core = refl;
  unlisted = refl;
  later = refl;
}
