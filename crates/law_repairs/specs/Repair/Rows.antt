-- Rows that compute: why it is asked that a block of metadata has no second claim, and that a reaped run isn't empty.
use Rattle.std.specs.Prelude.{◌≡◌, ◌==◌, ℕ, true, false, [], ◌∷◌, Result, Ok, if◌then◌else◌}
use Rattle.dinode_core.specs.declared.mapping.Fork.{Fork}
use Rattle.dinode_core.specs.declared.mapping.Fork.TheVariants as forks
use Rattle.dinode_core.specs.declared.mapping.ForkFault.{ForkFault}
use Rattle.fs_change.specs.Records.{take_mapping}
use Rattle.fs_change.specs.Switch.{moved}
use Rattle.fs_state.specs.Own.{own}
use Rattle.fs_state.specs.Worked.{listing, mappings, state_with, whole, written}
use Rattle.fs_model.specs.declared.unit.Unit.TheVariants as units
use Rattle.fs_state.specs.State.{State, ForkList, Readable}
use Rattle.rmap_recs.specs.Owners.{number_of}
use Rattle.rmap_recs.specs.Runs.{has}
use Rattle.rmap_recs.specs.declared.owner.Owner.TheVariants.{Ag}
use Rattle.rmap_recs.specs.declared.records.RmapRec.{RmapRec}
use Rattle.rmap_recs.specs.declared.tuples.Tuple.{Tuple}

abbrev pub of_group : ℕ → ℕ → RmapRec
of_group b n = record { start = b; count = n; owner = number_of Ag; word = 0 }

-- block 2 is the root of free space by count, and reverse mappings say so
abbrev pub root : Tuple
root = record { block = 2; owner = number_of Ag; word = 0 }

abbrev pub no_forks : Fork → Result ForkList ForkFault
no_forks f = Ok (record { mappings = []; blocks = [] })

abbrev pub alone : State
alone = record (state_with (16 ∷ 17 ∷ []) listing (Readable (of_group 2 1 ∷ mappings) (5 ∷ [])) whole) { fork = λ ino f. no_forks f }

-- file 64 maps that block too
abbrev pub maps_root : Fork → Result ForkList ForkFault
maps_root forks.Data = Ok (record { mappings = written 0 2 ∷ []; blocks = [] })
maps_root forks.Attr = no_forks forks.Attr

abbrev pub on_root : State
on_root = record alone { fork = λ ino f. if ino == 64 then maps_root f else no_forks f }

pub record Rows : Type 0 where
  -- a switch of free space puts its old root into limbo, so reverse mappings still say who owns it
  pub kept : has (own (moved alone 0 units.Free (λ k. [])) 0) root ≡ true
  -- but not where a file has the block too: then the group owns it no more, and reverse mappings that were right are wrong
  pub before : has (own on_root 0) root ≡ true
  pub lost : has (own (moved on_root 0 units.Free (λ k. [])) 0) root ≡ false
  -- a run of no blocks that loses its owner cuts a record in two
  pub empty_run : take_mapping (of_group 2 0) (of_group 0 4 ∷ []) ≡ of_group 0 2 ∷ of_group 2 2 ∷ []
