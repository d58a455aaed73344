-- What is read of one fork, of one inode, and of one core's slot.
use Rattle.std.specs.Prelude.{◌≡◌, ℕ, ◌+◌, ◌-◌, ◌*◌, ◌≤◌, ◌^◌, ◌==◌, List, ◌++◌, map, length, Option, Some, None, Result, Ok, Err, Bool, not, ◌&&◌, if◌then◌else◌}
use Rattle.std.specs.Option.{option_or}
use Rattle.dinode_core.specs.Core.{core_of}
use Rattle.dinode_core.specs.ForkTree.{Image, fork_fault, is_tree, met_of, walk_fault}
use Rattle.dinode_core.specs.Inline.{root_level}
use Rattle.dinode_core.specs.Shape.{area_of, count_of}
use Rattle.dinode_core.specs.Frame.{fork_in, list_of}
use Rattle.dinode_core.specs.declared.inode.Core3.{Core3}
use Rattle.dinode_core.specs.declared.mapping.Fork.{Fork}
use Rattle.dinode_core.specs.declared.mapping.Fork.TheVariants as forks
use Rattle.dinode_core.specs.declared.mapping.ForkError.{ForkError}
use Rattle.dinode_core.specs.declared.mapping.ForkError.TheVariants.{Fault, Memory as NoListMemory}
use Rattle.dinode_core.specs.declared.mapping.ForkFault.{ForkFault}
use Rattle.fork_read.specs.Whole.{Follow, HasFault, all_blocks, all_mappings}
use Rattle.dinode_core.specs.declared.mapping.ForkFault.TheVariants as faults
use Rattle.fork_read.specs.declared.fault.ForkPiece.{ForkPiece}
use Rattle.fork_read.specs.declared.fault.ReadFault.{ReadFault}
use Rattle.fork_read.specs.declared.fault.ReadFault.TheVariants.{Fork as IsFork, Core as IsCoreFault, Failed as ReadFailed, Memory as NoMemory}
use Rattle.inode_pass.specs.declared.stop.PassStop.{PassStop}
use Rattle.inode_pass.specs.declared.stop.PassStop.TheVariants.{Failed, Memory}
use Rattle.fs_state.specs.Claims.{read_fork}
use Rattle.fs_state.specs.Contradiction.{bad_fork_of}
use Rattle.fs_model.specs.declared.claim.Evidence.{Evidence}
use Rattle.fs_state.specs.Inodes.{no_fork}
use Rattle.fs_state.specs.State.{ForkList}
use Rattle.geom.specs.Layout.{Layout}
use Rattle.unit_plan.specs.declared.claims.ClaimSet.{ClaimSet}
use Rattle.unit_plan.specs.declared.piece.Piece.{Piece}
use Rattle.fork_pass.specs.Pieces.{block_pieces, blocks_in, mapped_in, mapping_pieces, pieces_for}
use Rattle.fork_pass.specs.Sets.{Adds}
use Rattle.fork_pass.specs.declared.fork.ForkRead.{ForkRead}
use Rattle.fork_pass.specs.declared.fork.ForkRead.TheVariants.{Blocks, Bad}
use Rattle.fork_pass.specs.declared.fork.Met.{Met}

-- what was met is that of pieces one after another from the front on, whose mappings were put; their blocks were read
-- once, and the way down again for each but the first
pub record Come (at : Layout) (image : Image) (core : Core3) (fork : Fork) (old now : List ClaimSet) (met : Met) (before reads : ℕ) : Type 0 where
  pub pieces : List ForkPiece
  pub follow : Follow at image core fork (Some 0) pieces met.next
  pub put : Adds old now (mapping_pieces at fork core.ino (all_mappings pieces))
  pub blocks : met.blocks.items ≡ all_blocks pieces
  pub count : met.count ≡ length (all_mappings pieces)
  pub few : reads ≤ before + length (all_blocks pieces) + root_level (area_of core fork) * (length pieces - 1)

-- one piece more came, or one is refused
abbrev pub HasTaken : Layout → Image → Core3 → Fork → List ClaimSet → List ClaimSet → Met → ℕ → ℕ → Option ForkFault → Type 0
HasTaken at image core fork old now met before reads None = Come at image core fork old now met before reads
HasTaken at image core fork old now met before reads (Some fault) = HasFault (walk_fault at image core fork)

-- the whole fork was read, which has no fault but maybe the number of its mappings, and its mappings were put
pub record IsPut (at : Layout) (image : Image) (core : Core3) (fork : Fork) (old now : List ClaimSet) (met : Met) : Type 0 where
  pub good : walk_fault at image core fork ≡ None
  pub put : Adds old now (mapping_pieces at fork core.ino (met_of at image core fork).mappings)
  pub blocks : met.blocks.items ≡ map (λ b. b.block) (met_of at image core fork).blocks
  pub count : met.count ≡ length (met_of at image core fork).mappings

abbrev pub HasRead : Layout → Image → Core3 → Fork → List ClaimSet → List ClaimSet → Met → Option ForkFault → Type 0
HasRead at image core fork old now met None = IsPut at image core fork old now met
HasRead at image core fork old now met (Some fault) = HasFault (walk_fault at image core fork)

-- why no piece came: the fork's fault, or why the pass ends
abbrev pub IsRefusal : ReadFault → Result (Option ForkFault) PassStop → Type 0
IsRefusal (IsFork fault) result = result ≡ Ok (Some fault)
IsRefusal (IsCoreFault fault) result = result ≡ Ok (Some faults.Format)
IsRefusal ReadFailed result = result ≡ Err Failed
IsRefusal NoMemory result = result ≡ Err Memory

-- what the inode itself shows of a fork is its first fault, or there was no memory
abbrev pub IsShown : ForkError → Result ForkRead PassStop → Type 0
IsShown (Fault fault) result = result ≡ Ok (Bad fault)
IsShown NoListMemory result = result ≡ Err Memory

-- the fork's first fault, or the refusal's where no such is found
abbrev pub worst_of : ForkFault → Option ForkFault → ForkFault
worst_of refusal None = refusal
worst_of refusal (Some fault) = fault

abbrev pub IsWorst : ForkFault → Option ForkFault → ForkRead → Type 0
IsWorst refusal found read = read ≡ Bad (worst_of refusal found)

-- a btree has another number of mappings than its core says
abbrev pub is_number_wrong : Core3 → Fork → ℕ → Bool
is_number_wrong core fork count = is_tree core fork && not (count == count_of core fork)

-- the fork is good, its mappings were put, and these are the blocks of its btree
pub record IsGood (at : Layout) (image : Image) (core : Core3) (fork : Fork) (old now : List ClaimSet) (blocks : List ℕ) : Type 0 where
  pub good : fork_fault at image core fork ≡ None
  pub put : Adds old now (mapping_pieces at fork core.ino (met_of at image core fork).mappings)
  pub blocks_are : blocks ≡ map (λ b. b.block) (met_of at image core fork).blocks

-- so is it, or this is its first fault
abbrev pub IsForkRead : Layout → Image → Core3 → Fork → List ClaimSet → List ClaimSet → ForkRead → Type 0
IsForkRead at image core fork old now (Blocks blocks) = IsGood at image core fork old now blocks.items
IsForkRead at image core fork old now (Bad fault) = fork_fault at image core fork ≡ Some fault

-- the lists of both forks of a core
abbrev pub lists_of : Layout → Image → Core3 → Fork → ForkList
lists_of at image core fork = list_of (met_of at image core fork)

-- what the attribute fork claims, and these blocks of the data fork's btree
abbrev pub rest_pieces : Layout → Image → Core3 → List ℕ → ℕ → List Piece
rest_pieces at image core blocks g =
    mapped_in at core.ino (lists_of at image core) g forks.Attr
    ++ (block_pieces at forks.Data core.ino blocks g ++ blocks_in at core.ino (lists_of at image core) g forks.Attr)

-- this is the first fault of the attribute fork of a core; where there is none, all that was put
pub record IsRestRead (at : Layout) (image : Image) (core : Core3) (blocks : List ℕ) (old now : List ClaimSet) (found : Option ForkFault) : Type 0 where
  pub first : found ≡ fork_fault at image core forks.Attr
  pub put : found ≡ None → Adds old now (rest_pieces at image core blocks)

-- this is the first fault of the two forks of a core, the data fork's before the other's; where there is none, what
-- both claim was put
pub record IsInodeRead (at : Layout) (image : Image) (core : Core3) (old now : List ClaimSet) (found : Option ForkFault) : Type 0 where
  pub first : found ≡ option_or (fork_fault at image core forks.Data) (fork_fault at image core forks.Attr)
  pub put : found ≡ None → Adds old now (pieces_for at core.ino (lists_of at image core))

-- the forks of an inode with these bytes: a free one has none
abbrev pub slot_fork : Layout → Image → List ℕ → Fork → Result ForkList ForkFault
slot_fork at image bytes f = if (core_of bytes).mode == 0 then Ok no_fork else fork_in at image (core_of bytes) f

-- the evidence of an inode with these forks
abbrev pub fault_for : ℕ → (Fork → Result ForkList ForkFault) → Option Evidence
fault_for ino read = option_or (bad_fork_of ino (read forks.Data)) (bad_fork_of ino (read forks.Attr))

-- this is the evidence of an inode with these forks, or what they claim was put
pub record IsSlotRead (at : Layout) (ino : ℕ) (read : Fork → Result ForkList ForkFault) (old now : List ClaimSet) (found : Option Evidence) : Type 0 where
  pub first : found ≡ fault_for ino read
  pub put : found ≡ None → Adds old now (pieces_for at ino (λ f. read_fork (read f)))

-- how many offsets are left from the one on at which the next piece begins
abbrev pub left_behind : Option ℕ → ℕ
left_behind None = 0
left_behind (Some from) = 2 ^ 64 - from
