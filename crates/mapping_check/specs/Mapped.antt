-- How the reverse mappings of a group are judged, once the forks of all inodes were read.
use Rattle.std.specs.Prelude.{◌≡◌, ℕ, true, List, ◌++◌, None}
use Rattle.std.specs.List.Sorted.{IsPermutation}
use Rattle.ag_headers.specs.declared.agf.Agf.{Agf}
use Rattle.fs_state.specs.Chunks.{chunks, inodes}
use Rattle.fs_state.specs.Claims.{claims}
use Rattle.fs_state.specs.Contradiction.{first_bad_fork, first_overlap}
use Rattle.fs_state.specs.Faults.{counter_fault, faults}
use Rattle.fs_model.specs.declared.fault.Counter.TheVariants.{RmapBlocks}
use Rattle.fs_model.specs.declared.fault.Fault.{Fault}
use Rattle.fs_model.specs.declared.unit.Unit.TheVariants as units
use Rattle.fs_state.specs.Kinds.{Image, heads_of}
use Rattle.fs_state.specs.State.{Reading}
use Rattle.geom.specs.Layout.{Layout}
use Rattle.group_trees.specs.Group.{AreTrees}
use Rattle.group_trees.specs.Heads.{heads_seen}
use Rattle.group_trees.specs.declared.group.GroupTrees.{GroupTrees}
use Rattle.group_trees.specs.declared.heads.GroupHeads.{GroupHeads}
use Rattle.inode_pass.specs.Units.{opened_state}
use Rattle.quiet_check.specs.Faults.{blocks_kept, faults_in}
use Rattle.quiet_check.specs.Judged.{Decided, IsJudged}
use Rattle.quiet_check.specs.declared.judge.Judged.{Judged}
use Rattle.rmap_recs.specs.Rmap.{rmap_form}
use Rattle.rmap_recs.specs.declared.records.RmapRec.{RmapRec}
use Rattle.unit_plan.specs.Group.{AreClaimsOf, fork_pieces}
use Rattle.unit_plan.specs.Sets.{IsFirstOverlap, pieces_of}
use Rattle.unit_plan.specs.declared.claims.ClaimSet.{ClaimSet}
use Rattle.unit_plan.specs.declared.piece.Among.TheVariants.{All as AllClaims}
use Rattle.unit_plan.specs.declared.piece.Piece.{Piece}
use Rattle.xref_scrub.specs.Shown.{rmap_shown}

-- No fork is bad, the chunks of the group are these, and the claims of all forks on its blocks are these pieces.
pub record HasForks (at : Layout) (image : Image) (g : ℕ) (us : List ℕ) (ps : List Piece) : Type 0 where
  pub none_bad : first_bad_fork (opened_state at image) ≡ None
  pub chunked : us ≡ chunks (opened_state at image) g
  pub forks : IsPermutation ps (fork_pieces (opened_state at image) g (inodes (opened_state at image)))

-- where that holds, the unit is judged as the state decides
abbrev pub IsMappingJudged : Layout → Image → ℕ → List ℕ → ClaimSet → Judged → Type 0
IsMappingJudged at image g us set judged = HasForks at image g us (pieces_of set) → IsJudged (opened_state at image) g units.Rmap judged

-- the btree against what is derived, and then its counter
unfoldable pub mapping_faults : Agf → List RmapRec → Reading RmapRec → List Fault
mapping_faults agf recs rmap = faults_in rmap_form rmap_shown recs rmap ++ counter_fault RmapBlocks agf.rmap_blocks (blocks_kept true rmap)

-- ---- steps

-- head and trees are those of the image, and the pieces stand for all claims on the group's blocks
pub record AreMaps (at : Layout) (image : Image) (g : ℕ) (agf : Agf) (trees : GroupTrees) (ps : List Piece) : Type 0 where
  pub named : agf ≡ (heads_of at image g).agf
  pub trees_are : AreTrees at image g trees
  pub none_bad : first_bad_fork (opened_state at image) ≡ None
  pub pieces : AreClaimsOf (opened_state at image) g ps

-- what decides by the claims: their first overlap, or the faults
abbrev pub IsClaimDecided : Layout → Image → ℕ → Judged → Type 0
IsClaimDecided at image g judged = Decided (first_overlap (opened_state at image) g (claims (opened_state at image) g)) (faults (opened_state at image) g units.Rmap) judged

abbrev pub AreFaultsOf : Layout → Image → ℕ → Judged → Type 0
AreFaultsOf at image g judged = Decided None (faults (opened_state at image) g units.Rmap) judged

-- no two of the first pieces overlap, and the others are the same in whatever order
pub record AreApart (ps qs : List Piece) : Type 0 where
  pub same : IsPermutation ps qs
  pub none : IsFirstOverlap AllClaims ps None

-- where no two of the first pieces overlap, which stand for all claims, the faults decide
abbrev pub IsApartJudged : Layout → Image → ℕ → Agf → GroupTrees → (ps qs : List Piece) → Judged → Type 0
IsApartJudged at image g agf trees ps qs judged = AreApart ps qs → AreMaps at image g agf trees ps → AreFaultsOf at image g judged

-- the same by the claims of all forks, as the code has them
abbrev pub IsForkDecided : Layout → Image → ℕ → List ℕ → ClaimSet → Judged → Type 0
IsForkDecided at image g us set judged = HasForks at image g us (pieces_of set) → IsClaimDecided at image g judged

-- in each image of which these are the heads and the trees
abbrev pub WhereRead : Layout → ℕ → GroupHeads → GroupTrees → (Image → Type 0) → Type 0
WhereRead at g heads trees P = (image : Image) → heads_seen heads ≡ heads_of at image g → AreTrees at image g trees → P image
