-- What pieces that stand for the claims on a group's blocks say of the group.
use Rattle.std.specs.Prelude.{◌≡◌, ℕ, List, Option, None}
use Rattle.fs_state.specs.Claims.{claims}
use Rattle.fs_state.specs.Contradiction.{first_overlap}
use Rattle.fs_state.specs.Own.{rmap_of}
use Rattle.fs_model.specs.declared.claim.Evidence.{Evidence}
use Rattle.fs_state.specs.Kinds.{Image}
use Rattle.fs_state.specs.Read.{state_of}
use Rattle.fs_state.specs.State.{Kept, State}
use Rattle.geom.specs.Apart.{HasFitting}
use Rattle.geom.specs.Layout.{Layout}
use Rattle.rmap_recs.specs.declared.records.RmapRec.{RmapRec}
use Rattle.unit_plan.specs.Group.{AreClaimsOf, AreGoodForks}
use Rattle.unit_plan.specs.Joined.{AreRunsOf, ClaimOnce}
use Rattle.unit_plan.specs.Sets.{IsFirstOverlap}
use Rattle.unit_plan.specs.declared.piece.Among.TheVariants.{All as AllClaims}
use Rattle.unit_plan.specs.declared.piece.Piece.{Piece}

-- their first overlap is the group's
abbrev pub OverlapOfGroup : Type 0
OverlapOfGroup = (a : State) (g : ℕ) (ps : List Piece) (e : Option Evidence) → HasFitting a.geometry → AreGoodForks a → AreClaimsOf a g ps
    → IsFirstOverlap AllClaims ps e → e ≡ first_overlap a g (claims a g)

-- where there is none, their runs are what the group's reverse mappings must be
abbrev pub MappingsOfGroup : Type 0
MappingsOfGroup = (a : State) (g : ℕ) (ps : List Piece) (recs : List RmapRec) → HasFitting a.geometry → AreGoodForks a → AreClaimsOf a g ps
    → IsFirstOverlap AllClaims ps None → (ClaimOnce ps → AreRunsOf ps recs) → recs ≡ rmap_of a g

-- an image's forks that can be read are good
abbrev pub ForksAreGood : Type 0
ForksAreGood = (at : Layout) (image : Image) (kept : Kept) → AreGoodForks (state_of at image kept)
