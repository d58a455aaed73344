-- What the trees of a group's free space and reference counts say against their derivation, and how both are judged.
use Rattle.std.specs.Prelude.{◌≡◌, ℕ, List, [], ◌∷◌, length, Option, None, Ok, Err}
use Rattle.ag_headers.specs.declared.agf.Agf.{Agf}
use Rattle.fs_state.specs.Contradiction.{later_fault}
use Rattle.fs_state.specs.Lists.{first_of_all}
use Rattle.fs_model.specs.declared.claim.Evidence.{Evidence}
use Rattle.fs_model.specs.declared.unit.Unit.TheVariants as units
use Rattle.fs_state.specs.Kinds.{Image, heads_of}
use Rattle.geom.specs.Layout.{Layout}
use Rattle.inode_pass.specs.Units.{opened_state}
use Rattle.quiet_check.specs.Judged.{Decided, IsJudged}
use Rattle.quiet_check.specs.declared.judge.Judged.{Judged}
use Rattle.rmap_recs.specs.Rmap.{rmap_form}
use Rattle.rmap_recs.specs.declared.records.RmapRec.{RmapRec}
use Rattle.sblock.specs.declared.kind.Kind.{Kind}
use Rattle.sblock.specs.declared.kind.Kind.TheVariants.{Bno, Cnt, Refc}
use Rattle.space_check.specs.Faults.{Reading, free_faults, shared_faults}
use Rattle.space_check.specs.Groups.{tree_of}
use Rattle.space_check.specs.Reads.{reading_of}
use Rattle.space_check.specs.declared.reads.IndexRead.{IndexRead}
use Rattle.span_recs.specs.declared.refcount.RefcRec.{RefcRec}
use Rattle.span_recs.specs.declared.span.SpanRec.{SpanRec}
use Rattle.tree_blocks.specs.declared.tree.TreeRead.{TreeRead}

-- a tree with a form that isn't supported yet
abbrev pub later_read : {R : Type 0} → Kind → Reading R → Option Evidence
later_read k (Ok read) = None
later_read k (Err bad) = later_fault k bad.0 bad.1

abbrev pub free_evidence : (bno cnt : Reading SpanRec) → Option Evidence
free_evidence bno cnt = first_of_all (later_read Bno bno ∷ later_read Cnt cnt ∷ [])

abbrev pub shared_evidence : Reading RefcRec → Option Evidence
shared_evidence refc = first_of_all (later_read Refc refc ∷ [])

-- by what was read of the trees
abbrev pub IsFreeDecided : ℕ → Agf → TreeRead RmapRec → (bno cnt : IndexRead SpanRec) → Judged → Type 0
IsFreeDecided len agf mapped bno cnt judged =
    Decided (free_evidence (reading_of bno) (reading_of cnt)) (free_faults len agf mapped.recs.items (length mapped.blocks.items) (reading_of bno) (reading_of cnt)) judged

abbrev pub IsSharedDecided : Agf → List RmapRec → IndexRead RefcRec → Judged → Type 0
IsSharedDecided agf mappings refc judged = Decided (shared_evidence (reading_of refc)) (shared_faults agf mappings (reading_of refc)) judged

-- head and reverse mappings are those of the image
pub record IsMapped (at : Layout) (image : Image) (g : ℕ) (agf : Agf) (mapped : TreeRead RmapRec) : Type 0 where
  pub named : agf ≡ (heads_of at image g).agf
  pub mapped_is : tree_of at image g rmap_form agf.rmap_root agf.rmap_level ≡ Ok (mapped.recs.items, mapped.blocks.items)

-- with these, the unit is judged as the state decides
abbrev pub IsFreeJudged : Layout → Image → ℕ → Agf → TreeRead RmapRec → Judged → Type 0
IsFreeJudged at image g agf mapped judged = IsMapped at image g agf mapped → IsJudged (opened_state at image) g units.Free judged

abbrev pub IsSharedJudged : Layout → Image → ℕ → Agf → TreeRead RmapRec → Judged → Type 0
IsSharedJudged at image g agf mapped judged = IsMapped at image g agf mapped → IsJudged (opened_state at image) g units.Refc judged
