-- The six btrees of a group as they are gathered, one after the other.
use Rattle.std.specs.Prelude.{◌≡◌, ℕ, Bool, true, false, Option, Some, None, nat_lt}
use Rattle.fs_state.specs.Kinds.{Image, Heads, level_of, root_of}
use Rattle.fs_state.specs.State.{Bad, Kept}
use Rattle.geom.specs.Layout.{Layout}
use Rattle.group_trees.specs.Trees.{IsSound}
use Rattle.group_trees.specs.declared.group.GroupTrees.{GroupTrees}
use Rattle.group_trees.specs.declared.reads.TreeSeen.{TreeSeen}
use Rattle.ino_recs.specs.Chunks.{ino_form, fino_form}
use Rattle.rmap_recs.specs.Rmap.{rmap_form}
use Rattle.sblock.specs.Form.{Form}
use Rattle.sblock.specs.declared.kind.Kind.{Kind}
use Rattle.sblock.specs.declared.kind.Kind.TheVariants.{Bno, Cnt, Rmap, Refc, Ino, Fino}
use Rattle.span_recs.specs.Refcounts.{refc_form}
use Rattle.span_recs.specs.Spans.{bno_form, cnt_form}
use Rattle.tree_defs.specs.Sites.{bounds_of}
use Rattle.core_units.specs.Standing.{IsBadTree, IsFirm, IsMade}
use Rattle.core_units.specs.declared.trees.BadTree.{BadTree}
use Rattle.core_units.specs.declared.trees.BadTrees.{BadTrees}

-- the tree that is read behind this one
abbrev pub kind_behind : Kind → Option Kind
kind_behind Bno = Some Cnt
kind_behind Cnt = Some Rmap
kind_behind Rmap = Some Refc
kind_behind Refc = Some Ino
kind_behind Ino = Some Fino
kind_behind Fino = None

-- where the reading goes on behind a leaf of this tree
abbrev pub reading_behind : Kind → Bool → Option Kind
reading_behind kind true = kind_behind kind
reading_behind kind false = Some kind

abbrev pub place_of : Kind → ℕ
place_of Bno = 0
place_of Cnt = 1
place_of Rmap = 2
place_of Refc = 3
place_of Ino = 4
place_of Fino = 5

-- the reading has passed the tree
abbrev pub is_past : Option Kind → Kind → Bool
is_past None kind = true
is_past (Some reading) kind = nat_lt (place_of kind) (place_of reading)

module _ (at : Layout) (image : Image) (kept : Kept) (heads : Heads) (g : ℕ) where
  abbrev pub IsTreeFirm : {R K : Type 0} → Form R K → Type 0
  IsTreeFirm form = IsFirm form at image g (root_of heads form.kind) (level_of heads form.kind) (kept.bad g form.kind)

  abbrev pub IsTreeMade : {R K : Type 0} → Form R K → TreeSeen R → Bool → Type 0
  IsTreeMade form tree past = IsMade form at image g (root_of heads form.kind) (level_of heads form.kind) (kept.bad g form.kind) tree past

  -- each tree that isn't known to be bad can be read
  pub record AreFirm : Type 0 where
    pub bno : IsTreeFirm bno_form
    pub cnt : IsTreeFirm cnt_form
    pub rmap : IsTreeFirm rmap_form
    pub refc : IsTreeFirm refc_form
    pub ino : IsTreeFirm ino_form
    pub fino : IsTreeFirm fino_form

  -- those that the reading has passed are gathered, the others are begun
  pub record AreMade (reading : Option Kind) (trees : GroupTrees) : Type 0 where
    pub bno : IsTreeMade bno_form trees.bno (is_past reading Bno)
    pub cnt : IsTreeMade cnt_form trees.cnt (is_past reading Cnt)
    pub rmap : IsTreeMade rmap_form trees.rmap (is_past reading Rmap)
    pub refc : IsTreeMade refc_form trees.refc (is_past reading Refc)
    pub ino : IsTreeMade ino_form trees.ino (is_past reading Ino)
    pub fino : IsTreeMade fino_form trees.fino (is_past reading Fino)

-- where trees were gathered or begun up to the first kind, they are up to the second
abbrev pub Passes : GroupTrees → Option Kind → Option Kind → Type 0
Passes trees before now = (at : Layout) (image : Image) (kept : Kept) (heads : Heads) (g : ℕ) → AreMade at image kept heads g before trees → AreMade at image kept heads g now trees

-- the tree of this kind is bad
abbrev pub IsBadKind : GroupTrees → Kind → Type 0
IsBadKind trees Bno = IsBadTree trees.bno
IsBadKind trees Cnt = IsBadTree trees.cnt
IsBadKind trees Rmap = IsBadTree trees.rmap
IsBadKind trees Refc = IsBadTree trees.refc
IsBadKind trees Ino = IsBadTree trees.ino
IsBadKind trees Fino = IsBadTree trees.fino

-- what is kept of a bad tree
abbrev pub IsKnown : Option BadTree → Option Bad → Type 0
IsKnown None bad = bad ≡ None
IsKnown (Some tree) bad = bad ≡ Some (record { block = tree.block; fault = tree.fault; claims = tree.claims.items })

pub record AreKnown (kept : Kept) (g : ℕ) (trees : BadTrees) : Type 0 where
  pub bno : IsKnown trees.bno (kept.bad g Bno)
  pub cnt : IsKnown trees.cnt (kept.bad g Cnt)
  pub rmap : IsKnown trees.rmap (kept.bad g Rmap)
  pub refc : IsKnown trees.refc (kept.bad g Refc)
  pub ino : IsKnown trees.ino (kept.bad g Ino)
  pub fino : IsKnown trees.fino (kept.bad g Fino)

-- the records of each tree that was read so far rise, each of a supported form and in range
pub record AreSeenSound (at : Layout) (g : ℕ) (trees : GroupTrees) : Type 0 where
  pub bno : IsSound bno_form (bounds_of at g) trees.bno
  pub cnt : IsSound cnt_form (bounds_of at g) trees.cnt
  pub rmap : IsSound rmap_form (bounds_of at g) trees.rmap
  pub refc : IsSound refc_form (bounds_of at g) trees.refc
  pub ino : IsSound ino_form (bounds_of at g) trees.ino
  pub fino : IsSound fino_form (bounds_of at g) trees.fino
