-- The trees once one of them was read further.
use Rattle.std.proofs.Common.{◌≡◌, ℕ, Bool, true, false, Option, Some}
use Rattle.fs_state.specs.Kinds.{Image, Heads, level_of, root_of}
use Rattle.fs_state.specs.State.{Bad as Known, Kept}
use Rattle.geom.specs.Layout.{Layout}
use Rattle.group_trees.specs.declared.group.GroupTrees.{GroupTrees}
use Rattle.group_trees.specs.declared.reads.TreeSeen.{TreeSeen}
use Rattle.group_trees.specs.declared.reads.TreeSeen.TheVariants as seen
use Rattle.ino_recs.specs.Chunks.{ino_form, fino_form}
use Rattle.ino_recs.specs.declared.chunk.InoRec.{InoRec}
use Rattle.rmap_recs.specs.Rmap.{rmap_form}
use Rattle.rmap_recs.specs.declared.records.RmapRec.{RmapRec}
use Rattle.sblock.specs.Form.{Form}
use Rattle.sblock.specs.declared.kind.Kind.{Kind}
use Rattle.sblock.specs.declared.kind.Kind.TheVariants.{Bno, Cnt, Rmap, Refc, Ino, Fino}
use Rattle.span_recs.specs.Refcounts.{refc_form}
use Rattle.span_recs.specs.Spans.{bno_form, cnt_form}
use Rattle.span_recs.specs.declared.refcount.RefcRec.{RefcRec}
use Rattle.span_recs.specs.declared.span.SpanRec.{SpanRec}
use Rattle.core_units.specs.Standing.{IsBadTree, IsBegun, IsGathered}
use Rattle.core_units.specs.Trees.{AreMade, IsBadKind, IsTreeMade, Passes, kind_behind, reading_behind}

module _ (at : Layout) (image : Image) (kept : Kept) (heads : Heads) (g : ℕ) (old : GroupTrees) where
  pub put_bno : (tree : TreeSeen SpanRec) (done : Bool) → AreMade at image kept heads g (Some Bno) old → IsTreeMade at image kept heads g bno_form tree done → AreMade at image kept heads g (reading_behind Bno done) (record old { bno = tree })
  put_bno tree true m t = record { bno = t; cnt = m.cnt; rmap = m.rmap; refc = m.refc; ino = m.ino; fino = m.fino }
  put_bno tree false m t = record { bno = t; cnt = m.cnt; rmap = m.rmap; refc = m.refc; ino = m.ino; fino = m.fino }

  pub put_cnt : (tree : TreeSeen SpanRec) (done : Bool) → AreMade at image kept heads g (Some Cnt) old → IsTreeMade at image kept heads g cnt_form tree done → AreMade at image kept heads g (reading_behind Cnt done) (record old { cnt = tree })
  put_cnt tree true m t = record { bno = m.bno; cnt = t; rmap = m.rmap; refc = m.refc; ino = m.ino; fino = m.fino }
  put_cnt tree false m t = record { bno = m.bno; cnt = t; rmap = m.rmap; refc = m.refc; ino = m.ino; fino = m.fino }

  pub put_rmap : (tree : TreeSeen RmapRec) (done : Bool) → AreMade at image kept heads g (Some Rmap) old → IsTreeMade at image kept heads g rmap_form tree done → AreMade at image kept heads g (reading_behind Rmap done) (record old { rmap = tree })
  put_rmap tree true m t = record { bno = m.bno; cnt = m.cnt; rmap = t; refc = m.refc; ino = m.ino; fino = m.fino }
  put_rmap tree false m t = record { bno = m.bno; cnt = m.cnt; rmap = t; refc = m.refc; ino = m.ino; fino = m.fino }

  pub put_refc : (tree : TreeSeen RefcRec) (done : Bool) → AreMade at image kept heads g (Some Refc) old → IsTreeMade at image kept heads g refc_form tree done → AreMade at image kept heads g (reading_behind Refc done) (record old { refc = tree })
  put_refc tree true m t = record { bno = m.bno; cnt = m.cnt; rmap = m.rmap; refc = t; ino = m.ino; fino = m.fino }
  put_refc tree false m t = record { bno = m.bno; cnt = m.cnt; rmap = m.rmap; refc = t; ino = m.ino; fino = m.fino }

  pub put_ino : (tree : TreeSeen InoRec) (done : Bool) → AreMade at image kept heads g (Some Ino) old → IsTreeMade at image kept heads g ino_form tree done → AreMade at image kept heads g (reading_behind Ino done) (record old { ino = tree })
  put_ino tree true m t = record { bno = m.bno; cnt = m.cnt; rmap = m.rmap; refc = m.refc; ino = t; fino = m.fino }
  put_ino tree false m t = record { bno = m.bno; cnt = m.cnt; rmap = m.rmap; refc = m.refc; ino = t; fino = m.fino }

  pub put_fino : (tree : TreeSeen InoRec) (done : Bool) → AreMade at image kept heads g (Some Fino) old → IsTreeMade at image kept heads g fino_form tree done → AreMade at image kept heads g (reading_behind Fino done) (record old { fino = tree })
  put_fino tree true m t = record { bno = m.bno; cnt = m.cnt; rmap = m.rmap; refc = m.refc; ino = m.ino; fino = t }
  put_fino tree false m t = record { bno = m.bno; cnt = m.cnt; rmap = m.rmap; refc = m.refc; ino = m.ino; fino = t }

-- a bad tree is gathered once it is known
bad_made : {R K : Type 0} (form : Form R K) (at : Layout) (image : Image) (g root levels : ℕ) (bad : Option Known) (tree : TreeSeen R) → IsBadTree tree → IsBegun form at image g root levels bad tree → IsGathered form at image g root levels bad tree
bad_made form at image g root levels bad (seen.Whole read) is begun = absurd is
bad_made form at image g root levels bad (seen.Bad block fault claims) is begun = begun

-- so it is passed
pub passed : (trees : GroupTrees) (kind : Kind) → IsBadKind trees kind → Passes trees (Some kind) (kind_behind kind)
passed trees Bno is = λ at image kept heads g m. put_bno at image kept heads g trees trees.bno true m (bad_made bno_form at image g (root_of heads Bno) (level_of heads Bno) (kept.bad g Bno) trees.bno is m.bno)
passed trees Cnt is = λ at image kept heads g m. put_cnt at image kept heads g trees trees.cnt true m (bad_made cnt_form at image g (root_of heads Cnt) (level_of heads Cnt) (kept.bad g Cnt) trees.cnt is m.cnt)
passed trees Rmap is = λ at image kept heads g m. put_rmap at image kept heads g trees trees.rmap true m (bad_made rmap_form at image g (root_of heads Rmap) (level_of heads Rmap) (kept.bad g Rmap) trees.rmap is m.rmap)
passed trees Refc is = λ at image kept heads g m. put_refc at image kept heads g trees trees.refc true m (bad_made refc_form at image g (root_of heads Refc) (level_of heads Refc) (kept.bad g Refc) trees.refc is m.refc)
passed trees Ino is = λ at image kept heads g m. put_ino at image kept heads g trees trees.ino true m (bad_made ino_form at image g (root_of heads Ino) (level_of heads Ino) (kept.bad g Ino) trees.ino is m.ino)
passed trees Fino is = λ at image kept heads g m. put_fino at image kept heads g trees trees.fino true m (bad_made fino_form at image g (root_of heads Fino) (level_of heads Fino) (kept.bad g Fino) trees.fino is m.fino)
