-- The trees of a group as they are read are those of the state that the image stands for right after it was opened.
use Rattle.std.proofs.Common.{◌≡◌, ℕ, List, Ok, Err, refl}
use Rattle.fs_state.specs.Kinds.{Image, form_of, heads_of}
use Rattle.fs_state.specs.Read.{Read, bad_in, claimed, group_of, known, opened, walked}
use Rattle.fs_state.specs.Read.{reading_of as reading_in}
use Rattle.geom.specs.Layout.{Layout}
use Rattle.ino_recs.specs.Chunks.{ino_form, fino_form}
use Rattle.inode_pass.specs.Units.{opened_state}
use Rattle.group_trees.specs.Trees.{read_as, tree_by, tree_claimed, tree_walked}
use Rattle.rmap_recs.specs.Rmap.{rmap_form}
use Rattle.sblock.specs.declared.kind.Kind.{Kind}
use Rattle.sblock.specs.declared.kind.Kind.TheVariants.{Bno, Cnt, Rmap, Refc, Ino, Fino}
use Rattle.span_recs.specs.Refcounts.{refc_form}
use Rattle.span_recs.specs.Spans.{bno_form, cnt_form}

known_as : {R : Type 0} (r : Read R) (cs : List ℕ) → known (bad_in r cs) r cs ≡ read_as r cs
known_as (Ok read) cs = refl
known_as (Err fault) cs = refl

module _ (at : Layout) (image : Image) (g : ℕ) where
  reading_said : (k : Kind) → reading_in at image (opened at image) g k ≡ read_as (walked at image g k) (claimed at image g k)
  unfolding reading_in opened
  reading_said k = known_as (walked at image g k) (claimed at image g k)

  pub bno_said : (((opened_state at image).group g).tree Bno).reading ≡ tree_by bno_form at image g
  unfolding group_of walked claimed form_of tree_by tree_walked tree_claimed
  bno_said = reading_said Bno

  pub cnt_said : (((opened_state at image).group g).tree Cnt).reading ≡ tree_by cnt_form at image g
  unfolding group_of walked claimed form_of tree_by tree_walked tree_claimed
  cnt_said = reading_said Cnt

  pub rmap_said : (((opened_state at image).group g).tree Rmap).reading ≡ tree_by rmap_form at image g
  unfolding group_of walked claimed form_of tree_by tree_walked tree_claimed
  rmap_said = reading_said Rmap

  pub refc_said : (((opened_state at image).group g).tree Refc).reading ≡ tree_by refc_form at image g
  unfolding group_of walked claimed form_of tree_by tree_walked tree_claimed
  refc_said = reading_said Refc

  pub ino_said : (((opened_state at image).group g).tree Ino).reading ≡ tree_by ino_form at image g
  unfolding group_of walked claimed form_of tree_by tree_walked tree_claimed
  ino_said = reading_said Ino

  pub fino_said : (((opened_state at image).group g).tree Fino).reading ≡ tree_by fino_form at image g
  unfolding group_of walked claimed form_of tree_by tree_walked tree_claimed
  fino_said = reading_said Fino

  pub list_said : ((opened_state at image).group g).free_list ≡ (heads_of at image g).list
  unfolding group_of
  list_said = refl
