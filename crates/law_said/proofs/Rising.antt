-- The records of a tree rise, and so do those that it should hold.
use Rattle.std.proofs.Common.{◌≡◌, ℕ, List, [], ◌∷◌, refl, Option, Some, None, Ok, Err}
use Rattle.derive_defs.proofs.ByCountLemmas.{by_count_if_only}
use Rattle.derive_defs.proofs.SharedLemmas.{shared_rise}
use Rattle.derive_defs.proofs.SpaceLemmas.{free_rise}
use Rattle.fs_state.specs.Derive.{bno_of, cnt_of, derive, fino_of, ino_of, mappings, refc_of}
use Rattle.fs_state.specs.Records.{kinds_of}
use Rattle.fs_state.specs.Laws.{DoRise, EachTree}
use Rattle.fs_state.specs.Own.{own, rmap_of}
use Rattle.fs_model.specs.declared.unit.Unit.TheVariants as units
use Rattle.fs_state.proofs.Trees.{lawful_of}
use Rattle.fs_state.specs.Kinds.{Image, RecOf, form_of, heads_of, level_of, root_of}
use Rattle.fs_state.specs.Read.{Read, claimed, group_of, known, reading_of, state_of, walked}
use Rattle.fs_state.specs.State.{Bad, Kept, State, recs_of}
use Rattle.geom.specs.Layout.{Layout, group_len_of}
use Rattle.index_derive.proofs.LawLemmas.{fino_if, ino_if}
use Rattle.law_repairs.specs.Order.Ordered.{OrderHasOwners}
use Rattle.rmap_recs.specs.Runs.{AreRuns}
use Rattle.sblock.specs.Blocks.{IsRising}
use Rattle.sblock.specs.declared.kind.Kind.{Kind}
use Rattle.sblock.specs.declared.kind.Kind.TheVariants.{Bno, Cnt, Rmap, Refc, Ino, Fino}
use Rattle.tree_defs.proofs.Trees.{reads_trees_lem}
use Rattle.tree_defs.specs.Sites.{group_blocks, site_of}
use Rattle.law_said.specs.Truth.{ImagesRise}

-- ---- what is read

reading_rises : (k : Kind) (bad : Option Bad) (read : Read (RecOf k)) (claims : List ℕ) → ((x : List (RecOf k) × List ℕ) → read ≡ Ok x → IsRising (form_of k) x.0)
    → IsRising (form_of k) (recs_of (known bad read claims))
reading_rises k (Some b) read claims h = tt
reading_rises k None (Ok x) claims h = h x refl
reading_rises k None (Err f) claims h = tt

walk_rises : (at : Layout) (image : Image) (g : ℕ) (k : Kind) (x : List (RecOf k) × List ℕ) → walked at image g k ≡ Ok x → IsRising (form_of k) x.0
unfolding walked
walk_rises at image g k x h =
    ((reads_trees_lem (form_of k) (lawful_of k) (site_of at g) (group_blocks (site_of at g) image) (root_of (heads_of at image g) k) (level_of (heads_of at image g) k) x.0 x.1).0 h).rises

tree_rises : (at : Layout) (image : Image) (kept : Kept) (g : ℕ) (k : Kind) → IsRising (form_of k) (recs_of (((state_of at image kept).group g).tree k).reading)
unfolding group_of reading_of
tree_rises at image kept g k = reading_rises k (kept.bad g k) (walked at image g k) (claimed at image g k) (walk_rises at image g k)

-- ---- what should be there

derived_rises : (a : State) (g : ℕ) → AreRuns (own a g) (rmap_of a g) → (k : Kind) → IsRising (form_of k) (derive a g k)
unfolding derive form_of bno_of cnt_of refc_of
derived_rises a g runs Bno = free_rise (group_len_of a.geometry g) (mappings a g) (bno_of a g) refl
derived_rises a g runs Cnt = (by_count_if_only (bno_of a g) (cnt_of a g) (free_rise (group_len_of a.geometry g) (mappings a g) (bno_of a g) refl) refl).rising
derived_rises a g runs Rmap = runs.rising
derived_rises a g runs Refc = shared_rise (mappings a g) (refc_of a g) refl
derived_rises a g runs Ino = (ino_if a g (ino_of a g) refl).rising
derived_rises a g runs Fino = (fino_if a g (fino_of a g) refl).rising

-- ---- both

each_rises : (at : Layout) (image : Image) (kept : Kept) (g : ℕ) → AreRuns (own (state_of at image kept) g) (rmap_of (state_of at image kept) g) → (ks : List Kind) → EachTree (DoRise (state_of at image kept) g) ks
each_rises at image kept g runs [] = tt
each_rises at image kept g runs (k ∷ ks) = ((tree_rises at image kept g k, derived_rises (state_of at image kept) g runs k), each_rises at image kept g runs ks)

pub images_rise : OrderHasOwners → ImagesRise
images_rise law at image kept g unit fit order = each_rises at image kept g (law (state_of at image kept) g units.Rmap fit order).runs (kinds_of unit)
