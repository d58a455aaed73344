-- The reverse mappings that free space and reference counts are read off.
use Rattle.std.proofs.Common.{◌≡◌, ℕ, Bool, true, false, List, get_or, Option, Some, None, refl, ap, sym, ◌∙◌}
use Rattle.ag_headers.specs.declared.agf.Agf.{Agf}
use Rattle.fs_state.specs.Session.{Place}
use Rattle.fs_model.specs.declared.unit.Unit.TheVariants as units
use Rattle.fs_state.specs.Kinds.{Image, heads_of}
use Rattle.fs_state.specs.Read.{Read}
use Rattle.fs_state.specs.State.{Reading, Readable, Unreadable}
use Rattle.geom.specs.Layout.{Layout}
use Rattle.group_trees.proofs.StateLemmas.{rmap_said}
use Rattle.group_trees.specs.Trees.{read_as, tree_by, tree_claimed, tree_walked}
use Rattle.inode_pass.specs.Units.{opened_state}
use Rattle.rmap_recs.specs.Rmap.{rmap_form}
use Rattle.rmap_recs.specs.declared.records.RmapRec.{RmapRec}
use Rattle.sblock.specs.declared.block.BlockFault.{BlockFault}
use Rattle.sblock.specs.declared.kind.Kind.TheVariants.{Rmap}
use Rattle.space_check.specs.Groups.{tree_of}
use Rattle.space_check.specs.Reads.{reading_of}
use Rattle.space_check.specs.declared.reads.IndexRead.{IndexRead}
use Rattle.space_check.specs.declared.reads.IndexRead.TheVariants.{Bad}
use Rattle.check_phases.specs.Checks.{HasMappings}
use Rattle.check_phases.specs.Phases.{lacks_mappings, mapping_lacked}

rmap_by : (at : Layout) (image : Image) (g : ℕ) (agf : Agf) → agf ≡ (heads_of at image g).agf
    → (((opened_state at image).group g).tree Rmap).reading ≡ read_as (tree_of at image g rmap_form agf.rmap_root agf.rmap_level) (tree_claimed rmap_form at image g agf.rmap_root agf.rmap_level)
unfolding tree_by tree_walked tree_of
rmap_by at image g agf named = rmap_said at image g ∙ (λ i. tree_by_head (sym named i)) where
  tree_by_head : Agf → Reading RmapRec
  tree_by_head h = read_as (tree_of at image g rmap_form h.rmap_root h.rmap_level) (tree_claimed rmap_form at image g h.rmap_root h.rmap_level)

not_both : (recs : List RmapRec) (blocks : List ℕ) (block : ℕ) (fault : BlockFault) (claims : List ℕ) → ◌≡◌ {A = Reading RmapRec} (Readable recs blocks) (Unreadable block fault claims) → ⊥
not_both recs blocks block fault claims e = cc

-- reverse mappings that can be read aren't found bad
pub never_bad : (at : Layout) (image : Image) (g : ℕ) (agf : Agf) (index : IndexRead RmapRec) (block : ℕ) (fault : BlockFault) → agf ≡ (heads_of at image g).agf → tree_of at image g rmap_form agf.rmap_root agf.rmap_level ≡ reading_of index → index ≡ Bad block fault → HasMappings (opened_state at image) g → ⊥
never_bad at image g agf index block fault named read bad has =
    let claims = tree_claimed rmap_form at image g agf.rmap_root agf.rmap_level in
    not_both has.0 has.1 block fault claims (sym has.2 ∙ rmap_by at image g agf named ∙ ap (λ (r : Read RmapRec). read_as r claims) (read ∙ ap reading_of bad))

lacks_none : (b : Bool) (g : ℕ) → mapping_lacked b g ≡ None → b ≡ true
lacks_none true g e = refl
lacks_none false g e = absurd (some_none _ e) where
  some_none : (p : Place) → ◌≡◌ {A = Option Place} (Some p) None → ⊥
  some_none p k = cc

pub passed_if_none : (passed : List Bool) (g : ℕ) → lacks_mappings passed g ≡ None → get_or passed g false ≡ true
unfolding lacks_mappings
passed_if_none passed g e = lacks_none (get_or passed g false) g e

-- what is lacked are the reverse mappings of the group itself
lacked_by : (b : Bool) (g : ℕ) (needed : Place) → mapping_lacked b g ≡ Some needed → needed ≡ (g, units.Rmap)
lacked_by true g needed e = absurd (none_some needed e) where
  none_some : (p : Place) → ◌≡◌ {A = Option Place} None (Some p) → ⊥
  none_some p k = cc
lacked_by false g needed e = cc

pub lacked_is : (passed : List Bool) (g : ℕ) (needed : Place) → lacks_mappings passed g ≡ Some needed → needed ≡ (g, units.Rmap)
unfolding lacks_mappings
lacked_is passed g needed e = lacked_by (get_or passed g false) g needed e
