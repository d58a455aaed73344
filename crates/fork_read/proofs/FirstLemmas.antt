-- A fault that the inode itself shows is the fork's first one.
use Rattle.std.proofs.Common.{◌≡◌, Bool, true, false, [], Option, Some, None, refl, ap, sym, ◌∙◌}
use Rattle.geom.specs.Layout.{Layout}
use Rattle.dinode_core.specs.declared.inode.Core3.{Core3}
use Rattle.dinode_core.specs.declared.mapping.Fork.{Fork}
use Rattle.dinode_core.specs.declared.mapping.ForkFault.{ForkFault}
use Rattle.dinode_core.specs.Inline.{first_bad, form_fault, inline_fault, inline_mappings, or_else}
use Rattle.dinode_core.specs.Shape.{format_of, is_absent}
use Rattle.dinode_core.specs.ForkTree.{Image, is_tree, met_of, walk_fault}
use Rattle.fork_read.proofs.RootLemmas.{is_there}

pub or_none : (o : Option ForkFault) → or_else o None ≡ o
or_none None = refl
or_none (Some f) = refl

module _ (at : Layout) (image : Image) (core : Core3) (fork : Fork) where
  -- a fork in btree format has no mapping in its inode
  none_shown : is_tree core fork ≡ true → inline_mappings core fork ≡ []
  unfolding inline_mappings is_tree
  none_shown tree = let there = is_there (is_absent core fork) (format_of core fork) tree in rw (there.0, there.1) refl

  tree_shown : (fault : ForkFault) → is_tree core fork ≡ true → inline_fault at core fork ≡ Some fault → walk_fault at image core fork ≡ Some fault
  unfolding inline_fault walk_fault first_bad
  tree_shown fault tree h =
      let shown : or_else (form_fault core fork) (first_bad at fork []) ≡ Some fault = ap (λ ms. or_else (form_fault core fork) (first_bad at fork ms)) (sym (none_shown tree)) ∙ h in
      let form : form_fault core fork ≡ Some fault = sym (or_none (form_fault core fork)) ∙ shown in
      rw form refl

  inline_shown : (fault : ForkFault) → is_tree core fork ≡ false → inline_fault at core fork ≡ Some fault → walk_fault at image core fork ≡ Some fault
  unfolding inline_fault walk_fault met_of
  inline_shown fault off h = rw (off, or_none (first_bad at fork (inline_mappings core fork))) h

  pub shown_first : (fault : ForkFault) → inline_fault at core fork ≡ Some fault → walk_fault at image core fork ≡ Some fault
  shown_first fault h = by_form (is_tree core fork) refl
    where
      by_form : (b : Bool) → is_tree core fork ≡ b → walk_fault at image core fork ≡ Some fault
      by_form true tree = tree_shown fault tree h
      by_form false off = inline_shown fault off h
