-- Where the inode btrees of all groups are, group by group.
use Rattle.std.proofs.Common.{◌≡◌, ℕ, ◌+◌, ◌<◌, List, [], ◌∷◌, ◌++◌, length, refl, ap, sym, subst, ◌∙◌, append-nil, arith}
use Rattle.std.proofs.lemmas.List.{append_assoc}
use Rattle.inode_scan.specs.Cursor.{AllInoTrees}
use Rattle.tree_blocks.specs.declared.tree.TreeAt.{TreeAt}
use Rattle.core_parts.specs.Opens.Inodes.{are_trees, tree_of}
use Rattle.core_parts.specs.declared.groups.GroupKept.{GroupKept}

pub trees_more : (made trees all : List TreeAt) (g : ℕ) (kept : GroupKept) (rest later : List GroupKept) → rest ≡ kept ∷ later → trees ≡ made ++ tree_of g kept ∷ [] → made ++ are_trees g rest ≡ all → trees ++ are_trees (g + 1) later ≡ all
trees_more made trees all g kept rest later is put left =
    ap (λ ts. ts ++ are_trees (g + 1) later) put ∙ append_assoc made (tree_of g kept ∷ []) (are_trees (g + 1) later) ∙ ap (λ ks. made ++ are_trees g ks) (sym is) ∙ left

inside_more : (n g : ℕ) (kept : GroupKept) (made : List TreeAt) → g < n → AllInoTrees n made → AllInoTrees n (made ++ tree_of g kept ∷ [])
inside_more n g kept [] below are = (record { kind = refl; group = below }, tt)
inside_more n g kept (t ∷ ts) below are = (are.0, inside_more n g kept ts below are.1)

pub trees_inside : (n g : ℕ) (kept : GroupKept) (made trees : List TreeAt) → g < n → trees ≡ made ++ tree_of g kept ∷ [] → AllInoTrees n made → AllInoTrees n trees
trees_inside n g kept made trees below put are = subst (AllInoTrees n) (sym put) (inside_more n g kept made below are)

pub trees_end : (made all : List TreeAt) (g : ℕ) (rest : List GroupKept) → length rest ≡ 0 → made ++ are_trees g rest ≡ all → made ≡ all
trees_end made all g [] none left = sym (append-nil made) ∙ left
trees_end made all g (kept ∷ more) none left = absurd (omega (arith, none))
