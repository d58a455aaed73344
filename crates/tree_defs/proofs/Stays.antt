-- A readable tree is read alike where its own blocks stay.
use Rattle.std.proofs.Common.{◌≡◌, ℕ, List, [], ◌∷◌, Ok, refl, ap, sym, subst, ◌∙◌, inl, inr}
use Rattle.sblock.specs.Form.{Form, IsLawful}
use Rattle.tree_defs.specs.Frame.{SameAt, StaysReadable}
use Rattle.tree_defs.specs.Levels.{blocks_of}
use Rattle.tree_defs.specs.Lists.{In}
use Rattle.tree_defs.specs.Tree.{top_of, read_tree}
use Rattle.tree_defs.specs.declared.site.Site.{Site}
use Rattle.tree_defs.proofs.Frames.{reads_own_blocks_lem}
use Rattle.tree_defs.proofs.Trees.{is_level, reads_trees_lem}

same_all : (m n : ℕ → List ℕ) (ps : List ℕ) → ((p : ℕ) → In p ps → n p ≡ m p) → SameAt m n ps
same_all m n [] h = tt
same_all m n (p ∷ ps) h = (sym (h p (inl refl)), same_all m n ps (λ q i. h q (inr i)))

pub tree_stays : {R K : Type 0} (form : Form R K) → IsLawful form → (site : Site) (m n : ℕ → List ℕ) (root levels : ℕ) (x : List R × List ℕ) → read_tree form site m root levels ≡ Ok x → ((p : ℕ) → In p x.1 → n p ≡ m p) → read_tree form site n root levels ≡ Ok x
tree_stays form law site m n root levels x read same =
    let t = (reads_trees_lem form law site m root levels x.0 x.1).0 read in
    let bs : x.1 ≡ blocks_of form m (top_of levels) root = t.blocks_are ∙ ap (λ l. blocks_of form m l root) (sym (is_level levels t.has_levels)) in
    reads_own_blocks_lem form site m n root levels (subst (SameAt m n) bs (same_all m n x.1 same)) ∙ read

pub stays_readable_lem : {R K : Type 0} (form : Form R K) → IsLawful form → StaysReadable form
stays_readable_lem form law site m n root levels recs blocks read same = tree_stays form law site m n root levels (recs, blocks) read same
