-- Which blocks an answer depends on.
use Rattle.std.specs.Prelude.{◌≡◌, ℕ, List, [], ◌∷◌, Ok}
use Rattle.sblock.specs.Form.{Form}
use Rattle.tree_defs.specs.Levels.{blocks_of}
use Rattle.tree_defs.specs.Lists.{In}
use Rattle.tree_defs.specs.Tree.{top_of, read_tree}
use Rattle.tree_defs.specs.declared.site.Site.{Site}

-- both images have the same bytes in each of these blocks
abbrev pub SameAt : (ℕ → List ℕ) → (ℕ → List ℕ) → List ℕ → Type 0
SameAt m n [] = Unit {0}
SameAt m n (p ∷ ps) = (m p ≡ n p) × SameAt m n ps

-- images that agree in the blocks below the root are read alike
abbrev pub ReadsOwnBlocks : {R K : Type 0} → Form R K → Type 0
ReadsOwnBlocks form = (site : Site) (m n : ℕ → List ℕ) (root levels : ℕ) → SameAt m n (blocks_of form m (top_of levels) root) → read_tree form site n root levels ≡ read_tree form site m root levels

-- a readable tree is read alike where its own blocks stay
abbrev pub StaysReadable : {R K : Type 0} → Form R K → Type 0
StaysReadable {R} {K} form = (site : Site) (m n : ℕ → List ℕ) (root levels : ℕ) (recs : List R) (blocks : List ℕ) → read_tree form site m root levels ≡ Ok (recs, blocks) → ((p : ℕ) → In p blocks → n p ≡ m p) → read_tree form site n root levels ≡ Ok (recs, blocks)
