-- What finding, and reading the next leaf, answers on a readable tree.
use Rattle.std.specs.Prelude.{◌≡◌, ℕ, true, List, Option, Ok}
use Rattle.sblock.specs.Form.{Form, same_key}
use Rattle.sblock.specs.declared.block.Bounds.{Bounds}
use Rattle.tree_defs.specs.Tree.{read_tree}
use Rattle.tree_defs.specs.declared.site.Site.{Site}
use Rattle.tree_find.specs.Find.{record_with, find_in}
use Rattle.tree_find.specs.Next.{next_in, AreNext}

module _ {R K : Type 0} (form : Form R K) where
  -- the tree of this root and count of levels is readable, with these records
  abbrev pub Holds : Site → (ℕ → List ℕ) → ℕ → ℕ → List R → Type 0
  Holds site m root levels recs = (blocks : List ℕ) × (read_tree form site m root levels ≡ Ok (recs, blocks))

  -- what holds of the records of such a tree
  abbrev pub WhereHolds : Site → (ℕ → List ℕ) → ℕ → ℕ → (List R → Type 0) → Type 0
  WhereHolds site m root levels P = (recs : List R) → Holds site m root levels recs → P recs

  -- in such a tree the record of these with an equal key is found
  abbrev pub FindsInTrees : Type 0
  FindsInTrees = (site : Site) (m : ℕ → List ℕ) (root levels : ℕ) (recs : List R) (key : K) → Holds site m root levels recs → find_in form site m root levels key ≡ Ok (record_with form key recs)

  -- and the next leaf's records are the first ones of these above the key
  abbrev pub GivesNextInTrees : Type 0
  GivesNextInTrees = (site : Site) (m : ℕ → List ℕ) (root levels : ℕ) (recs : List R) (after : Option K) → Holds site m root levels recs → (rs : List R) × (next_in form site m root levels after ≡ Ok rs) × AreNext form after recs rs

  -- a record with an equal key, of a supported form, with its numbers in range
  pub record IsFound (bounds : Bounds) (key : K) (rec : R) : Type 0 where
    pub equal : same_key form (form.key_of rec) key ≡ true
    pub inside : form.is_in_range bounds rec ≡ true
    pub supported : form.is_supported rec ≡ true
