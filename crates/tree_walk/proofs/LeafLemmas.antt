-- A leaf's records taken one after the other.
use Rattle.std.proofs.Common.{◌≡◌, ℕ, ◌<◌, List, [], ◌∷◌, ◌++◌, refl, ap, ◌∙◌, append_assoc}
use Rattle.std.proofs.lemmas.List.{append-nil}
use Rattle.sblock.specs.Area.{area_of}
use Rattle.sblock.specs.Blocks.{numrecs, records_of, AllInside}
use Rattle.sblock.specs.Form.{Form}
use Rattle.sblock.specs.declared.block.Bounds.{Bounds}
use Rattle.tree_defs.specs.Tree.{Trail, with_recs}
use Rattle.tree_defs.proofs.EachLemmas.{each_item}
use Rattle.std.proofs.Common.{true}

pub in_range : {R K : Type 0} (form : Form R K) (bounds : Bounds) (bytes : List ℕ) (i : ℕ) → AllInside form bounds (records_of form bytes) → i < numrecs bytes → form.is_in_range bounds (form.record_at (area_of bytes) i) ≡ true
unfolding records_of
in_range form bounds bytes i h lt = each_item (form.is_in_range bounds) (form.record_at (area_of bytes)) (numrecs bytes) i h lt

recs_more : {R : Type 0} (t : Trail R) (rs : List R) (r : R) → with_recs (with_recs t rs) (r ∷ []) ≡ with_recs t (rs ++ r ∷ [])
unfolding with_recs
recs_more t rs r = rw (append_assoc t.recs rs (r ∷ [])) refl

pub no_recs : {R : Type 0} (t : Trail R) → t ≡ with_recs t []
unfolding with_recs
no_recs t = rw (append-nil t.recs) refl

one_more : {R : Type 0} (t : Trail R) (r : R) → record { before = t.before; next = t.next; recs = t.recs ++ r ∷ []; blocks = t.blocks } ≡ with_recs t (r ∷ [])
unfolding with_recs
one_more t r = refl

-- a record is pushed
pub pushed : {R : Type 0} (t start : Trail R) (rs items : List R) (r : R) → t ≡ with_recs start rs → items ≡ t.recs ++ r ∷ [] → record { before = t.before; next = t.next; recs = items; blocks = t.blocks } ≡ with_recs start (rs ++ r ∷ [])
pushed t start rs items r e h =
    rw h (one_more t r ∙ (ap (λ x. with_recs x (r ∷ [])) e ∙ recs_more start rs r))
