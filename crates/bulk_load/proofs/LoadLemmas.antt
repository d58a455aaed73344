-- Blocks that are put in one behind the other.
use Rattle.std.proofs.Common.{◌≡◌, ℕ, zero, suc, ◌+◌, ◌-◌, ◌<◌, ◌≤◌, List, [], ◌∷◌, ◌++◌, length, refl, sym, ap, subst, ◌∙◌, arith, append_assoc, length-append}
use Rattle.std.specs.Prelude.{slice_index}
use Rattle.std.proofs.lemmas.List.{append-nil}
use Rattle.byte_fields.specs.Steps.{StepCount}
use Rattle.byte_fields.specs.declared.block.Block.{Block}
use Rattle.sblock.specs.Area.{area_of}
use Rattle.sblock.specs.Form.{Form}
use Rattle.sblock.specs.declared.block.Frame.{Frame}
use Rattle.bulk_load.specs.Leaf.{block_bytes}
use Rattle.bulk_load.specs.Loaded.{area_bytes, IsHeaded, header_for, Has, IsLaid, IsNumber, AreLaid, IsLoaded}
use Rattle.bulk_load.specs.Shapes.{width, start}
use Rattle.bulk_load.proofs.ShapeLemmas.{one_level}

module _ {R K : Type 0} (form : Form R K) (list : List R) (claimed : List ℕ) (frame : Frame) where
  -- a block that was made for its place has its number
  pub has_number : (level i k : ℕ) (bytes : List ℕ) → start form.kind (length list) level ≤ k → k < start form.kind (length list) (suc level) → start form.kind (length list) level + i ≡ k
      → IsHeaded form.kind (header_for form.kind (length list) claimed frame.lsn level i) frame (slice_index claimed k) bytes → Has form list claimed level i (area_of bytes)
      → bytes ≡ block_bytes form.kind (header_for form.kind (length list) claimed frame.lsn level i) frame (slice_index claimed k) (area_bytes form list claimed level i) → IsNumber form list claimed frame k bytes
  has_number level i k bytes from to is head has exact j x lt e =
      let l : j ≡ level = one_level form.kind (length list) j x k level lt e from to in
      let s : start form.kind (length list) level + x ≡ k = subst (λ (a : ℕ). start form.kind (length list) a + x ≡ k) l e in
      let y : i ≡ x = omega (arith, s, is) in
      let here : IsLaid form list claimed frame level i bytes = record {
        head = subst (λ (b : ℕ). IsHeaded form.kind (header_for form.kind (length list) claimed frame.lsn level i) frame (slice_index claimed b) bytes) (sym is) head;
        has = has;
        exact = subst (λ (b : ℕ). bytes ≡ block_bytes form.kind (header_for form.kind (length list) claimed frame.lsn level i) frame (slice_index claimed b) (area_bytes form list claimed level i)) (sym is) exact;
      } in
      subst (λ (a : ℕ). IsLaid form list claimed frame a x bytes) (sym l) (subst (λ (b : ℕ). IsLaid form list claimed frame level b bytes) y here)

  laid_more : (k : ℕ) (es : List (ℕ × Block)) (e : ℕ × Block) → AreLaid form list claimed frame k es → e.0 ≡ slice_index claimed (k + length es) → IsNumber form list claimed frame (k + length es) e.1.bytes → AreLaid form list claimed frame k (es ++ e ∷ [])
  laid_more k [] e laid at number =
      let z : k + 0 ≡ k = omega arith in
      (subst (λ (b : ℕ). e.0 ≡ slice_index claimed b) z at, subst (λ (b : ℕ). IsNumber form list claimed frame b e.1.bytes) z number, tt)
  laid_more k (x ∷ xs) e laid at number =
      let z : k + suc (length xs) ≡ (k + 1) + length xs = omega arith in
      (laid.0, laid.1, laid_more (k + 1) xs e laid.2 (subst (λ (b : ℕ). e.0 ≡ slice_index claimed b) z at) (subst (λ (b : ℕ). IsNumber form list claimed frame b e.1.bytes) z number))

  pub none_loaded : (from to : ℕ) (old new : List (ℕ × Block)) → to ≡ from → new ≡ old → IsLoaded form list claimed frame from to old new
  none_loaded from to old new e same = record { more = []; behind = same ∙ sym (append-nil old); many = omega (arith, e); laid = tt }

  pub loaded_more : (from to next : ℕ) (old new newer : List (ℕ × Block)) (e : ℕ × Block) → IsLoaded form list claimed frame from to old new → next ≡ to + 1 → newer ≡ new ++ e ∷ [] → e.0 ≡ slice_index claimed to → IsNumber form list claimed frame to e.1.bytes
      → IsLoaded form list claimed frame from next old newer
  loaded_more from to next old new newer e h n is at number = record {
    more = h.more ++ e ∷ [];
    behind = is ∙ (ap (λ (xs : List (ℕ × Block)). xs ++ e ∷ []) h.behind ∙ append_assoc old h.more (e ∷ []));
    many = omega (arith, n, h.many, length-append h.more (e ∷ []));
    laid = laid_more from h.more e h.laid (subst (λ (b : ℕ). e.0 ≡ slice_index claimed b) (sym h.many) at) (subst (λ (b : ℕ). IsNumber form list claimed frame b e.1.bytes) (sym h.many) number);
  }

-- one block more was counted
pub one_step : (s t u : StepCount) (k : ℕ) → u ≡ record { reads = t.reads; writes = t.writes + 1; moves = t.moves } → t ≡ record { reads = s.reads; writes = s.writes + k; moves = s.moves } → u ≡ record { reads = s.reads; writes = s.writes + (k + 1); moves = s.moves }
one_step s t u k h i =
    let r : t.reads ≡ s.reads = ap (λ (x : StepCount). x.reads) i in
    let v : t.writes ≡ s.writes + k = ap (λ (x : StepCount). x.writes) i in
    let m : t.moves ≡ s.moves = ap (λ (x : StepCount). x.moves) i in
    let w : t.writes + 1 ≡ s.writes + (k + 1) = omega (arith, v) in
    let p : ◌≡◌ {A = StepCount} (record { reads = t.reads; writes = t.writes + 1; moves = t.moves }) (record { reads = s.reads; writes = s.writes + (k + 1); moves = s.moves }) = λ j. record { reads = r j; writes = w j; moves = m j } in
    h ∙ p
