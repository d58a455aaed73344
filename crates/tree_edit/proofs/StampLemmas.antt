-- The log sequence number of the blocks that are put in.
use Rattle.std.proofs.Common.{◌≡◌, ◌<◌, ◌-◌, ℕ, zero, suc, ◌+◌, true, false, List, [], ◌∷◌, length, refl, subst, inl, inr, arith}
use Rattle.std.specs.Prelude.{nat_lt, Some}
use Rattle.byte_fields.specs.Fields.{field}
use Rattle.byte_fields.specs.declared.block.Block.{Block}
use Rattle.redo_area.specs.Area.{Batch}
use Rattle.meta_txn.specs.Joined.{bytes_at}
use Rattle.sblock.specs.Form.{Form}
use Rattle.sblock.specs.declared.block.Frame.{Frame}
use Rattle.sblock.specs.declared.kind.Kind.{Kind}
use Rattle.tree_defs.specs.Lists.{In}
use Rattle.bulk_load.specs.Loaded.{AreLaid}
use Rattle.bulk_load.specs.Shapes.{width, start, IsShape}
use Rattle.bulk_load.proofs.Numbers.{lt_true, lt_false}
use Rattle.bulk_load.proofs.ShapeLemmas.{start_on, start_none}
use Rattle.join_blocks.specs.Joins.{placed_in, HaveBytes}

-- each number is that of a block of some level
number_at : (kind : Kind) (n levels k : ℕ) → k < start kind n levels → (j : ℕ) × (i : ℕ) × (i < width kind n j) × (start kind n j + i ≡ k)
number_at kind n zero k lt = absurd (omega (arith, lt, start_none kind n))
number_at kind n (suc l) k lt = (elim (nat_lt k (start kind n l)) as (λ t. nat_lt k (start kind n l) ≡ t → (j : ℕ) × (i : ℕ) × (i < width kind n j) × (start kind n j + i ≡ k)) [
  | true ↦ λ low. number_at kind n l k (lt_true k (start kind n l) low)
  | false ↦ λ high. (l, k - start kind n l, omega (arith, lt_false k (start kind n l) high, start_on kind n l, lt), omega (arith, lt_false k (start kind n l) high))
]) refl

-- each of these blocks has this number
abbrev pub AllStamped : ℕ → List (ℕ × Block) → Type 0
AllStamped lsn [] = Unit {0}
AllStamped lsn (e ∷ es) = (field 8 e.1.bytes 24 ≡ lsn) × AllStamped lsn es

module _ {R K : Type 0} (form : Form R K) (list : List R) (claimed : List ℕ) (frame : Frame) (levels : ℕ) (shape : IsShape form.kind (length list) levels (length claimed)) where
  pub laid_stamped : (k : ℕ) (es : List (ℕ × Block)) → AreLaid form list claimed frame k es → k + length es ≡ length claimed → AllStamped frame.lsn es
  laid_stamped k [] laid many = tt
  laid_stamped k (e ∷ es) laid many =
      let lt : k < start form.kind (length list) levels = omega (arith, shape.all, many) in
      let at = number_at form.kind (length list) levels k lt in
      ((laid.1 at.0 at.1 at.2 at.3).head.lsn, laid_stamped (k + 1) es laid.2 (omega (arith, many)))

pub stamped_at : (first lsn : ℕ) (placed : List (ℕ × Block)) (q : Batch) → HaveBytes first placed q → AllStamped lsn placed → (b : ℕ) → In b (placed_in placed) → (bytes : List ℕ) × (bytes_at (first + b) q ≡ Some bytes) × (field 8 bytes 24 ≡ lsn)
stamped_at first lsn [] q have all b there = absurd there
stamped_at first lsn (e ∷ es) q have all b (inl same) = (e.1.bytes, subst (λ (n : ℕ). bytes_at (first + n) q ≡ Some e.1.bytes) same have.0, all.0)
stamped_at first lsn (e ∷ es) q have all b (inr there) = stamped_at first lsn es q have.1 all.1 b there
