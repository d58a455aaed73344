-- Which two records can't both be in a tree.
use Rattle.std.specs.Prelude.{◌↔◌, ℕ, ◌+◌, nat_le, nat_lt, Bool, true, false, ◌≡◌, ◌&&◌, ◌||◌, if◌then◌else◌}
use Rattle.sblock.specs.Form.{Form, same_key}
use Rattle.sblock.specs.declared.kind.Kind.{Kind}
use Rattle.sblock.specs.declared.kind.Kind.TheVariants.{Bno, Cnt, Rmap, Refc, Ino, Fino}

-- no block belongs to two records of a tree of this kind
abbrev pub parts_blocks : Kind → Bool
parts_blocks Bno = true
parts_blocks Cnt = false
parts_blocks Rmap = false
parts_blocks Refc = true
parts_blocks Ino = false
parts_blocks Fino = false

module _ {R K : Type 0} (form : Form R K) where
  abbrev pub first_of : R → ℕ
  first_of r = form.block_of (form.key_of r)

  -- the record covers this block
  abbrev pub covers : R → ℕ → Bool
  covers r p = nat_le (first_of r) p && nat_lt p (first_of r + form.length_of r)

  abbrev pub both_cover : R → R → ℕ → Bool
  both_cover r s p = covers r p && covers s p

  -- where two records have a common block, the first block of one of them is one
  unfoldable pub share_block : R → R → Bool
  share_block r s = both_cover r s (first_of r) || both_cover r s (first_of s)

  -- a common block in the trees that part the blocks, equal keys in the others
  abbrev pub meets : R → R → Bool
  meets r s = if parts_blocks form.kind then share_block r s else same_key form (form.key_of r) (form.key_of s)

  abbrev pub SharesABlock : Type 0
  SharesABlock = (r s : R) → (share_block r s ≡ true) ↔ ((p : ℕ) × (both_cover r s p ≡ true))
