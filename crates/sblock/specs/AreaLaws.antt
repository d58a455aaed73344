-- Keys and pointers of a node don't meet.
use Rattle.std.proofs.Common.{◌≡◌, ◌≢◌, ◌≤◌, ◌<◌, ℕ, ◌+◌, ◌*◌, ◌^◌, List, length, inl, inr, arith}
use Rattle.std.proofs.lemmas.Bool.{cases_lt}
use Rattle.byte_fields.specs.Fields.{field, with_field}
use Rattle.sblock.specs.Area.{pointer_place, child_of, with_child}
use Rattle.sblock.specs.Kinds.{key_width_of, node_most_of}
use Rattle.sblock.specs.declared.kind.Kind.{Kind}
use Rattle.sblock.specs.declared.kind.Kind.TheVariants.{Bno, Cnt, Rmap, Refc, Ino, Fino}
use Rattle.sblock.specs.FieldLaws.{field_taken, field_before, field_behind, field_beside}

-- all pointers lie in the area
pub pointer_lies : (kind : Kind) (i : ℕ) → i < node_most_of kind → pointer_place kind i + 4 ≤ 4040
pointer_lies Bno i h = omega (arith, h)
pointer_lies Cnt i h = omega (arith, h)
pointer_lies Rmap i h = omega (arith, h)
pointer_lies Refc i h = omega (arith, h)
pointer_lies Ino i h = omega (arith, h)
pointer_lies Fino i h = omega (arith, h)

pub child_taken : (kind : Kind) (area : List ℕ) (i child : ℕ) → length area ≡ 4040 → i < node_most_of kind → child < 2 ^ 32 → child_of kind (with_child kind area i child) i ≡ child
unfolding child_of with_child
child_taken kind area i child whole room fits =
    let lies = pointer_lies kind i room in
    field_taken 4 area (pointer_place kind i) child (omega (arith, whole, lies)) fits

pub child_others : (kind : Kind) (area : List ℕ) (i child : ℕ) → length area ≡ 4040 → i < node_most_of kind → (j : ℕ) → j ≢ i → child_of kind (with_child kind area i child) j ≡ child_of kind area j
unfolding child_of with_child
child_others kind area i child whole room j other =
    let lies = pointer_lies kind i room in
    field_beside 4 area (pointer_place kind i) child 4 (pointer_place kind j) (omega (arith, whole, lies))
    (elim (cases_lt j i) [
      | inl below ↦ inl (omega (arith, below))
      | inr above ↦ inr (omega (arith, above, other))
    ])

-- what stands in the room of the keys stays where a pointer is written
pub field_stays : (kind : Kind) (area : List ℕ) (i child m to : ℕ) → length area ≡ 4040 → i < node_most_of kind → to + m ≤ node_most_of kind * key_width_of kind → field m (with_child kind area i child) to ≡ field m area to
unfolding with_child
field_stays kind area i child m to whole room le =
    let lies = pointer_lies kind i room in
    field_before 4 area (pointer_place kind i) child (omega (arith, whole, lies)) m to (omega (arith, le))

-- and a pointer where something is written in the room of the keys
pub child_stays : (kind : Kind) (area : List ℕ) (n at v i : ℕ) → at + n ≤ length area → at + n ≤ node_most_of kind * key_width_of kind → child_of kind (with_field n area at v) i ≡ child_of kind area i
unfolding child_of
child_stays kind area n at v i room le = field_behind n area at v room 4 (pointer_place kind i) (omega (arith, le))
