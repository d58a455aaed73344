-- Fields that are written one behind the other: each is read again, and what stands beside them stays.
use Rattle.std.proofs.Common.{◌≡◌, ℕ, ◌≤◌, ◌<◌, ◌+◌, ◌*◌, ◌^◌, List, [], ◌∷◌, length, refl, ◌∙◌, inl, inr, arith}
use Rattle.std.specs.Prelude.{◌⊎◌}
use Rattle.byte_fields.specs.Fields.{field, with_field}
use Rattle.sblock.specs.Area.{child_of}
use Rattle.sblock.specs.Kinds.{node_most_of, key_width_of}
use Rattle.sblock.specs.declared.kind.Kind.{Kind}
use Rattle.sblock.specs.AreaLaws.{child_stays}
use Rattle.sblock.specs.FieldLaws.{field_taken, field_beside, field_length}

-- a field's number of bytes, and its number
abbrev pub width : List (ℕ × ℕ) → ℕ
width [] = 0
width (f ∷ fs) = f.0 + width fs

abbrev pub written : List ℕ → ℕ → List (ℕ × ℕ) → List ℕ
written area at [] = area
written area at (f ∷ fs) = written (with_field f.0 area at f.1) (at + f.0) fs

pub written_beside : (area : List ℕ) (at : ℕ) (fs : List (ℕ × ℕ)) (m to : ℕ) → at + width fs ≤ length area → (to + m ≤ at) ⊎ (at + width fs ≤ to) → field m (written area at fs) to ≡ field m area to
written_beside area at [] m to room apart = refl
written_beside area at (f ∷ fs) m to room apart =
    let long = field_length f.0 area at f.1 (omega (arith, room)) in
    written_beside (with_field f.0 area at f.1) (at + f.0) fs m to (omega (arith, room, long)) (elim apart [ inl a ↦ inl (omega (arith, a)) | inr a ↦ inr (omega (arith, a)) ])
    ∙ field_beside f.0 area at f.1 m to (omega (arith, room)) (elim apart [ inl a ↦ inl a | inr a ↦ inr (omega (arith, a)) ])

pub written_first : (area : List ℕ) (at n v : ℕ) (fs : List (ℕ × ℕ)) → at + (n + width fs) ≤ length area → v < 256 ^ n → field n (written area at ((n, v) ∷ fs)) at ≡ v
written_first area at n v fs room fits =
    let long = field_length n area at v (omega (arith, room)) in
    written_beside (with_field n area at v) (at + n) fs n at (omega (arith, room, long)) (inl (omega arith)) ∙ field_taken n area at v (omega (arith, room)) fits

-- the pointers stay where all of it lies in the room of the keys
pub children_stay : (kind : Kind) (area : List ℕ) (at : ℕ) (fs : List (ℕ × ℕ)) (j : ℕ) → at + width fs ≤ length area → at + width fs ≤ node_most_of kind * key_width_of kind → child_of kind (written area at fs) j ≡ child_of kind area j
children_stay kind area at [] j room le = refl
children_stay kind area at (f ∷ fs) j room le =
    let long = field_length f.0 area at f.1 (omega (arith, room)) in
    children_stay kind (with_field f.0 area at f.1) (at + f.0) fs j (omega (arith, room, long)) (omega (arith, le))
    ∙ child_stays kind area f.0 at f.1 j (omega (arith, room)) (omega (arith, le))
