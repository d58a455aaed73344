-- Records as a reverse mapping btree has them meet the conditions of the derivations.
use Rattle.std.proofs.Common.{◌≡◌, ◌≤◌, ◌+◌, ℕ, Bool, true, false, ◌&&◌, List, [], ◌∷◌, refl, arith}
use Rattle.std.specs.Prelude.{nat_le}
use Rattle.std.proofs.lemmas.Bool.{false≢true, leb-true}
use Rattle.std.proofs.lemmas.Bool.Decides.{nat_tests}
use Rattle.rmap_recs.specs.Rmap.{is_first, is_key_before, key_of, is_in_group, is_owner_right, rmap_form}
use Rattle.rmap_recs.specs.declared.records.RmapRec.{RmapRec}
use Rattle.sblock.specs.Blocks.{IsRising, AllInside}
use Rattle.sblock.specs.declared.block.Bounds.{Bounds}
use Rattle.derive_defs.specs.Mappings.{StartsRise, EndWithin}

first_le : (a b : ℕ) (rest : Bool) → is_first a b rest ≡ true → a ≤ b
first_le a b rest h = grind (arith, nat_tests)

start_le : (r s : RmapRec) → is_key_before (key_of r) (key_of s) ≡ true → r.start ≤ s.start
unfolding is_key_before
start_le r s h = first_le r.start s.start _ h

both_true : (a b : Bool) → (a && b) ≡ true → (a ≡ true) × (b ≡ true)
both_true true b h = (refl, h)
both_true false b h = absurd (false≢true h)

-- records in the order of their keys rise by start
pub starts_rise : (mappings : List RmapRec) → IsRising rmap_form mappings → StartsRise mappings
starts_rise [] rises = tt
starts_rise (r ∷ []) rises = tt
starts_rise (r ∷ s ∷ mappings) rises = (start_le r s rises.0, starts_rise (s ∷ mappings) rises.1)

-- records in range end within the group
pub end_within : (bounds : Bounds) (mappings : List RmapRec) → AllInside rmap_form bounds mappings → EndWithin bounds.length mappings
end_within bounds [] inside = tt
end_within bounds (r ∷ mappings) inside =
    let group = both_true (is_in_group bounds r.start r.count) (is_owner_right bounds r) inside.0 in
    let ends = both_true (nat_le 1 r.count) (nat_le (r.start + r.count) bounds.length) group.0 in
    (leb-true (r.start + r.count) bounds.length ends.1, end_within bounds mappings inside.1)

-- and within any greater length
pub end_further : (length further : ℕ) (mappings : List RmapRec) → length ≤ further → EndWithin length mappings → EndWithin further mappings
end_further length further [] le ends = tt
end_further length further (r ∷ mappings) le ends = (omega (arith, ends.0, le), end_further length further mappings le ends.1)
