-- The mappings of a fork, one after the other.
use Rattle.std.proofs.Common.{◌≡◌, ℕ, zero, suc, ◌-◌, ◌*◌, ◌<◌, ◌≤◌, true, false, List, [], ◌∷◌, ◌++◌, length, drop, Option, Some, None, refl, sym, ap, ◌∙◌, arith}
use Rattle.std.proofs.lemmas.Bool.{and_parts, leb-true}
use Rattle.std.proofs.lemmas.Bool.Decides.{nat_tests}
use Rattle.std.proofs.lemmas.List.{append-nil, append_assoc}
use Rattle.std.specs.Prelude.{nat_lt}
use Rattle.geom.specs.Layout.{Layout}
use Rattle.dinode_core.specs.declared.inode.Core3.{Core3}
use Rattle.dinode_core.specs.declared.mapping.Mapping.{Mapping}
use Rattle.dinode_core.specs.declared.mapping.Fork.{Fork}
use Rattle.dinode_core.specs.declared.mapping.Fork.TheVariants.{Data, Attr}
use Rattle.dinode_core.specs.declared.mapping.ForkFault.{ForkFault}
use Rattle.dinode_core.specs.declared.shape.Format.{Format}
use Rattle.dinode_core.specs.declared.shape.Format.TheVariants.{Dev, Local, Extents, Btree}
use Rattle.dinode_core.specs.Packed.{unpacked}
use Rattle.dinode_core.specs.Shape.{size_of, area_of, room_of, is_absent, count_of, format_of}
use Rattle.dinode_core.specs.Inline.{has_form, has_room, is_extents, mappings_fit, form_tests, form_fault, mappings_in, mapping_fault, first_bad}
use Rattle.byte_fields.proofs.TestLemmas.{all_pass}

pub eight_bytes : (core : Core3) (fork : Fork) → core.forkoff < 42 → is_absent core fork ≡ false → 8 ≤ size_of core fork
eight_bytes core Data h present = grind (arith, nat_tests)
eight_bytes core Attr h present = grind (arith, nat_tests)

fits_extents : (format : Option Format) (core : Core3) (fork : Fork) → is_extents format ≡ true → has_room format core fork ≡ true → mappings_fit core fork ≡ true
fits_extents None core fork h room = cc
fits_extents (Some Dev) core fork h room = cc
fits_extents (Some Local) core fork h room = cc
fits_extents (Some Extents) core fork h room = room
fits_extents (Some Btree) core fork h room = cc

-- a fork of a right form has room for its mappings
pub record Room (core : Core3) (fork : Fork) : Type 0 where
  pub inside : core.forkoff < 42
  pub room : 16 * count_of core fork ≤ size_of core fork

pub room_enough : (core : Core3) (fork : Fork) → form_fault core fork ≡ None → is_absent core fork ≡ false → is_extents (format_of core fork) ≡ true → Room core fork
unfolding form_fault mappings_fit
room_enough core fork h present extents =
    let pass = all_pass (form_tests core fork) (rw present at h) in
    let form = and_parts (nat_lt core.forkoff 42) (has_form (format_of core fork) (area_of core fork)) pass.0 in
    let fits = leb-true (count_of core fork) (room_of core fork) (fits_extents (format_of core fork) core fork extents pass.1.0) in
    record { inside = grind (arith, nat_tests, form.0); room = omega (arith, fits) }

pub none_left : (found : List Mapping) (n : ℕ) (rest all : List ℕ) (count : ℕ) → n ≡ 0 → found ++ mappings_in n rest ≡ mappings_in count all → found ≡ mappings_in count all
unfolding mappings_in
none_left found n rest all count e h = sym (append-nil found) ∙ ap (λ k. found ++ mappings_in k rest) (sym e) ∙ h

pub one_more : (found : List Mapping) (n : ℕ) (rest all : List ℕ) (count : ℕ) → 0 < n → found ++ mappings_in n rest ≡ mappings_in count all → (found ++ unpacked rest ∷ []) ++ mappings_in (n - 1) (drop 16 rest) ≡ mappings_in count all
unfolding mappings_in
one_more found zero rest all count some h = absurd (omega arith)
one_more found (suc n) rest all count some h =
    let e : suc n - 1 ≡ n = omega arith in
    rw (e, append_assoc) h

pub none_bad : (at : Layout) (fork : Fork) (ms : List Mapping) → length ms ≡ 0 → first_bad at fork ms ≡ None
unfolding first_bad
none_bad at fork [] h = refl
none_bad at fork (m ∷ ms) h = absurd (omega arith)

pub good_first : (at : Layout) (fork : Fork) (m : Mapping) (ms : List Mapping) → mapping_fault at fork m ms ≡ None → first_bad at fork (m ∷ ms) ≡ first_bad at fork ms
unfolding first_bad
good_first at fork m ms h = rw h refl

pub bad_first : (at : Layout) (fork : Fork) (m : Mapping) (ms : List Mapping) (fault : ForkFault) → mapping_fault at fork m ms ≡ Some fault → first_bad at fork (m ∷ ms) ≡ Some fault
unfolding first_bad
bad_first at fork m ms fault h = rw h refl
