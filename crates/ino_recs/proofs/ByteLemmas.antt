-- One byte as a field.
use Rattle.std.proofs.Common.{◌≡◌, ℕ, ◌+◌, ◌<◌, ◌%◌, List, length, get_or, set, refl, sym, ◌∙◌, arith, take-append-drop}
use Rattle.std.proofs.lemmas.List.{get_or-drop, take-set, drop-set}
use Rattle.std.proofs.Math.Nat.{mod-eq_of_lt}
use Rattle.byte_fields.specs.Fields.{field, with_field}

pub byte_is_field : (xs : List ℕ) (at v : ℕ) → v ≡ get_or xs at 0 → v ≡ field 1 xs at
byte_is_field xs at v is = let here = get_or-drop at xs 0 0 in let same : at + 0 ≡ at = omega arith in is ∙ sym (rw same at here) ∙ omega arith

pub set_is_field : (xs : List ℕ) (at v : ℕ) → at < length xs → v < 256 → set xs at v ≡ with_field 1 xs at v
set_is_field xs at v room fits =
    let byte : v % 256 ≡ v = mod-eq_of_lt fits in
    rw byte (sym (take-append-drop at (set xs at v)) ∙ rw (take-set xs at v, drop-set xs at v room) refl)
