-- A block in which one sector was written over.
use Rattle.std.proofs.Common.{◌≡◌, ◌≢◌, ℕ, ◌+◌, ◌*◌, ◌<◌, inl, inr, List, length, ◌∙◌, arith}
use Rattle.std.proofs.lemmas.Bool.{cases_order}
use Rattle.ag_headers.specs.Fields.{sector, with_sector}
use Rattle.ag_headers.proofs.SpliceLemmas.{Written, part_there, part_stays}

sector_written : (k : ℕ) (block bytes : List ℕ) → k < 8 → length block ≡ 4096 → length bytes ≡ 512 → Written block (512 * k) (512 * k + 512) bytes
sector_written k block bytes inside whole exact = record { order = omega arith; inside = omega arith; exact = exact ∙ omega arith }

pub sector_there : (k : ℕ) (block bytes : List ℕ) → k < 8 → length block ≡ 4096 → length bytes ≡ 512 → sector k (with_sector k block bytes) ≡ bytes
sector_there k block bytes inside whole exact =
    part_there block (512 * k) (512 * k + 512) bytes (sector_written k block bytes inside whole exact) 512 (omega arith)

pub sector_stays : (k : ℕ) (block bytes : List ℕ) → k < 8 → length block ≡ 4096 → length bytes ≡ 512 → (j : ℕ) → j ≢ k → sector j (with_sector k block bytes) ≡ sector j block
sector_stays k block bytes inside whole exact j other =
    part_stays block (512 * k) (512 * k + 512) bytes (sector_written k block bytes inside whole exact) (512 * j) 512 (elim (cases_order j k) [
      | inl same ↦ absurd (other same)
      | inr apart ↦ elim apart [ inl below ↦ inl (omega arith) | inr above ↦ inr (omega arith) ]
    ])
