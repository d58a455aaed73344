-- Parts of the facts that worked journals give.
use Rattle.std.proofs.Common.{◌≢◌, ◌<◌, ℕ, [], ◌∷◌, None, refl, arith}
use Rattle.script_defs.specs.Journals.{reply as replied}
use Rattle.script_defs.specs.Fits.{Fits, IsPiece, IsWhole, none_bound}
use Rattle.script_defs.specs.declared.operation.Op.TheVariants as ops
use Rattle.test_scripts.specs.Rows.{a, line, piece, taken}

pub is_piece : (offset block count : ℕ) → 0 < count → IsPiece 195 offset (piece offset block count)
is_piece offset block count h = (refl, refl, h)

pub is_whole : (n : ℕ) → IsWhole 0 n n
is_whole n = (omega arith, λ h. refl, λ h. refl)

-- nothing of a range was done, and some of it was wanted
pub none_done : (code count : ℕ) → code ≢ 0 → 0 < count → IsWhole code 0 count
none_done code count h k = (omega arith, λ e. absurd (h e), λ e. absurd (omega (arith, e, k)))

pub created : (uid : ℕ) → Fits none_bound (line 2 (ops.Create a uid)) (replied (taken uid ∷ []) 2 0 0 None None)
created uid = record { number = refl; refused = refl; does = (λ h. refl, λ n. absurd (n refl), refl) }
