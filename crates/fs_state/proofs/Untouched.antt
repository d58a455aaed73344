-- A block of a part that isn't touched stays.
use Rattle.std.proofs.Common.{◌≡◌, ℕ, Bool, false, ap, sym, ◌∙◌}
use Rattle.std.proofs.lemmas.Bool.{false≢true}
use Rattle.fs_state.specs.Apart.{Part, Has, Apart}
use Rattle.fs_state.specs.Frame.{Fate, Stays, Touched, Free}
use Rattle.fs_state.specs.Kinds.{Image}
use Rattle.fs_state.specs.State.{State}

pub untouched : (a : State) (image image' : Image) (touches : Part → Bool) → Apart a → ((d : ℕ) → Fate a image image' touches d) → (c : Part) → touches c ≡ false → (d : ℕ) → Has a c d → image' d ≡ image d
untouched a image image' touches apart fates c off d has =
    elim (fates d) [
      | Stays e ↦ e
      | Touched e on other ↦ absurd (false≢true (sym off ∙ ap touches (apart c e d has other) ∙ on))
      | Free none ↦ absurd (none c has)
    ]
