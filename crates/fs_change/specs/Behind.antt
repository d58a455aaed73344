-- Groups behind the last one: no event changes them, and what is kept of them is what the opening found.
use Rattle.std.specs.Prelude.{◌≡◌, ℕ, ◌*◌, ◌≤◌, Bool, List}
use Rattle.geom.specs.Layout.{Layout}
use Rattle.sblock.specs.declared.kind.Kind.{Kind}
use Rattle.fs_state.specs.Group.{GroupEvent, GroupDone}
use Rattle.fs_state.specs.Kinds.{Image}
use Rattle.fs_state.specs.Pool.{Share}
use Rattle.fs_state.specs.Read.{state_of, opened}
use Rattle.fs_state.specs.State.{Kept, pairs_of}
use Rattle.fs_change.specs.Forget.{GroupForgets, found_in}

-- the images are the same from the end of the last group on
abbrev pub AreAlikeBehind : Layout → Image → Image → Type 0
AreAlikeBehind at image image' = (d : ℕ) → at.agcount * at.agblocks ≤ d → image' d ≡ image d

-- the same is kept of the groups there
pub record KeepsBehind (at : Layout) (kept kept' : Kept) : Type 0 where
  pub trust : (h : ℕ) (k : Kind) → at.agcount ≤ h → kept'.trust h k ≡ kept.trust h k
  pub bad : (h : ℕ) (k : Kind) → at.agcount ≤ h → kept'.bad h k ≡ kept.bad h k
  pub reserve : (h : ℕ) → at.agcount ≤ h → kept'.reserve h ≡ kept.reserve h
  pub limbo : (h : ℕ) → at.agcount ≤ h → pairs_of (kept'.limbo h) ≡ pairs_of (kept.limbo h)

pub record GroupsBehind : Type 0 where
  -- they stay
  pub stay : (at : Layout) (image image' : Image) (kept kept' : Kept) → AreAlikeBehind at image image' → KeepsBehind at kept kept' → (h : ℕ) → at.agcount ≤ h
      → (state_of at image' kept').group h ≡ (state_of at image kept).group h
  -- so an event of one group leaves every other, whatever its number is
  pub others : (at : Layout) (image image' : Image) (kept kept' : Kept) (g : ℕ) (ks : List Kind) (chunk edits : ℕ → Bool) (fresh : ℕ → ℕ → Bool) (made : ℕ → Bool) (extra : List Share)
      → GroupEvent at image image' kept kept' g ks chunk edits fresh made extra → GroupDone at image image' kept kept' g ks chunk edits fresh made extra
      → AreAlikeBehind at image image' → (h : ℕ) → (h ≡ g → ⊥) → (state_of at image' kept').group h ≡ (state_of at image kept).group h
  -- and where what the opening found is kept of them, a new session finds the same
  pub found : (at : Layout) (origin image : Image) (kept : Kept) → AreAlikeBehind at origin image → KeepsBehind at (opened at origin) kept → (h : ℕ) → at.agcount ≤ h
      → GroupForgets ((state_of at image kept).group h) ((found_in at image).group h)
