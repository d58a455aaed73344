-- Inode 0 is none: its block has a group's heads.
use Rattle.std.proofs.Common.{◌≡◌, inl, inr, ℕ, ◌+◌, ◌*◌, ◌^◌, ◌<◌, Bool, true, false, not, refl, sym, ap, ◌∙◌, arith}
use Rattle.std.proofs.lemmas.Bool.{true≢false, and_parts, cases_Bool}
use Rattle.geom.specs.Layout.{device_block_of}
use Rattle.fs_state.specs.Apart.{Apart, ChunkAt, HeadsOf, Part, is_chunk, is_inode}
use Rattle.fs_state.specs.State.{State}
use Rattle.fs_state.specs.Derive.{is_free}
use Rattle.law_writers.proofs.Inode.Cores.{unit_number}
use Rattle.core_scan.proofs.Masks.{place_of}
use Rattle.core_scan.specs.Equation.{NoInodeZero}
use Rattle.core_scan.specs.Seen.{is_allocated}

is_heads : Part → Bool
is_heads (HeadsOf g) = true
is_heads p = false

-- the first unit of a group is no chunk
no_first : (a : State) (g : ℕ) → Apart a → g < a.geometry.agcount → is_chunk a g 0 ≡ true → ⊥
unfolding is_heads
no_first a g apart group chunk =
    let d : ℕ = device_block_of a.geometry g 0 in
    true≢false (ap is_heads (apart (HeadsOf g) (ChunkAt d) d
    (record { inside = group; block = 0; holds = refl; place = refl })
    (record { same = refl; group = g; unit = 0; nth = 0; one_of = omega arith; chunk = chunk; place = refl })))

lowest : (x y : ℕ) → x + y ≡ 0 → (x ≡ 0) × (y ≡ 0)
lowest x y h = (omega (arith, h), omega (arith, h))

first_unit : (u j : ℕ) → 64 * u + j ≡ 0 → u ≡ 0
first_unit u j h = omega (arith, h)

pub no_zero : NoInodeZero
no_zero a fit apart = elim (cases_Bool (is_allocated a 0)) [
  | inl h ↦
      let p = place_of a 0 (and_parts (is_inode a 0) (not (is_free (a.core 0))) h).0 in
      let unit : p.unit ≡ 0 = first_unit p.unit p.nth (lowest (p.group * 2 ^ a.geometry.agblklog * 8) (64 * p.unit + p.nth) (sym (unit_number a p.group p.unit p.nth) ∙ p.number)).1 in
      absurd (no_first a p.group apart p.there (ap (is_chunk a p.group) (sym unit) ∙ p.chunk))
  | inr h ↦ h
]
