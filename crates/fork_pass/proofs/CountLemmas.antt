-- Sums over rows of numbers and over lists, as a loop goes on, and what is read of blocks, notes and groups.
use Rattle.std.proofs.Common.{◌≡◌, ℕ, suc, ◌+◌, ◌-◌, ◌<◌, ◌≤◌, List, length, get_or, drop, ap, subst, ◌∙◌, arith}
use Rattle.std.specs.Prelude.{sum_by}
use Rattle.std.proofs.lemmas.List.Sums.{sum_by-cons, sum_by-drop_more}
use Rattle.dinode_core.specs.ForkTree.{Image}
use Rattle.fs_state.specs.Lists.{numbers}
use Rattle.fs_state.specs.Inodes.{slot_in}
use Rattle.geom.specs.Layout.{Layout, device_block_of}
use Rattle.inode_pass.specs.declared.note.ForkNote.{ForkNote}
use Rattle.fork_pass.specs.Counted.{block_most, forks_most, note_most, notes_most, slot_most}

-- the number i comes next
row_sum : (f : ℕ → ℕ) (i n : ℕ) → i < n → sum_by f (numbers i (n - i)) ≡ f i + sum_by f (numbers (i + 1) (n - (i + 1)))
row_sum f i n lt =
    let more : n - i ≡ suc (n - (i + 1)) = omega (arith, lt) in
    ap (λ (k : ℕ). sum_by f (numbers i k)) more ∙ sum_by-cons f i (numbers (i + 1) (n - (i + 1)))

row_all : (f : ℕ → ℕ) (n : ℕ) → sum_by f (numbers 0 (n - 0)) ≡ sum_by f (numbers 0 n)
row_all f n = let same : n - 0 ≡ n = omega arith in ap (λ (k : ℕ). sum_by f (numbers 0 k)) same

-- with what is left, no more is read than in all
pub row_on : (f : ℕ → ℕ) (i n now new total : ℕ) → i < n → now + sum_by f (numbers i (n - i)) ≤ total → new ≤ now + f i → new + sum_by f (numbers (i + 1) (n - (i + 1))) ≤ total
row_on f i n now new total lt left one = let next = row_sum f i n lt in omega (arith, left, one, next)

module _ (at : Layout) (image : Image) where
  abbrev pub slots_from : ℕ → ℕ → ℕ → ℕ
  slots_from g b i = sum_by (λ s. slot_most at image (slot_in (image (device_block_of at g b)) s)) (numbers i (8 - i))

  pub block_begun : (g b before now : ℕ) → now ≤ before + 1 → now + slots_from g b 0 ≤ before + block_most at image g b
  unfolding block_most
  block_begun g b before now h = let all = row_all (λ s. slot_most at image (slot_in (image (device_block_of at g b)) s)) 8 in omega (arith, h, all)

  pub slot_on : (g b i now new total : ℕ) (bytes : List ℕ) → i < 8 → bytes ≡ image (device_block_of at g b) → now + slots_from g b i ≤ total → new ≤ now + slot_most at image (slot_in bytes i) → new + slots_from g b (i + 1) ≤ total
  slot_on g b i now new total bytes lt told left one =
      row_on (λ s. slot_most at image (slot_in (image (device_block_of at g b)) s)) i 8 now new total lt left (subst (λ (xs : List ℕ). new ≤ now + slot_most at image (slot_in xs i)) told one)

  -- ---- the notes of groups

  pub note_on : (g : ℕ) (notes : List ForkNote) (i : ℕ) (d : ForkNote) (now new total : ℕ) → i < length notes → now + sum_by (note_most at image g) (drop i notes) ≤ total → new ≤ now + note_most at image g (get_or notes i d) → new + sum_by (note_most at image g) (drop (i + 1) notes) ≤ total
  note_on g notes i d now new total lt left one = let next = sum_by-drop_more (note_most at image g) notes i d lt in omega (arith, left, one, next)

  abbrev pub groups_from : (ℕ → List ForkNote) → ℕ → ℕ
  groups_from notes i = sum_by (λ g. notes_most at image g (notes g)) (numbers i (at.agcount - i))

  pub forks_begun : (notes : ℕ → List ForkNote) (before : ℕ) → before + groups_from notes 0 ≤ before + forks_most at image notes
  unfolding forks_most
  forks_begun notes before = let all = row_all (λ g. notes_most at image g (notes g)) at.agcount in omega (arith, all)

  pub group_on : (notes : ℕ → List ForkNote) (i now new total : ℕ) (own : List ForkNote) → i < at.agcount → own ≡ notes i → now + groups_from notes i ≤ total → new ≤ now + notes_most at image i own → new + groups_from notes (i + 1) ≤ total
  group_on notes i now new total own lt same left one =
      row_on (λ g. notes_most at image g (notes g)) i at.agcount now new total lt left (subst (λ (ns : List ForkNote). new ≤ now + notes_most at image i ns) same one)
