-- What the cores of a unit say of the state that an image stands for right after it was opened.
use Rattle.std.proofs.Common.{◌≡◌, ℕ, zero, suc, ◌+◌, ◌*◌, ◌/◌, ◌%◌, ◌<◌, ◌≤◌, List, [], ◌∷◌, ◌++◌, length, get_or, drop, map, refl, ap, sym, ◌∙◌, arith, append_assoc, Option, Some, Result}
use Rattle.std.specs.Prelude.{slice_index_or}
use Rattle.std.proofs.lemmas.List.{append-nil}
use Rattle.std.proofs.Math.Seq.{drop-cons}
use Rattle.dinode_core.specs.declared.inode.CoreFault.{CoreFault}
use Rattle.fs_state.specs.Chunks.{inode_in}
use Rattle.fs_state.specs.Contradiction.{bad_core, bad_in_unit}
use Rattle.fs_state.specs.Lists.{numbers, first_of_all}
use Rattle.fs_state.specs.Inodes.{core_in, slot_in}
use Rattle.fs_state.specs.Kinds.{Image}
use Rattle.fs_state.specs.Read.{core_of_ino, opened}
use Rattle.fs_state.specs.State.{CoreState}
use Rattle.geom.specs.Apart.{Splits}
use Rattle.geom.specs.Layout.{Layout, device_block_of, fs_block_of, group_len_of, inode_at}
use Rattle.index_derive.specs.Inodes.{AreModes, mode_of}
use Rattle.run_sets.specs.Runs.{EndWithin}
use Rattle.run_sets.specs.declared.run.Run.{Run}
use Rattle.inode_pass.specs.Cores.{block_looks, blocks_looks, broken_from, look_in, mode_seen}
use Rattle.inode_pass.specs.Units.{AreSeen, IsSeen, opened_state, unit_count, unit_numbers, units_in}
use Rattle.inode_pass.specs.declared.unit.UnitSeen.{UnitSeen}
use Rattle.inode_pass.proofs.CoreLemmas.{first_looked, map_twice, mode_is, numbers_more, row_at, row_length}

module _ (at : Layout) (image : Image) (splits : Splits at) where
  core_in_slot : (g b s : ℕ) → g < at.agcount → b < group_len_of at g → s < 8 → core_of_ino at image (opened at image) (inode_at at g b s) ≡ Some (core_in at (inode_at at g b s) (slot_in (image (device_block_of at g b)) s))
  unfolding core_of_ino opened
  core_in_slot g b s gl bl sl =
      let e : inode_at at g b s / 8 ≡ fs_block_of at g b = omega (arith, sl) in
      let r : inode_at at g b s % 8 ≡ s = omega (arith, sl) in
      rw (e, splits g b gl bl, r) refl

  -- the core with this number in a unit
  abbrev pub core_at : ℕ → ℕ → ℕ → CoreState
  core_at g u i = core_in at (inode_at at g (8 * u + i / 8) (i % 8)) (slot_in (image (device_block_of at g (8 * u + i / 8))) (i % 8))

  core_said : (g u i : ℕ) → g < at.agcount → 8 * u + 7 < group_len_of at g → i < 64 → (opened_state at image).core (inode_in (opened_state at image) g u i) ≡ Some (core_at g u i)
  core_said g u i gl ul il = core_in_slot g (8 * u + i / 8) (i % 8) gl (omega (arith, ul, il)) (omega arith)

  -- the looks of a unit's eight blocks are those of its 64 inodes
  pub unit_looks : (g u : ℕ) → blocks_looks at image g (8 * u) 8 ≡ map (λ i. look_in (core_at g u i)) (numbers 0 64)
  unfolding blocks_looks block_looks
  unit_looks g u = refl

  from_zero : (i : ℕ) → 0 + i ≡ i
  from_zero i = omega arith

  pub modes_said : (g u : ℕ) (looks : List (Result ℕ CoreFault)) → g < at.agcount → 8 * u + 7 < group_len_of at g → looks ≡ blocks_looks at image g (8 * u) 8 → AreModes (opened_state at image) g u (map mode_seen looks)
  modes_said g u looks gl ul is =
      let row : map mode_seen looks ≡ map (λ i. mode_seen (look_in (core_at g u i))) (numbers 0 64) = ap (λ (xs : List (Result ℕ CoreFault)). map mode_seen xs) (is ∙ unit_looks g u) ∙ map_twice (λ i. look_in (core_at g u i)) mode_seen (numbers 0 64) in
      record {
        whole = ap (λ (xs : List (Option ℕ)). length xs) row ∙ row_length (λ i. mode_seen (look_in (core_at g u i))) 0 64;
        each = λ i d lt. ap (λ (xs : List (Option ℕ)). slice_index_or xs i d) row ∙ row_at (λ i. mode_seen (look_in (core_at g u i))) 0 64 i d lt ∙ ap (λ (k : ℕ). mode_seen (look_in (core_at g u k))) (from_zero i) ∙ mode_is (core_at g u i) ∙ ap mode_of (sym (core_said g u i gl ul lt));
      }

  all_bad : (g u i n : ℕ) → g < at.agcount → 8 * u + 7 < group_len_of at g → i + n ≤ 64 → map (λ k. bad_core (8 * u + k / 8) (Some (core_at g u k))) (numbers i n) ≡ map (λ k. bad_core (8 * u + k / 8) ((opened_state at image).core (inode_in (opened_state at image) g u k))) (numbers i n)
  all_bad g u i zero gl ul le = refl
  all_bad g u i (suc n) gl ul le =
      let one : bad_core (8 * u + i / 8) (Some (core_at g u i)) ≡ bad_core (8 * u + i / 8) ((opened_state at image).core (inode_in (opened_state at image) g u i)) = ap (bad_core (8 * u + i / 8)) (sym (core_said g u i gl ul (omega (arith, le)))) in
      let rest = all_bad g u (i + 1) n gl ul (omega (arith, le)) in
      (λ j. one j ∷ rest j)

  pub broken_said : (g u : ℕ) (looks : List (Result ℕ CoreFault)) → g < at.agcount → 8 * u + 7 < group_len_of at g → looks ≡ blocks_looks at image g (8 * u) 8 → broken_from u 0 looks ≡ bad_in_unit (opened_state at image) g u
  broken_said g u looks gl ul is =
      ap (broken_from u 0) (is ∙ unit_looks g u) ∙ first_looked (core_at g u) u 0 64 ∙ ap first_of_all (all_bad g u 0 64 gl ul (omega arith))

-- ---- units one after the other

pub seen_more : (at : Layout) (image : Image) (g : ℕ) (old new : List UnitSeen) (s : UnitSeen) → new ≡ old ++ s ∷ [] → IsSeen at image g s → AreSeen at image g old → AreSeen at image g new
seen_more at image g old new s made is so = rw made (more old so) where
  more : (ss : List UnitSeen) → AreSeen at image g ss → AreSeen at image g (ss ++ s ∷ [])
  more [] h = (is, tt)
  more (x ∷ xs) h = (h.0, more xs h.1)

pub unit_more : (old new : List UnitSeen) (s : UnitSeen) (u : ℕ) → new ≡ old ++ s ∷ [] → s.cores.unit ≡ u → unit_numbers new ≡ unit_numbers old ++ numbers u 1
unit_more old new s u made is = ap unit_numbers made ∙ more old ∙ ap (λ (n : ℕ). unit_numbers old ++ n ∷ []) is where
  more : (ss : List UnitSeen) → unit_numbers (ss ++ s ∷ []) ≡ unit_numbers ss ++ s.cores.unit ∷ []
  more [] = refl
  more (x ∷ xs) = ap (λ (ns : List ℕ). x.cores.unit ∷ ns) (more xs)

-- one more of a run
pub run_more : (old now new : List ℕ) (start i : ℕ) → now ≡ old ++ numbers start i → new ≡ now ++ numbers (start + i) 1 → new ≡ old ++ numbers start (i + 1)
run_more old now new start i so made =
    let next : suc i ≡ i + 1 = omega arith in
    made ∙ ap (λ (ns : List ℕ). ns ++ (start + i) ∷ []) so ∙ append_assoc old (numbers start i) ((start + i) ∷ []) ∙ ap (λ (ns : List ℕ). old ++ ns) (sym (numbers_more start i))
    ∙ ap (λ (k : ℕ). old ++ numbers start k) next

-- one run more
pub runs_more : (now new all : List ℕ) (runs : List Run) (i : ℕ) (d : Run) → i < length runs → new ≡ now ++ numbers (get_or runs i d).start (get_or runs i d).count → now ++ units_in (drop i runs) ≡ all → new ++ units_in (drop (i + 1) runs) ≡ all
runs_more now new all runs i d lt made left =
    let next : i + 1 ≡ suc i = omega arith in
    let r : Run = get_or runs i d in
    let front : drop i runs ≡ r ∷ drop (suc i) runs = drop-cons runs i d lt in
    ap (λ (k : ℕ). new ++ units_in (drop k runs)) next
    ∙ ap (λ (xs : List ℕ). xs ++ units_in (drop (suc i) runs)) made
    ∙ append_assoc now (numbers r.start r.count) (units_in (drop (suc i) runs))
    ∙ ap (λ (xs : List Run). now ++ units_in xs) (sym front)
    ∙ left

pub count_front : (runs : List Run) (i : ℕ) (d : Run) → i < length runs → unit_count (drop i runs) ≡ (get_or runs i d).count + unit_count (drop (i + 1) runs)
count_front runs i d lt =
    let next : suc i ≡ i + 1 = omega arith in
    ap unit_count (drop-cons runs i d lt) ∙ ap (λ (k : ℕ). (get_or runs i d).count + unit_count (drop k runs)) next

pub run_within : (n : ℕ) (runs : List Run) (i : ℕ) (d : Run) → i < length runs → EndWithin n runs → (get_or runs i d).start + (get_or runs i d).count ≤ n
run_within n [] i d lt h = absurd (omega (arith, lt))
run_within n (r ∷ rs) zero d lt h = h.0
run_within n (r ∷ rs) (suc i) d lt h = run_within n rs i d (omega (arith, lt)) h.1

pub drop_all : (runs : List Run) (i : ℕ) → length runs ≤ i → drop i runs ≡ []
drop_all [] zero le = refl
drop_all [] (suc i) le = refl
drop_all (r ∷ rs) zero le = absurd (omega (arith, le))
drop_all (r ∷ rs) (suc i) le = drop_all rs i (omega (arith, le))

pub none_left : (now all : List ℕ) (runs : List Run) (i : ℕ) → length runs ≤ i → now ++ units_in (drop i runs) ≡ all → now ≡ all
none_left now all runs i le left = sym (append-nil now) ∙ sym (ap (λ (rs : List Run). now ++ units_in rs) (drop_all runs i le)) ∙ left
