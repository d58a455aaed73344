-- Blocks that are read before reverse mappings are judged, and for them.
use Rattle.std.proofs.Common.{◌≡◌, ℕ, zero, suc, ◌+◌, ◌<◌, ◌≤◌, Bool, false, List, [], ◌∷◌, ◌++◌, length, Option, None, Result, Ok, Err, refl, sym, ◌∙◌, ap, subst, arith, inl, inr}
use Rattle.std.specs.Prelude.{◌==◌, flat_map, fold, if◌then◌else◌, sum_by}
use Rattle.std.proofs.lemmas.Bool.{cases_Bool, eqb-true}
use Rattle.std.proofs.lemmas.List.{append-nil}
use Rattle.check_phases.proofs.KeptLemmas.{begun_here, cut_kept}
use Rattle.check_phases.specs.Kept.{KeepsEvents, StopsKept, begun_of, come, group_kept, phase_kept}
use Rattle.check_phases.specs.Phases.{Mappings, lacks_nothing}
use Rattle.check_phases.specs.declared.tally.Tally.{Tally}
use Rattle.fork_pass.specs.Counted.{forks_most, notes_most}
use Rattle.fork_pass.specs.Passed.{AreChunks, AreNotes, notes_at}
use Rattle.fs_state.specs.Lists.{numbers}
use Rattle.fs_state.specs.Session.{Place}
use Rattle.fs_model.specs.declared.entry.Entry.{Entry}
use Rattle.fs_model.specs.declared.unit.Unit.TheVariants as units
use Rattle.fs_state.specs.Kinds.{Image}
use Rattle.fs_state.specs.State.{State}
use Rattle.geom.specs.Layout.{Layout}
use Rattle.group_trees.specs.Counted.{trees_most}
use Rattle.inode_pass.specs.Notes.{notes_of}
use Rattle.inode_pass.specs.Units.{opened_state}
use Rattle.inode_pass.specs.declared.note.ForkNote.{ForkNote}
use Rattle.inode_pass.specs.declared.note.GroupInodes.{GroupInodes}
use Rattle.quiet_check.specs.Entries.{entries_after}
use Rattle.space_check.specs.Events.{Event, entries_of, most_entries, reads_of}
use Rattle.space_check.specs.Groups.{event}
use Rattle.space_check.specs.declared.halt.Halt.{Halt}
use Rattle.image_check.specs.Kept.{all_kept, mappings_kept, trees_only}
use Rattle.image_check.specs.Reads.{forks_first, mappings_most, most_read, notes_in}

fold_same : (f h : ℕ → ℕ) (z k n : ℕ) → ((g : ℕ) → k ≤ g → g < k + n → f g ≡ h g) → fold (λ (a x : ℕ). a + f x) z (numbers k n) ≡ fold (λ (a x : ℕ). a + h x) z (numbers k n)
fold_same f h z k zero same = refl
fold_same f h z k (suc n) same =
    ap (λ (y : ℕ). fold (λ (a x : ℕ). a + f x) (z + y) (numbers (k + 1) n)) (same k (omega arith) (omega arith))
    ∙ fold_same f h (z + h k) (k + 1) n (λ g le lt. same g (omega (arith, le)) (omega (arith, lt)))

sum_same : (f h : ℕ → ℕ) (n : ℕ) → ((g : ℕ) → g < n → f g ≡ h g) → sum_by f (numbers 0 n) ≡ sum_by h (numbers 0 n)
sum_same f h n same = fold_same f h 0 0 n (λ g le lt. same g (omega (arith, lt)))

module _ (at : Layout) (image : Image) where
  -- ---- all forks, by what was kept of the inodes

  forks_same : (ms ns : ℕ → List ForkNote) → ((g : ℕ) → g < at.agcount → ms g ≡ ns g) → forks_most at image ms ≡ forks_most at image ns
  unfolding forks_most
  forks_same ms ns same = sum_same (λ g. notes_most at image g (ms g)) (λ g. notes_most at image g (ns g)) at.agcount (λ g lt. ap (notes_most at image g) (same g lt))

  pub forks_read : (inodes : List GroupInodes) (before after : ℕ) → AreChunks (opened_state at image) inodes → AreNotes at image inodes → after ≤ before + forks_most at image (notes_at inodes) → after ≤ before + forks_first at image
  unfolding forks_first
  forks_read inodes before after chunked noted read =
      let same = forks_same (notes_at inodes) (notes_in at image) (λ g lt. noted g lt ∙ ap (notes_of at image g) (chunked g lt)) in
      omega (arith, read, same)

  -- ---- the first unit, with all that is read before

  first_most : mappings_most at image 0 ≡ trees_most at image 0 + forks_first at image
  unfolding mappings_most
  first_most = refl

  is_zero : (b : Bool) (n m : ℕ) → b ≡ false → n + (if b then m else 0) ≡ n
  is_zero b n m off = ap (λ (x : Bool). n + (if x then m else 0)) off ∙ (let e : n + 0 ≡ n = omega arith in e)

  not_zero : (g : ℕ) → 1 ≤ g → (g == 0) ≡ false
  not_zero g le = elim (cases_Bool (g == 0)) [
    | inl same ↦ absurd (let e = eqb-true g 0 same in omega (arith, e, le))
    | inr other ↦ other
  ]

  later_most : (g : ℕ) → 1 ≤ g → mappings_most at image g ≡ trees_most at image g
  unfolding mappings_most
  later_most g le = is_zero (g == 0) (trees_most at image g) (forks_first at image) (not_zero g le)

  module _ (lacks : ℕ → Option Place) where
    abbrev a : State
    a = opened_state at image

    later_same : (k n : ℕ) → 1 ≤ k → flat_map (group_kept (trees_only at image) a Mappings lacks) (numbers k n) ≡ flat_map (group_kept (most_read at image) a Mappings lacks) (numbers k n)
    unfolding most_read
    later_same k zero le = refl
    later_same k (suc n) le = λ i. event (sym (later_most k le) i) (entries_after a k units.Rmap (lacks k)) ∷ later_same (k + 1) n (omega (arith, le)) i

    -- the first of them had begun
    pub phase_cut : (n : ℕ) (t : Tally) (first reads' : ℕ) → 1 ≤ n → length t.journal.entries.items < most_entries → reads' ≤ first + forks_first at image → StopsKept (phase_kept (most_read at image) a Mappings lacks 0 n) (come t first) (come t reads')
    unfolding most_read phase_kept
    phase_cut zero t first reads' some room read = absurd (omega (arith, some))
    phase_cut (suc n) t first reads' some room read =
        cut_kept (event (mappings_most at image 0) (entries_after a 0 units.Rmap (lacks 0))) (flat_map (group_kept (most_read at image) a Mappings lacks) (numbers 1 n)) (come t first) (come t reads') room refl (omega (arith, read, first_most))

-- ---- an event that may read more

same_first : (d e : Event) (ds es : List Event) → e ∷ es ≡ d ∷ ds → d ≡ e
same_first d e ds es same = cc

same_rest : (d e : Event) (ds es : List Event) → e ∷ es ≡ d ∷ ds → es ≡ ds
same_rest d e ds es same = cc

module _ (e f : Event) (es : List Event) (a b : Tally) (first mid reads : ℕ) (same : f.entries ≡ e.entries) (room : length a.journal.entries.items < most_entries) (more : mid + e.reads ≤ first + f.reads) where
  stops_by : (done rest : List Event) → e ∷ es ≡ done ++ rest → b.journal.entries.items ≡ a.journal.entries.items ++ entries_of done → reads ≤ mid + (reads_of done + begun_of b.journal.entries.items rest) → StopsKept (f ∷ es) (come a first) (come b reads)
  stops_by [] rest whole entries read =
      let journal = entries ∙ append-nil a.journal.entries.items in
      let begun = (λ i. begun_of (journal i) (sym whole i)) ∙ begun_here a.journal.entries.items e es room in
      cut_kept f es (come a first) (come b reads) room journal (omega (arith, read, begun, more))
  stops_by (d ∷ done) rest whole entries read =
      let is = same_first d e (done ++ rest) es whole in
      let as_read = ap (λ (x : Event). x.reads) is in
      record {
        done = f ∷ done;
        rest = rest;
        whole = ap (λ (x : List Event). f ∷ x) (same_rest d e (done ++ rest) es whole);
        entries = entries ∙ ap (λ (x : List Entry). a.journal.entries.items ++ (x ++ entries_of done)) (ap (λ (x : Event). x.entries) is ∙ sym same);
        read = omega (arith, read, as_read, more);
      }

  pub first_more : {T : Type 0} (result : Result T Halt) → KeepsEvents (e ∷ es) (come a mid) (come b reads) result → KeepsEvents (f ∷ es) (come a first) (come b reads) result
  first_more (Ok done) h = record { entries = h.entries ∙ ap (λ (x : List Entry). a.journal.entries.items ++ (x ++ entries_of es)) (sym same); read = omega (arith, h.read, more) }
  first_more (Err halt) s = stops_by s.done s.rest s.whole s.entries s.read

-- the six btrees of each group, behind all that is read before
module _ (at : Layout) (image : Image) where
  with_forks : {T : Type 0} (n : ℕ) (t u : Tally) (first mid reads : ℕ) (result : Result T Halt) → 1 ≤ n → length t.journal.entries.items < most_entries → mid ≤ first + forks_first at image
      → KeepsEvents (phase_kept (trees_only at image) (opened_state at image) Mappings lacks_nothing 0 n) (come t mid) (come u reads) result → KeepsEvents (phase_kept (most_read at image) (opened_state at image) Mappings lacks_nothing 0 n) (come t first) (come u reads) result
  unfolding most_read phase_kept
  with_forks zero t u first mid reads result some room before h = absurd (omega (arith, some))
  with_forks {T} (suc n) t u first mid reads result some room before h =
      let a = opened_state at image in
      let entries = entries_after a 0 units.Rmap None in
      let trees = flat_map (group_kept (trees_only at image) a Mappings lacks_nothing) (numbers 1 n) in
      subst (λ (es : List Event). KeepsEvents (event (mappings_most at image 0) entries ∷ es) (come t first) (come u reads) result) (later_same at image lacks_nothing 1 n (omega arith))
      (first_more (event (trees_most at image 0) entries) (event (mappings_most at image 0) entries) trees t u first mid reads refl room (omega (arith, before, first_most at image)) result h)

  pub all_behind : {T : Type 0} (t u : Tally) (first mid reads : ℕ) (result : Result T Halt) → 1 ≤ at.agcount → length t.journal.entries.items < most_entries → mid ≤ first + forks_first at image
      → KeepsEvents (mappings_kept at 0 at.agcount image) (come t mid) (come u reads) result → KeepsEvents (all_kept at None image) (come t first) (come u reads) result
  all_behind t u first mid reads result some room before h = with_forks at.agcount t u first mid reads result some room before h
