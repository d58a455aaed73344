use Rattle.std.specs.Prelude.{◌≡◌, ℕ, nat_le, true, false, refl, [], ◌∷◌, List}
use Rattle.std.proofs.lemmas.Bool.{ltb-true, leb-true}
use Rattle.fs_model.specs.declared.entry.Entry.TheVariants as entries
use Rattle.fs_model.specs.declared.fault.Cause.TheVariants.{Missing}
use Rattle.sblock.specs.declared.kind.Kind.TheVariants.{Refc}
use Rattle.fs_state.specs.State.{State}
use Rattle.fs_state.specs.declared.intent.Intent.{Intent}
use Rattle.fs_change.proofs.Stays.{decided_stands}
use Rattle.fs_change.specs.Changes.{marked}
use Rattle.fs_change.specs.Step.{IsNext}
use Rattle.test_changes.proofs.Computing.{computing}
use Rattle.test_changes.proofs.Stands.{stands, first, first_on, mapping_step, words}
use Rattle.test_changes.specs.Files.{first_of, rest_of}
use Rattle.test_changes.specs.Meets.{hidden_count, shared_once, told_once, other_piece, other_gone, other_told, other_counted, counts_left}
use Rattle.test_changes.specs.Refused.{third_place}
use Rattle.test_changes.proofs.rows.rises_too_far.Goals as goal

-- the next step of a chain, over one block
next_on : (a : State) (c : ℕ) (i : Intent) (rest : List Intent) → a.chains c ≡ i ∷ rest → i.group ≡ 0 → i.block ≡ 40 → nat_le 1 i.count ≡ true → IsNext a c 0 40 1 i rest
next_on a c i rest next group block count = record { next = next; group = group; block = block; some = ltb-true 0 1 refl; count = leb-true 1 i.count count }

pub returns : goal.returns
unfolding computing
returns c = (
  (
    [],
    shared_once,
    stands hidden_count shared_once (entries.Shared (third_place 8)) (record { some = ltb-true 0 1 refl; most = leb-true 1 1024 refl; from_first = first hidden_count 195 refl refl refl refl refl; to_first = first hidden_count 195 refl refl refl refl refl; sound = refl; below = refl; piece = refl; written = refl; unmapped = refl }, refl) refl,
    tt,
    (
      [],
      told_once,
      mapping_step shared_once 40 1 (first_of (shared_once.chains 0)) (rest_of (shared_once.chains 0)) refl refl refl refl refl refl refl refl refl,
      tt,
      refl,
    ),
  ),
  (
    [],
    other_gone,
    stands told_once other_gone (entries.Unmapped other_piece) (record { some = ltb-true 0 1 refl; most = leb-true 1 1024 refl; first = first_on told_once 1 195 refl refl refl refl refl refl; sound = refl; piece = refl }, refl) refl,
    tt,
    (
      [],
      other_told,
      stands other_gone other_told (entries.RmapDone 1 195 0 40 1) (first_of (other_gone.chains 1), rest_of (other_gone.chains 1), next_on other_gone 1 (first_of (other_gone.chains 1)) (rest_of (other_gone.chains 1)) refl refl refl refl, refl, refl, refl, refl) refl,
      tt,
      (
        [],
        other_counted,
        stands other_told other_counted (entries.RefDone 1 0 40 1 false) (first_of (other_told.chains 1), rest_of (other_told.chains 1), next_on other_told 1 (first_of (other_told.chains 1)) (rest_of (other_told.chains 1)) refl refl refl refl, refl, refl, refl) refl,
        tt,
        refl,
      ),
    ),
  ),
  (
    Refc ∷ [],
    counts_left,
    decided_stands other_counted counts_left (Refc ∷ []) (entries.RefDone 0 0 40 1 true) (first_of (other_counted.chains 0), rest_of (other_counted.chains 0), next_on other_counted 0 (first_of (other_counted.chains 0)) (rest_of (other_counted.chains 0)) refl refl refl refl, refl, refl, refl) refl refl (words (counts_left.group 0) refl),
    tt,
    (
      (refl, refl, refl),
      marked 0 Refc counts_left,
      stands counts_left (marked 0 Refc counts_left) (entries.Marked 0 Refc Missing) (refl, tt, refl) refl,
      refl,
    ),
  ),
  refl,
)
