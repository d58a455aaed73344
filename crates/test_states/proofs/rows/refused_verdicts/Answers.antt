use Rattle.std.proofs.Common.{◌≡◌, ℕ, arith, List, [], ◌∷◌, Some, refl, sym, ap, ◌∙◌}
use Rattle.fs_model.specs.declared.entry.Entry.{Entry}
use Rattle.fs_model.specs.declared.entry.Entry.TheVariants as entries
use Rattle.fs_model.specs.declared.fault.Fault.{Fault}
use Rattle.fs_model.specs.declared.fault.Fault.TheVariants.{Missing, Extra, Counter}
use Rattle.fs_model.specs.declared.fault.Counter.TheVariants.{Longest}
use Rattle.fs_model.specs.declared.claim.Claim.TheVariants.{Data}
use Rattle.fs_model.specs.declared.claim.Evidence.TheVariants.{BadChunk, Overlap}
use Rattle.fs_model.specs.declared.«record».AnyRec.TheVariants as recs
use Rattle.fs_model.specs.declared.unit.Unit.TheVariants as units
use Rattle.dinode_core.specs.declared.inode.CoreFault.TheVariants.{Checksum as CoreSum}
use Rattle.fs_state.specs.Contradiction.{evidence}
use Rattle.fs_state.specs.Faults.{faults}
use Rattle.test_states.specs.Images.{span}
use Rattle.test_states.specs.Rows.{entries_on, short_free, short_longest, thrice, two_reasons}
use Rattle.test_states.proofs.Computing.{computing}
use Rattle.test_states.proofs.rows.refused_verdicts.Goals as goal

-- entries that aren't of these faults
not_of : (fs known : List Fault) (es : List Entry) → fs ≡ known → (entries_on units.Free known ≡ es → ⊥) → entries_on units.Free fs ≡ es → ⊥
not_of fs known es is other same = other (sym (ap (entries_on units.Free) is) ∙ same)

-- what the counter of the first entry is
first_found : List Entry → ℕ
first_found (entries.Fault g unit (Counter name found number) ∷ es) = found
first_found es = 0

two : List Fault
two = Missing (recs.Bno (span 32 224)) ∷ Extra (recs.Bno (span 32 223)) ∷ []

one : List Fault
one = Counter Longest 223 224 ∷ []

short_is : faults short_free 0 units.Free ≡ two
unfolding computing two
short_is = refl

longest_is : faults short_longest 0 units.Free ≡ one
unfolding computing one
longest_is = refl

core_is : evidence two_reasons 0 units.Inode ≡ Some (BadChunk 24 CoreSum)
unfolding computing
core_is = refl

thrice_is : evidence thrice 0 units.Rmap ≡ Some (Overlap 50 (Data 195) (Data 196))
unfolding computing
thrice_is = refl

pub returns : goal.returns
unfolding two one first_found
returns c = (
  (
    not_of (faults short_free 0 units.Free) two _ short_is (λ e. cc e),
    (
      not_of (faults short_free 0 units.Free) two _ short_is (λ e. cc e),
      (
        not_of (faults short_free 0 units.Free) two _ short_is (λ e. cc e),
        (
          not_of (faults short_free 0 units.Free) two _ short_is (λ e. cc e),
          (
            not_of (faults short_free 0 units.Free) two _ short_is (λ e. cc e),
            tt,
          ),
        ),
      ),
    ),
  ),
  (
    not_of (faults short_longest 0 units.Free) one _ longest_is (λ e. let same : ◌≡◌ {A = ℕ} 223 224 = ap first_found e in omega (arith, same)),
    (
      not_of (faults short_longest 0 units.Free) one _ longest_is (λ e. cc e),
      (
        not_of (faults short_longest 0 units.Free) one _ longest_is (λ e. cc e),
        tt,
      ),
    ),
  ),
  λ e. cc (sym core_is ∙ e),
  λ e. cc (sym thrice_is ∙ e),
)
