-- Faults put down one after the other, and records of chunks with free inodes.
use Rattle.std.proofs.Common.{◌≡◌, ℕ, Bool, true, false, List, [], ◌∷◌, ◌++◌, refl, ap, ◌∙◌, append_assoc, Option, Some, None, Result, Ok, Err, IfOk, arith}
use Rattle.std.specs.Prelude.{◌==◌, nat_lt, not, sum_by, if◌then◌else◌, OnOk}
use Rattle.std.specs.List.{filter}
use Rattle.std.proofs.lemmas.Bool.Decides.{nat_tests}
use Rattle.ag_headers.specs.declared.agi.Agi.{Agi}
use Rattle.fs_state.specs.Faults.{counter_fault}
use Rattle.fs_state.specs.Lists.{only_if}
use Rattle.fs_model.specs.declared.fault.Counter.{Counter}
use Rattle.fs_model.specs.declared.fault.Counter.TheVariants.{Count, Freecount, Iblocks, Fblocks}
use Rattle.fs_model.specs.declared.fault.Fault.{Fault}
use Rattle.fs_model.specs.declared.fault.Fault.TheVariants as faulty
use Rattle.fs_state.specs.State.{Reading}
use Rattle.ino_recs.specs.Chunks.{ino_form, fino_form}
use Rattle.ino_recs.specs.declared.chunk.InoRec.{InoRec}
use Rattle.quiet_check.specs.Faults.{blocks_kept, counter_faults, low}
use Rattle.rmap_recs.proofs.RisingLemmas.{filter_rises}
use Rattle.sblock.specs.Blocks.{IsRising}
use Rattle.space_check.specs.Faults.{blocks_fault, counter_fault as number_fault}

-- ---- one counter, in the words of the check of space and in those of the state

or_none : (b : Bool) (f : Fault) → (if b then [] else f ∷ []) ≡ only_if (not b) f
or_none true f = refl
or_none false f = refl

pub counter_same : (name : Counter) (found number : ℕ) → number_fault name found number ≡ counter_fault name found (Some number)
counter_same name found number = or_none (found == number) (faulty.Counter name found number)

wanted_same : (name : Counter) (found : ℕ) (wanted : Option ℕ) → blocks_fault name found wanted ≡ counter_fault name found wanted
wanted_same name found None = refl
wanted_same name found (Some number) = counter_same name found number

pub counter_put : {T E : Type 0} (result : Result T E) (old new : List Fault) (name : Counter) (found : ℕ) (wanted : Option ℕ) → IfOk result (λ _. new ≡ old ++ blocks_fault name found wanted) → OnOk result (new ≡ old ++ counter_fault name found wanted)
counter_put (Ok done) old new name found wanted put = put ∙ ap (λ (fs : List Fault). old ++ fs) (wanted_same name found wanted)
counter_put (Err stop) old new name found wanted put = tt

-- ---- counters one after the other

four : (p a b c d : List Fault) → (((p ++ a) ++ b) ++ c) ++ d ≡ p ++ (((a ++ b) ++ c) ++ d)
four p a b c d =
    ap (λ (xs : List Fault). (xs ++ c) ++ d) (append_assoc p a b)
    ∙ ap (λ (xs : List Fault). xs ++ d) (append_assoc p (a ++ b) c)
    ∙ append_assoc p ((a ++ b) ++ c) d

pub four_put : (p q r s t : List Fault) (kept : Bool) (agi : Agi) (recs : List InoRec) (ino fino : Reading InoRec) (count free : ℕ) (iblocks fblocks : Option ℕ)
    → count ≡ low (sum_by (λ r. r.count) recs) → free ≡ low (sum_by (λ r. r.freecount) recs) → iblocks ≡ blocks_kept kept ino → fblocks ≡ blocks_kept kept fino
    → q ≡ p ++ counter_fault Count agi.count (Some count) → r ≡ q ++ counter_fault Freecount agi.freecount (Some free) → s ≡ r ++ counter_fault Iblocks agi.iblocks iblocks → t ≡ s ++ counter_fault Fblocks agi.fblocks fblocks
    → t ≡ p ++ counter_faults kept agi recs ino fino
unfolding counter_faults
four_put p q r s t kept agi recs ino fino count free iblocks fblocks ci fi ii bi first second third last =
    let a = first ∙ ap (λ (n : ℕ). p ++ counter_fault Count agi.count (Some n)) ci in
    let b = second ∙ ap (λ (n : ℕ). q ++ counter_fault Freecount agi.freecount (Some n)) fi in
    let c = third ∙ ap (λ (n : Option ℕ). r ++ counter_fault Iblocks agi.iblocks n) ii in
    let d = last ∙ ap (λ (n : Option ℕ). s ++ counter_fault Fblocks agi.fblocks n) bi in
    let w = counter_fault Count agi.count (Some (low (sum_by (λ r. r.count) recs))) in
    let x = counter_fault Freecount agi.freecount (Some (low (sum_by (λ r. r.freecount) recs))) in
    let y = counter_fault Iblocks agi.iblocks (blocks_kept kept ino) in
    let z = counter_fault Fblocks agi.fblocks (blocks_kept kept fino) in
    d ∙ ap (λ (xs : List Fault). xs ++ z) (c ∙ ap (λ (xs : List Fault). xs ++ y) (b ∙ ap (λ (xs : List Fault). xs ++ x) a)) ∙ four p w x y z

along : (a b c : ℕ) → nat_lt a b ≡ true → nat_lt b c ≡ true → nat_lt a c ≡ true
along a b c h i = grind (arith, nat_tests)

-- the records of chunks with a free inode rise as those of all chunks do
pub free_rise : (recs : List InoRec) → IsRising ino_form recs → IsRising fino_form (filter (λ r. nat_lt 0 r.freecount) recs)
free_rise recs h = filter_rises (λ r s. nat_lt r.startino s.startino) (λ a b c. along a.startino b.startino c.startino) (λ r. nat_lt 0 r.freecount) recs h
