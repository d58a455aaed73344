-- Each step lowers what is due by what it may use.
use Rattle.std.specs.Prelude.{◌≡◌, ◌<◌, ◌≤◌, ◌==◌, ℕ, ◌+◌, ◌*◌, Bool, true, false, List, ◌∷◌}
use Rattle.fs_state.specs.declared.intent.Intent.{Intent}
use Rattle.defer_chain.specs.declared.kinds.Due.{Due}
use Rattle.defer_chain.specs.declared.kinds.Due.TheVariants.{Entries, Blocks, Deltas}
use Rattle.defer_chain.specs.Steps.{is_rmap, is_ref, is_less, is_free, amount_of, due_of, stretched, steps_of}

-- a stretch of a count: n blocks of the first intent, which lie in it, and are freed only where the count falls
pub record IsStretch (n : ℕ) (frees : Bool) (i : Intent) : Type 0 where
  pub some : 0 < n
  pub inside : n ≤ i.count
  pub kind : is_ref i.kind ≡ true
  pub falls : frees ≡ true → is_less i.kind ≡ true

pub record DueFalls : Type 0 where
  -- an intent that leaves takes with it what was due to it
  pub leaves : (what : Due) (i : Intent) (is : List Intent) → due_of what is + amount_of what i ≡ due_of what (i ∷ is)
  -- a step of a count may add three entries, and free 160 blocks of its group
  pub entries : (n : ℕ) (frees : Bool) (i : Intent) (is : List Intent) → IsStretch n frees i → due_of Entries (stretched n frees (i ∷ is)) + 3 ≤ due_of Entries (i ∷ is)
  pub blocks : (n : ℕ) (frees : Bool) (i : Intent) (is : List Intent) → IsStretch n frees i → due_of (Blocks i.group) (stretched n frees (i ∷ is)) + 160 ≤ due_of (Blocks i.group) (i ∷ is)
  -- of other groups nothing is due to it, and no differences of owners
  pub others : (g n : ℕ) (frees : Bool) (i : Intent) (is : List Intent) → (i.group == g) ≡ false → due_of (Blocks g) (stretched n frees (i ∷ is)) ≡ due_of (Blocks g) is
  pub deltas : (n : ℕ) (frees : Bool) (i : Intent) (is : List Intent) → is_ref i.kind ≡ true → due_of Deltas (stretched n frees (i ∷ is)) ≡ due_of Deltas is
