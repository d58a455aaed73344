-- Mappings that tell settled owners of the state that an entry's row decides do so of the state behind the entry.
use Rattle.std.specs.Prelude.{ℕ, ◌≡◌, ◌<◌, ◌≤◌, ◌^◌, false, List}
use Rattle.law_accounts.specs.Account.Ledger.{Sound}
use Rattle.law_accounts.specs.Account.Stated.{ledger_at}
use Rattle.law_accounts.specs.Account.Steps.{IsWritten}
use Rattle.fs_change.specs.Chains.{settled_forks, settled_own}
use Rattle.fs_change.specs.Loose.{pool_of}
use Rattle.fs_change.specs.Step.{Step}
use Rattle.fs_model.specs.declared.entry.Entry.{Entry}
use Rattle.fs_state.specs.State.{State}
use Rattle.geom.specs.Apart.{HasFitting}
use Rattle.law_accounts.specs.Owner.Told.{AreTold}
use Rattle.rmap_recs.specs.Runs.{has}
use Rattle.rmap_recs.specs.declared.tuples.Tuple.{Tuple}
use Rattle.run_edits.specs.EditLaws.{AreUntied}
use Rattle.sblock.specs.declared.kind.Kind.{Kind}
use Rattle.tree_defs.specs.Lists.{times}

-- What is asked of a group whose blocks move? Mappings can be edited; each block is sound; those of trees, list and limbo
-- have a next number, and no settled fork has one; and no two owners differ in the unwritten flag alone, before and then.
pub record MayMove (left : List Kind) (x b : State) (g : ℕ) : Type 0 where
  pub written : IsWritten left (x.group g)
  pub sound : (k : ℕ) → Sound (ledger_at x g k)
  pub small : (k : ℕ) → 1 ≤ times k (pool_of (x.group g)) → k < 2 ^ 32
  pub forks : (t : Tuple) → 1 ≤ times t.block (pool_of (x.group g)) → has (settled_forks x g) t ≡ false
  pub untied_before : AreUntied (settled_own x g)
  pub untied : AreUntied (settled_own b g)

abbrev pub ToldBehind : Type 0
ToldBehind = (a b : State) (left : List Kind) (e : Entry) (h : ℕ) → HasFitting a.geometry → (s : Step a left e b) → MayMove left s.decided b h → AreTold s.decided h → AreTold b h
