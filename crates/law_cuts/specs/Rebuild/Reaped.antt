-- Reverse mappings that tell settled owners do so behind a run that is reaped: one entry, and what an event has of it.
use Rattle.std.specs.Prelude.{◌≡◌, ℕ, true, false, List}
use Rattle.law_accounts.specs.Account.Accounts.{in_span}
use Rattle.law_accounts.specs.Account.Ledger.{Sound}
use Rattle.law_accounts.specs.Account.Stated.{ledger_at}
use Rattle.law_accounts.specs.Account.Steps.{IsWritten}
use Rattle.law_writers.specs.Change.Chunks.{LeavesChunks}
use Rattle.fs_change.specs.Chains.{settled_forks, settled_own}
use Rattle.fs_change.specs.Changes.{owner_of_run, plain_run}
use Rattle.fs_model.specs.declared.entry.Entry.TheVariants as entries
use Rattle.fs_model.specs.declared.entry.Extent.{Extent}
use Rattle.fs_state.specs.State.{State}
use Rattle.geom.specs.Apart.{HasFitting}
use Rattle.law_accounts.specs.Owner.Told.{AreTold}
use Rattle.rmap_recs.specs.Owners.{is_inode}
use Rattle.rmap_recs.specs.Rmap.{has_end}
use Rattle.rmap_recs.specs.Runs.{has}
use Rattle.rmap_recs.specs.declared.tuples.Tuple.{Tuple}
use Rattle.run_edits.specs.EditLaws.{AreUntied}
use Rattle.sblock.specs.declared.kind.Kind.{Kind}
use Rattle.law_writers.specs.Told.Told.{IsMadeInWords}

-- What is known of it? The run ends, its owner is no inode, mappings can be edited; each block is sound, and no settled fork
-- has it; and no two owners behind the entry differ in the unwritten flag alone.
pub record LeavesLimbo (left : List Kind) (a x : State) (e : Extent) (owner : ℕ) : Type 0 where
  pub ends : has_end (plain_run owner e) ≡ true
  pub plain : is_inode owner ≡ false
  pub written : IsWritten left (a.group e.group)
  pub sound : (b : ℕ) → in_span e.block e.count b ≡ true → Sound (ledger_at a e.group b)
  pub forks : (t : Tuple) → in_span e.block e.count t.block ≡ true → has (settled_forks a e.group) t ≡ false
  pub untied : AreUntied (settled_own x e.group)

abbrev pub ReapedTold : Type 0
ReapedTold = (a x : State) (left : List Kind) (e : Extent) → HasFitting a.geometry → IsMadeInWords a x left (entries.Reaped e) → LeavesChunks a (entries.Reaped e) → LeavesLimbo left a x e (owner_of_run (a.group e.group) e)
    → AreTold a e.group → AreTold x e.group
