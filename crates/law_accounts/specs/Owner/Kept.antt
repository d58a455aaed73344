-- Which entries keep reverse mappings that tell settled owners? The laws speak of the state that an entry's row decides,
-- before an edited tree is cut into blocks anew.
use Rattle.std.specs.Prelude.{◌≡◌, ℕ, true, false, not, List, [], ◌∷◌, ◌++◌, filter, map}
use Rattle.fs_change.specs.Chains.{given_by, run_of, settled_forks, settled_own, taken_by, word_taken}
use Rattle.fs_change.specs.Step.{Row}
use Rattle.fs_state.specs.Claims.{metadata_claims}
use Rattle.fs_state.specs.Own.{set_of, tuple_of}
use Rattle.fs_model.specs.declared.entry.Entry.{Entry}
use Rattle.fs_model.specs.declared.entry.Entry.TheVariants as entries
use Rattle.fs_state.specs.State.{State}
use Rattle.fs_state.specs.declared.intent.Intent.{Intent}
use Rattle.rmap_recs.specs.Rmap.{has_end}
use Rattle.rmap_recs.specs.Runs.{has}
use Rattle.rmap_recs.specs.declared.tuples.Tuple.{Tuple}
use Rattle.run_edits.specs.EditLaws.{AreUntied}
use Rattle.sblock.specs.declared.kind.Kind.{Kind}
use Rattle.law_accounts.specs.Account.Stated.{ChunksStay}
use Rattle.law_accounts.specs.Account.Steps.{IsWritten}
use Rattle.law_accounts.specs.Owner.Told.{AreTold}

-- ---- entries that give no block an owner and take none: first events, steps of counts, freed runs, trust, and a released
-- reserve

abbrev pub LeavesMappings : Entry → Type 0
LeavesMappings (entries.Mapped m) = Unit {0}
LeavesMappings (entries.Unmapped m) = Unit {0}
LeavesMappings (entries.Converted m) = Unit {0}
LeavesMappings (entries.Shared m) = Unit {0}
LeavesMappings (entries.RefDone c g b n more) = Unit {0}
LeavesMappings (entries.Freed c g b n kept) = Unit {0}
LeavesMappings (entries.Marked g k cause) = Unit {0}
LeavesMappings (entries.Fault g unit fault) = Unit {0}
LeavesMappings (entries.Verdict g unit verdict) = Unit {0}
LeavesMappings (entries.Released g unit) = Unit {0}
LeavesMappings (entries.Reply writer line code done refused begun) = Unit {0}
LeavesMappings e = ⊥

-- in each group, where the settled owners of forks stay, as they do by such entries
abbrev pub OthersKeepTold : Type 0
OthersKeepTold = (a x : State) (left : List Kind) (e : Entry) (h : ℕ) → Row a left e x → LeavesMappings e → ChunksStay a x → settled_forks x h ≡ settled_forks a h → AreTold a h → AreTold x h

-- ---- a finished step of reverse mappings

-- What is known of the intent? Its runs have ends; no metadata is its inode's; what it gives isn't there yet, and what it
-- takes is; and no two settled owners differ in the unwritten flag alone behind it.
pub record IsOwed (a x : State) (g : ℕ) (i : Intent) : Type 0 where
  pub given_end : has_end (run_of i i.word) ≡ true
  pub taken_end : has_end (run_of i (word_taken i)) ≡ true
  pub alien : (t : Tuple) → t.owner ≡ i.ino → has (map tuple_of (metadata_claims a g)) t ≡ false
  pub fresh : (t : Tuple) → has (given_by g i) t ≡ true → has (settled_forks a g) t ≡ false
  pub there : (t : Tuple) → has (taken_by g i) t ≡ true → has (settled_forks a g) t ≡ true
  pub untied : AreUntied (settled_own x g)

abbrev pub IsOwedNext : State → State → ℕ → List Intent → Type 0
IsOwedNext a x g [] = ⊥
IsOwedNext a x g (i ∷ rest) = IsOwed a x g i

-- the settled owners follow the intent
abbrev pub ForksFollow : State → State → ℕ → List Intent → Type 0
ForksFollow a x g [] = ⊥
ForksFollow a x g (i ∷ rest) = settled_forks x g ≡ set_of (filter (λ t. not (has (taken_by g i) t)) (settled_forks a g) ++ given_by g i)

-- where they do, reverse mappings that can be edited follow them
abbrev pub FinishedKeepsTold : Type 0
FinishedKeepsTold = (a x : State) (left : List Kind) (c ino g block n : ℕ) → Row a left (entries.RmapDone c ino g block n) x → ChunksStay a x
    → IsWritten left (a.group g) → IsOwedNext a x g (a.chains c) → ForksFollow a x g (a.chains c) → AreTold a g → AreTold x g
