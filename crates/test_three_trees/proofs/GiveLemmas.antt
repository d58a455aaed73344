-- A run that is given, or not.
use Rattle.std.proofs.Common.{◌≡◌, ◌≤◌, ℕ, refl, subst, Result, Err}
use Rattle.std.specs.Prelude.{Option, Some, None, IfSome, OnOk}
use Rattle.blk_device.specs.Contents.{Contents, Becomes}
use Rattle.blk_device.specs.Reading.{EachBlock, Keeps}
use Rattle.blk_device.specs.declared.device.Device.{Ghosts}
use Rattle.blk_device.specs.declared.device.Region.TheVariants.{Image}
use Rattle.ag_headers.specs.Ring.{FreeRing, entries}
use Rattle.redo_area.specs.Calls.{LeavesFrom}
use Rattle.redo_area.specs.Stages.{AtRest, BeforeOrAfter}
use Rattle.meta_txn.specs.Joined.{Joined, empty, written, written_by}
use Rattle.span_recs.specs.declared.span.SpanRec.{SpanRec}
use Rattle.rmap_recs.specs.declared.records.RmapRec.{RmapRec}
use Rattle.tree_defs.specs.declared.site.Site.{Site}
use Rattle.tree_blocks.specs.declared.tree.TreeAt.{TreeAt}
use Rattle.tree_edit.specs.declared.fault.EditFault.{EditFault}
use Rattle.test_three_trees.specs.Given.{AreChanged, IsTouched, IsGiven}
use Rattle.test_three_trees.proofs.ChangeLemmas.{stays, stays_same}
use Rattle.test_three_trees.proofs.CrashLemmas.{only_read, then_commits}

where_told : {P : Contents → Type 0} (told : Option Contents) → ((c : Contents) → told ≡ Some c → P c) → IfSome told P
where_told None f = tt
where_told (Some c) f = f c refl

module _ {D : Type 0} (g : Ghosts D) (only_now : (d : D) (c : Contents) → g.may_have_held_since d (g.clock d) c → g.may_hold_now d c) (counts_now : (d : D) (t : ℕ) (c : Contents) → t ≤ g.clock d → g.may_hold_now d c → g.may_have_held_since d t c) (site : Site) (bno cnt rmap : TreeAt) (list : FreeRing) where
  -- nothing was written
  pub not_given : {T : Type 0} (old mid : D) (fault : EditFault) → Keeps g EachBlock old mid → IsGiven g old mid site bno cnt rmap (entries list) {T = T} (Err fault)
  not_given old mid fault kept = record {
    change = λ image. image;
    crash = only_read g only_now counts_now (λ image. image) old mid kept;
    done = tt;
    stays = where_told (g.content old) (λ c e spread. stays_same site (c Image) (IsTouched site spread));
  }

  -- the three changes were written, as far as the device went
  pub is_given : {T : Type 0} (run : SpanRec) (owned : RmapRec) (txn : Joined) (old mid new : D) (result : Result T EditFault) → Keeps g EachBlock old mid → g.content mid ≡ g.content old → g.blocks mid ≡ g.blocks old
      → AreChanged site run owned (g.content old) bno cnt rmap empty list txn → LeavesFrom g mid new AtRest (BeforeOrAfter (written_by txn)) → OnOk result (Becomes (g.content mid) (g.content new) (λ m n. n Image ≡ written (m Image) txn))
      → IsGiven g old new site bno cnt rmap (entries list) result
  is_given run owned txn old mid new result kept same sizes changed commits done = record {
    change = written_by txn;
    crash = then_commits g only_now counts_now (written_by txn) old mid new kept same sizes commits;
    done = subst (λ (t : Option Contents). OnOk result (Becomes t (g.content new) (λ m n. n Image ≡ written (m Image) txn))) same done;
    stays = where_told (g.content old) (λ c e spread. stays site run owned c bno cnt rmap list txn (subst (λ (t : Option Contents). AreChanged site run owned t bno cnt rmap empty list txn) e changed) spread);
  }
