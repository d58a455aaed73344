-- What a crash leaves of a device that is read, and then written by one commit.
use Rattle.std.proofs.Common.{◌≡◌, ◌≤◌, ℕ, ap, subst, ◌∙◌, inl}
use Rattle.std.specs.Prelude.{Option, Some, None, IfSome}
use Rattle.blk_device.specs.declared.device.Region.{Region}
use Rattle.blk_device.specs.declared.device.Region.TheVariants.{Image}
use Rattle.blk_device.specs.Contents.{Contents}
use Rattle.blk_device.specs.Crash.{LeavesOnly, Reached}
use Rattle.blk_device.specs.Moments.{at_end, chain, weaken}
use Rattle.blk_device.specs.Reading.{EachBlock, Keeps}
use Rattle.blk_device.specs.declared.device.Device.{Ghosts}
use Rattle.redo_area.specs.Area.{Blocks}
use Rattle.redo_area.specs.Calls.{LeavesFrom}
use Rattle.redo_area.specs.Stages.{AtRest, BeforeOrAfter}
use Rattle.redo_area.proofs.AreaLaws.{behind_law}

module _ {D : Type 0} (g : Ghosts D) (only_now : (d : D) (c : Contents) → g.may_have_held_since d (g.clock d) c → g.may_hold_now d c) (counts_now : (d : D) (t : ℕ) (c : Contents) → t ≤ g.clock d → g.may_hold_now d c → g.may_have_held_since d t c) where
  -- nothing waits and all is synced, still
  rest_on : (old mid : D) (m : Contents) → Keeps g EachBlock old mid → AtRest (g.may_hold_now old) m → AtRest (g.may_hold_now mid) m
  rest_on old mid m kept rest = record {
    quiet = λ c now.
        let from = at_end g.clock g.may_have_held_since g.may_hold_now only_now counts_now old mid (Reached EachBlock (g.may_hold_now old)) kept c now in
        (λ j s b. from.2 s b tt j) ∙ rest.quiet from.0 from.1;
    shut = rest.shut;
  }

  -- a crash while the device is read leaves the image before
  read_leaves : (change : Blocks → Blocks) (old mid : D) (m : Contents) → Keeps g EachBlock old mid → AtRest (g.may_hold_now old) m → LeavesOnly g.clock g.may_have_held_since old mid (BeforeOrAfter change (g.blocks old Image) (m Image))
  read_leaves change old mid m kept rest =
      weaken g.clock g.may_have_held_since old mid (Reached EachBlock (g.may_hold_now old)) (BeforeOrAfter change (g.blocks old Image) (m Image)) kept
      (λ c from. inl (behind_law (g.blocks old Image) (g.may_hold_now old) m rest.quiet rest.shut c (from.0, from.1, λ s b gate. from.2 s b tt)))

  pub only_read : (change : Blocks → Blocks) (old mid : D) → Keeps g EachBlock old mid → LeavesFrom g old mid AtRest (BeforeOrAfter change)
  only_read change old mid kept = on (g.content old) where
    on : (told : Option Contents) → IfSome told (λ m. AtRest (g.may_hold_now old) m → LeavesOnly g.clock g.may_have_held_since old mid (BeforeOrAfter change (g.blocks old Image) (m Image)))
    on None = tt
    on (Some m) = λ rest. read_leaves change old mid m kept rest

  pub then_commits : (change : Blocks → Blocks) (old mid new : D) → Keeps g EachBlock old mid → g.content mid ≡ g.content old → g.blocks mid ≡ g.blocks old → LeavesFrom g mid new AtRest (BeforeOrAfter change) → LeavesFrom g old new AtRest (BeforeOrAfter change)
  then_commits change old mid new kept same sizes commits =
      on (g.content old) (subst (λ (told : Option Contents). IfSome told (λ m. AtRest (g.may_hold_now mid) m → LeavesOnly g.clock g.may_have_held_since mid new (BeforeOrAfter change (g.blocks old Image) (m Image)))) same
      (subst (λ (size : ℕ). IfSome (g.content mid) (λ m. AtRest (g.may_hold_now mid) m → LeavesOnly g.clock g.may_have_held_since mid new (BeforeOrAfter change size (m Image)))) (ap (λ (f : Region → ℕ). f Image) sizes) commits))
    where
      on : (told : Option Contents) → IfSome told (λ m. AtRest (g.may_hold_now mid) m → LeavesOnly g.clock g.may_have_held_since mid new (BeforeOrAfter change (g.blocks old Image) (m Image)))
          → IfSome told (λ m. AtRest (g.may_hold_now old) m → LeavesOnly g.clock g.may_have_held_since old new (BeforeOrAfter change (g.blocks old Image) (m Image)))
      on None done = tt
      on (Some m) done = λ rest. chain g.clock g.may_have_held_since old mid new (BeforeOrAfter change (g.blocks old Image) (m Image)) (read_leaves change old mid m kept rest) (done (rest_on old mid m kept rest))
