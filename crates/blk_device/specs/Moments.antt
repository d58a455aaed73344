-- How a run of device calls goes on.
use Rattle.std.proofs.Common.{◌≤◌, inl, inr, ⊎_elim, ℕ, refl, ◌∙◌, arith, subst}
use Rattle.blk_device.specs.declared.device.Region.{Region}
use Rattle.blk_device.specs.Contents.{Contents, InDoubt}
use Rattle.blk_device.specs.Crash.{Elapses, LeavesOnly, Follows, NoMore, Reached}

module _ {D : Type 0} (clock : D → ℕ) (held_since : D → ℕ → Contents → Type 0) where
  -- before the first call
  pub started : (old : D) (P : Contents → Type 0) → ((c : Contents) → held_since old (clock old) c → P c) → LeavesOnly clock held_since old old P
  started old P here = record { later = omega arith; each = here; before = λ t c le left. inl left }

  -- one call more, after which a crash leaves what has P
  pub goes_on : (old mid new : D) (P may_hold : Contents → Type 0) → LeavesOnly clock held_since old mid P → Elapses (clock mid) (clock new) (held_since mid) (held_since new) may_hold
      → ((c : Contents) → may_hold c → P c) → LeavesOnly clock held_since old new P
  goes_on old mid new P may_hold so_far time here = record {
    later = omega (arith, so_far.later, time.later);
    each = λ c left. ⊎_elim (so_far.each c) (here c) (time.nothing_else (clock old) c so_far.later left);
    before = λ t c le left. ⊎_elim (so_far.before t c le) (λ now. inr (here c now)) (time.nothing_else t c (omega (arith, le, so_far.later)) left);
  }

  pub weaken : (old new : D) (P Q : Contents → Type 0) → LeavesOnly clock held_since old new P → ((c : Contents) → P c → Q c) → LeavesOnly clock held_since old new Q
  weaken old new P Q run so = record {
    later = run.later;
    each = λ c left. so c (run.each c left);
    before = λ t c le left. ⊎_elim (λ past. inl past) (λ has. inr (so c has)) (run.before t c le left);
  }

  -- one run after the other
  pub chain : (old mid new : D) (P : Contents → Type 0) → LeavesOnly clock held_since old mid P → LeavesOnly clock held_since mid new P → LeavesOnly clock held_since old new P
  chain old mid new P first second = record {
    later = omega (arith, first.later, second.later);
    each = λ c left. ⊎_elim (first.each c) (λ has. has) (second.before (clock old) c first.later left);
    before = λ t c le left. ⊎_elim (first.before t c le) (λ has. inr has) (second.before t c (omega (arith, le, first.later)) left);
  }

  module _ (may_hold : D → Contents → Type 0) (only_now : (d : D) (c : Contents) → held_since d (clock d) c → may_hold d c) (counts_now : (d : D) (t : ℕ) (c : Contents) → t ≤ clock d → may_hold d c → held_since d t c) where
    -- this moment is one of the run
    pub at_end : (old new : D) (P : Contents → Type 0) → LeavesOnly clock held_since old new P → (c : Contents) → may_hold new c → P c
    at_end old new P run c now = run.each c (counts_now new (clock old) c run.later now)

    pub no_call : (K : Region → ℕ → Type 0) (d : D) → LeavesOnly clock held_since d d (Reached K (may_hold d))
    no_call K d = started d (Reached K (may_hold d)) (λ c left. (c, only_now d c left, λ s b kept. refl))

    -- a write outside of K
    pub write_keeps : (K : Region → ℕ → Type 0) (r : Region) (at : ℕ) (old new : D) → (K r at → ⊥) → Follows (InDoubt r at) (may_hold old) (may_hold new)
        → Elapses (clock old) (clock new) (held_since old) (held_since new) (may_hold new) → LeavesOnly clock held_since old new (Reached K (may_hold old))
    write_keeps K r at old new out crash time =
        goes_on old old new (Reached K (may_hold old)) (may_hold new) (no_call K old) time
        (λ c now. ((crash c now).0, (crash c now).1, λ s b kept. (crash c now).2 s b (λ here. out (subst (λ (n : ℕ). K r n) here.1 (subst (λ (q : Region). K q b) here.0 kept)))))

    pub sync_keeps : (K : Region → ℕ → Type 0) (old new : D) → NoMore (may_hold old) (may_hold new)
        → Elapses (clock old) (clock new) (held_since old) (held_since new) (may_hold new) → LeavesOnly clock held_since old new (Reached K (may_hold old))
    sync_keeps K old new crash time = goes_on old old new (Reached K (may_hold old)) (may_hold new) (no_call K old) time (λ c now. (c, crash c now, λ s b kept. refl))

    pub then_keeps : (K : Region → ℕ → Type 0) (old mid new : D) → LeavesOnly clock held_since old mid (Reached K (may_hold old)) → LeavesOnly clock held_since mid new (Reached K (may_hold mid)) → LeavesOnly clock held_since old new (Reached K (may_hold old))
    then_keeps K old mid new first second =
        chain old mid new (Reached K (may_hold old)) first
        (weaken mid new (Reached K (may_hold mid)) (Reached K (may_hold old)) second
        (λ c reached. let from = at_end old mid (Reached K (may_hold old)) first reached.0 reached.1 in (from.0, from.1, λ s b kept. reached.2 s b kept ∙ from.2 s b kept)))
