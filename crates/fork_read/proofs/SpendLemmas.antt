-- Which blocks a walk has read, from step to step.
use Rattle.std.proofs.Common.{◌≡◌, ℕ, ◌+◌, ◌≤◌, Bool, true, false, List, [], ◌∷◌, ◌++◌, length, map, Some, None, Result, Ok, Err, ap, sym, subst, ◌∙◌, append-nil, arith}
use Rattle.std.specs.Prelude.{IfOk, if◌then◌else◌}
use Rattle.geom.specs.Layout.{Layout}
use Rattle.dinode_core.specs.declared.inode.Core3.{Core3}
use Rattle.dinode_core.specs.declared.mapping.Fork.{Fork}
use Rattle.dinode_core.specs.declared.mapping.ForkFault.TheVariants as faults
use Rattle.dinode_core.specs.Inline.{first_bad, form_fault}
use Rattle.dinode_core.specs.ForkTree.{Image, Trail, is_tree, start}
use Rattle.fork_read.specs.declared.fault.ForkPiece.{ForkPiece}
use Rattle.fork_read.specs.declared.seen.BlockRead.{BlockRead}
use Rattle.fork_read.specs.declared.seen.Seen.{Seen}
use Rattle.fork_read.specs.declared.tasks.Task.{Task}
use Rattle.fork_read.specs.declared.walk.Stop.{Stop}
use Rattle.fork_read.specs.declared.walk.Stop.TheVariants.{Bad, Whole, Left, Long, Fallen}
use Rattle.fork_read.specs.Answers.{IsPiece, end_before, judged, may_stop, next_of}
use Rattle.fork_read.specs.Counted.{HasPaid, HasSpent, IsOwn, IsPaid, IsSpent}
use Rattle.fork_read.specs.Walk.{Leaves, block_of, first_tasks, trail_of}
use Rattle.fork_read.proofs.CountLemmas.{length_mapped, own_count}
use Rattle.fork_read.proofs.WalkLemmas.{leaves_first, leaves_join}
use Rattle.fork_read.proofs.WholeLemmas.{else_parts, some_none}

pub both_ok : {A E : Type 0} (P Q : A → Type 0) (result : Result A E) → IfOk result P → IfOk result Q → IfOk result (λ x. P x × Q x)
both_ok P Q (Ok x) h k = (h, k)
both_ok P Q (Err e) h k = tt

module _ (at : Layout) (image : Image) (core : Core3) (from : ℕ) where
  -- the walk has read all
  pub paid_all : (xs all : List Task) (t u : Trail) (n before now : ℕ) → length all ≡ 0 → Leaves at image core from xs t n all u → now ≤ before + n → HasPaid at image core from xs t before now [] u
  paid_all xs [] t u n before now none h few = record { count = n; leaves = h; few = few }
  paid_all xs (x ∷ all) t u n before now none h few = absurd (omega (arith, none))

  -- the walk ends before a subtree
  pub paid_end : (xs all rest : List Task) (t u : Trail) (x : Task) (stop : Stop) (n before now : ℕ) → all ≡ x ∷ rest → stop ≡ end_before from u.mappings x rest → Leaves at image core from xs t n all u → now ≤ before + n → IsPaid at image core from xs t before now stop rest u
  paid_end xs all rest t u x stop n before now e is h few = subst (λ (s : Stop). IsPaid at image core from xs t before now s rest u) (sym is) (by_test (may_stop from u.mappings x rest))
    where
      here : Leaves at image core from xs t n (x ∷ rest) u
      here = subst (λ zs. Leaves at image core from xs t n zs u) e h

      by_test : (b : Bool) → IsPaid at image core from xs t before now (if b then Left x else Long x) rest u
      by_test true = record { count = n; leaves = here; few = few }
      by_test false = record { count = n; leaves = here; few = few }

  -- two walks in a row
  pub spent_join : (xs ys : List Task) (t u : Trail) (before mid now : ℕ) → HasPaid at image core from xs t before mid ys u → HasSpent at image core from ys u mid now → HasSpent at image core from xs t before now
  spent_join xs ys t u before mid now p s =
      let first = p.few in
      let then_few = s.few in
      record {
        count = p.count + s.count;
        left = s.left;
        after = s.after;
        leaves = leaves_join at image core from xs ys s.left t u s.after p.count s.count p.leaves s.leaves;
        few = omega (arith, first, then_few);
      }

  paid_more : (xs ys zs : List Task) (t u v : Trail) (before mid now : ℕ) → HasPaid at image core from xs t before mid ys u → HasPaid at image core from ys u mid now zs v → HasPaid at image core from xs t before now zs v
  paid_more xs ys zs t u v before mid now p s =
      let first = p.few in
      let then_few = s.few in
      record {
        count = p.count + s.count;
        leaves = leaves_join at image core from xs ys zs t u v p.count s.count p.leaves s.leaves;
        few = omega (arith, first, then_few);
      }

  pub paid_join : (xs ys left : List Task) (t u v : Trail) (before mid now : ℕ) (stop : Stop) → HasPaid at image core from xs t before mid ys u → IsPaid at image core from ys u mid now stop left v → IsPaid at image core from xs t before now stop left v
  paid_join xs ys left t u v before mid now Bad p s = tt
  paid_join xs ys left t u v before mid now Whole p s = paid_more xs ys [] t u v before mid now p s
  paid_join xs ys left t u v before mid now (Left task) p s = paid_more xs ys (task ∷ left) t u v before mid now p s
  paid_join xs ys left t u v before mid now (Long task) p s = paid_more xs ys (task ∷ left) t u v before mid now p s
  paid_join xs ys left t u v before mid now Fallen p s = paid_more xs ys [] t u v before mid now p s

module _ (at : Layout) (image : Image) (core : Core3) (fork : Fork) (from : ℕ) where
  -- nothing is read yet
  pub nothing_spent : (before now : ℕ) → now ≡ before → IsSpent at image core fork from before now
  nothing_spent before now same =
      (λ _. same, λ _. record { count = 0; left = first_tasks core fork from; after = start; leaves = leaves_first at image core from (first_tasks core fork from) start; few = omega (arith, same) })

  pub tree_spent : (xs : List Task) (t : Trail) (before now : ℕ) → xs ≡ first_tasks core fork from ++ [] → t ≡ start → is_tree core fork ≡ true → HasSpent at image core from xs t before now → IsSpent at image core fork from before now
  tree_spent xs t before now e s tree h =
      let here = subst (λ ys. HasSpent at image core from ys start before now) (e ∙ append-nil (first_tasks core fork from)) (subst (λ v. HasSpent at image core from xs v before now) s h) in
      (λ off. let clash : ◌≡◌ {A = Bool} true false = sym tree ∙ off in cc, λ _. here)

  as_own : (form_fault core fork ≡ None) → is_tree core fork ≡ true → (ys : List Task) (u : Trail) (before now : ℕ) (piece : ForkPiece) → HasPaid at image core from (first_tasks core fork from) start before now ys u → length piece.tree_blocks.items ≡ length u.blocks → IsOwn core fork from before now piece
  as_own form tree ys u before now piece p own =
      let count = own_count at image core fork form tree from ys u p.count before now p.leaves p.few in
      omega (arith, count, own)

  there_own : (form_fault core fork ≡ None) → is_tree core fork ≡ true → (ys : List Task) (u : Trail) (stop : Stop) (level before now : ℕ) (piece : ForkPiece) → judged at fork level stop u ≡ None → length piece.tree_blocks.items ≡ length u.blocks → IsPaid at image core from (first_tasks core fork from) start before now stop ys u → IsOwn core fork from before now piece
  there_own form tree ys u Bad level before now piece good own p = absurd (some_none faults.Block (else_parts (first_bad at fork u.mappings) (Some faults.Block) good).1)
  there_own form tree ys u Whole level before now piece good own p = as_own form tree [] u before now piece p own
  there_own form tree ys u (Left task) level before now piece good own p = as_own form tree (task ∷ ys) u before now piece p own
  there_own form tree ys u (Long task) level before now piece good own p = as_own form tree (task ∷ ys) u before now piece p own
  there_own form tree ys u Fallen level before now piece good own p = as_own form tree [] u before now piece p own

  -- a piece that came has read its own blocks and the way down
  pub tree_paid : (form_fault core fork ≡ None) → is_tree core fork ≡ true → (xs ys : List Task) (t : Trail) (seen : Seen) (stop : Stop) (level before now : ℕ) (piece : ForkPiece) → xs ≡ first_tasks core fork from ++ [] → t ≡ start → judged at fork level stop (trail_of seen) ≡ None → IsPiece from seen.mappings.items (map (λ b. b.block) seen.blocks.items) (next_of stop) piece → IsPaid at image core from xs t before now stop ys (trail_of seen) → IsOwn core fork from before now piece
  tree_paid form tree xs ys t seen stop level before now piece e s good given p =
      let here = subst (λ zs. IsPaid at image core from zs start before now stop ys (trail_of seen)) (e ∙ append-nil (first_tasks core fork from)) (subst (λ v. IsPaid at image core from xs v before now stop ys (trail_of seen)) s p) in
      let own = ap length given.tree_blocks ∙ length_mapped (λ (b : BlockRead). b.block) seen.blocks.items ∙ sym (length_mapped block_of seen.blocks.items) in
      there_own form tree ys (trail_of seen) stop level before now piece good own here
