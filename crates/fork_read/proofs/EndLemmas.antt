-- Where a piece ends, and that a leaf's end comes before its blocks run out.
use Rattle.std.proofs.Common.{◌≡◌, ℕ, ◌+◌, ◌<◌, ◌≤◌, Bool, true, false, List, [], ◌∷◌, Some, None, Result, length, refl, ap, sym, subst, ◌∙◌, inl, inr, arith}
use Rattle.std.specs.Prelude.{◌&&◌, ◌||◌, ◌==◌, ◌⊎◌, nat_le, nat_lt, if◌then◌else◌}
use Rattle.std.proofs.lemmas.Bool.Decides.{nat_tests}
use Rattle.geom.specs.Layout.{Layout, split_of}
use Rattle.dinode_core.specs.declared.inode.Core3.{Core3}
use Rattle.dinode_core.specs.declared.mapping.Mapping.{Mapping}
use Rattle.dinode_core.specs.ForkTree.{Image, Trail}
use Rattle.fork_read.specs.declared.tasks.Task.{Task}
use Rattle.fork_read.specs.declared.walk.Stop.{Stop}
use Rattle.fork_read.specs.declared.walk.Stop.TheVariants.{Bad, Whole, Left, Long, Fallen}
use Rattle.fork_read.specs.Answers.{AllLow, IsLow, IsStopped, MayLeave, end_before, first_level, given_of, may_stop, stuck_at}
use Rattle.fork_read.specs.Stuck.{HasCome, HasGone, HasSought, IsBorder, IsBroken, IsStuck}
use Rattle.fork_read.specs.Walk.{HasStepped, IsRead, Leaves, Reaches, entry_of, read_at, walk_tasks}
use Rattle.fork_read.proofs.WalkLemmas.{border_leaves, leaves_join}

-- at a leaf's end there isn't enough
pub not_enough : (b : Bool) (n given : ℕ) → (b && (nat_le 90 n || nat_lt 261 given)) ≡ false → b ≡ true → (n ≤ 89) × (given ≤ 261)
not_enough true n given h e = (grind (arith, nat_tests, h), grind (arith, nat_tests, h))
not_enough false n given h e = cc

pub has_late : (b : Bool) (n given : ℕ) → (b && (nat_le 90 n || nat_lt 261 given)) ≡ true → (b ≡ true) × ((90 ≤ n) ⊎ (261 < given))
has_late true n given h = (refl, by_first (nat_le 90 n) refl h)
  where
    by_first : (x : Bool) → nat_le 90 n ≡ x → (x || nat_lt 261 given) ≡ true → (90 ≤ n) ⊎ (261 < given)
    by_first true e h = inl (grind (arith, nat_tests, e))
    by_first false e h = inr (grind (arith, nat_tests, h))
has_late false n given h = cc

-- one block more leaves room for the way down to a leaf
pub goes_near : (b : Bool) (n given level : ℕ) → (b && (nat_le 90 n || nat_lt 261 given)) ≡ false → (b ≡ false → n + level ≤ 97) → n + 1 ≤ 98
goes_near true n given level h f = let few = not_enough true n given h refl in omega (arith, few.0)
goes_near false n given level h f = let few = f refl in omega (arith, few)

pub goes_down : (b : Bool) (n given level next : ℕ) → (b && (nat_le 90 n || nat_lt 261 given)) ≡ false → (b ≡ false → n + level ≤ 97) → level < 9 → (0 < level → next < level) → (level == 0) ≡ false → n + 1 + next ≤ 97
goes_down true n given level next h f low falls e =
    let few = not_enough true n given h refl in
    let high : 0 < level = grind (arith, nat_tests, e) in
    let less = falls high in
    omega (arith, few.0, low, less)
goes_down false n given level next h f low falls e =
    let few = f refl in
    let high : 0 < level = grind (arith, nat_tests, e) in
    let less = falls high in
    omega (arith, few, less)

-- a piece that goes on has few mappings
pub few_given : (b : Bool) (n given : ℕ) → (b && (nat_le 90 n || nat_lt 261 given)) ≡ false → (b ≡ false → given ≤ 261) → given ≤ 261
few_given true n given h f = (not_enough true n given h refl).1
few_given false n given h f = f refl

pub is_leaf : (level : ℕ) → (level == 0) ≡ true → level ≡ 0
is_leaf level e = grind (arith, nat_tests, e)

pub is_node : (level : ℕ) → (level == 0) ≡ false → 0 < level
is_node level e = grind (arith, nat_tests, e)

module _ (at : Layout) (image : Image) (core : Core3) (from : ℕ) where
  pub border_next : (xs all rest ys : List Task) (t u v : Trail) (n : ℕ) (x : Task) → all ≡ x ∷ rest → Leaves at image core from xs t n all u → IsRead at image core from x rest u ys v → x.level ≡ 0 → IsBorder at image core from xs t (n + 1) ys v
  unfolding Leaves
  border_next xs all rest ys t u v n x e h r low = record {
    before = n;
    count = omega arith;
    read = record { task = x; rest = rest; trail = u; before = subst (λ zs. Leaves at image core from xs t n zs u) e h; read = r };
    leaf = low;
  }

  module _ (xs all rest : List Task) (t u : Trail) (x : Task) (e : all ≡ x ∷ rest) where
    pub stopped_end : walk_tasks at image core from xs t ≡ walk_tasks at image core from all u → IsStopped (walk_tasks at image core from xs t) (walk_tasks at image core from) from (end_before from u.mappings x rest) rest u
    stopped_end h = by_test (may_stop from u.mappings x rest) refl
      where
        goes : walk_tasks at image core from xs t ≡ walk_tasks at image core from (x ∷ rest) u
        goes = h ∙ ap (λ ys. walk_tasks at image core from ys u) e

        by_test : (b : Bool) → may_stop from u.mappings x rest ≡ b → IsStopped (walk_tasks at image core from xs t) (walk_tasks at image core from) from (if b then Left x else Long x) rest u
        by_test true m = (goes, m)
        by_test false m = goes

    pub reached_end : (n : ℕ) → IsBorder at image core from xs t n all u → (90 ≤ n) ⊎ (261 < given_of from u.mappings) → HasGone at image core from xs t (end_before from u.mappings x rest) rest u
    reached_end n h late = by_test (may_stop from u.mappings x rest) refl
      where
        here : IsBorder at image core from xs t n (x ∷ rest) u
        here = subst (λ zs. IsBorder at image core from xs t n zs u) e h

        by_test : (b : Bool) → may_stop from u.mappings x rest ≡ b → HasGone at image core from xs t (if b then Left x else Long x) rest u
        by_test true m = record { count = n; border = here; late = late }
        by_test false m = record { count = n; border = here; late = late; stays = m }

    pub low_end : AllLow all → IsLow rest (end_before from u.mappings x rest)
    low_end h = by_test (may_stop from u.mappings x rest)
      where
        here : AllLow (x ∷ rest)
        here = subst AllLow e h

        by_test : (b : Bool) → IsLow rest (if b then Left x else Long x)
        by_test true = here
        by_test false = here

  -- a walk that was stuck, and how it went on
  pub come_behind : (xs old new : List Task) (t u v : Trail) (x : Task) (stop : Stop) → IsStuck at image core from xs t (x ∷ old) u → HasSought at image core from (x ∷ old) u stop new v → HasCome at image core from xs t stop new v
  come_behind xs old new t u v x Bad s h =
      let first = border_leaves at image core from xs (x ∷ old) t u s.count s.border in
      record { task = h.task; rest = h.rest; reached = record { count = s.count + h.reached.count; leaves = leaves_join at image core from xs (x ∷ old) (h.task ∷ h.rest) t u v s.count h.reached.count first h.reached.leaves }; bad = h.bad }
  come_behind xs old new t u v x Whole s h = absurd h
  come_behind xs old new t u v x (Left task) s h = absurd h
  come_behind xs old new t u v x (Long task) s h = record { rest = x ∷ old; met = u; stuck = s; read = h }
  come_behind xs old new t u v x Fallen s h = record { rest = x ∷ old; met = u; stuck = s; read = h }

  -- a walk that wasn't stuck
  pub come_there : (xs new : List Task) (t v : Trail) (stop : Stop) → stuck_at stop ≡ None → HasGone at image core from xs t stop new v → HasCome at image core from xs t stop new v
  come_there xs new t v Bad other h = h
  come_there xs new t v Whole other h = h
  come_there xs new t v (Left task) other h = h
  come_there xs new t v (Long task) other h = cc
  come_there xs new t v Fallen other h = absurd h

  -- a bad block
  pub broken_at : (xs all rest new : List Task) (t u v : Trail) (n : ℕ) (x : Task) (read : Bool) → all ≡ x ∷ rest → Leaves at image core from xs t n all u → read ≡ false → HasStepped at image core from x rest u read new v → IsBroken at image core from xs t new v
  broken_at xs all rest new t u v n x true e h r s = cc
  broken_at xs all rest new t u v n x false e h r s =
      let here = subst (λ zs. Leaves at image core from xs t n zs u) e h in
      record {
        task = x;
        rest = rest;
        reached = record { count = n; leaves = subst (Leaves at image core from xs t n (x ∷ rest)) (sym s.1) here };
        bad = subst (λ w. read_at at image core from x.level (w.last x.level) (entry_of x) (split_of at x.block) ≡ None) (sym s.1) s.0;
      }

  pub stepped : (x : Task) (rest new : List Task) (u v : Trail) (read : Bool) → read ≡ true → HasStepped at image core from x rest u read new v → IsRead at image core from x rest u new v
  stepped x rest new u v true r s = s
  stepped x rest new u v false r s = cc

  -- nothing is left
  pub none_left : (xs all : List Task) (t u : Trail) (n : ℕ) → length all ≡ 0 → Leaves at image core from xs t n all u → Reaches at image core from xs t [] u
  none_left xs [] t u n e h = record { count = n; leaves = h }
  none_left xs (x ∷ all) t u n e h = absurd (omega arith)

  -- the same walk, begun earlier
  pub stopped_before : (whole other : Result Trail Trail) (stop : Stop) (new : List Task) (v : Trail) → whole ≡ other → IsStopped other (walk_tasks at image core from) from stop new v → IsStopped whole (walk_tasks at image core from) from stop new v
  stopped_before whole other stop new v e h = subst (λ r. IsStopped r (walk_tasks at image core from) from stop new v) (sym e) h

pub leaves_end : (from : ℕ) (ms : List Mapping) (x : Task) (rest : List Task) → given_of from ms ≤ 512 → MayLeave from ms rest (end_before from ms x rest)
leaves_end from ms x rest few = by_test (may_stop from ms x rest) refl
  where
    by_test : (b : Bool) → may_stop from ms x rest ≡ b → MayLeave from ms rest (if b then Left x else Long x)
    by_test true m = (few, m)
    by_test false m = tt

-- no way down is longer than there are levels
pub low_start : (xs : List Task) → AllLow xs → 0 + first_level xs ≤ 97
low_start [] h = omega arith
low_start (x ∷ xs) h = omega (arith, h.0)

pub long_there : (stop : Stop) (task : Task) → stuck_at stop ≡ Some task → stop ≡ Long task
long_there Bad task h = cc
long_there Whole task h = cc
long_there (Left other) task h = cc
long_there (Long other) task h =
    let same : other ≡ task = cc in
    ap Long same
long_there Fallen task h = cc
