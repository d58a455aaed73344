-- Two runs of blocks: their order, what they have in common, and both as one.
use Rattle.std.proofs.Common.{◌≡◌, ℕ, ◌≤◌, true, false, refl, arith}
use Rattle.std.specs.Prelude.{◌||◌}
use Rattle.std.proofs.lemmas.Bool.Decides.{nat_tests}
use Rattle.block_reap.specs.declared.runs.LimboRun.{LimboRun}
use Rattle.block_reap.specs.Limbo.{covers, before, comes_first, touches, union, end_of, HasRun}

pub touches_sym : (a b : LimboRun) → touches a b ≡ false → touches b a ≡ false
touches_sym a b h = grind (arith, nat_tests)

pub touches_other : (a b : LimboRun) → touches a b ≡ true → touches b a ≡ true
touches_other a b h = grind (arith, nat_tests)

-- two runs that don't touch are in order
pub later_first : (a b : LimboRun) → touches a b ≡ false → before b a ≡ false → before a b ≡ true
later_first a b apart h = grind (arith, nat_tests)

pub before_along : (a b c : LimboRun) → before a b ≡ true → before b c ≡ true → before a c ≡ true
before_along a b c h i = grind (arith, nat_tests)

-- the run that has grown has all blocks of the first
pub record Wide (run whole : LimboRun) : Type 0 where
  pub owner : whole.owner ≡ run.owner
  pub starts : whole.start ≤ run.start
  pub ends : end_of run ≤ end_of whole

pub wide_self : (run : LimboRun) → Wide run run
wide_self run = record { owner = refl; starts = omega arith; ends = omega arith }

pub wide_union : (run whole r : LimboRun) → Wide run whole → Wide run (union whole r)
wide_union run whole r w = record { owner = w.owner; starts = omega (arith, w.starts); ends = omega (arith, w.starts, w.ends) }

pub wide_touches : (run whole r : LimboRun) → Wide run whole → touches run r ≡ true → touches whole r ≡ true
wide_touches run whole r w h = let a = w.owner in let b = w.starts in let c = w.ends in grind (arith, nat_tests, a, b, c)

pub has_union : (r s : LimboRun) → HasRun r → HasRun s → HasRun (union r s)
has_union r s h i = record { some = omega (arith, h.some, i.some); end = omega (arith, h.end, i.end, h.some, i.some) }

-- in both as one lie the blocks of both
pub covers_union : (r s : LimboRun) (b o : ℕ) → touches r s ≡ true → covers (union r s) b o ≡ (covers r b o || covers s b o)
covers_union r s b o h = grind (arith, nat_tests)

-- what touches neither doesn't touch both as one
pub apart_union : (r s x : LimboRun) → HasRun x → touches r s ≡ true → touches r x ≡ false → touches s x ≡ false → touches (union r s) x ≡ false
apart_union r s x h t u v = let some = h.some in grind (arith, nat_tests, some)

-- a run that doesn't touch another has none of its blocks
pub not_covered : (r s : LimboRun) (b o : ℕ) → touches r s ≡ false → covers r b o ≡ true → covers s b o ≡ false
not_covered r s b o h c = grind (arith, nat_tests)

-- nor the one behind it
pub end_not_covered : (r s : LimboRun) → touches r s ≡ false → covers s (end_of r) r.owner ≡ false
end_not_covered r s h = grind (arith, nat_tests)

-- a pair in a later run isn't before the first of an earlier
pub pair_later : (r s : LimboRun) (b o : ℕ) → before r s ≡ true → covers s b o ≡ true → comes_first b o r.start r.owner ≡ false
pair_later r s b o h c = grind (arith, nat_tests)

pub pair_inside : (r : LimboRun) (b o : ℕ) → covers r b o ≡ true → comes_first b o r.start r.owner ≡ false
pair_inside r b o c = grind (arith, nat_tests)
