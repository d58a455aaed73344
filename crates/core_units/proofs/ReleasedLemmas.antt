-- Lost runs are limbo.
use Rattle.std.proofs.Common.{◌≡◌, ℕ, ◌+◌, ◌<◌, ◌≤◌, ◌^◌, Bool, true, false, List, [], ◌∷◌, refl, arith, sym, subst, ◌∙◌, ap}
use Rattle.std.specs.Prelude.{◌==◌, ◌&&◌, ◌||◌, nat_le, nat_lt}
use Rattle.std.proofs.lemmas.Bool.{false≢true, lt-leb, lt-ltb}
use Rattle.block_reap.specs.Limbo.{AllFollow, Follows, HasRun, IsLimbo, before, touches}
use Rattle.block_reap.specs.declared.runs.LimboRun.{LimboRun}
use Rattle.run_sets.specs.Runs.{AreMaximal}
use Rattle.run_sets.specs.declared.run.Run.{Run}
use Rattle.core_units.specs.Released.{BlocksEnd, lost_run, lost_runs}
use Rattle.core_units.specs.Tested.{RunsWithin}

weaker : (from to : ℕ) (rs : List Run) → from ≤ to → AreMaximal to rs → AreMaximal from rs
weaker from to [] le h = tt
weaker from to (r ∷ rs) le h = (let f = h.0 in omega (arith, le, f), h.1, h.2)

first_true : (a b : Bool) → a ≡ true → (a || b) ≡ true
first_true true b h = refl
first_true false b h = absurd (false≢true h)

last_false : (a b c : Bool) → c ≡ false → (a && (b && c)) ≡ false
last_false false b c h = refl
last_false true false c h = refl
last_false true true c h = h

next_follows : (owner : ℕ) (x r : Run) → x.start + x.count < r.start → Follows (lost_run owner x) (lost_run owner r)
next_follows owner x r lt = record {
  later = first_true (nat_lt x.start r.start) ((x.start == r.start) && nat_lt owner owner) (lt-ltb x.start r.start (omega (arith, lt)));
  apart = last_false (owner == owner) (nat_le x.start (r.start + r.count)) (nat_le r.start (x.start + x.count)) (lt-leb r.start (x.start + x.count) lt);
}

all_follow : (owner from : ℕ) (x : Run) (rs : List Run) → x.start + x.count < from → AreMaximal from rs → AllFollow (lost_run owner x) (lost_runs owner rs)
all_follow owner from x [] lt h = tt
all_follow owner from x (r ∷ rs) lt h =
    let f = h.0 in
    (next_follows owner x r (omega (arith, lt, f)), all_follow owner (r.start + r.count + 1) x rs (omega (arith, lt, f)) h.2)

pub lost_limbo : (owner from : ℕ) (rs : List Run) → AreMaximal from rs → RunsWithin 268435456 rs → IsLimbo (lost_runs owner rs)
lost_limbo owner from [] h within = tt
lost_limbo owner from (r ∷ rs) h within =
    (record { some = h.1; end = let w = within.0 in omega (arith, w) }, all_follow owner (r.start + r.count + 1) r rs (omega arith) h.2, lost_limbo owner (r.start + r.count + 1) rs h.2 within.1)
