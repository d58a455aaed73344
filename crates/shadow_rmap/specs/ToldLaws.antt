-- In whatever order blocks are told, the set of one group's tuples is the same, and so are its runs.
use Rattle.std.proofs.Common.{◌≡◌, ℕ, ◌==◌, Bool, List, Contains, subst, eqb-true, eq-eqb}
use Rattle.std.specs.List.{filter}
use Rattle.std.specs.List.Sorted.{IsPermutation}
use Rattle.std.proofs.lemmas.List.Sorted.{Contains-permutation, IsPermutation-sym}
use Rattle.rmap_recs.specs.Runs.{AreRuns, tuple_at}
use Rattle.rmap_recs.specs.declared.records.RmapRec.{RmapRec}
use Rattle.rmap_recs.specs.declared.tuples.Tuple.{Tuple}
use Rattle.rmap_recs.proofs.RisingLemmas.{filtered, kept_by_filter, mapped, kept_by_map}
use Rattle.run_edits.specs.EditLaws.{AreUntied}
use Rattle.live_hooks.specs.Heard.{Owned, tuples_in}
use Rattle.live_hooks.specs.Meaning.{AnyOrder}
use Rattle.shadow_rmap.specs.Kept.{ShadowState}
use Rattle.shadow_rmap.specs.Told.{KeepsOwn}

abbrev pub IsOwn : ℕ → Owned → Bool
IsOwn g o = o.group == g

-- a tuple of the group is some block's, and each block's of the group is one of them
pub from_tuples : (g : ℕ) (os : List Owned) (t : Tuple) → Contains (tuples_in g os) t → (o : Owned) × Contains os o × (o.group ≡ g) × (o.tuple ≡ t)
from_tuples g os t c =
    let at = mapped (λ (o : Owned). o.tuple) (filter (IsOwn g) os) t c in
    let there = filtered (IsOwn g) os at.0 at.1 in
    (at.0, there.0, eqb-true at.0.group g there.1, at.2)

pub in_tuples : (g : ℕ) (os : List Owned) (o : Owned) → Contains os o → o.group ≡ g → Contains (tuples_in g os) o.tuple
in_tuples g os o c same = kept_by_map (λ (p : Owned). p.tuple) (filter (IsOwn g) os) o (kept_by_filter (IsOwn g) os o c (eq-eqb o.group g same))

-- the same tuples have the same runs
pub runs_alike : (ts us : List Tuple) (recs : List RmapRec) → ((t : Tuple) → Contains ts t → Contains us t) → ((t : Tuple) → Contains us t → Contains ts t) → AreRuns ts recs → AreRuns us recs
runs_alike ts us recs on back runs = record {
  maximal = λ r c. let run = runs.maximal r c in record {
    some = run.some;
    within = λ i below. on (tuple_at r i) (run.within i below);
    consecutive = run.consecutive;
    first = λ t h. run.first t (back t h);
    last = λ t h. run.last t (back t h);
  };
  all = λ t c. runs.all t (back t c);
  rising = runs.rising;
}

pub untied_alike : (ts us : List Tuple) → ((t : Tuple) → Contains us t → Contains ts t) → AreUntied ts → AreUntied us
untied_alike ts us back untied t u c d = untied t u (back t c) (back u d)

pub own_alike : (s : ShadowState) (os ps : List Owned) → ((t : Tuple) → Contains (tuples_in s.group os) t → Contains (tuples_in s.group ps) t) → ((t : Tuple) → Contains (tuples_in s.group ps) t → Contains (tuples_in s.group os) t) → KeepsOwn s os → KeepsOwn s ps
own_alike s os ps on back kept = record {
  untied = untied_alike (tuples_in s.group os) (tuples_in s.group ps) back kept.untied;
  keeps = runs_alike (tuples_in s.group os) (tuples_in s.group ps) s.runs on back kept.keeps;
}

pub moved_over : (g : ℕ) (os ps : List Owned) → IsPermutation os ps → (t : Tuple) → Contains (tuples_in g os) t → Contains (tuples_in g ps) t
moved_over g os ps same t c =
    let at = from_tuples g os t c in
    subst (Contains (tuples_in g ps)) at.3 (in_tuples g ps at.0 (Contains-permutation os ps at.0 same at.1) at.2)

pub any_order_of_own : (s : ShadowState) → AnyOrder (λ vs os. KeepsOwn s os)
any_order_of_own s vs ws os ps inodes owned kept = own_alike s os ps (moved_over s.group os ps owned) (moved_over s.group ps os (IsPermutation-sym os ps owned)) kept
