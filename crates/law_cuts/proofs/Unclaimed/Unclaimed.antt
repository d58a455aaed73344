-- A spare block of a rebuild of free space is claimed by no metadata.
use Rattle.std.proofs.Common.{◌≡◌, ℕ, ◌+◌, ◌^◌, ◌<◌, ◌≤◌, ◌==◌, ◌||◌, Bool, true, false, not, List, [], ◌∷◌, map, Contains, refl, sym, ap, ◌∙◌, arith, eqb-true}
use Rattle.std.specs.List.{list_any}
use Rattle.std.proofs.lemmas.Bool.{and_parts, false≢true, not-true, true≢false}
use Rattle.std.proofs.lemmas.Bool.Decides.{nat_tests}
use Rattle.law_accounts.proofs.Account.Spans.{no_true}
use Rattle.law_accounts.specs.Account.Accounts.{in_span}
use Rattle.law_writers.proofs.Change.Members.{hasc, hasc_both}
use Rattle.derive_defs.specs.Mappings.{covers}
use Rattle.fs_change.proofs.Sets.{has_set, of_has, same_self}
use Rattle.fs_change.specs.Chains.{settled_forks, settled_own}
use Rattle.fs_change.specs.Choice.{has_claim, in_spans, is_spare}
use Rattle.fs_change.specs.Parts.{is_sick, sick_in}
use Rattle.fs_state.specs.Claims.{Claimed, claims, fork_claims, metadata_claims}
use Rattle.fs_state.specs.Derive.{bno_of, derive, mappings}
use Rattle.fs_state.specs.Own.{own, rmap_of, tuple_of}
use Rattle.fs_model.specs.declared.unit.Trust.{Trust}
use Rattle.fs_model.specs.declared.unit.Trust.TheVariants.{Good, Sick, Unknown}
use Rattle.fs_model.specs.declared.unit.Unit.TheVariants as units
use Rattle.fs_state.specs.State.{State, recs_of}
use Rattle.law_accounts.proofs.Owner.Members.{settled_is}
use Rattle.law_repairs.specs.Repair.Letters.{Holds}
use Rattle.law_repairs.proofs.Reserve.Reserved.{is_found, spare_uncovered}
use Rattle.rmap_recs.proofs.RisingLemmas.{any_here}
use Rattle.rmap_recs.specs.Runs.{has, is_same, runs_of}
use Rattle.rmap_recs.specs.declared.records.RmapRec.{RmapRec}
use Rattle.rmap_recs.specs.declared.tuples.Tuple.{Tuple}
use Rattle.sblock.specs.declared.kind.Kind.TheVariants.{Rmap}
use Rattle.law_cuts.proofs.Spare.Whose.{has_next}
use Rattle.law_cuts.specs.Spare.Spare.{SpareNobodys}
use Rattle.law_cuts.specs.Unclaimed.Unclaimed.{KnownUnclaimed, ToldUnclaimed}
use Rattle.law_cuts.proofs.Unclaimed.Covered.{covered_run}

-- ---- whatever is claimed has an owner

or_left : (x y : Bool) → x ≡ true → (x || y) ≡ true
or_left true y h = refl
or_left false y h = absurd (false≢true h)

or_right : (x y : Bool) → y ≡ true → (x || y) ≡ true
or_right true y h = refl
or_right false y h = h

-- the tuple of a claim on the block
abbrev Claimant : List Claimed → ℕ → Type 0
Claimant cs b = (t : Tuple) × (has (map tuple_of cs) t ≡ true) × (t.block ≡ b)

a_claim : (cs : List Claimed) (b : ℕ) → has_claim cs b ≡ true → Claimant cs b
a_claim [] b h = absurd (false≢true h)
a_claim (c ∷ cs) b h = by (c.block == b) refl h (a_claim cs b)
  where
    by : (k : Bool) → (c.block == b) ≡ k → (k || has_claim cs b) ≡ true → (has_claim cs b ≡ true → Claimant cs b) → Claimant (c ∷ cs) b
    by true is h more = (tuple_of c, or_left (is_same (tuple_of c) (tuple_of c)) (has (map tuple_of cs) (tuple_of c)) (same_self (tuple_of c)), eqb-true c.block b is)
    by false is h more = let on = more h in (on.0, or_right (is_same on.0 (tuple_of c)) (has (map tuple_of cs) on.0) on.1, on.2)

-- ---- mappings that tell settled owners

pub told_unclaimed : SpareNobodys → ToldUnclaimed
told_unclaimed nobodys a x left g b row told = no_true (has_claim (metadata_claims a g) b) (λ is.
    let one = a_claim (metadata_claims a g) b is in
    let owns : has (settled_own a g) one.0 ≡ true = settled_is a g one.0 ∙ or_left (has (map tuple_of (metadata_claims a g)) one.0) (has (settled_forks a g) one.0) one.1 in
    true≢false (sym (inside b one.0.block one.2) ∙ nobodys a x left g b units.Free refl row told one.0 owns))
  where
    inside : (b k : ℕ) → k ≡ b → in_span b 1 k ≡ true
    inside b k e = grind (arith, nat_tests)

-- ---- mappings that hold what they should

owned : (a : State) (g : ℕ) (t : Tuple) → has (map tuple_of (metadata_claims a g)) t ≡ true → Contains (own a g) t
unfolding own claims
owned a g t h = of_has (own a g) t (has_set (map tuple_of (claims a g)) t ∙ hasc_both (metadata_claims a g) (fork_claims a g) t ∙ or_left (hasc (metadata_claims a g) t) (hasc (fork_claims a g) t) h)

held_maps : (a : State) (g : ℕ) → Holds a g units.Rmap → mappings a g ≡ runs_of (own a g)
unfolding derive rmap_of
held_maps a g h = ap recs_of h.0.0.0.1

-- a block that none covers has no owner of metadata
held_unclaimed : (a : State) (g b : ℕ) → b < 2 ^ 32 → list_any (covers b) (mappings a g) ≡ false → Holds a g units.Rmap → has_claim (metadata_claims a g) b ≡ false
held_unclaimed a g b low none h = no_true (has_claim (metadata_claims a g) b) (λ is.
    let one = a_claim (metadata_claims a g) b is in
    let at = one.2 in
    let hit = covered_run (own a g) one.0 (omega (arith, at, low)) (owned a g one.0 one.1) in
    let first = hit.2 in
    let last = hit.3 in
    true≢false (sym (any_here (covers b) (runs_of (own a g)) hit.0 hit.1 (is_covered hit.0 b (omega (arith, at, first)) (omega (arith, at, last)))) ∙ ap (list_any (covers b)) (sym (held_maps a g h)) ∙ none))
  where
    is_covered : (r : RmapRec) (b : ℕ) → r.start ≤ b → b < r.start + r.count → covers b r ≡ true
    is_covered r b low high = grind (arith, nat_tests)

-- where a spare block is found mappings aren't sick; so they are trusted once they were judged
is_good : (t : Trust) → is_sick t ≡ false → (t ≡ Unknown → ⊥) → t ≡ Good
is_good Good sick judged = refl
is_good Unknown sick judged = absurd (judged refl)
is_good Sick sick judged = absurd (true≢false sick)

not_sick : (a : State) (g b : ℕ) → is_spare a g units.Free b ≡ true → sick_in (a.group g) Rmap ≡ false
unfolding is_spare
not_sick a g b h = not-true (sick_in (a.group g) Rmap) (and_parts (not (sick_in (a.group g) Rmap)) (in_spans (bno_of a g) b) h).0

pub known_unclaimed : KnownUnclaimed
known_unclaimed a x left g b fit row stands judged =
    let spare = is_found a g units.Free b row.0.2 in
    let good = is_good ((a.group g).tree Rmap).trust (not_sick a g b spare) judged in
    held_unclaimed a g b (has_next a g b units.Free fit row.0.2) (spare_uncovered a g units.Free b refl spare) (stands (good, tt))
