-- Each of some tuples that has a block below 2 ^ 32 lies in one of the records that are made of them.
use Rattle.std.proofs.Common.{◌≡◌, ℕ, zero, suc, ◌+◌, ◌-◌, ◌^◌, ◌<◌, ◌≤◌, Bool, true, false, not, List, find, Contains, Option, Some, None, refl, sym, ap, ◌∙◌, inl, inr, arith}
use Rattle.std.specs.List.{filter, list_any}
use Rattle.std.proofs.lemmas.Bool.{cases_order, false≢true}
use Rattle.rmap_recs.proofs.ChainLemmas.{block_on, chain_link, no_follower, nth, nth-step, nth-zero, one_follower, only_behind}
use Rattle.rmap_recs.proofs.RisingLemmas.{any_found, found_by_find, kept_by_filter, kept_by_map, none_by_find}
use Rattle.rmap_recs.specs.Runs.{begins_run, followers, goes_on, run_from, runs_of}
use Rattle.rmap_recs.specs.declared.records.RmapRec.{RmapRec}
use Rattle.rmap_recs.specs.declared.tuples.Tuple.{Tuple}

abbrev behind : List Tuple → Tuple → ℕ
behind ts s = followers (2 ^ 32 - s.block) ts s

-- ---- none goes on from the last follower, where more might follow

abbrev Ends : List Tuple → Tuple → ℕ → Type 0
Ends ts s n = (t : Tuple) → Contains ts t → goes_on (nth s n) t ≡ false

end_cases : (n : ℕ) (ts : List Tuple) (s : Tuple) (o : Option Tuple) → find (goes_on s) ts ≡ o
    → ((u : Tuple) → followers n ts u < n → Ends ts u (followers n ts u)) → followers (suc n) ts s < suc n → Ends ts s (followers (suc n) ts s)
end_cases n ts s None none deeper room t c = ap (λ (u : Tuple). goes_on u t) (ap (nth s) (no_follower (suc n) ts s none) ∙ nth-zero s) ∙ none_by_find (goes_on s) ts t none c
end_cases n ts s (Some u) found deeper room t c =
    let at = found_by_find (goes_on s) ts u found in
    let count : followers (suc n) ts s ≡ followers n ts u + 1 = omega (arith, one_follower n ts s u found) in
    ap (λ (v : Tuple). goes_on v t) (ap (nth s) count ∙ sym (nth-step s u at.1 (followers n ts u))) ∙ deeper u (omega (arith, count, room)) t c

ends : (n : ℕ) (ts : List Tuple) (s : Tuple) → followers n ts s < n → Ends ts s (followers n ts s)
ends zero ts s room t c = absurd (omega (arith, room))
ends (suc n) ts s room t c = end_cases n ts s (find (goes_on s) ts) refl (λ u. ends n ts u) room t c

-- ---- each lies in the run of a first one

abbrev Lies : List Tuple → Tuple → Type 0
Lies ts t = (s : Tuple) × (i : ℕ) × Contains ts s × (begins_run ts s ≡ true) × (i ≤ behind ts s) × (nth s i ≡ t)

one_on : (ts : List Tuple) (u t : Tuple) → t.block < 2 ^ 32 → Contains ts t → goes_on u t ≡ true → Lies ts u → Lies ts t
one_on ts u t low c goes (s, i, has_s, begins, most, is) =
    let on = block_on u t goes in
    let block : s.block + i ≡ u.block = ap (λ (v : Tuple). v.block) is in
    elim (cases_order i (behind ts s)) [
      | inl same ↦
          let room : behind ts s < 2 ^ 32 - s.block = omega (arith, same, on, block, low) in
          absurd (false≢true (sym (ends (2 ^ 32 - s.block) ts s room t c) ∙ ap (λ (v : Tuple). goes_on v t) (ap (nth s) (sym same) ∙ is) ∙ goes))
      | inr rest ↦ elim rest [
        | inl below ↦
            let link = chain_link (2 ^ 32 - s.block) ts s i below in
            (s, i + 1, has_s, begins, omega (arith, below), only_behind u (nth s (i + 1)) t (ap (λ (v : Tuple). goes_on v (nth s (i + 1))) (sym is) ∙ link.1) goes)
        | inr above ↦ absurd (omega (arith, above, most))
      ]
    ]

lies_cases : (ts : List Tuple) (t : Tuple) → t.block < 2 ^ 32 → Contains ts t → ((u : Tuple) → Contains ts u → goes_on u t ≡ true → Lies ts u) → (b : Bool) → begins_run ts t ≡ b → Lies ts t
lies_cases ts t low c earlier true begins = (t, 0, c, begins, omega arith, nth-zero t)
lies_cases ts t low c earlier false begins =
    let found = any_found (λ u. goes_on u t) ts (not_false (list_any (λ u. goes_on u t) ts) begins) in
    one_on ts found.0 t low c found.2 (earlier found.0 found.1 found.2)
  where
    not_false : (b : Bool) → not b ≡ false → b ≡ true
    not_false true h = refl
    not_false false h = absurd (false≢true (sym h))

lies_by : (ts : List Tuple) (m : ℕ) (t : Tuple) → t.block ≤ m → t.block < 2 ^ 32 → Contains ts t → Lies ts t
lies_by ts zero t most low c = lies_cases ts t low c (λ u d goes. absurd (let on = block_on u t goes in omega (arith, on, most))) (begins_run ts t) refl
lies_by ts (suc m) t most low c = lies_cases ts t low c (λ u d goes. let on = block_on u t goes in lies_by ts m u (omega (arith, on, most)) (omega (arith, on, low)) d) (begins_run ts t) refl

-- so a record covers its block
pub covered_run : (ts : List Tuple) (t : Tuple) → t.block < 2 ^ 32 → Contains ts t → (r : RmapRec) × Contains (runs_of ts) r × (r.start ≤ t.block) × (t.block < r.start + r.count)
unfolding runs_of
covered_run ts t low c =
    let lies = lies_by ts t.block t (omega arith) low c in
    let block : lies.0.block + lies.1 ≡ t.block = ap (λ (v : Tuple). v.block) lies.5 in
    let most = lies.4 in
    (run_from ts lies.0, kept_by_map (run_from ts) (filter (begins_run ts) ts) lies.0 (kept_by_filter (begins_run ts) ts lies.0 lies.2 lies.3), omega (arith, block), omega (arith, block, most))
