-- The blocks that files share end where the mappings end: so their runs are found below that length.
use Rattle.std.proofs.Common.{◌≡◌, ℕ, zero, suc, ◌+◌, ◌≤◌, Bool, true, false, List, [], ◌∷◌, map, refl, ap, arith}
use Rattle.std.specs.Prelude.{◌&&◌, nat_le, nat_lt, min}
use Rattle.std.specs.List.{count_by}
use Rattle.std.proofs.lemmas.Bool.Decides.{nat_tests}
use Rattle.derive_defs.specs.Mappings.{EndWithin}
use Rattle.derive_defs.specs.Shared.{shares, sharers, refc_of, shared_space}
use Rattle.rmap_recs.specs.Rmap.{is_shareable}
use Rattle.rmap_recs.specs.declared.records.RmapRec.{RmapRec}
use Rattle.run_sets.specs.Runs.{most}
use Rattle.run_sets.specs.Stretches.{stretches, stretches_from}

none : (f : ℕ → ℕ) (least a k : ℕ) → ((b : ℕ) → a ≤ b → nat_le least (f b) ≡ false) → stretches_from f least a k ≡ []
none f least a zero h = refl
none f least a (suc k) h = rw (h a (omega arith)) (none f least (a + 1) k (λ b l. h b (omega (arith, l))))

cut : (f : ℕ → ℕ) (least a m n : ℕ) → m ≤ n → ((b : ℕ) → a + m ≤ b → nat_le least (f b) ≡ false) → stretches_from f least a n ≡ stretches_from f least a m
cut f least a zero n le h = none f least a n (λ b l. h b (omega (arith, l)))
cut f least a (suc m) zero le h = absurd (omega (arith, le))
cut f least a (suc m) (suc n) le h = rw (cut f least (a + 1) m n (omega (arith, le)) (λ b l. h b (omega (arith, l)))) refl

behind : (s c b len : ℕ) (shareable : Bool) → s + c ≤ len → len ≤ b → (shareable && (nat_le s b && nat_lt b (s + c))) ≡ false
behind s c b len true e l = grind (arith, nat_tests)
behind s c b len false e l = refl

unshared : (len b : ℕ) (mappings : List RmapRec) → EndWithin len mappings → len ≤ b → count_by (shares b) mappings ≡ 0
unshared len b [] h l = refl
unshared len b (r ∷ rs) h l = rw (behind r.start r.count b len (is_shareable r) h.0 l) (unshared len b rs h.1 l)

few : (n : ℕ) → n ≡ 0 → nat_le 2 (min n most) ≡ false
few n e = rw e refl

-- below any length within which the mappings end
pub shared_within : (len : ℕ) (mappings : List RmapRec) → EndWithin len mappings → len ≤ most → shared_space mappings ≡ map refc_of (stretches (sharers mappings) 2 len)
unfolding shared_space sharers stretches
shared_within len mappings ends short =
    ap (map refc_of) (cut (λ b. min (count_by (shares b) mappings) most) 2 0 len most short (λ b l. few (count_by (shares b) mappings) (unshared len b mappings ends (omega (arith, l)))))
