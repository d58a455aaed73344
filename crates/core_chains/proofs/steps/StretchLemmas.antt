-- A stretch has blocks.
use Rattle.std.proofs.Common.{◌≡◌, ◌<◌, ℕ, ◌-◌, arith, sym, subst}
use Rattle.std.specs.Prelude.{Option, None, Some, IfSome, min}
use Rattle.defer_chain.specs.Stretch.{Reaches, refc_end, stretch_count, up_to_end, up_to_next}
use Rattle.span_recs.specs.declared.refcount.RefcRec.{RefcRec}
use Rattle.core_chains.specs.Steps.Counts.{IsPart}

least : (n m : ℕ) → 0 < n → 0 < m → IsPart (min n m) n
least n m some more = record { some = grind (arith, some, more); inside = grind arith }

to_end : (b n : ℕ) (over : Option RefcRec) → 0 < n → IfSome over (λ r. Reaches r b) → IsPart (up_to_end b n over) n
to_end b n None some has = record { some = some; inside = omega arith }
to_end b n (Some r) some has = least n (refc_end r - b) some (omega (arith, has.ends))

to_next : (b n m : ℕ) (next : Option ℕ) → IsPart m n → IfSome next (λ s. b < s) → IsPart (up_to_next b m next) n
to_next b n m None part has = part
to_next b n m (Some s) part has =
    let p = least m (s - b) part.some (omega (arith, has)) in
    record { some = p.some; inside = omega (arith, p.inside, part.inside) }

pub is_part : (b n count : ℕ) (over : Option RefcRec) (next : Option ℕ) → count ≡ stretch_count b n over next → 0 < n → IfSome over (λ r. Reaches r b) → IfSome next (λ s. b < s) → IsPart count n
is_part b n count over next is some has ahead = subst (λ (x : ℕ). IsPart x n) (sym is) (to_next b n (up_to_end b n over) next (to_end b n over some has) ahead)
