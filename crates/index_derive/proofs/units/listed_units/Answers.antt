use Rattle.std.proofs.Common.{◌≡◌, ℕ, ◌∙◌, ◌/◌, ap, sym, subst}
use Rattle.std.proofs.lemmas.Result.{IfOk-weaker}
use Rattle.run_sets.specs.Runs.{AreMaximal, holds, runs_below}
use Rattle.index_derive.specs.Units.{is_listed_by, listing_runs}
use Rattle.index_derive.proofs.UnitLemmas.{both, listed_exact, listed_in}
use Rattle.index_derive.proofs.units.listed_units.Goals as goal

pub returns-clause-value : goal.returns-clause-value
returns-clause-value c =
    let blocks = c.as_slice.result.now in
    let same = c.as_slice.ensures.value in
    IfOk-weaker c.units_by.result (λ found. AreMaximal 0 found.items × ((u : ℕ) → holds found.items u ≡ holds (listing_runs (c.from.result / 8) c.args.ino.now blocks) u)) _
    (λ found h. listed_exact (c.from.result / 8) c.args.ino.now c.args.mappings.now blocks found.items (subst (AreMaximal 0) (sym same) c.in_ok-blocks.ensures.maximal) (λ b. ap (λ rs. holds rs b) same ∙ c.in_ok-blocks.ensures.exact b) h.0 h.1 ∙ ap (λ (n : ℕ). runs_below (is_listed_by c.args.ino.now c.args.mappings.now) (n / 8)) c.from.ensures)
    (both c.units_by.result (λ found. AreMaximal 0 found.items) (λ found. (u : ℕ) → holds found.items u ≡ holds (listing_runs (c.from.result / 8) c.args.ino.now blocks) u) c.units_by.ensures.maximal c.units_by.ensures.exact)

pub returns-clause-exact : goal.returns-clause-exact
returns-clause-exact c a g are =
    IfOk-weaker c.units_by.result (λ found. found.items ≡ runs_below (is_listed_by c.args.ino.now c.args.mappings.now) (c.args.length / 8)) _
    (λ found is. listed_in a g c.args.length c.args.ino.now c.args.mappings.now found.items are is) (returns-clause-value c)
