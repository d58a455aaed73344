use Rattle.std.proofs.Common.{◌-◌, get_or, sym, ◌∙◌, arith, inl, inr}
use Rattle.std.proofs.lemmas.Bool.{cases_lt, lt-ltb, le-ltb}
use Rattle.run_sets.specs.declared.run.Run.{Run}
use Rattle.run_sets.proofs.StretchLemmas.{inside, outside_from}
use Rattle.index_derive.proofs.units.has_unit.Goals as goal

-- what a place past the end reads as
abbrev none : Run
none = record { start = 0; count = 0 }

pub returns-then-index-eq0 : goal.returns-then-index-eq0
returns-then-index-eq0 c = sym (outside_from c.args.units.now c.begun-index.result c.args.unit none c.requires c.begun-index.ensures.within (λ some. absurd (omega arith)) c.begun-index.ensures.later)

pub returns : goal.returns
returns c =
    let run : Run = get_or c.args.units.now (c.begun-index.result - 1) none in
    let low = c.begun-index.ensures.begun (c.begun-index.result - 1) none (omega arith) in
    elim (cases_lt (c.args.unit - run.start) run.count) [
      | inl lt ↦ lt-ltb _ _ lt ∙ sym (inside c.args.units.now (c.begun-index.result - 1) none c.args.unit (omega arith) low (omega (arith, lt, low)))
      | inr far ↦ le-ltb _ _ far ∙ sym (outside_from c.args.units.now c.begun-index.result c.args.unit none c.requires c.begun-index.ensures.within (λ some. omega (arith, far, low)) c.begun-index.ensures.later)
    ]
