use Rattle.std.proofs.Common.{◌∷◌, ◌+◌, sym, ap, ◌∙◌, arith, Option}
use Rattle.fs_model.specs.declared.fault.Fault.{Fault}
use Rattle.xref_scrub.specs.Cursors.{shown_from}
use Rattle.xref_scrub.specs.Differences.{comes_before}
use Rattle.xref_scrub.proofs.CursorLemmas.{passed_before, passed_not_behind, not_behind_at, ahead_at, next_first, next_second}
use Rattle.xref_scrub.proofs.OrderLemmas.{order_of}
use Rattle.xref_scrub.proofs.ShowingLemmas.{shown_first, shown_second}
use Rattle.xref_scrub.proofs.cursors.pass.Goals as goal

pub missing_at-fault-requires-clause-passed : goal.missing_at-fault-requires-clause-passed
missing_at-fault-requires-clause-passed g c =
    passed_before (comes_before g.K.RecKind.form) c.args.derived.now c.args.index.now c.args.at.now.derived c.args.at.now.index c.index-derived-at.result (omega arith) c.index-derived-at.is c.requires.parted

pub missing_at-fault-requires-clause-left : goal.missing_at-fault-requires-clause-left
missing_at-fault-requires-clause-left g c =
    not_behind_at (comes_before g.K.RecKind.form) c.args.derived.now c.args.index.now c.args.at.now.derived c.args.at.now.index c.index-derived-at.result (omega arith) c.index-derived-at.is (sym c.is_derived_next.ensures.value ∙ c.if-is_derived_next.true)

pub returns-then-is_derived_next-clause-parted : goal.returns-then-is_derived_next-clause-parted
returns-then-is_derived_next-clause-parted g c =
    let form = g.K.RecKind.form in
    let late = not_behind_at (comes_before form) c.args.derived.now c.args.index.now c.args.at.now.derived c.args.at.now.index c.index-derived-at.result (omega arith) c.index-derived-at.is (sym c.is_derived_next.ensures.value ∙ c.if-is_derived_next.true) in
    next_first (comes_before form) (order_of form g.met.K.RecKind.lawful) c.args.derived.now c.args.index.now c.args.at.now.derived c.args.at.now.index c.index-derived-at.result c.requires.derived_rises (omega arith) c.index-derived-at.is late c.requires.parted

pub returns-then-is_derived_next-clause-shown : goal.returns-then-is_derived_next-clause-shown
returns-then-is_derived_next-clause-shown g c =
    let form = g.K.RecKind.form in
    let late = not_behind_at (comes_before form) c.args.derived.now c.args.index.now c.args.at.now.derived c.args.at.now.index c.index-derived-at.result (omega arith) c.index-derived-at.is (sym c.is_derived_next.ensures.value ∙ c.if-is_derived_next.true) in
    shown_first form g.K.Indexed.shown c.args.index.now c.args.derived.now c.args.at.now.derived c.args.at.now.index c.index-derived-at.result (omega arith) c.index-derived-at.is late
    ∙ ap (λ (f : Option Fault). f ∷ shown_from form g.K.Indexed.shown c.args.index.now c.args.derived.now (c.args.at.now.derived + 1) c.args.at.now.index) (sym c.missing_at-fault.ensures)

pub extra_at-fault-requires-clause-passed : goal.extra_at-fault-requires-clause-passed
extra_at-fault-requires-clause-passed g c =
    passed_not_behind (comes_before g.K.RecKind.form) c.args.derived.now c.args.index.now c.args.at.now.derived c.args.at.now.index c.index-index-at.result (omega arith) c.index-index-at.is c.requires.parted

pub extra_at-fault-requires-clause-left : goal.extra_at-fault-requires-clause-left
extra_at-fault-requires-clause-left g c =
    ahead_at (comes_before g.K.RecKind.form) c.args.derived.now c.args.index.now c.args.at.now.derived c.args.at.now.index c.index-index-at.result (omega arith) c.index-index-at.is (sym c.is_derived_next.ensures.value ∙ c.if-is_derived_next.false)

pub returns-clause-parted : goal.returns-clause-parted
returns-clause-parted g c =
    let form = g.K.RecKind.form in
    let ahead = ahead_at (comes_before form) c.args.derived.now c.args.index.now c.args.at.now.derived c.args.at.now.index c.index-index-at.result (omega arith) c.index-index-at.is (sym c.is_derived_next.ensures.value ∙ c.if-is_derived_next.false) in
    next_second (comes_before form) (order_of form g.met.K.RecKind.lawful) c.args.derived.now c.args.index.now c.args.at.now.derived c.args.at.now.index c.index-index-at.result c.requires.index_rises (omega arith) c.index-index-at.is ahead c.requires.parted

pub returns-clause-shown : goal.returns-clause-shown
returns-clause-shown g c =
    let form = g.K.RecKind.form in
    let ahead = ahead_at (comes_before form) c.args.derived.now c.args.index.now c.args.at.now.derived c.args.at.now.index c.index-index-at.result (omega arith) c.index-index-at.is (sym c.is_derived_next.ensures.value ∙ c.if-is_derived_next.false) in
    shown_second form g.K.Indexed.shown c.args.index.now c.args.derived.now c.args.at.now.derived c.args.at.now.index c.index-index-at.result (omega arith) c.index-index-at.is ahead
    ∙ ap (λ (f : Option Fault). f ∷ shown_from form g.K.Indexed.shown c.args.index.now c.args.derived.now c.args.at.now.derived (c.args.at.now.index + 1)) (sym c.extra_at-fault.ensures)
