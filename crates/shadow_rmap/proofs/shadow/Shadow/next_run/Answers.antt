use Rattle.std.proofs.Common.{not, List, arith, rules, of_calls, Some, None, sym, ap, subst, ◌∙◌}
use Rattle.std.proofs.lemmas.Fn.{always_returns_same}
use Rattle.rmap_recs.specs.declared.records.RmapRec.{RmapRec}
use Rattle.run_edits.specs.Edits.{AreSorted}
use Rattle.shadow_rmap.specs.Kept.{ShadowState, is_behind, first_behind}
use Rattle.shadow_rmap.proofs.NextLemmas.{Point, parted, none_behind, one_behind, next_is}
use Rattle.shadow_rmap.proofs.shadow.Shadow.next_run.Goals as goal

pub returns-then-place-len-clause-value : goal.returns-then-place-len-clause-value
returns-then-place-len-clause-value c =
    let after = c.args.after in
    let same = c.deref.ensures.value in
    let place = c.partition_point-place.result in
    let point = c.partition_point-place.ensures.partitioned (λ x. not (is_behind after x)) (always_returns_same _ _ _ (λ a r f k. search (rules, of_calls))) (parted after c.deref.result.now (subst AreSorted (sym same) c.self.invariant.sorted)) in
    let full = c.self.inside.runs.ok.0 in
    ap Some c.index.ensures
    ∙ one_behind after c.self.inside.runs.items place c.index.result.now (omega (arith, full)) (subst (λ (ys : List RmapRec). Point after ys place) same point)
    ∙ ap (λ (s : ShadowState). first_behind after s.runs) c.self.view_is

pub returns-then-place-len-clause-exact : goal.returns-then-place-len-clause-exact
returns-then-place-len-clause-exact c = λ ts keeps. next_is ts c.args.self.now.runs keeps c.args.after (Some c.index.result.now) (returns-then-place-len-clause-value c)

pub returns-clause-value : goal.returns-clause-value
returns-clause-value c =
    let after = c.args.after in
    let same = c.deref.ensures.value in
    let place = c.partition_point-place.result in
    let point = c.partition_point-place.ensures.partitioned (λ x. not (is_behind after x)) (always_returns_same _ _ _ (λ a r f k. search (rules, of_calls))) (parted after c.deref.result.now (subst AreSorted (sym same) c.self.invariant.sorted)) in
    let full = c.self.inside.runs.ok.0 in
    sym (none_behind after c.self.inside.runs.items place (omega (arith, full)) (subst (λ (ys : List RmapRec). Point after ys place) same point))
    ∙ ap (λ (s : ShadowState). first_behind after s.runs) c.self.view_is

pub returns-clause-exact : goal.returns-clause-exact
returns-clause-exact c = λ ts keeps. next_is ts c.args.self.now.runs keeps c.args.after None (returns-clause-value c)
