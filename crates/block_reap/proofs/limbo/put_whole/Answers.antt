use Rattle.std.proofs.Common.{◌≡◌, ap, sym, subst, ◌∙◌, filter}
use Rattle.block_reap.specs.Limbo.{AllHaveRuns, HasRun, IsLimbo, has, hull_of, is_beside, put_run}
use Rattle.block_reap.proofs.PutLemmas.{runs_of, put_keeps, put_has}
use Rattle.block_reap.proofs.limbo.put_whole.Goals as goal

pub hull-whole-requires-clause-runs : goal.hull-whole-requires-clause-runs
hull-whole-requires-clause-runs c = subst AllHaveRuns (sym c.deref.ensures.value) (runs_of c.args.limbo.now.items c.requires.limbo)

pub returns-clause-limbo : goal.returns-clause-limbo
returns-clause-limbo c =
    let run = c.args.run.now in
    let old = c.args.limbo.now.items in
    let whole : c.hull-whole.result ≡ hull_of run run old = c.hull-whole.ensures.value ∙ ap (hull_of run run) c.deref.ensures.value in
    let e : c.put_in_place.new.runs.items ≡ put_run (hull_of run run old) (filter (is_beside run) old) = c.put_in_place.ensures.items ∙ ap (λ r. put_run r c.leave_beside.new.runs.items) whole ∙ ap (put_run (hull_of run run old)) c.leave_beside.ensures.items in
    subst IsLimbo (sym e) (put_keeps run old (subst HasRun whole c.hull-whole.ensures.run) c.requires.limbo)

pub returns-clause-exact : goal.returns-clause-exact
returns-clause-exact c = λ b o.
    let run = c.args.run.now in
    let old = c.args.limbo.now.items in
    let whole : c.hull-whole.result ≡ hull_of run run old = c.hull-whole.ensures.value ∙ ap (hull_of run run) c.deref.ensures.value in
    let e : c.put_in_place.new.runs.items ≡ put_run (hull_of run run old) (filter (is_beside run) old) = c.put_in_place.ensures.items ∙ ap (λ r. put_run r c.leave_beside.new.runs.items) whole ∙ ap (put_run (hull_of run run old)) c.leave_beside.ensures.items in
    ap (λ xs. has xs b o) e ∙ put_has run old b o
