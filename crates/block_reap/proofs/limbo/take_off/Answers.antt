use Rattle.std.proofs.Common.{ap, sym, subst, ◌∙◌}
use Rattle.block_reap.specs.Limbo.{IsLimbo, has}
use Rattle.block_reap.proofs.NextLemmas.{parts_of, off_of, rest_is, front_left, front_has, whole_has}
use Rattle.block_reap.proofs.limbo.take_off.Goals as goal

pub returns-then-run-first-clause-limbo : goal.returns-then-run-first-clause-limbo
returns-then-run-first-clause-limbo c =
    let runs = c.args.limbo.now.items in
    let run = c.args.run.now in
    let first = c.remove-first.result in
    let others = c.remove-first.new.self.items in
    let off = off_of runs run first others (parts_of runs run first others c.requires.next c.remove-first.ensures.value c.remove-first.ensures.items) c.requires.next in
    subst IsLimbo (sym c.put_in_place.ensures.items) (front_left runs run first _ others off c.requires.limbo c.if-run-first.true (rest_is runs run first others off))

pub returns-then-run-first-clause-exact : goal.returns-then-run-first-clause-exact
returns-then-run-first-clause-exact c = λ b o.
    let runs = c.args.limbo.now.items in
    let run = c.args.run.now in
    let first = c.remove-first.result in
    let others = c.remove-first.new.self.items in
    let off = off_of runs run first others (parts_of runs run first others c.requires.next c.remove-first.ensures.value c.remove-first.ensures.items) c.requires.next in
    ap (λ xs. has xs b o) c.put_in_place.ensures.items ∙ front_has runs run first _ others off c.requires.limbo (rest_is runs run first others off) b o

pub returns-else-run-first-clause-exact : goal.returns-else-run-first-clause-exact
returns-else-run-first-clause-exact c = λ b o.
    let runs = c.args.limbo.now.items in
    let run = c.args.run.now in
    let first = c.remove-first.result in
    let others = c.remove-first.new.self.items in
    let off = off_of runs run first others (parts_of runs run first others c.requires.next c.remove-first.ensures.value c.remove-first.ensures.items) c.requires.next in
    whole_has runs run first others off c.requires.limbo c.if-run-first.false b o
