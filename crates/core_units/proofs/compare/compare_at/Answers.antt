use Rattle.std.proofs.Common.{◌≡◌, ◌++◌, ◌∙◌, ap, sym}
use Rattle.core_units.specs.Compared.{faults_from}
use Rattle.core_units.specs.declared.compare.Place.{Place}
use Rattle.core_units.proofs.CompareLemmas.{first_on, nothing_more, second_on}
use Rattle.core_units.proofs.compare.compare_at.Goals as goal

pub returns-in_ok-part-in-First : goal.returns-in_ok-part-in-First
returns-in_ok-part-in-First c =
    let j = c.args.judging.now in
    let from : Place → _ = faults_from c.args.kept c.args.heads.now j.trees j.lists in
    ap from c.in-First.is ∙ first_on c.args.kept c.args.heads.now j.trees j.lists c.in-First.from c.in_ok-part-in-First.part.faults.items c.in_ok-part-in-First.part.next c.in_ok-part-in-First.ensures ∙ ap (λ (p : Place). c.in_ok-part-in-First.part.faults.items ++ from p) (sym c.next_first.ensures)

pub returns-in_ok-part-in-Second : goal.returns-in_ok-part-in-Second
returns-in_ok-part-in-Second c =
    let j = c.args.judging.now in
    let from : Place → _ = faults_from c.args.kept c.args.heads.now j.trees j.lists in
    ap from c.in-Second.is ∙ second_on c.args.kept c.args.heads.now j.trees j.lists c.in-Second.from c.in_ok-part-in-Second.part.faults.items c.in_ok-part-in-Second.part.next c.in_ok-part-in-Second.ensures ∙ ap (λ (p : Place). c.in_ok-part-in-Second.part.faults.items ++ from p) (sym c.next_second.ensures)

pub returns-in_ok-faults-in-Counters : goal.returns-in_ok-faults-in-Counters
returns-in_ok-faults-in-Counters c =
    let j = c.args.judging.now in
    let from : Place → _ = faults_from c.args.kept c.args.heads.now j.trees j.lists in
    ap from c.in-Counters.is ∙ sym c.in_ok-faults-in-Counters.ensures ∙ nothing_more c.in_ok-faults-in-Counters.faults.items
