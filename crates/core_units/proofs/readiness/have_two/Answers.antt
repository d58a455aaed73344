use Rattle.std.proofs.Common.{◌≤◌, rules}
use Rattle.core_units.proofs.RebuildLemmas.{two_in}
use Rattle.core_units.proofs.readiness.have_two.Goals as goal

pub returns : goal.returns
returns c = λ e.
    let s = c.shape-form in
    let le : s.result.blocks ≤ c.args.many = search rules in
    two_in c.args.first c.args.second c.args.records.0 c.args.records.1 s.result.levels s.result.blocks c.args.many s.ensures le (c.has_tree.ensures e)
