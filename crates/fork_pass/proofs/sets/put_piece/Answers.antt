use Rattle.std.proofs.Common.{is_ok, ap, sym, ◌∙◌}
use Rattle.fork_pass.proofs.SetLemmas.{answered, put_at}
use Rattle.fork_pass.proofs.sets.put_piece.Goals as goal

pub returns-clause-put : goal.returns-clause-put
returns-clause-put c =
    let added = answered _ c.put.result (sym c.map_err.ensures.variant ∙ ap is_ok c.in_ok-map_err.was) c.put.ensures.added in
    put_at c.args.sets.now c.args.g c.put.new.self c.index-sets-g.result c.args.piece c.requires added
