use Rattle.std.proofs.Common.{ap, ◌∙◌, rules}
use Rattle.ag_headers.specs.Agf.{agf_form, agf_written}
use Rattle.ag_headers.specs.Fields.{stamped}
use Rattle.ag_headers.proofs.AgfLemmas.{agf_accepted}
use Rattle.ag_headers.proofs.agf.put_agf.Goals as goal

pub returns-clause-accepted : goal.returns-clause-accepted
unfolding agf_written
returns-clause-accepted c =
    let agf = c.args.agf.now in
    let is = c.put_stamp.ensures.bytes ∙ ap (stamped agf_form agf.uuid agf.lsn) c.put_table.ensures.bytes in
    agf_accepted agf c.args.sector.now c.put_stamp.new.sector is c.requires (search rules) c.put_table.ensures.fits c.put_stamp.ensures.fits c.put_stamp.ensures.summed
