use Rattle.std.proofs.Common.{ap, ◌∙◌}
use Rattle.ag_headers.specs.Agi.{agi_inodes, agi_free}
use Rattle.ag_headers.specs.Fields.{with_table}
use Rattle.ag_headers.proofs.agi.put_table.Goals as goal

pub returns-clause-bytes : goal.returns-clause-bytes
returns-clause-bytes c =
    c.put_free.ensures.bytes ∙ ap (with_table (agi_free c.args.agi.now)) (c.put_inodes.ensures.bytes ∙ ap (with_table (agi_inodes c.args.agi.now)) c.put_ids.ensures.bytes)
