use Rattle.std.proofs.Common.{arith}
use Rattle.std.proofs.lemmas.Map.Text.{text_keys}
use Rattle.image_hosts.proofs.DueLemmas.{named_with}
use Rattle.image_hosts.proofs.mem_host.replace_redo.Goals as goal

pub returns-in-Some : goal.returns-in-Some
returns-in-Some c =
    named_with c.args.name.now c.args.redos.now (c.get_mut.follows.lender (record { size = c.args.redo.size; blocks = c.args.redo.blocks; is_lost = c.args.redo.is_lost }))
    (record { size = c.args.redo.size; blocks = c.args.redo.blocks; is_lost = c.args.redo.is_lost }) (λ n. grind (arith, text_keys))
