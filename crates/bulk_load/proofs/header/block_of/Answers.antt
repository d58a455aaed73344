use Rattle.std.proofs.Common.{◌+◌, ◌*◌, arith}
use Rattle.bulk_load.proofs.HeaderLemmas.{made_area, made_head, made_exact}
use Rattle.bulk_load.proofs.header.block_of.Goals as goal

pub returns-clause-area : goal.returns-clause-area
returns-clause-area c =
    made_area c.args.kind c.args.header.now c.args.frame.now c.args.at (8 * (c.args.frame.now.first + c.from.result)) c.zeroed-block.result.bytes c.args.area.now c.put_area.new.bytes c.put_numbers.new.bytes c.put_seal.new.bytes c.zeroed-block.result.whole c.requires.area c.put_seal.ensures.uuid
    c.put_area.ensures c.put_numbers.ensures.bytes c.put_seal.ensures.bytes

pub returns-clause-head : goal.returns-clause-head
returns-clause-head c =
    made_head c.args.kind c.args.header.now c.args.frame.now c.args.at (8 * (c.args.frame.now.first + c.from.result)) c.zeroed-block.result.bytes c.args.area.now c.put_area.new.bytes c.put_numbers.new.bytes c.put_seal.new.bytes c.zeroed-block.result.whole c.requires.area c.put_seal.ensures.uuid
    c.put_area.ensures c.put_numbers.ensures.bytes c.put_seal.ensures.bytes c.put_numbers.ensures.fits (omega (arith, c.from.ensures)) c.put_seal.ensures.fits c.put_seal.ensures.sum

pub returns-clause-exact : goal.returns-clause-exact
returns-clause-exact c =
    made_exact c.args.kind c.args.header.now c.args.frame.now c.args.at (8 * (c.args.frame.now.first + c.from.result)) c.zeroed-block.result.bytes c.args.area.now c.put_area.new.bytes c.put_numbers.new.bytes c.put_seal.new.bytes (omega (arith, c.from.ensures)) c.zeroed-block.ensures
    c.put_area.ensures c.put_numbers.ensures.bytes c.put_seal.ensures.bytes
