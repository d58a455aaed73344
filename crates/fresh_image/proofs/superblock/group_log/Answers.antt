use Rattle.std.proofs.Common.{◌≤◌, ◌<◌, ◌^◌, arith}
use Rattle.fresh_image.proofs.HeadLemmas.{shifted, log_found, log_on, log_last}
use Rattle.fresh_image.proofs.superblock.group_log.Goals as goal

pub returns-then-len-log : goal.returns-then-len-log
returns-then-len-log c =
    let le : c.args.len ≤ 2 ^ c.loop-log.log = omega (arith, shifted c.loop-log.log (omega arith), c.if-len-log.true) in
    log_found c.loop-log.log c.args.len c.loop-log.invariant (omega arith) le

pub loop-log-preserved : goal.loop-log-preserved
loop-log-preserved c =
    let lt : 2 ^ c.loop-log.log < c.args.len = omega (arith, shifted c.loop-log.log (omega arith), c.if-len-log.false) in
    log_on c.loop-log.log c.args.len c.loop-log.invariant (omega arith) lt

pub returns : goal.returns
returns c = log_last c.loop-log.log c.args.len c.loop-log.invariant (omega arith) (omega arith)
