use Rattle.std.proofs.Common.{◌≡◌, length, IfErr}
use Rattle.meta_txn.specs.declared.fault.TxnFault.TheVariants.{Failed}
use Rattle.meta_txn.specs.Joined.{with_block}
use Rattle.join_blocks.proofs.CountLemmas.{count_joined, with_err, is_failed, is_failed_joined, one_read}
use Rattle.join_blocks.proofs.join.find_one.Goals as goal

pub returns-in_err-join-clause-kind : goal.returns-in_err-join-clause-kind
returns-in_err-join-clause-kind g c = λ room.
    with_err {T = Unit {0}} (λ r. IfErr r (λ f. f ≡ Failed)) c.in_err-join.field-0.0 c.from_residual.result c.from_residual.ensures
    (is_failed c.in_err-join.field-0.0 c.args.at c.args.txn.now.blocks c.in_err-join.ensures.too_many room)

pub returns-in_err-join-clause-kind_joined : goal.returns-in_err-join-clause-kind_joined
returns-in_err-join-clause-kind_joined g c = λ there.
    with_err {T = Unit {0}} (λ r. IfErr r (λ f. f ≡ Failed)) c.in_err-join.field-0.0 c.from_residual.result c.from_residual.ensures
    (is_failed_joined c.in_err-join.field-0.0 c.args.at c.args.txn.now.blocks c.in_err-join.ensures.too_many there)

pub returns-clause-count : goal.returns-clause-count
returns-clause-count g c = count_joined c.args.at c.in_ok-join.field-0.now.bytes c.args.txn.now.blocks c.len.ensures.batch

pub returns-clause-ticks : goal.returns-clause-ticks
returns-clause-ticks g c =
    let ps = c.args.txn.now.blocks in
    one_read c.in_ok-join.field-0 c.args.at (length (with_block c.args.at c.in_ok-join.field-0.now.bytes ps)) ps c.args.steps.now c.join.new.steps (λ none. (c.join.ensures.untouched none).2) c.join.ensures.ticks c.in_ok-join.ensures.too_many
    (count_joined c.args.at c.in_ok-join.field-0.now.bytes ps c.len.ensures.batch)
