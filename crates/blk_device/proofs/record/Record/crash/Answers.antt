use Rattle.std.proofs.Common.{◌≡◌, ◌+◌, ◌∙◌, arith, drop, get_or, subst}
use Rattle.std.proofs.lemmas.List.{take_rest}
use Rattle.blk_device.specs.Recorded.{seen}
use Rattle.blk_device.specs.Replay.{left_of, choice_of, replayed}
use Rattle.blk_device.specs.Stored.{with_stored}
use Rattle.blk_device.specs.declared.unsynced.Unsynced.{Unsynced}
use Rattle.blk_device.proofs.ReplayLemmas.{next_call, all_calls}
use Rattle.blk_device.proofs.record.Record.crash.Goals as goal

pub loop-i-preserved : goal.loop-i-preserved
loop-i-preserved c =
    let items = c.args.self.now.calls.items in
    let i = c.loop-i.i in
    let call = c.call-item.result in
    let is : call ≡ get_or items i call = rw c.deref-call-items.ensures.value at c.call-item.is in
    let left : c.outcome_of-left.result ≡ left_of call (drop (i + 1) items) (choice_of c.args.choices.now i) = rw (take_rest, c.deref.ensures.value, c.choice_at.ensures) at c.outcome_of-left.ensures in
    next_call c.args.choices.now (with_stored c.args.self.now.base) items i call (seen c.loop-i.log) (seen c.replay.new.self)
    (omega arith) is c.loop-i.invariant (λ s b. subst (λ (x : Unsynced). seen c.replay.new.self s b ≡ replayed x call (seen c.loop-i.log) s b) left (c.replay.ensures c.if-not-replay.false s b))

pub returns-clause-content : goal.returns-clause-content
returns-clause-content c =
    c.settle.ensures.same ∙ all_calls c.args.choices.now (with_stored c.args.self.now.base) c.args.self.now.calls.items c.loop-i.i (seen c.loop-i.log) (omega arith) c.loop-i.invariant
