use Rattle.std.proofs.Common.{ℕ, subst}
use Rattle.xscrub.specs.Repairs.{CountsFor, IsClean}
use Rattle.xscrub.proofs.SoundLemmas.{judged_leaves}
use Rattle.xscrub.proofs.confirming.confirm_repaired.Goals as goal

pub returns-clause-sound : goal.returns-clause-sound
returns-clause-sound g c =
    judged_leaves (IsClean c.finding_by.result) (g.D.Device.content c.args.dev.now) (g.D.Device.content c.judge_behind-judged.new.dev) (g.D.Device.blocks c.args.dev.now) (g.D.Device.blocks c.judge_behind-judged.new.dev)
    c.judge_behind-judged.result c.judge_behind-judged.ensures.same c.judge_behind-judged.ensures.sizes c.judge_behind-judged.ensures.told c.finding_by.ensures.clean

pub returns-clause-count : goal.returns-clause-count
returns-clause-count g c = λ none.
    subst (λ (n : ℕ). CountsFor n (g.D.Device.faults c.judge_behind-judged.new.dev) c.finding_by.result) none
    (c.finding_by.ensures.count (g.D.Device.faults c.args.dev.now) (g.D.Device.faults c.judge_behind-judged.new.dev) c.judge_behind-judged.ensures.cause)
