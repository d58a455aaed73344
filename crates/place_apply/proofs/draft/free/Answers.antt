use Rattle.std.proofs.Common.{arith}
use Rattle.place_apply.proofs.draft.free.Goals as goal

pub returns : goal.returns
returns g c = record {
  draft = record {
    few = omega (arith, c.leave_out.ensures.taken, c.requires.draft.few);
    inside = c.leave_out.ensures.inside c.args.task.now.ask.site.bounds.length c.requires.draft.inside;
  };
}

pub returns-in_err-push : goal.returns-in_err-push
returns-in_err-push g c = record {
  draft = record {
    few = omega (arith, c.leave_out.ensures.taken, c.requires.draft.few);
    inside = c.leave_out.ensures.inside c.args.task.now.ask.site.bounds.length c.requires.draft.inside;
  };
}
