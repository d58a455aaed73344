use Rattle.std.proofs.Common.{arith, sym, subst}
use Rattle.place_apply.specs.Drafts.{ArePlacedInside}
use Rattle.place_apply.proofs.DraftLemmas.{put_inside}
use Rattle.place_apply.proofs.draft.put.Goals as goal

pub returns : goal.returns
returns g c =
    let len = c.args.task.now.ask.site.bounds.length in
    let others = c.leave_out.ensures.inside len c.requires.draft.inside in
    record {
      draft = record {
        few = omega (arith, c.leave_out.ensures.taken, c.requires.draft.few);
        inside = subst (ArePlacedInside len) (sym c.in_ok-push.ensures.items) (put_inside len c.leave_out.new.draft.placed.items c.args.p c.args.block c.requires.inside others);
      };
    }

pub returns-in_err-push : goal.returns-in_err-push
returns-in_err-push g c =
    let len = c.args.task.now.ask.site.bounds.length in
    let others = c.leave_out.ensures.inside len c.requires.draft.inside in
    record {
      draft = record {
        few = omega (arith, c.leave_out.ensures.taken, c.requires.draft.few);
        inside = subst (ArePlacedInside len) (sym c.in_err-push.ensures.items) others;
      };
    }
