use Rattle.std.proofs.Common.{◌≡◌, ap, sym, subst, ◌∙◌}
use Rattle.fork_change.specs.Lists.{AllFit, Fits, added, with_after, with_before}
use Rattle.fork_change.proofs.ListLemmas.{added_is, added_fits}
use Rattle.fork_change.proofs.lists.added.Goals as goal

pub returns-clause-value : goal.returns-clause-value
returns-clause-value c = added_is c.args.geo.now.agblklog c.args.m.now c.args.list.now _ _ _ _ c.with_before-grown.result c.with_after.result c.new-new.ensures.items c.with_before-grown.ensures.value c.with_after.ensures.value c.in_ok-push_side.ensures c.in_ok-push.ensures.items c.in_ok-push_side-2.ensures

pub returns-clause-fits : goal.returns-clause-fits
returns-clause-fits c =
    let l = c.args.geo.now.agblklog in
    let ms = c.args.list.now in
    let m = c.args.m.now in
    let value : c.push_side-2.new.new.items ≡ added l m ms = added_is l m ms _ _ _ _ c.with_before-grown.result c.with_after.result c.new-new.ensures.items c.with_before-grown.ensures.value c.with_after.ensures.value c.in_ok-push_side.ensures c.in_ok-push.ensures.items c.in_ok-push_side-2.ensures in
    let whole : c.with_after.result ≡ with_after l (with_before l m ms) ms = c.with_after.ensures.value ∙ ap (λ g. with_after l g ms) c.with_before-grown.ensures.value in
    subst AllFit (sym value) (added_fits l m ms c.requires.list (subst Fits whole c.with_after.ensures.fits))
