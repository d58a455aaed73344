use Rattle.std.proofs.Common.{◌++◌, refl, sym, ap, ◌∙◌, subst}
use Rattle.std.specs.Prelude.{slice_index}
use Rattle.turn_lock.specs.Lists.{Has, actors_of}
use Rattle.turn_lock.proofs.Actors.{actors_kept}
use Rattle.test_lock.proofs.passes.note.Goals as goal

pub turn-requires-clause-lawful : goal.turn-requires-clause-lawful
turn-requires-clause-lawful g c x y r fits ret =
    let m = ret.met in
    let speaks = c.requires.speaks in
    let kept = c.args.pass.now.seat.me.0.kept in
    record {
      longer = (m.0.0, ap (λ z. z.entries.items ++ m.0.0) (sym ret.shows) ∙ (m.0.1 ∙ ap (λ z. z.entries.items) ret.leaves));
      same = ap (λ z. z.name) (sym ret.leaves) ∙ (m.1.1 ∙ ap (λ z. z.name) ret.shows);
      others = λ a none. ap (λ z. slice_index z.counts a) (sym ret.leaves) ∙ (m.1.0 a (λ e. none speaks.0 (subst (λ b. Has kept b speaks.0) (sym e) speaks.1)) ∙ ap (λ z. slice_index z.counts a) ret.shows);
    }

pub returns-clause-actors : goal.returns-clause-actors
returns-clause-actors g c = let t = c.turn.ensures.turned.3 in ap (λ v. actors_of v.kept) t.view ∙ actors_kept _ (λ p. refl) c.args.pass.now.seat.me.0.kept
