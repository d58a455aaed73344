use Rattle.std.proofs.Common.{◌++◌, refl, sym, ap, ◌∙◌}
use Rattle.bench_lock.proofs.passes.note.Goals as goal

pub turn-requires-clause-lawful : goal.turn-requires-clause-lawful
turn-requires-clause-lawful g c x y r fits ret =
    let m = ret.met in
    record {
      longer = (m.0, ap (λ z. z.entries.items ++ m.0) (sym ret.shows) ∙ (m.1 ∙ ap (λ z. z.entries.items) ret.leaves));
      same = refl;
      others = λ a none. refl;
    }
