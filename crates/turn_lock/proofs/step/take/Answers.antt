use Rattle.std.proofs.Common.{◌∷◌, sym, ap, ◌∙◌, Some}
use Rattle.atomic_table.specs.Table.{rest}
use Rattle.turn_lock.proofs.step.take.Goals as goal

pub exchange-requires : goal.exchange-requires
exchange-requires g c = let o = c.requires.out in (c.requires.same, (Some o.0, o.1 ∙ ap (λ r. (0, Some o.0) ∷ r) (sym (ap rest o.1))))
