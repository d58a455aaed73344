use Rattle.std.proofs.Common.{◌≡◌, ◌<◌, ◌-◌, ℕ, false, Option, Some, None, refl, sym, subst, ◌∙◌, arith}
use Rattle.std.specs.Prelude.{IfSome, is_some}
use Rattle.std.proofs.lemmas.Bool.{true≢false}
use Rattle.intent_drain.specs.declared.holds.Holder.{Holder}
use Rattle.core_scan.proofs.Begun.{places_at, places_end}
use Rattle.core_scan.specs.Moves.{Places}
use Rattle.core_scan.proofs.scan.place.Goals as goal

pub returns-in_default-clause-moved : goal.returns-in_default-clause-moved
returns-in_default-clause-moved c =
    subst (λ (o : Option ℕ). Places c.args.scan.now o c.args.drain.now (record c.args.scan.now { cursor = 18446744073709551615 })) (sym c.in_default.is) (places_end c.args.scan.now c.args.drain.now 18446744073709551615 c.requires.free (omega arith))

pub returns-clause-moved : goal.returns-clause-moved
returns-clause-moved c =
    subst (λ (o : Option ℕ). Places c.args.scan.now o c.args.drain.now (record c.args.scan.now { cursor = c.in-Some.ino - 1; held = Some c.fresh_held.result })) (sym c.in-Some.is) (places_at c.args.scan.now c.args.drain.now c.in-Some.ino c.fresh_held.result c.requires.free (subst (λ (o : Option ℕ). IfSome o (λ ino. c.args.scan.now.cursor < ino)) c.in-Some.is c.requires.above) (sym c.holder.ensures ∙ none_is c.holder.result (sym c.is_some.ensures ∙ c.if-is_some.false)) c.fresh_held.ensures)
  where
    none_is : (o : Option Holder) → is_some o ≡ false → o ≡ None
    none_is None h = refl
    none_is (Some x) h = absurd (true≢false h)
