-- One byte more, over plain sheets.
use Rattle.std.proofs.Common.{◌≡◌, ◌≤◌, ◌∙◌, ℕ, true, false, [], ◌∷◌, Option, Some, None, Result, Ok, Err, refl, ap, sym, arith, eq-eqb}
use Rattle.std.specs.Prelude.{◌==◌}
use Rattle.script_defs.specs.Words.{Text}
use Rattle.script_defs.specs.Operations.{said_of}
use Rattle.script_defs.specs.Texts.{Sheet, put, is_past, with_said, with_byte, read_from, then_read}
use Rattle.script_read.specs.declared.fault.ScriptFault.{ScriptFault}
use Rattle.script_read.specs.declared.fault.ScriptFault.TheVariants.{Wrong, Failed, Memory}
use Rattle.script_read.specs.Reading.{Steps, Puts}

pub put_feed : (b : ℕ) (s : Sheet) → b ≡ 10 → is_past s ≡ false → put b s ≡ with_said s (said_of s.text)
unfolding put
put_feed b s e past = rw (past, eq-eqb b 10 e) refl

pub put_other : (b : ℕ) (s : Sheet) → (b == 10) ≡ false → is_past s ≡ false → put b s ≡ Some (with_byte b s)
unfolding put
put_other b s e past = rw (past, e) refl

pub put_past : (b : ℕ) (s : Sheet) → is_past s ≡ true → put b s ≡ None
unfolding put
put_past b s past = rw past refl

-- reading goes on by what was put
pub read_by : (b : ℕ) (more : Text) (s : Sheet) (found : Option Sheet) → put b s ≡ found → read_from (b ∷ more) s ≡ then_read s.number (read_from more) found
unfolding read_from
read_by b more s found e = ap (then_read s.number (read_from more)) e

pub steps_put : {T : Type 0} (r : Result T ScriptFault) (b : ℕ) (s now : Sheet) (found : Option Sheet) → put b s ≡ found → Steps r found s.number now → 1 ≤ s.number → s.number ≤ 65537 → Puts r (b ∷ []) s now
steps_put (Ok answer) b s now found e step first last = λ more. read_by b more s (Some now) (e ∙ step)
steps_put (Err (Wrong n)) b s now found e step first last = ((λ more. read_by b more s None (e ∙ step.0) ∙ ap Err (sym step.1)), omega (arith, step.1, first), omega (arith, step.1, last))
steps_put (Err Failed) b s now found e step first last = absurd step
steps_put (Err Memory) b s now found e step first last = tt
