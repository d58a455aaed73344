-- What was read of a source, over plain texts and sheets.
use Rattle.std.proofs.Common.{◌≡◌, ◌≤◌, ◌+◌, ◌∙◌, ℕ, [], ◌++◌, Option, Some, None, Result, Err, refl, ap, sym, subst, length, take, arith}
use Rattle.std.proofs.lemmas.List.{length-append, append_assoc}
use Rattle.std.specs.Prelude.{IfSome}
use Rattle.blk_device.specs.Taken.{Gives, IsSpent}
use Rattle.script_defs.specs.Words.{Text}
use Rattle.script_defs.specs.Texts.{Sheet, read_from, at_end, blank, script_of}
use Rattle.script_defs.specs.declared.section.Script.{Script}
use Rattle.script_read.specs.declared.fault.ScriptFault.{ScriptFault}
use Rattle.script_read.specs.declared.fault.ScriptFault.TheVariants.{Wrong, Failed, Memory}
use Rattle.script_read.specs.Reading.{IsRead, IsReading, Puts, TakesUpTo}

at_first : (x : Option Text) → IsRead [] blank x x
at_first None = tt
at_first (Some all) = ([], refl, refl, refl)

pub begun : (x : Option Text) (s : Sheet) → s ≡ blank → IsRead [] s x x
begun x s e = subst (λ (t : Sheet). IsRead [] t x x) (sym e) (at_first x)

pub took : (piece : Text) (s : Sheet) (old mid new : Option Text) → IsRead [] s old mid → Gives piece mid new → IsRead piece s old new
took piece s None None None r g = tt
took piece s None None (Some new) r g = absurd g
took piece s None (Some mid) new r g = absurd r
took piece s (Some all) None new r g = absurd r
took piece s (Some all) (Some left) None r g = absurd g
took piece s (Some all) (Some left) (Some more) r g =
    (r.0 ++ piece, r.1 ∙ ap (λ (x : Text). r.0 ++ x) g ∙ sym (append_assoc r.0 piece more), omega (arith, length-append r.0 piece, r.2), r.3 ∙ ap (λ (x : Text). read_from x s) g)

pub was_put : (piece : Text) (s now : Sheet) (old new : Option Text) → IsRead piece s old new → ((more : Text) → read_from (piece ++ more) s ≡ read_from more now) → now.taken ≡ s.taken + length piece → IsRead [] now old new
was_put piece s now None None r h t = tt
was_put piece s now None (Some left) r h t = absurd r
was_put piece s now (Some all) None r h t = absurd r
was_put piece s now (Some all) (Some left) r h t = (r.0, r.1, omega (arith, r.2, t), r.3 ∙ h left)

pub by_wrong : (fault : ScriptFault) (piece : Text) (s now : Sheet) (old new : Option Text) → Puts {T = Unit {0}} (Err fault) piece s now → IsRead piece s old new → IfSome old (λ bytes. IsReading (Err fault) (script_of bytes))
unfolding script_of
by_wrong fault piece s now None new p r = tt
by_wrong fault piece s now (Some all) None p r = absurd r
by_wrong (Wrong n) piece s now (Some all) (Some left) p r = r.3 ∙ p.0 left
by_wrong Failed piece s now (Some all) (Some left) p r = tt
by_wrong Memory piece s now (Some all) (Some left) p r = tt

pub put_wrong : (answer : Result (Unit {0}) ScriptFault) (fault : ScriptFault) (piece : Text) (s now : Sheet) (old new : Option Text) → answer ≡ Err fault → Puts answer piece s now → IsRead piece s old new → IfSome old (λ bytes. IsReading (Err fault) (script_of bytes))
put_wrong answer fault piece s now old new e p r = by_wrong fault piece s now old new (subst (λ (a : Result (Unit {0}) ScriptFault). Puts a piece s now) e p) r

pub taken_up : (most : ℕ) (piece : Text) (s : Sheet) (old new : Option Text) → IsRead piece s old new → s.taken + length piece ≤ most → TakesUpTo most old new
taken_up most piece s None None r h = tt
taken_up most piece s None (Some left) r h = absurd r
taken_up most piece s (Some all) None r h = absurd r
taken_up most piece s (Some all) (Some left) r h = (r.0, r.1, omega (arith, r.2, h))

pub ended : (answer : Result Script ScriptFault) (piece : Text) (n : ℕ) (s : Sheet) (old new : Option Text) → IsRead (take n piece) s old new → n ≡ 0 → IsSpent new → IsReading answer (at_end s) → IfSome old (λ bytes. IsReading answer (script_of bytes))
unfolding script_of read_from
ended answer piece n s None new r e spent h = tt
ended answer piece n s (Some all) None r e spent h = absurd r
ended answer piece n s (Some all) (Some left) r e spent h =
    let none : take n piece ++ left ≡ left = ap (λ (i : ℕ). take i piece ++ left) e in
    subst (IsReading answer) (sym (r.3 ∙ ap (λ (x : Text). read_from x s) (none ∙ spent))) h

pub spent_on : (piece : Text) (n : ℕ) (old new : Option Text) → n ≡ 0 → Gives (take n piece) old new → IsSpent old → IsSpent new
spent_on piece n None None e g spent = tt
spent_on piece n None (Some new) e g spent = absurd g
spent_on piece n (Some old) None e g spent = absurd g
spent_on piece n (Some old) (Some new) e g spent = ap (λ (i : ℕ). take i piece ++ new) (sym e) ∙ sym g ∙ spent
