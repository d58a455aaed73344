-- The group of what an order asks is one of the image's.
use Rattle.std.proofs.Common.{◌≡◌, ℕ, ◌+◌, ◌<◌, refl, sym, subst, arith}
use Rattle.std.proofs.lemmas.Bool.{leb-false}
use Rattle.std.specs.Prelude.{Bool, true, false, Option, Some, None, nat_le}
use Rattle.core_calls.specs.declared.answers.Answer.{Answer}
use Rattle.core_calls.specs.declared.answers.Phase.{Phase}
use Rattle.core_calls.specs.declared.answers.ScrubFault.{ScrubFault}
use Rattle.core_calls.specs.declared.asks.Ask.{Ask}
use Rattle.fs_model.specs.declared.unit.Unit.{Unit as ScrubUnit}
use Rattle.fs_model.specs.declared.unit.Unit.TheVariants as units
use Rattle.fsck_core.specs.Asks.{MayAsk}
use Rattle.quiet_repair.specs.Sessions.{IsInside}
use Rattle.scrub_order.specs.Orders.{ask_at, ask_in, moved_by, next_of, next_unit, opened_by, took_in}
use Rattle.scrub_order.specs.Table.{found}
use Rattle.scrub_order.specs.declared.at.At.{At}
use Rattle.scrub_order.specs.declared.at.At.TheVariants as ats
use Rattle.scrub_order.specs.declared.at.Move.{Move}
use Rattle.scrub_order.specs.declared.at.Move.TheVariants as moves
use Rattle.scrub_order.specs.declared.order.Order.{Order}

some_same : {X : Type 0} (x y : X) → Some x ≡ Some y → x ≡ y
some_same x y is = cc

none_some : {X : Type 0} (x : X) → None ≡ Some x → ⊥
none_some x is = cc

-- ---- what is asked

asked_at : (n : ℕ) (at : At) (o : Order) (ask : Ask) → ask_at at o ≡ Some ask → o.group < n → MayAsk n ask
asked_at n ats.Start o ask is lt = subst (MayAsk n) (some_same _ ask is) lt
asked_at n ats.Advance o ask is lt = subst (MayAsk n) (some_same _ ask is) lt
asked_at n ats.Scan o ask is lt = subst (MayAsk n) (some_same _ ask is) lt
asked_at n ats.Close o ask is lt = subst (MayAsk n) (some_same _ ask is) lt
asked_at n ats.Gather o ask is lt = subst (MayAsk n) (some_same _ ask is) lt
asked_at n ats.Compare o ask is lt = subst (MayAsk n) (some_same _ ask is) lt
asked_at n ats.Reserve o ask is lt = subst (MayAsk n) (some_same _ ask is) lt
asked_at n ats.Stage o ask is lt = subst (MayAsk n) (some_same _ ask is) lt
asked_at n ats.Switch o ask is lt = subst (MayAsk n) (some_same _ ask is) lt
asked_at n ats.Reap o ask is lt = subst (MayAsk n) (some_same _ ask is) lt
asked_at n ats.ReapOnce o ask is lt = subst (MayAsk n) (some_same _ ask is) lt
asked_at n ats.Reopen o ask is lt = subst (MayAsk n) (some_same _ ask is) lt
asked_at n ats.Over o ask is lt = absurd (none_some ask is)

pub asked_inside : (n : ℕ) (o : Order) (ask : Ask) → Some ask ≡ ask_in o → IsInside n o → MayAsk n ask
asked_inside n o ask is i = asked_at n o.at o ask (sym is) i.group

-- ---- what an answer makes of the group

above : (m n g : ℕ) → m ≡ n → nat_le m (g + 1) ≡ false → g + 1 < n
above m n g same h = let lt : g + 1 < m = leb-false m (g + 1) h in omega arith

next_inside : (n : ℕ) (b : Bool) (u : ScrubUnit) (o : Order) → nat_le o.groups (o.group + 1) ≡ b → IsInside n o → IsInside n (next_of b u o)
next_inside n true units.Inode o is i = let lt : o.group < n = i.group in record { groups = i.groups; group = omega arith }
next_inside n false units.Inode o is i = record { groups = i.groups; group = above o.groups n o.group i.groups is }
next_inside n true units.Rmap o is i = let lt : o.group < n = i.group in record { groups = i.groups; group = omega arith }
next_inside n false units.Rmap o is i = record { groups = i.groups; group = above o.groups n o.group i.groups is }
next_inside n true units.Free o is i = record { groups = i.groups; group = i.group }
next_inside n false units.Free o is i = record { groups = i.groups; group = i.group }
next_inside n true units.Refc o is i = record { groups = i.groups; group = i.group }
next_inside n false units.Refc o is i = record { groups = i.groups; group = above o.groups n o.group i.groups is }

unit_inside : (n : ℕ) (o : Order) → IsInside n o → IsInside n (next_unit o)
unit_inside n o i = next_inside n (nat_le o.groups (o.group + 1)) o.unit o refl i

opened_inside : (n : ℕ) (x : Option ScrubFault) (o : Order) → IsInside n o → IsInside n (opened_by x o)
opened_inside n None o i = unit_inside n o i
opened_inside n (Some f) o i = record { groups = i.groups; group = i.group }

move_inside : (n : ℕ) (m : Move) (o : Order) → IsInside n o → IsInside n (moved_by m o)
move_inside n (moves.To at) o i = record { groups = i.groups; group = i.group }
move_inside n (moves.Judged at) o i = record { groups = i.groups; group = i.group }
move_inside n moves.Passed o i = unit_inside n (record o { is_judged = true }) (record { groups = i.groups; group = i.group })
move_inside n (moves.Stopped f) o i = record { groups = i.groups; group = i.group }
move_inside n moves.Reopened o i = opened_inside n o.stop o i

pub took_inside : (n : ℕ) (o : Order) (a : Answer) (p : Phase) → IsInside n o → IsInside n (took_in o a p)
took_inside n o a p i = move_inside n (found o.unit o.at a p) o i
